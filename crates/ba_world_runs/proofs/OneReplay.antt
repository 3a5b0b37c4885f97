-- Each node of a run is the one replay of its records; for the law that each world of a run is its records.
use Rattle.std.proofs.Common.{◌≡◌, ℕ, Bool, true, false, List, [], ◌∷◌, ◌++◌, Option, None, Some, refl, sym, ap, ◌∙◌, subst}
use Rattle.std.specs.Option.{option_to_list}
use Rattle.std.proofs.lemmas.List.{append-nil}
use Rattle.ba_record.specs.declared.records.Record.{Record}
use Rattle.ba_record.specs.declared.records.Record.TheVariants as journal
use Rattle.ba_node_steps.specs.Fits.{NodeFits}
use Rattle.ba_node_steps.specs.Lawful.{Event, IsStepOf, LeadsTo, Replays, change, formatted, given, ticked}
use Rattle.ba_node_steps.specs.Node.{NodeState, new_node}
use Rattle.ba_node_steps.proofs.Enacted.{some_is}
use Rattle.ba_node_steps.proofs.Reenacted.{after_of}
use Rattle.ba_node_steps.proofs.Unchanged.{unchanged}
use Rattle.ba_world_runs.specs.Runs.{IsFirstWorld, IsRun, goes_on, node_at_start, starts}
use Rattle.ba_world_runs.specs.Safety.{IsItsRecords}
use Rattle.ba_world_runs.specs.World.{formats, Mode, Occasion, World, WorldNode, delivers, own, ticks}
use Rattle.ba_world_runs.specs.WorldSteps.{Stays, Takes, WorldStep, crashes, effect, fails, fails_to_open, happens, nothing, opens_with}
use Rattle.ba_world_runs.specs.WorldSteps.{opens_without, waits}
use Rattle.ba_world_runs.proofs.Recorded.{at_or_other, run_keeps}

-- ---- the last step of a list

last_to : (n : NodeState) (records : List Record) (r : Record) (after : NodeState) → LeadsTo n (records ++ r ∷ []) after
    → (m : NodeState) × LeadsTo n records m × IsStepOf m r after
last_to n [] r after leads = (n, refl, subst (λ (x : NodeState). IsStepOf n r x) leads.2 leads.1)
last_to n (k ∷ more) r after leads =
    let rest = last_to leads.0 more r after leads.2 in (rest.0, (leads.0, leads.1, rest.1), rest.2)

last_step : (records : List Record) (n : NodeState) (r : Record) (after : NodeState) → Replays records n
    → Replays (records ++ r ∷ []) after → (m : NodeState) × Replays records m × IsStepOf m r after
last_step [] n r after known replays = absurd known
last_step (journal.Node number base ∷ more) n r after known replays = last_to (new_node number base) more r after replays
last_step (k ∷ more) n r after known replays = absurd known

-- ---- a node that is the one replay of its records stays so

abbrev pub IsOnly : List Record → NodeState → Type 0
IsOnly records n = (m : NodeState) → Replays records m → m ≡ n

only_goes_on : (records : List Record) (n : NodeState) (e : Event) → NodeFits n → Replays records n → IsOnly records n
    → IsOnly (records ++ option_to_list (change n e).written) (change n e).after
only_goes_on records n e fits replays only = by_written (change n e).written refl
  where
    by_written : (o : Option Record) → (change n e).written ≡ o → IsOnly (records ++ option_to_list o) (change n e).after
    by_written None none m to_m =
        only m (subst (λ (rs : List Record). Replays rs m) (append-nil records) to_m) ∙ sym (unchanged n e none)
    by_written (Some r) is m to_m =
        let last = last_step records n r m replays to_m in
        let step : IsStepOf n r m = subst (λ (x : NodeState). IsStepOf x r m) (only last.0 last.1) last.2 in
        let its : IsStepOf n r (change n e).after = record { event = e; keeps = is; leads = refl } in
        some_is m (change n e).after (sym (after_of n r m fits step) ∙ after_of n r (change n e).after fits its)

pub only_after : (records : List Record) (n : NodeState) (o : Occasion) → NodeFits n → Replays records n → IsOnly records n
    → IsOnly (records ++ option_to_list (effect n o).written) (effect n o).after
only_after records n (own now i) = only_goes_on records n (given now i)
only_after records n (delivers now mail i) = only_goes_on records n (given now i)
only_after records n (ticks now id) = only_goes_on records n (ticked now id)
only_after records n formats = only_goes_on records n formatted

-- ---- the nodes of a world

abbrev IsOneReplay : WorldNode → Type 0
IsOneReplay n = IsOnly n.records n.state

taken : (w w2 : World) (k : ℕ) (o : Occasion) (joined : Bool) → Takes w w2 k o joined → IsItsRecords w
    → ((j : ℕ) → IsOneReplay (w.nodes j)) → (j : ℕ) → IsOneReplay (w2.nodes j)
taken w w2 k o joined takes is one = at_or_other (λ j. IsOneReplay (w2.nodes j)) k here
    (λ j other. subst IsOneReplay (sym (takes.only.others j other)) (one j))
  where
    here : IsOneReplay (w2.nodes k)
    here m to_m =
        only_after (w.nodes k).records (w.nodes k).state o (is.nodes k).fits (is.replays k) (one k) m
        (subst (λ (records : List Record). Replays records m) takes.records to_m)
        ∙ sym takes.moves.state

stayed : (w w2 : World) (k : ℕ) (pending : Option Occasion) (mode : Mode) → Stays w w2 k pending mode
    → ((j : ℕ) → IsOneReplay (w.nodes j)) → (j : ℕ) → IsOneReplay (w2.nodes j)
stayed w w2 k pending mode stays one = at_or_other (λ j. IsOneReplay (w2.nodes j)) k
    (subst IsOneReplay (sym stays.node) (one k))
    (λ j other. subst IsOneReplay (sym (stays.only.others j other)) (one j))

same_nodes : (w w2 : World) → w2.nodes ≡ w.nodes → ((j : ℕ) → IsOneReplay (w.nodes j)) → (j : ℕ) → IsOneReplay (w2.nodes j)
same_nodes w w2 same one j = subst (λ (nodes : ℕ → WorldNode). IsOneReplay (nodes j)) (sym same) (one j)

step_one : (w w2 : World) → WorldStep w w2 → IsItsRecords w → ((j : ℕ) → IsOneReplay (w.nodes j)) → (j : ℕ) → IsOneReplay (w2.nodes j)
step_one w w2 (happens k o up takes) is one = taken w w2 k o true takes is one
step_one w w2 (fails k o mode up is_mode may stays) is one = stayed w w2 k _ _ stays one
step_one w w2 (nothing same) is one = same_nodes w w2 (ap (λ (x : World). x.nodes) same) one
step_one w w2 (crashes k stays) is one = stayed w w2 k _ _ stays one
step_one w w2 (opens_without k stays) is one = stayed w w2 k _ _ stays one
step_one w w2 (opens_with k o pending takes) is one = taken w w2 k o false takes is one
step_one w w2 (fails_to_open k stays) is one = stayed w w2 k _ _ stays one
step_one w w2 (waits ms same) is one = same_nodes w w2 (ap (λ (x : World). x.nodes) same) one

start_one : (w : World) → IsFirstWorld w → (j : ℕ) → IsOneReplay (w.nodes j)
start_one w start j = subst IsOneReplay (sym (start.nodes j)) new_only
  where
    new_only : IsOneReplay (node_at_start j (start.base j))
    new_only m to_m = sym to_m

pub run_one : (w : World) (before : List World) → IsRun (w ∷ before) → (k : ℕ) (n : NodeState) → Replays (w.nodes k).records n
    → n ≡ (w.nodes k).state
run_one w before (starts start) = start_one w start
run_one w before (goes_on run step) = step_one _ w step (run_keeps _ _ run) (run_one _ _ run)

-- A lawful list of records has one replay, which fits, and goes on with the record of each step; for the laws replays_go_on
-- and a_lawful_list_has_one_replay.
use Rattle.std.proofs.Common.{◌∙◌, ℕ, ◌+◌, ◌*◌, ◌<◌, ◌^◌, arith, length, is_some, true, ◌≡◌, List, [], ◌∷◌, ◌++◌, Option, None, Some, refl}
use Rattle.std.proofs.Common.{sym, ap, subst, true≢false}
use Rattle.std.specs.List.{AllByRecursion}
use Rattle.std.specs.Option.{option_to_list}
use Rattle.ba_record.specs.Coding.{InRange}
use Rattle.ba_record.specs.declared.records.Record.{Record}
use Rattle.ba_record.specs.declared.records.Record.TheVariants as journal
use Rattle.ba_node_steps.specs.Fits.{HasSpareCounters, NodeFits}
use Rattle.ba_node_steps.specs.Lawful.{AreFew, AreLawful, Event, IsStepOf, LeadsTo, Replays, after_record, change}
use Rattle.ba_node_steps.specs.Node.{NodeState, SameNode, last, new_node}
use Rattle.ba_node_steps.proofs.Enacted.{some_is, step_of}
use Rattle.ba_node_steps.proofs.NodeKept.{Follows}
use Rattle.ba_node_steps.proofs.Reenacted.{after_of}
use Rattle.ba_node_steps.proofs.SameNode.{step_keeps}
use Rattle.ba_node_steps.proofs.StepsFit.{new_fits, step_follows}
use Rattle.ba_node_steps.proofs.Unchanged.{unchanged}

leads_on : (n : NodeState) (records : List Record) (m : NodeState) (r : Record) (after : NodeState) → LeadsTo n records m
    → IsStepOf m r after
    → LeadsTo n (records ++ r ∷ []) after
leads_on n [] m r after is step = (after, subst (λ (x : NodeState). IsStepOf x r after) (sym is) step, refl)
leads_on n (k ∷ more) m r after leads step = (leads.0, leads.1, leads_on leads.0 more m r after leads.2 step)

with_record : (records : List Record) (n : NodeState) (r : Record) (after : NodeState) → Replays records n → IsStepOf n r after
    → Replays (records ++ r ∷ []) after
with_record [] n r after replays step = absurd replays
with_record (journal.Node number base ∷ more) n r after replays step = leads_on (new_node number base) more n r after replays step
with_record (k ∷ more) n r after replays step = absurd replays

append_nil : (records : List Record) → records ++ [] ≡ records
append_nil [] = refl
append_nil (r ∷ more) = ap (λ rs. r ∷ rs) (append_nil more)

pub goes_on : (records : List Record) (n : NodeState) (e : Event) → Replays records n
    → Replays (records ++ option_to_list (change n e).written) (change n e).after
goes_on records n e replays = by_written (change n e).written refl
  where
    by_written : (o : Option Record) → (change n e).written ≡ o → Replays (records ++ option_to_list o) (change n e).after
    by_written None none =
        subst (λ rs. Replays rs (change n e).after) (sym (append_nil records)) (subst (Replays records) (sym (unchanged n e none)) replays)
    by_written (Some r) is = with_record records n r (change n e).after replays (record { event = e; keeps = is; leads = refl })

-- ---- what each node on the way keeps

-- the node has counters left for the steps of these records
record HasLeft (n : NodeState) (records : List Record) : Type 0 where
  number : n.number < 2 ^ 32
  counters : last n + 2 * length records < 2 ^ 64
  fits : NodeFits n

has_spare : (n : NodeState) (r : Record) (more : List Record) → HasLeft n (r ∷ more) → HasSpareCounters n
has_spare n r more left = let counters = left.counters in record { number = left.number; counters = omega (arith, counters) }

left_after : (n : NodeState) (r : Record) (more : List Record) (next : NodeState) → HasLeft n (r ∷ more) → IsStepOf n r next
    → HasLeft next more
left_after n r more next left step =
    let after : Follows n next = subst (Follows n) step.leads (step_follows n step.event (has_spare n r more left) left.fits) in
    let same : SameNode n next = subst (SameNode n) step.leads (step_keeps n step.event) in
    let number = same.number in
    let counters = left.counters in
    let few = after.few in
    record {
      number = subst (λ (k : ℕ). k < 2 ^ 32) (sym number) left.number;
      counters = omega (arith, counters, few);
      fits = after.fits;
    }

lead_fits : (n : NodeState) (records : List Record) (m : NodeState) → HasLeft n records → LeadsTo n records m → NodeFits m
lead_fits n [] m left is = subst NodeFits is left.fits
lead_fits n (r ∷ more) m left leads = lead_fits leads.0 more m (left_after n r more leads.0 left leads.1) leads.2

-- a step of a record leads to one node
one_step : (n : NodeState) (r : Record) (a b : NodeState) → NodeFits n → IsStepOf n r a → IsStepOf n r b → a ≡ b
one_step n r a b fits to_a to_b = some_is a b (sym (after_of n r a fits to_a) ∙ after_of n r b fits to_b)

lead_to_one : (n : NodeState) (records : List Record) (a b : NodeState) → HasLeft n records → LeadsTo n records a → LeadsTo n records b
    → a ≡ b
lead_to_one n [] a b left to_a to_b = sym to_a ∙ to_b
lead_to_one n (r ∷ more) a b left to_a to_b =
    let same : to_b.0 ≡ to_a.0 = one_step n r to_b.0 to_a.0 left.fits to_b.1 to_a.1 in
    lead_to_one to_a.0 more a b (left_after n r more to_a.0 left to_a.1) to_a.2 (subst (λ (x : NodeState). LeadsTo x more b) same to_b.2)

begins_left : (number : ℕ) (base : List ℕ) (more : List Record) → InRange (journal.Node number base)
    → AreFew (journal.Node number base ∷ more)
    → HasLeft (new_node number base) more
begins_left number base more range few =
    record { number = range.0.1; counters = omega (arith, few); fits = new_fits number base }

pub replay_fits : (records : List Record) (n : NodeState) → AllByRecursion InRange records → AreFew records → Replays records n → NodeFits n
replay_fits [] n ranges few replays = absurd replays
replay_fits (journal.Node number base ∷ more) n ranges few replays =
    lead_fits (new_node number base) more n (begins_left number base more ranges.0 few) replays
replay_fits (k ∷ more) n ranges few replays = absurd replays

pub one_replay : (records : List Record) (a b : NodeState) → AllByRecursion InRange records → AreFew records → Replays records a
    → Replays records b
    → a ≡ b
one_replay [] a b ranges few to_a to_b = absurd to_a
one_replay (journal.Node number base ∷ more) a b ranges few to_a to_b =
    lead_to_one (new_node number base) more a b (begins_left number base more ranges.0 few) to_a to_b
one_replay (k ∷ more) a b ranges few to_a to_b = absurd to_a

-- ---- whether a list goes on

-- the last step of a list
record LastStep (n : NodeState) (records : List Record) (r : Record) (after : NodeState) : Type 0 where
  before : NodeState
  leads : LeadsTo n records before
  step : IsStepOf before r after

last_step : (n : NodeState) (records : List Record) (r : Record) (after : NodeState) → LeadsTo n (records ++ r ∷ []) after
    → LastStep n records r after
last_step n [] r after leads =
    record { before = n; leads = refl; step = subst (λ (x : NodeState). IsStepOf n r x) leads.2 leads.1 }
last_step n (k ∷ more) r after leads =
    let rest = last_step leads.0 more r after leads.2 in
    record { before = rest.before; leads = (leads.0, leads.1, rest.leads); step = rest.step }

pub lawful_goes_on : (records : List Record) (n : NodeState) (r : Record) → AllByRecursion InRange records → AreFew records
    → Replays records n
    → InRange r → is_some (after_record n r) ≡ true → AreLawful (records ++ r ∷ [])
lawful_goes_on records n r ranges few replays range some = by_node (after_record n r) refl some
  where
    by_node : (o : Option NodeState) → after_record n r ≡ o → is_some o ≡ true → AreLawful (records ++ r ∷ [])
    by_node None is h = absurd (true≢false (sym h))
    by_node (Some m) is h =
        (m, with_record records n r m replays (step_of n r m range (replay_fits records n ranges few replays) is))

pub lawful_went_on : (records : List Record) (n : NodeState) (r : Record) → AllByRecursion InRange records → AreFew records
    → Replays records n
    → AreLawful (records ++ r ∷ []) → is_some (after_record n r) ≡ true
lawful_went_on [] n r ranges few replays lawful = absurd replays
lawful_went_on (journal.Node number base ∷ more) n r ranges few replays lawful =
    let start : NodeState = new_node number base in
    let left = begins_left number base more ranges.0 few in
    let end = last_step start more r lawful.0 lawful.1 in
    let same : end.before ≡ n = lead_to_one start more end.before n left end.leads replays in
    let step : IsStepOf n r lawful.0 = subst (λ (x : NodeState). IsStepOf x r lawful.0) same end.step in
    ap is_some (after_of n r lawful.0 (lead_fits start more n left replays) step)
lawful_went_on (k ∷ more) n r ranges few replays lawful = absurd replays

-- Each step of a world keeps that it is its records, and each run begins so; for the law that each world of a run is its records.
use Rattle.std.proofs.Common.{◌≡◌, ◌≢◌, inl, inr, ℕ, Bool, List, ◌∷◌, Option, None, Some, IfSome, refl, sym, ap, subst}
use Rattle.std.specs.List.{IsDistinct}
use Rattle.std.proofs.lemmas.Bool.Decides.{eqb_tells}
use Rattle.ba_record.specs.declared.records.Record.{Record}
use Rattle.ba_node_steps.specs.Fits.{NodeFits}
use Rattle.ba_node_steps.specs.Lawful.{Replays}
use Rattle.ba_node_steps.specs.Node.{new_node}
use Rattle.ba_world_runs.specs.Runs.{IsRun, IsFirstWorld, goes_on, starts}
use Rattle.ba_world_runs.specs.Safety.{FitsAt, IsItsRecords}
use Rattle.ba_world_runs.specs.World.{Mode, Occasion, World, WorldNode, net_of}
use Rattle.ba_world_runs.specs.WorldSteps.{MayStillBeTaken, Stays, Takes, WorldStep, crashes, fails, fails_to_open, happens, nothing, opens_with}
use Rattle.ba_world_runs.specs.WorldSteps.{opens_without, waits}
use Rattle.ba_world_runs.proofs.Nets.{stays_net}
use Rattle.ba_world_runs.proofs.RunLemmas.{Grows, grows_same, moved_fits, moved_grows, pending_stays, replay_goes_on}

-- by the number of a node
pub at_or_other : (P : ℕ → Type 0) (k : ℕ) → P k → ((j : ℕ) → j ≢ k → P j) → (j : ℕ) → P j
at_or_other P k here other j = elim (eqb_tells j k) [
  | inl same ↦ subst P (sym same.1) here
  | inr apart ↦ other j apart.1
]

abbrev IsReplay : WorldNode → Type 0
IsReplay n = Replays n.records n.state

-- what is pending at a node that stays as it is, in a world that grows
other_pending : (w w2 : World) → Grows (net_of w) (net_of w2) → (j : ℕ) → w2.nodes j ≡ w.nodes j
    → IfSome (w.nodes j).pending (MayStillBeTaken w j) → IfSome (w2.nodes j).pending (MayStillBeTaken w2 j)
other_pending w w2 grows j same is =
    subst (λ (o : Option Occasion). IfSome o (MayStillBeTaken w2 j)) (sym (ap (λ (n : WorldNode). n.pending) same))
    (pending_stays w w2 grows j (ap (λ (n : WorldNode). n.state) same) (w.nodes j).pending is)

taken : (w w2 : World) (k : ℕ) (o : Occasion) (joined : Bool) → Takes w w2 k o joined → IsItsRecords w → IsItsRecords w2
taken w w2 k o joined takes is =
    let moves = takes.moves in
    let grows = moved_grows (net_of w) (net_of w2) k o joined moves is.nodes in
    record {
      nodes = moved_fits (net_of w) (net_of w2) k o joined moves is.nodes;
      replays = at_or_other (λ j. IsReplay (w2.nodes j)) k
          (subst (λ (records : List Record). Replays records (w2.nodes k).state) (sym takes.records)
          (subst (Replays _) (sym moves.state) (replay_goes_on (w.nodes k).records (w.nodes k).state o (is.replays k))))
          (λ j other. subst IsReplay (sym (takes.only.others j other)) (is.replays j));
      pending = at_or_other (λ j. IfSome (w2.nodes j).pending (MayStillBeTaken w2 j)) k
          (subst (λ (p : Option Occasion). IfSome p (MayStillBeTaken w2 k)) (sym takes.pending) tt)
          (λ j other. other_pending w w2 grows j (takes.only.others j other) (is.pending j));
    }

-- a step that changes no net
stayed : (w w2 : World) (k : ℕ) (pending : Option Occasion) (mode : Mode) → Stays w w2 k pending mode
    → IfSome pending (MayStillBeTaken w k) → IsItsRecords w → IsItsRecords w2
stayed w w2 k pending mode stays may is =
    let net : net_of w ≡ net_of w2 = stays_net w w2 k pending mode stays in
    let grows : Grows (net_of w) (net_of w2) = subst (Grows (net_of w)) net (grows_same (net_of w)) in
    record {
      nodes = λ j. subst (λ x. FitsAt x j) net (is.nodes j);
      replays = at_or_other (λ j. IsReplay (w2.nodes j)) k
          (subst IsReplay (sym stays.node) (is.replays k))
          (λ j other. subst IsReplay (sym (stays.only.others j other)) (is.replays j));
      pending = at_or_other (λ j. IfSome (w2.nodes j).pending (MayStillBeTaken w2 j)) k
          (subst (λ (n : WorldNode). IfSome n.pending (MayStillBeTaken w2 k)) (sym stays.node)
          (pending_stays w w2 grows k (ap (λ (n : WorldNode). n.state) stays.node) pending may))
          (λ j other. other_pending w w2 grows j (stays.only.others j other) (is.pending j));
    }

waited : (w : World) (clock : ℕ) → IsItsRecords w → IsItsRecords (record w { clock = clock })
waited w clock is = record {
  nodes = is.nodes;
  replays = is.replays;
  pending = λ k. pending_stays w (record w { clock = clock }) (grows_same (net_of w)) k refl (w.nodes k).pending (is.pending k);
}

pub step_keeps : (w w2 : World) → WorldStep w w2 → IsItsRecords w → IsItsRecords w2
step_keeps w w2 (happens k o up takes) is = taken w w2 k o _ takes is
step_keeps w w2 (fails k o mode up is_mode may stays) is = stayed w w2 k (Some o) mode stays may is
step_keeps w w2 (nothing same) is = subst IsItsRecords (sym same) is
step_keeps w w2 (crashes k stays) is = stayed w w2 k _ _ stays (is.pending k) is
step_keeps w w2 (opens_without k stays) is = stayed w w2 k None _ stays tt is
step_keeps w w2 (opens_with k o pending takes) is = taken w w2 k o _ takes is
step_keeps w w2 (fails_to_open k stays) is = stayed w w2 k _ _ stays (is.pending k) is
step_keeps w w2 (waits ms same) is = subst IsItsRecords (sym same) (waited w _ is)

-- ---- runs

new_fits : (k : ℕ) (base : List ℕ) → NodeFits (new_node k base)
unfolding IsDistinct
new_fits k base = record { here = tt; apart = tt; whole = refl; scopes = tt; deadlines = tt; parts = tt }

pub start_is : (w : World) → IsFirstWorld w → IsItsRecords w
start_is w start = record {
  nodes = λ k. record {
    number = ap (λ (n : WorldNode). n.state.number) (start.nodes k);
    fits = subst (λ (n : WorldNode). NodeFits n.state) (sym (start.nodes k)) (new_fits k (start.base k));
  };
  replays = λ k. subst IsReplay (sym (start.nodes k)) refl;
  pending = λ k. subst (λ (n : WorldNode). IfSome n.pending (MayStillBeTaken w k)) (sym (start.nodes k)) tt;
}

pub run_keeps : (w : World) (before : List World) → IsRun (w ∷ before) → IsItsRecords w
run_keeps w before (starts start) = start_is w start
run_keeps w before (goes_on run step) = step_keeps _ w step (run_keeps _ _ run)

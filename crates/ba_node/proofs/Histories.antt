-- The records of a journal, enacted one after another.
use Rattle.std.proofs.Common.{◌≡◌, inr, ℕ, ◌+◌, ◌*◌, ◌<◌, ◌≤◌, ◌^◌, List, [], ◌∷◌, ◌++◌, length, take, slice_get, Option, None, Some, refl}
use Rattle.std.proofs.Common.{sym, ap, ◌∙◌, subst, arith, append_assoc, length-append}
use Rattle.std.proofs.Math.Seq.{take-append_seam, get_or-append_seam}
use Rattle.std.proofs.lemmas.List.{append-nil}
use Rattle.std.proofs.lemmas.Option.{slice_get_read}
use Rattle.std.specs.List.{AllByRecursion}
use Rattle.std.specs.Option.{option_to_list}
use Rattle.ba_node.specs.Loading.{BreaksAt, RefusesLoad}
use Rattle.ba_node.specs.declared.faults.LoadFault.TheVariants as fault
use Rattle.ba_node.specs.inside.Beginnings.{IsReplay}
use Rattle.ba_record.specs.Coding.{InRange}
use Rattle.ba_record.specs.declared.records.Record.{Record}
use Rattle.ba_record.specs.declared.records.Record.TheVariants as journal
use Rattle.ba_node_steps.specs.Endpoints.{AllReachable}
use Rattle.ba_node_steps.specs.Fits.{HasSpareCounters, NodeFits}
use Rattle.ba_node_steps.specs.Lawful.{AreFew, IsStepOf, Replays, after_record, change}
use Rattle.ba_node_steps.specs.Node.{NodeState, SameNode, last, new_node}
use Rattle.ba_node_steps.proofs.Enacted.{step_of}
use Rattle.ba_node_steps.proofs.FewObjects.{replay_last}
use Rattle.ba_node_steps.proofs.Members.{all_left, all_right}
use Rattle.ba_node_steps.proofs.RecordsGive.{after_reaches}
use Rattle.ba_node_steps.proofs.Replayed.{goes_on, replay_fits}
use Rattle.ba_node_steps.proofs.SameNode.{step_keeps}

-- the node's own record, and then all others
abbrev own : NodeState → Record
own start = journal.Node start.number start.base

-- so many records were enacted, and these are left
pub record Going (start : NodeState) (all rest : List Record) (place : ℕ) (n : NodeState) : Type 0 where
  pub before : List Record
  pub whole : all ≡ before ++ rest
  pub place_is : place ≡ length before
  pub replays : Replays (journal.Node start.number start.base ∷ before) n
  pub reachable : AllReachable n
  pub same : SameNode start n

pub going_begun : (start : NodeState) (all : List Record) → start ≡ new_node start.number start.base → Going start all all 0 start
going_begun start all new = record {
  before = [];
  whole = refl;
  place_is = refl;
  replays = sym new;
  reachable = subst (λ (n : NodeState). AllReachable n) (sym new) tt;
  same = record { number = refl; base = refl; version = refl };
}

module _ (start : NodeState) (all : List Record) (ranges : AllByRecursion InRange (journal.Node start.number start.base ∷ all))
    (few : AreFew (journal.Node start.number start.base ∷ all)) where
  parts_in_range : (before rest : List Record) → all ≡ before ++ rest → AllByRecursion InRange (before ++ rest)
  parts_in_range before rest whole = subst (AllByRecursion InRange) whole ranges.1

  before_in_range : (before rest : List Record) → all ≡ before ++ rest → AllByRecursion InRange (own start ∷ before)
  before_in_range before rest whole = (ranges.0, all_left InRange before rest (parts_in_range before rest whole))

  few_before : (before rest : List Record) → all ≡ before ++ rest → AreFew (own start ∷ before)
  few_before before rest whole = let long = ap length whole in omega (arith, long, length-append before rest, few)

  pub next_in_range : (r : Record) (more : List Record) (place : ℕ) (n : NodeState) → Going start all (r ∷ more) place n → InRange r
  next_in_range r more place n g = (all_right InRange g.before (r ∷ more) (parts_in_range g.before (r ∷ more) g.whole)).0

  pub next_spare : (r : Record) (more : List Record) (place : ℕ) (n : NodeState) → Going start all (r ∷ more) place n → HasSpareCounters n
  next_spare r more place n g =
      let long = ap length g.whole in
      let made : last n ≤ 2 * length (own start ∷ g.before) =
      replay_last (own start ∷ g.before) n (before_in_range g.before (r ∷ more) g.whole)
      (few_before g.before (r ∷ more) g.whole) g.replays in
      let range : InRange (own start) = ranges.0 in
      let same = g.same in
      record {
        number = subst (λ (k : ℕ). k < 2 ^ 32) (sym same.number) range.0.1;
        counters = omega (arith, long, made, few, length-append g.before (r ∷ more));
      }

  pub place_small : (rest : List Record) (place : ℕ) (n : NodeState) → Going start all rest place n → place + 1 < 2 ^ 64
  place_small rest place n g =
      let long = ap length g.whole in
      let here = g.place_is in
      omega (arith, long, here, few, length-append g.before rest)

  pub went_on : (r : Record) (more : List Record) (place : ℕ) (n m : NodeState) → Going start all (r ∷ more) place n
      → after_record n r ≡ Some m
      → Going start all more (place + 1) m
  went_on r more place n m g h =
      let range = next_in_range r more place n g in
      let fits : NodeFits n =
      replay_fits (own start ∷ g.before) n (before_in_range g.before (r ∷ more) g.whole)
      (few_before g.before (r ∷ more) g.whole) g.replays in
      let step : IsStepOf n r m = step_of n r m range fits h in
      let on : Replays ((own start ∷ g.before) ++ option_to_list (change n step.event).written) (change n step.event).after =
      goes_on (own start ∷ g.before) n step.event g.replays in
      let kept : Replays ((own start ∷ g.before) ++ r ∷ []) (change n step.event).after =
      subst (λ (o : Option Record). Replays ((own start ∷ g.before) ++ option_to_list o) (change n step.event).after) step.keeps on in
      let to : SameNode n m = subst (SameNode n) step.leads (step_keeps n step.event) in
      let same = g.same in
      let here = g.place_is in
      record {
        before = g.before ++ r ∷ [];
        whole = g.whole ∙ sym (append_assoc g.before (r ∷ []) more);
        place_is = omega (arith, here, length-append g.before (r ∷ []));
        replays = subst (λ (k : NodeState). Replays ((own start ∷ g.before) ++ r ∷ []) k) step.leads kept;
        reachable = after_reaches n r m range g.reachable h;
        same = record { number = to.number ∙ same.number; base = to.base ∙ same.base; version = to.version ∙ same.version };
      }

  pub broke_off : (r : Record) (more : List Record) (place : ℕ) (n : NodeState) → Going start all (r ∷ more) place n
      → after_record n r ≡ None
      → RefusesLoad start.number start.base (journal.Node start.number start.base ∷ all) (fault.BadHistory (place + 1))
  broke_off r more place n g none =
      let front : List Record = own start ∷ g.before in
      let list : own start ∷ all ≡ front ++ r ∷ more = ap (λ (rs : List Record). own start ∷ rs) g.whole in
      let here = g.place_is in
      let at : place + 1 ≡ length front = omega (arith, here) in
      let long : length (own start ∷ all) ≡ length front + (1 + length more) =
      omega (arith, ap length list, length-append front (r ∷ more)) in
      let taken : take (place + 1) (own start ∷ all) ≡ front =
      ap (λ (k : ℕ). take k (own start ∷ all)) at ∙ ap (take (length front)) list ∙ take-append_seam front (r ∷ more) in
      let got : slice_get (own start ∷ all) (place + 1) ≡ Some r =
      ap (slice_get (own start ∷ all)) at ∙ ap (λ (rs : List Record). slice_get rs (length front)) list
      ∙ slice_get_read (front ++ r ∷ more) (length (front ++ r ∷ more)) (length front) r refl
      (omega (arith, length-append front (r ∷ more))) (sym (get_or-append_seam front r more r)) in
      let broken : BreaksAt (own start ∷ all) (place + 1) = record {
        in_range = ranges;
        few = few;
        before = n;
        replays = subst (λ (rs : List Record). Replays rs n) (sym taken) g.replays;
        next = r;
        stands = got;
        no_step = none;
      } in inr (all, refl, broken)

  pub all_enacted : (place : ℕ) (n : NodeState) → Going start all [] place n
      → IsReplay start.number start.base (journal.Node start.number start.base ∷ all) n
  all_enacted place n g =
      let same = g.same in
      record {
        replays = subst (λ (rs : List Record). Replays (own start ∷ rs) n) (sym (g.whole ∙ append-nil g.before)) g.replays;
        reachable = g.reachable;
        number_is = same.number;
        base_is = same.base;
      }

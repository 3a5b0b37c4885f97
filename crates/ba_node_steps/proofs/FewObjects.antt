-- How many objects a replay has; for the law a_replay_has_few_objects.
use Rattle.std.proofs.Common.{ℕ, ◌+◌, ◌*◌, ◌<◌, ◌≤◌, ◌^◌, List, [], ◌∷◌, length, sym, subst, ap, arith}
use Rattle.std.specs.List.{AllByRecursion}
use Rattle.ba_record.specs.Coding.{InRange}
use Rattle.ba_record.specs.declared.records.Record.{Record}
use Rattle.ba_record.specs.declared.records.Record.TheVariants as journal
use Rattle.ba_node_steps.specs.Fits.{HasSpareCounters, NodeFits}
use Rattle.ba_node_steps.specs.Lawful.{AreFew, IsStepOf, LeadsTo, Replays}
use Rattle.ba_node_steps.specs.Node.{NodeState, SameNode, last, new_node}
use Rattle.ba_node_steps.proofs.NodeKept.{Follows}
use Rattle.ba_node_steps.proofs.SameNode.{step_keeps}
use Rattle.ba_node_steps.proofs.StepsFit.{new_fits, step_follows}

-- a node on the way has counters left for so many steps
record Goes (n : NodeState) (steps : ℕ) : Type 0 where
  number : n.number < 2 ^ 32
  counters : last n + 2 * steps < 2 ^ 64
  fits : NodeFits n

lead_last : (n : NodeState) (records : List Record) (m : NodeState) → Goes n (length records) → LeadsTo n records m
    → last m ≤ last n + 2 * length records
lead_last n [] m goes is = let same = ap last is in omega (arith, same)
lead_last n (r ∷ more) m goes leads =
    let next = leads.0 in
    let step : IsStepOf n r next = leads.1 in
    let counters = goes.counters in
    let spare : HasSpareCounters n = record { number = goes.number; counters = omega (arith, counters) } in
    let after : Follows n next = subst (Follows n) step.leads (step_follows n step.event spare goes.fits) in
    let same : SameNode n next = subst (SameNode n) step.leads (step_keeps n step.event) in
    let few = after.few in
    let on : Goes next (length more) = record {
      number = subst (λ (k : ℕ). k < 2 ^ 32) (sym same.number) goes.number;
      counters = omega (arith, counters, few);
      fits = after.fits;
    } in
    let rest : last m ≤ last next + 2 * length more = lead_last next more m on leads.2 in
    omega (arith, rest, few)

pub replay_last : (records : List Record) (n : NodeState) → AllByRecursion InRange records → AreFew records → Replays records n
    → last n ≤ 2 * length records
replay_last [] n ranges few replays = absurd replays
replay_last (journal.Node number base ∷ more) n ranges few replays =
    let range : InRange (journal.Node number base) = ranges.0 in
    let begun : Goes (new_node number base) (length more) =
    record { number = range.0.1; counters = omega (arith, few); fits = new_fits number base } in
    let made : last n ≤ last (new_node number base) + 2 * length more = lead_last (new_node number base) more n begun replays in
    omega (arith, made)
replay_last (k ∷ more) n ranges few replays = absurd replays

-- Believe: that a run recorded an outcome, which a participant told of its own accord: Fail, Exit or CannotComplete.
use Rattle.std.specs.Prelude.{◌≡◌, ◌≢◌, ℕ, Bool, List, ◌∷◌, Option, None, Some}
use Rattle.ba_core.specs.PartRows.{part_says}
use Rattle.ba_core.specs.declared.identifiers.Id.{Id}
use Rattle.ba_core.specs.declared.notices.Act.{Act}
use Rattle.ba_core.specs.declared.notices.Act.TheVariants as act
use Rattle.ba_core.specs.declared.notices.Notice.{Notice}
use Rattle.ba_core.specs.declared.notices.Notice.TheVariants as notice
use Rattle.ba_core.specs.declared.protocols.Side.TheVariants.{Coordinator}
use Rattle.ba_link.specs.Outcomes.{recorded_at}
use Rattle.ba_message.specs.declared.messages.Letter.{Letter}
use Rattle.ba_record.specs.declared.records.Record.{Record}
use Rattle.ba_record.specs.declared.records.Record.TheVariants as journal
use Rattle.ba_scope.specs.Rules.{part_at_tick}
use Rattle.ba_scope.specs.Scope.{ScopeState}
use Rattle.ba_scope_ends.specs.declared.parts.Part.{Part}
use Rattle.ba_node_steps.specs.declared.inputs.Input.TheVariants as input
use Rattle.ba_node_steps.specs.Node.{Among, EndPlace, NodeState, counter, end_place}
use Rattle.ba_world_runs.specs.World.{Occasion, World, delivers, letter}
use Rattle.ba_world_runs.specs.WorldSteps.{Takes, effect}

-- By the step from w to w2 this notice, which had been sent, was delivered to the end with this identifier, in a state whose row
-- leads to another state, and the record of that was kept.
pub record RecordsOutcome (w w2 : World) (k : ℕ) (id : Id) (n : Notice) : Type 0 where
  pub moment : ℕ
  pub sent : Letter
  pub joined : Bool
  pub takes : Takes w w2 k (delivers moment (letter sent) (input.Notice Coordinator id n)) joined
  pub place : EndPlace
  pub found : end_place (w.nodes k).state id ≡ Some place
  pub leads_on : recorded_at place.end.protocol place.end.state n ≡ Some n

-- a step of this run recorded it
pub data WasRecorded : List World → ℕ → Id → Notice → Type 0 where
  by_last_step : {w w2 : World} {before : List World} {k : ℕ} {id : Id} {n : Notice} → RecordsOutcome w w2 k id n
      → WasRecorded (w2 ∷ w ∷ before) k id n
  by_earlier_step : {w : World} {before : List World} {k : ℕ} {id : Id} {n : Notice} → WasRecorded before k id n
      → WasRecorded (w ∷ before) k id n

-- ---- what a participant did of its own accord, before it told that

-- the outcome that an act comes to
abbrev pub outcome_of : Act → Option Notice
outcome_of act.Fail = Some notice.Fail
outcome_of act.Exit = Some notice.Exit
outcome_of act.CannotComplete = Some notice.CannotComplete
outcome_of a = None

-- The record that a step of the node writes is that of the participant's act; or, where it is a child's own participant, whose scope
-- came to a failure, that of the tick by which it comes to say Fail.
pub data IsActed (n : NodeState) (written : Option Record) (id : Id) (x : Notice) : Type 0 where
  by_act : (a : Act) → outcome_of a ≡ Some x → written ≡ Some (journal.Acted (counter id) a) → IsActed n written id x
  by_tick : (s : ScopeState) (p : Part) → x ≡ notice.Fail → Among n.scopes s → s.up ≡ Some p → p.id ≡ id
      → part_says p.state ≢ Some x → part_says (part_at_tick s p).state ≡ Some x → written ≡ Some (journal.Ticked (counter id))
      → IsActed n written id x

-- by the step from w to w2 the participant with this identifier did so, and the record of that was kept
pub record RecordsAct (w w2 : World) (k : ℕ) (id : Id) (x : Notice) : Type 0 where
  pub occasion : Occasion
  pub joined : Bool
  pub takes : Takes w w2 k occasion joined
  pub acts : IsActed (w.nodes k).state (effect (w.nodes k).state occasion).written id x

-- by a step of this run it did so
pub data HasActed : List World → ℕ → Id → Notice → Type 0 where
  acted_last : {w w2 : World} {before : List World} {k : ℕ} {id : Id} {x : Notice} → RecordsAct w w2 k id x
      → HasActed (w2 ∷ w ∷ before) k id x
  acted_earlier : {w : World} {before : List World} {k : ℕ} {id : Id} {x : Notice} → HasActed before k id x
      → HasActed (w ∷ before) k id x

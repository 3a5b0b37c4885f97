-- Believe: what a call of one node makes of its place, by the play of the node on its disk.
use Rattle.ba_world_events.specs.declared.outcomes.Outcome.{Outcome}
use Rattle.ba_world_places.specs.Places.{Matches}
use Rattle.ba_world_places.specs.declared.calls.Answer.{Answer}
use Rattle.ba_world_places.specs.declared.places.Place.{Place}
use Rattle.ba_world_play.specs.Nodes.{NodeCall, NodeOnDisk}
use Rattle.ba_world_play.specs.Plays.{node_base}
use Rattle.ba_world_runs.specs.World.{WorldNode, Occasion, delivers, own}
use Rattle.ba_node_steps.specs.Fits.{NodeFits}
use Rattle.ba_node_steps.specs.Lawful.{Replays}
use Rattle.ba_node_steps.specs.Node.{NodeState}
use Rattle.ba_node_steps.specs.declared.inputs.Input.{Input}
use Rattle.std.specs.Prelude.{◌≡◌, ℕ, Option, None, Some}
use Rattle.ba_world_places.specs.declared.calls.Answer.TheVariants as answer

abbrev pub MatchesBoth : NodeOnDisk → Place → Type 0
MatchesBoth on_disk at = Matches on_disk.node on_disk.disk at

-- the node has this number and the base of a play, fits, and is the one replay of its records
pub record IsLawfulNode (k : ℕ) (n : WorldNode) : Type 0 where
  pub number : n.state.number ≡ k
  pub base : n.state.base ≡ node_base k
  pub fits : NodeFits n.state
  pub replays : Replays n.records n.state
  pub one : (m : NodeState) → Replays n.records m → m ≡ n.state

-- the occasion brings this input at this moment, by the node itself or by a delivery
abbrev pub IsOfInput : ℕ → Input → Occasion → Type 0
IsOfInput now i (own moment j) = (moment ≡ now) × (j ≡ i)
IsOfInput now i (delivers moment m j) = (moment ≡ now) × (j ≡ i)
IsOfInput now i o = ⊥

-- what a call answered: that of its step, where that was taken, or else what it shows
abbrev pub IsCallAnswer : {T : Type 0} → (T → Type 0) → Option Outcome → Answer T → Type 0
IsCallAnswer IsOfStep None (answer.Taken value) = IsOfStep value
IsCallAnswer IsOfStep (Some o) (answer.Untaken shown) = shown ≡ o
IsCallAnswer IsOfStep shown given = ⊥

-- the call led to this place, and answered so
pub record CallLeadsTo {T : Type 0} (IsOfStep : T → Type 0) (call : NodeCall) (at : Place) (given : Answer T) : Type 0 where
  pub after : MatchesBoth call.after at
  pub answer : IsCallAnswer IsOfStep call.shown given

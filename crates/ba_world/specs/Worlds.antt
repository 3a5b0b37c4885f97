-- Believe: a world of shipped nodes as contracts see it, and when it is that of a play: each node and each disk is the play's, and the
-- worlds so far are a run.
use Rattle.ba_world.specs.Mails.{mail_of}
use Rattle.ba_world.specs.declared.mails.Mail.{Mail}
use Rattle.ba_core.specs.Numbers.{node_of}
use Rattle.ba_core.specs.declared.identifiers.Id.{Id}
use Rattle.ba_world_events.specs.declared.outcomes.Outcome.{Outcome}
use Rattle.ba_ports_memory.specs.DiskValue.{DiskValue}
use Rattle.ba_world_places.specs.Places.{Matches}
use Rattle.ba_world_places.specs.declared.places.Place.{Place}
use Rattle.ba_world_play.specs.Plays.{EventEffect, WorldOnDisks, has_node}
use Rattle.ba_world_play.specs.Posting.{CanPost}
use Rattle.ba_world_play.specs.Shows.{numbers_from}
use Rattle.ba_world_runs.specs.Runs.{IsRun}
use Rattle.ba_world_runs.specs.World.{Mode, World, is_closed, is_down, is_up}
use Rattle.ba_node_steps.specs.Shown.{seen_at}
use Rattle.ba_node_steps.specs.declared.answers.Seen.{Seen}
use Rattle.ba_tree.specs.Lengths.{in_u64}
use Rattle.ba_world.specs.declared.faults.StepFault.{StepFault}
use Rattle.ba_world.specs.declared.faults.StepFault.TheVariants as fault
use Rattle.std.specs.List.{AllByRecursion}
use Rattle.std.specs.Prelude.{◌≡◌, ℕ, ◌+◌, ◌<◌, ◌^◌, Bool, true, false, ◌&&◌, List, ◌∷◌, length, map, slice_get, Option, None, Some, Result}
use Rattle.std.specs.Prelude.{Ok, Err, if◌then◌else◌}

-- the clock, in milliseconds and at most the greatest u64; all that was ever sent; and where each node is, in the order of their
-- numbers, from 1
pub record StageValue : Type 0 where
  pub clock : ℕ
  pub bag : List Mail
  pub places : List Place

-- once a call found no memory, it is spent, and isn't used again
pub record WorldValue : Type 0 where
  pub stage : StageValue
  pub spent : Bool

-- it has the play's clock, bag and nodes
pub record IsSetAs (v : StageValue) (p : WorldOnDisks) : Type 0 where
  pub count : p.count ≡ length v.places
  pub clock : v.clock ≡ in_u64 p.world.clock
  pub bag : map mail_of v.bag ≡ p.world.bag
  pub places : (k : ℕ) (at : Place) → slice_get v.places k ≡ Some at → Matches (p.world.nodes (k + 1)) (p.disks (k + 1)) at

-- the play's worlds so far are a run besides, and what was sent can be posted
pub record IsStageOf (v : StageValue) (p : WorldOnDisks) : Type 0 where
  pub set : IsSetAs v p
  pub before : List World
  pub run : IsRun (p.world ∷ before)
  pub posts : CanPost p.world
  pub few : p.count < 2 ^ 32

abbrev pub IsWorldOf : WorldValue → WorldOnDisks → Type 0
IsWorldOf v p = (v.spent ≡ false) × IsStageOf v.stage p

-- it is the world of some play, unless a call found no memory
abbrev pub IsPlayed : WorldValue → Type 0
IsPlayed v = v.spent ≡ false → (p : WorldOnDisks) × IsStageOf v.stage p

-- The event's effect is due, and this is the world after it; or it names what isn't there, and nothing has changed; or there was no
-- memory.
abbrev pub IsPlayedAs : EventEffect → WorldValue → WorldValue → Result Outcome StepFault → Type 0
IsPlayedAs (Ok e) old new (Ok o) = (o ≡ e.outcome) × IsWorldOf new e.after
IsPlayedAs (Err why) old new (Err (fault.Missing told)) = (told ≡ why) × (new ≡ old)
IsPlayedAs due old new (Err fault.Memory) = Unit {0}
IsPlayedAs due old new result = ⊥

abbrev pub is_running : Mode → Bool
is_running is_up = true
is_running is_closed = true
is_running is_down = false

-- the world has this node, and it isn't down
abbrev pub is_node_up : WorldOnDisks → ℕ → Bool
is_node_up p k = has_node p k && is_running (p.world.nodes k).mode

-- what the object with this identifier shows at its node, where that isn't down
abbrev pub seen_in : WorldOnDisks → Id → Option Seen
seen_in p id = if is_node_up p (node_of id.0) then seen_at (p.world.nodes (node_of id.0)).state id else None

-- the disks of the nodes in the order of their numbers are the play's: what they hold, and the counted calls, which they tell
pub record AreDisksOf (p : WorldOnDisks) (disks : List DiskValue) : Type 0 where
  pub mediums : map (λ (d : DiskValue). d.medium) disks ≡ map p.disks (numbers_from 1 p.count)
  pub told : AllByRecursion (λ (d : DiskValue). d.starved ≡ false) disks

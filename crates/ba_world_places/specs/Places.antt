-- Believe: where a node of a world is, and when that is as a play has it: the node and its disk are the play's, and whatever a stop may
-- leave of the disk now stands for the node's records, or for these with the one that is pending.
use Rattle.ba_core.specs.declared.identifiers.Id.{Id}
use Rattle.ba_core.specs.declared.protocols.Kind.{Kind}
use Rattle.ba_scope_ends.specs.Ends.{same_id}
use Rattle.ba_journal.specs.Journals.{IsSettled}
use Rattle.ba_ports_memory.specs.DiskValue.{DiskValue, MayBeLeft, MediumValue, bytes_of}
use Rattle.ba_node.specs.Nodes.{NodeOnJournal}
use Rattle.ba_world_places.specs.declared.places.KnownScope.{KnownScope}
use Rattle.ba_world_places.specs.declared.places.Place.{Place}
use Rattle.ba_world_play.specs.Disks.{HoldsNode}
use Rattle.ba_world_runs.specs.World.{Mode, WorldNode, is_closed, is_down, is_up}
use Rattle.ba_node_steps.specs.Fits.{HasSpareCounters}
use Rattle.ba_node_steps.specs.Node.{scope_with_id}
use Rattle.std.specs.Option.{option_map}
use Rattle.std.specs.Prelude.{◌≡◌, ℕ, false, if◌then◌else◌, List, [], ◌∷◌, Option, None, Some}
use Rattle.ba_world_places.specs.declared.places.Place.TheVariants as place

abbrev pub mode_of : Option ℕ → Mode
mode_of None = is_up
mode_of (Some count) = is_closed

-- the kind of the scope with this identifier among these
abbrev pub kind_among : List KnownScope → Id → Option Kind
kind_among [] id = None
kind_among (known ∷ more) id = if same_id known.id id then Some known.kind else kind_among more id

-- A node that is up, or whose disk has failed, has the state that its records lead to, and its disk is the play's. It has counters
-- left. While it is up nothing is pending, and the disk is at rest.
pub record RunsAt (n : WorldNode) (disk : MediumValue) (node : NodeOnJournal DiskValue) : Type 0 where
  pub mode : n.mode ≡ mode_of node.closed
  pub medium : node.disk.medium ≡ disk
  pub fed : node.disk.starved ≡ false
  pub state : node.node ≡ n.state
  pub none_pending : node.closed ≡ None → n.pending ≡ None
  pub spare : HasSpareCounters node.node
  pub settled : node.closed ≡ None → IsSettled (λ (d : DiskValue). bytes_of d.medium) (λ (d : DiskValue). MayBeLeft d.medium)
      node.disk node.end n.records

-- of a node that is down its disk is the play's, and its scopes are known
pub record RestsAt (n : WorldNode) (disk : MediumValue) (held : DiskValue) (known : List KnownScope) : Type 0 where
  pub mode : n.mode ≡ is_down
  pub medium : held.medium ≡ disk
  pub fed : held.starved ≡ false
  pub scopes : (id : Id) → kind_among known id ≡ option_map (λ s. s.kind) (scope_with_id n.state id)

abbrev pub IsPlaceOf : WorldNode → MediumValue → Place → Type 0
IsPlaceOf n disk (place.Up node) = RunsAt n disk node
IsPlaceOf n disk (place.Down held known) = RestsAt n disk held known

-- the disk at a place
abbrev pub disk_at : Place → DiskValue
disk_at (place.Up node) = node.disk
disk_at (place.Down held known) = held

-- the place of a node, what a stop may leave of whose disk now stands for its records, or for these with the pending one
pub record Matches (n : WorldNode) (disk : MediumValue) (at : Place) : Type 0 where
  pub place : IsPlaceOf n disk at
  pub holds : HoldsNode n disk

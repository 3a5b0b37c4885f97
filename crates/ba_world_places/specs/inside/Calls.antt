-- Inside: how a place gets from one call to the next.
use Rattle.ba_core.specs.declared.identifiers.Id.{Id}
use Rattle.ba_core.specs.declared.protocols.Kind.{Kind}
use Rattle.ba_world_events.specs.declared.outcomes.Outcome.{Outcome}
use Rattle.ba_ports_memory.specs.DiskValue.{DiskValue, MediumValue, rearm, restarted}
use Rattle.ba_node.specs.Nodes.{NodeOnJournal}
use Rattle.ba_node.specs.declared.faults.LoadFault.{LoadFault}
use Rattle.ba_node.specs.declared.faults.NodeFault.{NodeFault}
use Rattle.ba_world_places.specs.Places.{kind_among}
use Rattle.ba_world_places.specs.declared.places.KnownScope.{KnownScope}
use Rattle.ba_world_places.specs.declared.places.Place.{Place}
use Rattle.ba_world_play.specs.Disks.{HoldsNode}
use Rattle.ba_world_play.specs.Nodes.{running}
use Rattle.ba_ports.specs.Disk.{nothing}
use Rattle.ba_ports.specs.declared.images.Image.{Image}
use Rattle.ba_world_runs.specs.World.{WorldNode}
use Rattle.ba_node_steps.specs.Node.{scope_with_id}
use Rattle.std.specs.Option.{option_map}
use Rattle.std.specs.Prelude.{◌≡◌, false, List, [], ◌∷◌, ◌++◌, Option, None, Some}
use Rattle.ba_world_places.specs.declared.places.Place.TheVariants as place
use Rattle.ba_node.specs.declared.faults.NodeFault.TheVariants as fault
use Rattle.ba_world_events.specs.declared.outcomes.Outcome.TheVariants as outcome
use Rattle.ba_node.specs.declared.faults.LoadFault.TheVariants as load

-- the machine of the disk runs, and holds what is left of the node's disk
pub record IsReadied (n : WorldNode) (disk : MediumValue) (held : DiskValue) : Type 0 where
  pub medium : held.medium ≡ running disk
  pub fed : held.starved ≡ false
  pub holds : HoldsNode n disk

-- the scopes of the node are known
abbrev pub KnowsScopes : WorldNode → List KnownScope → Type 0
KnowsScopes n known = (id : Id) → kind_among known id ≡ option_map (λ s. s.kind) (scope_with_id n.state id)

-- the scopes that are known, and this one after them, where it is a scope
abbrev pub known_with : List KnownScope → Id → Option Kind → List KnownScope
known_with known id None = known
known_with known id (Some kind) = known ++ record { id = id; kind = kind } ∷ []

-- a node with nothing armed
abbrev pub unarmed : NodeOnJournal DiskValue → NodeOnJournal DiskValue
unarmed node = record node { disk = rearm nothing node.disk }

-- the disk of a machine that runs
abbrev pub ready_by : Option Image → DiskValue → DiskValue
ready_by None disk = disk
ready_by (Some image) disk = restarted disk

abbrev pub ready_disk : DiskValue → DiskValue
ready_disk disk = ready_by disk.medium.stopped disk

abbrev pub IsBrokenBy : Option Image → NodeOnJournal DiskValue → Place → Outcome → Type 0
IsBrokenBy None node at shown = (at ≡ place.Up (unarmed node)) × (shown ≡ outcome.Disk)
IsBrokenBy (Some image) node at shown =
    (known : List KnownScope) × (at ≡ place.Down (rearm nothing node.disk) known) × (shown ≡ outcome.Stopped)
    × ((id : Id) → kind_among known id ≡ option_map (λ s. s.kind) (scope_with_id node.node id))

abbrev pub IsBroken : NodeOnJournal DiskValue → Place → Outcome → Type 0
IsBroken node at shown = IsBrokenBy node.disk.medium.stopped node at shown

abbrev pub IsUntaken : NodeOnJournal DiskValue → NodeFault → Place → Outcome → Type 0
IsUntaken node fault.Memory at shown = ⊥
IsUntaken node fault.Full at shown = (at ≡ place.Up (unarmed node)) × (shown ≡ outcome.Full)
IsUntaken node (fault.Closed count) at shown = (at ≡ place.Up (unarmed node)) × (shown ≡ outcome.Closed)
IsUntaken node fault.Disk at shown = IsBroken node at shown

abbrev pub unopened_outcome : Option Image → Outcome
unopened_outcome None = outcome.Disk
unopened_outcome (Some image) = outcome.Stopped

pub record IsUnloaded (disk : DiskValue) (known : List KnownScope) (why : LoadFault) (at : Place) (shown : Outcome) : Type 0 where
  pub why_is : why ≡ load.Disk
  pub place : at ≡ place.Down (rearm nothing disk) known
  pub shown_is : shown ≡ unopened_outcome disk.medium.stopped

-- Believe: which records a node has when it is opened again, after a failure or a stop at one of the four calls of an append: the
-- record is written behind the gate, synced, the gate is written, synced.
use Rattle.std.specs.Prelude.{◌≡◌, ℕ, ◌++◌, Bool, true, false, ◌&&◌, nat_eq, nat_le, if◌then◌else◌, List, [], ◌∷◌, Some}
use Rattle.ba_ports_memory.specs.DiskValue.{MediumValue}
use Rattle.ba_world_play.specs.Disks.{DiskFits}
use Rattle.ba_world_play.specs.Nodes.{NodeCall, NodeOnDisk, armed_with, is_past_end, node_call, open_call}
use Rattle.ba_ports.specs.Disk.{Armament}
use Rattle.ba_ports.specs.declared.images.Image.{Image}
use Rattle.ba_ports.specs.declared.images.Image.TheVariants as image
use Rattle.ba_record.specs.Coding.{InRange}
use Rattle.ba_record.specs.declared.records.Record.{Record}
use Rattle.ba_world_runs.specs.World.{Occasion, WorldNode, is_up}
use Rattle.ba_world_runs.specs.WorldSteps.{effect}

-- the node is up on its disk, and the step of the occasion writes this record, for which the journal has room
pub record IsAboutToAppend (n : WorldNode) (disk : MediumValue) (o : Occasion) (r : Record) : Type 0 where
  pub up : n.mode ≡ is_up
  pub fits : DiskFits n disk
  pub writes : (effect n.state o).written ≡ Some r
  pub in_range : InRange r
  pub within : is_past_end disk r ≡ false

-- the call for which this is armed
abbrev pub call_armed : Armament → WorldNode → MediumValue → Occasion → NodeCall
call_armed armament n disk o = let ready : NodeOnDisk = armed_with armament n disk in node_call ready.node ready.disk o

-- the node's records when it is opened after the call
abbrev pub records_reopened : NodeCall → List Record
records_reopened call = (open_call call.after.node call.after.disk).after.node.records

-- the image has all that was written
abbrev pub has_all : Image → Bool
has_all image.Old = false
has_all image.New = true
has_all image.Half = false
has_all image.Filled = false

-- after a stop at this call the record counts where the image has the gate
abbrev pub stop_keeps : ℕ → Image → Bool
stop_keeps call i = nat_le 3 call && has_all i

-- after a failure at this call the record counts where the gate was written
abbrev pub failure_keeps : ℕ → Bool
failure_keeps call = nat_eq call 4

abbrev pub records_if : Bool → List Record → Record → List Record
records_if kept records r = if kept then records ++ r ∷ [] else records

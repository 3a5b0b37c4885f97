-- Believe: one node of a play beside what its disk holds, and what a call makes of both. A node keeps the record of its step by the
-- calls of an append, and is loaded by those of a load; so a failure or a stop that is armed comes exactly where its call is
-- made.
use Rattle.std.specs.Prelude.{ℕ, ◌+◌, ◌-◌, Bool, true, false, nat_lt, if◌then◌else◌, ◌∷◌, ◌++◌, length, Option, None, Some}
use Rattle.std.specs.Option.{option_to_list}
use Rattle.ba_world_events.specs.declared.outcomes.Outcome.{Outcome}
use Rattle.ba_world_events.specs.declared.outcomes.Outcome.TheVariants as outcome
use Rattle.ba_journal.specs.Journals.{appending, behind_gate}
use Rattle.ba_journal.specs.Loads.{settling}
use Rattle.ba_journal.specs.Readings.{reading_of, records_found}
use Rattle.ba_journal.specs.declared.journals.TheConstants.{GREATEST_LENGTH}
use Rattle.ba_journal.specs.declared.readings.Reading.{Reading}
use Rattle.ba_ports_memory.specs.DiskValue.{MediumValue, bytes_of, rearmed_medium, restarted_medium, run}
use Rattle.ba_ports.specs.Disk.{Armament}
use Rattle.ba_ports.specs.declared.images.Image.{Image}
use Rattle.ba_ports.specs.declared.requests.Request.TheVariants.{Sync}
use Rattle.ba_record.specs.Coding.{coding}
use Rattle.ba_record.specs.declared.records.Record.{Record}
use Rattle.ba_world_runs.specs.World.{Mode, Occasion, WorldNode, is_closed, is_down, is_up}
use Rattle.ba_world_runs.specs.WorldSteps.{effect}

-- a node of a world, and what its disk holds
pub record NodeOnDisk : Type 0 where
  pub node : WorldNode
  pub disk : MediumValue

-- both after a call, and what it shows; none where the node took its step, which then says what it shows
pub record NodeCall : Type 0 where
  pub after : NodeOnDisk
  pub shown : Option Outcome

-- what was armed for a call is spent when it ends
abbrev pub disarmed : MediumValue → MediumValue
disarmed disk = record disk { armed = None }

abbrev pub called_node : WorldNode → MediumValue → Option Outcome → NodeCall
called_node n disk shown = record { after = record { node = n; disk = disarmed disk }; shown = shown }

-- ---- an input, a delivery or a tick

-- the node after its step, whose record is kept
abbrev pub node_taken : WorldNode → Occasion → WorldNode
node_taken n o =
    let e = effect n.state o in
    record { state = e.after; records = n.records ++ option_to_list e.written; pending = None; mode = is_up }

abbrev pub node_pending : WorldNode → Occasion → Mode → WorldNode
node_pending n o mode = record n { pending = Some o; mode = mode }

-- the record of the step is pending, since the disk failed, or since the machine stopped
abbrev pub broken_call : WorldNode → Occasion → MediumValue → Option Image → NodeCall
broken_call n o disk None = called_node (node_pending n o is_closed) disk (Some outcome.Disk)
broken_call n o disk (Some image) = called_node (node_pending n o is_down) disk (Some outcome.Stopped)

-- by whether a call of the append failed, and what the calls made of the disk
abbrev pub call_by_append : WorldNode → Occasion → Bool × MediumValue → NodeCall
call_by_append n o (false, disk) = called_node (node_taken n o) disk None
call_by_append n o (true, disk) = broken_call n o disk disk.stopped

-- the place of the last byte, which is the last gate of a journal that is open
abbrev pub last_place : MediumValue → ℕ
last_place disk = length (bytes_of disk) - 1

-- the record's frame and the next gate would end past the greatest length of a journal
abbrev pub is_past_end : MediumValue → Record → Bool
is_past_end disk r = nat_lt GREATEST_LENGTH (last_place disk + length (coding r) + 6)

-- the calls of the append of a record
abbrev pub append_run : MediumValue → Record → Bool × MediumValue
append_run disk r = run (appending (last_place disk) (behind_gate (coding r))) disk

-- a step that keeps no record makes no call of the disk
abbrev pub call_by_record : WorldNode → Occasion → MediumValue → Option Record → NodeCall
call_by_record n o disk None = called_node (node_taken n o) disk None
call_by_record n o disk (Some r) =
    if is_past_end disk r then called_node n disk (Some outcome.Full) else call_by_append n o (append_run disk r)

abbrev pub call_by_mode : WorldNode → Occasion → MediumValue → Mode → NodeCall
call_by_mode n o disk is_up = call_by_record n o disk (effect n.state o).written
call_by_mode n o disk is_closed = called_node n disk (Some outcome.Closed)
call_by_mode n o disk is_down = called_node n disk (Some outcome.Down)

-- an occasion at the node
abbrev pub node_call : WorldNode → MediumValue → Occasion → NodeCall
node_call n disk o = call_by_mode n o disk n.mode

-- the delivery of a message that leads to no input changes nothing
abbrev pub lost_call : WorldNode → MediumValue → Mode → NodeCall
lost_call n disk is_up = called_node n disk (Some outcome.Done)
lost_call n disk is_closed = called_node n disk (Some outcome.Done)
lost_call n disk is_down = called_node n disk (Some outcome.Down)

-- ---- an opening

-- a disk whose machine has stopped is restarted first
abbrev pub running_by : Option Image → MediumValue → MediumValue
running_by None disk = disk
running_by (Some image) disk = restarted_medium disk

abbrev pub running : MediumValue → MediumValue
running disk = running_by disk.stopped disk

abbrev pub node_up_again : WorldNode → WorldNode
node_up_again n = record n { pending = None; mode = is_up }

abbrev pub node_stopped : WorldNode → WorldNode
node_stopped n = record n { mode = is_down }

-- the file holds more records than the node has: the pending one was kept
abbrev pub holds_more : WorldNode → Reading → Bool
holds_more n found = nat_lt (length n.records) (length (records_found found))

-- the step of the pending record is taken now, and silently, where the file holds the record
abbrev pub opened_by : WorldNode → Option Occasion → Bool → WorldNode
opened_by n None more = node_up_again n
opened_by n (Some o) true = node_taken n o
opened_by n (Some o) false = node_up_again n

abbrev pub opened_node : WorldNode → Reading → WorldNode
opened_node n found = opened_by n n.pending (holds_more n found)

-- a load that failed leaves open whether the pending record is kept
abbrev pub unopened_call : WorldNode → MediumValue → Option Image → NodeCall
unopened_call n disk None = called_node (node_stopped n) disk (Some outcome.Disk)
unopened_call n disk (Some image) = called_node (node_stopped n) disk (Some outcome.Stopped)

-- by whether a call of the load failed, and what the calls made of the disk
abbrev pub open_by_load : WorldNode → Reading → Bool × MediumValue → NodeCall
open_by_load n found (false, disk) = called_node (opened_node n found) disk (Some outcome.Done)
open_by_load n found (true, disk) = unopened_call n disk disk.stopped

-- the calls of a load of what the file was read as
abbrev pub load_run : MediumValue → Reading → Bool × MediumValue
load_run disk found = run (Sync ∷ settling found) disk

abbrev pub open_running : WorldNode → MediumValue → NodeCall
open_running n disk = let found : Reading = reading_of (bytes_of disk) in open_by_load n found (load_run disk found)

-- the node is loaded again
abbrev pub open_call : WorldNode → MediumValue → NodeCall
open_call n disk = open_running n (running disk)

-- ---- what is no call, and leaves what is armed

-- the machine stops, and the disk is restarted
abbrev pub crashed : WorldNode → MediumValue → NodeOnDisk
crashed n disk = record { node = node_stopped n; disk = restarted_medium disk }

-- this is armed for the node's next call
abbrev pub armed_with : Armament → WorldNode → MediumValue → NodeOnDisk
armed_with armament n disk = record { node = n; disk = rearmed_medium armament disk }

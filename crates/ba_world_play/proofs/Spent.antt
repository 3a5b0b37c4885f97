-- What is armed is spent by a call; for the law of that name.
use Rattle.std.proofs.Common.{◌≡◌, Bool, true, false, Option, None, Some, refl}
use Rattle.ba_world_events.specs.declared.outcomes.Outcome.TheVariants as outcome
use Rattle.ba_journal.specs.Readings.{reading_of}
use Rattle.ba_journal.specs.declared.readings.Reading.{Reading}
use Rattle.ba_ports_memory.specs.DiskValue.{MediumValue, bytes_of}
use Rattle.ba_world_play.specs.Nodes.{NodeCall, append_run, broken_call, call_by_append, call_by_mode, call_by_record, called_node, is_past_end}
use Rattle.ba_world_play.specs.Nodes.{load_run, lost_call, node_call, open_by_load, open_call, running, unopened_call}
use Rattle.ba_ports.specs.declared.images.Image.{Image}
use Rattle.ba_record.specs.declared.records.Record.{Record}
use Rattle.ba_world_runs.specs.World.{Mode, Occasion, WorldNode, is_closed, is_down, is_up}
use Rattle.ba_world_runs.specs.WorldSteps.{effect}
use Rattle.ba_scope.proofs.Lists.{by_test}

abbrev IsSpent : NodeCall → Type 0
IsSpent call = call.after.disk.armed ≡ None

broken_spends : (n : WorldNode) (o : Occasion) (disk : MediumValue) (stopped : Option Image) → IsSpent (broken_call n o disk stopped)
broken_spends n o disk None = refl
broken_spends n o disk (Some image) = refl

append_spends : (n : WorldNode) (o : Occasion) (made : Bool × MediumValue) → IsSpent (call_by_append n o made)
append_spends n o (false, disk) = refl
append_spends n o (true, disk) = broken_spends n o disk disk.stopped

record_spends : (n : WorldNode) (o : Occasion) (disk : MediumValue) (written : Option Record)
    → IsSpent (call_by_record n o disk written)
record_spends n o disk None = refl
record_spends n o disk (Some r) =
    by_test IsSpent (is_past_end disk r) (called_node n disk (Some outcome.Full)) (call_by_append n o (append_run disk r))
    (λ past. refl) (λ within. append_spends n o (append_run disk r))

mode_spends : (n : WorldNode) (o : Occasion) (disk : MediumValue) (mode : Mode) → IsSpent (call_by_mode n o disk mode)
mode_spends n o disk is_up = record_spends n o disk (effect n.state o).written
mode_spends n o disk is_closed = refl
mode_spends n o disk is_down = refl

pub call_spends : (n : WorldNode) (disk : MediumValue) (o : Occasion) → (node_call n disk o).after.disk.armed ≡ None
call_spends n disk o = mode_spends n o disk n.mode

lost_by_mode : (n : WorldNode) (disk : MediumValue) (mode : Mode) → IsSpent (lost_call n disk mode)
lost_by_mode n disk is_up = refl
lost_by_mode n disk is_closed = refl
lost_by_mode n disk is_down = refl

pub lost_spends : (n : WorldNode) (disk : MediumValue) → (lost_call n disk n.mode).after.disk.armed ≡ None
lost_spends n disk = lost_by_mode n disk n.mode

unopened_spends : (n : WorldNode) (disk : MediumValue) (stopped : Option Image) → IsSpent (unopened_call n disk stopped)
unopened_spends n disk None = refl
unopened_spends n disk (Some image) = refl

load_spends : (n : WorldNode) (found : Reading) (made : Bool × MediumValue) → IsSpent (open_by_load n found made)
load_spends n found (false, disk) = refl
load_spends n found (true, disk) = unopened_spends n disk disk.stopped

pub opening_spends : (n : WorldNode) (disk : MediumValue) → (open_call n disk).after.disk.armed ≡ None
opening_spends n disk =
    let ready : MediumValue = running disk in
    let found : Reading = reading_of (bytes_of ready) in
    load_spends n found (load_run ready found)

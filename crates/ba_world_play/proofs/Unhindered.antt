-- Which calls take their step, and which leave the node as it is; for the law that steps are taken where nothing hinders.
use Rattle.std.proofs.Common.{◌≡◌, Bool, true, false, ◌∷◌, Option, None, Some, refl, sym, ap, ◌∙◌, subst, if◌then◌else◌, true≢false}
use Rattle.ba_world_events.specs.declared.outcomes.Outcome.TheVariants as outcome
use Rattle.ba_journal.specs.Journals.{appending, behind_gate}
use Rattle.ba_journal.specs.Loads.{settling}
use Rattle.ba_journal.specs.Readings.{reading_of}
use Rattle.ba_journal.specs.declared.readings.Reading.{Reading}
use Rattle.ba_ports_memory.proofs.Turns.{runs_untroubled, runs_well}
use Rattle.ba_ports_memory.specs.DiskValue.{IsUntroubled, MediumValue, bytes_of}
use Rattle.ba_world_play.proofs.Openings.{runs_by}
use Rattle.ba_world_play.specs.Calls.{IsTaken, IsUpAgain}
use Rattle.ba_world_play.specs.Nodes.{append_run, call_by_append, call_by_mode, call_by_record, called_node, holds_more, is_past_end, last_place}
use Rattle.ba_world_play.specs.Nodes.{load_run, node_call, node_taken, open_by_load, open_call, opened_by, running}
use Rattle.ba_ports.specs.declared.requests.Request.TheVariants.{Sync}
use Rattle.ba_record.specs.Coding.{coding}
use Rattle.ba_record.specs.declared.records.Record.{Record}
use Rattle.ba_world_runs.specs.World.{Mode, Occasion, WorldNode, is_closed, is_down, is_up}
use Rattle.ba_world_runs.specs.WorldSteps.{effect}
use Rattle.ba_scope.proofs.Lists.{by_test}

-- ---- a step that is taken

whole_taken : (n : WorldNode) (o : Occasion) (made : Bool × MediumValue) → made.0 ≡ false → IsUntroubled made.1
    → IsTaken n o (call_by_append n o made)
whole_taken n o (false, disk) well free =
    record { shown = refl; node = refl; disk = record { unarmed = refl; running = free.running } }
whole_taken n o (true, disk) well free = absurd (true≢false well)

by_written : (n : WorldNode) (o : Occasion) (disk : MediumValue) → IsUntroubled disk → (written : Option Record)
    → ((r : Record) → written ≡ Some r → is_past_end disk r ≡ false) → IsTaken n o (call_by_record n o disk written)
by_written n o disk free None within =
    record { shown = refl; node = refl; disk = record { unarmed = refl; running = free.running } }
by_written n o disk free (Some r) within =
    let requests = appending (last_place disk) (behind_gate (coding r)) in
    by_test (IsTaken n o) (is_past_end disk r) (called_node n disk (Some outcome.Full)) (call_by_append n o (append_run disk r))
    (λ past. absurd (true≢false (sym past ∙ within r refl)))
    (λ short. whole_taken n o (append_run disk r) (runs_well requests disk free) (runs_untroubled requests disk free))

pub step_taken : (n : WorldNode) (disk : MediumValue) (o : Occasion) → n.mode ≡ is_up → IsUntroubled disk
    → ((r : Record) → (effect n.state o).written ≡ Some r → is_past_end disk r ≡ false) → IsTaken n o (node_call n disk o)
step_taken n disk o up free within =
    subst (λ (mode : Mode). IsTaken n o (call_by_mode n o disk mode)) (sym up) (by_written n o disk free (effect n.state o).written within)

-- ---- the other calls

pub silent_taken : (n : WorldNode) (disk : MediumValue) (o : Occasion) → n.mode ≡ is_up → (effect n.state o).written ≡ None
    → node_call n disk o ≡ called_node (node_taken n o) disk None
silent_taken n disk o up none = ap (call_by_mode n o disk) up ∙ ap (call_by_record n o disk) none

pub append_called : (n : WorldNode) (disk : MediumValue) (o : Occasion) (r : Record) (past : Bool) → n.mode ≡ is_up
    → (effect n.state o).written ≡ Some r → is_past_end disk r ≡ past
    → node_call n disk o
    ≡ (if past then called_node n disk (Some outcome.Full) else call_by_append n o (append_run disk r))
append_called n disk o r past up writes is =
    ap (call_by_mode n o disk) up ∙ ap (call_by_record n o disk) writes
    ∙ ap (λ (b : Bool). if b then called_node n disk (Some outcome.Full) else call_by_append n o (append_run disk r)) is

pub full_stays : (n : WorldNode) (disk : MediumValue) (o : Occasion) (r : Record) → n.mode ≡ is_up
    → (effect n.state o).written ≡ Some r → is_past_end disk r ≡ true → node_call n disk o ≡ called_node n disk (Some outcome.Full)
full_stays n disk o r up writes past = append_called n disk o r true up writes past

pub closed_stays : (n : WorldNode) (disk : MediumValue) (o : Occasion) → n.mode ≡ is_closed
    → node_call n disk o ≡ called_node n disk (Some outcome.Closed)
closed_stays n disk o is = ap (call_by_mode n o disk) is

pub down_stays : (n : WorldNode) (disk : MediumValue) (o : Occasion) → n.mode ≡ is_down
    → node_call n disk o ≡ called_node n disk (Some outcome.Down)
down_stays n disk o is = ap (call_by_mode n o disk) is

-- ---- an opening

opened_up : (n : WorldNode) (pending : Option Occasion) (more : Bool) → (opened_by n pending more).mode ≡ is_up
opened_up n None more = refl
opened_up n (Some o) true = refl
opened_up n (Some o) false = refl

opened_none : (n : WorldNode) (pending : Option Occasion) (more : Bool) → (opened_by n pending more).pending ≡ None
opened_none n None more = refl
opened_none n (Some o) true = refl
opened_none n (Some o) false = refl

whole_opening : (n : WorldNode) (found : Reading) (made : Bool × MediumValue) → made.0 ≡ false → IsUntroubled made.1
    → IsUpAgain (open_by_load n found made)
whole_opening n found (false, disk) well free = record {
  shown = refl;
  mode = opened_up n n.pending (holds_more n found);
  pending = opened_none n n.pending (holds_more n found);
  disk = record { unarmed = refl; running = free.running };
}
whole_opening n found (true, disk) well free = absurd (true≢false well)

pub opens_up : (n : WorldNode) (disk : MediumValue) → disk.armed ≡ None → IsUpAgain (open_call n disk)
opens_up n disk unarmed =
    let ready : MediumValue = running disk in
    let found : Reading = reading_of (bytes_of ready) in
    let free : IsUntroubled ready = runs_by disk disk.stopped refl unarmed in
    whole_opening n found (load_run ready found) (runs_well (Sync ∷ settling found) ready free)
    (runs_untroubled (Sync ∷ settling found) ready free)

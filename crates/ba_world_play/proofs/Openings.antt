-- What a call and an opening show, and which records an opening finds; for the laws that nothing fails by itself and that openings
-- read the disk.
use Rattle.std.proofs.Common.{◌≡◌, ◌≢◌, ◌⊎◌, inl, inr, ℕ, ◌+◌, ◌<◌, Bool, true, false, List, [], ◌∷◌, ◌++◌, length, nat_lt, Option, None}
use Rattle.std.proofs.Common.{Some, refl, sym, ap, ◌∙◌, arith, length-append, true≢false}
use Rattle.std.specs.Option.{option_and_then, option_to_list}
use Rattle.std.proofs.lemmas.Bool.Decides.{nat_tests}
use Rattle.std.proofs.lemmas.List.{append-nil}
use Rattle.ba_world_events.specs.declared.outcomes.Outcome.TheVariants as outcome
use Rattle.ba_journal.proofs.Meanings.{one_list}
use Rattle.ba_journal.proofs.ReadingOf.{stands_computed}
use Rattle.ba_journal.specs.Frames.{StandsFor}
use Rattle.ba_journal.specs.Journals.{appending, behind_gate}
use Rattle.ba_journal.specs.Loads.{settling}
use Rattle.ba_journal.specs.Readings.{reading_of, records_found}
use Rattle.ba_journal.specs.declared.readings.Reading.{Reading}
use Rattle.ba_ports_memory.proofs.Turns.{runs_well}
use Rattle.ba_ports_memory.specs.DiskValue.{IsUntroubled, MayBeLeft, MediumValue, bytes_of, chosen}
use Rattle.ba_ports_memory.specs.inside.DiskLaws.{left_of_all, shown_may_stay}
use Rattle.ba_world_play.specs.Disks.{HoldsNode, pending_record}
use Rattle.ba_world_play.specs.Nodes.{NodeCall, append_run, call_by_append, call_by_mode, call_by_record, called_node, holds_more, is_past_end}
use Rattle.ba_world_play.specs.Nodes.{last_place, load_run, node_call, open_by_load, open_call, opened_by, opened_node, running, running_by}
use Rattle.ba_world_play.specs.Nodes.{unopened_call}
use Rattle.ba_ports.specs.declared.images.Image.{Image}
use Rattle.ba_ports.specs.declared.requests.Request.TheVariants.{Sync}
use Rattle.ba_record.specs.Coding.{coding}
use Rattle.ba_record.specs.declared.records.Record.{Record}
use Rattle.ba_world_runs.specs.World.{Mode, Occasion, WorldNode, is_closed, is_down, is_up}
use Rattle.ba_world_runs.specs.WorldSteps.{effect}
use Rattle.ba_scope.proofs.Lists.{by_test}

-- ---- a call with nothing armed

abbrev NotBroken : NodeCall → Type 0
NotBroken call = (call.shown ≢ Some outcome.Disk) × (call.shown ≢ Some outcome.Stopped)

whole_append : (n : WorldNode) (o : Occasion) (made : Bool × MediumValue) → made.0 ≡ false → NotBroken (call_by_append n o made)
whole_append n o (false, disk) is = (λ h. absurd cc, λ h. absurd cc)
whole_append n o (true, disk) is = absurd (true≢false is)

by_record : (n : WorldNode) (o : Occasion) (disk : MediumValue) → IsUntroubled disk → (written : Option Record)
    → NotBroken (call_by_record n o disk written)
by_record n o disk free None = (λ h. absurd cc, λ h. absurd cc)
by_record n o disk free (Some r) =
    by_test NotBroken (is_past_end disk r) (called_node n disk (Some outcome.Full)) (call_by_append n o (append_run disk r))
    (λ past. (λ h. absurd cc, λ h. absurd cc))
    (λ within. whole_append n o (append_run disk r) (runs_well (appending (last_place disk) (behind_gate (coding r))) disk free))

by_mode : (n : WorldNode) (o : Occasion) (disk : MediumValue) → IsUntroubled disk → (mode : Mode)
    → NotBroken (call_by_mode n o disk mode)
by_mode n o disk free is_up = by_record n o disk free (effect n.state o).written
by_mode n o disk free is_closed = (λ h. absurd cc, λ h. absurd cc)
by_mode n o disk free is_down = (λ h. absurd cc, λ h. absurd cc)

pub calls_go_well : (n : WorldNode) (disk : MediumValue) (o : Occasion) → IsUntroubled disk → NotBroken (node_call n disk o)
calls_go_well n disk o free = by_mode n o disk free n.mode

-- ---- an opening with nothing armed

whole_load : (n : WorldNode) (found : Reading) (made : Bool × MediumValue) → made.0 ≡ false
    → (open_by_load n found made).shown ≡ Some outcome.Done
whole_load n found (false, disk) is = refl
whole_load n found (true, disk) is = absurd (true≢false is)

pub runs_by : (disk : MediumValue) (stopped : Option Image) → disk.stopped ≡ stopped → disk.armed ≡ None
    → IsUntroubled (running_by stopped disk)
runs_by disk None is unarmed = record { unarmed = unarmed; running = is }
runs_by disk (Some image) is unarmed = record { unarmed = unarmed; running = refl }

pub openings_go_well : (n : WorldNode) (disk : MediumValue) → disk.armed ≡ None → (open_call n disk).shown ≡ Some outcome.Done
openings_go_well n disk unarmed =
    let ready : MediumValue = running disk in
    let found : Reading = reading_of (bytes_of ready) in
    whole_load n found (load_run ready found) (runs_well (Sync ∷ settling found) ready (runs_by disk disk.stopped refl unarmed))

-- ---- which records it finds

-- what the disk of a machine that runs holds is something that a stop may leave
pub ready_may_stay : (disk : MediumValue) (stopped : Option Image) → disk.stopped ≡ stopped
    → MayBeLeft disk (bytes_of (running_by stopped disk))
ready_may_stay disk None is = shown_may_stay disk
ready_may_stay disk (Some image) is = left_of_all (chosen disk.stopped) disk.pending disk.synced

same_length : (a b : ℕ) → a ≡ b → nat_lt a b ≡ false
same_length a b h = grind (arith, nat_tests)

longer : (a b : ℕ) → a < b → nat_lt a b ≡ true
longer a b h = grind (arith, nat_tests)

-- by what is pending, where the file stands for these records
opened_with : (n : WorldNode) (found : Reading) (pending : Option Occasion) → n.pending ≡ pending
    → (records_found found ≡ n.records) ⊎ (records_found found ≡ n.records ++ option_to_list (pending_record n))
    → (opened_by n pending (holds_more n found)).records ≡ records_found found
opened_with n found None is (inl own) = sym own
opened_with n found None is (inr more) =
    let none : pending_record n ≡ None = ap (option_and_then (λ (x : Occasion). (effect n.state x).written)) is in
    sym (more ∙ ap (λ (o : Option Record). n.records ++ option_to_list o) none ∙ append-nil n.records)
opened_with n found (Some o) is (inl own) =
    ap (λ (b : Bool). (opened_by n (Some o) b).records)
    (same_length (length n.records) (length (records_found found)) (ap length (sym own)))
    ∙ sym own
opened_with n found (Some o) is (inr more) = by_written (effect n.state o).written refl
  where
    pending_is : pending_record n ≡ (effect n.state o).written
    pending_is = ap (option_and_then (λ (x : Occasion). (effect n.state x).written)) is

    by_written : (written : Option Record) → (effect n.state o).written ≡ written
        → (opened_by n (Some o) (holds_more n found)).records ≡ records_found found
    by_written None none =
        let own : records_found found ≡ n.records =
        more ∙ ap (λ (x : Option Record). n.records ++ option_to_list x) (pending_is ∙ none) ∙ append-nil n.records in
        ap (λ (b : Bool). (opened_by n (Some o) b).records)
        (same_length (length n.records) (length (records_found found)) (ap length (sym own))) ∙ sym own
    by_written (Some r) some =
        let one : records_found found ≡ n.records ++ r ∷ [] =
        more ∙ ap (λ (x : Option Record). n.records ++ option_to_list x) (pending_is ∙ some) in
        let length_is : length (records_found found) ≡ length n.records + 1 = ap length one ∙ length-append n.records (r ∷ []) in
        ap (λ (b : Bool). (opened_by n (Some o) b).records)
        (longer (length n.records) (length (records_found found)) (omega (arith, length_is)))
        ∙ ap (λ (x : Option Record). n.records ++ option_to_list x) some ∙ sym one

-- the node that is opened has the records for which the file of the running machine stands
pub opened_records : (n : WorldNode) (disk : MediumValue) (records : List Record) → HoldsNode n disk
    → StandsFor (bytes_of (running disk)) records → (opened_node n (reading_of (bytes_of (running disk)))).records ≡ records
opened_records n disk records holds stands =
    let file : List ℕ = bytes_of (running disk) in
    let found : Reading = reading_of file in
    let read : records_found found ≡ records = (stands_computed file records stands).1 in
    let among : (records_found found ≡ n.records) ⊎ (records_found found ≡ n.records ++ option_to_list (pending_record n)) =
    elim (holds file (ready_may_stay disk disk.stopped refl)) [
      | inl own ↦ inl (read ∙ one_list file records n.records stands own)
      | inr more ↦ inr (read ∙ one_list file records (n.records ++ option_to_list (pending_record n)) stands more)
    ] in
    opened_with n found n.pending refl among ∙ read

loaded_records : (n : WorldNode) (found : Reading) (made : Bool × MediumValue) → (open_by_load n found made).shown ≡ Some outcome.Done
    → (open_by_load n found made).after.node.records ≡ (opened_node n found).records
loaded_records n found (false, disk) done = refl
loaded_records n found (true, disk) done = by_image disk.stopped done
  where
    by_image : (stopped : Option Image) → (unopened_call n disk stopped).shown ≡ Some outcome.Done
        → (unopened_call n disk stopped).after.node.records ≡ (opened_node n found).records
    by_image None done = absurd cc
    by_image (Some image) done = absurd cc

pub opening_reads : (n : WorldNode) (disk : MediumValue) (records : List Record) → HoldsNode n disk
    → StandsFor (bytes_of (running disk)) records → (open_call n disk).shown ≡ Some outcome.Done
    → (open_call n disk).after.node.records ≡ records
opening_reads n disk records holds stands done =
    let ready : MediumValue = running disk in
    let found : Reading = reading_of (bytes_of ready) in
    loaded_records n found (load_run ready found) done ∙ opened_records n disk records holds stands

-- A call, an opening, a stop and arming keep that a disk holds its node; for the law of that name.
use Rattle.std.proofs.Common.{◌≡◌, ◌≢◌, inl, inr, ℕ, Bool, true, false, List, [], ◌∷◌, ◌++◌, Option, None, Some, refl, sym, ap, ◌∙◌, subst}
use Rattle.std.specs.Option.{option_to_list}
use Rattle.std.proofs.lemmas.List.{append-nil}
use Rattle.ba_world_events.specs.declared.outcomes.Outcome.TheVariants as outcome
use Rattle.ba_journal.proofs.Meanings.{one_list}
use Rattle.ba_journal.specs.Frames.{StandsFor}
use Rattle.ba_journal.specs.Journals.{StandsWithOrWithout}
use Rattle.ba_journal.specs.Readings.{reading_of}
use Rattle.ba_journal.specs.declared.readings.Reading.{Reading}
use Rattle.ba_ports_memory.specs.DiskValue.{LeftOf, MayBeLeft, MediumValue, bytes_of, chosen}
use Rattle.ba_ports_memory.specs.declared.changes.Change.{Change}
use Rattle.ba_ports_memory.specs.inside.DiskLaws.{left_of_all}
use Rattle.ba_world_play.proofs.Openings.{opened_records, ready_may_stay}
use Rattle.ba_world_play.proofs.Quiet.{Appends, Loads, append_keeps, broken, load_keeps, loaded, unloaded, whole}
use Rattle.ba_world_play.specs.Disks.{DiskFits, HoldsNode, IsAtRest, StandsForNode, pending_record}
use Rattle.ba_world_play.specs.Nodes.{NodeCall, append_run, armed_with, broken_call, call_by_append, call_by_mode, call_by_record, called_node}
use Rattle.ba_world_play.specs.Nodes.{crashed, disarmed, holds_more, is_past_end, load_run, node_call, node_pending, node_stopped, node_taken}
use Rattle.ba_world_play.specs.Nodes.{open_by_load, open_call, opened_by, opened_node, running, running_by, unopened_call}
use Rattle.ba_ports.specs.Disk.{Armament}
use Rattle.ba_ports.specs.declared.images.Image.{Image}
use Rattle.ba_record.specs.Coding.{InRange}
use Rattle.ba_record.specs.declared.records.Record.{Record}
use Rattle.ba_world_runs.specs.World.{Mode, Occasion, WorldNode, is_closed, is_down, is_up}
use Rattle.ba_world_runs.specs.WorldSteps.{effect}
use Rattle.ba_scope.proofs.Lists.{by_test}

abbrev pub FitsAfter : NodeCall → Type 0
FitsAfter call = DiskFits call.after.node call.after.disk

-- ---- a disk at rest, and what is armed

rest_unarmed : (disk : MediumValue) (records : List Record) → IsAtRest disk records → IsAtRest (disarmed disk) records
rest_unarmed disk records rest = record { runs = rest.runs; settled = rest.settled; journal = rest.journal }

-- what may be left of a disk at rest is what it holds
bare_left : (disk : MediumValue) (c : List ℕ) → disk.pending ≡ [] → MayBeLeft disk c → c ≡ disk.synced
bare_left disk c none may = subst (λ (changes : List Change). LeftOf changes disk.synced c) none may

rest_holds : (n : WorldNode) (disk : MediumValue) → IsAtRest disk n.records → HoldsNode n disk
rest_holds n disk rest left may =
    inl (subst (λ (file : List ℕ). StandsFor file n.records) (sym (bare_left disk left rest.settled may)) (inr (0 ∷ [], rest.journal)))

-- a node whose disk is at rest, and of which nothing is pending
pub fits_so : (n : WorldNode) (disk : MediumValue) → IsAtRest disk n.records → n.pending ≡ None → DiskFits n disk
fits_so n disk rest none = record { holds = rest_holds n disk rest; rests = λ up. (rest, none) }

fits_at_rest : (n : WorldNode) (disk : MediumValue) → IsAtRest disk n.records → n.pending ≡ None → DiskFits n (disarmed disk)
fits_at_rest n disk rest none = fits_so n (disarmed disk) (rest_unarmed disk n.records rest) none

pub fits_unarmed : (n : WorldNode) (disk : MediumValue) → DiskFits n disk → DiskFits n (disarmed disk)
fits_unarmed n disk fits = record {
  holds = fits.holds;
  rests = λ up. (rest_unarmed disk n.records (fits.rests up).0, (fits.rests up).1);
}

-- ---- a call

module _ (n : WorldNode) (o : Occasion) (disk : MediumValue) (fits : DiskFits n disk)
    (in_range : n.mode ≡ is_up → (r : Record) → (effect n.state o).written ≡ Some r → InRange r) where
  -- where no record is kept
  silent_fits : n.mode ≡ is_up → (effect n.state o).written ≡ None → DiskFits (node_taken n o) (disarmed disk)
  silent_fits up none =
      let same : n.records ≡ (node_taken n o).records =
      sym (append-nil n.records) ∙ sym (ap (λ (w : Option Record). n.records ++ option_to_list w) none) in
      fits_at_rest (node_taken n o) disk (subst (IsAtRest disk) same (fits.rests up).0) refl

  -- where it is
  whole_fits : (r : Record) → (effect n.state o).written ≡ Some r → (after : MediumValue) → IsAtRest after (n.records ++ r ∷ [])
      → DiskFits (node_taken n o) (disarmed after)
  whole_fits r writes after rest =
      let same : n.records ++ r ∷ [] ≡ (node_taken n o).records =
      sym (ap (λ (w : Option Record). n.records ++ option_to_list w) writes) in
      fits_at_rest (node_taken n o) after (subst (IsAtRest after) same rest) refl

  pending_is : (r : Record) → (effect n.state o).written ≡ Some r → (mode : Mode)
      → pending_record (node_pending n o mode) ≡ Some r
  pending_is r writes mode = writes

  with_pending : (r : Record) → (effect n.state o).written ≡ Some r → (mode : Mode) (file : List ℕ)
      → StandsWithOrWithout n.records r file → StandsForNode (node_pending n o mode) file
  with_pending r writes mode file (inl own) = inl own
  with_pending r writes mode file (inr more) =
      inr (subst (λ (w : Option Record). StandsFor file (n.records ++ option_to_list w)) (sym (pending_is r writes mode)) more)

  pending_fits : (r : Record) → (effect n.state o).written ≡ Some r → (mode : Mode) → (mode ≡ is_up → ⊥) → (after : MediumValue)
      → ((c : List ℕ) → MayBeLeft after c → StandsWithOrWithout n.records r c) → DiskFits (node_pending n o mode) (disarmed after)
  pending_fits r writes mode not_up after left = record {
    holds = λ c may. with_pending r writes mode c (left c may);
    rests = λ up. absurd (not_up up);
  }

  broken_fits : (r : Record) → (effect n.state o).written ≡ Some r → (after : MediumValue)
      → ((c : List ℕ) → MayBeLeft after c → StandsWithOrWithout n.records r c) → (stopped : Option Image)
      → FitsAfter (broken_call n o after stopped)
  broken_fits r writes after left None = pending_fits r writes is_closed (λ h. absurd cc) after left
  broken_fits r writes after left (Some image) = pending_fits r writes is_down (λ h. absurd cc) after left

  append_fits : (r : Record) → (effect n.state o).written ≡ Some r → (made : Bool × MediumValue) → Appends n.records r made
      → FitsAfter (call_by_append n o made)
  append_fits r writes (false, after) (whole well rest) = whole_fits r writes after rest
  append_fits r writes (true, after) (whole well rest) = absurd cc
  append_fits r writes (false, after) (broken failed left) = absurd cc
  append_fits r writes (true, after) (broken failed left) = broken_fits r writes after left after.stopped

  record_fits : n.mode ≡ is_up → (written : Option Record) → (effect n.state o).written ≡ written
      → FitsAfter (call_by_record n o disk written)
  record_fits up None writes = silent_fits up writes
  record_fits up (Some r) writes =
      by_test FitsAfter (is_past_end disk r) (called_node n disk (Some outcome.Full)) (call_by_append n o (append_run disk r))
      (λ past. fits_unarmed n disk fits)
      (λ within. append_fits r writes (append_run disk r) (append_keeps disk n.records r (fits.rests up).0 (in_range up r writes)))

  mode_fits : (mode : Mode) → n.mode ≡ mode → FitsAfter (call_by_mode n o disk mode)
  mode_fits is_up is = record_fits is (effect n.state o).written refl
  mode_fits is_closed is = fits_unarmed n disk fits
  mode_fits is_down is = fits_unarmed n disk fits

  pub call_fits : FitsAfter (node_call n disk o)
  call_fits = mode_fits n.mode refl

-- ---- an opening

-- the file of the running machine stands for some records, which aren't none
module _ (n : WorldNode) (disk : MediumValue) (fits : DiskFits n disk) (some : n.records ≢ []) where
  abbrev ready : MediumValue
  ready = running disk

  abbrev found : Reading
  found = reading_of (bytes_of ready)

  more_than_none : (records : List Record) (more : List Record) → records ≢ [] → records ++ more ≢ []
  more_than_none [] more is h = is refl
  more_than_none (r ∷ records) more is h = absurd cc

  -- whatever the file stands for, other files that stand for the same stand for the node
  stands_too : (records : List Record) → StandsFor (bytes_of ready) records → (c : List ℕ) → StandsFor c records → StandsForNode n c
  stands_too records stands c also = elim (fits.holds (bytes_of ready) (ready_may_stay disk disk.stopped refl)) [
    | inl own ↦ inl (subst (StandsFor c) (one_list (bytes_of ready) records n.records stands own) also)
    | inr more ↦
        inr (subst (StandsFor c) (one_list (bytes_of ready) records (n.records ++ option_to_list (pending_record n)) stands more) also)
  ]

  ready_runs : (stopped : Option Image) → disk.stopped ≡ stopped → (running_by stopped disk).stopped ≡ None
  ready_runs None is = is
  ready_runs (Some image) is = refl

  ready_left : (stopped : Option Image) (c : List ℕ) → MayBeLeft (running_by stopped disk) c → MayBeLeft disk c
  ready_left None c may = may
  ready_left (Some image) c may =
      subst (MayBeLeft disk) (sym may) (left_of_all (chosen disk.stopped) disk.pending disk.synced)

  opened_none : (pending : Option Occasion) (more : Bool) → (opened_by n pending more).pending ≡ None
  opened_none None more = refl
  opened_none (Some o) true = refl
  opened_none (Some o) false = refl

  stopped_fits : (after : MediumValue) → ((c : List ℕ) → MayBeLeft after c → StandsForNode n c) → DiskFits (node_stopped n) (disarmed after)
  stopped_fits after left = record { holds = left; rests = λ up. absurd cc }

  unopened_fits : (after : MediumValue) → ((c : List ℕ) → MayBeLeft after c → StandsForNode n c) → (stopped : Option Image)
      → FitsAfter (unopened_call n after stopped)
  unopened_fits after left None = stopped_fits after left
  unopened_fits after left (Some image) = stopped_fits after left

  load_fits : (records : List Record) → StandsFor (bytes_of ready) records → (opened_node n found).records ≡ records
      → (made : Bool × MediumValue) → Loads ready records made → FitsAfter (open_by_load n found made)
  load_fits records stands are (false, after) (loaded well rest) =
      fits_at_rest (opened_node n found) after (subst (IsAtRest after) (sym are) rest) (opened_none n.pending (holds_more n found))
  load_fits records stands are (true, after) (loaded well rest) = absurd cc
  load_fits records stands are (false, after) (unloaded failed left) = absurd cc
  load_fits records stands are (true, after) (unloaded failed left) = unopened_fits after (λ c may. elim (left c may) [
    | inl was ↦ fits.holds c (ready_left disk.stopped c was)
    | inr now ↦ stands_too records stands c now
  ]) after.stopped

  pub opening_fits : FitsAfter (open_call n disk)
  opening_fits = elim (fits.holds (bytes_of ready) (ready_may_stay disk disk.stopped refl)) [
    | inl own ↦ load_fits n.records own (opened_records n disk n.records fits.holds own) (load_run ready found)
        (load_keeps ready n.records (ready_runs disk.stopped refl) some own)
    | inr more ↦
        load_fits (n.records ++ option_to_list (pending_record n)) more
        (opened_records n disk (n.records ++ option_to_list (pending_record n)) fits.holds more) (load_run ready found)
        (load_keeps ready (n.records ++ option_to_list (pending_record n)) (ready_runs disk.stopped refl)
        (more_than_none n.records (option_to_list (pending_record n)) some) more)
  ]

-- ---- a stop, and arming

pub stop_fits : (n : WorldNode) (disk : MediumValue) → DiskFits n disk → DiskFits (crashed n disk).node (crashed n disk).disk
stop_fits n disk fits = record {
  holds = λ c may. fits.holds c (subst (MayBeLeft disk) (sym may) (left_of_all (chosen disk.stopped) disk.pending disk.synced));
  rests = λ up. absurd cc;
}

pub arming_fits : (armament : Armament) (n : WorldNode) (disk : MediumValue) → DiskFits n disk
    → DiskFits (armed_with armament n disk).node (armed_with armament n disk).disk
arming_fits armament n disk fits = record {
  holds = fits.holds;
  rests = λ up. (
    record {
      runs = (fits.rests up).0.runs;
      settled = (fits.rests up).0.settled;
      journal = (fits.rests up).0.journal;
    },
    (fits.rests up).1,
  );
}

-- What a failure or a stop at each call of an append leaves, and what an opening makes of it; for the law of that name.
use Rattle.std.proofs.Common.{◌≡◌, inr, ℕ, suc, zero, ◌+◌, ◌-◌, ◌<◌, ◌≤◌, Bool, true, false, List, [], ◌∷◌, ◌++◌, length, take, drop}
use Rattle.std.proofs.Common.{nat_eq, Option, None, Some, refl, sym, ◌∙◌, ap, subst, if◌then◌else◌, arith, append_assoc, length-append}
use Rattle.std.proofs.Common.{true≢false}
use Rattle.std.proofs.lemmas.Bool.{eq-eqb, ne_eqb}
use Rattle.std.proofs.lemmas.List.{append-nil, drop_at, take-append-drop, take_at}
use Rattle.ba_world_events.specs.declared.outcomes.Outcome.{Outcome}
use Rattle.ba_world_events.specs.declared.outcomes.Outcome.TheVariants as outcome
use Rattle.ba_journal.proofs.FrameWrites.{after, length-staged, stage_crash, written_behind, written_gate}
use Rattle.ba_journal.proofs.Leading.{long_enough}
use Rattle.ba_journal.proofs.OneMore.{another, behind_it, closed_again, seat_of}
use Rattle.ba_journal.specs.Frames.{StandsFor}
use Rattle.ba_journal.specs.Journals.{before_last, behind_gate}
use Rattle.ba_journal.specs.inside.Appending.{IsFrameOf}
use Rattle.ba_ports_memory.specs.DiskValue.{MediumValue, all_imaged, bytes_of, changed_by, course, course_by, course_of, fails, goes_wrong}
use Rattle.ba_ports_memory.specs.DiskValue.{imaged, issued, with_call, put, rearmed_medium, run, synced_by, unless_failed}
use Rattle.ba_ports_memory.specs.declared.changes.Change.{Change}
use Rattle.ba_ports_memory.specs.declared.changes.Change.TheVariants as change
use Rattle.ba_ports_memory.specs.declared.media.Armed.{Armed}
use Rattle.ba_ports_memory.specs.declared.media.Course.{Course}
use Rattle.ba_ports_memory.specs.declared.media.Course.TheVariants.{GoesOn, Met}
use Rattle.ba_ports_memory.specs.declared.media.Trouble.{Trouble}
use Rattle.ba_ports_memory.specs.declared.media.Trouble.TheVariants.{Fails, Stops}
use Rattle.ba_ports_memory.specs.inside.DiskLaws.{left_of_one, put_within}
use Rattle.ba_world_play.proofs.Holding.{arming_fits, call_fits}
use Rattle.ba_world_play.proofs.Openings.{opening_reads, openings_go_well}
use Rattle.ba_world_play.proofs.Quiet.{Asks, IsQuiet, one_more, writes}
use Rattle.ba_world_play.proofs.Spent.{call_spends}
use Rattle.ba_world_play.proofs.Unhindered.{append_called}
use Rattle.ba_world_play.specs.Calls.{IsTaken}
use Rattle.ba_world_play.specs.Disks.{DiskFits, IsAtRest}
use Rattle.ba_world_play.specs.Nodes.{NodeCall, append_run, broken_call, call_by_append, disarmed, last_place, running, running_by}
use Rattle.ba_world_play.specs.Reopenings.{IsAboutToAppend, call_armed, failure_keeps, has_all, records_if, records_reopened, stop_keeps}
use Rattle.ba_ports.specs.Disk.{Armament, Torn, fail, stop}
use Rattle.ba_ports.specs.declared.images.Image.{Image}
use Rattle.ba_ports.specs.declared.images.Image.TheVariants as image
use Rattle.ba_ports.specs.declared.requests.Request.{Request}
use Rattle.ba_ports.specs.declared.requests.Request.TheVariants.{Sync, WriteAt}
use Rattle.ba_record.specs.Coding.{InRange, coding}
use Rattle.ba_record.specs.declared.records.Record.{Record}
use Rattle.ba_world_runs.specs.World.{Occasion, WorldNode, is_up}
use Rattle.ba_world_runs.specs.WorldSteps.{effect}

-- ---- what is armed comes after so many more calls

record ComesAfter (more : ℕ) (t : Trouble) (m : MediumValue) : Type 0 where
  runs : m.stopped ≡ None
  armed : m.armed ≡ Some (record { number = length m.calls + suc more; trouble = t })

course_is : (more : ℕ) (t : Trouble) (m : MediumValue) → ComesAfter more t m
    → course m ≡ (if nat_eq (length m.calls + suc more) (length m.calls + 1) then Met t else GoesOn)
course_is more t m comes =
    ap (λ (s : Option Image). course_of s m.armed (length m.calls + 1)) comes.runs
    ∙ ap (λ (a : Option Armed). course_by a (length m.calls + 1)) comes.armed

comes_now : (t : Trouble) (m : MediumValue) → ComesAfter 0 t m → course m ≡ Met t
comes_now t m comes =
    course_is 0 t m comes
    ∙ ap (λ (b : Bool). if b then Met t else GoesOn) (eq-eqb (length m.calls + 1) (length m.calls + 1) refl)

comes_later : (more : ℕ) (t : Trouble) (m : MediumValue) → ComesAfter (suc more) t m → course m ≡ GoesOn
comes_later more t m comes =
    course_is (suc more) t m comes
    ∙ ap (λ (b : Bool). if b then Met t else GoesOn)
    (ne_eqb (length m.calls + suc (suc more)) (length m.calls + 1) (λ same. absurd (omega (arith, same))))

comes_next : (r : Request) (m next : MediumValue) (more : ℕ) (t : Trouble) → ComesAfter (suc more) t m → next.stopped ≡ None
    → next.armed ≡ m.armed → ComesAfter more t (with_call r m next)
comes_next r m next more t comes runs same = record {
  runs = runs;
  armed = same ∙ comes.armed ∙ ap (λ (n : ℕ). Some (record { number = n; trouble = t })) counts;
}
  where
    counts : length m.calls + suc (suc more) ≡ length (with_call r m next).calls + suc more
    counts = omega (arith, length-append m.calls (record { request = r; failed = goes_wrong (course m) } ∷ []))

-- ---- a change, and then a sync

-- what the trouble leaves for an opening to read, where it comes at the change, or at the sync
abbrev at_change : Trouble → Change → List ℕ → List ℕ
at_change Fails x file = file
at_change (Stops i) x file = imaged i x file

abbrev at_sync : Trouble → Change → List ℕ → List ℕ
at_sync Fails x file = imaged image.New x file
at_sync (Stops i) x file = imaged i x file

abbrev image_of : Trouble → Option Image
image_of Fails = None
image_of (Stops i) = Some i

-- the run failed by this trouble, and an opening reads this
record FailsWith (t : Trouble) (file : List ℕ) (made : Bool × MediumValue) : Type 0 where
  failed : made.0 ≡ true
  stopped : made.1.stopped ≡ image_of t
  reads : bytes_of (running made.1) ≡ file

-- the run goes on with these requests, over a quiet disk with this file
record GoesOnBefore (more : ℕ) (t : Trouble) (file : List ℕ) (rest : List Request) (made : Bool × MediumValue) : Type 0 where
  next : MediumValue
  quiet : IsQuiet next file
  comes : ComesAfter more t next
  is : made ≡ run rest next

module _ (r : Request) (x : Change) (asks : Asks r x) (m : MediumValue) (file : List ℕ) (quiet : IsQuiet m file) (t : Trouble)
    (rest : List Request) where
  abbrev first_done : Course → MediumValue
  first_done c = with_call r m (changed_by c m (issued x m))

  abbrev first_made : Course → Bool × MediumValue
  first_made c = unless_failed (goes_wrong c) (first_done c) (run (Sync ∷ rest) (first_done c))

  abbrev waiting : MediumValue
  waiting = first_done GoesOn

  abbrev second_done : Course → MediumValue
  second_done c = with_call Sync waiting (synced_by c waiting)

  abbrev second_made : Course → Bool × MediumValue
  second_made c = unless_failed (goes_wrong c) (second_done c) (run rest (second_done c))

  first_is : run (r ∷ Sync ∷ rest) m ≡ first_made (course m)
  first_is = λ i. unless_failed (asks.meets m i) (asks.makes m i) (run (Sync ∷ rest) (asks.makes m i))

  imaged_is : (i : Image) → all_imaged i (m.pending ++ x ∷ []) m.synced ≡ imaged i x file
  imaged_is i = (λ j. all_imaged i (one_more m.pending x quiet.none j) (quiet.holds j))

  first_reads : (u : Trouble) → FailsWith u (at_change u x file) (first_made (Met u))
  first_reads Fails = record {
    failed = refl;
    stopped = quiet.runs;
    reads = ap (λ (s : Option Image). bytes_of (running_by s (first_done (Met Fails)))) quiet.runs
        ∙ (λ j. all_imaged image.New (quiet.none j) (quiet.holds j));
  }
  first_reads (Stops i) = record { failed = refl; stopped = refl; reads = imaged_is i }

  second_reads : (u : Trouble) → FailsWith u (at_sync u x file) (second_made (Met u))
  second_reads Fails = record {
    failed = refl;
    stopped = quiet.runs;
    reads = ap (λ (s : Option Image). bytes_of (running_by s (second_done (Met Fails)))) quiet.runs ∙ imaged_is image.New;
  }
  second_reads (Stops i) = record { failed = refl; stopped = refl; reads = imaged_is i }

  waits : (more : ℕ) → ComesAfter (suc more) t m → ComesAfter more t waiting
  waits more comes = comes_next r m (issued x m) more t comes quiet.runs refl

  goes_second : (more : ℕ) → ComesAfter (suc more) t m → run (r ∷ Sync ∷ rest) m ≡ second_made (course waiting)
  goes_second more comes = first_is ∙ ap first_made (comes_later more t m comes)

  fails_first : ComesAfter 0 t m → FailsWith t (at_change t x file) (run (r ∷ Sync ∷ rest) m)
  fails_first comes =
      subst (FailsWith t (at_change t x file)) (sym (first_is ∙ ap first_made (comes_now t m comes))) (first_reads t)

  fails_second : ComesAfter 1 t m → FailsWith t (at_sync t x file) (run (r ∷ Sync ∷ rest) m)
  fails_second comes =
      subst (FailsWith t (at_sync t x file)) (sym (goes_second 0 comes ∙ ap second_made (comes_now t waiting (waits 0 comes))))
      (second_reads t)

  passes : (more : ℕ) → ComesAfter (suc (suc more)) t m
      → GoesOnBefore more t (imaged image.New x file) rest (run (r ∷ Sync ∷ rest) m)
  passes more comes =
      let next : ComesAfter (suc more) t waiting = waits (suc more) comes in
      record {
        next = second_done GoesOn;
        quiet = record { runs = quiet.runs; none = refl; holds = imaged_is image.New };
        comes = comes_next Sync waiting (synced_by GoesOn waiting) more t next quiet.runs refl;
        is = goes_second (suc more) comes ∙ ap second_made (comes_later more t waiting next);
      }

-- ---- the four calls of an append

module _ (disk : MediumValue) (records : List Record) (r : Record) (rest : IsAtRest disk records) (in_range : InRange r) (t : Trouble) where
  abbrev file : List ℕ
  file = disk.synced

  abbrev gate : ℕ
  gate = last_place disk

  abbrev behind : List ℕ
  behind = behind_gate (coding r)

  abbrev staged : List ℕ
  staged = file ++ behind

  frame : IsFrameOf behind r
  frame = record { in_range = in_range; bytes = refl }

  bytes_synced : bytes_of disk ≡ file
  bytes_synced = ap (λ (changes : List Change). all_imaged image.New changes file) rest.settled

  place : gate + 1 ≡ length file
  place =
      let long : 16 < length file = long_enough file rest.journal.made in
      let same : length (bytes_of disk) ≡ length file = ap (λ (l : List ℕ). length l) bytes_synced in
      omega (arith, long, same)

  abbrev frame_change : Change
  frame_change = change.Write (gate + 1) behind

  abbrev gate_change : Change
  gate_change = change.Write gate (1 ∷ [])

  abbrev gate_requests : List Request
  gate_requests = WriteAt gate (1 ∷ []) ∷ Sync ∷ []

  -- ---- which records the files stand for

  abbrev Stands : List ℕ → Type 0
  Stands f = StandsFor f records

  file_stands : Stands file
  file_stands = inr (0 ∷ [], rest.journal)

  frame_stands : (i : Image) → Stands (imaged i frame_change file)
  frame_stands i =
      stage_crash file records gate rest.journal place (length behind) (λ f. f ≡ file) (λ f. Torn (gate + 1) (length behind) file f)
      (λ f is. is) (λ f left. (file, refl, left)) (imaged i frame_change file) (left_of_one i frame_change file)

  staged_stands : Stands staged
  staged_stands = behind_it file records (seat_of file records rest.journal) behind

  staged_is : imaged image.New frame_change file ≡ staged
  staged_is =
      put_within (gate + 1) behind file (omega (arith, place)) ∙ written_behind file records gate rest.journal place behind

  inside : gate ≤ length staged
  inside = omega (arith, length-staged file records gate rest.journal place behind)

  -- the file with another byte for its last gate
  size : length (before_last file) ≡ gate
  size =
      omega (
        arith,
        place,
        ap length (closed_again file records (seat_of file records rest.journal)),
        length-append (before_last file) (0 ∷ []),
      )

  staged_parts : staged ≡ before_last file ++ 0 ∷ behind
  staged_parts =
      ap (λ (l : List ℕ). l ++ behind) (closed_again file records (seat_of file records rest.journal))
      ∙ append_assoc (before_last file) (0 ∷ []) behind

  ahead : take gate staged ≡ before_last file
  ahead = ap (λ (l : List ℕ). take gate l) staged_parts ∙ take_at (before_last file) (0 ∷ behind) gate size

  filled_is : put gate (255 ∷ []) staged ≡ before_last file ++ 255 ∷ behind
  filled_is =
      put_within gate (255 ∷ []) staged inside
      ∙ ap (λ (l : List ℕ). l ++ (255 ∷ []) ++ drop (gate + 1) staged) ahead
      ∙ ap (λ (l : List ℕ). before_last file ++ (255 ∷ []) ++ l) (drop_at file behind (gate + 1) (sym place))
      ∙ append_assoc (before_last file) (255 ∷ []) behind

  half_is : put gate [] staged ≡ staged
  half_is =
      put_within gate [] staged inside
      ∙ ap (λ (l : List ℕ). l ++ drop (gate + 0) staged) (append-nil (take gate staged))
      ∙ ap (λ (n : ℕ). take gate staged ++ drop n staged) same ∙ take-append-drop gate staged
    where
      same : gate + 0 ≡ gate
      same = omega arith

  -- the gate that is written
  gate_is : put gate (1 ∷ []) staged ≡ before_last file ++ 1 ∷ behind
  gate_is = put_within gate (1 ∷ []) staged inside ∙ written_gate file records gate rest.journal place behind

  gate_stands : StandsFor (put gate (1 ∷ []) staged) (records ++ r ∷ [])
  gate_stands =
      subst (λ (f : List ℕ). StandsFor f (records ++ r ∷ [])) (sym gate_is)
      (inr (0 ∷ [], after file records gate rest.journal place r behind frame))

  imaged_stands : (i : Image) → StandsFor (imaged i gate_change staged) (records_if (has_all i) records r)
  imaged_stands image.Old = staged_stands
  imaged_stands image.New = gate_stands
  imaged_stands image.Half = subst Stands (sym half_is) staged_stands
  imaged_stands image.Filled =
      subst Stands (sym filled_is) (another file records (seat_of file records rest.journal) 255 behind (omega arith))

  -- ---- where the trouble comes

  abbrev made : Bool × MediumValue
  made = append_run disk r

  quiet : IsQuiet disk file
  quiet = record { runs = rest.runs; none = rest.settled; holds = refl }

  -- after the first half
  halfway : (more : ℕ) → ComesAfter (suc (suc more)) t disk → GoesOnBefore more t (imaged image.New frame_change file) gate_requests made
  halfway more comes =
      passes (WriteAt (gate + 1) behind) frame_change (writes (gate + 1) behind) disk file quiet t gate_requests more comes

  quiet_halfway : (next : MediumValue) → IsQuiet next (imaged image.New frame_change file) → IsQuiet next staged
  quiet_halfway next q = subst (IsQuiet next) staged_is q

  at_first : ComesAfter 0 t disk → FailsWith t (at_change t frame_change file) made
  at_first comes =
      fails_first (WriteAt (gate + 1) behind) frame_change (writes (gate + 1) behind) disk file quiet t gate_requests comes

  at_second : ComesAfter 1 t disk → FailsWith t (at_sync t frame_change file) made
  at_second comes =
      fails_second (WriteAt (gate + 1) behind) frame_change (writes (gate + 1) behind) disk file quiet t gate_requests comes

  at_third : ComesAfter 2 t disk → FailsWith t (at_change t gate_change staged) made
  at_third comes =
      let half = halfway 0 comes in
      subst (FailsWith t (at_change t gate_change staged)) (sym half.is)
      (fails_first (WriteAt gate (1 ∷ [])) gate_change (writes gate (1 ∷ [])) half.next staged (quiet_halfway half.next half.quiet) t []
      half.comes)

  at_fourth : ComesAfter 3 t disk → FailsWith t (at_sync t gate_change staged) made
  at_fourth comes =
      let half = halfway 1 comes in
      subst (FailsWith t (at_sync t gate_change staged)) (sym half.is)
      (fails_second (WriteAt gate (1 ∷ [])) gate_change (writes gate (1 ∷ [])) half.next staged (quiet_halfway half.next half.quiet) t []
      half.comes)

  -- and where it doesn't come, the machine runs on
  beyond : (more : ℕ) → ComesAfter (suc (suc (suc (suc more)))) t disk → (made.0 ≡ false) × (made.1.stopped ≡ None)
  beyond more comes =
      let half = halfway (suc (suc more)) comes in
      let whole = passes (WriteAt gate (1 ∷ [])) gate_change (writes gate (1 ∷ [])) half.next staged
      (quiet_halfway half.next half.quiet) t [] more half.comes in
      let is : made ≡ (false, whole.next) = half.is ∙ whole.is in
      (ap (λ (x : Bool × MediumValue). x.0) is, ap (λ (x : Bool × MediumValue). x.1.stopped) is ∙ whole.quiet.runs)

-- ---- what an opening finds

-- the trouble at this call, from 1, leaves the record
abbrev trouble_keeps : Trouble → ℕ → Bool
trouble_keeps Fails call = failure_keeps call
trouble_keeps (Stops i) call = stop_keeps call i

-- the append failed by this trouble, and an opening reads a file that stands for these records
record Breaks (t : Trouble) (records : List Record) (made : Bool × MediumValue) : Type 0 where
  file : List ℕ
  fails : FailsWith t file made
  stands : StandsFor file records

module _ (disk : MediumValue) (records : List Record) (r : Record) (rest : IsAtRest disk records) (in_range : InRange r) where
  abbrev frame_after : Change
  frame_after = change.Write (last_place disk + 1) (behind_gate (coding r))

  abbrev gate_after : Change
  gate_after = change.Write (last_place disk) (1 ∷ [])

  abbrev with_frame : List ℕ
  with_frame = disk.synced ++ behind_gate (coding r)

  frame_left : (t : Trouble) → StandsFor (at_change t frame_after disk.synced) records
  frame_left Fails = file_stands disk records r rest in_range Fails
  frame_left (Stops i) = frame_stands disk records r rest in_range Fails i

  frame_synced : (t : Trouble) → StandsFor (at_sync t frame_after disk.synced) records
  frame_synced Fails = frame_stands disk records r rest in_range Fails image.New
  frame_synced (Stops i) = frame_stands disk records r rest in_range Fails i

  gate_left : (t : Trouble) → StandsFor (at_change t gate_after with_frame) (records_if (trouble_keeps t 3) records r)
  gate_left Fails = staged_stands disk records r rest in_range Fails
  gate_left (Stops i) = imaged_stands disk records r rest in_range Fails i

  gate_synced : (t : Trouble) → StandsFor (at_sync t gate_after with_frame) (records_if (trouble_keeps t 4) records r)
  gate_synced Fails = gate_stands disk records r rest in_range Fails
  gate_synced (Stops i) = imaged_stands disk records r rest in_range Fails i

  keeps_none : (t : Trouble) (call : ℕ) → call < 3 → records_if (trouble_keeps t call) records r ≡ records
  keeps_none t zero few = by_trouble t
    where
      by_trouble : (t : Trouble) → records_if (trouble_keeps t 0) records r ≡ records
      by_trouble Fails = refl
      by_trouble (Stops i) = refl
  keeps_none t (suc zero) few = by_trouble t
    where
      by_trouble : (t : Trouble) → records_if (trouble_keeps t 1) records r ≡ records
      by_trouble Fails = refl
      by_trouble (Stops i) = refl
  keeps_none t (suc (suc zero)) few = by_trouble t
    where
      by_trouble : (t : Trouble) → records_if (trouble_keeps t 2) records r ≡ records
      by_trouble Fails = refl
      by_trouble (Stops i) = refl
  keeps_none t (suc (suc (suc call))) few = absurd (omega (arith, few))

  -- where the trouble comes at this call, of the four from 1
  broken_at : (t : Trouble) (call : ℕ) → 1 ≤ call → call ≤ 4 → ((more : ℕ) → call ≡ suc more → ComesAfter more t disk)
      → Breaks t (records_if (trouble_keeps t call) records r) (append_run disk r)
  broken_at t zero from to comes = absurd (omega (arith, from))
  broken_at t (suc zero) from to comes = record {
    file = at_change t frame_after disk.synced;
    fails = at_first disk records r rest in_range t (comes 0 refl);
    stands = subst (StandsFor (at_change t frame_after disk.synced)) (sym (keeps_none t 1 (omega arith))) (frame_left t);
  }
  broken_at t (suc (suc zero)) from to comes = record {
    file = at_sync t frame_after disk.synced;
    fails = at_second disk records r rest in_range t (comes 1 refl);
    stands = subst (StandsFor (at_sync t frame_after disk.synced)) (sym (keeps_none t 2 (omega arith))) (frame_synced t);
  }
  broken_at t (suc (suc (suc zero))) from to comes = record {
    file = at_change t gate_after with_frame;
    fails = at_third disk records r rest in_range t (comes 2 refl);
    stands = gate_left t;
  }
  broken_at t (suc (suc (suc (suc zero)))) from to comes = record {
    file = at_sync t gate_after with_frame;
    fails = at_fourth disk records r rest in_range t (comes 3 refl);
    stands = gate_synced t;
  }
  broken_at t (suc (suc (suc (suc (suc call))))) from to comes = absurd (omega (arith, to))

-- ---- the node

abbrev shown_of : Trouble → Outcome
shown_of Fails = outcome.Disk
shown_of (Stops i) = outcome.Stopped

-- the call shows the trouble, and an opening reads this file
record ShowsTrouble (t : Trouble) (read : List ℕ) (call : NodeCall) : Type 0 where
  shown : call.shown ≡ Some (shown_of t)
  reads : bytes_of (running call.after.disk) ≡ read

disarmed_reads : (disk : MediumValue) (stopped : Option Image)
    → bytes_of (running_by stopped (disarmed disk)) ≡ bytes_of (running_by stopped disk)
disarmed_reads disk None = refl
disarmed_reads disk (Some image) = refl

shows_broken : (n : WorldNode) (o : Occasion) (t : Trouble) (read : List ℕ) (disk : MediumValue)
    → bytes_of (running disk) ≡ read → ShowsTrouble t read (broken_call n o disk (image_of t))
shows_broken n o Fails read disk reads = record { shown = refl; reads = disarmed_reads disk disk.stopped ∙ reads }
shows_broken n o (Stops i) read disk reads = record { shown = refl; reads = disarmed_reads disk disk.stopped ∙ reads }

shows_append : (n : WorldNode) (o : Occasion) (t : Trouble) (read : List ℕ) (made : Bool × MediumValue) → FailsWith t read made
    → ShowsTrouble t read (call_by_append n o made)
shows_append n o t read (true, disk) fails =
    subst (λ (s : Option Image). ShowsTrouble t read (broken_call n o disk s)) (sym fails.stopped)
    (shows_broken n o t read disk fails.reads)
shows_append n o t read (false, disk) fails = absurd (true≢false (sym fails.failed))

-- armed for a call of the append
abbrev armament_of : Trouble → ℕ → Armament
armament_of Fails call = fail call
armament_of (Stops i) call = stop call i

armed_is : (t : Trouble) (call : ℕ) (disk : MediumValue)
    → (rearmed_medium (armament_of t call) disk).armed ≡ Some (record { number = length disk.calls + call; trouble = t })
armed_is Fails call disk = refl
armed_is (Stops i) call disk = refl

module _ (n : WorldNode) (disk : MediumValue) (o : Occasion) (r : Record) (about : IsAboutToAppend n disk o r) (t : Trouble) (k : ℕ) where
  abbrev armament : Armament
  armament = armament_of t k

  abbrev ready : MediumValue
  ready = rearmed_medium armament disk

  abbrev call : NodeCall
  call = call_armed armament n disk o

  fits_ready : DiskFits n ready
  fits_ready = arming_fits armament n disk about.fits

  rest_ready : IsAtRest ready n.records
  rest_ready = (fits_ready.rests about.up).0

  comes_ready : (more : ℕ) → k ≡ suc more → ComesAfter more t ready
  comes_ready more is = record {
    runs = rest_ready.runs;
    armed = armed_is t k disk ∙ ap (λ (c : ℕ). Some (record { number = length disk.calls + c; trouble = t })) is;
  }

  call_is : call ≡ call_by_append n o (append_run ready r)
  call_is = append_called n ready o r false about.up about.writes about.within

  written_in_range : n.mode ≡ is_up → (x : Record) → (effect n.state o).written ≡ Some x → InRange x
  written_in_range up x writes =
      let same : Some r ≡ Some x = sym about.writes ∙ writes in
      let one : r ≡ x = cc in
      subst InRange one about.in_range

  fits_called : DiskFits call.after.node call.after.disk
  fits_called = call_fits n o ready fits_ready written_in_range

  -- the call shows the trouble, and an opening finds these records
  troubled : 1 ≤ k → k ≤ 4
      → (call.shown ≡ Some (shown_of t)) × (records_reopened call ≡ records_if (trouble_keeps t k) n.records r)
  troubled from to =
      let broken = broken_at ready n.records r rest_ready about.in_range t k from to comes_ready in
      let shows : ShowsTrouble t broken.file call =
      subst (ShowsTrouble t broken.file) (sym call_is) (shows_append n o t broken.file (append_run ready r) broken.fails) in
      let records : List Record = records_if (trouble_keeps t k) n.records r in
      let stands : StandsFor (bytes_of (running call.after.disk)) records =
      subst (λ (f : List ℕ). StandsFor f records) (sym shows.reads) broken.stands in (
        shows.shown,
        opening_reads call.after.node call.after.disk records fits_called.holds stands
            (openings_go_well call.after.node call.after.disk (call_spends n ready o)),
      )

  -- past the four calls it doesn't come
  untroubled : 4 < k → IsTaken n o call
  untroubled past =
      let more : ℕ = k - 5 in
      let ran = beyond ready n.records r rest_ready about.in_range t more
      (comes_ready (suc (suc (suc (suc more)))) (omega (arith, past))) in
      subst (IsTaken n o) (sym call_is) (whole_append (append_run ready r) ran.0 ran.1)
    where
      whole_append : (made : Bool × MediumValue) → made.0 ≡ false → made.1.stopped ≡ None → IsTaken n o (call_by_append n o made)
      whole_append (false, after) well runs =
          record { shown = refl; node = refl; disk = record { unarmed = refl; running = runs } }
      whole_append (true, after) well runs = absurd (true≢false well)

pub stopped_reopened : (n : WorldNode) (disk : MediumValue) (o : Occasion) (r : Record) (k : ℕ) (i : Image)
    → IsAboutToAppend n disk o r → 1 ≤ k → k ≤ 4
    → ((call_armed (stop k i) n disk o).shown ≡ Some outcome.Stopped)
    × (records_reopened (call_armed (stop k i) n disk o) ≡ records_if (stop_keeps k i) n.records r)
stopped_reopened n disk o r k i about = troubled n disk o r about (Stops i) k

pub failed_reopened : (n : WorldNode) (disk : MediumValue) (o : Occasion) (r : Record) (k : ℕ)
    → IsAboutToAppend n disk o r → 1 ≤ k → k ≤ 4
    → ((call_armed (fail k) n disk o).shown ≡ Some outcome.Disk)
    × (records_reopened (call_armed (fail k) n disk o) ≡ records_if (failure_keeps k) n.records r)
failed_reopened n disk o r k about = troubled n disk o r about Fails k

pub stopped_later : (n : WorldNode) (disk : MediumValue) (o : Occasion) (r : Record) (k : ℕ) (i : Image)
    → IsAboutToAppend n disk o r → 4 < k → IsTaken n o (call_armed (stop k i) n disk o)
stopped_later n disk o r k i about = untroubled n disk o r about (Stops i) k

pub failed_later : (n : WorldNode) (disk : MediumValue) (o : Occasion) (r : Record) (k : ℕ)
    → IsAboutToAppend n disk o r → 4 < k → IsTaken n o (call_armed (fail k) n disk o)
failed_later n disk o r k about = untroubled n disk o r about Fails k

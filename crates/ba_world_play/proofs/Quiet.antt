-- What the requests of an append and of a load make of a disk in memory, wherever one of them fails or the machine stops; for the law
-- that disks hold their nodes.
use Rattle.std.proofs.Common.{◌≡◌, ◌≢◌, ◌⊎◌, ◌+◌, ◌<◌, ℕ, inl, inr, Bool, true, false, List, [], ◌∷◌, ◌++◌, length, take, None, refl, sym}
use Rattle.std.proofs.Common.{◌∙◌, ap, subst, arith}
use Rattle.ba_journal.proofs.Ends.{Gated, at_rest_with, closed_is_zero, cut_done, cut_stands, gate_stands, gate_written, gated, length-with}
use Rattle.ba_journal.proofs.Ends.{own, stands_with}
use Rattle.ba_journal.proofs.FrameWrites.{after, gate_crash, length-staged, stage_crash, written_behind, written_gate}
use Rattle.ba_journal.proofs.Leading.{long_enough}
use Rattle.ba_journal.proofs.OneMore.{behind_it, seat_of}
use Rattle.ba_journal.proofs.ReadingOf.{stands_computed}
use Rattle.ba_journal.specs.Frames.{Holds, StandsFor}
use Rattle.ba_journal.specs.Journals.{AtRest, StandsWithOrWithout, before_last, behind_gate}
use Rattle.ba_journal.specs.Loads.{repairing, settling}
use Rattle.ba_journal.specs.Readings.{Finds, ReadsAs, reading_of, records_found}
use Rattle.ba_journal.specs.inside.Appending.{IsFrameOf}
use Rattle.ba_journal.specs.declared.readings.Reading.{Reading}
use Rattle.ba_journal.specs.declared.readings.Reading.TheVariants.{Fresh, Found}
use Rattle.ba_journal.specs.declared.readings.Tail.{Tail}
use Rattle.ba_journal.specs.declared.readings.Tail.TheVariants as tail
use Rattle.ba_ports_memory.specs.DiskValue.{LeftOf, LeftOfOne, MayBeLeft, MediumValue, all_imaged, bytes_of, changed_by, course, fails}
use Rattle.ba_ports_memory.specs.DiskValue.{goes_wrong, imaged, issued, with_call, put, run, settled, synced_by, unless_failed}
use Rattle.ba_ports_memory.specs.DiskValue as disks
use Rattle.ba_ports_memory.specs.declared.changes.Change.{Change}
use Rattle.ba_ports_memory.specs.declared.changes.Change.TheVariants as change
use Rattle.ba_ports_memory.specs.declared.media.Course.{Course}
use Rattle.ba_ports_memory.specs.declared.media.Course.TheVariants.{GoesOn, Met, Refused}
use Rattle.ba_ports_memory.specs.declared.media.Trouble.TheVariants.{Fails, Stops}
use Rattle.ba_ports_memory.specs.inside.DiskLaws.{put_within}
use Rattle.ba_world_play.specs.Disks.{IsAtRest}
use Rattle.ba_world_play.specs.Nodes.{append_run, last_place, load_run}
use Rattle.ba_ports.specs.Disk.{CutShort, Torn}
use Rattle.ba_ports.specs.declared.images.Image.TheVariants as image
use Rattle.ba_ports.specs.declared.requests.Request.{Request}
use Rattle.ba_ports.specs.declared.requests.Request.TheVariants.{Cut, Sync, WriteAt}
use Rattle.ba_record.specs.Coding.{InRange, coding}
use Rattle.ba_record.specs.declared.records.Record.{Record}

-- ---- a machine that runs, and on whose disk nothing is pending

pub record IsQuiet (m : MediumValue) (file : List ℕ) : Type 0 where
  pub runs : m.stopped ≡ None
  pub none : m.pending ≡ []
  pub holds : m.synced ≡ file

-- a call of the run failed, and whatever may be left passes this test
record Breaks (P : List ℕ → Type 0) (made : Bool × MediumValue) : Type 0 where
  failed : made.0 ≡ true
  left : (c : List ℕ) → MayBeLeft made.1 c → P c

-- the run goes on with these requests, over a quiet disk with this file
record GoesOnWith (file : List ℕ) (rest : List Request) (made : Bool × MediumValue) : Type 0 where
  next : MediumValue
  quiet : IsQuiet next file
  is : made ≡ run rest next

-- what may be left of a quiet disk, and of one with one change pending
left_alone : (P : List ℕ → Type 0) (m : MediumValue) (file : List ℕ) → m.pending ≡ [] → m.synced ≡ file → P file → (c : List ℕ)
    → MayBeLeft m c → P c
left_alone P m file none holds still c left =
    let bare : LeftOf [] m.synced c = subst (λ (changes : List Change). LeftOf changes m.synced c) none left in
    subst P (sym (bare ∙ holds)) still

left_changed : (P : List ℕ → Type 0) (m : MediumValue) (file : List ℕ) (x : Change) → m.pending ≡ x ∷ [] → m.synced ≡ file
    → ((c : List ℕ) → LeftOfOne x file c → P c) → (c : List ℕ) → MayBeLeft m c → P c
left_changed P m file x one holds torn c left =
    let bare : LeftOf (x ∷ []) m.synced c = subst (λ (changes : List Change). LeftOf changes m.synced c) one left in
    let there : LeftOf (x ∷ []) file c = subst (λ (f : List ℕ). LeftOf (x ∷ []) f c) holds bare in
    subst P (sym there.2) (torn there.0 there.1)

pub one_more : (changes : List Change) (x : Change) → changes ≡ [] → changes ++ x ∷ [] ≡ x ∷ []
one_more changes x none = ap (λ (l : List Change). l ++ x ∷ []) none

-- ---- a change, and then a sync

-- the change is asked for by this request
pub record Asks (r : Request) (x : Change) : Type 0 where
  pub makes : (m : MediumValue) → disks.after r m ≡ with_call r m (changed_by (course m) m (issued x m))
  pub meets : (m : MediumValue) → fails r m ≡ goes_wrong (course m)

pub writes : (place : ℕ) (bytes : List ℕ) → Asks (WriteAt place bytes) (change.Write place bytes)
writes place bytes = record { makes = λ m. refl; meets = λ m. refl }

cuts : (len : ℕ) → Asks (Cut len) (change.Cut len)
cuts len = record { makes = λ m. refl; meets = λ m. refl }

module _ (r : Request) (x : Change) (asks : Asks r x) (m : MediumValue) (file : List ℕ) (quiet : IsQuiet m file)
    (P : List ℕ → Type 0) (still : P file) (torn : (c : List ℕ) → LeftOfOne x file c → P c) (rest : List Request) where
  abbrev Through : Bool × MediumValue → Type 0
  Through made = Breaks P made ⊎ GoesOnWith (imaged image.New x file) rest made

  abbrev first_done : Course → MediumValue
  first_done c = with_call r m (changed_by c m (issued x m))

  abbrev first_made : Course → Bool × MediumValue
  first_made c = unless_failed (goes_wrong c) (first_done c) (run (Sync ∷ rest) (first_done c))

  -- the change was issued, and is pending
  abbrev waiting : MediumValue
  waiting = first_done GoesOn

  pending_is : m.pending ++ x ∷ [] ≡ x ∷ []
  pending_is = one_more m.pending x quiet.none

  bytes_are : bytes_of waiting ≡ imaged image.New x file
  bytes_are = ap (λ (changes : List Change). all_imaged image.New changes m.synced) pending_is
      ∙ ap (λ (f : List ℕ). imaged image.New x f) quiet.holds

  abbrev second_done : Course → MediumValue
  second_done c = with_call Sync waiting (synced_by c waiting)

  abbrev second_made : Course → Bool × MediumValue
  second_made c = unless_failed (goes_wrong c) (second_done c) (run rest (second_done c))

  by_sync : (c : Course) → Through (second_made c)
  by_sync GoesOn = inr (record {
    next = second_done GoesOn;
    quiet = record { runs = quiet.runs; none = refl; holds = bytes_are };
    is = refl;
  })
  by_sync Refused = inl (record {
    failed = refl;
    left = left_changed P (second_done Refused) file x pending_is quiet.holds torn;
  })
  by_sync (Met Fails) = inl (record {
    failed = refl;
    left = left_changed P (second_done (Met Fails)) file x pending_is quiet.holds torn;
  })
  by_sync (Met (Stops i)) = inl (record {
    failed = refl;
    left = left_changed P (second_done (Met (Stops i))) file x pending_is quiet.holds torn;
  })

  by_change : (c : Course) → Through (first_made c)
  by_change GoesOn = by_sync (course waiting)
  by_change Refused = inl (record {
    failed = refl;
    left = left_alone P (first_done Refused) file quiet.none quiet.holds still;
  })
  by_change (Met Fails) = inl (record {
    failed = refl;
    left = left_alone P (first_done (Met Fails)) file quiet.none quiet.holds still;
  })
  by_change (Met (Stops i)) = inl (record {
    failed = refl;
    left = left_changed P (first_done (Met (Stops i))) file x pending_is quiet.holds torn;
  })

  through : Through (run (r ∷ Sync ∷ rest) m)
  through =
      let is : run (r ∷ Sync ∷ rest) m ≡ first_made (course m) =
      (λ i. unless_failed (asks.meets m i) (asks.makes m i) (run (Sync ∷ rest) (asks.makes m i))) in
      subst Through (sym is) (by_change (course m))

-- ---- an append

-- what the calls of an append made of a disk at rest
pub data Appends (records : List Record) (r : Record) (made : Bool × MediumValue) : Type 0 where
  whole : made.0 ≡ false → IsAtRest made.1 (records ++ r ∷ []) → Appends records r made
  broken : made.0 ≡ true → ((c : List ℕ) → MayBeLeft made.1 c → StandsWithOrWithout records r c) → Appends records r made

module _ (disk : MediumValue) (records : List Record) (r : Record) (rest : IsAtRest disk records) (in_range : InRange r) where
  abbrev file : List ℕ
  file = disk.synced

  abbrev gate : ℕ
  gate = last_place disk

  abbrev behind : List ℕ
  behind = behind_gate (coding r)

  frame : IsFrameOf behind r
  frame = record { in_range = in_range; bytes = refl }

  bytes_synced : bytes_of disk ≡ file
  bytes_synced = ap (λ (changes : List Change). all_imaged image.New changes file) rest.settled

  place : gate + 1 ≡ length file
  place =
      let long : 16 < length file = long_enough file rest.journal.made in
      let same : length (bytes_of disk) ≡ length file = ap (λ (l : List ℕ). length l) bytes_synced in
      omega (arith, long, same)

  torn_behind : (c : List ℕ) → Torn (gate + 1) (length behind) file c → StandsWithOrWithout records r c
  torn_behind c torn = inl (stage_crash file records gate rest.journal place (length behind) (λ f. f ≡ file)
      (λ f. Torn (gate + 1) (length behind) file f) (λ f is. is) (λ f left. (file, refl, left)) c torn)

  torn_gate : (c : List ℕ) → Torn gate 1 (file ++ behind) c → StandsWithOrWithout records r c
  torn_gate c torn = gate_crash file records gate rest.journal place r behind frame (λ f. f ≡ file ++ behind)
      (λ f. Torn gate 1 (file ++ behind) f) (λ f is. is) (λ f left. (file ++ behind, refl, left)) c torn

  stands_now : StandsWithOrWithout records r file
  stands_now = inl (inr (0 ∷ [], rest.journal))

  abbrev gate_request : List Request
  gate_request = WriteAt gate (1 ∷ []) ∷ Sync ∷ []

  staged : put (gate + 1) behind file ≡ file ++ behind
  staged = put_within (gate + 1) behind file (omega (arith, place)) ∙ written_behind file records gate rest.journal place behind

  opened : put gate (1 ∷ []) (file ++ behind) ≡ before_last file ++ 1 ∷ behind
  opened =
      put_within gate (1 ∷ []) (file ++ behind) (omega (arith, length-staged file records gate rest.journal place behind))
      ∙ written_gate file records gate rest.journal place behind

  -- what stands behind a gate that is 0 doesn't count
  staged_stands : StandsWithOrWithout records r (file ++ behind)
  staged_stands = inl (behind_it file records (seat_of file records rest.journal) behind)

  -- the first half went well
  half_done : (made : Bool × MediumValue) → GoesOnWith (put (gate + 1) behind file) gate_request made → Appends records r made
  half_done made half =
      let q : IsQuiet half.next (file ++ behind) = subst (IsQuiet half.next) staged half.quiet in
      subst (Appends records r) (sym half.is) (elim (through (WriteAt gate (1 ∷ [])) (change.Write gate (1 ∷ [])) (writes gate (1 ∷ []))
      half.next (file ++ behind) q (StandsWithOrWithout records r)
      staged_stands torn_gate []) [
        | inl breaks ↦ broken breaks.failed breaks.left
        | inr last ↦ all_done (run gate_request half.next) last
      ])
    where
      all_done : (made : Bool × MediumValue) → GoesOnWith (put gate (1 ∷ []) (file ++ behind)) [] made → Appends records r made
      all_done made last =
          let q : IsQuiet last.next (before_last file ++ 1 ∷ behind) = subst (IsQuiet last.next) opened last.quiet in
          subst (Appends records r) (sym last.is) (whole refl (record {
            runs = q.runs;
            settled = q.none;
            journal = subst (λ (f : List ℕ). AtRest f (records ++ r ∷ [])) (sym q.holds)
                (after file records gate rest.journal place r behind frame);
          }))

  pub append_keeps : Appends records r (append_run disk r)
  append_keeps =
      elim (through (WriteAt (gate + 1) behind) (change.Write (gate + 1) behind) (writes (gate + 1) behind) disk file
      (record { runs = rest.runs; none = rest.settled; holds = refl }) (StandsWithOrWithout records r) stands_now torn_behind
      gate_request) [
        | inl breaks ↦ broken breaks.failed breaks.left
        | inr half ↦ half_done (append_run disk r) half
      ]

-- ---- a load

-- what the calls of a load made of a disk whose file stands for these records
pub data Loads (disk : MediumValue) (records : List Record) (made : Bool × MediumValue) : Type 0 where
  loaded : made.0 ≡ false → IsAtRest made.1 records → Loads disk records made
  unloaded : made.0 ≡ true → ((c : List ℕ) → MayBeLeft made.1 c → MayBeLeft disk c ⊎ StandsFor c records) → Loads disk records made

-- what those of a repair made of a quiet disk
data Repairs (records : List Record) (made : Bool × MediumValue) : Type 0 where
  repaired : made.0 ≡ false → IsAtRest made.1 records → Repairs records made
  stopped : made.0 ≡ true → ((c : List ℕ) → MayBeLeft made.1 c → StandsFor c records) → Repairs records made

at_rest_on : (m : MediumValue) (now : List ℕ) (records : List Record) → IsQuiet m now → AtRest now records → IsAtRest m records
at_rest_on m now records q rest = record {
  runs = q.runs;
  settled = q.none;
  journal = subst (λ (f : List ℕ). AtRest f records) (sym q.holds) rest;
}

module _ (file : List ℕ) (records : List Record) (gate : ℕ) (end : Tail) (at : Gated file records gate end) (m : MediumValue)
    (quiet : IsQuiet m file) where
  abbrev stem : List ℕ
  stem = own file records at.byte at.behind gate at.holds at.place

  stands_here : StandsFor file records
  stands_here = inr (at.byte ∷ at.behind, at.holds)

  cut_torn : (c : List ℕ) → CutShort (gate + 1) file c → StandsFor c records
  cut_torn = cut_stands file records at.byte at.behind gate at.holds at.place

  cut_is : take (gate + 1) file ≡ stem ++ at.byte ∷ []
  cut_is = cut_done file records at.byte at.behind gate at.holds at.place

  -- what stands behind the gate is cut, and these requests follow
  cut_away : (rest : List Request) → Breaks (λ c. StandsFor c records) (run (Cut (gate + 1) ∷ Sync ∷ rest) m)
      ⊎ GoesOnWith (take (gate + 1) file) rest (run (Cut (gate + 1) ∷ Sync ∷ rest) m)
  cut_away rest =
      through (Cut (gate + 1)) (change.Cut (gate + 1)) (cuts (gate + 1)) m file quiet (λ c. StandsFor c records) stands_here cut_torn rest

  repair_closed : at.byte ≡ 0 → Repairs records (run (Cut (gate + 1) ∷ Sync ∷ []) m)
  repair_closed zero_is = elim (cut_away []) [
    | inl breaks ↦ stopped breaks.failed breaks.left
    | inr last ↦ closed_done (run (Cut (gate + 1) ∷ Sync ∷ []) m) last
  ]
    where
      closed_done : (made : Bool × MediumValue) → GoesOnWith (take (gate + 1) file) [] made → Repairs records made
      closed_done made last =
          let is : take (gate + 1) file ≡ stem ++ 0 ∷ [] = cut_is ∙ ap (λ (n : ℕ). stem ++ n ∷ []) zero_is in
          let q : IsQuiet last.next (stem ++ 0 ∷ []) = subst (IsQuiet last.next) is last.quiet in
          subst (Repairs records) (sym last.is) (repaired refl (at_rest_on last.next (stem ++ 0 ∷ []) records q
          (at_rest_with file records at.byte at.behind gate at.holds at.place)))

  abbrev gate_requests : List Request
  gate_requests = WriteAt gate (0 ∷ []) ∷ Sync ∷ []

  shut_gate : put gate (0 ∷ []) (stem ++ at.byte ∷ []) ≡ stem ++ 0 ∷ []
  shut_gate =
      let long : length (stem ++ at.byte ∷ []) ≡ gate + 1 = length-with file records at.byte at.behind gate at.holds at.place at.byte in
      put_within gate (0 ∷ []) (stem ++ at.byte ∷ []) (omega (arith, long))
      ∙ gate_written file records at.byte at.behind gate at.holds at.place

  repair_open : Repairs records (run (Cut (gate + 1) ∷ Sync ∷ gate_requests) m)
  repair_open = elim (cut_away gate_requests) [
    | inl breaks ↦ stopped breaks.failed breaks.left
    | inr half ↦ half_repaired (run (Cut (gate + 1) ∷ Sync ∷ gate_requests) m) half
  ]
    where
      gate_done : (made : Bool × MediumValue) → GoesOnWith (put gate (0 ∷ []) (stem ++ at.byte ∷ [])) [] made → Repairs records made
      gate_done made last =
          let q : IsQuiet last.next (stem ++ 0 ∷ []) = subst (IsQuiet last.next) shut_gate last.quiet in
          subst (Repairs records) (sym last.is) (repaired refl (at_rest_on last.next (stem ++ 0 ∷ []) records q
          (at_rest_with file records at.byte at.behind gate at.holds at.place)))

      half_repaired : (made : Bool × MediumValue) → GoesOnWith (take (gate + 1) file) gate_requests made → Repairs records made
      half_repaired made half =
          let q : IsQuiet half.next (stem ++ at.byte ∷ []) = subst (IsQuiet half.next) cut_is half.quiet in
          subst (Repairs records) (sym half.is) (elim (through (WriteAt gate (0 ∷ [])) (change.Write gate (0 ∷ [])) (writes gate (0 ∷ []))
          half.next (stem ++ at.byte ∷ []) q (λ c. StandsFor c records)
          (stands_with file records at.byte at.behind gate at.holds at.place at.byte)
          (gate_stands file records at.byte at.behind gate at.holds at.place) []) [
            | inl breaks ↦ stopped breaks.failed breaks.left
            | inr last ↦ gate_done (run gate_requests half.next) last
          ])

-- a file whose end is a gate that is 0 needs nothing
repair_none : (now : List ℕ) (records : List Record) (end : ℕ) (m : MediumValue) → IsQuiet m now → Finds now records end tail.AtRest
    → Repairs records (run [] m)
repair_none now records end m quiet found =
    let rest : AtRest now records = subst (Holds now records) found.3 found.1 in
    repaired refl (at_rest_on m now records quiet rest)

repair_by : (file : List ℕ) (records : List Record) (gate : ℕ) (end : Tail) (m : MediumValue) → IsQuiet m file
    → Finds file records gate end → Repairs records (run (repairing gate end) m)
repair_by file records gate tail.AtRest m quiet found = repair_none file records gate m quiet found
repair_by file records gate tail.Closed m quiet found =
    let at = gated file records gate tail.Closed found in
    repair_closed file records gate tail.Closed at m quiet (closed_is_zero at.byte at.behind at.kind)
repair_by file records gate tail.Open m quiet found =
    let at = gated file records gate tail.Open found in repair_open file records gate tail.Open at m quiet

settle_by : (now : List ℕ) (records : List Record) (found : Reading) (m : MediumValue) → IsQuiet m now → ReadsAs now found
    → records_found found ≡ records → records ≢ [] → Repairs records (run (settling found) m)
settle_by now records Fresh m quiet reads is some = absurd (some (sym is))
settle_by now records (Found read place end) m quiet reads is some =
    subst (λ (rs : List Record). Repairs rs (run (repairing place end) m)) is (repair_by now read place end m quiet reads)

module _ (disk : MediumValue) (records : List Record) (runs : disk.stopped ≡ None) (some : records ≢ [])
    (stands : StandsFor (bytes_of disk) records) where
  abbrev synced : Course → MediumValue
  synced c = with_call Sync disk (synced_by c disk)

  abbrev load_made : List Request → Course → Bool × MediumValue
  load_made rest c = unless_failed (goes_wrong c) (synced c) (run rest (synced c))

  after_sync : (rest : List Request) → Repairs records (run rest (synced GoesOn)) → (c : Course) → Loads disk records (load_made rest c)
  after_sync rest (repaired well at_rest) GoesOn = loaded well at_rest
  after_sync rest (stopped failed left) GoesOn = unloaded failed (λ c may. inr (left c may))
  after_sync rest done Refused = unloaded refl (λ c may. inl may)
  after_sync rest done (Met Fails) = unloaded refl (λ c may. inl may)
  after_sync rest done (Met (Stops i)) = unloaded refl (λ c may. inl may)

  pub load_keeps : Loads disk records (load_run disk (reading_of (bytes_of disk)))
  load_keeps =
      let read = stands_computed (bytes_of disk) records stands in
      let quiet : IsQuiet (synced GoesOn) (bytes_of disk) = record { runs = runs; none = refl; holds = refl } in
      after_sync (settling (reading_of (bytes_of disk)))
      (settle_by (bytes_of disk) records (reading_of (bytes_of disk)) (synced GoesOn) quiet read.0 read.1 some) (course disk)

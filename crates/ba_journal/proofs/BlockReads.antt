-- A file that is read block by block: what is known of it at a gate, and what a payload's front says of it.
use Rattle.std.proofs.Common.{◌≡◌, inl, inr, ℕ, ◌+◌, ◌-◌, ◌<◌, ◌≤◌, min, Bool, false, not, nat_eq, nat_lt, ◌&&◌, ◌||◌, slice_index, List}
use Rattle.std.proofs.Common.{[], ◌∷◌, ◌++◌, length, take, drop, None, Ok, Err, refl, sym, ap, ◌∙◌, subst, arith, length-take, length-drop}
use Rattle.std.proofs.lemmas.Bool.{cases_lt}
use Rattle.std.proofs.lemmas.Bool.Decides.{nat_tests}
use Rattle.std.proofs.lemmas.List.{take_all, take-take, drop-drop, drop-take, get_or-take}
use Rattle.ba_record.specs.Reading.{IsBytes, reading}
use Rattle.ba_record.specs.declared.records.Record.{Record}
use Rattle.ba_record.specs.declared.records.RecordFault.{RecordFault}
use Rattle.ba_record.proofs.LongBytes.{told_by_front}
use Rattle.ba_journal.specs.inside.Blocks.{deciding, frame_front, AtHand, IsOf, Begins, BeginsFrames, Counts, RefusesShown, RefusesFile}
use Rattle.ba_journal.specs.Frames.{header, is_fresh, frame_of, fault_place, IsForeign, IsNoJournal}
use Rattle.ba_journal.specs.Readings.{IsTail, ReadsAs}
use Rattle.ba_journal.specs.declared.faults.JournalFault.{JournalFault}
use Rattle.ba_journal.specs.declared.faults.JournalFault.TheVariants as fault
use Rattle.ba_journal.specs.declared.readings.Reading.TheVariants.{Found}
use Rattle.ba_journal.specs.declared.readings.Tail.{Tail}
use Rattle.ba_journal.proofs.Leading.{Scanned, begun, gone_on, long_enough}
use Rattle.ba_journal.proofs.FrameFronts.{next_stands}

-- ---- what a payload's front says of it

pub front_is_record : (payload : List ℕ) (r : Record) → IsBytes (take deciding payload) → reading (take deciding payload) ≡ Ok r
    → (length payload < deciding) × (reading payload ≡ Ok r)
front_is_record payload r are is = elim (cases_lt (length payload) deciding) [
  | inl few ↦ (few, ap reading (sym (take_all deciding payload (omega (arith, few)))) ∙ is)
  | inr many ↦
      let told = told_by_front 65542 payload (omega arith) (omega (arith, many)) are in
      absurd (told.1 r (told.0 ∙ is))
]

pub front_is_none : (payload : List ℕ) (why : RecordFault) → IsBytes (take deciding payload) → reading (take deciding payload) ≡ Err why
    → reading payload ≡ Err why
front_is_none payload why are is = elim (cases_lt (length payload) deciding) [
  | inl few ↦ ap reading (sym (take_all deciding payload (omega (arith, few)))) ∙ is
  | inr many ↦ (told_by_front 65542 payload (omega arith) (omega (arith, many)) are).0 ∙ is
]

-- ---- at a gate

pub record Stands (file : List ℕ) (hand : AtHand) (records : List Record) : Type 0 where
  pub bytes : IsOf file hand
  pub made : is_fresh file ≡ false
  pub headed : take 16 file ≡ header
  pub scanned : Scanned file (drop hand.place file) records

pub begins_there : (file : List ℕ) (hand : AtHand) → IsOf file hand → Begins hand.bytes (hand.len - hand.place) (drop hand.place file)
begins_there file hand of = record { length_is = omega (arith, of.len_is, length-drop hand.place file); front = of.bytes_are }

pub stands_begun : (file : List ℕ) (hand : AtHand) → BeginsFrames file hand → Stands file hand []
stands_begun file hand b = record {
  bytes = b.bytes;
  made = b.made;
  headed = b.headed;
  scanned = subst (λ (k : ℕ). Scanned file (drop k file) []) (sym b.place) (begun file (long_enough file b.made));
}

pub stands_filled : (file : List ℕ) (hand now : AtHand) (records : List Record) → Stands file hand records → now.place ≡ hand.place
    → IsOf file now → Stands file now records
stands_filled file hand now records s same of = record {
  bytes = of;
  made = s.made;
  headed = s.headed;
  scanned = subst (λ (k : ℕ). Scanned file (drop k file) records) (sym same) s.scanned;
}

-- bytes were used
passed : (file : List ℕ) (hand now : AtHand) (n : ℕ) → IsOf file hand → n ≤ length hand.bytes → now.place ≡ hand.place + n
    → now.bytes ≡ drop n hand.bytes → now.len ≡ hand.len → IsOf file now
passed file hand now n of within place bytes len =
    let long : length hand.bytes ≤ length (drop hand.place file) =
    omega (arith, ap length of.bytes_are, length-take (length hand.bytes) (drop hand.place file)) in
    let left : length now.bytes ≡ length hand.bytes - n = omega (arith, ap length bytes, length-drop n hand.bytes) in
    let parts : length hand.bytes ≡ n + length now.bytes = omega (arith, left, within) in
    record {
      len_is = len ∙ of.len_is;
      within = omega (arith, place, within, long, length-drop hand.place file, of.within);
      bytes_are = bytes ∙ ap (drop n) (of.bytes_are ∙ ap (λ (k : ℕ). take k (drop hand.place file)) parts)
          ∙ drop-take n (length now.bytes) (drop hand.place file)
          ∙ ap (take (length now.bytes)) (drop-drop n hand.place file ∙ ap (λ (k : ℕ). drop k file) (sym place));
    }

-- a frame's record was read
pub stands_on : (file : List ℕ) (hand now : AtHand) (records : List Record) (shown : List ℕ) (r : Record) → Stands file hand records
    → Counts (drop hand.place file) shown → IsBytes shown
    → reading shown ≡ Ok r
    → 5 + length shown ≤ length hand.bytes → now.place ≡ hand.place + (5 + length shown) → now.bytes ≡ drop (5 + length shown) hand.bytes
    → now.len ≡ hand.len → Stands file now (records ++ r ∷ [])
stands_on file hand now records shown r s (payload, next, frame, front) are is within place bytes len =
    let told = front_is_record payload r (subst IsBytes front are) (sym (ap reading front) ∙ is) in
    let long : length shown ≡ length payload = omega (arith, ap length front, length-take deciding payload, told.0) in
    let there : next ≡ drop now.place file =
    next_stands (drop hand.place file) payload next frame ∙ ap (drop (length payload)) (drop-drop 5 hand.place file)
    ∙ drop-drop (length payload) (hand.place + 5) file
    ∙ ap (λ (k : ℕ). drop k file) (let same : hand.place + 5 + length payload ≡ now.place = omega (arith, long, place) in same) in
    record {
      bytes = passed file hand now (5 + length shown) s.bytes within place bytes len;
      made = s.made;
      headed = s.headed;
      scanned = subst (λ (rest : List ℕ). Scanned file rest (records ++ r ∷ [])) there
          (gone_on file (drop hand.place file) payload next records r s.scanned frame told.1);
    }

-- no frame counts here
pub stands_last : (file : List ℕ) (hand : AtHand) (records : List Record) (gate : ℕ) (tail : Tail) → Stands file hand records
    → frame_of (drop hand.place file) ≡ None → gate ≡ hand.place
    → IsTail tail (drop hand.place file)
    → ReadsAs file (Found records gate tail)
stands_last file hand records gate tail s none here is = (
  drop hand.place file,
  record {
    made = s.made;
    headed = s.headed;
    payloads = s.scanned.payloads;
    frames = s.scanned.frames;
    stops = none;
    read = s.scanned.read;
  },
  omega (arith, here, s.bytes.within, length-drop hand.place file),
  is,
)

-- a payload is no record
pub stands_spoilt : (file : List ℕ) (hand : AtHand) (records : List Record) (shown : List ℕ) (why : RecordFault) (at : ℕ)
    → Stands file hand records → Counts (drop hand.place file) shown
    → IsBytes shown → reading shown ≡ Err why
    → at ≡ hand.place + 5 + fault_place why → IsNoJournal file at
stands_spoilt file hand records shown why at s (payload, next, frame, front) are is there = (
  s.made,
  inr record {
    headed = s.headed;
    payloads = s.scanned.payloads;
    records = records;
    read = s.scanned.read;
    bytes = drop hand.place file;
    frames = s.scanned.frames;
    payload = payload;
    next = next;
    frame = frame;
    why = why;
    no_record = front_is_none payload why (subst IsBytes front are) (sym (ap reading front) ∙ is);
    is_there = omega (arith, there, s.bytes.within, length-drop hand.place file);
  },
)

-- a fault of a payload is the file's
pub stands_refused : (file : List ℕ) (hand : AtHand) (records : List Record) (shown : List ℕ) (place : ℕ) (why : JournalFault)
    → Stands file hand records → Counts (drop hand.place file) shown
    → IsBytes shown
    → place ≡ hand.place + 5 → RefusesShown place shown why → RefusesFile file why
stands_refused file hand records shown place fault.Memory s counts are here refuses = tt
stands_refused file hand records shown place fault.Disk s counts are here refuses = tt
stands_refused file hand records shown place fault.Full s counts are here refuses = tt
stands_refused file hand records shown place (fault.Closed count) s counts are here refuses = tt
stands_refused file hand records shown place (fault.NotAJournal at) s counts are here (why, wrong, there) =
    stands_spoilt file hand records shown why at s counts are wrong (omega (arith, here, there))

-- what the disk shows is the file still
pub stands_after : (shows file : List ℕ) (hand now : AtHand) (records : List Record) → shows ≡ file → Stands file hand records
    → now.place ≡ hand.place → (IsOf shows hand → IsOf shows now)
    → Stands file now records
stands_after shows file hand now records same s here on =
    stands_filled file hand now records s here
    (subst (λ (f : List ℕ). IsOf f now) same (on (subst (λ (f : List ℕ). IsOf f hand) (sym same) s.bytes)))

-- ---- the header

test_lt : (n : ℕ) → 17 < n → nat_lt n 17 ≡ false
test_lt n long = grind (arith, nat_tests)

test_eq : (n : ℕ) → 17 < n → nat_eq n 17 ≡ false
test_eq n long = grind (arith, nat_tests)

long_is_made : (file : List ℕ) → 17 < length file → is_fresh file ≡ false
long_is_made file long =
    ap (λ (b : Bool). b || (nat_eq (length file) 17 && not (nat_eq (slice_index file 0) 1))) (test_lt (length file) long)
    ∙ ap (λ (b : Bool). b && not (nat_eq (slice_index file 0) 1)) (test_eq (length file) long)

pub at_start : (file : List ℕ) (hand : AtHand) → IsOf file hand → hand.place ≡ 0 → hand.bytes ≡ take (length hand.bytes) file
at_start file hand of here = of.bytes_are ∙ ap (λ (k : ℕ). take (length hand.bytes) (drop k file)) here

pub fresh_by_front : (file : List ℕ) (hand : AtHand) → IsOf file hand → hand.place ≡ 0
    → min frame_front (hand.len - hand.place) ≤ length hand.bytes → is_fresh hand.bytes ≡ is_fresh file
fresh_by_front file hand of here enough = elim (cases_lt frame_front (length file)) [
  | inl many ↦ long_is_made hand.bytes (omega (arith, many, enough, here, of.len_is)) ∙ sym (long_is_made file (omega (arith, many)))
  | inr few ↦ ap is_fresh (at_start file hand of here ∙ take_all (length hand.bytes) file (omega (arith, few, enough, here, of.len_is)))
]

pub foreign_by_front : (file : List ℕ) (hand : AtHand) (place : ℕ) → IsOf file hand → hand.place ≡ 0 → 16 ≤ length hand.bytes
    → IsForeign hand.bytes place → IsForeign file place
foreign_by_front file hand place of here enough foreign =
    let front = at_start file hand of here in
    let within = foreign.within in
    record {
      within = within;
      before = sym (ap (take place) front ∙ take-take place (length hand.bytes) file (omega (arith, within, enough))) ∙ foreign.before;
      other = λ same. foreign.other (ap (λ (b : List ℕ). slice_index b place) front
          ∙ get_or-take (length hand.bytes) file place 0 (omega (arith, within, enough)) ∙ same);
    }

pub foreign_file : (file : List ℕ) (hand : AtHand) (place : ℕ) → IsOf file hand → hand.place ≡ 0
    → min frame_front (hand.len - hand.place) ≤ length hand.bytes → is_fresh hand.bytes ≡ false
    → 16 ≤ length hand.bytes
    → IsForeign hand.bytes place → IsNoJournal file place
foreign_file file hand place of here enough made long foreign =
    (sym (fresh_by_front file hand of here enough) ∙ made, inl (foreign_by_front file hand place of here long foreign))

pub begins_frames : (file : List ℕ) (hand now : AtHand) → IsOf file hand → hand.place ≡ 0
    → min frame_front (hand.len - hand.place) ≤ length hand.bytes → is_fresh hand.bytes ≡ false
    → take 16 hand.bytes ≡ header
    → 16 ≤ length hand.bytes → now.place ≡ hand.place + 16 → now.bytes ≡ drop 16 hand.bytes → now.len ≡ hand.len → BeginsFrames file now
begins_frames file hand now of here enough made headed long place bytes len = record {
  bytes = passed file hand now 16 of long place bytes len;
  place = omega (arith, place, here);
  made = sym (fresh_by_front file hand of here enough) ∙ made;
  headed = sym (ap (take 16) (at_start file hand of here) ∙ take-take 16 (length hand.bytes) file long) ∙ headed;
}

pub nothing_yet : (file : List ℕ) (hand : AtHand) (long : ℕ) → hand ≡ record { place = 0; bytes = []; len = long } → long ≡ length file
    → IsOf file hand
nothing_yet file hand long is same =
    let none : IsOf file record { place = 0; bytes = []; len = long } = record { len_is = same; within = omega arith; bytes_are = refl } in
    subst (λ (h : AtHand). IsOf file h) (sym is) none

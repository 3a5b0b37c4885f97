-- A journal's file means one thing.
use Rattle.std.proofs.Common.{◌≡◌, ◌≢◌, ◌⊎◌, inl, inr, ℕ, zero, suc, ◌+◌, ◌-◌, ◌<◌, ◌≤◌, Bool, true, false, slice_index, List, [], ◌∷◌}
use Rattle.std.proofs.Common.{◌++◌, length, take, drop, map, Option, None, Some, Result, Ok, Err, refl, sym, ap, ◌∙◌, subst, arith}
use Rattle.std.proofs.lemmas.Bool.{cases_lt, cases_eq}
use Rattle.std.proofs.lemmas.List.{get_or-take, take_more}
use Rattle.ba_record.specs.Reading.{reading}
use Rattle.ba_record.specs.declared.records.Record.{Record}
use Rattle.ba_record.specs.declared.records.RecordFault.{RecordFault}
use Rattle.ba_journal.specs.Frames.{header, is_fresh, frame_of, Leads, AreRecords, Holds, StandsFor, IsForeign, fault_place, IsNoJournal}
use Rattle.ba_journal.proofs.Leading.{some_is, frame_length, long_enough, Scanned, begun, gone_on}

abbrev Taken : Type 0
Taken = List ℕ × List ℕ

-- the frame at a gate is one
first_is : (bytes p next q more : List ℕ) → frame_of bytes ≡ Some (p, next) → frame_of bytes ≡ Some (q, more) → p ≡ q
first_is bytes p next q more one other = ap (λ (t : Taken). t.0) (some_is (sym one ∙ other))

next_is : (bytes p next q more : List ℕ) → frame_of bytes ≡ Some (p, next) → frame_of bytes ≡ Some (q, more) → next ≡ more
next_is bytes p next q more one other = ap (λ (t : Taken). t.1) (some_is (sym one ∙ other))

stopped : (bytes p next : List ℕ) → frame_of bytes ≡ None → frame_of bytes ≡ Some (p, next) → ⊥
stopped bytes p next none some = let no_frame = sym none ∙ some in cc

-- frames up to one that doesn't count are these
pub record SameFrames (ps qs : List (List ℕ)) (rest more : List ℕ) : Type 0 where
  pub payloads : ps ≡ qs
  pub rests : rest ≡ more

same_frames : (bytes : List ℕ) (ps qs : List (List ℕ)) (rest more : List ℕ) → Leads bytes ps rest → Leads bytes qs more
    → frame_of rest ≡ None → frame_of more ≡ None → SameFrames ps qs rest more
same_frames bytes [] [] rest more one other stops ends = record { payloads = refl; rests = one ∙ sym other }
same_frames bytes [] (q ∷ qs) rest more one other stops ends = absurd (stopped bytes q other.0 (ap frame_of (sym one) ∙ stops) other.1)
same_frames bytes (p ∷ ps) [] rest more one other stops ends = absurd (stopped bytes p one.0 (ap frame_of (sym other) ∙ ends) one.1)
same_frames bytes (p ∷ ps) (q ∷ qs) rest more one other stops ends =
    let first = first_is bytes p one.0 q other.0 one.1 other.1 in
    let next = next_is bytes p one.0 q other.0 one.1 other.1 in
    let after = same_frames one.0 ps qs rest more one.2 (subst (λ (b : List ℕ). Leads b qs more) (sym next) other.2) stops ends in
    record {
      payloads = ap (λ (x : List ℕ). x ∷ ps) first ∙ ap (λ (xs : List (List ℕ)). q ∷ xs) after.payloads;
      rests = after.rests;
    }

ok_is : {r s : Record} → let x : Result Record RecordFault = Ok r in x ≡ Ok s → r ≡ s
ok_is h = cc

head_is : {X : Type 0} {x y : X} {xs ys : List X} → x ∷ xs ≡ y ∷ ys → x ≡ y
head_is h = cc

tail_is : {X : Type 0} {x y : X} {xs ys : List X} → x ∷ xs ≡ y ∷ ys → xs ≡ ys
tail_is h = cc

same_records : (r s : List Record) → let f : Record → Result Record RecordFault = Ok in map f r ≡ map f s → r ≡ s
same_records [] [] h = refl
same_records [] (y ∷ s) h = absurd cc
same_records (x ∷ r) [] h = absurd cc
same_records (x ∷ r) (y ∷ s) h = ap (λ (t : Record). t ∷ r) (ok_is (head_is h))
    ∙ ap (λ (t : List Record). y ∷ t) (same_records r s (tail_is h))

same_held : (file : List ℕ) (r s : List Record) (rest more : List ℕ) (one : Holds file r rest) (other : Holds file s more)
    → SameFrames one.payloads other.payloads rest more
same_held file r s rest more one other = same_frames (drop 16 file) one.payloads other.payloads rest more one.frames other.frames
    one.stops other.stops

pub one_rest : (file : List ℕ) (r s : List Record) (rest more : List ℕ) → Holds file r rest → Holds file s more → rest ≡ more
one_rest file r s rest more one other = (same_held file r s rest more one other).rests

pub one_list : (file : List ℕ) (r s : List Record) → StandsFor file r → StandsFor file s → r ≡ s
one_list file r s (inl one) (inl other) = one.1 ∙ sym other.1
one_list file r s (inl one) (inr other) = absurd (let no_file = sym one.0 ∙ other.1.made in cc)
one_list file r s (inr one) (inl other) = absurd (let no_file = sym other.0 ∙ one.1.made in cc)
one_list file r s (inr one) (inr other) =
    let frames = same_held file r s one.0 other.0 one.1 other.1 in
    same_records r s (sym one.1.read ∙ ap (map reading) frames.payloads ∙ other.1.read)

-- a payload that is no record stands among no records
spoils : (bytes : List ℕ) (ps qs : List (List ℕ)) (rest at payload next : List ℕ) (records : List Record) (why : RecordFault)
    → Leads bytes ps rest → frame_of rest ≡ None → AreRecords ps records
    → Leads bytes qs at → frame_of at ≡ Some (payload, next) → reading payload ≡ Err why → ⊥
spoils bytes [] [] rest at payload next records why one stops are other frame wrong =
    stopped bytes payload next (ap frame_of (sym one) ∙ stops) (ap frame_of (sym other) ∙ frame)
spoils bytes [] (q ∷ qs) rest at payload next records why one stops are other frame wrong =
    stopped bytes q other.0 (ap frame_of (sym one) ∙ stops) other.1
spoils bytes (p ∷ ps) qs rest at payload next [] why one stops are other frame wrong = absurd (let no_list = are in cc)
spoils bytes (p ∷ ps) [] rest at payload next (r ∷ records) why one stops are other frame wrong =
    let same = first_is bytes p one.0 payload next one.1 (ap frame_of (sym other) ∙ frame) in
    let right : reading p ≡ Ok r = head_is are in
    let clash = sym right ∙ ap reading same ∙ wrong in
    cc
spoils bytes (p ∷ ps) (q ∷ qs) rest at payload next (r ∷ records) why one stops are other frame wrong =
    let after = next_is bytes p one.0 q other.0 one.1 other.1 in
    spoils one.0 ps qs rest at payload next records why one.2 stops (tail_is are)
    (subst (λ (b : List ℕ). Leads b qs at) (sym after) other.2) frame wrong

not_foreign : (file : List ℕ) (place : ℕ) → take 16 file ≡ header → IsForeign file place → ⊥
not_foreign file place headed foreign =
    foreign.other (sym (get_or-take 16 file place 0 foreign.within) ∙ ap (λ (b : List ℕ). slice_index b place) headed)

pub never_both : (file : List ℕ) (r : List Record) (place : ℕ) → IsNoJournal file place → StandsFor file r → ⊥
never_both file r place (made, wrong) (inl fresh) = let clash = sym made ∙ fresh.0 in cc
never_both file r place (made, inl foreign) (inr held) = not_foreign file place held.1.headed foreign
never_both file r place (made, inr spoilt) (inr held) =
    spoils (drop 16 file) held.1.payloads spoilt.payloads held.0 spoilt.bytes spoilt.payload spoilt.next r spoilt.why held.1.frames
    held.1.stops held.1.read spoilt.frames spoilt.frame spoilt.no_record

fault_is : {why other : RecordFault} → let x : Result Record RecordFault = Err why in x ≡ Err other → why ≡ other
fault_is h = cc

-- the first payload that is no record is one
pub record SameSpoilt (at to : List ℕ) (why other : RecordFault) : Type 0 where
  pub bytes : at ≡ to
  pub faults : why ≡ other

same_spoilt : (bytes : List ℕ) (ps qs : List (List ℕ)) (at to p next q more : List ℕ) (r s : List Record) (why other : RecordFault)
    → Leads bytes ps at → AreRecords ps r → frame_of at ≡ Some (p, next) → reading p ≡ Err why
    → Leads bytes qs to → AreRecords qs s → frame_of to ≡ Some (q, more) → reading q ≡ Err other → SameSpoilt at to why other
same_spoilt bytes [] [] at to p next q more r s why other one are frame wrong two two_are two_frame two_wrong =
    let same = first_is bytes p next q more (ap frame_of (sym one) ∙ frame) (ap frame_of (sym two) ∙ two_frame) in
    record { bytes = one ∙ sym two; faults = fault_is (sym wrong ∙ ap reading same ∙ two_wrong) }
same_spoilt bytes [] (x ∷ qs) at to p next q more r [] why other one are frame wrong two two_are two_frame two_wrong =
    absurd (let no_list = two_are in cc)
same_spoilt bytes [] (x ∷ qs) at to p next q more r (y ∷ s) why other one are frame wrong two two_are two_frame two_wrong =
    let same = first_is bytes p next x two.0 (ap frame_of (sym one) ∙ frame) two.1 in
    let right : reading x ≡ Ok y = head_is two_are in
    let clash = sym wrong ∙ ap reading same ∙ right in
    absurd cc
same_spoilt bytes (x ∷ ps) qs at to p next q more [] s why other one are frame wrong two two_are two_frame two_wrong =
    absurd (let no_list = are in cc)
same_spoilt bytes (x ∷ ps) [] at to p next q more (y ∷ r) s why other one are frame wrong two two_are two_frame two_wrong =
    let same = first_is bytes x one.0 q more one.1 (ap frame_of (sym two) ∙ two_frame) in
    let right : reading x ≡ Ok y = head_is are in
    let clash = sym right ∙ ap reading same ∙ two_wrong in
    absurd cc
same_spoilt bytes (x ∷ ps) (z ∷ qs) at to p next q more (y ∷ r) [] why other one are frame wrong two two_are two_frame two_wrong =
    absurd (let no_list = two_are in cc)
same_spoilt bytes (x ∷ ps) (z ∷ qs) at to p next q more (y ∷ r) (w ∷ s) why other one are frame wrong two two_are two_frame two_wrong =
    let after = next_is bytes x one.0 z two.0 one.1 two.1 in
    same_spoilt one.0 ps qs at to p next q more r s why other one.2 (tail_is are) frame wrong
    (subst (λ (b : List ℕ). Leads b qs to) (sym after) two.2) (tail_is two_are) two_frame two_wrong

-- the header's first byte that is another is one
no_sooner : (file : List ℕ) (p q : ℕ) → IsForeign file p → IsForeign file q → p < q → ⊥
no_sooner file p q one other less =
    one.other (sym (get_or-take q file p 0 less) ∙ ap (λ (b : List ℕ). slice_index b p) other.before ∙ get_or-take q header p 0 less)

one_foreign : (file : List ℕ) (p q : ℕ) → IsForeign file p → IsForeign file q → p ≡ q
one_foreign file p q one other = elim (cases_lt p q) [
  | inl less ↦ absurd (no_sooner file p q one other less)
  | inr least ↦ elim (cases_lt q p) [ inl more ↦ absurd (no_sooner file q p other one more) | inr most ↦ omega (arith, least, most) ]
]

pub one_place : (file : List ℕ) (p q : ℕ) → IsNoJournal file p → IsNoJournal file q → p ≡ q
one_place file p q (made, inl one) (again, inl other) = one_foreign file p q one other
one_place file p q (made, inl one) (again, inr other) = absurd (not_foreign file p other.headed one)
one_place file p q (made, inr one) (again, inl other) = absurd (not_foreign file q one.headed other)
one_place file p q (made, inr one) (again, inr other) =
    let same = same_spoilt (drop 16 file) one.payloads other.payloads one.bytes other.bytes one.payload one.next other.payload other.next
    one.records other.records one.why other.why
    one.frames one.read one.frame one.no_record other.frames other.read other.frame other.no_record in
    one.is_there ∙ ap (λ (b : List ℕ). length file - length b + 5 + fault_place one.why) same.bytes
    ∙ ap (λ (w : RecordFault). length file - length other.bytes + 5 + fault_place w) same.faults ∙ sym other.is_there

-- ---- each file is read

abbrev IsRead : List ℕ → Type 0
IsRead file = ((r : List Record) × StandsFor file r) ⊎ ((place : ℕ) × IsNoJournal file place)

-- what so many bytes before the end are read as
abbrev ReadsOn : List ℕ → ℕ → Type 0
ReadsOn file n = (rest : List ℕ) (records : List Record) → length rest ≤ n → Scanned file rest records → IsRead file

module _ (file : List ℕ) (made : is_fresh file ≡ false) (headed : take 16 file ≡ header) where
  by_reading : (n : ℕ) → ReadsOn file n → (rest payload next : List ℕ) (records : List Record) → length rest ≤ suc n
      → Scanned file rest records → frame_of rest ≡ Some (payload, next)
      → (read : Result Record RecordFault) → reading payload ≡ read → IsRead file
  by_reading n on rest payload next records within s frame (Ok r) is =
      on next (records ++ r ∷ []) (omega (arith, (frame_length rest payload next frame).0, within))
      (gone_on file rest payload next records r s frame is)
  by_reading n on rest payload next records within s frame (Err why) is = inr (
    length file - length rest + 5 + fault_place why,
    (
      made,
      inr record {
        headed = headed;
        payloads = s.payloads;
        records = records;
        read = s.read;
        bytes = rest;
        frames = s.frames;
        payload = payload;
        next = next;
        frame = frame;
        why = why;
        no_record = is;
        is_there = refl;
      },
    ),
  )

  by_frame : (n : ℕ) → ReadsOn file n → (rest : List ℕ) (records : List Record) → length rest ≤ suc n → Scanned file rest records
      → (frame : Option Taken) → frame_of rest ≡ frame → IsRead file
  by_frame n on rest records within s None is =
      inl (
        records,
        inr (
          rest,
          record {
            made = made;
            headed = headed;
            payloads = s.payloads;
            frames = s.frames;
            stops = is;
            read = s.read;
          },
        ),
      )
  by_frame n on rest records within s (Some (payload, next)) is =
      by_reading n on rest payload next records within s is (reading payload) refl

  reads_on : (n : ℕ) → ReadsOn file n
  reads_on zero rest records within s = absurd (omega (arith, within, s.some))
  reads_on (suc n) rest records within s = by_frame n (reads_on n) rest records within s (frame_of rest) refl

-- the first bytes are the header's, or one of them is another
header_by : (file : List ℕ) (k : ℕ) → 16 < length file → k ≤ 16 → (take k file ≡ take k header) ⊎ ((place : ℕ) × IsForeign file place)
header_by file zero long few = inl refl
header_by file (suc k) long few = by_byte (header_by file k long (omega (arith, few)))
    (cases_eq (slice_index file k) (slice_index header k))
  where
    by_byte : (take k file ≡ take k header) ⊎ ((place : ℕ) × IsForeign file place)
        → (slice_index file k ≡ slice_index header k) ⊎ (slice_index file k ≢ slice_index header k)
        → (take (suc k) file ≡ take (suc k) header) ⊎ ((place : ℕ) × IsForeign file place)
    by_byte (inr foreign) byte = inr foreign
    by_byte (inl same) (inr other) = inr (k, record { within = omega (arith, few); before = same; other = other })
    by_byte (inl same) (inl byte) =
        let one_more : suc k ≡ k + 1 = omega arith in
        let whole : length header ≡ 16 = refl in
        inl (ap (λ (n : ℕ). take n file) one_more ∙ take_more file k 0 (omega (arith, few, long))
        ∙ ap (λ (xs : List ℕ). xs ++ slice_index file k ∷ []) same
        ∙ ap (λ (b : ℕ). take k header ++ b ∷ []) byte ∙ sym (take_more header k 0 (omega (arith, few, whole)))
        ∙ ap (λ (n : ℕ). take n header) (sym one_more))

by_freshness : (file : List ℕ) (fresh : Bool) → is_fresh file ≡ fresh → IsRead file
by_freshness file true is = inl ([], inl (is, refl))
by_freshness file false is = by_header (header_by file 16 (long_enough file is) (omega arith))
  where
    by_header : (take 16 file ≡ take 16 header) ⊎ ((place : ℕ) × IsForeign file place) → IsRead file
    by_header (inl headed) = reads_on file is headed (length (drop 16 file)) (drop 16 file) [] (omega arith)
        (begun file (long_enough file is))
    by_header (inr foreign) = inr (foreign.0, (is, inl foreign.1))

pub each_read : (file : List ℕ) → ((r : List Record) × StandsFor file r) ⊎ ((place : ℕ) × IsNoJournal file place)
each_read file = by_freshness file (is_fresh file) refl

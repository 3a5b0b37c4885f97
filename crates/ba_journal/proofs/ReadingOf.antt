-- What a load finds in a file is what `reading_of` computes, for the clauses of `a_reading_is_computed`.
use Rattle.std.proofs.Common.{◌≡◌, ◌≢◌, ◌⊎◌, inl, inr, ◌-◌, ◌<◌, ◌≤◌, ℕ, suc, zero, Bool, false, if◌then◌else◌, nat_eq, List, [], ◌∷◌}
use Rattle.std.proofs.Common.{length, map, drop, Option, None, Result, Ok, refl, sym, ◌∙◌, ap, subst, arith}
use Rattle.std.proofs.lemmas.Bool.Decides.{nat_tests}
use Rattle.std.proofs.lemmas.List.{length-drop}
use Rattle.ba_record.specs.Reading.{reading}
use Rattle.ba_record.specs.declared.records.Record.{Record}
use Rattle.ba_record.specs.declared.records.RecordFault.{RecordFault}
use Rattle.ba_journal.specs.Frames.{is_fresh, frame_of, Leads, AreRecords, IsNoJournal, StandsFor}
use Rattle.ba_journal.specs.Readings.{ReadsAs, IsTail, with_frame, frames_from, if_record, records_from, tail_from, found_in, reading_of}
use Rattle.ba_journal.specs.Readings.{records_found}
use Rattle.ba_journal.specs.declared.readings.Reading.{Reading}
use Rattle.ba_journal.specs.declared.readings.Reading.TheVariants.{Fresh, Found}
use Rattle.ba_journal.specs.declared.readings.Tail.{Tail}
use Rattle.ba_journal.specs.declared.readings.Tail.TheVariants as tail
use Rattle.ba_journal.proofs.Ends.{has_gate}
use Rattle.ba_journal.proofs.Leading.{frame_length, long_enough}
use Rattle.ba_journal.proofs.Meanings.{each_read}

-- The frames

leads_read : (ps : List (List ℕ)) (most : ℕ) (bytes rest : List ℕ) → length ps < most → Leads bytes ps rest → frame_of rest ≡ None
    → frames_from most bytes ≡ (ps, rest)
leads_read ps zero bytes rest few leads stops = absurd (omega (arith, few))
leads_read [] (suc most) bytes rest few leads stops =
    ap (λ (o : Option (List ℕ × List ℕ)). with_frame o bytes (frames_from most)) (ap frame_of (sym leads) ∙ stops)
    ∙ ap (λ (b : List ℕ). ([], b)) (sym leads)
leads_read (p ∷ ps) (suc most) bytes rest few (next, is, others) stops =
    let rec = leads_read ps most next rest (omega (arith, few)) others stops in
    ap (λ (o : Option (List ℕ × List ℕ)). with_frame o bytes (frames_from most)) is
    ∙ ap (λ (x : List (List ℕ) × List ℕ). (p ∷ x.0, x.1)) rec

few_frames : (ps : List (List ℕ)) (bytes rest : List ℕ) → Leads bytes ps rest → length ps ≤ length bytes
few_frames [] bytes rest leads = omega arith
few_frames (p ∷ ps) bytes rest (next, is, others) = omega (arith, few_frames ps next rest others, (frame_length bytes p next is).0)

not_fresh_long : (file : List ℕ) → is_fresh file ≡ false → length (drop 16 file) < length file
not_fresh_long file made = omega (arith, long_enough file made, length-drop 16 file)

-- The records

are_read : (ps : List (List ℕ)) (rs : List Record) → AreRecords ps rs → records_from ps ≡ rs
are_read [] [] is = refl
are_read [] (r ∷ rs) is = absurd cc
are_read (p ∷ ps) [] is = absurd cc
are_read (p ∷ ps) (r ∷ rs) is =
    let first : reading p ≡ Ok r = head_of (reading p) (Ok r) (map reading ps) (map Ok rs) is in
    let others : map reading ps ≡ map Ok rs = others_of (reading p) (Ok r) (map reading ps) (map Ok rs) is in
    ap (λ (o : Result Record RecordFault). if_record o (records_from ps)) first ∙ ap (λ (l : List Record). r ∷ l) (are_read ps rs others)
  where
    head_of : (a b : Result Record RecordFault) (xs ys : List (Result Record RecordFault)) → (a ∷ xs) ≡ (b ∷ ys) → a ≡ b
    head_of a b xs ys is = cc

    others_of : (a b : Result Record RecordFault) (xs ys : List (Result Record RecordFault)) → (a ∷ xs) ≡ (b ∷ ys) → xs ≡ ys
    others_of a b xs ys is = cc

-- The tail

is_not_zero : (gate : ℕ) → gate ≢ 0 → nat_eq gate 0 ≡ false
is_not_zero gate other = grind (arith, nat_tests)

tail_read : (t : Tail) (rest : List ℕ) → IsTail t rest → tail_from rest ≡ t
tail_read tail.AtRest rest is = ap tail_from is
tail_read tail.Open rest (gate, [], is, other) =
    ap tail_from is ∙ ap (λ (b : Bool). if b then tail.AtRest else tail.Open) (is_not_zero gate other)
tail_read tail.Open rest (gate, next ∷ bytes, is, other) =
    ap tail_from is ∙ ap (λ (b : Bool). if b then tail.Closed else tail.Open) (is_not_zero gate other)
tail_read tail.Closed rest ([], is, some) = absurd (omega (arith, some))
tail_read tail.Closed rest (next ∷ bytes, is, some) = ap tail_from is

-- bytes that begin with a gate are some tail
some_tail : (rest : List ℕ) → 0 < length rest → (t : Tail) × IsTail t rest
some_tail [] some = absurd (omega (arith, some))
some_tail (zero ∷ []) some = (tail.AtRest, refl)
some_tail (suc gate ∷ bytes) some = (tail.Open, (suc gate, bytes, refl, λ is. cc))
some_tail (zero ∷ next ∷ bytes) some = (tail.Closed, (next ∷ bytes, refl, omega arith))

-- What is read

by_freshness : List ℕ → Bool → Reading
by_freshness file fresh = if fresh then Fresh else found_in file (frames_from (length file) (drop 16 file))

pub computed : (file : List ℕ) (found : Reading) → ReadsAs file found → reading_of file ≡ found
unfolding by_freshness
computed file Fresh fresh = ap (by_freshness file) fresh
computed file (Found records gate tail) (rest, holds, place, is) =
    let few = few_frames holds.payloads (drop 16 file) rest holds.frames in
    let read = leads_read holds.payloads (length file) (drop 16 file) rest
    (omega (arith, few, not_fresh_long file holds.made)) holds.frames holds.stops in
    ap (by_freshness file) holds.made
    ∙ ap (found_in file) read
    ∙ ap (λ (rs : List Record). Found rs (length file - length rest) (tail_from rest)) (are_read holds.payloads records holds.read)
    ∙ ap (λ (g : ℕ). Found records g (tail_from rest)) (sym place)
    ∙ ap (λ (t : Tail). Found records gate t) (tail_read tail rest is)

-- a file that stands for records is read as something
stands_as : (file : List ℕ) (records : List Record) → StandsFor file records
    → (found : Reading) × ReadsAs file found × (records_found found ≡ records)
stands_as file records (inl (fresh, none)) = (Fresh, fresh, sym none)
stands_as file records (inr (rest, holds)) =
    let t = some_tail rest (has_gate file records rest holds) in
    (Found records (length file - length rest) t.0, (rest, holds, refl, t.1), refl)

pub stands_computed : (file : List ℕ) (records : List Record) → StandsFor file records
    → ReadsAs file (reading_of file) × (records_found (reading_of file) ≡ records)
stands_computed file records stands =
    let read = stands_as file records stands in
    let same = sym (computed file read.0 read.1) in
    (subst (ReadsAs file) same read.1, sym (ap records_found same) ∙ read.2)

pub stands_found : (file : List ℕ) (found : Reading) → ReadsAs file found → StandsFor file (records_found found)
stands_found file Fresh fresh = inl (fresh, refl)
stands_found file (Found records gate tail) (rest, holds, place, is) = inr (rest, holds)

pub each_computed : (file : List ℕ) → ReadsAs file (reading_of file) ⊎ ((place : ℕ) × IsNoJournal file place)
each_computed file = by_read (each_read file)
  where
    by_read : ((r : List Record) × StandsFor file r) ⊎ ((place : ℕ) × IsNoJournal file place)
        → ReadsAs file (reading_of file) ⊎ ((place : ℕ) × IsNoJournal file place)
    by_read (inl stands) = inl (stands_computed file stands.0 stands.1).0
    by_read (inr refused) = inr refused

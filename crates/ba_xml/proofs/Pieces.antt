-- Runs of the machine over a piece that is taken in parts: for the loop of `read_piece`.
use Rattle.std.proofs.Common.{◌≡◌, ℕ, ◌+◌, ◌-◌, ◌<◌, ◌≤◌, Bool, true, false, cond, nat_lt, List, [], ◌∷◌, length, take, drop, refl, ap, sym}
use Rattle.std.proofs.Common.{subst}
use Rattle.std.proofs.Common.{◌∙◌, arith}
use Rattle.std.proofs.lemmas.Bool.{ltb-true}
use Rattle.std.proofs.lemmas.List.{drop_all, drop-drop, length-take-le, take-append-drop}
use Rattle.ba_xml_reader.proofs.CompleteLayers.{run_one}
use Rattle.ba_xml_reader.proofs.Kept.{Told, told}
use Rattle.ba_xml_reader.proofs.Runs.{run_none, run_append, run_refused, from_there}
use Rattle.ba_xml_reader.specs.inside.Machine.{run, turned, counted, reason_at}
use Rattle.ba_xml_reader.specs.declared.machine.Scan.{Scan}
use Rattle.ba_xml_reader.specs.inside.Readings.{Reading, Refused, Going}
use Rattle.ba_xml_reader.specs.inside.Turns.{Turn}
use Rattle.ba_xml_reader.specs.inside.Turns as turn
use Rattle.ba_xml_words.specs.declared.faults.Reason.{Reason}
use Rattle.ba_xml_words.specs.declared.faults.Reason.TheVariants as reason

-- the bytes from here on
abbrev from : ℕ → List ℕ → List ℕ
from at bs = take (length bs - at) (drop at bs)

-- so many bytes, and the others
in_parts : (scan : Scan) (taken at count : ℕ) (r : Reading) (bs : List ℕ) → run (Going scan taken) (take count (from at bs)) ≡ r
    → run (Going scan taken) (drop at bs) ≡ run r (drop (at + count) bs)
in_parts scan taken at count r bs e =
    ap (λ ds. run (Going scan taken) ds) (sym (take-append-drop count (drop at bs)))
    ∙ run_append (Going scan taken) (take count (drop at bs)) (drop count (drop at bs))
    ∙ ap (λ ds. run (run (Going scan taken) (take count ds)) (drop count (drop at bs))) (sym (from_there at bs))
    ∙ ap (λ x. run x (drop count (drop at bs))) e
    ∙ ap (λ ds. run r ds) (drop-drop count at bs)

-- the loop's step over so many bytes
pub goes_on : (scan next : Scan) (taken more at count : ℕ) (r : Reading) (bs : List ℕ)
    → run (Going scan taken) (take count (from at bs)) ≡ r
    → r ≡ Going next more → run (Going next more) (drop (at + count) bs) ≡ run (Going scan taken) (drop at bs)
goes_on scan next taken more at count r bs e is =
    ap (λ x. run x (drop (at + count) bs)) (sym is) ∙ sym (in_parts scan taken at count r bs e)

-- its end at a refusal
pub stops : (scan : Scan) (taken at count : ℕ) (why : Reason) (place : ℕ) (r : Reading) (bs : List ℕ)
    → run (Going scan taken) (take count (from at bs)) ≡ r → r ≡ Refused why place → run (Going scan taken) (drop at bs) ≡ Refused why place
stops scan taken at count why place r bs e is =
    in_parts scan taken at count r bs e ∙ ap (λ x. run x (drop (at + count) bs)) is ∙ run_refused why place (drop (at + count) bs)

-- its end with the bytes
pub ends : (scan : Scan) (taken : ℕ) (bs : List ℕ) (i : ℕ) → length bs ≤ i → run (Going scan taken) (drop i bs) ≡ Going scan taken
ends scan taken bs i h = ap (λ ds. run (Going scan taken) ds) (drop_all i bs h) ∙ run_none (Going scan taken)

-- ---- where a byte is taken, no more are than a text has

abbrev IsFew : Reading → Type 0
IsFew (Refused why place) = Unit {0}
IsFew (Going scan taken) = taken ≤ 262144

few_after : (bs : List ℕ) (scan : Scan) (taken : ℕ) → taken ≤ 262144 → IsFew (run (Going scan taken) bs)
few_after bs scan taken h = by (run (Going scan taken) bs) (told bs scan taken (taken + length bs) refl h)
  where
    by : (x : Reading) → Told (taken + length bs) x → IsFew x
    by (Refused why place) t = tt
    by (Going last n) t = t.1

refused_few : (why : Reason) (place : ℕ) (bs : List ℕ) → IsFew (run (Refused why place) bs)
refused_few why place bs = subst (λ x. IsFew x) (sym (run_refused why place bs)) tt

counted_few : (t : Turn) (taken : ℕ) (bs : List ℕ) → IsFew (run (counted taken t) bs)
counted_few (turn.Refused why) taken bs = refused_few (reason_at taken why) taken bs
counted_few (turn.On scan) taken bs = by (nat_lt taken 262144) refl
  where
    more : taken < 262144 → taken + 1 ≤ 262144
    more l = omega (arith, l)

    by : (q : Bool) → nat_lt taken 262144 ≡ q → IsFew (run (cond q (Going scan (taken + 1)) (Refused reason.Size taken)) bs)
    by true e = few_after bs scan (taken + 1) (more (ltb-true taken 262144 e))
    by false e = refused_few reason.Size taken bs

few : (bs : List ℕ) (scan last : Scan) (taken n : ℕ) → 0 < length bs → run (Going scan taken) bs ≡ Going last n → n ≤ 262144
few [] scan last taken n some e = absurd (none some)
  where
    none : 0 < 0 → ⊥
    none l = omega (arith, l)
few (b ∷ bs) scan last taken n some e =
    subst (λ x. IsFew x) (sym (run_one scan taken b bs) ∙ e) (counted_few (turned scan b) taken bs)

pub taken_few : (scan next : Scan) (taken n at count : ℕ) (r : Reading) (bs : List ℕ) → 0 < count → count ≤ length (from at bs)
    → run (Going scan taken) (take count (from at bs)) ≡ r → r ≡ Going next n → n ≤ 262144
taken_few scan next taken n at count r bs some within e is =
    few (take count (from at bs)) scan next taken n (subst (λ x. 0 < x) (sym (length-take-le count (from at bs) within)) some) (e ∙ is)

-- Where the machine goes on to the end of raw bytes, they are UTF-8, not too many, and the states lead there.
use Rattle.std.proofs.Common.{◌≡◌, ℕ, ◌+◌, ◌<◌, ◌≤◌, Bool, true, false, cond, ◌==◌, nat_lt, List, [], ◌∷◌, length, refl, sym, ap, ◌∙◌}
use Rattle.std.proofs.Common.{arith}
use Rattle.std.proofs.lemmas.Bool.{ltb-true}
use Rattle.ba_xml_reader.proofs.CompleteCharacters.{octets}
use Rattle.ba_xml_reader.proofs.Dead.{run_refused}
use Rattle.ba_xml_reader.proofs.CompleteLayers.{run_none, run_one, line_step, scanned}
use Rattle.ba_xml_reader.proofs.CompleteSteps.{steps, none}
use Rattle.ba_xml_reader.specs.inside.Machine.{start, run, unless_returned, turned_by, turned_from, counted, reason_at}
use Rattle.ba_xml_words.specs.inside.Octets.{octet_after}
use Rattle.ba_xml_grammar.specs.GrammarTexts.{lines}
use Rattle.ba_xml_words.specs.declared.faults.Reason.{Reason}
use Rattle.ba_xml_words.specs.declared.faults.Reason.TheVariants as reason
use Rattle.ba_xml_reader.specs.declared.machine.Scan.{Scan}
use Rattle.ba_xml_reader.specs.inside.Readings.{Reading}
use Rattle.ba_xml_reader.specs.inside.Readings as reading
use Rattle.ba_xml_words.specs.declared.octets.Octet.{Octet}
use Rattle.ba_xml_words.specs.declared.octets.Decoding.{Decoding}
use Rattle.ba_xml_words.specs.declared.octets.Decoding.TheVariants as decoding
use Rattle.ba_xml_reader.specs.declared.states.State.{State}
use Rattle.ba_xml_reader.specs.declared.states.State.TheVariants as state

abbrev scan_in : Reading → Scan
scan_in (reading.Refused r n) = start
scan_in (reading.Going scan n) = scan

abbrev place_in : Reading → ℕ
place_in (reading.Refused r n) = n
place_in (reading.Going scan n) = n

refused_going : (r : Reason) (m n : ℕ) (scan : Scan) → reading.Refused r m ≡ reading.Going scan n → ⊥
refused_going r m n scan e = cc

abbrev Back : List ℕ → Type 0
Back bs = (s : State) (o : Octet) (returned : Bool) (taken : ℕ) (scan : Scan) (n : ℕ) → taken ≤ 262144
    → run (reading.Going (scanned s o returned) taken) bs ≡ reading.Going scan n
    → (octets (decoding.At o) bs ≡ decoding.At scan.octet) × (steps s (lines returned bs) ≡ scan.state)
    × (taken + length bs ≡ n) × (n ≤ 262144)

back_end : Back []
back_end s o returned taken scan n l e = (
  ap (λ x. decoding.At (scan_in x).octet) same,
  none s ∙ ap (λ x. (scan_in x).state) same,
  all (ap place_in same),
  small (ap place_in same),
)
  where
    same : reading.Going (scanned s o returned) taken ≡ reading.Going scan n
    same = sym (run_none (reading.Going (scanned s o returned) taken)) ∙ e

    all : taken ≡ n → taken + 0 ≡ n
    all p = omega (arith, p)

    small : taken ≡ n → n ≤ 262144
    small p = omega (arith, p, l)

by_state : (b : ℕ) (bs : List ℕ) → Back bs → (s : State) (o : Octet) (taken : ℕ) (scan : Scan) (n : ℕ)
    → run (counted taken (turned_by s o b)) bs ≡ reading.Going scan n
    → (octets (decoding.At o) bs ≡ decoding.At scan.octet) × (steps s (lines (b == 13) bs) ≡ scan.state)
    × (taken + length (b ∷ bs) ≡ n) × (n ≤ 262144)
by_state b bs ih (state.Refused x) o taken scan n e =
    absurd (refused_going (reason_at taken x) taken n scan (sym (run_refused (reason_at taken x) taken bs) ∙ e))
by_state b bs ih (state.At outer here m) o taken scan n e = by (nat_lt taken 262144) refl
  where
    chosen : (q : Bool) → nat_lt taken 262144 ≡ q
        → run (cond q (reading.Going (scanned (state.At outer here m) o (b == 13)) (taken + 1)) (reading.Refused reason.Size taken)) bs
        ≡ reading.Going scan n
    chosen q p = ap (λ t. run (cond t (reading.Going (scanned (state.At outer here m) o (b == 13)) (taken + 1))
        (reading.Refused reason.Size taken)) bs) (sym p) ∙ e

    counts : (taken + 1) + length bs ≡ n → taken + length (b ∷ bs) ≡ n
    counts h = omega (arith, h)

    room : taken < 262144 → taken + 1 ≤ 262144
    room h = omega (arith, h)

    of_rest : (octets (decoding.At o) bs ≡ decoding.At scan.octet) × (steps (state.At outer here m) (lines (b == 13) bs) ≡ scan.state)
        × ((taken + 1) + length bs ≡ n) × (n ≤ 262144)
        → (octets (decoding.At o) bs ≡ decoding.At scan.octet) × (steps (state.At outer here m) (lines (b == 13) bs) ≡ scan.state)
        × (taken + length (b ∷ bs) ≡ n) × (n ≤ 262144)
    of_rest r = (r.0, r.1, counts r.2, r.3)

    by : (q : Bool) → nat_lt taken 262144 ≡ q
        → (octets (decoding.At o) bs ≡ decoding.At scan.octet) × (steps (state.At outer here m) (lines (b == 13) bs) ≡ scan.state)
        × (taken + length (b ∷ bs) ≡ n) × (n ≤ 262144)
    by true q = of_rest (ih (state.At outer here m) o (b == 13) (taken + 1) scan n (room (ltb-true taken 262144 q)) (chosen true q))
    by false q = absurd (refused_going reason.Size taken n scan (sym (run_refused reason.Size taken bs) ∙ chosen false q))

by_octet : (b : ℕ) (bs : List ℕ) → Back bs → (s : State) (o : Octet) (returned : Bool) (taken : ℕ) (scan : Scan) (n : ℕ) (d : Decoding)
    → octet_after o b ≡ d
    → run (counted taken (turned_from (scanned s o returned) b d)) bs ≡ reading.Going scan n
    → (octets d bs ≡ decoding.At scan.octet) × (steps s (lines returned (b ∷ bs)) ≡ scan.state)
    × (taken + length (b ∷ bs) ≡ n) × (n ≤ 262144)
by_octet b bs ih s o returned taken scan n (decoding.Broken x) d e =
    absurd (refused_going (reason_at taken x) taken n scan (sym (run_refused (reason_at taken x) taken bs) ∙ e))
by_octet b bs ih s o returned taken scan n (decoding.At p) d e =
    let r = by_state b bs ih (unless_returned s returned b) p taken scan n e in
    (r.0, line_step s returned b bs ∙ r.1, r.2, r.3)

pub back : (bs : List ℕ) → Back bs
back [] = back_end
back (b ∷ bs) = λ s o returned taken scan n l e.
    by_octet b bs (back bs) s o returned taken scan n (octet_after o b) refl (sym (run_one (scanned s o returned) taken b bs) ∙ e)

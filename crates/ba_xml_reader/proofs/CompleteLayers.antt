-- The machine over raw bytes: it counts them, follows their UTF-8, and makes each line end one.
use Rattle.std.proofs.Common.{◌≡◌, ℕ, ◌+◌, ◌<◌, ◌≤◌, ◌==◌, Bool, true, false, cond, ◌&&◌, List, [], ◌∷◌, length, refl, sym, ap, ap₂, ◌∙◌}
use Rattle.std.proofs.Common.{arith, true≢false}
use Rattle.std.proofs.lemmas.Bool.{lt-ltb, eqb-true}
use Rattle.ba_xml_reader.proofs.CompleteCharacters.{octets}
use Rattle.ba_xml_reader.proofs.CompleteSteps.{steps, none, one}
use Rattle.ba_xml_reader.specs.inside.Machine.{state_after, unless_returned, turned_by, turned, turned_from, counted, reading_after, run}
use Rattle.ba_xml_words.specs.inside.Octets.{octet_after}
use Rattle.ba_xml_grammar.specs.GrammarTexts.{lines}
use Rattle.ba_xml_words.specs.declared.faults.Reason.{Reason}
use Rattle.ba_xml_words.specs.declared.faults.Reason.TheVariants.{Size}
use Rattle.ba_xml_names.specs.declared.levels.Level.{Level}
use Rattle.ba_xml_reader.specs.declared.machine.Scan.{Scan}
use Rattle.ba_xml_reader.specs.inside.Readings.{Reading}
use Rattle.ba_xml_reader.specs.inside.Readings as reading
use Rattle.ba_xml_words.specs.declared.octets.Octet.{Octet}
use Rattle.ba_xml_words.specs.declared.octets.Decoding.{Decoding}
use Rattle.ba_xml_words.specs.declared.octets.Decoding.TheVariants as decoding
use Rattle.ba_xml_reader.specs.declared.states.Mode.{Mode}
use Rattle.ba_xml_reader.specs.declared.states.State.{State}
use Rattle.ba_xml_reader.specs.declared.states.State.TheVariants.{At, Refused}

-- what was refused stays so
pub stays : (r : Reason) (bs : List ℕ) → steps (Refused r) bs ≡ Refused r
unfolding steps state_after
stays r [] = refl
stays r (b ∷ bs) = stays r bs

pub run_none : (r : Reading) → run r [] ≡ r
unfolding run
run_none r = refl

pub run_one : (scan : Scan) (taken b : ℕ) (bs : List ℕ) → run (reading.Going scan taken) (b ∷ bs) ≡ run (counted taken (turned scan b)) bs
unfolding run reading_after
run_one scan taken b bs = refl

abbrev pub scanned : State → Octet → Bool → Scan
scanned s o returned = record { state = s; octet = o; returned = returned }

-- the state behind one byte, and the line ends of the others
pub line_step : (s : State) (returned : Bool) (b : ℕ) (bs : List ℕ)
    → steps s (lines returned (b ∷ bs)) ≡ steps (unless_returned s returned b) (lines (b == 13) bs)
line_step s returned b bs = by (returned && b == 10) (b == 13) refl refl
  where
    feed : (x y : Bool) → (x && y) ≡ true → y ≡ true
    feed true y e = e
    feed false y e = absurd (true≢false (sym e))

    no_return : (returned && b == 10) ≡ true → (b == 13) ≡ false
    no_return e = ap (λ x. x == 13) (eqb-true b 10 (feed returned (b == 10) e))

    by : (x y : Bool) → (returned && b == 10) ≡ x → (b == 13) ≡ y
        → steps s (cond x (lines false bs) (cond y (10 ∷ lines true bs) (b ∷ lines false bs)))
        ≡ steps (cond x s (state_after s (cond y 10 b))) (lines y bs)
    by true true e f = absurd (true≢false (sym f ∙ no_return e))
    by true false e f = refl
    by false true e f = one s (state_after s 10) 10 (lines true bs) refl
    by false false e f = one s (state_after s b) b (lines false bs) refl

module _ (outer : List Level) (here : Level) (m : Mode) (last : Octet) where
  abbrev To : List ℕ → Type 0
  To bs = (s : State) (o : Octet) (returned : Bool) (taken : ℕ) → octets (decoding.At o) bs ≡ decoding.At last
      → steps s (lines returned bs) ≡ At outer here m → taken + length bs ≤ 262144
      → (r : Bool) × (run (reading.Going (scanned s o returned) taken) bs
      ≡ reading.Going (scanned (At outer here m) last r) (taken + length bs))

  same_octet : (o : Octet) → decoding.At o ≡ decoding.At last → o ≡ last
  same_octet o e = cc

  at_end : To []
  at_end s o returned taken e f l = (
    returned,
    run_none (reading.Going (scanned s o returned) taken)
        ∙ ap₂ (λ x y. reading.Going (scanned x y returned) taken) (sym (none s) ∙ f) (same_octet o e)
        ∙ ap (λ n. reading.Going (scanned (At outer here m) last returned) n) all,
  )
    where
      all : taken ≡ taken + 0
      all = omega arith

  going_on : (b : ℕ) (bs : List ℕ) → To bs → (s : State) (o : Octet) (taken : ℕ) → octets (decoding.At o) bs ≡ decoding.At last
      → steps s (lines (b == 13) bs) ≡ At outer here m
      → taken + length (b ∷ bs) ≤ 262144 → (r : Bool)
      × (run (counted taken (turned_by s o b)) bs ≡ reading.Going (scanned (At outer here m) last r) (taken + length (b ∷ bs)))
  going_on b bs ih (Refused x) o taken e f l = absurd (clash (sym (stays x (lines (b == 13) bs)) ∙ f))
    where
      clash : Refused x ≡ At outer here m → ⊥
      clash e = cc
  going_on b bs ih (At outer' here' m') o taken e f l = (
    rest.0,
    ap (λ t. run (cond t (reading.Going (scanned (At outer' here' m') o (b == 13)) (taken + 1)) (reading.Refused Size taken)) bs)
        (lt-ltb taken 262144 below) ∙ rest.1
        ∙ ap (λ n. reading.Going (scanned (At outer here m) last rest.0) n) same_count,
  )
    where
      below : taken < 262144
      below = omega (arith, l)

      fewer : (taken + 1) + length bs ≤ 262144
      fewer = omega (arith, l)

      same_count : (taken + 1) + length bs ≡ taken + length (b ∷ bs)
      same_count = omega arith

      rest : (r : Bool) × (run (reading.Going (scanned (At outer' here' m') o (b == 13)) (taken + 1)) bs
          ≡ reading.Going (scanned (At outer here m) last r) ((taken + 1) + length bs))
      rest = ih (At outer' here' m') o (b == 13) (taken + 1) e f fewer

  by_octet : (b : ℕ) (bs : List ℕ) → To bs → (s : State) (o : Octet) (returned : Bool) (taken : ℕ) (d : Decoding) → octet_after o b ≡ d
      → octets d bs ≡ decoding.At last
      → steps s (lines returned (b ∷ bs)) ≡ At outer here m → taken + length (b ∷ bs) ≤ 262144
      → (r : Bool) × (run (counted taken (turned_from (scanned s o returned) b d)) bs
      ≡ reading.Going (scanned (At outer here m) last r) (taken + length (b ∷ bs)))
  by_octet b bs ih s o returned taken (decoding.Broken x) d e f l = absurd (clash (sym (broken bs) ∙ e))
    where
      broken : (bs : List ℕ) → octets (decoding.Broken x) bs ≡ decoding.Broken x
      broken [] = refl
      broken (b ∷ bs) = refl

      clash : decoding.Broken x ≡ decoding.At last → ⊥
      clash e = cc
  by_octet b bs ih s o returned taken (decoding.At next) d e f l =
      going_on b bs ih (unless_returned s returned b) next taken e (sym (line_step s returned b bs) ∙ f) l

  -- where the states lead so, the reading does
  pub to : (bs : List ℕ) → To bs
  to [] = at_end
  to (b ∷ bs) = λ s o returned taken e f l.
      let r = by_octet b bs (to bs) s o returned taken (octet_after o b) refl e f l in
      (r.0, run_one (scanned s o returned) taken b bs ∙ r.1)

-- A reference that is taken at once means what the machine reads byte by byte.
use Rattle.std.proofs.Common.{◌≡◌, ℕ, ◌+◌, ◌-◌, ◌<◌, ◌≤◌, ◌==◌, Bool, true, false, take, List, [], ◌∷◌, length, encode_utf8, refl, sym, ap}
use Rattle.std.proofs.Common.{◌∙◌, arith, true≢false, ◌++◌}
use Rattle.ba_xml_words.specs.Classes.{class_of, mark_of}
use Rattle.ba_xml_words.specs.inside.Octets.{lead}
use Rattle.ba_xml_words.specs.inside.References.{referred}
use Rattle.ba_xml_names.specs.inside.Levels.{put}
use Rattle.ba_xml_reader.specs.inside.Machine.{run, turned}
use Rattle.ba_xml_reader.specs.inside.Content.{reference_by}
use Rattle.ba_xml_reader.specs.inside.Escapes.{escape_text, escaped, is_in_text, with_meant}
use Rattle.ba_xml_reader.specs.inside.Readings.{Reading, Going}
use Rattle.ba_xml_reader.specs.inside.Turns as turn
use Rattle.ba_xml_words.specs.declared.classes.Class.TheVariants as class
use Rattle.ba_xml_words.specs.declared.octets.Octet.{Octet}
use Rattle.ba_xml_words.specs.declared.octets.Octet.TheVariants.{Between}
use Rattle.ba_xml_words.specs.declared.references.Entity.TheVariants as entity
use Rattle.ba_xml_words.specs.declared.references.Partial.{Partial}
use Rattle.ba_xml_words.specs.declared.references.Partial.TheVariants.{Nothing, LetterA, Named}
use Rattle.ba_xml_words.specs.declared.references.Referred.TheVariants as referred'
use Rattle.ba_xml_names.specs.declared.levels.Level.{Level}
use Rattle.ba_xml_reader.specs.declared.escapes.Escape.{Escape}
use Rattle.ba_xml_reader.specs.declared.escapes.Escape.TheVariants as escape'
use Rattle.ba_xml_reader.specs.declared.machine.Scan.{Scan}
use Rattle.ba_xml_reader.specs.declared.states.Mode.TheVariants as mode
use Rattle.ba_xml_reader.specs.declared.states.Seen.{Seen}
use Rattle.ba_xml_reader.specs.declared.states.Seen.TheVariants.{Zero}
use Rattle.ba_xml_reader.specs.declared.states.State.{State}
use Rattle.ba_xml_reader.specs.declared.states.State.TheVariants as state
use Rattle.ba_xml_reader.proofs.CompleteCharacters.{encoded_one}
use Rattle.ba_xml_reader.proofs.CompleteSteps.{by_kind}
use Rattle.ba_xml_reader.proofs.PutOn.{is_single, calm_scan, turn_on, once}
use Rattle.ba_xml_reader.proofs.Runs.{run_none, run_more}

ampersand_kind : class_of 38 ≡ class.Ampersand
unfolding class_of mark_of
ampersand_kind = refl

-- a byte, and then the others
step : (scan next : Scan) (taken b : ℕ) (bs : List ℕ) (r : Reading) → turned scan b ≡ turn.On next → taken < 262144
    → run (Going next (taken + 1)) bs ≡ r → run (Going scan taken) (b ∷ bs) ≡ r
step scan next taken b bs r e h more = run_more (Going scan taken) b bs ∙ ap (λ x. run x bs) (once scan next taken b e h) ∙ more

module _ (parent : Level) (outer : List Level) (here : Level) where
  abbrev before : Seen → Scan
  before seen = calm_scan (state.At (parent ∷ outer) here (mode.Inside seen))

  abbrev within : Partial → Scan
  within p = calm_scan (state.At (parent ∷ outer) here (mode.Reference p))

  abbrev behind : ℕ → Scan
  behind c = calm_scan (state.At (parent ∷ outer) (put here c) (mode.Inside Zero))

  begins : (seen : Seen) → is_single (lead 38) ≡ true → turned (before seen) 38 ≡ turn.On (within Nothing)
  begins seen one = turn_on (parent ∷ outer) (parent ∷ outer) here here (mode.Inside seen) (mode.Reference Nothing) 38 one refl
      (by_kind (parent ∷ outer) here (mode.Inside seen) 38 class.Ampersand ampersand_kind)

  goes : (p q : Partial) (b : ℕ) → is_single (lead b) ≡ true → (b == 13) ≡ false → referred p b ≡ referred'.On q
      → turned (within p) b ≡ turn.On (within q)
  goes p q b one other e = turn_on (parent ∷ outer) (parent ∷ outer) here here (mode.Reference p) (mode.Reference q) b one other
      (by_kind (parent ∷ outer) here (mode.Reference p) b (class_of b) refl ∙ ap (λ g. reference_by (parent ∷ outer) here g) e)

  ends : (p : Partial) (c : ℕ) → is_single (lead 59) ≡ true → referred p 59 ≡ referred'.Meant c → encode_utf8 c ≡ c ∷ []
      → turned (within p) 59 ≡ turn.On (behind c)
  ends p c one e written = turn_on (parent ∷ outer) (parent ∷ outer) here (put here c) (mode.Reference p) (mode.Inside Zero) 59 one refl
      (by_kind (parent ∷ outer) here (mode.Reference p) 59 (class_of 59) refl ∙ ap (λ g. reference_by (parent ∷ outer) here g) e
      ∙ ap (λ bs. state.At (parent ∷ outer) (record here { text = here.text ++ bs }) (mode.Inside Zero)) written)

  less_runs : (seen : Seen) (taken : ℕ) → taken + 4 ≤ 262144
      → run (Going (before seen) taken) (escape_text escape'.Less) ≡ Going (behind 60) (taken + 1 + 1 + 1 + 1)
  unfolding lead referred
  less_runs seen taken h =
      step (before seen) (within Nothing) taken 38 _ _ (begins seen refl) (omega (arith, h))
      (step (within Nothing) (within (Named entity.Less 1)) (taken + 1) 108 _ _ (goes Nothing (Named entity.Less 1) 108 refl refl refl)
      (omega (arith, h))
      (step (within (Named entity.Less 1)) (within (Named entity.Less 2)) (taken + 1 + 1) 116 _ _
      (goes (Named entity.Less 1) (Named entity.Less 2) 116 refl refl refl) (omega (arith, h))
      (step (within (Named entity.Less 2)) (behind 60) (taken + 1 + 1 + 1) 59 _ _
      (ends (Named entity.Less 2) 60 refl refl (encoded_one 60 (omega arith))) (omega (arith, h)) (run_none _))))

  greater_runs : (seen : Seen) (taken : ℕ) → taken + 4 ≤ 262144
      → run (Going (before seen) taken) (escape_text escape'.Greater) ≡ Going (behind 62) (taken + 1 + 1 + 1 + 1)
  unfolding lead referred
  greater_runs seen taken h =
      step (before seen) (within Nothing) taken 38 _ _ (begins seen refl) (omega (arith, h))
      (step (within Nothing) (within (Named entity.Greater 1)) (taken + 1) 103 _ _
      (goes Nothing (Named entity.Greater 1) 103 refl refl refl) (omega (arith, h))
      (step (within (Named entity.Greater 1)) (within (Named entity.Greater 2)) (taken + 1 + 1) 116 _ _
      (goes (Named entity.Greater 1) (Named entity.Greater 2) 116 refl refl refl) (omega (arith, h))
      (step (within (Named entity.Greater 2)) (behind 62) (taken + 1 + 1 + 1) 59 _ _
      (ends (Named entity.Greater 2) 62 refl refl (encoded_one 62 (omega arith))) (omega (arith, h)) (run_none _))))

  ampersand_runs : (seen : Seen) (taken : ℕ) → taken + 5 ≤ 262144
      → run (Going (before seen) taken) (escape_text escape'.Ampersand) ≡ Going (behind 38) (taken + 1 + 1 + 1 + 1 + 1)
  unfolding lead referred
  ampersand_runs seen taken h =
      step (before seen) (within Nothing) taken 38 _ _ (begins seen refl) (omega (arith, h))
      (step (within Nothing) (within LetterA) (taken + 1) 97 _ _ (goes Nothing LetterA 97 refl refl refl) (omega (arith, h))
      (step (within LetterA) (within (Named entity.Ampersand 2)) (taken + 1 + 1) 109 _ _
      (goes LetterA (Named entity.Ampersand 2) 109 refl refl refl) (omega (arith, h))
      (step (within (Named entity.Ampersand 2)) (within (Named entity.Ampersand 3)) (taken + 1 + 1 + 1) 112 _ _
      (goes (Named entity.Ampersand 2) (Named entity.Ampersand 3) 112 refl refl refl) (omega (arith, h))
      (step (within (Named entity.Ampersand 3)) (behind 38) (taken + 1 + 1 + 1 + 1) 59 _ _
      (ends (Named entity.Ampersand 3) 38 refl refl (encoded_one 38 (omega arith))) (omega (arith, h)) (run_none _)))))

  escape_runs : (seen : Seen) (e : Escape) (taken : ℕ) → taken + length (escape_text e) ≤ 262144
      → run (Going (before seen) taken) (escape_text e) ≡ Going (behind (escaped e)) (taken + length (escape_text e))
  escape_runs seen escape'.Less taken h = less_runs seen taken h ∙ ap (λ n. Going (behind 60) n) (omega arith)
  escape_runs seen escape'.Greater taken h = greater_runs seen taken h ∙ ap (λ n. Going (behind 62) n) (omega arith)
  escape_runs seen escape'.Ampersand taken h = ampersand_runs seen taken h ∙ ap (λ n. Going (behind 38) n) (omega arith)

by_parts : (s : State) (octet : Octet) (returned : Bool) (e : Escape) (taken : ℕ)
    → is_in_text (record { state = s; octet = octet; returned = returned }) ≡ true → taken + length (escape_text e) ≤ 262144
    → run (Going (record { state = s; octet = octet; returned = returned }) taken) (escape_text e)
    ≡ Going (with_meant (record { state = s; octet = octet; returned = returned }) (escaped e)) (taken + length (escape_text e))
by_parts s octet true e taken is h = absurd (true≢false (sym is))
by_parts (state.Refused r) Between false e taken is h = absurd (true≢false (sym is))
by_parts (state.At (parent ∷ outer) here (mode.Inside seen)) Between false e taken is h = escape_runs parent outer here seen e taken h
by_parts (state.At [] here m) Between false e taken is h = absurd (true≢false (sym is))
by_parts (state.At (parent ∷ outer) here m) Between false e taken is h = absurd (true≢false (sym is))
by_parts s octet false e taken is h = absurd (true≢false (sym is))

-- a reference that is taken at once means what the machine reads byte by byte
pub escape_put : (scan next : Scan) (bs : List ℕ) (e : Escape) (b count taken : ℕ) → is_in_text scan ≡ true
    → take (length (escape_text e)) bs ≡ escape_text e → length (escape_text e) ≤ 262144 - taken → count ≡ length (escape_text e)
    → b ≡ escaped e
    → next ≡ with_meant scan b → run (Going scan taken) (take count bs) ≡ Going next (taken + count)
escape_put scan next bs e b count taken is begun most long meant put =
    ap (λ n. run (Going scan taken) (take n bs)) long ∙ ap (λ xs. run (Going scan taken) xs) begun
    ∙ by_parts scan.state scan.octet scan.returned e taken is within
    ∙ ap (λ x. Going (with_meant scan x) (taken + length (escape_text e))) (sym meant)
    ∙ ap (λ s. Going s (taken + length (escape_text e))) (sym put)
    ∙ ap (λ n. Going next (taken + n)) (sym long)
  where
    some : (e : Escape) → 0 < length (escape_text e)
    some escape'.Less = omega arith
    some escape'.Greater = omega arith
    some escape'.Ampersand = omega arith

    within : taken + length (escape_text e) ≤ 262144
    within = omega (arith, most, some e)

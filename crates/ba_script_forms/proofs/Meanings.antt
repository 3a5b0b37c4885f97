-- Each line says something or is bad at a column, and not both: for the law that a line means one thing.
use Rattle.std.proofs.Common.{◌≡◌, ◌≢◌, ℕ, ◌+◌, ◌≤◌, ◌⊎◌, inl, inr, Bool, true, false, nat_eq, nat_lt, if◌then◌else◌, Option, None, Some}
use Rattle.std.proofs.Common.{List, [], ◌∷◌, ◌++◌, length, refl, ap, ◌∙◌, arith}
use Rattle.std.proofs.lemmas.Bool.{eqb-true, ltb-true, ltb-false}
use Rattle.ba_script_forms.specs.Grammar.{words_of, opening_forms, pair_forms, world_forms, bad_word}
use Rattle.ba_script_forms.specs.Readings.{Says, MayStand, IsLine, forms_at, bad_unless_remark, bad_column}
use Rattle.ba_script_forms.specs.declared.readings.Form.{Form}
use Rattle.ba_script_forms.specs.declared.readings.Form.TheVariants as form
use Rattle.ba_script_forms.specs.declared.readings.Reading.{Reading}
use Rattle.ba_script_forms.specs.declared.readings.Reading.TheVariants.{Nothing, Opening, Pair, World}
use Rattle.ba_script_forms.proofs.Accepted.{SomeFits, accepted, fitting_is_accepted, fits_either, fits_first, fits_second}
use Rattle.ba_script_forms.proofs.Fitting.{opening_fits, pair_fits, world_fits}
use Rattle.ba_script_forms.proofs.Told.{form_chosen, pair_told, world_told}

-- words of which none is bad say something
words_say : (chosen : Option Form) (line : List ℕ) → SomeFits (forms_at chosen) (words_of line)
    → (r : Reading) × MayStand chosen r × Says r line
words_say None line some =
    elim (fits_either opening_forms pair_forms (words_of line) some) [
      | inl opening ↦ let told = form_chosen (words_of line) opening in (Opening told.0, refl, (told.1, told.2))
      | inr event ↦ let told = pair_told (words_of line) event in (Pair told.0, tt, (told.1, told.2))
    ]
words_say (Some (form.Pair p)) line some = let told = pair_told (words_of line) some in (Pair told.0, tt, (told.1, told.2))
words_say (Some (form.World n)) line some = let told = world_told (words_of line) some in (World told.0, tt, (told.1, told.2))

-- and what is said has none that is bad
said_is_good : (chosen : Option Form) (r : Reading) (line : List ℕ) → MayStand chosen r → Says r line → r ≢ Nothing
    → bad_word (forms_at chosen) (words_of line) 1 ≡ None
said_is_good chosen Nothing line stands says other = absurd (other refl)
said_is_good chosen (Opening f) line stands says other =
    ap (λ (c : Option Form). bad_word (forms_at c) (words_of line) 1) stands
    ∙ ap (λ (ws : List (List ℕ)). bad_word (opening_forms ++ pair_forms) ws 1) says.0
    ∙ fitting_is_accepted _ (opening_forms ++ pair_forms) 1 (fits_first opening_forms pair_forms _ (opening_fits f says.1))
said_is_good None (Pair e) line stands says other =
    ap (λ (ws : List (List ℕ)). bad_word (opening_forms ++ pair_forms) ws 1) says.0
    ∙ fitting_is_accepted _ (opening_forms ++ pair_forms) 1 (fits_second opening_forms pair_forms _ (pair_fits e says.1))
said_is_good (Some (form.Pair p)) (Pair e) line stands says other =
    ap (λ (ws : List (List ℕ)). bad_word pair_forms ws 1) says.0 ∙ fitting_is_accepted _ pair_forms 1 (pair_fits e says.1)
said_is_good (Some (form.World n)) (Pair e) line stands says other = absurd stands
said_is_good None (World e) line stands says other = absurd stands
said_is_good (Some (form.Pair p)) (World e) line stands says other = absurd stands
said_is_good (Some (form.World n)) (World e) line stands says other =
    ap (λ (ws : List (List ℕ)). bad_word world_forms ws 1) says.0 ∙ fitting_is_accepted _ world_forms 1 (world_fits e says.1)

-- a line is bad or says something
abbrev Decided : Option Form → List ℕ → Option ℕ → Type 0
Decided chosen line None = (r : Reading) × MayStand chosen r × Says r line
Decided chosen line (Some column) = Unit {0}

by_remark : (chosen : Option Form) (byte : ℕ) (bytes : List ℕ) (t : Bool) → nat_eq byte 35 ≡ t
    → Decided chosen (byte ∷ bytes) (bad_word (forms_at chosen) (words_of (byte ∷ bytes)) 1)
    → Decided chosen (byte ∷ bytes) (if t then None else bad_word (forms_at chosen) (words_of (byte ∷ bytes)) 1)
by_remark chosen byte bytes true is words = (Nothing, tt, eqb-true byte 35 is)
by_remark chosen byte bytes false is words = words

by_words : (chosen : Option Form) (line : List ℕ) (bad : Option ℕ) → bad_word (forms_at chosen) (words_of line) 1 ≡ bad
    → Decided chosen line bad
by_words chosen line (Some column) is = tt
by_words chosen line None is = words_say chosen line (accepted (words_of line) (forms_at chosen) 1 is)

short_line : (chosen : Option Form) (line : List ℕ) → Decided chosen line (bad_unless_remark chosen line)
short_line chosen [] = (Nothing, tt, tt)
short_line chosen (byte ∷ bytes) =
    by_remark chosen byte bytes (nat_eq byte 35) refl (by_words chosen (byte ∷ bytes) (bad_word (forms_at chosen) (words_of (byte
    ∷ bytes)) 1) refl)

-- a line says something, or is bad at a column
abbrev pub LineMeans : Option Form → List ℕ → Type 0
LineMeans chosen line = ((r : Reading) × IsLine chosen r line) ⊎ ((column : ℕ) × (bad_column chosen line ≡ Some column))

by_bad : (chosen : Option Form) (line : List ℕ) (bad : Option ℕ) → length line ≤ 256 → bad_column chosen line ≡ bad
    → Decided chosen line bad
    → LineMeans chosen line
by_bad chosen line None short is (r, stands, says) = inl (r, record { short = short; stands = stands; says = says })
by_bad chosen line (Some column) short is decided = inr (column, is)

by_length : (chosen : Option Form) (line : List ℕ) (t : Bool) → nat_lt 256 (length line) ≡ t → LineMeans chosen line
by_length chosen line true is =
    inr (257, ap (λ (s : Bool). if s then Some 257 else bad_unless_remark chosen line) is)
by_length chosen line false is =
    let fits : length line ≤ 256 = omega (arith, ltb-false 256 (length line) is) in
    by_bad chosen line (bad_unless_remark chosen line) fits
    (ap (λ (s : Bool). if s then Some 257 else bad_unless_remark chosen line) is) (short_line chosen line)

pub line_means : (chosen : Option Form) (line : List ℕ) → LineMeans chosen line
line_means chosen line = by_length chosen line (nat_lt 256 (length line)) refl

good_or_remark : (chosen : Option Form) (line : List ℕ) → bad_word (forms_at chosen) (words_of line) 1 ≡ None
    → bad_unless_remark chosen line ≡ None
good_or_remark chosen [] good = refl
good_or_remark chosen (byte ∷ bytes) good =
    elim (nat_eq byte 35) as (λ t. (if t then None else bad_word (forms_at chosen) (words_of (byte ∷ bytes)) 1) ≡ None) [
      | true ↦ refl
      | false ↦ good
    ]

nothing_good : (chosen : Option Form) (line : List ℕ) → Says Nothing line → bad_unless_remark chosen line ≡ None
nothing_good chosen [] says = refl
nothing_good chosen (byte ∷ bytes) says =
    ap (λ b. if nat_eq b 35 then None else bad_word (forms_at chosen) (words_of (byte ∷ bytes)) 1) says

said_unless : (chosen : Option Form) (r : Reading) (line : List ℕ) → MayStand chosen r → Says r line
    → bad_unless_remark chosen line ≡ None
said_unless chosen Nothing line stands says = nothing_good chosen line says
said_unless chosen (Opening f) line stands says = good_or_remark chosen line (said_is_good chosen (Opening f) line stands says
    (λ h. absurd cc))
said_unless chosen (Pair e) line stands says = good_or_remark chosen line (said_is_good chosen (Pair e) line stands says (λ h. absurd cc))
said_unless chosen (World e) line stands says = good_or_remark chosen line (said_is_good chosen (World e) line stands says
    (λ h. absurd cc))

short_test : (n : ℕ) → n ≤ 256 → (t : Bool) → nat_lt 256 n ≡ t → nat_lt 256 n ≡ false
short_test n short true is = absurd (omega (arith, ltb-true 256 n is))
short_test n short false is = is

pub line_is_good : (chosen : Option Form) (r : Reading) (line : List ℕ) → IsLine chosen r line → bad_column chosen line ≡ None
line_is_good chosen r line is =
    ap (λ (s : Bool). if s then Some 257 else bad_unless_remark chosen line)
    (short_test (length line) is.short (nat_lt 256 (length line)) refl)
    ∙ said_unless chosen r line is.stands is.says

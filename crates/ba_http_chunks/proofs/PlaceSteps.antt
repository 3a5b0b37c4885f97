-- The next place of a size line, and what it says of the bytes so far; for the laws.
use Rattle.std.proofs.Common.{◌≡◌, ℕ, Bool, true, false, cond, nat_eq, List, [], ◌∷◌, ◌++◌, refl, sym, ◌∙◌, subst}
use Rattle.std.specs.Char.{is_ascii_hexdigit}
use Rattle.std.proofs.lemmas.Bool.{eqb-true, eq-eqb}
use Rattle.httparse.specs.Grammar.{is_ows}
use Rattle.ba_http_body.specs.declared.size_lines.Step.{Step}
use Rattle.ba_http_body.specs.declared.size_lines.Step.TheVariants.{More, End, Bad}
use Rattle.ba_http_body.specs.declared.size_lines.Place.{Place}
use Rattle.ba_http_body.specs.declared.size_lines.Place.TheVariants.{First, Digits, Blank, Extension, Return}
use Rattle.ba_http_body.specs.inside.Places.{HasRead, Steps}
use Rattle.ba_http_body.proofs.LineSteps.{first_digit, next_digit, first_blank, next_blank, first_text, blank_text, next_text}
use Rattle.ba_http_body.proofs.LineSteps.{digits_return, blank_return, text_return, ends}
use Rattle.ba_http_body.proofs.Walks.{walk, dead_first, dead_blank, dead_digits, text_is, dead_text, dead_return}

-- after digits and white space
abbrev pub blank_step : ℕ → Step
blank_step b = cond (is_ows b) (More Blank) (cond (nat_eq b 59) (More Extension) (cond (nat_eq b 13) (More Return) Bad))

abbrev pub place_step : Place → ℕ → Step
place_step First b = cond (is_ascii_hexdigit b) (More Digits) Bad
place_step Digits b = cond (is_ascii_hexdigit b) (More Digits) (blank_step b)
place_step Blank b = blank_step b
place_step Extension b = cond (nat_eq b 13) (More Return) (cond (nat_eq b 10) Bad (More Extension))
place_step Return b = cond (nat_eq b 10) End Bad

differ : (a b : ℕ) → nat_eq a b ≡ false → a ≡ b → ⊥
differ a b is same = let no : true ≡ false = sym (eq-eqb a b same) ∙ is in cc

-- what the step says of the bytes so far
pub place_sound : (p : Place) (b : ℕ) (seen : List ℕ) → HasRead p seen → Steps (place_step p b) (seen ++ b ∷ [])
place_sound First b seen h = digit (is_ascii_hexdigit b) refl
  where
    digit : (t : Bool) → is_ascii_hexdigit b ≡ t → Steps (cond t (More Digits) Bad) (seen ++ b ∷ [])
    digit true is = first_digit b seen h is
    digit false is = dead_first seen b h is
place_sound Digits b seen h = digit (is_ascii_hexdigit b) refl
  where
    return : (t : Bool) → is_ascii_hexdigit b ≡ false → is_ows b ≡ false → nat_eq b 59 ≡ false → nat_eq b 13 ≡ t
        → Steps (cond t (More Return) Bad) (seen ++ b ∷ [])
    return true x y z is = subst (λ v. Steps (More Return) (seen ++ v ∷ [])) (sym (eqb-true b 13 is)) (digits_return seen h)
    return false x y z is = dead_digits seen b h x y (differ b 59 z) (differ b 13 is)

    text : (t : Bool) → is_ascii_hexdigit b ≡ false → is_ows b ≡ false → nat_eq b 59 ≡ t
        → Steps (cond t (More Extension) (cond (nat_eq b 13) (More Return) Bad)) (seen ++ b ∷ [])
    text true x y is = subst (λ v. Steps (More Extension) (seen ++ v ∷ [])) (sym (eqb-true b 59 is)) (first_text seen h)
    text false x y is = return (nat_eq b 13) x y is refl

    space : (t : Bool) → is_ascii_hexdigit b ≡ false → is_ows b ≡ t
        → Steps (cond t (More Blank) (cond (nat_eq b 59) (More Extension) (cond (nat_eq b 13) (More Return) Bad))) (seen ++ b ∷ [])
    space true x is = first_blank b seen h is
    space false x is = text (nat_eq b 59) x is refl

    digit : (t : Bool) → is_ascii_hexdigit b ≡ t → Steps (cond t (More Digits) (blank_step b)) (seen ++ b ∷ [])
    digit true is = next_digit b seen h is
    digit false is = space (is_ows b) is refl
place_sound Blank b seen h = space (is_ows b) refl
  where
    return : (t : Bool) → is_ows b ≡ false → nat_eq b 59 ≡ false → nat_eq b 13 ≡ t → Steps (cond t (More Return) Bad) (seen ++ b ∷ [])
    return true y z is = subst (λ v. Steps (More Return) (seen ++ v ∷ [])) (sym (eqb-true b 13 is)) (blank_return seen h)
    return false y z is = dead_blank seen b h y (differ b 59 z) (differ b 13 is)

    text : (t : Bool) → is_ows b ≡ false → nat_eq b 59 ≡ t
        → Steps (cond t (More Extension) (cond (nat_eq b 13) (More Return) Bad)) (seen ++ b ∷ [])
    text true y is = subst (λ v. Steps (More Extension) (seen ++ v ∷ [])) (sym (eqb-true b 59 is)) (blank_text seen h)
    text false y is = return (nat_eq b 13) y is refl

    space : (t : Bool) → is_ows b ≡ t
        → Steps (cond t (More Blank) (cond (nat_eq b 59) (More Extension) (cond (nat_eq b 13) (More Return) Bad))) (seen ++ b ∷ [])
    space true is = next_blank b seen h is
    space false is = text (nat_eq b 59) is refl
place_sound Extension b seen h = return (nat_eq b 13) refl
  where
    feed : (t : Bool) → nat_eq b 13 ≡ false → nat_eq b 10 ≡ t → Steps (cond t Bad (More Extension)) (seen ++ b ∷ [])
    feed true x is = subst (λ v. Steps Bad (seen ++ v ∷ [])) (sym (eqb-true b 10 is)) (dead_text seen h)
    feed false x is = next_text b seen h (text_is b (differ b 13 x) (differ b 10 is))

    return : (t : Bool) → nat_eq b 13 ≡ t → Steps (cond t (More Return) (cond (nat_eq b 10) Bad (More Extension))) (seen ++ b ∷ [])
    return true is = subst (λ v. Steps (More Return) (seen ++ v ∷ [])) (sym (eqb-true b 13 is)) (text_return seen h)
    return false is = feed (nat_eq b 10) is refl
place_sound Return b seen h = feed (nat_eq b 10) refl
  where
    feed : (t : Bool) → nat_eq b 10 ≡ t → Steps (cond t End Bad) (seen ++ b ∷ [])
    feed true is = subst (λ v. Steps End (seen ++ v ∷ [])) (sym (eqb-true b 10 is)) (ends seen h)
    feed false is = dead_return seen b h (differ b 10 is)

-- whether the bytes end a size line after a step
abbrev pub walks_after : Step → List ℕ → Bool
walks_after (More p) rest = walk p rest
walks_after End [] = true
walks_after End (b ∷ rest) = false
walks_after Bad rest = false

blank_walk : (b : ℕ) (rest : List ℕ)
    → cond (is_ows b) (walk Blank rest) (cond (nat_eq b 59) (walk Extension rest) (cond (nat_eq b 13) (walk Return rest) false))
    ≡ walks_after (blank_step b) rest
blank_walk b rest =
    elim (is_ows b) as (λ t.
    cond t (walk Blank rest) (cond (nat_eq b 59) (walk Extension rest) (cond (nat_eq b 13) (walk Return rest) false))
    ≡ walks_after (cond t (More Blank) (cond (nat_eq b 59) (More Extension) (cond (nat_eq b 13) (More Return) Bad))) rest) [
      | true ↦ refl
      | false ↦
          elim (nat_eq b 59) as (λ t.
          cond t (walk Extension rest) (cond (nat_eq b 13) (walk Return rest) false)
          ≡ walks_after (cond t (More Extension) (cond (nat_eq b 13) (More Return) Bad)) rest) [
            | true ↦ refl
            | false ↦
                elim (nat_eq b 13) as (λ t. cond t (walk Return rest) false ≡ walks_after (cond t (More Return) Bad) rest) [
                  | true ↦ refl
                  | false ↦ refl
                ]
          ]
    ]

pub walk_step : (p : Place) (b : ℕ) (rest : List ℕ) → walk p (b ∷ rest) ≡ walks_after (place_step p b) rest
unfolding walk
walk_step First b rest =
    elim (is_ascii_hexdigit b) as (λ t. cond t (walk Digits rest) false ≡ walks_after (cond t (More Digits) Bad) rest) [
      | true ↦ refl
      | false ↦ refl
    ]
walk_step Digits b rest =
    elim (is_ascii_hexdigit b) as (λ t.
    cond t (walk Digits rest)
    (cond (is_ows b) (walk Blank rest) (cond (nat_eq b 59) (walk Extension rest) (cond (nat_eq b 13) (walk Return rest) false)))
    ≡ walks_after (cond t (More Digits) (blank_step b)) rest) [
      | true ↦ refl
      | false ↦ blank_walk b rest
    ]
walk_step Blank b rest = blank_walk b rest
walk_step Extension b rest =
    elim (nat_eq b 13) as (λ t.
    cond t (walk Return rest) (cond (nat_eq b 10) false (walk Extension rest))
    ≡ walks_after (cond t (More Return) (cond (nat_eq b 10) Bad (More Extension))) rest) [
      | true ↦ refl
      | false ↦
          elim (nat_eq b 10) as (λ t. cond t false (walk Extension rest) ≡ walks_after (cond t Bad (More Extension)) rest) [
            | true ↦ refl
            | false ↦ refl
          ]
    ]
walk_step Return b [] = elim (nat_eq b 10) as (λ t. t ≡ walks_after (cond t End Bad) []) [ true ↦ refl | false ↦ refl ]
walk_step Return b (c ∷ rest) =
    elim (nat_eq b 10) as (λ t. false ≡ walks_after (cond t End Bad) (c ∷ rest)) [ true ↦ refl | false ↦ refl ]

pub walk_none : (p : Place) → walk p [] ≡ true → ⊥
unfolding walk
walk_none First h = absurd (let no : false ≡ true = h in cc)
walk_none Digits h = absurd (let no : false ≡ true = h in cc)
walk_none Blank h = absurd (let no : false ≡ true = h in cc)
walk_none Extension h = absurd (let no : false ≡ true = h in cc)
walk_none Return h = absurd (let no : false ≡ true = h in cc)

-- Words of which none is bad fit a form, one by one.
use Rattle.std.proofs.Common.{◌≡◌, ℕ, ◌+◌, ◌-◌, ◌⊎◌, inl, inr, Bool, true, false, true≢false, if◌then◌else◌, Option, None, Some, List, []}
use Rattle.std.proofs.Common.{◌∷◌, ◌++◌, length, refl, sym, ap, ◌∙◌}
use Rattle.ba_script_forms.specs.Grammar.{Slot, fits, left_after, some_ends, bad_or, bad_word}

-- the words fit these slots, one by one
abbrev pub AllFit : List Slot → List (List ℕ) → Type 0
AllFit [] [] = Unit {0}
AllFit [] (word ∷ words) = ⊥
AllFit (slot ∷ slots) [] = ⊥
AllFit (slot ∷ slots) (word ∷ words) = (fits slot word ≡ true) × AllFit slots words

-- the words fit one of these forms
abbrev pub SomeFits : List (List Slot) → List (List ℕ) → Type 0
SomeFits [] words = ⊥
SomeFits (form ∷ forms) words = AllFit form words ⊎ SomeFits forms words

ends_some : (forms : List (List Slot)) → some_ends forms ≡ true → SomeFits forms []
ends_some [] holds = absurd (true≢false (sym holds))
ends_some ([] ∷ forms) holds = inl tt
ends_some ((slot ∷ slots) ∷ forms) holds = inr (ends_some forms holds)

by_fit : (slot : Slot) (slots : List Slot) (forms : List (List Slot)) (word : List ℕ) (words : List (List ℕ))
    → (SomeFits (left_after forms word) words → SomeFits forms (word ∷ words)) → (t : Bool) → fits slot word ≡ t
    → SomeFits (if t then slots ∷ left_after forms word else left_after forms word) words
    → SomeFits ((slot ∷ slots) ∷ forms) (word ∷ words)
by_fit slot slots forms word words others true is (inl fit) = inl (is, fit)
by_fit slot slots forms word words others true is (inr later) = inr (others later)
by_fit slot slots forms word words others false is later = inr (others later)

fits_before : (forms : List (List Slot)) (word : List ℕ) (words : List (List ℕ)) → SomeFits (left_after forms word) words
    → SomeFits forms (word ∷ words)
fits_before [] word words some = absurd some
fits_before ([] ∷ forms) word words some = inr (fits_before forms word words some)
fits_before ((slot ∷ slots) ∷ forms) word words some =
    by_fit slot slots forms word words (fits_before forms word words) (fits slot word) refl some

ends_by : (t : Bool) (column : ℕ) → (if t then None else Some column) ≡ None → t ≡ true
ends_by true column none = refl
ends_by false column none = absurd cc

later_of : (forms : List (List Slot)) (column : ℕ) (later : Option ℕ) → bad_or forms column later ≡ None → later ≡ None
later_of [] column later none = absurd cc
later_of (form ∷ forms) column later none = none

pub accepted : (words : List (List ℕ)) (forms : List (List Slot)) (column : ℕ) → bad_word forms words column ≡ None → SomeFits forms words
accepted [] forms column none = ends_some forms (ends_by (some_ends forms) (column - 1) none)
accepted (word ∷ words) forms column none =
    fits_before forms word words
    (accepted words (left_after forms word) (column + length word + 1)
    (later_of (left_after forms word) column (bad_word (left_after forms word) words (column + length word + 1)) none))

-- the first of the words that fit, and the others
pub record Fitting (slot : Slot) (slots : List Slot) (words : List (List ℕ)) : Type 0 where
  pub word : List ℕ
  pub others : List (List ℕ)
  pub is : words ≡ word ∷ others
  pub fit : fits slot word ≡ true
  pub rest : AllFit slots others

pub first_fitting : (slot : Slot) (slots : List Slot) (words : List (List ℕ)) → AllFit (slot ∷ slots) words → Fitting slot slots words
first_fitting slot slots [] fit = absurd fit
first_fitting slot slots (word ∷ words) fit = record { word = word; others = words; is = refl; fit = fit.0; rest = fit.1 }

pub no_others : (words : List (List ℕ)) → AllFit [] words → words ≡ []
no_others [] fit = refl
no_others (word ∷ words) fit = absurd fit

-- words of a form are accepted

fits_some : (forms : List (List Slot)) → SomeFits forms [] → some_ends forms ≡ true
fits_some [] some = absurd some
fits_some ([] ∷ forms) some = refl
fits_some ((slot ∷ slots) ∷ forms) (inl fit) = absurd fit
fits_some ((slot ∷ slots) ∷ forms) (inr some) = fits_some forms some

by_fit_after : (slot : Slot) (slots : List Slot) (forms : List (List Slot)) (word : List ℕ) (words : List (List ℕ))
    → (SomeFits forms (word ∷ words) → SomeFits (left_after forms word) words) → (t : Bool) → fits slot word ≡ t
    → SomeFits ((slot ∷ slots) ∷ forms) (word ∷ words)
    → SomeFits (if t then slots ∷ left_after forms word else left_after forms word) words
by_fit_after slot slots forms word words others true is (inl fit) = inl fit.1
by_fit_after slot slots forms word words others true is (inr later) = inr (others later)
by_fit_after slot slots forms word words others false is (inl fit) = absurd (true≢false (sym fit.0 ∙ is))
by_fit_after slot slots forms word words others false is (inr later) = others later

fits_after : (forms : List (List Slot)) (word : List ℕ) (words : List (List ℕ)) → SomeFits forms (word ∷ words)
    → SomeFits (left_after forms word) words
fits_after [] word words some = absurd some
fits_after ([] ∷ forms) word words (inl fit) = absurd fit
fits_after ([] ∷ forms) word words (inr some) = fits_after forms word words some
fits_after ((slot ∷ slots) ∷ forms) word words some =
    by_fit_after slot slots forms word words (fits_after forms word words) (fits slot word) refl some

some_form : (forms : List (List Slot)) (words : List (List ℕ)) (column : ℕ) (later : Option ℕ) → SomeFits forms words
    → bad_or forms column later ≡ later
some_form [] words column later some = absurd some
some_form (form ∷ forms) words column later some = refl

pub fitting_is_accepted : (words : List (List ℕ)) (forms : List (List Slot)) (column : ℕ) → SomeFits forms words
    → bad_word forms words column ≡ None
fitting_is_accepted [] forms column some = ap (λ t. if t then None else Some (column - 1)) (fits_some forms some)
fitting_is_accepted (word ∷ words) forms column some =
    let after = fits_after forms word words some in
    some_form (left_after forms word) words column (bad_word (left_after forms word) words (column + length word + 1)) after
    ∙ fitting_is_accepted words (left_after forms word) (column + length word + 1) after

-- where two lists of forms stand together
pub fits_either : (a b : List (List Slot)) (words : List (List ℕ)) → SomeFits (a ++ b) words → SomeFits a words ⊎ SomeFits b words
fits_either [] b words some = inr some
fits_either (form ∷ a) b words (inl fit) = inl (inl fit)
fits_either (form ∷ a) b words (inr some) =
    elim (fits_either a b words some) [
      | inl here ↦ inl (inr here)
      | inr there ↦ inr there
    ]

pub fits_first : (a b : List (List Slot)) (words : List (List ℕ)) → SomeFits a words → SomeFits (a ++ b) words
fits_first [] b words some = absurd some
fits_first (form ∷ a) b words (inl fit) = inl fit
fits_first (form ∷ a) b words (inr some) = inr (fits_first a b words some)

pub fits_second : (a b : List (List Slot)) (words : List (List ℕ)) → SomeFits b words → SomeFits (a ++ b) words
fits_second [] b words some = some
fits_second (form ∷ a) b words some = inr (fits_second a b words some)

-- What it is for a word to be one of some words, or a number between bounds.
use Rattle.std.proofs.Common.{◌≡◌, ◌≢◌, ℕ, ◌<◌, ◌≤◌, ◌^◌, ◌&&◌, ◌||◌, ◌⊎◌, inl, inr, Bool, true, false, true≢false, nat_eq, nat_le, List}
use Rattle.std.proofs.Common.{[], ◌∷◌, refl, sym, ap, ◌∙◌, arith}
use Rattle.std.specs.Cmp.Lexicographic.{pointwise, bytes_decides}
use Rattle.std.specs.Fmt.{decimal}
use Rattle.std.specs.Str.Parse.{digits_value}
use Rattle.std.proofs.lemmas.Bool.{leb-true, le-leb}
use Rattle.std.proofs.lemmas.Fmt.{decimal_is_IsNumeral}
use Rattle.ba_script_forms.specs.Grammar.{is_one_of, number, the, fits}

or_false : (b : Bool) → (b || false) ≡ b
or_false true = refl
or_false false = refl

pub both : (a b : Bool) → a ≡ true → b ≡ true → (a && b) ≡ true
both true b holds also = also
both false b holds also = absurd (true≢false (sym holds))

pub first_of : (a b : Bool) → (a && b) ≡ true → a ≡ true
first_of true b holds = refl
first_of false b holds = holds

pub second_of : (a b : Bool) → (a && b) ≡ true → b ≡ true
second_of true b holds = holds
second_of false b holds = absurd (true≢false (sym holds))

pub not_true : (b : Bool) → (b ≡ true → ⊥) → b ≡ false
not_true true other = absurd (other refl)
not_true false other = refl

pub fits_the : (wanted word : List ℕ) → fits (the wanted) word ≡ pointwise nat_eq word wanted
unfolding fits
fits_the wanted word = or_false (pointwise nat_eq word wanted)

pub same_word : (word wanted : List ℕ) → pointwise nat_eq word wanted ≡ true → word ≡ wanted
same_word word wanted = (bytes_decides word wanted).0

pub the_fits : (wanted word : List ℕ) → word ≡ wanted → fits (the wanted) word ≡ true
the_fits wanted word same = fits_the wanted word ∙ (bytes_decides word wanted).1 same

pub is_the : (wanted word : List ℕ) → fits (the wanted) word ≡ true → word ≡ wanted
is_the wanted word holds = (bytes_decides word wanted).0 (sym (fits_the wanted word) ∙ holds)

pub other_than : (wanted word : List ℕ) → word ≢ wanted → fits (the wanted) word ≡ false
other_than wanted word other = not_true (fits (the wanted) word) (λ holds. other (is_the wanted word holds))

-- numbers

pub number_fits : (least most n : ℕ) (word : List ℕ) → word ≡ decimal n → n < 2 ^ 64 → least ≤ n → n ≤ most
    → fits (number least most) word ≡ true
unfolding fits
number_fits least most n word is small above below =
    let value : digits_value 10 word ≡ n = ap (digits_value 10) is ∙ (decimal_is_IsNumeral n small).1 in
    both (pointwise nat_eq word (decimal (digits_value 10 word)))
    (nat_le least (digits_value 10 word) && nat_le (digits_value 10 word) most)
    ((bytes_decides word (decimal (digits_value 10 word))).1 (is ∙ ap decimal (sym value)))
    (both (nat_le least (digits_value 10 word)) (nat_le (digits_value 10 word) most)
    (le-leb least (digits_value 10 word) (omega arith)) (le-leb (digits_value 10 word) most (omega arith)))

pub number_of_fit : (least most : ℕ) (word : List ℕ) → fits (number least most) word ≡ true
    → (word ≡ decimal (digits_value 10 word)) × (least ≤ digits_value 10 word) × (digits_value 10 word ≤ most)
unfolding fits
number_of_fit least most word holds =
    let value = digits_value 10 word in
    let same = pointwise nat_eq word (decimal value) in
    let bounds = second_of same (nat_le least value && nat_le value most) holds in (
      (bytes_decides word (decimal value)).0 (first_of same (nat_le least value && nat_le value most) holds),
      leb-true least value (first_of (nat_le least value) (nat_le value most) bounds),
      leb-true value most (second_of (nat_le least value) (nat_le value most) bounds),
    )

pub no_number : (least most : ℕ) (word : List ℕ) → most < 2 ^ 64 → ((n : ℕ) → n < 2 ^ 64 → word ≢ decimal n)
    → fits (number least most) word ≡ false
no_number least most word small none =
    not_true (fits (number least most) word)
    (λ holds. let is = number_of_fit least most word holds in none (digits_value 10 word) (omega arith) is.0)

pub out_of_bounds : (least most n : ℕ) (word : List ℕ) → word ≡ decimal n → n < 2 ^ 64 → (least ≤ n → n ≤ most → ⊥)
    → fits (number least most) word ≡ false
out_of_bounds least most n word is small outside =
    let value : digits_value 10 word ≡ n = ap (digits_value 10) is ∙ (decimal_is_IsNumeral n small).1 in
    not_true (fits (number least most) word)
    (λ holds. let found = number_of_fit least most word holds in outside (omega arith) (omega arith))

-- choices

-- the word is none of these
abbrev pub NoneOf : List ℕ → List (List ℕ) → Type 0
NoneOf word [] = Unit {0}
NoneOf word (w ∷ ws) = (word ≢ w) × NoneOf word ws

pub none_of : (words : List (List ℕ)) (word : List ℕ) → NoneOf word words → is_one_of words word ≡ false
none_of [] word none = refl
none_of (w ∷ ws) word none =
    ap (λ b. b || is_one_of ws word) (not_true (pointwise nat_eq word w) (λ holds. none.0 ((bytes_decides word w).0 holds)))
    ∙ none_of ws word none.1

-- the word is one of these
abbrev pub SomeWord : List ℕ → List (List ℕ) → Type 0
SomeWord word [] = ⊥
SomeWord word (w ∷ ws) = (word ≡ w) ⊎ SomeWord word ws

by_same : (w : List ℕ) (ws : List (List ℕ)) (word : List ℕ) → (is_one_of ws word ≡ true → SomeWord word ws) → (t : Bool)
    → pointwise nat_eq word w ≡ t
    → (t || is_one_of ws word) ≡ true → (word ≡ w) ⊎ SomeWord word ws
by_same w ws word others true same holds = inl ((bytes_decides word w).0 same)
by_same w ws word others false same holds = inr (others holds)

pub some_word : (words : List (List ℕ)) (word : List ℕ) → is_one_of words word ≡ true → SomeWord word words
some_word [] word holds = absurd (true≢false (sym holds))
some_word (w ∷ ws) word holds = by_same w ws word (some_word ws word) (pointwise nat_eq word w) refl holds

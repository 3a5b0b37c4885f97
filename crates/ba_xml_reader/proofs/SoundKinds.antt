-- What the kind of a byte says of the byte.
use Rattle.std.proofs.Common.{◌≡◌, ℕ, Bool, true, false, cond, ◌||◌, ◌==◌, nat_lt, refl, subst, sym, ap, ◌∙◌, true≢false, eq-eqb}
use Rattle.ba_xml_grammar.specs.GrammarWords.{is_character}
use Rattle.std.proofs.Common.{eqb→eq, T}
use Rattle.ba_xml_words.specs.Classes.{is_space, is_first_letter, is_digit_or_dot, class_of, mark_of}
use Rattle.ba_xml_words.specs.declared.classes.Class.{Class}
use Rattle.ba_xml_words.specs.declared.classes.Class.TheVariants as class

-- no space and no control character
abbrev pub IsVisible : ℕ → Type 0
IsVisible b = (is_space b ≡ false) × (nat_lt b 32 ≡ false)

abbrev pub IsMark : Class → ℕ → Type 0
IsMark class.Less b = b ≡ 60
IsMark class.Greater b = b ≡ 62
IsMark class.Ampersand b = b ≡ 38
IsMark class.Slash b = b ≡ 47
IsMark class.Exclamation b = b ≡ 33
IsMark class.Question b = b ≡ 63
IsMark class.Hyphen b = b ≡ 45
IsMark class.OpenBracket b = b ≡ 91
IsMark class.CloseBracket b = b ≡ 93
IsMark class.EqualsSign b = b ≡ 61
IsMark class.Apostrophe b = b ≡ 39
IsMark class.DoubleQuote b = b ≡ 34
IsMark class.Colon b = b ≡ 58
IsMark class.Letter b = is_first_letter b ≡ true
IsMark class.Digit b = is_digit_or_dot b ≡ true
IsMark class.Space b = is_space b ≡ true
IsMark class.High b = nat_lt b 128 ≡ false
IsMark class.Plain b = Unit {0}
IsMark class.Control b = Unit {0}

if_mark : (b : ℕ) (test : Bool) (k other : Class) → (test ≡ true → IsMark k b) → IsMark other b → IsMark (cond test k other) b
if_mark b true k other y n = y refl
if_mark b false k other y n = n

is : (b c : ℕ) → (b == c) ≡ true → b ≡ c
is b c e = eqb→eq b c (subst T (sym e) tt)

marks : (b : ℕ) → IsMark (mark_of b) b
unfolding mark_of
marks b = if_mark b (b == 60) class.Less _ (λ e. is b 60 e)
    (if_mark b (b == 62) class.Greater _ (λ e. is b 62 e) (if_mark b (b == 38) class.Ampersand _ (λ e. is b 38 e)
    (if_mark b (b == 47) class.Slash _ (λ e. is b 47 e)
    (if_mark b (b == 33) class.Exclamation _ (λ e. is b 33 e) (if_mark b (b == 63) class.Question _ (λ e. is b 63 e)
    (if_mark b (b == 45) class.Hyphen _ (λ e. is b 45 e)
    (if_mark b (b == 91) class.OpenBracket _ (λ e. is b 91 e) (if_mark b (b == 93) class.CloseBracket _ (λ e. is b 93 e)
    (if_mark b (b == 61) class.EqualsSign _ (λ e. is b 61 e)
    (if_mark b (b == 39) class.Apostrophe _ (λ e. is b 39 e) (if_mark b (b == 34) class.DoubleQuote _ (λ e. is b 34 e)
    (if_mark b (b == 58) class.Colon class.Plain (λ e. is b 58 e) tt))))))))))))

by_space : (b : ℕ) (space control low letter digit : Bool) → is_space b ≡ space → nat_lt b 128 ≡ low → is_first_letter b ≡ letter
    → is_digit_or_dot b ≡ digit
    → IsMark (cond space class.Space (cond control class.Control
    (cond low (cond letter class.Letter (cond digit class.Digit (mark_of b))) class.High))) b
by_space b true control low letter digit s h l d = s
by_space b false true low letter digit s h l d = tt
by_space b false false true true digit s h l d = l
by_space b false false true false true s h l d = d
by_space b false false true false false s h l d = marks b
by_space b false false false letter digit s h l d = h

pub mark_told : (b : ℕ) → IsMark (class_of b) b
unfolding class_of
mark_told b = by_space b (is_space b) (nat_lt b 32) (nat_lt b 128) (is_first_letter b) (is_digit_or_dot b) refl refl refl refl

-- a byte of a kind is such a byte
pub mark_of_kind : (b : ℕ) (k : Class) → class_of b ≡ k → IsMark k b
mark_of_kind b k e = subst (λ c. IsMark c b) e (mark_told b)

-- ---- kinds of which no byte is a control character

abbrev pub IsNoControl : Class → Type 0
IsNoControl class.Control = ⊥
IsNoControl _ = Unit {0}

-- ---- kinds apart

abbrev pub rank : Class → ℕ
rank class.Space = 0
rank class.Less = 1
rank class.Greater = 2
rank class.Ampersand = 3
rank class.Slash = 4
rank class.Exclamation = 5
rank class.Question = 6
rank class.Hyphen = 7
rank class.OpenBracket = 8
rank class.CloseBracket = 9
rank class.EqualsSign = 10
rank class.Apostrophe = 11
rank class.DoubleQuote = 12
rank class.Letter = 13
rank class.Digit = 14
rank class.Colon = 15
rank class.Plain = 16
rank class.High = 17
rank class.Control = 18

-- bytes of kinds apart differ
pub differs : (b n : ℕ) (k j : Class) → class_of b ≡ k → class_of n ≡ j → (rank k == rank j) ≡ false → (b == n) ≡ false
differs b n k j e f apart = by (b == n) refl
  where
    same_rank : b ≡ n → rank k ≡ rank j
    same_rank s = ap rank (sym e ∙ ap class_of s ∙ f)

    by : (t : Bool) → (b == n) ≡ t → t ≡ false
    by true s = absurd (true≢false (sym (eq-eqb (rank k) (rank j) (same_rank (is b n s))) ∙ apart))
    by false s = refl

-- a byte of another kind than control characters is one of a character
pub character_kind : (b : ℕ) (k : Class) → class_of b ≡ k → IsNoControl k → is_character b ≡ true
unfolding class_of
character_kind b k e n = by (is_space b) (nat_lt b 32) refl refl e
  where
    white : (x y z : Bool) → nat_lt b 32 ≡ true → (b == 32) ≡ x → (b == 9) ≡ y → (b == 10) ≡ z → ((x || y) || z) ≡ true → (y || z) ≡ true
    white true y z l p q r s = absurd (true≢false (sym l ∙ ap (λ c. nat_lt c 32) (is b 32 p)))
    white false y z l p q r s = s

    by : (space control : Bool) → is_space b ≡ space → nat_lt b 32 ≡ control
        → cond space class.Space (cond control class.Control
        (cond (nat_lt b 128) (cond (is_first_letter b) class.Letter (cond (is_digit_or_dot b) class.Digit (mark_of b))) class.High)) ≡ k
        → is_character b ≡ true
    by true true s c e = rw c (white (b == 32) (b == 9) (b == 10) c refl refl refl s)
    by true false s c e = rw c refl
    by false true s c e = absurd (subst IsNoControl (sym e) n)
    by false false s c e = rw c refl

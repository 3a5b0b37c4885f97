-- The machine's states over bytes, one step at a time, and the kinds of bytes by which it goes.
use Rattle.std.proofs.Common.{◌≡◌, ℕ, Bool, true, false, cond, ◌||◌, not, ◌==◌, nat_lt, List, [], ◌∷◌, refl, sym, ap, subst, true≢false}
use Rattle.std.proofs.Common.{eqb→eq, T}
use Rattle.ba_xml_words.specs.Classes.{is_space, is_first_letter, is_digit_or_dot, class_of, mark_of}
use Rattle.ba_xml_reader.specs.inside.Machine.{state_after, act_by}
use Rattle.ba_xml_grammar.specs.GrammarWords.{is_character}
use Rattle.ba_xml_words.specs.declared.classes.Class.{Class}
use Rattle.ba_xml_words.specs.declared.classes.Class.TheVariants as class
use Rattle.ba_xml_names.specs.declared.levels.Level.{Level}
use Rattle.ba_xml_reader.specs.declared.states.Mode.{Mode}
use Rattle.ba_xml_reader.specs.declared.states.State.{State}
use Rattle.ba_xml_reader.specs.declared.states.State.TheVariants.{At}

-- the state after bytes whose line ends are one
unfoldable pub steps : State → List ℕ → State
steps s [] = s
steps s (b ∷ bs) = steps (state_after s b) bs

pub none : (s : State) → steps s [] ≡ s
unfolding steps
none s = refl

pub one : (s t : State) (b : ℕ) (bs : List ℕ) → state_after s b ≡ t → steps s (b ∷ bs) ≡ steps t bs
unfolding steps
one s t b bs e = ap (λ u. steps u bs) e

-- a step by the byte's kind
pub by_kind : (outer : List Level) (here : Level) (m : Mode) (b : ℕ) (k : Class) → class_of b ≡ k
    → state_after (At outer here m) b ≡ act_by outer here m b k
unfolding state_after
by_kind outer here m b k e = ap (λ c. act_by outer here m b c) e

pub go : (outer : List Level) (here : Level) (m : Mode) (b : ℕ) (k : Class) (bs : List ℕ) → class_of b ≡ k
    → steps (At outer here m) (b ∷ bs) ≡ steps (act_by outer here m b k) bs
go outer here m b k bs e = one (At outer here m) (act_by outer here m b k) b bs (by_kind outer here m b k e)

-- what a byte of a kind is
abbrev pub IsByte : Class → ℕ → Type 0
IsByte class.Less b = b ≡ 60
IsByte class.Greater b = b ≡ 62
IsByte class.Ampersand b = b ≡ 38
IsByte class.Hyphen b = b ≡ 45
IsByte class.CloseBracket b = b ≡ 93
IsByte class.Space b = is_space b ≡ true
IsByte class.Control b = (is_space b ≡ false) × (nat_lt b 32 ≡ true)
IsByte class.Letter b = Unit {0}
IsByte class.Digit b = Unit {0}
IsByte class.High b = Unit {0}
IsByte class.Plain b = Unit {0}
IsByte class.Colon b = Unit {0}
IsByte class.Slash b = Unit {0}
IsByte class.Exclamation b = Unit {0}
IsByte class.Question b = Unit {0}
IsByte class.OpenBracket b = Unit {0}
IsByte class.EqualsSign b = Unit {0}
IsByte class.Apostrophe b = Unit {0}
IsByte class.DoubleQuote b = Unit {0}

if_mark : (b : ℕ) (test : Bool) (k other : Class) → (test ≡ true → IsByte k b) → IsByte other b → IsByte (cond test k other) b
if_mark b true k other y n = y refl
if_mark b false k other y n = n

is : (b c : ℕ) → (b == c) ≡ true → b ≡ c
is b c e = eqb→eq b c (subst T (sym e) tt)

marks : (b : ℕ) → IsByte (mark_of b) b
unfolding mark_of
marks b = if_mark b (b == 60) class.Less _ (λ e. is b 60 e)
    (if_mark b (b == 62) class.Greater _ (λ e. is b 62 e) (if_mark b (b == 38) class.Ampersand _ (λ e. is b 38 e)
    (if_mark b (b == 47) class.Slash _ (λ e. tt)
    (if_mark b (b == 33) class.Exclamation _ (λ e. tt) (if_mark b (b == 63) class.Question _ (λ e. tt)
    (if_mark b (b == 45) class.Hyphen _ (λ e. is b 45 e)
    (if_mark b (b == 91) class.OpenBracket _ (λ e. tt) (if_mark b (b == 93) class.CloseBracket _ (λ e. is b 93 e)
    (if_mark b (b == 61) class.EqualsSign _ (λ e. tt)
    (if_mark b (b == 39) class.Apostrophe _ (λ e. tt) (if_mark b (b == 34) class.DoubleQuote _ (λ e. tt)
    (if_mark b (b == 58) class.Colon class.Plain (λ e. tt) tt))))))))))))

by_space : (b : ℕ) (space control low letter digit : Bool) → is_space b ≡ space → nat_lt b 32 ≡ control
    → IsByte (cond space class.Space (cond control class.Control
    (cond low (cond letter class.Letter (cond digit class.Digit (mark_of b))) class.High))) b
by_space b true control low letter digit s c = s
by_space b false true low letter digit s c = (s, c)
by_space b false false true true digit s c = tt
by_space b false false true false true s c = tt
by_space b false false true false false s c = marks b
by_space b false false false letter digit s c = tt

pub told : (b : ℕ) → IsByte (class_of b) b
unfolding class_of
told b = by_space b (is_space b) (nat_lt b 32) (nat_lt b 128) (is_first_letter b) (is_digit_or_dot b) refl refl

pub space_kind : (b : ℕ) → is_space b ≡ true → class_of b ≡ class.Space
unfolding class_of
space_kind b e = rw e refl

pub no_control : (b : ℕ) → is_character b ≡ true → (is_space b ≡ false) × (nat_lt b 32 ≡ true) → ⊥
no_control b e c = by (nat_lt b 32) (b == 32) (b == 9) (b == 10) e c.0 c.1
  where
    by : (low x y z : Bool) → (not low || (y || z)) ≡ true → ((x || y) || z) ≡ false → low ≡ true → ⊥
    by false x y z e s l = true≢false (sym l)
    by true x true z e s l = by_y x s
      where
        by_y : (x : Bool) → ((x || true) || z) ≡ false → ⊥
        by_y true s = true≢false s
        by_y false s = true≢false s
    by true x false true e s l = by_z x s
      where
        by_z : (x : Bool) → ((x || false) || true) ≡ false → ⊥
        by_z true s = true≢false s
        by_z false s = true≢false s
    by true x false false e s l = true≢false (sym e)

-- References backward: what the machine reads as one is a reference that means the same character.
use Rattle.std.proofs.Common.{◌≡◌, ℕ, ◌+◌, ◌*◌, Bool, true, false, cond, ◌==◌, nat_lt, List, [], ◌∷◌, ◌++◌, drop, refl, sym, ap, ◌∙◌, ◌⊎◌}
use Rattle.std.proofs.Common.{inl, inr}
use Rattle.std.proofs.lemmas.Bool.{eqb-true}
use Rattle.std.specs.Char.{is_digit, digit_value}
use Rattle.ba_xml_reader.proofs.CompleteReferences.{refers}
use Rattle.ba_xml_words.proofs.SoundWords.{LeftOf, word_left}
use Rattle.ba_xml_words.specs.inside.References.{is_legal, entity_text, entity_code, base_of, named, named_by, with_digit, made, number_on}
use Rattle.ba_xml_words.specs.inside.References.{hashed, referred}
use Rattle.ba_xml_words.specs.inside.Words.{reached_at}
use Rattle.ba_xml_grammar.specs.GrammarWords.{Each, number_behind}
use Rattle.ba_xml_words.specs.declared.words.Progress.{Progress}
use Rattle.ba_xml_words.specs.declared.words.Progress.TheVariants as progress
use Rattle.ba_xml_words.specs.declared.references.Entity.{Entity}
use Rattle.ba_xml_words.specs.declared.references.Radix.{Radix}
use Rattle.ba_xml_words.specs.declared.references.Radix.TheVariants.{Decimal, Hexadecimal}
use Rattle.ba_xml_words.specs.declared.references.Partial.{Partial}
use Rattle.ba_xml_words.specs.declared.references.Partial.TheVariants.{Named, Hash, HashX, Number}
use Rattle.ba_xml_words.specs.declared.references.Referred.TheVariants.{Wrong, On, Meant}

wrong : (bs : List ℕ) (c : ℕ) → refers Wrong bs ≡ Meant c → ⊥
wrong [] c e = cc
wrong (b ∷ bs) c e = cc

on_end : (p : Partial) (c : ℕ) → On p ≡ Meant c → ⊥
on_end p c e = cc

same_meant : (c d : ℕ) → Meant d ≡ Meant c → d ≡ c
same_meant c d e = cc

meant_only : (d c : ℕ) (bs : List ℕ) → refers (Meant d) bs ≡ Meant c → (bs ≡ []) × (d ≡ c)
meant_only d c [] e = (refl, same_meant c d e)
meant_only d c (b ∷ bs) e = absurd (wrong [] c e)

-- ---- names

named_step : (e : Entity) (count b : ℕ) → referred (Named e count) b ≡ named e count b
unfolding referred
named_step e count b = refl

Named_back : Entity → ℕ → ℕ → List ℕ → Type 0
Named_back e count c cs = (cs ≡ drop count (entity_text e)) × (entity_code e ≡ c)

named_by_back : (e : Entity) (count b c : ℕ) (bs : List ℕ) (p : Progress) → LeftOf (entity_text e) count b p
    → ((more : ℕ) → refers (On (Named e more)) bs ≡ Meant c → Named_back e more c bs)
    → refers (named_by e p) bs ≡ Meant c → Named_back e count c (b ∷ bs)
unfolding Named_back
named_by_back e count b c bs progress.Nowhere l ih m = absurd (wrong bs c m)
named_by_back e count b c bs (progress.Part more) l ih m = (ap (λ x. b ∷ x) (ih more m).0 ∙ sym l, (ih more m).1)
named_by_back e count b c bs progress.Whole l ih m = (
  ap (λ x. b ∷ x) (meant_only (entity_code e) c bs m).0 ∙ sym l,
  (meant_only (entity_code e) c bs m).1,
)

named_back : (cs : List ℕ) (e : Entity) (count c : ℕ) → refers (On (Named e count)) cs ≡ Meant c → Named_back e count c cs
named_back [] e count c m = absurd (on_end (Named e count) c m)
named_back (b ∷ bs) e count c m = named_by_back e count b c bs (reached_at (entity_text e) count b) (word_left (entity_text e) count b)
    (λ more n. named_back bs e more c n) (sym (ap (λ r. refers r bs) (named_step e count b)) ∙ m)

pub named_read : (cs : List ℕ) (e : Entity) (count c : ℕ) → refers (On (Named e count)) cs ≡ Meant c
    → (cs ≡ drop count (entity_text e)) × (entity_code e ≡ c)
unfolding Named_back
named_read cs e count c m = named_back cs e count c m

-- ---- numbers

-- digits behind others of this value, and ";"
abbrev pub DigitsRead : Radix → ℕ → ℕ → List ℕ → Type 0
DigitsRead radix v c cs = (ds : List ℕ) × Each (λ d. is_digit d (base_of radix)) ds × (cs ≡ ds ++ 59 ∷ []) × (is_legal c ≡ true)
    × (number_behind (base_of radix) v ds ≡ c)

-- such digits, and this one before them
abbrev pub DigitThen : Radix → ℕ → ℕ → ℕ → List ℕ → Type 0
DigitThen radix v c b bs = (ds : List ℕ) × Each (λ d. is_digit d (base_of radix)) (b ∷ ds) × (bs ≡ ds ++ 59 ∷ []) × (is_legal c ≡ true)
    × (number_behind (base_of radix) v (b ∷ ds) ≡ c)

number_step : (radix : Radix) (v b : ℕ) → referred (Number radix v) b ≡ number_on radix v b
unfolding referred
number_step radix v b = refl

digit_then : (radix : Radix) (v c b : ℕ) (bs : List ℕ)
    → ((next : ℕ) → refers (On (Number radix next)) bs ≡ Meant c → DigitsRead radix next c bs)
    → refers (with_digit radix v b) bs ≡ Meant c → DigitThen radix v c b bs
digit_then radix v c b bs ih m = by (nat_lt (digit_value b) (base_of radix)) (nat_lt 0x10_FFFF (v * base_of radix + digit_value b)) refl m
  where
    with_rest : is_digit b (base_of radix) ≡ true → DigitsRead radix (v * base_of radix + digit_value b) c bs → DigitThen radix v c b bs
    with_rest d r = (r.0, (d, r.1), r.2, r.3, r.4)

    by : (digit large : Bool) → nat_lt (digit_value b) (base_of radix) ≡ digit
        → refers (cond digit (cond large Wrong (On (Number radix (v * base_of radix + digit_value b)))) Wrong) bs ≡ Meant c
        → DigitThen radix v c b bs
    by true true d m = absurd (wrong bs c m)
    by true false d m = with_rest d (ih (v * base_of radix + digit_value b) m)
    by false large d m = absurd (wrong bs c m)

number_ends : (radix : Radix) (v c b : ℕ) (bs : List ℕ) (l : Bool) → b ≡ 59 → is_legal v ≡ l → refers (cond l (Meant v) Wrong) bs ≡ Meant c
    → DigitsRead radix v c (b ∷ bs)
number_ends radix v c b bs true e l m = (
  [],
  tt,
  ap (λ x. x ∷ bs) e ∙ ap (λ x. 59 ∷ x) (meant_only v c bs m).0,
  sym (ap is_legal (meant_only v c bs m).1) ∙ l,
  (meant_only v c bs m).1,
)
number_ends radix v c b bs false e l m = absurd (wrong bs c m)

number_goes : (radix : Radix) (v c b : ℕ) (bs : List ℕ)
    → ((next : ℕ) → refers (On (Number radix next)) bs ≡ Meant c → DigitsRead radix next c bs)
    → (end : Bool) → (b == 59) ≡ end → refers (cond end (made v) (with_digit radix v b)) bs ≡ Meant c → DigitsRead radix v c (b ∷ bs)
number_goes radix v c b bs ih true e m = number_ends radix v c b bs (is_legal v) (eqb-true b 59 e) refl m
number_goes radix v c b bs ih false e m = of_digit (digit_then radix v c b bs ih m)
  where
    of_digit : DigitThen radix v c b bs → DigitsRead radix v c (b ∷ bs)
    of_digit r = (b ∷ r.0, r.1, ap (λ x. b ∷ x) r.2, r.3, r.4)

pub number_read : (cs : List ℕ) (radix : Radix) (v c : ℕ) → refers (On (Number radix v)) cs ≡ Meant c → DigitsRead radix v c cs
number_read [] radix v c m = absurd (on_end (Number radix v) c m)
number_read (b ∷ bs) radix v c m = number_goes radix v c b bs (λ next n. number_read bs radix next c n) (b == 59) refl
    (sym (ap (λ r. refers r bs) (number_step radix v b)) ∙ m)

-- ---- "#" and "#x"

hash_x_step : (b : ℕ) → referred HashX b ≡ with_digit Hexadecimal 0 b
unfolding referred
hash_x_step b = refl

hash_step : (b : ℕ) → referred Hash b ≡ hashed b
unfolding referred
hash_step b = refl

-- digits, at least one, and ";"
abbrev pub NumberRead : Radix → ℕ → List ℕ → Type 0
NumberRead radix c cs = (d : ℕ) × (ds : List ℕ) × Each (λ d. is_digit d (base_of radix)) (d ∷ ds) × (cs ≡ d ∷ (ds ++ 59 ∷ []))
    × (is_legal c ≡ true) × (number_behind (base_of radix) 0 (d ∷ ds) ≡ c)

first_digit : (radix : Radix) (c b : ℕ) (bs : List ℕ) → refers (with_digit radix 0 b) bs ≡ Meant c → NumberRead radix c (b ∷ bs)
first_digit radix c b bs m = of_digit (digit_then radix 0 c b bs (λ next n. number_read bs radix next c n) m)
  where
    of_digit : DigitThen radix 0 c b bs → NumberRead radix c (b ∷ bs)
    of_digit r = (b, r.0, r.1, ap (λ x. b ∷ x) r.2, r.3, r.4)

pub hexadecimal_read : (cs : List ℕ) (c : ℕ) → refers (On HashX) cs ≡ Meant c → NumberRead Hexadecimal c cs
hexadecimal_read [] c m = absurd (on_end HashX c m)
hexadecimal_read (b ∷ bs) c m = first_digit Hexadecimal c b bs (sym (ap (λ r. refers r bs) (hash_x_step b)) ∙ m)

-- what stands behind "#"
abbrev pub HashRead : ℕ → List ℕ → Type 0
HashRead c cs = NumberRead Decimal c cs ⊎ ((bs : List ℕ) × (cs ≡ 120 ∷ bs) × NumberRead Hexadecimal c bs)

hash_goes : (c b : ℕ) (bs : List ℕ) (x : Bool) → (b == 120) ≡ x → refers (cond x (On HashX) (with_digit Decimal 0 b)) bs ≡ Meant c
    → HashRead c (b ∷ bs)
hash_goes c b bs true e m = inr (bs, ap (λ x. x ∷ bs) (eqb-true b 120 e), hexadecimal_read bs c m)
hash_goes c b bs false e m = inl (first_digit Decimal c b bs m)

pub hash_read : (cs : List ℕ) (c : ℕ) → refers (On Hash) cs ≡ Meant c → HashRead c cs
hash_read [] c m = absurd (on_end Hash c m)
hash_read (b ∷ bs) c m = hash_goes c b bs (b == 120) refl (sym (ap (λ r. refers r bs) (hash_step b)) ∙ m)

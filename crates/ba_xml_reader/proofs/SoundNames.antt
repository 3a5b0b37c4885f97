-- Names backward: what the machine takes for a name's bytes are those of a name.
use Rattle.std.proofs.Common.{◌≡◌, ℕ, Bool, true, false, ◌||◌, List, [], ◌∷◌, ◌++◌, refl, sym, ap, subst, ◌∙◌, append_assoc, append-nil}
use Rattle.ba_xml_reader.proofs.SoundKinds.{IsMark, mark_of_kind}
use Rattle.ba_xml_words.specs.Classes.{class_of, is_first_letter, is_digit_or_dot}
use Rattle.ba_xml_words.specs.inside.Names.{spelled, joined, lettered, unlettered, parted, completed, grown}
use Rattle.ba_xml_grammar.specs.GrammarWords.{Each, is_name_letter, IsPrefix, IsName, written_prefix, written_name}
use Rattle.ba_xml_words.specs.declared.classes.Class.{Class}
use Rattle.ba_xml_words.specs.declared.classes.Class.TheVariants as class
use Rattle.ba_xml_words.specs.declared.names.RawName.{RawName}
use Rattle.ba_xml_words.specs.declared.names.Naming.{Naming}
use Rattle.ba_xml_words.specs.declared.names.Naming.TheVariants.{On, Whole, Wrong}

abbrev pub raw : List ℕ → List ℕ → RawName
raw prefix local = record { prefix = prefix; local = local }

-- a name as far as it is read
abbrev pub IsPart : RawName → Type 0
IsPart name = IsPrefix name.prefix × IsPrefix name.local

or_left : (x y : Bool) → x ≡ true → (x || y) ≡ true
or_left x y e = rw e refl

or_right : (x y : Bool) → y ≡ true → (x || y) ≡ true
or_right true y e = refl
or_right false y e = e

first_letter : (b : ℕ) → is_first_letter b ≡ true → is_name_letter b ≡ true
first_letter b e = or_left (is_first_letter b) _ e

digit_letter : (b : ℕ) → is_digit_or_dot b ≡ true → is_name_letter b ≡ true
digit_letter b e = or_right (is_first_letter b) _ (or_left (is_digit_or_dot b) _ e)

hyphen_letter : (b : ℕ) → b ≡ 45 → is_name_letter b ≡ true
hyphen_letter b e = subst (λ x. is_name_letter x ≡ true) (sym e) refl

each_snoc : (bs : List ℕ) (b : ℕ) → Each is_name_letter bs → is_name_letter b ≡ true → Each is_name_letter (bs ++ b ∷ [])
each_snoc [] b e l = (l, tt)
each_snoc (x ∷ bs) b e l = (e.0, each_snoc bs b e.1 l)

begun_more : (local : List ℕ) (b : ℕ) → IsPrefix local → is_first_letter b ≡ true → IsPrefix (local ++ b ∷ [])
begun_more [] b p l = (l, tt)
begun_more (x ∷ xs) b p l = (p.0, each_snoc xs b p.1 (first_letter b l))

pub spelled_more : (prefix local : List ℕ) (b : ℕ) → spelled (raw prefix local) ++ b ∷ [] ≡ spelled (raw prefix (local ++ b ∷ []))
spelled_more [] local b = refl
spelled_more (p ∷ ps) local b = append_assoc (p ∷ ps) (58 ∷ local) (b ∷ [])

pub spelled_written : (name : RawName) (rest : List ℕ) → spelled name ++ rest ≡ written_name name rest
spelled_written name rest = by name.prefix
  where
    by : (prefix : List ℕ) → joined prefix name.local ++ rest ≡ written_prefix prefix (name.local ++ rest)
    by [] = refl
    by (p ∷ ps) = append_assoc (p ∷ ps) (58 ∷ name.local) rest

-- what one byte more makes of a name: a longer one, or the name is whole
abbrev pub Grows : RawName → ℕ → Naming → Type 0
Grows name b Wrong = Unit {0}
Grows name b (On next) = IsPart next × (spelled next ≡ spelled name ++ b ∷ [])
Grows name b (Whole full) = (full ≡ name) × IsName name

whole_by : (prefix local : List ℕ) (b : ℕ) → IsPart (raw prefix local) → Grows (raw prefix local) b (completed (raw prefix local))
whole_by prefix [] b p = tt
whole_by prefix (x ∷ xs) b p = (refl, p)

letter_by : (prefix local : List ℕ) (b : ℕ) → IsPart (raw prefix local) → is_first_letter b ≡ true
    → Grows (raw prefix local) b (lettered (raw prefix local) b)
letter_by prefix local b p l = ((p.0, begun_more local b p.1 l), sym (spelled_more prefix local b))

other_by : (prefix local : List ℕ) (b : ℕ) → IsPart (raw prefix local) → is_name_letter b ≡ true
    → Grows (raw prefix local) b (unlettered (raw prefix local) b)
other_by prefix [] b p l = tt
other_by prefix (x ∷ xs) b p l = ((p.0, (p.1.0, each_snoc xs b p.1.1 l)), sym (spelled_more prefix (x ∷ xs) b))

colon_by : (prefix local : List ℕ) (b : ℕ) → IsPart (raw prefix local) → b ≡ 58 → Grows (raw prefix local) b (parted (raw prefix local))
colon_by prefix [] b p e = tt
colon_by [] (x ∷ xs) b p e = ((p.1, tt), ap (λ c. x ∷ (xs ++ c ∷ [])) (sym e))
colon_by (q ∷ qs) (x ∷ xs) b p e = tt

grows_by : (prefix local : List ℕ) (b : ℕ) (k : Class) → IsMark k b → IsPart (raw prefix local)
    → Grows (raw prefix local) b (grown (raw prefix local) b k)
grows_by prefix local b class.Letter m p = letter_by prefix local b p m
grows_by prefix local b class.Digit m p = other_by prefix local b p (digit_letter b m)
grows_by prefix local b class.Hyphen m p = other_by prefix local b p (hyphen_letter b m)
grows_by prefix local b class.Colon m p = colon_by prefix local b p m
grows_by prefix local b class.Space m p = whole_by prefix local b p
grows_by prefix local b class.EqualsSign m p = whole_by prefix local b p
grows_by prefix local b class.Slash m p = whole_by prefix local b p
grows_by prefix local b class.Greater m p = whole_by prefix local b p
grows_by prefix local b _ m p = tt

pub grows : (name : RawName) (b : ℕ) → IsPart name → Grows name b (grown name b (class_of b))
grows name b p = grows_by name.prefix name.local b (class_of b) (mark_of_kind b (class_of b) refl) p

-- ---- what follows a part of a name

-- more bytes of the name, and then what follows it
abbrev pub LeadsName : RawName → (RawName → List ℕ → Type 0) → List ℕ → Type 0
LeadsName name After bs = (full : RawName) × (more : List ℕ) × (rest : List ℕ) × IsName full × (spelled full ≡ spelled name ++ more)
    × (bs ≡ more ++ rest) × After full rest

pub name_more : (name next : RawName) (After : RawName → List ℕ → Type 0) (b : ℕ) (bs : List ℕ) → spelled next ≡ spelled name ++ b ∷ []
    → LeadsName next After bs → LeadsName name After (b ∷ bs)
name_more name next After b bs e l = (
  l.0,
  b ∷ l.1,
  l.2,
  l.3,
  l.4 ∙ ap (λ x. x ++ l.1) e ∙ append_assoc (spelled name) (b ∷ []) l.1,
  ap (λ x. b ∷ x) l.5,
  l.6,
)

pub name_whole : (name : RawName) (After : RawName → List ℕ → Type 0) (bs : List ℕ) → IsName name → After name bs → LeadsName name After bs
name_whole name After bs n a = (name, [], bs, n, sym (append-nil (spelled name)), refl, a)

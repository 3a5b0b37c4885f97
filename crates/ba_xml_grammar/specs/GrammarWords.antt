-- Believe: what the productions of XML 1.0 are made of: white space, names, characters and references. Line ends are one here.
use Rattle.std.specs.Prelude.{◌≡◌, ℕ, ◌+◌, ◌*◌, Bool, true, false, not, ◌||◌, ◌==◌, ◌⊎◌, nat_lt, List, [], ◌∷◌, ◌++◌, codes}
use Rattle.std.specs.Char.{is_digit, digit_value}
use Rattle.ba_tree.specs.Characters.{is_legal}
use Rattle.ba_xml_words.specs.Classes.{is_space, is_first_letter, is_digit_or_dot}
use Rattle.ba_xml_words.specs.declared.names.RawName.{RawName}

-- each of the bytes passes the test
abbrev pub Each : (ℕ → Bool) → List ℕ → Type 0
Each test [] = Unit {0}
Each test (b ∷ bs) = (test b ≡ true) × Each test bs

-- at least one byte
abbrev pub Begun : List ℕ → Type 0
Begun [] = ⊥
Begun (b ∷ bs) = Unit {0}

-- the bytes begin with the word
abbrev pub IsFront : List ℕ → List ℕ → Type 0
IsFront word bytes = (rest : List ℕ) × (bytes ≡ word ++ rest)

-- the word stands nowhere in the bytes
abbrev pub Nowhere : List ℕ → List ℕ → Type 0
Nowhere word [] = Unit {0}
Nowhere word (b ∷ bs) = (IsFront word (b ∷ bs) → ⊥) × Nowhere word bs

abbrev pub Differ : ℕ → ℕ → Type 0
Differ b c = (b == c) ≡ false

-- white space, or nothing (S?, production 3)
abbrev pub IsWhite : List ℕ → Type 0
IsWhite bytes = Each is_space bytes

-- white space (S, production 3)
abbrev pub IsGap : List ℕ → Type 0
IsGap bytes = Begun bytes × IsWhite bytes

-- a byte of a character (Char, production 2): of those below U+0020 only tab and line feed
abbrev pub is_character : ℕ → Bool
is_character b = not (nat_lt b 32) || (b == 9 || b == 10)

-- ---- names (Namespaces in XML 1.0, productions 4 and 7 to 11), of ASCII letters

abbrev pub is_name_letter : ℕ → Bool
is_name_letter b = is_first_letter b || (is_digit_or_dot b || b == 45)

-- a letter or `_`, then letters, digits, `_`, `-` and `.`
abbrev pub IsPlainName : List ℕ → Type 0
IsPlainName [] = ⊥
IsPlainName (b ∷ bs) = (is_first_letter b ≡ true) × Each is_name_letter bs

abbrev pub IsPrefix : List ℕ → Type 0
IsPrefix [] = Unit {0}
IsPrefix (b ∷ bs) = IsPlainName (b ∷ bs)

-- one plain name, or two
abbrev pub IsName : RawName → Type 0
IsName name = IsPrefix name.prefix × IsPlainName name.local

-- a prefix is parted from what follows by ":"
abbrev pub written_prefix : List ℕ → List ℕ → List ℕ
written_prefix [] rest = rest
written_prefix (b ∷ bs) rest = b ∷ (bs ++ 58 ∷ rest)

abbrev pub written_name : RawName → List ℕ → List ℕ
written_name name rest = written_prefix name.prefix (name.local ++ rest)

-- ---- references (productions 66 to 68), without other entities than those of section 4.6

pub data Reference : Type 0 where
  less : Reference
  greater : Reference
  ampersand : Reference
  apostrophe : Reference
  quotation : Reference
  decimal : List ℕ → Reference
  hexadecimal : List ℕ → Reference

-- what stands between "&" and ";"
abbrev pub reference_text : Reference → List ℕ
reference_text less = codes "lt"
reference_text greater = codes "gt"
reference_text ampersand = codes "amp"
reference_text apostrophe = codes "apos"
reference_text quotation = codes "quot"
reference_text (decimal digits) = codes "#" ++ digits
reference_text (hexadecimal digits) = codes "#x" ++ digits

abbrev pub written_reference : Reference → List ℕ → List ℕ
written_reference r rest = 38 ∷ (reference_text r ++ 59 ∷ rest)

-- the number that these digits write behind others of this value
abbrev pub number_behind : ℕ → ℕ → List ℕ → ℕ
number_behind base value [] = value
number_behind base value (d ∷ ds) = number_behind base (value * base + digit_value d) ds

-- the character that a reference means
abbrev pub character_of : Reference → ℕ
character_of less = 60
character_of greater = 62
character_of ampersand = 38
character_of apostrophe = 39
character_of quotation = 34
character_of (decimal digits) = number_behind 10 0 digits
character_of (hexadecimal digits) = number_behind 16 0 digits

-- digits, and what they write is a character
abbrev pub IsNumber : ℕ → List ℕ → Type 0
IsNumber base digits = Begun digits × Each (λ d. is_digit d base) digits × (is_legal (number_behind base 0 digits) ≡ true)

abbrev pub IsReference : Reference → Type 0
IsReference less = Unit {0}
IsReference greater = Unit {0}
IsReference ampersand = Unit {0}
IsReference apostrophe = Unit {0}
IsReference quotation = Unit {0}
IsReference (decimal digits) = IsNumber 10 digits
IsReference (hexadecimal digits) = IsNumber 16 digits

-- ---- quotes

abbrev pub IsQuote : ℕ → Type 0
IsQuote b = (b ≡ 34) ⊎ (b ≡ 39)

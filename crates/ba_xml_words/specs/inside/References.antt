-- Inside: references to characters, byte by byte.
use Rattle.std.specs.Prelude.{ℕ, ◌+◌, ◌*◌, List, Bool, true, false, cond, ◌||◌, ◌==◌, nat_lt, codes}
use Rattle.std.specs.Char.{digit_value}
use Rattle.ba_xml_words.specs.inside.Words.{reached_at}
use Rattle.ba_xml_words.specs.declared.words.Progress.{Progress}
use Rattle.ba_xml_words.specs.declared.words.Progress.TheVariants.{Nowhere, Part, Whole}
use Rattle.ba_xml_words.specs.declared.references.Entity.{Entity}
use Rattle.ba_xml_words.specs.declared.references.Entity.TheVariants as entity
use Rattle.ba_xml_words.specs.declared.references.Radix.{Radix}
use Rattle.ba_xml_words.specs.declared.references.Radix.TheVariants.{Decimal, Hexadecimal}
use Rattle.ba_xml_words.specs.declared.references.Partial.{Partial}
use Rattle.ba_xml_words.specs.declared.references.Partial.TheVariants.{Nothing, LetterA, Named, Hash, HashX, Number}
use Rattle.ba_xml_words.specs.declared.references.Referred.{Referred}
use Rattle.ba_xml_words.specs.declared.references.Referred.TheVariants.{Wrong, On, Meant}

-- a character that a text may have (XML 1.0, production 2), by its code
abbrev pub is_legal : ℕ → Bool
is_legal code = cond (nat_lt code 32) ((code == 9 || code == 10) || code == 13) (cond (nat_lt code 0xD800) true
    (cond (nat_lt code 0xE000) false (cond (nat_lt code 0xFFFE) true (cond (nat_lt code 0x1_0000) false (nat_lt code 0x11_0000)))))

abbrev pub entity_text : Entity → List ℕ
entity_text entity.Less = codes "lt;"
entity_text entity.Greater = codes "gt;"
entity_text entity.Ampersand = codes "amp;"
entity_text entity.Apostrophe = codes "apos;"
entity_text entity.Quote = codes "quot;"

abbrev pub entity_code : Entity → ℕ
entity_code entity.Less = 60
entity_code entity.Greater = 62
entity_code entity.Ampersand = 38
entity_code entity.Apostrophe = 39
entity_code entity.Quote = 34

abbrev pub base_of : Radix → ℕ
base_of Decimal = 10
base_of Hexadecimal = 16

-- "l", "g", "q", "a", "#"
abbrev pub started : ℕ → Referred
started b = cond (b == 108) (On (Named entity.Less 1)) (cond (b == 103) (On (Named entity.Greater 1))
    (cond (b == 113) (On (Named entity.Quote 1)) (cond (b == 97) (On LetterA) (cond (b == 35) (On Hash) Wrong))))

-- "m", "p"
abbrev pub lettered : ℕ → Referred
lettered b = cond (b == 109) (On (Named entity.Ampersand 2)) (cond (b == 112) (On (Named entity.Apostrophe 2)) Wrong)

abbrev pub named_by : Entity → Progress → Referred
named_by e Nowhere = Wrong
named_by e (Part count) = On (Named e count)
named_by e Whole = Meant (entity_code e)

abbrev pub named : Entity → ℕ → ℕ → Referred
named e count b = named_by e (reached_at (entity_text e) count b)

-- a value past 10FFFF is no character's, and no more digits make it one
abbrev pub with_digit : Radix → ℕ → ℕ → Referred
with_digit radix value b = cond (nat_lt (digit_value b) (base_of radix))
    (cond (nat_lt 0x10_FFFF (value * base_of radix + digit_value b)) Wrong
    (On (Number radix (value * base_of radix + digit_value b)))) Wrong

abbrev pub made : ℕ → Referred
made value = cond (is_legal value) (Meant value) Wrong

-- ";"
abbrev pub number_on : Radix → ℕ → ℕ → Referred
number_on radix value b = cond (b == 59) (made value) (with_digit radix value b)

-- "x"
abbrev pub hashed : ℕ → Referred
hashed b = cond (b == 120) (On HashX) (with_digit Decimal 0 b)

-- where a reference stands after this byte
unfoldable pub referred : Partial → ℕ → Referred
referred Nothing b = started b
referred LetterA b = lettered b
referred (Named e count) b = named e count b
referred Hash b = hashed b
referred HashX b = with_digit Hexadecimal 0 b
referred (Number radix value) b = number_on radix value b

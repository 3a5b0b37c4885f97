-- Believe: the parts of the names of elements and attributes: NCName (Namespaces in XML 1.0, section 3) in ASCII.
use Rattle.std.specs.Prelude.{ℕ, Bool, false, ◌&&◌, ◌||◌, List, [], ◌∷◌, ◌==◌}
use Rattle.std.specs.List.{list_all}
use Rattle.ba_tree.specs.Characters.{is_within}

abbrev pub is_letter : ℕ → Bool
is_letter c = is_within 0x41 0x5A c || is_within 0x61 0x7A c

abbrev pub is_digit : ℕ → Bool
is_digit c = is_within 0x30 0x39 c

-- a letter or `_`
abbrev pub begins_name : ℕ → Bool
begins_name c = is_letter c || c == 0x5F

-- a letter, a digit, `_`, `-` or `.`
abbrev pub continues_name : ℕ → Bool
continues_name c = (begins_name c || is_digit c) || (c == 0x2D || c == 0x2E)

-- a plain name, which has no prefix
abbrev pub is_plain_name : List ℕ → Bool
is_plain_name [] = false
is_plain_name (c ∷ cs) = begins_name c && list_all continues_name cs

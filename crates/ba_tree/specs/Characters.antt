-- Believe: the characters of a text of XML (Extensible Markup Language 1.0, sections 2.2 and 2.3).
use Rattle.std.specs.Prelude.{ℕ, Bool, not, ◌&&◌, ◌||◌, ◌-◌, List, length, nat_le, ◌==◌, slice_index}
use Rattle.std.specs.List.{list_all}
use Rattle.std.specs.Str.{is_utf8, chars}

-- the number lies in this range, whose ends belong to it
abbrev pub is_within : ℕ → ℕ → ℕ → Bool
is_within low high c = nat_le low c && nat_le c high

-- Char (section 2.2): tab, line feed, carriage return, and three ranges
abbrev pub is_legal : ℕ → Bool
is_legal c = ((c == 0x9 || c == 0xA) || c == 0xD)
    || (is_within 0x20 0xD7FF c || (is_within 0xE000 0xFFFD c || is_within 0x10000 0x10FFFF c))

-- white space (S, section 2.3): space, tab, carriage return, line feed
abbrev pub is_white : ℕ → Bool
is_white c = (c == 0x20 || c == 0x9) || (c == 0xD || c == 0xA)

-- the bytes are a text, in UTF-8, of legal characters
abbrev pub is_legal_text : List ℕ → Bool
is_legal_text bytes = is_utf8 bytes && list_all is_legal (chars bytes)

-- neither the first nor the last byte is white space, if there are any
abbrev pub has_bare_ends : List ℕ → Bool
has_bare_ends bytes = not (is_white (slice_index bytes 0)) && not (is_white (slice_index bytes (length bytes - 1)))

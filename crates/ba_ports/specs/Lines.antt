-- Believe: the lines of a text.
use Rattle.std.specs.Prelude.{ℕ, ◌+◌, List, [], ◌∷◌, length, nat_eq, if◌then◌else◌}

-- a byte at the front of a text whose lines are these
abbrev pub onto_first : ℕ → List (List ℕ) → List (List ℕ)
onto_first byte [] = (byte ∷ []) ∷ []
onto_first byte (line ∷ lines) = (byte ∷ line) ∷ lines

-- the lines of a text, without the line feeds that end them; the last one may have none
abbrev pub lines_of : List ℕ → List (List ℕ)
lines_of [] = []
lines_of (byte ∷ bytes) = if nat_eq byte 10 then [] ∷ lines_of bytes else onto_first byte (lines_of bytes)

-- how many bytes these lines take with their line feeds
abbrev pub byte_count : List (List ℕ) → ℕ
byte_count [] = 0
byte_count (line ∷ lines) = length line + 1 + byte_count lines

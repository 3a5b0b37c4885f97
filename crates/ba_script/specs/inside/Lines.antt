-- Inside: bytes that were read and not used yet, and the line that they begin with.
use Rattle.std.specs.Prelude.{◌≡◌, ℕ, ◌+◌, ◌<◌, ◌≤◌, ◌≢◌, ◌⊎◌, List, [], ◌∷◌, ◌++◌, length, take, drop, slice_index, All, Option, None}
use Rattle.std.specs.Prelude.{Some, Result, MatchResult}
use Rattle.std.specs.Io.KnownBytes.{Consumes, IsAtEnd, Keeps}
use Rattle.ba_ports.specs.Lines.{lines_of}
use Rattle.ba_script.specs.declared.lines.TheConstants.{BLOCK}
use Rattle.ba_script_forms.specs.declared.readings.TheConstants.{MOST_BYTES}
use Rattle.ba_script.specs.Scripts.{lookahead}

-- no line feed is among the bytes
abbrev pub HasNoFeed : List ℕ → Type 0
HasNoFeed = All (λ byte. byte ≢ 10)

-- the first n bytes are a line, which a line feed ends, or the beginning of a line that is too long
pub record EndsLine (bytes : List ℕ) (n : ℕ) : Type 0 where
  pub within : n ≤ length bytes
  pub clear : HasNoFeed (take n bytes)
  pub ends : ((n < length bytes) × (slice_index bytes n ≡ 10)) ⊎ (MOST_BYTES < n)

-- a text loses its first line, and the line feed that ends it if there is one
pub record LosesLine (text line rest : List ℕ) : Type 0 where
  pub lines : lines_of text ≡ line ∷ lines_of rest
  pub bytes : (beginning : List ℕ) × (text ≡ beginning ++ rest) × (length beginning ≤ length line + 1)

-- the first line has more bytes than this
abbrev pub BeginsLonger : ℕ → List (List ℕ) → Type 0
BeginsLonger n [] = ⊥
BeginsLonger n (line ∷ lines) = n < length line

-- where these bytes are at hand and those are left, the first n bytes at hand are the next line, or the
-- beginning of a line that is too long
abbrev pub IsNextLine : List ℕ → Option (List ℕ) → ℕ → Type 0
IsNextLine bytes None n = Unit {0}
IsNextLine bytes (Some left) n =
    LosesLine (bytes ++ left) (take n bytes) (drop (n + 1) bytes ++ left)
    ⊎ (BeginsLonger MOST_BYTES (lines_of (bytes ++ left)) × (MOST_BYTES < length (take n bytes)))

-- bytes at hand lie at these places of a room
pub record LieInRoom (at end size : ℕ) : Type 0 where
  pub ordered : at ≤ end
  pub within : end ≤ size
  pub whole : size ≡ lookahead

-- a read put what it took after the first bytes of a room; it took nothing where it failed
abbrev pub ReadsAfter : {E : Type 0} → Option (List ℕ) → Option (List ℕ) → ℕ → List ℕ → Result ℕ E → Type 0
ReadsAfter old new kept room r =
    MatchResult r (λ n. (n ≤ BLOCK) × Consumes old new (take n (drop kept room)) × (n ≡ 0 → IsAtEnd new)) (λ _. Keeps old new)

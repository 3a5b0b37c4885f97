-- Inside: how far a body in chunks has been read, up to its trailer.
use Rattle.std.specs.Prelude.{◌≡◌, ℕ, ◌+◌, ◌-◌, ◌*◌, ◌^◌, ◌<◌, ◌≤◌, min, if◌then◌else◌, List, [], ◌∷◌, ◌++◌, length, take, Option, None}
use Rattle.std.specs.Prelude.{Some, Result, Ok, Err, ⊤}
use Rattle.std.specs.Char.{is_ascii_hexdigit, digit_value}
use Rattle.std.specs.Str.Parse.{digits_value}
use Rattle.ba_http_head.specs.declared.faults.HttpFault.{HttpFault}
use Rattle.ba_http_head.specs.declared.faults.HttpFault.TheVariants.{Memory, BadHead, Length, TooLarge, BadChunk, Truncated, Read}
use Rattle.ba_http_head.specs.declared.lengths.TheConstants.{MOST_BODY}
use Rattle.ba_http_body.specs.SizeLines.{SizeLine, print_size_line}
use Rattle.ba_http_body.specs.inside.Places.{HasRead}
use Rattle.ba_http_chunks.specs.declared.chunks.TheConstants.{MOST_SIZE_LINE}
use Rattle.ba_http_chunks.specs.declared.chunks.Chunks.{Chunks}
use Rattle.ba_http_chunks.specs.declared.chunks.Spot.{Spot}
use Rattle.ba_http_chunks.specs.declared.chunks.Spot.TheVariants.{Line, Bytes, Feed}
use Rattle.ba_http_chunks.specs.declared.chunks.Turned.{Turned}
use Rattle.ba_http_chunks.specs.declared.chunks.Turned.TheVariants.{On, Last}
use Rattle.ba_http_chunks.specs.Transfers.{size_of, Chunk, print_chunks, carried_bytes, AreChunks, IsLastLine, BeginsChunk, Position}
use Rattle.ba_http_chunks.specs.Transfers.{in_line}
use Rattle.ba_http_chunks.specs.Transfers.{in_bytes, in_end, in_trailer, bytes_at, Breaks, Passes}

-- the digits at the beginning of a line
abbrev pub leading_digits : List ℕ → List ℕ
leading_digits [] = []
leading_digits (byte ∷ bytes) = if is_ascii_hexdigit byte then byte ∷ leading_digits bytes else []

-- the number that they write, which stops at the greatest
abbrev pub SaysSoFar : List ℕ → ℕ → Type 0
SaysSoFar line size = size ≡ min (digits_value 16 (leading_digits line)) (2 ^ 64 - 1)

-- the number with one more digit, if this is one
abbrev pub with_digit : ℕ → ℕ → ℕ
with_digit size byte = if is_ascii_hexdigit byte then min (min (size * 16) (2 ^ 64 - 1) + digit_value byte) (2 ^ 64 - 1) else size

-- what of the body has come there, after the whole chunks
abbrev pub body_at : Position → List ℕ
body_at (in_line line) = []
body_at (in_bytes line some) = some
body_at (in_end line all) = all
body_at (in_trailer last trailer) = []

-- how many bytes the body has with the chunk that was begun
abbrev pub got_at : List Chunk → Position → ℕ
got_at chunks (in_line line) = length (carried_bytes chunks)
got_at chunks (in_bytes line some) = length (carried_bytes chunks) + size_of line
got_at chunks (in_end line all) = length (carried_bytes chunks) + size_of line
got_at chunks (in_trailer last trailer) = length (carried_bytes chunks)

-- what comes next, after these chunks and there
abbrev pub IsAt : Spot → List Chunk → Position → Type 0
IsAt (Line l) chunks (in_line line) =
    HasRead l.place line × (l.length ≡ length line) × (length line ≤ MOST_SIZE_LINE) × SaysSoFar line l.size
IsAt (Bytes left) chunks (in_bytes line some) = BeginsChunk chunks line × (length some + left ≡ size_of line)
IsAt Feed chunks (in_end line all) = BeginsChunk chunks line × (length all ≡ size_of line)
IsAt spot chunks at = ⊥

-- these bytes of a transfer have come, with these of the body
pub record Stands (c : Chunks) (fed body : List ℕ) : Type 0 where
  pub chunks : List Chunk
  pub at : Position
  pub are : AreChunks chunks
  pub is_at : IsAt c.spot chunks at
  pub got : c.got ≡ got_at chunks at
  pub is_fed : fed ≡ print_chunks chunks ++ bytes_at at
  pub is_body : body ≡ carried_bytes chunks ++ body_at at
  pub count : c.count ≡ length fed

-- so many bytes of a transfer have come, up to and with the last chunk's line, and this body
pub record IsBeforeTrailer (count : ℕ) (fed body : List ℕ) : Type 0 where
  pub chunks : List Chunk
  pub last : SizeLine
  pub are : AreChunks chunks
  pub is_last : IsLastLine last
  pub is_fed : fed ≡ print_chunks chunks ++ print_size_line last
  pub is_body : body ≡ carried_bytes chunks
  pub is_count : count ≡ length fed

-- what one more byte makes of a transfer
abbrev pub Turns : Chunks → ℕ → Result Turned HttpFault → Type 0
Turns c byte (Ok (On next n)) = (n ≡ 1) × ((fed body : List ℕ) → Stands c fed body → Stands next (fed ++ byte ∷ []) body)
Turns c byte (Ok (Last count)) = (fed body : List ℕ) → Stands c fed body → IsBeforeTrailer count (fed ++ byte ∷ []) body
Turns c byte (Err Memory) = ⊥
Turns c byte (Err (BadHead place)) = ⊥
Turns c byte (Err Length) = ⊥
Turns c byte (Err TooLarge) = (fed body : List ℕ) → Stands c fed body → Passes (fed ++ byte ∷ [])
Turns c byte (Err (BadChunk place)) = (fed body : List ℕ) → Stands c fed body → Breaks (fed ++ byte ∷ []) place
Turns c byte (Err Truncated) = ⊥
Turns c byte (Err Read) = ⊥

-- it goes on so after one byte
abbrev pub next_of : Chunks → Spot → ℕ → Turned
next_of c spot got = On (record { spot = spot; got = got; count = min (c.count + 1) (2 ^ 64 - 1) }) 1

-- what a size line makes of it that says this size
abbrev pub Sized : Chunks → ℕ → Result Turned HttpFault → Type 0
Sized c size (Ok (On next n)) =
    (0 < size) × (min (c.got + size) (2 ^ 64 - 1) ≤ MOST_BODY) × (On next n ≡ next_of c (Bytes size) (min (c.got + size) (2 ^ 64 - 1)))
Sized c size (Ok (Last count)) = (size ≡ 0) × (count ≡ min (c.count + 1) (2 ^ 64 - 1))
Sized c size (Err Memory) = ⊥
Sized c size (Err (BadHead place)) = ⊥
Sized c size (Err Length) = ⊥
Sized c size (Err TooLarge) = MOST_BODY < min (c.got + size) (2 ^ 64 - 1)
Sized c size (Err (BadChunk place)) = ⊥
Sized c size (Err Truncated) = ⊥
Sized c size (Err Read) = ⊥

-- what stood for some bytes stands for these too
abbrev pub Gives : (List ℕ → Type 0) → (List ℕ → Type 0) → List ℕ → Type 0
Gives old new more = (given : List ℕ) → old given → new (given ++ more)

-- what the beginning of a piece makes of a transfer
abbrev pub TurnsBy : (List ℕ → Type 0) → (List ℕ → Type 0) → Chunks → List ℕ → Result Turned HttpFault → Type 0
TurnsBy old new c piece (Ok (On next n)) =
    (0 < n) × (n ≤ length piece)
    × ((fed body : List ℕ) → Stands c fed body → (more : List ℕ) × Stands next (fed ++ take n piece) (body ++ more) × Gives old new more)
TurnsBy old new c piece (Ok (Last count)) =
    ((fed body : List ℕ) → Stands c fed body → IsBeforeTrailer count (fed ++ take 1 piece) body) × Gives old new []
TurnsBy old new c piece (Err Memory) = ⊤
TurnsBy old new c piece (Err (BadHead place)) = ⊥
TurnsBy old new c piece (Err Length) = ⊥
TurnsBy old new c piece (Err TooLarge) = (fed body : List ℕ) → Stands c fed body → Passes (fed ++ take 1 piece)
TurnsBy old new c piece (Err (BadChunk place)) = (fed body : List ℕ) → Stands c fed body → Breaks (fed ++ take 1 piece) place
TurnsBy old new c piece (Err Truncated) = ⊥
TurnsBy old new c piece (Err Read) = ⊥

-- what a piece makes of a transfer
abbrev pub Feeds : (List ℕ → Type 0) → (List ℕ → Type 0) → Chunks → Chunks → List ℕ → Result (Option ℕ) HttpFault → Type 0
Feeds old new c next piece (Ok None) =
    (fed body : List ℕ) → Stands c fed body → (more : List ℕ) × Stands next (fed ++ piece) (body ++ more) × Gives old new more
Feeds old new c next piece (Ok (Some n)) =
    (n ≤ length piece)
    × ((fed body : List ℕ) → Stands c fed body
    → (more : List ℕ) × IsBeforeTrailer next.count (fed ++ take n piece) (body ++ more) × Gives old new more)
Feeds old new c next piece (Err Memory) = ⊤
Feeds old new c next piece (Err (BadHead place)) = ⊥
Feeds old new c next piece (Err Length) = ⊥
Feeds old new c next piece (Err TooLarge) =
    (n : ℕ) × (n ≤ length piece) × ((fed body : List ℕ) → Stands c fed body → Passes (fed ++ take n piece))
Feeds old new c next piece (Err (BadChunk place)) =
    (n : ℕ) × (n ≤ length piece) × ((fed body : List ℕ) → Stands c fed body → Breaks (fed ++ take n piece) place)
Feeds old new c next piece (Err Truncated) = ⊥
Feeds old new c next piece (Err Read) = ⊥

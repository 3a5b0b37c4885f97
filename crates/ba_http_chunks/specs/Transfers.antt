-- Believe: a body in chunks (RFC 9112, section 7.1), as its bytes come one by one. Places are counted from its first byte.
use Rattle.std.specs.Prelude.{◌≡◌, ℕ, ◌+◌, ◌<◌, ◌≤◌, ◌⊎◌, List, [], ◌∷◌, ◌++◌, length, All}
use Rattle.std.specs.List.{flat_map}
use Rattle.std.specs.Str.Parse.{digits_value}
use Rattle.ba_http_head.specs.declared.headings.Heading.TheVariants.{Trailer}
use Rattle.ba_http_head.specs.declared.lengths.TheConstants.{MOST_BODY}
use Rattle.ba_http_head.specs.declared.scans.Shown.TheVariants.{Whole, Bad, Large}
use Rattle.ba_http_head.specs.HeadLines.{IsOpen}
use Rattle.ba_http_head.specs.Looks.{Shows}
use Rattle.ba_http_body.specs.SizeLines.{SizeLine, IsSizeLine, print_size_line, MayBecomeSizeLine}
use Rattle.ba_http_chunks.specs.declared.chunks.TheConstants.{MOST_SIZE_LINE}

-- the size that a line says
abbrev pub size_of : SizeLine → ℕ
size_of l = digits_value 16 l.digits

-- a size line that isn't too long
pub record IsShortLine (l : SizeLine) : Type 0 where
  pub line : IsSizeLine l
  pub short : length (print_size_line l) ≤ MOST_SIZE_LINE

-- a size line, and bytes after it
pub record Chunk : Type 0 where
  pub line : SizeLine
  pub bytes : List ℕ

-- so many bytes as the line says, and at least one
pub record IsChunk (c : Chunk) : Type 0 where
  pub line : IsShortLine c.line
  pub size : size_of c.line ≡ length c.bytes
  pub some : 0 < length c.bytes

-- the bytes of a chunk: after its own bytes CR LF
abbrev pub print_chunk : Chunk → List ℕ
print_chunk c = print_size_line c.line ++ (c.bytes ++ 13 ∷ 10 ∷ [])

abbrev pub print_chunks : List Chunk → List ℕ
print_chunks chunks = flat_map print_chunk chunks

-- what chunks carry
abbrev pub carried_bytes : List Chunk → List ℕ
carried_bytes chunks = flat_map (λ (c : Chunk). c.bytes) chunks

-- whole chunks, which carry no more than a body may have
pub record AreChunks (chunks : List Chunk) : Type 0 where
  pub each : All IsChunk chunks
  pub small : length (carried_bytes chunks) ≤ MOST_BODY

-- the last chunk's line, which says 0
pub record IsLastLine (l : SizeLine) : Type 0 where
  pub line : IsShortLine l
  pub none : size_of l ≡ 0

-- the transfer is all of these bytes, and this is its body
abbrev pub IsTransfer : List ℕ → List ℕ → Type 0
IsTransfer transfer body =
    (chunks : List Chunk) × (last : SizeLine) × (trailer : List ℕ) × AreChunks chunks × IsLastLine last × Shows Trailer trailer Whole
    × (transfer ≡ print_chunks chunks ++ (print_size_line last ++ trailer)) × (body ≡ carried_bytes chunks)

-- a size line begins with these bytes, and has more
abbrev pub BeginsSizeLine : List ℕ → Type 0
BeginsSizeLine bytes = (byte : ℕ) × (more : List ℕ) × (l : SizeLine) × IsSizeLine l × (bytes ++ byte ∷ more ≡ print_size_line l)

-- after these chunks a line says the size of another, with which the body isn't too long
pub record BeginsChunk (chunks : List Chunk) (l : SizeLine) : Type 0 where
  pub line : IsShortLine l
  pub some : 0 < size_of l
  pub small : length (carried_bytes chunks) + size_of l ≤ MOST_BODY

-- where a transfer is, after whole chunks
pub data Position : Type 0 where
  -- in a size line, of which these bytes have come
  in_line : (line : List ℕ) → Position
  -- after this size line and these bytes of its chunk, which may be all
  in_bytes : (line : SizeLine) → (some : List ℕ) → Position
  -- after this chunk and CR
  in_end : (line : SizeLine) → (all : List ℕ) → Position
  -- after the last chunk's line and these bytes of the trailer
  in_trailer : (last : SizeLine) → (trailer : List ℕ) → Position

-- the bytes that have come after the whole chunks
abbrev pub bytes_at : Position → List ℕ
bytes_at (in_line line) = line
bytes_at (in_bytes line some) = print_size_line line ++ some
bytes_at (in_end line all) = print_size_line line ++ (all ++ 13 ∷ [])
bytes_at (in_trailer last trailer) = print_size_line last ++ trailer

-- after these chunks a transfer may be there, with nothing that has shown itself
abbrev pub GoesOn : List Chunk → Position → Type 0
GoesOn chunks (in_line line) = BeginsSizeLine line × (length line ≤ MOST_SIZE_LINE)
GoesOn chunks (in_bytes line some) = BeginsChunk chunks line × (length some ≤ size_of line)
GoesOn chunks (in_end line all) = BeginsChunk chunks line × (length all ≡ size_of line)
GoesOn chunks (in_trailer last trailer) = IsLastLine last × IsOpen Trailer trailer

-- nothing has shown itself yet
abbrev pub IsUnended : List ℕ → Type 0
IsUnended transfer =
    (chunks : List Chunk) × (at : Position) × AreChunks chunks × GoesOn chunks at × (transfer ≡ print_chunks chunks ++ bytes_at at)

-- no transfer has this byte there; the lines of a trailer are looked at when they end
abbrev pub IsWrongByte : Position → ℕ → Type 0
IsWrongByte (in_line line) byte = ¬ (MayBecomeSizeLine (line ++ byte ∷ [])) × (length line < MOST_SIZE_LINE)
IsWrongByte (in_bytes line some) byte = (length some ≡ size_of line) × (byte ≡ 13 → ⊥)
IsWrongByte (in_end line all) byte = byte ≡ 10 → ⊥
IsWrongByte (in_trailer last trailer) byte = ⊥

-- the last of these bytes is one that no transfer has at this place, or ends the trailer's first line with which none goes on
abbrev pub Breaks : List ℕ → ℕ → Type 0
Breaks transfer place =
    ((chunks : List Chunk) × (at : Position) × (byte : ℕ) × AreChunks chunks × GoesOn chunks at × IsWrongByte at byte
    × (transfer ≡ print_chunks chunks ++ (bytes_at at ++ byte ∷ [])) × (place ≡ length (print_chunks chunks ++ bytes_at at)))
    ⊎ ((chunks : List Chunk) × (last : SizeLine) × (trailer : List ℕ) × (at : ℕ) × AreChunks chunks × IsLastLine last
    × Shows Trailer trailer (Bad at) × (transfer ≡ print_chunks chunks ++ (print_size_line last ++ trailer))
    × (place ≡ length (print_chunks chunks ++ print_size_line last) + at))

-- at the last of these bytes a limit is passed: of a size line, of the body by a size line that ends, or of the trailer
abbrev pub Passes : List ℕ → Type 0
Passes transfer =
    ((chunks : List Chunk) × (line : List ℕ) × (byte : ℕ) × AreChunks chunks × GoesOn chunks (in_line line)
    × (length line ≡ MOST_SIZE_LINE) × (transfer ≡ print_chunks chunks ++ (line ++ byte ∷ [])))
    ⊎ (((chunks : List Chunk) × (l : SizeLine) × AreChunks chunks × IsShortLine l
    × (MOST_BODY < length (carried_bytes chunks) + size_of l) × (transfer ≡ print_chunks chunks ++ print_size_line l))
    ⊎ ((chunks : List Chunk) × (last : SizeLine) × (trailer : List ℕ) × AreChunks chunks × IsLastLine last
    × Shows Trailer trailer Large × (transfer ≡ print_chunks chunks ++ (print_size_line last ++ trailer))))

-- what shows itself of a body in chunks
pub data Sight : Type 0 where
  whole : (body : List ℕ) → Sight
  broken : (place : ℕ) → Sight
  large : Sight

-- it shows itself at the last of these bytes, and nothing did before
abbrev pub ShowsBody : List ℕ → Sight → Type 0
ShowsBody transfer (whole body) = IsTransfer transfer body
ShowsBody transfer (broken place) = Breaks transfer place
ShowsBody transfer large = Passes transfer

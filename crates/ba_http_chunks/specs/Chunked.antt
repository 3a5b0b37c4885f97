-- Believe: what giving a taker a body in chunks means.
use Rattle.std.specs.Prelude.{◌≡◌, ℕ, ◌≤◌, ◌⊎◌, List, [], ◌++◌, length, take, Option, Result, Ok, Err, ⊤}
use Rattle.std.specs.Io.KnownBytes.{Consumes, IsAtEnd}
use Rattle.ba_http_head.specs.declared.blocks.TheConstants.{BLOCK}
use Rattle.ba_http_head.specs.declared.faults.HttpFault.{HttpFault}
use Rattle.ba_http_head.specs.declared.faults.HttpFault.TheVariants.{Memory, BadHead, Length, TooLarge, BadChunk, Truncated, Read}
use Rattle.ba_http_chunks.specs.Transfers.{IsTransfer, IsUnended, Breaks, Passes}

-- Of a transfer some bytes were at hand, and these were taken: none, or some with which nothing had shown itself yet, and then
-- a block at most.
abbrev pub StopsUnended : List ℕ → List ℕ → Type 0
StopsUnended hand taken =
    (taken ≡ []) ⊎ ((before : List ℕ) × (last : List ℕ) × (taken ≡ before ++ last) × IsUnended (hand ++ before) × (length last ≤ BLOCK))

-- what the bytes say, and what the taker stands for then
abbrev pub ChunkedSo : (List ℕ → Type 0) → (List ℕ → Type 0) → List ℕ → Option (List ℕ) → Result (Unit {0}) HttpFault → Type 0
ChunkedSo old new bytes left (Ok done) =
    (n : ℕ) × (body : List ℕ) × (n ≤ length bytes) × IsTransfer (take n bytes) body × ((given : List ℕ) → old given → new (given ++ body))
ChunkedSo old new bytes left (Err Memory) = ⊤
ChunkedSo old new bytes left (Err (BadHead place)) = ⊥
ChunkedSo old new bytes left (Err Length) = ⊥
ChunkedSo old new bytes left (Err TooLarge) = (n : ℕ) × (n ≤ length bytes) × Passes (take n bytes)
ChunkedSo old new bytes left (Err (BadChunk place)) = (n : ℕ) × (n ≤ length bytes) × Breaks (take n bytes) place
ChunkedSo old new bytes left (Err Truncated) = IsUnended bytes × IsAtEnd left
ChunkedSo old new bytes left (Err Read) = IsUnended bytes

abbrev pub Unchunks : (List ℕ → Type 0) → (List ℕ → Type 0) → List ℕ → Option (List ℕ) → Option (List ℕ) → Result (Unit {0}) HttpFault
    → Type 0
Unchunks old new hand left_old left_new result =
    (taken : List ℕ) × Consumes left_old left_new taken × StopsUnended hand taken × ChunkedSo old new (hand ++ taken) left_new result

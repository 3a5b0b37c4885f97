-- Believe: what giving a taker a body of so many bytes means.
use Rattle.std.specs.Prelude.{◌≡◌, ℕ, ◌<◌, ◌≤◌, ◌⊎◌, List, [], ◌++◌, length, take, Option, Result, Ok, Err, ⊤}
use Rattle.std.specs.Io.KnownBytes.{Consumes, IsAtEnd}
use Rattle.ba_http_head.specs.declared.blocks.TheConstants.{BLOCK}
use Rattle.ba_http_head.specs.declared.faults.HttpFault.{HttpFault}
use Rattle.ba_http_head.specs.declared.faults.HttpFault.TheVariants.{Memory, BadHead, Length, TooLarge, BadChunk, Truncated, Read}

-- Of a body some bytes were at hand, and these were taken: none, or some with which there weren't so many yet, and then a
-- block at most.
abbrev pub StopsAt : List ℕ → ℕ → List ℕ → Type 0
StopsAt hand count taken =
    (taken ≡ [])
    ⊎ ((before : List ℕ) × (last : List ℕ) × (taken ≡ before ++ last) × (length (hand ++ before) < count) × (length last ≤ BLOCK))

-- what the bytes say, and what the taker stands for then
abbrev pub CountedSo : (List ℕ → Type 0) → (List ℕ → Type 0) → List ℕ → ℕ → Option (List ℕ) → Result (Unit {0}) HttpFault → Type 0
CountedSo old new bytes count left (Ok done) = (count ≤ length bytes) × ((given : List ℕ) → old given → new (given ++ take count bytes))
CountedSo old new bytes count left (Err Memory) = ⊤
CountedSo old new bytes count left (Err (BadHead place)) = ⊥
CountedSo old new bytes count left (Err Length) = ⊥
CountedSo old new bytes count left (Err TooLarge) = ⊥
CountedSo old new bytes count left (Err (BadChunk place)) = ⊥
CountedSo old new bytes count left (Err Truncated) = (length bytes < count) × IsAtEnd left
CountedSo old new bytes count left (Err Read) = length bytes < count

abbrev pub Counts : (List ℕ → Type 0) → (List ℕ → Type 0) → List ℕ → ℕ → Option (List ℕ) → Option (List ℕ) → Result (Unit {0}) HttpFault
    → Type 0
Counts old new hand count left_old left_new result =
    (taken : List ℕ) × Consumes left_old left_new taken × StopsAt hand count taken
    × CountedSo old new (hand ++ taken) count left_new result

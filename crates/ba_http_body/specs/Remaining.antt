-- Believe: what giving a taker all bytes up to the end of the input means.
use Rattle.std.specs.Prelude.{ℕ, ◌<◌, ◌≤◌, List, ◌++◌, length, Option, Result, Ok, Err, ⊤}
use Rattle.std.specs.Io.KnownBytes.{Consumes, IsAtEnd}
use Rattle.ba_http_head.specs.declared.faults.HttpFault.{HttpFault}
use Rattle.ba_http_head.specs.declared.faults.HttpFault.TheVariants.{Memory, BadHead, Length, TooLarge, BadChunk, Truncated, Read}
use Rattle.ba_http_body.specs.Counted.{StopsAt}

-- what the bytes say, where so many are too many, and what the taker stands for then
abbrev pub RemainingSo : (List ℕ → Type 0) → (List ℕ → Type 0) → List ℕ → ℕ → Option (List ℕ) → Result (Unit {0}) HttpFault → Type 0
RemainingSo old new bytes past left (Ok done) =
    (length bytes < past) × IsAtEnd left × ((given : List ℕ) → old given → new (given ++ bytes))
RemainingSo old new bytes past left (Err Memory) = ⊤
RemainingSo old new bytes past left (Err (BadHead place)) = ⊥
RemainingSo old new bytes past left (Err Length) = ⊥
RemainingSo old new bytes past left (Err TooLarge) = past ≤ length bytes
RemainingSo old new bytes past left (Err (BadChunk place)) = ⊥
RemainingSo old new bytes past left (Err Truncated) = ⊥
RemainingSo old new bytes past left (Err Read) = length bytes < past

-- some bytes were at hand, and the others were taken
abbrev pub EndsWithin : (List ℕ → Type 0) → (List ℕ → Type 0) → List ℕ → ℕ → Option (List ℕ) → Option (List ℕ)
    → Result (Unit {0}) HttpFault → Type 0
EndsWithin old new hand past left_old left_new result =
    (taken : List ℕ) × Consumes left_old left_new taken × StopsAt hand past taken
    × RemainingSo old new (hand ++ taken) past left_new result

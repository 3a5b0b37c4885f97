-- Inside: what reading a trailer gives.
use Rattle.std.specs.Prelude.{◌≡◌, ℕ, ◌+◌, ◌-◌, ◌^◌, ◌≤◌, ◌⊎◌, min, List, [], ◌++◌, length, take, Option, Result, Ok, Err, ⊤}
use Rattle.std.specs.Io.KnownBytes.{Consumes, IsAtEnd}
use Rattle.ba_http_head.specs.declared.blocks.TheConstants.{BLOCK}
use Rattle.ba_http_head.specs.declared.faults.HttpFault.{HttpFault}
use Rattle.ba_http_head.specs.declared.faults.HttpFault.TheVariants.{Memory, BadHead, Length, TooLarge, BadChunk, Truncated, Read}
use Rattle.ba_http_head.specs.declared.headings.Heading.TheVariants.{Trailer}
use Rattle.ba_http_head.specs.declared.scans.Shown.{Shown}
use Rattle.ba_http_head.specs.declared.scans.Shown.TheVariants.{Whole, Bad, Large}
use Rattle.ba_http_head.specs.HeadLines.{IsOpen}
use Rattle.ba_http_head.specs.Looks.{Shows}

-- what is answered where this shows itself, after so many bytes of the transfer; a place stops at the greatest number
abbrev pub answer_to : Shown → ℕ → Result (Unit {0}) HttpFault
answer_to Whole count = Ok tt
answer_to (Bad at) count = Err (BadChunk (min (count + at) (2 ^ 64 - 1)))
answer_to Large count = Err TooLarge

-- what the bytes after so many of the transfer say
abbrev pub TrailerSo : List ℕ → ℕ → Option (List ℕ) → Result (Unit {0}) HttpFault → Type 0
TrailerSo bytes count left (Ok done) = (n : ℕ) × (n ≤ length bytes) × Shows Trailer (take n bytes) Whole
TrailerSo bytes count left (Err Memory) = ⊤
TrailerSo bytes count left (Err (BadHead place)) = ⊥
TrailerSo bytes count left (Err Length) = ⊥
TrailerSo bytes count left (Err TooLarge) = (n : ℕ) × (n ≤ length bytes) × Shows Trailer (take n bytes) Large
TrailerSo bytes count left (Err (BadChunk place)) =
    (n : ℕ) × (n ≤ length bytes) × (at : ℕ) × Shows Trailer (take n bytes) (Bad at) × (place ≡ min (count + at) (2 ^ 64 - 1))
TrailerSo bytes count left (Err Truncated) = IsOpen Trailer bytes × IsAtEnd left
TrailerSo bytes count left (Err Read) = IsOpen Trailer bytes

-- of a trailer some bytes were at hand, and these were taken: none, or some with which nothing had shown itself yet, and then a block
abbrev pub StopsOpen : List ℕ → List ℕ → Type 0
StopsOpen hand taken =
    (taken ≡ [])
    ⊎ ((before : List ℕ) × (last : List ℕ) × (taken ≡ before ++ last) × IsOpen Trailer (hand ++ before) × (length last ≤ BLOCK))

abbrev pub ReadsTrailer : List ℕ → ℕ → Option (List ℕ) → Option (List ℕ) → Result (Unit {0}) HttpFault → Type 0
ReadsTrailer hand count left_old left_new result =
    (taken : List ℕ) × Consumes left_old left_new taken × StopsOpen hand taken × TrailerSo (hand ++ taken) count left_new result

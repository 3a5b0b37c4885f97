-- Inside: what reading a connection up to the end of a head gives.
use Rattle.std.specs.Prelude.{◌≡◌, ℕ, ◌≤◌, List, ◌++◌, length, take, Option, Result, Ok, Err, ⊤}
use Rattle.std.specs.Io.KnownBytes.{Consumes, IsAtEnd}
use Rattle.ba_http_head.specs.declared.blocks.TheConstants.{BLOCK}
use Rattle.ba_http_head.specs.declared.headings.Heading.{Heading}
use Rattle.ba_http_head.specs.declared.faults.HttpFault.{HttpFault}
use Rattle.ba_http_head.specs.declared.faults.HttpFault.TheVariants.{Memory, BadHead, Length, TooLarge, BadChunk, Truncated, Read}
use Rattle.ba_http_head.specs.declared.fetches.Fetched.{Fetched}
use Rattle.ba_http_head.specs.declared.scans.Shown.{Shown}
use Rattle.ba_http_head.specs.declared.scans.Shown.TheVariants.{Whole, Bad, Large}
use Rattle.ba_http_head.specs.HeadLines.{IsOpen}
use Rattle.ba_http_head.specs.Looks.{Shows}

-- what the bytes that were taken say
abbrev pub FetchedSo : Heading → List ℕ → Option (List ℕ) → Result Fetched HttpFault → Type 0
FetchedSo heading taken left (Ok fetched) =
    (fetched.bytes ≡ taken) × (fetched.len ≤ length taken) × Shows heading (take fetched.len taken) Whole
FetchedSo heading taken left (Err Memory) = ⊤
FetchedSo heading taken left (Err (BadHead place)) = (n : ℕ) × (n ≤ length taken) × Shows heading (take n taken) (Bad place)
FetchedSo heading taken left (Err Length) = ⊥
FetchedSo heading taken left (Err TooLarge) = (n : ℕ) × (n ≤ length taken) × Shows heading (take n taken) Large
FetchedSo heading taken left (Err (BadChunk place)) = ⊥
FetchedSo heading taken left (Err Truncated) = IsOpen heading taken × IsAtEnd left
FetchedSo heading taken left (Err Read) = IsOpen heading taken

-- what is answered where this shows itself at the last of the first n bytes
abbrev pub ended : Shown → List ℕ → ℕ → Result Fetched HttpFault
ended Whole bytes n = Ok (record { bytes = bytes; len = n })
ended (Bad place) bytes n = Err (BadHead place)
ended Large bytes n = Err TooLarge

-- Bytes were taken with which nothing had shown itself yet, and then a block at most.
abbrev pub Fetches : Heading → Option (List ℕ) → Option (List ℕ) → Result Fetched HttpFault → Type 0
Fetches heading old new result =
    (before : List ℕ) × (last : List ℕ) × Consumes old new (before ++ last) × IsOpen heading before × (length last ≤ BLOCK)
    × FetchedSo heading (before ++ last) new result

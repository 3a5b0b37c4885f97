-- Believe: what giving a taker a body means, by what its head says of where it ends.
use Rattle.std.specs.Prelude.{ℕ, ◌+◌, List, Option, Some, None, Result}
use Rattle.ba_http_head.specs.declared.faults.HttpFault.{HttpFault}
use Rattle.ba_http_head.specs.declared.lengths.Length.{Length}
use Rattle.ba_http_head.specs.declared.lengths.Length.TheVariants.{Counted, Chunked}
use Rattle.ba_http_head.specs.declared.lengths.TheConstants.{MOST_BODY}
use Rattle.ba_http_body.specs.Counted.{Counts}
use Rattle.ba_http_body.specs.Remaining.{EndsWithin}
use Rattle.ba_http_chunks.specs.Chunked.{Unchunks}

-- so many bytes, or chunks; where the head says nothing, all up to the end of the input
abbrev pub GivesBody : (List ℕ → Type 0) → (List ℕ → Type 0) → Option Length → List ℕ → Option (List ℕ) → Option (List ℕ)
    → Result (Unit {0}) HttpFault → Type 0
GivesBody old new (Some (Counted n)) hand left_old left_new result = Counts old new hand n left_old left_new result
GivesBody old new (Some Chunked) hand left_old left_new result = Unchunks old new hand left_old left_new result
GivesBody old new None hand left_old left_new result = EndsWithin old new hand (MOST_BODY + 1) left_old left_new result

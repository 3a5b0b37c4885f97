-- Believe: that bytes say nothing at all, which none do; and how little is taken after what shows itself.
use Rattle.std.specs.Prelude.{ℕ, ◌<◌, ◌≤◌, List, ◌++◌, length, take, Option, Result}
use Rattle.std.specs.Io.KnownBytes.{Consumes}
use Rattle.ba_http_head.specs.declared.blocks.TheConstants.{BLOCK}
use Rattle.ba_http_head.specs.declared.faults.HttpFault.{HttpFault}
use Rattle.ba_http_head.specs.declared.headings.Heading.{Heading}
use Rattle.ba_http_head.specs.declared.scans.Shown.{Shown}
use Rattle.ba_http_head.specs.HeadLines.{IsOpen}
use Rattle.ba_http_head.specs.Looks.{Shows}
use Rattle.ba_http_chunks.specs.Transfers.{IsUnended, ShowsBody, Sight}
use Rattle.ba_http.specs.Messages.{HttpMessage, Decides, IsUnfinished}

-- nothing shows itself of a head or of a trailer, nor are they open
abbrev pub SaysNoHead : Heading → List ℕ → Type 0
SaysNoHead heading bytes =
    ¬ (IsOpen heading bytes) × ((n : ℕ) (shown : Shown) → n ≤ length bytes → ¬ (Shows heading (take n bytes) shown))

-- nothing shows itself of a body in chunks, nor does it go on
abbrev pub SaysNoBody : List ℕ → Type 0
SaysNoBody bytes = ¬ (IsUnended bytes) × ((n : ℕ) (sight : Sight) → n ≤ length bytes → ¬ (ShowsBody (take n bytes) sight))

-- no message shows itself and no refusal, nor is it unfinished
abbrev pub SaysNoMessage : Heading → List ℕ → Type 0
SaysNoMessage heading bytes =
    ¬ (IsUnfinished heading bytes)
    × ((n : ℕ) (result : Result HttpMessage HttpFault) → n ≤ length bytes → ¬ (Decides heading (take n bytes) result))

-- the bytes were taken by which this shows itself, and less than a block after them
abbrev pub TakesLittleMore : Heading → Option (List ℕ) → Option (List ℕ) → Result HttpMessage HttpFault → Type 0
TakesLittleMore heading old new result =
    (taken : List ℕ) × (more : List ℕ) × Consumes old new (taken ++ more) × Decides heading taken result × (length more < BLOCK)

-- Inside: what is read of a head that is whole.
use Rattle.std.specs.Prelude.{◌≡◌, List, ℕ, Result, Ok, Err, ⊤}
use Rattle.ba_http_head.specs.declared.headings.Heading.{Heading}
use Rattle.ba_http_head.specs.declared.faults.HttpFault.{HttpFault}
use Rattle.ba_http_head.specs.declared.faults.HttpFault.TheVariants.{Memory, BadHead, Length as NoLength, TooLarge, BadChunk, Truncated}
use Rattle.ba_http_head.specs.declared.faults.HttpFault.TheVariants.{Read}
use Rattle.ba_http_head.specs.Heads.{StartLine, SaysHead, Opening}

-- the head that is all of these bytes says this, before these bytes
abbrev pub HeadSo : Heading → List ℕ → List ℕ → Result Opening HttpFault → Type 0
HeadSo heading prefix rest (Ok opening) = SaysHead heading prefix opening.start (Ok opening.length) × (opening.rest ≡ rest)
HeadSo heading prefix rest (Err Memory) = ⊤
HeadSo heading prefix rest (Err (BadHead place)) = ⊥
HeadSo heading prefix rest (Err NoLength) = (start : StartLine) × SaysHead heading prefix start (Err NoLength)
HeadSo heading prefix rest (Err TooLarge) = (start : StartLine) × SaysHead heading prefix start (Err TooLarge)
HeadSo heading prefix rest (Err (BadChunk place)) = ⊥
HeadSo heading prefix rest (Err Truncated) = ⊥
HeadSo heading prefix rest (Err Read) = ⊥

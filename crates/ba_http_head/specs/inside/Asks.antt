-- Inside: what is known of lines that end in a line feed.
use Rattle.std.specs.Prelude.{◌≡◌, ℕ, List, ◌++◌}
use Rattle.ba_http_head.specs.declared.headings.Heading.{Heading}
use Rattle.ba_http_head.specs.declared.asks.Asked.{Asked}
use Rattle.ba_http_head.specs.declared.asks.Asked.TheVariants.{Whole, More, Never}
use Rattle.ba_http_head.specs.HeadLines.{IsWhole, NeverWhole}

-- a prefix of the lines is whole
abbrev pub HasWhole : Heading → List ℕ → Type 0
HasWhole heading lines = (prefix : List ℕ) × (rest : List ℕ) × (lines ≡ prefix ++ rest) × IsWhole heading prefix

-- what the answer says of the lines
abbrev pub Says : Heading → List ℕ → Asked → Type 0
Says heading lines Whole = HasWhole heading lines
Says heading lines More = ¬ (HasWhole heading lines) × ¬ (NeverWhole heading lines)
Says heading lines Never = NeverWhole heading lines

-- Believe: which bytes a reader was fed. `new` and `feed` say when that holds, and each other clause only takes it from them: whatever
-- it is within the reader, the answers are those of the bytes that were fed.
use Rattle.std.specs.Prelude.{◌≡◌, ℕ, List}
use Rattle.ba_xml.specs.declared.readers.Progress.TheVariants.{Starved}
use Rattle.ba_xml.specs.declared.readers.Reader.{Reader}
use Rattle.ba_xml.specs.inside.Progress.{IsProgressOf}

-- the reader was fed these bytes, and memory was never wanting
abbrev pub IsFed : Reader → List ℕ → Type 0
IsFed reader bytes = IsProgressOf bytes reader.progress

-- memory was wanting
abbrev pub IsStarved : Reader → Type 0
IsStarved reader = reader.progress ≡ Starved

-- Believe: what a call says that reads its whole input, up to a limit, and of one that writes a text whole.
use Rattle.std.specs.Prelude.{ℕ, ◌+◌, ◌<◌, ◌⊎◌, Bool, IsTrue, List, length, Option, Some}
use Rattle.std.specs.Io.KnownBytes.{Appends, Keeps}
use Rattle.ba_ports.specs.Causes.{Rose}
use Rattle.ba_ports.specs.Inputs.{TakesAtMost}
use Rattle.ba_ports.specs.Outputs.{WritesPart}

-- a text that is due was written
abbrev pub WritesOne : (List ℕ → Type 0) → Option (List ℕ) → Option (List ℕ) → Type 0
WritesOne IsDue before now = (text : List ℕ) × IsDue text × Appends before now text

-- a prefix of a text that is due was written
abbrev pub WritesPrefixOf : (List ℕ → Type 0) → Option (List ℕ) → Option (List ℕ) → Type 0
WritesPrefixOf IsDue before now = (text : List ℕ) × IsDue text × WritesPart before now text

-- The input has more bytes than this. Nothing was written, and no more than one byte past the limit was taken.
pub record IsTooLong (most : ℕ) (input : List ℕ) (rest before now : Option (List ℕ)) : Type 0 where
  pub long : most < length input
  pub kept : Keeps before now
  pub taken : TakesAtMost (Some input) rest (most + 1)

-- a sink failed since: its count of faults rose, or it took nothing of a piece that wasn't empty
abbrev pub FailsToWrite : ℕ → ℕ → Bool → Type 0
FailsToWrite before now took_nothing = Rose before now ⊎ IsTrue took_nothing

-- The bytes that were due were written; or the sink failed since, and a prefix of them was written.
abbrev pub WritesOrFails : Option (List ℕ) → Option (List ℕ) → Type 0 → List ℕ → Type 0
WritesOrFails before now Fails due = Appends before now due ⊎ (WritesPart before now due × Fails)

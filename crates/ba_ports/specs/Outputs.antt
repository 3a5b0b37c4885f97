-- Believe: what was written of what was due.
use Rattle.std.specs.Prelude.{◌≡◌, ℕ, List, ◌++◌, Option}
use Rattle.std.specs.Io.KnownBytes.{Appends}

-- of the bytes that were due a front was written, and these are left due
abbrev pub Writes : Option (List ℕ) → List ℕ → Option (List ℕ) → List ℕ → Type 0
Writes before due now left = (front : List ℕ) × Appends before now front × (due ≡ front ++ left)

-- a front of these bytes was written, maybe all of them
abbrev pub WritesPart : Option (List ℕ) → Option (List ℕ) → List ℕ → Type 0
WritesPart before now due = (left : List ℕ) × Writes before due now left

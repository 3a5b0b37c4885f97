-- Inside: what a crash during a change and its sync may leave.
use Rattle.std.specs.Prelude.{◌⊎◌, ℕ, List}

-- what a crash may leave while a change is under way: what it might have left before, or what the change may make
-- of that
abbrev pub MayHaveChanged : (List ℕ → List ℕ → Type 0) → (List ℕ → Type 0) → List ℕ → Type 0
MayHaveChanged change before left = before left ⊎ ((c : List ℕ) × before c × change c left)

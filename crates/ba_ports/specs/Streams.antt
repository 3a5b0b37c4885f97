-- Believe: what a write says of itself.
use Rattle.std.specs.Prelude.{ℕ, Bool, false, List, [], ◌∷◌, Result, Ok, Err, nat_eq}

-- a write of this piece took nothing of it, although it wasn't empty
abbrev pub takes_nothing : {E : Type 0} → Result ℕ E → List ℕ → Bool
takes_nothing (Err e) piece = false
takes_nothing (Ok n) [] = false
takes_nothing (Ok n) (byte ∷ bytes) = nat_eq n 0

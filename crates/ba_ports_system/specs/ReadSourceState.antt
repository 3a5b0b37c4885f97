-- Believe: a ReadSource, as contracts see it.
use Rattle.std.specs.Prelude.{ℕ}

pub record ReadSourceState (R : Type 0) : Type 0 where
  -- the reader, as it is now
  pub reader : R
  -- how often the reader has failed
  pub faults : ℕ

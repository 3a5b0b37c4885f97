-- Believe: a WriteSink, as contracts see it.
use Rattle.std.specs.Prelude.{ℕ, Bool}

pub record WriteSinkState (W : Type 0) : Type 0 where
  -- the writer, as it is now
  pub writer : W
  -- how often the writer has failed
  pub faults : ℕ
  -- the last write was of a piece that wasn't empty, and took nothing of it
  pub took_nothing : Bool

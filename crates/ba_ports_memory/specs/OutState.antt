-- Believe: an Out, as contracts see it.
use Rattle.std.specs.Prelude.{ℕ, ◌-◌, min, Bool, false, List, ◌++◌, length, take, Ok}
use Rattle.ba_ports.specs.Counts.{risen}
use Rattle.ba_ports.specs.Streams.{takes_nothing}
use Rattle.ba_ports.specs.declared.failures.Failed.{Failed}

pub record OutState : Type 0 where
  -- the bytes that were written
  pub bytes : List ℕ
  -- how many bytes it takes in all
  pub room : ℕ
  -- how many writes there were
  pub calls : ℕ
  -- the numbers of the writes that fail
  pub fails : List ℕ
  -- how many writes have failed
  pub faults : ℕ
  -- the last write was of a piece that wasn't empty, and took nothing of it
  pub took_nothing : Bool

-- how many bytes a write of a piece of this length takes
abbrev pub taken_count : OutState → ℕ → ℕ
taken_count out piece = min piece (out.room - length out.bytes)

-- the sink after a write that took n bytes of this piece
abbrev pub after_write : OutState → List ℕ → ℕ → OutState
after_write out piece n =
    record out {
      bytes = out.bytes ++ take n piece;
      calls = risen out.calls;
      took_nothing = takes_nothing {E = Failed} (Ok n) piece;
    }

-- the sink after a write that failed
abbrev pub after_failed_write : OutState → OutState
after_failed_write out =
    record out { calls = risen out.calls; faults = risen out.faults; took_nothing = false }

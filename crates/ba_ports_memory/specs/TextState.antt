-- Believe: a Text, as contracts see it.
use Rattle.std.specs.Prelude.{ℕ, min, List, length, drop}
use Rattle.ba_ports.specs.Counts.{risen}

pub record TextState : Type 0 where
  -- the bytes that reads will give from here on
  pub left : List ℕ
  -- how many bytes a read gives at most
  pub most : ℕ
  -- how many reads there were
  pub calls : ℕ
  -- the numbers of the reads that fail
  pub fails : List ℕ
  -- how many reads have failed
  pub faults : ℕ

-- how many bytes a read into a room of this length gives
abbrev pub given_count : TextState → ℕ → ℕ
given_count text room = min text.most (min room (length text.left))

-- the text after a read that gave n bytes
abbrev pub after_read : TextState → ℕ → TextState
after_read text n = record text { left = drop n text.left; calls = risen text.calls }

-- the text after a read that failed
abbrev pub after_failed_read : TextState → TextState
after_failed_read text = record text { calls = risen text.calls; faults = risen text.faults }

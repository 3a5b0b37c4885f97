-- Inside: what an append writes after a gate.
use Rattle.std.specs.Prelude.{◌≡◌, ℕ, List}
use Rattle.ba_record.specs.Coding.{coding, InRange}
use Rattle.ba_record.specs.declared.records.Record.{Record}
use Rattle.ba_journal.specs.Journals.{behind_gate}

-- these bytes stand behind the gate of this record's frame
pub record IsFrameOf (behind : List ℕ) (last : Record) : Type 0 where
  pub in_range : InRange last
  pub bytes : behind ≡ behind_gate (coding last)

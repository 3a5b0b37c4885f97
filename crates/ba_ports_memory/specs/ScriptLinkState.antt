-- Believe: a ScriptLink, as contracts see it.
use Rattle.std.specs.Prelude.{ℕ, List, Result, Ok, Err, if◌then◌else◌}
use Rattle.ba_ports.specs.Counts.{risen}
use Rattle.ba_ports.specs.Streams.{takes_nothing}
use Rattle.ba_ports.specs.declared.failures.Failed.{Failed}
use Rattle.ba_ports_memory.specs.OutState.{OutState}
use Rattle.ba_ports_memory.specs.TextState.{TextState}

pub record ScriptLinkState : Type 0 where
  -- what is read from
  pub input : TextState
  -- what is written to
  pub output : OutState
  -- how many reads and writes have failed, and writes have taken nothing of a piece that wasn't empty
  pub faults : ℕ

-- the count of faults after a read that answered this
abbrev pub faults_after_read : ℕ → Result ℕ Failed → ℕ
faults_after_read faults (Ok n) = faults
faults_after_read faults (Err e) = risen faults

-- the count of faults after a write of this piece that answered this
abbrev pub faults_after_write : ℕ → Result ℕ Failed → List ℕ → ℕ
faults_after_write faults (Ok n) piece =
    if takes_nothing {E = Failed} (Ok n) piece then risen faults else faults
faults_after_write faults (Err e) piece = risen faults

-- Which faults have which status, for the clauses of `run` that speak of statuses.
use Rattle.std.proofs.Common.{◌≡◌, ◌<◌, refl, arith}
use Rattle.ba_cmd_check.specs.declared.checks.CheckFault.{CheckFault}
use Rattle.ba_cmd_check.specs.declared.checks.CheckFault.TheVariants as check
use Rattle.ba_cmd_journal.specs.declared.journals.ListFault.{ListFault}
use Rattle.ba_cmd_journal.specs.declared.journals.ListFault.TheVariants as list
use Rattle.ba_cmd_replay.specs.declared.faults.ReplayFault.{ReplayFault}
use Rattle.ba_cmd_replay.specs.declared.faults.ReplayFault.TheVariants as replay
use Rattle.ba.specs.Notes.{replay_status, check_status, list_status, status_of, IsStatus}
use Rattle.ba.specs.Run.{IsFaultOf}
use Rattle.ba.specs.declared.command.Command.{Command}
use Rattle.ba.specs.declared.command.Command.TheVariants.{Replay, Check, Journal}
use Rattle.ba.specs.declared.notes.RunFault.{RunFault}
use Rattle.ba.specs.declared.notes.RunFault.TheVariants as fault

-- only a failed read has status 4
pub replay_reads : (why : ReplayFault) → replay_status why ≡ 4 → why ≡ replay.Read
replay_reads (replay.BadLine number column) is = absurd (omega arith)
replay_reads (replay.NoSuchMessage number) is = absurd (omega arith)
replay_reads (replay.NoSuchName number) is = absurd (omega arith)
replay_reads replay.Read is = refl
replay_reads replay.Write is = absurd (omega arith)
replay_reads replay.Memory is = absurd (omega arith)
replay_reads replay.TooManyLines is = absurd (omega arith)

pub check_reads : (why : CheckFault) → check_status why ≡ 4 → why ≡ check.Read
check_reads (check.Refused reason) is = absurd (omega arith)
check_reads check.Read is = refl
check_reads check.Write is = absurd (omega arith)
check_reads check.Memory is = absurd (omega arith)
check_reads check.TooLong is = absurd (omega arith)
check_reads check.Unwritable is = absurd (omega arith)

pub list_reads : (why : ListFault) → list_status why ≡ 4 → why ≡ list.Read
list_reads (list.NoJournal place) is = absurd (omega arith)
list_reads list.Read is = refl
list_reads list.Write is = absurd (omega arith)
list_reads list.Memory is = absurd (omega arith)
list_reads list.TooLong is = absurd (omega arith)

-- only a failed write has status 5
pub replay_writes : (why : ReplayFault) → replay_status why ≡ 5 → why ≡ replay.Write
replay_writes (replay.BadLine number column) is = absurd (omega arith)
replay_writes (replay.NoSuchMessage number) is = absurd (omega arith)
replay_writes (replay.NoSuchName number) is = absurd (omega arith)
replay_writes replay.Read is = absurd (omega arith)
replay_writes replay.Write is = refl
replay_writes replay.Memory is = absurd (omega arith)
replay_writes replay.TooManyLines is = absurd (omega arith)

pub check_writes : (why : CheckFault) → check_status why ≡ 5 → why ≡ check.Write
check_writes (check.Refused reason) is = absurd (omega arith)
check_writes check.Read is = absurd (omega arith)
check_writes check.Write is = refl
check_writes check.Memory is = absurd (omega arith)
check_writes check.TooLong is = absurd (omega arith)
check_writes check.Unwritable is = absurd (omega arith)

pub list_writes : (why : ListFault) → list_status why ≡ 5 → why ≡ list.Write
list_writes (list.NoJournal place) is = absurd (omega arith)
list_writes list.Read is = absurd (omega arith)
list_writes list.Write is = refl
list_writes list.Memory is = absurd (omega arith)
list_writes list.TooLong is = absurd (omega arith)

-- each is a status of a run
replay_known : (why : ReplayFault) → IsStatus (replay_status why)
replay_known (replay.BadLine number column) = refl
replay_known (replay.NoSuchMessage number) = refl
replay_known (replay.NoSuchName number) = refl
replay_known replay.Read = refl
replay_known replay.Write = refl
replay_known replay.Memory = refl
replay_known replay.TooManyLines = refl

check_known : (why : CheckFault) → IsStatus (check_status why)
check_known (check.Refused reason) = refl
check_known check.Read = refl
check_known check.Write = refl
check_known check.Memory = refl
check_known check.TooLong = refl
check_known check.Unwritable = refl

list_known : (why : ListFault) → IsStatus (list_status why)
list_known (list.NoJournal place) = refl
list_known list.Read = refl
list_known list.Write = refl
list_known list.Memory = refl
list_known list.TooLong = refl

pub status_known : (why : RunFault) → IsStatus (status_of why)
status_known fault.Usage = refl
status_known fault.Memory = refl
status_known (fault.Replay why) = replay_known why
status_known (fault.Check why) = check_known why
status_known (fault.Journal why) = list_known why

-- a command's own fault is told apart from a whole run and from words that are no command line
replay_late : (why : ReplayFault) → 2 < replay_status why
replay_late (replay.BadLine number column) = omega arith
replay_late (replay.NoSuchMessage number) = omega arith
replay_late (replay.NoSuchName number) = omega arith
replay_late replay.Read = omega arith
replay_late replay.Write = omega arith
replay_late replay.Memory = omega arith
replay_late replay.TooManyLines = omega arith

check_late : (why : CheckFault) → 2 < check_status why
check_late (check.Refused reason) = omega arith
check_late check.Read = omega arith
check_late check.Write = omega arith
check_late check.Memory = omega arith
check_late check.TooLong = omega arith
check_late check.Unwritable = omega arith

list_late : (why : ListFault) → 2 < list_status why
list_late (list.NoJournal place) = omega arith
list_late list.Read = omega arith
list_late list.Write = omega arith
list_late list.Memory = omega arith
list_late list.TooLong = omega arith

pub own_late : (command : Command) (why : RunFault) → IsFaultOf command why → 2 < status_of why
own_late command fault.Memory own = omega arith
own_late command (fault.Replay why) own = replay_late why
own_late command (fault.Check why) own = check_late why
own_late command (fault.Journal why) own = list_late why
own_late Replay fault.Usage own = absurd own
own_late Check fault.Usage own = absurd own
own_late Journal fault.Usage own = absurd own

-- Believe: what `run` promises, by the command that the words ask for and by the fault that stopped it.
use Rattle.std.specs.Prelude.{◌≡◌, ℕ, ◌+◌, List, [], Option, IfSome}
use Rattle.ba_cmd_check.specs.Checks.{IsReport, StopsCheck}
use Rattle.ba_cmd_check.specs.declared.checks.TheConstants.{MOST_TEXT}
use Rattle.ba_cmd_journal.specs.Journals.{IsListing, StopsListing}
use Rattle.ba_cmd_journal.specs.declared.journals.TheConstants.{MOST_FILE}
use Rattle.ba_ports_memory.specs.DiskValue.{DiskValue}
use Rattle.ba_ports.specs.Whole.{WritesOne}
use Rattle.ba_cmd_replay.specs.Replay.{PrintsWhole, StopsReplay, most_of_script}
use Rattle.ba_cmd_replay.specs.WorldReplay.{HandsOut, LeavesDisks}
use Rattle.ba.specs.Command.{AsksFor}
use Rattle.ba.specs.Notes.{note_text, status_of}
use Rattle.ba.specs.declared.command.Command.{Command}
use Rattle.ba.specs.declared.command.Command.TheVariants.{Replay, Check, Journal}
use Rattle.ba.specs.declared.notes.RunFault.{RunFault}
use Rattle.ba.specs.declared.notes.RunFault.TheVariants as fault

-- the whole output of a command on this input was written
abbrev pub Does : Command → List ℕ → Option (List ℕ) → Option (List ℕ) → Type 0
Does Replay input before now = PrintsWhole input before now
Does Check input before now = WritesOne (IsReport input) before now
Does Journal input before now = WritesOne (IsListing input) before now

-- so many bytes are taken at most
abbrev pub most_taken_by : Command → ℕ
most_taken_by Replay = most_of_script
most_taken_by Check = MOST_TEXT + 1
most_taken_by Journal = MOST_FILE + 1

-- a fault of the command's own
abbrev pub IsFaultOf : Command → RunFault → Type 0
IsFaultOf Replay (fault.Replay why) = Unit {0}
IsFaultOf Check (fault.Check why) = Unit {0}
IsFaultOf Journal (fault.Journal why) = Unit {0}
IsFaultOf command why = ⊥

-- why a command ended early on this input, and what it had written, where this was left to read
abbrev pub Stops : Command → List ℕ → Option (List ℕ) → Option (List ℕ) → Option (List ℕ) → RunFault → Type 0
Stops Replay input rest before now (fault.Replay why) = StopsReplay input rest before now why
Stops Check input rest before now (fault.Check why) = StopsCheck input rest before now why
Stops Journal input rest before now (fault.Journal why) = StopsListing input rest before now why
Stops command input rest before now why = ⊥

-- `replay` hands out the disks of the play of a script, and other commands hand out none
abbrev pub LeavesWhole : Command → List ℕ → List DiskValue → Type 0
LeavesWhole Replay input disks = LeavesDisks input disks
LeavesWhole Check input disks = disks ≡ []
LeavesWhole Journal input disks = disks ≡ []

-- the disks that are handed out at a fault
abbrev pub LeavesAt : Command → List ℕ → List DiskValue → RunFault → Type 0
LeavesAt Replay input disks (fault.Replay why) = HandsOut input disks why
LeavesAt command input disks why = disks ≡ []

-- There is a fault of this status that stopped the command that the words ask for, and this is its note.
pub record StoppedAs (status : ℕ) (words : List (List ℕ)) (left rest before now : Option (List ℕ))
    (disks : List DiskValue) (IsNoted : List ℕ → Type 0) : Type 0 where
  pub command : Command
  pub asks : AsksFor command words
  pub why : RunFault
  pub own : IsFaultOf command why
  pub has_status : status ≡ status_of why
  pub stops : IfSome left (λ input. Stops command input rest before now why)
  pub handed : IfSome left (λ input. LeavesAt command input disks why)
  pub noted : IsNoted (note_text why)

-- Believe: the statuses of a run, and the notes that say why it ended early.
use Rattle.std.specs.Prelude.{ℕ, IsTrue, List, [], ◌∷◌, ◌++◌, nat_eq, codes}
use Rattle.std.specs.Fmt.{decimal}
use Rattle.std.specs.List.{list_any}
use Rattle.ba_cmd_check.specs.declared.checks.CheckFault.{CheckFault}
use Rattle.ba_cmd_check.specs.declared.checks.CheckFault.TheVariants as check
use Rattle.ba_soap.specs.declared.headers.SoapFault.{SoapFault}
use Rattle.ba_soap.specs.declared.headers.SoapFault.TheVariants as soap
use Rattle.ba_wire.specs.declared.faults.WireFault.{WireFault}
use Rattle.ba_wire.specs.declared.faults.WireFault.TheVariants as wire
use Rattle.ba_cmd_journal.specs.declared.journals.ListFault.{ListFault}
use Rattle.ba_cmd_journal.specs.declared.journals.ListFault.TheVariants as list
use Rattle.ba_cmd_replay.specs.declared.faults.ReplayFault.{ReplayFault}
use Rattle.ba_cmd_replay.specs.declared.faults.ReplayFault.TheVariants as replay
use Rattle.ba_xml_words.specs.declared.faults.Reason.{Reason}
use Rattle.ba_xml_words.specs.declared.faults.Reason.TheVariants as reason
use Rattle.ba.specs.declared.notes.RunFault.{RunFault}
use Rattle.ba.specs.declared.notes.RunFault.TheVariants as fault

-- ---- notes

-- a word, and a number in decimal
abbrev pub counted_text : List ℕ → ℕ → List ℕ
counted_text word number = word ++ decimal number

-- two words, each with its number, on a line
abbrev pub counts_text : List ℕ → ℕ → List ℕ → ℕ → List ℕ
counts_text word number other count = counted_text word number ++ (counted_text other count ++ codes "\n")

abbrev pub replay_note : ReplayFault → List ℕ
replay_note (replay.BadLine number column) = counts_text (codes "line ") number (codes " column ") column
replay_note (replay.NoSuchName number) = counted_text (codes "line ") number ++ codes " no such name\n"
replay_note (replay.NoSuchMessage number) = counted_text (codes "line ") number ++ codes " no such message\n"
replay_note replay.Read = codes "read\n"
replay_note replay.Write = codes "write\n"
replay_note replay.Memory = codes "memory\n"
replay_note replay.TooManyLines = codes "limit\n"

-- the number of a reason
abbrev pub reason_number : Reason → ℕ
reason_number reason.NotUtf8 = 1
reason_number reason.Syntax = 2
reason_number reason.Truncated = 3
reason_number reason.Namespace = 4
reason_number reason.Depth = 5
reason_number reason.Size = 6
reason_number reason.Attributes = 7

-- the numbers of the page on envelopes
abbrev pub envelope_note : SoapFault → List ℕ
envelope_note soap.Memory = codes "memory\n"
envelope_note soap.VersionMismatch = codes "soap 11\n"
envelope_note (soap.MustUnderstand block) = codes "soap 12\n"
envelope_note soap.NoBody = codes "soap 13\n"
envelope_note (soap.HeaderRequired header) = codes "soap 14\n"
envelope_note (soap.InvalidHeader header) = codes "soap 15\n"
envelope_note soap.Shape = codes "soap 17\n"

abbrev pub message_note : WireFault → List ℕ
message_note wire.Memory = codes "memory\n"
message_note (wire.Xml why place) = counts_text (codes "xml ") (reason_number why) (codes " at ") place
message_note (wire.Soap why) = envelope_note why
message_note wire.OnlyAnonymous = codes "wire 16\n"
message_note (wire.EprLimit element) = codes "wire 18\n"
message_note wire.ActionNotSupported = codes "wire 21\n"
message_note (wire.BodyMismatch element) = codes "wire 22\n"

abbrev pub check_note : CheckFault → List ℕ
check_note (check.Refused why) = message_note why
check_note check.Read = codes "read\n"
check_note check.Write = codes "write\n"
check_note check.Memory = codes "memory\n"
check_note check.TooLong = codes "limit\n"
check_note check.Unwritable = codes "limit\n"

abbrev pub list_note : ListFault → List ℕ
list_note (list.NoJournal place) = counted_text (codes "journal at ") place ++ codes "\n"
list_note list.Read = codes "read\n"
list_note list.Write = codes "write\n"
list_note list.Memory = codes "memory\n"
list_note list.TooLong = codes "limit\n"

-- the note of a run that ended early
abbrev pub note_text : RunFault → List ℕ
note_text fault.Usage = codes "usage\n"
note_text fault.Memory = codes "memory\n"
note_text (fault.Replay why) = replay_note why
note_text (fault.Check why) = check_note why
note_text (fault.Journal why) = list_note why

-- ---- statuses: 3 the input is refused, 4 it can't be read, 5 the output can't be written, 6 memory, 7 a limit

abbrev pub replay_status : ReplayFault → ℕ
replay_status (replay.BadLine number column) = 3
replay_status (replay.NoSuchMessage number) = 3
replay_status (replay.NoSuchName number) = 3
replay_status replay.Read = 4
replay_status replay.Write = 5
replay_status replay.Memory = 6
replay_status replay.TooManyLines = 7

abbrev pub check_status : CheckFault → ℕ
check_status (check.Refused why) = 3
check_status check.Read = 4
check_status check.Write = 5
check_status check.Memory = 6
check_status check.TooLong = 7
check_status check.Unwritable = 7

abbrev pub list_status : ListFault → ℕ
list_status (list.NoJournal place) = 3
list_status list.Read = 4
list_status list.Write = 5
list_status list.Memory = 6
list_status list.TooLong = 7

-- the status of a run that ended early
abbrev pub status_of : RunFault → ℕ
status_of fault.Usage = 2
status_of fault.Memory = 6
status_of (fault.Replay why) = replay_status why
status_of (fault.Check why) = check_status why
status_of (fault.Journal why) = list_status why

-- the statuses of a run
abbrev pub IsStatus : ℕ → Type 0
IsStatus status = IsTrue (list_any (nat_eq status) (0 ∷ 2 ∷ 3 ∷ 4 ∷ 5 ∷ 6 ∷ 7 ∷ []))

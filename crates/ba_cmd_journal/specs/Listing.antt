-- Believe: the text that lists what a journal's file holds: a line for each record, numbered from 0, and a last line.
use Rattle.std.specs.Prelude.{ℕ, ◌+◌, if◌then◌else◌, nat_eq, List, [], ◌∷◌, ◌++◌, length, Option, None, Some, codes}
use Rattle.std.specs.Fmt.{decimal}
use Rattle.ba_core.specs.Messages.{notice_name}
use Rattle.ba_core.specs.Texts.{code_text}
use Rattle.ba_core.specs.Words.{act_word, kind_word, protocol_word, verdict_word}
use Rattle.ba_core.specs.declared.codes.Code.TheVariants as fault
use Rattle.ba_core.specs.declared.protocols.Protocol.{Protocol}
use Rattle.ba_tree.specs.declared.trees.Tree.{Tree}
use Rattle.ba_message.specs.declared.endpoints.Epr.{Epr}
use Rattle.ba_record.specs.declared.records.Record.{Record}
use Rattle.ba_record.specs.declared.records.Record.TheVariants.{Node, Scope, End, Part, Enrolled, Refused}
use Rattle.ba_record.specs.declared.records.Record.TheVariants.{Received, Acted, Decided, Chosen, Ticked, Asked}
use Rattle.ba_journal.specs.declared.scans.Scan.{Scan}
use Rattle.ba_journal.specs.declared.scans.Scan.TheVariants.{Fresh, Found}

-- ---- single words

-- why a part was refused; a number that stands for no code as it is
abbrev pub refusal_word : ℕ → List ℕ
refusal_word code =
    if nat_eq code 1 then code_text fault.CannotRegisterParticipant
    else if nat_eq code 2 then code_text fault.InvalidProtocol
    else decimal code

-- what was chosen; a number that stands for no choice as it is
abbrev pub choice_word : ℕ → List ℕ
choice_word choice =
    if nat_eq choice 1 then codes "close"
    else if nat_eq choice 2 then codes "undo"
    else if nat_eq choice 3 then codes "complete"
    else decimal choice

-- a hyphen where there is no deadline
abbrev pub deadline_word : Option ℕ → List ℕ
deadline_word None = codes "-"
deadline_word (Some moment) = decimal moment

-- ---- endpoints

-- how many parameters there are, where there are any
abbrev pub parameters_words : List Tree → List ℕ
parameters_words [] = []
parameters_words (tree ∷ trees) = codes " +" ++ decimal (length (tree ∷ trees))

-- an address and its parameters
abbrev pub endpoint_words : Epr → List ℕ
endpoint_words epr = epr.address ++ parameters_words epr.parameters

-- a protocol and an endpoint, after other words
abbrev pub link_words : Protocol → Epr → List ℕ
link_words protocol epr = codes " " ++ (protocol_word protocol ++ (codes " " ++ endpoint_words epr))

-- the upward part of a child scope
abbrev pub upward_words : Option (Protocol × Epr) → List ℕ
upward_words None = []
upward_words (Some upward) = codes " up" ++ link_words upward.0 upward.1

-- ---- records

abbrev pub record_words : Record → List ℕ
record_words (Node number base) = codes "node " ++ (decimal number ++ (codes " " ++ base))
record_words (Scope counter kind deadline upward) =
    codes "scope " ++ (decimal counter ++ (codes " " ++ (kind_word kind ++ (codes " " ++ (deadline_word deadline ++ upward_words upward)))))
record_words (End counter scope protocol participant) =
    codes "end " ++ (decimal counter ++ (codes " " ++ (decimal scope ++ link_words protocol participant)))
record_words (Part counter protocol registration) = codes "part " ++ (decimal counter ++ link_words protocol registration)
record_words (Enrolled counter coordinator) = codes "enrolled " ++ (decimal counter ++ (codes " " ++ endpoint_words coordinator))
record_words (Refused counter code) = codes "refused " ++ (decimal counter ++ (codes " " ++ refusal_word code))
record_words (Received counter notice) = codes "received " ++ (decimal counter ++ (codes " " ++ notice_name notice))
record_words (Acted counter a) = codes "acted " ++ (decimal counter ++ (codes " " ++ act_word a))
record_words (Decided counter verdict) = codes "decided " ++ (decimal counter ++ (codes " " ++ verdict_word verdict))
record_words (Chosen counter choice) = codes "chosen " ++ (decimal counter ++ (codes " " ++ choice_word choice))
record_words (Ticked counter) = codes "ticked " ++ decimal counter
record_words (Asked counter) = codes "asked " ++ decimal counter

-- ---- lines

-- a record's line: its index, its words and a line feed
abbrev pub line_text : ℕ → Record → List ℕ
line_text index r = decimal index ++ (codes " " ++ (record_words r ++ codes "\n"))

-- the lines of records, of which the first has this index
abbrev pub lines_from : ℕ → List Record → List ℕ
lines_from index [] = []
lines_from index (r ∷ records) = line_text index r ++ lines_from (index + 1) records

-- the last line: that nothing is there yet, or the place where reading stopped and the bytes after that gate
abbrev pub closing_line : Scan → List ℕ
closing_line Fresh = codes "fresh\n"
closing_line (Found records end tail) = codes "end at " ++ (decimal end ++ (codes " tail " ++ (decimal tail ++ codes "\n")))

-- the records that were found, none in a fresh file
abbrev pub records_of : Scan → List Record
records_of Fresh = []
records_of (Found records end tail) = records

-- the whole text
abbrev pub listing : Scan → List ℕ
listing scan = lines_from 0 (records_of scan) ++ closing_line scan

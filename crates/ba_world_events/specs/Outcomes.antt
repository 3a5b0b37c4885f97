-- Believe: the printed lines of a world's play: the line of each event, and those after the last one.
use Rattle.std.specs.Prelude.{ℕ, List, ◌++◌, Option, None, Some, codes}
use Rattle.std.specs.Fmt.{decimal}
use Rattle.ba_core.specs.Messages.{notice_name}
use Rattle.ba_core.specs.Texts.{code_text, end_text, id_text, part_text}
use Rattle.ba_core.specs.Words.{kind_word, protocol_word, verdict_word}
use Rattle.ba_core.specs.declared.protocols.Verdict.{Verdict}
use Rattle.ba_world_events.specs.declared.outcomes.Label.{Label}
use Rattle.ba_world_events.specs.declared.outcomes.Label.TheVariants as label
use Rattle.ba_world_events.specs.declared.outcomes.Outcome.{Outcome}
use Rattle.ba_world_events.specs.declared.outcomes.Outcome.TheVariants as outcome
use Rattle.ba_world_events.specs.declared.summaries.Summary.{Summary}
use Rattle.ba_world_events.specs.declared.summaries.Summary.TheVariants as summary

-- a message by what it is
abbrev pub label_text : Label → List ℕ
label_text (label.Notice n) = notice_name n
label_text label.Register = codes "Register"
label_text label.RegisterResponse = codes "RegisterResponse"
label_text (label.Fault c) = codes "fault " ++ code_text c

-- what an event came to, as its line says it after the number
abbrev pub outcome_text : Outcome → List ℕ
outcome_text outcome.Done = codes "ok"
outcome_text (outcome.Made id) = codes "ok " ++ id_text id.0
outcome_text (outcome.MadeUnder scope up) = codes "ok " ++ (id_text scope.0 ++ (codes " up " ++ id_text up.0))
outcome_text (outcome.Sent number l) = codes "sent " ++ (decimal number ++ (codes " " ++ label_text l))
outcome_text outcome.Quiet = codes "quiet"
outcome_text (outcome.Reply number l) = codes "reply " ++ (decimal number ++ (codes " " ++ label_text l))
outcome_text (outcome.Refused why None) = codes "refused " ++ decimal why
outcome_text (outcome.Refused why (Some id)) = codes "refused " ++ (decimal why ++ (codes " " ++ id_text id.0))
outcome_text (outcome.Fault c) = codes "fault " ++ code_text c
outcome_text outcome.Down = codes "down"
outcome_text outcome.Disk = codes "disk"
outcome_text outcome.Full = codes "full"
outcome_text outcome.Closed = codes "closed"
outcome_text outcome.Stopped = codes "stopped"

-- the line of an event: its number in the script, what it came to, and a line feed
abbrev pub outcome_line : ℕ → Outcome → List ℕ
outcome_line number o = decimal number ++ (codes " " ++ (outcome_text o ++ codes "\n"))

abbrev pub verdict_or_none : Option Verdict → List ℕ
verdict_or_none None = codes "none"
verdict_or_none (Some v) = verdict_word v

-- a line after the last event
abbrev pub summary_text : Summary → List ℕ
summary_text (summary.Scope id kind v) =
    id_text id.0 ++ (codes " scope " ++ (kind_word kind ++ (codes " " ++ verdict_or_none v)))
summary_text (summary.End id protocol state v) =
    id_text id.0
    ++ (codes " end " ++ (protocol_word protocol ++ (codes " " ++ (end_text state ++ (codes " " ++ verdict_or_none v)))))
summary_text (summary.Part id protocol state) =
    id_text id.0 ++ (codes " part " ++ (protocol_word protocol ++ (codes " " ++ part_text state)))
summary_text (summary.NodeDown node) = codes "node " ++ (decimal node ++ codes " down")
summary_text (summary.Bag count) = codes "bag=" ++ decimal count

-- it has no number
abbrev pub summary_line : Summary → List ℕ
summary_line s = summary_text s ++ codes "\n"

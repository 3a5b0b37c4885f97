-- Believe: which word a message tells a participant.
use Rattle.std.specs.Prelude.{Option, None, Some}
use Rattle.ba_core.specs.declared.notices.Notice.{Notice}
use Rattle.ba_core.specs.declared.notices.Notice.TheVariants as notice
use Rattle.ba_core.specs.declared.protocols.Verdict.{Verdict}
use Rattle.ba_core.specs.declared.protocols.Verdict.TheVariants.{Close, Undo}
use Rattle.ba_message.specs.declared.messages.Message.{Message}
use Rattle.ba_message.specs.declared.messages.Message.TheVariants as message

-- the word that a notice tells (WS-BusinessActivity 1.2, section 3)
abbrev pub word_told : Notice → Option Verdict
word_told notice.Close = Some Close
word_told notice.Cancel = Some Undo
word_told notice.Compensate = Some Undo
word_told n = None

-- the word that a message tells; none but a notice tells one
abbrev pub word_in : Message → Option Verdict
word_in (message.Notice m) = word_told m
word_in m = None

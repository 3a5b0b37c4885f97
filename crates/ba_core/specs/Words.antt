-- Believe: the words by which scripts, listings, control texts and command lines name what the tables speak of.
use Rattle.std.specs.Prelude.{ℕ, List, codes}
use Rattle.ba_core.specs.declared.notices.Act.{Act}
use Rattle.ba_core.specs.declared.notices.Act.TheVariants as act
use Rattle.ba_core.specs.declared.protocols.Kind.{Kind}
use Rattle.ba_core.specs.declared.protocols.Kind.TheVariants.{Atomic, Mixed}
use Rattle.ba_core.specs.declared.protocols.Protocol.{Protocol}
use Rattle.ba_core.specs.declared.protocols.Protocol.TheVariants.{Pc, Cc}
use Rattle.ba_core.specs.declared.protocols.Verdict.{Verdict}
use Rattle.ba_core.specs.declared.protocols.Verdict.TheVariants.{Close, Undo}

abbrev pub act_word : Act → List ℕ
act_word act.Completed = codes "completed"
act_word act.Closed = codes "closed"
act_word act.Canceled = codes "canceled"
act_word act.Compensated = codes "compensated"
act_word act.Fail = codes "fail"
act_word act.Exit = codes "exit"
act_word act.CannotComplete = codes "cannotcomplete"

abbrev pub protocol_word : Protocol → List ℕ
protocol_word Pc = codes "pc"
protocol_word Cc = codes "cc"

abbrev pub kind_word : Kind → List ℕ
kind_word Atomic = codes "atomic"
kind_word Mixed = codes "mixed"

abbrev pub verdict_word : Verdict → List ℕ
verdict_word Close = codes "close"
verdict_word Undo = codes "undo"

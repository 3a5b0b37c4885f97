use Rattle.std.proofs.Common.{length}
use Rattle.ba_script_forms.proofs.Walks.{Walk}
use Rattle.ba_script_forms.proofs.readings.words_read.Given as goal

abbrev pub invariant-words : goal.invariant-words
invariant-words l = record {
  walk : Walk l.fn.chosen l.fn.line l.rest l.told l.column;
}

abbrev pub decreases-words : goal.decreases-words
decreases-words l = length l.rest

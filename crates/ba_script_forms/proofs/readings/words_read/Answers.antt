use Rattle.std.proofs.Common.{◌+◌, arith}
use Rattle.ba_script_forms.proofs.Walks.{walked}
use Rattle.ba_script_forms.proofs.readings.words_read.Goals as goal

pub words-preserved : goal.words-preserved
words-preserved c = record {
  walk = walked c.args.chosen c.args.line.now c.words.rest.now c.words.told c.words.column c.words.invariant.walk
      c.first_word-count.result c.first_word-count.ensures c.beginning.result.now c.beginning.ensures
      c.in-Some.next c.in-Some.ensures.fits c.in-Some.ensures.stands c.in-Some.ensures.told c.in-Some.ensures.some
      c.after-rest.result.now (c.words.column + (c.first_word-count.result + 1)) (omega arith) c.after-rest.ensures (omega arith);
}

pub whole-requires-clause-stands : goal.whole-requires-clause-stands
whole-requires-clause-stands c = c.in-Some.ensures.stands c.args.chosen c.words.invariant.walk.stand

use Rattle.std.proofs.Common.{◌≢◌, sym, inr, arith, take_all}
use Rattle.std.proofs.lemmas.List.Elements.{All-more, All-same}
use Rattle.ba_script.proofs.lines.line_in.Goals as goal

pub returns-then-index-eq-MOST_BYTES-clause-some :
    goal.returns-then-index-eq-MOST_BYTES-clause-some
returns-then-index-eq-MOST_BYTES-clause-some c = record {
  within = omega arith;
  clear = All-more (λ x. x ≢ 10) c.args.bytes.now c.loop-index.index 0 (omega arith) c.loop-index.invariant.clear c.if-byte-eq10.false;
  ends = inr (omega arith);
}

pub returns-clause-clear : goal.returns-clause-clear
returns-clause-clear c =
    All-same (λ x. x ≢ 10) _ _ (sym (take_all c.loop-index.index c.args.bytes.now (omega arith))) c.loop-index.invariant.clear

use Rattle.std.proofs.Common.{true, not, cond, ◌≡◌, ◌+◌, ◌∷◌, ◌++◌, [], ◌∙◌, ap, subst, arith, length, sym, get_or, length-append}
use Rattle.std.specs.Result.{is_ok}
use Rattle.ba_resend.proofs.RowLemmas.{all_empty-push, empty_fits, empty_planned}
use Rattle.ba_resend.proofs.plans.Plan.new.Goals as goal

pub invariant_of-result : goal.invariant_of-result
invariant_of-result c = empty_fits c.loop.shares.items (omega
    (arith, c.loop.invariant.len, c.loop-test.false, c.requires)) c.loop.invariant.empty

pub returns : goal.returns
returns c = empty_planned c.args.node c.args.senders c.loop.shares.items (omega
    (arith, c.loop.invariant.len, c.loop-test.false, c.loop.auto.counter-end))

pub loop-preserved : goal.loop-preserved
loop-preserved c =
    let fine : is_ok c.push.result ≡ true = c.is_err.ensures.negation ∙ ap not c.if-is_err.false in
    let items : c.push.new.self.items ≡ c.loop.shares.items ++ c.new.result ∷ [] =
    c.push.ensures.items ∙ ap (λ b. cond b (c.loop.shares.items ++ c.new.result ∷ []) c.loop.shares.items) fine in
    record {
      len = ap length items ∙ length-append c.loop.shares.items (c.new.result ∷ []) ∙ ap (λ n. n + 1) c.loop.invariant.len;
      empty = λ s. ap (λ l. get_or l s []) items ∙ all_empty-push c.loop.shares.items c.new.result c.new.ensures c.loop.invariant.empty s;
    }

use Rattle.std.proofs.Common.{◌≡◌, sym, ap, ◌∙◌, slice_set}
use Rattle.std.proofs.lemmas.List.Edits.{map_over_more}
use Rattle.ba_scope_ends.specs.Ends.{end_with_verdict_if_none}
use Rattle.ba_scope_ends.specs.declared.ends.End.{End}
use Rattle.ba_scope_ends.proofs.ends.set_verdicts_if_none.Goals as goal

pub loop-end-preserved : goal.loop-end-preserved
loop-end-preserved c =
    let f = end_with_verdict_if_none c.args.verdict in
    let set : ◌≡◌ {A = End} c.set_verdict_if_none.new.self (f c.end-item.result) =
    c.set_verdict_if_none.ensures ∙ ap f (sym c.end-item.is) in
    ap (λ (e : End). slice_set c.loop-end.ends c.loop-end.end-index e) set
    ∙ map_over_more f c.args.ends.now c.loop-end.ends c.loop-end.end-index c.end-item.result c.loop-end-test.true
    c.loop-end.invariant c.end-item.is

use Rattle.std.proofs.Common.{◌∙◌, sym}
use Rattle.ba_node_plans.proofs.Planned.{nothing_suits, scope_suits}
use Rattle.ba_node_plans.proofs.Ticked.{scope_expires, scope_waits}
use Rattle.ba_node_plans.proofs.ticks.tick_scope.Goals as goal

pub returns-then-not-expires : goal.returns-then-not-expires
returns-then-not-expires c =
    let f = c.args.found.now in
    record {
      step = λ n id finds. c.saying.ensures.step n
          ∙ scope_waits n f.scope.now c.args.now (sym c.expires.ensures ∙ c.if-not-expires.true);
      suits = λ m id finds. nothing_suits m c.saying.result.change c.saying.ensures.change;
    }

pub returns : goal.returns
returns c =
    let f = c.args.found.now in
    record {
      step = λ n id finds. (rw c.id-id.ensures at (c.changing.ensures.step n))
          ∙ scope_expires n id f.place f.scope.now c.args.now finds (sym c.expires.ensures ∙ c.if-not-expires.false);
      suits = λ m id finds. scope_suits m f.place f.scope.now _ c.changing.result.change finds.at tt c.changing.ensures.change;
    }

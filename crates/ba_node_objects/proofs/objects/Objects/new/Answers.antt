use Rattle.std.proofs.Common.{sym, subst}
use Rattle.ba_node_steps.proofs.StepsFit.{new_fits}
use Rattle.ba_node_steps.specs.Fits.{NodeFits}
use Rattle.ba_node_objects.proofs.objects.Objects.new.Goals as goal

pub invariant_of-result : goal.invariant_of-result
invariant_of-result c = record {
  node = subst NodeFits (sym c.empty.ensures.node) (new_fits c.args.number c.args.base);
  count = c.empty.ensures.count;
}

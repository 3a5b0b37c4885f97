use Rattle.std.proofs.Common.{subst}
use Rattle.ba_node.specs.Nodes.{on_journal}
use Rattle.ba_node.proofs.Commits.{spare_of}
use Rattle.ba_node_steps.specs.Fits.{HasSpareCounters, NodeFits}
use Rattle.ba_node.proofs.nodes.Node.last.Goals as goal

pub returns-clause-spare : goal.returns-clause-spare
returns-clause-spare g c =
    subst (λ v. HasSpareCounters v.node) c.self.view_is
    (spare_of g.D.Disk.follows g.D.Disk.seen (on_journal c.self.inside.journal c.self.inside.objects.node) c.self.invariant)

pub returns-clause-fits : goal.returns-clause-fits
returns-clause-fits g c = subst (λ v. NodeFits v.node) c.self.view_is c.self.invariant.fits

use Rattle.ba_node.proofs.Enacted.{fits_again}
use Rattle.ba_node.specs.inside.Enacting.{told_event}
use Rattle.ba_node.proofs.enacting.enact.Goals as goal

pub apply-requires-clause-fits : goal.apply-requires-clause-fits
apply-requires-clause-fits c fits =
    fits_again c.args.node.now.node c.proposal_of_event.new.node.node (told_event c.in-Some.event) c.in_ok-written.field-0
    c.proposal_of_event.ensures.node c.requires c.in_ok-written.ensures.step fits

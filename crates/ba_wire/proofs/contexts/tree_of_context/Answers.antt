use Rattle.std.proofs.Common.{codes}
use Rattle.ba_wire.proofs.WrittenContexts.{ok_reads_back}
use Rattle.ba_wire.proofs.contexts.tree_of_context.Goals as goal

pub returns-clause-reads_back : goal.returns-clause-reads_back
returns-clause-reads_back c =
    ok_reads_back (codes "CoordinationContext") c.args.context.now c.requires c.context_element.result c.context_element.ensures

use Rattle.ba_world.proofs.CalledLemmas.{context_named}
use Rattle.ba_world.proofs.stages.Stage.handed.Goals as goal

pub returns-clause-context : goal.returns-clause-context
returns-clause-context c = λ p stage.
    context_named p c.args.scope c.in_ok-kind.kind c.in_ok-context.field-0 (c.in_ok-kind.ensures p stage)
    (λ s same. c.in_ok-context.ensures.handed p stage s same)

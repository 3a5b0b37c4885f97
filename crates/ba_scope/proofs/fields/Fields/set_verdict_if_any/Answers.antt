use Rattle.ba_scope.proofs.Lists.{told_nothing}
use Rattle.ba_scope.proofs.fields.Fields.set_verdict_if_any.Goals as goal

pub returns-in-None : goal.returns-in-None
returns-in-None c = rw c.in-None.is (told_nothing c.args.self.now)

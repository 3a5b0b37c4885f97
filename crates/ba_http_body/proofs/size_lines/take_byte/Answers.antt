use Rattle.std.proofs.Common.{[], ◌∷◌, ◌++◌, sym, subst}
use Rattle.ba_http_body.specs.declared.size_lines.Step.TheVariants.{End}
use Rattle.ba_http_body.specs.inside.Places.{HasRead, Steps}
use Rattle.ba_http_body.proofs.LineSteps.{ends}
use Rattle.ba_http_body.proofs.Walks.{dead_return}
use Rattle.ba_http_body.proofs.size_lines.take_byte.Goals as goal

pub returns-then-byte-eq10 : goal.returns-then-byte-eq10
returns-then-byte-eq10 c =
    λ bytes h. subst (λ b. Steps End (bytes ++ b ∷ [])) (sym c.if-byte-eq10.true)
    (ends bytes (subst (λ p. HasRead p bytes) c.in-Return.is h))

pub returns-else-byte-eq10 : goal.returns-else-byte-eq10
returns-else-byte-eq10 c = λ bytes h. dead_return bytes c.args.byte (subst (λ p. HasRead p bytes) c.in-Return.is h) c.if-byte-eq10.false

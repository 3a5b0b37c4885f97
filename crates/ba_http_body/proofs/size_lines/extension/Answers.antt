use Rattle.std.proofs.Common.{[], ◌∷◌, ◌++◌, sym, subst}
use Rattle.ba_http_body.specs.declared.size_lines.Place.TheVariants.{Return}
use Rattle.ba_http_body.specs.declared.size_lines.Step.TheVariants.{More, Bad}
use Rattle.ba_http_body.specs.inside.Places.{Steps}
use Rattle.ba_http_body.proofs.LineSteps.{next_text, text_return}
use Rattle.ba_http_body.proofs.Walks.{dead_text, text_is}
use Rattle.ba_http_body.proofs.size_lines.extension.Goals as goal

pub returns-then-byte-eq13 : goal.returns-then-byte-eq13
returns-then-byte-eq13 c = λ bytes h. subst (λ b. Steps (More Return) (bytes ++ b ∷ [])) (sym c.if-byte-eq13.true) (text_return bytes h)

pub returns-then-byte-eq10 : goal.returns-then-byte-eq10
returns-then-byte-eq10 c = λ bytes h. subst (λ b. Steps Bad (bytes ++ b ∷ [])) (sym c.if-byte-eq10.true) (dead_text bytes h)

pub returns : goal.returns
returns c = λ bytes h. next_text c.args.byte bytes h (text_is c.args.byte c.if-byte-eq13.false c.if-byte-eq10.false)

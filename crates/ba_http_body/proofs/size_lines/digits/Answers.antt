use Rattle.std.proofs.Common.{[], ◌∷◌, ◌++◌, sym, ◌∙◌, subst}
use Rattle.ba_http_body.specs.declared.size_lines.Place.TheVariants.{Extension, Return}
use Rattle.ba_http_body.specs.declared.size_lines.Step.TheVariants.{More}
use Rattle.ba_http_body.specs.inside.Places.{Steps}
use Rattle.ba_http_body.proofs.LineSteps.{first_blank, first_text, digits_return}
use Rattle.ba_http_body.proofs.Walks.{dead_digits}
use Rattle.ba_http_body.proofs.size_lines.digits.Goals as goal

pub returns-then-is_blank : goal.returns-then-is_blank
returns-then-is_blank c = λ bytes h. first_blank c.args.byte bytes h (sym c.is_blank.ensures ∙ c.if-is_blank.true)

pub returns-then-byte-eq59 : goal.returns-then-byte-eq59
returns-then-byte-eq59 c = λ bytes h. subst (λ b. Steps (More Extension) (bytes ++ b ∷ [])) (sym c.if-byte-eq59.true) (first_text bytes h)

pub returns-then-byte-eq13 : goal.returns-then-byte-eq13
returns-then-byte-eq13 c = λ bytes h. subst (λ b. Steps (More Return) (bytes ++ b ∷ [])) (sym c.if-byte-eq13.true) (digits_return bytes h)

pub returns : goal.returns
returns c = λ bytes h. dead_digits bytes c.args.byte h (sym c.is_ascii_hexdigit.ensures.value ∙ c.if-is_ascii_hexdigit.false)
    (sym c.is_blank.ensures ∙ c.if-is_blank.false) c.if-byte-eq59.false c.if-byte-eq13.false

use Rattle.std.proofs.Common.{[], ◌∷◌, ◌++◌, sym, subst}
use Rattle.ba_http_body.specs.inside.Places.{HasRead}
use Rattle.ba_http_chunks.specs.inside.Progress.{SaysSoFar}
use Rattle.ba_http_chunks.proofs.Leading.{first_digit_says, digit_more, blank_stays, extension_stays, return_stays}
use Rattle.ba_http_chunks.proofs.chunks.size_after.Goals as goal

pub returns-in-First : goal.returns-in-First
returns-in-First c = λ line h says. subst (SaysSoFar (line ++ c.args.byte ∷ [])) (sym c.with_digit.ensures)
    (first_digit_says line c.args.byte c.args.size (subst (λ p. HasRead p line) c.in-First.is h) says)

pub returns-in-Digits : goal.returns-in-Digits
returns-in-Digits c = λ line h says. subst (SaysSoFar (line ++ c.args.byte ∷ [])) (sym c.with_digit-in-Digits.ensures)
    (digit_more line c.args.byte c.args.size (subst (λ p. HasRead p line) c.in-Digits.is h).1 says)

pub returns-in-Blank : goal.returns-in-Blank
returns-in-Blank c = λ line h says. blank_stays line c.args.byte c.args.size (subst (λ p. HasRead p line) c.in-Blank.is h) says

pub returns-in-Extension : goal.returns-in-Extension
returns-in-Extension c = λ line h says.
    extension_stays line c.args.byte c.args.size (subst (λ p. HasRead p line) c.in-Extension.is h) says

pub returns-in-Return : goal.returns-in-Return
returns-in-Return c = λ line h says. return_stays line c.args.byte c.args.size (subst (λ p. HasRead p line) c.in-Return.is h) says

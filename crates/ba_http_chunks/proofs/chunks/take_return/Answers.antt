use Rattle.std.proofs.Common.{refl, sym, subst, Ok}
use Rattle.ba_http_chunks.specs.inside.Progress.{Turns}
use Rattle.ba_http_chunks.proofs.Standing.{return_taken, no_return}
use Rattle.ba_http_chunks.proofs.chunks.take_return.Goals as goal

pub returns-then-byte-eq13 : goal.returns-then-byte-eq13
returns-then-byte-eq13 c =
    subst (λ v. Turns c.args.chunks c.args.byte (Ok v)) (sym c.next_of.ensures)
    (refl, λ fed body s. return_taken c.args.chunks 0 c.requires.here fed body s refl c.args.byte c.if-byte-eq13.true)

pub returns : goal.returns
returns c = λ fed body s. no_return c.args.chunks 0 c.requires.here fed body s refl c.args.byte c.if-byte-eq13.false

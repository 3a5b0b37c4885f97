use Rattle.std.proofs.Common.{refl, sym, subst, Ok}
use Rattle.ba_http_chunks.specs.inside.Progress.{Turns, next_of}
use Rattle.ba_http_chunks.proofs.Standing.{feed_taken, no_feed}
use Rattle.ba_http_chunks.proofs.chunks.take_feed.Goals as goal

pub returns-then-byte-eq10 : goal.returns-then-byte-eq10
returns-then-byte-eq10 c =
    let a = c.args in
    subst (λ v. Turns a.chunks a.byte (Ok v)) (sym c.next_of.ensures)
    (subst (λ v. Turns a.chunks a.byte (Ok (next_of a.chunks v a.chunks.got))) (sym c.first_line.ensures)
    (refl, λ fed body s. feed_taken a.chunks c.requires.here fed body s a.byte c.if-byte-eq10.true))

pub returns : goal.returns
returns c = λ fed body s. no_feed c.args.chunks c.requires.here fed body s c.args.byte c.if-byte-eq10.false

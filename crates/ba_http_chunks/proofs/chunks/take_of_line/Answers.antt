use Rattle.std.proofs.Common.{refl, sym, subst, Ok}
use Rattle.ba_http_chunks.specs.inside.Progress.{Turns}
use Rattle.ba_http_chunks.proofs.Standing.{long_line, wrong_in_line, line_on, line_ended}
use Rattle.ba_http_chunks.proofs.chunks.take_of_line.Goals as goal

pub returns-then-line-ge-MOST_SIZE_LINE : goal.returns-then-line-ge-MOST_SIZE_LINE
returns-then-line-ge-MOST_SIZE_LINE c =
    λ fed body s. long_line c.args.chunks c.args.line c.requires.here fed body s c.args.byte c.if-line-ge-MOST_SIZE_LINE.true

pub returns-in-More : goal.returns-in-More
returns-in-More c =
    let a = c.args in
    subst (λ v. Turns a.chunks a.byte (Ok v)) (sym c.next_of.ensures) (
      refl,
      λ fed body s. line_on a.chunks a.line c.requires.here fed body s a.byte c.if-line-ge-MOST_SIZE_LINE.false
          c.in-More.place c.size_after-size.result c.in-More.ensures c.size_after-size.ensures,
    )

pub returns-in-End : goal.returns-in-End
returns-in-End c =
    let a = c.args in
    line_ended a.chunks a.line a.byte c.size_after-size.result c.sized.result c.requires.here c.if-line-ge-MOST_SIZE_LINE.false
    c.in-End.ensures c.size_after-size.ensures c.sized.ensures

pub returns-in-Bad : goal.returns-in-Bad
returns-in-Bad c =
    let a = c.args in
    λ fed body s. wrong_in_line a.chunks a.line c.requires.here fed body s a.byte c.if-line-ge-MOST_SIZE_LINE.false c.in-Bad.ensures

-- The first so far and what the rows that are left tell is what all of them tell.
use Rattle.std.proofs.Common.{◌≡◌, drop, map}
use Rattle.ba_soap_shapes.specs.Shapes.{line_of, misfit_with_rows, rows_misfit}
use Rattle.ba_soap_shapes.proofs.shapes.rows_misfit.Given as goal

abbrev pub invariant-loop-row : goal.invariant-loop-row
invariant-loop-row g l = misfit_with_rows g.F.Form.look l.least (map line_of (drop l.row-index l.rows)) l.number l.tree
    ≡ rows_misfit g.F.Form.look (map line_of l.rows) l.number l.tree

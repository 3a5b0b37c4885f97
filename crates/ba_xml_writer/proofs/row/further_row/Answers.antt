use Rattle.std.proofs.Common.{◌∙◌, []}
use Rattle.ba_xml_writer.proofs.Collecting.{begun, still_over}
use Rattle.ba_xml_writer.proofs.row.further_row.Goals as goal

pub returns-in-Err-clause-many : goal.returns-in-Err-clause-many
returns-in-Err-clause-many c = still_over _ _ (begun c.new-row.result.items c.args.tree.now c.new-row.ensures) (c.in-Err.ensures.many [])

pub returns-clause-row : goal.returns-clause-row
returns-clause-row c = c.in_default.ensures.held [] ∙ begun c.new-row.result.items c.args.tree.now c.new-row.ensures

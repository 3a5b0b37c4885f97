use Rattle.std.proofs.Common.{◌∙◌, []}
use Rattle.ba_xml_writer.proofs.Collecting.{begun}
use Rattle.ba_xml_writer.proofs.spaces.further_spaces.Goals as goal

pub returns : goal.returns
returns c = c.in_ok-add_tree.ensures [] ∙ begun c.new-spaces.result.keys c.args.tree.now c.new-spaces.ensures.empty

use Rattle.std.proofs.Common.{◌-◌, rules}
use Rattle.std.proofs.lemmas.List.{with_items_is}
use Rattle.ba_script.proofs.Blocks.{block_after}
use Rattle.ba_script.proofs.lines.Lines.fill.Goals as goal

pub returns-clause-kept : goal.returns-clause-kept
returns-clause-kept g c =
    block_after (g.S.Source.left c.args.source.now) (g.S.Source.left c.read_block.new.source) c.args.self.now c.read_block.new.room _
    (c.self.inside.end - c.self.inside.at) c.in_ok-count.count (search rules) (search rules)
    (with_items_is c.self.inside.room c.read_block.new.room (search rules))

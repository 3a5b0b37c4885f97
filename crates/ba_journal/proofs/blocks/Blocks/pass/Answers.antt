use Rattle.ba_journal.proofs.Windows.{part_passed}
use Rattle.ba_journal.proofs.blocks.Blocks.pass.Goals as goal

pub returns-clause-bytes : goal.returns-clause-bytes
returns-clause-bytes c =
    let inside = c.self.inside in
    let view = c.self.view_is in
    rw (← view) (part_passed inside.room.items inside.at inside.end c.args.count (rw (← view) at c.requires))

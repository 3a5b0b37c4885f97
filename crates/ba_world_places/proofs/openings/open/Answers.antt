use Rattle.ba_world_places.proofs.OpeningLemmas.{open_by}
use Rattle.ba_world_places.proofs.openings.open.Goals as goal

pub returns : goal.returns
returns c =
    open_by c.args.number c.args.held c.in_ok-disk.disk c.restarted.result c.in_ok-disk.known c.in_ok-disk.ensures.disk
    c.restarted.ensures c.in_ok-disk.ensures.scopes c.load.result c.load.ensures

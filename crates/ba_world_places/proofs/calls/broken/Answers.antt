use Rattle.std.proofs.Common.{◌≡◌, true, is_some, rules}
use Rattle.ba_world_places.proofs.CallCases.{broken_down}
use Rattle.ba_world_places.proofs.calls.broken.Goals as goal

pub returns : goal.returns
returns c =
    let stopped : is_some c.args.node.disk.medium.stopped ≡ true = search rules in
    broken_down c.args.node c.rested.result c.into_disk.result c.in_ok-known.known stopped c.into_disk.ensures c.rested.ensures
    c.in_ok-known.ensures

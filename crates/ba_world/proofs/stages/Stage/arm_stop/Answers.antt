use Rattle.std.proofs.Common.{◌≡◌, Err, rules}
use Rattle.ba_world_play.specs.Nodes.{armed_with}
use Rattle.ba_ports.specs.Disk.{stop}
use Rattle.ba_world.proofs.EventLemmas.{changed_plays, exit_there}
use Rattle.ba_world.proofs.PlaceLemmas.{can_be_put}
use Rattle.ba_world.proofs.stages.Stage.arm_stop.Goals as goal

pub returns-in_err-held : goal.returns-in_err-held
returns-in_err-held c = λ p stage.
    let is : c.from_residual.result ≡ Err c.in_err-held.field-0.0 = search rules in
    exit_there _ _ p stage.set _ _ _ _ is c.in_err-held.ensures.missing

pub put-requires : goal.put-requires
put-requires c = can_be_put _ _ _ _ c.in_ok-held.ensures.taken

pub returns : goal.returns
returns c =
    changed_plays _ _ _ _ _ _ c.in_ok-held.ensures.taken c.put.ensures
    (armed_with (stop c.args.call c.args.image)) c.arm_stop.ensures

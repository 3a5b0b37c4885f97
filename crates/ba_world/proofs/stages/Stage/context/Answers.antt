use Rattle.std.proofs.Common.{◌≡◌}
use Rattle.ba_core.specs.Numbers.{node_of}
use Rattle.ba_world_play.specs.Plays.{node_base}
use Rattle.ba_world.proofs.MessageLemmas.{own_registration_fits}
use Rattle.ba_world.proofs.stages.Stage.context.Goals as goal

pub returns-clause-fits : goal.returns-clause-fits
returns-clause-fits c =
    let here : c.as_slice.result.now ≡ node_base (node_of c.args.scope.0) = cc (c.as_slice.ensures, c.in_ok-base.ensures, c.node.ensures) in
    own_registration_fits c.args.scope c.as_slice.result.now c.in_ok-registration_of.field-0 here c.in_ok-registration_of.ensures

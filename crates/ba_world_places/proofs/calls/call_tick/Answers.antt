use Rattle.std.proofs.Common.{◌≡◌, false, Option, refl, sym, ◌∙◌, ap, subst}
use Rattle.ba_world_places.proofs.CallCases.{down_leads, taken_leads, untaken_leads}
use Rattle.ba_world_places.specs.Places.{Matches}
use Rattle.ba_world_places.specs.declared.places.Place.TheVariants as place
use Rattle.ba_message.specs.declared.messages.Letter.{Letter}
use Rattle.ba_world_runs.specs.World.{ticks}
use Rattle.ba_node_steps.specs.Lawful.{Change, change, ticked}
use Rattle.ba_node_steps.specs.Node.{NodeState}
use Rattle.ba_node_steps.specs.Ticks.{tick_step}
use Rattle.ba_node_steps.specs.declared.answers.Ticked.{Ticked}
use Rattle.ba_world_places.proofs.calls.call_tick.Goals as goal

pub returns-in-Down : goal.returns-in-Down
returns-in-Down c = λ n disk matches.
    let IsOfStep : Option Letter → Type 0 = λ x. x ≡ (tick_step n.state c.args.now c.args.id).letter in
    down_leads IsOfStep n disk (ticks c.args.now c.args.id) c.in-Down.disk c.in-Down.known c.rested.result
    (subst (Matches n disk) c.in-Down.is matches) c.rested.ensures

pub returns-in-Ok : goal.returns-in-Ok
returns-in-Ok c = λ n disk matches.
    let IsOfStep : Option Letter → Type 0 = λ x. x ≡ (tick_step n.state c.args.now c.args.id).letter in
    let node = c.in-Up.node in
    let node1 = c.tick-answer.new.self in
    let up : Matches n disk (place.Up node) = subst (Matches n disk) c.in-Up.is matches in
    let state : node.node ≡ n.state = up.place.state in
    let due : Change = change node.node (ticked c.args.now c.args.id) in
    let fed : node1.disk.starved ≡ false = sym c.starved.ensures ∙ c.if-starved.false in
    taken_leads IsOfStep c.in-Ok.ticked c.in-Ok.ticked.letter n disk (ticks c.args.now c.args.id) node node1 due c.ready.result up
    (ap (λ (s : NodeState). (tick_step s c.args.now c.args.id).written) (sym state))
    (ap (λ (s : NodeState). (tick_step s c.args.now c.args.id).after) (sym state))
    c.in-Ok.ensures.answered (c.in-Ok.ensures.durable refl) c.in-Ok.ensures.calls fed c.ready.ensures.spare c.ready.ensures.place
    (c.in-Ok.ensures.letter.letter ∙ ap (λ (s : NodeState). (tick_step s c.args.now c.args.id).letter) state)

pub returns-in_ok-place-in-Err : goal.returns-in_ok-place-in-Err
returns-in_ok-place-in-Err c = λ n disk matches.
    let IsOfStep : Option Letter → Type 0 = λ x. x ≡ (tick_step n.state c.args.now c.args.id).letter in
    let node = c.in-Up.node in
    let node1 = c.tick-answer.new.self in
    let up : Matches n disk (place.Up node) = subst (Matches n disk) c.in-Up.is matches in
    let state : node.node ≡ n.state = up.place.state in
    let due : Change = change node.node (ticked c.args.now c.args.id) in
    let fed : node1.disk.starved ≡ false = sym c.starved.ensures ∙ c.if-starved.false in
    untaken_leads n disk (ticks c.args.now c.args.id) node node1 up Ticked IsOfStep due c.in-Err.fault
    c.in_ok-place-in-Err.place c.in_ok-place-in-Err.shown
    (ap (λ (s : NodeState). (tick_step s c.args.now c.args.id).written) (sym state))
    c.in-Err.ensures.answered (c.in-Err.ensures.any_moment refl) c.in-Err.ensures.calls fed c.in_ok-place-in-Err.ensures

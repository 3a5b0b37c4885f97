use Rattle.std.proofs.Common.{◌≡◌, false, refl, sym, ◌∙◌, ap, subst}
use Rattle.ba_world_places.proofs.CallCases.{down_leads, taken_leads, untaken_leads, input_after, input_writes}
use Rattle.ba_world_places.specs.Places.{Matches}
use Rattle.ba_world_places.specs.declared.places.Place.TheVariants as place
use Rattle.ba_node_steps.specs.Lawful.{Change, change, given}
use Rattle.ba_node_steps.specs.Node.{NodeState}
use Rattle.ba_node_steps.specs.Steps.{node_step}
use Rattle.ba_node_steps.specs.declared.answers.Done.{Done}
use Rattle.ba_node_steps.specs.declared.answers.Reply.{Reply}
use Rattle.ba_world_places.proofs.calls.call_input.Goals as goal

pub returns-in-Down : goal.returns-in-Down
returns-in-Down c = λ n disk o of matches.
    let IsOfStep : Reply → Type 0 = λ x. x ≡ (node_step n.state c.args.now c.args.input).reply in
    down_leads IsOfStep n disk o c.in-Down.disk c.in-Down.known c.rested.result
    (subst (Matches n disk) c.in-Down.is matches) c.rested.ensures

pub returns-in-Ok : goal.returns-in-Ok
returns-in-Ok c = λ n disk o of matches.
    let IsOfStep : Reply → Type 0 = λ x. x ≡ (node_step n.state c.args.now c.args.input).reply in
    let node = c.in-Up.node in
    let node1 = c.handle-answer.new.self in
    let up : Matches n disk (place.Up node) = subst (Matches n disk) c.in-Up.is matches in
    let state : node.node ≡ n.state = up.place.state in
    let due : Change = change node.node (given c.args.now c.args.input) in
    let fed : node1.disk.starved ≡ false = sym c.starved.ensures ∙ c.if-starved.false in
    taken_leads IsOfStep c.in-Ok.done c.in-Ok.done.reply n disk o node node1 due c.ready.result up
    (input_writes n.state c.args.now c.args.input o of ∙ ap (λ (s : NodeState). (node_step s c.args.now c.args.input).written) (sym state))
    (input_after n.state c.args.now c.args.input o of ∙ ap (λ (s : NodeState). (node_step s c.args.now c.args.input).after) (sym state))
    c.in-Ok.ensures.answered (c.in-Ok.ensures.durable refl) c.in-Ok.ensures.calls fed c.ready.ensures.spare c.ready.ensures.place
    (c.in-Ok.ensures.reply.reply ∙ ap (λ (s : NodeState). (node_step s c.args.now c.args.input).reply) state)

pub returns-in_ok-place-in-Err : goal.returns-in_ok-place-in-Err
returns-in_ok-place-in-Err c = λ n disk o of matches.
    let IsOfStep : Reply → Type 0 = λ x. x ≡ (node_step n.state c.args.now c.args.input).reply in
    let node = c.in-Up.node in
    let node1 = c.handle-answer.new.self in
    let up : Matches n disk (place.Up node) = subst (Matches n disk) c.in-Up.is matches in
    let state : node.node ≡ n.state = up.place.state in
    let due : Change = change node.node (given c.args.now c.args.input) in
    let fed : node1.disk.starved ≡ false = sym c.starved.ensures ∙ c.if-starved.false in
    untaken_leads n disk o node node1 up Done IsOfStep due c.in-Err.fault
    c.in_ok-place-in-Err.place c.in_ok-place-in-Err.shown
    (input_writes n.state c.args.now c.args.input o of ∙ ap (λ (s : NodeState). (node_step s c.args.now c.args.input).written) (sym state))
    c.in-Err.ensures.answered (c.in-Err.ensures.any_moment refl) c.in-Err.ensures.calls fed c.in_ok-place-in-Err.ensures

-- Each event of a play leaves how many nodes there are: for `play_world`, which shows them all at its end.
use Rattle.std.proofs.Common.{◌≡◌, ℕ, Bool, true, false, List, [], ◌∷◌, Option, None, Some, Ok, Err, IfOk, refl, ◌∙◌, if◌then◌else◌}
use Rattle.ba_core.specs.Numbers.{node_of}
use Rattle.ba_core.specs.declared.identifiers.Id.{Id}
use Rattle.ba_core.specs.declared.protocols.Kind.{Kind}
use Rattle.ba_core.specs.declared.protocols.Protocol.{Protocol}
use Rattle.ba_core.specs.declared.protocols.Protocol.TheVariants.{Pc}
use Rattle.ba_world_events.specs.Events.{NumberedEvent}
use Rattle.ba_world_events.specs.declared.events.Event.{Event}
use Rattle.ba_world_events.specs.declared.events.Event.TheVariants as event
use Rattle.ba_world_events.specs.declared.outcomes.Outcome.{Outcome}
use Rattle.ba_world_events.specs.declared.outcomes.Outcome.TheVariants as outcome
use Rattle.ba_world_play.specs.Arrivals.{arrival}
use Rattle.ba_world_play.specs.Nodes.{NodeCall, NodeOnDisk, lost_call, node_call, open_call}
use Rattle.ba_world_play.specs.Outcomes.{occasion_outcome}
use Rattle.ba_world_play.specs.Plays.{EventEffect, WorldEffect, WorldOnDisks, context_handed, create_at, deliver, delivery_by_input}
use Rattle.ba_world_play.specs.Plays.{effect_by_shown, effect_of_call, effect_with, has_node, join_at, mail_at, moment, next_number}
use Rattle.ba_world_play.specs.Plays.{occasion_effect, open_effect, own_at, play_step, scope_named, starting_play}
use Rattle.ba_world_play.specs.Shows.{Story, story, story_by, story_from}
use Rattle.ba_world_play.specs.declared.missing.Missing.TheVariants as missing
use Rattle.ba_world_runs.specs.World.{Mail, Occasion, World, WorldNode, delivers, net_of, own, ticks}
use Rattle.ba_world_runs.specs.WorldSteps.{effect}
use Rattle.ba_scope.specs.Scope.{ScopeState}
use Rattle.ba_node_steps.specs.Steps.{if_found}
use Rattle.ba_node_steps.specs.declared.inputs.Input.{Input}
use Rattle.ba_node_steps.specs.declared.inputs.Input.TheVariants as input

abbrev Keeps : WorldOnDisks → WorldEffect → Type 0
Keeps p e = e.after.count ≡ p.count

shown_keeps : (p : WorldOnDisks) (k : ℕ) (sends : Option Mail) (taken : Outcome) (after : NodeOnDisk) (shown : Option Outcome)
    → Keeps p (effect_by_shown p k sends taken after shown)
shown_keeps p k sends taken after None = refl
shown_keeps p k sends taken after (Some o) = refl

call_keeps : (p : WorldOnDisks) (k : ℕ) (call : NodeCall) → Keeps p (effect_of_call p k call)
call_keeps p k call = shown_keeps p k None outcome.Done call.after call.shown

occasion_keeps : (p : WorldOnDisks) (k : ℕ) (o : Occasion) → Keeps p (occasion_effect p k o)
occasion_keeps p k o =
    let n : WorldNode = p.world.nodes k in
    let call : NodeCall = node_call n (p.disks k) o in
    let sends : Option Mail = (effect n.state o).sends in
    shown_keeps p k sends (occasion_outcome (next_number p) n.state o sends) call.after call.shown

test_keeps : (p : WorldOnDisks) (b : Bool) (e : WorldEffect) → Keeps p e
    → IfOk (let led : EventEffect = if b then Ok e else Err missing.Name in led) (Keeps p)
test_keeps p true e keeps = keeps
test_keeps p false e keeps = tt

own_keeps : (p : WorldOnDisks) (k : ℕ) (i : Input) → IfOk (own_at p k i) (Keeps p)
own_keeps p k i = test_keeps p (has_node p k) (occasion_effect p k (own (moment p) i)) (occasion_keeps p k (own (moment p) i))

found_keeps : (p : WorldOnDisks) (found : Option ScopeState) (next : ScopeState → EventEffect)
    → ((s : ScopeState) → IfOk (next s) (Keeps p)) → IfOk (if_found found (let none : EventEffect = Err missing.Name in none) next) (Keeps
    p)
found_keeps p None next keeps = tt
found_keeps p (Some s) next keeps = keeps s

create_keeps : (p : WorldOnDisks) (k : ℕ) (kind : Kind) (expires : Option ℕ) (under : Option (Id × Protocol))
    → IfOk (create_at p k kind expires under) (Keeps p)
create_keeps p k kind expires None = own_keeps p k (input.Create expires None (Some kind) Pc)
create_keeps p k kind expires (Some under) =
    let next : ScopeState → EventEffect = λ s. own_at p k (input.Create expires (Some (context_handed p under.0 s)) (Some kind) under.1) in
    found_keeps p (scope_named p under.0) next
    (λ s. own_keeps p k (input.Create expires (Some (context_handed p under.0 s)) (Some kind) under.1))

join_keeps : (p : WorldOnDisks) (k : ℕ) (protocol : Protocol) (scope : Id) → IfOk (join_at p k protocol scope) (Keeps p)
join_keeps p k protocol scope =
    let next : ScopeState → EventEffect = λ s. own_at p k (input.Join protocol (context_handed p scope s).registration) in
    found_keeps p (scope_named p scope) next (λ s. own_keeps p k (input.Join protocol (context_handed p scope s).registration))

input_keeps : (p : WorldOnDisks) (m : Mail) (k : ℕ) (i : Option Input) → Keeps p (delivery_by_input p m k i)
input_keeps p m k None = call_keeps p k (lost_call (p.world.nodes k) (p.disks k) (p.world.nodes k).mode)
input_keeps p m k (Some i) = occasion_keeps p k (delivers (moment p) m i)

either_keeps : (p : WorldOnDisks) (b : Bool) (e f : WorldEffect) → Keeps p e → Keeps p f → Keeps p (if b then e else f)
either_keeps p true e f one two = one
either_keeps p false e f one two = two

deliver_keeps : (p : WorldOnDisks) (m : Option Mail) → IfOk (deliver p m) (Keeps p)
deliver_keeps p None = tt
deliver_keeps p (Some m) =
    let to = arrival (net_of p.world) m in
    either_keeps p (has_node p to.node) (delivery_by_input p m to.node to.input) (effect_with p outcome.Done)
    (input_keeps p m to.node to.input) refl

step_keeps : (p : WorldOnDisks) (e : Event) → IfOk (play_step p e) (Keeps p)
step_keeps p (event.Create node kind under expires) = create_keeps p node kind expires under
step_keeps p (event.Join node protocol scope) = join_keeps p node protocol scope
step_keeps p (event.Tick id) =
    let k : ℕ = node_of id.0 in
    test_keeps p (has_node p k) (occasion_effect p k (ticks (moment p) id)) (occasion_keeps p k (ticks (moment p) id))
step_keeps p (event.Deliver number) = deliver_keeps p (mail_at p.world.bag number)
step_keeps p (event.Act id a) = own_keeps p (node_of id.0) (input.Act id a)
step_keeps p (event.Ask id) = own_keeps p (node_of id.0) (input.Ask id)
step_keeps p (event.Decide id v) = own_keeps p (node_of id.0) (input.Decide id v)
step_keeps p (event.Choose id v) = own_keeps p (node_of id.0) (input.Choose id v)
step_keeps p (event.Complete id) = own_keeps p (node_of id.0) (input.Complete id)
step_keeps p (event.Finish id) = own_keeps p (node_of id.0) (input.Finish id)
step_keeps p (event.Leave id how) = own_keeps p (node_of id.0) (input.Leave id how)
step_keeps p (event.Wait time) = refl
step_keeps p (event.Crash node) = test_keeps p (has_node p node) _ refl
step_keeps p (event.CrashAt node call image) = test_keeps p (has_node p node) _ refl
step_keeps p (event.Fail node call) = test_keeps p (has_node p node) _ refl
step_keeps p (event.Open node) =
    test_keeps p (has_node p node) (open_effect p node) (call_keeps p node (open_call (p.world.nodes node) (p.disks node)))

count_by : (before : List World) (p : WorldOnDisks) (number : ℕ) (a : EventEffect) (rest : WorldOnDisks → Story)
    → IfOk a (Keeps p) → ((after : WorldOnDisks) → (rest after).last.count ≡ after.count)
    → (story_by before p number a rest).last.count ≡ p.count
count_by before p number (Err why) rest keeps later = refl
count_by before p number (Ok e) rest keeps later = later e.after ∙ keeps

count_from : (before : List World) (p : WorldOnDisks) (events : List NumberedEvent) → (story_from before p events).last.count ≡ p.count
count_from before p [] = refl
count_from before p (e ∷ more) =
    count_by before p e.0 (play_step p e.1) (λ after. story_from (p.world ∷ before) after more) (step_keeps p e.1)
    (λ after. count_from (p.world ∷ before) after more)

pub story_count : (count : ℕ) (events : List NumberedEvent) → (story count events).last.count ≡ count
story_count count events = count_from [] (starting_play count) events

-- Believe: the play of a world's events: what each event makes of the world and, beside it, of the disk of each node; and
-- what the event shows.
use Rattle.std.specs.Prelude.{ℕ, ◌+◌, ◌-◌, Bool, ◌&&◌, nat_eq, nat_le, if◌then◌else◌, List, [], ◌∷◌, ◌++◌, length, slice_get, Option, None}
use Rattle.std.specs.Prelude.{Some, Result, Ok, Err, codes}
use Rattle.std.specs.Fmt.{decimal}
use Rattle.std.specs.Option.{option_to_list}
use Rattle.ba_core.specs.Numbers.{node_of}
use Rattle.ba_core.specs.declared.identifiers.Id.{Id}
use Rattle.ba_core.specs.declared.protocols.Kind.{Kind}
use Rattle.ba_core.specs.declared.protocols.Protocol.{Protocol}
use Rattle.ba_core.specs.declared.protocols.Protocol.TheVariants.{Pc}
use Rattle.ba_world_events.specs.declared.events.Event.{Event}
use Rattle.ba_world_events.specs.declared.events.Event.TheVariants as event
use Rattle.ba_world_events.specs.declared.outcomes.Outcome.{Outcome}
use Rattle.ba_world_events.specs.declared.outcomes.Outcome.TheVariants as outcome
use Rattle.ba_journal.specs.Journals.{appending, behind_gate}
use Rattle.ba_journal.specs.Loads.{making}
use Rattle.ba_journal.specs.declared.loads.TheConstants.{FIRST_GATE}
use Rattle.ba_ports_memory.specs.DiskValue.{MediumValue, holding, run}
use Rattle.ba_message.specs.declared.messages.Context.{Context}
use Rattle.ba_world_play.specs.Arrivals.{Arrival, arrival}
use Rattle.ba_world_play.specs.Nodes.{NodeCall, NodeOnDisk, armed_with, crashed, lost_call, node_call, open_call}
use Rattle.ba_world_play.specs.Outcomes.{occasion_outcome}
use Rattle.ba_world_play.specs.declared.missing.Missing.{Missing}
use Rattle.ba_world_play.specs.declared.missing.Missing.TheVariants as missing
use Rattle.ba_ports.specs.Disk.{Armament, fail, stop}
use Rattle.ba_ports.specs.declared.requests.Request.TheVariants.{Sync}
use Rattle.ba_record.specs.Coding.{coding}
use Rattle.ba_record.specs.declared.records.Record.TheVariants as journal
use Rattle.ba_world_runs.specs.Runs.{node_at_start}
use Rattle.ba_world_runs.specs.World.{Mail, Occasion, World, WorldNode, delivers, net_of, own, ticks}
use Rattle.ba_world_runs.specs.WorldSteps.{effect}
use Rattle.ba_scope.specs.Scope.{ScopeState}
use Rattle.ba_node_steps.specs.Addresses.{context_identifier, registration_of}
use Rattle.ba_node_steps.specs.Node.{scope_with_id}
use Rattle.ba_node_steps.specs.Steps.{if_found}
use Rattle.ba_node_steps.specs.declared.inputs.Input.{Input}
use Rattle.ba_node_steps.specs.declared.inputs.Input.TheVariants as input
use Rattle.ba_tree.specs.Lengths.{in_u64}

-- A world whose nodes 1 to this count are played, and what the disk of each holds. Further nodes of the world have no
-- objects, and nothing happens at them.
pub record WorldOnDisks : Type 0 where
  pub count : ℕ
  pub world : World
  pub disks : ℕ → MediumValue

-- what an event leads to, and what it shows
pub record WorldEffect : Type 0 where
  pub after : WorldOnDisks
  pub outcome : Outcome

abbrev pub effect_with : WorldOnDisks → Outcome → WorldEffect
effect_with after o = record { after = after; outcome = o }

-- ---- what changes at one node

-- this at one number, and at each other what was there
abbrev pub with_at : {A : Type 0} → (ℕ → A) → ℕ → A → ℕ → A
with_at items k new j = if nat_eq j k then new else items j

abbrev pub with_node : WorldOnDisks → ℕ → NodeOnDisk → WorldOnDisks
with_node p k on_disk = record p {
  world = record p.world { nodes = with_at p.world.nodes k on_disk.node };
  disks = with_at p.disks k on_disk.disk;
}

-- messages join the bag
abbrev pub with_sent : WorldOnDisks → List Mail → WorldOnDisks
with_sent p sent = record p { world = record p.world { bag = p.world.bag ++ sent } }

-- what a call makes of the world. Where the step was taken, what it sends joins the bag.
abbrev pub effect_by_shown : WorldOnDisks → ℕ → Option Mail → Outcome → NodeOnDisk → Option Outcome → WorldEffect
effect_by_shown p k sends taken after None = effect_with (with_sent (with_node p k after) (option_to_list sends)) taken
effect_by_shown p k sends taken after (Some o) = effect_with (with_node p k after) o

-- a call that takes no step of the node
abbrev pub effect_of_call : WorldOnDisks → ℕ → NodeCall → WorldEffect
effect_of_call p k call = effect_by_shown p k None outcome.Done call.after call.shown

-- the number that the next message of the bag gets
abbrev pub next_number : WorldOnDisks → ℕ
next_number p = length p.world.bag + 1

-- an occasion at the node with this number
abbrev pub occasion_effect : WorldOnDisks → ℕ → Occasion → WorldEffect
occasion_effect p k o =
    let n : WorldNode = p.world.nodes k in
    let call : NodeCall = node_call n (p.disks k) o in
    let sends : Option Mail = (effect n.state o).sends in
    effect_by_shown p k sends (occasion_outcome (next_number p) n.state o sends) call.after call.shown

abbrev pub open_effect : WorldOnDisks → ℕ → WorldEffect
open_effect p k = effect_of_call p k (open_call (p.world.nodes k) (p.disks k))

abbrev pub lost_effect : WorldOnDisks → ℕ → WorldEffect
lost_effect p k = effect_of_call p k (lost_call (p.world.nodes k) (p.disks k) (p.world.nodes k).mode)

abbrev pub crash_effect : WorldOnDisks → ℕ → WorldEffect
crash_effect p k = effect_with (with_node p k (crashed (p.world.nodes k) (p.disks k))) outcome.Done

abbrev pub arming_effect : WorldOnDisks → ℕ → Armament → WorldEffect
arming_effect p k armament = effect_with (with_node p k (armed_with armament (p.world.nodes k) (p.disks k))) outcome.Done

abbrev pub wait_effect : WorldOnDisks → ℕ → WorldEffect
wait_effect p time = effect_with (record p { world = record p.world { clock = p.world.clock + time } }) outcome.Done

-- ---- a delivery

-- the clock as a node reads it
abbrev pub moment : WorldOnDisks → ℕ
moment p = in_u64 p.world.clock

abbrev pub delivery_by_input : WorldOnDisks → Mail → ℕ → Option Input → WorldEffect
delivery_by_input p m k None = lost_effect p k
delivery_by_input p m k (Some i) = occasion_effect p k (delivers (moment p) m i)

-- the world has a node with this number
abbrev pub has_node : WorldOnDisks → ℕ → Bool
has_node p k = nat_le 1 k && nat_le k p.count

abbrev pub delivery_effect : WorldOnDisks → Mail → Arrival → WorldEffect
delivery_effect p m to = if has_node p to.node then delivery_by_input p m to.node to.input else effect_with p outcome.Done

-- the message with this number, from 1
abbrev pub mail_at : List Mail → ℕ → Option Mail
mail_at bag number = if nat_eq number 0 then None else slice_get bag (number - 1)

-- ---- what an event names

-- an event's effect, or what it names that isn't there
abbrev pub EventEffect : Type 0
EventEffect = Result WorldEffect Missing

abbrev pub if_has_node : WorldOnDisks → ℕ → WorldEffect → EventEffect
if_has_node p k e = if has_node p k then Ok e else Err missing.Name

-- an input of the node's own
abbrev pub own_at : WorldOnDisks → ℕ → Input → EventEffect
own_at p k i = if_has_node p k (occasion_effect p k (own (moment p) i))

-- the scope with this identifier, among those of its node; a pending record has made none
abbrev pub scope_named : WorldOnDisks → Id → Option ScopeState
scope_named p id = if has_node p (node_of id.0) then scope_with_id (p.world.nodes (node_of id.0)).state id else None

abbrev pub with_scope_named : WorldOnDisks → Id → (ScopeState → EventEffect) → EventEffect
with_scope_named p id next = if_found (scope_named p id) (Err missing.Name) next

-- the context of a scope, as it is handed in for one that is interposed: its time isn't kept
abbrev pub context_handed : WorldOnDisks → Id → ScopeState → Context
context_handed p id s = record {
  identifier = context_identifier id;
  expires = None;
  kind = Some s.kind;
  registration = registration_of (p.world.nodes (node_of id.0)).state.base id;
}

abbrev pub create_at : WorldOnDisks → ℕ → Kind → Option ℕ → Option (Id × Protocol) → EventEffect
create_at p k kind expires None = own_at p k (input.Create expires None (Some kind) Pc)
create_at p k kind expires (Some under) =
    with_scope_named p under.0 (λ s. own_at p k (input.Create expires (Some (context_handed p under.0 s)) (Some kind) under.1))

abbrev pub join_at : WorldOnDisks → ℕ → Protocol → Id → EventEffect
join_at p k protocol scope =
    with_scope_named p scope (λ s. own_at p k (input.Join protocol (context_handed p scope s).registration))

abbrev pub deliver : WorldOnDisks → Option Mail → EventEffect
deliver p None = Err missing.Message
deliver p (Some m) = Ok (delivery_effect p m (arrival (net_of p.world) m))

-- ---- an event

abbrev pub play_step : WorldOnDisks → Event → EventEffect
play_step p (event.Create node kind under expires) = create_at p node kind expires under
play_step p (event.Join node protocol scope) = join_at p node protocol scope
play_step p (event.Tick id) = if_has_node p (node_of id.0) (occasion_effect p (node_of id.0) (ticks (moment p) id))
play_step p (event.Deliver number) = deliver p (mail_at p.world.bag number)
play_step p (event.Act id a) = own_at p (node_of id.0) (input.Act id a)
play_step p (event.Ask id) = own_at p (node_of id.0) (input.Ask id)
play_step p (event.Decide id v) = own_at p (node_of id.0) (input.Decide id v)
play_step p (event.Choose id v) = own_at p (node_of id.0) (input.Choose id v)
play_step p (event.Complete id) = own_at p (node_of id.0) (input.Complete id)
play_step p (event.Finish id) = own_at p (node_of id.0) (input.Finish id)
play_step p (event.Leave id how) = own_at p (node_of id.0) (input.Leave id how)
play_step p (event.Wait time) = Ok (wait_effect p time)
play_step p (event.Crash node) = if_has_node p node (crash_effect p node)
play_step p (event.CrashAt node call image) = if_has_node p node (arming_effect p node (stop call image))
play_step p (event.Fail node call) = if_has_node p node (arming_effect p node (fail call))
play_step p (event.Open node) = if_has_node p node (open_effect p node)

-- ---- the start

-- the base of a node's addresses
abbrev pub node_base : ℕ → List ℕ
node_base k = codes "http://node" ++ decimal k

-- an empty disk on which a node was loaded: its journal is made, and its own record is kept
abbrev pub disk_at_start : ℕ → MediumValue
disk_at_start k =
    let first : List ℕ = behind_gate (coding (journal.Node k (node_base k))) in
    (run (Sync ∷ (making ++ appending FIRST_GATE first)) (holding []).medium).1

abbrev pub world_at_start : World
world_at_start = record { clock = 0; bag = []; nodes = λ k. node_at_start k (node_base k) }

-- a world of so many nodes without objects
abbrev pub starting_play : ℕ → WorldOnDisks
starting_play count = record { count = count; world = world_at_start; disks = disk_at_start }

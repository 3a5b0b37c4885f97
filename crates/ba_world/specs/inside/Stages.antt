-- Inside: what an event makes of the places of a world, by the parts in which it is played.
use Rattle.std.specs.Prelude.{◌≡◌, ℕ, ◌+◌, ◌-◌, Bool, true, false, List, [], ◌∷◌, ◌++◌, length, nat_eq, slice_get, slice_set, Option, None}
use Rattle.std.specs.Prelude.{Some, Result, Ok, Err, if◌then◌else◌}
use Rattle.ba_world.specs.declared.mails.Mail.TheVariants as mail
use Rattle.ba_core.specs.Numbers.{node_of}
use Rattle.ba_core.specs.declared.identifiers.Id.{Id}
use Rattle.ba_core.specs.declared.protocols.Kind.{Kind}
use Rattle.ba_world_events.specs.declared.outcomes.Outcome.{Outcome}
use Rattle.ba_world_events.specs.declared.outcomes.Outcome.TheVariants as outcome
use Rattle.ba_message.specs.declared.messages.Context.{Context}
use Rattle.ba_message.specs.declared.messages.Letter.{Letter}
use Rattle.ba_message.specs.declared.messages.Message.{Message}
use Rattle.ba_world_places.specs.Calls.{IsCallAnswer}
use Rattle.ba_world_places.specs.Places.{Matches}
use Rattle.ba_world_places.specs.declared.calls.Answer.{Answer}
use Rattle.ba_world_places.specs.declared.places.Place.{Place}
use Rattle.ba_world_play.specs.Arrivals.{arrival}
use Rattle.ba_world_play.specs.Nodes.{NodeCall, node_call}
use Rattle.ba_world_play.specs.Outcomes.{label_of}
use Rattle.ba_world_play.specs.Plays.{EventEffect, WorldOnDisks, arming_effect, context_handed, crash_effect, disk_at_start, has_node}
use Rattle.ba_world_play.specs.Plays.{if_has_node, lost_effect, mail_at, moment, node_base, occasion_effect, open_effect, scope_named}
use Rattle.ba_world_play.specs.Plays.{wait_effect, with_node}
use Rattle.ba_world_play.specs.declared.missing.Missing.{Missing}
use Rattle.ba_world_play.specs.declared.missing.Missing.TheVariants as missing
use Rattle.ba_ports.specs.Disk.{Armament}
use Rattle.ba_world_runs.specs.Runs.{node_at_start}
use Rattle.ba_world_runs.specs.World as runs
use Rattle.ba_world_runs.specs.World.{Occasion, is_up, net_of, ticks}
use Rattle.ba_scope.specs.Scope.{ScopeState}
use Rattle.ba_node_steps.specs.Routing.{answer_of_reply}
use Rattle.ba_node_steps.specs.Steps.{node_step}
use Rattle.ba_node_steps.specs.Ticks.{tick_step}
use Rattle.ba_node_steps.specs.declared.answers.Reply.{Reply}
use Rattle.ba_node_steps.specs.declared.inputs.Input.{Input}
use Rattle.ba_world.specs.Worlds.{IsSetAs, IsStageOf, StageValue}
use Rattle.ba_world.specs.declared.faults.StepFault.{StepFault}
use Rattle.ba_world.specs.declared.faults.StepFault.TheVariants as fault
use Rattle.ba_world.specs.declared.messages.Delivery.{Delivery}
use Rattle.ba_world.specs.declared.outcomes.Makes.{Makes}
use Rattle.ba_world.specs.inside.Shown.{is_child, next_made, reply_shown}

-- it is that of some play
abbrev pub IsStaged : StageValue → Type 0
IsStaged v = (p : WorldOnDisks) × IsStageOf v p

-- the event's effect is due; or what it names isn't there, and nothing has changed; or there was no memory
abbrev pub StageIsPlayedAs : EventEffect → StageValue → StageValue → Result Outcome StepFault → Type 0
StageIsPlayedAs (Ok e) old new (Ok o) = (o ≡ e.outcome) × IsSetAs new e.after
StageIsPlayedAs (Err why) old new (Err (fault.Missing told)) = (told ≡ why) × (new ≡ old)
StageIsPlayedAs due old new (Err fault.Memory) = Unit {0}
StageIsPlayedAs due old new result = ⊥

-- there was no memory
abbrev pub is_starved : Result Outcome StepFault → Bool
is_starved (Err fault.Memory) = true
is_starved result = false

-- so it is in each play whose this is
abbrev pub StagePlays : (WorldOnDisks → EventEffect) → StageValue → StageValue → Result Outcome StepFault → Type 0
StagePlays due old new result = (p : WorldOnDisks) → IsStageOf old p → StageIsPlayedAs (due p) old new result

abbrev pub tick_at : Id → WorldOnDisks → EventEffect
tick_at id p = if_has_node p (node_of id.0) (occasion_effect p (node_of id.0) (ticks (moment p) id))

abbrev pub lost_at : ℕ → WorldOnDisks → EventEffect
lost_at k p = if_has_node p k (lost_effect p k)

abbrev pub wait_at : ℕ → WorldOnDisks → EventEffect
wait_at time p = Ok (wait_effect p time)

abbrev pub crash_at : ℕ → WorldOnDisks → EventEffect
crash_at k p = if_has_node p k (crash_effect p k)

abbrev pub arm_at : ℕ → Armament → WorldOnDisks → EventEffect
arm_at k armament p = if_has_node p k (arming_effect p k armament)

abbrev pub open_at : ℕ → WorldOnDisks → EventEffect
open_at k p = if_has_node p k (open_effect p k)

-- ---- places

-- where the node with this number is, from 1
abbrev pub place_at : StageValue → ℕ → Option Place
place_at v k = if nat_eq k 0 then None else slice_get v.places (k - 1)

abbrev pub with_place : StageValue → ℕ → Place → StageValue
with_place v k at = record v { places = slice_set v.places (k - 1) at }

-- the node with this number was taken out of its place
pub record IsTakenOut (old new : StageValue) (k : ℕ) (held : Place) : Type 0 where
  pub there : place_at old k ≡ Some held
  pub empty : Place
  pub left : new ≡ with_place old k empty

-- there is none with this number
pub record IsNotThere (old new : StageValue) (k : ℕ) (why : StepFault) : Type 0 where
  pub none : place_at old k ≡ None
  pub why_is : why ≡ fault.Missing missing.Name
  pub stays : new ≡ old

-- so it is; or there was no memory
abbrev pub IsNotCalled : StageValue → StageValue → ℕ → StepFault → Type 0
IsNotCalled old new k fault.Memory = Unit {0}
IsNotCalled old new k (fault.Missing why) = IsNotThere old new k (fault.Missing why)

-- ---- calls

-- a call of the node with this number led to this, and answered so
pub record IsCalled {T : Type 0} (IsOfStep : T → Type 0) (old new : StageValue) (p : WorldOnDisks) (k : ℕ) (call : NodeCall)
    (given : Answer T) : Type 0 where
  pub has : has_node p k ≡ true
  pub set : IsSetAs new (with_node p k call.after)
  pub bag : new.bag ≡ old.bag
  pub answer : IsCallAnswer IsOfStep call.shown given

-- the occasion came to this at the node with this number
abbrev pub node_call_at : WorldOnDisks → ℕ → Occasion → NodeCall
node_call_at p k o = node_call (p.world.nodes k) (p.disks k) o

-- the reply of a step of the node with this number to this input
abbrev pub IsReplyAt : WorldOnDisks → ℕ → Input → Reply → Type 0
IsReplyAt p k i r = r ≡ (node_step (p.world.nodes k).state (moment p) i).reply

-- the letter of a step of this object's tick
abbrev pub IsLetterAt : WorldOnDisks → Id → Option Letter → Type 0
IsLetterAt p id l = l ≡ (tick_step (p.world.nodes (node_of id.0)).state (moment p) id).letter

-- the scope that the node makes with this input, if it makes one
abbrev pub AreMade : WorldOnDisks → ℕ → Input → Makes → Type 0
AreMade p k i makes = (p.world.nodes k).mode ≡ is_up → makes ≡ next_made (p.world.nodes k).state (is_child i)

-- ---- names and messages

-- the kind of the scope that is named
abbrev pub IsKindNamed : Option ScopeState → Result Kind StepFault → Type 0
IsKindNamed None (Err why) = why ≡ fault.Missing missing.Name
IsKindNamed (Some s) (Ok kind) = kind ≡ s.kind
IsKindNamed named result = ⊥

-- the context of the scope that is named, as it is handed in; or there is none; or there was no memory
abbrev pub IsContextNamed : WorldOnDisks → Id → Result Context StepFault → Type 0
IsContextNamed p id (Ok context) = (s : ScopeState) × (scope_named p id ≡ Some s) × (context ≡ context_handed p id s)
IsContextNamed p id (Err (fault.Missing why)) = (why ≡ missing.Name) × (scope_named p id ≡ None)
IsContextNamed p id (Err fault.Memory) = Unit {0}

-- the number of a letter, which its answer names
abbrev pub number_answered : runs.Mail → Option Id
number_answered (runs.letter l) = Some l.number
number_answered (runs.answer number m) = None

-- the message with this number goes to this node, and leads to this input
pub record Arrives (p : WorldOnDisks) (number : ℕ) (to : Delivery) : Type 0 where
  pub sent : runs.Mail
  pub is : mail_at p.world.bag number ≡ Some sent
  pub node : to.node ≡ (arrival (net_of p.world) sent).node
  pub input : to.input ≡ (arrival (net_of p.world) sent).input
  pub answers : to.answers ≡ number_answered sent

-- or there is no message with this number; or there was no memory
abbrev pub IsArrival : WorldOnDisks → ℕ → Result Delivery StepFault → Type 0
IsArrival p number (Ok to) = Arrives p number to
IsArrival p number (Err (fault.Missing why)) = (why ≡ missing.Message) × (mail_at p.world.bag number ≡ None)
IsArrival p number (Err fault.Memory) = Unit {0}

abbrev pub IsReplySentBy : StageValue → StageValue → Option Id → Option Message → Outcome → Outcome → Type 0
IsReplySentBy old new (Some number) (Some m) else_shown shown =
    (shown ≡ outcome.Reply (length old.bag + 1) (label_of m)) × (new ≡ record old { bag = old.bag ++ mail.Answer number m ∷ [] })
IsReplySentBy old new answered m else_shown shown = (shown ≡ else_shown) × (new ≡ old)

-- a letter with this number was answered by this reply, or an answer needed none
abbrev pub IsReplySent : StageValue → StageValue → Option Id → Reply → Makes → Outcome → Type 0
IsReplySent old new answered r makes shown = IsReplySentBy old new answered (answer_of_reply r) (reply_shown r makes) shown

-- ---- the start

-- the places of so many nodes without objects
pub record ArePlacesAtStart (count : ℕ) (places : List Place) : Type 0 where
  pub count_is : length places ≡ count
  pub each : (k : ℕ) (at : Place) → slice_get places k ≡ Some at
      → Matches (node_at_start (k + 1) (node_base (k + 1))) (disk_at_start (k + 1)) at

-- Believe: the steps of a world. A message that is lost is one that is never delivered; one that is repeated is delivered
-- again.
use Rattle.std.specs.Prelude.{◌≡◌, ◌≢◌, ◌⊎◌, ℕ, ◌+◌, Bool, true, false, [], ◌++◌, Option, None, Some, IfSome, if◌then◌else◌}
use Rattle.std.specs.Option.{option_map, option_to_list}
use Rattle.ba_core.specs.declared.protocols.Side.TheVariants.{Coordinator, Participant}
use Rattle.ba_message.specs.declared.endpoints.Epr.{Epr}
use Rattle.ba_message.specs.declared.messages.Context.{Context}
use Rattle.ba_message.specs.declared.messages.Message.TheVariants as message
use Rattle.ba_record.specs.declared.records.Record.{Record}
use Rattle.ba_scope.specs.Scope.{ScopeState}
use Rattle.ba_node_steps.specs.Addresses.{coordinator_of, message_number, participant_of, register_code, registration_of}
use Rattle.ba_node_steps.specs.Fits.{HasSpareCounters}
use Rattle.ba_node_steps.specs.Lawful.{change, formatted}
use Rattle.ba_node_steps.specs.Node.{Among, IsHere, NodeState}
use Rattle.ba_node_steps.specs.Steps.{node_step}
use Rattle.ba_node_steps.specs.Ticks.{tick_step}
use Rattle.ba_node_steps.specs.declared.answers.Reply.{Reply}
use Rattle.ba_node_steps.specs.declared.answers.Reply.TheVariants as reply
use Rattle.ba_node_steps.specs.declared.inputs.Input.{Input}
use Rattle.ba_node_steps.specs.declared.inputs.Input.TheVariants as input
use Rattle.ba_world_runs.specs.World.{Mail, Mode, Net, Occasion, ScopeAt, World, answer, delivers, is_closed, is_down, is_up, letter, net_of, own}
use Rattle.ba_world_runs.specs.World.{formats, registration_at, node_at, ticks}

-- ---- what may happen at a node

-- The input to which a message leads at a node: a letter at the object to whose endpoint it was sent, an answer to a
-- Register at the participant that sent it. Other messages lead nowhere.
abbrev pub BringsInput : NodeState → Mail → Input → Type 0
BringsInput n (letter l) (input.Register scope protocol participant) =
    IsHere n scope × (l.to ≡ registration_of n.base scope) × (l.message ≡ message.Register protocol participant)
BringsInput n (letter l) (input.Notice Coordinator id m) = IsHere n id × (l.to ≡ coordinator_of n.base id) × (l.message ≡ message.Notice m)
BringsInput n (letter l) (input.Notice Participant id m) = IsHere n id × (l.to ≡ participant_of n.base id) × (l.message ≡ message.Notice m)
BringsInput n (answer number (message.Registered coordinator)) (input.Enrolled id told) =
    IsHere n id × (number ≡ message_number register_code id) × (coordinator ≡ told)
BringsInput n (answer number (message.Fault c)) (input.RefusedBy id told) =
    IsHere n id × (number ≡ message_number register_code id) × (c ≡ told)
BringsInput n mail i = ⊥

-- the registration of a scope in the world
abbrev pub IsRegistration : Net → Epr → Type 0
IsRegistration w registration = (k : ℕ) × (s : ScopeState) × ScopeAt w k s × (registration ≡ registration_at w k s.id)

-- the context of a scope in the world
abbrev pub IsContextOf : Net → Context → Type 0
IsContextOf w context =
    (k : ℕ) × (s : ScopeState) × ScopeAt w k s × (context.registration ≡ registration_at w k s.id) × (context.kind ≡ Some s.kind)

-- An input of a node's own. Register, Enrolled, RefusedBy and Notice come by delivery alone; the registrations that are
-- handed in are those of scopes in the world.
abbrev pub IsOwn : Net → Input → Type 0
IsOwn w (input.Create expires current kind protocol) = IfSome current (IsContextOf w)
IsOwn w (input.Join protocol registration) = IsRegistration w registration
IsOwn w (input.Act id a) = Unit {0}
IsOwn w (input.Ask id) = Unit {0}
IsOwn w (input.Decide id v) = Unit {0}
IsOwn w (input.Choose id v) = Unit {0}
IsOwn w (input.Complete id) = Unit {0}
IsOwn w (input.Finish id) = Unit {0}
IsOwn w (input.Leave id how) = Unit {0}
IsOwn w i = ⊥

abbrev pub IsPossible : Net → ℕ → Occasion → Type 0
IsPossible w k (own now i) = IsOwn w i
IsPossible w k (delivers now mail i) = Among w.bag mail × BringsInput (node_at w k) mail i
IsPossible w k (ticks now id) = Unit {0}
IsPossible w k formats = Unit {0}

-- ---- what comes of it

-- the node after it, the record that is written, and what is sent
pub record NodeEffect : Type 0 where
  pub after : NodeState
  pub written : Option Record
  pub sends : Option Mail

-- A letter that is delivered is answered by a RegisterResponse or a fault, or not at all. An answer isn't answered.
abbrev pub answer_to : Mail → Reply → Option Mail
answer_to (letter l) (reply.Enrolment coordinator) = Some (answer l.number (message.Registered coordinator))
answer_to (letter l) (reply.SoapFault c) = Some (answer l.number (message.Fault c))
answer_to mail r = None

abbrev pub effect : NodeState → Occasion → NodeEffect
effect n (own now i) = let step = node_step n now i in record { after = step.after; written = step.written; sends = None }
effect n (delivers now mail i) =
    let step = node_step n now i in
    record { after = step.after; written = step.written; sends = answer_to mail step.reply }
effect n (ticks now id) =
    let step = tick_step n now id in
    record { after = step.after; written = step.written; sends = option_map letter step.letter }
effect n formats = let set = change n formatted in record { after = set.after; written = set.written; sends = None }

-- ---- steps

-- A node takes its step from the state in which it is. What the step sends joins the bag, or is lost before it went out.
pub record Moves (w w2 : Net) (k : ℕ) (o : Occasion) (joined : Bool) : Type 0 where
  pub possible : IsPossible w k o
  pub room : HasSpareCounters (node_at w k)
  pub state : node_at w2 k ≡ (effect (node_at w k) o).after
  pub others : (j : ℕ) → j ≢ k → node_at w2 j ≡ node_at w j
  pub bag : w2.bag ≡ w.bag ++ (if joined then option_to_list (effect (node_at w k) o).sends else [])

-- the other nodes of a world stay, and so does its clock
pub record OnlyAt (w w2 : World) (k : ℕ) : Type 0 where
  pub others : (j : ℕ) → j ≢ k → w2.nodes j ≡ w.nodes j
  pub clock : w2.clock ≡ w.clock

-- a step is taken, its record is kept, and the node is up
pub record Takes (w w2 : World) (k : ℕ) (o : Occasion) (joined : Bool) : Type 0 where
  pub moves : Moves (net_of w) (net_of w2) k o joined
  pub only : OnlyAt w w2 k
  pub records : (w2.nodes k).records ≡ (w.nodes k).records ++ option_to_list (effect (w.nodes k).state o).written
  pub pending : (w2.nodes k).pending ≡ None
  pub mode : (w2.nodes k).mode ≡ is_up

-- nothing is sent, and nothing of a node changes but perhaps what of it is pending, and its mode
pub record Stays (w w2 : World) (k : ℕ) (pending : Option Occasion) (mode : Mode) : Type 0 where
  pub node : w2.nodes k ≡ record (w.nodes k) { pending = pending; mode = mode }
  pub only : OnlyAt w w2 k
  pub bag : w2.bag ≡ w.bag

-- the step of a record that is pending may still be taken: the record is that of this step
pub record MayStillBeTaken (w : World) (k : ℕ) (o : Occasion) : Type 0 where
  pub possible : IsPossible (net_of w) k o
  pub room : HasSpareCounters (w.nodes k).state
  pub written : Record
  pub writes : (effect (w.nodes k).state o).written ≡ Some written

pub data WorldStep (w w2 : World) : Type 0 where
  -- an input, a delivery or a tick at a node that is up
  happens : (k : ℕ) (o : Occasion) → (w.nodes k).mode ≡ is_up → Takes w w2 k o true → WorldStep w w2
  -- the same where the disk fails, or the machine stops, while the record is written: the record is pending
  fails : (k : ℕ) (o : Occasion) (mode : Mode) → (w.nodes k).mode ≡ is_up → (mode ≡ is_closed) ⊎ (mode ≡ is_down)
      → MayStillBeTaken w k o → Stays w w2 k (Some o) mode → WorldStep w w2
  -- a full journal, a call at a node that isn't up, a message that leads nowhere
  nothing : w2 ≡ w → WorldStep w w2
  -- the machine stops
  crashes : (k : ℕ) → Stays w w2 k (w.nodes k).pending is_down → WorldStep w w2
  -- the node is loaded again: its pending record wasn't kept, or was, and then its step is taken now and silently
  opens_without : (k : ℕ) → Stays w w2 k None is_up → WorldStep w w2
  opens_with : (k : ℕ) (o : Occasion) → (w.nodes k).pending ≡ Some o → Takes w w2 k o false → WorldStep w w2
  fails_to_open : (k : ℕ) → Stays w w2 k (w.nodes k).pending is_down → WorldStep w w2
  waits : (ms : ℕ) → w2 ≡ record w { clock = w.clock + ms } → WorldStep w w2

-- What a step of one node is to the links of its objects: at most two moves of each, what they may hear, and what the step says on
-- them; for the law that each link moves by its table.
use Rattle.std.proofs.Common.{◌≡◌, ◌≢◌, ◌⊎◌, Option, None, Some, IfSome, refl, sym, subst, if◌then◌else◌}
use Rattle.ba_core.specs.declared.identifiers.Id.{Id}
use Rattle.ba_core.specs.declared.notices.Notice.{Notice}
use Rattle.ba_core.specs.declared.protocols.Side.TheVariants.{Coordinator, Participant}
use Rattle.ba_core.specs.declared.states.PState.TheVariants as part
use Rattle.ba_link.specs.Link as link
use Rattle.ba_link.specs.Link.{LinkState, Move, heard_by, moved_link, refused_for_good, register, registered, to_end, to_part}
use Rattle.ba_message.specs.Endpoints.{same_epr}
use Rattle.ba_message.specs.declared.endpoints.Epr.{Epr}
use Rattle.ba_message.specs.declared.messages.Letter.{Letter}
use Rattle.ba_message.specs.declared.messages.Message.TheVariants as message
use Rattle.ba_scope_ends.specs.Ends.{end_of}
use Rattle.ba_scope.specs.Scope.{ScopeState}
use Rattle.ba_scope_ends.specs.declared.ends.End.{End}
use Rattle.ba_scope_ends.specs.declared.parts.Part.{Part}
use Rattle.ba_node_steps.specs.Node.{Among, HasPart, NodeState, next_id, with_lone, with_new_part, with_new_scope, with_scope}
use Rattle.ba_node_steps.specs.Steps.{NodeStep, refusal_number}
use Rattle.ba_node_steps.specs.Ticks.{TickStep, notice_letter, register_letter}
use Rattle.ba_node_steps.specs.declared.answers.Reply.{Reply}
use Rattle.ba_node_steps.specs.declared.answers.Reply.TheVariants as reply
use Rattle.ba_node_steps.specs.declared.inputs.Input.{Input}
use Rattle.ba_node_steps.specs.declared.inputs.Input.TheVariants as input
use Rattle.ba_world_runs.specs.Links.{answered_by, link_state}
use Rattle.ba_world_runs.proofs.Goes.{Makes}

-- ---- what the moves of a step may hear

-- at the scope s, on the link of the participant with this endpoint
abbrev pub EndHears : Option Input → ScopeState → Epr → link.Message → Type 0
EndHears (Some (input.Register scope protocol participant)) s here register = (s.id ≡ scope) × (participant ≡ here)
EndHears (Some (input.Notice Coordinator id n)) s here (to_end m) =
    (e : End) × (end_of s.ends here ≡ Some e) × (e.id ≡ id) × (n ≡ m)
EndHears cause s here x = ⊥

-- at the participant p
abbrev pub PartHears : Option Input → Part → link.Message → Type 0
PartHears (Some (input.Enrolled id c)) p registered = p.id ≡ id
PartHears (Some (input.RefusedBy id c)) p refused_for_good = (p.id ≡ id) × (refusal_number c ≢ None)
PartHears (Some (input.Notice Participant id n)) p (to_part m) = (p.id ≡ id) × (n ≡ m)
PartHears cause p x = ⊥

-- ---- at most two moves of a link, which say this, if they say something

-- the message is said, or lost
abbrev pub SaysAtMost : Option link.Message → Option link.Message → Type 0
SaysAtMost says x = (says ≡ None) ⊎ (says ≡ x)

pub data Strides (hears : link.Message → Type 0) (says : Option link.Message) (a c : LinkState) : Type 0 where
  stays : c ≡ a → says ≡ None → Strides hears says a c
  moves : (m : Move) (x : Option link.Message) → IfSome (heard_by m) hears → moved_link a m ≡ Some (c, x) → SaysAtMost says x
      → Strides hears says a c
  speaks_first : (m1 m2 : Move) (b : LinkState) (x : Option link.Message) → IfSome (heard_by m1) hears → heard_by m2 ≡ None
      → moved_link a m1 ≡ Some (b, x) → moved_link b m2 ≡ Some (c, None) → SaysAtMost says x → Strides hears says a c
  speaks_last : (m1 m2 : Move) (b : LinkState) (x : Option link.Message) → IfSome (heard_by m1) hears → heard_by m2 ≡ None
      → moved_link a m1 ≡ Some (b, None) → moved_link b m2 ≡ Some (c, x) → SaysAtMost says x → Strides hears says a c

-- ---- what a step of a node says

pub data Speech : Type 0 where
  silent : Speech
  -- the scope with this identifier answers the Register of the participant with this endpoint
  scope_answers : Id → Epr → Reply → Speech
  -- an end writes to its participant, a participant to the coordinator that it keeps, and it registers
  end_writes : End → Notice → Speech
  part_writes : Part → Epr → Notice → Speech
  part_registers : Part → Speech

-- what an input says is the answer to it; of others than a Register it is on no link
abbrev pub answer_of : Input → Reply → Speech
answer_of (input.Register scope protocol participant) r = scope_answers scope participant r
answer_of i r = silent

-- what a tick says is its letter
abbrev pub Sends : NodeState → Speech → Option Letter → Type 0
Sends n silent l = l ≡ None
Sends n (scope_answers scope participant r) l = ⊥
Sends n (end_writes e m) l = l ≡ Some (notice_letter e.id e.participant m)
Sends n (part_writes p to m) l = l ≡ Some (notice_letter p.id to m)
Sends n (part_registers p) l = l ≡ Some (register_letter n p)

-- the answer to a Register, to the link of its participant
abbrev pub answer_said : Reply → Option link.Message
answer_said (reply.Enrolment c) = Some registered
answer_said (reply.SoapFault c) = answered_by (message.Fault c)
answer_said r = None

-- to the participant with this endpoint
abbrev pub said_to : Speech → Epr → Option link.Message
said_to (scope_answers scope participant r) here = if same_epr participant here then answer_said r else None
said_to (end_writes e m) here = if same_epr e.participant here then Some (to_part m) else None
said_to speech here = None

-- by the participant that speaks
abbrev pub said_by : Speech → Option link.Message
said_by (part_writes p to m) = Some (to_end m)
said_by (part_registers p) = Some register
said_by speech = None

-- ---- what a step is to the links of one object, each in whatever state its other side is

-- a participant of this endpoint has the protocol of its end here, where it has one
abbrev pub IsOfItsProtocol : Part → Epr → ScopeState → Type 0
IsOfItsProtocol p here s = IfSome (end_of s.ends here) (λ (e : End). e.protocol ≡ p.protocol)

-- the scope s becomes t
abbrev pub Below : Option Input → Speech → ScopeState → ScopeState → Type 0
Below cause speech s t =
    (p : Part) (here : Epr) → IsOfItsProtocol p here s
    → Strides (EndHears cause s here) (said_to speech here) (link_state p here s) (link_state p here t)

-- the participant p becomes q
abbrev pub Above : Option Input → Speech → Part → Part → Type 0
Above cause speech p q =
    (here : Epr) (r : ScopeState) → Strides (PartHears cause p) (said_by speech) (link_state p here r) (link_state q here r)

-- the upward part of a scope, where it has one
abbrev pub UpStrides : Option Input → Speech → Option Part → Option Part → Type 0
UpStrides cause speech None None = Unit {0}
UpStrides cause speech (Some p) (Some q) = (q.id ≡ p.id) × Above cause speech p q
UpStrides cause speech o u = ⊥

-- ---- a step of a node

-- who speaks, where no object changes
abbrev pub SaidAgain : Option Input → NodeState → Speech → Type 0
SaidAgain cause n silent = Unit {0}
SaidAgain cause n (scope_answers scope participant r) =
    (s : ScopeState) → Among n.scopes s → s.id ≡ scope → Below cause (scope_answers scope participant r) s s
SaidAgain cause n (end_writes e m) =
    (s : ScopeState) × Among n.scopes s × Among s.ends e × Below cause (end_writes e m) s s
SaidAgain cause n (part_writes p to m) = HasPart n p × (p.coordinator ≡ Some to) × Above cause (part_writes p to m) p p
SaidAgain cause n (part_registers p) = HasPart n p × Above cause (part_registers p) p p

-- who speaks, where this scope changes: it, one of its ends, its upward part
abbrev pub IsSaidAt : ScopeState → Speech → Type 0
IsSaidAt s silent = Unit {0}
IsSaidAt s (scope_answers scope participant r) = s.id ≡ scope
IsSaidAt s (end_writes e m) = Among s.ends e
IsSaidAt s (part_writes p to m) = (s.up ≡ Some p) × (p.coordinator ≡ Some to)
IsSaidAt s (part_registers p) = s.up ≡ Some p

-- who speaks, where this participant changes
abbrev pub IsSaidBy : Part → Speech → Type 0
IsSaidBy p silent = Unit {0}
IsSaidBy p (part_writes q to m) = (q ≡ p) × (p.coordinator ≡ Some to)
IsSaidBy p (part_registers q) = q ≡ p
IsSaidBy p speech = ⊥

-- a participant that the step makes
pub record IsMade (cause : Option Input) (id : Id) (p : Part) : Type 0 where
  pub named : p.id ≡ id
  pub state : p.state ≡ part.Registering
  pub registers : Makes cause p.registration

pub data Change (cause : Option Input) (speech : Speech) (n m : NodeState) : Type 0 where
  no_object : m ≡ n → SaidAgain cause n speech → Change cause speech n m
  one_scope : (s t : ScopeState) → Among n.scopes s → t.id ≡ s.id → m ≡ with_scope n t → IsSaidAt s speech
      → Below cause speech s t → UpStrides cause speech s.up t.up → Change cause speech n m
  one_lone : (p q : Part) → Among n.parts p → q.id ≡ p.id → m ≡ with_lone n q → IsSaidBy p speech
      → Above cause speech p q → Change cause speech n m
  made_scope : (s : ScopeState) → m ≡ with_new_scope n s → speech ≡ silent → s.id ≡ next_id n 1
      → ((p : Part) → s.up ≡ Some p → IsMade cause (next_id n 2) p) → Change cause speech n m
  made_lone : (p : Part) → m ≡ with_new_part n p → speech ≡ silent → IsMade cause (next_id n 1) p → Change cause speech n m

-- ---- what is to be shown of each input and of each tick, at a node that fits

-- a Register that a participant sent names its protocol
abbrev pub NamesItsProtocol : Input → Type 0
NamesItsProtocol (input.Register scope protocol participant) = protocol ≢ None
NamesItsProtocol i = Unit {0}

abbrev pub InputChanges : Input → NodeState → NodeStep → Type 0
InputChanges i n step = Change (Some i) (answer_of i step.reply) n step.after

abbrev pub TickChanges : NodeState → TickStep → Type 0
TickChanges n step = (speech : Speech) × Sends n speech step.letter × Change None speech n step.after

-- ---- an upward part that stays, or changes

pub up_strides_stay : (cause : Option Input) (speech : Speech) (o : Option Part) → said_by speech ≡ None → UpStrides cause speech o o
up_strides_stay cause speech None quiet = tt
up_strides_stay cause speech (Some p) quiet = (refl, λ here r. stays refl quiet)

pub up_strides_change : (cause : Option Input) (speech : Speech) (o : Option Part) (p q : Part) → o ≡ Some p → q.id ≡ p.id
    → Above cause speech p q → UpStrides cause speech o (Some q)
up_strides_change cause speech None p q is same strides = absurd cc
up_strides_change cause speech (Some x) p q is same strides =
    let one : x ≡ p = cc in
    subst (λ (y : Part). (q.id ≡ y.id) × Above cause speech y q) (sym one) (same, strides)

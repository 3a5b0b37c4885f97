-- Believe: the links of a world: of each participant and the scope that its registration names; and the end that enrolled
-- the participant there.
use Rattle.std.specs.Prelude.{◌≡◌, ◌≢◌, ◌⊎◌, ℕ, Bool, List, [], Option, None, Some, nat_eq, if◌then◌else◌}
use Rattle.std.specs.List.{filter_map}
use Rattle.std.specs.Option.{option_map}
use Rattle.ba_core.specs.declared.codes.Code.TheVariants as code
use Rattle.ba_core.specs.declared.identifiers.Id.{Id}
use Rattle.ba_core.specs.declared.protocols.Protocol.{Protocol}
use Rattle.ba_link.specs.Link as link
use Rattle.ba_link.specs.Link.{Link, LinkState, LinkStep, refused_for_good, refused_for_now, register, registered, registering_link, to_end}
use Rattle.ba_link.specs.Link.{to_part}
use Rattle.ba_message.specs.Endpoints.{same_epr}
use Rattle.ba_message.specs.declared.endpoints.Epr.{Epr}
use Rattle.ba_message.specs.declared.messages.Message.{Message}
use Rattle.ba_message.specs.declared.messages.Message.TheVariants as message
use Rattle.ba_scope_ends.specs.Ends.{end_of}
use Rattle.ba_scope.specs.Scope.{ScopeState, takes_no_more}
use Rattle.ba_scope_ends.specs.declared.ends.End.{End}
use Rattle.ba_scope_ends.specs.declared.parts.Part.{Part}
use Rattle.ba_node_steps.specs.Addresses.{message_number, register_code, sender_of}
use Rattle.ba_node_steps.specs.Node.{Among}
use Rattle.ba_world_runs.specs.World.{Mail, Net, PartAt, ScopeAt, answer, letter, participant_at, registration_at}

-- ---- what was sent on a link

-- what a participant says
abbrev pub said_up : Message → Option link.Message
said_up (message.Register protocol participant) = Some register
said_up (message.Notice n) = Some (to_end n)
said_up m = None

-- what is said to it
abbrev pub said_down : Message → Option link.Message
said_down (message.Notice n) = Some (to_part n)
said_down m = None

-- the answer to its Register
abbrev pub answered_by : Message → Option link.Message
answered_by (message.Registered coordinator) = Some registered
answered_by (message.Fault code.CannotRegisterParticipant) = Some refused_for_good
answered_by (message.Fault code.InvalidProtocol) = Some refused_for_good
answered_by (message.Fault c) = Some refused_for_now
answered_by m = None

-- What a message that was sent is to the link of this participant, whose endpoint this is: its own letters by their
-- number, those that are sent to it by their address, the answer to its Register by the number of that.
abbrev pub on_link : Part → Epr → Mail → Option link.Message
on_link p here (letter l) =
    if nat_eq (sender_of l.number) p.id.0 then said_up l.message
    else if same_epr l.to here then said_down l.message
    else None
on_link p here (answer number m) = if nat_eq number.0 (message_number register_code p.id).0 then answered_by m else None

-- ---- a link

abbrev pub side_of : End → link.End
side_of e = record { state = e.state; verdict = e.verdict }

-- the link of a participant, whose endpoint this is, at a scope
abbrev pub link_state : Part → Epr → ScopeState → LinkState
link_state p here s =
    record { protocol = p.protocol; end = option_map side_of (end_of s.ends here); part = p.state; sealed = takes_no_more s }

abbrev pub link_at : Part → Epr → ScopeState → List Mail → Link
link_at p here s bag = record { state = link_state p here s; sent = filter_map (on_link p here) bag }

-- the participant p at the node j and the scope s at the node k, which p's registration names
pub record IsLink (w : Net) (j : ℕ) (p : Part) (k : ℕ) (s : ScopeState) : Type 0 where
  pub part : PartAt w j p
  pub scope : ScopeAt w k s
  pub names : p.registration ≡ registration_at w k s.id

abbrev pub link_in : Net → ℕ → Part → ScopeState → Link
link_in w j p s = link_at p (participant_at w j p.id) s w.bag

-- the end of the participant at a scope: that which has its endpoint
abbrev pub HasEnd : Net → ℕ → Part → ScopeState → End → Type 0
HasEnd w j p s e = Among s.ends e × (e.participant ≡ participant_at w j p.id)

-- the end e of the scope s at the node k is the end of exactly one link, and has the protocol of that link's participant
pub record HasOneLink (w : Net) (k : ℕ) (s : ScopeState) (e : End) : Type 0 where
  pub node : ℕ
  pub part : Part
  pub link : IsLink w node part k s
  pub is_its_end : HasEnd w node part s e
  pub protocol : e.protocol ≡ part.protocol
  pub alone : (j : ℕ) (p : Part) → IsLink w j p k s → HasEnd w j p s e → (j ≡ node) × (p ≡ part)

-- ---- moves of links

-- the link stays, or makes a move
abbrev pub StepsOrStays : Link → Link → Type 0
StepsOrStays a b = (a ≡ b) ⊎ LinkStep a b

-- at most two moves, one after another
abbrev pub StepsByTwo : Link → Link → Type 0
StepsByTwo a c = (b : Link) × StepsOrStays a b × StepsOrStays b c

-- they are the same participant and the same scope, before a step and after it
abbrev pub AreTheSame : Part → Part → ScopeState → ScopeState → Type 0
AreTheSame p p2 r r2 = (p2.id ≡ p.id) × (r2.id ≡ r.id)

-- the link of p2 and r2 comes from theirs before the step, by at most two moves
abbrev pub StepsFrom : Net → Net → ℕ → Part → ℕ → ScopeState → Type 0
StepsFrom w w2 j p2 l r2 =
    (p : Part) × (r : ScopeState) × IsLink w j p l r × AreTheSame p p2 r r2 × StepsByTwo (link_in w j p r) (link_in w2 j p2 r2)

-- a new link: its participant is Registering, it has no end, and nothing was sent on it
abbrev pub Begins : Link → Type 0
Begins a = (protocol : Protocol) × (sealed : Bool) × (a ≡ registering_link protocol sealed [])

-- no participant of the node has this identifier
abbrev pub IsNewAt : Net → ℕ → Id → Type 0
IsNewAt w j id = (p : Part) → PartAt w j p → p.id ≢ id

-- each link after a step comes from one before it, or it is that of a new participant, and begins
abbrev pub LinksStep : Net → Net → Type 0
LinksStep w w2 =
    (j : ℕ) (p2 : Part) (l : ℕ) (r2 : ScopeState) → IsLink w2 j p2 l r2
    → StepsFrom w w2 j p2 l r2 ⊎ (IsNewAt w j p2.id × Begins (link_in w2 j p2 r2))

-- each link before a step is there after it
abbrev pub LinksStay : Net → Net → Type 0
LinksStay w w2 =
    (j : ℕ) (p : Part) (l : ℕ) (r : ScopeState) → IsLink w j p l r
    → (p2 : Part) × (r2 : ScopeState) × IsLink w2 j p2 l r2 × AreTheSame p p2 r r2

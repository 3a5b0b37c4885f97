-- Believe: what is safe, of all states and messages of a world; and what each step keeps, from which it follows.
use Rattle.std.specs.Prelude.{◌≡◌, ◌≢◌, ℕ, Some, IfSome, IsTrue}
use Rattle.ba_core.specs.Messages.{notice_code}
use Rattle.ba_core.specs.declared.codes.Code.{Code}
use Rattle.ba_core.specs.declared.codes.Code.TheVariants as code
use Rattle.ba_core.specs.declared.identifiers.Id.{Id}
use Rattle.ba_core.specs.declared.notices.Notice.{Notice}
use Rattle.ba_core.specs.declared.protocols.Verdict.{Verdict}
use Rattle.ba_link.specs.Fits.{LinkFits}
use Rattle.ba_message.specs.declared.messages.Letter.{Letter}
use Rattle.ba_message.specs.declared.messages.Message.{Message}
use Rattle.ba_message.specs.declared.messages.Message.TheVariants as message
use Rattle.ba_scope_ends.specs.Parts.{part_fits}
use Rattle.ba_scope.specs.Fits.{ScopeFits}
use Rattle.ba_scope.specs.Scope.{ScopeState}
use Rattle.ba_scope_ends.specs.declared.ends.End.{End}
use Rattle.ba_scope_ends.specs.declared.parts.Part.{Part}
use Rattle.ba_node_steps.specs.Addresses.{message_number, register_code, sender_of}
use Rattle.ba_node_steps.specs.Fits.{NodeFits}
use Rattle.ba_node_steps.specs.Lawful.{Replays}
use Rattle.ba_node_steps.specs.Node.{Among}
use Rattle.ba_world_runs.specs.Links.{HasEnd, HasOneLink, IsLink, link_in}
use Rattle.ba_world_runs.specs.Trees.{TreesFit}
use Rattle.ba_world_runs.specs.Words.{IsTheWord}
use Rattle.ba_node_steps.specs.WordsTold.{word_told}
use Rattle.ba_world_runs.specs.World.{Mail, Net, PartAt, ScopeAt, World, answer, coordinator_at, letter, net_of, participant_at, node_at}
use Rattle.ba_world_runs.specs.WorldSteps.{MayStillBeTaken}

-- where a participant keeps a coordinator, that is the endpoint of its end
abbrev pub KeepsItsEnd : Net → ℕ → Part → Type 0
KeepsItsEnd w j p = IfSome p.coordinator (λ coordinator.
    (k : ℕ) × (s : ScopeState) × (e : End) × IsLink w j p k s × HasEnd w j p s e × (coordinator ≡ coordinator_at w k e.id))

-- ---- where each message that was ever sent comes from, and where it goes

pub data MailFits (w : Net) : Mail → Type 0 where
  -- a Register carries its participant's endpoint and protocol, and goes to its registration
  of_register : {l : Letter} (j : ℕ) (p : Part) → PartAt w j p → l.number ≡ message_number register_code p.id
      → l.to ≡ p.registration → l.message ≡ message.Register (Some p.protocol) (participant_at w j p.id) → MailFits w (letter l)
  -- a notice of a participant goes to the coordinator that it keeps
  of_part : {l : Letter} (j : ℕ) (p : Part) (n : Notice) → PartAt w j p → l.number ≡ message_number (notice_code n) p.id
      → p.coordinator ≡ Some l.to → l.message ≡ message.Notice n → MailFits w (letter l)
  -- a notice of an end goes to its participant
  of_end : {l : Letter} (k : ℕ) (s : ScopeState) (e : End) (n : Notice) → ScopeAt w k s → Among s.ends e
      → l.number ≡ message_number (notice_code n) e.id → l.to ≡ e.participant → l.message ≡ message.Notice n → MailFits w (letter l)
  -- a RegisterResponse carries the endpoint of the participant's end
  of_enrolment : {number : Id} {m : Message} (j : ℕ) (p : Part) (k : ℕ) (s : ScopeState) (e : End) → IsLink w j p k s
      → HasEnd w j p s e → number ≡ message_number register_code p.id → m ≡ message.Registered (coordinator_at w k e.id)
      → MailFits w (answer number m)
  -- a fault answers a letter that was sent; none says InvalidProtocol
  of_fault : {number : Id} {m : Message} (l : Letter) (c : Code) → Among w.bag (letter l) → number ≡ l.number → m ≡ message.Fault c
      → c ≢ code.InvalidProtocol → MailFits w (answer number m)

-- ---- what is safe

-- each participant was told only the word that is recorded for its end, and there is one word for it
abbrev pub TellsTheWord : Net → Type 0
TellsTheWord w =
    (l : Letter) (n : Notice) (v : Verdict) → Among w.bag (letter l) → l.message ≡ message.Notice n → word_told n ≡ Some v
    → IsTheWord w (sender_of l.number) v

-- Each link is as its moves make it: its two states are a possible pair, and what was ever sent on it holds now. Each end
-- has exactly one link, each participant registers at a scope, and it keeps its own end. Each scope fits, and so does each
-- child its parent. Each participant was told the one word that is recorded for it.
pub record IsSafe (w : Net) : Type 0 where
  pub links : (j k : ℕ) (p : Part) (s : ScopeState) → IsLink w j p k s → LinkFits (link_in w j p s)
  pub mail : (m : Mail) → Among w.bag m → MailFits w m
  pub ends : (k : ℕ) (s : ScopeState) (e : End) → ScopeAt w k s → Among s.ends e → HasOneLink w k s e
  pub registers : (j : ℕ) (p : Part) → PartAt w j p → (k : ℕ) × (s : ScopeState) × IsLink w j p k s
  pub parts : (j : ℕ) (p : Part) → PartAt w j p → IsTrue (part_fits p) × KeepsItsEnd w j p
  pub scopes : (k : ℕ) (s : ScopeState) → ScopeAt w k s → ScopeFits s
  pub trees : TreesFit w
  pub told : TellsTheWord w

-- ---- what each step keeps

-- the node with this number fits
pub record FitsAt (w : Net) (k : ℕ) : Type 0 where
  pub number : (node_at w k).number ≡ k
  pub fits : NodeFits (node_at w k)

-- endpoints lead where they should
pub record EndpointsLead (w : Net) : Type 0 where
  -- each end is the end of a link, and has its participant's protocol
  pub ends : (k : ℕ) (s : ScopeState) (e : End) → ScopeAt w k s → Among s.ends e
      → (j : ℕ) × (p : Part) × IsLink w j p k s × (e.participant ≡ participant_at w j p.id) × (e.protocol ≡ p.protocol)
  -- each participant registers at a scope
  pub parts : (j : ℕ) (p : Part) → PartAt w j p → (k : ℕ) × (s : ScopeState) × IsLink w j p k s
  pub coordinators : (j : ℕ) (p : Part) → PartAt w j p → KeepsItsEnd w j p

-- each object is one and at its node, endpoints lead where they should, and each message says where it comes from
pub record IsAddressed (w : Net) : Type 0 where
  pub nodes : (k : ℕ) → FitsAt w k
  pub endpoints : EndpointsLead w
  pub mail : (m : Mail) → Among w.bag m → MailFits w m

pub record IsSound (w : Net) : Type 0 where
  pub addressed : IsAddressed w
  pub links : (j k : ℕ) (p : Part) (s : ScopeState) → IsLink w j p k s → LinkFits (link_in w j p s)
  pub trees : TreesFit w

-- Each node has its number and fits, its state is the replay of its records, and what is pending there may still be taken.
pub record IsItsRecords (w : World) : Type 0 where
  pub nodes : (k : ℕ) → FitsAt (net_of w) k
  pub replays : (k : ℕ) → Replays (w.nodes k).records (w.nodes k).state
  pub pending : (k : ℕ) → IfSome (w.nodes k).pending (MayStillBeTaken w k)

pub record IsSoundWorld (w : World) : Type 0 where
  pub net : IsSound (net_of w)
  pub records : IsItsRecords w

-- Believe: the letters that a node posts, and the messages with which it replies. A law above says that all of them can be
-- encoded.
use Rattle.std.specs.Prelude.{◌≡◌, ◌≢◌, ◌≤◌, ◌<◌, ◌^◌, ℕ, List, [], None, length, IfSome, IsTrue}
use Rattle.ba_core.specs.declared.codes.Code.TheVariants as code
use Rattle.ba_core.specs.declared.notices.Notice.TheVariants as notice
use Rattle.ba_core.specs.declared.states.StateName.TheVariants as state
use Rattle.ba_message.specs.declared.endpoints.Epr.{Epr}
use Rattle.ba_message.specs.declared.messages.Context.{Context}
use Rattle.ba_message.specs.declared.messages.Letter.{Letter}
use Rattle.ba_message.specs.declared.messages.Message.{Message}
use Rattle.ba_message.specs.declared.messages.Message.TheVariants as message
use Rattle.ba_message.specs.declared.messages.TheConstants.{MOST_IDENTIFIER_BYTES}
use Rattle.ba_message.specs.Addresses.{IsDialable}
use Rattle.ba_message.specs.Endpoints.{Fits}
use Rattle.ba_tree.specs.Characters.{is_legal_text, has_bare_ends}

-- an endpoint reference as a node has them for its own objects: an address that can be dialed, and no parameters.
-- A law says that it fits. Two endpoint references with parameters may fit and name more namespaces than an envelope
-- has room for; so of the two in a letter the node's own has none.
pub record IsOwnEndpoint (e : Epr) : Type 0 where
  pub dialable : IsDialable e.address
  pub alone : e.parameters ≡ []

-- ---- letters

-- a notice that names a state that is known, if any; or a Register of a participant of this node
abbrev pub IsPostableMessage : Message → Type 0
IsPostableMessage (message.Notice n) = n ≢ notice.Status state.Other
IsPostableMessage (message.Register protocol participant) = (protocol ≢ None) × IsOwnEndpoint participant
IsPostableMessage m = ⊥

pub record IsPostable (letter : Letter) : Type 0 where
  pub fits : Fits letter.to
  pub dialable : IsDialable letter.to.address
  pub message : IsPostableMessage letter.message

-- ---- replies

-- the identifier of a context or a message: a text without white space at its ends, not empty and not long
pub record IsIdentifier (text : List ℕ) : Type 0 where
  pub named : 1 ≤ length text
  pub short : length text ≤ MOST_IDENTIFIER_BYTES
  pub bare : IsTrue (has_bare_ends text)
  pub legal : IsTrue (is_legal_text text)

-- a context that is known and fits
pub record IsReplyContext (c : Context) : Type 0 where
  pub identifier : IsIdentifier c.identifier
  -- in milliseconds, a number of 32 bits
  pub expires : IfSome c.expires (λ n. n < 2 ^ 32)
  pub kind : c.kind ≢ None
  pub registration : Fits c.registration

-- a context, an endpoint at which to register or that is enrolled, or a fault that is known
abbrev pub IsReply : Message → Type 0
IsReply (message.Created context) = IsReplyContext context
IsReply (message.Registered coordinator) = Fits coordinator
IsReply (message.Fault c) = c ≢ code.Other
IsReply m = ⊥

-- Believe: the history of one node: what happens to it, whatever arrives there, and which letters go out meanwhile.
use Rattle.std.specs.Prelude.{◌≡◌, ℕ, ◌*◌, ◌<◌, ◌^◌, Bool, List, [], ◌∷◌, ◌++◌, length, Option, None, Some}
use Rattle.std.specs.Option.{option_to_list}
use Rattle.ba_core.specs.declared.identifiers.Id.{Id}
use Rattle.ba_core.specs.declared.protocols.Kind.TheVariants.{Atomic}
use Rattle.ba_core.specs.declared.protocols.Verdict.{Verdict}
use Rattle.ba_core.specs.declared.states.CState.TheVariants.{Completed}
use Rattle.ba_core.specs.declared.states.How.TheVariants.{Closed, Compensated}
use Rattle.ba_core.specs.declared.states.PState.{PState}
use Rattle.ba_core.specs.declared.states.PState.TheVariants as part
use Rattle.ba_link.specs.States.{part_among}
use Rattle.ba_message.specs.declared.messages.Letter.{Letter}
use Rattle.ba_record.specs.declared.records.Record.{Record}
use Rattle.ba_record.specs.declared.records.Record.TheVariants as journal
use Rattle.ba_scope.specs.Scope.{ScopeState}
use Rattle.ba_scope_ends.specs.declared.ends.End.{End}
use Rattle.ba_scope_ends.specs.declared.parts.Part.{Part}
use Rattle.ba_node_steps.specs.declared.inputs.Input.{Input}
use Rattle.ba_node_steps.specs.Addresses.{sender_of}
use Rattle.ba_node_steps.specs.Node.{Among, HasPart, NodeState, new_node}
use Rattle.ba_node_steps.specs.Steps.{node_step}
use Rattle.ba_node_steps.specs.Ticks.{tick_step}
use Rattle.ba_node_steps.specs.WordsTold.{word_in}

-- ---- what happens

-- Any input at any moment: a message from whoever it is, or what the application asks; and the tick of an object. The node
-- may stop meanwhile and be loaded again, with the record of what happened or without it: then nothing goes out.
pub data Happening : Type 0 where
  arrives_at : ℕ → Input → Happening
  ticks_at : ℕ → Id → Happening
  stops_with stops_without : Happening → Happening

-- the node afterwards, the record that it keeps, and the letter that goes out
pub record Consequence : Type 0 where
  pub after : NodeState
  pub written : Option Record
  pub letter : Option Letter

abbrev pub consequence : NodeState → Happening → Consequence
consequence n (arrives_at now i) = let step = node_step n now i in record { after = step.after; written = step.written; letter = None }
consequence n (ticks_at now id) =
    let step = tick_step n now id in record { after = step.after; written = step.written; letter = step.letter }
consequence n (stops_with h) = let taken = consequence n h in record { after = taken.after; written = taken.written; letter = None }
consequence n (stops_without h) = record { after = n; written = None; letter = None }

-- ---- a history: the node with this number and base begins without objects, and all this happens to it, the last first

abbrev pub node_then : ℕ → List ℕ → List Happening → NodeState
node_then number base [] = new_node number base
node_then number base (h ∷ past) = (consequence (node_then number base past) h).after

-- the states in which it ever was
abbrev pub states_of : ℕ → List ℕ → List Happening → List NodeState
states_of number base [] = new_node number base ∷ []
states_of number base (h ∷ past) = node_then number base (h ∷ past) ∷ states_of number base past

-- the records that it ever kept, in their order
abbrev pub written_by : ℕ → List ℕ → List Happening → List Record
written_by number base [] = journal.Node number base ∷ []
written_by number base (h ∷ past) = written_by number base past ++ option_to_list (consequence (node_then number base past) h).written

-- the letters that ever went out
abbrev pub letters_of : ℕ → List ℕ → List Happening → List Letter
letters_of number base [] = []
letters_of number base (h ∷ past) = option_to_list (consequence (node_then number base past) h).letter ++ letters_of number base past

-- so few that counters don't run out: what happens makes at most two objects
pub record HasCounters (number : ℕ) (past : List Happening) : Type 0 where
  pub is_number : number < 2 ^ 32
  pub few : 2 * length past < 2 ^ 64

-- ---- what a participant is told

-- a letter that went out tells the participant of the end with this identifier this word
pub record IsTold (letters : List Letter) (id : Id) (v : Verdict) : Type 0 where
  pub letter : Letter
  pub went : Among letters letter
  pub sender : sender_of letter.number ≡ id.0
  pub word : word_in letter.message ≡ Some v

-- ---- objects of a node

pub record HasEndAt (n : NodeState) (id : Id) (s : ScopeState) (e : End) : Type 0 where
  pub scope : Among n.scopes s
  pub end : Among s.ends e
  pub is : e.id ≡ id

-- there is a scope with this identifier, no other one has it, and its verdict is this
pub record HasScopeVerdict (n : NodeState) (id : Id) (v : Verdict) : Type 0 where
  pub scope : ScopeState
  pub here : Among n.scopes scope
  pub is : scope.id ≡ id
  pub verdict : scope.verdict ≡ Some v
  pub alone : (s : ScopeState) → Among n.scopes s → s.id ≡ id → s ≡ scope

-- likewise an end, in the scope with that identifier
pub record HasEndVerdict (n : NodeState) (scope_id id : Id) (v : Verdict) : Type 0 where
  pub scope : ScopeState
  pub end : End
  pub here : HasEndAt n id scope end
  pub in_scope : scope.id ≡ scope_id
  pub verdict : end.verdict ≡ Some v
  pub alone : (s : ScopeState) (e : End) → HasEndAt n id s e → e ≡ end

-- the ends of an AtomicOutcome root, and those of any child, get the verdict of their scope
pub data HasOneWord (s : ScopeState) : Type 0 where
  atomic_has_one : s.kind ≡ Atomic → HasOneWord s
  child_has_one : (up : Part) → s.up ≡ Some up → HasOneWord s

-- The letter is that of an end, and goes to its participant; the word that it tells is the end's verdict, and the verdict of
-- its scope where all ends get that.
pub record TellsItsVerdict (n : NodeState) (l : Letter) (v : Verdict) : Type 0 where
  pub scope : ScopeState
  pub end : End
  pub here : HasEndAt n end.id scope end
  pub sender : sender_of l.number ≡ end.id.0
  pub to : l.to ≡ end.participant
  pub own : end.verdict ≡ Some v
  pub of_scope : HasOneWord scope → scope.verdict ≡ Some v

-- in one of these states the end whose identifier is this number was Completed
pub record HadCompleted (states : List NodeState) (id : ℕ) : Type 0 where
  pub node : NodeState
  pub state : Among states node
  pub scope : ScopeState
  pub end : End
  pub here : HasEndAt node end.id scope end
  pub is : end.id.0 ≡ id
  pub completed : end.state ≡ Completed

-- ---- a participant's own side

-- it completed, or came from there
abbrev pub has_completed : PState → Bool
has_completed =
    part_among (part.Completed ∷ part.Closing ∷ part.Compensating ∷ part.FailingCompensating ∷ part.Ended Closed
    ∷ part.Ended Compensated ∷ [])

-- there is a participant with this identifier, no other one has it, and it is in this state
pub record HasPartIn (n : NodeState) (id : Id) (state : PState) : Type 0 where
  pub participant : Part
  pub here : HasPart n participant
  pub is : participant.id ≡ id
  pub is_in : participant.state ≡ state
  pub alone : (p : Part) → HasPart n p → p.id ≡ id → p ≡ participant

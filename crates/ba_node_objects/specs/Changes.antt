-- Believe: what a change makes of a node, and what it asks of it.
use Rattle.std.specs.Prelude.{◌≡◌, ◌<◌, ℕ, not, List, None, Some, IsTrue, length, slice_get, slice_set}
use Rattle.ba_core.specs.Messages.{is_column}
use Rattle.ba_core.specs.PartRows.{is_part_state}
use Rattle.ba_core.specs.declared.identifiers.Id.{Id}
use Rattle.ba_message.specs.declared.endpoints.Epr.{Epr}
use Rattle.ba_node_objects.specs.declared.changes.Change.{Change}
use Rattle.ba_node_objects.specs.declared.changes.Change.TheVariants as changes
use Rattle.ba_node_objects.specs.declared.changes.PartChange.{PartChange}
use Rattle.ba_node_objects.specs.declared.changes.PartChange.TheVariants as by_part
use Rattle.ba_node_objects.specs.declared.changes.ScopeChange.{ScopeChange}
use Rattle.ba_node_objects.specs.declared.changes.ScopeChange.TheVariants as by_scope
use Rattle.ba_node_objects.specs.Objects.{NodeInMemory}
use Rattle.ba_scope_ends.specs.Ends.{end_of}
use Rattle.ba_scope_ends.specs.Parts.{enrolled_part, is_registering, part_asking, part_in_state, part_owing, refused_part, tick_of_part}
use Rattle.ba_scope.specs.Rules.{ask, choose, complete, decide, end_receive, enrol_refusal, enrolled_scope, expire, finish, leave_by, owe}
use Rattle.ba_scope.specs.Rules.{refused_scope, scope_with_end, tick_end, tick_up, up_receive}
use Rattle.ba_scope.specs.Scope.{ScopeState, has_id}
use Rattle.ba_scope_ends.specs.declared.parts.Part.{Part}
use Rattle.ba_node_steps.specs.Node.{NodeState, with_new_part, with_new_scope}

-- a scope after a call of it
abbrev pub changed_scope : ScopeChange → ScopeState → ScopeState
changed_scope (by_scope.Decide v) s = (decide s v).after
changed_scope (by_scope.Choose id v) s = (choose s id v).after
changed_scope (by_scope.Complete id) s = (complete s id).after
changed_scope by_scope.Finish s = (finish s).after
changed_scope (by_scope.Leave how) s = (leave_by s how).after
changed_scope (by_scope.EndReceive id m) s = (end_receive s id m).after
changed_scope (by_scope.UpReceive m) s = (up_receive s m).after
changed_scope (by_scope.Owe id) s = (owe s id).after
changed_scope (by_scope.Ask id) s = (ask s id).after
changed_scope (by_scope.Enrolled coordinator) s = enrolled_scope coordinator s
changed_scope by_scope.Refused s = refused_scope s
changed_scope (by_scope.Expire now) s = (expire s now).after
changed_scope (by_scope.EndTick id) s = (tick_end s id).after
changed_scope by_scope.UpTick s = (tick_up s).after
changed_scope (by_scope.Enrol room id protocol participant) s = scope_with_end s id protocol participant

-- a lone participant after a call of it
abbrev pub changed_part : PartChange → Part → Part
changed_part (by_part.Move next) p = part_in_state next p
changed_part by_part.Owe p = part_owing p
changed_part by_part.Ask p = part_asking p
changed_part (by_part.Enrolled coordinator) p = enrolled_part coordinator p
changed_part by_part.Refused p = refused_part p
changed_part by_part.Tick p = (tick_of_part p).after

-- the list with the item at this place changed
abbrev pub with_changed : {A : Type 0} → List A → ℕ → (A → A) → List A
with_changed xs place change = elim (slice_get xs place) [ None ↦ xs | Some x ↦ slice_set xs place (change x) ]

-- the node after a change
abbrev pub changed_node : NodeState → Change → NodeState
changed_node n changes.Nothing = n
changed_node n (changes.Scope place change) = record n { scopes = with_changed n.scopes place (changed_scope change) }
changed_node n (changes.Part place change) = record n { parts = with_changed n.parts place (changed_part change) }
changed_node n (changes.NewScope s) = with_new_scope n s
changed_node n (changes.NewPart p) = with_new_part n p

-- ---- what a change asks of what it changes

-- a participant and an identifier that are new to a scope that takes one more, and room for its end
pub record SuitsEnrol (s : ScopeState) (room : ℕ) (id : Id) (participant : Epr) : Type 0 where
  pub allowed : enrol_refusal s ≡ None
  pub new_participant : end_of s.ends participant ≡ None
  pub new_id : IsTrue (not (has_id s id))
  pub has_room : length s.ends < room

-- a notice that has a column; an own participant that is Registering, or isn't any more
abbrev pub SuitsScope : ScopeState → ScopeChange → Type 0
SuitsScope s (by_scope.EndReceive id m) = IsTrue (is_column m)
SuitsScope s (by_scope.UpReceive m) = IsTrue (not (is_registering s.up)) × IsTrue (is_column m)
SuitsScope s (by_scope.Enrolled coordinator) = IsTrue (is_registering s.up)
SuitsScope s by_scope.Refused = IsTrue (is_registering s.up)
SuitsScope s (by_scope.Enrol room id protocol participant) = SuitsEnrol s room id participant
SuitsScope s change = Unit {0}

-- a state of its protocol
abbrev pub SuitsPart : Part → PartChange → Type 0
SuitsPart p by_part.Tick = IsTrue (is_part_state p.protocol p.state)
SuitsPart p change = Unit {0}

-- something stands at the place, and the change suits it; a new object needs memory
abbrev pub Suits : NodeInMemory → Change → Type 0
Suits m changes.Nothing = Unit {0}
Suits m (changes.Scope place change) = (s : ScopeState) × (slice_get m.node.scopes place ≡ Some s) × SuitsScope s change
Suits m (changes.Part place change) = (p : Part) × (slice_get m.node.parts place ≡ Some p) × SuitsPart p change
Suits m (changes.NewScope s) = 0 < m.room
Suits m (changes.NewPart p) = 0 < m.room

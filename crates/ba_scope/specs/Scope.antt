-- Believe: a scope as contracts see it, and what holds of its ends together.
use Rattle.std.specs.Prelude.{ℕ, Bool, true, false, not, ◌||◌, List, [], ◌∷◌, length, nat_le, Option, None, Some, is_some}
use Rattle.std.specs.List.{list_all, list_any}
use Rattle.ba_core.specs.declared.identifiers.Id.{Id}
use Rattle.ba_core.specs.declared.protocols.Kind.{Kind}
use Rattle.ba_core.specs.declared.protocols.Verdict.{Verdict}
use Rattle.ba_core.specs.declared.states.How.TheVariants.{Failed}
use Rattle.ba_core.specs.declared.states.CState.TheVariants as end
use Rattle.ba_core.specs.declared.states.PState.TheVariants as part
use Rattle.ba_scope_ends.specs.Ends.{same_id, is_ended_state}
use Rattle.ba_link.specs.States.{end_among, part_among}
use Rattle.ba_scope_ends.specs.declared.ends.End.{End}
use Rattle.ba_scope_ends.specs.declared.parts.Part.{Part}

-- A scope: for a child, the participant by which it is itself enrolled above; the verdict that was set on it;
-- its ends, in the order in which they were enrolled. It takes no more ends than its limit.
pub record ScopeState : Type 0 where
  pub id : Id
  pub kind : Kind
  pub limit : ℕ
  pub deadline : Option ℕ
  pub up : Option Part
  pub verdict : Option Verdict
  pub ends : List End

-- the Id is that of the upward part
abbrev pub is_id_above : Option Part → Id → Bool
is_id_above None id = false
is_id_above (Some up) id = same_id up.id id

-- the Id is the scope's own, or that of its upward part
abbrev pub is_own_id : ScopeState → Id → Bool
is_own_id s id = same_id s.id id || is_id_above s.up id

-- the scope, its upward part or one of its ends has this Id
abbrev pub has_id : ScopeState → Id → Bool
has_id s id = is_own_id s id || list_any (λ e. same_id e.id id) s.ends

-- each end is Ended
abbrev pub is_drained : ScopeState → Bool
is_drained s = list_all (λ e. is_ended_state e.state) s.ends

abbrev pub any_failed : ScopeState → Bool
any_failed s = list_any (λ e. end_among (end.Ended Failed ∷ []) e.state) s.ends

-- a scope below this enrols: there is nothing above, or a participant that is at work or on its way there
abbrev pub is_at_work : Option Part → Bool
is_at_work None = true
is_at_work (Some up) = part_among (part.Registering ∷ part.Active ∷ part.Completing ∷ []) up.state

-- the scope has a verdict, or its own participant has gone too far: it takes no new end any more
abbrev pub is_sealed : ScopeState → Bool
is_sealed s = is_some s.verdict || not (is_at_work s.up)

abbrev pub is_full : ScopeState → Bool
is_full s = nat_le s.limit (length s.ends)

-- a participant that the scope hasn't enrolled is refused for good
abbrev pub takes_no_more : ScopeState → Bool
takes_no_more s = is_sealed s || is_full s

-- What a node shows of an object, by what a look-up finds; for its status and its deadlines.
use Rattle.std.proofs.Common.{◌≡◌, ℕ, Option, None, Some, slice_get, sym, ap, ◌∙◌}
use Rattle.std.specs.Option.{option_and_then}
use Rattle.ba_core.specs.declared.identifiers.Id.{Id}
use Rattle.ba_node_objects.specs.Finds.{end_at}
use Rattle.ba_scope.specs.Scope.{ScopeState}
use Rattle.ba_scope_ends.specs.declared.ends.End.{End}
use Rattle.ba_node_steps.specs.Node.{EndPlace, NodeState, PartPlace, end_place, part_place, scope_with_id}
use Rattle.ba_node_steps.specs.Shown.{deadline_of, in_scope, object_ids, part_seen, pending_deadline, seen_at}
use Rattle.ba_node_steps.specs.Steps.{if_found}
use Rattle.ba_node_steps.specs.declared.answers.Seen.{Seen}
use Rattle.ba_node_steps.specs.declared.answers.Seen.TheVariants as seen

found_seen : {A B : Type 0} (o : Option A) (otherwise : B) (next : A → B) (a : A) → o ≡ Some a → next a ≡ if_found o otherwise next
found_seen o otherwise next a is = ap (λ p. if_found p otherwise next) (sym is)

none_seen : {A B : Type 0} (o : Option A) (otherwise : B) (next : A → B) → o ≡ None → otherwise ≡ if_found o otherwise next
none_seen o otherwise next is = ap (λ p. if_found p otherwise next) (sym is)

abbrev scope_seen : ScopeState → Option Seen
scope_seen s = Some (seen.Scope s.kind s.verdict)

abbrev end_seen : EndPlace → Option Seen
end_seen at = Some (seen.End at.end.protocol at.end.state at.end.verdict)

abbrev others_seen : NodeState → Id → Option Seen
others_seen n id = if_found (end_place n id) (part_seen (part_place n id)) end_seen

pub shows_scope : (n : NodeState) (id : Id) (s : ScopeState) → scope_with_id n id ≡ Some s
    → ◌≡◌ {A = Option Seen} (Some (seen.Scope s.kind s.verdict)) (seen_at n id)
shows_scope n id s is = found_seen (scope_with_id n id) (others_seen n id) scope_seen s is

shows_other : (n : NodeState) (id : Id) → scope_with_id n id ≡ None → others_seen n id ≡ seen_at n id
shows_other n id none = none_seen (scope_with_id n id) (others_seen n id) scope_seen none

pub shows_end : (n : NodeState) (id : Id) (s : ScopeState) (e : End) → scope_with_id n id ≡ None → end_place n id ≡ Some (end_at s e)
    → ◌≡◌ {A = Option Seen} (Some (seen.End e.protocol e.state e.verdict)) (seen_at n id)
shows_end n id s e none is =
    found_seen (end_place n id) (part_seen (part_place n id)) end_seen (end_at s e) is ∙ shows_other n id none

shows_part : (n : NodeState) (id : Id) → scope_with_id n id ≡ None → end_place n id ≡ None
    → part_seen (part_place n id) ≡ seen_at n id
shows_part n id no_scope no_end =
    none_seen (end_place n id) (part_seen (part_place n id)) end_seen no_end ∙ shows_other n id no_scope

pub shows_place : (n : NodeState) (id : Id) (place : PartPlace) → scope_with_id n id ≡ None → end_place n id ≡ None
    → part_place n id ≡ place → part_seen place ≡ seen_at n id
shows_place n id place no_scope no_end is = ap part_seen (sym is) ∙ shows_part n id no_scope no_end

pub shows_deadline : (n : NodeState) (id : Id) (o : Option ScopeState) → scope_with_id n id ≡ o
    → option_and_then pending_deadline o ≡ deadline_of n id
shows_deadline n id o is = ap (option_and_then pending_deadline) (sym is)

-- ---- in a scope

abbrev got_at : ℕ → ScopeState → Option Id
got_at k s = slice_get (object_ids s) k

pub shows_inside : (n : NodeState) (id : Id) (k : ℕ) (o : Option ScopeState) → scope_with_id n id ≡ o
    → option_and_then (got_at k) o ≡ in_scope n id k
shows_inside n id k o is = ap (option_and_then (got_at k)) (sym is)

-- The plans of Create, Join and Register: what is made has the next identifier.
use Rattle.std.proofs.Common.{◌≡◌, ℕ, Bool, true, false, not, ◌||◌, List, [], ◌∷◌, Option, None, Some, IsTrue, inl, inr, refl, sym, ap, ◌∙◌}
use Rattle.std.proofs.Common.{true≢false}
use Rattle.std.specs.List.{list_any}
use Rattle.std.specs.Option.{option_map}
use Rattle.ba_core.specs.declared.identifiers.Id.{Id}
use Rattle.ba_core.specs.declared.protocols.Kind.{Kind}
use Rattle.ba_core.specs.declared.protocols.Protocol.{Protocol}
use Rattle.ba_message.specs.declared.endpoints.Epr.{Epr}
use Rattle.ba_message.specs.declared.messages.Context.{Context}
use Rattle.ba_node_objects.specs.Changes.{changed_node, changed_scope}
use Rattle.ba_node_objects.specs.Finds.{FindsScope}
use Rattle.ba_node_objects.specs.declared.changes.Change.TheVariants as changes
use Rattle.ba_node_objects.specs.declared.changes.ScopeChange.TheVariants as by_scope
use Rattle.ba_node_plans.proofs.Placed.{among_at, scope_placed}
use Rattle.ba_node_plans.specs.inside.Joining.{join_step}
use Rattle.ba_node_plans.specs.inside.Registering.{refusal_code}
use Rattle.ba_record.specs.declared.records.Record.TheVariants as journal
use Rattle.ba_scope.specs.Rules.{enrol_refusal, new_scope, scope_with_end}
use Rattle.ba_scope_ends.specs.Ends.{same_id}
use Rattle.ba_scope.specs.Scope.{ScopeState, has_id, is_id_above, is_own_id}
use Rattle.ba_scope.specs.declared.answers.EnrolFault.{EnrolFault}
use Rattle.ba_scope.specs.declared.answers.EnrolFault.TheVariants.{Full, NotYetEnrolled, Sealed}
use Rattle.ba_scope_ends.specs.declared.ends.End.{End}
use Rattle.ba_scope_ends.specs.declared.parts.Part.{Part}
use Rattle.ba_node_steps.proofs.Members.{all_among, among_left, number_is_same, other_by_number}
use Rattle.ba_node_steps.proofs.NodeKept.{fresh_of, next_is}
use Rattle.ba_node_steps.proofs.Objects.{end_owned, ids_in_scopes, in_scopes, lone_ids, up_owned}
use Rattle.ba_node_steps.specs.Addresses.{coordinator_of}
use Rattle.ba_node_steps.specs.Fits.{HasSpareCounters}
use Rattle.ba_node_steps.specs.Node.{Among, NodeState, counter, ids, next_id, scope_ids, with_new_part, with_new_scope, with_scope}
use Rattle.ba_node_steps.specs.Steps.{NodeStep, create_scope, deadline_after, enrol_unless, fault_step, new_context, new_part, upward_fields}
use Rattle.ba_node_steps.specs.Steps.{written_step}
use Rattle.ba_node_steps.specs.declared.answers.Reply.TheVariants as reply
use Rattle.ba_node_steps.specs.declared.answers.Wake.{Wake}
use Rattle.ba_node_steps.specs.declared.answers.Wake.TheVariants as wake

-- ---- a scope

pub made_scope : (n : NodeState) (now : ℕ) (expires : Option ℕ) (kind : Kind) (up : Option Part) (w : Wake) (id : Id) (k : ℕ)
    (deadline : Option ℕ) (above : Option (Protocol × Epr)) (context : Context) (s : ScopeState) → id ≡ next_id n 1
    → k ≡ counter id → deadline ≡ deadline_after now expires → above ≡ option_map upward_fields up
    → context ≡ new_context n kind expires → s ≡ new_scope id kind deadline up
    → written_step (with_new_scope n s) (reply.Context context) (journal.Scope k kind deadline above) w
    ≡ create_scope n now expires kind up w
made_scope n now expires kind up w id k deadline above context s is counts moment fields told made =
    (λ i. written_step (with_new_scope n (made i)) (reply.Context (told i)) (journal.Scope (counts i) kind deadline (fields i)) w)
    ∙ (λ i. written_step (with_new_scope n (new_scope (is i) kind (moment i) up)) (reply.Context (new_context n kind expires))
    (journal.Scope (counter (is i)) kind (moment i) (option_map upward_fields up)) w)

-- ---- a lone participant

pub made_part : (n : NodeState) (protocol : Protocol) (registration kept : Epr) (id : Id) (k : ℕ) (p : Part) → id ≡ next_id n 1
    → k ≡ counter id → kept ≡ registration → p ≡ new_part id protocol registration
    → written_step (with_new_part n p) (reply.Joined id) (journal.Part k protocol kept) (wake.One id)
    ≡ join_step n protocol registration
made_part n protocol registration kept id k p is counts same made =
    (λ i. written_step (with_new_part n (made i)) (reply.Joined id) (journal.Part (counts i) protocol (same i)) (wake.One id))
    ∙ (λ i. written_step (with_new_part n (new_part (is i) protocol registration)) (reply.Joined (is i))
    (journal.Part (counter (is i)) protocol registration) (wake.One (is i)))

-- ---- an end

pub made_end : (n : NodeState) (id : Id) (place : ℕ) (s : ScopeState) (protocol : Protocol) (participant kept coordinator : Epr)
    (room : ℕ) (end : Id) (k scope : ℕ) → FindsScope n id place s → enrol_refusal s ≡ None → end ≡ next_id n 1 → k ≡ counter end
    → scope ≡ counter id → kept ≡ participant → coordinator ≡ coordinator_of n.base end
    → written_step (changed_node n (changes.Scope place (by_scope.Enrol room end protocol participant))) (reply.Enrolment coordinator)
    (journal.End k scope protocol kept) (wake.One end)
    ≡ enrol_unless n s protocol participant (enrol_refusal s)
made_end n id place s protocol participant kept coordinator room end k scope finds allowed is counts of_scope same told =
    let change = changed_scope (by_scope.Enrol room end protocol participant) in
    let node = scope_placed n place s change finds.node finds.at refl in
    let own : scope ≡ counter s.id = of_scope ∙ ap counter (sym finds.is) in
    (λ i. written_step (node i) (reply.Enrolment (told i)) (journal.End (counts i) (own i) protocol (same i)) (wake.One end))
    ∙ ap (λ (e : Id). enrolled e) is
    ∙ ap (enrol_unless n s protocol participant) (sym allowed)
  where
    enrolled : Id → NodeStep
    enrolled e = written_step (with_scope n (scope_with_end s e protocol participant)) (reply.Enrolment (coordinator_of n.base e))
        (journal.End (counter e) (counter s.id) protocol participant) (wake.One e)

pub refused_end : (n : NodeState) (s : ScopeState) (protocol : Protocol) (participant : Epr) (why : EnrolFault)
    → enrol_refusal s ≡ Some why → fault_step n (refusal_code why) ≡ enrol_unless n s protocol participant (enrol_refusal s)
refused_end n s protocol participant why is = by_why why ∙ ap (enrol_unless n s protocol participant) (sym is)
  where
    by_why : (why : EnrolFault) → fault_step n (refusal_code why) ≡ enrol_unless n s protocol participant (Some why)
    by_why NotYetEnrolled = refl
    by_why Sealed = refl
    by_why Full = refl

-- the next identifier is new to each scope
no_id : (s : ScopeState) (id : Id) → ((y : Id) → Among (scope_ids s) y → same_id y id ≡ false) → not (has_id s id) ≡ true
no_id s id other =
    neither (is_own_id s id) (list_any (λ e. same_id e.id id) s.ends)
    (either (same_id s.id id) (is_id_above s.up id) (other s.id (inl refl)) (by_up s.up refl))
    (by_ends s.ends (λ e among. other e.id (end_owned s e among)))
  where
    either : (a b : Bool) → a ≡ false → b ≡ false → (a || b) ≡ false
    either true b h k = absurd (true≢false h)
    either false b h k = k

    neither : (a b : Bool) → a ≡ false → b ≡ false → not (a || b) ≡ true
    neither true b h k = absurd (true≢false h)
    neither false true h k = absurd (true≢false k)
    neither false false h k = refl

    by_up : (o : Option Part) → s.up ≡ o → is_id_above o id ≡ false
    by_up None is = refl
    by_up (Some p) is = other p.id (up_owned s p is)

    by_ends : (es : List End) → ((e : End) → Among es e → same_id e.id id ≡ false) → list_any (λ e. same_id e.id id) es ≡ false
    by_ends [] h = refl
    by_ends (e ∷ es) h =
        either (same_id e.id id) (list_any (λ x. same_id x.id id) es) (h e (inl refl)) (by_ends es (λ x later. h x (inr later)))

pub new_to_scope : (n : NodeState) (id : Id) (place : ℕ) (s : ScopeState) (end : Id) → HasSpareCounters n → FindsScope n id place s
    → end ≡ next_id n 1 → IsTrue (not (has_id s end))
new_to_scope n id place s end spare finds is =
    let new : Id = next_id n 1 in
    let among : Among n.scopes s = among_at n.scopes place s finds.at in
    let other : (y : Id) → Among (scope_ids s) y → same_id y new ≡ false =
    (λ y owned. other_by_number y new (λ same.
    true≢false
    (sym (number_is_same new y (sym same))
    ∙ all_among (λ z. same_id new z ≡ false) (ids n) y (fresh_of n.number (ids n) new (next_is n spare) finds.node.here)
    (among_left (ids_in_scopes n) (lone_ids n) y (in_scopes n s y among owned))))) in
    ap (λ (e : Id). not (has_id s e)) is ∙ no_id s new other

-- The plans of Ask and of GetStatus: an end or a participant is to ask, or owes its Status, where it stands.
use Rattle.std.proofs.Common.{◌≡◌, inr, ℕ, Bool, true, false, not, Option, None, Some, refl, sym, ap, ◌∙◌, subst, if◌then◌else◌}
use Rattle.std.proofs.lemmas.Bool.{and_from}
use Rattle.ba_core.specs.declared.identifiers.Id.{Id}
use Rattle.ba_core.specs.declared.notices.Notice.TheVariants as notice
use Rattle.ba_node_plans.proofs.Placed.{among_at}
use Rattle.ba_node_plans.proofs.Planned.{found_step, lone_written, none_step, scope_written}
use Rattle.ba_node_objects.specs.Changes.{changed_node}
use Rattle.ba_node_objects.specs.declared.changes.Change.TheVariants as changes
use Rattle.ba_node_objects.specs.declared.changes.PartChange.TheVariants as by_part
use Rattle.ba_node_objects.specs.declared.changes.ScopeChange.TheVariants as by_scope
use Rattle.ba_node_objects.specs.Finds.{FindsEnd, FindsLone, FindsUp, end_at}
use Rattle.ba_record.specs.declared.records.Record.TheVariants as journal
use Rattle.ba_scope.proofs.Lists.{false_branch, some_branch}
use Rattle.ba_scope_ends.specs.Ends.{end_asking, end_owing, end_with_id, same_id}
use Rattle.ba_scope_ends.specs.Parts.{has_no_coordinator, is_enrolled_as, part_asking, part_owing}
use Rattle.ba_scope.specs.Rules.{ScopeStep, flag, with_end_changed, with_up}
use Rattle.ba_scope.specs.Scope.{ScopeState}
use Rattle.ba_scope_ends.specs.declared.ends.End.{End}
use Rattle.ba_scope_ends.specs.declared.parts.Part.{Part}
use Rattle.ba_core.specs.declared.refusals.TheConstants.{NO_SUCH_END, WRONG_STATE}
use Rattle.ba_node_steps.proofs.Members.{number_is_same, same_by_number}
use Rattle.ba_node_steps.proofs.Objects.{no_end_is_a_part}
use Rattle.ba_node_steps.proofs.Own.{asking_who, end_changed, owing_who, up_changed}
use Rattle.ba_node_steps.proofs.Places.{first_is}
use Rattle.ba_node_steps.specs.Fits.{NodeFits}
use Rattle.ba_node_steps.specs.Node.{EndPlace, NodeState, PartPlace, counter, end_place, lone, nowhere, part_place, upward}
use Rattle.ba_node_steps.specs.Steps.{NodeStep, accepted_step, ask_end, ask_part, if_placed, on_ask, on_end_asked, on_part_asked, refusal_step}
use Rattle.ba_node_steps.specs.Steps.{written_step}
use Rattle.ba_node_steps.specs.declared.answers.Reply.TheVariants as reply
use Rattle.ba_node_steps.specs.declared.answers.Wake.TheVariants as wake

pub true_branch : {X : Type 0} (b : Bool) (x y : X) → b ≡ true → (if b then x else y) ≡ x
true_branch true x y h = refl
true_branch false x y h = absurd cc

pub not_true_is_false : (b : Bool) → not b ≡ true → b ≡ false
not_true_is_false true h = absurd cc
not_true_is_false false h = refl

none_branch : {X R : Type 0} (o : Option X) (none : R) (some : X → R) → o ≡ None → (elim o [ None ↦ none | Some y ↦ some y ]) ≡ none
none_branch o none some is = ap (λ p. elim p [ None ↦ none | Some y ↦ some y ]) is

-- ---- a flag of an end, and of an own participant

flag_at_end : (s : ScopeState) (e : End) (has : Part → Bool) (part_with : Part → Part) (end_has : End → Bool) (end_with : End → End)
    → end_with_id s.ends e.id ≡ Some e → (flag s e.id has part_with end_has end_with).after ≡ with_end_changed e.id end_with s
flag_at_end s e has part_with end_has end_with found =
    ap (λ (t : ScopeStep Bool). t.after) (some_branch (end_with_id s.ends e.id) _ _ e found)

flag_above : (s : ScopeState) (p : Part) (has : Part → Bool) (part_with : Part → Part) (end_has : End → Bool) (end_with : End → End)
    → end_with_id s.ends p.id ≡ None → s.up ≡ Some p → has_no_coordinator p.state ≡ false
    → (flag s p.id has part_with end_has end_with).after ≡ with_up s (part_with p)
flag_above s p has part_with end_has end_with none up answered =
    let enrolled : is_enrolled_as p.id p ≡ true =
    and_from (same_id p.id p.id) (not (has_no_coordinator p.state)) (number_is_same p.id p.id refl) (ap not answered) in
    ap (λ (t : ScopeStep Bool). t.after)
    (none_branch (end_with_id s.ends p.id) _ _ none ∙ some_branch s.up _ _ p up ∙ true_branch (is_enrolled_as p.id p) _ _ enrolled)

-- no end of its scope has a participant's identifier
pub up_is_no_end : (n : NodeState) (id : Id) (place : ℕ) (s : ScopeState) (p : Part) → NodeFits n → FindsUp n id place s p
    → end_with_id s.ends p.id ≡ None
up_is_no_end n id place s p fits finds = by_end (end_with_id s.ends p.id) refl
  where
    by_end : (o : Option End) → end_with_id s.ends p.id ≡ o → o ≡ None
    by_end None is = refl
    by_end (Some e) is =
        let first = first_is (λ (x : End). same_id x.id p.id) s.ends e is in
        let scope = among_at n.scopes place s finds.at in
        absurd (no_end_is_a_part n s e p fits scope first.0 (inr (s, scope, finds.up)) (same_by_number e.id p.id first.1))

-- ---- Ask

pub end_asks : (n : NodeState) (id : Id) (place : ℕ) (s : ScopeState) (e : End) → NodeFits n → FindsEnd n id place s e → e.asks ≡ false
    → written_step (changed_node n (changes.Scope place (by_scope.Ask e.id))) reply.Accepted (journal.Asked (counter e.id)) (wake.One e.id)
    ≡ ask_end n s e
end_asks n id place s e fits finds first =
    let found : end_with_id s.ends e.id ≡ Some e = subst (λ (i : Id). end_with_id s.ends i ≡ Some e) (sym finds.is) finds.found in
    scope_written n place s (with_end_changed e.id end_asking s) (by_scope.Ask e.id) (journal.Asked (counter e.id)) (wake.One e.id) fits
    finds.at (flag_at_end s e (λ p. p.asks) part_asking (λ x. x.asks) end_asking found) (end_changed s e.id end_asking asking_who).own
    ∙ sym (false_branch e.asks (accepted_step n) _ first)

pub lone_asks : (n : NodeState) (id : Id) (place : ℕ) (p : Part) → NodeFits n → FindsLone n id place p
    → has_no_coordinator p.state ≡ false → p.asks ≡ false
    → written_step (changed_node n (changes.Part place by_part.Ask)) reply.Accepted (journal.Asked (counter p.id)) (wake.One p.id)
    ≡ ask_part n (lone p) p
lone_asks n id place p fits finds answered first =
    lone_written n place p by_part.Ask (journal.Asked (counter p.id)) (wake.One p.id) fits finds.at refl
    ∙ sym (false_branch (has_no_coordinator p.state) (refusal_step n WRONG_STATE p.id) _ answered
    ∙ false_branch p.asks (accepted_step n) _ first)

pub up_asks : (n : NodeState) (id : Id) (place : ℕ) (s : ScopeState) (p : Part) → NodeFits n → FindsUp n id place s p
    → has_no_coordinator p.state ≡ false → p.asks ≡ false
    → written_step (changed_node n (changes.Scope place (by_scope.Ask p.id))) reply.Accepted (journal.Asked (counter p.id)) (wake.One p.id)
    ≡ ask_part n (upward s p) p
up_asks n id place s p fits finds answered first =
    let none = up_is_no_end n id place s p fits finds in
    scope_written n place s (with_up s (part_asking p)) (by_scope.Ask p.id) (journal.Asked (counter p.id)) (wake.One p.id) fits finds.at
    (flag_above s p (λ q. q.asks) part_asking (λ x. x.asks) end_asking none finds.up answered)
    (up_changed s p (part_asking p) finds.up refl)
    ∙ sym (false_branch (has_no_coordinator p.state) (refusal_step n WRONG_STATE p.id) _ answered
    ∙ false_branch p.asks (accepted_step n) _ first)

-- what changes nothing
pub end_asks_already : (n : NodeState) (s : ScopeState) (e : End) → e.asks ≡ true → accepted_step n ≡ ask_end n s e
end_asks_already n s e h = sym (true_branch e.asks (accepted_step n) _ h)

pub part_asks_already : (n : NodeState) (place : PartPlace) (p : Part) → has_no_coordinator p.state ≡ false
    → p.asks ≡ true → accepted_step n ≡ ask_part n place p
part_asks_already n place p answered h =
    sym (false_branch (has_no_coordinator p.state) (refusal_step n WRONG_STATE p.id) _ answered ∙ true_branch p.asks (accepted_step n) _ h)

pub part_asks_nobody : (n : NodeState) (place : PartPlace) (p : Part) → has_no_coordinator p.state ≡ true
    → refusal_step n WRONG_STATE p.id ≡ ask_part n place p
part_asks_nobody n place p h = sym (true_branch (has_no_coordinator p.state) (refusal_step n WRONG_STATE p.id) _ h)

-- ---- GetStatus

pub end_owes : (n : NodeState) (id : Id) (place : ℕ) (s : ScopeState) (e : End) → NodeFits n → FindsEnd n id place s e → e.owes ≡ false
    → written_step (changed_node n (changes.Scope place (by_scope.Owe e.id))) reply.Accepted
    (journal.Received (counter e.id) notice.GetStatus) (wake.One e.id)
    ≡ on_end_asked n s e
end_owes n id place s e fits finds first =
    let found : end_with_id s.ends e.id ≡ Some e = subst (λ (i : Id). end_with_id s.ends i ≡ Some e) (sym finds.is) finds.found in
    scope_written n place s (with_end_changed e.id end_owing s) (by_scope.Owe e.id) (journal.Received (counter e.id) notice.GetStatus)
    (wake.One e.id) fits finds.at (flag_at_end s e (λ p. p.owes) part_owing (λ x. x.owes) end_owing found)
    (end_changed s e.id end_owing owing_who).own
    ∙ sym (false_branch e.owes (accepted_step n) _ first)

pub lone_owes : (n : NodeState) (id : Id) (place : ℕ) (p : Part) → NodeFits n → FindsLone n id place p → p.owes ≡ false
    → written_step (changed_node n (changes.Part place by_part.Owe)) reply.Accepted
    (journal.Received (counter p.id) notice.GetStatus) (wake.One p.id)
    ≡ on_part_asked n (lone p) p
lone_owes n id place p fits finds first =
    lone_written n place p by_part.Owe (journal.Received (counter p.id) notice.GetStatus) (wake.One p.id) fits finds.at refl
    ∙ sym (false_branch p.owes (accepted_step n) _ first)

pub up_owes : (n : NodeState) (id : Id) (place : ℕ) (s : ScopeState) (p : Part) → NodeFits n → FindsUp n id place s p
    → has_no_coordinator p.state ≡ false → p.owes ≡ false
    → written_step (changed_node n (changes.Scope place (by_scope.Owe p.id))) reply.Accepted
    (journal.Received (counter p.id) notice.GetStatus) (wake.One p.id)
    ≡ on_part_asked n (upward s p) p
up_owes n id place s p fits finds answered first =
    let none = up_is_no_end n id place s p fits finds in
    scope_written n place s (with_up s (part_owing p)) (by_scope.Owe p.id) (journal.Received (counter p.id) notice.GetStatus)
    (wake.One p.id)
    fits finds.at (flag_above s p (λ q. q.owes) part_owing (λ x. x.owes) end_owing none finds.up answered)
    (up_changed s p (part_owing p) finds.up refl)
    ∙ sym (false_branch p.owes (accepted_step n) _ first)

pub end_owes_already : (n : NodeState) (s : ScopeState) (e : End) → e.owes ≡ true → accepted_step n ≡ on_end_asked n s e
end_owes_already n s e h = sym (true_branch e.owes (accepted_step n) _ h)

pub part_owes_already : (n : NodeState) (place : PartPlace) (p : Part) → p.owes ≡ true
    → accepted_step n ≡ on_part_asked n place p
part_owes_already n place p h = sym (true_branch p.owes (accepted_step n) _ h)

-- ---- where Ask finds what it is to ask of

abbrev asking_at : NodeState → EndPlace → NodeStep
asking_at n at = ask_end n at.scope at.end

abbrev asking_part : NodeState → Id → PartPlace → NodeStep
asking_part n id place = if_placed place (refusal_step n NO_SUCH_END id) (ask_part n place)

pub asks_at_end : (n : NodeState) (id : Id) (place : ℕ) (s : ScopeState) (e : End) → FindsEnd n id place s e → ask_end n s e ≡ on_ask n id
asks_at_end n id place s e finds =
    found_step (end_place n id) (asking_part n id (part_place n id)) (asking_at n) (end_at s e) finds.placed

asks_no_end : (n : NodeState) (id : Id) → end_place n id ≡ None → asking_part n id (part_place n id) ≡ on_ask n id
asks_no_end n id none = none_step (end_place n id) (asking_part n id (part_place n id)) (asking_at n) none

pub asks_at_lone : (n : NodeState) (id : Id) (place : ℕ) (p : Part) → FindsLone n id place p → end_place n id ≡ None
    → ask_part n (lone p) p ≡ on_ask n id
asks_at_lone n id place p finds none = ap (asking_part n id) (sym finds.placed) ∙ asks_no_end n id none

pub asks_at_up : (n : NodeState) (id : Id) (place : ℕ) (s : ScopeState) (p : Part) → FindsUp n id place s p → end_place n id ≡ None
    → ask_part n (upward s p) p ≡ on_ask n id
asks_at_up n id place s p finds none = ap (asking_part n id) (sym finds.placed) ∙ asks_no_end n id none

pub asks_nowhere : (n : NodeState) (id : Id) → end_place n id ≡ None → part_place n id ≡ nowhere → refusal_step n NO_SUCH_END id
    ≡ on_ask n id
asks_nowhere n id none nobody = ap (asking_part n id) (sym nobody) ∙ asks_no_end n id none

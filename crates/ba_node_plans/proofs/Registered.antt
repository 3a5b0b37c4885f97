-- The plans of what the Register of a participant came to: it is enrolled or refused for good, where it stands.
use Rattle.std.proofs.Common.{◌≡◌, ℕ, Bool, true, false, not, IfOk, List, None, Some, Result, Ok, Err, refl, sym, ap, ◌∙◌, if◌then◌else◌}
use Rattle.std.specs.Option.{option_map}
use Rattle.ba_core.specs.declared.codes.Code.{Code}
use Rattle.ba_core.specs.declared.identifiers.Id.{Id}
use Rattle.ba_message.proofs.Dialed.{tells_dialable}
use Rattle.ba_message.specs.Addresses.{IsDialable}
use Rattle.ba_message.specs.Dialing.{is_dialable}
use Rattle.ba_message.specs.declared.endpoints.Epr.{Epr}
use Rattle.ba_node_plans.proofs.Asked.{true_branch}
use Rattle.ba_node_plans.proofs.Planned.{found_step, lone_written, none_step, scope_written}
use Rattle.ba_node_objects.specs.Changes.{changed_node}
use Rattle.ba_node_objects.specs.declared.changes.Change.TheVariants as changes
use Rattle.ba_node_objects.specs.declared.changes.PartChange.TheVariants as by_part
use Rattle.ba_node_objects.specs.declared.changes.ScopeChange.TheVariants as by_scope
use Rattle.ba_node_objects.specs.Finds.{FindsLone, FindsUp}
use Rattle.ba_record.specs.declared.records.Record.TheVariants as journal
use Rattle.ba_scope.proofs.Lists.{false_branch}
use Rattle.ba_scope_ends.specs.Parts.{enrolled_part, is_registering, refused_part}
use Rattle.ba_scope.specs.Rules.{enrolled_scope, refused_scope, with_up}
use Rattle.ba_scope.specs.Scope.{ScopeState}
use Rattle.ba_scope_ends.specs.declared.parts.Part.{Part}
use Rattle.ba_node_steps.proofs.Own.{up_changed}
use Rattle.ba_node_steps.specs.Fits.{NodeFits}
use Rattle.ba_node_steps.specs.Node.{NodeState, PartPlace, counter, lone, nowhere, part_place, upward, with_part_changed}
use Rattle.ba_node_steps.specs.Steps.{NodeStep, accepted_step, if_found, if_placed, is_registering_state, on_enrolled, on_refused_by}
use Rattle.ba_node_steps.specs.Steps.{refusal_number, refusal_step, written_step}
use Rattle.ba_node_steps.specs.declared.answers.Reply.TheVariants as reply
use Rattle.ba_core.specs.declared.refusals.TheConstants.{BAD_ADDRESS, NO_SUCH_PART}
use Rattle.ba_node_steps.specs.declared.answers.Wake.TheVariants as wake

-- two tests that are true together are one
same_truth : (a b : Bool) → (a ≡ true → b ≡ true) → (b ≡ true → a ≡ true) → a ≡ b
same_truth true true h k = refl
same_truth true false h k = sym (h refl)
same_truth false true h k = k refl
same_truth false false h k = refl

pub dialing_is : (b : Bool) (address : List ℕ) → (b ≡ true → IsDialable address) → (IsDialable address → b ≡ true) → b ≡ is_dialable address
dialing_is b address h k =
    let tells = tells_dialable address in
    same_truth b (is_dialable address) (λ is. tells.1 (h is)) (λ is. k (tells.0 is))

-- ---- refused

abbrev refusing : NodeState → Id → Code → PartPlace → Part → NodeStep
refusing n id c place p =
    if not (is_registering_state p.state) then accepted_step n
    else if_found (refusal_number c) (accepted_step n) (λ number.
    written_step (with_part_changed n place refused_part) reply.Accepted (journal.Refused (counter id) number) (wake.One id))

abbrev refusing_at : NodeState → Id → Code → PartPlace → NodeStep
refusing_at n id c place = if_placed place (refusal_step n NO_SUCH_PART id) (refusing n id c place)

pub refused_nowhere : (n : NodeState) (id : Id) (c : Code) → part_place n id ≡ nowhere
    → refusal_step n NO_SUCH_PART id ≡ on_refused_by n id c
refused_nowhere n id c none = ap (refusing_at n id c) (sym none)

pub lone_refusing : (n : NodeState) (id : Id) (c : Code) (p : Part) → part_place n id ≡ lone p
    → refusing n id c (lone p) p ≡ on_refused_by n id c
lone_refusing n id c p placed = ap (refusing_at n id c) (sym placed)

pub up_refusing : (n : NodeState) (id : Id) (c : Code) (s : ScopeState) (p : Part) → part_place n id ≡ upward s p
    → refusing n id c (upward s p) p ≡ on_refused_by n id c
up_refusing n id c s p placed = ap (refusing_at n id c) (sym placed)

pub refused_already : (n : NodeState) (id : Id) (c : Code) (place : PartPlace) (p : Part) → is_registering_state p.state ≡ false
    → accepted_step n ≡ refusing n id c place p
refused_already n id c place p h = sym (true_branch (not (is_registering_state p.state)) (accepted_step n) _ (ap not h))

pub refused_by_other : (n : NodeState) (id : Id) (c : Code) (place : PartPlace) (p : Part) → is_registering_state p.state ≡ true
    → refusal_number c ≡ None → accepted_step n ≡ refusing n id c place p
refused_by_other n id c place p registers none =
    none_step (refusal_number c) (accepted_step n) _ none
    ∙ sym (false_branch (not (is_registering_state p.state)) (accepted_step n) _ (ap not registers))

refused_by_number : (n : NodeState) (id : Id) (c : Code) (place : PartPlace) (p : Part) (number : ℕ) → is_registering_state p.state ≡ true
    → refusal_number c ≡ Some number
    → written_step (with_part_changed n place refused_part) reply.Accepted (journal.Refused (counter id) number) (wake.One id)
    ≡ refusing n id c place p
refused_by_number n id c place p number registers is =
    found_step (refusal_number c) (accepted_step n)
    (λ number. written_step (with_part_changed n place refused_part) reply.Accepted (journal.Refused (counter id) number)
    (wake.One id)) number is
    ∙ sym (false_branch (not (is_registering_state p.state)) (accepted_step n) _ (ap not registers))

pub lone_refused : (n : NodeState) (id : Id) (c : Code) (place : ℕ) (p : Part) (number : ℕ) → NodeFits n → FindsLone n id place p
    → is_registering_state p.state ≡ true → refusal_number c ≡ Some number
    → written_step (changed_node n (changes.Part place by_part.Refused)) reply.Accepted (journal.Refused (counter p.id) number)
    (wake.One p.id)
    ≡ on_refused_by n id c
lone_refused n id c place p number fits finds registers is =
    ap (λ (i : Id). written_step (changed_node n (changes.Part place by_part.Refused)) reply.Accepted (journal.Refused
    (counter i) number) (wake.One i)) finds.is
    ∙ lone_written n place p by_part.Refused (journal.Refused (counter id) number) (wake.One id) fits finds.at refl
    ∙ refused_by_number n id c (lone p) p number registers is ∙ lone_refusing n id c p finds.placed

pub up_refused : (n : NodeState) (id : Id) (c : Code) (place : ℕ) (s : ScopeState) (p : Part) (number : ℕ) → NodeFits n
    → FindsUp n id place s p → is_registering_state p.state ≡ true → refusal_number c ≡ Some number
    → written_step (changed_node n (changes.Scope place by_scope.Refused)) reply.Accepted (journal.Refused (counter p.id) number)
    (wake.One p.id)
    ≡ on_refused_by n id c
up_refused n id c place s p number fits finds registers is =
    let after : refused_scope s ≡ with_up s (refused_part p) = (λ i. record s { up = option_map refused_part (finds.up i) }) in
    ap (λ (i : Id). written_step (changed_node n (changes.Scope place by_scope.Refused)) reply.Accepted (journal.Refused
    (counter i) number) (wake.One i)) finds.is
    ∙ scope_written n place s (with_up s (refused_part p)) by_scope.Refused (journal.Refused (counter id) number)
    (wake.One id) fits finds.at
    after (up_changed s p (refused_part p) finds.up refl)
    ∙ refused_by_number n id c (upward s p) p number registers is ∙ up_refusing n id c s p finds.placed

-- ---- enrolled

abbrev enrolling : NodeState → Id → Epr → PartPlace → Part → NodeStep
enrolling n id coordinator place p =
    if not (is_registering_state p.state) then accepted_step n
    else if not (is_dialable coordinator.address) then refusal_step n BAD_ADDRESS id
    else written_step (with_part_changed n place (enrolled_part coordinator)) reply.Accepted
    (journal.Enrolled (counter id) coordinator) (wake.One id)

abbrev enrolling_at : NodeState → Id → Epr → PartPlace → NodeStep
enrolling_at n id coordinator place = if_placed place (refusal_step n NO_SUCH_PART id) (enrolling n id coordinator place)

pub enrolled_nowhere : (n : NodeState) (id : Id) (coordinator : Epr) → part_place n id ≡ nowhere
    → refusal_step n NO_SUCH_PART id ≡ on_enrolled n id coordinator
enrolled_nowhere n id coordinator none = ap (enrolling_at n id coordinator) (sym none)

pub lone_enrolling : (n : NodeState) (id : Id) (coordinator : Epr) (p : Part) → part_place n id ≡ lone p
    → enrolling n id coordinator (lone p) p ≡ on_enrolled n id coordinator
lone_enrolling n id coordinator p placed = ap (enrolling_at n id coordinator) (sym placed)

pub up_enrolling : (n : NodeState) (id : Id) (coordinator : Epr) (s : ScopeState) (p : Part) → part_place n id ≡ upward s p
    → enrolling n id coordinator (upward s p) p ≡ on_enrolled n id coordinator
up_enrolling n id coordinator s p placed = ap (enrolling_at n id coordinator) (sym placed)

pub enrolled_already : (n : NodeState) (id : Id) (coordinator : Epr) (place : PartPlace) (p : Part) → is_registering_state p.state ≡ false
    → accepted_step n ≡ enrolling n id coordinator place p
enrolled_already n id coordinator place p h = sym (true_branch (not (is_registering_state p.state)) (accepted_step n) _ (ap not h))

pub enrolled_badly : (n : NodeState) (id : Id) (coordinator : Epr) (place : PartPlace) (p : Part) → is_registering_state p.state ≡ true
    → is_dialable coordinator.address ≡ false → refusal_step n BAD_ADDRESS id ≡ enrolling n id coordinator place p
enrolled_badly n id coordinator place p registers bad =
    sym (false_branch (not (is_registering_state p.state)) (accepted_step n) _ (ap not registers)
    ∙ true_branch (not (is_dialable coordinator.address)) (refusal_step n BAD_ADDRESS id) _ (ap not bad))

enrolled_well : (n : NodeState) (id : Id) (coordinator : Epr) (place : PartPlace) (p : Part) → is_registering_state p.state ≡ true
    → is_dialable coordinator.address ≡ true
    → written_step (with_part_changed n place (enrolled_part coordinator)) reply.Accepted (journal.Enrolled (counter id) coordinator)
    (wake.One id)
    ≡ enrolling n id coordinator place p
enrolled_well n id coordinator place p registers good =
    sym (false_branch (not (is_registering_state p.state)) (accepted_step n) _ (ap not registers)
    ∙ false_branch (not (is_dialable coordinator.address)) (refusal_step n BAD_ADDRESS id) _ (ap not good))

pub lone_enrolled : (n : NodeState) (id : Id) (coordinator : Epr) (place : ℕ) (p : Part) → NodeFits n → FindsLone n id place p
    → is_registering_state p.state ≡ true → is_dialable coordinator.address ≡ true
    → written_step (changed_node n (changes.Part place (by_part.Enrolled coordinator))) reply.Accepted
    (journal.Enrolled (counter p.id) coordinator) (wake.One p.id)
    ≡ on_enrolled n id coordinator
lone_enrolled n id coordinator place p fits finds registers good =
    ap (λ (i : Id). written_step (changed_node n (changes.Part place (by_part.Enrolled coordinator))) reply.Accepted
    (journal.Enrolled (counter i) coordinator) (wake.One i)) finds.is
    ∙ lone_written n place p (by_part.Enrolled coordinator) (journal.Enrolled (counter id) coordinator) (wake.One id) fits finds.at refl
    ∙ enrolled_well n id coordinator (lone p) p registers good ∙ lone_enrolling n id coordinator p finds.placed

pub up_enrolled : (n : NodeState) (id : Id) (coordinator : Epr) (place : ℕ) (s : ScopeState) (p : Part) → NodeFits n
    → FindsUp n id place s p → is_registering_state p.state ≡ true → is_dialable coordinator.address ≡ true
    → written_step (changed_node n (changes.Scope place (by_scope.Enrolled coordinator))) reply.Accepted
    (journal.Enrolled (counter p.id) coordinator) (wake.One p.id)
    ≡ on_enrolled n id coordinator
up_enrolled n id coordinator place s p fits finds registers good =
    let after : enrolled_scope coordinator s ≡ with_up s (enrolled_part coordinator p) =
    (λ i. record s { up = option_map (enrolled_part coordinator) (finds.up i) }) in
    ap (λ (i : Id). written_step (changed_node n (changes.Scope place (by_scope.Enrolled coordinator))) reply.Accepted
    (journal.Enrolled (counter i) coordinator) (wake.One i)) finds.is
    ∙ scope_written n place s (with_up s (enrolled_part coordinator p)) (by_scope.Enrolled coordinator)
    (journal.Enrolled (counter id) coordinator) (wake.One id) fits finds.at after (up_changed s p
    (enrolled_part coordinator p) finds.up refl)
    ∙ enrolled_well n id coordinator (upward s p) p registers good ∙ up_enrolling n id coordinator s p finds.placed

-- a participant that is Registering stands above a scope that is Registering
pub above_registers : (s : ScopeState) (p : Part) → s.up ≡ Some p → is_registering_state p.state ≡ true
    → is_registering s.up ≡ true
above_registers s p up registers = ap is_registering up ∙ registers

-- what follows from what holds on Ok
pub at_ok : {A E : Type 0} (P Q : A → Type 0) (r : Result A E) → ((a : A) → P a → Q a) → IfOk r P → IfOk r Q
at_ok P Q (Ok a) f h = f a h
at_ok P Q (Err e) f h = tt

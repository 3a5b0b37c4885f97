-- What a proposal comes to is the step of its input: by what a look-up finds, and by what a rule of a scope answers; for each proposal.
use Rattle.std.proofs.Common.{◌≡◌, ℕ, Option, None, Some, slice_get, refl, sym, ap, ◌∙◌, subst}
use Rattle.ba_core.specs.EndRows.{chosen_state}
use Rattle.ba_core.specs.declared.identifiers.Id.{Id}
use Rattle.ba_core.specs.declared.notices.Act.{Act}
use Rattle.ba_core.specs.declared.notices.Act.TheVariants as act
use Rattle.ba_core.specs.declared.notices.Leave.{Leave}
use Rattle.ba_core.specs.declared.protocols.Verdict.{Verdict}
use Rattle.ba_node_plans.proofs.Placed.{lone_placed, scope_placed}
use Rattle.ba_node_objects.specs.Changes.{Suits, SuitsPart, SuitsScope, changed_node, changed_part, changed_scope}
use Rattle.ba_node_objects.specs.Objects.{NodeInMemory}
use Rattle.ba_node_objects.specs.declared.changes.Change.{Change}
use Rattle.ba_node_objects.specs.declared.changes.Change.TheVariants as changes
use Rattle.ba_node_objects.specs.declared.changes.PartChange.{PartChange}
use Rattle.ba_node_objects.specs.declared.changes.ScopeChange.{ScopeChange}
use Rattle.ba_node_objects.specs.declared.changes.ScopeChange.TheVariants as by_scope
use Rattle.ba_node_objects.specs.Finds.{FindsEnd, FindsScope}
use Rattle.ba_record.specs.declared.records.Record.{Record}
use Rattle.ba_record.specs.declared.records.Record.TheVariants as journal
use Rattle.ba_scope.specs.Rules.{ScopeStep, choose, complete, decide, finish, leave_act, leave_by}
use Rattle.ba_scope.specs.Scope.{ScopeState}
use Rattle.ba_scope.specs.declared.answers.Said.{Said}
use Rattle.ba_scope.specs.declared.answers.Said.TheVariants as said
use Rattle.ba_core.specs.declared.refusals.TheConstants.{NO_SUCH_END, NOT_A_CHILD}
use Rattle.ba_scope_ends.specs.declared.ends.End.{End}
use Rattle.ba_scope_ends.specs.declared.parts.Part.{Part}
use Rattle.ba_node_steps.proofs.NodeKept.{id_kept}
use Rattle.ba_node_steps.proofs.Own.{SameOwn, choose_own, complete_own, decide_own}
use Rattle.ba_node_steps.specs.Fits.{NodeFits}
use Rattle.ba_node_steps.specs.Node.{EndPlace, NodeState, counter, end_place, scope_with_id, with_lone, with_scope}
use Rattle.ba_node_steps.specs.Steps.{NodeStep, choice_number, complete_number, if_found, on_choose, on_complete, on_decide, on_finish}
use Rattle.ba_node_steps.specs.Steps.{on_leave, refusal_step, rule_step, up_act_step, wake_of_choice, written_step}
use Rattle.ba_node_steps.specs.declared.answers.Reply.TheVariants as reply
use Rattle.ba_core.specs.declared.refusals.TheConstants.{NO_SUCH_SCOPE}
use Rattle.ba_node_steps.specs.declared.answers.Wake.{Wake}
use Rattle.ba_node_steps.specs.declared.answers.Wake.TheVariants as wake

-- ---- by what a look-up finds

pub found_step : {A B : Type 0} (o : Option A) (otherwise : B) (next : A → B) (a : A) → o ≡ Some a → next a ≡ if_found o otherwise next
found_step o otherwise next a is = ap (λ p. if_found p otherwise next) (sym is)

pub none_step : {A B : Type 0} (o : Option A) (otherwise : B) (next : A → B) → o ≡ None → otherwise ≡ if_found o otherwise next
none_step o otherwise next is = ap (λ p. if_found p otherwise next) (sym is)

-- ---- a rule of a scope

abbrev by_answer : NodeState → ScopeState → Record → Wake → Said → NodeStep
by_answer n after k w a = elim a [
  | said.No number id ↦ refusal_step n number id
  | said.Ok ↦ written_step (with_scope n after) reply.Accepted k w
]

pub rule_refused : (n : NodeState) (rule : ScopeStep Said) (k : Record) (w : Wake) (number : ℕ) (id : Id)
    → said.No number id ≡ rule.answer → refusal_step n number id ≡ rule_step n rule k w
rule_refused n rule k w number id is = ap (by_answer n rule.after k w) is

pub rule_done : (n : NodeState) (rule : ScopeStep Said) (k : Record) (w : Wake) → said.Ok ≡ rule.answer
    → written_step (with_scope n rule.after) reply.Accepted k w ≡ rule_step n rule k w
rule_done n rule k w is = ap (by_answer n rule.after k w) is

-- ---- what changes where it stands

pub scope_in_place : (n : NodeState) (place : ℕ) (s new : ScopeState) (change : ScopeChange) → NodeFits n
    → slice_get n.scopes place ≡ Some s → changed_scope change s ≡ new → SameOwn s new
    → changed_node n (changes.Scope place change) ≡ with_scope n new
scope_in_place n place s new change fits at same own =
    let ids : (changed_scope change s).id ≡ s.id = ap (λ (t : ScopeState). t.id) same ∙ id_kept s new own in
    scope_placed n place s (changed_scope change) fits at ids ∙ ap (with_scope n) same

pub scope_written : (n : NodeState) (place : ℕ) (s new : ScopeState) (change : ScopeChange) (k : Record) (w : Wake) → NodeFits n
    → slice_get n.scopes place ≡ Some s → changed_scope change s ≡ new → SameOwn s new
    → written_step (changed_node n (changes.Scope place change)) reply.Accepted k w ≡ written_step (with_scope n new) reply.Accepted k w
scope_written n place s new change k w fits at same own =
    ap (λ (m : NodeState). written_step m reply.Accepted k w) (scope_in_place n place s new change fits at same own)

pub lone_written : (n : NodeState) (place : ℕ) (p : Part) (change : PartChange) (k : Record) (w : Wake) → NodeFits n
    → slice_get n.parts place ≡ Some p → (changed_part change p).id ≡ p.id
    → written_step (changed_node n (changes.Part place change)) reply.Accepted k w
    ≡ written_step (with_lone n (changed_part change p)) reply.Accepted k w
lone_written n place p change k w fits at own =
    ap (λ (m : NodeState). written_step m reply.Accepted k w) (lone_placed n place p (changed_part change) fits at own)

-- ---- Decide

abbrev deciding : NodeState → Id → Verdict → ScopeState → NodeStep
deciding n id v s = rule_step n (decide s v) (journal.Decided (counter id) v) (wake.Scope id)

pub decided_nowhere : (n : NodeState) (id : Id) (v : Verdict) → scope_with_id n id ≡ None
    → refusal_step n NO_SUCH_SCOPE id ≡ on_decide n id v
decided_nowhere n id v none = none_step (scope_with_id n id) (refusal_step n NO_SUCH_SCOPE id) (deciding n id v) none

pub decision_refused : (n : NodeState) (id : Id) (v : Verdict) (place : ℕ) (s : ScopeState) (number : ℕ) (shown : Id)
    → FindsScope n id place s → said.No number shown ≡ (decide s v).answer → refusal_step n number shown ≡ on_decide n id v
decision_refused n id v place s number shown finds is =
    rule_refused n (decide s v) (journal.Decided (counter id) v) (wake.Scope id) number shown is
    ∙ found_step (scope_with_id n id) (refusal_step n NO_SUCH_SCOPE id) (deciding n id v) s finds.found

pub decision_done : (n : NodeState) (id : Id) (v : Verdict) (place : ℕ) (s : ScopeState) → NodeFits n
    → FindsScope n id place s → said.Ok ≡ (decide s v).answer
    → written_step (changed_node n (changes.Scope place (by_scope.Decide v))) reply.Accepted (journal.Decided (counter id) v)
    (wake.Scope id)
    ≡ on_decide n id v
decision_done n id v place s fits finds is =
    let k : Record = journal.Decided (counter id) v in
    scope_written n place s (decide s v).after (by_scope.Decide v) k (wake.Scope id) fits finds.at refl (decide_own s v).own
    ∙ rule_done n (decide s v) k (wake.Scope id) is
    ∙ found_step (scope_with_id n id) (refusal_step n NO_SUCH_SCOPE id) (deciding n id v) s finds.found

-- ---- Choose

abbrev choosing : NodeState → Id → Verdict → EndPlace → NodeStep
choosing n id v at =
    rule_step n (choose at.scope id v) (journal.Chosen (counter id) (choice_number v))
    (wake_of_choice at.end (chosen_state at.end.protocol at.end.state v))

pub chosen_nowhere : (n : NodeState) (id : Id) (v : Verdict) → end_place n id ≡ None → refusal_step n NO_SUCH_END id ≡ on_choose n id v
chosen_nowhere n id v none = none_step (end_place n id) (refusal_step n NO_SUCH_END id) (choosing n id v) none

pub choice_refused : (n : NodeState) (id : Id) (v : Verdict) (place : ℕ) (s : ScopeState) (e : End) (number : ℕ) (shown : Id)
    → FindsEnd n id place s e → said.No number shown ≡ (choose s id v).answer → refusal_step n number shown ≡ on_choose n id v
choice_refused n id v place s e number shown finds is =
    rule_refused n (choose s id v) (journal.Chosen (counter id) (choice_number v))
    (wake_of_choice e (chosen_state e.protocol e.state v)) number shown is
    ∙ found_step (end_place n id) (refusal_step n NO_SUCH_END id) (choosing n id v) _ finds.placed

pub choice_done : (n : NodeState) (id : Id) (v : Verdict) (place : ℕ) (s : ScopeState) (e : End) → NodeFits n
    → FindsEnd n id place s e → said.Ok ≡ (choose s id v).answer
    → written_step (changed_node n (changes.Scope place (by_scope.Choose id v))) reply.Accepted
    (journal.Chosen (counter id) (choice_number v)) (wake_of_choice e (chosen_state e.protocol e.state v))
    ≡ on_choose n id v
choice_done n id v place s e fits finds is =
    let k : Record = journal.Chosen (counter id) (choice_number v) in
    let w : Wake = wake_of_choice e (chosen_state e.protocol e.state v) in
    scope_written n place s (choose s id v).after (by_scope.Choose id v) k w fits finds.at refl (choose_own s id v).own
    ∙ rule_done n (choose s id v) k w is
    ∙ found_step (end_place n id) (refusal_step n NO_SUCH_END id) (choosing n id v) _ finds.placed

-- ---- Complete

abbrev completing : NodeState → Id → EndPlace → NodeStep
completing n id at = rule_step n (complete at.scope id) (journal.Chosen (counter id) complete_number) (wake.One id)

pub completed_nowhere : (n : NodeState) (id : Id) → end_place n id ≡ None → refusal_step n NO_SUCH_END id ≡ on_complete n id
completed_nowhere n id none = none_step (end_place n id) (refusal_step n NO_SUCH_END id) (completing n id) none

pub complete_refused : (n : NodeState) (id : Id) (place : ℕ) (s : ScopeState) (e : End) (number : ℕ) (shown : Id)
    → FindsEnd n id place s e → said.No number shown ≡ (complete s id).answer → refusal_step n number shown ≡ on_complete n id
complete_refused n id place s e number shown finds is =
    rule_refused n (complete s id) (journal.Chosen (counter id) complete_number) (wake.One id) number shown is
    ∙ found_step (end_place n id) (refusal_step n NO_SUCH_END id) (completing n id) _ finds.placed

pub complete_done : (n : NodeState) (id : Id) (place : ℕ) (s : ScopeState) (e : End) → NodeFits n
    → FindsEnd n id place s e → said.Ok ≡ (complete s id).answer
    → written_step (changed_node n (changes.Scope place (by_scope.Complete id))) reply.Accepted
    (journal.Chosen (counter id) complete_number) (wake.One id)
    ≡ on_complete n id
complete_done n id place s e fits finds is =
    let k : Record = journal.Chosen (counter id) complete_number in
    scope_written n place s (complete s id).after (by_scope.Complete id) k (wake.One id) fits finds.at refl (complete_own s id).own
    ∙ rule_done n (complete s id) k (wake.One id) is
    ∙ found_step (end_place n id) (refusal_step n NO_SUCH_END id) (completing n id) _ finds.placed

-- ---- Finish and Leave

abbrev up_acting : NodeState → ScopeStep Said → Act → Part → NodeStep
up_acting n rule a up = rule_step n rule (journal.Acted (counter up.id) a) (wake.One up.id)

pub up_act_refused : (n : NodeState) (s : ScopeState) (rule : ScopeStep Said) (a : Act) (p : Part) (number : ℕ) (shown : Id)
    → s.up ≡ Some p → said.No number shown ≡ rule.answer → refusal_step n number shown ≡ up_act_step n s rule a
up_act_refused n s rule a p number shown up is =
    rule_refused n rule (journal.Acted (counter p.id) a) (wake.One p.id) number shown is
    ∙ found_step s.up (refusal_step n NOT_A_CHILD s.id) (up_acting n rule a) p up

pub up_act_done : (n : NodeState) (s : ScopeState) (rule : ScopeStep Said) (a : Act) (p : Part) (place : ℕ) (change : ScopeChange)
    → NodeFits n → slice_get n.scopes place ≡ Some s → SameOwn s rule.after → changed_scope change s ≡ rule.after
    → s.up ≡ Some p → said.Ok ≡ rule.answer
    → written_step (changed_node n (changes.Scope place change)) reply.Accepted (journal.Acted (counter p.id) a) (wake.One p.id)
    ≡ up_act_step n s rule a
up_act_done n s rule a p place change fits at own same up is =
    let k : Record = journal.Acted (counter p.id) a in
    scope_written n place s rule.after change k (wake.One p.id) fits at same own
    ∙ rule_done n rule k (wake.One p.id) is
    ∙ found_step s.up (refusal_step n NOT_A_CHILD s.id) (up_acting n rule a) p up

pub up_act_of_root : (n : NodeState) (s : ScopeState) (rule : ScopeStep Said) (a : Act) (id : Id) → s.id ≡ id → s.up ≡ None
    → refusal_step n NOT_A_CHILD id ≡ up_act_step n s rule a
up_act_of_root n s rule a id is up =
    ap (refusal_step n NOT_A_CHILD) (sym is) ∙ none_step s.up (refusal_step n NOT_A_CHILD s.id) (up_acting n rule a) up

abbrev pub finishing : NodeState → ScopeState → NodeStep
finishing n s = up_act_step n s (finish s) act.Completed

pub finish_at : (n : NodeState) (id : Id) (place : ℕ) (s : ScopeState) → FindsScope n id place s → finishing n s ≡ on_finish n id
finish_at n id place s finds = found_step (scope_with_id n id) (refusal_step n NO_SUCH_SCOPE id) (finishing n) s finds.found

pub finished_nowhere : (n : NodeState) (id : Id) → scope_with_id n id ≡ None → refusal_step n NO_SUCH_SCOPE id ≡ on_finish n id
finished_nowhere n id none = none_step (scope_with_id n id) (refusal_step n NO_SUCH_SCOPE id) (finishing n) none

abbrev pub leaving : NodeState → Leave → ScopeState → NodeStep
leaving n how s = up_act_step n s (leave_by s how) (leave_act how)

pub leave_at : (n : NodeState) (id : Id) (how : Leave) (place : ℕ) (s : ScopeState) → FindsScope n id place s
    → leaving n how s ≡ on_leave n id how
leave_at n id how place s finds = found_step (scope_with_id n id) (refusal_step n NO_SUCH_SCOPE id) (leaving n how) s finds.found

pub left_nowhere : (n : NodeState) (id : Id) (how : Leave) → scope_with_id n id ≡ None → refusal_step n NO_SUCH_SCOPE id ≡ on_leave n id how
left_nowhere n id how none = none_step (scope_with_id n id) (refusal_step n NO_SUCH_SCOPE id) (leaving n how) none

-- ---- what may be changed

pub nothing_suits : (m : NodeInMemory) (c : Change) → c ≡ changes.Nothing → Suits m c
nothing_suits m c is = subst (Suits m) (sym is) tt

pub scope_suits : (m : NodeInMemory) (place : ℕ) (s : ScopeState) (change : ScopeChange) (c : Change)
    → slice_get m.node.scopes place ≡ Some s → SuitsScope s change → c ≡ changes.Scope place change → Suits m c
scope_suits m place s change c here suits is = subst (Suits m) (sym is) (s, here, suits)

pub lone_suits : (m : NodeInMemory) (place : ℕ) (p : Part) (change : PartChange) (c : Change) → slice_get m.node.parts place ≡ Some p
    → SuitsPart p change → c ≡ changes.Part place change → Suits m c
lone_suits m place p change c here suits is = subst (Suits m) (sym is) (p, here, suits)

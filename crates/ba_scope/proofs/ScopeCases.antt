-- What a rule of a scope may lead to: what is to be shown of its step follows from what holds of a refusal and of the way
-- in which it changes the scope; for each law of steps.
use Rattle.std.proofs.Common.{◌≡◌, ℕ, Bool, true, false, not, ◌||◌, Option, None, Some, is_some, refl, true≢false}
use Rattle.std.specs.List.{AllByRecursion}
use Rattle.ba_core.specs.EndRows.{chosen_state, completed_state}
use Rattle.ba_core.specs.PartRows.{acted_state}
use Rattle.ba_core.specs.declared.identifiers.Id.{Id}
use Rattle.ba_core.specs.declared.notices.Act.TheVariants as act
use Rattle.ba_core.specs.declared.notices.Leave.{Leave}
use Rattle.ba_core.specs.declared.protocols.Kind.{Kind}
use Rattle.ba_core.specs.declared.protocols.Kind.TheVariants.{Atomic, Mixed}
use Rattle.ba_core.specs.declared.protocols.Verdict.{Verdict}
use Rattle.ba_core.specs.declared.states.CState.{CState}
use Rattle.ba_core.specs.declared.states.PState.{PState}
use Rattle.ba_scope.proofs.Calls.{atomic_is, by_option, is_absent}
use Rattle.ba_scope.proofs.Lists.{by_test, none_fails}
use Rattle.ba_scope_ends.specs.Ends.{end_in_state, end_with_verdict, is_ready_for, end_with_id, first_failing, is_ended_state, is_ready_state}
use Rattle.ba_scope_ends.specs.Parts.{part_in_state}
use Rattle.ba_scope.specs.Rules.{ScopeStep, choose, choose_for, complete, complete_for, decide, done_step, finish, finish_for, is_atomic}
use Rattle.ba_scope.specs.Rules.{leave_act, leave_by, leave_for, may_leave, refused_step, scope_with_verdict, where_each_end}
use Rattle.ba_scope.specs.Rules.{with_end_changed, with_up}
use Rattle.ba_scope.specs.Scope.{ScopeState}
use Rattle.ba_scope.specs.declared.answers.Said.{Said}
use Rattle.ba_core.specs.declared.refusals.TheConstants.{ALREADY_DECIDED, NOT_A_CHILD, NOT_A_ROOT, NOT_DRAINED, NOT_READY, NO_SUCH_END}
use Rattle.ba_core.specs.declared.refusals.TheConstants.{WRONG_KIND, WRONG_STATE}
use Rattle.ba_scope_ends.specs.declared.ends.End.{End}
use Rattle.ba_scope_ends.specs.declared.parts.Part.{Part}

mixed_if : (kind : Kind) → is_atomic kind ≡ false → kind ≡ Mixed
mixed_if Atomic h = absurd (true≢false h)
mixed_if Mixed h = refl

pub neither_left : (a b : Bool) → (a || b) ≡ false → a ≡ false
neither_left true b h = absurd (true≢false h)
neither_left false b h = refl

pub neither_right : (a b : Bool) → (a || b) ≡ false → b ≡ false
neither_right true b h = absurd (true≢false h)
neither_right false b h = h

-- what holds of a refusal
abbrev pub OfRefusal : (ScopeStep Said → Type 0) → ScopeState → Type 0
OfRefusal P s = (number : ℕ) (id : Id) → P (refused_step s number id)

each_end_cases : (P : ScopeStep Said → Type 0) (s : ScopeState) (test : CState → Bool) (number : ℕ) (after : ScopeState) → OfRefusal P s
    → (AllByRecursion (λ (e : End). test e.state ≡ true) s.ends → P (done_step after)) → P (where_each_end s test number (done_step after))
each_end_cases P s test number after refused done =
    by_option P (first_failing test s.ends) (done_step after) (λ id. refused_step s number id)
    (λ none. done (none_fails test s.ends none)) (λ id is. refused number id)

pub decide_cases : (P : ScopeStep Said → Type 0) (s : ScopeState) (v : Verdict) → OfRefusal P s
    → (s.up ≡ None → s.kind ≡ Atomic → s.verdict ≡ None → AllByRecursion (λ (e : End). is_ready_for v e.state ≡ true) s.ends
    → P (done_step (scope_with_verdict v s)))
    → P (decide s v)
decide_cases P s v refused done =
    by_test P (is_some s.up) (refused_step s NOT_A_ROOT s.id) _ (λ child. refused NOT_A_ROOT s.id) (λ root.
    by_test P (not (is_atomic s.kind)) (refused_step s WRONG_KIND s.id) _ (λ mixed. refused WRONG_KIND s.id) (λ atomic.
    by_test P (is_some s.verdict) (refused_step s ALREADY_DECIDED s.id) _ (λ decided. refused ALREADY_DECIDED s.id) (λ undecided.
    each_end_cases P s (is_ready_for v) NOT_READY (scope_with_verdict v s) refused
    (done (is_absent s.up root) (atomic_is s.kind atomic) (is_absent s.verdict undecided)))))

pub choose_cases : (P : ScopeStep Said → Type 0) (s : ScopeState) (id : Id) (v : Verdict) → OfRefusal P s
    → ((e : End) (next : CState) → end_with_id s.ends id ≡ Some e → s.up ≡ None → s.kind ≡ Mixed → e.verdict ≡ None
    → chosen_state e.protocol e.state v ≡ Some next → P (done_step (with_end_changed id (end_with_verdict v) s)))
    → P (choose s id v)
choose_cases P s id v refused done =
    by_option P (end_with_id s.ends id) (refused_step s NO_SUCH_END id) _ (λ none. refused NO_SUCH_END id) (λ e found.
    by_test P (is_some s.up) (refused_step s NOT_A_ROOT id) _ (λ child. refused NOT_A_ROOT id) (λ root.
    by_test P (is_atomic s.kind) (refused_step s WRONG_KIND id) _ (λ atomic. refused WRONG_KIND id) (λ mixed.
    by_test P (is_some e.verdict) (refused_step s ALREADY_DECIDED id) _ (λ decided. refused ALREADY_DECIDED id) (λ undecided.
    by_state e found (is_absent s.up root) (mixed_if s.kind mixed) (is_absent e.verdict undecided)
    (chosen_state e.protocol e.state v) refl))))
  where
    by_state : (e : End) → end_with_id s.ends id ≡ Some e → s.up ≡ None → s.kind ≡ Mixed → e.verdict ≡ None → (o : Option CState)
        → chosen_state e.protocol e.state v ≡ o → P (choose_for s id v o)
    by_state e found root mixed undecided None is = refused NOT_READY id
    by_state e found root mixed undecided (Some next) is = done e next found root mixed undecided is

pub complete_cases : (P : ScopeStep Said → Type 0) (s : ScopeState) (id : Id) → OfRefusal P s
    → ((e : End) (next : CState) → end_with_id s.ends id ≡ Some e → s.verdict ≡ None → e.verdict ≡ None
    → completed_state e.protocol e.state ≡ Some next → P (done_step (with_end_changed id (end_in_state next) s)))
    → P (complete s id)
complete_cases P s id refused done =
    by_option P (end_with_id s.ends id) (refused_step s NO_SUCH_END id) _ (λ none. refused NO_SUCH_END id) (λ e found.
    by_test P (is_some s.verdict || is_some e.verdict) (refused_step s ALREADY_DECIDED id) _ (λ decided. refused ALREADY_DECIDED id)
    (λ undecided.
    by_state e found (is_absent s.verdict (neither_left (is_some s.verdict) (is_some e.verdict) undecided))
    (is_absent e.verdict (neither_right (is_some s.verdict) (is_some e.verdict) undecided)) (completed_state e.protocol e.state) refl))
  where
    by_state : (e : End) → end_with_id s.ends id ≡ Some e → s.verdict ≡ None → e.verdict ≡ None → (o : Option CState)
        → completed_state e.protocol e.state ≡ o → P (complete_for s id o)
    by_state e found open_ undecided None is = refused WRONG_STATE id
    by_state e found open_ undecided (Some next) is = done e next found open_ undecided is

pub finish_cases : (P : ScopeStep Said → Type 0) (s : ScopeState) → OfRefusal P s
    → ((up : Part) (next : PState) → s.up ≡ Some up → acted_state up.protocol up.state act.Completed ≡ Some next
    → AllByRecursion (λ (e : End). is_ready_state e.state ≡ true) s.ends → P (done_step (with_up s (part_in_state next up))))
    → P (finish s)
finish_cases P s refused done =
    by_option P s.up (refused_step s NOT_A_CHILD s.id) _ (λ root. refused NOT_A_CHILD s.id)
    (λ up is. by_state up is (acted_state up.protocol up.state act.Completed) refl)
  where
    by_state : (up : Part) → s.up ≡ Some up → (o : Option PState) → acted_state up.protocol up.state act.Completed ≡ o
        → P (finish_for s up o)
    by_state up is None acts = refused WRONG_STATE s.id
    by_state up is (Some next) acts =
        each_end_cases P s is_ready_state NOT_READY (with_up s (part_in_state next up)) refused (done up next is acts)

pub leave_cases : (P : ScopeStep Said → Type 0) (s : ScopeState) (how : Leave) → OfRefusal P s
    → ((up : Part) (next : PState) → s.up ≡ Some up → may_leave up.state ≡ true
    → acted_state up.protocol up.state (leave_act how) ≡ Some next
    → AllByRecursion (λ (e : End). is_ended_state e.state ≡ true) s.ends → P (done_step (with_up s (part_in_state next up))))
    → P (leave_by s how)
leave_cases P s how refused done =
    by_option P s.up (refused_step s NOT_A_CHILD s.id) _ (λ root. refused NOT_A_CHILD s.id) (λ up is.
    by_test P (may_leave up.state) (leave_for s up (acted_state up.protocol up.state (leave_act how))) _
    (λ may. by_state up is may (acted_state up.protocol up.state (leave_act how)) refl) (λ not. refused WRONG_STATE s.id))
  where
    by_state : (up : Part) → s.up ≡ Some up → may_leave up.state ≡ true → (o : Option PState)
        → acted_state up.protocol up.state (leave_act how) ≡ o → P (leave_for s up o)
    by_state up is may None acts = refused WRONG_STATE s.id
    by_state up is may (Some next) acts =
        each_end_cases P s is_ended_state NOT_DRAINED (with_up s (part_in_state next up)) refused (done up next is may acts)

-- The identifiers of a scope, its upward part and its ends, its deadline, and the endpoints that it keeps, stay under each rule
-- but enrolling; for the laws that steps keep a node fit, and its endpoints reachable.
use Rattle.std.proofs.Common.{◌≡◌, ℕ, Bool, true, false, ◌||◌, List, [], ◌∷◌, ◌++◌, map, Option, None, Some, refl, sym, ap, ◌∙◌}
use Rattle.std.specs.Option.{option_to_list}
use Rattle.ba_core.specs.EndRows.{end_row, end_tick}
use Rattle.ba_core.specs.declared.identifiers.Id.{Id}
use Rattle.ba_core.specs.declared.notices.Leave.{Leave}
use Rattle.ba_core.specs.declared.notices.Notice.{Notice}
use Rattle.ba_core.specs.declared.notices.Notice.TheVariants as notice
use Rattle.ba_core.specs.declared.protocols.Verdict.{Verdict}
use Rattle.ba_core.specs.declared.protocols.Verdict.TheVariants.{Undo}
use Rattle.ba_core.specs.declared.states.CState.{CState}
use Rattle.ba_core.specs.declared.states.PState.{PState}
use Rattle.ba_scope.proofs.Calls.{by_option, ticked_part}
use Rattle.ba_scope.proofs.Kept.{KeepsWho, after_who, at_keeps}
use Rattle.ba_scope.proofs.Lists.{by_test}
use Rattle.ba_scope_ends.specs.Ends.{Tick, end_after_notice, end_asking, end_in_state, end_owing, end_with_verdict, end_with_verdict_if_none}
use Rattle.ba_scope_ends.specs.Ends.{tick_of_end}
use Rattle.ba_scope_ends.specs.Parts.{part_in_state, tick_of_part, verdict_on_the_way}
use Rattle.ba_scope.specs.Rules.{ScopeStep, changed_at, choose, complete, decide, end_with_verdict_if_any, expire, finish, is_expired}
use Rattle.ba_scope.specs.Rules.{leave_by, part_at_tick, state_at_tick, tick_up, with_end_changed, with_up, with_up_moved, word_for}
use Rattle.ba_scope.specs.Scope.{ScopeState}
use Rattle.ba_message.specs.declared.endpoints.Epr.{Epr}
use Rattle.ba_scope.specs.declared.answers.Said.{Said}
use Rattle.ba_scope_ends.specs.declared.ends.End.{End}
use Rattle.ba_scope_ends.specs.declared.parts.Part.{Part}
use Rattle.ba_node_steps.specs.Endpoints.{part_endpoints, scope_endpoints}
use Rattle.ba_node_steps.specs.Node.{scope_ids}
use Rattle.ba_node_steps.proofs.Objects.{end_ids, up_ids}
use Rattle.ba_tree.specs.Trees.{joined}
use Rattle.ba_scope.proofs.ScopeCases.{choose_cases, complete_cases, decide_cases, finish_cases, leave_cases}

-- the scope afterwards has the identifiers and the deadline of the one before
pub record SameOwn (s after : ScopeState) : Type 0 where
  pub ids : scope_ids after ≡ scope_ids s
  pub deadline : after.deadline ≡ s.deadline

-- and keeps its endpoints
pub record SameKept (s after : ScopeState) : Type 0 where
  pub own : SameOwn s after
  pub endpoints : scope_endpoints after ≡ scope_endpoints s

same_kept : (s : ScopeState) → SameKept s s
same_kept s = record { own = record { ids = refl; deadline = refl }; endpoints = refl }

-- where what each item shows stays, so does what all show
each_shown : {A : Type 0} (show : End → A) (f : End → End) → ((e : End) → show (f e) ≡ show e) → (es : List End)
    → map show (map f es) ≡ map show es
each_shown show f keeps [] = refl
each_shown show f keeps (e ∷ es) = λ i. keeps e i ∷ each_shown show f keeps es i

abbrev end_participants : List End → List Epr
end_participants = map (λ (e : End). e.participant)

abbrev up_endpoints : ScopeState → List Epr
up_endpoints s = joined (map part_endpoints (option_to_list s.up))

-- the ends changed
pub ends_changed : (s : ScopeState) (f : End → End) → KeepsWho f → SameKept s (record s { ends = map f s.ends })
ends_changed s f who =
    let ids = each_shown (λ (e : End). e.id) f who.id s.ends in
    let participants = each_shown (λ (e : End). e.participant) f who.participant s.ends in
    record {
      own = record { ids = λ i. s.id ∷ (up_ids s ++ ids i); deadline = refl };
      endpoints = λ i. up_endpoints s ++ participants i;
    }

pub end_changed : (s : ScopeState) (id : Id) (change : End → End) → KeepsWho change → SameKept s (with_end_changed id change s)
end_changed s id change who = ends_changed s (changed_at id change) (at_keeps id change who)

-- the upward part changed
pub up_changed : (s : ScopeState) (p q : Part) → s.up ≡ Some p → q.id ≡ p.id → SameOwn s (with_up s q)
up_changed s p q is same =
    let ups : map (λ (x : Part). x.id) (option_to_list (Some q)) ≡ up_ids s =
    ap (λ (id : Id). id ∷ []) same ∙ ap (λ (o : Option Part). map (λ (x : Part). x.id) (option_to_list o)) (sym is) in
    record { ids = λ i. s.id ∷ (ups i ++ end_ids s); deadline = refl }

pub up_moved : (s : ScopeState) (p q : Part) → s.up ≡ Some p → q.id ≡ p.id → part_endpoints q ≡ part_endpoints p → SameKept s (with_up s q)
up_moved s p q is same keeps =
    let ups : joined (map part_endpoints (option_to_list (Some q))) ≡ up_endpoints s =
    ap (λ xs. xs ++ []) keeps ∙ ap (λ (o : Option Part). joined (map part_endpoints (option_to_list o))) (sym is) in
    record { own = up_changed s p q is same; endpoints = λ i. ups i ++ end_participants s.ends }

-- ---- changes of an end

pub owing_who : KeepsWho end_owing
owing_who = record { id = λ e. refl; participant = λ e. refl }

pub asking_who : KeepsWho end_asking
asking_who = record { id = λ e. refl; participant = λ e. refl }

pub state_who : (s : CState) → KeepsWho (end_in_state s)
state_who s = record { id = λ e. refl; participant = λ e. refl }

pub verdict_who : (v : Verdict) → KeepsWho (end_with_verdict v)
verdict_who v = record { id = λ e. refl; participant = λ e. refl }

pub notice_who : (m : Notice) → KeepsWho (end_after_notice m)
notice_who m = after_who (λ e. end_row e.protocol e.state m)

pub tick_who : KeepsWho (λ e. (tick_of_end e).after)
tick_who = record {
  id = λ e. by_tick (λ x. x.id ≡ e.id) e refl refl refl;
  participant = λ e. by_tick (λ x. x.participant ≡ e.participant) e refl refl refl;
}
  where
    by_tick : (P : End → Type 0) (e : End) → P (record e { owes = false }) → P (record e { asks = false })
        → P (end_in_state (end_tick e.state).0 e)
        → P (tick_of_end e).after
    by_tick P e owes asks same =
        by_test (λ (t : Tick End). P t.after) e.owes _ _ (λ _. owes)
        (λ _. by_test (λ (t : Tick End). P t.after) e.asks (record { after = record e { asks = false }; says = Some notice.GetStatus })
        (record { after = end_in_state (end_tick e.state).0 e; says = (end_tick e.state).1 }) (λ _. asks) (λ _. same))

-- ---- rules

abbrev StepKept : ScopeState → ScopeStep Said → Type 0
StepKept s step = SameKept s step.after

pub decide_own : (s : ScopeState) (v : Verdict) → SameKept s (decide s v).after
decide_own s v =
    decide_cases (StepKept s) s v (λ number id. same_kept s)
    (λ root atomic undecided ready.
    let who : KeepsWho (λ e. end_with_verdict (word_for v e) e) = record { id = λ e. refl; participant = λ e. refl } in
    let ends = ends_changed s (λ e. end_with_verdict (word_for v e) e) who in
    record { own = record { ids = ends.own.ids; deadline = refl }; endpoints = ends.endpoints })

pub choose_own : (s : ScopeState) (id : Id) (v : Verdict) → SameKept s (choose s id v).after
choose_own s id v =
    choose_cases (StepKept s) s id v (λ number shown. same_kept s)
    (λ e next found root mixed undecided chosen. end_changed s id (end_with_verdict v) (verdict_who v))

pub complete_own : (s : ScopeState) (id : Id) → SameKept s (complete s id).after
complete_own s id =
    complete_cases (StepKept s) s id (λ number shown. same_kept s)
    (λ e next found open_ undecided asked. end_changed s id (end_in_state next) (state_who next))

pub finish_own : (s : ScopeState) → SameKept s (finish s).after
finish_own s =
    finish_cases (StepKept s) s (λ number shown. same_kept s) (λ up next is acts ready. up_moved s up (part_in_state next up) is refl refl)

pub leave_own : (s : ScopeState) (how : Leave) → SameKept s (leave_by s how).after
leave_own s how =
    leave_cases (StepKept s) s how (λ number shown. same_kept s)
    (λ up next is may acts ended. up_moved s up (part_in_state next up) is refl refl)

pub expire_own : (s : ScopeState) (now : ℕ) → SameKept s (expire s now).after
expire_own s now =
    by_test (λ (step : ScopeStep Bool). SameKept s step.after) (is_expired s now)
    (record { after = record s { verdict = Some Undo; ends = map (end_with_verdict_if_none Undo) s.ends }; answer = true })
    (record { after = s; answer = false })
    (λ _.
    let ends = ends_changed s (end_with_verdict_if_none Undo) who in
    record { own = record { ids = ends.own.ids; deadline = refl }; endpoints = ends.endpoints })
    (λ _. same_kept s)
  where
    who : KeepsWho (end_with_verdict_if_none Undo)
    who = record {
      id = λ e. by_test (λ (x : End). x.id ≡ e.id) _ (end_with_verdict Undo e) e (λ _. refl) (λ _. refl);
      participant = λ e. by_test (λ (x : End). x.participant ≡ e.participant) _ (end_with_verdict Undo e) e (λ _. refl) (λ _. refl);
    }

pub moved_own : (s : ScopeState) (p : Part) (next : PState) → s.up ≡ Some p → SameKept s (with_up_moved s p next)
moved_own s p next is =
    let v : Option Verdict = verdict_on_the_way p.state next in
    let t : ScopeState = with_up s (part_in_state next p) in
    let ends = ends_changed t (end_with_verdict_if_any v) (who v) in
    let up = up_moved s p (part_in_state next p) is refl refl in
    record { own = record { ids = ends.own.ids ∙ up.own.ids; deadline = refl }; endpoints = ends.endpoints ∙ up.endpoints }
  where
    who : (v : Option Verdict) → KeepsWho (end_with_verdict_if_any v)
    who None = record { id = λ e. refl; participant = λ e. refl }
    who (Some v) = record { id = λ e. refl; participant = λ e. refl }

pub tick_up_own : (s : ScopeState) → SameKept s (tick_up s).after
tick_up_own s =
    by_option (λ (t : Tick ScopeState). SameKept s t.after) s.up (record { after = s; says = None }) _ (λ root. same_kept s) (λ up is.
    let acted : Part = part_at_tick s up in
    up_moved s up (tick_of_part acted).after is
    (ticked_part (λ (q : Part). q.id ≡ acted.id) acted refl refl refl ∙ before (λ q. q.id) up refl)
    (ticked_part (λ (q : Part). part_endpoints q ≡ part_endpoints acted) acted refl refl refl ∙ before part_endpoints up refl))
  where
    before : {A : Type 0} (show : Part → A) (up : Part) → show (part_in_state (state_at_tick s up) up) ≡ show up
        → show (part_at_tick s up) ≡ show up
    before show up same =
        by_test (λ (q : Part). show q ≡ show up) (up.owes || up.asks) up (part_in_state (state_at_tick s up) up) (λ _. refl) (λ _. same)

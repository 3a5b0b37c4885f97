-- A call is refused and leaves the scope, or it is done; for the calls of a scope that are tested first and then done.
use Rattle.std.proofs.Common.{◌≡◌, ℕ, Bool, true, false, List, [], ◌∷◌, map, Option, None, Some, unwrap_or, refl, sym, ap, ◌∙◌, true≢false}
use Rattle.std.proofs.Common.{if◌then◌else◌}
use Rattle.std.specs.List.{list_all}
use Rattle.std.specs.Option.{option_map}
use Rattle.std.proofs.lemmas.Bool.{and_parts}
use Rattle.ba_core.specs.EndRows.{completed_state}
use Rattle.ba_core.specs.PartRows.{acted_state}
use Rattle.ba_core.specs.declared.identifiers.Id.{Id}
use Rattle.ba_core.specs.declared.notices.Act.{Act}
use Rattle.ba_core.specs.declared.notices.Act.TheVariants as act
use Rattle.ba_core.specs.declared.notices.Leave.{Leave}
use Rattle.ba_core.specs.declared.protocols.Verdict.{Verdict}
use Rattle.ba_core.specs.declared.states.CState.{CState}
use Rattle.ba_core.specs.declared.states.PState.{PState}
use Rattle.ba_scope.proofs.Lists.{by_test}
use Rattle.ba_scope.proofs.Places.{moves, others_stay, stays}
use Rattle.ba_scope.proofs.ScopeCases.{OfRefusal, choose_cases, complete_cases, decide_cases, finish_cases, leave_cases}
use Rattle.ba_scope.specs.Fits.{are_apart, is_other_end}
use Rattle.ba_scope_ends.specs.Ends.{end_in_state, end_with_verdict, end_with_id, same_id, completing_end}
use Rattle.ba_scope_ends.specs.Parts.{part_in_state, state_after_act, acting_part}
use Rattle.ba_scope.specs.Rules.{ScopeStep, changed_at, choose, complete, decide, done_step, expire, finish, is_expired, leave_act}
use Rattle.ba_scope.specs.Rules.{leave_by, refused_step, scope_with_verdict, with_end_changed, with_up}
use Rattle.ba_scope.specs.Scope.{ScopeState}
use Rattle.ba_scope.specs.declared.answers.Said.{Said}
use Rattle.ba_scope.specs.declared.answers.Said.TheVariants as said
use Rattle.ba_scope_ends.specs.declared.ends.End.{End}
use Rattle.ba_scope_ends.specs.declared.parts.Part.{Part}
use Rattle.ba_scope.specs.inside.Moves.{expired_scope, with_up_acted}

-- the answer tells the whole step: where it is Ok, it leads to this scope
pub record Tested (s done : ScopeState) (step : ScopeStep Said) : Type 0 where
  pub is_done : step.answer ≡ said.Ok → step ≡ done_step done
  pub is_refused : (number : ℕ) (id : Id) → step.answer ≡ said.No number id → step ≡ refused_step s number id

refusals : (s done : ScopeState) → OfRefusal (Tested s done) s
refusals s done number id = record {
  is_done = λ is. cc;
  is_refused = λ other shown is. λ i. record { after = s; answer = is i };
}

done_to : (s done after : ScopeState) → after ≡ done → Tested s done (done_step after)
done_to s done after same = record { is_done = λ is. ap done_step same; is_refused = λ number id is. cc }

-- ---- verdicts

pub decide_tested : (s : ScopeState) (v : Verdict) → Tested s (scope_with_verdict v s) (decide s v)
decide_tested s v =
    let done : ScopeState = scope_with_verdict v s in
    decide_cases (Tested s done) s v (refusals s done) (λ root atomic undecided ready. done_to s done done refl)

pub choose_tested : (s : ScopeState) (id : Id) (v : Verdict) → Tested s (with_end_changed id (end_with_verdict v) s) (choose s id v)
choose_tested s id v =
    let done : ScopeState = with_end_changed id (end_with_verdict v) s in
    choose_cases (Tested s done) s id v (refusals s done) (λ e next found root mixed undecided chosen. done_to s done done refl)

-- two changes that make the same of the end with this Id
same_change : (id : Id) (f g : End → End) (e : End) (es : List End) → are_apart es ≡ true → end_with_id es id ≡ Some e → f e ≡ g e
    → map (changed_at id f) es ≡ map (changed_at id g) es
same_change id f g e [] apart found same = refl
same_change id f g e (x ∷ es) apart found same =
    by_head (same_id x.id id) refl found (λ further. same_change id f g e es both.1 further same)
  where
    both : (list_all (is_other_end x) es ≡ true) × (are_apart es ≡ true)
    both = and_parts (list_all (is_other_end x) es) (are_apart es) apart

    by_head : (b : Bool) → same_id x.id id ≡ b → (if b then Some x else end_with_id es id) ≡ Some e
        → (end_with_id es id ≡ Some e → map (changed_at id f) es ≡ map (changed_at id g) es)
        → map (changed_at id f) (x ∷ es) ≡ map (changed_at id g) (x ∷ es)
    by_head true is h rest =
        let head : x ≡ e = cc in
        let here = sym (moves id f x is) ∙ ap f head ∙ same ∙ ap g (sym head) ∙ moves id g x is in
        let others = sym (others_stay id f x is es both.0) ∙ others_stay id g x is es both.0 in
        λ i. here i ∷ others i
    by_head false is h rest =
        let other : same_id x.id id ≡ true → ⊥ = λ same_here. true≢false (sym same_here ∙ is) in
        let here = sym (stays id f x other) ∙ stays id g x other in
        let others = rest h in
        λ i. here i ∷ others i

-- where no end has this Id, nothing changes
pub none_change : (id : Id) (f : End → End) (es : List End) → end_with_id es id ≡ None → es ≡ map (changed_at id f) es
none_change id f [] none = refl
none_change id f (x ∷ es) none = by_head (same_id x.id id) refl none (none_change id f es)
  where
    by_head : (b : Bool) → same_id x.id id ≡ b → (if b then Some x else end_with_id es id) ≡ None
        → (end_with_id es id ≡ None → es ≡ map (changed_at id f) es) → (x ∷ es) ≡ map (changed_at id f) (x ∷ es)
    by_head true is h rest = cc
    by_head false is h rest =
        let here = stays id f x (λ same_here. true≢false (sym same_here ∙ is)) in
        let others = rest h in
        λ i. here i ∷ others i

pub complete_tested : (s : ScopeState) (id : Id) → are_apart s.ends ≡ true
    → Tested s (with_end_changed id completing_end s) (complete s id)
complete_tested s id apart =
    let done : ScopeState = with_end_changed id completing_end s in
    complete_cases (Tested s done) s id (refusals s done)
    (λ e next found open_ undecided completed. done_to s done (with_end_changed id (end_in_state next) s) (by_next e next found completed))
  where
    by_next : (e : End) (next : CState) → end_with_id s.ends id ≡ Some e → completed_state e.protocol e.state ≡ Some next
        → with_end_changed id (end_in_state next) s ≡ with_end_changed id completing_end s
    by_next e next found completed =
        let state : next ≡ unwrap_or (completed_state e.protocol e.state) e.state =
        sym (ap (λ (o : Option CState). unwrap_or o e.state) completed) in
        let same : end_in_state next e ≡ completing_end e = (λ i. record e { state = state i }) in
        let ends = same_change id (end_in_state next) completing_end e s.ends apart found same in
        λ i. record s { ends = ends i }

-- ---- a deadline

pub expiry_done : (s : ScopeState) (now : ℕ) → (expire s now).answer ≡ true
    → expire s now ≡ record { after = expired_scope s; answer = true }
expiry_done s now =
    by_test (λ (r : ScopeStep Bool). r.answer ≡ true → r ≡ record { after = expired_scope s; answer = true }) (is_expired s now) _ _
    (λ past answer. refl) (λ early answer. absurd (true≢false (sym answer)))

pub expiry_refused : (s : ScopeState) (now : ℕ) → (expire s now).answer ≡ false → expire s now ≡ record { after = s; answer = false }
expiry_refused s now =
    by_test (λ (r : ScopeStep Bool). r.answer ≡ false → r ≡ record { after = s; answer = false }) (is_expired s now) _ _
    (λ past answer. absurd (true≢false answer)) (λ early answer. refl)

-- ---- the upward part

up_acts : (s : ScopeState) (a : Act) (up : Part) (next : PState) → s.up ≡ Some up → acted_state up.protocol up.state a ≡ Some next
    → with_up s (part_in_state next up) ≡ with_up_acted a s
up_acts s a up next is acts =
    let state : next ≡ state_after_act up.protocol up.state (Some a) = sym (ap (λ (o : Option PState). unwrap_or o up.state) acts) in
    let moved : Some (part_in_state next up) ≡ Some (acting_part a up) = (λ i. Some (record up { state = state i })) in
    let ups : Some (part_in_state next up) ≡ option_map (acting_part a) s.up =
    moved ∙ ap (λ (o : Option Part). option_map (acting_part a) o) (sym is) in
    λ i. record s { up = ups i }

pub finish_tested : (s : ScopeState) → Tested s (with_up_acted act.Completed s) (finish s)
finish_tested s =
    let done : ScopeState = with_up_acted act.Completed s in
    finish_cases (Tested s done) s (refusals s done)
    (λ up next is acts ready. done_to s done (with_up s (part_in_state next up)) (up_acts s act.Completed up next is acts))

pub leave_tested : (s : ScopeState) (how : Leave) → Tested s (with_up_acted (leave_act how) s) (leave_by s how)
leave_tested s how =
    let done : ScopeState = with_up_acted (leave_act how) s in
    leave_cases (Tested s done) s how (refusals s done)
    (λ up next is may acts ended. done_to s done (with_up s (part_in_state next up)) (up_acts s (leave_act how) up next is acts))

-- Each step of a node keeps who its objects are, but for what its input brings; for the law that endpoints lead where they should.
use Rattle.std.proofs.Common.{◌≡◌, inl, inr, ℕ, Bool, true, false, ◌||◌, map, Option, None, Some, is_none, is_some, refl, sym, ap, ◌∙◌}
use Rattle.std.proofs.Common.{subst, true≢false, if◌then◌else◌}
use Rattle.std.proofs.lemmas.Bool.{and_parts}
use Rattle.ba_core.specs.EndRows.{end_row, end_tick}
use Rattle.ba_core.specs.PartRows.{is_part_state}
use Rattle.ba_core.specs.declared.identifiers.Id.{Id}
use Rattle.ba_core.specs.declared.notices.Leave.{Leave}
use Rattle.ba_core.specs.declared.notices.Notice.{Notice}
use Rattle.ba_core.specs.declared.notices.Notice.TheVariants as notice
use Rattle.ba_core.specs.declared.protocols.Kind.{Kind}
use Rattle.ba_core.specs.declared.protocols.Kind.TheVariants.{Atomic, Mixed}
use Rattle.ba_core.specs.declared.protocols.Side.TheVariants.{Coordinator, Participant}
use Rattle.ba_core.specs.declared.protocols.Verdict.{Verdict}
use Rattle.ba_core.specs.declared.protocols.Verdict.TheVariants.{Undo}
use Rattle.ba_core.specs.declared.rows.CRow.{CRow}
use Rattle.ba_core.specs.declared.rows.CRow.TheVariants as crow
use Rattle.ba_core.specs.declared.states.PState.{PState}
use Rattle.ba_core.specs.declared.states.PState.TheVariants as part
use Rattle.ba_message.specs.declared.endpoints.Epr.{Epr}
use Rattle.ba_scope.proofs.Calls.{by_option, registering_is, ticked_part}
use Rattle.ba_scope.proofs.Lists.{by_test}
use Rattle.ba_scope_ends.specs.Parts.{part_fits, enrolled_part, part_asking, part_in_state, part_owing, refused_part, tick_of_part}
use Rattle.ba_scope_ends.specs.Parts.{verdict_on_the_way, has_no_coordinator}
use Rattle.ba_scope.specs.Fits.{up_fits}
use Rattle.ba_scope_ends.specs.Ends.{Tick, end_after_notice, end_after_row, end_asking, end_in_state, end_owing, end_with_verdict}
use Rattle.ba_scope_ends.specs.Ends.{end_with_verdict_if_none, tick_of_end, same_id}
use Rattle.ba_scope.specs.Rules.{ScopeStep, changed_at, choose, complete, decide, end_with_verdict_if_any, expire, finish, is_expired}
use Rattle.ba_scope.specs.Rules.{leave_by, part_at_tick, scope_with_end, state_at_tick, tick_up, with_end_changed, with_up, with_up_moved}
use Rattle.ba_scope.specs.Rules.{word_for}
use Rattle.ba_scope.specs.Scope.{ScopeState}
use Rattle.ba_scope.specs.declared.answers.Said.{Said}
use Rattle.ba_scope_ends.specs.declared.ends.End.{End}
use Rattle.ba_scope_ends.specs.declared.parts.Part.{Part}
use Rattle.ba_node_steps.specs.declared.inputs.Input.{Input}
use Rattle.ba_node_steps.specs.declared.inputs.Input.TheVariants as input
use Rattle.ba_node_steps.specs.Fits.{NodeFits}
use Rattle.ba_node_steps.specs.Node.{EndPlace, HasPart, NodeState, next_id, with_scope}
use Rattle.ba_node_steps.specs.Steps.{NodeStep, is_of_kind, is_registering_state, node_step}
use Rattle.ba_node_steps.specs.Ticks.{TickStep, tick_step}
use Rattle.ba_node_steps.proofs.Cases.{act_cases, ask_cases, create_cases, end_notice_cases, enrolled_cases, join_cases, on_choose_cases}
use Rattle.ba_node_steps.proofs.Cases.{on_complete_cases, on_decide_cases, on_finish_cases, on_leave_cases, part_notice_cases, refused_cases}
use Rattle.ba_node_steps.proofs.Cases.{register_cases, tick_cases}
use Rattle.ba_node_steps.proofs.Objects.{lone_fits, scope_fits}
use Rattle.ba_node_steps.proofs.Places.{EndStands, scope_found, stands_is, stands_part}
use Rattle.ba_scope.proofs.ScopeCases.{choose_cases, complete_cases, decide_cases, finish_cases, leave_cases}
use Rattle.ba_world_runs.proofs.Goes.{NodeGoes, SameEnd, SamePart, ScopeGoes, ends_map, ends_push, ends_stay, itself, lone_goes, new_part_goes}
use Rattle.ba_world_runs.proofs.Goes.{new_scope_goes, part_goes, same_end, same_part, scope_goes, scope_stays, some_same, up_changes, up_stays}

-- ---- changed ends

abbrev KeepsEnd : (End → End) → Type 0
KeepsEnd f = (e : End) → SameEnd e (f e)

at_keeps_end : (id : Id) (f : End → End) → KeepsEnd f → KeepsEnd (changed_at id f)
at_keeps_end id f keeps e = by_test (SameEnd e) (same_id e.id id) (f e) e (λ here. keeps e) (λ other. same_end e)

after_keeps : (row : CRow) → KeepsEnd (end_after_row row)
after_keeps crow.Invalid e = same_end e
after_keeps (crow.Row next prompt) e = record { id = refl; participant = refl; protocol = refl }

notice_keeps : (m : Notice) → KeepsEnd (end_after_notice m)
notice_keeps m e = after_keeps (end_row e.protocol e.state m) e

verdict_if_any_keeps : (v : Option Verdict) → KeepsEnd (end_with_verdict_if_any v)
verdict_if_any_keeps None e = same_end e
verdict_if_any_keeps (Some v) e = record { id = refl; participant = refl; protocol = refl }

verdict_if_none_keeps : (v : Verdict) → KeepsEnd (end_with_verdict_if_none v)
verdict_if_none_keeps v e =
    by_test (SameEnd e) _ (end_with_verdict v e) e (λ _. record { id = refl; participant = refl; protocol = refl }) (λ _. same_end e)

tick_keeps : KeepsEnd (λ e. (tick_of_end e).after)
tick_keeps e =
    by_test (λ (t : Tick End). SameEnd e t.after) e.owes _ _ (λ _. record { id = refl; participant = refl; protocol = refl })
    (λ _. by_test (λ (t : Tick End). SameEnd e t.after) e.asks
    (record { after = record e { asks = false }; says = Some notice.GetStatus })
    (record { after = end_in_state (end_tick e.state).0 e; says = (end_tick e.state).1 })
    (λ _. record { id = refl; participant = refl; protocol = refl }) (λ _. record { id = refl; participant = refl; protocol = refl }))

-- ---- changed participants

module _ (cause : Option Input) where
  state_same : (p : Part) (next : PState) → SamePart cause p (part_in_state next p)
  state_same p next = record { id = refl; protocol = refl; registration = refl; coordinator = inl refl }

  tick_same : (p : Part) → SamePart cause p (tick_of_part p).after
  tick_same p =
      ticked_part (SamePart cause p) p (record { id = refl; protocol = refl; registration = refl; coordinator = inl refl })
      (record { id = refl; protocol = refl; registration = refl; coordinator = inl refl }) (same_part cause p)

  -- ---- changed scopes

  abbrev Goes : ScopeState → ScopeState → Type 0
  Goes s t = ScopeGoes cause s t

  ends_go : (s : ScopeState) (id : Id) (f : End → End) → KeepsEnd f → ScopeGoes cause s (with_end_changed id f s)
  ends_go s id f keeps = record {
    id = refl;
    kind = refl;
    ends = ends_map cause s.id (changed_at id f) s.ends (at_keeps_end id f keeps);
    up = up_stays cause s.up;
  }

  up_state_goes : (s : ScopeState) (p : Part) (next : PState) → s.up ≡ Some p → ScopeGoes cause s (with_up s (part_in_state next p))
  up_state_goes s p next is = record {
    id = refl;
    kind = refl;
    ends = ends_stay cause s.id s.ends;
    up = up_changes cause s.up p (part_in_state next p) is (state_same p next);
  }

  moved_goes : (s : ScopeState) (p : Part) (next : PState) → s.up ≡ Some p → ScopeGoes cause s (with_up_moved s p next)
  moved_goes s p next is = record {
    id = refl;
    kind = refl;
    ends = ends_map cause s.id (end_with_verdict_if_any (verdict_on_the_way p.state next)) s.ends
        (verdict_if_any_keeps (verdict_on_the_way p.state next));
    up = up_changes cause s.up p (part_in_state next p) is (state_same p next);
  }

  decide_goes : (s : ScopeState) (v : Verdict) → ScopeGoes cause s (decide s v).after
  decide_goes s v =
      decide_cases (λ (step : ScopeStep Said). ScopeGoes cause s step.after) s v (λ number id. scope_stays cause s)
      (λ root atomic undecided ready. record {
        id = refl;
        kind = refl;
        ends = ends_map cause s.id (λ e. end_with_verdict (word_for v e) e) s.ends
            (λ e. record { id = refl; participant = refl; protocol = refl });
        up = up_stays cause s.up;
      })

  choose_goes : (s : ScopeState) (id : Id) (v : Verdict) → ScopeGoes cause s (choose s id v).after
  choose_goes s id v =
      choose_cases (λ (step : ScopeStep Said). ScopeGoes cause s step.after) s id v (λ number shown. scope_stays cause s)
      (λ e next found root mixed undecided chosen.
      ends_go s id (end_with_verdict v) (λ x. record { id = refl; participant = refl; protocol = refl }))

  complete_goes : (s : ScopeState) (id : Id) → ScopeGoes cause s (complete s id).after
  complete_goes s id =
      complete_cases (λ (step : ScopeStep Said). ScopeGoes cause s step.after) s id (λ number shown. scope_stays cause s)
      (λ e next found open_ undecided asked.
      ends_go s id (end_in_state next) (λ x. record { id = refl; participant = refl; protocol = refl }))

  finish_goes : (s : ScopeState) → ScopeGoes cause s (finish s).after
  finish_goes s =
      finish_cases (λ (step : ScopeStep Said). ScopeGoes cause s step.after) s (λ number shown. scope_stays cause s)
      (λ up next is acts ready. up_state_goes s up next is)

  leave_goes : (s : ScopeState) (how : Leave) → ScopeGoes cause s (leave_by s how).after
  leave_goes s how =
      leave_cases (λ (step : ScopeStep Said). ScopeGoes cause s step.after) s how (λ number shown. scope_stays cause s)
      (λ up next is may acts ended. up_state_goes s up next is)

  expire_goes : (s : ScopeState) (now : ℕ) → ScopeGoes cause s (expire s now).after
  expire_goes s now =
      by_test (λ (step : ScopeStep Bool). ScopeGoes cause s step.after) (is_expired s now)
      (record { after = record s { verdict = Some Undo; ends = map (end_with_verdict_if_none Undo) s.ends }; answer = true })
      (record { after = s; answer = false })
      (λ _. record {
        id = refl;
        kind = refl;
        ends = ends_map cause s.id (end_with_verdict_if_none Undo) s.ends (verdict_if_none_keeps Undo);
        up = up_stays cause s.up;
      }) (λ _. scope_stays cause s)

  at_tick_same : (s : ScopeState) (p : Part) → SamePart cause p (part_at_tick s p)
  at_tick_same s p =
      by_test (SamePart cause p) (p.owes || p.asks) p (part_in_state (state_at_tick s p) p) (λ _. same_part cause p)
      (λ _. state_same p (state_at_tick s p))

  pub tick_up_same : (s : ScopeState) (p : Part) → SamePart cause p (tick_of_part (part_at_tick s p)).after
  tick_up_same s p =
      let q : Part = part_at_tick s p in
      let acted = at_tick_same s p in
      let with_flags : (x : Part) → x.id ≡ q.id → x.protocol ≡ q.protocol → x.registration ≡ q.registration
      → x.coordinator ≡ q.coordinator → q.coordinator ≡ p.coordinator → SamePart cause p x =
      λ x id protocol registration coordinator kept. record {
        id = id ∙ acted.id;
        protocol = protocol ∙ acted.protocol;
        registration = registration ∙ acted.registration;
        coordinator = inl (coordinator ∙ kept);
      } in
      let kept : q.coordinator ≡ p.coordinator =
      by_test (λ (x : Part). x.coordinator ≡ p.coordinator) (p.owes || p.asks) p (part_in_state (state_at_tick s p) p)
      (λ _. refl) (λ _. refl) in
      ticked_part (SamePart cause p) q (with_flags (record q { owes = false }) refl refl refl refl kept)
      (with_flags (record q { asks = false }) refl refl refl refl kept) acted

  tick_up_goes : (s : ScopeState) → ScopeGoes cause s (tick_up s).after
  tick_up_goes s =
      by_option (λ (t : Tick ScopeState). ScopeGoes cause s t.after) s.up (record { after = s; says = None }) _
      (λ root. scope_stays cause s)
      (λ up is. record {
        id = refl;
        kind = refl;
        ends = ends_stay cause s.id s.ends;
        up = up_changes cause s.up up (tick_of_part (part_at_tick s up)).after is (tick_up_same s up);
      })

-- ---- a participant that is told its coordinator had none

none_kept : (p : Part) → is_registering_state p.state ≡ true → part_fits p ≡ true → p.coordinator ≡ None
none_kept p registering fits =
    let state : p.state ≡ part.Registering = registering_is p.state registering in
    let own = (and_parts (is_part_state p.protocol p.state)
    (if has_no_coordinator p.state then is_none p.coordinator else is_some p.coordinator) fits).1 in
    none_of p.coordinator (subst (λ (x : PState). (if has_no_coordinator x then is_none p.coordinator else is_some p.coordinator) ≡ true)
    state own)
  where
    none_of : (o : Option Epr) → is_none o ≡ true → o ≡ None
    none_of None h = refl
    none_of (Some c) h = absurd (true≢false (sym h))

part_fits_at : (n : NodeState) (p : Part) → NodeFits n → HasPart n p → part_fits p ≡ true
part_fits_at n p fits (inl alone) = lone_fits n p fits alone
part_fits_at n p fits (inr above) =
    subst (λ (o : Option Part). up_fits o ≡ true) above.2 (scope_fits n above.0 fits above.1).up

-- ---- each step

abbrev ByInput : Input → NodeState → NodeStep → Type 0
ByInput i n step = NodeGoes (Some i) n step.after

abbrev ByTick : NodeState → TickStep → Type 0
ByTick n step = NodeGoes None n step.after

end_goes : (cause : Option Input) (n : NodeState) (id : Id) (at : EndPlace) (f : End → End) → NodeFits n → EndStands n id at → KeepsEnd f
    → NodeGoes cause n (with_scope n (with_end_changed at.end.id f at.scope))
end_goes cause n id at f fits stands keeps =
    scope_goes cause n at.scope (with_end_changed at.end.id f at.scope) fits stands.scope (ends_go cause at.scope at.end.id f keeps)

kind_is : (k : Kind) (o : Option Kind) → is_of_kind k o ≡ true → o ≡ Some k
kind_is Atomic None h = absurd (true≢false (sym h))
kind_is Atomic (Some Atomic) h = refl
kind_is Atomic (Some Mixed) h = absurd (true≢false (sym h))
kind_is Mixed None h = absurd (true≢false (sym h))
kind_is Mixed (Some Atomic) h = absurd (true≢false (sym h))
kind_is Mixed (Some Mixed) h = refl

pub input_goes : (n : NodeState) (now : ℕ) (i : Input) → NodeFits n → ByInput i n (node_step n now i)
input_goes n now (input.Create expires current kind protocol) fits =
    create_cases (ByInput _ n) n now expires current kind protocol (λ r. itself _ n)
    (λ k is root. new_scope_goes _ n _ refl refl (λ q none. absurd cc) (λ q none. absurd cc))
    (λ k c is of alike dialable. new_scope_goes _ n _ refl refl
    (λ q same. (c, of, ap (λ (x : Part). x.registration) (sym (some_same _ q same)), kind_is k c.kind alike)) (λ q same.
    let one = some_same _ q same in (
      (c, of, ap (λ (x : Part). x.registration) (sym one)),
      ap (λ (x : Part). x.coordinator) (sym one),
    )))
input_goes n now (input.Register scope protocol participant) fits =
    register_cases (ByInput _ n) n scope protocol participant (λ r. itself _ n) (λ s known registers.
    let found = scope_found n scope s registers.here in
    scope_goes _ n s (scope_with_end s (next_id n 1) known participant) fits found.0 (record {
      id = refl;
      kind = refl;
      ends = ends_push _ s.id s.ends _ (found.1, registers.protocol_is, refl);
      up = up_stays _ s.up;
    }))
input_goes n now (input.Join protocol registration) fits =
    join_cases (ByInput _ n) n protocol registration (λ r. itself _ n) (λ dialable. new_part_goes _ n _ refl refl)
input_goes n now (input.Enrolled id coordinator) fits =
    enrolled_cases (ByInput _ n) n id coordinator (λ r. itself _ n) (λ place p stands registering dialable.
    part_goes _ n id place p (enrolled_part coordinator) fits stands (record {
      id = refl;
      protocol = refl;
      registration = refl;
      coordinator = inr (record {
        none = none_kept p registering (part_fits_at n p fits (stands_part n id place p stands));
        coordinator = coordinator;
        keeps = refl;
        tells = (stands_is n id place p stands, refl);
      });
    }))
input_goes n now (input.RefusedBy id c) fits =
    refused_cases (ByInput _ n) n id c (λ r. itself _ n) (λ place p number stands registering is.
    part_goes _ n id place p refused_part fits stands (record { id = refl; protocol = refl; registration = refl; coordinator = inl refl }))
input_goes n now (input.Notice Coordinator id m) fits =
    end_notice_cases (ByInput _ n) n id m (λ r. itself _ n) (λ shown prompt. itself _ n)
    (λ at stands owes asks. end_goes _ n id at end_owing fits stands (λ e. record { id = refl; participant = refl; protocol = refl }))
    (λ at next prompt stands row other. end_goes _ n id at (end_after_notice m) fits stands (notice_keeps m))
input_goes n now (input.Notice Participant id m) fits =
    part_notice_cases (ByInput _ n) n id m (λ r. itself _ n) (λ shown prompt. itself _ n)
    (λ place p stands hears asks owes. part_goes _ n id place p part_owing fits stands
    (record { id = refl; protocol = refl; registration = refl; coordinator = inl refl }))
    (λ p next prompt stands hears row other. lone_goes _ n p (part_in_state next p) fits stands.part (state_same _ p next))
    (λ s p next prompt stands hears row other.
    scope_goes _ n s (with_up_moved s p next) fits stands.scope (moved_goes _ s p next stands.up))
input_goes n now (input.Act id a) fits =
    act_cases (ByInput _ n) n id a (λ r. itself _ n)
    (λ p next stands acts. lone_goes _ n p (part_in_state next p) fits stands.part (state_same _ p next))
input_goes n now (input.Ask id) fits =
    ask_cases (ByInput _ n) n id (λ r. itself _ n)
    (λ at stands asks. end_goes _ n id at end_asking fits stands (λ e. record { id = refl; participant = refl; protocol = refl }))
    (λ place p none stands hears asks. part_goes _ n id place p part_asking fits stands
    (record { id = refl; protocol = refl; registration = refl; coordinator = inl refl }))
input_goes n now (input.Decide id v) fits =
    on_decide_cases (ByInput _ n) n id v (λ r. itself _ n)
    (λ s here ok. scope_goes _ n s (decide s v).after fits (scope_found n id s here).0 (decide_goes _ s v))
input_goes n now (input.Choose id v) fits =
    on_choose_cases (ByInput _ n) n id v (λ r. itself _ n)
    (λ at stands ok. scope_goes _ n at.scope (choose at.scope id v).after fits stands.scope (choose_goes _ at.scope id v))
input_goes n now (input.Complete id) fits =
    on_complete_cases (ByInput _ n) n id (λ r. itself _ n)
    (λ at stands ok. scope_goes _ n at.scope (complete at.scope id).after fits stands.scope (complete_goes _ at.scope id))
input_goes n now (input.Finish id) fits =
    on_finish_cases (ByInput _ n) n id (λ r. itself _ n)
    (λ s up here is ok. scope_goes _ n s (finish s).after fits (scope_found n id s here).0 (finish_goes _ s))
input_goes n now (input.Leave id how) fits =
    on_leave_cases (ByInput _ n) n id how (λ r. itself _ n)
    (λ s up here is ok. scope_goes _ n s (leave_by s how).after fits (scope_found n id s here).0 (leave_goes _ s how))

pub tick_goes : (n : NodeState) (now : ℕ) (id : Id) → NodeFits n → ByTick n (tick_step n now id)
tick_goes n now id fits =
    tick_cases (ByTick n) n now id (λ l. itself None n)
    (λ s here expired. scope_goes None n s (expire s now).after fits (scope_found n id s here).0 (expire_goes None s now))
    (λ at w no_scope stands ticks. end_goes None n id at (λ it. (tick_of_end it).after) fits stands tick_keeps)
    (λ p no_scope no_end stands hears talks. lone_goes None n p (tick_of_part p).after fits stands.part (tick_same None p))
    (λ s p w no_scope no_end stands hears moves. scope_goes None n s (tick_up s).after fits stands.scope (tick_up_goes None s))

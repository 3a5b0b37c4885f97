-- What a step of a node makes of the states of its ends; for the law that an end was completed before it is told to close.
use Rattle.std.proofs.Common.{◌≡◌, ◌⊎◌, inl, inr, ℕ, Bool, true, false, List, [], ◌∷◌, ◌++◌, map, Option, None, Some, is_none, refl, sym}
use Rattle.std.proofs.Common.{ap, ◌∙◌, subst}
use Rattle.ba_core.specs.EndRows.{completed_state, end_row, end_tick}
use Rattle.ba_core.specs.declared.identifiers.Id.{Id}
use Rattle.ba_core.specs.declared.notices.Leave.{Leave}
use Rattle.ba_core.specs.declared.notices.Notice.{Notice}
use Rattle.ba_core.specs.declared.notices.Notice.TheVariants as notice
use Rattle.ba_core.specs.declared.protocols.Protocol.{Protocol}
use Rattle.ba_core.specs.declared.protocols.Side.TheVariants.{Coordinator, Participant}
use Rattle.ba_core.specs.declared.protocols.Verdict.{Verdict}
use Rattle.ba_core.specs.declared.protocols.Verdict.TheVariants.{Undo}
use Rattle.ba_core.specs.declared.rows.CRow.{CRow}
use Rattle.ba_core.specs.declared.rows.CRow.TheVariants as crow
use Rattle.ba_core.specs.declared.states.CState.{CState}
use Rattle.ba_core.specs.declared.states.CState.TheVariants as end
use Rattle.ba_core.specs.declared.states.PState.{PState}
use Rattle.ba_message.specs.declared.endpoints.Epr.{Epr}
use Rattle.ba_scope.proofs.Calls.{by_option}
use Rattle.ba_scope.proofs.Lists.{by_test}
use Rattle.ba_scope_ends.specs.Ends.{Tick, end_after_notice, end_after_row, end_asking, end_in_state, end_owing, end_with_verdict}
use Rattle.ba_scope_ends.specs.Ends.{end_with_verdict_if_none, new_end, tick_of_end, end_with_id, same_id}
use Rattle.ba_scope_ends.specs.Parts.{enrolled_part, part_asking, part_owing, refused_part, verdict_on_the_way}
use Rattle.ba_scope.specs.Rules.{ScopeStep, changed_at, choose, complete, decide, end_with_verdict_if_any, expire, finish, is_expired}
use Rattle.ba_scope.specs.Rules.{leave_by, scope_with_end, tick_up, with_end_changed, with_up, with_up_moved, word_for}
use Rattle.ba_scope.specs.Scope.{ScopeState}
use Rattle.ba_scope.specs.declared.answers.Said.{Said}
use Rattle.ba_scope_ends.specs.declared.ends.End.{End}
use Rattle.ba_scope_ends.specs.declared.parts.Part.{Part}
use Rattle.ba_node_steps.specs.declared.inputs.Input.{Input}
use Rattle.ba_node_steps.specs.declared.inputs.Input.TheVariants as input
use Rattle.ba_node_steps.specs.Fits.{NodeFits}
use Rattle.ba_node_steps.specs.Node.{Among, EndPlace, NodeState, PartPlace, lone, next_id, nowhere, scope_in_place_of, upward, with_part_changed}
use Rattle.ba_node_steps.specs.Node.{with_scope}
use Rattle.ba_node_steps.specs.Steps.{NodeStep, node_step}
use Rattle.ba_node_steps.specs.Ticks.{TickStep, tick_step}
use Rattle.ba_node_steps.proofs.Cases.{act_cases, ask_cases, create_cases, end_notice_cases, enrolled_cases, join_cases, on_choose_cases}
use Rattle.ba_node_steps.proofs.Cases.{on_complete_cases, on_decide_cases, on_finish_cases, on_leave_cases, part_notice_cases, refused_cases}
use Rattle.ba_node_steps.proofs.Cases.{register_cases, tick_cases}
use Rattle.ba_node_steps.proofs.Members.{same_id_is}
use Rattle.ba_node_steps.proofs.Objects.{one_end, one_scope}
use Rattle.ba_node_steps.proofs.Places.{EndStands, Stands, first_is, scope_found}
use Rattle.ba_scope.proofs.ScopeCases.{choose_cases, complete_cases, decide_cases, finish_cases, leave_cases}
use Rattle.ba_world_runs.proofs.Goes.{from_append, from_map}

-- ---- an end before and after

-- the notice that an input brings to an end
abbrev pub HearsNotice : Option Input → Id → Notice → Type 0
HearsNotice (Some (input.Notice Coordinator id n)) to m = (to ≡ id) × (n ≡ m)
HearsNotice cause to m = ⊥

-- whence an end's next state comes: it is the one that it had, or comes by a notice, a verdict, a wish that it complete, or a tick
pub data StateComes (cause : Option Input) (e : End) (next : CState) : Type 0 where
  state_stays : next ≡ e.state → StateComes cause e next
  by_notice : (m : Notice) → HearsNotice cause e.id m → next ≡ (end_after_notice m e).state → StateComes cause e next
  by_verdict : (v : Verdict) → next ≡ (end_with_verdict v e).state → StateComes cause e next
  by_wish : completed_state e.protocol e.state ≡ Some next → StateComes cause e next
  by_tick : next ≡ (end_tick e.state).0 → StateComes cause e next

pub record EndBecomes (cause : Option Input) (e f : End) : Type 0 where
  pub id : f.id ≡ e.id
  pub state : StateComes cause e f.state

-- the end of a scope before it, or one that is new
abbrev pub ComesFrom : Option Input → Id → List End → End → Type 0
ComesFrom cause fresh es f = ((e : End) × Among es e × EndBecomes cause e f) ⊎ ((f.state ≡ end.Active) × (f.id ≡ fresh))

-- the end of the scopes before that is this one
pub record EndBefore (cause : Option Input) (before : List ScopeState) (f : End) : Type 0 where
  pub scope : ScopeState
  pub end : End
  pub here : Among before scope
  pub among : Among scope.ends end
  pub becomes : EndBecomes cause end f

abbrev pub StatesGo : Option Input → Id → List ScopeState → List ScopeState → Type 0
StatesGo cause fresh before after =
    (t : ScopeState) (f : End) → Among after t → Among t.ends f
    → EndBefore cause before f ⊎ ((f.state ≡ end.Active) × (f.id ≡ fresh))

module _ (cause : Option Input) (fresh : Id) where
  -- ---- ends

  stays_end : (e f : End) → f.id ≡ e.id → f.state ≡ e.state → EndBecomes cause e f
  stays_end e f id state = record { id = id; state = state_stays state }

  tick_becomes : (e : End) → EndBecomes cause e (tick_of_end e).after
  tick_becomes e =
      by_test (λ (t : Tick End). EndBecomes cause e t.after) e.owes _ _ (λ _. stays_end e (record e { owes = false }) refl refl)
      (λ _. by_test (λ (t : Tick End). EndBecomes cause e t.after) e.asks
      (record { after = record e { asks = false }; says = Some notice.GetStatus })
      (record { after = end_in_state (end_tick e.state).0 e; says = (end_tick e.state).1 })
      (λ _. stays_end e (record e { asks = false }) refl refl) (λ _. record { id = refl; state = by_tick refl }))

  if_any_becomes : (v : Option Verdict) (e : End) → EndBecomes cause e (end_with_verdict_if_any v e)
  if_any_becomes None e = stays_end e e refl refl
  if_any_becomes (Some v) e = record { id = refl; state = by_verdict (word_for v e) refl }

  if_none_becomes : (v : Verdict) (e : End) → EndBecomes cause e (end_with_verdict_if_none v e)
  if_none_becomes v e =
      by_test (EndBecomes cause e) (is_none e.verdict) (end_with_verdict v e) e (λ _. record { id = refl; state = by_verdict v refl })
      (λ _. stays_end e e refl refl)

  at_becomes : (id : Id) (f : End → End) (es : List End) → ((e : End) → Among es e → same_id e.id id ≡ true → EndBecomes cause e (f e))
      → (e : End) → Among es e → EndBecomes cause e (changed_at id f e)
  at_becomes id f es becomes e among =
      by_test (EndBecomes cause e) (same_id e.id id) (f e) e (becomes e among) (λ _. stays_end e e refl refl)

  -- ---- a scope

  ends_stay : (s : ScopeState) (f : End) → Among s.ends f → ComesFrom cause fresh s.ends f
  ends_stay s f among = inl (f, among, stays_end f f refl refl)

  ends_map : (es : List End) (g : End → End) → ((e : End) → Among es e → EndBecomes cause e (g e)) → (f : End) → Among (map g es) f
      → ComesFrom cause fresh es f
  ends_map es g becomes f among =
      let e = from_map g es f among in inl (e.0, e.1, subst (EndBecomes cause e.0) e.2 (becomes e.0 e.1))

  abbrev Goes : ScopeState → ScopeState → Type 0
  Goes s t = (t.id ≡ s.id) × ((f : End) → Among t.ends f → ComesFrom cause fresh s.ends f)

  scope_stays : (s : ScopeState) → Goes s s
  scope_stays s = (refl, ends_stay s)

  decide_goes : (s : ScopeState) (v : Verdict) → Goes s (decide s v).after
  decide_goes s v =
      decide_cases (λ (step : ScopeStep Said). Goes s step.after) s v (λ number id. scope_stays s)
      (λ root atomic undecided ready. (
        refl,
        ends_map s.ends (λ e. end_with_verdict (word_for v e) e)
            (λ e among. record { id = refl; state = by_verdict (word_for v e) refl }),
      ))

  choose_goes : (s : ScopeState) (id : Id) (v : Verdict) → Goes s (choose s id v).after
  choose_goes s id v =
      choose_cases (λ (step : ScopeStep Said). Goes s step.after) s id v (λ number shown. scope_stays s)
      (λ e next found root mixed undecided choice. (
        refl,
        ends_map s.ends (changed_at id (end_with_verdict v))
            (at_becomes id (end_with_verdict v) s.ends (λ x among here. record { id = refl; state = by_verdict v refl })),
      ))

  complete_goes : (n : NodeState) (s : ScopeState) (id : Id) → NodeFits n → Among n.scopes s → Goes s (complete s id).after
  complete_goes n s id fits of =
      complete_cases (λ (step : ScopeStep Said). Goes s step.after) s id (λ number shown. scope_stays s)
      (λ e next found open_ undecided wish. (
        refl,
        ends_map s.ends (changed_at id (end_in_state next))
            (at_becomes id (end_in_state next) s.ends (λ x among here. by_id e next x found wish among here)),
      ))
    where
      by_id : (e : End) (next : CState) (x : End) → end_with_id s.ends id ≡ Some e → completed_state e.protocol e.state ≡ Some next
          → Among s.ends x → same_id x.id id ≡ true → EndBecomes cause x (end_in_state next x)
      by_id e next x found wish among here =
          let first = first_is (λ (y : End). same_id y.id id) s.ends e found in
          let one : x ≡ e = (one_end n s s x e fits of of among first.0
          (ap (λ (i : Id). i.0) (same_id_is x.id id here) ∙ sym (ap (λ (i : Id). i.0) (same_id_is e.id id first.1)))).1 in
          record { id = refl; state = by_wish (subst (λ (y : End). completed_state y.protocol y.state ≡ Some next) (sym one) wish) }

  finish_goes : (s : ScopeState) → Goes s (finish s).after
  finish_goes s =
      finish_cases (λ (step : ScopeStep Said). Goes s step.after) s (λ number shown. scope_stays s)
      (λ up next is acts ready. scope_stays s)

  leave_goes : (s : ScopeState) (how : Leave) → Goes s (leave_by s how).after
  leave_goes s how =
      leave_cases (λ (step : ScopeStep Said). Goes s step.after) s how (λ number shown. scope_stays s)
      (λ up next is may acts ended. scope_stays s)

  expire_goes : (s : ScopeState) (now : ℕ) → Goes s (expire s now).after
  expire_goes s now =
      by_test (λ (step : ScopeStep Bool). Goes s step.after) (is_expired s now)
      (record { after = record s { verdict = Some Undo; ends = map (end_with_verdict_if_none Undo) s.ends }; answer = true })
      (record { after = s; answer = false })
      (λ _. (refl, ends_map s.ends (end_with_verdict_if_none Undo) (λ e among. if_none_becomes Undo e))) (λ _. scope_stays s)

  tick_up_goes : (s : ScopeState) → Goes s (tick_up s).after
  tick_up_goes s =
      by_option (λ (t : Tick ScopeState). Goes s t.after) s.up (record { after = s; says = None }) _
      (λ root. scope_stays s) (λ up is. scope_stays s)

  moved_goes : (s : ScopeState) (p : Part) (next : PState) → Goes s (with_up_moved s p next)
  moved_goes s p next = (
    refl,
    ends_map s.ends (end_with_verdict_if_any (verdict_on_the_way p.state next))
        (λ e among. if_any_becomes (verdict_on_the_way p.state next) e),
  )

  new_end_goes : (s : ScopeState) (protocol : Protocol) (participant : Epr) → Goes s (scope_with_end s fresh protocol participant)
  new_end_goes s protocol participant = (refl, λ f among. by_place f (from_append s.ends _ f among))
    where
      by_place : (f : End) → Among s.ends f ⊎ Among (new_end fresh protocol participant ∷ []) f → ComesFrom cause fresh s.ends f
      by_place f (inl old) = ends_stay s f old
      by_place f (inr (inl same)) = inr (ap (λ (x : End). x.state) (sym same), ap (λ (x : End). x.id) (sym same))
      by_place f (inr (inr h)) = absurd h

  -- ---- a list of scopes

  pub states_stay : (scopes : List ScopeState) → StatesGo cause fresh scopes scopes
  states_stay scopes t f of among =
      inl (record { scope = t; end = f; here = of; among = among; becomes = stays_end f f refl refl })

  mapped_states : (scopes : List ScopeState) (g : ScopeState → ScopeState) → ((s : ScopeState) → Among scopes s → Goes s (g s))
      → StatesGo cause fresh scopes (map g scopes)
  mapped_states scopes g goes t f of among =
      let s = from_map g scopes t of in
      elim ((goes s.0 s.1).1 f (subst (λ (y : ScopeState). Among y.ends f) (sym s.2) among)) [
        | inl e ↦ inl (record { scope = s.0; end = e.0; here = s.1; among = e.1; becomes = e.2 })
        | inr new ↦ inr new
      ]

  one_goes : (n : NodeState) (s new : ScopeState) → NodeFits n → Among n.scopes s → Goes s new
      → StatesGo cause fresh n.scopes (with_scope n new).scopes
  one_goes n s new fits among goes = mapped_states n.scopes (scope_in_place_of new) each
    where
      each : (x : ScopeState) → Among n.scopes x → Goes x (scope_in_place_of new x)
      each x of = by_test (Goes x) (same_id x.id new.id) new x (λ here.
          let one : s ≡ x = one_scope n s x fits among of
          (ap (λ (i : Id). i.0) (sym goes.0) ∙ ap (λ (i : Id). i.0) (sym (same_id_is x.id new.id here))) in
          subst (λ (y : ScopeState). Goes y new) one goes)
          (λ other. scope_stays x)

  -- a new scope has no end
  new_goes : (scopes : List ScopeState) (new : ScopeState) → new.ends ≡ [] → StatesGo cause fresh scopes (scopes ++ new ∷ [])
  new_goes scopes new empty t f of among = by_place (from_append scopes (new ∷ []) t of)
    where
      by_place : Among scopes t ⊎ Among (new ∷ []) t → EndBefore cause scopes f ⊎ ((f.state ≡ end.Active) × (f.id ≡ fresh))
      by_place (inl old) = states_stay scopes t f old among
      by_place (inr (inl same)) =
          absurd (subst (λ (es : List End). Among es f) (ap (λ (y : ScopeState). y.ends) (sym same) ∙ empty) among)
      by_place (inr (inr h)) = absurd h

  part_goes : (n : NodeState) (id : Id) (place : PartPlace) (p : Part) (f : Part → Part) → NodeFits n → Stands n id place p
      → StatesGo cause fresh n.scopes (with_part_changed n place f).scopes
  part_goes n id nowhere p f fits stands = absurd stands
  part_goes n id (lone q) p f fits stands = states_stay n.scopes
  part_goes n id (upward s q) p f fits stands = one_goes n s (with_up s (f q)) fits stands.0.scope (scope_stays s)

  end_goes : (n : NodeState) (id : Id) (at : EndPlace) (f : End → End) → NodeFits n → EndStands n id at
      → ((e : End) → Among at.scope.ends e → same_id e.id at.end.id ≡ true → EndBecomes cause e (f e))
      → StatesGo cause fresh n.scopes (with_scope n (with_end_changed at.end.id f at.scope)).scopes
  end_goes n id at f fits stands becomes =
      one_goes n at.scope (with_end_changed at.end.id f at.scope) fits stands.scope
      (refl, ends_map at.scope.ends (changed_at at.end.id f) (at_becomes at.end.id f at.scope.ends becomes))

after_id : (m : Notice) (e : End) → (end_after_notice m e).id ≡ e.id
after_id m e = by_row (end_row e.protocol e.state m)
  where
    by_row : (row : CRow) → (end_after_row row e).id ≡ e.id
    by_row crow.Invalid = refl
    by_row (crow.Row next prompt) = refl

-- ---- each step

-- the identifier that a new end has
abbrev fresh_id : NodeState → Id
fresh_id n = next_id n 1

abbrev ByInput : Input → NodeState → NodeStep → Type 0
ByInput i n step = StatesGo (Some i) (next_id n 1) n.scopes step.after.scopes

abbrev ByTick : NodeState → TickStep → Type 0
ByTick n step = StatesGo None (next_id n 1) n.scopes step.after.scopes

pub input_states : (n : NodeState) (now : ℕ) (i : Input) → NodeFits n → ByInput i n (node_step n now i)
input_states n now (input.Create expires current kind protocol) fits =
    create_cases (ByInput _ n) n now expires current kind protocol (λ r. states_stay _ (fresh_id n) n.scopes)
    (λ k is root. new_goes _ (fresh_id n) n.scopes _ refl)
    (λ k c is of alike dialable. new_goes _ (fresh_id n) n.scopes _ refl)
input_states n now (input.Register scope protocol participant) fits =
    register_cases (ByInput _ n) n scope protocol participant (λ r. states_stay _ (fresh_id n) n.scopes) (λ s known registers.
    one_goes _ (fresh_id n) n s (scope_with_end s (next_id n 1) known participant) fits (scope_found n scope s registers.here).0
    (new_end_goes _ (fresh_id n) s known participant))
input_states n now (input.Join protocol registration) fits =
    join_cases (ByInput _ n) n protocol registration (λ r. states_stay _ (fresh_id n) n.scopes)
    (λ dialable. states_stay _ (fresh_id n) n.scopes)
input_states n now (input.Enrolled id coordinator) fits =
    enrolled_cases (ByInput _ n) n id coordinator (λ r. states_stay _ (fresh_id n) n.scopes) (λ place p stands registering dialable.
    part_goes _ (fresh_id n) n id place p (enrolled_part coordinator) fits stands)
input_states n now (input.RefusedBy id c) fits =
    refused_cases (ByInput _ n) n id c (λ r. states_stay _ (fresh_id n) n.scopes) (λ place p number stands registering is.
    part_goes _ (fresh_id n) n id place p refused_part fits stands)
input_states n now (input.Notice Coordinator id m) fits =
    end_notice_cases (ByInput _ n) n id m (λ r. states_stay _ (fresh_id n) n.scopes) (λ shown prompt. states_stay _ (fresh_id n) n.scopes)
    (λ at stands owes asks. end_goes _ (fresh_id n) n id at end_owing fits stands
    (λ e among here. stays_end _ (fresh_id n) e (end_owing e) refl refl))
    (λ at next prompt stands row other. end_goes _ (fresh_id n) n id at (end_after_notice m) fits stands
    (λ e among here. record {
      id = after_id m e;
      state = by_notice m (same_id_is e.id at.end.id here ∙ stands.is, refl) refl;
    }))
input_states n now (input.Notice Participant id m) fits =
    part_notice_cases (ByInput _ n) n id m (λ r. states_stay _ (fresh_id n) n.scopes) (λ shown prompt. states_stay _ (fresh_id n) n.scopes)
    (λ place p stands hears asks owes. part_goes _ (fresh_id n) n id place p part_owing fits stands)
    (λ p next prompt stands hears row other. states_stay _ (fresh_id n) n.scopes)
    (λ s p next prompt stands hears row other.
    one_goes _ (fresh_id n) n s (with_up_moved s p next) fits stands.scope (moved_goes _ (fresh_id n) s p next))
input_states n now (input.Act id a) fits =
    act_cases (ByInput _ n) n id a (λ r. states_stay _ (fresh_id n) n.scopes) (λ p next stands acts. states_stay _ (fresh_id n) n.scopes)
input_states n now (input.Ask id) fits =
    ask_cases (ByInput _ n) n id (λ r. states_stay _ (fresh_id n) n.scopes)
    (λ at stands asks. end_goes _ (fresh_id n) n id at end_asking fits stands
    (λ e among here. stays_end _ (fresh_id n) e (end_asking e) refl refl))
    (λ place p none stands hears asks. part_goes _ (fresh_id n) n id place p part_asking fits stands)
input_states n now (input.Decide id v) fits =
    on_decide_cases (ByInput _ n) n id v (λ r. states_stay _ (fresh_id n) n.scopes)
    (λ s here ok. one_goes _ (fresh_id n) n s (decide s v).after fits (scope_found n id s here).0 (decide_goes _ (fresh_id n) s v))
input_states n now (input.Choose id v) fits =
    on_choose_cases (ByInput _ n) n id v (λ r. states_stay _ (fresh_id n) n.scopes)
    (λ at stands ok.
    one_goes _ (fresh_id n) n at.scope (choose at.scope id v).after fits stands.scope (choose_goes _ (fresh_id n) at.scope id v))
input_states n now (input.Complete id) fits =
    on_complete_cases (ByInput _ n) n id (λ r. states_stay _ (fresh_id n) n.scopes)
    (λ at stands ok.
    one_goes _ (fresh_id n) n at.scope (complete at.scope id).after fits stands.scope
    (complete_goes _ (fresh_id n) n at.scope id fits stands.scope))
input_states n now (input.Finish id) fits =
    on_finish_cases (ByInput _ n) n id (λ r. states_stay _ (fresh_id n) n.scopes)
    (λ s up here is ok. one_goes _ (fresh_id n) n s (finish s).after fits (scope_found n id s here).0 (finish_goes _ (fresh_id n) s))
input_states n now (input.Leave id how) fits =
    on_leave_cases (ByInput _ n) n id how (λ r. states_stay _ (fresh_id n) n.scopes)
    (λ s up here is ok.
    one_goes _ (fresh_id n) n s (leave_by s how).after fits (scope_found n id s here).0 (leave_goes _ (fresh_id n) s how))

pub tick_states : (n : NodeState) (now : ℕ) (id : Id) → NodeFits n → ByTick n (tick_step n now id)
tick_states n now id fits =
    tick_cases (ByTick n) n now id (λ l. states_stay None (fresh_id n) n.scopes)
    (λ s here expired.
    one_goes None (fresh_id n) n s (expire s now).after fits (scope_found n id s here).0 (expire_goes None (fresh_id n) s now))
    (λ at w no_scope stands ticks. end_goes None (fresh_id n) n id at (λ it. (tick_of_end it).after) fits stands
    (λ e among here. tick_becomes None (fresh_id n) e))
    (λ p no_scope no_end stands hears talks. states_stay None (fresh_id n) n.scopes)
    (λ s p w no_scope no_end stands hears moves.
    one_goes None (fresh_id n) n s (tick_up s).after fits stands.scope (tick_up_goes None (fresh_id n) s))

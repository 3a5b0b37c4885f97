-- What a step of a node keeps of its scopes and their ends: identifiers, verdicts, and whence an end comes to close; for the law that
-- each node keeps its word.
use Rattle.std.proofs.Common.{◌≡◌, ◌⊎◌, inl, inr, ℕ, Bool, true, false, ◌&&◌, List, [], ◌∷◌, ◌++◌, map, Option, None, Some, is_none}
use Rattle.std.proofs.Common.{is_some, unwrap_or, refl, sym, ap, ◌∙◌, subst, true≢false}
use Rattle.std.specs.List.{list_all}
use Rattle.std.proofs.lemmas.Bool.{and_parts}
use Rattle.ba_core.specs.EndRows.{chosen_state, completed_state, end_row, end_tick, is_end_state}
use Rattle.ba_core.specs.PartRows.{part_row}
use Rattle.ba_core.specs.declared.identifiers.Id.{Id}
use Rattle.ba_core.specs.declared.notices.Leave.{Leave}
use Rattle.ba_core.specs.declared.notices.Notice.{Notice}
use Rattle.ba_core.specs.declared.notices.Notice.TheVariants as notice
use Rattle.ba_core.specs.declared.protocols.Kind.TheVariants.{Atomic}
use Rattle.ba_core.specs.declared.protocols.Protocol.{Protocol}
use Rattle.ba_core.specs.declared.protocols.Side.TheVariants.{Coordinator, Participant}
use Rattle.ba_core.specs.declared.protocols.Verdict.{Verdict}
use Rattle.ba_core.specs.declared.protocols.Verdict.TheVariants.{Close, Undo}
use Rattle.ba_core.specs.declared.rows.CRow.{CRow}
use Rattle.ba_core.specs.declared.rows.CRow.TheVariants as crow
use Rattle.ba_core.specs.declared.rows.PRow.{PRow}
use Rattle.ba_core.specs.declared.rows.PRow.TheVariants as prow
use Rattle.ba_core.specs.declared.states.How.TheVariants.{Closed}
use Rattle.ba_core.specs.declared.states.CState.{CState}
use Rattle.ba_core.specs.declared.states.CState.TheVariants as end
use Rattle.ba_core.specs.declared.states.PState.{PState}
use Rattle.ba_link.proofs.Everywhere.{ends, only_if, part_passes, parts, protocol_passes, protocols, state_passes, verdict_passes, verdicts}
use Rattle.ba_link.proofs.Everywhere.{where_asked}
use Rattle.ba_link.specs.Link.{settled_state}
use Rattle.ba_link.specs.Pairs.{is_open, verdict_fits_state}
use Rattle.ba_link.specs.States.{end_among, part_among}
use Rattle.ba_message.specs.declared.endpoints.Epr.{Epr}
use Rattle.ba_scope.proofs.Calls.{by_option, led}
use Rattle.ba_scope.proofs.Kept.{above_at, ends_below, verdict_below}
use Rattle.ba_scope.proofs.Lists.{by_test}
use Rattle.ba_scope.proofs.ScopeCases.{choose_cases, complete_cases, decide_cases, finish_cases, leave_cases}
use Rattle.ba_scope.proofs.Tables.{above_passes, allows, each_handing_allows, end_passes, for_kinds, handing_allows, handings_allow}
use Rattle.ba_scope.proofs.Tables.{if_leads, row_known, row_leads, rows_are_known, rows_lead}
use Rattle.ba_scope.specs.Fits.{Above, ScopeFits, above, end_fits, same_verdict, up_state, verdict_fits_scope}
use Rattle.ba_scope.specs.Rules.{ScopeStep, changed_at, choose, complete, decide, end_with_verdict_if_any, expire, finish}
use Rattle.ba_scope.specs.Rules.{is_expired, is_past}
use Rattle.ba_scope.specs.Rules.{leave_by, own_choice, scope_with_end, tick_up, verdict_then, with_end_changed, with_up}
use Rattle.ba_scope.specs.Rules.{with_up_moved, word_for}
use Rattle.ba_scope.specs.Scope.{ScopeState}
use Rattle.ba_scope.specs.declared.answers.Said.{Said}
use Rattle.ba_scope_ends.specs.Ends.{Tick, end_after_notice, end_after_row, end_asking, end_in_state, end_owing}
use Rattle.ba_scope_ends.specs.Ends.{end_with_id, end_with_verdict}
use Rattle.ba_scope_ends.specs.Ends.{end_with_verdict_if_none, same_id, tick_of_end}
use Rattle.ba_scope_ends.specs.Parts.{enrolled_part, part_asking, part_in_state, part_owing, refused_part, verdict_on_the_way}
use Rattle.ba_scope_ends.specs.declared.ends.End.{End}
use Rattle.ba_scope_ends.specs.declared.parts.Part.{Part}
use Rattle.ba_node_steps.specs.declared.inputs.Input.{Input}
use Rattle.ba_node_steps.specs.declared.inputs.Input.TheVariants as input
use Rattle.ba_node_steps.specs.Fits.{NodeFits}
use Rattle.ba_node_steps.specs.Node.{Among, EndPlace, NodeState, PartPlace, lone, next_id, nowhere, scope_in_place_of}
use Rattle.ba_node_steps.specs.Node.{upward, with_part_changed}
use Rattle.ba_node_steps.specs.Node.{with_scope}
use Rattle.ba_node_steps.specs.Steps.{NodeStep, node_step}
use Rattle.ba_node_steps.specs.Ticks.{TickStep, tick_step}
use Rattle.ba_node_steps.proofs.Cases.{act_cases, ask_cases, create_cases, end_notice_cases, enrolled_cases, join_cases, on_choose_cases}
use Rattle.ba_node_steps.proofs.Cases.{on_complete_cases, on_decide_cases, on_finish_cases, on_leave_cases}
use Rattle.ba_node_steps.proofs.Cases.{part_notice_cases, refused_cases}
use Rattle.ba_node_steps.proofs.Cases.{register_cases, tick_cases}
use Rattle.ba_node_steps.proofs.Members.{all_among, among_left, among_map, same_id_is}
use Rattle.ba_node_steps.proofs.Objects.{one_end, one_scope, scope_fits}
use Rattle.ba_node_steps.proofs.Places.{EndStands, Stands, first_is, scope_found}

-- ---- lists before and after: each item goes on as one, and each comes from one, or is new

pub record Follow (A : Type 0) (R : A → A → Type 0) (IsNew : A → Type 0) (xs ys : List A) : Type 0 where
  pub on : (x : A) → Among xs x → (y : A) × Among ys y × R x y
  pub back : (y : A) → Among ys y → ((x : A) × Among xs x × R x y) ⊎ IsNew y

among_mapped : {A B : Type 0} (f : A → B) (xs : List A) (y : B) → Among (map f xs) y → (x : A) × Among xs x × (f x ≡ y)
among_mapped f [] y h = absurd h
among_mapped f (x ∷ xs) y (inl h) = (x, inl refl, h)
among_mapped f (x ∷ xs) y (inr h) = let rest = among_mapped f xs y h in (rest.0, inr rest.1, rest.2)

pub among_either : {A : Type 0} (xs ys : List A) (x : A) → Among (xs ++ ys) x → Among xs x ⊎ Among ys x
among_either [] ys x h = inr h
among_either (y ∷ xs) ys x (inl h) = inl (inl h)
among_either (y ∷ xs) ys x (inr h) = elim (among_either xs ys x h) [ inl l ↦ inl (inr l) | inr r ↦ inr r ]

module _ (A : Type 0) (R : A → A → Type 0) (IsNew : A → Type 0) where
  pub all_stay : (xs : List A) → ((x : A) → R x x) → Follow A R IsNew xs xs
  all_stay xs same = record { on = λ x among. (x, among, same x); back = λ y among. inl (y, among, same y) }

  pub all_mapped : (xs : List A) (f : A → A) → ((x : A) → Among xs x → R x (f x)) → Follow A R IsNew xs (map f xs)
  all_mapped xs f goes = record {
    on = λ x among. (f x, among_map f xs x among, goes x among);
    back = λ y among. let x = among_mapped f xs y among in inl (x.0, x.1, subst (R x.0) x.2 (goes x.0 x.1));
  }

  pub one_pushed : (xs : List A) (new : A) → ((x : A) → R x x) → IsNew new → Follow A R IsNew xs (xs ++ new ∷ [])
  one_pushed xs new same is_new = record {
    on = λ x among. (x, among_left xs (new ∷ []) x among, same x);
    back = λ y among. elim (among_either xs (new ∷ []) y among) [
      | inl old ↦ inl (y, old, same y)
      | inr last ↦ inr (by_last y last)
    ];
  }
    where
      by_last : (y : A) → Among (new ∷ []) y → IsNew y
      by_last y (inl is) = subst IsNew is is_new
      by_last y (inr h) = absurd h

-- ---- what is computed: an end comes to close from Completed alone

abbrev pub closes_now : CState → Bool
closes_now = end_among (end.Closing ∷ end.Ended Closed ∷ [])

abbrev pub was_completed : CState → Bool
was_completed = end_among (end.Completed ∷ end.Closing ∷ end.Ended Closed ∷ [])

abbrev closes_after : CState → CState → Bool
closes_after next s = only_if (closes_now next) was_completed s

abbrev state_after : Protocol → Option Verdict → CState → CRow → CState
state_after protocol v s crow.Invalid = s
state_after protocol v s (crow.Row next prompt) = settled_state protocol next v

abbrev row_closes : Notice → Protocol → CState → Option Verdict → Bool
row_closes n protocol s v =
    only_if (verdict_fits_state s v) (λ w. closes_after (state_after protocol w s (end_row protocol s n)) s) v

abbrev rows_close : Notice → Protocol → CState → Bool
rows_close n protocol s = list_all (row_closes n protocol s) verdicts

each_row_closes : (n : Notice) → list_all (λ protocol. list_all (rows_close n protocol) ends) protocols ≡ true
each_row_closes notice.Complete = refl
each_row_closes n = refl

abbrev verdict_closes : Verdict → Protocol → CState → Bool
verdict_closes v protocol s = closes_after (unwrap_or (chosen_state protocol s v) s) s

each_verdict_closes : (v : Verdict) → list_all (λ protocol. list_all (verdict_closes v protocol) ends) protocols ≡ true
each_verdict_closes Close = refl
each_verdict_closes Undo = refl

abbrev wish_closes : Protocol → CState → Bool
wish_closes protocol s = if_leads (λ next. closes_after next s) (completed_state protocol s)

each_wish_closes : list_all (λ protocol. list_all (wish_closes protocol) ends) protocols ≡ true
each_wish_closes = refl

abbrev tick_closes : CState → Bool
tick_closes s = closes_after (end_tick s).0 s

each_tick_closes : list_all tick_closes ends ≡ true
each_tick_closes = refl

abbrev stay_closes : CState → Bool
stay_closes s = closes_after s s

each_stay_closes : list_all stay_closes ends ≡ true
each_stay_closes = refl

-- ---- an end before and after

pub record EndGoes (e f : End) : Type 0 where
  pub id : f.id ≡ e.id
  pub participant : f.participant ≡ e.participant
  pub verdict : (v : Verdict) → e.verdict ≡ Some v → f.verdict ≡ Some v
  pub closes : closes_now f.state ≡ true → was_completed e.state ≡ true

abbrev pub IsNewEnd : End → Type 0
IsNewEnd f = f.state ≡ end.Active

abbrev Closes : CState → CState → Type 0
Closes s next = closes_now next ≡ true → was_completed s ≡ true

by_table : (s next : CState) → closes_after next s ≡ true → Closes s next
by_table s next table = where_asked (closes_now next) was_completed s table

stays_closing : (s : CState) → Closes s s
stays_closing s = by_table s s (state_passes stay_closes each_stay_closes s)

pub same_end : (e : End) → EndGoes e e
same_end e = record { id = refl; participant = refl; verdict = λ v has. has; closes = stays_closing e.state }

-- the end with one of its flags changed
owing_goes : (e : End) → EndGoes e (end_owing e)
owing_goes e = record { id = refl; participant = refl; verdict = λ v has. has; closes = stays_closing e.state }

asking_goes : (e : End) → EndGoes e (end_asking e)
asking_goes e = record { id = refl; participant = refl; verdict = λ v has. has; closes = stays_closing e.state }

in_state_goes : (e : End) (next : CState) → Closes e.state next → EndGoes e (end_in_state next e)
in_state_goes e next closes = record { id = refl; participant = refl; verdict = λ v has. has; closes = closes }

notice_goes : (m : Notice) (e : End) → verdict_fits_state e.state e.verdict ≡ true → EndGoes e (end_after_notice m e)
notice_goes m e fits = by_row (end_row e.protocol e.state m)
    (by_table e.state (state_after e.protocol e.verdict e.state (end_row e.protocol e.state m))
    (where_asked (verdict_fits_state e.state e.verdict)
    (λ w. closes_after (state_after e.protocol w e.state (end_row e.protocol e.state m)) e.state) e.verdict
    (verdict_passes (row_closes m e.protocol e.state) (state_passes (rows_close m e.protocol)
    (protocol_passes (λ protocol. list_all (rows_close m protocol) ends) (each_row_closes m) e.protocol) e.state) e.verdict) fits))
  where
    by_row : (row : CRow) → Closes e.state (state_after e.protocol e.verdict e.state row) → EndGoes e (end_after_row row e)
    by_row crow.Invalid closes = same_end e
    by_row (crow.Row next prompt) closes = in_state_goes e (settled_state e.protocol next e.verdict) closes

no_verdict : {A : Type 0} (o : Option Verdict) (v : Verdict) → is_open o ≡ true → o ≡ Some v → A
no_verdict None v open_ has = absurd cc
no_verdict (Some u) v open_ has = absurd (true≢false (sym open_))

none_and_some : {A B : Type 0} (o : Option A) (a : A) → o ≡ None → o ≡ Some a → B
none_and_some {A} o a none some = let both : ◌≡◌ {A = Option A} None (Some a) = sym none ∙ some in absurd cc

none_is : {A : Type 0} (o : Option A) → is_none o ≡ true → o ≡ None
none_is None h = refl
none_is (Some a) h = absurd (true≢false (sym h))

-- a verdict on an end that has none
verdict_goes : (v : Verdict) (e : End) → is_open e.verdict ≡ true → EndGoes e (end_with_verdict v e)
verdict_goes v e open_ = record {
  id = refl;
  participant = refl;
  verdict = λ u has. no_verdict e.verdict u open_ has;
  closes = by_table e.state (unwrap_or (chosen_state e.protocol e.state v) e.state)
      (state_passes (verdict_closes v e.protocol)
      (protocol_passes (λ protocol. list_all (verdict_closes v protocol) ends) (each_verdict_closes v) e.protocol) e.state);
}

open_is : (o : Option Verdict) → o ≡ None → is_open o ≡ true
open_is o none = ap is_open none

if_none_goes : (v : Verdict) (e : End) → EndGoes e (end_with_verdict_if_none v e)
if_none_goes v e =
    by_test (EndGoes e) (is_none e.verdict) (end_with_verdict v e) e (λ none. verdict_goes v e (open_is e.verdict (none_is e.verdict none)))
    (λ some. same_end e)

wish_goes : (e : End) (next : CState) → completed_state e.protocol e.state ≡ Some next → EndGoes e (end_in_state next e)
wish_goes e next wish =
    in_state_goes e next (by_table e.state next (led (λ to. closes_after to e.state) (completed_state e.protocol e.state) next wish
    (state_passes (wish_closes e.protocol) (protocol_passes (λ protocol. list_all (wish_closes protocol) ends) each_wish_closes e.protocol)
    e.state)))

tick_goes : (e : End) → EndGoes e (tick_of_end e).after
tick_goes e =
    by_test (λ (t : Tick End). EndGoes e t.after) e.owes _ _
    (λ _. record { id = refl; participant = refl; verdict = λ v has. has; closes = stays_closing e.state })
    (λ _. by_test (λ (t : Tick End). EndGoes e t.after) e.asks
    (record { after = record e { asks = false }; says = Some notice.GetStatus })
    (record { after = end_in_state (end_tick e.state).0 e; says = (end_tick e.state).1 })
    (λ _. record { id = refl; participant = refl; verdict = λ v has. has; closes = stays_closing e.state })
    (λ _. in_state_goes e (end_tick e.state).0 (by_table e.state (end_tick e.state).0 (state_passes tick_closes each_tick_closes e.state))))

at_goes : (id : Id) (f : End → End) (e : End) → (same_id e.id id ≡ true → EndGoes e (f e)) → EndGoes e (changed_at id f e)
at_goes id f e goes = by_test (EndGoes e) (same_id e.id id) (f e) e goes (λ other. same_end e)

-- ---- what fits an end of a scope, part by part

pub record EndParts (s : ScopeState) (e : End) : Type 0 where
  pub verdict : verdict_fits_state e.state e.verdict ≡ true
  pub scope : verdict_fits_scope (up_state s.up) s.kind s.verdict e.verdict (own_choice e) ≡ true

pub end_parts : (s : ScopeState) (e : End) → ScopeFits s → Among s.ends e → EndParts s e
end_parts s e fits among =
    let fit = all_among (λ (x : End). end_fits (above s) x ≡ true) s.ends e fits.ends among in
    let both = and_parts (is_end_state e.protocol e.state && verdict_fits_state e.state e.verdict)
    (verdict_fits_scope (up_state s.up) s.kind s.verdict e.verdict (own_choice e) && _) fit in
    let own = and_parts (is_end_state e.protocol e.state) (verdict_fits_state e.state e.verdict) both.0 in
    let seen = and_parts (verdict_fits_scope (up_state s.up) s.kind s.verdict e.verdict (own_choice e)) _ both.1 in
    record { verdict = own.1; scope = seen.0 }

-- in an AtomicOutcome root an end's verdict is the scope's
pub atomic_verdict : (s : ScopeState) (e : End) → s.up ≡ None → s.kind ≡ Atomic → EndParts s e → same_verdict s.verdict e.verdict ≡ true
atomic_verdict s e root atomic fit =
    let seen : above s ≡ record { up = None; kind = Atomic; verdict = s.verdict } =
    (λ i. record { up = up_state (root i); kind = atomic i; verdict = s.verdict }) in
    subst (λ (a : Above). verdict_fits_scope a.up a.kind a.verdict e.verdict (own_choice e) ≡ true) seen fit.scope

-- ---- where a verdict is handed down neither the scope nor an end has one

abbrev finds_open : PState → PState → Above → Bool
finds_open before next a = only_if (is_some (verdict_on_the_way before next)) is_open a.verdict

abbrev finds_open_there : PState → PState → Bool
finds_open_there before next = only_if (part_among (rows_lead before) next) (λ to. for_kinds (finds_open before to) (Some before)) next

-- computed
each_finds_open : list_all (λ before. list_all (finds_open_there before) parts) parts ≡ true
each_finds_open = refl

module _ (p : Part) (n : Notice) (next : PState) (prompt : Bool) (row : part_row p.protocol p.state n ≡ prow.Row next prompt) where
  row_leads_there : part_among (rows_lead p.state) next ≡ true
  row_leads_there =
      let known = part_passes (row_known p.protocol n)
      (protocol_passes (λ protocol. list_all (row_known protocol n) parts) (rows_are_known n) p.protocol) p.state in
      subst (λ (x : PRow). row_leads p.state x ≡ true) row known

  open_before : (s : ScopeState) (e : End) (v : Verdict) → s.up ≡ Some p → ScopeFits s → Among s.ends e
      → verdict_on_the_way p.state next ≡ Some v → is_open e.verdict ≡ true
  open_before s e v is fits among hands =
      let a : Above = above_at p.state s in
      let by_before = part_passes (λ before. list_all (handings_allow before) parts) each_handing_allows p.state in
      let by_next = part_passes (handings_allow p.state) by_before next in
      let kinds = where_asked (part_among (rows_lead p.state) next) (λ to. for_kinds (handing_allows p.state to) (Some p.state)) next
      by_next row_leads_there in
      let test = above_passes (handing_allows p.state next) a kinds (verdict_below s p is fits) in
      let fit = all_among (λ (x : End). end_fits a x ≡ true) s.ends e (ends_below s p is fits) among in
      let may = end_passes (allows (verdict_on_the_way p.state next)) a test e.protocol e.state e.verdict fit in
      let may_now : (is_open e.verdict && is_some (chosen_state e.protocol e.state v)) ≡ true =
      subst (λ (x : Option Verdict). allows x e.protocol e.state e.verdict ≡ true) hands may in
      (and_parts (is_open e.verdict) (is_some (chosen_state e.protocol e.state v)) may_now).0

  -- nor has the scope
  scope_open_before : (s : ScopeState) (v : Verdict) → s.up ≡ Some p → ScopeFits s → verdict_on_the_way p.state next ≡ Some v
      → is_open s.verdict ≡ true
  scope_open_before s v is fits hands =
      let a : Above = above_at p.state s in
      let by_before = part_passes (λ before. list_all (finds_open_there before) parts) each_finds_open p.state in
      let by_next = part_passes (finds_open_there p.state) by_before next in
      let kinds = where_asked (part_among (rows_lead p.state) next) (λ to. for_kinds (finds_open p.state to) (Some p.state)) next
      by_next row_leads_there in
      let found = above_passes (finds_open p.state next) a kinds (verdict_below s p is fits) in
      where_asked (is_some (verdict_on_the_way p.state next)) is_open s.verdict found (ap is_some hands)

-- ---- a scope before and after

pub record ScopeGoes (s t : ScopeState) : Type 0 where
  pub id : t.id ≡ s.id
  pub verdict : (v : Verdict) → s.verdict ≡ Some v → t.verdict ≡ Some v
  pub ends : Follow End EndGoes IsNewEnd s.ends t.ends

abbrev pub IsNewScope : ScopeState → Type 0
IsNewScope t = t.ends ≡ []

abbrev pub ScopesGo : NodeState → NodeState → Type 0
ScopesGo n m = Follow ScopeState ScopeGoes IsNewScope n.scopes m.scopes

same_scope : (s : ScopeState) → ScopeGoes s s
same_scope s = record { id = refl; verdict = λ v has. has; ends = all_stay End EndGoes IsNewEnd s.ends same_end }

-- another upward part
up_goes : (s : ScopeState) (q : Part) → ScopeGoes s (with_up s q)
up_goes s q = record { id = refl; verdict = λ v has. has; ends = all_stay End EndGoes IsNewEnd s.ends same_end }

ends_go : (s : ScopeState) (f : End → End) → ((e : End) → Among s.ends e → EndGoes e (f e)) → ScopeGoes s (record s { ends = map f s.ends })
ends_go s f goes = record { id = refl; verdict = λ v has. has; ends = all_mapped End EndGoes IsNewEnd s.ends f goes }

new_end_goes : (s : ScopeState) (id : Id) (protocol : Protocol) (participant : Epr) → ScopeGoes s (scope_with_end s id protocol participant)
new_end_goes s id protocol participant =
    record { id = refl; verdict = λ v has. has; ends = one_pushed End EndGoes IsNewEnd s.ends _ same_end refl }

-- in an AtomicOutcome root without verdict no end has one
open_in_root : (s : ScopeState) (e : End) → s.up ≡ None → s.kind ≡ Atomic → s.verdict ≡ None → EndParts s e → is_open e.verdict ≡ true
open_in_root s e root atomic undecided fit =
    subst (λ (v : Option Verdict). same_verdict v e.verdict ≡ true) undecided (atomic_verdict s e root atomic fit)

decided_goes : (s : ScopeState) (v : Verdict) → ScopeFits s → ScopeGoes s (decide s v).after
decided_goes s v fits =
    decide_cases (λ (step : ScopeStep Said). ScopeGoes s step.after) s v (λ number id. same_scope s)
    (λ root atomic undecided ready. record {
      id = refl;
      verdict = λ u has. none_and_some s.verdict u undecided has;
      ends = all_mapped End EndGoes IsNewEnd s.ends (λ e. end_with_verdict (word_for v e) e)
          (λ e among. verdict_goes (word_for v e) e (open_in_root s e root atomic undecided (end_parts s e fits among)));
    })

module _ (n : NodeState) (s : ScopeState) (fits : NodeFits n) (of : Among n.scopes s) where
  -- the end that a look-up finds is the one with this identifier
  found_is : (id : Id) (e x : End) → end_with_id s.ends id ≡ Some e → Among s.ends x → same_id x.id id ≡ true → x ≡ e
  found_is id e x found among here =
      let first = first_is (λ (y : End). same_id y.id id) s.ends e found in
      (one_end n s s x e fits of of among first.0
      (ap (λ (i : Id). i.0) (same_id_is x.id id here) ∙ sym (ap (λ (i : Id). i.0) (same_id_is e.id id first.1)))).1

  chosen_goes : (id : Id) (v : Verdict) → ScopeGoes s (choose s id v).after
  chosen_goes id v =
      choose_cases (λ (step : ScopeStep Said). ScopeGoes s step.after) s id v (λ number shown. same_scope s)
      (λ e next found root mixed undecided chosen.
      ends_go s (changed_at id (end_with_verdict v)) (λ x among. at_goes id (end_with_verdict v) x (λ here.
      verdict_goes v x (open_is x.verdict (ap (λ (y : End). y.verdict) (found_is id e x found among here) ∙ undecided)))))

  completed_goes : (id : Id) → ScopeGoes s (complete s id).after
  completed_goes id =
      complete_cases (λ (step : ScopeStep Said). ScopeGoes s step.after) s id (λ number shown. same_scope s)
      (λ e next found open_ undecided wish.
      ends_go s (changed_at id (end_in_state next)) (λ x among. at_goes id (end_in_state next) x (λ here.
      wish_goes x next (subst (λ (y : End). completed_state y.protocol y.state ≡ Some next)
      (sym (found_is id e x found among here)) wish))))

finished_goes : (s : ScopeState) → ScopeGoes s (finish s).after
finished_goes s =
    finish_cases (λ (step : ScopeStep Said). ScopeGoes s step.after) s (λ number shown. same_scope s)
    (λ up next is acts ready. up_goes s (part_in_state next up))

left_goes : (s : ScopeState) (how : Leave) → ScopeGoes s (leave_by s how).after
left_goes s how =
    leave_cases (λ (step : ScopeStep Said). ScopeGoes s step.after) s how (λ number shown. same_scope s)
    (λ up next is may acts ended. up_goes s (part_in_state next up))

expired_goes : (s : ScopeState) (now : ℕ) → ScopeGoes s (expire s now).after
expired_goes s now =
    by_test (λ (step : ScopeStep Bool). ScopeGoes s step.after) (is_expired s now)
    (record { after = record s { verdict = Some Undo; ends = map (end_with_verdict_if_none Undo) s.ends }; answer = true })
    (record { after = s; answer = false })
    (λ expired.
    let rest = (and_parts (is_none s.up) (is_none s.verdict && is_past s.deadline now) expired).1 in
    let undecided = none_is s.verdict (and_parts (is_none s.verdict) (is_past s.deadline now) rest).0 in
    record {
      id = refl;
      verdict = λ u has. none_and_some s.verdict u undecided has;
      ends = all_mapped End EndGoes IsNewEnd s.ends (end_with_verdict_if_none Undo) (λ e among. if_none_goes Undo e);
    }) (λ _. same_scope s)

ticked_up_goes : (s : ScopeState) → ScopeGoes s (tick_up s).after
ticked_up_goes s =
    by_option (λ (t : Tick ScopeState). ScopeGoes s t.after) s.up (record { after = s; says = None }) _
    (λ root. same_scope s) (λ up is. up_goes s _)

-- an upward part moves by a notice, and hands its word down
moved_goes : (m : Notice) (s : ScopeState) (p : Part) (next : PState) (prompt : Bool) → ScopeFits s → s.up ≡ Some p
    → part_row p.protocol p.state m ≡ prow.Row next prompt → ScopeGoes s (with_up_moved s p next)
moved_goes m s p next prompt fits is row = record {
  id = refl;
  verdict = λ u has. kept u has (verdict_on_the_way p.state next) refl;
  ends = all_mapped End EndGoes IsNewEnd s.ends (end_with_verdict_if_any (verdict_on_the_way p.state next))
      (λ e among. handed e among (verdict_on_the_way p.state next) refl);
}
  where
    kept : (u : Verdict) → s.verdict ≡ Some u → (o : Option Verdict) → verdict_on_the_way p.state next ≡ o
        → verdict_then o s.verdict ≡ Some u
    kept u has None hands = has
    kept u has (Some v) hands = no_verdict s.verdict u (scope_open_before p m next prompt row s v is fits hands) has

    handed : (e : End) → Among s.ends e → (o : Option Verdict) → verdict_on_the_way p.state next ≡ o
        → EndGoes e (end_with_verdict_if_any o e)
    handed e among None hands = same_end e
    handed e among (Some v) hands = verdict_goes (word_for v e) e (open_before p m next prompt row s e v is fits among hands)

-- ---- the scopes of a node

pub scopes_stay : (n : NodeState) → ScopesGo n n
scopes_stay n = all_stay ScopeState ScopeGoes IsNewScope n.scopes same_scope

one_goes : (n : NodeState) (s new : ScopeState) → NodeFits n → Among n.scopes s → ScopeGoes s new → ScopesGo n (with_scope n new)
one_goes n s new fits among goes = all_mapped ScopeState ScopeGoes IsNewScope n.scopes (scope_in_place_of new) each
  where
    each : (x : ScopeState) → Among n.scopes x → ScopeGoes x (scope_in_place_of new x)
    each x of = by_test (ScopeGoes x) (same_id x.id new.id) new x (λ here.
        let one : s ≡ x = one_scope n s x fits among of
        (ap (λ (i : Id). i.0) (sym goes.id) ∙ ap (λ (i : Id). i.0) (sym (same_id_is x.id new.id here))) in
        subst (λ (y : ScopeState). ScopeGoes y new) one goes)
        (λ other. same_scope x)

new_scope_goes : (n : NodeState) (new : ScopeState) → new.ends ≡ [] → Follow ScopeState ScopeGoes IsNewScope n.scopes (n.scopes ++ new ∷ [])
new_scope_goes n new empty = one_pushed ScopeState ScopeGoes IsNewScope n.scopes new same_scope empty

-- a participant changed where it stands
part_goes : (n : NodeState) (id : Id) (place : PartPlace) (p : Part) (f : Part → Part) → NodeFits n → Stands n id place p
    → ScopesGo n (with_part_changed n place f)
part_goes n id nowhere p f fits stands = absurd stands
part_goes n id (lone q) p f fits stands = scopes_stay n
part_goes n id (upward s q) p f fits stands = one_goes n s (with_up s (f q)) fits stands.0.scope (up_goes s (f q))

end_goes : (n : NodeState) (id : Id) (at : EndPlace) (f : End → End) → NodeFits n → EndStands n id at
    → ((e : End) → Among at.scope.ends e → EndGoes e (f e)) → ScopesGo n (with_scope n (with_end_changed at.end.id f at.scope))
end_goes n id at f fits stands goes =
    one_goes n at.scope (with_end_changed at.end.id f at.scope) fits stands.scope
    (ends_go at.scope (changed_at at.end.id f) (λ e among. at_goes at.end.id f e (λ here. goes e among)))

-- ---- each step

abbrev ByInput : NodeState → NodeStep → Type 0
ByInput n step = ScopesGo n step.after

abbrev ByTick : NodeState → TickStep → Type 0
ByTick n step = ScopesGo n step.after

pub input_goes : (n : NodeState) (now : ℕ) (i : Input) → NodeFits n → ByInput n (node_step n now i)
input_goes n now (input.Create expires current kind protocol) fits =
    create_cases (ByInput n) n now expires current kind protocol (λ r. scopes_stay n)
    (λ k is root. new_scope_goes n _ refl) (λ k c is of alike dialable. new_scope_goes n _ refl)
input_goes n now (input.Register scope protocol participant) fits =
    register_cases (ByInput n) n scope protocol participant (λ r. scopes_stay n) (λ s known registers.
    one_goes n s (scope_with_end s (next_id n 1) known participant) fits (scope_found n scope s registers.here).0
    (new_end_goes s (next_id n 1) known participant))
input_goes n now (input.Join protocol registration) fits =
    join_cases (ByInput n) n protocol registration (λ r. scopes_stay n) (λ dialable. scopes_stay n)
input_goes n now (input.Enrolled id coordinator) fits =
    enrolled_cases (ByInput n) n id coordinator (λ r. scopes_stay n) (λ place p stands registering dialable.
    part_goes n id place p (enrolled_part coordinator) fits stands)
input_goes n now (input.RefusedBy id c) fits =
    refused_cases (ByInput n) n id c (λ r. scopes_stay n) (λ place p number stands registering is.
    part_goes n id place p refused_part fits stands)
input_goes n now (input.Notice Coordinator id m) fits =
    end_notice_cases (ByInput n) n id m (λ r. scopes_stay n) (λ shown prompt. scopes_stay n)
    (λ at stands owes asks. end_goes n id at end_owing fits stands (λ e among. owing_goes e))
    (λ at next prompt stands row other. end_goes n id at (end_after_notice m) fits stands (λ e among.
    let parts = end_parts at.scope e (scope_fits n at.scope fits stands.scope) among in notice_goes m e parts.verdict))
input_goes n now (input.Notice Participant id m) fits =
    part_notice_cases (ByInput n) n id m (λ r. scopes_stay n) (λ shown prompt. scopes_stay n)
    (λ place p stands hears asks owes. part_goes n id place p part_owing fits stands)
    (λ p next prompt stands hears row other. scopes_stay n)
    (λ s p next prompt stands hears row other.
    one_goes n s (with_up_moved s p next) fits stands.scope
    (moved_goes m s p next prompt (scope_fits n s fits stands.scope) stands.up row))
input_goes n now (input.Act id a) fits =
    act_cases (ByInput n) n id a (λ r. scopes_stay n) (λ p next stands acts. scopes_stay n)
input_goes n now (input.Ask id) fits =
    ask_cases (ByInput n) n id (λ r. scopes_stay n)
    (λ at stands asks. end_goes n id at end_asking fits stands (λ e among. asking_goes e))
    (λ place p none stands hears asks. part_goes n id place p part_asking fits stands)
input_goes n now (input.Decide id v) fits =
    on_decide_cases (ByInput n) n id v (λ r. scopes_stay n) (λ s here ok.
    let of = (scope_found n id s here).0 in one_goes n s (decide s v).after fits of (decided_goes s v (scope_fits n s fits of)))
input_goes n now (input.Choose id v) fits =
    on_choose_cases (ByInput n) n id v (λ r. scopes_stay n) (λ at stands ok.
    one_goes n at.scope (choose at.scope id v).after fits stands.scope (chosen_goes n at.scope fits stands.scope id v))
input_goes n now (input.Complete id) fits =
    on_complete_cases (ByInput n) n id (λ r. scopes_stay n) (λ at stands ok.
    one_goes n at.scope (complete at.scope id).after fits stands.scope (completed_goes n at.scope fits stands.scope id))
input_goes n now (input.Finish id) fits =
    on_finish_cases (ByInput n) n id (λ r. scopes_stay n) (λ s up here is ok.
    one_goes n s (finish s).after fits (scope_found n id s here).0 (finished_goes s))
input_goes n now (input.Leave id how) fits =
    on_leave_cases (ByInput n) n id how (λ r. scopes_stay n) (λ s up here is ok.
    one_goes n s (leave_by s how).after fits (scope_found n id s here).0 (left_goes s how))

pub tick_moves : (n : NodeState) (now : ℕ) (id : Id) → NodeFits n → ByTick n (tick_step n now id)
tick_moves n now id fits =
    tick_cases (ByTick n) n now id (λ l. scopes_stay n)
    (λ s here expired. one_goes n s (expire s now).after fits (scope_found n id s here).0 (expired_goes s now))
    (λ at w no_scope stands ticks. end_goes n id at (λ it. (tick_of_end it).after) fits stands (λ e among. tick_goes e))
    (λ p no_scope no_end stands hears talks. scopes_stay n)
    (λ s p w no_scope no_end stands hears moves. one_goes n s (tick_up s).after fits stands.scope (ticked_up_goes s))

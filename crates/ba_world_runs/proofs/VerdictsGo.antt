-- What a step of a node keeps of verdicts: an end keeps the one that it has, and a child has the one that it had, or the word that
-- its upward part is told; for the law that the end above a child has the child's verdict.
use Rattle.std.proofs.Common.{◌≡◌, ◌⊎◌, inl, inr, ℕ, Bool, true, false, ◌&&◌, List, [], ◌∷◌, ◌++◌, map, Option, None, Some, is_none}
use Rattle.std.proofs.Common.{is_some, refl, sym, ap, ◌∙◌, subst, true≢false}
use Rattle.std.specs.List.{list_all}
use Rattle.std.proofs.lemmas.Bool.{and_parts}
use Rattle.ba_core.specs.EndRows.{chosen_state, end_row, end_tick}
use Rattle.ba_core.specs.PartRows.{part_row}
use Rattle.ba_core.specs.declared.identifiers.Id.{Id}
use Rattle.ba_core.specs.declared.notices.Leave.{Leave}
use Rattle.ba_core.specs.declared.notices.Notice.{Notice}
use Rattle.ba_core.specs.declared.notices.Notice.TheVariants as notice
use Rattle.ba_core.specs.declared.protocols.Kind.TheVariants.{Atomic}
use Rattle.ba_core.specs.declared.protocols.Protocol.{Protocol}
use Rattle.ba_core.specs.declared.protocols.Side.TheVariants.{Coordinator, Participant}
use Rattle.ba_core.specs.declared.protocols.Verdict.{Verdict}
use Rattle.ba_core.specs.declared.protocols.Verdict.TheVariants.{Close, Undo}
use Rattle.ba_core.specs.declared.rows.CRow.{CRow}
use Rattle.ba_core.specs.declared.rows.CRow.TheVariants as crow
use Rattle.ba_core.specs.declared.rows.PRow.{PRow}
use Rattle.ba_core.specs.declared.rows.PRow.TheVariants as prow
use Rattle.ba_core.specs.declared.states.PState.{PState}
use Rattle.ba_link.specs.Pairs.{is_close, is_open, is_undo}
use Rattle.ba_link.specs.States.{part_among}
use Rattle.ba_link.proofs.Everywhere.{part_passes, parts, protocol_passes, protocols, where_asked}
use Rattle.ba_message.specs.declared.endpoints.Epr.{Epr}
use Rattle.ba_scope.proofs.Calls.{by_option}
use Rattle.ba_scope.proofs.Kept.{above_at, ends_below, verdict_below}
use Rattle.ba_scope.proofs.Lists.{by_test}
use Rattle.ba_scope.proofs.Tables.{above_passes, allows, each_handing_allows, end_passes, for_kinds, handing_allows, handings_allow}
use Rattle.ba_scope.proofs.Tables.{row_known, row_leads, rows_are_known, rows_lead}
use Rattle.ba_scope.specs.Fits.{Above, ScopeFits, above, end_fits, same_verdict}
use Rattle.ba_scope_ends.specs.Ends.{Tick, end_after_notice, end_after_row, end_asking, end_in_state, end_owing, end_with_verdict}
use Rattle.ba_scope_ends.specs.Ends.{end_with_verdict_if_none, tick_of_end, end_with_id, same_id}
use Rattle.ba_scope_ends.specs.Parts.{enrolled_part, part_asking, part_in_state, part_owing, refused_part, tick_of_part, verdict_on_the_way}
use Rattle.ba_scope.specs.Rules.{ScopeStep, changed_at, choose, complete, decide, end_with_verdict_if_any, expire, finish, is_expired}
use Rattle.ba_scope.specs.Rules.{is_past, leave_by, part_at_tick, scope_with_end, tick_up, verdict_then, with_end_changed, with_up}
use Rattle.ba_scope.specs.Rules.{with_up_moved}
use Rattle.ba_scope.specs.Scope.{ScopeState}
use Rattle.ba_scope.specs.declared.answers.Said.{Said}
use Rattle.ba_scope_ends.specs.declared.ends.End.{End}
use Rattle.ba_scope_ends.specs.declared.parts.Part.{Part}
use Rattle.ba_node_steps.specs.declared.inputs.Input.{Input}
use Rattle.ba_node_steps.specs.declared.inputs.Input.TheVariants as input
use Rattle.ba_node_steps.specs.Fits.{NodeFits}
use Rattle.ba_node_steps.specs.Node.{Among, EndPlace, NodeState, PartPlace, lone, next_id, nowhere, scope_in_place_of, upward, with_part_changed}
use Rattle.ba_node_steps.specs.Node.{with_scope}
use Rattle.ba_node_steps.specs.Steps.{NodeStep, node_step}
use Rattle.ba_node_steps.specs.Ticks.{TickStep, tick_step}
use Rattle.ba_node_steps.proofs.Cases.{act_cases, ask_cases, create_cases, end_notice_cases, enrolled_cases, join_cases, on_choose_cases}
use Rattle.ba_node_steps.proofs.Cases.{on_complete_cases, on_decide_cases, on_finish_cases, on_leave_cases, part_notice_cases, refused_cases}
use Rattle.ba_node_steps.proofs.Cases.{register_cases, tick_cases}
use Rattle.ba_node_steps.proofs.Members.{all_among, among_left, among_map, same_id_is}
use Rattle.ba_node_steps.proofs.Objects.{one_end, one_scope, scope_fits}
use Rattle.ba_node_steps.proofs.Places.{EndStands, Stands, first_is, scope_found}
use Rattle.ba_scope.proofs.ScopeCases.{choose_cases, complete_cases, decide_cases, finish_cases, leave_cases}
use Rattle.ba_node_steps.specs.WordsTold.{word_told}
use Rattle.ba_world_runs.proofs.EndLemmas.{atomic_verdict}
use Rattle.ba_world_runs.proofs.Goes.{from_append, from_map, some_same}
use Rattle.ba_world_runs.proofs.StepsGo.{tick_up_same}

-- ---- what an input tells a participant: a word

abbrev pub TellsWord : Option Input → Id → Verdict → Type 0
TellsWord (Some (input.Notice Participant id n)) part v = (part ≡ id) × (word_told n ≡ Some v)
TellsWord cause part v = ⊥

-- ---- a scope before and after

-- what an end with a verdict becomes
abbrev pub KeepsVerdict : End → Verdict → End → Type 0
KeepsVerdict e v f = (f.participant ≡ e.participant) × (f.verdict ≡ Some v)

-- the upward part before, and whence the verdict is
pub record VerdictComes (cause : Option Input) (s : ScopeState) (q : Part) (v : Verdict) : Type 0 where
  pub part : Part
  pub is_up : s.up ≡ Some part
  pub id : q.id ≡ part.id
  pub registration : q.registration ≡ part.registration
  pub verdict : (s.verdict ≡ Some v) ⊎ TellsWord cause part.id v

pub record VerdictsGo (cause : Option Input) (s t : ScopeState) : Type 0 where
  pub id : t.id ≡ s.id
  pub ends : (e : End) (v : Verdict) → Among s.ends e → e.verdict ≡ Some v → (f : End) × Among t.ends f × KeepsVerdict e v f
  pub child : (q : Part) (v : Verdict) → t.up ≡ Some q → t.verdict ≡ Some v → VerdictComes cause s q v

-- ---- the scopes of a node before and after

-- an end afterwards that is this one, and has this verdict
pub record EndKeeps (after : List ScopeState) (s : ScopeState) (e : End) (v : Verdict) : Type 0 where
  pub scope : ScopeState
  pub end : End
  pub here : Among after scope
  pub among : Among scope.ends end
  pub own : scope.id ≡ s.id
  pub keeps : KeepsVerdict e v end

-- the child before that is this one, and whence its verdict is
pub record ChildComes (cause : Option Input) (before : List ScopeState) (q : Part) (v : Verdict) : Type 0 where
  pub scope : ScopeState
  pub here : Among before scope
  pub comes : VerdictComes cause scope q v

pub record VerdictsStay (cause : Option Input) (before after : List ScopeState) : Type 0 where
  pub ends : (s : ScopeState) (e : End) (v : Verdict) → Among before s → Among s.ends e → e.verdict ≡ Some v → EndKeeps after s e v
  pub children : (t : ScopeState) (q : Part) (v : Verdict) → Among after t → t.up ≡ Some q → t.verdict ≡ Some v
      → ChildComes cause before q v

-- ---- facts of verdicts and options

no_verdict : {A : Type 0} (o : Option Verdict) (v : Verdict) → is_open o ≡ true → o ≡ Some v → A
no_verdict None v open_ has = absurd cc
no_verdict (Some u) v open_ has = absurd (true≢false (sym open_))

none_and_some : {A B : Type 0} (o : Option A) (a : A) → o ≡ None → o ≡ Some a → B
none_and_some {A} o a none some = let both : ◌≡◌ {A = Option A} None (Some a) = sym none ∙ some in absurd cc

none_is : {A : Type 0} (o : Option A) → is_none o ≡ true → o ≡ None
none_is None h = refl
none_is (Some a) h = absurd (true≢false (sym h))

-- ---- changed ends

abbrev KeepsIt : (End → End) → Type 0
KeepsIt f = (e : End) (v : Verdict) → e.verdict ≡ Some v → KeepsVerdict e v (f e)

at_keeps_it : (id : Id) (f : End → End) → KeepsIt f → KeepsIt (changed_at id f)
at_keeps_it id f keeps e v has = by_test (KeepsVerdict e v) (same_id e.id id) (f e) e (λ here. keeps e v has) (λ other. (refl, has))

after_row_keeps : (row : CRow) → KeepsIt (end_after_row row)
after_row_keeps crow.Invalid e v has = (refl, has)
after_row_keeps (crow.Row next prompt) e v has = (refl, has)

after_notice_keeps : (m : Notice) → KeepsIt (end_after_notice m)
after_notice_keeps m e v has = after_row_keeps (end_row e.protocol e.state m) e v has

if_none_keeps : (u : Verdict) → KeepsIt (end_with_verdict_if_none u)
if_none_keeps u e v has =
    by_test (KeepsVerdict e v) (is_none e.verdict) (end_with_verdict u e) e (λ none. none_and_some e.verdict v (none_is e.verdict none) has)
    (λ some. (refl, has))

tick_keeps_it : KeepsIt (λ e. (tick_of_end e).after)
tick_keeps_it e v has =
    by_test (λ (t : Tick End). KeepsVerdict e v t.after) e.owes _ _ (λ _. (refl, has))
    (λ _. by_test (λ (t : Tick End). KeepsVerdict e v t.after) e.asks
    (record { after = record e { asks = false }; says = Some notice.GetStatus })
    (record { after = end_in_state (end_tick e.state).0 e; says = (end_tick e.state).1 })
    (λ _. (refl, has)) (λ _. (refl, has)))

-- ---- what a row hands down is the word that was told

abbrev same_word : Option Verdict → Option Verdict → Bool
same_word None told = true
same_word (Some Close) told = is_close told
same_word (Some Undo) told = is_undo told

abbrev row_hands : PState → Notice → PRow → Bool
row_hands before n prow.Invalid = true
row_hands before n (prow.Row next prompt) = same_word (verdict_on_the_way before next) (word_told n)

abbrev rows_hand : Notice → Protocol → PState → Bool
rows_hand n protocol p = row_hands p n (part_row protocol p n)

-- computed
each_row_hands : (n : Notice) → list_all (λ protocol. list_all (rows_hand n protocol) parts) protocols ≡ true
each_row_hands notice.Complete = refl
each_row_hands n = refl

same_word_is : (v : Verdict) (told : Option Verdict) → same_word (Some v) told ≡ true → told ≡ Some v
same_word_is Close None h = absurd (true≢false (sym h))
same_word_is Close (Some Close) h = refl
same_word_is Close (Some Undo) h = absurd (true≢false (sym h))
same_word_is Undo None h = absurd (true≢false (sym h))
same_word_is Undo (Some Close) h = absurd (true≢false (sym h))
same_word_is Undo (Some Undo) h = refl

module _ (p : Part) (n : Notice) (next : PState) (prompt : Bool) (row : part_row p.protocol p.state n ≡ prow.Row next prompt) where
  word_handed : (v : Verdict) → verdict_on_the_way p.state next ≡ Some v → word_told n ≡ Some v
  word_handed v hands =
      let table = part_passes (rows_hand n p.protocol)
      (protocol_passes (λ protocol. list_all (rows_hand n protocol) parts) (each_row_hands n) p.protocol) p.state in
      let at_row : same_word (verdict_on_the_way p.state next) (word_told n) ≡ true =
      subst (λ (x : PRow). row_hands p.state n x ≡ true) row table in
      same_word_is v (word_told n) (subst (λ (x : Option Verdict). same_word x (word_told n) ≡ true) hands at_row)

  row_leads_there : part_among (rows_lead p.state) next ≡ true
  row_leads_there =
      let known = part_passes (row_known p.protocol n)
      (protocol_passes (λ protocol. list_all (row_known protocol n) parts) (rows_are_known n) p.protocol) p.state in
      subst (λ (x : PRow). row_leads p.state x ≡ true) row known

  -- where a verdict is handed down no end has one
  open_before : (s : ScopeState) (e : End) (v : Verdict) → s.up ≡ Some p → ScopeFits s → Among s.ends e
      → verdict_on_the_way p.state next ≡ Some v → is_open e.verdict ≡ true
  open_before s e v is fits among hands =
      let a : Above = above_at p.state s in
      let by_before = part_passes (λ before. list_all (handings_allow before) parts) each_handing_allows p.state in
      let by_next = part_passes (handings_allow p.state) by_before next in
      let kinds = where_asked (part_among (rows_lead p.state) next) (λ to. for_kinds (handing_allows p.state to) (Some p.state)) next
      by_next row_leads_there in
      let test = above_passes (handing_allows p.state next) a kinds (verdict_below s p is fits) in
      let fit = all_among (λ (x : End). end_fits a x ≡ true) s.ends e (ends_below s p is fits) among in
      let may = end_passes (allows (verdict_on_the_way p.state next)) a test e.protocol e.state e.verdict fit in
      let may_now : (is_open e.verdict && is_some (chosen_state e.protocol e.state v)) ≡ true =
      subst (λ (x : Option Verdict). allows x e.protocol e.state e.verdict ≡ true) hands may in
      (and_parts (is_open e.verdict) (is_some (chosen_state e.protocol e.state v)) may_now).0

-- in an AtomicOutcome root without verdict no end has one
open_in_root : (s : ScopeState) (e : End) → s.up ≡ None → s.kind ≡ Atomic → s.verdict ≡ None → end_fits (above s) e ≡ true
    → is_open e.verdict ≡ true
open_in_root s e root atomic undecided fit =
    subst (λ (v : Option Verdict). same_verdict v e.verdict ≡ true) undecided (atomic_verdict s e root atomic fit)

module _ (cause : Option Input) where
  -- ---- a changed scope

  verdict_stays : (s : ScopeState) (q : Part) (v : Verdict) → s.up ≡ Some q → s.verdict ≡ Some v → VerdictComes cause s q v
  verdict_stays s q v is has = record { part = q; is_up = is; id = refl; registration = refl; verdict = inl has }

  verdicts_stay : (s : ScopeState) → VerdictsGo cause s s
  verdicts_stay s = record { id = refl; ends = λ e v among has. (e, among, (refl, has)); child = verdict_stays s }

  ends_go : (s : ScopeState) (f : End → End) → KeepsIt f → VerdictsGo cause s (record s { ends = map f s.ends })
  ends_go s f keeps = record {
    id = refl;
    ends = λ e v among has. (f e, among_map f s.ends e among, keeps e v has);
    child = verdict_stays s;
  }

  up_goes : (s : ScopeState) (p q : Part) → s.up ≡ Some p → q.id ≡ p.id → q.registration ≡ p.registration
      → VerdictsGo cause s (with_up s q)
  up_goes s p q is id registration = record {
    id = refl;
    ends = λ e v among has. (e, among, (refl, has));
    child = λ x v x_is has.
        let one : q ≡ x = some_same q x x_is in
        record {
          part = p;
          is_up = is;
          id = ap (λ (y : Part). y.id) (sym one) ∙ id;
          registration = ap (λ (y : Part). y.registration) (sym one) ∙ registration;
          verdict = inl has;
        };
  }

  decided_goes : (s : ScopeState) (v : Verdict) → ScopeFits s → VerdictsGo cause s (decide s v).after
  decided_goes s v fits =
      decide_cases (λ (step : ScopeStep Said). VerdictsGo cause s step.after) s v (λ number id. verdicts_stay s)
      (λ root atomic undecided ready. record {
        id = refl;
        ends = λ e u among has.
            let fit = all_among (λ (x : End). end_fits (above s) x ≡ true) s.ends e fits.ends among in
            no_verdict e.verdict u (open_in_root s e root atomic undecided fit) has;
        child = λ q u is has. none_and_some s.up q root is;
      })

  chosen_goes : (n : NodeState) (s : ScopeState) (id : Id) (v : Verdict) → NodeFits n → Among n.scopes s
      → VerdictsGo cause s (choose s id v).after
  chosen_goes n s id v fits of =
      choose_cases (λ (step : ScopeStep Said). VerdictsGo cause s step.after) s id v (λ number shown. verdicts_stay s)
      (λ e next found root mixed undecided chosen. record {
        id = refl;
        ends = λ x u among has. (
          changed_at id (end_with_verdict v) x,
          among_map (changed_at id (end_with_verdict v)) s.ends x among,
          by_test (KeepsVerdict x u) (same_id x.id id) (end_with_verdict v x) x
              (λ here. by_id e x u found undecided among has here) (λ other. (refl, has)),
        );
        child = verdict_stays s;
      })
    where
      by_id : (e x : End) (u : Verdict) → end_with_id s.ends id ≡ Some e → e.verdict ≡ None → Among s.ends x → x.verdict ≡ Some u
          → same_id x.id id ≡ true → KeepsVerdict x u (end_with_verdict v x)
      by_id e x u found undecided among has here =
          let first = first_is (λ (y : End). same_id y.id id) s.ends e found in
          let one : x ≡ e = (one_end n s s x e fits of of among first.0
          (ap (λ (i : Id). i.0) (same_id_is x.id id here) ∙ sym (ap (λ (i : Id). i.0) (same_id_is e.id id first.1)))).1 in
          none_and_some x.verdict u (ap (λ (y : End). y.verdict) one ∙ undecided) has

  completed_goes : (s : ScopeState) (id : Id) → VerdictsGo cause s (complete s id).after
  completed_goes s id =
      complete_cases (λ (step : ScopeStep Said). VerdictsGo cause s step.after) s id (λ number shown. verdicts_stay s)
      (λ e next found open_ undecided asked.
      ends_go s (changed_at id (end_in_state next)) (at_keeps_it id (end_in_state next) (λ x v has. (refl, has))))

  finished_goes : (s : ScopeState) → VerdictsGo cause s (finish s).after
  finished_goes s =
      finish_cases (λ (step : ScopeStep Said). VerdictsGo cause s step.after) s (λ number shown. verdicts_stay s)
      (λ up next is acts ready. up_goes s up (part_in_state next up) is refl refl)

  left_goes : (s : ScopeState) (how : Leave) → VerdictsGo cause s (leave_by s how).after
  left_goes s how =
      leave_cases (λ (step : ScopeStep Said). VerdictsGo cause s step.after) s how (λ number shown. verdicts_stay s)
      (λ up next is may acts ended. up_goes s up (part_in_state next up) is refl refl)

  expired_goes : (s : ScopeState) (now : ℕ) → VerdictsGo cause s (expire s now).after
  expired_goes s now =
      by_test (λ (step : ScopeStep Bool). VerdictsGo cause s step.after) (is_expired s now)
      (record { after = record s { verdict = Some Undo; ends = map (end_with_verdict_if_none Undo) s.ends }; answer = true })
      (record { after = s; answer = false })
      (λ expired.
      let root = none_is s.up (and_parts (is_none s.up) (is_none s.verdict && is_past s.deadline now) expired).0 in
      record {
        id = refl;
        ends = λ e v among has.
            (end_with_verdict_if_none Undo e, among_map (end_with_verdict_if_none Undo) s.ends e among, if_none_keeps Undo e v has);
        child = λ q u is has. none_and_some s.up q root is;
      }) (λ _. verdicts_stay s)

  ticked_up_goes : (s : ScopeState) → VerdictsGo cause s (tick_up s).after
  ticked_up_goes s =
      by_option (λ (t : Tick ScopeState). VerdictsGo cause s t.after) s.up (record { after = s; says = None }) _
      (λ root. verdicts_stay s)
      (λ up is.
      let same = tick_up_same cause s up in
      up_goes s up (tick_of_part (part_at_tick s up)).after is same.id same.registration)

  new_end_goes : (s : ScopeState) (id : Id) (protocol : Protocol) (participant : Epr)
      → VerdictsGo cause s (scope_with_end s id protocol participant)
  new_end_goes s id protocol participant = record {
    id = refl;
    ends = λ e v among has. (e, among_left s.ends _ e among, (refl, has));
    child = verdict_stays s;
  }

  -- ---- a list of scopes

  pub stays_all : (scopes : List ScopeState) → VerdictsStay cause scopes scopes
  stays_all scopes = record {
    ends = λ s e v of among has. record { scope = s; end = e; here = of; among = among; own = refl; keeps = (refl, has) };
    children = λ t q v of is has. record { scope = t; here = of; comes = verdict_stays t q v is has };
  }

  mapped_stays : (scopes : List ScopeState) (g : ScopeState → ScopeState)
      → ((s : ScopeState) → Among scopes s → VerdictsGo cause s (g s)) → VerdictsStay cause scopes (map g scopes)
  mapped_stays scopes g goes = record {
    ends = λ s e v of among has.
        let f = (goes s of).ends e v among has in
        record { scope = g s; end = f.0; here = among_map g scopes s of; among = f.1; own = (goes s of).id; keeps = f.2 };
    children = λ t q v of is has.
        let s = from_map g scopes t of in
        record {
          scope = s.0;
          here = s.1;
          comes = (goes s.0 s.1).child q v (ap (λ (y : ScopeState). y.up) s.2 ∙ is) (ap (λ (y : ScopeState). y.verdict) s.2 ∙ has);
        };
  }

  one_stays : (n : NodeState) (s new : ScopeState) → NodeFits n → Among n.scopes s → VerdictsGo cause s new
      → VerdictsStay cause n.scopes (with_scope n new).scopes
  one_stays n s new fits among goes = mapped_stays n.scopes (scope_in_place_of new) each
    where
      each : (x : ScopeState) → Among n.scopes x → VerdictsGo cause x (scope_in_place_of new x)
      each x of = by_test (VerdictsGo cause x) (same_id x.id new.id) new x (λ here.
          let one : s ≡ x = one_scope n s x fits among of
          (ap (λ (i : Id). i.0) (sym goes.id) ∙ ap (λ (i : Id). i.0) (sym (same_id_is x.id new.id here))) in
          subst (λ (y : ScopeState). VerdictsGo cause y new) one goes)
          (λ other. verdicts_stay x)

  -- a new scope has no verdict
  new_stays : (scopes : List ScopeState) (new : ScopeState) → new.verdict ≡ None → VerdictsStay cause scopes (scopes ++ new ∷ [])
  new_stays scopes new none = record {
    ends = λ s e v of among has.
        record { scope = s; end = e; here = among_left scopes (new ∷ []) s of; among = among; own = refl; keeps = (refl, has) };
    children = λ t q v of is has. by_place t q v (from_append scopes (new ∷ []) t of) is has;
  }
    where
      by_place : (t : ScopeState) (q : Part) (v : Verdict) → Among scopes t ⊎ Among (new ∷ []) t → t.up ≡ Some q → t.verdict ≡ Some v
          → ChildComes cause scopes q v
      by_place t q v (inl old) is has = record { scope = t; here = old; comes = verdict_stays t q v is has }
      by_place t q v (inr (inl same)) is has =
          none_and_some t.verdict v (ap (λ (y : ScopeState). y.verdict) (sym same) ∙ none) has
      by_place t q v (inr (inr h)) is has = absurd h

  -- a participant changed where it stands
  part_stays : (n : NodeState) (id : Id) (place : PartPlace) (p : Part) (f : Part → Part) → NodeFits n → Stands n id place p
      → (f p).id ≡ p.id → (f p).registration ≡ p.registration → VerdictsStay cause n.scopes (with_part_changed n place f).scopes
  part_stays n id nowhere p f fits stands same registration = absurd stands
  part_stays n id (lone q) p f fits stands same registration = stays_all n.scopes
  part_stays n id (upward s q) p f fits stands same registration =
      one_stays n s (with_up s (f q)) fits stands.0.scope (up_goes s q (f q) stands.0.up
      (subst (λ (x : Part). (f x).id ≡ x.id) (sym stands.1) same)
      (subst (λ (x : Part). (f x).registration ≡ x.registration) (sym stands.1) registration))

-- an upward part moves by a notice, and hands its word down
moved_goes : (id : Id) (m : Notice) (s : ScopeState) (p : Part) (next : PState) (prompt : Bool) → ScopeFits s → s.up ≡ Some p → p.id ≡ id
    → part_row p.protocol p.state m ≡ prow.Row next prompt → VerdictsGo (Some (input.Notice Participant id m)) s (with_up_moved s p next)
moved_goes id m s p next prompt fits is its row = record {
  id = refl;
  ends = λ e v among has. (
    end_with_verdict_if_any (verdict_on_the_way p.state next) e,
    among_map (end_with_verdict_if_any (verdict_on_the_way p.state next)) s.ends e among,
    by_verdict e v among has (verdict_on_the_way p.state next) refl,
  );
  child = λ q v q_is has.
      let one : part_in_state next p ≡ q = some_same (part_in_state next p) q q_is in
      record {
        part = p;
        is_up = is;
        id = ap (λ (y : Part). y.id) (sym one);
        registration = ap (λ (y : Part). y.registration) (sym one);
        verdict = by_handed v (verdict_on_the_way p.state next) refl has;
      };
}
  where
    by_verdict : (e : End) (v : Verdict) → Among s.ends e → e.verdict ≡ Some v → (o : Option Verdict)
        → verdict_on_the_way p.state next ≡ o
        → KeepsVerdict e v (end_with_verdict_if_any o e)
    by_verdict e v among has None hands = (refl, has)
    by_verdict e v among has (Some u) hands =
        no_verdict e.verdict v (open_before p m next prompt row s e u is fits among hands) has

    by_handed : (v : Verdict) (o : Option Verdict) → verdict_on_the_way p.state next ≡ o → verdict_then o s.verdict ≡ Some v
        → (s.verdict ≡ Some v) ⊎ ((p.id ≡ id) × (word_told m ≡ Some v))
    by_handed v None hands has = inl has
    by_handed v (Some u) hands has = inr (its, word_handed p m next prompt row u hands ∙ has)

-- ---- each step

abbrev ByInput : Input → NodeState → NodeStep → Type 0
ByInput i n step = VerdictsStay (Some i) n.scopes step.after.scopes

abbrev ByTick : NodeState → TickStep → Type 0
ByTick n step = VerdictsStay None n.scopes step.after.scopes

end_stays : (cause : Option Input) (n : NodeState) (id : Id) (at : EndPlace) (f : End → End) → NodeFits n → EndStands n id at → KeepsIt f
    → VerdictsStay cause n.scopes (with_scope n (with_end_changed at.end.id f at.scope)).scopes
end_stays cause n id at f fits stands keeps =
    one_stays cause n at.scope (with_end_changed at.end.id f at.scope) fits stands.scope
    (ends_go cause at.scope (changed_at at.end.id f) (at_keeps_it at.end.id f keeps))

pub input_verdicts : (n : NodeState) (now : ℕ) (i : Input) → NodeFits n → ByInput i n (node_step n now i)
input_verdicts n now (input.Create expires current kind protocol) fits =
    create_cases (ByInput _ n) n now expires current kind protocol (λ r. stays_all _ n.scopes)
    (λ k is root. new_stays _ n.scopes _ refl)
    (λ k c is of alike dialable. new_stays _ n.scopes _ refl)
input_verdicts n now (input.Register scope protocol participant) fits =
    register_cases (ByInput _ n) n scope protocol participant (λ r. stays_all _ n.scopes) (λ s known registers.
    one_stays _ n s (scope_with_end s (next_id n 1) known participant) fits (scope_found n scope s registers.here).0
    (new_end_goes _ s (next_id n 1) known participant))
input_verdicts n now (input.Join protocol registration) fits =
    join_cases (ByInput _ n) n protocol registration (λ r. stays_all _ n.scopes) (λ dialable. stays_all _ n.scopes)
input_verdicts n now (input.Enrolled id coordinator) fits =
    enrolled_cases (ByInput _ n) n id coordinator (λ r. stays_all _ n.scopes) (λ place p stands registering dialable.
    part_stays _ n id place p (enrolled_part coordinator) fits stands refl refl)
input_verdicts n now (input.RefusedBy id c) fits =
    refused_cases (ByInput _ n) n id c (λ r. stays_all _ n.scopes) (λ place p number stands registering is.
    part_stays _ n id place p refused_part fits stands refl refl)
input_verdicts n now (input.Notice Coordinator id m) fits =
    end_notice_cases (ByInput _ n) n id m (λ r. stays_all _ n.scopes) (λ shown prompt. stays_all _ n.scopes)
    (λ at stands owes asks. end_stays _ n id at end_owing fits stands (λ e v has. (refl, has)))
    (λ at next prompt stands row other. end_stays _ n id at (end_after_notice m) fits stands (after_notice_keeps m))
input_verdicts n now (input.Notice Participant id m) fits =
    part_notice_cases (ByInput _ n) n id m (λ r. stays_all _ n.scopes) (λ shown prompt. stays_all _ n.scopes)
    (λ place p stands hears asks owes. part_stays _ n id place p part_owing fits stands refl refl)
    (λ p next prompt stands hears row other. stays_all _ n.scopes)
    (λ s p next prompt stands hears row other.
    one_stays _ n s (with_up_moved s p next) fits stands.scope
    (moved_goes id m s p next prompt (scope_fits n s fits stands.scope) stands.up stands.is row))
input_verdicts n now (input.Act id a) fits =
    act_cases (ByInput _ n) n id a (λ r. stays_all _ n.scopes) (λ p next stands acts. stays_all _ n.scopes)
input_verdicts n now (input.Ask id) fits =
    ask_cases (ByInput _ n) n id (λ r. stays_all _ n.scopes)
    (λ at stands asks. end_stays _ n id at end_asking fits stands (λ e v has. (refl, has)))
    (λ place p none stands hears asks. part_stays _ n id place p part_asking fits stands refl refl)
input_verdicts n now (input.Decide id v) fits =
    on_decide_cases (ByInput _ n) n id v (λ r. stays_all _ n.scopes) (λ s here ok.
    let of = (scope_found n id s here).0 in
    one_stays _ n s (decide s v).after fits of (decided_goes _ s v (scope_fits n s fits of)))
input_verdicts n now (input.Choose id v) fits =
    on_choose_cases (ByInput _ n) n id v (λ r. stays_all _ n.scopes) (λ at stands ok.
    one_stays _ n at.scope (choose at.scope id v).after fits stands.scope (chosen_goes _ n at.scope id v fits stands.scope))
input_verdicts n now (input.Complete id) fits =
    on_complete_cases (ByInput _ n) n id (λ r. stays_all _ n.scopes) (λ at stands ok.
    one_stays _ n at.scope (complete at.scope id).after fits stands.scope (completed_goes _ at.scope id))
input_verdicts n now (input.Finish id) fits =
    on_finish_cases (ByInput _ n) n id (λ r. stays_all _ n.scopes) (λ s up here is ok.
    one_stays _ n s (finish s).after fits (scope_found n id s here).0 (finished_goes _ s))
input_verdicts n now (input.Leave id how) fits =
    on_leave_cases (ByInput _ n) n id how (λ r. stays_all _ n.scopes) (λ s up here is ok.
    one_stays _ n s (leave_by s how).after fits (scope_found n id s here).0 (left_goes _ s how))

pub tick_verdicts : (n : NodeState) (now : ℕ) (id : Id) → NodeFits n → ByTick n (tick_step n now id)
tick_verdicts n now id fits =
    tick_cases (ByTick n) n now id (λ l. stays_all None n.scopes)
    (λ s here expired. one_stays None n s (expire s now).after fits (scope_found n id s here).0 (expired_goes None s now))
    (λ at w no_scope stands ticks. end_stays None n id at (λ it. (tick_of_end it).after) fits stands tick_keeps_it)
    (λ p no_scope no_end stands hears talks. stays_all None n.scopes)
    (λ s p w no_scope no_end stands hears moves. one_stays None n s (tick_up s).after fits stands.scope (ticked_up_goes None s))

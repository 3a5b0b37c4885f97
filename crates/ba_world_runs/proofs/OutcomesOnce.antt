-- In each run an end keeps the outcome that was recorded for it, and no other is recorded for it afterwards; for the law that outcomes
-- are recorded.
use Rattle.std.proofs.Common.{◌≡◌, inl, inr, ℕ, Bool, true, false, not, List, ◌∷◌, map, Option, None, Some, refl, sym, ap, ◌∙◌, subst}
use Rattle.std.proofs.Common.{true≢false, unwrap_or, if◌then◌else◌}
use Rattle.std.specs.List.{list_all}
use Rattle.ba_core.specs.EndRows.{chosen_state, completed_state, end_column, end_row, end_rows, end_tick}
use Rattle.ba_core.specs.declared.identifiers.Id.{Id}
use Rattle.ba_core.specs.declared.notices.Notice.{Notice}
use Rattle.ba_core.specs.declared.notices.Notice.TheVariants as notice
use Rattle.ba_core.specs.declared.protocols.Protocol.{Protocol}
use Rattle.ba_core.specs.declared.protocols.Verdict.{Verdict}
use Rattle.ba_core.specs.declared.protocols.Verdict.TheVariants.{Close, Undo}
use Rattle.ba_core.specs.declared.states.CState.{CState}
use Rattle.ba_link.specs.Outcomes.{cell_leads_on, is_outcome, outcome_kept, recorded_at}
use Rattle.ba_link.proofs.Everywhere.{ends, only_if, protocol_passes, protocols, state_passes, where_asked}
use Rattle.ba_scope.proofs.Calls.{led}
use Rattle.ba_scope.proofs.Lists.{by_test}
use Rattle.ba_scope.proofs.Tables.{if_leads}
use Rattle.ba_scope_ends.specs.Ends.{end_after_notice, same_id}
use Rattle.ba_scope.specs.Rules.{changed_at, with_end_changed}
use Rattle.ba_scope.specs.Scope.{ScopeState}
use Rattle.ba_scope_ends.specs.declared.ends.End.{End}
use Rattle.ba_node_steps.specs.declared.inputs.Input.{Input}
use Rattle.ba_node_steps.specs.Fits.{NodeFits}
use Rattle.ba_node_steps.specs.Node.{Among, EndPlace, NodeState, scope_in_place_of, with_scope}
use Rattle.ba_node_steps.proofs.Members.{number_is_same, same_by_number}
use Rattle.ba_node_steps.proofs.Objects.{end_owned, one_end}
use Rattle.ba_node_steps.proofs.Places.{EndStands, end_found}
use Rattle.ba_world_runs.specs.Records.{RecordsOutcome, WasRecorded, by_earlier_step, by_last_step}
use Rattle.ba_world_runs.specs.Runs.{IsRun, goes_on, starts}
use Rattle.ba_world_runs.specs.Safety.{IsAddressed}
use Rattle.ba_world_runs.specs.Trees.{GenerationsFit}
use Rattle.ba_world_runs.specs.World.{Net, Occasion, ScopeAt, World, net_of}
use Rattle.ba_world_runs.specs.WorldSteps.{Moves, WorldStep}
use Rattle.ba_world_runs.proofs.Addressed.{cause_of, goes}
use Rattle.ba_world_runs.proofs.AddressedRuns.{run_addressed}
use Rattle.ba_world_runs.proofs.Completed.{after_row_is, moved_states, state_after}
use Rattle.ba_world_runs.proofs.Generations.{no_new_id, run_generations}
use Rattle.ba_world_runs.proofs.Goes.{from_map}
use Rattle.ba_world_runs.proofs.Nets.{net_moves}
use Rattle.ba_world_runs.proofs.OutcomeRecords.{at_each_end, at_this_end, leads_of, leads_on, outcome_after}
use Rattle.ba_world_runs.proofs.Owners.{fits_here, one_end_here}
use Rattle.ba_world_runs.proofs.PartsSay.{is_same_outcome, outcome_is, outcome_passes, outcomes, same_outcome}
use Rattle.ba_world_runs.proofs.StatesGo.{StateComes, by_notice, by_tick, by_verdict, by_wish, state_stays}

-- ---- what is computed

abbrev keeps_it : Notice → CState → Bool
keeps_it m s = same_outcome m (outcome_kept s)

-- a state that keeps the outcome is followed by one that does
abbrev still_keeps : Notice → CState → CState → Bool
still_keeps m next s = only_if (keeps_it m s) (λ _. keeps_it m next) s

abbrev row_keeps_it : Notice → Notice → Protocol → CState → Option Verdict → Bool
row_keeps_it x m protocol s v = still_keeps m (state_after protocol v s (end_row protocol s x)) s

each_row_keeps_it : (x : Notice) → list_all (λ m. at_each_end (row_keeps_it x m)) outcomes ≡ true
each_row_keeps_it notice.Complete = refl
each_row_keeps_it x = refl

abbrev verdict_keeps_it : Verdict → Notice → Protocol → CState → Bool
verdict_keeps_it v m protocol s = still_keeps m (unwrap_or (chosen_state protocol s v) s) s

each_verdict_keeps_it : (v : Verdict) → list_all (λ m. list_all (λ p. list_all (verdict_keeps_it v m p) ends) protocols) outcomes ≡ true
each_verdict_keeps_it Close = refl
each_verdict_keeps_it Undo = refl

abbrev wish_keeps_it : Notice → Protocol → CState → Bool
wish_keeps_it m protocol s = if_leads (λ next. still_keeps m next s) (completed_state protocol s)

each_wish_keeps_it : list_all (λ m. list_all (λ p. list_all (wish_keeps_it m p) ends) protocols) outcomes ≡ true
each_wish_keeps_it = refl

abbrev tick_keeps_it : Notice → CState → Bool
tick_keeps_it m s = still_keeps m (end_tick s).0 s

each_tick_keeps_it : list_all (λ m. list_all (tick_keeps_it m) ends) outcomes ≡ true
each_tick_keeps_it = refl

-- what a row records the state after it keeps
abbrev records_it : Notice → Protocol → CState → Option Verdict → Bool
records_it m protocol s v =
    only_if (leads_on m protocol s) (λ from. keeps_it m (state_after protocol v from (end_row protocol from m))) s

each_records_it : list_all (λ m. at_each_end (records_it m)) outcomes ≡ true
each_records_it = refl

-- a state that keeps one records none
abbrev records_no_more : Notice → Notice → Protocol → CState → Bool
records_no_more m n protocol s = only_if (keeps_it m s) (λ from. not (leads_on n protocol from)) s

each_records_no_more : list_all (λ m. list_all (λ n. list_all (λ p. list_all (records_no_more m n p) ends) protocols) outcomes) outcomes
    ≡ true
each_records_no_more = refl

-- ---- an end before and after

module _ (m : Notice) (outcome : is_outcome m ≡ true) where
  kept_from : (e f : End) (next : CState) → f.state ≡ next → still_keeps m next e.state ≡ true → outcome_kept e.state ≡ Some m
      → outcome_kept f.state ≡ Some m
  kept_from e f next same table kept =
      let here = where_asked (keeps_it m e.state) (λ _. keeps_it m next) e.state table
      (is_same_outcome m (outcome_kept e.state) outcome kept) in
      outcome_is m (outcome_kept f.state) (subst (λ (s : CState). keeps_it m s ≡ true) (sym same) here)

  keeps_on : (cause : Option Input) (e f : End) → StateComes cause e f.state → outcome_kept e.state ≡ Some m
      → outcome_kept f.state ≡ Some m
  keeps_on cause e f (state_stays same) kept = ap outcome_kept same ∙ kept
  keeps_on cause e f (by_notice x heard same) kept =
      kept_from e f (state_after e.protocol e.verdict e.state (end_row e.protocol e.state x))
      (same ∙ after_row_is (end_row e.protocol e.state x) e)
      (at_this_end (row_keeps_it x m) (outcome_passes (λ n. at_each_end (row_keeps_it x n)) (each_row_keeps_it x) m outcome)
      e.protocol e.state e.verdict) kept
  keeps_on cause e f (by_verdict v same) kept =
      kept_from e f (unwrap_or (chosen_state e.protocol e.state v) e.state) same (state_passes (verdict_keeps_it v m e.protocol)
      (protocol_passes (λ p. list_all (verdict_keeps_it v m p) ends)
      (outcome_passes (λ n. list_all (λ p. list_all (verdict_keeps_it v n p) ends) protocols) (each_verdict_keeps_it v) m outcome)
      e.protocol) e.state) kept
  keeps_on cause e f (by_wish wish) kept =
      kept_from e f f.state refl (led (λ (next : CState). still_keeps m next e.state) (completed_state e.protocol e.state) f.state wish
      (state_passes (wish_keeps_it m e.protocol) (protocol_passes (λ p. list_all (wish_keeps_it m p) ends)
      (outcome_passes (λ n. list_all (λ p. list_all (wish_keeps_it n p) ends) protocols) each_wish_keeps_it m outcome) e.protocol)
      e.state)) kept
  keeps_on cause e f (by_tick same) kept =
      kept_from e f (end_tick e.state).0 same (state_passes (tick_keeps_it m)
      (outcome_passes (λ n. list_all (tick_keeps_it n) ends) each_tick_keeps_it m outcome) e.state) kept

  -- the end that a row leads on keeps what that records
  keeps_recorded : (e : End) → leads_on m e.protocol e.state ≡ true → outcome_kept (end_after_notice m e).state ≡ Some m
  keeps_recorded e leads =
      let table = at_this_end (records_it m) (outcome_passes (λ n. at_each_end (records_it n)) each_records_it m outcome)
      e.protocol e.state e.verdict in
      let row = end_row e.protocol e.state m in
      let here = where_asked (leads_on m e.protocol e.state)
      (λ from. keeps_it m (state_after e.protocol e.verdict from (end_row e.protocol from m))) e.state table leads in
      outcome_is m (outcome_kept (end_after_notice m e).state)
      (subst (λ (s : CState). keeps_it m s ≡ true) (sym (after_row_is row e)) here)

  -- and records no more
  records_none : (n : Notice) (e : End) → is_outcome n ≡ true → outcome_kept e.state ≡ Some m → leads_on n e.protocol e.state ≡ true → ⊥
  records_none n e other kept leads =
      let table = state_passes (records_no_more m n e.protocol) (protocol_passes (λ p. list_all (records_no_more m n p) ends)
      (outcome_passes (λ y. list_all (λ p. list_all (records_no_more m y p) ends) protocols)
      (outcome_passes (λ x. list_all (λ y. list_all (λ p. list_all (records_no_more x y p) ends) protocols) outcomes)
      each_records_no_more m outcome) n other) e.protocol) e.state in
      let none = where_asked (keeps_it m e.state) (λ from. not (leads_on n e.protocol from)) e.state table
      (is_same_outcome m (outcome_kept e.state) outcome kept) in
      true≢false (sym none ∙ ap not leads)

-- what is recorded is an outcome
recorded_outcome : (p : Protocol) (s : CState) (m : Notice) → recorded_at p s m ≡ Some m → is_outcome m ≡ true
recorded_outcome p s m h = by_outcome (is_outcome m) h
  where
    by_outcome : (b : Bool)
        → (if b then (if cell_leads_on p (end_column m (end_rows s)) then Some m else None) else None) ≡ Some m → b ≡ true
    by_outcome true h = refl
    by_outcome false h = absurd cc

-- ---- the end that a notice changes, where it stands

module _ (n : NodeState) (fits : NodeFits n) (id : Id) (place : EndPlace) (stands : EndStands n id place) (g : End → End) where
  abbrev changed_scope : ScopeState
  changed_scope = with_end_changed place.end.id g place.scope

  same_end_id : (f : End) → f.id ≡ id → f.id.0 ≡ place.end.id.0
  same_end_id f its = ap (λ (i : Id). i.0) (its ∙ sym stands.is)

  in_changed_scope : (f : End) → Among (map (changed_at place.end.id g) place.scope.ends) f → f.id ≡ id → f ≡ g place.end
  in_changed_scope f among its =
      let e = from_map (changed_at place.end.id g) place.scope.ends f among in
      by_test (λ (y : End). y ≡ f → f ≡ g place.end) (same_id e.0.id place.end.id) (g e.0) e.0
      (λ here is.
      let one = one_end n place.scope place.scope e.0 place.end fits stands.scope stands.scope e.1 stands.end
      (same_by_number e.0.id place.end.id here) in
      sym is ∙ ap g one.1)
      (λ other is. absurd (true≢false (sym (number_is_same e.0.id place.end.id
      (ap (λ (y : End). y.id.0) is ∙ same_end_id f its)) ∙ other))) e.2

  changed_end : (t : ScopeState) (f : End) → Among (with_scope n changed_scope).scopes t → Among t.ends f → f.id ≡ id → f ≡ g place.end
  changed_end t f of among its =
      let s = from_map (scope_in_place_of changed_scope) n.scopes t of in
      by_test (λ (y : ScopeState). y ≡ t → f ≡ g place.end) (same_id s.0.id changed_scope.id) changed_scope s.0
      (λ here is. in_changed_scope f (subst (λ (y : ScopeState). Among y.ends f) (sym is) among) its)
      (λ other is.
      let one = one_end n s.0 place.scope f place.end fits s.1 stands.scope (subst (λ (y : ScopeState). Among y.ends f) (sym is) among)
      stands.end (same_end_id f its) in
      absurd (true≢false (sym (number_is_same s.0.id place.scope.id (ap (λ (y : ScopeState). y.id.0) one.0)) ∙ other))) s.2

-- ---- runs

-- the end with this identifier keeps the outcome
record KeepsOutcome (w : Net) (k : ℕ) (id : Id) (m : Notice) : Type 0 where
  scope : ScopeState
  end : End
  here : ScopeAt w k scope
  among : Among scope.ends end
  its : end.id ≡ id
  kept : outcome_kept end.state ≡ Some m

-- as it is recorded
keeps_now : (w w2 : World) (k : ℕ) (id : Id) (m : Notice) → IsAddressed (net_of w) → RecordsOutcome w w2 k id m
    → KeepsOutcome (net_of w2) k id m
keeps_now w w2 k id m is by =
    let n : NodeState = (w.nodes k).state in
    let stands = end_found n id by.place by.found in
    let e : End = by.place.end in
    let f = (goes (net_of w) (net_of w2) k _ by.joined by.takes.moves is k).ends_forth by.place.scope e stands.scope stands.end in
    let its : f.end.id ≡ id = f.same.id ∙ stands.is in
    let after : (w2.nodes k).state ≡ with_scope n (with_end_changed e.id (end_after_notice m) by.place.scope) =
    by.takes.moves.state ∙ outcome_after n by.moment id by.place by.found m by.leads_on in
    let one = changed_end n (fits_here (net_of w) is k) id by.place stands (end_after_notice m) f.scope f.end
    (subst (λ (x : NodeState). Among x.scopes f.scope) after f.here) f.among its in
    let outcome = recorded_outcome e.protocol e.state m by.leads_on in
    record {
      scope = f.scope;
      end = f.end;
      here = f.here;
      among = f.among;
      its = its;
      kept = ap (λ (x : End). outcome_kept x.state) one ∙ keeps_recorded m outcome e (leads_of e.protocol e.state m outcome by.leads_on);
    }

-- and afterwards
module _ (w w2 : Net) (k : ℕ) (o : Occasion) (joined : Bool) (moves : Moves w w2 k o joined) (is : IsAddressed w)
    (before : GenerationsFit w) where
  keeps_moved : (j : ℕ) (id : Id) (m : Notice) → is_outcome m ≡ true → KeepsOutcome w j id m → KeepsOutcome w2 j id m
  keeps_moved j id m outcome at =
      let f = (goes w w2 k o joined moves is j).ends_forth at.scope at.end at.here at.among in
      let its : f.end.id ≡ id = f.same.id ∙ at.its in
      record {
        scope = f.scope;
        end = f.end;
        here = f.here;
        among = f.among;
        its = its;
        kept = elim (moved_states w w2 k o joined moves is j f.scope f.end f.here f.among) [
          | inl was ↦ keeps_on m outcome (cause_of o) was.end f.end was.becomes.state
              (ap (λ (x : End). outcome_kept x.state)
              (sym (one_end_here w is j j at.scope was.scope at.end was.end at.here was.here at.among was.among
              (ap (λ (i : Id). i.0) (at.its ∙ sym its ∙ was.becomes.id))).2) ∙ at.kept)
          | inr new ↦ absurd (no_new_id w w2 k o joined moves is before j at.scope at.end.id at.here (end_owned at.scope at.end at.among)
              (ap (λ (i : Id). i.0) (at.its ∙ sym its ∙ new.1)))
        ];
      }

keeps_step : (w w2 : World) (j : ℕ) (id : Id) (m : Notice) → is_outcome m ≡ true → IsAddressed (net_of w) → GenerationsFit (net_of w)
    → WorldStep w w2 → KeepsOutcome (net_of w) j id m → KeepsOutcome (net_of w2) j id m
keeps_step w w2 j id m outcome is before step at = elim (net_moves w w2 step) [
  | inl same ↦ subst (λ (n : Net). KeepsOutcome n j id m) same at
  | inr moved ↦ keeps_moved (net_of w) (net_of w2) moved.0 moved.1 moved.2 moved.3 is before j id m outcome at
]

record IsKept (w : Net) (k : ℕ) (id : Id) (m : Notice) : Type 0 where
  outcome : is_outcome m ≡ true
  keeps : KeepsOutcome w k id m

run_keeps_outcome : (w : World) (before : List World) → IsRun (w ∷ before) → (k : ℕ) (id : Id) (m : Notice)
    → WasRecorded (w ∷ before) k id m → IsKept (net_of w) k id m
run_keeps_outcome w before (starts start) k id m (by_earlier_step was) = elim was [ ]
run_keeps_outcome w before (goes_on {w = x} run step) k id m (by_last_step by) = record {
  outcome = recorded_outcome by.place.end.protocol by.place.end.state m by.leads_on;
  keeps = keeps_now x w k id m (run_addressed _ _ run) by;
}
run_keeps_outcome w before (goes_on {w = x} run step) k id m (by_earlier_step was) =
    let so = run_keeps_outcome _ _ run k id m was in
    record {
      outcome = so.outcome;
      keeps = keeps_step x w k id m so.outcome (run_addressed _ _ run) (run_generations _ _ run) step so.keeps;
    }

pub outcomes_kept : (w : World) (before : List World) → IsRun (w ∷ before) → (k : ℕ) (id : Id) (m : Notice)
    → WasRecorded (w ∷ before) k id m → (s : ScopeState) (e : End) → ScopeAt (net_of w) k s → Among s.ends e → e.id ≡ id
    → outcome_kept e.state ≡ Some m
outcomes_kept w before run k id m was s e of among its =
    let at = (run_keeps_outcome w before run k id m was).keeps in
    let one = one_end_here (net_of w) (run_addressed w before run) k k at.scope s at.end e at.here of at.among among
    (ap (λ (i : Id). i.0) (at.its ∙ sym its)) in
    ap (λ (x : End). outcome_kept x.state) (sym one.2) ∙ at.kept

pub outcomes_once : (w w2 : World) (before : List World) → IsRun (w ∷ before) → (k : ℕ) (id : Id) (m n : Notice)
    → WasRecorded (w ∷ before) k id m → RecordsOutcome w w2 k id n → ⊥
outcomes_once w w2 before run k id m n was by =
    let so = run_keeps_outcome w before run k id m was in
    let e : End = by.place.end in
    let stands = end_found (w.nodes k).state id by.place by.found in
    let kept = outcomes_kept w before run k id m was by.place.scope e stands.scope stands.end stands.is in
    let other = recorded_outcome e.protocol e.state n by.leads_on in
    records_none m so.outcome n e other kept (leads_of e.protocol e.state n other by.leads_on)

-- What each rule of a scope is to the links of its ends and to that of its upward part; for the law that each step of a node is
-- moves of its links.
use Rattle.std.proofs.Common.{◌≡◌, ℕ, ◌≤◌, Bool, true, false, not, ◌&&◌, List, length, map, Option, None, Some, IfSome, is_none, is_some}
use Rattle.std.proofs.Common.{refl, sym, ap, ◌∙◌, subst, arith, true≢false}
use Rattle.std.specs.List.{AllByRecursion, list_all}
use Rattle.std.proofs.lemmas.Bool.{and_parts}
use Rattle.std.proofs.lemmas.List.{length-map}
use Rattle.ba_core.specs.EndRows.{chosen_state, end_row, is_end_state}
use Rattle.ba_core.specs.PartRows.{acted_state, part_row}
use Rattle.ba_core.specs.declared.identifiers.Id.{Id}
use Rattle.ba_core.specs.declared.notices.Act.{Act}
use Rattle.ba_core.specs.declared.notices.Act.TheVariants as act
use Rattle.ba_core.specs.declared.notices.Leave.{Leave}
use Rattle.ba_core.specs.declared.notices.Notice.{Notice}
use Rattle.ba_core.specs.declared.protocols.Kind.TheVariants.{Atomic}
use Rattle.ba_core.specs.declared.protocols.Protocol.{Protocol}
use Rattle.ba_core.specs.declared.protocols.Side.TheVariants.{Coordinator, Participant}
use Rattle.ba_core.specs.declared.protocols.Verdict.{Verdict}
use Rattle.ba_core.specs.declared.protocols.Verdict.TheVariants.{Undo}
use Rattle.ba_core.specs.declared.rows.PRow.{PRow}
use Rattle.ba_core.specs.declared.rows.PRow.TheVariants as prow
use Rattle.ba_core.specs.declared.states.CState.{CState}
use Rattle.ba_core.specs.declared.states.PState.{PState}
use Rattle.ba_link.specs.Pairs.{is_open, verdict_fits_state}
use Rattle.ba_link.specs.States.{part_among}
use Rattle.ba_link.proofs.Everywhere.{ends, only_if, part_passes, parts, protocol_passes, protocols, state_passes, where_asked}
use Rattle.ba_message.specs.Endpoints.{same_epr}
use Rattle.ba_message.specs.declared.endpoints.Epr.{Epr}
use Rattle.ba_scope.proofs.Kept.{above_at, after_who, ends_below, verdict_below}
use Rattle.ba_scope.proofs.Lists.{by_test, some_branch, word_is}
use Rattle.ba_scope.proofs.Sealed.{stays_sealed}
use Rattle.ba_scope.proofs.Tables.{above_passes, allows, each_decision_allows, each_handing_allows, end_passes, for_kinds, handing_allows}
use Rattle.ba_scope.proofs.Tables.{handings_allow, is_open_state, row_known, row_leads, rows_are_known, rows_lead, undecided}
use Rattle.ba_scope.specs.Calls.{by_up_receive}
use Rattle.ba_scope.specs.Fits.{Above as Seen, ScopeFits, above, end_fits, up_state, verdict_fits_scope, state_fits_above}
use Rattle.ba_scope_ends.specs.Ends.{end_after_notice, end_in_state, end_with_verdict, end_with_verdict_if_none, is_ready_for, end_of}
use Rattle.ba_scope_ends.specs.Ends.{end_with_id, same_id}
use Rattle.ba_scope_ends.specs.Parts.{part_in_state, state_after_row, verdict_on_the_way}
use Rattle.ba_scope.specs.Rules.{ScopeStep, choose, complete, decide, end_with_verdict_if_any, expire, finish, is_expired, leave_act}
use Rattle.ba_scope.specs.Rules.{leave_by, own_choice, scope_with_verdict, up_receive, with_end_changed, with_up, with_up_moved, word_for}
use Rattle.ba_scope.specs.Scope.{ScopeState, is_sealed, takes_no_more}
use Rattle.ba_scope.specs.declared.answers.Said.{Said}
use Rattle.ba_scope_ends.specs.declared.ends.End.{End}
use Rattle.ba_scope_ends.specs.declared.parts.Part.{Part}
use Rattle.ba_node_steps.specs.declared.inputs.Input.{Input}
use Rattle.ba_node_steps.specs.declared.inputs.Input.TheVariants as input
use Rattle.ba_node_steps.specs.Node.{Among}
use Rattle.ba_node_steps.proofs.Members.{all_among, same_id_is}
use Rattle.ba_node_steps.proofs.Places.{first_is}
use Rattle.ba_scope.proofs.ScopeCases.{choose_cases, complete_cases, decide_cases, finish_cases, leave_cases}
use Rattle.ba_world_runs.specs.Links.{side_of}
use Rattle.ba_world_runs.proofs.LinkMoves.{KeepsOwner, Quiet, link_with, sealed_above, stays_quiet, takes_no_less}
use Rattle.ba_world_runs.proofs.Strides.{Above, Below, EndHears, IsOfItsProtocol, Speech, Strides, UpStrides, silent, stays, up_strides_change}
use Rattle.ba_world_runs.proofs.Strides.{up_strides_stay}
use Rattle.ba_world_runs.proofs.StridesAbove.{acted_above, acted_closes, notice_above}
use Rattle.ba_world_runs.proofs.StridesBelow.{MayBeSet, completion_asked, each_quietly, notice_heard, one_end_changes, only_sealed, quietly}
use Rattle.ba_world_runs.proofs.StridesBelow.{verdict_set}

-- ---- a scope's step

-- the scope s becomes t
pub record ScopeStrides (cause : Option Input) (speech : Speech) (s t : ScopeState) : Type 0 where
  pub id : t.id ≡ s.id
  pub below : Below cause speech s t
  pub up : UpStrides cause speech s.up t.up

pub scope_stays : (cause : Option Input) (s : ScopeState) → ScopeStrides cause silent s s
scope_stays cause s = record { id = refl; below = λ p here own. stays refl refl; up = up_strides_stay cause silent s.up refl }

pub its_protocol : (p : Part) (here : Epr) (s : ScopeState) (e : End) → IsOfItsProtocol p here s → end_of s.ends here ≡ Some e
    → e.protocol ≡ p.protocol
its_protocol p here s e own is = subst (λ (o : Option End). IfSome o (λ (x : End). x.protocol ≡ p.protocol)) is own

pub found_end : (s : ScopeState) (here : Epr) (e : End) → end_of s.ends here ≡ Some e
    → Among s.ends e × (same_epr e.participant here ≡ true)
found_end s here e is = first_is (λ (x : End). same_epr x.participant here) s.ends e is

found_fits : (s : ScopeState) (here : Epr) (e : End) → ScopeFits s → end_of s.ends here ≡ Some e → end_fits (above s) e ≡ true
found_fits s here e fits is = all_among (λ (x : End). end_fits (above s) x ≡ true) s.ends e fits.ends (found_end s here e is).0

-- as many ends
as_many : (f : End → End) (es : List End) → length es ≤ length (map f es)
as_many f es = let same : length (map f es) ≡ length es = length-map es f in omega (arith, same)

-- ---- a verdict may be set on each end

open_is : (v : Option Verdict) → is_open v ≡ true → v ≡ None
open_is None h = refl
open_is (Some v) h = absurd (true≢false (sym h))

state_is : (o : Option CState) → is_some o ≡ true → (next : CState) × (o ≡ Some next)
state_is None h = absurd (true≢false (sym h))
state_is (Some next) h = (next, refl)

allowed : (v : Verdict) (e : End) → allows (Some v) e.protocol e.state e.verdict ≡ true → MayBeSet v e
allowed v e h =
    let both = and_parts (is_open e.verdict) (is_some (chosen_state e.protocol e.state v)) h in
    let next = state_is (chosen_state e.protocol e.state v) both.1 in
    record { open_ = open_is e.verdict both.0; next = next.0; leads = next.1 }

-- of a root that is decided
decision_sets : (s : ScopeState) (v : Verdict) (e : End) → s.up ≡ None → s.kind ≡ Atomic → s.verdict ≡ None
    → end_fits (above s) e ≡ true → is_ready_for v e.state ≡ true → MayBeSet v e
decision_sets s v e root atomic open_ fit ready =
    let seen : above s ≡ undecided = (λ i. record { up = up_state (root i); kind = atomic i; verdict = open_ i }) in
    let fit_there : end_fits undecided e ≡ true = subst (λ (a : Seen). end_fits a e ≡ true) seen fit in
    allowed v e
    (where_asked (is_ready_for v e.state) (λ from. allows (Some v) e.protocol from e.verdict) e.state
    (end_passes (λ protocol state ev. only_if (is_ready_for v state) (λ from. allows (Some v) protocol from ev) state) undecided
    (each_decision_allows v) e.protocol e.state e.verdict fit_there) ready)

-- below an upward part that hands a verdict down
handing_sets : (s : ScopeState) (up : Part) (next : PState) (v : Verdict) (e : End) → s.up ≡ Some up → ScopeFits s
    → part_among (rows_lead up.state) next ≡ true → verdict_on_the_way up.state next ≡ Some v → Among s.ends e → MayBeSet v e
handing_sets s up next v e is_up fits leads handed among =
    let a : Seen = above_at up.state s in
    let fit = all_among (λ (x : End). end_fits a x ≡ true) s.ends e (ends_below s up is_up fits) among in
    let by_before = part_passes (λ before. list_all (handings_allow before) parts) each_handing_allows up.state in
    let by_next = part_passes (handings_allow up.state) by_before next in
    let kinds = where_asked (part_among (rows_lead up.state) next) (λ to. for_kinds (handing_allows up.state to) (Some up.state)) next
    by_next leads in
    let at_a = above_passes (handing_allows up.state next) a kinds (verdict_below s up is_up fits) in
    allowed v e
    (subst (λ (w : Option Verdict). allows w e.protocol e.state e.verdict ≡ true) handed
    (end_passes (allows (verdict_on_the_way up.state next)) a at_a e.protocol e.state e.verdict fit))

-- of a root that expires: Undo may be set where there is none
abbrev may_undo : Protocol → CState → Bool
may_undo protocol state = only_if (verdict_fits_state state None) (λ from. is_some (chosen_state protocol from Undo)) state

each_may_undo : list_all (λ protocol. list_all (may_undo protocol) ends) protocols ≡ true
each_may_undo = refl

expiry_sets : (a : Seen) (e : End) → end_fits a e ≡ true → e.verdict ≡ None → MayBeSet Undo e
expiry_sets a e fit none =
    let own = and_parts (is_end_state e.protocol e.state && verdict_fits_state e.state e.verdict)
    (verdict_fits_scope a.up a.kind a.verdict e.verdict (own_choice e) && state_fits_above a.up e.verdict e.state) fit in
    let goes = (and_parts (is_end_state e.protocol e.state) (verdict_fits_state e.state e.verdict) own.0).1 in
    let open_ = subst (λ (v : Option Verdict). verdict_fits_state e.state v ≡ true) none goes in
    let by_protocol = protocol_passes (λ protocol. list_all (may_undo protocol) ends) each_may_undo e.protocol in
    let next = state_is (chosen_state e.protocol e.state Undo)
    (where_asked (verdict_fits_state e.state None) (λ from. is_some (chosen_state e.protocol from Undo)) e.state
    (state_passes (may_undo e.protocol) by_protocol e.state) open_) in
    record { open_ = none; next = next.0; leads = next.1 }

-- the only end of a scope with this identifier
abbrev pub IsOnly : ScopeState → Id → End → Type 0
IsOnly s id e = (x : End) → Among s.ends x → same_id x.id id ≡ true → x ≡ e

-- ---- verdicts on each end

module _ (cause : Option Input) where
  decided : (s : ScopeState) (v : Verdict) → ScopeFits s → s.up ≡ None → s.kind ≡ Atomic → s.verdict ≡ None
      → AllByRecursion (λ (e : End). is_ready_for v e.state ≡ true) s.ends → Below cause silent s (scope_with_verdict v s)
  decided s v fits root atomic open_ ready p here own =
      each_quietly (EndHears cause s here) s (scope_with_verdict v s) (λ e. end_with_verdict (word_for v e) e) p here (λ e. refl) refl
      (λ _. refl)
      (λ e is.
      let may = decision_sets s v e root atomic open_ (found_fits s here e fits is)
      (all_among (λ (x : End). is_ready_for v x.state ≡ true) s.ends e ready (found_end s here e is).0) in
      subst (λ (w : Verdict). Quiet (link_with p.protocol (Some (side_of e)) p.state true)
      (link_with p.protocol (Some (side_of (end_with_verdict w e))) p.state true)) (sym (word_is v e))
      (verdict_set p.protocol e v p.state true (its_protocol p here s e own is) may))

  pub decide_strides : (s : ScopeState) (v : Verdict) → ScopeFits s → ScopeStrides cause silent s (decide s v).after
  decide_strides s v fits =
      decide_cases (λ (step : ScopeStep Said). ScopeStrides cause silent s step.after) s v (λ number id. scope_stays cause s)
      (λ root atomic open_ ready. record {
        id = refl;
        below = decided s v fits root atomic open_ ready;
        up = up_strides_stay cause silent s.up refl;
      })

  expired : (s : ScopeState) → ScopeFits s
      → Below cause silent s (record s { verdict = Some Undo; ends = map (end_with_verdict_if_none Undo) s.ends })
  expired s fits p here own =
      each_quietly (EndHears cause s here) s (record s { verdict = Some Undo; ends = map (end_with_verdict_if_none Undo) s.ends })
      (end_with_verdict_if_none Undo) p here
      (λ e. by_test (λ (x : End). x.participant ≡ e.participant) (is_none e.verdict) (end_with_verdict Undo e) e (λ _. refl) (λ _. refl))
      refl (λ _. refl)
      (λ e is. by_test (λ (x : End). Quiet (link_with p.protocol (Some (side_of e)) p.state true)
      (link_with p.protocol (Some (side_of x)) p.state true)) (is_none e.verdict) (end_with_verdict Undo e) e
      (λ none. verdict_set p.protocol e Undo p.state true (its_protocol p here s e own is)
      (expiry_sets (above s) e (found_fits s here e fits is) (none_is e.verdict none)))
      (λ _. stays_quiet refl))
    where
      none_is : (v : Option Verdict) → is_none v ≡ true → v ≡ None
      none_is None h = refl
      none_is (Some v) h = absurd (true≢false (sym h))

  pub expire_strides : (s : ScopeState) (now : ℕ) → ScopeFits s → ScopeStrides cause silent s (expire s now).after
  expire_strides s now fits =
      by_test (λ (step : ScopeStep Bool). ScopeStrides cause silent s step.after) (is_expired s now)
      (record { after = record s { verdict = Some Undo; ends = map (end_with_verdict_if_none Undo) s.ends }; answer = true })
      (record { after = s; answer = false })
      (λ _. record { id = refl; below = expired s fits; up = up_strides_stay cause silent s.up refl }) (λ _. scope_stays cause s)

  -- ---- one end

  -- it changes by a quiet move
  one_quietly : (s : ScopeState) (id : Id) (e : End) (f : End → End) → KeepsOwner f → IsOnly s id e
      → ((protocol : Protocol) (p : PState) (sealed : Bool) → e.protocol ≡ protocol
      → Quiet (link_with protocol (Some (side_of e)) p sealed) (link_with protocol (Some (side_of (f e))) p sealed))
      → ScopeStrides cause silent s (with_end_changed id f s)
  one_quietly s id e f keeps only quiet = record {
    id = refl;
    below = λ p here own.
        let sealed : Bool = takes_no_more s in
        one_end_changes (EndHears cause s here) None s id f p here keeps
        (λ x is same.
        let one : e ≡ x = sym (only x (found_end s here x is).0 same) in
        let protocol : e.protocol ≡ p.protocol = ap (λ (y : End). y.protocol) one ∙ its_protocol p here s x own is in
        subst (λ (y : End). Strides (EndHears cause s here) None (link_with p.protocol (Some (side_of y)) p.state sealed)
        (link_with p.protocol (Some (side_of (f y))) p.state sealed)) one
        (quietly (EndHears cause s here) (link_with p.protocol (Some (side_of e)) p.state sealed)
        (link_with p.protocol (Some (side_of (f e))) p.state sealed) (quiet p.protocol p.state sealed protocol)))
        (λ x is other. refl) (λ none. refl);
    up = up_strides_stay cause silent s.up refl;
  }

  pub choose_strides : (s : ScopeState) (id : Id) (v : Verdict) → ((e : End) → end_with_id s.ends id ≡ Some e → IsOnly s id e)
      → ScopeStrides cause silent s (choose s id v).after
  choose_strides s id v only =
      choose_cases (λ (step : ScopeStep Said). ScopeStrides cause silent s step.after) s id v (λ number shown. scope_stays cause s)
      (λ e next found root mixed open_ leads. one_quietly s id e (end_with_verdict v) (λ x. refl) (only e found)
      (λ protocol p sealed same.
      verdict_set protocol e v p sealed same (record { open_ = open_; next = next; leads = leads })))

  pub complete_strides : (s : ScopeState) (id : Id) → ((e : End) → end_with_id s.ends id ≡ Some e → IsOnly s id e)
      → ScopeStrides cause silent s (complete s id).after
  complete_strides s id only =
      complete_cases (λ (step : ScopeStep Said). ScopeStrides cause silent s step.after) s id (λ number shown. scope_stays cause s)
      (λ e next found undecided open_ leads. one_quietly s id e (end_in_state next) (λ x. refl) (only e found)
      (λ protocol p sealed same. completion_asked protocol e next p sealed same open_ leads))

  -- a flag of an end is set
  pub flag_strides : (s : ScopeState) (id : Id) (f : End → End) → KeepsOwner f → ((e : End) → side_of (f e) ≡ side_of e)
      → ScopeStrides cause silent s (with_end_changed id f s)
  flag_strides s id f keeps same = record {
    id = refl;
    below = λ p here own.
        one_end_changes (EndHears cause s here) None s id f p here keeps
        (λ x is here_too. stays (ap (λ y. link_with p.protocol (Some y) p.state (takes_no_more s)) (same x)) refl)
        (λ x is other. refl) (λ none. refl);
    up = up_strides_stay cause silent s.up refl;
  }

  -- ---- the upward part

  -- it goes to another state, where it doesn't come back to work
  pub up_strides : (s : ScopeState) (p q : Part) → s.up ≡ Some p → q.id ≡ p.id
      → (is_open_state q.state ≡ true → is_open_state p.state ≡ true)
      → Above cause silent p q → ScopeStrides cause silent s (with_up s q)
  up_strides s p q is same work strides = record {
    id = refl;
    below = λ x here own. only_sealed (EndHears cause s here) s (with_up s q) x here refl
        (takes_no_less s (with_up s q) refl (omega arith)
        (sealed_above s p q is work));
    up = up_strides_change cause silent s.up p q is same strides;
  }

  acts_once : (s : ScopeState) (up : Part) (a : Act) (next : PState) → s.up ≡ Some up → acted_state up.protocol up.state a ≡ Some next
      → ScopeStrides cause silent s (with_up s (part_in_state next up))
  acts_once s up a next is acts =
      up_strides s up (part_in_state next up) is refl
      (λ open_. absurd (true≢false (sym (acted_closes up.protocol up.state a next acts) ∙ ap not open_)))
      (acted_above cause up a next acts)

  pub finish_strides : (s : ScopeState) → ScopeStrides cause silent s (finish s).after
  finish_strides s =
      finish_cases (λ (step : ScopeStep Said). ScopeStrides cause silent s step.after) s (λ number shown. scope_stays cause s)
      (λ up next is acts ready. acts_once s up act.Completed next is acts)

  pub leave_strides : (s : ScopeState) (how : Leave) → ScopeStrides cause silent s (leave_by s how).after
  leave_strides s how =
      leave_cases (λ (step : ScopeStep Said). ScopeStrides cause silent s step.after) s how (λ number shown. scope_stays cause s)
      (λ up next is may acts ended. acts_once s up (leave_act how) next is acts)

-- ---- a notice to an end, and to the upward part

pub end_notice_strides : (s : ScopeState) (id : Id) (m : Notice)
    → ScopeStrides (Some (input.Notice Coordinator id m)) silent s (with_end_changed id (end_after_notice m) s)
end_notice_strides s id m =
    let cause : Option Input = Some (input.Notice Coordinator id m) in
    record {
      id = refl;
      below = λ p here own.
          one_end_changes (EndHears cause s here) None s id (end_after_notice m) p here
          (after_who (λ e. end_row e.protocol e.state m)).participant
          (λ e is same.
          notice_heard (EndHears cause s here) p.protocol e m p.state (takes_no_more s) (its_protocol p here s e own is)
          (e, is, same_id_is e.id id same, refl))
          (λ e is other. refl) (λ none. refl);
      up = up_strides_stay cause silent s.up refl;
    }

-- where a row leads is known
row_leads_there : (protocol : Protocol) (p : PState) (m : Notice) (next : PState) (prompt : Bool)
    → part_row protocol p m ≡ prow.Row next prompt → part_among (rows_lead p) next ≡ true
row_leads_there protocol p m next prompt row =
    subst (λ (r : PRow). row_leads p r ≡ true) row
    (part_passes (row_known protocol m)
    (protocol_passes (λ x. list_all (row_known x m) parts) (rows_are_known m) protocol) p)

received_sealed : (s : ScopeState) (up : Part) (m : Notice) (next : PState) (prompt : Bool) → s.up ≡ Some up
    → part_row up.protocol up.state m ≡ prow.Row next prompt → is_sealed s ≡ true → is_sealed (with_up_moved s up next) ≡ true
received_sealed s up m next prompt is row sealed =
    let moved : PRow → ScopeStep PRow = λ (r : PRow). record { after = with_up_moved s up (state_after_row up.state r); answer = r } in
    let heard : up_receive s m ≡ moved (part_row up.protocol up.state m) = some_branch s.up _ _ up is in
    subst (λ (step : ScopeStep PRow). is_sealed step.after ≡ true) (heard ∙ ap moved row) (stays_sealed s (by_up_receive m) sealed)

if_any_keeps : (v : Option Verdict) → KeepsOwner (end_with_verdict_if_any v)
if_any_keeps None e = refl
if_any_keeps (Some v) e = refl

pub up_notice_strides : (s : ScopeState) (up : Part) (id : Id) (m : Notice) (next : PState) (prompt : Bool) → s.up ≡ Some up → up.id ≡ id
    → part_row up.protocol up.state m ≡ prow.Row next prompt → ScopeFits s
    → ScopeStrides (Some (input.Notice Participant id m)) silent s (with_up_moved s up next)
up_notice_strides s up id m next prompt is named row fits = record {
  id = refl;
  below = below;
  up = up_strides_change (Some (input.Notice Participant id m)) silent s.up up (part_in_state next up) is refl
      (notice_above up id m next prompt named row);
}
  where
    each : (p : Part) (e : End) (v : Option Verdict) (sealed : Bool) → e.protocol ≡ p.protocol → Among s.ends e
        → verdict_on_the_way up.state next ≡ v
        → Quiet (link_with p.protocol (Some (side_of e)) p.state sealed)
        (link_with p.protocol (Some (side_of (end_with_verdict_if_any v e))) p.state sealed)
    each p e None sealed own among handed = stays_quiet refl
    each p e (Some v) sealed own among handed =
        subst (λ (w : Verdict). Quiet (link_with p.protocol (Some (side_of e)) p.state sealed)
        (link_with p.protocol (Some (side_of (end_with_verdict w e))) p.state sealed)) (sym (word_is v e))
        (verdict_set p.protocol e v p.state sealed own
        (handing_sets s up next v e is fits (row_leads_there up.protocol up.state m next prompt row) handed among))

    below : Below (Some (input.Notice Participant id m)) silent s (with_up_moved s up next)
    below p here own =
        let t : ScopeState = with_up_moved s up next in
        let v : Option Verdict = verdict_on_the_way up.state next in
        each_quietly (EndHears (Some (input.Notice Participant id m)) s here) s t (end_with_verdict_if_any v) p here (if_any_keeps v) refl
        (takes_no_less s t refl (as_many (end_with_verdict_if_any v) s.ends) (received_sealed s up m next prompt is row))
        (λ e found. each p e v (takes_no_more t) (its_protocol p here s e own found) (found_end s here e found).0 refl)

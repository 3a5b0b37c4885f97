-- Each call keeps a scope fit.
use Rattle.std.proofs.Common.{◌≡◌, Bool, true, false, not, ◌&&◌, ◌||◌, List, [], ◌∷◌, map, Option, None, Some, unwrap_or, IsTrue, is_none}
use Rattle.std.proofs.Common.{is_some, refl, sym, ap, ◌∙◌, subst, if◌then◌else◌}
use Rattle.std.specs.List.{AllByRecursion, list_all}
use Rattle.std.proofs.lemmas.Bool.{and_parts, and_from}
use Rattle.std.proofs.lemmas.List.{length-map}
use Rattle.ba_core.specs.EndRows.{end_row, chosen_state}
use Rattle.ba_core.specs.PartRows.{part_row, is_part_state}
use Rattle.ba_core.specs.declared.identifiers.Id.{Id}
use Rattle.ba_core.specs.declared.notices.Notice.{Notice}
use Rattle.ba_core.specs.declared.protocols.Kind.TheVariants.{Atomic}
use Rattle.ba_core.specs.declared.protocols.Verdict.TheVariants.{Close, Undo}
use Rattle.ba_core.specs.declared.protocols.Protocol.{Protocol}
use Rattle.ba_core.specs.declared.protocols.Verdict.{Verdict}
use Rattle.ba_core.specs.declared.rows.PRow.{PRow}
use Rattle.ba_core.specs.declared.rows.PRow.TheVariants as prow
use Rattle.ba_core.specs.declared.rows.CRow.{CRow}
use Rattle.ba_core.specs.declared.rows.CRow.TheVariants as crow
use Rattle.ba_core.specs.declared.states.CState.{CState}
use Rattle.ba_core.specs.declared.states.PState.{PState}
use Rattle.ba_link.specs.States.{part_among}
use Rattle.ba_link.proofs.Everywhere.{only_if, where_asked, protocol_passes, parts, part_passes}
use Rattle.ba_message.specs.declared.endpoints.Epr.{Epr}
use Rattle.ba_scope_ends.specs.declared.ends.End.{End}
use Rattle.ba_scope_ends.specs.declared.parts.Part.{Part}
use Rattle.ba_scope_ends.specs.Parts.{has_no_coordinator, verdict_on_the_way, state_after_row, part_in_state, part_fits}
use Rattle.ba_scope_ends.specs.Ends.{same_id, end_with_verdict, end_after_row, is_ready_for}
use Rattle.ba_scope.specs.Scope.{ScopeState, is_id_above, is_own_id}
use Rattle.ba_scope.specs.Rules.{scope_with_verdict, end_with_verdict_if_any, with_up_moved, with_up, changed_at, with_end_changed}
use Rattle.ba_scope.specs.Rules.{word_for}
use Rattle.ba_scope.specs.Fits.{Above, goes_with, end_fits, above, are_apart, are_ids_free, is_other_end, verdict_goes, up_state, up_fits}
use Rattle.ba_scope.specs.Fits.{ScopeFits}
use Rattle.ba_scope.proofs.Lists.{by_test, word_is}
use Rattle.ba_scope.proofs.Tables.{Test, at_ends, end_passes, above_passes, for_kinds, anywhere_above, receiving, told_above, undecided}
use Rattle.ba_scope.proofs.Tables.{row_keeps, each_notice_keeps, decision_keeps, rows_lead, row_leads, row_known, rows_are_known}
use Rattle.ba_scope.proofs.Tables.{moved_above, end_after_verdict, goes_pair, handing, handings, each_handing_keeps, up_goes, part_row_fits}
use Rattle.ba_scope.proofs.Tables.{part_rows_fit, each_part_row_fits, same_truth}

-- ---- lists of ends

abbrev pub AllFit : Above → List End → Type 0
AllFit a = AllByRecursion (λ e. IsTrue (end_fits a e))

pub each_kept : (a b : Above) (f : End → End) → ((e : End) → end_fits a e ≡ true → end_fits b (f e) ≡ true)
    → (es : List End) → AllFit a es → AllFit b (map f es)
each_kept a b f h [] all = tt
each_kept a b f h (e ∷ es) all = (h e all.0, each_kept a b f h es all.1)

-- ends that pass a test besides
pub each_moved : (ready : CState → Bool) (a b : Above) (f : End → End)
    → ((e : End) → ready e.state ≡ true → end_fits a e ≡ true → end_fits b (f e) ≡ true)
    → (es : List End) → AllByRecursion (λ (e : End). ready e.state ≡ true) es → AllFit a es → AllFit b (map f es)
each_moved ready a b f h [] is all = tt
each_moved ready a b f h (e ∷ es) is all = (h e is.0 all.0, each_moved ready a b f h es is.1 all.1)

pub each_stays : (ready : CState → Bool) (a b : Above)
    → ((e : End) → ready e.state ≡ true → end_fits a e ≡ true → end_fits b e ≡ true)
    → (es : List End) → AllByRecursion (λ (e : End). ready e.state ≡ true) es → AllFit a es → AllFit b es
each_stays ready a b h [] is all = tt
each_stays ready a b h (e ∷ es) is all = (h e is.0 all.0, each_stays ready a b h es is.1 all.1)

-- a change that keeps who an end is
pub record KeepsWho (f : End → End) : Type 0 where
  pub id : (e : End) → (f e).id ≡ e.id
  pub participant : (e : End) → (f e).participant ≡ e.participant

apart_from : (f : End → End) → KeepsWho f → (x y : End) → x.id ≡ y.id → x.participant ≡ y.participant → (es : List End)
    → list_all (is_other_end y) es ≡ true → list_all (is_other_end x) (map f es) ≡ true
apart_from f k x y i p [] h = refl
apart_from f k x y i p (e ∷ es) h =
    let both = and_parts (is_other_end y e) (list_all (is_other_end y) es) h in
    let here : is_other_end x (f e) ≡ true = rw (i, p, k.id e, k.participant e) both.0 in
    and_from (is_other_end x (f e)) (list_all (is_other_end x) (map f es)) here (apart_from f k x y i p es both.1)

pub apart_kept : (f : End → End) → KeepsWho f → (es : List End) → are_apart es ≡ true → are_apart (map f es) ≡ true
apart_kept f k [] h = refl
apart_kept f k (e ∷ es) h =
    let both = and_parts (list_all (is_other_end e) es) (are_apart es) h in
    and_from (list_all (is_other_end (f e)) (map f es)) (are_apart (map f es))
    (apart_from f k (f e) e (k.id e) (k.participant e) es both.0) (apart_kept f k es both.1)

-- no end has the Id of its scope, as each end keeps its own
pub ids_kept : (s : ScopeState) (f : End → End) → KeepsWho f → (es : List End) → are_ids_free s es ≡ true → are_ids_free s (map f es) ≡ true
ids_kept s f k [] h = refl
ids_kept s f k (e ∷ es) h =
    let both = and_parts (not (is_own_id s e.id)) (are_ids_free s es) h in
    let here : not (is_own_id s (f e).id) ≡ true = rw (k.id e) both.0 in
    and_from (not (is_own_id s (f e).id)) (are_ids_free s (map f es)) here (ids_kept s f k es both.1)

-- ---- what a fit child says at the state of its upward part

-- what the ends of a child see, whose upward part is in this state
abbrev pub above_at : PState → ScopeState → Above
above_at p s = record { up = Some p; kind = s.kind; verdict = s.verdict }

pub ends_below : (s : ScopeState) (up : Part) → s.up ≡ Some up → ScopeFits s → AllFit (above_at up.state s) s.ends
ends_below s up is_up fits =
    subst (λ (u : Option Part). AllFit (record { up = up_state u; kind = s.kind; verdict = s.verdict }) s.ends) is_up fits.ends

pub verdict_below : (s : ScopeState) (up : Part) → s.up ≡ Some up → ScopeFits s → verdict_goes (above_at up.state s) ≡ true
verdict_below s up is_up fits =
    subst (λ (u : Option Part). verdict_goes (record { up = up_state u; kind = s.kind; verdict = s.verdict }) ≡ true) is_up fits.verdict

pub part_above : (s : ScopeState) (up : Part) → s.up ≡ Some up → ScopeFits s → part_fits up ≡ true
part_above s up is_up fits = subst (λ (u : Option Part). up_fits u ≡ true) is_up fits.up

-- the upward part changes, and keeps its Id
pub ids_below : (s : ScopeState) (up up2 : Part) → s.up ≡ Some up → up2.id ≡ up.id → ScopeFits s
    → are_ids_free (with_up s up2) s.ends ≡ true
ids_below s up up2 is_up same fits =
    let free = subst (λ (u : Option Part). list_all (λ (e : End). not (same_id s.id e.id || is_id_above u e.id)) s.ends ≡ true)
    is_up fits.ids in
    subst (λ (id : Id). list_all (λ (e : End). not (same_id s.id e.id || same_id id e.id)) s.ends ≡ true) (sym same) free

-- ---- the upward part receives

keeps_who_if_any : (v : Option Verdict) → KeepsWho (end_with_verdict_if_any v)
keeps_who_if_any None = record { id = λ e. refl; participant = λ e. refl }
keeps_who_if_any (Some v) = record { id = λ e. refl; participant = λ e. refl }

told_fits : (v : Option Verdict) (b : Above) (e : End)
    → goes_pair b e.protocol (end_after_verdict v e.protocol e.state e.verdict) ≡ true → end_fits b (end_with_verdict_if_any v e) ≡ true
told_fits None b e h = h
told_fits (Some Close) b e h = h
told_fits (Some Undo) b e h = h

-- the same scope with an upward part in another state, by which a verdict comes down
pub handed_fits : (s : ScopeState) (up : Part) (next : PState) → s.up ≡ Some up → ScopeFits s
    → part_among (rows_lead up.state) next ≡ true → part_fits (part_in_state next up) ≡ true
    → ScopeFits (with_up_moved s up next)
handed_fits s up next is_up fits leads part =
    let v : Option Verdict = verdict_on_the_way up.state next in
    let a : Above = above_at up.state s in
    let b : Above = moved_above up.state next a in
    let test : Test = λ protocol s ev. goes_pair b protocol (end_after_verdict v protocol s ev) in
    let by_before = part_passes (λ before. list_all (handings before) parts) each_handing_keeps up.state in
    let by_next = part_passes (handings up.state) by_before next in
    let kinds = where_asked (part_among (rows_lead up.state) next) (λ to. for_kinds (handing up.state to) (Some up.state)) next
    by_next leads in
    let both = and_parts (verdict_goes b) (at_ends test a)
    (above_passes (handing up.state next) a kinds (verdict_below s up is_up fits)) in
    record {
      ends = each_kept a b (end_with_verdict_if_any v)
          (λ e h. told_fits v b e (end_passes test a both.1 e.protocol e.state e.verdict h)) s.ends (ends_below s up is_up fits);
      verdict = both.0;
      up = part;
      apart = apart_kept (end_with_verdict_if_any v) (keeps_who_if_any v) s.ends fits.apart;
      ids = ids_kept (with_up s (part_in_state next up)) (end_with_verdict_if_any v) (keeps_who_if_any v) s.ends
          (ids_below s up (part_in_state next up) is_up refl fits);
      few = rw (length-map s.ends (end_with_verdict_if_any v)) fits.few;
      limit = fits.limit;
    }

-- a participant in another state, which keeps its coordinator
coordinator_kept : (b c : Bool) (coordinator : Option Epr) → same_truth b c ≡ true
    → (if b then is_none coordinator else is_some coordinator) ≡ true → (if c then is_none coordinator else is_some coordinator) ≡ true
coordinator_kept true true co h k = k
coordinator_kept true false co h k = absurd cc
coordinator_kept false true co h k = absurd cc
coordinator_kept false false co h k = k

pub part_in_fits : (up : Part) (next : PState) → part_fits up ≡ true
    → (is_part_state up.protocol next && same_truth (has_no_coordinator up.state) (has_no_coordinator next)) ≡ true
    → part_fits (part_in_state next up) ≡ true
part_in_fits up next fits h =
    let has : PState → Bool = λ p. if has_no_coordinator p then is_none up.coordinator else is_some up.coordinator in
    let new = and_parts (is_part_state up.protocol next) (same_truth (has_no_coordinator up.state) (has_no_coordinator next)) h in
    let old = and_parts (is_part_state up.protocol up.state) (has up.state) fits in
    and_from (is_part_state up.protocol next) (has next) new.0
    (coordinator_kept (has_no_coordinator up.state) (has_no_coordinator next) up.coordinator new.1 old.1)

row_fits : (up : Part) (row : PRow) → part_fits up ≡ true → part_row_fits up.protocol up.state row ≡ true
    → part_fits (part_in_state (state_after_row up.state row) up) ≡ true
row_fits up prow.Invalid fits h = fits
row_fits up (prow.Row next prompt) fits h = part_in_fits up next fits h

pub after_leads : (before : PState) (row : PRow) → row_leads before row ≡ true → part_among (rows_lead before) before ≡ true
    → part_among (rows_lead before) (state_after_row before row) ≡ true
after_leads before prow.Invalid h k = k
after_leads before (prow.Row next prompt) h k = h

pub self_leads : list_all (λ p. part_among (rows_lead p) p) parts ≡ true
self_leads = refl

-- the state is one of the part's protocol
pub own_part_state : (up : Part) → part_fits up ≡ true → is_part_state up.protocol up.state ≡ true
own_part_state up fits =
    (and_parts (is_part_state up.protocol up.state)
    (if has_no_coordinator up.state then is_none up.coordinator else is_some up.coordinator) fits).0

pub up_received_fits : (s : ScopeState) (up : Part) (n : Notice) → s.up ≡ Some up → ScopeFits s
    → ScopeFits (with_up_moved s up (state_after_row up.state (part_row up.protocol up.state n)))
up_received_fits s up n is_up fits =
    let row : PRow = part_row up.protocol up.state n in
    let part = part_above s up is_up fits in
    let known = part_passes (row_known up.protocol n)
    (protocol_passes (λ protocol. list_all (row_known protocol n) parts) (rows_are_known n) up.protocol) up.state in
    let of_protocol = protocol_passes (λ protocol. list_all (part_rows_fit n protocol) parts) (each_part_row_fits n) up.protocol in
    let fit = where_asked (is_part_state up.protocol up.state)
    (λ before. part_row_fits up.protocol before (part_row up.protocol before n)) up.state
    (part_passes (part_rows_fit n up.protocol) of_protocol up.state) (own_part_state up part) in
    let leads = after_leads up.state row known (part_passes (λ p. part_among (rows_lead p) p) self_leads up.state) in
    handed_fits s up (state_after_row up.state row) is_up fits leads (row_fits up row part fit)

-- ---- the upward part goes to another state, and the scope's verdict stays

pub up_gone_fits : (s : ScopeState) (up up2 : Part) (ready : CState → Bool) → s.up ≡ Some up → ScopeFits s
    → AllByRecursion (λ (e : End). ready e.state ≡ true) s.ends
    → up_goes ready (above_at up.state s) up2.state ≡ true → up2.id ≡ up.id → part_fits up2 ≡ true → ScopeFits (with_up s up2)
up_gone_fits s up up2 ready is_up fits all goes id part =
    let a : Above = above_at up.state s in
    let b : Above = above_at up2.state s in
    let test : Test = λ own s ev. only_if (ready s) (λ from. goes_with b own from ev None) s in
    let both = and_parts (verdict_goes b) (at_ends test a) goes in
    record {
      ends = each_stays ready a b
          (λ e is h. where_asked (ready e.state) (λ from. goes_with b e.protocol from e.verdict None) e.state
          (end_passes test a both.1 e.protocol e.state e.verdict h) is) s.ends all (ends_below s up is_up fits);
      verdict = both.0;
      up = part;
      apart = fits.apart;
      ids = ids_below s up up2 is_up id fits;
      few = fits.few;
      limit = fits.limit;
    }

-- the upward part changed, in its state
pub same_up_fits : (s : ScopeState) (up up2 : Part) → s.up ≡ Some up → ScopeFits s → up2.state ≡ up.state → up2.id ≡ up.id
    → part_fits up2 ≡ true → ScopeFits (with_up s up2)
same_up_fits s up up2 is_up fits same id part =
    let keep : Some up2.state ≡ up_state s.up = ap Some same ∙ sym (ap up_state is_up) in
    record {
      ends = subst (λ (u : Option PState). AllFit (record { up = u; kind = s.kind; verdict = s.verdict }) s.ends) (sym keep) fits.ends;
      verdict = subst (λ (u : Option PState). verdict_goes (record { up = u; kind = s.kind; verdict = s.verdict }) ≡ true)
          (sym keep) fits.verdict;
      up = part;
      apart = fits.apart;
      ids = ids_below s up up2 is_up id fits;
      few = fits.few;
      limit = fits.limit;
    }

-- ---- one end changes

pub at_keeps : (id : Id) (change : End → End) → KeepsWho change → KeepsWho (changed_at id change)
at_keeps id change k = record {
  id = λ e. by_test (λ (x : End). x.id ≡ e.id) (same_id e.id id) (change e) e (λ h. k.id e) (λ h. refl);
  participant = λ e. by_test (λ (x : End). x.participant ≡ e.participant) (same_id e.id id) (change e) e (λ h. k.participant e) (λ h. refl);
}

pub changed_fits : (s : ScopeState) (id : Id) (change : End → End) → KeepsWho change
    → ((e : End) → same_id e.id id ≡ true → end_fits (above s) e ≡ true → end_fits (above s) (change e) ≡ true)
    → ScopeFits s → ScopeFits (with_end_changed id change s)
changed_fits s id change who h fits = record {
  ends = each_kept (above s) (above s) (changed_at id change)
      (λ e fit. by_test (λ (x : End). end_fits (above s) x ≡ true) (same_id e.id id) (change e) e (λ here. h e here fit) (λ other. fit))
      s.ends fits.ends;
  verdict = fits.verdict;
  up = fits.up;
  apart = apart_kept (changed_at id change) (at_keeps id change who) s.ends fits.apart;
  ids = ids_kept s (changed_at id change) (at_keeps id change who) s.ends fits.ids;
  limit = fits.limit;
  few = rw (length-map s.ends (changed_at id change)) fits.few;
}

pub after_who : (row : End → CRow) → KeepsWho (λ e. end_after_row (row e) e)
after_who row = record { id = λ e. by_row e (row e); participant = λ e. by_row_too e (row e) }
  where
    by_row : (e : End) (r : CRow) → (end_after_row r e).id ≡ e.id
    by_row e crow.Invalid = refl
    by_row e (crow.Row next prompt) = refl

    by_row_too : (e : End) (r : CRow) → (end_after_row r e).participant ≡ e.participant
    by_row_too e crow.Invalid = refl
    by_row_too e (crow.Row next prompt) = refl

after_row_fits : (a : Above) (e : End) (row : CRow) → end_fits a e ≡ true → row_keeps a e.protocol e.verdict row ≡ true
    → end_fits a (end_after_row row e) ≡ true
after_row_fits a e crow.Invalid fit h = fit
after_row_fits a e (crow.Row next prompt) fit h = h

-- each end takes its own row
pub end_received_fits : (s : ScopeState) (id : Id) (n : Notice) → ScopeFits s
    → ScopeFits (with_end_changed id (λ e. end_after_row (end_row e.protocol e.state n) e) s)
end_received_fits s id n fits =
    let test : Test = λ protocol state v. row_keeps (above s) protocol v (end_row protocol state n) in
    let all = anywhere_above (receiving n) (each_notice_keeps n) (above s) fits.verdict in
    changed_fits s id (λ e. end_after_row (end_row e.protocol e.state n) e) (after_who (λ e. end_row e.protocol e.state n))
    (λ e here fit. after_row_fits (above s) e (end_row e.protocol e.state n) fit
    (end_passes test (above s) all e.protocol e.state e.verdict fit)) fits

-- ---- a root is decided

pub decided_fits : (s : ScopeState) (v : Verdict) → s.up ≡ None → s.kind ≡ Atomic → s.verdict ≡ None → ScopeFits s
    → AllByRecursion (λ (e : End). is_ready_for v e.state ≡ true) s.ends → ScopeFits (scope_with_verdict v s)
decided_fits s v root atomic open_ fits ready =
    let b : Above = told_above None Atomic v in
    let next : Protocol → CState → CState = λ protocol from. unwrap_or (chosen_state protocol from v) from in
    let test : Test = λ protocol state ev. only_if (is_ready_for v state)
    (λ from. goes_with b protocol (next protocol from) (Some v) None) state in
    let seen : above s ≡ undecided = (λ i. record { up = up_state (root i); kind = atomic i; verdict = open_ i }) in
    let after : above (scope_with_verdict v s) ≡ b = (λ i. record { up = up_state (root i); kind = atomic i; verdict = Some v }) in
    let f : End → End = λ e. end_with_verdict (word_for v e) e in
    let who : KeepsWho f = record { id = λ e. refl; participant = λ e. refl } in
    let each = each_moved (is_ready_for v) undecided b f
    (λ e is fit. subst (λ (w : Verdict). end_fits b (end_with_verdict w e) ≡ true) (sym (word_is v e))
    (where_asked (is_ready_for v e.state) (λ from. goes_with b e.protocol (next e.protocol from) (Some v) None) e.state
    (end_passes test undecided (decision_keeps v) e.protocol e.state e.verdict fit) is))
    s.ends ready (subst (λ (x : Above). AllFit x s.ends) seen fits.ends) in
    record {
      ends = subst (λ (x : Above). AllFit x (map f s.ends)) (sym after) each;
      verdict = subst (λ (x : Above). verdict_goes x ≡ true) (sym after) refl;
      up = fits.up;
      apart = apart_kept f who s.ends fits.apart;
      ids = ids_kept s f who s.ends fits.ids;
      few = rw (length-map s.ends f) fits.few;
      limit = fits.limit;
    }

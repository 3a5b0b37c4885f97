-- In each run an end that is told to close was Completed in an earlier world; for the law that an end is told to close only after it
-- completed.
use Rattle.std.proofs.Common.{◌≡◌, ◌⊎◌, inl, inr, ℕ, Bool, true, List, [], ◌∷◌, Option, None, Some, refl, sym, ap, ◌∙◌, subst, true≢false}
use Rattle.std.proofs.Common.{unwrap_or}
use Rattle.std.specs.List.{list_all}
use Rattle.std.proofs.lemmas.Bool.{and_parts}
use Rattle.ba_core.specs.EndRows.{chosen_state, completed_state, end_row, end_tick}
use Rattle.ba_core.specs.Messages.{notice_code}
use Rattle.ba_core.specs.declared.identifiers.Id.{Id}
use Rattle.ba_core.specs.declared.notices.Notice.{Notice}
use Rattle.ba_core.specs.declared.notices.Notice.TheVariants as notice
use Rattle.ba_core.specs.declared.protocols.Protocol.{Protocol}
use Rattle.ba_core.specs.declared.protocols.Verdict.{Verdict}
use Rattle.ba_core.specs.declared.protocols.Verdict.TheVariants.{Close, Undo}
use Rattle.ba_core.specs.declared.rows.CRow.{CRow}
use Rattle.ba_core.specs.declared.rows.CRow.TheVariants as crow
use Rattle.ba_core.specs.declared.states.How.TheVariants.{Closed}
use Rattle.ba_core.specs.declared.states.CState.{CState}
use Rattle.ba_core.specs.declared.states.CState.TheVariants as end
use Rattle.ba_link.specs.Fits.{end_closes, end_in, message_fits}
use Rattle.ba_link.specs.Link as link
use Rattle.ba_link.specs.Link.{LinkState, settled_state, to_end, to_part}
use Rattle.ba_link.specs.Pairs.{verdict_fits_state}
use Rattle.ba_link.specs.States.{end_among}
use Rattle.ba_link.proofs.Everywhere.{ends, only_if, protocol_passes, protocols, state_passes, verdict_passes, verdicts, where_asked}
use Rattle.ba_link.proofs.Kept.{sent_fits}
use Rattle.ba_message.specs.declared.messages.Letter.{Letter}
use Rattle.ba_message.specs.declared.messages.Message.TheVariants as message
use Rattle.ba_scope.proofs.Calls.{led}
use Rattle.ba_scope.proofs.Tables.{if_leads}
use Rattle.ba_scope_ends.specs.Ends.{end_after_row}
use Rattle.ba_scope.specs.Scope.{ScopeState}
use Rattle.ba_scope_ends.specs.declared.ends.End.{End}
use Rattle.ba_node_steps.specs.declared.inputs.Input.{Input}
use Rattle.ba_node_steps.specs.Addresses.{sender_of}
use Rattle.ba_node_steps.specs.Fits.{NodeFits}
use Rattle.ba_node_steps.specs.Node.{Among, NodeState, next_id}
use Rattle.ba_world_runs.specs.Links.{link_in}
use Rattle.ba_world_runs.specs.Runs.{IsRun, WasCompleted, earlier, goes_on, is_closing_state, now, starts}
use Rattle.ba_world_runs.specs.Safety.{IsAddressed, IsSound, MailFits, of_end, of_part, of_register}
use Rattle.ba_world_runs.specs.World.{formats, Net, Occasion, ScopeAt, World, WorldNode, delivers, letter, net_of, node_at, own, participant_at, ticks}
use Rattle.ba_world_runs.specs.WorldSteps.{Moves, WorldStep, effect}
use Rattle.ba_world_runs.proofs.Addressed.{cause_of}
use Rattle.ba_world_runs.proofs.AddressedRuns.{run_addressed}
use Rattle.ba_world_runs.proofs.EndLemmas.{end_parts}
use Rattle.ba_world_runs.proofs.Letters.{heard_above, heard_below}
use Rattle.ba_world_runs.proofs.Nets.{net_moves}
use Rattle.ba_world_runs.proofs.Owners.{end_fits_here, end_id, one_participant, part_id, scope_fits_here, sender_is}
use Rattle.ba_world_runs.proofs.Recorded.{at_or_other}
use Rattle.ba_world_runs.proofs.StatesGo.{EndBefore, StateComes, StatesGo, by_notice, by_tick, by_verdict, by_wish, input_states, state_stays}
use Rattle.ba_world_runs.proofs.StatesGo.{states_stay, tick_states}
use Rattle.ba_world_runs.proofs.Told.{no_word_up, shown_side}

-- ---- what is computed: an end comes to Closing from Completed alone

-- completed, or told to close
abbrev was_completed_state : CState → Bool
was_completed_state = end_among (end.Completed ∷ end.Closing ∷ end.Ended Closed ∷ [])

abbrev closes_after : CState → CState → Bool
closes_after next s = only_if (is_closing_state next) was_completed_state s

abbrev pub state_after : Protocol → Option Verdict → CState → CRow → CState
state_after protocol v s crow.Invalid = s
state_after protocol v s (crow.Row next prompt) = settled_state protocol next v

abbrev row_closes : Notice → Protocol → CState → Option Verdict → Bool
row_closes n protocol s v =
    only_if (verdict_fits_state s v) (λ w. closes_after (state_after protocol w s (end_row protocol s n)) s) v

abbrev rows_close : Notice → Protocol → CState → Bool
rows_close n protocol s = list_all (row_closes n protocol s) verdicts

each_row_closes : (n : Notice) → list_all (λ protocol. list_all (rows_close n protocol) ends) protocols ≡ true
each_row_closes notice.Complete = refl
each_row_closes n = refl

abbrev verdict_closes : Verdict → Protocol → CState → Bool
verdict_closes v protocol s = closes_after (unwrap_or (chosen_state protocol s v) s) s

each_verdict_closes : (v : Verdict) → list_all (λ protocol. list_all (verdict_closes v protocol) ends) protocols ≡ true
each_verdict_closes Close = refl
each_verdict_closes Undo = refl

abbrev wish_closes : Protocol → CState → Bool
wish_closes protocol s = if_leads (λ next. closes_after next s) (completed_state protocol s)

each_wish_closes : list_all (λ protocol. list_all (wish_closes protocol) ends) protocols ≡ true
each_wish_closes = refl

abbrev tick_closes : CState → Bool
tick_closes s = closes_after (end_tick s).0 s

each_tick_closes : list_all tick_closes ends ≡ true
each_tick_closes = refl

abbrev stay_closes : CState → Bool
stay_closes s = closes_after s s

each_stay_closes : list_all stay_closes ends ≡ true
each_stay_closes = refl

-- ---- an end that a step puts into Closing was Completed, or is there already

closed_from : (e f : End) (next : CState) → f.state ≡ next → closes_after next e.state ≡ true → is_closing_state f.state ≡ true
    → was_completed_state e.state ≡ true
closed_from e f next same table closes =
    where_asked (is_closing_state next) was_completed_state e.state table (subst (λ (s : CState). is_closing_state s ≡ true) same closes)

pub after_row_is : (row : CRow) (e : End) → (end_after_row row e).state ≡ state_after e.protocol e.verdict e.state row
after_row_is crow.Invalid e = refl
after_row_is (crow.Row next prompt) e = refl

closing_comes : (cause : Option Input) (e f : End) → verdict_fits_state e.state e.verdict ≡ true → StateComes cause e f.state
    → is_closing_state f.state ≡ true → was_completed_state e.state ≡ true
closing_comes cause e f fits (state_stays same) = closed_from e f e.state same (state_passes stay_closes each_stay_closes e.state)
closing_comes cause e f fits (by_notice m heard same) =
    let by_protocol = protocol_passes (λ protocol. list_all (rows_close m protocol) ends) (each_row_closes m) e.protocol in
    let by_state = state_passes (rows_close m e.protocol) by_protocol e.state in
    let by_own = verdict_passes (row_closes m e.protocol e.state) by_state e.verdict in
    let row : CRow = end_row e.protocol e.state m in
    closed_from e f (state_after e.protocol e.verdict e.state row) (same ∙ after_row_is row e)
    (where_asked (verdict_fits_state e.state e.verdict) (λ w. closes_after (state_after e.protocol w e.state row) e.state) e.verdict
    by_own fits)
closing_comes cause e f fits (by_verdict v same) =
    closed_from e f (unwrap_or (chosen_state e.protocol e.state v) e.state) same (state_passes (verdict_closes v e.protocol)
    (protocol_passes (λ protocol. list_all (verdict_closes v protocol) ends) (each_verdict_closes v) e.protocol) e.state)
closing_comes cause e f fits (by_wish wish) =
    closed_from e f f.state refl (led (λ next. closes_after next e.state) (completed_state e.protocol e.state) f.state wish
    (state_passes (wish_closes e.protocol) (protocol_passes (λ protocol. list_all (wish_closes protocol) ends) each_wish_closes e.protocol)
    e.state))
closing_comes cause e f fits (by_tick same) = closed_from e f (end_tick e.state).0 same (state_passes tick_closes each_tick_closes e.state)

completed_or_closing : (s : CState) → was_completed_state s ≡ true → (s ≡ end.Completed) ⊎ (is_closing_state s ≡ true)
completed_or_closing end.Completed h = inl refl
completed_or_closing end.Closing h = inr refl
completed_or_closing (end.Ended Closed) h = inr refl
completed_or_closing s h = absurd (true≢false (sym h))

not_active : {A : Type 0} (s : CState) → s ≡ end.Active → is_closing_state s ≡ true → A
not_active s same closes = absurd (true≢false (sym closes ∙ ap is_closing_state same))

-- ---- a move

after_states : (n : NodeState) (o : Occasion) → NodeFits n → StatesGo (cause_of o) (next_id n 1) n.scopes (effect n o).after.scopes
after_states n (own moment i) fits = input_states n moment i fits
after_states n (delivers moment mail i) fits = input_states n moment i fits
after_states n (ticks moment id) fits = tick_states n moment id fits
after_states n formats fits = states_stay None (next_id n 1) n.scopes

pub moved_states : (w w2 : Net) (k : ℕ) (o : Occasion) (joined : Bool) → Moves w w2 k o joined → IsAddressed w → (j : ℕ)
    → StatesGo (cause_of o) (next_id (node_at w k) 1) (node_at w j).scopes (node_at w2 j).scopes
moved_states w w2 k o joined moves is =
    let fresh : Id = next_id (node_at w k) 1 in
    at_or_other (λ j. StatesGo (cause_of o) fresh (node_at w j).scopes (node_at w2 j).scopes) k
    (subst (λ (n : NodeState). StatesGo (cause_of o) fresh (node_at w k).scopes n.scopes) (sym moves.state)
    (after_states (node_at w k) o (is.nodes k).fits))
    (λ j other. subst (λ (n : NodeState). StatesGo (cause_of o) fresh (node_at w j).scopes n.scopes) (sym (moves.others j other))
    (states_stay (cause_of o) fresh (node_at w j).scopes))

-- ---- runs

-- each end that is told to close was Completed in an earlier world
abbrev pub ClosesAfter : World → List World → Type 0
ClosesAfter w before =
    (k : ℕ) (s : ScopeState) (e : End) → ScopeAt (net_of w) k s → Among s.ends e → is_closing_state e.state ≡ true
    → WasCompleted before e.id

old_end : (w : World) (before : List World) → IsAddressed (net_of w) → ClosesAfter w before → (k : ℕ) (cause : Option Input) (f : End)
    → EndBefore cause (node_at (net_of w) k).scopes f → is_closing_state f.state ≡ true → WasCompleted (w ∷ before) f.id
old_end w before is closes k cause f was closing =
    let e : End = was.end in
    let fits = (end_parts was.scope e (end_fits_here (net_of w) is k was.scope e was.here was.among)).verdict in
    subst (WasCompleted (w ∷ before)) (sym was.becomes.id)
    (elim (completed_or_closing e.state (closing_comes cause e f fits was.becomes.state closing)) [
      | inl completed ↦ now k was.scope e was.here was.among refl completed
      | inr told ↦ earlier (closes k was.scope e was.here was.among told)
    ])

step_closes : (w w2 : World) (before : List World) → IsAddressed (net_of w) → WorldStep w w2 → ClosesAfter w before
    → ClosesAfter w2 (w ∷ before)
step_closes w w2 before is step closes k s e of among closing = elim (net_moves w w2 step) [
  | inl same ↦ earlier (closes k s e (subst (λ (n : Net). ScopeAt n k s) (sym same) of) among closing)
  | inr moved ↦ elim (moved_states (net_of w) (net_of w2) moved.0 moved.1 moved.2 moved.3 is k s e of among) [
    | inl was ↦ old_end w before is closes k (cause_of moved.1) e was closing
    | inr new ↦ not_active e.state new.0 closing
  ]
]

pub run_closes : (w : World) (before : List World) → IsRun (w ∷ before) → ClosesAfter w before
run_closes w before (starts start) = λ k s e of among closing. absurd (subst (λ (n : WorldNode). Among n.state.scopes s) (start.nodes k) of)
run_closes w before (goes_on run step) = step_closes _ w _ (run_addressed _ _ run) step (run_closes _ _ run)

-- ---- where Close was sent, its end is told to close

closing_sent : (l : LinkState) → message_fits l (to_part notice.Close) ≡ true
    → (x : link.End) × (l.end ≡ Some x) × (is_closing_state x.state ≡ true)
closing_sent l h = by_end l.end (and_parts (end_closes l.end) (end_in (end.Closing ∷ end.Ended Closed ∷ []) l.end) h).1
  where
    by_end : (o : Option link.End) → end_in (end.Closing ∷ end.Ended Closed ∷ []) o ≡ true
        → (x : link.End) × (o ≡ Some x) × (is_closing_state x.state ≡ true)
    by_end None fits = absurd (true≢false (sym fits))
    by_end (Some x) fits = (x, refl, fits)

-- the end that says Close in this letter
record SaysClose (w : Net) (l : Letter) : Type 0 where
  pub node : ℕ
  pub scope : ScopeState
  pub end : End
  pub here : ScopeAt w node scope
  pub among : Among scope.ends end
  pub sender : sender_of l.number ≡ end.id.0
  pub closes : is_closing_state end.state ≡ true

module _ (w : Net) (sound : IsSound w) where
  close_by : (l : Letter) → Among w.bag (letter l) → l.message ≡ message.Notice notice.Close → MailFits w (letter l) → SaysClose w l
  close_by l sent says (of_register j p has number to carries) = absurd cc
  close_by l sent says (of_part j p m has number to carries) =
      let at = sound.addressed.endpoints.parts j p has in
      let own : sender_of l.number ≡ p.id.0 = ap sender_of number ∙ sender_is j (notice_code m) p.id (part_id w sound.addressed j p has) in
      absurd (no_word_up (link_in w j p at.1).state notice.Close Close refl
      (sent_fits (link_in w j p at.1) (to_end notice.Close) (sound.links j at.0 p at.1 at.2)
      (heard_above w sound.addressed j p l notice.Close sent own says)))
  close_by l sent says (of_end i t f m has there number to carries) =
      let known = sound.addressed.endpoints.ends i t f has there in
      let heard = heard_below w sound.addressed known.0 known.1 l notice.Close known.2.part sent (to ∙ known.3) says in
      let fits = sent_fits (link_in w known.0 known.1 t) (to_part notice.Close) (sound.links known.0 i known.1 t known.2) heard in
      let shown = closing_sent (link_in w known.0 known.1 t).state fits in
      let side = shown_side t (participant_at w known.0 known.1.id) shown.0 shown.1 in
      let one : side.0 ≡ f =
      one_participant t.ends side.0 f (scope_fits_here w sound.addressed i t has).apart side.1 there (side.2 ∙ sym known.3) in
      let state : shown.0.state ≡ f.state =
      ap (λ (x : link.End). x.state) (sym side.3) ∙ ap (λ (x : End). x.state) one in
      record {
        node = i;
        scope = t;
        end = f;
        here = has;
        among = there;
        sender = ap sender_of number ∙ sender_is i (notice_code m) f.id (end_id w sound.addressed i t f has there);
        closes = subst (λ (c : CState). is_closing_state c ≡ true) state shown.2;
      }

  close_sent : (l : Letter) → Among w.bag (letter l) → l.message ≡ message.Notice notice.Close → SaysClose w l
  close_sent l sent says = close_by l sent says (sound.addressed.mail (letter l) sent)

pub close_told : (w : World) (before : List World) → IsRun (w ∷ before) → IsSound (net_of w) → (l : Letter) → Among w.bag (letter l)
    → l.message ≡ message.Notice notice.Close
    → (k : ℕ) × (s : ScopeState) × (e : End) × ScopeAt (net_of w) k s × Among s.ends e × (sender_of l.number ≡ e.id.0)
    × WasCompleted before e.id
close_told w before run sound l sent says =
    let its = close_sent (net_of w) sound l sent says in
    let was = run_closes w before run its.node its.scope its.end its.here its.among its.closes in
    (its.node, its.scope, its.end, its.here, its.among, its.sender, was)

-- In a sound net no notice that was sent is answered by InvalidState where it leads; for the law that notices are in place.
use Rattle.std.proofs.Common.{◌≡◌, ◌≢◌, inl, inr, ℕ, true, false, ◌||◌, refl, sym, ap, ◌∙◌, subst, true≢false}
use Rattle.ba_core.specs.EndRows.{end_row}
use Rattle.ba_core.specs.Messages.{is_column, notice_code}
use Rattle.ba_core.specs.PartRows.{part_row}
use Rattle.ba_core.specs.declared.codes.Code.TheVariants as code
use Rattle.ba_core.specs.declared.identifiers.Id.{Id}
use Rattle.ba_core.specs.declared.notices.Notice.{Notice}
use Rattle.ba_core.specs.declared.notices.Notice.TheVariants as notice
use Rattle.ba_core.specs.declared.protocols.Protocol.{Protocol}
use Rattle.ba_core.specs.declared.protocols.Side.{Side}
use Rattle.ba_core.specs.declared.protocols.Side.TheVariants.{Coordinator, Participant}
use Rattle.ba_core.specs.declared.rows.CRow.{CRow}
use Rattle.ba_core.specs.declared.rows.CRow.TheVariants as crow
use Rattle.ba_core.specs.declared.rows.PRow.{PRow}
use Rattle.ba_core.specs.declared.rows.PRow.TheVariants as prow
use Rattle.ba_core.specs.declared.states.CState.{CState}
use Rattle.ba_core.specs.declared.states.PState.{PState}
use Rattle.ba_core.specs.declared.states.PState.TheVariants as part
use Rattle.ba_link.specs.Fits.{HasEndRow}
use Rattle.ba_link.specs.Link as link
use Rattle.ba_link.proofs.Kept.{end_in_place, part_in_place}
use Rattle.ba_message.specs.declared.messages.Letter.{Letter}
use Rattle.ba_message.specs.declared.messages.Message.TheVariants as message
use Rattle.ba_scope.proofs.Lists.{by_test}
use Rattle.ba_scope_ends.specs.Ends.{end_after_row}
use Rattle.ba_scope_ends.specs.Parts.{has_no_coordinator}
use Rattle.ba_scope.specs.Scope.{ScopeState}
use Rattle.ba_scope_ends.specs.declared.ends.End.{End}
use Rattle.ba_scope_ends.specs.declared.parts.Part.{Part}
use Rattle.ba_node_steps.specs.Addresses.{sender_of}
use Rattle.ba_node_steps.specs.Node.{Among, EndPlace, HasPart, NodeState, PartPlace, end_place, lone, part_place, upward}
use Rattle.ba_node_steps.specs.Steps.{NodeStep, accepted_step, again_step, fault_step, is_get_status, is_status, node_step, on_end_asked}
use Rattle.ba_node_steps.specs.Steps.{on_end_notice, on_end_row, on_lone_row, on_part_asked, on_part_heard, on_place_notice, on_up_row}
use Rattle.ba_node_steps.specs.Steps.{same_end_state, same_part_state}
use Rattle.ba_node_steps.specs.declared.answers.Reply.TheVariants as reply
use Rattle.ba_node_steps.specs.declared.inputs.Input.TheVariants as input
use Rattle.ba_node_steps.proofs.Cases.{found_cases}
use Rattle.ba_node_steps.proofs.Hyphens.{coordinators_apart, sides_apart}
use Rattle.ba_node_steps.proofs.Places.{EndStands, end_found, place_cases}
use Rattle.ba_scope.proofs.ScopeCases.{neither_left, neither_right}
use Rattle.ba_world_runs.specs.Links.{HasEnd, IsLink, link_in}
use Rattle.ba_world_runs.specs.Safety.{IsSound, MailFits, of_end, of_part, of_register}
use Rattle.ba_world_runs.specs.World.{Net, PartAt, coordinator_at, letter, node_at, participant_at}
use Rattle.ba_world_runs.specs.WorldSteps.{BringsInput}
use Rattle.ba_world_runs.proofs.Letters.{coordinator_is, heard_above, heard_below}
use Rattle.ba_world_runs.proofs.Owners.{end_id, id_has_text, one_end_here, one_participant, owner, part_id, scope_fits_here, sender_is}
use Rattle.ba_world_runs.proofs.Told.{shown_side}

-- ---- a node answers InvalidState only where a row is missing

abbrev InPlace : NodeStep → Type 0
InPlace step = step.reply ≢ reply.SoapFault code.InvalidState

column_of : (m : Notice) → is_status m ≡ false → is_get_status m ≡ false → is_column m ≡ true
column_of notice.GetStatus other asks = absurd (true≢false asks)
column_of (notice.Status name) other asks = absurd (true≢false other)
column_of m other asks = refl

module _ (n : NodeState) (id : Id) (m : Notice) where
  end_notice_in_place : ((at : EndPlace) → EndStands n id at → is_column m ≡ true → end_row at.end.protocol at.end.state m ≢ crow.Invalid)
      → InPlace (on_end_notice n id m)
  end_notice_in_place has_row =
      found_cases InPlace (end_place n id) (fault_step n code.DestinationUnreachable) _ (λ h. absurd cc) (λ at found.
      by_test InPlace (is_status m) (accepted_step n) _ (λ _ h. absurd cc) (λ other.
      by_test InPlace (is_get_status m) (on_end_asked n at.scope at.end)
      (on_end_row n at.scope at.end m (end_row at.end.protocol at.end.state m))
      (λ asks. by_test InPlace at.end.owes (accepted_step n) _ (λ _ h. absurd cc) (λ _ h. absurd cc))
      (λ asks. by_row at (has_row at (end_found n id at found) (column_of m other asks)) (end_row at.end.protocol at.end.state m) refl)))
    where
      by_row : (at : EndPlace) → end_row at.end.protocol at.end.state m ≢ crow.Invalid → (row : CRow)
          → end_row at.end.protocol at.end.state m ≡ row → InPlace (on_end_row n at.scope at.end m row)
      by_row at there crow.Invalid is = absurd (there is)
      by_row at there (crow.Row next prompt) is =
          by_test InPlace (same_end_state at.end.state (end_after_row (crow.Row next prompt) at.end).state)
          (again_step n at.end.id prompt) _ (λ _ h. absurd cc) (λ _ h. absurd cc)

  heard_in_place : (place : PartPlace) (p : Part) (by_row : NodeStep)
      → (has_no_coordinator p.state ≡ false → is_column m ≡ true → InPlace by_row) → InPlace (on_part_heard n place p m by_row)
  heard_in_place place p by_row taken =
      by_test InPlace (is_status m || has_no_coordinator p.state) (accepted_step n) _ (λ _ h. absurd cc) (λ hears.
      by_test InPlace (is_get_status m) (on_part_asked n place p) by_row
      (λ asks. by_test InPlace p.owes (accepted_step n) _ (λ _ h. absurd cc) (λ _ h. absurd cc))
      (λ asks. taken (neither_right (is_status m) (has_no_coordinator p.state) hears)
      (column_of m (neither_left (is_status m) (has_no_coordinator p.state) hears) asks)))

  part_notice_in_place : ((p : Part) → HasPart n p → p.id ≡ id → has_no_coordinator p.state ≡ false → is_column m ≡ true
      → part_row p.protocol p.state m ≢ prow.Invalid)
      → InPlace (on_place_notice n (part_place n id) m)
  part_notice_in_place has_row =
      place_cases (λ (place : PartPlace). InPlace (on_place_notice n place m)) n id (λ _ h. absurd cc)
      (λ p stands. heard_in_place (lone p) p (on_lone_row n p m (part_row p.protocol p.state m)) (λ hears column.
      by_lone_row p (part_row p.protocol p.state m) (has_row p (inl stands.part) stands.is hears column)))
      (λ s p stands. heard_in_place (upward s p) p (on_up_row n s p m (part_row p.protocol p.state m)) (λ hears column.
      by_up_row s p (part_row p.protocol p.state m) (has_row p (inr (s, stands.scope, stands.up)) stands.is hears column)))
    where
      by_lone_row : (p : Part) (row : PRow) → row ≢ prow.Invalid → InPlace (on_lone_row n p m row)
      by_lone_row p prow.Invalid there = absurd (there refl)
      by_lone_row p (prow.Row next prompt) there =
          by_test InPlace (same_part_state p.state next) (again_step n p.id prompt) _ (λ _ h. absurd cc) (λ _ h. absurd cc)

      by_up_row : (s : ScopeState) (p : Part) (row : PRow) → row ≢ prow.Invalid → InPlace (on_up_row n s p m row)
      by_up_row s p prow.Invalid there = absurd (there refl)
      by_up_row s p (prow.Row next prompt) there =
          by_test InPlace (same_part_state p.state next) (again_step n p.id prompt) _ (λ _ h. absurd cc) (λ _ h. absurd cc)

-- a participant that has a coordinator isn't Registering
enrolled_is : (s : PState) → has_no_coordinator s ≡ false → s ≢ part.Registering
enrolled_is s h same = true≢false (sym (ap has_no_coordinator same) ∙ h)

module _ (w : Net) (sound : IsSound w) where
  -- ---- a notice that was sent has a row at the participant

  part_row_there : (k : ℕ) (l : Letter) (id : Id) (n : Notice) → Among w.bag (letter l) → l.to ≡ participant_at w k id
      → l.message ≡ message.Notice n → (p : Part) → PartAt w k p → p.id ≡ id → has_no_coordinator p.state ≡ false → is_column n ≡ true
      → part_row p.protocol p.state n ≢ prow.Invalid
  part_row_there k l id n sent to says p has its hears column =
      let at = sound.addressed.endpoints.parts k p has in
      let heard = heard_below w sound.addressed k p l n has sent (to ∙ ap (λ (i : Id). participant_at w k i) (sym its)) says in
      part_in_place (link_in w k p at.1) n (sound.links k at.0 p at.1 at.2) heard column (enrolled_is p.state hears)

  -- ---- and at the end

  row_of_end : (j k : ℕ) (p : Part) (s : ScopeState) (e : End) (n : Notice) → IsLink w j p k s → HasEnd w j p s e
      → HasEndRow (link_in w j p s).state n → end_row e.protocol e.state n ≢ crow.Invalid
  row_of_end j k p s e n its_link its has =
      let shown = shown_side s (participant_at w j p.id) has.0 has.1 in
      let one : shown.0 ≡ e =
      one_participant s.ends shown.0 e (scope_fits_here w sound.addressed k s its_link.scope).apart shown.1 its.0 (shown.2 ∙ sym its.1) in
      let protocol : e.protocol ≡ p.protocol = (owner w sound.addressed j k p s e its_link.part its_link.scope its.0 its.1).1 in
      let state : has.0.state ≡ e.state =
      ap (λ (x : link.End). x.state) (sym shown.3) ∙ ap (λ (x : End). x.state) one in
      subst (λ (c : CState). end_row e.protocol c n ≢ crow.Invalid) state
      (subst (λ (q : Protocol). end_row q has.0.state n ≢ crow.Invalid) (sym protocol) has.2)

  end_row_there : (k : ℕ) (l : Letter) (id : Id) (n : Notice) → Among w.bag (letter l) → l.to ≡ coordinator_at w k id
      → l.message ≡ message.Notice n → MailFits w (letter l) → (at : EndPlace) → EndStands (node_at w k) id at → is_column n ≡ true
      → end_row at.end.protocol at.end.state n ≢ crow.Invalid
  end_row_there k l id n sent to says (of_register j p has number goes carries) at stands column = absurd cc
  end_row_there k l id n sent to says (of_end i s e m of among number goes carries) at stands column =
      let known = sound.addressed.endpoints.ends i s e of among in
      absurd (sides_apart id known.1.id (node_at w k).base (node_at w known.0).base (sym to ∙ goes ∙ known.3))
  end_row_there k l id n sent to says (of_part j p m has number keeps carries) at stands column =
      let its = coordinator_is w sound.addressed j p l.to has keeps in
      let i : ℕ = its.0 in
      let s : ScopeState = its.1 in
      let e : End = its.2 in
      let here = end_id w sound.addressed k at.scope at.end stands.scope stands.end in
      let there = end_id w sound.addressed i s e its.3.scope its.4.0 in
      let ids : at.end.id.0 ≡ e.id.0 = coordinators_apart at.end.id e.id (node_at w k).base (node_at w i).base
      (id_has_text k at.end.id here) (id_has_text i e.id there)
      (ap (λ (x : Id). coordinator_at w k x) stands.is ∙ sym to ∙ its.5) in
      let one = one_end_here w sound.addressed k i at.scope s at.end e stands.scope its.3.scope stands.end its.4.0 ids in
      let own : sender_of l.number ≡ p.id.0 = ap sender_of number ∙ sender_is j (notice_code m) p.id (part_id w sound.addressed j p has) in
      let heard = heard_above w sound.addressed j p l n sent own says in
      let row = row_of_end j i p s e n its.3 its.4
      (end_in_place (link_in w j p s) n (sound.links j i p s its.3) heard column) in
      subst (λ (x : End). end_row x.protocol x.state n ≢ crow.Invalid) (sym one.2) row

  pub notices_in_place : (k now : ℕ) (l : Letter) (side : Side) (id : Id) (n : Notice) → Among w.bag (letter l)
      → BringsInput (node_at w k) (letter l) (input.Notice side id n)
      → (node_step (node_at w k) now (input.Notice side id n)).reply ≢ reply.SoapFault code.InvalidState
  notices_in_place k now l Coordinator id n sent leads =
      end_notice_in_place (node_at w k) id n (end_row_there k l id n sent leads.1 leads.2 (sound.addressed.mail (letter l) sent))
  notices_in_place k now l Participant id n sent leads =
      part_notice_in_place (node_at w k) id n (part_row_there k l id n sent leads.1 leads.2)

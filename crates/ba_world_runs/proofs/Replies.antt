-- What a node answers a Register and a notice, and what an object's tick sends; for the law that messages say where they come from.
use Rattle.std.proofs.Common.{◌≡◌, ◌≢◌, inl, inr, ℕ, not, ◌||◌, [], ◌∷◌, map, Option, None, Some, refl, subst}
use Rattle.std.specs.Option.{option_map}
use Rattle.ba_core.specs.EndRows.{end_row}
use Rattle.ba_core.specs.PartRows.{part_row, part_says}
use Rattle.ba_core.specs.declared.codes.Code.TheVariants as code
use Rattle.ba_core.specs.declared.identifiers.Id.{Id}
use Rattle.ba_core.specs.declared.notices.Notice.{Notice}
use Rattle.ba_core.specs.declared.protocols.Protocol.{Protocol}
use Rattle.ba_core.specs.declared.protocols.Side.{Side}
use Rattle.ba_core.specs.declared.protocols.Side.TheVariants.{Coordinator, Participant}
use Rattle.ba_core.specs.declared.rows.CRow.{CRow}
use Rattle.ba_core.specs.declared.rows.CRow.TheVariants as crow
use Rattle.ba_core.specs.declared.rows.PRow.{PRow}
use Rattle.ba_core.specs.declared.rows.PRow.TheVariants as prow
use Rattle.ba_message.specs.Dialing.{is_dialable}
use Rattle.ba_message.specs.Endpoints.{same_epr}
use Rattle.ba_message.specs.declared.endpoints.Epr.{Epr}
use Rattle.ba_message.specs.declared.messages.Letter.{Letter}
use Rattle.ba_message.proofs.FitTests.{endpoints_equal}
use Rattle.ba_scope.proofs.Lists.{by_test}
use Rattle.ba_scope_ends.specs.Ends.{end_after_row, new_end, tick_of_end, end_of, same_id}
use Rattle.ba_scope_ends.specs.Parts.{tick_of_part, has_no_coordinator}
use Rattle.ba_scope.specs.Rules.{enrol_refusal, expire, scope_with_end, tick_up}
use Rattle.ba_scope.specs.Scope.{ScopeState}
use Rattle.ba_scope.specs.declared.answers.EnrolFault.{EnrolFault}
use Rattle.ba_scope.specs.declared.answers.EnrolFault.TheVariants.{NotYetEnrolled}
use Rattle.ba_scope_ends.specs.declared.ends.End.{End}
use Rattle.ba_scope_ends.specs.declared.parts.Part.{Part}
use Rattle.ba_node_steps.specs.declared.answers.Reply.{Reply}
use Rattle.ba_node_steps.specs.declared.answers.Reply.TheVariants as reply
use Rattle.ba_node_steps.specs.Addresses.{coordinator_of}
use Rattle.ba_node_steps.specs.Node.{Among, HasPart, NodeState, PartPlace, end_place, lone, next_id, nowhere, part_place, scope_in_place_of}
use Rattle.ba_node_steps.specs.Node.{scope_with_id, upward, with_scope}
use Rattle.ba_node_steps.specs.Steps.{NodeStep, accepted_step, again_step, enrol_unless, enrolled_before, fault_step, if_found, is_get_status}
use Rattle.ba_node_steps.specs.Steps.{is_registering_state, is_status, on_end_asked, on_end_row, on_lone_row, on_notice, on_part_asked}
use Rattle.ba_node_steps.specs.Steps.{on_part_heard, on_place_notice, on_register, on_up_row, same_end_state, same_part_state, same_protocol}
use Rattle.ba_node_steps.specs.Ticks.{TickStep, end_letter, letter_step, notice_letter, part_letter, register_letter, tick_at_end, tick_at_part}
use Rattle.ba_node_steps.specs.Ticks.{tick_at_scope, tick_lone, tick_step, tick_upward}
use Rattle.ba_node_steps.proofs.Cases.{found_cases}
use Rattle.ba_node_steps.proofs.Members.{among_map, among_right, number_is_same}
use Rattle.ba_node_steps.proofs.Places.{end_found, first_is, place_cases, scope_found}
use Rattle.ba_world_runs.proofs.Tests.{if_true}

-- ---- a Register

-- the end of this participant at this scope, whose endpoint is the one that is answered
pub record IsAnswered (n after : NodeState) (scope : Id) (participant answered : Epr) : Type 0 where
  pub at : ScopeState
  pub end : End
  pub here : Among after.scopes at
  pub among : Among at.ends end
  pub who : at.id ≡ scope
  pub its : end.participant ≡ participant
  pub says : answered ≡ coordinator_of n.base end.id

abbrev pub RegisterReply : NodeState → Id → Epr → NodeState → Reply → Type 0
RegisterReply n scope participant after (reply.Enrolment c) = IsAnswered n after scope participant c
RegisterReply n scope participant after (reply.SoapFault c) = c ≢ code.InvalidProtocol
RegisterReply n scope participant after r = Unit {0}

abbrev pub RegisterFits : NodeState → Id → Epr → NodeStep → Type 0
RegisterFits n scope participant step = RegisterReply n scope participant step.after step.reply

new_end_answered : (n : NodeState) (scope : Id) (s : ScopeState) (known : Protocol) (participant : Epr) → Among n.scopes s → s.id ≡ scope
    → IsAnswered n (with_scope n (scope_with_end s (next_id n 1) known participant)) scope participant (coordinator_of n.base (next_id n 1))
new_end_answered n scope s known participant of who =
    let new : ScopeState = scope_with_end s (next_id n 1) known participant in
    let placed : scope_in_place_of new s ≡ new = if_true (same_id s.id new.id) new s (number_is_same s.id new.id refl) in
    record {
      at = new;
      end = new_end (next_id n 1) known participant;
      here = subst (Among (map (scope_in_place_of new) n.scopes)) placed (among_map (scope_in_place_of new) n.scopes s of);
      among = among_right s.ends (new_end (next_id n 1) known participant ∷ []) (new_end (next_id n 1) known participant) (inl refl);
      who = who;
      its = refl;
      says = refl;
    }

by_refusal : (n : NodeState) (scope : Id) (s : ScopeState) (known : Protocol) (participant : Epr) → Among n.scopes s → s.id ≡ scope
    → (o : Option EnrolFault) → RegisterFits n scope participant (enrol_unless n s known participant o)
by_refusal n scope s known participant of who None = new_end_answered n scope s known participant of who
by_refusal n scope s known participant of who (Some NotYetEnrolled) = λ h. absurd cc
by_refusal n scope s known participant of who (Some why) = λ h. absurd cc

old_end_answered : (n : NodeState) (scope : Id) (s : ScopeState) (known : Protocol) (participant : Epr) (e : End) → Among n.scopes s
    → s.id ≡ scope → end_of s.ends participant ≡ Some e → RegisterFits n scope participant (enrolled_before n known e)
old_end_answered n scope s known participant e of who found =
    let first = first_is (λ (x : End). same_epr x.participant participant) s.ends e found in
    by_test (RegisterFits n scope participant) (same_protocol e.protocol known) _ _
    (λ same. record {
      at = s;
      end = e;
      here = of;
      among = first.0;
      who = who;
      its = endpoints_equal e.participant participant first.1;
      says = refl;
    })
    (λ other h. absurd cc)

pub register_fits : (n : NodeState) (scope : Id) (known : Protocol) (participant : Epr)
    → RegisterFits n scope participant (on_register n scope (Some known) participant)
register_fits n scope known participant =
    found_cases (RegisterFits n scope participant) (scope_with_id n scope) (fault_step n code.DestinationUnreachable) _
    (λ h. absurd cc) (λ s here.
    by_test (RegisterFits n scope participant) (is_dialable participant.address) _ (fault_step n code.InvalidParameters)
    (λ dialable. by_end s (scope_found n scope s here) (end_of s.ends participant) refl)
    (λ other h. absurd cc))
  where
    by_end : (s : ScopeState) → Among n.scopes s × (s.id ≡ scope) → (o : Option End) → end_of s.ends participant ≡ o
        → RegisterFits n scope participant (if_found o (enrol_unless n s known participant (enrol_refusal s)) (enrolled_before n known))
    by_end s at None none = by_refusal n scope s known participant at.0 at.1 (enrol_refusal s)
    by_end s at (Some e) found = old_end_answered n scope s known participant e at.0 at.1 found

-- ---- a notice

abbrev pub NoticeReply : Reply → Type 0
NoticeReply (reply.Enrolment c) = ⊥
NoticeReply (reply.SoapFault c) = c ≢ code.InvalidProtocol
NoticeReply r = Unit {0}

abbrev NoticeFits : NodeStep → Type 0
NoticeFits step = NoticeReply step.reply

end_row_fits : (n : NodeState) (s : ScopeState) (e : End) (m : Notice) (row : CRow) → NoticeFits (on_end_row n s e m row)
end_row_fits n s e m crow.Invalid = λ h. absurd cc
end_row_fits n s e m (crow.Row next prompt) =
    by_test NoticeFits (same_end_state e.state (end_after_row (crow.Row next prompt) e).state) (again_step n e.id prompt) _ (λ _. tt)
    (λ _. tt)

lone_row_fits : (n : NodeState) (p : Part) (m : Notice) (row : PRow) → NoticeFits (on_lone_row n p m row)
lone_row_fits n p m prow.Invalid = λ h. absurd cc
lone_row_fits n p m (prow.Row next prompt) = by_test NoticeFits (same_part_state p.state next) _ _ (λ _. tt) (λ _. tt)

up_row_fits : (n : NodeState) (s : ScopeState) (p : Part) (m : Notice) (row : PRow) → NoticeFits (on_up_row n s p m row)
up_row_fits n s p m prow.Invalid = λ h. absurd cc
up_row_fits n s p m (prow.Row next prompt) = by_test NoticeFits (same_part_state p.state next) _ _ (λ _. tt) (λ _. tt)

heard_fits : (n : NodeState) (place : PartPlace) (p : Part) (m : Notice) (step : NodeStep) → NoticeFits step
    → NoticeFits (on_part_heard n place p m step)
heard_fits n place p m step fits =
    by_test NoticeFits (is_status m || has_no_coordinator p.state) (accepted_step n) _ (λ _. tt)
    (λ _. by_test NoticeFits (is_get_status m) (on_part_asked n place p) step
    (λ _. by_test NoticeFits p.owes (accepted_step n) _ (λ _. tt) (λ _. tt)) (λ _. fits))

place_fits : (n : NodeState) (place : PartPlace) (m : Notice) → NoticeFits (on_place_notice n place m)
place_fits n nowhere m = λ h. absurd cc
place_fits n (lone p) m = heard_fits n (lone p) p m _ (lone_row_fits n p m (part_row p.protocol p.state m))
place_fits n (upward s p) m = heard_fits n (upward s p) p m _ (up_row_fits n s p m (part_row p.protocol p.state m))

pub notice_fits : (n : NodeState) (side : Side) (id : Id) (m : Notice) → NoticeReply (on_notice n side id m).reply
notice_fits n Coordinator id m =
    found_cases NoticeFits (end_place n id) (fault_step n code.DestinationUnreachable) _ (λ h. absurd cc) (λ at found.
    by_test NoticeFits (is_status m) (accepted_step n) _ (λ _. tt)
    (λ _. by_test NoticeFits (is_get_status m) (on_end_asked n at.scope at.end) _
    (λ _. by_test NoticeFits at.end.owes (accepted_step n) _ (λ _. tt) (λ _. tt))
    (λ _. end_row_fits n at.scope at.end m (end_row at.end.protocol at.end.state m))))
notice_fits n Participant id m = place_fits n (part_place n id) m

-- ---- a tick

-- a letter of an end, of a participant, the Register of a participant
pub data IsOwnLetter (n : NodeState) : Letter → Type 0 where
  ends : (s : ScopeState) (e : End) (m : Notice) → Among n.scopes s → Among s.ends e → IsOwnLetter n (notice_letter e.id e.participant m)
  parts : (p : Part) (to : Epr) (m : Notice) → HasPart n p → p.coordinator ≡ Some to → IsOwnLetter n (notice_letter p.id to m)
  registers : (p : Part) → HasPart n p → IsOwnLetter n (register_letter n p)

abbrev pub IsOwnLetterIfAny : NodeState → Option Letter → Type 0
IsOwnLetterIfAny n None = Unit {0}
IsOwnLetterIfAny n (Some l) = IsOwnLetter n l

abbrev TickFits : NodeState → TickStep → Type 0
TickFits n step = IsOwnLetterIfAny n step.letter

end_letter_fits : (n : NodeState) (s : ScopeState) (e : End) (says : Option Notice) → Among n.scopes s → Among s.ends e
    → IsOwnLetterIfAny n (end_letter e says)
end_letter_fits n s e None of among = tt
end_letter_fits n s e (Some m) of among = ends s e m of among

part_letter_fits : (n : NodeState) (p : Part) (says : Option Notice) → HasPart n p → IsOwnLetterIfAny n (part_letter p says)
part_letter_fits n p None has = tt
part_letter_fits n p (Some m) has = by_coordinator p.coordinator refl
  where
    by_coordinator : (o : Option Epr) → p.coordinator ≡ o → IsOwnLetterIfAny n (option_map (λ to. notice_letter p.id to m) o)
    by_coordinator None none = tt
    by_coordinator (Some to) is = parts p to m has is

end_tick_fits : (n : NodeState) (s : ScopeState) (e : End) → Among n.scopes s → Among s.ends e → TickFits n (tick_at_end n s e)
end_tick_fits n s e of among =
    by_test (TickFits n) ((e.owes || e.asks) || not (same_end_state e.state (tick_of_end e).after.state)) _ _
    (λ _. end_letter_fits n s e (tick_of_end e).says of among) (λ _. end_letter_fits n s e (tick_of_end e).says of among)

scope_tick_fits : (n : NodeState) (s : ScopeState) (now : ℕ) → TickFits n (tick_at_scope n s now)
scope_tick_fits n s now = by_test (TickFits n) (expire s now).answer _ _ (λ _. tt) (λ _. tt)

lone_tick_fits : (n : NodeState) (p : Part) → Among n.parts p → TickFits n (tick_at_part n (lone p))
lone_tick_fits n p of =
    by_test (TickFits n) (is_registering_state p.state) (letter_step n (Some (register_letter n p))) (tick_lone n p)
    (λ _. registers p (inl of))
    (λ _. by_test (TickFits n) (p.owes || p.asks) _ _ (λ _. part_letter_fits n p (tick_of_part p).says (inl of))
    (λ _. part_letter_fits n p (part_says p.state) (inl of)))

up_tick_fits : (n : NodeState) (s : ScopeState) (p : Part) → Among n.scopes s → s.up ≡ Some p → TickFits n (tick_at_part n (upward s p))
up_tick_fits n s p of is =
    by_test (TickFits n) (is_registering_state p.state) (letter_step n (Some (register_letter n p))) (tick_upward n s p)
    (λ _. registers p (inr (s, of, is)))
    (λ _. by_test (TickFits n) _ _ _ (λ _. part_letter_fits n p (tick_up s).says (inr (s, of, is)))
    (λ _. part_letter_fits n p (tick_up s).says (inr (s, of, is))))

pub tick_fits : (n : NodeState) (now : ℕ) (id : Id) → IsOwnLetterIfAny n (tick_step n now id).letter
tick_fits n now id =
    found_cases (TickFits n) (scope_with_id n id) _ _
    (found_cases (TickFits n) (end_place n id) _ _
    (place_cases (λ (place : PartPlace). TickFits n (tick_at_part n place)) n id (λ none. tt)
    (λ p stands. lone_tick_fits n p stands.part) (λ s p stands. up_tick_fits n s p stands.scope stands.up))
    (λ at found. let stands = end_found n id at found in end_tick_fits n at.scope at.end stands.scope stands.end))
    (λ s here. scope_tick_fits n s now)

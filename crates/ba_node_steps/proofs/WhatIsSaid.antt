-- The letters of a node can be posted, and its replies that are messages can be written; for the law what_a_node_says_can_be_written.
use Rattle.std.proofs.Common.{◌≡◌, ◌≢◌, ℕ, ◌<◌, ◌^◌, ◌==◌, true, false, not, ◌||◌, codes, IfSome}
use Rattle.std.proofs.Common.{Option, None, Some, refl, sym, ap, ◌∙◌, subst, arith, length-append}
use Rattle.std.specs.Cmp.{first_so}
use Rattle.ba_core.specs.EndRows.{end_row}
use Rattle.ba_core.specs.PartRows.{acted_state, part_row}
use Rattle.ba_core.specs.declared.codes.Code.{Code}
use Rattle.ba_core.specs.declared.codes.Code.TheVariants as code
use Rattle.ba_core.specs.declared.identifiers.Id.{Id}
use Rattle.ba_core.specs.declared.notices.Act.{Act}
use Rattle.ba_core.specs.declared.notices.Notice.{Notice}
use Rattle.ba_core.specs.declared.notices.Notice.TheVariants as notice
use Rattle.ba_core.specs.declared.protocols.Kind.{Kind}
use Rattle.ba_core.specs.declared.protocols.Protocol.{Protocol}
use Rattle.ba_core.specs.declared.protocols.Side.TheVariants.{Coordinator, Participant}
use Rattle.ba_core.specs.declared.rows.CRow.{CRow}
use Rattle.ba_core.specs.declared.rows.CRow.TheVariants as crow
use Rattle.ba_core.specs.declared.rows.PRow.{PRow}
use Rattle.ba_core.specs.declared.rows.PRow.TheVariants as prow
use Rattle.ba_core.specs.declared.states.StateName.TheVariants as shown
use Rattle.ba_message.proofs.Dialed.{tells_dialable}
use Rattle.ba_message.proofs.OwnEndpoints.{own_endpoint_fits}
use Rattle.ba_message.proofs.PlainTexts.{all_pass, is_plain, is_visible, plain_append, plain_is_bare, plain_is_legal}
use Rattle.ba_message.specs.Addresses.{is_path_byte}
use Rattle.ba_message.specs.Dialing.{is_dialable}
use Rattle.ba_message.specs.Letters.{IsIdentifier, IsOwnEndpoint, IsPostable, IsPostableMessage}
use Rattle.ba_message.specs.declared.endpoints.Epr.{Epr}
use Rattle.ba_message.specs.declared.messages.Context.{Context}
use Rattle.ba_message.specs.declared.messages.Letter.{Letter}
use Rattle.ba_message.specs.declared.messages.Message.{Message}
use Rattle.ba_message.specs.declared.messages.Message.TheVariants as message
use Rattle.ba_record.specs.Endpoints.{IsBase}
use Rattle.ba_record.specs.declared.records.Record.{Record}
use Rattle.ba_scope.proofs.Lists.{by_test}
use Rattle.ba_scope.specs.Rules.{ScopeStep, enrol_refusal}
use Rattle.ba_scope.specs.Scope.{ScopeState}
use Rattle.ba_scope.specs.declared.answers.EnrolFault.{EnrolFault}
use Rattle.ba_scope.specs.declared.answers.EnrolFault.TheVariants.{NotYetEnrolled}
use Rattle.ba_scope.specs.declared.answers.Said.{Said}
use Rattle.ba_scope.specs.declared.answers.Said.TheVariants as said
use Rattle.ba_scope_ends.specs.Ends.{end_after_row, end_of}
use Rattle.ba_scope_ends.specs.Parts.{has_no_coordinator}
use Rattle.ba_scope_ends.specs.declared.ends.End.{End}
use Rattle.ba_scope_ends.specs.declared.parts.Part.{Part}
use Rattle.ba_node_steps.proofs.Cases.{found_cases}
use Rattle.ba_node_steps.proofs.Hyphens.{hyphenated_length}
use Rattle.ba_node_steps.proofs.PathBytes.{text_passes}
use Rattle.ba_node_steps.proofs.OwnAddresses.{coordinator_dials, participant_dials, registration_dials}
use Rattle.ba_node_steps.specs.Addresses.{context_identifier, coordinator_of, hyphenated, registration_of}
use Rattle.ba_node_steps.specs.Letters.{IsLetterOf, IsOwnMessage, is_known_notice}
use Rattle.ba_node_steps.specs.Node.{NodeState, PartPlace, end_place, lone, next_id, nowhere, part_place, scope_with_id, upward, with_scope}
use Rattle.ba_node_steps.specs.Replies.{HasFitTime, IsAnswerable}
use Rattle.ba_node_steps.specs.Steps.{NodeStep, accepted_step, act_at, again_step, enrol_unless, enrolled_before}
use Rattle.ba_node_steps.specs.Steps.{fault_step, if_placed, is_get_status, is_of_kind, is_registering_state, is_status, new_context}
use Rattle.ba_node_steps.specs.Steps.{on_act, on_ask, on_create, on_end_asked, on_end_row, on_enrolled}
use Rattle.ba_node_steps.specs.Steps.{on_join, on_lone_row, on_notice, on_part_asked, on_part_heard, on_place_notice}
use Rattle.ba_node_steps.specs.Steps.{on_refused_by, on_register, on_up_row, refusal_number, refusal_step, register_at, rule_step}
use Rattle.ba_node_steps.specs.Steps.{node_step, same_end_state, same_part_state, same_protocol, up_act_step, written_step}
use Rattle.ba_node_steps.specs.declared.answers.Reply.TheVariants as reply
use Rattle.ba_node_steps.specs.declared.answers.Wake.{Wake}
use Rattle.ba_node_steps.specs.declared.inputs.Input.{Input}
use Rattle.ba_node_steps.specs.declared.inputs.Input.TheVariants as input

-- ---- letters

some_is_there : {A : Type 0} (x : A) → ◌≢◌ {A = Option A} (Some x) None
some_is_there x h = absurd cc

known_status : (m : Notice) → is_known_notice m ≡ true → m ≢ notice.Status shown.Other
known_status m known is = let no : false ≡ true = sym (ap is_known_notice is) ∙ known in absurd cc

module _ (n : NodeState) (is : IsBase n.base) (id : Id) where
  message_postable : (m : Message) → IsOwnMessage n id m → IsPostableMessage m
  message_postable (message.Notice x) says = known_status x says
  message_postable (message.Register (Some protocol) participant) says =
      (some_is_there protocol, subst IsOwnEndpoint (sym says) (participant_dials n.base is id))
  message_postable (message.Register None participant) says = absurd says
  message_postable m says = absurd says

  pub letter_postable : (l : Letter) → IsLetterOf n id l → IsPostable l
  letter_postable l of = record {
    fits = of.reachable.fits;
    dialable = (tells_dialable l.to.address).0 of.reachable.dialable;
    message = message_postable l.message of.message;
  }

-- ---- the identifier of a context

path_visible : (b : ℕ) → is_path_byte b ≡ true → is_visible b ≡ true
path_visible b h = first_so (is_visible b) (not (b == 0x23)) h

text_plain : (id : Id) → is_plain (context_identifier id) ≡ true
text_plain id = plain_append (codes "urn:uuid:") (hyphenated id.0) refl
    (all_pass is_path_byte is_visible path_visible (hyphenated id.0) (text_passes id.0))

pub context_named : (id : Id) → IsIdentifier (context_identifier id)
context_named id =
    let whole = length-append (codes "urn:uuid:") (hyphenated id.0) in
    let digits = hyphenated_length id.0 in
    record {
      named = omega (arith, whole, digits);
      short = omega (arith, whole, digits);
      bare = plain_is_bare (context_identifier id) (text_plain id);
      legal = plain_is_legal (context_identifier id) (text_plain id);
    }

-- ---- replies

abbrev Good : NodeStep → Type 0
Good step = IsAnswerable step.reply

module _ (n : NodeState) (is : IsBase n.base) where
  placed_good : (place : PartPlace) (otherwise : NodeStep) (next : Part → NodeStep) → Good otherwise → ((p : Part) → Good (next p))
      → Good (if_placed place otherwise next)
  placed_good nowhere otherwise next none some = none
  placed_good (lone p) otherwise next none some = some p
  placed_good (upward s p) otherwise next none some = some p

  rule_good : (rule : ScopeStep Said) (k : Record) (w : Wake) → Good (rule_step n rule k w)
  rule_good rule k w = by_answer rule.answer
    where
      by_answer : (a : Said) → Good (elim a [
        | said.No number id ↦ refusal_step n number id
        | said.Ok ↦ written_step (with_scope n rule.after) reply.Accepted k w
      ])
      by_answer (said.No number id) = tt
      by_answer said.Ok = tt

  enrolment_good : (id : Id) → IsAnswerable (reply.Enrolment (coordinator_of n.base id))
  enrolment_good id = own_endpoint_fits (coordinator_of n.base id) (coordinator_dials n.base is id)

  -- Create
  context_good : (kind : Kind) (expires : Option ℕ) → IfSome expires (λ ms. ms < 2 ^ 32)
      → IsAnswerable (reply.Context (new_context n kind expires))
  context_good kind expires short = record {
    identifier = context_named (next_id n 1);
    expires = short;
    kind = some_is_there kind;
    registration = own_endpoint_fits (registration_of n.base (next_id n 1)) (registration_dials n.base is (next_id n 1));
  }

  create_good : (now : ℕ) (expires : Option ℕ) (current : Option Context) (kind : Option Kind) (protocol : Protocol)
      → IfSome expires (λ ms. ms < 2 ^ 32) → Good (on_create n now expires current kind protocol)
  create_good now expires current None protocol short = λ h. absurd cc
  create_good now expires None (Some kind) protocol short = context_good kind expires short
  create_good now expires (Some current) (Some kind) protocol short =
      by_test Good (not (is_of_kind kind current.kind)) (fault_step n code.CannotCreateContext) _ (λ _ h. absurd cc)
      (λ _. by_test Good (not (is_dialable current.registration.address)) (fault_step n code.InvalidParameters) _ (λ _ h. absurd cc)
      (λ _. context_good kind expires short))

  -- Register
  enrol_good : (s : ScopeState) (protocol : Protocol) (participant : Epr) (why : Option EnrolFault)
      → Good (enrol_unless n s protocol participant why)
  enrol_good s protocol participant None = enrolment_good (next_id n 1)
  enrol_good s protocol participant (Some NotYetEnrolled) = λ h. absurd cc
  enrol_good s protocol participant (Some why) = λ h. absurd cc

  register_good : (scope : Id) (protocol : Option Protocol) (participant : Epr) → Good (on_register n scope protocol participant)
  register_good scope protocol participant =
      found_cases Good (scope_with_id n scope) (fault_step n code.DestinationUnreachable) _ (λ h. absurd cc) (λ s here.
      found_cases Good protocol (fault_step n code.InvalidProtocol) _ (λ h. absurd cc) (λ known named.
      by_test Good (is_dialable participant.address) (register_at n s known participant) (fault_step n code.InvalidParameters)
      (λ dialable. found_cases Good (end_of s.ends participant) (enrol_unless n s known participant (enrol_refusal s))
      (enrolled_before n known) (enrol_good s known participant (enrol_refusal s)) (λ e found.
      by_test Good (same_protocol e.protocol known) _ (fault_step n code.InvalidParameters) (λ _. enrolment_good e.id)
      (λ _ h. absurd cc)))
      (λ other h. absurd cc)))

  -- Join, and what the Register of a participant came to
  join_good : (protocol : Protocol) (registration : Epr) → Good (on_join n protocol registration)
  join_good protocol registration = by_test Good (is_dialable registration.address) _ _ (λ _. tt) (λ _. tt)

  enrolled_good : (id : Id) (coordinator : Epr) → Good (on_enrolled n id coordinator)
  enrolled_good id coordinator =
      placed_good (part_place n id) _ _ tt (λ p.
      by_test Good (not (is_registering_state p.state)) (accepted_step n) _ (λ _. tt)
      (λ _. by_test Good (not (is_dialable coordinator.address)) _ _ (λ _. tt) (λ _. tt)))

  refused_good : (id : Id) (c : Code) → Good (on_refused_by n id c)
  refused_good id c =
      placed_good (part_place n id) _ _ tt (λ p.
      by_test Good (not (is_registering_state p.state)) (accepted_step n) _ (λ _. tt)
      (λ _. found_cases Good (refusal_number c) (accepted_step n) _ tt (λ number _. tt)))

  -- Notice
  end_row_good : (s : ScopeState) (e : End) (m : Notice) (row : CRow) → Good (on_end_row n s e m row)
  end_row_good s e m crow.Invalid = λ h. absurd cc
  end_row_good s e m (crow.Row next prompt) =
      by_test Good (same_end_state e.state (end_after_row (crow.Row next prompt) e).state) (again_step n e.id prompt) _ (λ _. tt) (λ _. tt)

  lone_row_good : (p : Part) (m : Notice) (row : PRow) → Good (on_lone_row n p m row)
  lone_row_good p m prow.Invalid = λ h. absurd cc
  lone_row_good p m (prow.Row next prompt) = by_test Good (same_part_state p.state next) _ _ (λ _. tt) (λ _. tt)

  up_row_good : (s : ScopeState) (p : Part) (m : Notice) (row : PRow) → Good (on_up_row n s p m row)
  up_row_good s p m prow.Invalid = λ h. absurd cc
  up_row_good s p m (prow.Row next prompt) = by_test Good (same_part_state p.state next) _ _ (λ _. tt) (λ _. tt)

  heard_good : (place : PartPlace) (p : Part) (m : Notice) (step : NodeStep) → Good step → Good (on_part_heard n place p m step)
  heard_good place p m step good =
      by_test Good (is_status m || has_no_coordinator p.state) (accepted_step n) _ (λ _. tt)
      (λ _. by_test Good (is_get_status m) (on_part_asked n place p) step
      (λ _. by_test Good p.owes (accepted_step n) _ (λ _. tt) (λ _. tt)) (λ _. good))

  place_good : (place : PartPlace) (m : Notice) → Good (on_place_notice n place m)
  place_good nowhere m = λ h. absurd cc
  place_good (lone p) m = heard_good (lone p) p m _ (lone_row_good p m (part_row p.protocol p.state m))
  place_good (upward s p) m = heard_good (upward s p) p m _ (up_row_good s p m (part_row p.protocol p.state m))

  end_notice_good : (id : Id) (m : Notice) → Good (on_notice n Coordinator id m)
  end_notice_good id m =
      found_cases Good (end_place n id) (fault_step n code.DestinationUnreachable) _ (λ h. absurd cc) (λ at found.
      by_test Good (is_status m) (accepted_step n) _ (λ _. tt)
      (λ _. by_test Good (is_get_status m) (on_end_asked n at.scope at.end) _
      (λ _. by_test Good at.end.owes (accepted_step n) _ (λ _. tt) (λ _. tt))
      (λ _. end_row_good at.scope at.end m (end_row at.end.protocol at.end.state m))))

  -- what the application asks
  act_good : (id : Id) (a : Act) → Good (on_act n id a)
  act_good id a = by_place (part_place n id)
    where
      by_place : (place : PartPlace) → Good (act_at n place id a)
      by_place nowhere = tt
      by_place (upward s p) = tt
      by_place (lone p) = found_cases Good (acted_state p.protocol p.state a) _ _ tt (λ next _. tt)

  ask_good : (id : Id) → Good (on_ask n id)
  ask_good id =
      found_cases Good (end_place n id) _ _
      (placed_good (part_place n id) _ _ tt (λ p.
      by_test Good (has_no_coordinator p.state) _ _ (λ _. tt) (λ _. by_test Good p.asks (accepted_step n) _ (λ _. tt) (λ _. tt))))
      (λ at _. by_test Good at.end.asks (accepted_step n) _ (λ _. tt) (λ _. tt))

  up_act_good : (s : ScopeState) (rule : ScopeStep Said) (a : Act) → Good (up_act_step n s rule a)
  up_act_good s rule a = found_cases Good s.up _ _ tt (λ up _. rule_good rule _ _)

  pub step_answers : (now : ℕ) (i : Input) → HasFitTime i → Good (node_step n now i)
  step_answers now (input.Create expires current kind protocol) short = create_good now expires current kind protocol short
  step_answers now (input.Register scope protocol participant) _ = register_good scope protocol participant
  step_answers now (input.Join protocol registration) _ = join_good protocol registration
  step_answers now (input.Enrolled id coordinator) _ = enrolled_good id coordinator
  step_answers now (input.RefusedBy id c) _ = refused_good id c
  step_answers now (input.Notice Coordinator id m) _ = end_notice_good id m
  step_answers now (input.Notice Participant id m) _ = place_good (part_place n id) m
  step_answers now (input.Act id a) _ = act_good id a
  step_answers now (input.Ask id) _ = ask_good id
  step_answers now (input.Decide id v) _ = found_cases Good (scope_with_id n id) _ _ tt (λ s _. rule_good _ _ _)
  step_answers now (input.Choose id v) _ = found_cases Good (end_place n id) _ _ tt (λ at _. rule_good _ _ _)
  step_answers now (input.Complete id) _ = found_cases Good (end_place n id) _ _ tt (λ at _. rule_good _ _ _)
  step_answers now (input.Finish id) _ = found_cases Good (scope_with_id n id) _ _ tt (λ s _. up_act_good s _ _)
  step_answers now (input.Leave id how) _ = found_cases Good (scope_with_id n id) _ _ tt (λ s _. up_act_good s _ _)

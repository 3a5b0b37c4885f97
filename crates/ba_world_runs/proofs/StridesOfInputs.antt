-- What each input of a node is to the links of its objects; for the law that each step of a node is moves of its links.
use Rattle.std.proofs.Common.{◌≡◌, ◌≢◌, inr, ℕ, Bool, true, false, ◌||◌, Option, None, Some, refl, sym, ap, ◌∙◌, subst, true≢false}
use Rattle.std.proofs.Common.{if◌then◌else◌}
use Rattle.std.specs.Option.{option_map}
use Rattle.ba_core.specs.declared.codes.Code.{Code}
use Rattle.ba_core.specs.declared.codes.Code.TheVariants as code
use Rattle.ba_core.specs.declared.identifiers.Id.{Id}
use Rattle.ba_core.specs.declared.protocols.Protocol.{Protocol}
use Rattle.ba_core.specs.declared.protocols.Side.TheVariants.{Coordinator, Participant}
use Rattle.ba_core.specs.declared.states.PState.{PState}
use Rattle.ba_link.specs.Link.{Message, answers_again, at_end, refused_for_good, refused_for_now, refused_link, refuses_for_good}
use Rattle.ba_link.specs.Link.{refuses_for_now, registered}
use Rattle.ba_message.specs.Endpoints.{same_epr}
use Rattle.ba_message.specs.declared.endpoints.Epr.{Epr}
use Rattle.ba_message.specs.declared.messages.Message.TheVariants as message
use Rattle.ba_message.proofs.FitTests.{endpoints_equal}
use Rattle.ba_scope.proofs.Calls.{registering_is}
use Rattle.ba_scope.proofs.Lists.{by_test}
use Rattle.ba_scope.proofs.Tables.{is_open_state}
use Rattle.ba_scope_ends.specs.Ends.{end_after_notice, end_asking, end_owing, end_of, end_with_id, same_id}
use Rattle.ba_scope_ends.specs.Parts.{enrolled_part, part_asking, part_in_state, part_owing, refused_part, is_registering}
use Rattle.ba_scope.specs.Rules.{choose, complete, decide, enrol_refusal, finish, leave_by, scope_with_end, with_end_changed, with_up}
use Rattle.ba_scope.specs.Rules.{with_up_moved}
use Rattle.ba_scope.specs.Scope.{ScopeState, is_full, is_sealed, takes_no_more}
use Rattle.ba_scope.specs.declared.answers.EnrolFault.TheVariants.{NotYetEnrolled, Sealed, Full}
use Rattle.ba_scope_ends.specs.declared.ends.End.{End}
use Rattle.ba_scope_ends.specs.declared.parts.Part.{Part}
use Rattle.ba_node_steps.specs.declared.answers.Reply.{Reply}
use Rattle.ba_node_steps.specs.declared.answers.Reply.TheVariants as reply
use Rattle.ba_node_steps.specs.declared.inputs.Input.{Input}
use Rattle.ba_node_steps.specs.declared.inputs.Input.TheVariants as input
use Rattle.ba_node_steps.specs.Addresses.{coordinator_of}
use Rattle.ba_node_steps.specs.Fits.{NodeFits}
use Rattle.ba_node_steps.specs.Node.{Among, NodeState, PartPlace, lone, next_id, nowhere, scope_with_id, upward, with_part_changed, with_scope}
use Rattle.ba_node_steps.specs.Steps.{node_step, refusal_number}
use Rattle.ba_node_steps.proofs.Cases.{AnsweredOnly, Registers, act_cases, ask_cases, create_cases, end_notice_cases, enrolled_already}
use Rattle.ba_node_steps.proofs.Cases.{enrolled_cases, for_good, for_now, join_cases, no_protocol, on_choose_cases, on_complete_cases}
use Rattle.ba_node_steps.proofs.Cases.{on_decide_cases, on_finish_cases, on_leave_cases, part_notice_cases, refused_cases, register_answers}
use Rattle.ba_node_steps.proofs.Members.{same_id_is}
use Rattle.ba_node_steps.proofs.Objects.{one_end, one_scope, scope_fits}
use Rattle.ba_node_steps.proofs.Places.{Stands, first_is, scope_found, stands_is}
use Rattle.ba_world_runs.specs.Links.{answered_by, link_state, side_of}
use Rattle.ba_world_runs.proofs.Goes.{some_same}
use Rattle.ba_world_runs.proofs.Strides.{Above, Below, Change, EndHears, InputChanges, IsMade, IsSaidAt, NamesItsProtocol, Speech, Strides}
use Rattle.ba_world_runs.proofs.Strides.{answer_said, made_lone, made_scope, moves, no_object, one_lone, one_scope as one_scope_changes}
use Rattle.ba_world_runs.proofs.Strides.{scope_answers, silent, stays, up_strides_stay}
use Rattle.ba_world_runs.proofs.StridesAbove.{acted_above, enrolled_above, notice_above, refused_above, same_above}
use Rattle.ba_world_runs.proofs.StridesBelow.{new_end_elsewhere, new_end_here}
use Rattle.ba_world_runs.proofs.StridesOfScopes.{ScopeStrides, choose_strides, complete_strides, decide_strides, end_notice_strides}
use Rattle.ba_world_runs.proofs.StridesOfScopes.{finish_strides, flag_strides, leave_strides, up_notice_strides, up_strides}

-- ---- changes of a node

pub scope_changes : (cause : Option Input) (speech : Speech) (n : NodeState) (s t : ScopeState) → Among n.scopes s → IsSaidAt s speech
    → ScopeStrides cause speech s t → Change cause speech n (with_scope n t)
scope_changes cause speech n s t of said strides = one_scope_changes s t of strides.id refl said strides.below strides.up

-- a participant changes where it stands, and doesn't come back to work
part_changes : (cause : Option Input) (n : NodeState) (id : Id) (place : PartPlace) (p : Part) (f : Part → Part) → Stands n id place p
    → ((x : Part) → (f x).id ≡ x.id) → (is_open_state (f p).state ≡ true → is_open_state p.state ≡ true) → Above cause silent p (f p)
    → Change cause silent n (with_part_changed n place f)
part_changes cause n id nowhere p f stands same work strides = absurd stands
part_changes cause n id (lone q) p f stands same work strides =
    one_lone q (f q) stands.0.part (same q) refl tt (subst (λ (x : Part). Above cause silent x (f x)) (sym stands.1) strides)
part_changes cause n id (upward s q) p f stands same work strides =
    let one : p ≡ q = sym stands.1 in
    scope_changes cause silent n s (with_up s (f q)) stands.0.scope tt
    (up_strides cause s q (f q) stands.0.up (same q)
    (subst (λ (x : Part). is_open_state (f x).state ≡ true → is_open_state x.state ≡ true) one work)
    (subst (λ (x : Part). Above cause silent x (f x)) one strides))

-- an end that is found by its identifier is the only one with it
only_there : (n : NodeState) (s : ScopeState) (id : Id) → NodeFits n → Among n.scopes s → (e : End) → end_with_id s.ends id ≡ Some e
    → (x : End) → Among s.ends x → same_id x.id id ≡ true → x ≡ e
only_there n s id fits of e found x among same =
    let first = first_is (λ (y : End). same_id y.id id) s.ends e found in
    let ids : x.id ≡ e.id = same_id_is x.id id same ∙ sym (same_id_is e.id id first.1) in
    (one_end n s s x e fits of of among first.0 (ap (λ (i : Id). i.0) ids)).1

-- ---- a Register

for_now_said : (c : Code) → refusal_number c ≡ None → answered_by (message.Fault c) ≡ Some refused_for_now
for_now_said code.CannotRegisterParticipant none = absurd cc
for_now_said code.InvalidProtocol none = absurd cc
for_now_said c none = refl

module _ (n : NodeState) (scope : Id) (protocol : Option Protocol) (participant : Epr) (fits : NodeFits n) where
  abbrev cause : Option Input
  cause = Some (input.Register scope protocol participant)

  answers_below : protocol ≢ None → (r : Reply) → AnsweredOnly n scope protocol participant r → (s : ScopeState) → Among n.scopes s
      → s.id ≡ scope → Below (Some (input.Register scope protocol participant)) (scope_answers scope participant r) s s
  answers_below known r answered s of who p here own =
      by_test (λ (says : Option Message). Strides (EndHears cause s here) says (link_state p here s) (link_state p here s))
      (same_epr participant here) (answer_said r) None
      (λ same. by_answer answered (endpoints_equal participant here same))
      (λ other. stays refl refl)
    where
      at_scope : (t : ScopeState) → scope_with_id n scope ≡ Some t → t ≡ s
      at_scope t found =
          let there = scope_found n scope t found in
          one_scope n t s fits there.0 of (ap (λ (i : Id). i.0) (there.1 ∙ sym who))

      by_answer : AnsweredOnly n scope protocol participant r → participant ≡ here
          → Strides (EndHears cause s here) (answer_said r) (link_state p here s) (link_state p here s)
      by_answer (enrolled_already t e found end r_is) same =
          let its : end_of s.ends here ≡ Some e =
          subst (λ (x : ScopeState). end_of x.ends here ≡ Some e) (at_scope t found)
          (subst (λ (x : Epr). end_of t.ends x ≡ Some e) same end) in
          moves answers_again (Some registered) (who, same)
          (ap (λ (o : Option End). at_end (λ x. Some (link_state p here s, Some registered)) (option_map side_of o)) its)
          (inr (ap answer_said r_is))
      by_answer (for_good t found none full r_is) same =
          let here_none : end_of s.ends here ≡ None =
          subst (λ (x : ScopeState). end_of x.ends here ≡ None) (at_scope t found)
          (subst (λ (x : Epr). end_of t.ends x ≡ None) same none) in
          let takes : takes_no_more s ≡ true = subst (λ (x : ScopeState). takes_no_more x ≡ true) (at_scope t found) full in
          moves refuses_for_good (Some refused_for_good) (who, same)
          (ap (λ (o : Option End). refused_link (link_state p here s) (option_map side_of o) (takes_no_more s)) here_none
          ∙ ap (refused_link (link_state p here s) None) takes)
          (inr (ap answer_said r_is))
      by_answer (for_now c none r_is) same =
          moves refuses_for_now (Some refused_for_now) (who, same) refl (inr (ap answer_said r_is ∙ for_now_said c none))
      by_answer (no_protocol none r_is) same = absurd (known none)

  enrols_below : (s : ScopeState) (known : Protocol) (id : Id) (c : Epr) → s.id ≡ scope → Registers n scope protocol participant s known
      → Below (Some (input.Register scope protocol participant)) (scope_answers scope participant (reply.Enrolment c)) s
      (scope_with_end s id known participant)
  enrols_below s known id c who new p here own =
      by_test (λ (says : Option Message). Strides (EndHears cause s here) says (link_state p here s)
      (link_state p here (scope_with_end s id known participant))) (same_epr participant here) (Some registered) None
      (λ same.
      let one : participant ≡ here = endpoints_equal participant here same in
      subst (λ (x : Epr). Strides (EndHears cause s here) (Some registered) (link_state p here s)
      (link_state p here (scope_with_end s id known x)))
      (sym one)
      (new_end_here (EndHears cause s here) s id known here p (subst (λ (x : Epr). end_of s.ends x ≡ None) one new.new)
      (takes_more s new.taken) (who, one)))
      (λ other. new_end_elsewhere (EndHears cause s here) s id known participant here p other)
    where
      by_tests : (registering sealed full : Bool)
          → (if registering then Some NotYetEnrolled else if sealed then Some Sealed else if full then Some Full else None) ≡ None
          → (sealed || full) ≡ false
      by_tests true sealed full h = absurd cc
      by_tests false true full h = absurd cc
      by_tests false false true h = absurd cc
      by_tests false false false h = refl

      takes_more : (t : ScopeState) → enrol_refusal t ≡ None → takes_no_more t ≡ false
      takes_more t taken = by_tests (is_registering t.up) (is_sealed t) (is_full t) taken

-- ---- each input

pub input_changes : (n : NodeState) (now : ℕ) (i : Input) → NodeFits n → NamesItsProtocol i → InputChanges i n (node_step n now i)
input_changes n now (input.Create expires current kind protocol) fits named =
    create_cases (InputChanges (input.Create expires current kind protocol) n) n now expires current kind protocol (λ r. no_object refl tt)
    (λ k is root. made_scope _ refl refl refl (λ p none. absurd cc))
    (λ k c is of alike dialable. made_scope _ refl refl refl (λ p same.
    subst (IsMade (Some (input.Create expires current kind protocol)) (next_id n 2)) (some_same _ p same)
    (record { named = refl; state = refl; registers = (c, of, refl) })))
input_changes n now (input.Register scope protocol participant) fits named =
    register_answers (InputChanges (input.Register scope protocol participant) n) n scope protocol participant
    (λ r answered. no_object refl (answers_below n scope protocol participant fits named r answered))
    (λ s known new.
    let found = scope_found n scope s new.here in
    one_scope_changes s (scope_with_end s (next_id n 1) known participant) found.0 refl refl found.1
    (enrols_below n scope protocol participant fits s known (next_id n 1) (coordinator_of n.base (next_id n 1)) found.1 new)
    (up_strides_stay (Some (input.Register scope protocol participant))
    (scope_answers scope participant (reply.Enrolment (coordinator_of n.base (next_id n 1)))) s.up refl))
input_changes n now (input.Join protocol registration) fits named =
    join_cases (InputChanges (input.Join protocol registration) n) n protocol registration (λ r. no_object refl tt)
    (λ dialable. made_lone _ refl refl (record { named = refl; state = refl; registers = refl }))
input_changes n now (input.Enrolled id coordinator) fits named =
    enrolled_cases (InputChanges (input.Enrolled id coordinator) n) n id coordinator (λ r. no_object refl tt)
    (λ place p stands registering dialable.
    part_changes (Some (input.Enrolled id coordinator)) n id place p (enrolled_part coordinator) stands (λ x. refl)
    (λ _. subst (λ (x : PState). is_open_state x ≡ true) (sym (registering_is p.state registering)) refl)
    (enrolled_above p id coordinator (stands_is n id place p stands) registering))
input_changes n now (input.RefusedBy id c) fits named =
    refused_cases (InputChanges (input.RefusedBy id c) n) n id c (λ r. no_object refl tt)
    (λ place p number stands registering is.
    part_changes (Some (input.RefusedBy id c)) n id place p refused_part stands (λ x. refl) (λ h. absurd (true≢false (sym h)))
    (refused_above p id c number (stands_is n id place p stands) registering is))
input_changes n now (input.Notice Coordinator id m) fits named =
    end_notice_cases (InputChanges (input.Notice Coordinator id m) n) n id m (λ r. no_object refl tt) (λ shown prompt. no_object refl tt)
    (λ at stands owes asks. scope_changes _ silent n at.scope _ stands.scope tt
    (flag_strides _ at.scope at.end.id end_owing (λ e. refl) (λ e. refl)))
    (λ at next prompt stands row other. scope_changes _ silent n at.scope _ stands.scope tt
    (subst (λ (x : Id). ScopeStrides (Some (input.Notice Coordinator id m)) silent at.scope
    (with_end_changed x (end_after_notice m) at.scope))
    (sym stands.is) (end_notice_strides at.scope id m)))
input_changes n now (input.Notice Participant id m) fits named =
    part_notice_cases (InputChanges (input.Notice Participant id m) n) n id m (λ r. no_object refl tt) (λ shown prompt. no_object refl tt)
    (λ place p stands hears asks owes.
    part_changes (Some (input.Notice Participant id m)) n id place p part_owing stands (λ x. refl) (λ h. h)
    (same_above (Some (input.Notice Participant id m)) silent p (part_owing p) refl refl refl))
    (λ p next prompt stands hears row other.
    one_lone p (part_in_state next p) stands.part refl refl tt (notice_above p id m next prompt stands.is row))
    (λ s p next prompt stands hears row other. scope_changes _ silent n s (with_up_moved s p next) stands.scope tt
    (up_notice_strides s p id m next prompt stands.up stands.is row (scope_fits n s fits stands.scope)))
input_changes n now (input.Act id a) fits named =
    act_cases (InputChanges (input.Act id a) n) n id a (λ r. no_object refl tt)
    (λ p next stands acts. one_lone p (part_in_state next p) stands.part refl refl tt (acted_above (Some (input.Act id a)) p a next acts))
input_changes n now (input.Ask id) fits named =
    ask_cases (InputChanges (input.Ask id) n) n id (λ r. no_object refl tt)
    (λ at stands asks. scope_changes _ silent n at.scope _ stands.scope tt
    (flag_strides _ at.scope at.end.id end_asking (λ e. refl) (λ e. refl)))
    (λ place p none stands hears asks.
    part_changes (Some (input.Ask id)) n id place p part_asking stands (λ x. refl) (λ h. h)
    (same_above (Some (input.Ask id)) silent p (part_asking p) refl refl refl))
input_changes n now (input.Decide id v) fits named =
    on_decide_cases (InputChanges (input.Decide id v) n) n id v (λ r. no_object refl tt)
    (λ s here ok.
    let of = (scope_found n id s here).0 in
    scope_changes _ silent n s (decide s v).after of tt (decide_strides _ s v (scope_fits n s fits of)))
input_changes n now (input.Choose id v) fits named =
    on_choose_cases (InputChanges (input.Choose id v) n) n id v (λ r. no_object refl tt)
    (λ at stands ok. scope_changes _ silent n at.scope (choose at.scope id v).after stands.scope tt
    (choose_strides _ at.scope id v (only_there n at.scope id fits stands.scope)))
input_changes n now (input.Complete id) fits named =
    on_complete_cases (InputChanges (input.Complete id) n) n id (λ r. no_object refl tt)
    (λ at stands ok. scope_changes _ silent n at.scope (complete at.scope id).after stands.scope tt
    (complete_strides _ at.scope id (only_there n at.scope id fits stands.scope)))
input_changes n now (input.Finish id) fits named =
    on_finish_cases (InputChanges (input.Finish id) n) n id (λ r. no_object refl tt)
    (λ s up here is ok. scope_changes _ silent n s (finish s).after (scope_found n id s here).0 tt (finish_strides _ s))
input_changes n now (input.Leave id how) fits named =
    on_leave_cases (InputChanges (input.Leave id how) n) n id how (λ r. no_object refl tt)
    (λ s up here is ok. scope_changes _ silent n s (leave_by s how).after (scope_found n id s here).0 tt (leave_strides _ s how))

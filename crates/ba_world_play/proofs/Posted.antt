-- What is in the bag of a play can be posted, and what happens at a node gives endpoints that fit; for the law of that name.
use Rattle.std.proofs.Common.{◌≡◌, ◌≢◌, ◌⊎◌, inl, inr, ℕ, ◌<◌, ◌^◌, Bool, true, false, ◌||◌, List, [], ◌∷◌, ◌++◌, Option, None, Some, refl}
use Rattle.std.proofs.Common.{sym, ap, ◌∙◌, subst, if◌then◌else◌}
use Rattle.std.specs.Option.{option_map, option_to_list}
use Rattle.std.proofs.lemmas.Bool.Decides.{eqb_tells}
use Rattle.ba_core.specs.EndRows.{end_row}
use Rattle.ba_core.specs.PartRows.{part_row}
use Rattle.ba_core.specs.declared.codes.Code.TheVariants as code
use Rattle.ba_core.specs.declared.identifiers.Id.{Id}
use Rattle.ba_core.specs.declared.notices.Notice.{Notice}
use Rattle.ba_core.specs.declared.notices.Notice.TheVariants as notice
use Rattle.ba_core.specs.declared.protocols.Protocol.{Protocol}
use Rattle.ba_core.specs.declared.protocols.Side.TheVariants.{Coordinator, Participant}
use Rattle.ba_core.specs.declared.rows.CRow.{CRow}
use Rattle.ba_core.specs.declared.rows.CRow.TheVariants as crow
use Rattle.ba_core.specs.declared.rows.PRow.{PRow}
use Rattle.ba_core.specs.declared.rows.PRow.TheVariants as prow
use Rattle.ba_core.specs.declared.states.StateName.TheVariants as shown
use Rattle.ba_message.proofs.Dialed.{tells_dialable}
use Rattle.ba_message.proofs.OwnEndpoints.{own_endpoint_fits}
use Rattle.ba_message.specs.Dialing.{is_dialable}
use Rattle.ba_message.specs.Endpoints.{Fits}
use Rattle.ba_message.specs.Letters.{IsOwnEndpoint, IsPostable, IsPostableMessage}
use Rattle.ba_message.specs.declared.endpoints.Epr.{Epr}
use Rattle.ba_message.specs.declared.messages.Letter.{Letter}
use Rattle.ba_message.specs.declared.messages.Message.{Message}
use Rattle.ba_message.specs.declared.messages.Message.TheVariants as message
use Rattle.ba_world_play.proofs.OwnAddresses.{coordinator_dials, participant_dials, registration_dials}
use Rattle.ba_world_play.specs.Plays.{node_base, world_at_start}
use Rattle.ba_world_play.specs.Posting.{CanBePosted, CanPost, occasion_event}
use Rattle.ba_world_runs.proofs.Nets.{net_moves}
use Rattle.ba_world_runs.proofs.Senders.{no_register}
use Rattle.ba_world_runs.specs.Safety.{IsItsRecords}
use Rattle.ba_world_runs.specs.World.{formats, Mail, Net, Occasion, ScopeAt, World, answer, delivers, letter, net_of, node_at, own, ticks}
use Rattle.ba_world_runs.specs.WorldSteps.{BringsInput, IsOwn, IsPossible, IsRegistration, Moves, WorldStep, answer_to, effect}
use Rattle.ba_scope.proofs.Lists.{by_test}
use Rattle.ba_scope_ends.specs.Ends.{end_after_row, end_of}
use Rattle.ba_scope.specs.Rules.{enrol_refusal}
use Rattle.ba_scope_ends.specs.Parts.{has_no_coordinator}
use Rattle.ba_scope.specs.Scope.{ScopeState}
use Rattle.ba_scope.specs.declared.answers.EnrolFault.{EnrolFault}
use Rattle.ba_scope.specs.declared.answers.EnrolFault.TheVariants.{NotYetEnrolled}
use Rattle.ba_scope_ends.specs.declared.ends.End.{End}
use Rattle.ba_scope_ends.specs.declared.parts.Part.{Part}
use Rattle.ba_node_steps.proofs.Cases.{found_cases}
use Rattle.ba_node_steps.proofs.EndpointsKept.{new_reaches, step_reaches}
use Rattle.ba_node_steps.proofs.LettersSent.{letter_is}
use Rattle.ba_node_steps.proofs.Objects.{owned_here}
use Rattle.ba_node_steps.proofs.SameNode.{step_keeps}
use Rattle.ba_node_steps.specs.Addresses.{coordinator_of, participant_of, registration_of}
use Rattle.ba_node_steps.specs.Endpoints.{AllReachable, GivesFit}
use Rattle.ba_node_steps.specs.Lawful.{change, given}
use Rattle.ba_node_steps.specs.Letters.{IsLetterOf, IsOwnMessage, is_known_notice}
use Rattle.ba_node_steps.specs.Node.{Among, NodeState, PartPlace, end_place, lone, next_id, nowhere, part_place, scope_with_id, upward}
use Rattle.ba_node_steps.specs.Steps.{NodeStep, accepted_step, again_step, enrol_unless, enrolled_before, fault_step, is_get_status, is_status}
use Rattle.ba_node_steps.specs.Steps.{node_step, on_end_asked, on_end_row, on_lone_row, on_notice, on_part_asked, on_part_heard, on_place_notice}
use Rattle.ba_node_steps.specs.Steps.{on_register, on_up_row, register_at, same_end_state, same_part_state, same_protocol}
use Rattle.ba_node_steps.specs.Ticks.{tick_step}
use Rattle.ba_node_steps.specs.declared.answers.Reply.{Reply}
use Rattle.ba_node_steps.specs.declared.answers.Reply.TheVariants as reply
use Rattle.ba_node_steps.specs.declared.inputs.Input.{Input}
use Rattle.ba_node_steps.specs.declared.inputs.Input.TheVariants as input

-- ---- what a letter is answered: an end of the node, or a fault that is known

abbrev GoodReply : NodeState → Reply → Type 0
GoodReply n (reply.Enrolment coordinator) = (id : Id) × (coordinator ≡ coordinator_of n.base id)
GoodReply n (reply.SoapFault c) = c ≢ code.Other
GoodReply n r = Unit {0}

abbrev GoodStep : NodeState → NodeStep → Type 0
GoodStep n step = GoodReply n step.reply

enrol_good : (n : NodeState) (s : ScopeState) (protocol : Protocol) (participant : Epr) (why : Option EnrolFault)
    → GoodStep n (enrol_unless n s protocol participant why)
enrol_good n s protocol participant None = (next_id n 1, refl)
enrol_good n s protocol participant (Some NotYetEnrolled) = λ h. absurd cc
enrol_good n s protocol participant (Some why) = λ h. absurd cc

register_good : (n : NodeState) (scope : Id) (protocol : Option Protocol) (participant : Epr)
    → GoodStep n (on_register n scope protocol participant)
register_good n scope protocol participant =
    found_cases (GoodStep n) (scope_with_id n scope) (fault_step n code.DestinationUnreachable) _ (λ h. absurd cc) (λ s here.
    found_cases (GoodStep n) protocol (fault_step n code.InvalidProtocol) _ (λ h. absurd cc) (λ known named.
    by_test (GoodStep n) (is_dialable participant.address) (register_at n s known participant) (fault_step n code.InvalidParameters)
    (λ dialable. found_cases (GoodStep n) (end_of s.ends participant) (enrol_unless n s known participant (enrol_refusal s))
    (enrolled_before n known) (enrol_good n s known participant (enrol_refusal s)) (λ e found.
    by_test (GoodStep n) (same_protocol e.protocol known) _ (fault_step n code.InvalidParameters) (λ _. (e.id, refl))
    (λ _ h. absurd cc)))
    (λ other h. absurd cc)))

end_row_good : (n : NodeState) (s : ScopeState) (e : End) (m : Notice) (row : CRow) → GoodStep n (on_end_row n s e m row)
end_row_good n s e m crow.Invalid = λ h. absurd cc
end_row_good n s e m (crow.Row next prompt) =
    by_test (GoodStep n) (same_end_state e.state (end_after_row (crow.Row next prompt) e).state) (again_step n e.id prompt) _ (λ _. tt)
    (λ _. tt)

lone_row_good : (n : NodeState) (p : Part) (m : Notice) (row : PRow) → GoodStep n (on_lone_row n p m row)
lone_row_good n p m prow.Invalid = λ h. absurd cc
lone_row_good n p m (prow.Row next prompt) = by_test (GoodStep n) (same_part_state p.state next) _ _ (λ _. tt) (λ _. tt)

up_row_good : (n : NodeState) (s : ScopeState) (p : Part) (m : Notice) (row : PRow) → GoodStep n (on_up_row n s p m row)
up_row_good n s p m prow.Invalid = λ h. absurd cc
up_row_good n s p m (prow.Row next prompt) = by_test (GoodStep n) (same_part_state p.state next) _ _ (λ _. tt) (λ _. tt)

heard_good : (n : NodeState) (place : PartPlace) (p : Part) (m : Notice) (step : NodeStep) → GoodStep n step
    → GoodStep n (on_part_heard n place p m step)
heard_good n place p m step good =
    by_test (GoodStep n) (is_status m || has_no_coordinator p.state) (accepted_step n) _ (λ _. tt)
    (λ _. by_test (GoodStep n) (is_get_status m) (on_part_asked n place p) step
    (λ _. by_test (GoodStep n) p.owes (accepted_step n) _ (λ _. tt) (λ _. tt)) (λ _. good))

place_good : (n : NodeState) (place : PartPlace) (m : Notice) → GoodStep n (on_place_notice n place m)
place_good n nowhere m = λ h. absurd cc
place_good n (lone p) m = heard_good n (lone p) p m _ (lone_row_good n p m (part_row p.protocol p.state m))
place_good n (upward s p) m = heard_good n (upward s p) p m _ (up_row_good n s p m (part_row p.protocol p.state m))

end_notice_good : (n : NodeState) (id : Id) (m : Notice) → GoodStep n (on_notice n Coordinator id m)
end_notice_good n id m =
    found_cases (GoodStep n) (end_place n id) (fault_step n code.DestinationUnreachable) _ (λ h. absurd cc) (λ at found.
    by_test (GoodStep n) (is_status m) (accepted_step n) _ (λ _. tt)
    (λ _. by_test (GoodStep n) (is_get_status m) (on_end_asked n at.scope at.end) _
    (λ _. by_test (GoodStep n) at.end.owes (accepted_step n) _ (λ _. tt) (λ _. tt))
    (λ _. end_row_good n at.scope at.end m (end_row at.end.protocol at.end.state m))))

-- the reply to what a letter brings
letter_good : (n : NodeState) (now : ℕ) (l : Letter) (i : Input) → BringsInput n (letter l) i → GoodStep n (node_step n now i)
letter_good n now l (input.Register scope protocol participant) brings = register_good n scope protocol participant
letter_good n now l (input.Notice Coordinator id m) brings = end_notice_good n id m
letter_good n now l (input.Notice Participant id m) brings = place_good n (part_place n id) m
letter_good n now l i brings = absurd brings

-- ---- which messages can be posted

own_fits : (e : Epr) → IsOwnEndpoint e → Fits e
own_fits = own_endpoint_fits

-- the node with this number and its base
record IsPlayed (k : ℕ) (n : NodeState) : Type 0 where
  small : k < 2 ^ 32
  base : n.base ≡ node_base k

own_participant : (k : ℕ) (n : NodeState) → IsPlayed k n → (id : Id) → IsOwnEndpoint (participant_of n.base id)
own_participant k n is id =
    subst (λ (base : List ℕ). IsOwnEndpoint (participant_of base id)) (sym is.base) (participant_dials k is.small id)

own_coordinator : (k : ℕ) (n : NodeState) → IsPlayed k n → (id : Id) → IsOwnEndpoint (coordinator_of n.base id)
own_coordinator k n is id =
    subst (λ (base : List ℕ). IsOwnEndpoint (coordinator_of base id)) (sym is.base) (coordinator_dials k is.small id)

some_is_there : {A : Type 0} (x : A) → ◌≢◌ {A = Option A} (Some x) None
some_is_there x h = absurd cc

known_status : (m : Notice) → is_known_notice m ≡ true → m ≢ notice.Status shown.Other
known_status m known is = let no : false ≡ true = sym (ap is_known_notice is) ∙ known in absurd cc

message_postable : (k : ℕ) (n : NodeState) → IsPlayed k n → (id : Id) (m : Message) → IsOwnMessage n id m → IsPostableMessage m
message_postable k n is id (message.Notice x) says = known_status x says
message_postable k n is id (message.Register (Some protocol) participant) says =
    (some_is_there protocol, subst IsOwnEndpoint (sym says) (own_participant k n is id))
message_postable k n is id (message.Register None participant) says = absurd says
message_postable k n is id m says = absurd says

letter_postable : (k : ℕ) (n : NodeState) → IsPlayed k n → (id : Id) (l : Letter) → IsLetterOf n id l → IsPostable l
letter_postable k n is id l of = record {
  fits = of.reachable.fits;
  dialable = (tells_dialable l.to.address).0 of.reachable.dialable;
  message = message_postable k n is id l.message of.message;
}

-- the answer that a reply is
reply_postable : (k : ℕ) (n : NodeState) → IsPlayed k n → (l : Letter) (r : Reply) → GoodReply n r → (m : Mail)
    → answer_to (letter l) r ≡ Some m → CanBePosted m
reply_postable k n is l (reply.Enrolment coordinator) good m sent =
    let same : answer l.number (message.Registered coordinator) ≡ m = cc in
    subst CanBePosted same (subst Fits (sym good.1) (own_fits (coordinator_of n.base good.0) (own_coordinator k n is good.0)))
reply_postable k n is l (reply.SoapFault c) good m sent =
    let same : answer l.number (message.Fault c) ≡ m = cc in subst CanBePosted same good
reply_postable k n is l r good m sent = absurd cc

no_answer : (number : Id) (m : Message) (r : Reply) (x : Mail) → answer_to (answer number m) r ≡ Some x → ⊥
no_answer number m r x h = cc

-- ---- in a world

among_either : {A : Type 0} (xs ys : List A) (x : A) → Among (xs ++ ys) x → Among xs x ⊎ Among ys x
among_either [] ys x h = inr h
among_either (y ∷ xs) ys x (inl same) = inl (inl same)
among_either (y ∷ xs) ys x (inr later) = on_left (among_either xs ys x later)
  where
    on_left : Among xs x ⊎ Among ys x → Among (y ∷ xs) x ⊎ Among ys x
    on_left (inl front) = inl (inr front)
    on_left (inr back) = inr back

module _ (w : World) (records : IsItsRecords w) (can : CanPost w) where
  scope_small : (k : ℕ) (s : ScopeState) → ScopeAt (net_of w) k s → k < 2 ^ 32
  scope_small k s at =
      let here = records.nodes k in
      subst (λ (n : ℕ). n < 2 ^ 32) here.number (owned_here (w.nodes k).state s s.id here.fits at (inl refl)).is_number

  -- the registration of a scope of the world
  registration_fits : (registration : Epr) → IsRegistration (net_of w) registration → Fits registration
  registration_fits registration (k, s, at, is) =
      let spelled : registration ≡ registration_of (node_base k) s.id =
      is ∙ ap (λ (base : List ℕ). registration_of base s.id) (can.bases k) in
      subst Fits (sym spelled) (own_fits (registration_of (node_base k) s.id) (registration_dials k (scope_small k s at) s.id))

  own_gives : (k now : ℕ) (i : Input) → IsOwn (net_of w) i → GivesFit (given now i)
  own_gives k now (input.Create expires (Some c) kind protocol) (j, s, at, registration, of_kind) =
      (registration_fits c.registration (j, s, at, registration), tt)
  own_gives k now (input.Create expires None kind protocol) is = tt
  own_gives k now (input.Join protocol registration) is = (registration_fits registration is, tt)
  own_gives k now (input.Register scope protocol participant) is = absurd is
  own_gives k now (input.Enrolled id coordinator) is = absurd is
  own_gives k now (input.RefusedBy id c) is = absurd is
  own_gives k now (input.Notice side id m) is = absurd is
  own_gives k now i is = tt

  brought_gives : (k now : ℕ) (m : Mail) (i : Input) → Among w.bag m → BringsInput (node_at (net_of w) k) m i → GivesFit (given now i)
  brought_gives k now (letter l) (input.Register scope protocol participant) among brings =
      let good : IsPostableMessage (message.Register protocol participant) =
      subst IsPostableMessage brings.2 (can.posted (letter l) among).message in
      (own_fits participant good.1, tt)
  brought_gives k now (answer number m) (input.Register scope protocol participant) among brings =
      absurd (no_register (node_at (net_of w) k) number m scope protocol participant brings)
  brought_gives k now (letter l) (input.Enrolled id told) among brings = absurd brings
  brought_gives k now (answer number (message.Registered coordinator)) (input.Enrolled id told) among brings =
      (subst Fits brings.2 (can.posted (answer number (message.Registered coordinator)) among), tt)
  brought_gives k now (answer number m) (input.Enrolled id told) among brings = absurd brings
  brought_gives k now m (input.Create expires current kind protocol) among brings = absurd (no_create m brings)
    where
      no_create : (m : Mail) → BringsInput (node_at (net_of w) k) m (input.Create expires current kind protocol) → ⊥
      no_create (letter l) h = h
      no_create (answer number (message.Registered coordinator)) h = h
      no_create (answer number (message.Fault c)) h = h
      no_create (answer number x) h = h
  brought_gives k now m (input.Join protocol registration) among brings = absurd (no_join m brings)
    where
      no_join : (m : Mail) → BringsInput (node_at (net_of w) k) m (input.Join protocol registration) → ⊥
      no_join (letter l) h = h
      no_join (answer number (message.Registered coordinator)) h = h
      no_join (answer number (message.Fault c)) h = h
      no_join (answer number x) h = h
  brought_gives k now m i among brings = tt

  pub occasion_gives : (k : ℕ) (o : Occasion) → IsPossible (net_of w) k o → GivesFit (occasion_event o)
  occasion_gives k (own now i) possible = own_gives k now i possible
  occasion_gives k (delivers now m i) possible = brought_gives k now m i possible.0 possible.1
  occasion_gives k (ticks now id) possible = tt
  occasion_gives k formats possible = tt

  -- ---- a step of one node

  module _ (w2 : World) (k : ℕ) (o : Occasion) (joined : Bool) (moves : Moves (net_of w) (net_of w2) k o joined) where
    abbrev n : NodeState
    n = (w.nodes k).state

    abbrev after : NodeState
    after = (effect n o).after

    played : IsPlayed k n
    played = record {
      small = subst (λ (x : ℕ). x < 2 ^ 32) (records.nodes k).number moves.room.number;
      base = can.bases k;
    }

    after_is : (o : Occasion) → (effect n o).after ≡ (change n (occasion_event o)).after
    after_is (own now i) = refl
    after_is (delivers now m i) = refl
    after_is (ticks now id) = refl
    after_is formats = refl

    after_base : after.base ≡ node_base k
    after_base = ap (λ (x : NodeState). x.base) (after_is o) ∙ (step_keeps n (occasion_event o)).base ∙ can.bases k

    after_reaches : AllReachable after
    after_reaches =
        subst AllReachable (sym (after_is o)) (step_reaches n (occasion_event o) (occasion_gives k o moves.possible) (can.reachable k))

    tick_posted : (now : ℕ) (id : Id) (l : Option Letter) → (tick_step n now id).letter ≡ l → (m : Mail) → option_map letter l ≡ Some m
        → CanBePosted m
    tick_posted now id None is m sent = absurd cc
    tick_posted now id (Some l) is m sent =
        let same : letter l ≡ m = cc in
        subst CanBePosted same (letter_postable k n played id l (letter_is n now id l (can.reachable k) is))

    delivery_posted : (now : ℕ) (sent : Mail) (i : Input) → BringsInput n sent i → (m : Mail)
        → answer_to sent (node_step n now i).reply ≡ Some m → CanBePosted m
    delivery_posted now (letter l) i brings m is =
        reply_postable k n played l (node_step n now i).reply (letter_good n now l i brings) m is
    delivery_posted now (answer number x) i brings m is = absurd (no_answer number x (node_step n now i).reply m is)

    sent_posted : (o : Occasion) → IsPossible (net_of w) k o → (m : Mail) → (effect n o).sends ≡ Some m → CanBePosted m
    sent_posted (own now i) possible m is = absurd cc
    sent_posted formats possible m is = absurd cc
    sent_posted (delivers now sent i) possible m is = delivery_posted now sent i possible.1 m is
    sent_posted (ticks now id) possible m is = tick_posted now id (tick_step n now id).letter refl m is

    only_sent : (b : Bool) (sends : Option Mail) (m : Mail) → Among (if b then option_to_list sends else []) m → sends ≡ Some m
    only_sent true (Some x) m (inl same) = ap Some same
    only_sent true (Some x) m (inr none) = absurd none
    only_sent true None m none = absurd none
    only_sent false sends m none = absurd none

    new_posted : (m : Mail) → Among w2.bag m → CanBePosted m
    new_posted m among =
        elim (among_either w.bag (if joined then option_to_list (effect n o).sends else []) m
        (subst (λ (bag : List Mail). Among bag m) moves.bag among)) [
          | inl before ↦ can.posted m before
          | inr now ↦ sent_posted o moves.possible m (only_sent joined (effect n o).sends m now)
        ]

    state_at : (j : ℕ) → ((j ≡ k) × ((w2.nodes j).state ≡ after)) ⊎ ((w2.nodes j).state ≡ (w.nodes j).state)
    state_at j = elim (eqb_tells j k) [
      | inl same ↦ inl (same.1, ap (λ (i : ℕ). (w2.nodes i).state) same.1 ∙ moves.state)
      | inr other ↦ inr (moves.others j other.1)
    ]

    moved_base : (j : ℕ) → (w2.nodes j).state.base ≡ node_base j
    moved_base j = elim (state_at j) [
      | inl here ↦ ap (λ (x : NodeState). x.base) here.1 ∙ after_base ∙ ap node_base (sym here.0)
      | inr stays ↦ ap (λ (x : NodeState). x.base) stays ∙ can.bases j
    ]

    moved_reaches : (j : ℕ) → AllReachable (w2.nodes j).state
    moved_reaches j = elim (state_at j) [
      | inl here ↦ subst AllReachable (sym here.1) after_reaches
      | inr stays ↦ subst AllReachable (sym stays) (can.reachable j)
    ]

    moved_posts : CanPost w2
    moved_posts = record { bases = moved_base; reachable = moved_reaches; posted = new_posted }

  same_posts : (w2 : World) → net_of w ≡ net_of w2 → CanPost w2
  same_posts w2 same = record {
    bases = λ k. ap (λ (x : Net). (node_at x k).base) (sym same) ∙ can.bases k;
    reachable = λ k. subst (λ (x : Net). AllReachable (node_at x k)) same (can.reachable k);
    posted = λ m among. can.posted m (subst (λ (x : Net). Among x.bag m) (sym same) among);
  }

  pub step_posts : (w2 : World) → WorldStep w w2 → CanPost w2
  step_posts w2 step = elim (net_moves w w2 step) [
    | inl same ↦ same_posts w2 same
    | inr moved ↦ moved_posts w2 moved.0 moved.1 moved.2 moved.3
  ]

-- ---- the start

pub start_posts : CanPost world_at_start
start_posts = record {
  bases = λ k. refl;
  reachable = λ k. new_reaches k (node_base k);
  posted = λ m none. absurd none;
}

-- What a step says, on each link of a net; for the law that each link moves by its table.
use Rattle.std.proofs.Common.{◌≡◌, ◌≢◌, inl, inr, ℕ, ◌+◌, ◌*◌, ◌/◌, ◌%◌, ◌^◌, ◌<◌, Bool, true, false, Option, None, Some, arith, refl, sym}
use Rattle.std.proofs.Common.{ap, ◌∙◌, subst, true≢false, if◌then◌else◌}
use Rattle.std.specs.Option.{option_and_then, option_map}
use Rattle.ba_core.specs.Messages.{notice_code}
use Rattle.ba_core.specs.declared.identifiers.Id.{Id}
use Rattle.ba_core.specs.declared.notices.Notice.{Notice}
use Rattle.ba_core.specs.declared.notices.Notice.TheVariants as notice
use Rattle.ba_core.specs.declared.protocols.Protocol.{Protocol}
use Rattle.ba_core.specs.declared.protocols.Side.TheVariants.{Coordinator, Participant}
use Rattle.ba_link.specs.Link as link
use Rattle.ba_link.specs.Link.{to_part}
use Rattle.ba_message.specs.Endpoints.{same_epr}
use Rattle.ba_message.specs.declared.endpoints.Epr.{Epr}
use Rattle.ba_message.specs.declared.messages.Letter.{Letter}
use Rattle.ba_message.specs.declared.messages.Message.{Message}
use Rattle.ba_message.specs.declared.messages.Message.TheVariants as message
use Rattle.ba_message.proofs.FitTests.{endpoint_itself, endpoints_equal}
use Rattle.ba_scope.specs.Scope.{ScopeState}
use Rattle.ba_scope_ends.specs.declared.ends.End.{End}
use Rattle.ba_scope_ends.specs.declared.parts.Part.{Part}
use Rattle.ba_node_steps.specs.Addresses.{message_number, register_code, sender_of}
use Rattle.ba_node_steps.specs.Fits.{IsIdAt}
use Rattle.ba_node_steps.specs.Node.{Among, HasPart, IsHere, NodeState}
use Rattle.ba_node_steps.specs.Steps.{node_step}
use Rattle.ba_node_steps.specs.Ticks.{notice_letter, register_letter, tick_step}
use Rattle.ba_node_steps.specs.declared.answers.Reply.{Reply}
use Rattle.ba_node_steps.specs.declared.answers.Reply.TheVariants as reply
use Rattle.ba_node_steps.specs.declared.inputs.Input.{Input}
use Rattle.ba_node_steps.specs.declared.inputs.Input.TheVariants as input
use Rattle.ba_node_steps.proofs.Hyphens.{registrations_apart, sides_apart}
use Rattle.ba_node_steps.proofs.Members.{id_by_number}
use Rattle.ba_node_steps.proofs.Objects.{no_end_is_a_part, one_part}
use Rattle.ba_world_runs.specs.Links.{IsLink, answered_by, on_link, said_down, said_up}
use Rattle.ba_world_runs.specs.Safety.{IsAddressed, MailFits, of_end, of_part, of_register}
use Rattle.ba_world_runs.specs.World.{Mail, Net, Occasion, PartAt, ScopeAt, answer, delivers, letter, node_at, own, participant_at}
use Rattle.ba_world_runs.specs.World.{formats, registration_at, ticks}
use Rattle.ba_world_runs.specs.WorldSteps.{BringsInput, IsPossible, answer_to, effect}
use Rattle.ba_world_runs.proofs.Heard.{by_address, by_number, by_sender, off_number}
use Rattle.ba_world_runs.proofs.Letters.{coordinator_is}
use Rattle.ba_world_runs.proofs.MailLemmas.{no_answer}
use Rattle.ba_world_runs.proofs.Owners.{end_id, fits_here, id_has_text, id_small, one_endpoint, one_node, one_number, one_registration, owner}
use Rattle.ba_world_runs.proofs.Owners.{part_id, scope_id, sender_is}
use Rattle.ba_world_runs.proofs.Senders.{IsSenderOf, no_register, sender}
use Rattle.ba_world_runs.proofs.Strides.{Sends, Speech, answer_of, answer_said, end_writes, part_registers, part_writes, said_by, said_to}
use Rattle.ba_world_runs.proofs.Strides.{scope_answers, silent}
use Rattle.ba_world_runs.proofs.Tests.{if_false, test_cases}

-- ---- who speaks

-- the scope, or one of its ends
abbrev pub SpeaksAt : ScopeState → Speech → Type 0
SpeaksAt s (scope_answers scope participant r) = s.id ≡ scope
SpeaksAt s (end_writes e m) = Among s.ends e
SpeaksAt s speech = ⊥

-- the participant
abbrev pub SpeaksBy : Part → Speech → Type 0
SpeaksBy p (part_writes q to m) = q ≡ p
SpeaksBy p (part_registers q) = q ≡ p
SpeaksBy p speech = ⊥

-- no other participant
abbrev pub IsSpeaker : Part → Speech → Type 0
IsSpeaker p (part_writes q to m) = q ≡ p
IsSpeaker p (part_registers q) = q ≡ p
IsSpeaker p speech = Unit {0}

-- the objects that speak are those of the node
abbrev pub SpeechStands : NodeState → Speech → Type 0
SpeechStands n silent = Unit {0}
SpeechStands n (scope_answers scope participant r) = Unit {0}
SpeechStands n (end_writes e m) = (s : ScopeState) × Among n.scopes s × Among s.ends e
SpeechStands n (part_writes p to m) = HasPart n p × (p.coordinator ≡ Some to)
SpeechStands n (part_registers p) = HasPart n p

-- the participant with this endpoint is spoken to
abbrev pub is_told : Speech → Epr → Bool
is_told (scope_answers scope participant r) here = same_epr participant here
is_told (end_writes e m) here = same_epr e.participant here
is_told speech here = false

pub untold : (speech : Speech) (here : Epr) → is_told speech here ≡ false → said_to speech here ≡ None
untold silent here h = refl
untold (scope_answers scope participant r) here h = if_false (same_epr participant here) (answer_said r) None h
untold (end_writes e m) here h = if_false (same_epr e.participant here) (Some (to_part m)) None h
untold (part_writes p to m) here h = refl
untold (part_registers p) here h = refl

-- ---- what is sent is on these links

-- the mail of a step, where these were its objects before
pub data Spoken (w : Net) (k : ℕ) : Speech → Option Mail → Type 0 where
  says_nothing : Spoken w k silent None
  -- the answer to a notice is on no link
  says_aside : (l : Letter) (n : Notice) (m : Message) → Among w.bag (letter l) → l.message ≡ message.Notice n
      → Spoken w k silent (Some (answer l.number m))
  answers : (l : Letter) (scope : Id) (protocol : Option Protocol) (participant : Epr) (r : Reply)
      → IsSenderOf w k l scope protocol participant → IsHere (node_at w k) scope
      → Spoken w k (scope_answers scope participant r) (answer_to (letter l) r)
  ends : (s : ScopeState) (e : End) (m : Notice) → ScopeAt w k s → Among s.ends e
      → Spoken w k (end_writes e m) (Some (letter (notice_letter e.id e.participant m)))
  parts : (p : Part) (to : Epr) (m : Notice) → PartAt w k p → p.coordinator ≡ Some to
      → Spoken w k (part_writes p to m) (Some (letter (notice_letter p.id to m)))
  registers : (p : Part) → PartAt w k p → Spoken w k (part_registers p) (Some (letter (register_letter (node_at w k) p)))

-- what the mail is to a link
abbrev pub said_on : Net → ℕ → Part → Option Mail → Option link.Message
said_on w j p sends = option_and_then (on_link p (participant_at w j p.id)) sends

-- no notice has the number of a Register
notice_below : (n : Notice) → notice_code n < register_code
notice_below notice.Complete = omega arith
notice_below notice.Close = omega arith
notice_below notice.Cancel = omega arith
notice_below notice.Compensate = omega arith
notice_below notice.Failed = omega arith
notice_below notice.Exited = omega arith
notice_below notice.NotCompleted = omega arith
notice_below notice.Completed = omega arith
notice_below notice.Closed = omega arith
notice_below notice.Canceled = omega arith
notice_below notice.Compensated = omega arith
notice_below notice.Fail = omega arith
notice_below notice.Exit = omega arith
notice_below notice.CannotComplete = omega arith
notice_below notice.GetStatus = omega arith
notice_below (notice.Status name) = omega arith

pub codes_apart : (i j : ℕ) (a b : Id) (n : Notice) → IsIdAt i a → IsIdAt j b
    → (message_number (notice_code n) a).0 ≢ (message_number register_code b).0
codes_apart i j a b n is_a is_b h =
    let small_a : a.0 < 2 ^ 96 = id_small i a is_a in
    let small_b : b.0 < 2 ^ 96 = id_small j b is_b in
    let below : notice_code n < 17 = notice_below n in
    let same : notice_code n * 2 ^ 96 + a.0 ≡ 17 * 2 ^ 96 + b.0 = h in
    omega (arith, small_a, small_b, below, same)

both_none : (b : Bool) → ◌≡◌ {A = Option link.Message} (if b then None else None) None
both_none true = refl
both_none false = refl

module _ (w : Net) (is : IsAddressed w) where
  -- a notice that was sent hasn't the number of a Register
  pub no_register_number : (l : Letter) (n : Notice) (j : ℕ) (b : Id) → MailFits w (letter l) → l.message ≡ message.Notice n → IsIdAt j b
      → l.number.0 ≢ (message_number register_code b).0
  no_register_number l n j b (of_register i q has number to says) told is_b h = absurd cc
  no_register_number l n j b (of_part i q m has number to says) told is_b h =
      codes_apart i j q.id b m (part_id w is i q has) is_b (ap (λ (x : Id). x.0) (sym number) ∙ h)
  no_register_number l n j b (of_end i s e m of among number to says) told is_b h =
      codes_apart i j e.id b m (end_id w is i s e of among) is_b (ap (λ (x : Id). x.0) (sym number) ∙ h)

  -- ---- an answer to a Register

  answer_here : (k : ℕ) (l : Letter) (scope : Id) (protocol : Option Protocol) (participant : Epr) (m : Message)
      → IsSenderOf w k l scope protocol participant → (j : ℕ) (p : Part) → PartAt w j p → (b : Bool)
      → same_epr participant (participant_at w j p.id) ≡ b
      → on_link p (participant_at w j p.id) (answer l.number m) ≡ (if b then answered_by m else None)
  answer_here k l scope protocol participant m from j p has true same =
      let at = endpoints_equal participant (participant_at w j p.id) same in
      let one = one_endpoint w is from.node j from.part p from.has has (sym from.endpoint ∙ at) in
      by_number p (participant_at w j p.id) l.number m
      (from.number ∙ ap (λ (x : Part). message_number register_code x.id) one.1)
  answer_here k l scope protocol participant m from j p has false other =
      off_number p (participant_at w j p.id) l.number m (λ same.
      let one = one_number w is from.node j from.part p from.has has (ap (λ (x : Id). x.0) (sym from.number) ∙ same) in
      let at : participant ≡ participant_at w j p.id = from.endpoint ∙ (λ i. participant_at w (one.0 i) (one.1 i).id) in
      true≢false (sym (subst (λ (x : Epr). same_epr participant x ≡ true) at (endpoint_itself participant)) ∙ other))

  answer_on : (k : ℕ) (l : Letter) (scope : Id) (protocol : Option Protocol) (participant : Epr) (r : Reply)
      → IsSenderOf w k l scope protocol participant → (j : ℕ) (p : Part) → PartAt w j p
      → said_on w j p (answer_to (letter l) r) ≡ said_to (scope_answers scope participant r) (participant_at w j p.id)
  answer_on k l scope protocol participant (reply.Enrolment c) from j p has =
      answer_here k l scope protocol participant (message.Registered c) from j p has _ refl
  answer_on k l scope protocol participant (reply.SoapFault c) from j p has =
      answer_here k l scope protocol participant (message.Fault c) from j p has _ refl
  answer_on k l scope protocol participant r from j p has = sym (both_none (same_epr participant (participant_at w j p.id)))

  -- ---- a letter

  end_letter_on : (k : ℕ) (s : ScopeState) (e : End) (m : Notice) → ScopeAt w k s → Among s.ends e → (j : ℕ) (p : Part) → PartAt w j p
      → on_link p (participant_at w j p.id) (letter (notice_letter e.id e.participant m))
      ≡ said_to (end_writes e m) (participant_at w j p.id)
  end_letter_on k s e m of among j p has =
      by_address p (participant_at w j p.id) (notice_letter e.id e.participant m) (λ same.
      let e_is = end_id w is k s e of among in
      let ids : e.id.0 ≡ p.id.0 = sym (sender_is k (notice_code m) e.id e_is) ∙ same in
      let nodes : j ≡ k = sym (one_node k j e.id p.id e_is (part_id w is j p has) ids) in
      no_end_is_a_part (node_at w k) s e p (fits_here w is k) of among (subst (λ (i : ℕ). PartAt w i p) nodes has) ids)

  -- the letter of a participant, on its own link
  own_letter_on : (k : ℕ) (q : Part) (l : Letter) (code : ℕ) → PartAt w k q → l.number ≡ message_number code q.id → (p : Part) (here : Epr)
      → q.id ≡ p.id → on_link p here (letter l) ≡ said_up l.message
  own_letter_on k q l code has number p here same =
      by_sender p here l (ap sender_of number ∙ sender_is k code q.id (part_id w is k q has) ∙ ap (λ (x : Id). x.0) same)

  -- and on another
  other_letter_on : (k : ℕ) (q : Part) (l : Letter) (code : ℕ) → PartAt w k q → l.number ≡ message_number code q.id
      → (p : Part) (here : Epr) → q.id.0 ≢ p.id.0 → on_link p here (letter l) ≡ (if same_epr l.to here then said_down l.message else None)
  other_letter_on k q l code has number p here other =
      by_address p here l (λ same. other (sym (sender_is k code q.id (part_id w is k q has)) ∙ sym (ap sender_of number) ∙ same))

  no_coordinator : (k : ℕ) (q : Part) (to : Epr) → PartAt w k q → q.coordinator ≡ Some to → (j : ℕ) (p : Part)
      → same_epr to (participant_at w j p.id) ≡ false
  no_coordinator k q to has keeps j p = elim (test_cases (same_epr to (participant_at w j p.id))) [
    | inl same ↦
        let at = coordinator_is w is k q to has keeps in
        absurd (sides_apart at.2.id p.id (node_at w at.0).base (node_at w j).base
        (sym at.5 ∙ endpoints_equal to (participant_at w j p.id) same))
    | inr other ↦ other
  ]

  -- another participant's
  other_part : (k : ℕ) (q : Part) → PartAt w k q → (j : ℕ) (p : Part) → PartAt w j p → ((j ≡ k) → q ≡ p → ⊥) → q.id.0 ≢ p.id.0
  other_part k q of_q j p of_p other same =
      let nodes : k ≡ j = one_node k j q.id p.id (part_id w is k q of_q) (part_id w is j p of_p) same in
      other (sym nodes) (one_part (node_at w j) q p (fits_here w is j) (subst (λ (i : ℕ). PartAt w i q) nodes of_q) of_p same)

  -- ---- what is said on a link whose participant doesn't speak, and on that of the one that does

  pub said_is : (k : ℕ) (speech : Speech) (sends : Option Mail) → Spoken w k speech sends → (j : ℕ) (p : Part) → PartAt w j p
      → ((j ≡ k) → SpeaksBy p speech → ⊥) → said_on w j p sends ≡ said_to speech (participant_at w j p.id)
  said_is k _ _ says_nothing j p has quiet = refl
  said_is k _ _ (says_aside l n m sent told) j p has quiet =
      off_number p (participant_at w j p.id) l.number m
      (no_register_number l n j p.id (is.mail (letter l) sent) told (part_id w is j p has))
  said_is k _ _ (answers l scope protocol participant r from here) j p has quiet = answer_on k l scope protocol participant r from j p has
  said_is k _ _ (ends s e m of among) j p has quiet = end_letter_on k s e m of among j p has
  said_is k _ _ (parts q to m of_q keeps) j p has quiet =
      other_letter_on k q (notice_letter q.id to m) (notice_code m) of_q refl p (participant_at w j p.id)
      (other_part k q of_q j p has quiet)
      ∙ if_false (same_epr to (participant_at w j p.id)) (Some (to_part m)) None (no_coordinator k q to of_q keeps j p)
  said_is k _ _ (registers q of_q) j p has quiet =
      other_letter_on k q (register_letter (node_at w k) q) register_code of_q refl p (participant_at w j p.id)
      (other_part k q of_q j p has quiet)
      ∙ both_none (same_epr q.registration (participant_at w j p.id))

  pub said_by_it : (k : ℕ) (speech : Speech) (sends : Option Mail) → Spoken w k speech sends → (p : Part) → PartAt w k p
      → IsSpeaker p speech → is_told speech (participant_at w k p.id) ≡ false → said_on w k p sends ≡ said_by speech
  said_by_it k _ _ says_nothing p has speaks untold_here = refl
  said_by_it k _ _ (says_aside l n m sent told) p has speaks untold_here =
      off_number p (participant_at w k p.id) l.number m
      (no_register_number l n k p.id (is.mail (letter l) sent) told (part_id w is k p has))
  said_by_it k _ _ (answers l scope protocol participant r from here) p has speaks untold_here =
      answer_on k l scope protocol participant r from k p has
      ∙ untold (scope_answers scope participant r) (participant_at w k p.id) untold_here
  said_by_it k _ _ (ends s e m of among) p has speaks untold_here =
      end_letter_on k s e m of among k p has ∙ untold (end_writes e m) (participant_at w k p.id) untold_here
  said_by_it k _ _ (parts q to m of_q keeps) p has speaks untold_here =
      own_letter_on k q (notice_letter q.id to m) (notice_code m) of_q refl p (participant_at w k p.id) (ap (λ (x : Part). x.id) speaks)
  said_by_it k _ _ (registers q of_q) p has speaks untold_here =
      own_letter_on k q (register_letter (node_at w k) q) register_code of_q refl p (participant_at w k p.id)
      (ap (λ (x : Part). x.id) speaks)

  -- ---- the scope of a participant that is told something is the one that speaks

  scope_small : (k : ℕ) (scope : Id) → IsHere (node_at w k) scope → scope.0 < 2 ^ 128
  scope_small k scope here = let object : scope.0 / 2 ^ 96 ≡ 0 = here.object in omega (arith, object)

  its_node : (l k : ℕ) (a : Id) → IsIdAt l a → IsHere (node_at w k) a → l ≡ k
  its_node l k a is_a here =
      let spelled : a.0 ≡ l * 2 ^ 64 + is_a.counter = is_a.spelled in
      let wide = is_a.is_counter.1 in
      let number = is_a.is_number in
      let node : a.0 / 2 ^ 64 % 2 ^ 32 ≡ k = here.node ∙ (is.nodes k).number in
      omega (arith, spelled, wide, number, node)

  pub told_scope : (k : ℕ) (speech : Speech) (sends : Option Mail) → Spoken w k speech sends → (j : ℕ) (p : Part) (l : ℕ) (r : ScopeState)
      → IsLink w j p l r → is_told speech (participant_at w j p.id) ≡ true → (l ≡ k) × SpeaksAt r speech
  told_scope k _ _ says_nothing j p l r at told = absurd (true≢false (sym told))
  told_scope k _ _ (says_aside x n m sent about) j p l r at told = absurd (true≢false (sym told))
  told_scope k _ _ (answers x scope protocol participant says from here) j p l r at told =
      let same = endpoints_equal participant (participant_at w j p.id) told in
      let one = one_endpoint w is from.node j from.part p from.has at.part (sym from.endpoint ∙ same) in
      let names : registration_at w l r.id ≡ registration_at w k scope =
      sym at.names ∙ ap (λ (y : Part). y.registration) (sym one.1) ∙ from.names in
      let r_is = scope_id w is l r at.scope in
      let ids : r.id.0 ≡ scope.0 = registrations_apart r.id scope (node_at w l).base (node_at w k).base
      (id_has_text l r.id r_is) (scope_small k scope here) names in
      let own_id : r.id ≡ scope = id_by_number r.id scope ids in
      (its_node l k r.id r_is (subst (IsHere (node_at w k)) (sym own_id) here), own_id)
  told_scope k _ _ (ends s e m of among) j p l r at told =
      let same = endpoints_equal e.participant (participant_at w j p.id) told in
      let own_link = (owner w is j k p s e at.part of among same).0 in
      let one = one_registration w is l k r s at.scope of (sym at.names ∙ own_link.names) in
      (one.0, subst (λ (y : ScopeState). Among y.ends e) (sym one.1) among)
  told_scope k _ _ (parts q to m of_q keeps) j p l r at told = absurd (true≢false (sym told))
  told_scope k _ _ (registers q of_q) j p l r at told = absurd (true≢false (sym told))

  -- ---- what each occasion's speech is

  spoken_aside : (k : ℕ) (l : Letter) (n : Notice) (r : Reply) → Among w.bag (letter l) → l.message ≡ message.Notice n
      → Spoken w k silent (answer_to (letter l) r)
  spoken_aside k l n (reply.Enrolment c) sent told = says_aside l n (message.Registered c) sent told
  spoken_aside k l n (reply.SoapFault c) sent told = says_aside l n (message.Fault c) sent told
  spoken_aside k l n r sent told = says_nothing

  answer_spoken : (k : ℕ) (mail : Mail) (i : Input) (r : Reply) → Among w.bag mail → BringsInput (node_at w k) mail i
      → Spoken w k (answer_of i r) (answer_to mail r)
  answer_spoken k (letter l) (input.Register scope protocol participant) r sent leads =
      answers l scope protocol participant r (sender w k l scope protocol participant (is.mail (letter l) sent) leads.1 leads.2) leads.0
  answer_spoken k (letter l) (input.Notice Coordinator id n) r sent leads = spoken_aside k l n r sent leads.2
  answer_spoken k (letter l) (input.Notice Participant id n) r sent leads = spoken_aside k l n r sent leads.2
  answer_spoken k (letter l) i r sent leads = absurd leads
  answer_spoken k (answer number m) (input.Register scope protocol participant) r sent leads =
      absurd (no_register (node_at w k) number m scope protocol participant leads)
  answer_spoken k (answer number m) i r sent leads = subst (Spoken w k silent) (sym (no_answer number m r)) says_nothing

  tick_spoken : (k : ℕ) (speech : Speech) (l : Option Letter) → Sends (node_at w k) speech l → SpeechStands (node_at w k) speech
      → Spoken w k speech (option_map letter l)
  tick_spoken k silent l sends stands = subst (λ (o : Option Letter). Spoken w k silent (option_map letter o)) (sym sends) says_nothing
  tick_spoken k (scope_answers scope participant r) l sends stands = absurd sends
  tick_spoken k (end_writes e m) l sends stands =
      subst (λ (o : Option Letter). Spoken w k (end_writes e m) (option_map letter o)) (sym sends) (ends stands.0 e m stands.1 stands.2)
  tick_spoken k (part_writes p to m) l sends stands =
      subst (λ (o : Option Letter). Spoken w k (part_writes p to m) (option_map letter o)) (sym sends) (parts p to m stands.0 stands.1)
  tick_spoken k (part_registers p) l sends stands =
      subst (λ (o : Option Letter). Spoken w k (part_registers p) (option_map letter o)) (sym sends) (registers p stands)

  own_spoken : (k now : ℕ) (i : Input) (r : Reply) → IsPossible w k (own now i) → Spoken w k (answer_of i r) None
  own_spoken k now (input.Register scope protocol participant) r possible = absurd possible
  own_spoken k now i r possible = says_nothing

-- the speech of an occasion at a node: of an input the answer to it, of a tick its letter
abbrev pub IsSpeechOf : NodeState → Occasion → Speech → Type 0
IsSpeechOf n (own now i) speech = speech ≡ answer_of i (node_step n now i).reply
IsSpeechOf n (delivers now mail i) speech = speech ≡ answer_of i (node_step n now i).reply
IsSpeechOf n (ticks now id) speech = Sends n speech (tick_step n now id).letter
IsSpeechOf n formats speech = speech ≡ silent

pub spoken : (w : Net) (is : IsAddressed w) (k : ℕ) (o : Occasion) (speech : Speech) → IsPossible w k o → IsSpeechOf (node_at w k) o speech
    → SpeechStands (node_at w k) speech → Spoken w k speech (effect (node_at w k) o).sends
spoken w is k (own now i) speech possible its stands =
    subst (λ (x : Speech). Spoken w k x None) (sym its) (own_spoken w is k now i _ possible)
spoken w is k (delivers now mail i) speech possible its stands =
    let r : Reply = (node_step (node_at w k) now i).reply in
    subst (λ (x : Speech). Spoken w k x (answer_to mail r)) (sym its) (answer_spoken w is k mail i r possible.0 possible.1)
spoken w is k (ticks now id) speech possible its stands = tick_spoken w is k speech _ its stands
spoken w is k formats speech possible its stands = subst (λ (x : Speech). Spoken w k x None) (sym its) says_nothing

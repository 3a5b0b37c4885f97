-- A move of a net keeps that each message says where it comes from; for the law that a move keeps a net addressed.
use Rattle.std.proofs.Common.{◌≡◌, ◌≢◌, ◌⊎◌, inl, inr, ℕ, Bool, true, false, List, [], Option, None, Some, refl, sym, ap, ◌∙◌, subst}
use Rattle.std.proofs.Common.{if◌then◌else◌}
use Rattle.std.specs.Option.{option_map, option_to_list}
use Rattle.ba_core.specs.Messages.{notice_code}
use Rattle.ba_core.specs.declared.codes.Code.{Code}
use Rattle.ba_core.specs.declared.codes.Code.TheVariants as code
use Rattle.ba_core.specs.declared.identifiers.Id.{Id}
use Rattle.ba_core.specs.declared.protocols.Protocol.{Protocol}
use Rattle.ba_message.specs.declared.endpoints.Epr.{Epr}
use Rattle.ba_message.specs.declared.messages.Letter.{Letter}
use Rattle.ba_message.specs.declared.messages.Message.{Message}
use Rattle.ba_message.specs.declared.messages.Message.TheVariants as message
use Rattle.ba_scope.specs.Scope.{ScopeState}
use Rattle.ba_scope_ends.specs.declared.parts.Part.{Part}
use Rattle.ba_node_steps.specs.declared.answers.Reply.{Reply}
use Rattle.ba_node_steps.specs.declared.answers.Reply.TheVariants as reply
use Rattle.ba_node_steps.specs.declared.inputs.Input.{Input}
use Rattle.ba_node_steps.specs.declared.inputs.Input.TheVariants as input
use Rattle.ba_node_steps.specs.Addresses.{coordinator_of, message_number, register_code, registration_of}
use Rattle.ba_node_steps.specs.Node.{Among, NodeState}
use Rattle.ba_node_steps.specs.Steps.{node_step}
use Rattle.ba_node_steps.specs.Ticks.{tick_step}
use Rattle.ba_world_runs.specs.Links.{IsLink}
use Rattle.ba_world_runs.specs.Safety.{IsAddressed, MailFits, of_end, of_enrolment, of_fault, of_part, of_register}
use Rattle.ba_world_runs.specs.World.{Mail, Net, Occasion, PartAt, ScopeAt, answer, coordinator_at, delivers, letter, own, participant_at}
use Rattle.ba_world_runs.specs.World.{formats, registration_at, node_at, ticks}
use Rattle.ba_world_runs.specs.WorldSteps.{BringsInput, Moves, answer_to, effect}
use Rattle.ba_world_runs.proofs.Addressed.{base_stays, cause_of, coordinator_stays, endpoint_stays, endpoints_lead, goes, grows, link_goes}
use Rattle.ba_world_runs.proofs.Goes.{SamePart, from_append}
use Rattle.ba_world_runs.proofs.Replies.{IsAnswered, IsOwnLetter, IsOwnLetterIfAny, NoticeReply, RegisterReply, ends, notice_fits, parts}
use Rattle.ba_world_runs.proofs.Replies.{register_fits, registers, tick_fits}
use Rattle.ba_world_runs.proofs.RunLemmas.{moved_fits}
use Rattle.ba_world_runs.proofs.Senders.{IsSenderOf, sender}

some_letter : {A : Type 0} (x y : A) → ◌≡◌ {A = Option A} (Some x) (Some y) → x ≡ y
some_letter x y h = cc

-- the letter of an object says where it comes from
own_letter_fits : (w : Net) (k : ℕ) (l : Letter) → IsOwnLetter (node_at w k) l → MailFits w (letter l)
own_letter_fits w k _ (ends s e m of among) = of_end k s e m of among refl refl refl
own_letter_fits w k _ (parts p to m has is) = of_part k p m has refl is refl
own_letter_fits w k _ (registers p has) = of_register k p has refl refl refl

-- an answer isn't answered
pub no_answer : (number : Id) (x : Message) (r : Reply) → answer_to (answer number x) r ≡ None
no_answer number x (reply.Enrolment c) = refl
no_answer number x (reply.SoapFault c) = refl
no_answer number x r = refl

none_sent : {A : Type 0} (o : Option Mail) (m : Mail) → o ≡ None → o ≡ Some m → A
none_sent o m none sends = absurd (no_none (sym none ∙ sends))
  where
    no_none : ◌≡◌ {A = Option Mail} None (Some m) → ⊥
    no_none h = cc

pub joins : (joined : Bool) (o : Option Mail) (m : Mail) → Among (if joined then option_to_list o else []) m → o ≡ Some m
joins true None m h = absurd h
joins true (Some x) m (inl same) = ap Some same
joins true (Some x) m (inr h) = absurd h
joins false o m h = absurd h

module _ (w w2 : Net) (k : ℕ) (o : Occasion) (joined : Bool) (moves : Moves w w2 k o joined) (is : IsAddressed w) where
  -- ---- what was sent before

  coordinator_goes : (p q : Part) (c : Epr) → SamePart (cause_of o) p q → p.coordinator ≡ Some c → q.coordinator ≡ Some c
  coordinator_goes p q c same keeps = elim same.coordinator [
    | inl stays ↦ stays ∙ keeps
    | inr told ↦ absurd (no_coordinator (sym told.none ∙ keeps))
  ]
    where
      no_coordinator : ◌≡◌ {A = Option Epr} None (Some c) → ⊥
      no_coordinator h = cc

  pub old_mail : (m : Mail) → MailFits w m → MailFits w2 m
  old_mail (letter l) (of_register j p has number to says) =
      let q = (goes w w2 k o joined moves is j).parts_forth p has in
      let carries : message.Register (Some p.protocol) (participant_at w j p.id)
      ≡ message.Register (Some q.0.protocol) (participant_at w2 j q.0.id) =
      λ i. message.Register (Some (sym q.2.protocol i)) (endpoint_stays w w2 k o joined moves is j p q.0 q.2.id i) in
      of_register j q.0 q.1 (number ∙ ap (message_number register_code) (sym q.2.id)) (to ∙ sym q.2.registration) (says ∙ carries)
  old_mail (letter l) (of_part j p n has number to says) =
      let q = (goes w w2 k o joined moves is j).parts_forth p has in
      of_part j q.0 n q.1 (number ∙ ap (message_number (notice_code n)) (sym q.2.id)) (coordinator_goes p q.0 l.to q.2 to) says
  old_mail (letter l) (of_end j s e n of among number to says) =
      let f = (goes w w2 k o joined moves is j).ends_forth s e of among in
      of_end j f.scope f.end n f.here f.among (number ∙ ap (message_number (notice_code n)) (sym f.same.id)) (to ∙ sym f.same.participant)
      says
  old_mail (answer number m) (of_enrolment j p i s e link its numbered says) =
      let q = (goes w w2 k o joined moves is j).parts_forth p link.part in
      let f = (goes w w2 k o joined moves is i).ends_forth s e link.scope its.0 in
      of_enrolment j q.0 i f.scope f.end
      (link_goes w w2 k o joined moves is j i p q.0 s f.scope link.names q.1 q.2.registration f.here f.own)
      (f.among, f.same.participant ∙ its.1 ∙ endpoint_stays w w2 k o joined moves is j p q.0 q.2.id)
      (numbered ∙ ap (message_number register_code) (sym q.2.id))
      (says ∙ ap message.Registered (coordinator_stays w w2 k o joined moves is i e f.end f.same.id))
  old_mail (answer number m) (of_fault l c sent answers says other) =
      of_fault l c ((grows w w2 k o joined moves is).bag (letter l) sent) answers says other

  -- ---- what is sent now

  registered_link : (j : ℕ) (q : Part) (s : ScopeState) (scope : Id) → PartAt w2 j q → ScopeAt w2 k s
      → q.registration ≡ registration_at w k scope → s.id ≡ scope → IsLink w2 j q k s
  registered_link j q s scope has there names who = record {
    part = has;
    scope = there;
    names = names ∙ (λ i. registration_of (sym (base_stays w w2 k o joined moves is k) i) (sym who i));
  }

  same_coordinator : (id : Id) → coordinator_at w k id ≡ coordinator_at w2 k id
  same_coordinator id = λ i. coordinator_of (sym (base_stays w w2 k o joined moves is k) i) id

  -- the participant of a Register is told the endpoint of its end
  enrolment_fits : (l : Letter) (scope : Id) (protocol : Option Protocol) (participant c : Epr)
      → IsSenderOf w k l scope protocol participant → IsAnswered (node_at w k) (node_at w2 k) scope participant c
      → MailFits w2 (answer l.number (message.Registered c))
  enrolment_fits l scope protocol participant c from answered =
      let q = (goes w w2 k o joined moves is from.node).parts_forth from.part from.has in
      let s : ScopeState = answered.at in
      of_enrolment from.node q.0 k s answered.end
      (registered_link from.node q.0 s scope q.1 answered.here (q.2.registration ∙ from.names) answered.who)
      (answered.among, answered.its ∙ from.endpoint ∙ endpoint_stays w w2 k o joined moves is from.node from.part q.0 q.2.id)
      (from.number ∙ ap (message_number register_code) (sym q.2.id))
      (ap message.Registered (answered.says ∙ same_coordinator answered.end.id))

  -- a fault answers the letter that was delivered
  fault_fits : (l : Letter) (c : Code) → Among w.bag (letter l) → c ≢ code.InvalidProtocol → MailFits w2 (answer l.number (message.Fault c))
  fault_fits l c sent other = of_fault l c ((grows w w2 k o joined moves is).bag (letter l) sent) refl refl other

  register_answer : (l : Letter) (scope : Id) (protocol : Option Protocol) (participant : Epr) (m : Mail) (r : Reply)
      → Among w.bag (letter l) → IsSenderOf w k l scope protocol participant
      → RegisterReply (node_at w k) scope participant (node_at w2 k) r → answer_to (letter l) r ≡ Some m → MailFits w2 m
  register_answer l scope protocol participant m (reply.Enrolment c) sent from answered sends =
      subst (MailFits w2) (some_letter _ m sends) (enrolment_fits l scope protocol participant c from answered)
  register_answer l scope protocol participant m (reply.SoapFault c) sent from other sends =
      subst (MailFits w2) (some_letter _ m sends) (fault_fits l c sent other)
  register_answer l scope protocol participant m r sent from answered sends = absurd cc

  notice_answer : (l : Letter) (m : Mail) (r : Reply) → Among w.bag (letter l) → NoticeReply r → answer_to (letter l) r ≡ Some m
      → MailFits w2 m
  notice_answer l m (reply.Enrolment c) sent other sends = absurd other
  notice_answer l m (reply.SoapFault c) sent other sends = subst (MailFits w2) (some_letter _ m sends) (fault_fits l c sent other)
  notice_answer l m r sent other sends = absurd cc

  delivered : (l : Letter) (now : ℕ) (i : Input) → Among w.bag (letter l) → BringsInput (node_at w k) (letter l) i
      → node_at w2 k ≡ (node_step (node_at w k) now i).after → (m : Mail)
      → answer_to (letter l) (node_step (node_at w k) now i).reply ≡ Some m → MailFits w2 m
  delivered l now (input.Register scope (Some known) participant) sent leads state m sends =
      register_answer l scope (Some known) participant m _ sent
      (sender w k l scope (Some known) participant (is.mail (letter l) sent) leads.1 leads.2)
      (subst (λ (a : NodeState). RegisterReply (node_at w k) scope participant a
      (node_step (node_at w k) now (input.Register scope (Some known) participant)).reply) (sym state)
      (register_fits (node_at w k) scope known participant)) sends
  delivered l now (input.Register scope None participant) sent leads state m sends =
      let from = sender w k l scope None participant (is.mail (letter l) sent) leads.1 leads.2 in
      let protocols : ◌≡◌ {A = Option Protocol} None (Some from.part.protocol) = from.protocol_is in
      absurd cc
  delivered l now (input.Notice side id n) sent leads state m sends = notice_answer l m _ sent (notice_fits (node_at w k) side id n) sends
  delivered l now i sent leads state m sends = absurd leads

  ticked_mail : (x : Option Letter) (m : Mail) → IsOwnLetterIfAny (node_at w k) x → option_map letter x ≡ Some m → MailFits w2 m
  ticked_mail None m fits sends = absurd (no_none sends)
    where
      no_none : ◌≡◌ {A = Option Mail} None (Some m) → ⊥
      no_none h = cc
  ticked_mail (Some l) m fits sends =
      subst (MailFits w2) (some_letter (letter l) m sends) (old_mail (letter l) (own_letter_fits w k l fits))

new_mail : (w w2 : Net) (k : ℕ) (o : Occasion) (joined : Bool) → Moves w w2 k o joined → IsAddressed w → (m : Mail)
    → (effect (node_at w k) o).sends ≡ Some m → MailFits w2 m
new_mail w w2 k (own now i) joined moves is m sends = none_sent None m refl sends
new_mail w w2 k formats joined moves is m sends = none_sent None m refl sends
new_mail w w2 k (delivers now (letter l) i) joined moves is m sends =
    delivered w w2 k (delivers now (letter l) i) joined moves is l now i moves.possible.0 moves.possible.1 moves.state m sends
new_mail w w2 k (delivers now (answer number x) i) joined moves is m sends =
    none_sent _ m (no_answer number x (node_step (node_at w k) now i).reply) sends
new_mail w w2 k (ticks now id) joined moves is m sends =
    ticked_mail w w2 k (ticks now id) joined moves is (tick_step (node_at w k) now id).letter m (tick_fits (node_at w k) now id) sends

pub mail_fits : (w w2 : Net) (k : ℕ) (o : Occasion) (joined : Bool) → Moves w w2 k o joined → IsAddressed w → (m : Mail)
    → Among w2.bag m → MailFits w2 m
mail_fits w w2 k o joined moves is m among =
    by_place (from_append w.bag (if joined then option_to_list (effect (node_at w k) o).sends else []) m
    (subst (λ (bag : List Mail). Among bag m) moves.bag among))
  where
    by_place : Among w.bag m ⊎ Among (if joined then option_to_list (effect (node_at w k) o).sends else []) m → MailFits w2 m
    by_place (inl before) = old_mail w w2 k o joined moves is m (is.mail m before)
    by_place (inr now) = new_mail w w2 k o joined moves is m (joins joined (effect (node_at w k) o).sends m now)

pub addressed : (w w2 : Net) (k : ℕ) (o : Occasion) (joined : Bool) → Moves w w2 k o joined → IsAddressed w → IsAddressed w2
addressed w w2 k o joined moves is = record {
  nodes = moved_fits w w2 k o joined moves is.nodes;
  endpoints = endpoints_lead w w2 k o joined moves is;
  mail = mail_fits w w2 k o joined moves is;
}

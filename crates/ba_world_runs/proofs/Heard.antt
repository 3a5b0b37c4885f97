-- What a node may hear of an occasion was sent on the link on which it is heard; for the law that each link moves by its table.
use Rattle.std.proofs.Common.{◌≡◌, ◌≢◌, ℕ, List, Option, None, Some, Contains, nat_eq, refl, sym, ap, ◌∙◌, subst, if◌then◌else◌}
use Rattle.std.specs.List.{filter_map}
use Rattle.std.proofs.lemmas.Bool.{eq-eqb, ne_eqb}
use Rattle.ba_core.specs.Messages.{notice_code}
use Rattle.ba_core.specs.declared.codes.Code.{Code}
use Rattle.ba_core.specs.declared.codes.Code.TheVariants as code
use Rattle.ba_core.specs.declared.identifiers.Id.{Id}
use Rattle.ba_core.specs.declared.notices.Notice.{Notice}
use Rattle.ba_core.specs.declared.protocols.Protocol.{Protocol}
use Rattle.ba_core.specs.declared.protocols.Side.{Side}
use Rattle.ba_core.specs.declared.protocols.Side.TheVariants.{Coordinator, Participant}
use Rattle.ba_link.specs.Link as link
use Rattle.ba_link.specs.Link.{refused_for_good, register, registered, to_end, to_part}
use Rattle.ba_message.specs.Endpoints.{same_epr}
use Rattle.ba_message.specs.declared.endpoints.Epr.{Epr}
use Rattle.ba_message.specs.declared.messages.Letter.{Letter}
use Rattle.ba_message.specs.declared.messages.Message.{Message}
use Rattle.ba_message.specs.declared.messages.Message.TheVariants as message
use Rattle.ba_message.proofs.FitTests.{endpoints_equal}
use Rattle.ba_scope.specs.Scope.{ScopeState}
use Rattle.ba_scope_ends.specs.declared.ends.End.{End}
use Rattle.ba_scope_ends.specs.declared.parts.Part.{Part}
use Rattle.ba_node_steps.specs.Addresses.{message_number, register_code, sender_of}
use Rattle.ba_node_steps.specs.Node.{Among, NodeState}
use Rattle.ba_node_steps.specs.Steps.{refusal_number}
use Rattle.ba_node_steps.specs.declared.inputs.Input.TheVariants as input
use Rattle.ba_node_steps.proofs.Hyphens.{coordinators_apart, sides_apart}
use Rattle.ba_node_steps.proofs.Places.{first_is}
use Rattle.ba_world_runs.specs.Links.{answered_by, on_link, said_down, said_up}
use Rattle.ba_world_runs.specs.Safety.{IsAddressed, MailFits, of_end, of_part, of_register}
use Rattle.ba_world_runs.specs.World.{Mail, Net, Occasion, PartAt, ScopeAt, answer, coordinator_at, delivers, letter, node_at, own}
use Rattle.ba_world_runs.specs.World.{formats, participant_at, registration_at, ticks}
use Rattle.ba_world_runs.specs.WorldSteps.{BringsInput, IsPossible}
use Rattle.ba_world_runs.proofs.Addressed.{cause_of}
use Rattle.ba_world_runs.proofs.Letters.{among_contains, coordinator_is, heard_above, heard_below, sent_here}
use Rattle.ba_world_runs.proofs.Owners.{end_id, id_has_text, one_end_here, one_endpoint, part_id, sender_is}
use Rattle.ba_world_runs.proofs.Senders.{no_register, sender}
use Rattle.ba_world_runs.proofs.Strides.{EndHears, PartHears}
use Rattle.ba_world_runs.proofs.Tests.{if_false, if_true}

-- ---- what a message is to a link

pub by_sender : (p : Part) (here : Epr) (l : Letter) → sender_of l.number ≡ p.id.0 → on_link p here (letter l) ≡ said_up l.message
by_sender p here l same =
    if_true (nat_eq (sender_of l.number) p.id.0) (said_up l.message) (if same_epr l.to here then said_down l.message else None)
    (eq-eqb (sender_of l.number) p.id.0 same)

-- a letter of another object
pub by_address : (p : Part) (here : Epr) (l : Letter) → sender_of l.number ≢ p.id.0
    → on_link p here (letter l) ≡ (if same_epr l.to here then said_down l.message else None)
by_address p here l other =
    if_false (nat_eq (sender_of l.number) p.id.0) (said_up l.message) (if same_epr l.to here then said_down l.message else None)
    (ne_eqb (sender_of l.number) p.id.0 other)

pub by_number : (p : Part) (here : Epr) (number : Id) (m : Message) → number ≡ message_number register_code p.id
    → on_link p here (answer number m) ≡ answered_by m
by_number p here number m same =
    if_true (nat_eq number.0 (message_number register_code p.id).0) (answered_by m) None
    (eq-eqb number.0 (message_number register_code p.id).0 (ap (λ (i : Id). i.0) same))

pub off_number : (p : Part) (here : Epr) (number : Id) (m : Message) → number.0 ≢ (message_number register_code p.id).0
    → on_link p here (answer number m) ≡ None
off_number p here number m other =
    if_false (nat_eq number.0 (message_number register_code p.id).0) (answered_by m) None
    (ne_eqb number.0 (message_number register_code p.id).0 other)

-- what was sent on the link of this participant
abbrev pub sent_on : Net → ℕ → Part → List link.Message
sent_on w j p = filter_map (on_link p (participant_at w j p.id)) w.bag

pub is_sent : (w : Net) (j : ℕ) (p : Part) (m : Mail) (x : link.Message) → Among w.bag m
    → on_link p (participant_at w j p.id) m ≡ Some x → Contains (sent_on w j p) x
is_sent w j p m x sent says =
    among_contains (sent_on w j p) x (sent_here (on_link p (participant_at w j p.id)) w.bag m x sent says)

-- an answer leads nowhere as a notice
pub no_notice : (n : NodeState) (number : Id) (m : Message) (side : Side) (id : Id) (x : Notice)
    → BringsInput n (answer number m) (input.Notice side id x) → ⊥
no_notice n number (message.Registered c) side id x h = h
no_notice n number (message.Fault c) side id x h = h
no_notice n number m side id x h = h

refuses : (c : Code) → refusal_number c ≢ None → answered_by (message.Fault c) ≡ Some refused_for_good
refuses code.CannotRegisterParticipant refused = refl
refuses code.InvalidProtocol refused = refl
refuses c refused = absurd (refused refl)

module _ (w : Net) (is : IsAddressed w) where
  -- ---- at a scope

  register_heard : (k : ℕ) (l : Letter) (scope : Id) (protocol : Option Protocol) (participant : Epr) → Among w.bag (letter l)
      → l.to ≡ registration_at w k scope → l.message ≡ message.Register protocol participant → (j : ℕ) (p : Part) → PartAt w j p
      → participant ≡ participant_at w j p.id → Contains (sent_on w j p) register
  register_heard k l scope protocol participant sent at told j p has its =
      let from = sender w k l scope protocol participant (is.mail (letter l) sent) at told in
      let one = one_endpoint w is from.node j from.part p from.has has (sym from.endpoint ∙ its) in
      let its_number : sender_of l.number ≡ p.id.0 =
      ap sender_of from.number
      ∙ sender_is from.node register_code from.part.id (part_id w is from.node from.part from.has)
      ∙ ap (λ (x : Part). x.id.0) one.1 in
      is_sent w j p (letter l) register sent (by_sender p (participant_at w j p.id) l its_number ∙ ap said_up told)

  -- a notice to an end's endpoint was sent by its participant
  sender_above : (k : ℕ) (s : ScopeState) (e : End) (j : ℕ) (p : Part) (l : Letter) (n : Notice) → ScopeAt w k s → Among s.ends e
      → PartAt w j p → e.participant ≡ participant_at w j p.id → MailFits w (letter l) → l.to ≡ coordinator_at w k e.id
      → l.message ≡ message.Notice n → sender_of l.number ≡ p.id.0
  sender_above k s e j p l n of among has its (of_register i q is_q number to says) at told = absurd cc
  sender_above k s e j p l n of among has its (of_part i q m is_q number to says) at told =
      let keeps = coordinator_is w is i q l.to is_q to in
      let f = keeps.2 in
      let ids : f.id.0 ≡ e.id.0 = coordinators_apart f.id e.id (node_at w keeps.0).base (node_at w k).base
      (id_has_text keeps.0 f.id (end_id w is keeps.0 keeps.1 f keeps.3.scope keeps.4.0))
      (id_has_text k e.id (end_id w is k s e of among)) (sym keeps.5 ∙ at) in
      let same = one_end_here w is keeps.0 k keeps.1 s f e keeps.3.scope of keeps.4.0 among ids in
      let one = one_endpoint w is i j q p is_q has (sym keeps.4.1 ∙ ap (λ (x : End). x.participant) same.2 ∙ its) in
      ap sender_of number ∙ sender_is i (notice_code m) q.id (part_id w is i q is_q) ∙ ap (λ (x : Part). x.id.0) one.1
  sender_above k s e j p l n of among has its (of_end i t f m of_t among_f number to says) at told =
      let known = is.endpoints.ends i t f of_t among_f in
      absurd (sides_apart e.id known.1.id (node_at w k).base (node_at w known.0).base (sym at ∙ to ∙ known.3))

  pub heard_at_scope : (k : ℕ) (o : Occasion) → IsPossible w k o → (j : ℕ) (p : Part) (s : ScopeState) → PartAt w j p → ScopeAt w k s
      → (x : link.Message) → EndHears (cause_of o) s (participant_at w j p.id) x → Contains (sent_on w j p) x
  heard_at_scope k (own now (input.Register scope protocol participant)) possible j p s has of x hears = absurd possible
  heard_at_scope k (own now (input.Notice side id n)) possible j p s has of x hears = absurd possible
  heard_at_scope k (own now i) possible j p s has of x hears = absurd hears
  heard_at_scope k (delivers now (letter l) (input.Register scope protocol participant)) possible j p s has of register hears =
      register_heard k l scope protocol participant possible.0 possible.1.1 possible.1.2 j p has hears.1
  heard_at_scope k (delivers now (letter l) (input.Notice Coordinator id n)) possible j p s has of (to_end m) hears =
      let e = hears.0 in
      let first = first_is (λ (y : End). same_epr y.participant (participant_at w j p.id)) s.ends e hears.1 in
      let its : e.participant ≡ participant_at w j p.id = endpoints_equal e.participant (participant_at w j p.id) first.1 in
      let at : l.to ≡ coordinator_at w k e.id = possible.1.1 ∙ ap (coordinator_at w k) (sym hears.2) in
      let own_number = sender_above k s e j p l n of first.0 has its (is.mail (letter l) possible.0) at possible.1.2 in
      subst (λ (y : Notice). Contains (sent_on w j p) (to_end y)) hears.3
      (heard_above w is j p l n possible.0 own_number possible.1.2)
  heard_at_scope k (delivers now (answer number m) (input.Register scope protocol participant)) possible j p s has of x hears =
      absurd (no_register (node_at w k) number m scope protocol participant possible.1)
  heard_at_scope k (delivers now (answer number m) (input.Notice side id n)) possible j p s has of x hears =
      absurd (no_notice (node_at w k) number m side id n possible.1)
  heard_at_scope k (delivers now mail i) possible j p s has of x hears = absurd hears
  heard_at_scope k (ticks now id) possible j p s has of x hears = absurd hears
  heard_at_scope k formats possible j p s has of x hears = absurd hears

  -- ---- at a participant

  pub heard_at_part : (k : ℕ) (o : Occasion) → IsPossible w k o → (p : Part) → PartAt w k p → (x : link.Message)
      → PartHears (cause_of o) p x → Contains (sent_on w k p) x
  heard_at_part k (own now (input.Enrolled id c)) possible p has x hears = absurd possible
  heard_at_part k (own now (input.RefusedBy id c)) possible p has x hears = absurd possible
  heard_at_part k (own now (input.Notice side id n)) possible p has x hears = absurd possible
  heard_at_part k (own now i) possible p has x hears = absurd hears
  heard_at_part k (delivers now (answer number (message.Registered told)) (input.Enrolled id c)) possible p has registered hears =
      is_sent w k p (answer number (message.Registered told)) registered possible.0
      (by_number p (participant_at w k p.id) number (message.Registered told)
      (possible.1.1 ∙ ap (message_number register_code) (sym hears)))
  heard_at_part k (delivers now (answer number (message.Registered told)) (input.Enrolled id c)) possible p has x hears = absurd hears
  heard_at_part k (delivers now (answer number (message.Fault f)) (input.RefusedBy id c)) possible p has refused_for_good hears =
      is_sent w k p (answer number (message.Fault f)) refused_for_good possible.0
      (by_number p (participant_at w k p.id) number (message.Fault f) (possible.1.1 ∙ ap (message_number register_code) (sym hears.0))
      ∙ ap (λ (y : Code). answered_by (message.Fault y)) possible.1.2 ∙ refuses c hears.1)
  heard_at_part k (delivers now (answer number (message.Fault f)) (input.RefusedBy id c)) possible p has x hears = absurd hears
  heard_at_part k (delivers now (letter l) (input.Notice Participant id n)) possible p has (to_part m) hears =
      subst (λ (y : Notice). Contains (sent_on w k p) (to_part y)) hears.1
      (heard_below w is k p l n has possible.0 (possible.1.1 ∙ ap (participant_at w k) (sym hears.0)) possible.1.2)
  heard_at_part k (delivers now (answer number m) (input.Notice side id n)) possible p has x hears =
      absurd (no_notice (node_at w k) number m side id n possible.1)
  heard_at_part k (delivers now (answer number (message.Fault f)) (input.Enrolled id c)) possible p has x hears = absurd (possible.1)
  heard_at_part k (delivers now (answer number (message.Registered told)) (input.RefusedBy id c)) possible p has x hears =
      absurd (possible.1)
  heard_at_part k (delivers now (answer number m) (input.Enrolled id c)) possible p has x hears = absurd (possible.1)
  heard_at_part k (delivers now (answer number m) (input.RefusedBy id c)) possible p has x hears = absurd (possible.1)
  heard_at_part k (delivers now (letter l) (input.Enrolled id c)) possible p has x hears = absurd (possible.1)
  heard_at_part k (delivers now (letter l) (input.RefusedBy id c)) possible p has x hears = absurd (possible.1)
  heard_at_part k (delivers now mail i) possible p has x hears = absurd hears
  heard_at_part k (ticks now id) possible p has x hears = absurd hears
  heard_at_part k formats possible p has x hears = absurd hears

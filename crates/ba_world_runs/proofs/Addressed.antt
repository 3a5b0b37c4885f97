-- A move of a net keeps that endpoints lead where they should; for the law of that name.
use Rattle.std.proofs.Common.{◌≡◌, inl, inr, ℕ, Bool, Option, None, Some, IfSome, refl, sym, ap, ◌∙◌, subst}
use Rattle.ba_core.specs.declared.identifiers.Id.{Id}
use Rattle.ba_core.specs.declared.protocols.Kind.{Kind}
use Rattle.ba_core.specs.declared.protocols.Protocol.{Protocol}
use Rattle.ba_message.specs.declared.endpoints.Epr.{Epr}
use Rattle.ba_message.specs.declared.messages.Context.{Context}
use Rattle.ba_message.specs.declared.messages.Letter.{Letter}
use Rattle.ba_message.specs.declared.messages.Message.TheVariants as message
use Rattle.ba_scope.specs.Scope.{ScopeState}
use Rattle.ba_scope_ends.specs.declared.ends.End.{End}
use Rattle.ba_scope_ends.specs.declared.parts.Part.{Part}
use Rattle.ba_node_steps.specs.Addresses.{coordinator_of, message_number, participant_of, register_code, registration_of}
use Rattle.ba_node_steps.specs.Fits.{NodeFits}
use Rattle.ba_node_steps.specs.Node.{Among, HasPart, NodeState}
use Rattle.ba_node_steps.specs.declared.inputs.Input.{Input}
use Rattle.ba_node_steps.specs.declared.inputs.Input.TheVariants as input
use Rattle.ba_world_runs.specs.Links.{HasEnd, IsLink}
use Rattle.ba_world_runs.specs.Safety.{EndpointsLead, IsAddressed, KeepsItsEnd, MailFits, of_enrolment, of_fault}
use Rattle.ba_world_runs.specs.World.{Mail, Net, Occasion, PartAt, ScopeAt, answer, coordinator_at, delivers, letter, own, participant_at}
use Rattle.ba_world_runs.specs.World.{formats, registration_at, node_at, ticks}
use Rattle.ba_world_runs.specs.WorldSteps.{IsContextOf, IsPossible, IsRegistration, BringsInput, Moves, effect}
use Rattle.ba_world_runs.proofs.Goes.{EndComes, EndIsNew, Enrols, IsTold, Makes, NodeGoes, SamePart, Tells, itself}
use Rattle.ba_world_runs.proofs.Owners.{one_number}
use Rattle.ba_world_runs.proofs.Recorded.{at_or_other}
use Rattle.ba_world_runs.proofs.RunLemmas.{Grows, moved_grows}
use Rattle.ba_world_runs.proofs.Senders.{no_register, sender}
use Rattle.ba_world_runs.proofs.StepsGo.{input_goes, tick_goes}

-- the input that an occasion brings
abbrev pub cause_of : Occasion → Option Input
cause_of (own now i) = Some i
cause_of (delivers now mail i) = Some i
cause_of (ticks now id) = None
cause_of formats = None

after_goes : (n : NodeState) (o : Occasion) → NodeFits n → NodeGoes (cause_of o) n (effect n o).after
after_goes n (own now i) fits = input_goes n now i fits
after_goes n (delivers now mail i) fits = input_goes n now i fits
after_goes n (ticks now id) fits = tick_goes n now id fits
after_goes n formats fits = itself None n

-- ---- what an occasion can bring, in a net where each message says where it comes from

-- a participant whose registration and endpoint these are
abbrev pub IsSender : Net → ℕ → Id → Protocol → Epr → Type 0
IsSender w k scope protocol endpoint = (j : ℕ) × (p : Part) × PartAt w j p × (p.registration ≡ registration_at w k scope)
    × (endpoint ≡ participant_at w j p.id) × (protocol ≡ p.protocol)

sender_of_letter : (w : Net) (k : ℕ) (l : Letter) (scope : Id) (protocol : Option Protocol) (participant : Epr) (known : Protocol)
    → MailFits w (letter l) → l.to ≡ registration_at w k scope → l.message ≡ message.Register protocol participant
    → protocol ≡ Some known → IsSender w k scope known participant
sender_of_letter w k l scope protocol participant known fits at told is =
    let from = sender w k l scope protocol participant fits at told in
    let protocols : ◌≡◌ {A = Option Protocol} (Some known) (Some from.part.protocol) = sym is ∙ from.protocol_is in
    let one : known ≡ from.part.protocol = cc in
    (from.node, from.part, from.has, from.names, from.endpoint, one)

enrols_sender : (w : Net) (k : ℕ) (o : Occasion) (scope : Id) (protocol : Protocol) (endpoint : Epr) → IsAddressed w → IsPossible w k o
    → Enrols (cause_of o) scope protocol endpoint → IsSender w k scope protocol endpoint
enrols_sender w k (own now (input.Register scope0 protocol0 participant)) scope protocol endpoint is possible enrols = absurd possible
enrols_sender w k (own now i) scope protocol endpoint is possible enrols = absurd enrols
enrols_sender w k (delivers now (letter l) (input.Register scope0 protocol0 participant)) scope protocol endpoint is possible enrols =
    let leads = possible.1 in
    let found = sender_of_letter w k l scope0 protocol0 participant protocol (is.mail (letter l) possible.0) leads.1 leads.2 enrols.1 in (
      found.0,
      found.1,
      found.2,
      found.3 ∙ ap (λ (i : Id). registration_at w k i) (sym enrols.0),
      enrols.2 ∙ found.4,
      found.5,
    )
enrols_sender w k (delivers now (answer number m) (input.Register scope0 protocol0 participant)) scope protocol endpoint is possible
    enrols =
    absurd (no_register (node_at w k) number m scope0 protocol0 participant possible.1)
enrols_sender w k (delivers now mail i) scope protocol endpoint is possible enrols = absurd enrols
enrols_sender w k (ticks now id) scope protocol endpoint is possible enrols = absurd enrols
enrols_sender w k formats scope protocol endpoint is possible enrols = absurd enrols

pub no_create : (n : NodeState) (m : Mail) (expires : Option ℕ) (current : Option Context) (kind : Option Kind) (protocol : Protocol)
    → BringsInput n m (input.Create expires current kind protocol) → ⊥
no_create n (letter l) expires current kind protocol h = h
no_create n (answer number (message.Registered c)) expires current kind protocol h = h
no_create n (answer number (message.Fault c)) expires current kind protocol h = h
no_create n (answer number m) expires current kind protocol h = h

pub no_join : (n : NodeState) (m : Mail) (protocol : Protocol) (registration : Epr)
    → BringsInput n m (input.Join protocol registration) → ⊥
no_join n (letter l) protocol registration h = h
no_join n (answer number (message.Registered c)) protocol registration h = h
no_join n (answer number (message.Fault c)) protocol registration h = h
no_join n (answer number m) protocol registration h = h

-- the registration that an input of the node's own hands in
pub makes_registration : (w : Net) (k : ℕ) (o : Occasion) (r : Epr) → IsPossible w k o → Makes (cause_of o) r → IsRegistration w r
makes_registration w k (own now (input.Create expires current kind protocol)) r possible makes =
    let context : IsContextOf w makes.0 = subst (λ (c : Option Context). IfSome c (IsContextOf w)) makes.1 possible in
    (context.0, context.1, context.2, makes.2 ∙ context.3)
makes_registration w k (own now (input.Join protocol registration)) r possible makes =
    (possible.0, possible.1, possible.2, makes ∙ possible.3)
makes_registration w k (own now i) r possible makes = absurd makes
makes_registration w k (delivers now mail (input.Create expires current kind protocol)) r possible makes =
    absurd (no_create (node_at w k) mail expires current kind protocol possible.1)
makes_registration w k (delivers now mail (input.Join protocol registration)) r possible makes =
    absurd (no_join (node_at w k) mail protocol registration possible.1)
makes_registration w k (delivers now mail i) r possible makes = absurd makes
makes_registration w k (ticks now id) r possible makes = absurd makes
makes_registration w k formats r possible makes = absurd makes

-- a participant is told the endpoint of its own end
abbrev pub IsItsEnd : Net → ℕ → Part → Epr → Type 0
IsItsEnd w j p coordinator =
    (k : ℕ) × (s : ScopeState) × (e : End) × IsLink w j p k s × HasEnd w j p s e × (coordinator ≡ coordinator_at w k e.id)

enrolled_end : (w : Net) (k : ℕ) (p : Part) (number id : Id) (c : Epr) → IsAddressed w → PartAt w k p
    → MailFits w (answer number (message.Registered c)) → number ≡ message_number register_code id → p.id ≡ id → IsItsEnd w k p c
enrolled_end w k p number id c is has (of_enrolment j q i s e link its its_id says) named same =
    let numbers : message_number register_code q.id ≡ message_number register_code p.id =
    sym its_id ∙ named ∙ ap (message_number register_code) (sym same) in
    let one = one_number w is j k q p link.part has (ap (λ (x : Id). x.0) numbers) in
    let here : IsLink w k p i s = subst (λ (x : Part). IsLink w k x i s) one.1 (subst (λ (n : ℕ). IsLink w n q i s) one.0 link) in
    let end : HasEnd w k p s e = subst (λ (x : Part). HasEnd w k x s e) one.1 (subst (λ (n : ℕ). HasEnd w n q s e) one.0 its) in
    let told : c ≡ coordinator_at w i e.id = cc in
    (i, s, e, here, end, told)
enrolled_end w k p number id c is has (of_fault l d sent answers says other) named same = absurd cc

tells_end : (w : Net) (k : ℕ) (o : Occasion) (p : Part) (c : Epr) → IsAddressed w → IsPossible w k o → PartAt w k p
    → Tells (cause_of o) p.id c → IsItsEnd w k p c
tells_end w k (own now (input.Enrolled id c0)) p c is possible has tells = absurd possible
tells_end w k (own now i) p c is possible has tells = absurd tells
tells_end w k (delivers now (answer number (message.Registered c1)) (input.Enrolled id c0)) p c is possible has tells =
    let leads = possible.1 in
    let end = enrolled_end w k p number id c1 is has (is.mail (answer number (message.Registered c1)) possible.0) leads.1 tells.0 in
    subst (IsItsEnd w k p) (leads.2 ∙ sym tells.1) end
tells_end w k (delivers now (answer number (message.Fault f)) (input.Enrolled id c0)) p c is possible has tells = absurd (possible.1)
tells_end w k (delivers now (answer number m) (input.Enrolled id c0)) p c is possible has tells = absurd (possible.1)
tells_end w k (delivers now (letter l) (input.Enrolled id c0)) p c is possible has tells = absurd (possible.1)
tells_end w k (delivers now mail i) p c is possible has tells = absurd tells
tells_end w k (ticks now id) p c is possible has tells = absurd tells
tells_end w k formats p c is possible has tells = absurd tells

-- ---- a move

module _ (w w2 : Net) (k : ℕ) (o : Occasion) (joined : Bool) (moves : Moves w w2 k o joined) (is : IsAddressed w) where
  pub grows : Grows w w2
  grows = moved_grows w w2 k o joined moves is.nodes

  pub goes : (j : ℕ) → NodeGoes (cause_of o) (node_at w j) (node_at w2 j)
  goes = at_or_other (λ j. NodeGoes (cause_of o) (node_at w j) (node_at w2 j)) k
      (subst (NodeGoes (cause_of o) (node_at w k)) (sym moves.state) (after_goes (node_at w k) o (is.nodes k).fits))
      (λ j other. subst (NodeGoes (cause_of o) (node_at w j)) (sym (moves.others j other)) (itself (cause_of o) (node_at w j)))

  -- a node whose objects another cause couldn't have changed: what an input brings comes to its node alone
  pub base_stays : (j : ℕ) → (node_at w2 j).base ≡ (node_at w j).base
  base_stays j = (grows.nodes j).base

  pub endpoint_stays : (j : ℕ) (p q : Part) → q.id ≡ p.id → participant_at w j p.id ≡ participant_at w2 j q.id
  endpoint_stays j p q same = λ i. participant_of (sym (base_stays j) i) (sym same i)

  pub registration_stays : (j : ℕ) (s t : ScopeState) → t.id ≡ s.id → registration_at w j s.id ≡ registration_at w2 j t.id
  registration_stays j s t same = λ i. registration_of (sym (base_stays j) i) (sym same i)

  pub coordinator_stays : (j : ℕ) (e f : End) → f.id ≡ e.id → coordinator_at w j e.id ≡ coordinator_at w2 j f.id
  coordinator_stays j e f same = λ i. coordinator_of (sym (base_stays j) i) (sym same i)

  pub link_goes : (j l : ℕ) (p q : Part) (s t : ScopeState) → p.registration ≡ registration_at w l s.id → PartAt w2 j q
      → q.registration ≡ p.registration → ScopeAt w2 l t → t.id ≡ s.id → IsLink w2 j q l t
  link_goes j l p q s t names has same there its_id =
      record { part = has; scope = there; names = same ∙ names ∙ registration_stays l s t its_id }

  -- the end of a participant is still its end
  pub its_end_goes : (j : ℕ) (p q : Part) (c : Epr) → PartAt w2 j q → q.id ≡ p.id → q.registration ≡ p.registration
      → IsItsEnd w j p c → IsItsEnd w2 j q c
  its_end_goes j p q c has its_id same end =
      let s = end.1 in
      let e = end.2 in
      let f = (goes end.0).ends_forth s e end.3.scope end.4.0 in (
        end.0,
        f.scope,
        f.end,
        link_goes j end.0 p q s f.scope end.3.names has same f.here f.own,
        (f.among, f.same.participant ∙ end.4.1 ∙ endpoint_stays j p q its_id),
        end.5 ∙ coordinator_stays end.0 e f.end f.same.id,
      )

  abbrev pub HasOwner : ℕ → ScopeState → End → Type 0
  HasOwner l t f =
      (j : ℕ) × (q : Part) × IsLink w2 j q l t × (f.participant ≡ participant_at w2 j q.id) × (f.protocol ≡ q.protocol)

  old_owner : (l : ℕ) (t : ScopeState) (f : End) → ScopeAt w2 l t → EndComes (node_at w l) t f → HasOwner l t f
  old_owner l t f there comes =
      let known = is.endpoints.ends l comes.scope comes.end comes.here comes.among in
      let j = known.0 in
      let p = known.1 in
      let q = (goes j).parts_forth p known.2.part in (
        j,
        q.0,
        link_goes j l p q.0 comes.scope t known.2.names q.1 q.2.registration there comes.own,
        comes.same.participant ∙ known.3 ∙ endpoint_stays j p q.0 q.2.id,
        comes.same.protocol ∙ known.4 ∙ sym q.2.protocol,
      )

  new_owner : (t : ScopeState) (f : End) → ScopeAt w2 k t → EndIsNew (cause_of o) (node_at w k) t f → HasOwner k t f
  new_owner t f there new =
      let sender = enrols_sender w k o new.scope.id f.protocol f.participant is moves.possible new.enrols in
      let j = sender.0 in
      let p = sender.1 in
      let q = (goes j).parts_forth p sender.2 in (
        j,
        q.0,
        link_goes j k p q.0 new.scope t sender.3 q.1 q.2.registration there new.own,
        sender.4 ∙ endpoint_stays j p q.0 q.2.id,
        sender.5 ∙ sym q.2.protocol,
      )

  pub owners : (l : ℕ) (t : ScopeState) (f : End) → ScopeAt w2 l t → Among t.ends f → HasOwner l t f
  owners = at_or_other (λ l. (t : ScopeState) (f : End) → ScopeAt w2 l t → Among t.ends f → HasOwner l t f) k
      (λ t f there among. elim ((goes k).ends_back t f there among) [
        | inl comes ↦ old_owner k t f there comes
        | inr new ↦ new_owner t f there new
      ])
      (λ l other t f there among.
      let same = moves.others l other in
      old_owner l t f there (record {
        scope = t;
        end = f;
        here = subst (λ (n : NodeState). Among n.scopes t) same there;
        among = among;
        own = refl;
        same = record { id = refl; participant = refl; protocol = refl };
      }))

  abbrev pub HasScope : ℕ → Part → Type 0
  HasScope j q = (l : ℕ) × (t : ScopeState) × IsLink w2 j q l t

  old_scope : (j : ℕ) (p q : Part) → PartAt w j p → PartAt w2 j q → q.registration ≡ p.registration → HasScope j q
  old_scope j p q was has same =
      let at = is.endpoints.parts j p was in
      let t = (grows.nodes at.0).scopes at.1 at.2.scope in
      (at.0, t.0, link_goes j at.0 p q at.1 t.0 at.2.names has same t.1 t.2)

  new_scope : (q : Part) → PartAt w2 k q → Makes (cause_of o) q.registration → HasScope k q
  new_scope q has makes =
      let at = makes_registration w k o q.registration moves.possible makes in
      let t = (grows.nodes at.0).scopes at.1 at.2 in
      (at.0, t.0, record { part = has; scope = t.1; names = at.3 ∙ registration_stays at.0 at.1 t.0 t.2 })

  pub scopes_of : (j : ℕ) (q : Part) → PartAt w2 j q → HasScope j q
  scopes_of = at_or_other (λ j. (q : Part) → PartAt w2 j q → HasScope j q) k
      (λ q has. elim ((goes k).parts_back q has) [
        | inl p ↦ old_scope k p.0 q p.1 has p.2.registration
        | inr new ↦ new_scope q has new.0
      ])
      (λ j other q has. old_scope j q q (subst (λ (n : NodeState). HasPart n q) (moves.others j other) has) has refl)

  -- where it keeps a coordinator
  keeps_end : (j : ℕ) (q : Part) → ((c : Epr) → q.coordinator ≡ Some c → IsItsEnd w2 j q c) → KeepsItsEnd w2 j q
  keeps_end j q each = by_coordinator q.coordinator refl
    where
      by_coordinator : (x : Option Epr) → q.coordinator ≡ x → IfSome x (IsItsEnd w2 j q)
      by_coordinator None none = tt
      by_coordinator (Some c) same = each c same

  old_coordinator : (j : ℕ) (p q : Part) (c : Epr) → PartAt w j p → PartAt w2 j q → q.id ≡ p.id → q.registration ≡ p.registration
      → p.coordinator ≡ Some c → IsItsEnd w2 j q c
  old_coordinator j p q c was has its_id same keeps =
      its_end_goes j p q c has its_id same (subst (λ (x : Option Epr). IfSome x (IsItsEnd w j p)) keeps (is.endpoints.coordinators j p was))

  by_part : (p q : Part) → PartAt w k p → PartAt w2 k q → SamePart (cause_of o) p q → (c : Epr) → q.coordinator ≡ Some c → IsItsEnd w2 k q c
  by_part p q was has same c keeps = elim same.coordinator [
    | inl stays ↦ old_coordinator k p q c was has same.id same.registration (sym stays ∙ keeps)
    | inr told ↦ new_coordinator told
  ]
    where
      new_coordinator : IsTold (cause_of o) p q → IsItsEnd w2 k q c
      new_coordinator told =
          let both : ◌≡◌ {A = Option Epr} (Some told.coordinator) (Some c) = sym told.keeps ∙ keeps in
          let one : told.coordinator ≡ c = cc in
          subst (IsItsEnd w2 k q) one (its_end_goes k p q told.coordinator has same.id same.registration
          (tells_end w k o p told.coordinator is moves.possible was told.tells))

  no_coordinator : (q : Part) (c : Epr) → q.coordinator ≡ None → q.coordinator ≡ Some c → ⊥
  no_coordinator q c none keeps = let both : ◌≡◌ {A = Option Epr} None (Some c) = sym none ∙ keeps in absurd cc

  pub coordinators : (j : ℕ) (q : Part) → PartAt w2 j q → KeepsItsEnd w2 j q
  coordinators = at_or_other (λ j. (q : Part) → PartAt w2 j q → KeepsItsEnd w2 j q) k
      (λ q has. keeps_end k q (λ c keeps. elim ((goes k).parts_back q has) [
        | inl p ↦ by_part p.0 q p.1 has p.2 c keeps
        | inr new ↦ absurd (no_coordinator q c new.1 keeps)
      ]))
      (λ j other q has. keeps_end j q (λ c keeps.
      old_coordinator j q q c (subst (λ (n : NodeState). HasPart n q) (moves.others j other) has) has refl refl keeps))

  pub endpoints_lead : EndpointsLead w2
  endpoints_lead = record { ends = owners; parts = scopes_of; coordinators = coordinators }

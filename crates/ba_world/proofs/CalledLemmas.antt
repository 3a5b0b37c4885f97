-- What an event makes of what is played, by what its parts promise: a scope that is named, and a delivery. For the clauses of `handed`,
-- `create`, `join` and `deliver`.
use Rattle.std.proofs.Common.{◌≡◌, ℕ, true, false, Option, None, Some, Result, Ok, Err, is_some, refl, sym, ◌∙◌, subst}
use Rattle.std.specs.Option.{option_map}
use Rattle.ba_core.specs.declared.identifiers.Id.{Id}
use Rattle.ba_core.specs.declared.protocols.Kind.{Kind}
use Rattle.ba_core.specs.declared.protocols.Protocol.{Protocol}
use Rattle.ba_world_events.specs.declared.outcomes.Outcome.{Outcome}
use Rattle.ba_world_events.specs.declared.outcomes.Outcome.TheVariants as outcome
use Rattle.ba_message.specs.declared.messages.Context.{Context}
use Rattle.ba_world_places.specs.Calls.{IsOfInput}
use Rattle.ba_world_places.specs.declared.calls.Answer.{Answer}
use Rattle.ba_world_places.specs.declared.calls.Answer.TheVariants as answer
use Rattle.ba_world_places.specs.declared.places.Place.{Place}
use Rattle.ba_world_play.specs.Plays.{WorldOnDisks, context_handed, create_at, deliver, delivery_by_input, has_node, join_at, lost_effect}
use Rattle.ba_world_play.specs.Plays.{mail_at, moment, own_at, scope_named}
use Rattle.ba_world_runs.specs.World.{Occasion, delivers}
use Rattle.ba_scope.specs.Scope.{ScopeState}
use Rattle.ba_node_steps.specs.declared.answers.Reply.{Reply}
use Rattle.ba_node_steps.specs.declared.inputs.Input.{Input}
use Rattle.ba_node_steps.specs.declared.inputs.Input.TheVariants as input
use Rattle.ba_world.proofs.DeliveryLemmas.{arrive_fails, delivery_taken, delivery_untaken, due_there, here_plays, nowhere_plays}
use Rattle.ba_world.proofs.EventLemmas.{starved}
use Rattle.ba_world.proofs.NameLemmas.{create_under, handed_fails}
use Rattle.ba_world.proofs.PlaceLemmas.{has_there, none_there}
use Rattle.ba_world.specs.Worlds.{IsSetAs, StageValue}
use Rattle.ba_world.specs.declared.faults.StepFault.{StepFault}
use Rattle.ba_world.specs.declared.faults.StepFault.TheVariants as fault
use Rattle.ba_world.specs.declared.messages.Delivery.{Delivery}
use Rattle.ba_world.specs.declared.outcomes.Makes.{Makes}
use Rattle.ba_world.specs.inside.Stages.{AreMade, Arrives, IsArrival, IsCalled, IsContextNamed, IsKindNamed, IsNotCalled, IsReplyAt}
use Rattle.ba_world.specs.inside.Stages.{IsReplySent, StageIsPlayedAs, lost_at, node_call_at, place_at}

-- ---- a scope that is named

pub context_named : (p : WorldOnDisks) (id : Id) (kind : Kind) (context : Context) → IsKindNamed (scope_named p id) (Ok kind)
    → ((s : ScopeState) → s.kind ≡ kind → context ≡ context_handed p id s) → IsContextNamed p id (Ok context)
context_named p id kind context named handed = by (scope_named p id) refl named
  where
    by : (o : Option ScopeState) → scope_named p id ≡ o → IsKindNamed o (Ok kind) → IsContextNamed p id (Ok context)
    by None is h = absurd h
    by (Some s) is h = (s, is, handed s (sym h))

module _ (v : StageValue) (p : WorldOnDisks) (id : Id) (k : ℕ) (why : StepFault) (result : Result Outcome StepFault) (is : result ≡ Err why)
    (h : IsContextNamed p id (Err why)) where
  pub join_fails : (protocol : Protocol) → StageIsPlayedAs (join_at p k protocol id) v v result
  join_fails protocol =
      subst (λ (r : Result Outcome StepFault). StageIsPlayedAs (join_at p k protocol id) v v r) (sym is)
      (handed_fails v p id (λ s. own_at p k (input.Join protocol (context_handed p id s).registration)) why h)

  pub create_fails : (kind : Kind) (expires : Option ℕ) (up : Protocol) (under : Option (Id × Protocol)) → under ≡ Some (id, up)
      → StageIsPlayedAs (create_at p k kind expires under) v v result
  create_fails kind expires up under named =
      subst (λ (u : Option (Id × Protocol)). StageIsPlayedAs (create_at p k kind expires u) v v result) (sym named)
      (subst (λ (r : Result Outcome StepFault). StageIsPlayedAs (create_at p k kind expires (Some (id, up))) v v r) (sym is)
      (handed_fails v p id (λ s. own_at p k (input.Create expires (Some (context_handed p id s)) (Some kind) up)) why h))

pub create_named : (old new : StageValue) (p : WorldOnDisks) (id : Id) (k : ℕ) (context : Context) (result : Result Outcome StepFault)
    → IsContextNamed p id (Ok context) → (kind : Kind) (expires : Option ℕ) (up : Protocol) (under : Option (Id × Protocol))
    → under ≡ Some (id, up) → StageIsPlayedAs (own_at p k (input.Create expires (Some context) (Some kind) up)) old new result
    → StageIsPlayedAs (create_at p k kind expires under) old new result
create_named old new p id k context result named kind expires up under is h =
    subst (λ (u : Option (Id × Protocol)). StageIsPlayedAs (create_at p k kind expires u) old new result) (sym is)
    (create_under old new p id k context result named kind expires up h)

-- ---- whether the node is there

module _ (v : StageValue) (p : WorldOnDisks) (set : IsSetAs v p) (k : ℕ) {B : Type 0} (see : B → Place) where
  pub had_there : (found : Option B) → is_some found ≡ true → option_map see found ≡ place_at v k → has_node p k ≡ true
  had_there (Some b) some is = has_there v p set k (see b) (sym is)
  had_there None some is = absurd cc

  pub had_not : (found : Option B) → is_some found ≡ false → option_map see found ≡ place_at v k → has_node p k ≡ false
  had_not None none is = none_there v p set k (sym is)
  had_not (Some b) none is = absurd cc

-- ---- a delivery

module _ (old new : StageValue) (p : WorldOnDisks) (number : ℕ) where
  pub arrive_exits : (why : StepFault) (result : Result Outcome StepFault) → result ≡ Err why → IsArrival p number (Err why)
      → StageIsPlayedAs (deliver p (mail_at p.world.bag number)) old old result
  arrive_exits why result is h =
      subst (λ (r : Result Outcome StepFault). StageIsPlayedAs (deliver p (mail_at p.world.bag number)) old old r) (sym is)
      (arrive_fails old p number why h)

  pub delivery_starved : (result : Result Outcome StepFault) → result ≡ Err fault.Memory
      → StageIsPlayedAs (deliver p (mail_at p.world.bag number)) old new result
  delivery_starved result is =
      subst (λ (r : Result Outcome StepFault). StageIsPlayedAs (deliver p (mail_at p.world.bag number)) old new r) (sym is)
      (starved (deliver p (mail_at p.world.bag number)) old new)

  -- an input failed at a node that is there
  pub not_delivered : IsSetAs old p → (k : ℕ) → has_node p k ≡ true → (why : StepFault) (result : Result Outcome StepFault)
      → result ≡ Err why → IsNotCalled old new k why → StageIsPlayedAs (deliver p (mail_at p.world.bag number)) old new result
  not_delivered set k has fault.Memory result is h = delivery_starved result is
  not_delivered set k has (fault.Missing why) result is h = let not : has_node p k ≡ false = none_there old p set k h.none in absurd cc

  module _ (to : Delivery) (is : Arrives p number to) (k : ℕ) (same : to.node ≡ k) where
    pub deliver_nowhere : IsSetAs old p → has_node p k ≡ false
        → StageIsPlayedAs (deliver p (mail_at p.world.bag number)) old old (Ok outcome.Done)
    deliver_nowhere set has = nowhere_plays p number to is old set (subst (λ (j : ℕ). has_node p j ≡ false) (sym same) has)

    here : (o : Option Input) → to.input ≡ o → has_node p k ≡ true → (result : Result Outcome StepFault)
        → StageIsPlayedAs (Ok (delivery_by_input p is.sent k o)) old new result
        → StageIsPlayedAs (deliver p (mail_at p.world.bag number)) old new result
    here o leads has result h =
        here_plays p number to is old new result (subst (λ (j : ℕ). has_node p j ≡ true) (sym same) has)
        (subst (λ (x : Option Input). StageIsPlayedAs (Ok (delivery_by_input p is.sent to.node x)) old new result) (sym leads)
        (subst (λ (j : ℕ). StageIsPlayedAs (Ok (delivery_by_input p is.sent j o)) old new result) (sym same) h))

    pub deliver_lost : to.input ≡ None → has_node p k ≡ true → (result : Result Outcome StepFault)
        → StageIsPlayedAs (lost_at k p) old new result → StageIsPlayedAs (deliver p (mail_at p.world.bag number)) old new result
    deliver_lost none has result h = here None none has result (due_there p k (lost_effect p k) old new result has h)

    module _ (set : IsSetAs old p) (i : Input) (leads : to.input ≡ Some i) where
      pub deliver_untaken : (given : Answer Reply)
          → ((o : Occasion) → IsOfInput (moment p) i o → IsCalled (IsReplyAt p k i) old new p k (node_call_at p k o) given)
          → (shown : Outcome) → given ≡ answer.Untaken shown
          → StageIsPlayedAs (deliver p (mail_at p.world.bag number)) old new (Ok shown)
      deliver_untaken given calls shown untaken =
          let o : Occasion = delivers (moment p) is.sent i in
          let called : IsCalled (IsReplyAt p k i) old new p k (node_call_at p k o) (answer.Untaken shown) =
          subst (λ (g : Answer Reply). IsCalled (IsReplyAt p k i) old new p k (node_call_at p k o) g) untaken (calls o (refl, refl))
          in
          here (Some i) leads called.has (Ok shown) (delivery_untaken old new p set k is.sent i shown called)

      pub deliver_taken : (mid : StageValue) (given : Answer Reply)
          → ((o : Occasion) → IsOfInput (moment p) i o → IsCalled (IsReplyAt p k i) old mid p k (node_call_at p k o) given)
          → (r : Reply) → given ≡ answer.Taken r → (makes : Makes) → AreMade p k i makes → (answered : Option Id) → to.answers ≡ answered
          → (shown : Outcome) → IsReplySent mid new answered r makes shown
          → StageIsPlayedAs (deliver p (mail_at p.world.bag number)) old new (Ok shown)
      deliver_taken mid given calls r taken makes made answered answers shown sends =
          let o : Occasion = delivers (moment p) is.sent i in
          let called : IsCalled (IsReplyAt p k i) old mid p k (node_call_at p k o) (answer.Taken r) =
          subst (λ (g : Answer Reply). IsCalled (IsReplyAt p k i) old mid p k (node_call_at p k o) g) taken (calls o (refl, refl))
          in
          here (Some i) leads called.has (Ok shown)
          (delivery_taken old mid p set k is.sent i new makes shown called.set called.bag r called made
          (subst (λ (a : Option Id). IsReplySent mid new a r makes shown) (sym answers ∙ is.answers) sends))

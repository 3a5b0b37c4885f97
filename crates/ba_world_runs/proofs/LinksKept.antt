-- Each link of a net moves by its table or begins, and fits afterwards; for the laws that each link moves by its table and that every
-- step is safe.
use Rattle.std.proofs.Common.{◌≡◌, ◌≢◌, ◌⊎◌, inl, inr, ℕ, ◌+◌, ◌*◌, ◌^◌, ◌≤◌, ◌<◌, Bool, [], ◌++◌, Option, None, Some, arith, refl, sym, ap}
use Rattle.std.proofs.Common.{◌∙◌, subst}
use Rattle.std.specs.Option.{option_and_then, option_map}
use Rattle.ba_core.specs.Numbers.{counter_of}
use Rattle.ba_core.specs.declared.identifiers.Id.{Id}
use Rattle.ba_core.specs.declared.protocols.Protocol.{Protocol}
use Rattle.ba_link.specs.Fits.{LinkFits}
use Rattle.ba_link.specs.Link.{Link}
use Rattle.ba_link.proofs.Begins.{registering_link_fits}
use Rattle.ba_link.proofs.Kept.{links_stay_possible}
use Rattle.ba_message.specs.Endpoints.{same_epr}
use Rattle.ba_message.specs.declared.endpoints.Epr.{Epr}
use Rattle.ba_message.proofs.FitTests.{endpoints_equal}
use Rattle.ba_scope_ends.specs.Ends.{end_of}
use Rattle.ba_scope.specs.Scope.{ScopeState, takes_no_more}
use Rattle.ba_scope_ends.specs.declared.ends.End.{End}
use Rattle.ba_scope_ends.specs.declared.parts.Part.{Part}
use Rattle.ba_node_steps.specs.Addresses.{participant_of}
use Rattle.ba_node_steps.specs.Fits.{IsIdAt}
use Rattle.ba_node_steps.specs.Node.{Among, NodeState, counter, ids, last, next_id}
use Rattle.ba_node_steps.specs.declared.inputs.Input.{Input}
use Rattle.ba_node_steps.specs.declared.inputs.Input.TheVariants as input
use Rattle.ba_node_steps.proofs.Hyphens.{registrations_apart}
use Rattle.ba_node_steps.proofs.Members.{among_left}
use Rattle.ba_node_steps.proofs.Objects.{end_owned, ids_in_scopes, in_scopes, lone_ids}
use Rattle.ba_node_steps.proofs.Places.{first_is}
use Rattle.ba_world_runs.specs.Links.{Begins, IsLink, IsNewAt, LinksStay, LinksStep, StepsFrom, StepsOrStays, link_in, side_of}
use Rattle.ba_world_runs.specs.Safety.{IsAddressed}
use Rattle.ba_world_runs.specs.Trees.{GenerationsFit}
use Rattle.ba_world_runs.specs.World.{formats, Net, Occasion, PartAt, ScopeAt, delivers, node_at, own, participant_at, registration_at, ticks}
use Rattle.ba_world_runs.specs.WorldSteps.{IsPossible, IsRegistration, Moves, effect}
use Rattle.ba_world_runs.proofs.Addressed.{base_stays, cause_of, goes, link_goes, no_create, no_join}
use Rattle.ba_world_runs.proofs.Goes.{Enrols, Makes}
use Rattle.ba_world_runs.proofs.Heard.{sent_on}
use Rattle.ba_world_runs.proofs.LinksBegin.{at_most, new_sent, other_endpoint, part_among}
use Rattle.ba_world_runs.proofs.LinksGo.{PartWas, old_link, part_was, same_registration, scope_was, sends, sent_after}
use Rattle.ba_world_runs.proofs.MailLemmas.{addressed}
use Rattle.ba_world_runs.proofs.Owners.{end_id, fits_here, id_has_text, one_node, part_id, scope_id}
use Rattle.ba_world_runs.proofs.RunLemmas.{moved_grows}
use Rattle.ba_world_runs.proofs.Said.{IsSpeechOf, Spoken, said_on, spoken}
use Rattle.ba_world_runs.proofs.StrideLemmas.{none_joins}
use Rattle.ba_world_runs.proofs.Strides.{Change, Speech}
use Rattle.ba_world_runs.proofs.Traces.{IsNewPart, Trace, traced}

-- ---- an occasion that makes a participant says nothing, and enrols nobody

makes_silently : (w : Net) (k : ℕ) (o : Occasion) (r : Epr) → IsPossible w k o → Makes (cause_of o) r
    → (effect (node_at w k) o).sends ≡ None
makes_silently w k (own now i) r possible makes = refl
makes_silently w k (delivers now mail (input.Create expires current kind protocol)) r possible makes =
    absurd (no_create (node_at w k) mail expires current kind protocol possible.1)
makes_silently w k (delivers now mail (input.Join protocol registration)) r possible makes =
    absurd (no_join (node_at w k) mail protocol registration possible.1)
makes_silently w k (delivers now mail i) r possible makes = absurd makes
makes_silently w k (ticks now id) r possible makes = absurd makes
makes_silently w k formats r possible makes = absurd makes

not_both : (cause : Option Input) (r : Epr) (s : Id) (p : Protocol) (e : Epr) → Makes cause r → Enrols cause s p e → ⊥
not_both (Some (input.Register scope protocol participant)) r s p e makes enrols = makes
not_both (Some i) r s p e makes enrols = enrols
not_both None r s p e makes enrols = makes

module _ (w w2 : Net) (k : ℕ) (o : Occasion) (joined : Bool) (moves : Moves w w2 k o joined) (is : IsAddressed w) where
  abbrev n : NodeState
  n = node_at w k

  after : IsAddressed w2
  after = addressed w w2 k o joined moves is

  -- ---- each link is there afterwards

  pub links_stay_on : LinksStay w w2
  links_stay_on j p l r at =
      let next = (goes w w2 k o joined moves is j).parts_forth p at.part in
      let like = ((moved_grows w w2 k o joined moves is.nodes).nodes l).scopes r at.scope in
      let link = link_goes w w2 k o joined moves is j l p next.0 r like.0 at.names next.1 next.2.registration like.1 like.2 in
      (next.0, like.0, link, (next.2.id, like.2))

  -- ---- the identifier of a new object

  module _ (further : ℕ) (from : 1 ≤ further) (to : further ≤ 2) where
    abbrev new_id : Id
    new_id = next_id n further

    new_id_is : IsIdAt k new_id
    new_id_is =
        let room = moves.room.counters in
        subst (λ (i : ℕ). IsIdAt i new_id) (is.nodes k).number (record {
          counter = last n + further;
          spelled = refl;
          is_counter = (omega (arith, from), omega (arith, room, to));
          is_number = moves.room.number;
        })

    new_counter : counter new_id ≡ last n + further
    new_counter =
        let room = moves.room.counters in
        let small : last n + further < 2 ^ 64 = omega (arith, room, to) in
        let spelled : new_id.0 ≡ n.number * 2 ^ 64 + (last n + further) = refl in
        ap counter_of spelled ∙ omega (arith, small)

    -- no object that was there has it
    fresh : (j : ℕ) (a : Id) → IsIdAt j a → Among (ids (node_at w j)) a → a.0 ≢ new_id.0
    fresh j a a_is among same =
        let nodes : j ≡ k = one_node j k a new_id a_is new_id_is same in
        let here : Among (ids n) a = subst (λ (i : ℕ). Among (ids (node_at w i)) a) nodes among in
        let most : counter a ≤ last n = at_most counter (ids n) a here in
        let one : counter a ≡ last n + further = ap counter_of same ∙ new_counter in
        absurd (omega (arith, from, most, one))

    fresh_scope : (j : ℕ) (s : ScopeState) → ScopeAt w j s → s.id.0 ≢ new_id.0
    fresh_scope j s of =
        let m : NodeState = node_at w j in
        fresh j s.id (scope_id w is j s of) (among_left (ids_in_scopes m) (lone_ids m) s.id (in_scopes m s s.id of (inl refl)))

    fresh_end : (j : ℕ) (s : ScopeState) (e : End) → ScopeAt w j s → Among s.ends e → e.id.0 ≢ new_id.0
    fresh_end j s e of among =
        let m : NodeState = node_at w j in
        fresh j e.id (end_id w is j s e of among)
        (among_left (ids_in_scopes m) (lone_ids m) e.id (in_scopes m s e.id of (end_owned s e among)))

    fresh_part : (j : ℕ) (p : Part) → PartAt w j p → p.id.0 ≢ new_id.0
    fresh_part j p has = fresh j p.id (part_id w is j p has) (part_among (node_at w j) p has)

  -- a registration that was there names no new scope
  no_new_scope : (r : Epr) (l : ℕ) (t : ScopeState) → IsRegistration w r → r ≡ registration_at w2 l t.id → ScopeAt w2 l t
      → t.id ≡ next_id n 1 → ⊥
  no_new_scope r l t was names of new =
      let s = was.1 in
      let ids : s.id.0 ≡ t.id.0 = registrations_apart s.id t.id (node_at w was.0).base (node_at w2 l).base
      (id_has_text was.0 s.id (scope_id w is was.0 s was.2)) (id_has_text l t.id (scope_id w2 after l t of)) (sym was.3 ∙ names) in
      fresh_scope 1 (omega arith) (omega arith) was.0 s was.2 (ids ∙ ap (λ (i : Id). i.0) new)

  -- ---- the link of a new participant

  module _ (q : Part) (new : IsNewPart (cause_of o) n q) (has : PartAt w2 k q) where
    q_is : IsIdAt k q.id
    q_is = part_id w2 after k q has

    no_part : (j : ℕ) (p : Part) → PartAt w j p → p.id.0 ≢ q.id.0
    no_part j p of same = fresh_part new.0 new.1 new.2 j p of (same ∙ ap (λ (i : Id). i.0) new.3.named)

    no_end : (j : ℕ) (s : ScopeState) (e : End) → ScopeAt w j s → Among s.ends e → e.id.0 ≢ q.id.0
    no_end j s e of among same = fresh_end new.0 new.1 new.2 j s e of among (same ∙ ap (λ (i : Id). i.0) new.3.named)

    same_here : participant_at w2 k q.id ≡ participant_at w k q.id
    same_here = λ i. participant_of (base_stays w w2 k o joined moves is k i) q.id

    sent_nothing : sent_on w2 k q ≡ []
    sent_nothing =
        let none : said_on w k q (sends w w2 k o joined moves is) ≡ None =
        ap (option_and_then _) (makes_silently w k o q.registration moves.possible new.3.registers) in
        sent_after w w2 k o joined moves is k q q refl
        ∙ (λ i. new_sent w is k q q_is no_part no_end i ++ none_joins joined _ none i)

    has_no_end : (l : ℕ) (t : ScopeState) → ScopeAt w2 l t → end_of t.ends (participant_at w2 k q.id) ≡ None
    has_no_end l t of = by_found (end_of t.ends (participant_at w2 k q.id)) refl
      where
        by_found : (x : Option End) → end_of t.ends (participant_at w2 k q.id) ≡ x → end_of t.ends (participant_at w2 k q.id) ≡ None
        by_found None none = none
        by_found (Some e) found =
            let first = first_is (λ (y : End). same_epr y.participant (participant_at w2 k q.id)) t.ends e found in
            let at : e.participant ≡ participant_at w k q.id =
            endpoints_equal e.participant (participant_at w2 k q.id) first.1 ∙ same_here in
            elim ((goes w w2 k o joined moves is l).ends_back t e of first.0) [
              | inl comes ↦
                  let known = is.endpoints.ends l comes.scope comes.end comes.here comes.among in
                  absurd (other_endpoint w is k q q_is no_part known.0 known.1 known.2.part
                  (sym known.3 ∙ sym comes.same.participant ∙ at))
              | inr enrolled ↦ absurd (not_both (cause_of o) q.registration _ _ _ new.3.registers enrolled.enrols)
            ]

    begins : (l : ℕ) (t : ScopeState) → ScopeAt w2 l t → Begins (link_in w2 k q t)
    begins l t of = (
      q.protocol,
      takes_no_more t,
      λ i. record {
        state = record {
          protocol = q.protocol;
          end = option_map side_of (has_no_end l t of i);
          part = new.3.state i;
          sealed = takes_no_more t;
        };
        sent = sent_nothing i;
      },
    )

  -- ---- each link

  module _ (speech : Speech) (its : IsSpeechOf n o speech) (change : Change (cause_of o) speech n (node_at w2 k))
      (generations : GenerationsFit w) where
    trace : Trace (cause_of o) speech n (node_at w2 k)
    trace = traced (cause_of o) n (fits_here w is k) speech (node_at w2 k) change

    says : Spoken w k speech (sends w w2 k o joined moves is)
    says = spoken w is k o speech moves.possible its trace.stands

    abbrev Goes : ℕ → Part → ℕ → ScopeState → Type 0
    Goes j q l t = StepsFrom w w2 j q l t ⊎ (IsNewAt w j q.id × Begins (link_in w2 j q t))

    -- the registration of a participant that was there, or is new
    old_registration : (j : ℕ) (q : Part) → PartAt w2 j q → PartWas w w2 k o joined moves is speech trace.mover j q
        → IsRegistration w q.registration
    old_registration j q has was =
        let at = is.endpoints.parts j was.0 was.1 in
        (at.0, at.1, at.2.scope, same_registration w w2 k o joined moves is j was.0 q was.1 has was.2 ∙ at.2.names)

    to_new_scope : (j : ℕ) (q : Part) (l : ℕ) (t : ScopeState) → IsLink w2 j q l t → IsRegistration w q.registration
        → t.id ≡ next_id n 1 → Goes j q l t
    to_new_scope j q l t at was new = absurd (no_new_scope q.registration l t was at.names at.scope new)

    old_part : (j : ℕ) (q : Part) (l : ℕ) (t : ScopeState) → IsLink w2 j q l t
        → PartWas w w2 k o joined moves is speech trace.mover j q → Goes j q l t
    old_part j q l t at was = elim (scope_was w w2 k o joined moves is speech trace l t at.scope) [
      | inl scope ↦ inl (old_link w w2 k o joined moves is speech trace.mover says generations j l q t at was scope)
      | inr new ↦ to_new_scope j q l t at (old_registration j q at.part was) new.1
    ]

    new_part : (q : Part) (l : ℕ) (t : ScopeState) → IsLink w2 k q l t → IsNewPart (cause_of o) n q → Goes k q l t
    new_part q l t at new = inr (
      λ p has same. no_part q new at.part k p has (ap (λ (i : Id). i.0) same),
      begins q new at.part l t at.scope,
    )

    pub links_step : LinksStep w w2
    links_step j q l t at = elim (part_was w w2 k o joined moves is speech trace j q at.part) [
      | inl was ↦ old_part j q l t at was
      | inr new ↦
          subst (λ (i : ℕ). Goes i q l t) (sym new.0) (new_part q l t (subst (λ (i : ℕ). IsLink w2 i q l t) new.0 at) new.1)
    ]

-- ---- what fits is kept

still_fits : (a b : Link) → StepsOrStays a b → LinkFits a → LinkFits b
still_fits a b (inl same) fits = subst LinkFits same fits
still_fits a b (inr step) fits = links_stay_possible a b step fits

begun_fits : (a : Link) → Begins a → LinkFits a
begun_fits a begins = subst LinkFits (sym begins.2) (registering_link_fits begins.0 begins.1 [] tt)

-- where each link steps or begins, each fits afterwards
pub links_fit : (w w2 : Net) → LinksStep w w2 → ((j k : ℕ) (p : Part) (s : ScopeState) → IsLink w j p k s → LinkFits (link_in w j p s))
    → (j k : ℕ) (p : Part) (s : ScopeState) → IsLink w2 j p k s → LinkFits (link_in w2 j p s)
links_fit w w2 step fits j k p s at = elim (step j p k s at) [
  | inl from ↦
      let two = from.4 in
      still_fits two.0 (link_in w2 j p s) two.2
      (still_fits (link_in w j from.0 from.1) two.0 two.1 (fits j k from.0 from.1 from.2))
  | inr new ↦ begun_fits (link_in w2 j p s) new.1
]

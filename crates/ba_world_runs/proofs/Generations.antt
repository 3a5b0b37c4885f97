-- In each world of each run a child has the kind of its parent, and was made after it; for the law of that name.
use Rattle.std.proofs.Common.{◌≡◌, ◌⊎◌, inl, inr, ℕ, ◌+◌, ◌<◌, Bool, false, List, ◌∷◌, Option, Some, IfSome, nat_eq, arith, refl, sym, ap}
use Rattle.std.proofs.Common.{◌∙◌, subst, true≢false, if◌then◌else◌}
use Rattle.std.proofs.lemmas.Bool.{eq-eqb, ne_eqb}
use Rattle.ba_core.specs.declared.identifiers.Id.{Id}
use Rattle.ba_core.specs.declared.protocols.Kind.{Kind}
use Rattle.ba_message.specs.declared.endpoints.Epr.{Epr}
use Rattle.ba_message.specs.declared.messages.Context.{Context}
use Rattle.ba_scope_ends.specs.Ends.{same_id}
use Rattle.ba_scope.specs.Scope.{ScopeState}
use Rattle.ba_scope_ends.specs.declared.parts.Part.{Part}
use Rattle.ba_node_steps.specs.Fits.{IsIdAt}
use Rattle.ba_node_steps.specs.Node.{Among, NodeState, ids, next_id, scope_ids}
use Rattle.ba_node_steps.specs.declared.inputs.Input.TheVariants as input
use Rattle.ba_node_steps.proofs.Members.{all_among, among_left, number_is_same}
use Rattle.ba_node_steps.proofs.NodeKept.{fresh_of, next_is}
use Rattle.ba_node_steps.proofs.Objects.{ids_in_scopes, in_scopes, lone_ids, owned_here}
use Rattle.ba_world_runs.specs.Runs.{IsRun, IsFirstWorld, goes_on, starts}
use Rattle.ba_world_runs.specs.Safety.{IsAddressed}
use Rattle.ba_world_runs.specs.Trees.{GenerationsFit, IsChild}
use Rattle.ba_world_runs.specs.World.{formats, Net, Occasion, ScopeAt, World, WorldNode, delivers, net_of, own, registration_at, node_at, ticks}
use Rattle.ba_world_runs.specs.WorldSteps.{IsContextOf, IsPossible, Moves, WorldStep}
use Rattle.ba_world_runs.proofs.Addressed.{cause_of, goes, grows, no_create, registration_stays}
use Rattle.ba_world_runs.proofs.AddressedRuns.{run_addressed}
use Rattle.ba_world_runs.proofs.Goes.{MakesChild, ScopeComes, ScopeIsNew}
use Rattle.ba_world_runs.proofs.MailLemmas.{addressed}
use Rattle.ba_world_runs.proofs.Nets.{net_moves}
use Rattle.ba_world_runs.proofs.Owners.{fits_here, one_node, one_registration}
use Rattle.ba_world_runs.proofs.Recorded.{at_or_other}
use Rattle.ba_world_runs.proofs.Tests.{if_false, if_true}

-- a scope with this registration, of this kind
abbrev pub HasScopeOf : Net → Epr → Kind → Type 0
HasScopeOf w r kind = (l : ℕ) × (s : ScopeState) × ScopeAt w l s × (r ≡ registration_at w l s.id) × (s.kind ≡ kind)

some_kind : (a b : Kind) → ◌≡◌ {A = Option Kind} (Some a) (Some b) → a ≡ b
some_kind a b h = cc

child_context : (w : Net) (k : ℕ) (o : Occasion) (r : Epr) (kind : Kind) → IsPossible w k o → MakesChild (cause_of o) r kind
    → HasScopeOf w r kind
child_context w k (own now (input.Create expires current kind0 protocol)) r kind possible makes =
    let context : IsContextOf w makes.0 = subst (λ (c : Option Context). IfSome c (IsContextOf w)) makes.1 possible in
    (context.0, context.1, context.2, makes.2 ∙ context.3, some_kind context.1.kind kind (sym context.4 ∙ makes.3))
child_context w k (own now i) r kind possible makes = absurd makes
child_context w k (delivers now mail (input.Create expires current kind0 protocol)) r kind possible makes =
    absurd (no_create (node_at w k) mail expires current kind0 protocol possible.1)
child_context w k (delivers now mail i) r kind possible makes = absurd makes
child_context w k (ticks now id) r kind possible makes = absurd makes
child_context w k formats r kind possible makes = absurd makes

module _ (w w2 : Net) (k : ℕ) (o : Occasion) (joined : Bool) (moves : Moves w w2 k o joined) (is : IsAddressed w)
    (before : GenerationsFit w) where
  new_is : IsIdAt k (next_id (node_at w k) 1)
  new_is =
      let next = next_is (node_at w k) moves.room in
      let room = next.room in
      subst (λ (n : ℕ). IsIdAt n (next_id (node_at w k) 1)) (is.nodes k).number
      (record { counter = _; spelled = next.spelled; is_counter = (omega arith, room); is_number = next.is_number })

  -- no identifier of an object is that of the next one
  no_new_here : (s : ScopeState) (id : Id) → ScopeAt w k s → Among (scope_ids s) id → id.0 ≡ (next_id (node_at w k) 1).0 → ⊥
  no_new_here s id of owned same =
      let n : NodeState = node_at w k in
      let among : Among (ids n) id = among_left (ids_in_scopes n) (lone_ids n) id (in_scopes n s id of owned) in
      let other : same_id (next_id n 1) id ≡ false =
      all_among (λ y. same_id (next_id n 1) y ≡ false) (ids n) id
      (fresh_of n.number (ids n) (next_id n 1) (next_is n moves.room) (fits_here w is k).here) among in
      true≢false (sym (number_is_same (next_id n 1) id (sym same)) ∙ other)

  pub no_new_id : (j : ℕ) (s : ScopeState) (id : Id) → ScopeAt w j s → Among (scope_ids s) id
      → id.0 ≡ (next_id (node_at w k) 1).0 → ⊥
  no_new_id j s id of owned same =
      let here : IsIdAt j id = subst (λ (n : ℕ). IsIdAt n id) (is.nodes j).number
      (owned_here (node_at w j) s id (fits_here w is j) of owned) in
      let nodes : j ≡ k = one_node j k id (next_id (node_at w k) 1) here new_is same in
      no_new_here s id (subst (λ (i : ℕ). ScopeAt w i s) nodes of) owned same

  no_new : (j : ℕ) (s : ScopeState) → ScopeAt w j s → s.id.0 ≡ (next_id (node_at w k) 1).0 → ⊥
  no_new j s of same = no_new_id j s s.id of (inl refl) same

  abbrev made_now : ℕ → ℕ
  made_now id = if nat_eq id (next_id (node_at w k) 1).0 then before.made_so_far else before.made_at id

  old_made : (j : ℕ) (s : ScopeState) → ScopeAt w j s → made_now s.id.0 ≡ before.made_at s.id.0
  old_made j s of = if_false _ before.made_so_far (before.made_at s.id.0) (ne_eqb s.id.0 (next_id (node_at w k) 1).0 (no_new j s of))

  new_made : (t : ScopeState) → t.id ≡ next_id (node_at w k) 1 → made_now t.id.0 ≡ before.made_so_far
  new_made t same = if_true _ before.made_so_far (before.made_at t.id.0)
      (eq-eqb t.id.0 (next_id (node_at w k) 1).0 (ap (λ (i : Id). i.0) same))

  abbrev Comes : ℕ → ScopeState → Type 0
  Comes j t = ScopeComes (cause_of o) (node_at w j) t ⊎ ScopeIsNew (cause_of o) (node_at w k) t

  comes : (j : ℕ) (t : ScopeState) → ScopeAt w2 j t → Comes j t
  comes = at_or_other (λ j. (t : ScopeState) → ScopeAt w2 j t → Comes j t) k
      ((goes w w2 k o joined moves is k).scopes_back)
      (λ j other t of. inl (record {
        scope = t;
        here = subst (λ (n : NodeState). Among n.scopes t) (moves.others j other) of;
        own = refl;
        kind = refl;
        up = λ q above. (q, above, record { id = refl; protocol = refl; registration = refl; coordinator = inl refl });
      }))

  made_before : (j : ℕ) (t : ScopeState) → ScopeAt w2 j t → made_now t.id.0 < before.made_so_far + 1
  made_before j t of = by_scope (comes j t of)
    where
      by_scope : Comes j t → made_now t.id.0 < before.made_so_far + 1
      by_scope (inl c) =
          let e = ap (λ (i : Id). made_now i.0) c.own ∙ old_made j c.scope c.here in
          let earlier = before.made_before_now j c.scope c.here in
          omega (arith, e, earlier)
      by_scope (inr new) = let e = new_made t new.id in omega (arith, e)

  -- the scope with this registration is the one that had it
  parent_is : (l j : ℕ) (r t : ScopeState) → ScopeAt w l r → ScopeAt w2 j t → registration_at w l r.id ≡ registration_at w2 j t.id
      → (t.kind ≡ r.kind) × (t.id ≡ r.id)
  parent_is l j r t of there same =
      let r2 = ((grows w w2 k o joined moves is).nodes l).scopes r of in
      let one = one_registration w2 (addressed w w2 k o joined moves is) l j r2.0 t r2.1 there
      (sym (registration_stays w w2 k o joined moves is l r r2.0 r2.2) ∙ same) in
      (ap (λ (y : ScopeState). y.kind) (sym one.1) ∙ r2.3, ap (λ (y : ScopeState). y.id) (sym one.1) ∙ r2.2)

  child : (i j : ℕ) (s t : ScopeState) (q : Part) → IsChild w2 i s q j t → (s.kind ≡ t.kind) × (made_now t.id.0 < made_now s.id.0)
  child i j s t q its = by_scope (comes i s its.child)
    where
      by_scope : Comes i s → (s.kind ≡ t.kind) × (made_now t.id.0 < made_now s.id.0)
      by_scope (inl c) =
          let p = c.up q its.has_upward in
          let at = is.endpoints.parts i p.0 (inr (c.scope, c.here, p.1)) in
          let was : IsChild w i c.scope p.0 at.0 at.1 =
          record { child = c.here; has_upward = p.1; parent = at.2.scope; names = at.2.names } in
          let like = parent_is at.0 j at.1 t at.2.scope its.parent (sym at.2.names ∙ sym p.2.registration ∙ its.names) in
          let above = ap (λ (x : Id). made_now x.0) like.1 ∙ old_made at.0 at.1 at.2.scope in
          let here = ap (λ (x : Id). made_now x.0) c.own ∙ old_made i c.scope c.here in
          let earlier = before.made_after_parent i at.0 c.scope at.1 p.0 was in
          (c.kind ∙ before.same_kind_above i at.0 c.scope at.1 p.0 was ∙ sym like.0, omega (arith, above, here, earlier))
      by_scope (inr new) =
          let at = child_context w k o q.registration s.kind moves.possible (new.made q its.has_upward) in
          let like = parent_is at.0 j at.1 t at.2 its.parent (sym at.3 ∙ its.names) in
          let above = ap (λ (x : Id). made_now x.0) like.1 ∙ old_made at.0 at.1 at.2 in
          let here = new_made s new.id in
          let earlier = before.made_before_now at.0 at.1 at.2 in
          (sym at.4 ∙ sym like.0, omega (arith, above, here, earlier))

  pub generations : GenerationsFit w2
  generations = record {
    same_kind_above = λ i j s t q its. (child i j s t q its).0;
    made_at = made_now;
    made_so_far = before.made_so_far + 1;
    made_before_now = made_before;
    made_after_parent = λ i j s t q its. (child i j s t q its).1;
  }

-- ---- runs

pub step_generations : (w w2 : World) → WorldStep w w2 → IsAddressed (net_of w) → GenerationsFit (net_of w) → GenerationsFit (net_of w2)
step_generations w w2 step is before = elim (net_moves w w2 step) [
  | inl same ↦ subst GenerationsFit same before
  | inr moved ↦ generations (net_of w) (net_of w2) moved.0 moved.1 moved.2 moved.3 is before
]

start_generations : (w : World) → IsFirstWorld w → GenerationsFit (net_of w)
start_generations w start = record {
  same_kind_above = λ k j s t q its. absurd (no_scope k s its.child);
  made_at = λ id. 0;
  made_so_far = 0;
  made_before_now = λ k s of. absurd (no_scope k s of);
  made_after_parent = λ k j s t q its. absurd (no_scope k s its.child);
}
  where
    no_scope : (k : ℕ) (s : ScopeState) → ScopeAt (net_of w) k s → ⊥
    no_scope k s of = subst (λ (n : WorldNode). Among n.state.scopes s) (start.nodes k) of

pub run_generations : (w : World) (earlier : List World) → IsRun (w ∷ earlier) → GenerationsFit (net_of w)
run_generations w earlier (starts start) = start_generations w start
run_generations w earlier (goes_on run step) = step_generations _ w step (run_addressed _ _ run) (run_generations _ _ run)

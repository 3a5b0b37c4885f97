-- What a look-up in a node finds stands there; for each law of steps.
use Rattle.std.proofs.Common.{◌≡◌, inl, inr, Bool, true, false, List, [], ◌∷◌, Option, None, Some, refl, sym, ap, ◌∙◌, subst, true≢false}
use Rattle.std.proofs.Common.{if◌then◌else◌}
use Rattle.std.specs.List.{find}
use Rattle.ba_core.specs.declared.identifiers.Id.{Id}
use Rattle.ba_scope.proofs.Lists.{by_test}
use Rattle.ba_scope_ends.specs.Ends.{end_with_id, same_id}
use Rattle.ba_scope.specs.Scope.{ScopeState}
use Rattle.ba_scope_ends.specs.declared.ends.End.{End}
use Rattle.ba_scope_ends.specs.declared.parts.Part.{Part}
use Rattle.ba_node_steps.specs.Node.{Among, HasPart, NodeState, EndPlace, PartPlace, nowhere, lone, upward, end_place, first_end, first_up}
use Rattle.ba_node_steps.specs.Node.{part_place, scope_with_id}
use Rattle.ba_node_steps.proofs.Members.{number_is_same, same_id_is}

-- ---- the first that passes a test

first_here : {A : Type 0} (test : A → Bool) (y : A) (ys : List A) (x : A) (b : Bool) → test y ≡ b
    → (find test ys ≡ Some x → Among ys x × (test x ≡ true)) → (if b then Some y else find test ys) ≡ Some x
    → Among (y ∷ ys) x × (test x ≡ true)
first_here test y ys x true is later h = let same : y ≡ x = cc in (inl same, ap test (sym same) ∙ is)
first_here test y ys x false is later h = let rest = later h in (inr rest.0, rest.1)

pub first_is : {A : Type 0} (test : A → Bool) (xs : List A) (x : A) → find test xs ≡ Some x → Among xs x × (test x ≡ true)
first_is test [] x h = absurd cc
first_is test (y ∷ ys) x h = first_here test y ys x (test y) refl (first_is test ys x) h

pub scope_found : (n : NodeState) (id : Id) (s : ScopeState) → scope_with_id n id ≡ Some s → Among n.scopes s × (s.id ≡ id)
scope_found n id s h =
    let here = first_is (λ (x : ScopeState). same_id x.id id) n.scopes s h in
    (here.0, same_id_is s.id id here.1)

-- ---- an end

-- the end with this identifier, in one of these scopes
record EndIn (scopes : List ScopeState) (id : Id) (at : EndPlace) : Type 0 where
  scope : Among scopes at.scope
  found : end_with_id at.scope.ends id ≡ Some at.end

end_in : (s : ScopeState) (more : List ScopeState) (id : Id) (at : EndPlace) (o : Option End) → end_with_id s.ends id ≡ o
    → (first_end id more ≡ Some at → EndIn more id at)
    → (elim o [ None ↦ first_end id more | Some e ↦ Some (record { scope = s; end = e }) ]) ≡ Some at → EndIn (s ∷ more) id at
end_in s more id at None found later h = let rest = later h in record { scope = inr rest.scope; found = rest.found }
end_in s more id at (Some e) found later h =
    let same : ◌≡◌ {A = EndPlace} (record { scope = s; end = e }) at = cc in
    subst (EndIn (s ∷ more) id) same (record { scope = inl refl; found = found })

ends_in : (id : Id) (scopes : List ScopeState) (at : EndPlace) → first_end id scopes ≡ Some at → EndIn scopes id at
ends_in id [] at h = absurd cc
ends_in id (s ∷ more) at h = end_in s more id at (end_with_id s.ends id) refl (ends_in id more at) h

-- the end with this identifier stands there, which is where the look-up finds it
pub record EndStands (n : NodeState) (id : Id) (at : EndPlace) : Type 0 where
  pub placed : end_place n id ≡ Some at
  pub scope : Among n.scopes at.scope
  pub found : end_with_id at.scope.ends id ≡ Some at.end
  pub end : Among at.scope.ends at.end
  pub is : at.end.id ≡ id

pub end_found : (n : NodeState) (id : Id) (at : EndPlace) → end_place n id ≡ Some at → EndStands n id at
end_found n id at h =
    let here = ends_in id n.scopes at h in
    let first = first_is (λ (x : End). same_id x.id id) at.scope.ends at.end here.found in
    record { placed = h; scope = here.scope; found = here.found; end = first.0; is = same_id_is at.end.id id first.1 }

-- ---- a participant

-- the upward part with this identifier stands above this scope, the lone participant by itself
pub record UpStands (n : NodeState) (id : Id) (s : ScopeState) (p : Part) : Type 0 where
  pub placed : part_place n id ≡ upward s p
  pub scope : Among n.scopes s
  pub up : s.up ≡ Some p
  pub is : p.id ≡ id

pub record LoneStands (n : NodeState) (id : Id) (p : Part) : Type 0 where
  pub placed : part_place n id ≡ lone p
  pub part : Among n.parts p
  pub is : p.id ≡ id

-- what first_up gives: nothing, or an upward part with this identifier
up_cases : (id : Id) (scopes : List ScopeState) (P : PartPlace → Type 0) → P nowhere
    → ((s : ScopeState) (p : Part) → Among scopes s → s.up ≡ Some p → p.id ≡ id → P (upward s p)) → P (first_up id scopes)
up_cases id [] P none up = none
up_cases id (s ∷ more) P none up = by_up s.up refl (up_cases id more P none (λ t p among is same. up t p (inr among) is same))
  where
    by_up : (o : Option Part) → s.up ≡ o → P (first_up id more)
        → P (elim o [ None ↦ first_up id more | Some p ↦ if same_id p.id id then upward s p else first_up id more ])
    by_up None is rest = rest
    by_up (Some p) is rest = by_test P (same_id p.id id) (upward s p) (first_up id more)
        (λ same. up s p (inl refl) is (same_id_is p.id id same)) (λ other. rest)

-- an upward part that stands there is found, or another one
pub first_up_finds : (id : Id) (scopes : List ScopeState) (s : ScopeState) (p : Part) → Among scopes s → s.up ≡ Some p → p.id ≡ id
    → first_up id scopes ≡ nowhere → ⊥
first_up_finds id [] s p among is same h = absurd among
first_up_finds id (t ∷ more) s p (inl here) is same h = by_up t.up (ap (λ (x : ScopeState). x.up) here ∙ is) h
  where
    found : (b : Bool) (q : Part) → b ≡ true → (if b then upward t q else first_up id more) ≡ nowhere → ⊥
    found true q passes h = absurd cc
    found false q passes h = true≢false (sym passes)

    by_up : (o : Option Part) → o ≡ Some p
        → (elim o [ None ↦ first_up id more | Some q ↦ if same_id q.id id then upward t q else first_up id more ]) ≡ nowhere → ⊥
    by_up None is h = absurd cc
    by_up (Some q) is h =
        let one : q ≡ p = cc in
        found (same_id q.id id) q (number_is_same q.id id (ap (λ (x : Part). x.id.0) one ∙ ap (λ (x : Id). x.0) same)) h
first_up_finds id (t ∷ more) s p (inr later) is same h = by_up t.up (first_up_finds id more s p later is same) h
  where
    passed : (b : Bool) (q : Part) → (first_up id more ≡ nowhere → ⊥) → (if b then upward t q else first_up id more) ≡ nowhere → ⊥
    passed true q rest h = absurd cc
    passed false q rest h = rest h

    by_up : (o : Option Part) → (first_up id more ≡ nowhere → ⊥)
        → (elim o [ None ↦ first_up id more | Some q ↦ if same_id q.id id then upward t q else first_up id more ]) ≡ nowhere → ⊥
    by_up None rest h = rest h
    by_up (Some q) rest h = passed (same_id q.id id) q rest h

-- a participant that is nowhere is no upward part
pub nowhere_above : (n : NodeState) (id : Id) → part_place n id ≡ nowhere → first_up id n.scopes ≡ nowhere
nowhere_above n id h = by_lone (find (λ (p : Part). same_id p.id id) n.parts) h
  where
    by_lone : (o : Option Part) → (elim o [ None ↦ first_up id n.scopes | Some p ↦ lone p ]) ≡ nowhere → first_up id n.scopes ≡ nowhere
    by_lone None h = h
    by_lone (Some p) h = absurd cc

-- what part_place gives
all_places : (P : PartPlace → Type 0) (n : NodeState) (id : Id) → P nowhere → ((p : Part) → Among n.parts p → p.id ≡ id → P (lone p))
    → ((s : ScopeState) (p : Part) → Among n.scopes s → s.up ≡ Some p → p.id ≡ id → P (upward s p)) → P (part_place n id)
all_places P n id none alone up = by_lone (find (λ (p : Part). same_id p.id id) n.parts) refl
  where
    by_lone : (o : Option Part) → find (λ (p : Part). same_id p.id id) n.parts ≡ o
        → P (elim o [ None ↦ first_up id n.scopes | Some p ↦ lone p ])
    by_lone None h = up_cases id n.scopes P none up
    by_lone (Some p) h =
        let first = first_is (λ (q : Part). same_id q.id id) n.parts p h in
        alone p first.0 (same_id_is p.id id first.1)

-- where a participant stands: nowhere, or at a place where the look-up finds it
pub place_cases : (P : PartPlace → Type 0) (n : NodeState) (id : Id) → (part_place n id ≡ nowhere → P nowhere)
    → ((p : Part) → LoneStands n id p → P (lone p)) → ((s : ScopeState) (p : Part) → UpStands n id s p → P (upward s p))
    → P (part_place n id)
place_cases P n id none alone up =
    all_places (λ (place : PartPlace). part_place n id ≡ place → P place) n id none
    (λ p among is placed. alone p (record { placed = placed; part = among; is = is }))
    (λ s p among above is placed. up s p (record { placed = placed; scope = among; up = above; is = is })) refl

-- the participant stands at this place
abbrev pub Stands : NodeState → Id → PartPlace → Part → Type 0
Stands n id nowhere p = ⊥
Stands n id (lone q) p = LoneStands n id q × (q ≡ p)
Stands n id (upward s q) p = UpStands n id s q × (q ≡ p)

pub stands_is : (n : NodeState) (id : Id) (place : PartPlace) (p : Part) → Stands n id place p → p.id ≡ id
stands_is n id nowhere p stands = absurd stands
stands_is n id (lone q) p stands = subst (λ (x : Part). x.id ≡ id) stands.1 stands.0.is
stands_is n id (upward s q) p stands = subst (λ (x : Part). x.id ≡ id) stands.1 stands.0.is

pub stands_part : (n : NodeState) (id : Id) (place : PartPlace) (p : Part) → Stands n id place p → HasPart n p
stands_part n id nowhere p stands = absurd stands
stands_part n id (lone q) p stands = inl (subst (λ (x : Part). Among n.parts x) stands.1 stands.0.part)
stands_part n id (upward s q) p stands = inr (s, stands.0.scope, stands.0.up ∙ ap Some stands.1)

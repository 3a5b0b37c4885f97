-- An object changed at its place is the object with its identifier changed, since no two have one identifier; for each proposal.
use Rattle.std.proofs.Common.{◌≡◌, ℕ, zero, suc, Bool, true, false, List, [], ◌∷◌, map, Some, slice_get, slice_set, inl, inr, refl, sym, ap}
use Rattle.std.proofs.Common.{◌∙◌, subst, if◌then◌else◌}
use Rattle.std.specs.List.{AllByRecursion, IsDistinct}
use Rattle.ba_core.specs.declared.identifiers.Id.{Id}
use Rattle.ba_node_objects.specs.Changes.{with_changed}
use Rattle.ba_scope.proofs.Lists.{some_branch}
use Rattle.ba_scope_ends.specs.Ends.{same_id}
use Rattle.ba_scope.specs.Scope.{ScopeState}
use Rattle.ba_scope_ends.specs.declared.parts.Part.{Part}
use Rattle.ba_node_steps.proofs.Members.{all_among, all_right, among_map, apart_left, apart_right, is_other, number_is_same, same_by_number}
use Rattle.ba_node_steps.proofs.Objects.{ids_in_scopes, lone_ids}
use Rattle.ba_node_steps.specs.Fits.{NodeFits}
use Rattle.ba_node_steps.specs.Node.{Among, NodeState, scope_ids, with_lone, with_scope}
use Rattle.ba_tree.specs.Trees.{joined}

-- what is at a place is among the items
pub among_at : {A : Type 0} (xs : List A) (k : ℕ) (x : A) → slice_get xs k ≡ Some x → Among xs x
among_at [] k x at = absurd cc
among_at (y ∷ more) zero x at = let same : y ≡ x = cc in inl same
among_at (y ∷ more) (suc k) x at = inr (among_at more k x at)

-- the new item in the place of the one with its identifier
abbrev in_place : {A : Type 0} → (A → Id) → A → A → A
in_place key new y = if same_id (key y) (key new) then new else y

replaced : {A : Type 0} (key : A → Id) (new y : A) → same_id (key y) (key new) ≡ true → new ≡ in_place key new y
replaced key new y same = by_is (same_id (key y) (key new)) same
  where
    by_is : (b : Bool) → b ≡ true → new ≡ (if b then new else y)
    by_is true h = refl
    by_is false h = absurd cc

kept : {A : Type 0} (key : A → Id) (new y : A) → same_id (key y) (key new) ≡ false → y ≡ in_place key new y
kept key new y other = by_is (same_id (key y) (key new)) other
  where
    by_is : (b : Bool) → b ≡ false → y ≡ (if b then new else y)
    by_is true h = absurd cc
    by_is false h = refl

others_kept : {A : Type 0} (key : A → Id) (new : A) (xs : List A) → AllByRecursion (λ id. same_id id (key new) ≡ false) (map key xs)
    → xs ≡ map (in_place key new) xs
others_kept key new [] others = refl
others_kept key new (y ∷ more) others =
    let here = kept key new y others.0 in
    let rest = others_kept key new more others.1 in
    λ i. here i ∷ rest i

-- the test of two identifiers, the other way round
turned : (a b : Id) → same_id a b ≡ false → same_id b a ≡ false
turned a b other = by_is (same_id b a) refl
  where
    by_is : (t : Bool) → same_id b a ≡ t → t ≡ false
    by_is false h = refl
    by_is true h = absurd (is_other a b other (sym (same_by_number b a h)))

all_turned : (a : Id) (ids : List Id) → AllByRecursion (λ b. same_id a b ≡ false) ids → AllByRecursion (λ b. same_id b a ≡ false) ids
all_turned a [] all = tt
all_turned a (b ∷ more) all = (turned a b all.0, all_turned a more all.1)

set_in_place : {A : Type 0} (key : A → Id) (new : A) (xs : List A) (k : ℕ) (x : A) → IsDistinct same_id (map key xs)
    → slice_get xs k ≡ Some x → key new ≡ key x → slice_set xs k new ≡ map (in_place key new) xs
unfolding IsDistinct
set_in_place key new [] k x apart at same = absurd cc
set_in_place key new (y ∷ more) zero x apart at same =
    let is : y ≡ x = cc in
    let own : key new ≡ key y = same ∙ ap key (sym is) in
    let here = replaced key new y (number_is_same (key y) (key new) (ap (λ (id : Id). id.0) (sym own))) in
    let others = subst (λ (id : Id). AllByRecursion (λ b. same_id b id ≡ false) (map key more)) (sym own)
    (all_turned (key y) (map key more) apart.0) in
    let rest = others_kept key new more others in
    λ i. here i ∷ rest i
set_in_place key new (y ∷ more) (suc k) x apart at same =
    let later : Among (map key more) (key x) = among_map key more x (among_at more k x at) in
    let other : same_id (key y) (key x) ≡ false = all_among (λ b. same_id (key y) b ≡ false) (map key more) (key x) apart.0 later in
    let here = kept key new y (subst (λ (id : Id). same_id (key y) id ≡ false) (sym same) other) in
    let rest = set_in_place key new more k x apart.1 at same in
    λ i. here i ∷ rest i

changed_in_place : {A : Type 0} (key : A → Id) (change : A → A) (xs : List A) (k : ℕ) (x : A) → IsDistinct same_id (map key xs)
    → slice_get xs k ≡ Some x → key (change x) ≡ key x → with_changed xs k change ≡ map (in_place key (change x)) xs
changed_in_place key change xs k x apart at same =
    some_branch (slice_get xs k) _ _ x at ∙ set_in_place key (change x) xs k x apart at same

-- ---- a scope

heads : (P : Id → Type 0) (scopes : List ScopeState) → AllByRecursion P (joined (map scope_ids scopes))
    → AllByRecursion P (map (λ (s : ScopeState). s.id) scopes)
heads P [] all = tt
heads P (s ∷ more) all = (all.0, heads P more (all_right P (scope_ids s) (joined (map scope_ids more)) all))

heads_apart : (scopes : List ScopeState) → IsDistinct same_id (joined (map scope_ids scopes))
    → IsDistinct same_id (map (λ (s : ScopeState). s.id) scopes)
unfolding IsDistinct
heads_apart [] apart = tt
heads_apart (s ∷ more) apart =
    let later = all_right (λ id. same_id s.id id ≡ false) _ (joined (map scope_ids more)) apart.0 in
    (heads (λ id. same_id s.id id ≡ false) more later, heads_apart more (apart_right (scope_ids s) (joined (map scope_ids more)) apart))

pub scope_placed : (n : NodeState) (place : ℕ) (s : ScopeState) (change : ScopeState → ScopeState) → NodeFits n
    → slice_get n.scopes place ≡ Some s → (change s).id ≡ s.id
    → record n { scopes = with_changed n.scopes place change } ≡ with_scope n (change s)
scope_placed n place s change fits at same =
    let apart = heads_apart n.scopes (apart_left (ids_in_scopes n) (lone_ids n) fits.apart) in
    let scopes = changed_in_place (λ (x : ScopeState). x.id) change n.scopes place s apart at same in
    λ i. record n { scopes = scopes i }

-- ---- a lone participant

pub lone_placed : (n : NodeState) (place : ℕ) (p : Part) (change : Part → Part) → NodeFits n
    → slice_get n.parts place ≡ Some p → (change p).id ≡ p.id
    → record n { parts = with_changed n.parts place change } ≡ with_lone n (change p)
lone_placed n place p change fits at same =
    let apart = apart_right (ids_in_scopes n) (lone_ids n) fits.apart in
    let parts = changed_in_place (λ (x : Part). x.id) change n.parts place p apart at same in
    λ i. record n { parts = parts i }

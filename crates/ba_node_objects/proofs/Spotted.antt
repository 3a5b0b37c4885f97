-- Where an object stands at a spot, no other look-up finds it; for each look-up by the index.
use Rattle.std.proofs.Common.{◌≡◌, ℕ, zero, suc, Bool, true, false, List, [], ◌∷◌, Option, None, Some, is_some, length, slice_get, map}
use Rattle.std.proofs.Common.{nat_le, slice_index_or, ◌<◌, ◌≤◌, ◌^◌, arith, inl, inr, refl, sym, ap, ◌∙◌, subst, true≢false, if◌then◌else◌}
use Rattle.std.proofs.Common.{◌||◌}
use Rattle.std.proofs.lemmas.Option.{slice_get_read, slice_get_within}
use Rattle.std.proofs.lemmas.Bool.{and_from}
use Rattle.std.proofs.lemmas.Bool.Decides.{nat_tests}
use Rattle.std.specs.List.{find}
use Rattle.ba_core.specs.Numbers.{counter_of, id_of}
use Rattle.ba_core.specs.declared.identifiers.Id.{Id}
use Rattle.ba_node_objects.proofs.Found.{above_with, has_end, lone_with}
use Rattle.ba_node_objects.specs.inside.Spots.{StandsAt, has_object, may_be_used}
use Rattle.ba_node_objects.specs.declared.spots.Spot.TheVariants as spots
use Rattle.ba_scope_ends.specs.Ends.{end_with_id, same_id}
use Rattle.ba_scope_ends.specs.declared.ends.End.{End}
use Rattle.ba_scope_ends.specs.declared.parts.Part.{Part}
use Rattle.ba_scope.specs.Scope.{ScopeState, is_id_above}
use Rattle.ba_node_steps.proofs.Members.{all_among, among_left, among_map, among_right, number_is_same, same_id_is}
use Rattle.ba_node_steps.proofs.Objects.{end_owned, ids_in_scopes, in_scopes, lone_ids, no_lone_is_owned, one_lone, owners_are_one, up_owned}
use Rattle.ba_node_steps.proofs.Places.{first_is}
use Rattle.ba_node_steps.specs.Fits.{IsIdAt, NodeFits}
use Rattle.ba_node_steps.specs.Node.{Among, NodeState, counter, id_at, ids, last, scope_ids}
use Rattle.ba_tree.specs.Trees.{greatest}

-- ---- lists

among_at : {A : Type 0} (xs : List A) (k : ℕ) (x : A) → slice_get xs k ≡ Some x → Among xs x
among_at [] k x at = absurd cc
among_at (y ∷ more) zero x at = let same : y ≡ x = cc in inl same
among_at (y ∷ more) (suc k) x at = inr (among_at more k x at)

-- what passes a test is found, or another one
passer_found : {A : Type 0} (test : A → Bool) (xs : List A) (x : A) → Among xs x → test x ≡ true → find test xs ≡ None → ⊥
passer_found test [] x among passes none = absurd among
passer_found {A = A} test (y ∷ more) x (inl same) passes none = by_head (test y) (ap test same ∙ passes) none
  where
    by_head : (b : Bool) → b ≡ true → (if b then Some y else find test more) ≡ None → ⊥
    by_head true is h = absurd cc
    by_head false is h = true≢false (sym is)
passer_found {A = A} test (y ∷ more) x (inr later) passes none = by_head (test y) (passer_found test more x later passes) none
  where
    by_head : (b : Bool) → (find test more ≡ None → ⊥) → (if b then Some y else find test more) ≡ None → ⊥
    by_head true rest h = absurd cc
    by_head false rest h = rest h

-- the only one that passes a test is found
only_found : {A : Type 0} (test : A → Bool) (xs : List A) (x : A) → Among xs x → test x ≡ true
    → ((y : A) → Among xs y → test y ≡ true → y ≡ x) → find test xs ≡ Some x
only_found {A = A} test xs x among passes only = by_answer (find test xs) refl
  where
    by_answer : (o : Option A) → find test xs ≡ o → find test xs ≡ Some x
    by_answer None is = absurd (passer_found test xs x among passes is)
    by_answer (Some y) is = let first = first_is test xs y is in is ∙ ap Some (only y first.0 first.1)

-- where none passes a test, none is found
none_passes : {A : Type 0} (test : A → Bool) (xs : List A) → ((y : A) → Among xs y → test y ≡ true → ⊥) → find test xs ≡ None
none_passes {A = A} test xs none = by_answer (find test xs) refl
  where
    by_answer : (o : Option A) → find test xs ≡ o → find test xs ≡ None
    by_answer None is = is
    by_answer (Some y) is = let first = first_is test xs y is in absurd (none y first.0 first.1)

-- ---- tests of scopes that only its owner passes

-- a scope that passes the test has the identifier
abbrev pub Owns : Id → (ScopeState → Bool) → Type 0
Owns id test = (s : ScopeState) → test s ≡ true → Among (scope_ids s) id

owned_as : (s : ScopeState) (a id : Id) → same_id a id ≡ true → Among (scope_ids s) a → Among (scope_ids s) id
owned_as s a id same among = subst (λ (x : Id). Among (scope_ids s) x) (same_id_is a id same) among

pub owns_itself : (id : Id) → Owns id (λ (s : ScopeState). same_id s.id id)
owns_itself id s passes = owned_as s s.id id passes (inl refl)

pub owns_up : (id : Id) → Owns id (above_with id)
owns_up id s passes = by_up s.up refl passes
  where
    by_up : (o : Option Part) → s.up ≡ o → is_id_above o id ≡ true → Among (scope_ids s) id
    by_up None is h = absurd (true≢false (sym h))
    by_up (Some p) is h = owned_as s p.id id h (up_owned s p is)

pub owns_end : (id : Id) → Owns id (has_end id)
owns_end id s passes = by_end (end_with_id s.ends id) refl passes
  where
    by_end : (o : Option End) → end_with_id s.ends id ≡ o → is_some o ≡ true → Among (scope_ids s) id
    by_end None is h = absurd (true≢false (sym h))
    by_end (Some e) is h =
        let first = first_is (λ (x : End). same_id x.id id) s.ends e is in
        owned_as s e.id id first.1 (end_owned s e first.0)

owns_object : (id : Id) (s : ScopeState) → has_object s id ≡ true → Among (scope_ids s) id
owns_object id s passes = by_own (same_id s.id id) (is_id_above s.up id) refl refl passes
  where
    by_own : (a b : Bool) → same_id s.id id ≡ a → is_id_above s.up id ≡ b → (a || (b || has_end id s)) ≡ true → Among (scope_ids s) id
    by_own true b is above h = owns_itself id s is
    by_own false true is above h = owns_up id s above
    by_own false false is above h = owns_end id s h

-- ---- an object that stands in a scope

pub scope_within : (n : NodeState) (id : Id) (place : ℕ) → StandsAt n id (spots.InScope place) → place < length n.scopes
scope_within n id place stands = slice_get_within n.scopes place stands.0 stands.1

pub scope_read : (n : NodeState) (id : Id) (place : ℕ) (s : ScopeState) → StandsAt n id (spots.InScope place)
    → s ≡ slice_index_or n.scopes place s → slice_get n.scopes place ≡ Some s
scope_read n id place s stands read =
    slice_get_read n.scopes (length n.scopes) place s refl (scope_within n id place stands) read

pub scope_spotted : (n : NodeState) (id : Id) (test : ScopeState → Bool) (place : ℕ) (s : ScopeState) → NodeFits n → Owns id test
    → slice_get n.scopes place ≡ Some s → test s ≡ true → find test n.scopes ≡ slice_get n.scopes place
scope_spotted n id test place s fits owns at passes =
    let among : Among n.scopes s = among_at n.scopes place s at in
    only_found test n.scopes s among passes
    (λ t of_t passes_too. owners_are_one n t s id id fits of_t among (owns t passes_too) (owns s passes) refl)
    ∙ sym at

pub not_in_scope : (n : NodeState) (id : Id) (test : ScopeState → Bool) (place : ℕ) (s : ScopeState) → NodeFits n → Owns id test
    → StandsAt n id (spots.InScope place) → slice_get n.scopes place ≡ Some s → test s ≡ false → find test n.scopes ≡ None
not_in_scope n id test place s fits owns stands at fails =
    let of_s : Among n.scopes stands.0 = among_at n.scopes place stands.0 stands.1 in
    let both : ◌≡◌ {A = Option ScopeState} (Some stands.0) (Some s) = sym stands.1 ∙ at in
    let same : stands.0 ≡ s = cc in
    none_passes test n.scopes
    (λ t of_t passes.
    let one : t ≡ stands.0 = owners_are_one n t stands.0 id id fits of_t of_s (owns t passes) (owns_object id stands.0 stands.2) refl in
    true≢false (sym passes ∙ ap test (one ∙ same) ∙ fails))

pub not_lone : (n : NodeState) (id : Id) (place : ℕ) → NodeFits n → StandsAt n id (spots.InScope place) → lone_with n id ≡ None
not_lone n id place fits stands =
    let of_s : Among n.scopes stands.0 = among_at n.scopes place stands.0 stands.1 in
    none_passes (λ (p : Part). same_id p.id id) n.parts
    (λ p of_p passes.
    no_lone_is_owned n stands.0 p id fits of_p of_s (owns_object id stands.0 stands.2)
    (ap (λ (x : Id). x.0) (sym (same_id_is p.id id passes))))

-- ---- a lone participant

pub lone_within : (n : NodeState) (id : Id) (place : ℕ) → StandsAt n id (spots.Lone place) → place < length n.parts
lone_within n id place stands = slice_get_within n.parts place stands.0 stands.1

pub lone_spotted : (n : NodeState) (id : Id) (place : ℕ) → NodeFits n → StandsAt n id (spots.Lone place)
    → lone_with n id ≡ slice_get n.parts place
lone_spotted n id place fits stands =
    let of_p : Among n.parts stands.0 = among_at n.parts place stands.0 stands.1 in
    let is : stands.0.id ≡ id = same_id_is stands.0.id id stands.2 in
    only_found (λ (p : Part). same_id p.id id) n.parts stands.0 of_p stands.2
    (λ q of_q passes. one_lone n q stands.0 fits of_q of_p (ap (λ (x : Id). x.0) (same_id_is q.id id passes ∙ sym is)))
    ∙ sym stands.1

pub lone_in_no_scope : (n : NodeState) (id : Id) (test : ScopeState → Bool) (place : ℕ) → NodeFits n → Owns id test
    → StandsAt n id (spots.Lone place) → find test n.scopes ≡ None
lone_in_no_scope n id test place fits owns stands =
    let of_p : Among n.parts stands.0 = among_at n.parts place stands.0 stands.1 in
    let is : stands.0.id ≡ id = same_id_is stands.0.id id stands.2 in
    none_passes test n.scopes
    (λ t of_t passes. no_lone_is_owned n t stands.0 id fits of_p of_t (owns t passes) (ap (λ (x : Id). x.0) (sym is)))

-- ---- an identifier that no object has

none_above : (f : Id → ℕ) (xs : List Id) (x : Id) → Among xs x → f x ≤ greatest (map f xs)
none_above f [] x among = absurd among
none_above f (y ∷ more) x (inl same) = let is : f y ≡ f x = ap f same in omega arith
none_above f (y ∷ more) x (inr later) = let rest = none_above f more x later in omega arith

used_may : (n : NodeState) (id : Id) → NodeFits n → Among (ids n) id → may_be_used n id ≡ true
used_may n id fits among =
    let at : IsIdAt n.number id = all_among (IsIdAt n.number) (ids n) id fits.here among in
    let small : at.counter < 2 ^ 64 = at.is_counter.1 in
    let is : counter id ≡ at.counter = ap counter_of at.spelled ∙ omega (arith, small) in
    let from_1 : 1 ≤ at.counter = at.is_counter.0 in
    let up_to : counter id ≤ last n = none_above counter (ids n) id among in
    and_from (nat_le 1 (counter id)) _ (grind (arith, nat_tests))
    (and_from (nat_le (counter id) (last n)) _ (grind (arith, nat_tests))
    (number_is_same (id_at n (counter id)) id (ap (id_of n.number) is ∙ sym at.spelled)))

pub unused_stands : (n : NodeState) (id : Id) → NodeFits n → may_be_used n id ≡ false → StandsAt n id spots.Nowhere
unused_stands n id fits unused among = true≢false (sym (used_may n id fits among) ∙ unused)

pub nowhere_in_scopes : (n : NodeState) (id : Id) (test : ScopeState → Bool) → Owns id test → StandsAt n id spots.Nowhere
    → find test n.scopes ≡ None
nowhere_in_scopes n id test owns stands =
    none_passes test n.scopes
    (λ t of_t passes. stands (among_left (ids_in_scopes n) (lone_ids n) id (in_scopes n t id of_t (owns t passes))))

pub nowhere_lone : (n : NodeState) (id : Id) → StandsAt n id spots.Nowhere → lone_with n id ≡ None
nowhere_lone n id stands =
    none_passes (λ (p : Part). same_id p.id id) n.parts
    (λ p of_p passes.
    let here : Among (lone_ids n) p.id = among_map (λ (x : Part). x.id) n.parts p of_p in
    stands (among_right (ids_in_scopes n) (lone_ids n) id
    (subst (λ (x : Id). Among (lone_ids n) x) (same_id_is p.id id passes) here)))

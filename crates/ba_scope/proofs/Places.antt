-- A write at the place of an end is the change of the end with that Id, since no two ends have one Id.
use Rattle.std.proofs.Common.{◌≡◌, ℕ, zero, suc, true, not, List, [], ◌∷◌, map, Some, nat_eq, slice_get, slice_set, refl, sym, ap, ◌∙◌}
use Rattle.std.proofs.Common.{subst, arith, true≢false}
use Rattle.std.specs.List.{list_all}
use Rattle.std.proofs.lemmas.Bool.{and_parts}
use Rattle.std.proofs.lemmas.Bool.Decides.{nat_tests}
use Rattle.ba_core.specs.declared.identifiers.Id.{Id}
use Rattle.ba_scope_ends.proofs.Places.{found_passes}
use Rattle.ba_link.proofs.Everywhere.{at_place}
use Rattle.ba_message.specs.Endpoints.{same_epr}
use Rattle.ba_scope_ends.specs.declared.ends.End.{End}
use Rattle.ba_scope.specs.Fits.{are_apart, is_other_end}
use Rattle.ba_scope.specs.Rules.{changed_at, with_end_changed}
use Rattle.ba_scope_ends.specs.Ends.{end_with_id, same_id}
use Rattle.ba_scope.specs.Scope.{ScopeState}
use Rattle.ba_scope.proofs.Lists.{by_test}

-- a number that equals one equals no other
other_number : (x y z : ℕ) → nat_eq x z ≡ true → not (nat_eq x y) ≡ true → nat_eq y z ≡ true → ⊥
other_number x y z h k l = grind (arith, nat_tests)

pub not_this : (id : Id) (e x : End) → same_id e.id id ≡ true → is_other_end e x ≡ true → same_id x.id id ≡ true → ⊥
not_this id e x is other same =
    let unlike = (and_parts (not (same_id e.id x.id)) (not (same_epr e.participant x.participant)) other).0 in
    other_number e.id.0 x.id.0 id.0 is unlike same

pub stays : (id : Id) (f : End → End) (x : End) → (same_id x.id id ≡ true → ⊥) → x ≡ changed_at id f x
stays id f x other = by_test (λ y. x ≡ y) (same_id x.id id) (f x) x (λ same. absurd (other same)) (λ _. refl)

pub moves : (id : Id) (f : End → End) (x : End) → same_id x.id id ≡ true → f x ≡ changed_at id f x
moves id f x same = by_test (λ y. f x ≡ y) (same_id x.id id) (f x) x (λ _. refl) (λ h. absurd (true≢false (sym same ∙ h)))

pub others_stay : (id : Id) (f : End → End) (e : End) → same_id e.id id ≡ true → (es : List End) → list_all (is_other_end e) es ≡ true
    → es ≡ map (changed_at id f) es
others_stay id f e is [] h = refl
others_stay id f e is (x ∷ es) h =
    let both = and_parts (is_other_end e x) (list_all (is_other_end e) es) h in
    let here = stays id f x (not_this id e x is both.0) in
    let rest = others_stay id f e is es both.1 in
    λ i. here i ∷ rest i

pub set_is_change : (id : Id) (f : End → End) (es : List End) (k : ℕ) (e : End) → are_apart es ≡ true → slice_get es k ≡ Some e
    → same_id e.id id ≡ true → slice_set es k (f e) ≡ map (changed_at id f) es
set_is_change id f [] k e apart at is = cc
set_is_change id f (x ∷ es) zero e apart at is =
    let both = and_parts (list_all (is_other_end x) es) (are_apart es) apart in
    let same : x ≡ e = cc in
    let this : same_id x.id id ≡ true = subst (λ (y : End). same_id y.id id ≡ true) (sym same) is in
    let here : f e ≡ changed_at id f x = ap f (sym same) ∙ moves id f x this in
    let rest = others_stay id f x this es both.0 in
    λ i. here i ∷ rest i
set_is_change id f (x ∷ es) (suc k) e apart at is =
    let both = and_parts (list_all (is_other_end x) es) (are_apart es) apart in
    let other = at_place (is_other_end x) es k e at both.0 in
    let here = stays id f x (λ same. not_this id x e same other is) in
    let rest = set_is_change id f es k e both.1 at is in
    λ i. here i ∷ rest i

-- ---- a scope whose end at a place was changed

pub changed_scope : (s : ScopeState) (id : Id) (change : End → End) (k : ℕ) (e e2 : End) (items : List End) → are_apart s.ends ≡ true
    → end_with_id s.ends id ≡ Some e → slice_get s.ends k ≡ Some e → e2 ≡ change e → items ≡ slice_set s.ends k e2
    → with_end_changed id change s ≡ record s { ends = items }
changed_scope s id change k e e2 items apart found at same set =
    let passes = found_passes (λ (x : End). same_id x.id id) s.ends e found in
    let whole : items ≡ map (changed_at id change) s.ends =
    set ∙ ap (slice_set s.ends k) same ∙ set_is_change id change s.ends k e apart at passes in
    λ i. record s { ends = sym whole i }

-- The bag of a pair as what was sent on its link.
use Rattle.std.proofs.Common.{◌≡◌, ℕ, List, [], ◌∷◌, ◌++◌, map, slice_get, Option, Some, Contains, refl, ap, ◌∙◌, subst, suc, zero}
use Rattle.std.specs.List.{AllByRecursion}
use Rattle.std.specs.Option.{option_to_list, option_map}
use Rattle.std.proofs.lemmas.Option.{slice_get-map, slice_get_within, get_or_from_slice_get}

-- what is sent joins the messages
pub map-joined : {A B : Type 0} (f : A → B) (xs : List A) (said : Option A)
    → map f (xs ++ option_to_list said) ≡ map f xs ++ map f (option_to_list said)
map-joined f [] said = refl
map-joined f (x ∷ xs) said = ap (λ ys. f x ∷ ys) (map-joined f xs said)

-- what holds of all, and of what joins them, holds of all then
pub all_joined : {A : Type 0} (P : A → Type 0) (xs ys : List A) → AllByRecursion P xs → AllByRecursion P ys → AllByRecursion P (xs ++ ys)
all_joined P [] ys all more = more
all_joined P (x ∷ xs) ys all more = (all.0, all_joined P xs ys all.1 more)

-- what holds of all holds of the one at a place
pub all_at : {A : Type 0} (P : A → Type 0) (xs : List A) (k : ℕ) (x : A) → AllByRecursion P xs → slice_get xs k ≡ Some x → P x
all_at P [] k x all h = absurd (cc)
all_at P (y ∷ ys) zero x all h = let same : y ≡ x = cc in subst P same all.0
all_at P (y ∷ ys) (suc k) x all h = all_at P ys k x all.1 h

-- a message of the bag was sent
pub sent_at : {A B : Type 0} (f : A → B) (xs : List A) (k : ℕ) (x : A) → slice_get xs k ≡ Some x → Contains (map f xs) (f x)
sent_at f xs k x h =
    let there : slice_get (map f xs) k ≡ Some (f x) = slice_get-map f xs k ∙ ap (option_map f) h in
    (k, slice_get_within (map f xs) k (f x) there, get_or_from_slice_get (map f xs) k (f x) (f x) there)

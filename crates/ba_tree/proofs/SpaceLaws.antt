-- A row of namespaces after those of a tree.
use Rattle.std.proofs.Common.{true, false, ◌<◌, ◌+◌, ◌≤◌, length, drop, get_or, suc, take, slice_set, nat_lt, nat_eq, arith, ◌≡◌, ◌||◌}
use Rattle.std.proofs.Common.{◌++◌, ◌∷◌, ℕ, Bool, List, [], map, refl, sym, ap, ◌∙◌, Option, Some, None}
use Rattle.std.proofs.lemmas.Bool.Decides.{nat_tests}
use Rattle.std.proofs.lemmas.List.{take_more_set, length-map, length-take}
use Rattle.std.proofs.Math.Seq.{drop-cons}
use Rattle.std.specs.List.{list_any}
use Rattle.std.specs.Str.{bytes_eq}
use Rattle.ba_tree.specs.declared.trees.Tree.{Tree}
use Rattle.ba_tree.specs.Trees.{joined, named_spaces, spaces_named, within}
use Rattle.ba_tree.specs.Spaces.{is_noted, noted, go_on, all_noted, spaces_within}
use Rattle.ba_tree.proofs.TreeLaws.{elements_in}

pub any_map : {X Y : Type 0} (test : Y → Bool) (f : X → Y) (xs : List X) → list_any test (map f xs) ≡ list_any (λ x. test (f x)) xs
any_map test f [] = refl
any_map test f (x ∷ xs) = ap (λ b. test (f x) || b) (any_map test f xs)

pub append_assoc : {X : Type 0} (xs ys zs : List X) → (xs ++ ys) ++ zs ≡ xs ++ (ys ++ zs)
append_assoc [] ys zs = refl
append_assoc (x ∷ xs) ys zs = ap (λ l. x ∷ l) (append_assoc xs ys zs)

joined_append : {X : Type 0} (xs ys : List (List X)) → joined (xs ++ ys) ≡ joined xs ++ joined ys
joined_append [] ys = refl
joined_append (x ∷ xs) ys = ap (λ l. x ++ l) (joined_append xs ys) ∙ sym (append_assoc x (joined xs) (joined ys))

map_append : {X Y : Type 0} (f : X → Y) (xs ys : List X) → map f (xs ++ ys) ≡ map f xs ++ map f ys
map_append f [] ys = refl
map_append f (x ∷ xs) ys = ap (λ l. f x ∷ l) (map_append f xs ys)

-- what the elements name, one after another, part by part
joined_twice : {X Y Z : Type 0} (f : Y → List Z) (g : X → List Y) (xs : List X)
    → joined (map f (joined (map g xs))) ≡ joined (map (λ x. joined (map f (g x))) xs)
joined_twice f g [] = refl
joined_twice f g (x ∷ xs) =
    ap joined (map_append f (g x) (joined (map g xs))) ∙ joined_append (map f (g x)) (map f (joined (map g xs)))
    ∙ ap (λ l. joined (map f (g x)) ++ l) (joined_twice f g xs)

pub spaces_in : (t : Tree) → spaces_named t ≡ t.name.space ∷ (map (λ a. a.name.space) t.attributes ++ joined (map spaces_within t.content))
spaces_in t = ap (λ es. joined (map named_spaces es)) (elements_in t) ∙ ap (λ l. t.name.space ∷ (map (λ a. a.name.space) t.attributes ++ l))
    (joined_twice named_spaces (λ c. (within c).elements) t.content)

go_on_twice : (o : Option (List (List ℕ))) (f g : List (List ℕ) → Option (List (List ℕ)))
    → go_on (go_on o f) g ≡ go_on o (λ k. go_on (f k) g)
go_on_twice None f g = refl
go_on_twice (Some k) f g = refl

pub noted_append : (most : ℕ) (known xs ys : List (List ℕ))
    → all_noted most known (xs ++ ys) ≡ go_on (all_noted most known xs) (λ now. all_noted most now ys)
noted_append most known [] ys = refl
noted_append most known (x ∷ xs) ys =
    (λ i. go_on (noted most known x) (λ now. noted_append most now xs ys i))
    ∙ sym (go_on_twice (noted most known x) (λ now. all_noted most now xs) (λ now. all_noted most now ys))

pub put_last : {X : Type 0} (f : X → List ℕ) (row : List X) (count : ℕ) (x : X) → count < length row
    → map f (take (count + 1) (slice_set row count x)) ≡ map f (take count row) ++ f x ∷ []
put_last f row count x lt = ap (map f) (take_more_set row count x lt) ∙ map_append f (take count row) (x ∷ [])

pub noted_new : (most : ℕ) (known : List (List ℕ)) (x : List ℕ) → is_noted known x ≡ false → length known < most
    → noted most known x ≡ Some (known ++ x ∷ [])
noted_new most known x fresh room =
    (λ i. elim (fresh i) [ true ↦ Some known | false ↦ elim (nat_lt (length known) most) [ true ↦ Some (known ++ x ∷ []) | false ↦ None ] ])
    ∙ (λ i. elim (lt_test (length known) most room i) [ true ↦ Some (known ++ x ∷ []) | false ↦ None ])
  where
    lt_test : (m n : ℕ) → m < n → nat_lt m n ≡ true
    lt_test m n lt = grind (arith, nat_tests)

pub row_length : {X : Type 0} (f : X → List ℕ) (row : List X) (count : ℕ) → count ≤ length row → length (map f (take count row)) ≡ count
row_length f row count le = omega (arith, length-map (take count row) f, length-take count row, le)

empty_test : (x : List ℕ) → bytes_eq x [] ≡ nat_eq (length x) 0
empty_test [] = refl
empty_test (x ∷ xs) = grind (arith, nat_tests)

pub is_fresh : (known : List (List ℕ)) (x : List ℕ) → nat_eq (length x) 0 ≡ false → list_any (bytes_eq x) known ≡ false
    → is_noted known x ≡ false
is_fresh known x some other = (λ i. (empty_test x ∙ some) i || other i)

pub noted_tree : (most : ℕ) (known : List (List ℕ)) (t : Tree) → all_noted most known (spaces_named t)
    ≡ go_on (noted most known t.name.space) (λ now. go_on (all_noted most now (map (λ a. a.name.space) t.attributes))
    (λ later. all_noted most later (joined (map spaces_within t.content))))
noted_tree most known t =
    ap (all_noted most known) (spaces_in t) ∙ (λ i. go_on (noted most known t.name.space)
    (λ now. noted_append most now (map (λ a. a.name.space) t.attributes) (joined (map spaces_within t.content)) i))

next_part : {X : Type 0} (xs : List X) (i : ℕ) (d : X) → i < length xs → drop i xs ≡ get_or xs i d ∷ drop (i + 1) xs
next_part xs i d lt = drop-cons xs i d lt ∙ ap (λ n. get_or xs i d ∷ drop n xs) (one_more i)
  where
    one_more : (i : ℕ) → suc i ≡ i + 1
    one_more i = omega arith

pub part_step : {X : Type 0} (f : X → List (List ℕ)) (most : ℕ) (known : List (List ℕ)) (parts : List X) (i : ℕ) (part : X)
    (after : Option (List (List ℕ))) → i < length parts → part ≡ get_or parts i part
    → after ≡ all_noted most known (f part) → all_noted most known (joined (map f (drop i parts)))
    ≡ go_on after (λ now. all_noted most now (joined (map f (drop (i + 1) parts))))
part_step f most known parts i part after lt is leads =
    ap (λ l. all_noted most known (joined (map f l))) (next_part parts i part lt)
    ∙ noted_append most known (f (get_or parts i part)) (joined (map f (drop (i + 1) parts)))
    ∙ ap (λ o. go_on o (λ now. all_noted most now (joined (map f (drop (i + 1) parts)))))
    (ap (λ p. all_noted most known (f p)) (sym is) ∙ sym leads)

-- Members of lists, and lists of identifiers of which none stands twice; for the law that steps keep a node fit.
use Rattle.std.proofs.Common.{◌≡◌, inl, inr, ℕ, ◌+◌, ◌≤◌, Bool, true, false, List, [], ◌∷◌, ◌++◌, length, map, refl, sym, ap, ◌∙◌, subst}
use Rattle.std.proofs.Common.{arith, true≢false}
use Rattle.std.specs.List.{AllByRecursion, IsDistinct}
use Rattle.std.proofs.lemmas.Bool.Decides.{nat_tests}
use Rattle.ba_core.specs.declared.identifiers.Id.{Id}
use Rattle.ba_scope_ends.specs.Ends.{same_id}
use Rattle.ba_node_steps.specs.Node.{Among}
use Rattle.ba_tree.specs.Trees.{joined, greatest}

-- ---- what holds of each

pub all_among : {A : Type 0} (P : A → Type 0) (xs : List A) (x : A) → AllByRecursion P xs → Among xs x → P x
all_among P [] x all h = absurd h
all_among P (y ∷ ys) x all (inl same) = subst P same all.0
all_among P (y ∷ ys) x all (inr later) = all_among P ys x all.1 later

pub among_all : {A : Type 0} (P : A → Type 0) (xs : List A) → ((x : A) → Among xs x → P x) → AllByRecursion P xs
among_all P [] h = tt
among_all P (y ∷ ys) h = (h y (inl refl), among_all P ys (λ x later. h x (inr later)))

pub all_append : {A : Type 0} (P : A → Type 0) (xs ys : List A) → AllByRecursion P xs → AllByRecursion P ys → AllByRecursion P (xs ++ ys)
all_append P [] ys left right = right
all_append P (x ∷ xs) ys left right = (left.0, all_append P xs ys left.1 right)

pub all_left : {A : Type 0} (P : A → Type 0) (xs ys : List A) → AllByRecursion P (xs ++ ys) → AllByRecursion P xs
all_left P [] ys all = tt
all_left P (x ∷ xs) ys all = (all.0, all_left P xs ys all.1)

pub all_right : {A : Type 0} (P : A → Type 0) (xs ys : List A) → AllByRecursion P (xs ++ ys) → AllByRecursion P ys
all_right P [] ys all = all
all_right P (x ∷ xs) ys all = all_right P xs ys all.1

-- ---- membership

pub among_left : {A : Type 0} (xs ys : List A) (x : A) → Among xs x → Among (xs ++ ys) x
among_left [] ys x h = absurd h
among_left (y ∷ xs) ys x (inl same) = inl same
among_left (y ∷ xs) ys x (inr later) = inr (among_left xs ys x later)

pub among_right : {A : Type 0} (xs ys : List A) (x : A) → Among ys x → Among (xs ++ ys) x
among_right [] ys x h = h
among_right (y ∷ xs) ys x h = inr (among_right xs ys x h)

pub among_map : {A B : Type 0} (f : A → B) (xs : List A) (x : A) → Among xs x → Among (map f xs) (f x)
among_map f [] x h = absurd h
among_map f (y ∷ ys) x (inl same) = inl (ap f same)
among_map f (y ∷ ys) x (inr later) = inr (among_map f ys x later)

pub among_joined : {A : Type 0} (lists : List (List A)) (xs : List A) (x : A) → Among lists xs → Among xs x → Among (joined lists) x
among_joined [] xs x h inside = absurd h
among_joined (ys ∷ more) xs x (inl same) inside = among_left ys (joined more) x (subst (λ zs. Among zs x) (sym same) inside)
among_joined (ys ∷ more) xs x (inr later) inside = among_right ys (joined more) x (among_joined more xs x later inside)

-- where a list stays under a change of its items, each item does
pub stays_among : {A : Type 0} (f : A → A) (xs : List A) (x : A) → map f xs ≡ xs → Among xs x → f x ≡ x
stays_among f [] x h among = absurd among
stays_among f (y ∷ ys) x h (inl same) = let head : f y ≡ y = cc in subst (λ z. f z ≡ z) same head
stays_among f (y ∷ ys) x h (inr later) = let rest : map f ys ≡ ys = cc in stays_among f ys x rest later

-- ---- identifiers

pub same_by_number : (a b : Id) → same_id a b ≡ true → a.0 ≡ b.0
same_by_number a b h = grind (arith, nat_tests)

pub id_by_number : (a b : Id) → a.0 ≡ b.0 → a ≡ b
id_by_number a b h = λ i. record { 0 = h i }

pub same_id_is : (a b : Id) → same_id a b ≡ true → a ≡ b
same_id_is a b h = id_by_number a b (same_by_number a b h)

pub number_is_same : (a b : Id) → a.0 ≡ b.0 → same_id a b ≡ true
number_is_same a b h = grind (arith, nat_tests)

pub other_by_number : (a b : Id) → (a.0 ≡ b.0 → ⊥) → same_id a b ≡ false
other_by_number a b h = by_answer (same_id a b) refl
  where
    by_answer : (answer : Bool) → same_id a b ≡ answer → same_id a b ≡ false
    by_answer true is = absurd (h (same_by_number a b is))
    by_answer false is = is

pub is_other : (a b : Id) → same_id a b ≡ false → a.0 ≡ b.0 → ⊥
is_other a b h same = true≢false (sym (number_is_same a b same) ∙ h)

-- ---- lists in which no identifier stands twice

pub apart_left : (xs ys : List Id) → IsDistinct same_id (xs ++ ys) → IsDistinct same_id xs
unfolding IsDistinct
apart_left [] ys h = tt
apart_left (x ∷ xs) ys h = (all_left (λ y. same_id x y ≡ false) xs ys h.0, apart_left xs ys h.1)

pub apart_right : (xs ys : List Id) → IsDistinct same_id (xs ++ ys) → IsDistinct same_id ys
unfolding IsDistinct
apart_right [] ys h = h
apart_right (x ∷ xs) ys h = apart_right xs ys h.1

-- one of the first list, and one of the second
pub apart_across : (xs ys : List Id) (a b : Id) → IsDistinct same_id (xs ++ ys) → Among xs a → Among ys b → a.0 ≡ b.0 → ⊥
unfolding IsDistinct
apart_across [] ys a b h among later same = absurd among
apart_across (x ∷ xs) ys a b h (inl is) later same =
    let other : same_id x b ≡ false = all_among (λ y. same_id x y ≡ false) (xs ++ ys) b h.0 (among_right xs ys b later) in
    is_other x b other (ap (λ (y : Id). y.0) is ∙ same)
apart_across (x ∷ xs) ys a b h (inr further) later same = apart_across xs ys a b h.1 further later same

-- of two items that have lists of identifiers, with one in common, both are one
pub one_owner : {A : Type 0} (f : A → List Id) (xs : List A) (x y : A) (a b : Id) → IsDistinct same_id (joined (map f xs))
    → Among xs x → Among xs y → Among (f x) a → Among (f y) b → a.0 ≡ b.0 → x ≡ y
one_owner f [] x y a b h among other of_x of_y same = absurd among
one_owner f (z ∷ zs) x y a b h (inl is) (inl is_too) of_x of_y same = sym is ∙ is_too
one_owner f (z ∷ zs) x y a b h (inl is) (inr later) of_x of_y same =
    let here : Among (f z) a = subst (λ w. Among (f w) a) (sym is) of_x in
    let there : Among (joined (map f zs)) b = among_joined (map f zs) (f y) b (among_map f zs y later) of_y in
    absurd (apart_across (f z) (joined (map f zs)) a b h here there same)
one_owner f (z ∷ zs) x y a b h (inr later) (inl is) of_x of_y same =
    let here : Among (f z) b = subst (λ w. Among (f w) b) (sym is) of_y in
    let there : Among (joined (map f zs)) a = among_joined (map f zs) (f x) a (among_map f zs x later) of_x in
    absurd (apart_across (f z) (joined (map f zs)) b a h here there (sym same))
one_owner f (z ∷ zs) x y a b h (inr later) (inr later_too) of_x of_y same =
    one_owner f zs x y a b (apart_right (f z) (joined (map f zs)) h) later later_too of_x of_y same

-- of two items with one identifier, both are one
pub one_item : {A : Type 0} (g : A → Id) (xs : List A) (x y : A) → IsDistinct same_id (map g xs) → Among xs x → Among xs y
    → (g x).0 ≡ (g y).0 → x ≡ y
unfolding IsDistinct
one_item g [] x y h among other same = absurd among
one_item g (z ∷ zs) x y h (inl is) (inl is_too) same = sym is ∙ is_too
one_item g (z ∷ zs) x y h (inl is) (inr later) same =
    let other : same_id (g z) (g y) ≡ false = all_among (λ w. same_id (g z) w ≡ false) (map g zs) (g y) h.0 (among_map g zs y later) in
    absurd (is_other (g z) (g y) other (ap (λ w. (g w).0) is ∙ same))
one_item g (z ∷ zs) x y h (inr later) (inl is) same =
    let other : same_id (g z) (g x) ≡ false = all_among (λ w. same_id (g z) w ≡ false) (map g zs) (g x) h.0 (among_map g zs x later) in
    absurd (is_other (g z) (g x) other (ap (λ w. (g w).0) is ∙ sym same))
one_item g (z ∷ zs) x y h (inr later) (inr later_too) same = one_item g zs x y h.1 later later_too same

-- ---- a list with one more item somewhere

pub record Inserts {A : Type 0} (new : A) (before after : List A) : Type 0 where
  pub left : List A
  pub right : List A
  pub was : before ≡ left ++ right
  pub is : after ≡ left ++ new ∷ right

pub inserts_all : {A : Type 0} (P : A → Type 0) (new : A) (left right : List A) → P new → AllByRecursion P (left ++ right)
    → AllByRecursion P (left ++ new ∷ right)
inserts_all P new [] right h all = (h, all)
inserts_all P new (x ∷ left) right h all = (all.0, inserts_all P new left right h all.1)

pub inserts_apart : (new : Id) (left right : List Id) → AllByRecursion (λ y. same_id new y ≡ false) (left ++ right)
    → IsDistinct same_id (left ++ right)
    → IsDistinct same_id (left ++ new ∷ right)
unfolding IsDistinct
inserts_apart new [] right fresh h = (fresh, h)
inserts_apart new (x ∷ left) right fresh h =
    let other : same_id x new ≡ false = other_by_number x new (λ same. is_other new x fresh.0 (sym same)) in
    (inserts_all (λ y. same_id x y ≡ false) new left right other h.0, inserts_apart new left right fresh.1 h.1)

pub inserts_length : {A : Type 0} (new : A) (left right : List A) → length (left ++ new ∷ right) ≡ 1 + length (left ++ right)
inserts_length new [] right = omega arith
inserts_length new (x ∷ left) right = let rest = inserts_length new left right in omega (arith, rest)

pub inserts_greatest : (f : Id → ℕ) (new : Id) (left right : List Id) → greatest (map f (left ++ right)) ≤ f new
    → greatest (map f (left ++ new ∷ right)) ≡ f new
inserts_greatest f new [] right h = omega (arith, h)
inserts_greatest f new (x ∷ left) right h = let rest = inserts_greatest f new left right (omega (arith, h)) in omega (arith, h, rest)

-- Namespaces are held once each, in the order in which they are met.
use Rattle.std.proofs.Common.{◌≡◌, ℕ, Bool, true, false, not, ◌&&◌, ◌||◌, List, [], ◌∷◌, ◌++◌, map, refl, sym, ap, ◌∙◌, append_assoc}
use Rattle.std.proofs.Common.{append-nil, subst, add-one, length, length-append, drop, get_or, le_refl, ◌+◌, ◌<◌, ◌≤◌, arith, cond}
use Rattle.std.proofs.Common.{if◌then◌else◌, filter}
use Rattle.std.proofs.lemmas.List.{map-append}
use Rattle.std.proofs.Math.Seq.{drop-cons}
use Rattle.std.proofs.lemmas.List.Folds.{list_any-append}
use Rattle.std.proofs.lemmas.Slice.Eq.{bytes_eq-Decides}
use Rattle.std.specs.List.{list_any}
use Rattle.std.specs.Str.{bytes_eq}
use Rattle.indexmap.specs.IndexSet.{insert_key}
use Rattle.ba_tree.specs.Trees.{spaces_named, firsts, without}
use Rattle.ba_tree.specs.Trees.{Element, joined, named_spaces, within}
use Rattle.ba_tree.specs.declared.trees.Attribute.{Attribute}
use Rattle.ba_tree.specs.declared.trees.Content.{Content}
use Rattle.ba_tree.specs.declared.trees.Tree.{Tree}
use Rattle.ba_tree.proofs.TreeLaws.{elements_in}
use Rattle.ba_xml_writer.specs.Collected.{taken, spaces_with, spaces_in, spaces_of}
use Rattle.ba_xml_writer.specs.Namespaces.{is_further, further}

held_or_added : (b : Bool) (ks : List (List ℕ)) (k : List ℕ) → (if b then ks else ks ++ k ∷ []) ≡ (if not b then ks ++ k ∷ [] else ks)
held_or_added true ks k = refl
held_or_added false ks k = refl

pub inserted : (ks new : List (List ℕ)) (k : List ℕ) (rest : List (List ℕ)) → is_further k ≡ true → new ≡ insert_key bytes_eq ks k
    → taken new rest ≡ taken ks (k ∷ rest)
inserted ks new k rest f e =
    ap (λ held. taken held rest)
    (e
    ∙ (held_or_added (list_any (bytes_eq k) ks) ks k
    ∙ ap (λ b. if b && not (list_any (bytes_eq k) ks) then ks ++ k ∷ [] else ks) (sym f)))

-- ---- the namespaces of a tree, part by part

joined-append : {X : Type 0} (xss yss : List (List X)) → joined (xss ++ yss) ≡ joined xss ++ joined yss
joined-append [] yss = refl
joined-append (xs ∷ xss) yss = ap (λ l. xs ++ l) (joined-append xss yss) ∙ sym (append_assoc xs (joined xss) (joined yss))

with_all : (list : List Attribute) (rest : List (List ℕ)) → map (λ a. a.name.space) list ++ rest ≡ spaces_with list rest
with_all [] rest = refl
with_all (a ∷ list) rest = ap (λ l. a.name.space ∷ l) (with_all list rest)

in_all : (list : List Content) (rest : List (List ℕ))
    → joined (map named_spaces (joined (map (λ c. (within c).elements) list))) ++ rest ≡ spaces_in list rest
in_all [] rest = refl
in_all (c ∷ list) rest =
    let later : List Element = joined (map (λ c. (within c).elements) list) in
    ap (λ l. joined l ++ rest) (map-append named_spaces (within c).elements later)
    ∙ (ap (λ l. l ++ rest) (joined-append (map named_spaces (within c).elements) (map named_spaces later))
    ∙ (append_assoc (spaces_of c) (joined (map named_spaces later)) rest
    ∙ ap (λ l. spaces_of c ++ l) (in_all list rest)))

pub tree_spaces : (t : Tree) (rest : List (List ℕ))
    → spaces_named t ++ rest ≡ t.name.space ∷ spaces_with t.attributes (spaces_in t.content rest)
tree_spaces t rest =
    let inner : List (List ℕ) = joined (map named_spaces (joined (map (λ c. (within c).elements) t.content))) in
    ap (λ es. joined (map named_spaces es) ++ rest) (elements_in t)
    ∙ ap (λ l. t.name.space ∷ l)
    (append_assoc (map (λ a. a.name.space) t.attributes) inner rest
    ∙ (ap (λ l. map (λ a. a.name.space) t.attributes ++ l) (in_all t.content rest)
    ∙ with_all t.attributes (spaces_in t.content rest)))

-- the same of parts that are read one by one
pub tree_met : (t : Tree) (rest : List (List ℕ)) (s : List ℕ) (atts : List Attribute) (cs : List Content) → s ≡ t.name.space
    → atts ≡ t.attributes → cs ≡ t.content
    → s ∷ spaces_with atts (spaces_in cs rest) ≡ spaces_named t ++ rest
tree_met t rest s atts cs e f g = (λ i. e i ∷ spaces_with (f i) (spaces_in (g i) rest)) ∙ sym (tree_spaces t rest)

-- ---- what is held in the end

abbrev fresh : List (List ℕ) → List ℕ → Bool
fresh held s = is_further s && not (list_any (bytes_eq s) held)

sift_step : (b : Bool) (f g : List ℕ → Bool) (x y : List ℕ) (ys : List (List ℕ)) → filter f (without x ys) ≡ filter g ys
    → (b ≡ true → g y ≡ false) → (b ≡ false → f y ≡ g y)
    → filter f (elim b [ true ↦ without x ys | false ↦ y ∷ without x ys ]) ≡ cond (g y) (y ∷ filter g ys) (filter g ys)
sift_step true f g x y ys ih gone kept = ih ∙ ap (λ b. cond b (y ∷ filter g ys) (filter g ys)) (sym (gone refl))
sift_step false f g x y ys ih gone kept =
    ap (λ b. cond b (y ∷ filter f (without x ys)) (filter f (without x ys))) (kept refl)
    ∙ ap (λ l. cond (g y) (y ∷ l) l) ih

sift : (f g : List ℕ → Bool) (x : List ℕ) (ys : List (List ℕ)) → ((y : List ℕ) → bytes_eq x y ≡ true → g y ≡ false)
    → ((y : List ℕ) → bytes_eq x y ≡ false → f y ≡ g y) → filter f (without x ys) ≡ filter g ys
sift f g x [] gone kept = refl
sift f g x (y ∷ ys) gone kept = sift_step (bytes_eq x y) f g x y ys (sift f g x ys gone kept) (gone y) (kept y)

not_same : (b : Bool) (x y : List ℕ) → bytes_eq y x ≡ b → bytes_eq x y ≡ false → bytes_eq y x ≡ false
not_same false x y e h = e
not_same true x y e h = let same : y ≡ x = (bytes_eq-Decides y x).0 e in
    let both : bytes_eq x y ≡ true = (bytes_eq-Decides x y).1 (sym same) in absurd (cc)

and-true : (b : Bool) → (b && true) ≡ b
and-true true = refl
and-true false = refl

and-false : (b : Bool) → (b && false) ≡ false
and-false true = refl
and-false false = refl

or-true : (b : Bool) → (b || true) ≡ true
or-true true = refl
or-true false = refl

or-false : (b : Bool) → (b || false) ≡ b
or-false true = refl
or-false false = refl

held_now : (held : List (List ℕ)) (s y : List ℕ) → bytes_eq s y ≡ true → fresh (held ++ s ∷ []) y ≡ false
held_now held s y h =
    let same : s ≡ y = (bytes_eq-Decides s y).0 h in
    let back : bytes_eq y s ≡ true = (bytes_eq-Decides y s).1 (sym same) in
    ap (λ b. is_further y && not b) (list_any-append (bytes_eq y) held (s ∷ [])
    ∙ (ap (λ b. list_any (bytes_eq y) held || (b || false)) back ∙ or-true (list_any (bytes_eq y) held)))
    ∙ and-false (is_further y)

held_still : (held : List (List ℕ)) (s y : List ℕ) → bytes_eq s y ≡ false → fresh held y ≡ fresh (held ++ s ∷ []) y
held_still held s y h =
    ap (λ b. is_further y && not b)
    (sym (list_any-append (bytes_eq y) held (s ∷ [])
    ∙ (ap (λ b. list_any (bytes_eq y) held || (b || false)) (not_same (bytes_eq y s) s y refl h) ∙ or-false (list_any (bytes_eq y) held))))

same_fresh : (held : List (List ℕ)) (s y : List ℕ) → fresh held s ≡ false → bytes_eq s y ≡ true → fresh held y ≡ false
same_fresh held s y e h = ap (fresh held) (sym ((bytes_eq-Decides s y).0 h)) ∙ e

taken_step : (b : Bool) (held ss : List (List ℕ)) (s : List ℕ) → fresh held s ≡ b
    → ((more : List (List ℕ)) → taken more ss ≡ more ++ filter (fresh more) (firsts ss))
    → taken (if b then held ++ s ∷ [] else held) ss ≡ held
    ++ cond b (s ∷ filter (fresh held) (without s (firsts ss))) (filter (fresh held) (without s (firsts ss)))
taken_step true held ss s e ih =
    ih (held ++ s ∷ [])
    ∙ (append_assoc held (s ∷ []) (filter (fresh (held ++ s ∷ [])) (firsts ss))
    ∙ ap (λ l. held ++ s ∷ l) (sym (sift (fresh held) (fresh (held ++ s ∷ [])) s (firsts ss) (held_now held s) (held_still held s))))
taken_step false held ss s e ih =
    ih held ∙ ap (λ l. held ++ l) (sym (sift (fresh held) (fresh held) s (firsts ss) (λ y. same_fresh held s y e) (λ y h. refl)))

taken_is : (ss held : List (List ℕ)) → taken held ss ≡ held ++ filter (fresh held) (firsts ss)
taken_is [] held = sym (append-nil held)
taken_is (s ∷ ss) held = taken_step (fresh held s) held ss s refl (taken_is ss)

none_further : (y : List ℕ) → bytes_eq [] y ≡ true → fresh [] y ≡ false
none_further y h = ap (fresh []) (sym ((bytes_eq-Decides [] y).0 h))

-- the further namespaces, once each, in the order of first appearance
pub collected : (t : Tree) → taken [] (spaces_named t) ≡ further t
collected t =
    taken_is (spaces_named t) []
    ∙ sym (sift is_further (fresh []) [] (firsts (spaces_named t)) none_further (λ y h. sym (and-true (is_further y))))

-- ---- more than there is room for

grown_step : (b : Bool) (held ss : List (List ℕ)) (s : List ℕ) → ((more : List (List ℕ)) → length more ≤ length (taken more ss))
    → length held ≤ length (taken (if b then held ++ s ∷ [] else held) ss)
grown_step true held ss s ih = let more : length (held ++ s ∷ []) ≤ length (taken (held ++ s ∷ []) ss) = ih (held ++ s ∷ []) in
    omega (arith, length-append held (s ∷ []))
grown_step false held ss s ih = ih held

grown : (ss held : List (List ℕ)) → length held ≤ length (taken held ss)
grown [] held = le_refl (length held)
grown (s ∷ ss) held = grown_step (fresh held s) held ss s (grown ss)

pub past : (held : List (List ℕ)) (s : List ℕ) (rest : List (List ℕ)) → true ≡ is_further s → list_any (bytes_eq s) held ≡ false
    → length held ≡ 28
    → 28 < length (taken held (s ∷ rest))
past held s rest f e n =
    let now : taken held (s ∷ rest) ≡ taken (held ++ s ∷ []) rest
    = ap (λ b. taken (if b && not (list_any (bytes_eq s) held) then held ++ s ∷ [] else held) rest) (sym f)
    ∙ ap (λ b. taken (if not b then held ++ s ∷ [] else held) rest) e in
    let more : length (held ++ s ∷ []) ≤ length (taken (held ++ s ∷ []) rest) = grown rest (held ++ s ∷ []) in
    omega (arith, ap length now, length-append held (s ∷ []))

pub past_row : (ks held : List (List ℕ)) (s : List ℕ) (rest : List (List ℕ)) → held ≡ ks → true ≡ is_further s
    → false ≡ list_any (bytes_eq s) held → length ks ≡ 28 → 28 < length (taken ks (s ∷ rest))
past_row ks held s rest h f e n = past ks s rest f (ap (list_any (bytes_eq s)) (sym h) ∙ sym e) n

pub front_met : (list : List Content) (i : ℕ) (c : Content) (rest : List (List ℕ)) → i < length list → c ≡ get_or list i c
    → spaces_in (drop i list) rest ≡ spaces_of c ++ spaces_in (drop (i + 1) list) rest
front_met list i c rest h e = rw (drop-cons list i c h, add-one i, ← e) refl

pub still_over : (a b : List (List ℕ)) → a ≡ b → 28 < length a → 28 < length b
still_over a b e h = subst (λ (l : List (List ℕ)). 28 < length l) e h

-- from nothing held to the further namespaces of a tree
pub begun : (ks : List (List ℕ)) (t : Tree) → ks ≡ [] → taken ks (spaces_named t ++ []) ≡ further t
begun ks t e =
    ap (λ l. taken l (spaces_named t ++ [])) e ∙ (ap (taken []) (append-nil (spaces_named t)) ∙ collected t)

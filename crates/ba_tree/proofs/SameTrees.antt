-- The tests of equality of names, attributes, content and trees are true of equal values alone.
use Rattle.std.proofs.Common.{◌≡◌, inl, inr, ◌≤◌, ◌+◌, ℕ, zero, suc, Bool, true, false, true≢false, ◌&&◌, List, [], ◌∷◌, map, refl, sym, ap}
use Rattle.std.proofs.Common.{◌∙◌, subst, arith}
use Rattle.std.proofs.lemmas.List.Sums.{sum_by-cons}
use Rattle.std.specs.Cmp.{first_so, second_so}
use Rattle.std.specs.Cmp.Lexicographic as lexicographic
use Rattle.std.specs.Cmp.Lexicographic.{pointwise}
use Rattle.std.specs.List.{sum_by}
use Rattle.std.specs.Str.{bytes_eq}
use Rattle.ba_tree.specs.declared.trees.Attribute.{Attribute}
use Rattle.ba_tree.specs.declared.trees.Name.{Name}
use Rattle.ba_tree.specs.declared.trees.Tree.{Tree}
use Rattle.ba_tree.specs.declared.trees.Content.{Content}
use Rattle.ba_tree.specs.declared.trees.Content.TheOpen as o
use Rattle.ba_tree.specs.declared.trees.Content.TheViews as v
use Rattle.ba_tree.specs.declared.trees.Content.TheVariants.{Child, Text, outs-Child, outs-Text, rolls-Child, rolls-Text}
use Rattle.ba_tree.specs.declared.trees.Content.TheFolds.{fold_out-Tree, fold-roll-Content}
use Rattle.ba_tree.specs.Lengths.{tree_length, part_length}
use Rattle.ba_tree.specs.Same.{same_name, same_attribute, same_content, same_tree, same_content_step, same_tree_step, all_in_place}
use Rattle.ba_tree.specs.Same.{same_part}
use Rattle.ba_tree.proofs.TreeLaws.{content_is, length_in, length_child}

both : (a b : Bool) → a ≡ true → b ≡ true → (a && b) ≡ true
both a b p q = (λ i. p i && b) ∙ q

-- ---- names and attributes

text_equal : (x y : List ℕ) → bytes_eq x y ≡ true → x ≡ y
text_equal x y h = lexicographic.same_text x y (sym h)

text_itself : (x : List ℕ) → bytes_eq x x ≡ true
text_itself = lexicographic.nat_list_eq_equiv.refl

pub names_equal : (a b : Name) → same_name a b ≡ true → a ≡ b
names_equal a b h =
    let space = text_equal a.space b.space (first_so (bytes_eq a.space b.space) (bytes_eq a.local b.local) h) in
    let local = text_equal a.local b.local (second_so (bytes_eq a.space b.space) (bytes_eq a.local b.local) h) in
    λ i. record { space = space i; local = local i }

pub name_itself : (a : Name) → same_name a a ≡ true
name_itself a = both (bytes_eq a.space a.space) (bytes_eq a.local a.local) (text_itself a.space) (text_itself a.local)

pub attributes_equal : (a b : Attribute) → same_attribute a b ≡ true → a ≡ b
attributes_equal a b h =
    let name = names_equal a.name b.name (first_so (same_name a.name b.name) (bytes_eq a.value b.value) h) in
    let value = text_equal a.value b.value (second_so (same_name a.name b.name) (bytes_eq a.value b.value) h) in
    λ i. record { name = name i; value = value i }

pub attribute_itself : (a : Attribute) → same_attribute a a ≡ true
attribute_itself a = both (same_name a.name a.name) (bytes_eq a.value a.value) (name_itself a.name) (text_itself a.value)

-- ---- lists, item by item

module _ {X : Type 0} (test : X → X → Bool) where
  pub lists_equal : ((x y : X) → test x y ≡ true → x ≡ y) → (xs ys : List X) → pointwise test xs ys ≡ true → xs ≡ ys
  lists_equal equal [] [] h = refl
  lists_equal equal [] (y ∷ ys) h = absurd (true≢false (sym h))
  lists_equal equal (x ∷ xs) [] h = absurd (true≢false (sym h))
  lists_equal equal (x ∷ xs) (y ∷ ys) h =
      let first = equal x y (first_so (test x y) (pointwise test xs ys) h) in
      let rest = lists_equal equal xs ys (second_so (test x y) (pointwise test xs ys) h) in
      λ i. first i ∷ rest i

  pub list_itself : ((x : X) → test x x ≡ true) → (xs : List X) → pointwise test xs xs ≡ true
  list_itself itself [] = refl
  list_itself itself (x ∷ xs) = both (test x x) (pointwise test xs xs) (itself x) (list_itself itself xs)

  in_place : (xs ys : List X) → all_in_place (map test xs) ys ≡ pointwise test xs ys
  in_place [] [] = refl
  in_place [] (y ∷ ys) = refl
  in_place (x ∷ xs) [] = refl
  in_place (x ∷ xs) (y ∷ ys) = ap (λ b. test x y && b) (in_place xs ys)

-- ---- the tests of content and of trees, one level down

pub same_in : (t u : Tree)
    → same_tree t u ≡ (same_name t.name u.name
    && (pointwise same_attribute t.attributes u.attributes && pointwise same_content t.content u.content))
same_in t u =
    ap (λ test. test u) (fold_out-Tree (Content → Bool) (Tree → Bool) same_content_step same_tree_step t)
    ∙ ap (λ b. same_name t.name u.name && (pointwise same_attribute t.attributes u.attributes && b))
    (in_place same_content t.content u.content)

text_before : (text : List ℕ) (d : Content) → same_content (Text text) d ≡ same_part (o.Text text) (v.out-Content d)
text_before text d =
    ap (λ c. same_content c d) (sym (rolls-Text text))
    ∙ ap (λ test. test d) (fold-roll-Content (Content → Bool) (Tree → Bool) same_content_step same_tree_step (o.Text text))

child_before : (tree : Tree) (d : Content) → same_content (Child tree) d ≡ same_part (o.Child (same_tree tree)) (v.out-Content d)
child_before tree d =
    ap (λ c. same_content c d) (sym (rolls-Child tree))
    ∙ ap (λ test. test d) (fold-roll-Content (Content → Bool) (Tree → Bool) same_content_step same_tree_step (o.Child tree))

pub same_texts : (text other : List ℕ) → same_content (Text text) (Text other) ≡ bytes_eq text other
same_texts text other = text_before text (Text other) ∙ ap (same_part (o.Text text)) (outs-Text other)

pub same_children : (t u : Tree) → same_content (Child t) (Child u) ≡ same_tree t u
same_children t u = child_before t (Child u) ∙ ap (same_part (o.Child (same_tree t))) (outs-Child u)

pub text_or_child : (text : List ℕ) (u : Tree) → same_content (Text text) (Child u) ≡ false
text_or_child text u = text_before text (Child u) ∙ ap (same_part (o.Text text)) (outs-Child u)

pub child_or_text : (t : Tree) (other : List ℕ) → same_content (Child t) (Text other) ≡ false
child_or_text t other = child_before t (Text other) ∙ ap (same_part (o.Child (same_tree t))) (outs-Text other)

-- ---- content and trees that are no longer than so much

abbrev EqualUpTo : ℕ → Type 0
EqualUpTo n = (t u : Tree) → tree_length t ≤ n → same_tree t u ≡ true → t ≡ u

abbrev ItselfUpTo : ℕ → Type 0
ItselfUpTo n = (t : Tree) → tree_length t ≤ n → same_tree t t ≡ true

content_equal : (n : ℕ) → EqualUpTo n → (c d : Content) → part_length c ≤ n → same_content c d ≡ true → c ≡ d
content_equal n trees c d short h =
    elim (content_is c) [
      | inl text ↦
          elim (content_is d) [
            | inl other ↦
                let same = sym (same_texts text.0 other.0) ∙ (λ i. same_content (sym text.1 i) (sym other.1 i)) ∙ h in
                text.1 ∙ ap Text (text_equal text.0 other.0 same) ∙ sym other.1
            | inr child ↦
                absurd (true≢false (sym h ∙ (λ i. same_content (text.1 i) (child.1 i)) ∙ text_or_child text.0 child.0))
          ]
      | inr tree ↦
          elim (content_is d) [
            | inl other ↦
                absurd (true≢false (sym h ∙ (λ i. same_content (tree.1 i) (other.1 i)) ∙ child_or_text tree.0 other.0))
            | inr child ↦
                let long : part_length c ≡ 1 + tree_length tree.0 = ap part_length tree.1 ∙ length_child tree.0 in
                let same = sym (same_children tree.0 child.0) ∙ (λ i. same_content (sym tree.1 i) (sym child.1 i)) ∙ h in
                tree.1 ∙ ap Child (trees tree.0 child.0 (omega arith) same) ∙ sym child.1
          ]
    ]

contents_equal : (n : ℕ) → EqualUpTo n → (cs ds : List Content) → sum_by part_length cs ≤ n → pointwise same_content cs ds ≡ true → cs ≡ ds
contents_equal n trees [] [] short h = refl
contents_equal n trees [] (d ∷ ds) short h = absurd (true≢false (sym h))
contents_equal n trees (c ∷ cs) [] short h = absurd (true≢false (sym h))
contents_equal n trees (c ∷ cs) (d ∷ ds) short h =
    let split = sum_by-cons part_length c cs in
    let first = content_equal n trees c d (omega arith) (first_so (same_content c d) (pointwise same_content cs ds) h) in
    let rest = contents_equal n trees cs ds (omega arith) (second_so (same_content c d) (pointwise same_content cs ds) h) in
    λ i. first i ∷ rest i

trees_equal_to : (n : ℕ) → EqualUpTo n
trees_equal_to zero t u short h = absurd (let long = length_in t in omega arith)
trees_equal_to (suc n) t u short h =
    let long = length_in t in
    let all = sym (same_in t u) ∙ h in
    let more = pointwise same_attribute t.attributes u.attributes && pointwise same_content t.content u.content in
    let later = second_so (same_name t.name u.name) more all in
    let attributes_same = first_so (pointwise same_attribute t.attributes u.attributes)
    (pointwise same_content t.content u.content) later in
    let content_same = second_so (pointwise same_attribute t.attributes u.attributes) (pointwise same_content t.content u.content) later in
    let name = names_equal t.name u.name (first_so (same_name t.name u.name) more all) in
    let attributes = lists_equal same_attribute attributes_equal t.attributes u.attributes attributes_same in
    let content = contents_equal n (trees_equal_to n) t.content u.content (omega arith) content_same in
    λ i. record { name = name i; attributes = attributes i; content = content i }

content_itself_to : (n : ℕ) → ItselfUpTo n → (c : Content) → part_length c ≤ n → same_content c c ≡ true
content_itself_to n trees c short =
    elim (content_is c) [
      | inl text ↦ (λ i. same_content (text.1 i) (text.1 i)) ∙ same_texts text.0 text.0 ∙ text_itself text.0
      | inr tree ↦
          let long : part_length c ≡ 1 + tree_length tree.0 = ap part_length tree.1 ∙ length_child tree.0 in
          (λ i. same_content (tree.1 i) (tree.1 i)) ∙ same_children tree.0 tree.0 ∙ trees tree.0 (omega arith)
    ]

contents_itself : (n : ℕ) → ItselfUpTo n → (cs : List Content) → sum_by part_length cs ≤ n → pointwise same_content cs cs ≡ true
contents_itself n trees [] short = refl
contents_itself n trees (c ∷ cs) short =
    let split = sum_by-cons part_length c cs in
    both (same_content c c) (pointwise same_content cs cs)
    (content_itself_to n trees c (omega arith)) (contents_itself n trees cs (omega arith))

tree_itself_to : (n : ℕ) → ItselfUpTo n
tree_itself_to zero t short = absurd (let long = length_in t in omega arith)
tree_itself_to (suc n) t short =
    let long = length_in t in
    let contents = contents_itself n (tree_itself_to n) t.content (omega arith) in
    let attributes = list_itself same_attribute attribute_itself t.attributes in
    same_in t t
    ∙ both (same_name t.name t.name) (pointwise same_attribute t.attributes t.attributes && pointwise same_content t.content t.content)
    (name_itself t.name) (both (pointwise same_attribute t.attributes t.attributes) (pointwise same_content t.content t.content)
    attributes contents)

-- ---- all content and all trees

pub trees_equal : (t u : Tree) → same_tree t u ≡ true → t ≡ u
trees_equal t u = trees_equal_to (tree_length t) t u (omega arith)

pub tree_itself : (t : Tree) → same_tree t t ≡ true
tree_itself t = tree_itself_to (tree_length t) t (omega arith)

pub contents_are_equal : (c d : Content) → same_content c d ≡ true → c ≡ d
contents_are_equal c d = content_equal (part_length c) (trees_equal_to (part_length c)) c d (omega arith)

pub content_itself : (c : Content) → same_content c c ≡ true
content_itself c = content_itself_to (part_length c) (tree_itself_to (part_length c)) c (omega arith)

pub tells_names : (a b : Name) → (same_name a b ≡ true → a ≡ b) × (a ≡ b → same_name a b ≡ true)
tells_names a b = (names_equal a b, λ e. subst (λ c. same_name a c ≡ true) e (name_itself a))

pub tells_attributes : (a b : Attribute) → (same_attribute a b ≡ true → a ≡ b) × (a ≡ b → same_attribute a b ≡ true)
tells_attributes a b = (attributes_equal a b, λ e. subst (λ c. same_attribute a c ≡ true) e (attribute_itself a))

pub tells_contents : (c d : Content) → (same_content c d ≡ true → c ≡ d) × (c ≡ d → same_content c d ≡ true)
tells_contents c d = (contents_are_equal c d, λ e. subst (λ x. same_content c x ≡ true) e (content_itself c))

pub tells_trees : (t u : Tree) → (same_tree t u ≡ true → t ≡ u) × (t ≡ u → same_tree t u ≡ true)
tells_trees t u = (trees_equal t u, λ e. subst (λ x. same_tree t x ≡ true) e (tree_itself t))

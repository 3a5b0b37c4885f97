-- Believe: what holds of each tree that is read or written: the parts of an element, its elements in the order of a
-- document, its levels, its namespaces, and the rules that all of them keep.
use Rattle.std.specs.Prelude.{ℕ, Bool, true, false, not, ◌+◌, max, ◌&&◌, List, [], ◌∷◌, ◌++◌, length, map, ◌==◌, bytes_eq, codes}
use Rattle.std.specs.Cmp.Lexicographic.{slice_cmp}
use Rattle.std.specs.List.{list_all}
use Rattle.std.specs.Ordering.{nat_cmp, ordering_then, is_lt}
use Rattle.std.specs.declared.cmp.Ordering.{Ordering}
use Rattle.ba_tree.specs.declared.trees.Tree.{Tree}
use Rattle.ba_tree.specs.declared.trees.Name.{Name}
use Rattle.ba_tree.specs.declared.trees.Attribute.{Attribute}
use Rattle.ba_tree.specs.declared.trees.Content.{Content}
use Rattle.ba_tree.specs.declared.trees.Content.TheOpen.{Content-F, Tree-F}
use Rattle.ba_tree.specs.declared.trees.Content.TheFolds.{fold-Content, fold-Tree}
use Rattle.ba_tree.specs.Characters.{is_legal_text}
use Rattle.ba_tree.specs.Names.{is_plain_name}

-- the lists, one after another
abbrev pub joined : {X : Type 0} → List (List X) → List X
joined [] = []
joined (xs ∷ more) = xs ++ joined more

-- the greatest of these numbers, or 0
abbrev pub greatest : List ℕ → ℕ
greatest [] = 0
greatest (n ∷ ns) = max n (greatest ns)

-- the test passes at each item and the next
abbrev pub all_adjacent : {X : Type 0} → (X → X → Bool) → List X → Bool
all_adjacent test [] = true
all_adjacent test (x ∷ []) = true
all_adjacent test (x ∷ y ∷ more) = test x y && all_adjacent test (y ∷ more)

-- ---- an element by itself

-- what stands between the tags of an element: a text, or an element, of which nothing more is said here
pub data Part : Type 0 where
  text : List ℕ → Part
  child : Part

-- an element without what its child elements hold
pub record Element : Type 0 where
  pub name : Name
  pub attributes : List Attribute
  pub parts : List Part

-- ---- the elements of a tree, in the order of their start tags

-- a part of an element, and the elements in it
pub record Within : Type 0 where
  pub part : Part
  pub elements : List Element

abbrev pub within_content : Content-F Within (List Element) → Within
within_content (Content-F.Text t) = record { part = text t; elements = [] }
within_content (Content-F.Child es) = record { part = child; elements = es }

abbrev pub within_tree : Tree-F Within (List Element) → List Element
within_tree t = record { name = t.name; attributes = t.attributes; parts = map (λ c. c.part) t.content }
    ∷ joined (map (λ c. c.elements) t.content)

abbrev pub elements : Tree → List Element
elements = fold-Tree Within (List Element) within_content within_tree

abbrev pub within : Content → Within
within = fold-Content Within (List Element) within_content within_tree

-- the element of a tree by itself
abbrev pub element_of : Tree → Element
element_of t = record { name = t.name; attributes = t.attributes; parts = map (λ c. (within c).part) t.content }

-- ---- levels: an element without child elements has one

abbrev pub content_levels : Content-F ℕ ℕ → ℕ
content_levels (Content-F.Text t) = 0
content_levels (Content-F.Child n) = n

abbrev pub tree_levels : Tree-F ℕ ℕ → ℕ
tree_levels t = 1 + greatest t.content

abbrev pub levels : Tree → ℕ
levels = fold-Tree ℕ ℕ content_levels tree_levels

abbrev pub levels_of : Content → ℕ
levels_of = fold-Content ℕ ℕ content_levels tree_levels

-- ---- the greatest number of attributes that an element has

abbrev pub most_attributes : Tree → ℕ
most_attributes t = greatest (map (λ e. length e.attributes) (elements t))

-- ---- namespaces

-- the namespaces that an element names, its own before those of its attributes; a name in no namespace has an
-- empty one here
abbrev pub named_spaces : Element → List (List ℕ)
named_spaces e = e.name.space ∷ map (λ a. a.name.space) e.attributes

-- the texts of this list other than that one
abbrev pub without : List ℕ → List (List ℕ) → List (List ℕ)
without x [] = []
without x (y ∷ ys) = elim (bytes_eq x y) [ true ↦ without x ys | false ↦ y ∷ without x ys ]

-- each text of the list once, in the order of first appearance
abbrev pub firsts : List (List ℕ) → List (List ℕ)
firsts [] = []
firsts (x ∷ xs) = x ∷ without x (firsts xs)

-- the namespaces of a tree in the order in which a document names them, as often as it does
abbrev pub spaces_named : Tree → List (List ℕ)
spaces_named t = joined (map named_spaces (elements t))

-- each of them once, in the order of first appearance, without the empty one
abbrev pub namespaces : Tree → List (List ℕ)
namespaces t = without [] (firsts (spaces_named t))

-- ---- the rules

-- the order of expanded names: by the bytes of the namespace, and then by those of the local part
abbrev pub name_cmp : Name → Name → Ordering
name_cmp a b = ordering_then (slice_cmp nat_cmp a.space b.space) (slice_cmp nat_cmp a.local b.local)

-- each attribute's name is above the name before it, so that no name stands twice
abbrev pub rises : List Attribute → Bool
rises = all_adjacent (λ a b. is_lt (name_cmp a.name b.name))

-- a name: its local part is plain, and its namespace a text
abbrev pub is_fit_name : Name → Bool
is_fit_name n = is_plain_name n.local && is_legal_text n.space

-- the name by which a default namespace is declared
abbrev pub declares : Name → Bool
declares n = bytes_eq n.space [] && bytes_eq n.local (codes "xmlns")

abbrev pub is_fit_attribute : Attribute → Bool
is_fit_attribute a = (is_fit_name a.name && not (declares a.name)) && is_legal_text a.value

-- a text that isn't empty; of an element nothing
abbrev pub is_fit_part : Part → Bool
is_fit_part (text t) = not (length t == 0) && is_legal_text t
is_fit_part child = true

abbrev pub is_text : Part → Bool
is_text (text t) = true
is_text child = false

-- no text stands beside another
abbrev pub texts_apart : List Part → Bool
texts_apart = all_adjacent (λ p q. not (is_text p && is_text q))

abbrev pub is_fit_element : Element → Bool
is_fit_element e = (is_fit_name e.name && (list_all is_fit_attribute e.attributes && rises e.attributes))
    && (list_all is_fit_part e.parts && texts_apart e.parts)

-- every element of the tree keeps the rules: plain names, legal characters, no declarations, attributes in
-- rising order, texts that are neither empty nor beside another
abbrev pub is_fit_tree : Tree → Bool
is_fit_tree t = list_all is_fit_element (elements t)

-- Each piece of a tree that keeps the rules is fine.
use Rattle.std.proofs.Common.{◌≡◌, ℕ, ◌+◌, ◌≤◌, Bool, true, false, not, ◌&&◌, List, ◌∷◌, map, length, refl, sym, ap, ◌∙◌, subst, arith}
use Rattle.std.specs.List.{list_all}
use Rattle.ba_tree.proofs.TreeLaws.{within_text, within_child, levels_in, levels_child, elements_in}
use Rattle.ba_tree.proofs.TreeRules.{all_joined}
use Rattle.ba_tree.specs.Trees as rules
use Rattle.ba_tree.specs.Trees.{Element, Part, within, elements, element_of, levels, levels_of, greatest, joined, all_adjacent, is_fit_part}
use Rattle.ba_tree.specs.declared.trees.Name.{Name}
use Rattle.ba_tree.specs.declared.trees.Attribute.{Attribute}
use Rattle.ba_tree.specs.declared.trees.Tree.{Tree}
use Rattle.ba_tree.specs.declared.trees.Content.{Content, Text, Child, Child', Row_of-Content, end_of-Content, more_of-Content}
use Rattle.ba_tree.specs.declared.trees.Content.{roll-Content, roll-out-Content}
use Rattle.ba_tree.specs.declared.trees.Content.TheBlock.{shown-the_row-Content-0, items-the_row-Content, items_shown-the_row-Content-0}
use Rattle.ba_tree.specs.declared.trees.Content.TheVariants.{rolls-Child, outs-Child'}
use Rattle.ba_xml_names.specs.declared.levels.Declaration as reader
use Rattle.ba_xml_writer.specs.Namespaces.{Declaration}
use Rattle.ba_xml.proofs.Fine.{is_text, starts_text, IsFineTag, IsFine, IsFineRow}
use Rattle.ba_xml.proofs.LegalTexts.{fine_text}
use Rattle.ba_xml.proofs.Conditions.{both, and_false, not_true}
use mathlib.Core.Former.{Count, list_count, this}

-- ---- an element's open form, and its tree

abbrev pub shown : Name → List Attribute → (shape : List (Unit {0})) → Row_of-Content (list_count (this {0}) shape 0) → Tree
shown name atts shape row = record { name = name; attributes = atts; content = shown-the_row-Content-0 shape row }

pub child_shown : (name : Name) (atts : List Attribute) (shape : List (Unit {0})) (row : Row_of-Content (list_count (this {0}) shape 0))
    → Child (shown name atts shape row) ≡ Child' name atts shape row
child_shown name atts shape row = sym (rolls-Child (shown name atts shape row)) ∙ ap roll-Content (sym (outs-Child' name atts shape row))
    ∙ roll-out-Content (Child' name atts shape row)

-- ---- what the rules say of it

abbrev parts_in : List Content → List Part
parts_in cs = map (λ c. (within c).part) cs

abbrev apart_parts : List Part → Bool
apart_parts ps = all_adjacent (λ p q. not (rules.is_text p && rules.is_text q)) ps

elements_shown : (name : Name) (atts : List Attribute) (shape : List (Unit {0})) (row : Row_of-Content (list_count (this {0}) shape 0))
    → (within (Child' name atts shape row)).elements ≡ element_of (shown name atts shape row)
    ∷ joined (map (λ c. (within c).elements) (items-the_row-Content (list_count (this {0}) shape 0) row))
elements_shown name atts shape row =
    ap (λ c. (within c).elements) (sym (child_shown name atts shape row))
    ∙ ap (λ w. w.elements) (within_child (shown name atts shape row)) ∙ elements_in (shown name atts shape row)
    ∙ ap (λ cs. element_of (shown name atts shape row) ∷ joined (map (λ c. (within c).elements) cs))
    (items_shown-the_row-Content-0 shape row)

levels_shown : (name : Name) (atts : List Attribute) (shape : List (Unit {0})) (row : Row_of-Content (list_count (this {0}) shape 0))
    → levels_of (Child' name atts shape row) ≡ 1 + greatest (map levels_of (items-the_row-Content (list_count (this {0}) shape 0) row))
levels_shown name atts shape row =
    ap levels_of (sym (child_shown name atts shape row)) ∙ levels_child (shown name atts shape row) ∙ levels_in (shown name atts shape row)
    ∙ ap (λ cs. 1 + greatest (map levels_of cs)) (items_shown-the_row-Content-0 shape row)

kind_is : (c : Content) → is_text c ≡ rules.is_text (within c).part
kind_is (Text t) = sym (ap (λ w. rules.is_text w.part) (within_text t))
kind_is (Child' name atts shape row) = sym
    (ap (λ c. rules.is_text (within c).part) (sym (child_shown name atts shape row))
    ∙ ap (λ w. rules.is_text w.part) (within_child (shown name atts shape row)))

apart : {m : Count} (c : Content) (row : Row_of-Content m) → apart_parts (parts_in (c ∷ items-the_row-Content m row)) ≡ true
    → ((is_text c && starts_text row) ≡ false) × (apart_parts (parts_in (items-the_row-Content m row)) ≡ true)
apart c end_of-Content h = (and_false (is_text c), refl)
apart {m = m} c (more_of-Content d row) h =
    by (both (not (rules.is_text (within c).part && rules.is_text (within d).part))
    (apart_parts (parts_in (d ∷ items-the_row-Content _ row))) h)
  where
    by : (not (rules.is_text (within c).part && rules.is_text (within d).part) ≡ true)
        × (apart_parts (parts_in (d ∷ items-the_row-Content _ row)) ≡ true)
        → ((is_text c && is_text d) ≡ false) × (apart_parts (parts_in (d ∷ items-the_row-Content _ row)) ≡ true)
    by g = ((λ i. kind_is c i && kind_is d i) ∙ not_true (rules.is_text (within c).part && rules.is_text (within d).part) g.0, g.1)

-- ---- a test of each element that says what the laws need

module _ (ds : List Declaration) (read : List reader.Declaration) (test : Element → Bool)
    (tag : (e : Element) → test e ≡ true → IsFineTag ds read e.name e.attributes × (length e.attributes ≤ 32))
    (parts : (e : Element) → test e ≡ true → (list_all is_fit_part e.parts ≡ true) × (apart_parts e.parts ≡ true)) where
  mutual
    pub fine : (c : Content) (level : ℕ) → list_all test (within c).elements ≡ true → is_fit_part (within c).part ≡ true
        → level + levels_of c ≤ 33 → IsFine ds read level c
    fine (Text t) level h p l = fine_text t (ap is_fit_part (sym (ap (λ w. w.part) (within_text t))) ∙ p)
    fine (Child' name atts shape row) level h p l =
        let t : Tree = shown name atts shape row in
        let m : Count = list_count (this {0}) shape 0 in
        let e : (test (element_of t) ≡ true) × (list_all test
        (joined (map (λ c. (within c).elements) (items-the_row-Content m row))) ≡ true) =
        both (test (element_of t)) (list_all test (joined (map (λ c. (within c).elements) (items-the_row-Content m row))))
        (ap (list_all test) (sym (elements_shown name atts shape row)) ∙ h) in
        let own : IsFineTag ds read name atts × (length atts ≤ 32) = tag (element_of t) e.0 in
        let inner : (list_all is_fit_part (element_of t).parts ≡ true)
        × (apart_parts (element_of t).parts ≡ true) = parts (element_of t) e.0 in
        let same : parts_in t.content ≡ parts_in (items-the_row-Content m row) = ap parts_in (items_shown-the_row-Content-0 shape row) in
        let deep : level + (1 + greatest (map levels_of (items-the_row-Content m row))) ≤ 33 =
        subst (λ n. level + n ≤ 33) (levels_shown name atts shape row) l in (
          own.0,
          omega arith,
          own.1,
          fine_row row (level + 1) (sym (all_joined test (λ c. (within c).elements) (items-the_row-Content m row)) ∙ e.1)
              (ap (list_all is_fit_part) (sym same) ∙ inner.0) (ap apart_parts (sym same) ∙ inner.1) (omega arith),
        )

    fine_row : {m : Count} (row : Row_of-Content m) (level : ℕ)
        → list_all (λ c. list_all test (within c).elements) (items-the_row-Content m row) ≡ true
        → list_all is_fit_part (parts_in (items-the_row-Content m row)) ≡ true → apart_parts (parts_in (items-the_row-Content m row)) ≡ true
        → level + greatest (map levels_of (items-the_row-Content m row)) ≤ 33 → IsFineRow ds read level row
    fine_row end_of-Content level h p a l = tt
    fine_row (more_of-Content c row) level h p a l =
        let hs = both (list_all test (within c).elements)
        (list_all (λ d. list_all test (within d).elements) (items-the_row-Content _ row)) h in
        let ps = both (is_fit_part (within c).part) (list_all is_fit_part (parts_in (items-the_row-Content _ row))) p in
        (fine c level hs.0 ps.0 (omega arith), (apart c row a).0, fine_row row level hs.1 ps.1 (apart c row a).1 (omega arith))

  pub fine_tree : (t : Tree) → list_all test (elements t) ≡ true → levels t ≤ 32 → IsFine ds read 1 (Child t)
  fine_tree t h l = fine (Child t) 1 (ap (λ w. list_all test w.elements) (within_child t) ∙ h)
      (ap (λ w. is_fit_part w.part) (within_child t)) (subst (λ n. 1 + n ≤ 33) (sym (levels_child t)) (omega arith))

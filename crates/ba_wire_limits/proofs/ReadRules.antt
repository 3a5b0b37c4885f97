-- What an element that keeps the rules holds keeps them: its text, its child elements, and its parameters with a mark or
-- without: for the law on what was read.
use Rattle.std.proofs.Common.{inl, inr, ◌≡◌, ◌⊎◌, ℕ, ◌≤◌, Bool, true, false, not, ◌&&◌, List, [], ◌∷◌, Option, Some, None}
use Rattle.std.proofs.Common.{map, length, filter, cond, ◌==◌, refl, sym, ap, ◌∙◌, subst, arith}
use Rattle.std.specs.Cmp.{first_so, second_so}
use Rattle.std.specs.List.{find, list_all}
use Rattle.std.specs.Ordering.{is_lt}
use Rattle.std.specs.declared.cmp.Ordering.{Ordering}
use Rattle.std.specs.declared.cmp.Ordering.TheVariants as order
use Rattle.ba_message.specs.Endpoints.{marks_parameter}
use Rattle.ba_message.proofs.PlainTexts.{and_both, plain_is_legal}
use Rattle.ba_soap_shapes.specs.Elements.{child_onto, children, first_child, first_from, number_after, or_found, own_texts, text_of}
use Rattle.ba_soap_shapes.specs.Elements.{text_onto}
use Rattle.ba_soap_shapes.specs.Endpoints.{child_at, found_tree, unmarked_tree}
use Rattle.ba_soap_shapes.specs.Forms.{is_there}
use Rattle.ba_soap_shapes.specs.Shapes.{Line, names}
use Rattle.ba_soap_shapes.proofs.ElementLaws.{text_child, text_text}
use Rattle.ba_soap.specs.Elements.{marked_tree}
use Rattle.ba_tree.specs.declared.trees.Attribute.{Attribute}
use Rattle.ba_tree.specs.declared.trees.Content.{Content}
use Rattle.ba_tree.specs.declared.trees.Content.TheVariants.{Child, Text, outs-Child, outs-Text}
use Rattle.ba_tree.specs.declared.trees.Content.TheViews.{out-Content}
use Rattle.ba_tree.specs.declared.trees.Tree.{Tree}
use Rattle.ba_tree.specs.Characters.{is_legal_text}
use Rattle.ba_tree.specs.Trees.{is_fit_attribute, is_fit_element, is_fit_part, is_fit_tree, name_cmp, rises, within}
use Rattle.ba_tree.proofs.TreeLaws.{content_is, within_child, within_text}
use Rattle.ba_xml.proofs.Prefixes.{names_total}
use Rattle.ba_wire_limits.proofs.LegalTrims.{legal_append, trim_is_legal}
use Rattle.ba_wire_limits.proofs.MarkedParameters.{fit_of_parts, marked_is_fit, parts_of_fit}
use Rattle.ba_wire_limits.proofs.ReadHeaders.{none_left, unmarked_of}
use Rattle.ba_wire_limits.proofs.SoundTrees.{IsSaid, apart}

abbrev pub is_fit_content : Content → Bool
is_fit_content c = list_all is_fit_element (within c).elements

abbrev has_fit_part : Content → Bool
has_fit_part c = is_fit_part (within c).part

-- ---- texts

texts_after : (c : Content) (cs : List Content) → ((text : List ℕ) × (c ≡ Text text)) ⊎ ((tree : Tree) × (c ≡ Child tree))
    → has_fit_part c ≡ true → is_legal_text (own_texts cs) ≡ true → is_legal_text (own_texts (c ∷ cs)) ≡ true
texts_after c cs (inl is) h rest =
    let part : is_fit_part (within (Text is.0)).part ≡ true = subst (λ x. has_fit_part x ≡ true) is.1 h in
    let both : (not (length is.0 == 0) && is_legal_text is.0) ≡ true = sym (ap (λ w. is_fit_part w.part) (within_text is.0)) ∙ part in
    ap (λ x. is_legal_text (text_onto (out-Content x) (own_texts cs))) is.1 ∙ ap is_legal_text (text_text is.0 (own_texts cs))
    ∙ legal_append is.0 (own_texts cs) (second_so (not (length is.0 == 0)) (is_legal_text is.0) both) rest
texts_after c cs (inr is) h rest =
    ap (λ x. is_legal_text (text_onto (out-Content x) (own_texts cs))) is.1 ∙ ap is_legal_text (text_child is.0 (own_texts cs))
    ∙ rest

texts_legal : (cs : List Content) → list_all has_fit_part cs ≡ true → is_legal_text (own_texts cs) ≡ true
texts_legal [] h = plain_is_legal [] refl
texts_legal (c ∷ cs) h =
    texts_after c cs (content_is c) (first_so (has_fit_part c) (list_all has_fit_part cs) h)
    (texts_legal cs (second_so (has_fit_part c) (list_all has_fit_part cs) h))

there_by : (text : List ℕ) → is_there text ≡ true → 1 ≤ length text
there_by [] h = absurd (cc)
there_by (b ∷ bs) h = omega arith

pub text_is_said : (t : Tree) → is_fit_tree t ≡ true → is_there (text_of t) ≡ true → IsSaid (text_of t)
text_is_said t fit there =
    let parts = parts_of_fit t fit in
    record {
      legal = trim_is_legal (own_texts t.content)
          (texts_legal t.content (first_so (list_all has_fit_part t.content) (apart t.content) parts.2));
      there = there_by (text_of t) there;
    }

-- ---- child elements

children_after : (c : Content) (cs : List Content) → ((text : List ℕ) × (c ≡ Text text)) ⊎ ((tree : Tree) × (c ≡ Child tree))
    → is_fit_content c ≡ true → list_all is_fit_tree (children cs) ≡ true → list_all is_fit_tree (children (c ∷ cs)) ≡ true
children_after c cs (inl is) h rest =
    ap (λ x. list_all is_fit_tree (child_onto (out-Content x) (children cs))) is.1
    ∙ ap (λ x. list_all is_fit_tree (child_onto x (children cs))) (outs-Text is.0) ∙ rest
children_after c cs (inr is) h rest =
    let inner : list_all is_fit_element (within (Child is.0)).elements ≡ true = subst (λ x. is_fit_content x ≡ true) is.1 h in
    let own : is_fit_tree is.0 ≡ true = sym (ap (λ w. list_all is_fit_element w.elements) (within_child is.0)) ∙ inner in
    ap (λ x. list_all is_fit_tree (child_onto (out-Content x) (children cs))) is.1
    ∙ ap (λ x. list_all is_fit_tree (child_onto x (children cs))) (outs-Child is.0)
    ∙ and_both (is_fit_tree is.0) (list_all is_fit_tree (children cs)) own rest

all_children_fit : (cs : List Content) → list_all is_fit_content cs ≡ true → list_all is_fit_tree (children cs) ≡ true
all_children_fit [] h = refl
all_children_fit (c ∷ cs) h =
    children_after c cs (content_is c) (first_so (is_fit_content c) (list_all is_fit_content cs) h)
    (all_children_fit cs (second_so (is_fit_content c) (list_all is_fit_content cs) h))

pub children_fit : (t : Tree) → is_fit_tree t ≡ true → list_all is_fit_tree (children t.content) ≡ true
children_fit t fit = all_children_fit t.content (parts_of_fit t fit).3

abbrev pub OptionFits : Option Tree → Type 0
OptionFits None = Unit {0}
OptionFits (Some t) = is_fit_tree t ≡ true

module _ (passes : Tree → Bool) where
  found_after : (c : Content) (n : ℕ) (cs : List Content)
      → ((text : List ℕ) × (c ≡ Text text)) ⊎ ((tree : Tree) × (c ≡ Child tree)) → is_fit_content c ≡ true
      → ((m : ℕ) → OptionFits (found_tree (first_child passes m cs))) → OptionFits (found_tree (first_child passes n (c ∷ cs)))
  found_after c n cs (inl is) h rest =
      subst (λ x. OptionFits (found_tree (first_from passes n cs x (λ m. first_child passes m cs))))
      (sym (ap out-Content is.1 ∙ outs-Text is.0)) (rest n)
  found_after c n cs (inr is) h rest =
      let inner : list_all is_fit_element (within (Child is.0)).elements ≡ true = subst (λ x. is_fit_content x ≡ true) is.1 h in
      let own : is_fit_tree is.0 ≡ true = sym (ap (λ w. list_all is_fit_element w.elements) (within_child is.0)) ∙ inner in
      subst (λ x. OptionFits (found_tree (first_from passes n cs x (λ m. first_child passes m cs))))
      (sym (ap out-Content is.1 ∙ outs-Child is.0)) (by (passes is.0) own)
    where
      by : (b : Bool) → is_fit_tree is.0 ≡ true
          → OptionFits (found_tree (or_found b (record { tree = is.0; number = n; next = number_after n is.0; rest = cs })
          (first_child passes (number_after n is.0) cs)))
      by true own = own
      by false own = rest (number_after n is.0)

  found_fits : (cs : List Content) → list_all is_fit_content cs ≡ true → (n : ℕ)
      → OptionFits (found_tree (first_child passes n cs))
  found_fits [] h n = tt
  found_fits (c ∷ cs) h n =
      found_after c n cs (content_is c) (first_so (is_fit_content c) (list_all is_fit_content cs) h)
      (found_fits cs (second_so (is_fit_content c) (list_all is_fit_content cs) h))

pub child_at_fits : {F : Type 0} (line : Line F) (t : Tree) → is_fit_tree t ≡ true → OptionFits (child_at line t)
child_at_fits line t fit = found_fits (names line t) t.content (parts_of_fit t fit).3 0

-- ---- of some trees those that pass, and the first that does

pub filter_fits : {X : Type 0} (p q : X → Bool) (xs : List X) → list_all p xs ≡ true → list_all p (filter q xs) ≡ true
filter_fits p q [] h = refl
filter_fits p q (x ∷ xs) h =
    by (q x) (first_so (p x) (list_all p xs) h) (filter_fits p q xs (second_so (p x) (list_all p xs) h))
  where
    by : (b : Bool) → p x ≡ true → list_all p (filter q xs) ≡ true → list_all p (cond b (x ∷ filter q xs) (filter q xs)) ≡ true
    by true own rest = and_both (p x) (list_all p (filter q xs)) own rest
    by false own rest = rest

pub find_fits : (test : Tree → Bool) (ts : List Tree) → list_all is_fit_tree ts ≡ true → OptionFits (find test ts)
find_fits test [] h = tt
find_fits test (t ∷ ts) h =
    by (test t) (first_so (is_fit_tree t) (list_all is_fit_tree ts) h)
    (find_fits test ts (second_so (is_fit_tree t) (list_all is_fit_tree ts) h))
  where
    by : (b : Bool) → is_fit_tree t ≡ true → OptionFits (find test ts) → OptionFits (cond b (Some t) (find test ts))
    by true own rest = own
    by false own rest = rest

-- ---- parameters

is_less : (o : Ordering) → is_lt o ≡ true → o ≡ order.Less
is_less order.Less h = refl
is_less order.Equal h = absurd (cc)
is_less order.Greater h = absurd (cc)

abbrev is_after : Attribute → Attribute → Bool
is_after a b = is_lt (name_cmp a.name b.name)

after_all : (a b : Attribute) (more : List Attribute) → is_after a b ≡ true → list_all (is_after b) more ≡ true
    → list_all (is_after a) more ≡ true
after_all a b [] h all = refl
after_all a b (c ∷ more) h all =
    let one = is_less (name_cmp a.name b.name) h in
    let two = is_less (name_cmp b.name c.name) (first_so (is_after b c) (list_all (is_after b) more) all) in
    and_both (is_after a c) (list_all (is_after a) more) (ap is_lt (names_total.trans a.name b.name c.name one two))
    (after_all a b more h (second_so (is_after b c) (list_all (is_after b) more) all))

all_after : (a : Attribute) (more : List Attribute) → rises (a ∷ more) ≡ true → list_all (is_after a) more ≡ true
all_after a [] h = refl
all_after a (b ∷ more) h =
    let first = first_so (is_after a b) (rises (b ∷ more)) h in
    let rest = all_after b more (second_so (is_after a b) (rises (b ∷ more)) h) in
    and_both (is_after a b) (list_all (is_after a) more) first (after_all a b more first rest)

rises_before : (a : Attribute) (more : List Attribute) → list_all (is_after a) more ≡ true → rises more ≡ true
    → rises (a ∷ more) ≡ true
rises_before a [] all h = refl
rises_before a (b ∷ more) all h =
    and_both (is_after a b) (rises (b ∷ more)) (first_so (is_after a b) (list_all (is_after a) more) all) h

rises_later : (a : Attribute) (more : List Attribute) → rises (a ∷ more) ≡ true → rises more ≡ true
rises_later a [] h = refl
rises_later a (b ∷ more) h = second_so (is_after a b) (rises (b ∷ more)) h

unmarked_rises : (atts : List Attribute) → rises atts ≡ true → rises (unmarked_of atts) ≡ true
unmarked_rises [] h = refl
unmarked_rises (a ∷ more) h = by (not (marks_parameter a)) (unmarked_rises more (rises_later a more h))
  where
    by : (b : Bool) → rises (unmarked_of more) ≡ true → rises (cond b (a ∷ unmarked_of more) (unmarked_of more)) ≡ true
    by true rest =
        rises_before a (unmarked_of more) (filter_fits (is_after a) (λ x. not (marks_parameter x)) more (all_after a more h)) rest
    by false rest = rest

unmarked_fits : (t : Tree) → is_fit_tree t ≡ true → is_fit_tree (unmarked_tree t) ≡ true
unmarked_fits t fit =
    let parts = parts_of_fit t fit in
    let each = first_so (list_all is_fit_attribute t.attributes) (rises t.attributes) parts.1 in
    let order = second_so (list_all is_fit_attribute t.attributes) (rises t.attributes) parts.1 in
    fit_of_parts (unmarked_tree t) parts.0
    (and_both (list_all is_fit_attribute (unmarked_of t.attributes)) (rises (unmarked_of t.attributes))
    (filter_fits is_fit_attribute (λ a. not (marks_parameter a)) t.attributes each) (unmarked_rises t.attributes order))
    parts.2 parts.3

pub parameters_fit : (ts : List Tree) → list_all is_fit_tree ts ≡ true
    → list_all is_fit_tree (map marked_tree (map unmarked_tree ts)) ≡ true
parameters_fit [] h = refl
parameters_fit (t ∷ ts) h =
    let own = unmarked_fits t (first_so (is_fit_tree t) (list_all is_fit_tree ts) h) in
    and_both (is_fit_tree (marked_tree (unmarked_tree t))) (list_all is_fit_tree (map marked_tree (map unmarked_tree ts)))
    (marked_is_fit (unmarked_tree t) own (none_left t.attributes))
    (parameters_fit ts (second_so (is_fit_tree t) (list_all is_fit_tree ts) h))

-- Each piece of a writable tree is fine.
use Rattle.std.proofs.Common.{◌≡◌, ℕ, ◌≤◌, Bool, true, not, ◌&&◌, ◌||◌, nat_le, List, [], ◌∷◌, map, length, refl, sym, ap, ◌∙◌, arith}
use Rattle.std.proofs.Common.{true≢false}
use Rattle.std.proofs.lemmas.Bool.Decides.{nat_tests}
use Rattle.std.proofs.lemmas.Slice.Eq.{bytes_eq-Decides}
use Rattle.std.specs.List.{list_all, list_any}
use Rattle.std.specs.Ordering.{is_lt}
use Rattle.std.specs.Str.{bytes_eq}
use Rattle.std.specs.declared.cmp.Ordering.{Ordering}
use Rattle.std.specs.declared.cmp.Ordering.TheVariants as order
use Rattle.ba_tree.proofs.TreeRules.{all_joined}
use Rattle.ba_tree.specs.Characters.{is_legal_text}
use Rattle.ba_tree.specs.Names.{begins_name, continues_name, is_plain_name}
use Rattle.ba_tree.specs.Trees.{Element, elements, named_spaces, spaces_named, texts_apart, rises, name_cmp, is_fit_name, declares}
use Rattle.ba_tree.specs.Trees.{is_fit_attribute, is_fit_part, is_fit_element}
use Rattle.ba_tree.specs.declared.trees.Name.{Name}
use Rattle.ba_tree.specs.declared.trees.Attribute.{Attribute}
use Rattle.ba_tree.specs.declared.trees.Tree.{Tree}
use Rattle.ba_tree.specs.declared.trees.Content.{Child}
use Rattle.ba_xml_words.specs.Classes.{is_first_letter}
use Rattle.ba_xml_grammar.specs.GrammarWords.{Each, IsPlainName, is_name_letter}
use Rattle.ba_xml_writer.specs.Namespaces.{text_scope, further}
use Rattle.ba_xml_writer.specs.Writable.{IsWritable}
use Rattle.ba_xml.proofs.Declared.{read_scope, explained}
use Rattle.ba_xml.proofs.Fine.{IsFineName, IsFineAttribute, AreFine, IsBefore, Rise, IsFineTag, IsFine}
use Rattle.ba_xml.proofs.FineTrees.{fine_tree}
use Rattle.ba_xml.proofs.LegalTexts.{legal_of}
use Rattle.ba_xml.proofs.Prefixes.{names_total}
use Rattle.ba_xml.proofs.Conditions.{both, joined, not_true, or_second, all_both, all_imply}

-- ---- plain names

first_is : (c : ℕ) → begins_name c ≡ true → is_first_letter c ≡ true
first_is c h = grind (arith, nat_tests)

letter_is : (c : ℕ) → continues_name c ≡ true → is_name_letter c ≡ true
letter_is c h = grind (arith, nat_tests)

letters_are : (cs : List ℕ) → list_all continues_name cs ≡ true → Each is_name_letter cs
letters_are [] h = tt
letters_are (c ∷ cs) h =
    let hs : (continues_name c ≡ true) × (list_all continues_name cs ≡ true) = both (continues_name c) (list_all continues_name cs) h in
    (letter_is c hs.0, letters_are cs hs.1)

plain_is : (name : List ℕ) → is_plain_name name ≡ true → IsPlainName name
plain_is [] h = absurd (true≢false (sym h))
plain_is (c ∷ cs) h =
    let hs : (begins_name c ≡ true) × (list_all continues_name cs ≡ true) = both (begins_name c) (list_all continues_name cs) h in
    (first_is c hs.0, letters_are cs hs.1)

-- ---- rising order

less_of : (o : Ordering) → is_lt o ≡ true → o ≡ order.Less
less_of order.Less h = refl
less_of order.Equal h = absurd (true≢false (sym h))
less_of order.Greater h = absurd (true≢false (sym h))

before_more : (a b : Attribute) (more : List Attribute) → name_cmp a.name b.name ≡ order.Less → IsBefore b more → IsBefore a more
before_more a b [] e f = tt
before_more a b (c ∷ more) e f = (names_total.trans a.name b.name c.name e f.0, before_more a b more e f.1)

rise : (a : Attribute) (more : List Attribute) → rises (a ∷ more) ≡ true → Rise (a ∷ more)
rise a [] h = (tt, tt)
rise a (b ∷ more) h =
    let hs : (is_lt (name_cmp a.name b.name) ≡ true)
    × (rises (b ∷ more) ≡ true) = both (is_lt (name_cmp a.name b.name)) (rises (b ∷ more)) h in
    let e : name_cmp a.name b.name ≡ order.Less = less_of (name_cmp a.name b.name) hs.0 in
    let later : Rise (b ∷ more) = rise b more hs.1 in
    ((e, before_more a b more e later.0), later)

all_rise : (atts : List Attribute) → rises atts ≡ true → Rise atts
all_rise [] h = tt
all_rise (a ∷ more) h = rise a more h

-- ---- the namespaces that are named

any_same : (s : List ℕ) (xs : List (List ℕ)) → list_any (bytes_eq s) (s ∷ xs) ≡ true
any_same s xs = ap (λ b. b || list_any (bytes_eq s) xs) ((bytes_eq-Decides s s).1 refl)

all_among : (ys xs : List (List ℕ)) → ((s : List ℕ) → list_any (bytes_eq s) xs ≡ true → list_any (bytes_eq s) ys ≡ true)
    → list_all (λ s. list_any (bytes_eq s) ys) xs ≡ true
all_among ys [] f = refl
all_among ys (x ∷ xs) f =
    joined (list_any (bytes_eq x) ys) (list_all (λ s. list_any (bytes_eq s) ys) xs) (f x (any_same x xs))
    (all_among ys xs (λ s h. f s (or_second (bytes_eq s x) (list_any (bytes_eq s) xs) h)))

-- ---- an element

is_short : (n : ℕ) → nat_le n 32 ≡ true → n ≤ 32
is_short n h = grind (arith, nat_tests)

abbrev is_known : Tree → List ℕ → Bool
is_known t space = list_any (bytes_eq space) (spaces_named t)

abbrev passes : Tree → Element → Bool
passes t e = (is_fit_element e && list_all (is_known t) (named_spaces e)) && nat_le (length e.attributes) 32

module _ (t : Tree) (w : IsWritable t) where
  fine_name : (name : Name) → is_fit_name name ≡ true → is_known t name.space ≡ true
      → IsFineName (text_scope (further t)) (read_scope (further t)) name
  fine_name name h k = (plain_is name.local (both (is_plain_name name.local) (is_legal_text name.space) h).0, explained t w name.space k)

  fine_attribute : (a : Attribute) → is_fit_attribute a ≡ true → is_known t a.name.space ≡ true
      → IsFineAttribute (text_scope (further t)) (read_scope (further t)) a
  fine_attribute a h k =
      let hs : ((is_fit_name a.name && not (declares a.name)) ≡ true)
      × (is_legal_text a.value ≡ true) = both (is_fit_name a.name && not (declares a.name)) (is_legal_text a.value) h in
      let ns : (is_fit_name a.name ≡ true) × (not (declares a.name) ≡ true) = both (is_fit_name a.name) (not (declares a.name)) hs.0 in
      (fine_name a.name ns.0 k, not_true (declares a.name) ns.1, legal_of a.value hs.1)

  fine_attributes : (atts : List Attribute) → list_all is_fit_attribute atts ≡ true
      → list_all (is_known t) (map (λ a. a.name.space) atts) ≡ true → AreFine (text_scope (further t)) (read_scope (further t)) atts
  fine_attributes [] h k = tt
  fine_attributes (a ∷ more) h k =
      let hs : (is_fit_attribute a ≡ true) × (list_all is_fit_attribute more ≡ true) =
      both (is_fit_attribute a) (list_all is_fit_attribute more) h in
      let ks : (is_known t a.name.space ≡ true) × (list_all (is_known t) (map (λ a. a.name.space) more) ≡ true) =
      both (is_known t a.name.space) (list_all (is_known t) (map (λ a. a.name.space) more)) k in
      (fine_attribute a hs.0 ks.0, fine_attributes more hs.1 ks.1)

  fine_tag : (e : Element) → passes t e ≡ true
      → IsFineTag (text_scope (further t)) (read_scope (further t)) e.name e.attributes × (length e.attributes ≤ 32)
  fine_tag e h =
      let outer : ((is_fit_element e && list_all (is_known t) (named_spaces e)) ≡ true) × (nat_le (length e.attributes) 32 ≡ true) =
      both (is_fit_element e && list_all (is_known t) (named_spaces e)) (nat_le (length e.attributes) 32) h in
      let parts : (is_fit_element e ≡ true) × (list_all (is_known t) (named_spaces e) ≡ true) =
      both (is_fit_element e) (list_all (is_known t) (named_spaces e)) outer.0 in
      let known : (is_known t e.name.space ≡ true) × (list_all (is_known t) (map (λ a. a.name.space) e.attributes) ≡ true) =
      both (is_known t e.name.space) (list_all (is_known t) (map (λ a. a.name.space) e.attributes)) parts.1 in
      let fit : ((is_fit_name e.name && (list_all is_fit_attribute e.attributes && rises e.attributes)) ≡ true)
      × ((list_all is_fit_part e.parts && texts_apart e.parts) ≡ true) =
      both (is_fit_name e.name && (list_all is_fit_attribute e.attributes && rises e.attributes))
      (list_all is_fit_part e.parts && texts_apart e.parts) parts.0 in
      let own : (is_fit_name e.name ≡ true) × ((list_all is_fit_attribute e.attributes && rises e.attributes) ≡ true) =
      both (is_fit_name e.name) (list_all is_fit_attribute e.attributes && rises e.attributes) fit.0 in
      let atts : (list_all is_fit_attribute e.attributes ≡ true)
      × (rises e.attributes ≡ true) = both (list_all is_fit_attribute e.attributes) (rises e.attributes) own.1 in (
        (fine_name e.name own.0 known.0, fine_attributes e.attributes atts.0 known.1, all_rise e.attributes atts.1),
        is_short (length e.attributes) outer.1,
      )

  fit_parts : (e : Element) → passes t e ≡ true → (list_all is_fit_part e.parts ≡ true) × (texts_apart e.parts ≡ true)
  fit_parts e h =
      let outer = (both (is_fit_element e && list_all (is_known t) (named_spaces e)) (nat_le (length e.attributes) 32) h).0 in
      let fit = (both (is_fit_element e) (list_all (is_known t) (named_spaces e)) outer).0 in
      both (list_all is_fit_part e.parts) (texts_apart e.parts)
      (both (is_fit_name e.name && (list_all is_fit_attribute e.attributes && rises e.attributes))
      (list_all is_fit_part e.parts && texts_apart e.parts) fit).1

  all_known : list_all (λ e. list_all (is_known t) (named_spaces e)) (elements t) ≡ true
  all_known = sym (all_joined (is_known t) named_spaces (elements t)) ∙ all_among (spaces_named t) (spaces_named t) (λ s h. h)

  all_pass : list_all (passes t) (elements t) ≡ true
  all_pass =
      all_both (λ e. is_fit_element e && list_all (is_known t) (named_spaces e)) (λ e. nat_le (length e.attributes) 32) (elements t)
      (all_both is_fit_element (λ e. list_all (is_known t) (named_spaces e)) (elements t) w.fit all_known) w.few

  pub fine_writable : IsFine (text_scope (further t)) (read_scope (further t)) 1 (Child t)
  fine_writable = fine_tree (text_scope (further t)) (read_scope (further t)) (passes t) fine_tag fit_parts t all_pass w.deep

  -- ---- the namespaces are texts

  legal_spaces : (atts : List Attribute) → list_all is_fit_attribute atts ≡ true
      → list_all is_legal_text (map (λ a. a.name.space) atts) ≡ true
  legal_spaces [] h = refl
  legal_spaces (a ∷ more) h =
      let hs : (is_fit_attribute a ≡ true) × (list_all is_fit_attribute more ≡ true) =
      both (is_fit_attribute a) (list_all is_fit_attribute more) h in
      let ns = (both (is_fit_name a.name) (not (declares a.name))
      (both (is_fit_name a.name && not (declares a.name)) (is_legal_text a.value) hs.0).0).0 in
      joined (is_legal_text a.name.space) (list_all is_legal_text (map (λ a. a.name.space) more))
      (both (is_plain_name a.name.local) (is_legal_text a.name.space) ns).1 (legal_spaces more hs.1)

  legal_element : (e : Element) → is_fit_element e ≡ true → list_all is_legal_text (named_spaces e) ≡ true
  legal_element e h =
      let own = (both (is_fit_name e.name && (list_all is_fit_attribute e.attributes && rises e.attributes))
      (list_all is_fit_part e.parts && texts_apart e.parts) h).0 in
      let parts = both (is_fit_name e.name) (list_all is_fit_attribute e.attributes && rises e.attributes) own in
      joined (is_legal_text e.name.space) (list_all is_legal_text (map (λ a. a.name.space) e.attributes))
      (both (is_plain_name e.name.local) (is_legal_text e.name.space) parts.0).1
      (legal_spaces e.attributes (both (list_all is_fit_attribute e.attributes) (rises e.attributes) parts.1).0)

  pub legal_named : list_all is_legal_text (spaces_named t) ≡ true
  legal_named = all_joined is_legal_text named_spaces (elements t) ∙ all_imply is_fit_element (λ e. list_all is_legal_text (named_spaces e))
      legal_element (elements t) w.fit

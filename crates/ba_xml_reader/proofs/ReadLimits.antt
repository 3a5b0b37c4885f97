-- What is read has at most 32 levels, and at most 32 attributes in an element.
use Rattle.std.proofs.Common.{◌≡◌, ℕ, ◌+◌, ◌≤◌, inl, inr, max, Option, Some, None, List, [], ◌∷◌, ◌++◌, map, length, length-append}
use Rattle.std.proofs.Common.{refl, sym, ap, ◌∙◌, subst, arith}
use Rattle.std.proofs.lemmas.List.{length-map, map-append}
use Rattle.ba_tree.proofs.TreeLaws.{within_text, within_child, levels_in, levels_text, levels_child, elements_in}
use Rattle.ba_tree.specs.Trees.{Element, elements, within, greatest, joined, levels, levels_of, most_attributes}
use Rattle.ba_tree.specs.declared.trees.Attribute.{Attribute}
use Rattle.ba_tree.specs.declared.trees.Content.{Content}
use Rattle.ba_tree.specs.declared.trees.Content.TheVariants.{Child}
use Rattle.ba_tree.specs.declared.trees.Tree.{Tree}
use Rattle.ba_xml_names.proofs.OpeningRules.{by_rule}
use Rattle.ba_xml_reader.specs.Fitness.{IsWithinLimits}
use Rattle.ba_xml_grammar.specs.Grammar.{Start, Pieces, nothing, character, reference, section, comment, empty, element, attribute, tag}
use Rattle.ba_xml_grammar.specs.Grammar.{or_nothing, meant, element_tree, leading, if_some, following, meaning, IsExplained, Resolves}
use Rattle.ba_xml_grammar.specs.Grammar.{Small}
use Rattle.ba_xml_grammar.specs.GrammarTexts.{IsXmlText}
use Rattle.ba_xml_names.specs.Namespaces.{opening, first_scope}
use Rattle.ba_xml_names.specs.Resolution.{AreAttributes, PutAmong, AreInOrder}
use Rattle.ba_xml_names.specs.declared.levels.Declaration.{Declaration}
use Rattle.ba_xml_names.specs.declared.levels.Opening.{Opening}
use Rattle.ba_xml_words.specs.declared.names.RawAttribute.{RawAttribute}

-- ---- levels

deep_texts : (t : List ℕ) (cs : List Content) → greatest (map levels_of (if_some t ++ cs)) ≡ greatest (map levels_of cs)
deep_texts [] cs = refl
deep_texts (b ∷ t) cs = ap (λ n. max n (greatest (map levels_of cs))) (levels_text (b ∷ t)) ∙ above (greatest (map levels_of cs))
  where
    above : (n : ℕ) → max 0 n ≡ n
    above n = omega arith

deep_child : (o : Opening) (content more : List Content) (text : List ℕ)
    → greatest (map levels_of (Child (element_tree o content) ∷ (if_some text ++ more)))
    ≡ max (1 + greatest (map levels_of content)) (greatest (map levels_of more))
deep_child o content more text =
    λ i. max ((levels_child (element_tree o content) ∙ levels_in (element_tree o content)) i) (deep_texts text more i)

both_below : (level inside more : ℕ) → level + 1 + inside ≤ 33 → level + more ≤ 33 → level + max (1 + inside) more ≤ 33
both_below level inside more h k = omega arith

none_inside : (level : ℕ) → level ≤ 32 → level + 1 + 0 ≤ 33
none_inside level h = omega arith

one_more : (level : ℕ) → level ≤ 32 → level + 1 ≤ 33
one_more level h = omega arith

deep_at : (scope : List Declaration) (p : Pieces) (level : ℕ) → Small level p → level ≤ 33
    → level + greatest (map levels_of (following scope p)) ≤ 33
deep_at scope nothing level s l = omega arith
deep_at scope (character b more) level s l = deep_at scope more level s l
deep_at scope (reference r more) level s l = deep_at scope more level s l
deep_at scope (section body more) level s l = deep_at scope more level s l
deep_at scope (comment body more) level s l = deep_at scope more level s l
deep_at scope (empty t more) level s l =
    subst (λ n. level + n ≤ 33) (sym (deep_child (meant scope t) [] (following scope more) (leading more)))
    (both_below level 0 (greatest (map levels_of (following scope more))) (none_inside level s.0) (deep_at scope more level s.2 l))
deep_at scope (element t inside space more) level s l =
    let now : List Declaration = (meant scope t).declarations ++ scope in
    let deeper : level + 1 + greatest (map levels_of (following now inside)) ≤ 33
    = deep_at now inside (level + 1) s.2 (one_more level s.0) in
    let content : level + 1 + greatest (map levels_of (if_some (leading inside) ++ following now inside)) ≤ 33
    = subst (λ n. level + 1 + n ≤ 33) (sym (deep_texts (leading inside) (following now inside))) deeper in
    subst (λ n. level + n ≤ 33)
    (sym (deep_child (meant scope t) (if_some (leading inside) ++ following now inside) (following scope more) (leading more)))
    (both_below level (greatest (map levels_of (if_some (leading inside) ++ following now inside)))
    (greatest (map levels_of (following scope more)))
    content (deep_at scope more level s.3 l))

root_deep : (tree : Tree) (cs : List Content) → cs ≡ Child tree ∷ [] → 1 + greatest (map levels_of cs) ≤ 33 → levels tree ≤ 32
root_deep tree cs e h =
    from (greatest (map levels_of cs)) (ap (λ l. greatest (map levels_of l)) e ∙ ap (λ n. max n 0) (levels_child tree)) h
  where
    from : (n : ℕ) → n ≡ max (levels tree) 0 → 1 + n ≤ 33 → levels tree ≤ 32
    from n e h = omega arith

-- ---- attributes

length_put : (meant rows all : List Attribute) → PutAmong meant rows all → length all ≡ length meant + length rows
length_put [] rows all p = let e : length all ≡ length rows = ap length p in omega arith
length_put (a ∷ meant) rows all p =
    let more : length all ≡ length meant + length (p.0 ++ a ∷ p.1) = length_put meant (p.0 ++ a ∷ p.1) all p.3 in
    omega (arith, more, ap length p.2, length-append p.0 (a ∷ p.1), length-append p.0 p.1)

length_meant : (scope : List Declaration) (raws : List RawAttribute) (meant : List Attribute) → AreAttributes scope raws meant
    → length meant ≤ length raws
length_meant scope [] meant m = let e : length meant ≡ 0 = ap length m in omega arith
length_meant scope (raw ∷ more) meant (inl m) = let le : length meant ≤ length more = length_meant scope more meant m.1 in omega arith
length_meant scope (raw ∷ more) meant (inr m) =
    let le : length m.2 ≤ length more = length_meant scope more m.2 m.5 in omega (arith, le, ap length m.3)

few_by : (scope : List Declaration) (s : Start) (found : Option Opening) → opening scope (tag s) ≡ found → IsExplained scope s
    → length (or_nothing found).attributes ≤ length s.pairs
few_by scope s None e x = absurd (clash (sym e ∙ x.1))
  where
    clash : (let o : Option Opening = None in o) ≡ Some x.0 → ⊥
    clash e = cc
few_by scope s (Some o) e x =
    let in_order : AreInOrder (o.declarations ++ scope) (tag s).attributes o.attributes = (by_rule scope (tag s) o e).attributes in
    let put : length o.attributes ≡ length in_order.meant + 0 = length_put in_order.meant [] o.attributes in_order.put in
    let of : length in_order.meant ≤ length (map attribute s.pairs)
    = length_meant (o.declarations ++ scope) (tag s).attributes in_order.meant in_order.are in
    omega (arith, put, of, length-map s.pairs attribute)

few_tag : (scope : List Declaration) (s : Start) → IsExplained scope s → length s.pairs ≤ 32 → length (meant scope s).attributes ≤ 32
few_tag scope s x h =
    let le : length (meant scope s).attributes ≤ length s.pairs = few_by scope s (opening scope (tag s)) refl x in omega arith

abbrev most_within : List Content → ℕ
most_within cs = greatest (map (λ e. length e.attributes) (joined (map (λ c. (within c).elements) cs)))

greatest_joined : (xs ys : List ℕ) → greatest (xs ++ ys) ≡ max (greatest xs) (greatest ys)
greatest_joined [] ys = above (greatest ys)
  where
    above : (n : ℕ) → n ≡ max 0 n
    above n = omega arith
greatest_joined (x ∷ xs) ys = ap (λ n. max x n) (greatest_joined xs ys) ∙ parted x (greatest xs) (greatest ys)
  where
    parted : (a b c : ℕ) → max a (max b c) ≡ max (max a b) c
    parted a b c = omega arith

most_append : (es fs : List Element) → greatest (map (λ e. length e.attributes) (es ++ fs))
    ≡ max (greatest (map (λ e. length e.attributes) es)) (greatest (map (λ e. length e.attributes) fs))
most_append es fs =
    ap greatest (map-append (λ e. length e.attributes) es fs)
    ∙ greatest_joined (map (λ e. length e.attributes) es) (map (λ e. length e.attributes) fs)

most_texts : (t : List ℕ) (cs : List Content) → most_within (if_some t ++ cs) ≡ most_within cs
most_texts [] cs = refl
most_texts (b ∷ t) cs =
    ap (λ w. greatest (map (λ e. length e.attributes) (w.elements ++ joined (map (λ c. (within c).elements) cs)))) (within_text (b ∷ t))

most_child : (o : Opening) (content more : List Content) (text : List ℕ)
    → most_within (Child (element_tree o content) ∷ (if_some text ++ more))
    ≡ max (max (length o.attributes) (most_within content)) (most_within more)
most_child o content more text =
    most_append (within (Child (element_tree o content))).elements (joined (map (λ c. (within c).elements) (if_some text ++ more)))
    ∙ (λ i. max (greatest (map (λ e. length e.attributes)
    ((ap (λ w. w.elements) (within_child (element_tree o content)) ∙ elements_in (element_tree o content)) i)))
    (most_texts text more i))

three_below : (a b c : ℕ) → a ≤ 32 → b ≤ 32 → c ≤ 32 → max (max a b) c ≤ 32
three_below a b c f g h = omega arith

few_at : (scope : List Declaration) (p : Pieces) (level : ℕ) → Resolves scope p → Small level p → most_within (following scope p) ≤ 32
few_at scope nothing level r s = omega arith
few_at scope (character b more) level r s = few_at scope more level r s
few_at scope (reference q more) level r s = few_at scope more level r s
few_at scope (section body more) level r s = few_at scope more level r s
few_at scope (comment body more) level r s = few_at scope more level r s
few_at scope (empty t more) level r s =
    subst (λ n. n ≤ 32) (sym (most_child (meant scope t) [] (following scope more) (leading more)))
    (three_below (length (meant scope t).attributes) 0 (most_within (following scope more)) (few_tag scope t r.0 s.1) (omega arith)
    (few_at scope more level r.1 s.2))
few_at scope (element t inside space more) level r s =
    let now : List Declaration = (meant scope t).declarations ++ scope in
    let content : most_within (if_some (leading inside) ++ following now inside) ≤ 32
    = subst (λ n. n ≤ 32) (sym (most_texts (leading inside) (following now inside))) (few_at now inside (level + 1) r.1 s.2) in
    subst (λ n. n ≤ 32)
    (sym (most_child (meant scope t) (if_some (leading inside) ++ following now inside) (following scope more) (leading more)))
    (three_below (length (meant scope t).attributes) (most_within (if_some (leading inside) ++ following now inside))
    (most_within (following scope more)) (few_tag scope t r.0 s.1) content (few_at scope more level r.2 s.3))

root_few : (tree : Tree) (cs : List Content) → cs ≡ Child tree ∷ [] → most_within cs ≤ 32 → most_attributes tree ≤ 32
root_few tree cs e h =
    from (most_within cs)
    (ap most_within e ∙ most_append (within (Child tree)).elements []
    ∙ ap (λ w. max (greatest (map (λ e. length e.attributes) w.elements)) 0) (within_child tree)) h
  where
    from : (n : ℕ) → n ≡ max (most_attributes tree) 0 → n ≤ 32 → most_attributes tree ≤ 32
    from n e h = omega arith

-- ---- a text

pub within_limits : (bytes : List ℕ) (tree : Tree) → IsXmlText bytes tree → IsWithinLimits tree
within_limits bytes tree x = record {
  deep = root_deep tree (meaning first_scope x.0.root) x.3.1
      (subst (λ n. 1 + n ≤ 33) (sym (deep_texts (leading x.0.root) (following first_scope x.0.root)))
      (deep_at first_scope x.0.root 1 x.2.1 (omega arith)));
  few = root_few tree (meaning first_scope x.0.root) x.3.1
      (subst (λ n. n ≤ 32) (sym (most_texts (leading x.0.root) (following first_scope x.0.root)))
      (few_at first_scope x.0.root 1 x.3.0 x.2.1));
}

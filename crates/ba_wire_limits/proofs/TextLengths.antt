-- The canonical text of content is at most six times as long as its coding, and each declaration takes little besides
-- its namespace: for the law on short codings.
use Rattle.std.proofs.Common.{◌≡◌, ℕ, ◌+◌, ◌*◌, ◌≤◌, Bool, true, false, List, [], ◌∷◌, ◌++◌, length, length-append}
use Rattle.std.proofs.Common.{if◌then◌else◌, nat_eq, codes, sym, ap, ◌∙◌, arith}
use Rattle.std.proofs.lemmas.List.Sums.{sum_by-cons}
use Rattle.std.specs.List.{sum_by}
use Rattle.std.specs.Str.{bytes_eq}
use Rattle.ba_tree.specs.declared.trees.Name.{Name}
use Rattle.ba_tree.specs.declared.trees.Attribute.{Attribute}
use Rattle.ba_tree.specs.declared.trees.Content.{Content, Text, Child', Row_of-Content, end_of-Content, more_of-Content}
use Rattle.ba_tree.specs.declared.trees.Content.TheBlock.{items-the_row-Content, items_shown-the_row-Content-0}
use Rattle.ba_tree.specs.Lengths.{attribute_length, name_length, part_length}
use Rattle.ba_tree.proofs.TreeLaws.{length_in, length_text, length_child}
use Rattle.ba_xml_writer.specs.Namespaces.{Declaration}
use Rattle.ba_xml_writer.specs.OneText.{Escape, attributes, declaration_texts, element_rest, ending, escaped, is_end, item, items}
use Rattle.ba_xml_writer.specs.OneText.{prefixed, qualified, row_items, spelled, text_escapes, value_escapes, valued}
use Rattle.ba_xml.proofs.FineTrees.{shown, child_shown}
use mathlib.Core.Former.{Count, list_count, this}

-- ---- escapes

abbrev AreBrief : List Escape → Type 0
AreBrief [] = Unit {0}
AreBrief (e ∷ es) = (length e.spelling ≤ 6) × AreBrief es

spelled_length : (es : List Escape) → AreBrief es → (b : ℕ) (rest : List ℕ) → length (spelled es b rest) ≤ 6 + length rest
spelled_length [] h b rest = omega arith
spelled_length (e ∷ es) h b rest = by (nat_eq b e.byte) (spelled_length es h.1 b rest)
  where
    by : (is : Bool) → length (spelled es b rest) ≤ 6 + length rest
        → length (if is then e.spelling ++ rest else spelled es b rest) ≤ 6 + length rest
    by true more = let both = length-append e.spelling rest in let brief = h.0 in omega arith
    by false more = more

escaped_length : (es : List Escape) → AreBrief es → (bytes rest : List ℕ)
    → length (escaped es bytes rest) ≤ 6 * length bytes + length rest
escaped_length es h [] rest = omega arith
escaped_length es h (b ∷ bytes) rest =
    let here = spelled_length es h b (escaped es bytes rest) in
    let more = escaped_length es h bytes rest in
    omega arith

text_brief : AreBrief text_escapes
text_brief = (omega arith, (omega arith, (omega arith, (omega arith, tt))))

value_brief : AreBrief value_escapes
value_brief = (omega arith, (omega arith, (omega arith, (omega arith, (omega arith, (omega arith, (omega arith, tt)))))))

-- ---- names

abbrev pub AreShort : List Declaration → Type 0
AreShort [] = Unit {0}
AreShort (d ∷ ds) = (length d.prefix ≤ 6) × AreShort ds

prefixed_length : (ds : List Declaration) → AreShort ds → (space rest : List ℕ)
    → length (prefixed ds space rest) ≤ 7 + length rest
prefixed_length [] h space rest = omega arith
prefixed_length (d ∷ ds) h space rest = by (bytes_eq space d.space) (prefixed_length ds h.1 space rest)
  where
    by : (is : Bool) → length (prefixed ds space rest) ≤ 7 + length rest
        → length (if is then d.prefix ++ (codes ":" ++ rest) else prefixed ds space rest) ≤ 7 + length rest
    by true more = let both = length-append d.prefix (codes ":" ++ rest) in let short = h.0 in omega arith
    by false more = more

valued_length : (value rest : List ℕ) → length (valued value rest) ≤ 3 + 6 * length value + length rest
valued_length value rest = let inner = escaped_length value_escapes value_brief value (codes "\"" ++ rest) in omega arith

-- ---- elements in content

abbrev pub RowOf : List (Unit {0}) → Type 0
RowOf shape = Row_of-Content (list_count (this {0}) shape 0)

abbrev pub parts_of : (shape : List (Unit {0})) → RowOf shape → List Content
parts_of shape row = items-the_row-Content (list_count (this {0}) shape 0) row

pub part_shown : (name : Name) (atts : List Attribute) (shape : List (Unit {0})) (row : RowOf shape)
    → part_length (Child' name atts shape row)
    ≡ 1 + (name_length name + ((1 + sum_by attribute_length atts) + (2 + sum_by part_length (parts_of shape row))))
part_shown name atts shape row =
    ap part_length (sym (child_shown name atts shape row)) ∙ length_child (shown name atts shape row)
    ∙ ap (λ n. 1 + n) (length_in (shown name atts shape row))
    ∙ ap (λ cs. 1 + (name_length name + ((1 + sum_by attribute_length atts) + (2 + sum_by part_length cs))))
    (items_shown-the_row-Content-0 shape row)

-- where a function writes what stands inside, its text takes no more than this
abbrev TakesAtMost : ℕ → (List ℕ → List ℕ) → Type 0
TakesAtMost size inside = (rest : List ℕ) → length (inside rest) ≤ size + length rest

module _ (ds : List Declaration) (short : AreShort ds) where
  pub qualified_length : (n : Name) (rest : List ℕ) → length (qualified ds n rest) ≤ 7 + length n.local + length rest
  qualified_length n rest =
      let all = prefixed_length ds short n.space (n.local ++ rest) in
      let both = length-append n.local rest in
      omega arith

  attributes_length : (atts : List Attribute) (rest : List ℕ)
      → length (attributes ds atts rest) ≤ 6 * sum_by attribute_length atts + length rest
  attributes_length [] rest = omega arith
  attributes_length (a ∷ more) rest =
      let name = qualified_length a.name (valued a.value (attributes ds more rest)) in
      let value = valued_length a.value (attributes ds more rest) in
      let later = attributes_length more rest in
      let split = sum_by-cons attribute_length a more in
      omega arith

  ending_length : (n : Name) (empty : Bool) (inside : List ℕ → List ℕ) (size : ℕ) → TakesAtMost size inside
      → (rest : List ℕ) → length (ending ds n empty inside rest) ≤ 11 + length n.local + size + length rest
  ending_length n true inside size h rest = omega arith
  ending_length n false inside size h rest =
      let name = qualified_length n (codes ">" ++ rest) in
      let content = h (codes "</" ++ qualified ds n (codes ">" ++ rest)) in
      omega arith

  pub rest_length : (n : Name) (atts : List Attribute) (empty : Bool) (inside : List ℕ → List ℕ) (size : ℕ)
      → TakesAtMost size inside → (rest : List ℕ)
      → length (element_rest ds n atts empty inside rest)
      ≤ 6 * sum_by attribute_length atts + (11 + length n.local + size + length rest)
  rest_length n atts empty inside size h rest =
      let attributes_size = attributes_length atts (ending ds n empty inside rest) in
      let ending_size = ending_length n empty inside size h rest in
      omega arith

  mutual
    item_length : (c : Content) (rest : List ℕ) → length (item ds c rest) ≤ 6 * part_length c + length rest
    item_length (Text t) rest =
        let text = escaped_length text_escapes text_brief t rest in
        let size = length_text t in
        omega arith
    item_length (Child' name atts shape row) rest =
        let tag = qualified_length name (element_rest ds name atts (is_end row) (λ more. row_items ds row more) rest) in
        let later =
        rest_length name atts (is_end row) (λ more. row_items ds row more) (6 * sum_by part_length (parts_of shape row))
        (λ r. row_length row r) rest in
        let size = part_shown name atts shape row in
        omega arith

    row_length : {m : Count} (row : Row_of-Content m) (rest : List ℕ)
        → length (row_items ds row rest) ≤ 6 * sum_by part_length (items-the_row-Content m row) + length rest
    row_length end_of-Content rest = omega arith
    row_length (more_of-Content c row) rest =
        let here = item_length c (row_items ds row rest) in
        let more = row_length row rest in
        let split = sum_by-cons part_length c (items-the_row-Content _ row) in
        omega arith

  pub items_length : (cs : List Content) (rest : List ℕ)
      → length (items ds cs rest) ≤ 6 * sum_by part_length cs + length rest
  items_length [] rest = omega arith
  items_length (c ∷ cs) rest =
      let here = item_length c (items ds cs rest) in
      let more = items_length cs rest in
      let split = sum_by-cons part_length c cs in
      omega arith

-- ---- declarations

pub declarations_length : (own : List Declaration) → AreShort own → (rest : List ℕ)
    → length (declaration_texts own rest) ≤ sum_by (λ d. 16 + 6 * length d.space) own + length rest
declarations_length [] h rest = omega arith
declarations_length (d ∷ own) h rest =
    let more = declarations_length own h.1 rest in
    let value = valued_length d.space (declaration_texts own rest) in
    let both = length-append d.prefix (valued d.space (declaration_texts own rest)) in
    let split = sum_by-cons (λ e. 16 + 6 * length e.space) d own in
    let brief = h.0 in
    omega arith

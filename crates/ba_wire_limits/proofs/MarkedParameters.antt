-- The parameters of an endpoint reference that fits keep the rules and limits of texts as header blocks, each with its mark:
-- for the laws on envelopes.
use Rattle.std.proofs.Common.{◌≡◌, ◌+◌, ◌*◌, ◌≤◌, Bool, true, false, not, ◌&&◌, List, [], ◌∷◌, ◌++◌, map, length, filter}
use Rattle.std.proofs.Common.{cond, nat_le, refl, sym, ap, ◌∙◌, subst, arith}
use Rattle.std.proofs.lemmas.Bool.{leb-true, le-leb}
use Rattle.std.proofs.lemmas.List.Sums.{sum_by-cons}
use Rattle.std.specs.Cmp.{first_so, second_so}
use Rattle.std.specs.List.{list_all, list_any}
use Rattle.ba_message.specs.declared.endpoints.Epr.{Epr}
use Rattle.ba_message.specs.Endpoints.{Fits, are_shallow, are_unmarked, have_few_attributes, marks_parameter}
use Rattle.ba_soap.specs.Elements.{marked_tree, parameter_mark, with_attribute}
use Rattle.ba_tree.specs.declared.trees.Attribute.{Attribute}
use Rattle.ba_tree.specs.declared.trees.Tree.{Tree}
use Rattle.ba_tree.specs.Lengths.{tree_length}
use Rattle.ba_tree.specs.Spaces.{spaces_within}
use Rattle.ba_tree.specs.Trees.{Element, element_of, greatest, is_fit_attribute, is_fit_element, is_fit_name, is_fit_part}
use Rattle.ba_tree.specs.Trees.{is_fit_tree, joined, levels, most_attributes, rises, spaces_named, within}
use Rattle.ba_tree.proofs.SpaceLaws.{spaces_in}
use Rattle.ba_tree.proofs.TreeLaws.{elements_in, length_in, levels_in}
use Rattle.ba_tree.proofs.TreeRules.{fit_alone, fit_in}
use Rattle.ba_xml_writer.specs.Namespaces.{is_further}
use Rattle.ba_message.proofs.PlainTexts.{and_both}
use Rattle.ba_wire_limits.proofs.FitParameters.{few_of, most_of}
use Rattle.ba_wire_limits.proofs.FurtherSpaces.{filter_append}
use Rattle.ba_wire_limits.proofs.MarkedAttributes.{further_of, marked_fit, marked_lengths, marked_spaces, one_more}
use Rattle.ba_wire_limits.proofs.SoundTrees.{AllSound, Sound, all_wider, apart, further_named, has_few, have_few, lengths}
use Rattle.ba_wire_limits.proofs.SoundTrees.{more_sound, none_sound}

-- ---- a tree with its mark

abbrev inner_elements : Tree → List Element
inner_elements t = joined (map (λ c. (within c).elements) t.content)

abbrev pub attributes_fit : List Attribute → Bool
attributes_fit atts = list_all is_fit_attribute atts && rises atts

abbrev pub content_fits : Tree → Bool
content_fits t = list_all (λ c. is_fit_part (within c).part) t.content && apart t.content

abbrev pub inner_fit : Tree → Bool
inner_fit t = list_all (λ c. list_all is_fit_element (within c).elements) t.content

pub parts_of_fit : (t : Tree) → is_fit_tree t ≡ true
    → (is_fit_name t.name ≡ true) × (attributes_fit t.attributes ≡ true) × (content_fits t ≡ true) × (inner_fit t ≡ true)
parts_of_fit t fit =
    let whole : (is_fit_element (element_of t) && inner_fit t) ≡ true = sym (fit_in t) ∙ fit in
    let own : ((is_fit_name t.name && attributes_fit t.attributes) && content_fits t) ≡ true =
    sym (fit_alone t) ∙ first_so (is_fit_element (element_of t)) (inner_fit t) whole in
    let tag = first_so (is_fit_name t.name && attributes_fit t.attributes) (content_fits t) own in (
      first_so (is_fit_name t.name) (attributes_fit t.attributes) tag,
      second_so (is_fit_name t.name) (attributes_fit t.attributes) tag,
      second_so (is_fit_name t.name && attributes_fit t.attributes) (content_fits t) own,
      second_so (is_fit_element (element_of t)) (inner_fit t) whole,
    )

pub fit_of_parts : (t : Tree) → is_fit_name t.name ≡ true → attributes_fit t.attributes ≡ true → content_fits t ≡ true
    → inner_fit t ≡ true → is_fit_tree t ≡ true
fit_of_parts t name atts content inner =
    fit_in t
    ∙ and_both (is_fit_element (element_of t)) (inner_fit t)
    (fit_alone t ∙ and_both (is_fit_name t.name && attributes_fit t.attributes) (content_fits t)
    (and_both (is_fit_name t.name) (attributes_fit t.attributes) name atts) content) inner

few_inside : (t : Tree) → most_attributes t ≤ 16 → (length t.attributes ≤ 16) × (list_all has_few (inner_elements t) ≡ true)
few_inside t h =
    let all : greatest (map (λ e. length e.attributes) (element_of t ∷ inner_elements t)) ≤ 16 =
    subst (λ es. greatest (map (λ e. length e.attributes) es) ≤ 16) (elements_in t) h in
    (omega arith, few_of (inner_elements t) (omega arith))

spaces_by_attributes : (t : Tree) (atts : List Attribute) → further_of atts ≡ further_of t.attributes
    → filter is_further (t.name.space ∷ (map (λ a. a.name.space) atts ++ joined (map spaces_within t.content)))
    ≡ filter is_further (t.name.space ∷ (map (λ a. a.name.space) t.attributes ++ joined (map spaces_within t.content)))
spaces_by_attributes t atts e =
    let rest = joined (map spaces_within t.content) in
    let same =
    filter_append is_further (map (λ a. a.name.space) atts) rest ∙ ap (λ l. l ++ filter is_further rest) e
    ∙ sym (filter_append is_further (map (λ a. a.name.space) t.attributes) rest) in
    ap (λ l. cond (is_further t.name.space) (t.name.space ∷ l) l) same

pub marked_is_fit : (t : Tree) → is_fit_tree t ≡ true → list_any marks_parameter t.attributes ≡ false
    → is_fit_tree (marked_tree t) ≡ true
marked_is_fit t fit free =
    let parts = parts_of_fit t fit in
    fit_of_parts (marked_tree t) parts.0 (marked_fit t.attributes parts.1 free) parts.2 parts.3

module _ (t : Tree) (fit : is_fit_tree t ≡ true) (deep : nat_le (levels t) 16 ≡ true)
    (few : nat_le (most_attributes t) 16 ≡ true) (free : list_any marks_parameter t.attributes ≡ false) where
  marked_have_few : have_few (marked_tree t) ≡ true
  marked_have_few =
      let inside = few_inside t (most_of t few) in
      let count : length t.attributes ≤ 16 = inside.0 in
      let longer = one_more t.attributes in
      ap (list_all has_few) (elements_in (marked_tree t))
      ∙ and_both (nat_le (length (with_attribute parameter_mark t.attributes)) 32) (list_all has_few (inner_elements t))
      (le-leb (length (with_attribute parameter_mark t.attributes)) 32 (omega arith)) inside.1

  sound_marked : Sound (marked_tree t) 16 (tree_length t + 100) (filter is_further (spaces_named t))
  sound_marked =
      let l = levels_in t in
      let m = levels_in (marked_tree t) in
      let d = leb-true (levels t) 16 deep in
      let s = length_in t in
      let r = length_in (marked_tree t) in
      let z = marked_lengths t.attributes in
      record {
        fit = marked_is_fit t fit free;
        within_levels = omega arith;
        few = marked_have_few;
        within_size = omega arith;
        names = ap (filter is_further) (spaces_in (marked_tree t))
            ∙ spaces_by_attributes t (with_attribute parameter_mark t.attributes) (marked_spaces t.attributes)
            ∙ sym (ap (filter is_further) (spaces_in t));
      }

-- ---- all of them

is_false : (b : Bool) → not b ≡ true → b ≡ false
is_false true h = cc
is_false false h = refl

all_marked : (ts : List Tree) → list_all is_fit_tree ts ≡ true → are_shallow ts ≡ true → have_few_attributes ts ≡ true
    → are_unmarked ts ≡ true → AllSound (map marked_tree ts) 16 (lengths ts + 100 * length ts) (further_named ts)
all_marked [] f d a u = all_wider 16 0 none_sound (omega arith) (omega arith)
all_marked (t ∷ ts) f d a u =
    let here =
    sound_marked t (first_so (is_fit_tree t) (list_all is_fit_tree ts) f) (first_so (nat_le (levels t) 16) (are_shallow ts) d)
    (first_so (nat_le (most_attributes t) 16) (have_few_attributes ts) a)
    (is_false (list_any marks_parameter t.attributes) (first_so (not (list_any marks_parameter t.attributes)) (are_unmarked ts) u)) in
    let more =
    all_marked ts (second_so (is_fit_tree t) (list_all is_fit_tree ts) f) (second_so (nat_le (levels t) 16) (are_shallow ts) d)
    (second_so (nat_le (most_attributes t) 16) (have_few_attributes ts) a)
    (second_so (not (list_any marks_parameter t.attributes)) (are_unmarked ts) u) in
    let all = more_sound here more in
    let split = sum_by-cons tree_length t ts in
    let same = filter_append is_further (spaces_named t) (joined (map spaces_named ts)) in
    let whole = all_wider 16 (lengths (t ∷ ts) + 100 * length (t ∷ ts)) all (omega arith) (omega arith) in
    record {
      fit = whole.fit;
      within_levels = whole.within_levels;
      few = whole.few;
      within_size = whole.within_size;
      names = whole.names ∙ sym same;
    }

pub sound_marked_parameters : (e : Epr) → Fits e
    → AllSound (map marked_tree e.parameters) 16 (lengths e.parameters + 100 * length e.parameters) (further_named e.parameters)
sound_marked_parameters e fits = all_marked e.parameters fits.fit fits.depth fits.attributes fits.unmarked

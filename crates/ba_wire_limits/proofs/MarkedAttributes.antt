-- The mark of a parameter, put among its attributes, keeps what holds of them: for the laws on envelopes.
use Rattle.std.proofs.Common.{◌≡◌, ℕ, ◌+◌, Bool, true, false, ◌&&◌, ◌||◌, List, [], ◌∷◌, map, length, filter, cond}
use Rattle.std.proofs.Common.{if◌then◌else◌, refl, sym, ap, ◌∙◌, arith}
use Rattle.std.proofs.lemmas.List.Sums.{sum_by-cons}
use Rattle.std.specs.Cmp.{first_so, second_so}
use Rattle.std.specs.Cmp.Lexicographic as lexicographic
use Rattle.std.specs.Cmp.Lexicographic.{slice_cmp}
use Rattle.std.specs.FinMap.{nat_cmp-IsAntisymmetric, slice_cmp-IsAntisymmetric}
use Rattle.std.specs.List.{list_all, list_any, sum_by}
use Rattle.std.specs.Ordering.{is_lt, nat_cmp, ordering_reverse, ordering_then}
use Rattle.std.specs.Str.{bytes_eq, is_utf8, chars}
use Rattle.std.specs.declared.cmp.Ordering.{Ordering}
use Rattle.std.specs.declared.cmp.Ordering.TheVariants as order
use Rattle.ba_message.specs.Endpoints.{marks_parameter}
use Rattle.ba_message.specs.declared.endpoints.TheConstants.{PARAMETER_MARK}
use Rattle.ba_soap.specs.Elements.{parameter_mark, with_attribute}
use Rattle.ba_tree.specs.declared.trees.Attribute.{Attribute}
use Rattle.ba_tree.specs.Lengths.{attribute_length}
use Rattle.ba_tree.specs.Namespaces.{wsa_space}
use Rattle.ba_tree.specs.Trees.{is_fit_attribute, name_cmp, rises}
use Rattle.ba_xml.proofs.Prefixes.{names_total}
use Rattle.ba_xml_writer.specs.Namespaces.{is_further}
use Rattle.ba_message.proofs.PlainTexts.{and_both}
use Rattle.ba_wire_limits.proofs.FixedSpaces.{wsa_fixed}

-- the mark put before an attribute, or after it
abbrev put_at : Bool → Attribute → List Attribute → List Attribute
put_at before b more = if before then parameter_mark ∷ b ∷ more else b ∷ with_attribute parameter_mark more

abbrev is_before : Attribute → Bool
is_before b = is_lt (name_cmp parameter_mark.name b.name)

abbrev is_marked : List Attribute → Bool
is_marked atts = list_any marks_parameter atts

-- ---- the order

then_equal : (x y : Ordering) → ordering_then x y ≡ order.Equal → (x ≡ order.Equal) × (y ≡ order.Equal)
then_equal order.Equal y e = (refl, e)
then_equal order.Less y e = absurd (cc)
then_equal order.Greater y e = absurd (cc)

same_self : (x y : List ℕ) → x ≡ y → bytes_eq y x ≡ true
same_self x y e = ap (λ z. bytes_eq z x) (sym e) ∙ lexicographic.nat_list_eq_equiv.refl x

named_alike : (b : Attribute) → name_cmp parameter_mark.name b.name ≡ order.Equal → marks_parameter b ≡ true
named_alike b e =
    let both = then_equal (slice_cmp nat_cmp wsa_space b.name.space) (slice_cmp nat_cmp PARAMETER_MARK.now b.name.local) e in
    let space : wsa_space ≡ b.name.space = slice_cmp-IsAntisymmetric nat_cmp-IsAntisymmetric wsa_space b.name.space both.0 in
    let local : PARAMETER_MARK.now ≡ b.name.local =
    slice_cmp-IsAntisymmetric nat_cmp-IsAntisymmetric PARAMETER_MARK.now b.name.local both.1 in
    and_both (bytes_eq b.name.space wsa_space) (bytes_eq b.name.local PARAMETER_MARK.now)
    (same_self wsa_space b.name.space space) (same_self PARAMETER_MARK.now b.name.local local)

-- an attribute that isn't a mark, and before which the mark doesn't stand, stands before the mark
after_it : (b : Attribute) → is_before b ≡ false → marks_parameter b ≡ false
    → is_lt (name_cmp b.name parameter_mark.name) ≡ true
after_it b h m = by (name_cmp parameter_mark.name b.name) refl
  where
    by : (o : Ordering) → name_cmp parameter_mark.name b.name ≡ o → is_lt (name_cmp b.name parameter_mark.name) ≡ true
    by order.Less e = let t : true ≡ false = sym (ap is_lt e) ∙ h in absurd (cc)
    by order.Equal e = let t : true ≡ false = sym (named_alike b e) ∙ m in absurd (cc)
    by order.Greater e = ap is_lt (names_total.antisymm b.name parameter_mark.name ∙ ap ordering_reverse e)

none_marked : (b : Attribute) (more : List Attribute) → is_marked (b ∷ more) ≡ false
    → (marks_parameter b ≡ false) × (is_marked more ≡ false)
none_marked b more h = by (marks_parameter b) refl
  where
    by : (x : Bool) → marks_parameter b ≡ x → (marks_parameter b ≡ false) × (is_marked more ≡ false)
    by true e = let t : true ≡ false = sym (ap (λ y. y || is_marked more) e) ∙ h in absurd (cc)
    by false e = (e, sym (ap (λ y. y || is_marked more) e) ∙ h)

abbrev RisesAfter : Attribute → List Attribute → Type 0
RisesAfter b more =
    is_lt (name_cmp b.name parameter_mark.name) ≡ true → rises (b ∷ more) ≡ true → is_marked more ≡ false
    → rises (b ∷ with_attribute parameter_mark more) ≡ true

rises_after : (b : Attribute) (more : List Attribute) → RisesAfter b more
rises_after b [] l r u = and_both (is_lt (name_cmp b.name parameter_mark.name)) true l refl
rises_after b (c ∷ more) l r u = by (is_before c) refl (rises_after c more)
  where
    by : (x : Bool) → is_before c ≡ x → RisesAfter c more → rises (b ∷ put_at x c more) ≡ true
    by true e again =
        and_both (is_lt (name_cmp b.name parameter_mark.name)) (is_before c && rises (c ∷ more)) l
        (and_both (is_before c) (rises (c ∷ more)) e (second_so (is_lt (name_cmp b.name c.name)) (rises (c ∷ more)) r))
    by false e again =
        let rest = none_marked c more u in
        and_both (is_lt (name_cmp b.name c.name)) (rises (c ∷ with_attribute parameter_mark more))
        (first_so (is_lt (name_cmp b.name c.name)) (rises (c ∷ more)) r)
        (again (after_it c e rest.0) (second_so (is_lt (name_cmp b.name c.name)) (rises (c ∷ more)) r) rest.1)

pub marked_rises : (atts : List Attribute) → rises atts ≡ true → is_marked atts ≡ false
    → rises (with_attribute parameter_mark atts) ≡ true
marked_rises [] r u = refl
marked_rises (b ∷ more) r u = by (is_before b) refl
  where
    by : (x : Bool) → is_before b ≡ x → rises (put_at x b more) ≡ true
    by true e = and_both (is_before b) (rises (b ∷ more)) e r
    by false e = let rest = none_marked b more u in rises_after b more (after_it b e rest.0) r rest.1

-- ---- each, how many, their lengths and namespaces

mark_fit : is_fit_attribute parameter_mark ≡ true
unfolding is_utf8 chars lib.Utf8.encode
mark_fit = refl

abbrev AllFit : List Attribute → Type 0
AllFit more = list_all is_fit_attribute more ≡ true → list_all is_fit_attribute (with_attribute parameter_mark more) ≡ true

all_fit : (atts : List Attribute) → AllFit atts
all_fit [] all = and_both (is_fit_attribute parameter_mark) true mark_fit refl
all_fit (b ∷ more) all = by (is_before b) (all_fit more)
  where
    by : (x : Bool) → AllFit more → list_all is_fit_attribute (put_at x b more) ≡ true
    by true again = and_both (is_fit_attribute parameter_mark) (list_all is_fit_attribute (b ∷ more)) mark_fit all
    by false again =
        and_both (is_fit_attribute b) (list_all is_fit_attribute (with_attribute parameter_mark more))
        (first_so (is_fit_attribute b) (list_all is_fit_attribute more) all)
        (again (second_so (is_fit_attribute b) (list_all is_fit_attribute more) all))

pub marked_fit : (atts : List Attribute) → (list_all is_fit_attribute atts && rises atts) ≡ true → is_marked atts ≡ false
    → (list_all is_fit_attribute (with_attribute parameter_mark atts) && rises (with_attribute parameter_mark atts)) ≡ true
marked_fit atts h free =
    and_both (list_all is_fit_attribute (with_attribute parameter_mark atts)) (rises (with_attribute parameter_mark atts))
    (all_fit atts (first_so (list_all is_fit_attribute atts) (rises atts) h))
    (marked_rises atts (second_so (list_all is_fit_attribute atts) (rises atts) h) free)

pub one_more : (atts : List Attribute) → length (with_attribute parameter_mark atts) ≡ 1 + length atts
one_more [] = omega arith
one_more (b ∷ more) = by (is_before b) (one_more more)
  where
    by : (x : Bool) → length (with_attribute parameter_mark more) ≡ 1 + length more
        → length (put_at x b more) ≡ 1 + length (b ∷ more)
    by true again = omega arith
    by false again = omega arith

pub marked_lengths : (atts : List Attribute)
    → sum_by attribute_length (with_attribute parameter_mark atts) ≡ attribute_length parameter_mark + sum_by attribute_length atts
marked_lengths [] = sum_by-cons attribute_length parameter_mark []
marked_lengths (b ∷ more) = by (is_before b) (marked_lengths more)
  where
    by : (x : Bool)
        → sum_by attribute_length (with_attribute parameter_mark more)
        ≡ attribute_length parameter_mark + sum_by attribute_length more
        → sum_by attribute_length (put_at x b more) ≡ attribute_length parameter_mark + sum_by attribute_length (b ∷ more)
    by true again = sum_by-cons attribute_length parameter_mark (b ∷ more)
    by false again =
        let one = sum_by-cons attribute_length b (with_attribute parameter_mark more) in
        let two = sum_by-cons attribute_length b more in
        omega arith

abbrev pub further_of : List Attribute → List (List ℕ)
further_of atts = filter is_further (map (λ a. a.name.space) atts)

pub marked_spaces : (atts : List Attribute) → further_of (with_attribute parameter_mark atts) ≡ further_of atts
marked_spaces [] = ap (λ z. cond z (wsa_space ∷ []) []) wsa_fixed
marked_spaces (b ∷ more) = by (is_before b) (marked_spaces more)
  where
    by : (x : Bool) → further_of (with_attribute parameter_mark more) ≡ further_of more
        → further_of (put_at x b more) ≡ further_of (b ∷ more)
    by true again = ap (λ z. cond z (wsa_space ∷ further_of (b ∷ more)) (further_of (b ∷ more))) wsa_fixed
    by false again = ap (λ l. cond (is_further b.name.space) (b.name.space ∷ l) l) again

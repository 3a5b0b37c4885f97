-- A parameter with its mark is one, and is read back without it: for the law on envelopes.
use Rattle.std.proofs.Common.{◌≡◌, ℕ, Bool, true, false, not, ◌&&◌, ◌||◌, List, [], ◌∷◌, ◌++◌, Option, Some, map, filter, cond}
use Rattle.std.proofs.Common.{if◌then◌else◌, codes, refl, sym, ap, ◌∙◌}
use Rattle.std.specs.Cmp.{first_so, second_so}
use Rattle.std.specs.List.{list_any}
use Rattle.std.specs.Ordering.{is_lt}
use Rattle.ba_message.specs.Endpoints.{are_unmarked, marks_parameter}
use Rattle.ba_soap_shapes.specs.Endpoints.{unmarked_tree}
use Rattle.ba_soap_shapes.proofs.WrittenEndpoints.{unmarked_stays}
use Rattle.ba_soap.specs.Elements.{marked_tree, parameter_mark, with_attribute}
use Rattle.ba_soap.specs.Envelopes.{Dialect, flag_of, has_bad_flag, header_of, is_looked_at, is_unknown, is_left_out_or_one_of}
use Rattle.ba_soap.specs.Envelopes.{is_not_understood, is_parameter, option_is_one_of, value_at}
use Rattle.ba_tree.specs.declared.trees.Attribute.{Attribute}
use Rattle.ba_tree.specs.declared.trees.Tree.{Tree}
use Rattle.ba_tree.specs.Namespaces.{wsa_space}
use Rattle.ba_tree.specs.Trees.{name_cmp}

no : (b : Bool) → not b ≡ true → b ≡ false
no true h = cc
no false h = refl

-- ---- attributes

abbrev kept : List Attribute → List Attribute
kept atts = filter (λ a. not (marks_parameter a)) atts

abbrev mark_of : List Attribute → Option (List ℕ)
mark_of atts = value_at wsa_space (codes "IsReferenceParameter") atts

rest_unmarked : (b : Attribute) (more : List Attribute) → marks_parameter b ≡ false → list_any marks_parameter (b ∷ more) ≡ false
    → list_any marks_parameter more ≡ false
rest_unmarked b more e h = sym (ap (λ x. x || list_any marks_parameter more) e) ∙ h

kept_is : (atts : List Attribute) → list_any marks_parameter atts ≡ false → kept (with_attribute parameter_mark atts) ≡ kept atts
kept_is [] h = refl
kept_is (b ∷ more) h = by (is_lt (name_cmp parameter_mark.name b.name)) (marks_parameter b) refl (kept_is more)
  where
    by :
        (first is : Bool) → marks_parameter b ≡ is → (list_any marks_parameter more ≡ false
        → kept (with_attribute parameter_mark more) ≡ kept more)
        → kept (if first then parameter_mark ∷ b ∷ more else b ∷ with_attribute parameter_mark more) ≡ kept (b ∷ more)
    by true is e rest = refl
    by false true e rest = let t : true ≡ false = sym (ap (λ x. x || list_any marks_parameter more) e) ∙ h in cc
    by false false e rest = ap (λ l. cond (not (marks_parameter b)) (b ∷ l) l) (rest (rest_unmarked b more e h))

mark_is : (atts : List Attribute) → list_any marks_parameter atts ≡ false
    → mark_of (with_attribute parameter_mark atts) ≡ Some (codes "true")
mark_is [] h = refl
mark_is (b ∷ more) h = by (is_lt (name_cmp parameter_mark.name b.name)) (marks_parameter b) refl (mark_is more)
  where
    by :
        (first is : Bool) → marks_parameter b ≡ is → (list_any marks_parameter more ≡ false
        → mark_of (with_attribute parameter_mark more) ≡ Some (codes "true"))
        → mark_of (if first then parameter_mark ∷ b ∷ more else b ∷ with_attribute parameter_mark more) ≡ Some (codes "true")
    by true is e rest = refl
    by false true e rest = let t : true ≡ false = sym (ap (λ x. x || list_any marks_parameter more) e) ∙ h in cc
    by false false e rest =
        ap (λ x. if x then Some b.value else mark_of (with_attribute parameter_mark more)) e ∙ rest (rest_unmarked b more e h)

-- ---- one parameter

abbrev IsUnmarked : Tree → Type 0
IsUnmarked t = not (list_any marks_parameter t.attributes) ≡ true

pub marked_is_parameter : (t : Tree) → IsUnmarked t → is_parameter (marked_tree t) ≡ true
marked_is_parameter t h = ap (option_is_one_of (codes "true" ∷ codes "1" ∷ []))
    (mark_is t.attributes (no (list_any marks_parameter t.attributes) h))

-- its attributes but the mark are those that it had
pub unmarked_marked : (t : Tree) → IsUnmarked t → unmarked_tree (marked_tree t) ≡ t
unmarked_marked t h =
    let kept_all = kept_is t.attributes (no (list_any marks_parameter t.attributes) h) in
    (λ i. record { name = t.name; attributes = kept_all i; content = t.content }) ∙ unmarked_stays t h

not_looked_at : (d : Dialect) (t : Tree) → IsUnmarked t → is_looked_at d (marked_tree t) ≡ false
not_looked_at d t h = ap (λ x. not x && is_left_out_or_one_of d.ours (value_at d.space d.role (marked_tree t).attributes))
    (marked_is_parameter t h)

-- ---- all parameters

abbrev first_unmarked : (t : Tree) (ts : List Tree) → are_unmarked (t ∷ ts) ≡ true → IsUnmarked t
first_unmarked t ts h = first_so (not (list_any marks_parameter t.attributes)) (are_unmarked ts) h

abbrev others_unmarked : (t : Tree) (ts : List Tree) → are_unmarked (t ∷ ts) ≡ true → are_unmarked ts ≡ true
others_unmarked t ts h = second_so (not (list_any marks_parameter t.attributes)) (are_unmarked ts) h

pub are_parameters : (ts : List Tree) → are_unmarked ts ≡ true → filter is_parameter (map marked_tree ts) ≡ map marked_tree ts
are_parameters [] h = refl
are_parameters (t ∷ ts) h =
    let rest = are_parameters ts (others_unmarked t ts h) in
    ap (λ x. cond x (marked_tree t ∷ filter is_parameter (map marked_tree ts)) (filter is_parameter (map marked_tree ts)))
    (marked_is_parameter t (first_unmarked t ts h))
    ∙ ap (λ l. marked_tree t ∷ l) rest

pub are_read_back : (ts : List Tree) → are_unmarked ts ≡ true → map unmarked_tree (map marked_tree ts) ≡ ts
are_read_back [] h = refl
are_read_back (t ∷ ts) h = λ i. unmarked_marked t (first_unmarked t ts h) i ∷ are_read_back ts (others_unmarked t ts h) i

module _ (d : Dialect) where
  pub none_looked_at : (ts : List Tree) → are_unmarked ts ≡ true → filter (is_looked_at d) (map marked_tree ts) ≡ []
  none_looked_at [] h = refl
  none_looked_at (t ∷ ts) h =
      let rest = none_looked_at ts (others_unmarked t ts h) in
      ap (λ x. cond x (marked_tree t ∷ filter (is_looked_at d) (map marked_tree ts)) (filter (is_looked_at d) (map marked_tree ts)))
      (not_looked_at d t (first_unmarked t ts h))
      ∙ rest

  pub none_flagged : (ts : List Tree) → are_unmarked ts ≡ true → list_any (has_bad_flag d) (map marked_tree ts) ≡ false
  none_flagged [] h = refl
  none_flagged (t ∷ ts) h =
      let rest = none_flagged ts (others_unmarked t ts h) in
      ap (λ x. (x && not (is_left_out_or_one_of (d.must ++ d.may) (flag_of d (marked_tree t)))) || list_any (has_bad_flag d)
      (map marked_tree ts)) (not_looked_at d t (first_unmarked t ts h))
      ∙ rest

  pub none_unknown : (ts : List Tree) → are_unmarked ts ≡ true → list_any (is_not_understood d) (map marked_tree ts) ≡ false
  none_unknown [] h = refl
  none_unknown (t ∷ ts) h =
      let rest = none_unknown ts (others_unmarked t ts h) in
      ap (λ x. (x && (option_is_one_of d.must (flag_of d (marked_tree t)) && is_unknown (header_of (marked_tree t)))) || list_any
      (is_not_understood d) (map marked_tree ts)) (not_looked_at d t (first_unmarked t ts h))
      ∙ rest

-- An endpoint reference that fits is read back from the element in which it is written.
use Rattle.std.proofs.Common.{◌≡◌, ℕ, ◌-◌, ◌≤◌, cond, Bool, true, false, not, ◌&&◌, ◌||◌, None, Ok, List, [], ◌∷◌, map, filter, length}
use Rattle.std.proofs.Common.{append-nil, refl, sym, ap, ◌∙◌, arith, if◌then◌else◌, slice_index, codes}
use Rattle.std.proofs.Common.{Result, Err, IfOk}
use Rattle.ba_core.specs.declared.memory.Memory.{Memory}
use Rattle.std.specs.Cmp.{first_so, second_so}
use Rattle.std.specs.List.{list_all, list_any}
use Rattle.ba_tree.specs.declared.trees.Tree.{Tree}
use Rattle.ba_tree.specs.declared.trees.Name.{Name}
use Rattle.ba_tree.specs.declared.trees.Attribute.{Attribute}
use Rattle.ba_tree.specs.declared.trees.Content.TheVariants.{Child, Text}
use Rattle.ba_message.specs.declared.endpoints.Epr.{Epr}
use Rattle.ba_tree.specs.Characters.{has_bare_ends, is_white}
use Rattle.ba_message.specs.Endpoints.{Fits, marks_parameter}
use Rattle.ba_soap_shapes.specs.Elements.{trim_end, trim_start, text_of, trim}
use Rattle.ba_soap_shapes.specs.Endpoints.{epr_answer_by, child_at, children_in, bare_element, endpoint_element, endpoint_look, endpoint_of}
use Rattle.ba_soap_shapes.specs.Endpoints.{endpoint_lines, epr_answer, address_line, parameters_line, parameters_content, text_at, text_in}
use Rattle.ba_soap_shapes.specs.Endpoints.{misfit_unless_fit, unmarked_tree, wsa_name}
use Rattle.ba_message.specs.Endpoints.{fits_endpoint}
use Rattle.ba_soap_shapes.specs.Forms.{is_there, plain_look, mismatch_unless}
use Rattle.ba_soap_shapes.specs.Shapes.{names}
use Rattle.ba_soap_shapes.proofs.ElementLaws.{text_text}
use Rattle.ba_message.proofs.FitTests.{tests_by_fits}
use Rattle.ba_soap_shapes.proofs.WrittenShapes.{AllFine, rows_hold, head_of, child_is, children_are}

-- ---- texts

no : (b : Bool) → not b ≡ true → b ≡ false
no true h = cc
no false h = refl

last_kept : (b : ℕ) (bs : List ℕ) → is_white (slice_index (b ∷ bs) (length bs)) ≡ false
    → (list_all is_white (b ∷ bs) ≡ false) × (trim_end (b ∷ bs) ≡ b ∷ bs)
last_kept b [] h = (ap (λ x. x && true) h, ap (λ x. if x && true then [] else b ∷ []) h)
last_kept b (c ∷ more) h =
    let rest = last_kept c more h in
    let all : list_all is_white (b ∷ c ∷ more) ≡ false = ap (λ x. is_white b && x) rest.0 ∙ never (is_white b) in
    (all, (λ i. if all i then [] else b ∷ rest.1 i))
  where
    never : (x : Bool) → (x && false) ≡ false
    never true = refl
    never false = refl

pub bare_stays : (bytes : List ℕ) → has_bare_ends bytes ≡ true → trim bytes ≡ bytes
bare_stays [] h = refl
bare_stays (b ∷ bs) h =
    let begins : is_white b ≡ false = no (is_white b)
    (first_so (not (is_white b)) (not (is_white (slice_index (b ∷ bs) (length (b ∷ bs) - 1)))) h) in
    let at : length (b ∷ bs) - 1 ≡ length bs = omega arith in
    let ends : is_white (slice_index (b ∷ bs) (length bs)) ≡ false =
    no _ (ap (λ n. not (is_white (slice_index (b ∷ bs) n))) (sym at)
    ∙ second_so (not (is_white b)) (not (is_white (slice_index (b ∷ bs) (length (b ∷ bs) - 1)))) h) in
    ap (λ x. trim_end (if x then trim_start bs else b ∷ bs)) begins ∙ (last_kept b bs ends).1

-- the text of an element that holds a text alone
pub text_alone : (n : Name) (text : List ℕ) → has_bare_ends text ≡ true → text_of (bare_element n (Text text ∷ [])) ≡ text
text_alone n text h = ap trim (text_text text [] ∙ append-nil text) ∙ bare_stays text h

pub is_there_by : (text : List ℕ) → 1 ≤ length text → is_there text ≡ true
is_there_by [] h = absurd (omega arith)
is_there_by (b ∷ text) h = refl

-- ---- parameters

all_kept : (atts : List Attribute) → list_any marks_parameter atts ≡ false → filter (λ a. not (marks_parameter a)) atts ≡ atts
all_kept [] h = refl
all_kept (a ∷ atts) h = by (marks_parameter a) refl (all_kept atts)
  where
    by : (b : Bool) → marks_parameter a ≡ b → (list_any marks_parameter atts ≡ false → filter (λ x. not (marks_parameter x)) atts ≡ atts)
        → filter (λ x. not (marks_parameter x)) (a ∷ atts) ≡ a ∷ atts
    by true is more = let t : true ≡ false = sym (ap (λ x. x || list_any marks_parameter atts) is) ∙ h in cc
    by false is more = ap (λ x. cond (not x) (a ∷ filter (λ y. not (marks_parameter y)) atts) (filter (λ y. not (marks_parameter y)) atts))
        is ∙ ap (λ l. a ∷ l) (more (sym (ap (λ x. x || list_any marks_parameter atts) is) ∙ h))

pub unmarked_stays : (t : Tree) → not (list_any marks_parameter t.attributes) ≡ true → unmarked_tree t ≡ t
unmarked_stays t h = λ i. record {
  name = t.name;
  attributes = all_kept t.attributes (no (list_any marks_parameter t.attributes) h) i;
  content = t.content;
}

all_unmarked : (ts : List Tree) → list_all (λ t. not (list_any marks_parameter t.attributes)) ts ≡ true → map unmarked_tree ts ≡ ts
all_unmarked [] h = refl
all_unmarked (t ∷ ts) h =
    λ i. unmarked_stays t (first_so _ (list_all (λ x. not (list_any marks_parameter x.attributes)) ts) h) i
    ∷ all_unmarked ts (second_so (not (list_any marks_parameter t.attributes)) _ h) i

-- ---- the endpoint reference

abbrev address_element : Epr → Tree
address_element e = bare_element (wsa_name (codes "Address")) (Text e.address ∷ [])

abbrev parts : List Tree → List Tree
parts [] = []
parts (p ∷ more) = bare_element (wsa_name (codes "ReferenceParameters")) (map Child (p ∷ more)) ∷ []

parts_are : (ps : List Tree) → parameters_content ps ≡ map Child (parts ps)
parts_are [] = refl
parts_are (p ∷ more) = refl

module _ (n : Name) (e : Epr) (fits : Fits e) where
  content_is : (endpoint_element n e).content ≡ map Child (address_element e ∷ parts e.parameters)
  content_is = ap (λ l. Child (address_element e) ∷ l) (parts_are e.parameters)

  address_is : text_of (address_element e) ≡ e.address
  address_is = text_alone (wsa_name (codes "Address")) e.address fits.bare

  address_fine : mismatch_unless (is_there (text_of (address_element e))) 0 ≡ None
  address_fine = ap (λ x. mismatch_unless (is_there x) 0) address_is ∙ ap (λ b. mismatch_unless b 0) (is_there_by e.address fits.named)

  fine : (ps : List Tree) → AllFine plain_look endpoint_lines (endpoint_element n e) (address_element e ∷ parts ps)
  fine [] = (
    (λ k. ap (λ x. mismatch_unless (is_there x) k) address_is ∙ ap (λ b. mismatch_unless b k) (is_there_by e.address fits.named)),
    (refl, (refl, tt)),
  )
  fine (p ∷ more) = (
    (λ k. ap (λ x. mismatch_unless (is_there x) k) address_is
        ∙ ap (λ b. mismatch_unless b k) (is_there_by e.address fits.named)),
    ((λ k. refl), (refl, tt)),
  )

  parameters_are : (ps : List Tree) → children_in
      (head_of (filter (names parameters_line (endpoint_element n e)) (address_element e ∷ parts ps))) ≡ ps
  parameters_are [] = refl
  parameters_are (p ∷ more) = children_are (p ∷ more)

  pub endpoint_is : endpoint_of (endpoint_element n e) ≡ e
  endpoint_is =
      let a : text_at address_line (endpoint_element n e) ≡ e.address =
      ap text_in (child_is address_line (endpoint_element n e) (address_element e ∷ parts e.parameters) content_is) ∙ address_is in
      let ps : map unmarked_tree (children_in (child_at parameters_line (endpoint_element n e))) ≡ e.parameters =
      ap (λ c. map unmarked_tree (children_in c))
      (child_is parameters_line (endpoint_element n e) (address_element e ∷ parts e.parameters) content_is)
      ∙ ap (map unmarked_tree) (parameters_are e.parameters) ∙ all_unmarked e.parameters fits.unmarked in
      λ i. record { address = a i; parameters = ps i }

  pub endpoint_holds : (k : ℕ) → endpoint_look k (endpoint_element n e) ≡ None
  endpoint_holds k =
      ap (λ m. misfit_unless_fit (fits_endpoint (endpoint_of (endpoint_element n e))) m k)
      (rows_hold plain_look endpoint_lines k (endpoint_element n e) (address_element e ∷ parts e.parameters) content_is
      (fine e.parameters))
      ∙ ap (λ b. misfit_unless_fit b None k) (ap fits_endpoint endpoint_is ∙ tests_by_fits e fits)

  pub reads_back : epr_answer (endpoint_element n e) ≡ Ok e
  reads_back = λ i. epr_answer_by (endpoint_holds 0 i) (endpoint_is i)

pub ok_reads_back : (n : Name) (e : Epr) → Fits e → (r : Result Tree Memory) → IfOk r (λ t. t ≡ endpoint_element n e)
    → IfOk r (λ t. epr_answer t ≡ Ok e)
ok_reads_back n e fits (Ok t) is = ap epr_answer is ∙ reads_back n e fits
ok_reads_back n e fits (Err m) is = tt

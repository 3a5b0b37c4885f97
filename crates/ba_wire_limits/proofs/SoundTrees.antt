-- Elements that are put together of texts and elements keep the rules of texts, within levels, lengths and namespaces that
-- add up: for the laws on envelopes.
use Rattle.std.proofs.Common.{◌≡◌, ℕ, ◌+◌, ◌≤◌, max, Bool, true, false, not, ◌&&◌, List, [], ◌∷◌, ◌++◌, map, length, filter, cond}
use Rattle.std.proofs.Common.{nat_le, ◌==◌, refl, ap, ◌∙◌, arith}
use Rattle.std.proofs.lemmas.Bool.Decides.{nat_tests}
use Rattle.std.proofs.lemmas.List.Sums.{sum_by-cons}
use Rattle.std.specs.List.{list_all, sum_by}
use Rattle.ba_tree.specs.declared.trees.Name.{Name}
use Rattle.ba_tree.specs.declared.trees.Tree.{Tree}
use Rattle.ba_tree.specs.declared.trees.Content.{Content}
use Rattle.ba_tree.specs.declared.trees.Content.TheVariants.{Child, Text}
use Rattle.ba_tree.specs.Characters.{is_legal_text}
use Rattle.ba_tree.specs.Lengths.{name_length, part_length, tree_length}
use Rattle.ba_tree.specs.Spaces.{spaces_within}
use Rattle.ba_tree.specs.Trees.{Element, Part, Within, all_adjacent, element_of, elements, greatest, is_fit_element, is_fit_name}
use Rattle.ba_tree.specs.Trees.{is_fit_part, is_fit_tree, is_text, joined, levels, levels_of, named_spaces, spaces_named, within}
use Rattle.ba_tree.proofs.SpaceLaws.{spaces_in}
use Rattle.ba_tree.proofs.TreeLaws.{elements_in, length_child, length_in, length_text, levels_child, levels_in, levels_text}
use Rattle.ba_tree.proofs.TreeLaws.{within_child, within_text}
use Rattle.ba_tree.proofs.TreeRules.{all_joined, fit_alone, fit_in}
use Rattle.ba_soap_shapes.specs.Endpoints.{bare_element}
use Rattle.ba_xml_writer.specs.Namespaces.{is_further}
use Rattle.ba_message.proofs.PlainTexts.{and_both}
use Rattle.ba_wire_limits.proofs.FurtherSpaces.{filter_append}

-- ---- what is said of a tree, and of trees beside each other

abbrev pub has_few : Element → Bool
has_few e = nat_le (length e.attributes) 32

abbrev pub have_few : Tree → Bool
have_few t = list_all has_few (elements t)

pub record Sound (t : Tree) (deep size : ℕ) (spaces : List (List ℕ)) : Type 0 where
  pub fit : is_fit_tree t ≡ true
  pub within_levels : levels t ≤ deep
  pub few : have_few t ≡ true
  pub within_size : tree_length t ≤ size
  pub names : filter is_further (spaces_named t) ≡ spaces

-- a byte for each besides its own
abbrev pub lengths : List Tree → ℕ
lengths ts = length ts + sum_by tree_length ts

abbrev pub further_named : List Tree → List (List ℕ)
further_named ts = filter is_further (joined (map spaces_named ts))

pub record AllSound (ts : List Tree) (deep size : ℕ) (spaces : List (List ℕ)) : Type 0 where
  pub fit : list_all is_fit_tree ts ≡ true
  pub within_levels : greatest (map levels ts) ≤ deep
  pub few : list_all have_few ts ≡ true
  pub within_size : lengths ts ≤ size
  pub names : further_named ts ≡ spaces

-- ---- with greater limits

pub wider : {t : Tree} {deep size : ℕ} {xs : List (List ℕ)} (deeper more : ℕ) → Sound t deep size xs → deep ≤ deeper → size ≤ more
    → Sound t deeper more xs
wider deeper more s d l =
    let a = s.within_levels in
    let b = s.within_size in
    record { fit = s.fit; within_levels = omega arith; few = s.few; within_size = omega arith; names = s.names }

pub all_wider : {ts : List Tree} {deep size : ℕ} {xs : List (List ℕ)} (deeper more : ℕ) → AllSound ts deep size xs → deep ≤ deeper
    → size ≤ more → AllSound ts deeper more xs
all_wider deeper more s d l =
    let a = s.within_levels in
    let b = s.within_size in
    record { fit = s.fit; within_levels = omega arith; few = s.few; within_size = omega arith; names = s.names }

-- ---- beside each other

pub none_sound : AllSound [] 0 0 []
none_sound = record { fit = refl; within_levels = omega arith; few = refl; within_size = omega arith; names = refl }

pub more_sound : {t : Tree} {ts : List Tree} {deep deeper size more : ℕ} {xs ys : List (List ℕ)} → Sound t deep size xs
    → AllSound ts deeper more ys → AllSound (t ∷ ts) (max deep deeper) (1 + size + more) (xs ++ ys)
more_sound {t} {ts} s all =
    let a = s.within_levels in
    let b = all.within_levels in
    let c = s.within_size in
    let d = all.within_size in
    let split = sum_by-cons tree_length t ts in
    record {
      fit = and_both (is_fit_tree t) (list_all is_fit_tree ts) s.fit all.fit;
      within_levels = omega arith;
      few = and_both (have_few t) (list_all have_few ts) s.few all.few;
      within_size = omega arith;
      names = filter_append is_further (spaces_named t) (joined (map spaces_named ts)) ∙ (λ i. s.names i ++ all.names i);
    }

-- ---- content that is of elements alone

children_all : (p : Within → Bool) (ts : List Tree)
    → list_all (λ c. p (within c)) (map Child ts) ≡ list_all (λ t. p (record { part = Part.child; elements = elements t })) ts
children_all p [] = refl
children_all p (t ∷ ts) = λ i. p (within_child t i) && children_all p ts i

are_parts : (ts : List Tree) → list_all (λ t. is_fit_part Part.child) ts ≡ true
are_parts [] = refl
are_parts (t ∷ ts) = are_parts ts

abbrev pub apart : List Content → Bool
apart = all_adjacent (λ c d. not (is_text (within c).part && is_text (within d).part))

are_apart : (ts : List Tree) → apart (map Child ts) ≡ true
are_apart [] = refl
are_apart (t ∷ []) = refl
are_apart (t ∷ u ∷ ts) =
    ap (λ w. not (is_text w.part && is_text (within (Child u)).part) && apart (map Child (u ∷ ts))) (within_child t)
    ∙ are_apart (u ∷ ts)

levels_of_children : (ts : List Tree) → greatest (map levels_of (map Child ts)) ≡ greatest (map levels ts)
levels_of_children [] = refl
levels_of_children (t ∷ ts) = λ i. max (levels_child t i) (levels_of_children ts i)

lengths_of_children : (ts : List Tree) → sum_by part_length (map Child ts) ≡ lengths ts
lengths_of_children [] = omega arith
lengths_of_children (t ∷ ts) =
    let one = length_child t in
    let more = lengths_of_children ts in
    let split = sum_by-cons tree_length t ts in
    let parts = sum_by-cons part_length (Child t) (map Child ts) in
    omega arith

spaces_of_children : (ts : List Tree) → joined (map spaces_within (map Child ts)) ≡ joined (map spaces_named ts)
spaces_of_children [] = refl
spaces_of_children (t ∷ ts) = λ i. joined (map named_spaces (within_child t i).elements) ++ spaces_of_children ts i

-- ---- elements without attributes

-- a name as the rules want it, in a namespace that each root declares
pub record IsFixed (n : Name) : Type 0 where
  pub fit : is_fit_name n ≡ true
  pub fixed : is_further n.space ≡ false

pub record IsSaid (text : List ℕ) : Type 0 where
  pub legal : is_legal_text text ≡ true
  pub there : 1 ≤ length text

module _ (n : Name) (named : is_fit_name n ≡ true) where
  bare_fit : (cs : List Content) → list_all (λ c. list_all is_fit_element (within c).elements) cs ≡ true
      → list_all (λ c. is_fit_part (within c).part) cs ≡ true → apart cs ≡ true → is_fit_tree (bare_element n cs) ≡ true
  bare_fit cs all parts a =
      fit_in (bare_element n cs)
      ∙ and_both (is_fit_element (element_of (bare_element n cs))) (list_all (λ c. list_all is_fit_element (within c).elements) cs)
      (fit_alone (bare_element n cs) ∙ and_both (is_fit_name n && true) (list_all (λ c. is_fit_part (within c).part) cs && apart cs)
      (and_both (is_fit_name n) true named refl) (and_both (list_all (λ c. is_fit_part (within c).part) cs) (apart cs) parts a)) all

  pub fit_element : (ts : List Tree) → list_all is_fit_tree ts ≡ true → is_fit_tree (bare_element n (map Child ts)) ≡ true
  fit_element ts all =
      bare_fit (map Child ts) (children_all (λ w. list_all is_fit_element w.elements) ts ∙ all)
      (children_all (λ w. is_fit_part w.part) ts ∙ are_parts ts) (are_apart ts)

  not_none : (m : ℕ) → 1 ≤ m → (m == 0) ≡ false
  not_none m h = grind (arith, nat_tests)

  text_fit : (t : List ℕ) → is_legal_text t ≡ true → 1 ≤ length t → (is_fit_part (Part.text t) && true) ≡ true
  text_fit [] legal there = absurd (omega arith)
  text_fit (b ∷ t) legal there =
      ap (λ x. (not x && is_legal_text (b ∷ t)) && true) (not_none (length (b ∷ t)) there)
      ∙ ap (λ x. (true && x) && true) legal

  pub fit_text : (t : List ℕ) → IsSaid t → is_fit_tree (bare_element n (Text t ∷ [])) ≡ true
  fit_text t said =
      bare_fit (Text t ∷ []) (ap (λ w. list_all is_fit_element w.elements && true) (within_text t))
      (ap (λ w. is_fit_part w.part && true) (within_text t) ∙ text_fit t said.legal said.there) refl

module _ {n : Name} (is : IsFixed n) where
  bare_few : (cs : List Content) → have_few (bare_element n cs) ≡ list_all (λ c. list_all has_few (within c).elements) cs
  bare_few cs = ap (list_all has_few) (elements_in (bare_element n cs)) ∙ all_joined has_few (λ c. (within c).elements) cs

  bare_names : (cs : List Content)
      → filter is_further (spaces_named (bare_element n cs)) ≡ filter is_further (joined (map spaces_within cs))
  bare_names cs =
      let inner = filter is_further (joined (map spaces_within cs)) in
      ap (filter is_further) (spaces_in (bare_element n cs)) ∙ ap (λ b. cond b (n.space ∷ inner) inner) is.fixed

  pub sound_element : {ts : List Tree} {deep size : ℕ} {xs : List (List ℕ)} → AllSound ts deep size xs
      → Sound (bare_element n (map Child ts)) (1 + deep) (3 + name_length n + size) xs
  sound_element {ts} all =
      let l = levels_in (bare_element n (map Child ts)) in
      let inner = levels_of_children ts in
      let a = all.within_levels in
      let s = length_in (bare_element n (map Child ts)) in
      let parts = lengths_of_children ts in
      let b = all.within_size in
      record {
        fit = fit_element n is.fit ts all.fit;
        within_levels = omega arith;
        few = bare_few (map Child ts) ∙ children_all (λ w. list_all has_few w.elements) ts ∙ all.few;
        within_size = omega arith;
        names = bare_names (map Child ts) ∙ ap (filter is_further) (spaces_of_children ts) ∙ all.names;
      }

  -- one that holds a text alone
  pub sound_text : {t : List ℕ} → IsSaid t → Sound (bare_element n (Text t ∷ [])) 1 (6 + name_length n + length t) []
  sound_text {t} said =
      let l = levels_in (bare_element n (Text t ∷ [])) in
      let inner = levels_text t in
      let s = length_in (bare_element n (Text t ∷ [])) in
      let one = length_text t in
      let parts = sum_by-cons part_length (Text t) [] in
      record {
        fit = fit_text n is.fit t said;
        within_levels = omega arith;
        few = bare_few (Text t ∷ []) ∙ ap (λ w. list_all has_few w.elements && true) (within_text t);
        within_size = omega arith;
        names = bare_names (Text t ∷ []) ∙ ap (λ w. filter is_further (joined (map named_spaces w.elements) ++ [])) (within_text t);
      }

-- What is read of an element, said of its first part and of the rest.
use Rattle.std.proofs.Common.{◌≡◌, ℕ, ◌+◌, ◌≤◌, Bool, true, false, List, [], ◌∷◌, ◌++◌, map, length, refl, sym, ap, ◌∙◌, arith}
use Rattle.std.proofs.Common.{length-append, if◌then◌else◌, ◌&&◌}
use Rattle.std.specs.List.{sum_by, list_all}
use Rattle.std.proofs.lemmas.List.Sums.{sum_by-cons}
use Rattle.std.proofs.lemmas.List.Folds.{list_all-append}
use Rattle.ba_tree.specs.declared.trees.Tree.{Tree}
use Rattle.ba_tree.specs.declared.trees.Content.{Content}
use Rattle.ba_tree.specs.declared.trees.Content.TheVariants.{Child, Text, outs-Child, outs-Text}
use Rattle.ba_tree.specs.declared.trees.Content.TheViews.{out-Content}
use Rattle.ba_tree.specs.Characters.{is_white}
use Rattle.ba_tree.specs.Trees.{elements, within, joined}
use Rattle.ba_tree.proofs.TreeLaws.{elements_in}
use Rattle.ba_soap_shapes.specs.Endpoints.{parameters_element, parameters_content}
use Rattle.ba_soap_shapes.specs.Elements.{trim_end, number_after, first_child, first_from, or_found, text_onto}

-- ---- how many elements

count_joined : (cs : List Content) → length (joined (map (λ c. (within c).elements) cs)) ≡ sum_by (λ c. length (within c).elements) cs
count_joined [] = refl
count_joined (c ∷ cs) =
    length-append (within c).elements (joined (map (λ c. (within c).elements) cs))
    ∙ ap (λ n. length (within c).elements + n) (count_joined cs)
    ∙ sym (sum_by-cons (λ c. length (within c).elements) c cs)

pub count_in_tree : (t : Tree) → length (elements t) ≡ 1 + sum_by (λ c. length (within c).elements) t.content
count_in_tree t = let joined_count = count_joined t.content in ap length (elements_in t) ∙ omega arith

-- ---- texts

pub text_child : (t : Tree) (more : List ℕ) → text_onto (out-Content (Child t)) more ≡ more
text_child t more = ap (λ c. text_onto c more) (outs-Child t)

pub text_text : (t more : List ℕ) → text_onto (out-Content (Text t)) more ≡ t ++ more
text_text t more = ap (λ c. text_onto c more) (outs-Text t)

-- ---- white space at the end

all_snoc : (cs : List ℕ) (b : ℕ) → list_all is_white (cs ++ b ∷ []) ≡ (list_all is_white cs && is_white b)
all_snoc cs b = list_all-append is_white cs (b ∷ []) ∙ ap (λ x. list_all is_white cs && x) (last (is_white b))
  where
    last : (x : Bool) → (x && true) ≡ x
    last true = refl
    last false = refl

and_true : (x y : Bool) → y ≡ true → (x && y) ≡ x
and_true true y e = e
and_true false y e = refl

and_false : (x y : Bool) → y ≡ false → (x && y) ≡ false
and_false true y e = e
and_false false y e = refl

-- it is left out
pub end_white : (bytes : List ℕ) (b : ℕ) → is_white b ≡ true → trim_end (bytes ++ b ∷ []) ≡ trim_end bytes
end_white [] b w = ap (λ x. if x && true then [] else b ∷ []) w
end_white (c ∷ cs) b w =
    λ i. if (all_snoc (c ∷ cs) b ∙ and_true (list_all is_white (c ∷ cs)) (is_white b) w) i then [] else c ∷ end_white cs b w i

-- a last character that is none stays, and all before it
pub end_kept : (bytes : List ℕ) (b : ℕ) → is_white b ≡ false → trim_end (bytes ++ b ∷ []) ≡ bytes ++ b ∷ []
end_kept [] b w = ap (λ x. if x && true then [] else b ∷ []) w
end_kept (c ∷ cs) b w =
    λ i. if (all_snoc (c ∷ cs) b ∙ and_false (list_all is_white (c ∷ cs)) (is_white b) w) i then [] else c ∷ end_kept cs b w i

-- ---- the first child that passes

pub passed_child : (passes : Tree → Bool) (n : ℕ) (t : Tree) (rest : List Content)
    → first_child passes n (Child t ∷ rest) ≡ or_found (passes t) (record { tree = t; number = n; next = number_after n t; rest = rest })
    (first_child passes (number_after n t) rest)
passed_child passes n t rest = ap (λ c. first_from passes n rest c (λ m. first_child passes m rest)) (outs-Child t)

pub passed_text : (passes : Tree → Bool) (n : ℕ) (t : List ℕ) (rest : List Content)
    → first_child passes n (Text t ∷ rest) ≡ first_child passes n rest
passed_text passes n t rest = ap (λ c. first_from passes n rest c (λ m. first_child passes m rest)) (outs-Text t)

-- ---- parameters that are there

pub some_parameters : (ps : List Tree) → 1 ≤ length ps → parameters_content ps ≡ Child (parameters_element ps) ∷ []
some_parameters [] h = absurd (omega arith)
some_parameters (p ∷ ps) h = refl

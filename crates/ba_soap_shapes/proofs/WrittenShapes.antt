-- What is written by the rows of a table has their shape, and its children are those that were written.
-- Stated over the child elements of one name: for written elements those are found by computing.
use Rattle.std.proofs.Common.{◌≡◌, ℕ, ◌+◌, cond, Bool, true, false, Option, Some, None, List, [], ◌∷◌, map, filter, refl, sym, ap, ◌∙◌}
use Rattle.std.proofs.Common.{subst}
use Rattle.ba_tree.specs.declared.trees.Tree.{Tree}
use Rattle.ba_tree.specs.declared.trees.Content.TheVariants.{Child, outs-Child}
use Rattle.ba_soap_shapes.specs.declared.shapes.Need.TheVariants.{Optional}
use Rattle.ba_soap_shapes.specs.Elements.{number_after, child_onto, children, first_child, in_u32, or_found}
use Rattle.ba_soap_shapes.specs.Endpoints.{child_at, found_tree}
use Rattle.ba_soap_shapes.specs.Shapes.{Line, Look, misfit_by_first, earlier_misfit, names, missing_misfit, misfit_with_rows, rows_misfit}
use Rattle.ba_soap_shapes.specs.Shapes.{second_misfit}
use Rattle.ba_soap_shapes.proofs.ElementLaws.{passed_child}

-- the children that a row names are as it wants them: one that has its form, or none where none is needed
abbrev pub Fine : {F : Type 0} → (F → Look) → Line F → List Tree → Type 0
Fine look row [] = row.need ≡ Optional
Fine look row (c ∷ []) = (n : ℕ) → look row.form n c ≡ None
Fine look row (c ∷ d ∷ more) = ⊥

abbrev pub AllFine : {F : Type 0} → (F → Look) → List (Line F) → Tree → List Tree → Type 0
AllFine look [] t cs = Unit {0}
AllFine look (row ∷ rows) t cs = Fine look row (filter (names row t) cs) × AllFine look rows t cs

kept : (p : Tree → Bool) (c : Tree) (cs : List Tree) (b : Bool) → p c ≡ b → filter p (c ∷ cs) ≡ cond b (c ∷ filter p cs) (filter p cs)
kept p c cs b is = ap (λ x. cond x (c ∷ filter p cs) (filter p cs)) is

found : (p : Tree → Bool) (n : ℕ) (c : Tree) (cs : List Tree) (b : Bool) → p c ≡ b
    → first_child p n (map Child (c ∷ cs)) ≡ or_found b (record { tree = c; number = n; next = number_after n c; rest = map Child cs })
    (first_child p (number_after n c) (map Child cs))
found p n c cs b is = passed_child p n c (map Child cs)
    ∙ ap (λ x. or_found x (record { tree = c; number = n; next = number_after n c; rest = map Child cs })
    (first_child p (number_after n c) (map Child cs))) is

-- where none passes none is found
none : (p : Tree → Bool) (n : ℕ) (cs : List Tree) → filter p cs ≡ [] → first_child p n (map Child cs) ≡ None
none p n [] e = refl
none p n (c ∷ cs) e = by (p c) refl (none p (number_after n c) cs)
  where
    by : (b : Bool) → p c ≡ b → (filter p cs ≡ [] → first_child p (number_after n c) (map Child cs) ≡ None)
        → first_child p n (map Child (c ∷ cs)) ≡ None
    by true is more = let h : c ∷ filter p cs ≡ [] = sym (kept p c cs true is) ∙ e in cc
    by false is more = found p n c cs false is ∙ more (sym (kept p c cs false is) ∙ e)

-- ---- the shape

module _ {F : Type 0} (look : F → Look) where
  module _ (row : Line F) (p : Tree → Bool) where
    one : (m n : ℕ) (c : Tree) (cs ds : List Tree) → filter p cs ≡ ds → p c ≡ true → Fine look row (c ∷ ds)
        → misfit_by_first look row p m (first_child p n (map Child (c ∷ cs))) ≡ None
    one m n c cs [] e is f = ap (misfit_by_first look row p m) (found p n c cs true is)
        ∙ (λ i. earlier_misfit (f n i) (second_misfit (none p (number_after n c) cs e i)))
    one m n c cs (d ∷ ds) e is f = absurd f

    holds : (m n : ℕ) (cs : List Tree) → Fine look row (filter p cs) → misfit_by_first look row p m (first_child p n (map Child cs)) ≡ None
    holds m n [] f = ap (λ need. missing_misfit need m) f
    holds m n (c ∷ cs) f = by (p c) refl (holds m (number_after n c) cs)
      where
        by : (b : Bool) → p c ≡ b → (Fine look row (filter p cs)
            → misfit_by_first look row p m (first_child p (number_after n c) (map Child cs)) ≡ None)
            → misfit_by_first look row p m (first_child p n (map Child (c ∷ cs))) ≡ None
        by true is more = one m n c cs (filter p cs) refl is (subst (Fine look row) (kept p c cs true is) f)
        by false is more = ap (misfit_by_first look row p m) (found p n c cs false is)
            ∙ more (subst (Fine look row) (kept p c cs false is) f)

  -- an element whose children are fine by each row has the shape
  pub rows_hold : (rows : List (Line F)) (n : ℕ) (t : Tree) (cs : List Tree) → t.content ≡ map Child cs → AllFine look rows t cs
      → rows_misfit look rows n t ≡ None
  rows_hold [] n t cs e f = refl
  rows_hold (row ∷ rows) n t cs e f =
      ap (λ x. misfit_with_rows look x rows n t)
      (ap (λ content. misfit_by_first look row (names row t) n (first_child (names row t) (in_u32 (n + 1)) content)) e
      ∙ holds row (names row t) n (in_u32 (n + 1)) cs f.0)
      ∙ rows_hold rows n t cs e f.1

-- ---- its children

abbrev pub head_of : List Tree → Option Tree
head_of [] = None
head_of (c ∷ cs) = Some c

head_found : (p : Tree → Bool) (n : ℕ) (cs : List Tree) → found_tree (first_child p n (map Child cs)) ≡ head_of (filter p cs)
head_found p n [] = refl
head_found p n (c ∷ cs) = by (p c) refl (head_found p (number_after n c) cs)
  where
    by : (b : Bool) → p c ≡ b → found_tree (first_child p (number_after n c) (map Child cs)) ≡ head_of (filter p cs)
        → found_tree (first_child p n (map Child (c ∷ cs))) ≡ head_of (filter p (c ∷ cs))
    by true is more = ap found_tree (found p n c cs true is) ∙ ap head_of (sym (kept p c cs true is))
    by false is more = ap found_tree (found p n c cs false is) ∙ more ∙ ap head_of (sym (kept p c cs false is))

-- the child that a row names is the first of those that it names
pub child_is : {F : Type 0} (row : Line F) (t : Tree) (cs : List Tree) → t.content ≡ map Child cs
    → child_at row t ≡ head_of (filter (names row t) cs)
child_is row t cs e = ap (λ content. found_tree (first_child (names row t) 0 content)) e ∙ head_found (names row t) 0 cs

pub children_are : (cs : List Tree) → children (map Child cs) ≡ cs
children_are [] = refl
children_are (c ∷ cs) = ap (λ l. child_onto l (children (map Child cs))) (outs-Child c) ∙ ap (λ l. c ∷ l) (children_are cs)

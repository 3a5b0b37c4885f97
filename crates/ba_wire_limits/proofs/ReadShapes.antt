-- Where an element has a shape, each of its lines holds of the child that it names: for the law on what was read.
use Rattle.std.proofs.Common.{◌≡◌, ℕ, ◌+◌, Bool, true, false, Option, Some, None, List, [], ◌∷◌, if◌then◌else◌, refl, subst}
use Rattle.ba_tree.specs.declared.trees.Content.{Content}
use Rattle.ba_tree.specs.declared.trees.Content.TheOpen as layer
use Rattle.ba_tree.specs.declared.trees.Content.TheViews.{out-Content}
use Rattle.ba_tree.specs.declared.trees.Tree.{Tree}
use Rattle.ba_soap_shapes.specs.declared.shapes.Misfit.{Misfit}
use Rattle.ba_soap_shapes.specs.declared.shapes.Need.{Need}
use Rattle.ba_soap_shapes.specs.declared.shapes.Need.TheVariants.{Required, Optional}
use Rattle.ba_soap_shapes.specs.Elements.{Found, first_child, first_from, in_u32, number_after, or_found}
use Rattle.ba_soap_shapes.specs.Endpoints.{child_at, found_tree}
use Rattle.ba_soap_shapes.specs.Shapes.{Line, Look, comes_before, earlier_misfit, misfit_by_first, misfit_with_rows, missing_misfit, names}
use Rattle.ba_soap_shapes.specs.Shapes.{row_misfit, second_misfit}

-- ---- no misfit is the earlier of none

no_choice : (a b : Misfit) (x : Bool) → (if x then Some b else Some a) ≡ None → ⊥
no_choice a b true h = cc
no_choice a b false h = cc

pub earlier_none : (a b : Option Misfit) → earlier_misfit a b ≡ None → (a ≡ None) × (b ≡ None)
earlier_none None b h = (refl, h)
earlier_none (Some a) None h = absurd (cc)
earlier_none (Some a) (Some b) h = absurd (no_choice a b (comes_before b a) h)

-- ---- the child that a line names is the same wherever numbers begin

abbrev SameFound : (Tree → Bool) → List Content → Type 0
SameFound passes cs = (m n : ℕ) → found_tree (first_child passes m cs) ≡ found_tree (first_child passes n cs)

module _ (passes : Tree → Bool) where
  same_or : (b : Bool) (f g : Found) (more other : Option Found) → f.tree ≡ g.tree → found_tree more ≡ found_tree other
      → found_tree (or_found b f more) ≡ found_tree (or_found b g other)
  same_or true f g more other same rest = λ i. Some (same i)
  same_or false f g more other same rest = rest

  same_from : (rest : List Content) (part : layer.Content-F Content Tree) (m n : ℕ) → SameFound passes rest
      → found_tree (first_from passes m rest part (λ k. first_child passes k rest))
      ≡ found_tree (first_from passes n rest part (λ k. first_child passes k rest))
  same_from rest (layer.Content-F.Text t) m n again = again m n
  same_from rest (layer.Content-F.Child t) m n again =
      same_or (passes t) (record { tree = t; number = m; next = number_after m t; rest = rest })
      (record { tree = t; number = n; next = number_after n t; rest = rest }) (first_child passes (number_after m t) rest)
      (first_child passes (number_after n t) rest) refl (again (number_after m t) (number_after n t))

  same_found : (cs : List Content) → SameFound passes cs
  same_found [] m n = refl
  same_found (c ∷ rest) m n = same_from rest (out-Content c) m n (same_found rest)

-- ---- each line holds

module _ {F : Type 0} (look : F → Look) where
  -- the child has the line's form, or needn't be there
  abbrev pub LineHolds : Line F → Option Tree → Type 0
  LineHolds line None = line.need ≡ Optional
  LineHolds line (Some child) = (number : ℕ) × (look line.form number child ≡ None)

  abbrev pub EachHolds : List (Line F) → Tree → Type 0
  EachHolds [] t = Unit {0}
  EachHolds (line ∷ lines) t = LineHolds line (child_at line t) × EachHolds lines t

  not_needed : (need : Need) (n : ℕ) → missing_misfit need n ≡ None → need ≡ Optional
  not_needed Required n h = absurd (cc)
  not_needed Optional n h = refl

  found_holds : (line : Line F) (named : Tree → Bool) (n : ℕ) (o : Option Found) → misfit_by_first look line named n o ≡ None
      → LineHolds line (found_tree o)
  found_holds line named n None h = not_needed line.need n h
  found_holds line named n (Some f) h =
      (f.number, (earlier_none (look line.form f.number f.tree) (second_misfit (first_child named f.next f.rest)) h).0)

  line_holds : (line : Line F) (n : ℕ) (t : Tree) → row_misfit look line n t ≡ None → LineHolds line (child_at line t)
  line_holds line n t h =
      subst (LineHolds line) (same_found (names line t) t.content (in_u32 (n + 1)) 0)
      (found_holds line (names line t) n (first_child (names line t) (in_u32 (n + 1)) t.content) h)

  all_hold : (lines : List (Line F)) (least : Option Misfit) (n : ℕ) (t : Tree) → misfit_with_rows look least lines n t ≡ None
      → (least ≡ None) × EachHolds lines t
  all_hold [] least n t h = (h, tt)
  all_hold (line ∷ lines) least n t h =
      let more = all_hold lines (earlier_misfit least (row_misfit look line n t)) n t h in
      let both = earlier_none least (row_misfit look line n t) more.0 in
      (both.0, (line_holds line n t both.1, more.1))

  pub each_holds : (lines : List (Line F)) (n : ℕ) (t : Tree) → misfit_with_rows look None lines n t ≡ None → EachHolds lines t
  each_holds lines n t h = (all_hold lines None n t h).1

-- Header blocks are written in their order, and a mark stands in its place: for the forms of writing.
use Rattle.std.proofs.Common.{◌≡◌, ℕ, suc, ◌+◌, Bool, true, false, not, cond, List, [], ◌∷◌, ◌++◌, Result, Ok, Err, map, take, drop, refl}
use Rattle.std.proofs.Common.{sym, ap, ◌∙◌, arith, if◌then◌else◌}
use Rattle.std.proofs.lemmas.List.{append_assoc, map-append}
use Rattle.std.specs.List.{prefix_len}
use Rattle.std.specs.Prelude.{IfOk}
use Rattle.std.specs.Ordering.{is_lt}
use Rattle.ba_core.specs.declared.memory.Memory.{Memory}
use Rattle.ba_tree.specs.declared.trees.Attribute.{Attribute}
use Rattle.ba_tree.specs.declared.trees.Content.{Content}
use Rattle.ba_tree.specs.declared.trees.Content.TheVariants.{Child}
use Rattle.ba_tree.specs.declared.trees.Tree.{Tree}
use Rattle.ba_tree.specs.Trees.{name_cmp}
use Rattle.ba_soap.specs.Elements.{parameter_mark, with_attribute}

-- ---- blocks that are put one after another

pub three_in_order : (to id : List Tree) (action : Tree) (a b : List Content) → a ≡ map Child to → b ≡ a ++ Child action ∷ []
    → b ++ map Child id ≡ map Child (to ++ (action ∷ id))
three_in_order to id action a b p q =
    ap (λ l. l ++ map Child id) (q ∙ ap (λ l. l ++ Child action ∷ []) p)
    ∙ append_assoc (map Child to) (Child action ∷ []) (map Child id)
    ∙ sym (map-append Child to (action ∷ id))

pub one_after : (to id more : List Tree) (action : Tree) (a : List Content) → a ≡ map Child (to ++ (action ∷ id))
    → a ++ map Child more ≡ map Child (to ++ (action ∷ (id ++ more)))
one_after to id more action a p =
    ap (λ l. l ++ map Child more) p
    ∙ sym (map-append Child (to ++ (action ∷ id)) more)
    ∙ ap (map Child) (append_assoc to (action ∷ id) more)

pub two_after : (to id source more : List Tree) (action : Tree) (a b : List Content) → a ≡ map Child (to ++ (action ∷ id))
    → b ≡ a ++ map Child source
    → b ++ map Child more ≡ map Child (to ++ (action ∷ (id ++ (source ++ more))))
two_after to id source more action a b p q =
    ap (λ l. l ++ map Child more) q
    ∙ append_assoc a (map Child source) (map Child more)
    ∙ ap (λ l. a ++ l) (sym (map-append Child source more))
    ∙ one_after to id (source ++ more) action a p

pub source_after : (one two : Tree) (a b : List Content) → b ≡ a ++ Child one ∷ [] → b ++ Child two ∷ [] ≡ a ++ map Child (one ∷ two ∷ [])
source_after one two a b p = ap (λ l. l ++ Child two ∷ []) p ∙ append_assoc a (Child one ∷ []) (Child two ∷ [])

pub before_parameters : (texts parameters : List Tree) (blocks : List Content) → blocks ≡ map Child texts
    → blocks ++ map Child parameters ≡ map Child (texts ++ parameters)
before_parameters texts parameters blocks is = ap (λ l. l ++ map Child parameters) is ∙ sym (map-append Child texts parameters)

-- ---- an attribute stands before the first whose name is above its own

module _ (a : Attribute) where
  abbrev passed : Attribute → Bool
  passed b = not (is_lt (name_cmp a.name b.name))

  abbrev put_at : ℕ → List Attribute → List Attribute
  put_at n atts = take n atts ++ a ∷ drop n atts

  at_prefix : (atts : List Attribute) → put_at (prefix_len passed atts) atts ≡ with_attribute a atts
  at_prefix [] = refl
  at_prefix (b ∷ more) = by (is_lt (name_cmp a.name b.name)) (at_prefix more)
    where
      by :
          (above : Bool) → put_at (prefix_len passed more) more ≡ with_attribute a more
          → put_at (cond (not above) (1 + prefix_len passed more) 0) (b ∷ more) ≡
          (if above then a ∷ b ∷ more else b ∷ with_attribute a more)
      by true rest = refl
      by false rest =
          let next : 1 + prefix_len passed more ≡ suc (prefix_len passed more) = omega arith in
          ap (λ n. put_at n (b ∷ more)) next ∙ ap (λ l. b ∷ l) rest

  pub is_placed : (atts : List Attribute) (n : ℕ) → n ≡ prefix_len passed atts → take n atts ++ a ∷ drop n atts ≡ with_attribute a atts
  is_placed atts n is = ap (λ k. put_at k atts) is ∙ at_prefix atts

pub placed_mark :
    (mark : Attribute) (atts : List Attribute) (n : ℕ) (r : Result (List Attribute) Memory) → mark ≡ parameter_mark
    → n ≡ prefix_len (λ b. not (is_lt (name_cmp mark.name b.name))) atts → IfOk r (λ all. all ≡ take n atts ++ mark ∷ drop n atts)
    → IfOk r (λ all. all ≡ with_attribute parameter_mark atts)
placed_mark mark atts n (Ok all) is at e = e ∙ is_placed mark atts n at ∙ ap (λ a. with_attribute a atts) is
placed_mark mark atts n (Err m) is at e = tt

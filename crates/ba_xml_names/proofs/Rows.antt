-- Where an attribute belongs among rows in rising order: a search by halves finds the place, and what is put there keeps the order.
use Rattle.ba_tree.specs.Trees.{name_cmp}
use Rattle.std.proofs.Common.{◌≡◌, ℕ, zero, suc, ◌<◌, ◌≤◌, List, [], ◌∷◌, Option, Some, None, Result, Ok, Err, IfSome, length, get_or, refl}
use Rattle.std.proofs.Common.{sym, ap, subst, ◌∙◌, arith}
use Rattle.std.proofs.lemmas.Cmp.{nat_list_cmp_total, on_total, then_total, tied_back, alike_right}
use Rattle.std.specs.Cmp.{IsTotalOrder}
use Rattle.std.specs.List.{insert, AllWithin, HoldsAt}
use Rattle.std.specs.List.Sorted.{IsNonDecreasingBy, IsBinarySearchResult, IsSearchInRange}
use Rattle.std.specs.Option.{option_map, option_and_then}
use Rattle.std.specs.Ordering.{ordering_index, ordering_reverse}
use Rattle.std.specs.declared.cmp.Ordering.{Ordering}
use Rattle.std.specs.declared.cmp.Ordering.TheVariants as order
use Rattle.ba_tree.specs.declared.trees.Attribute.{Attribute}
use Rattle.ba_tree.specs.declared.trees.Name.{Name}
use Rattle.ba_xml_names.specs.Namespaces.{placed, placed_by, placed_at, put_one, attribute_of, IsSpotWithin}
use Rattle.ba_xml_names.specs.declared.levels.Declaration.{Declaration}
use Rattle.ba_xml_names.specs.inside.Rows.{IsBelow, AreRising, gap_of}
use Rattle.ba_xml_words.specs.declared.names.RawAttribute.{RawAttribute}

pub name_cmp_total : IsTotalOrder name_cmp
name_cmp_total = then_total (on_total (λ (n : Name). n.space) nat_list_cmp_total) (on_total (λ (n : Name). n.local) nat_list_cmp_total)

none_below : (i : ℕ) → i < length {A = Attribute} [] → ⊥
none_below i lt = omega (arith, lt)

-- ---- rows above a name

below_at : (name : Name) (rows : List Attribute) (i : ℕ) (d : Attribute) → IsBelow name rows → i < length rows
    → name_cmp name (get_or rows i d).name ≡ order.Less
below_at name [] i d b lt = absurd (none_below i lt)
below_at name (r ∷ rows) zero d b lt = b.0
below_at name (r ∷ rows) (suc i) d b lt = below_at name rows i d b.1 (omega (arith, lt))

below_more : (one other : Name) (rows : List Attribute) → name_cmp one other ≡ order.Less → IsBelow other rows → IsBelow one rows
below_more one other [] e b = tt
below_more one other (r ∷ rows) e b = (name_cmp_total.trans one other r.name e b.0, below_more one other rows e b.1)

-- ---- the comparisons with a name rise along the rows

least : (o : Ordering) → ordering_index order.Less ≤ ordering_index o
least order.Less = omega arith
least order.Equal = omega arith
least order.Greater = omega arith

most : (o : Ordering) → ordering_index o ≤ ordering_index order.Greater
most order.Less = omega arith
most order.Equal = omega arith
most order.Greater = omega arith

index_by : (o : Ordering) (x y z : Name) → name_cmp y z ≡ o → name_cmp x y ≡ order.Less
    → ordering_index (name_cmp x z) ≤ ordering_index o
index_by order.Less x y z e h =
    subst (λ (p : Ordering). ordering_index p ≤ ordering_index order.Less) (sym (name_cmp_total.trans x y z h e)) (least order.Less)
index_by order.Equal x y z e h =
    subst (λ (p : Ordering). ordering_index p ≤ ordering_index order.Equal)
    (sym (sym (alike_right name_cmp_total y z x e) ∙ h)) (least order.Equal)
index_by order.Greater x y z e h = most (name_cmp x z)

same_index : (n : ℕ) → n ≤ n
same_index n = omega arith

comparisons_rise : (name : Name) (rows : List Attribute) → AreRising rows
    → IsNonDecreasingBy (λ row. ordering_index (name_cmp row.name name)) rows
comparisons_rise name [] u i j d le lt = absurd (none_below j lt)
comparisons_rise name (r ∷ rows) u zero zero d le lt = same_index (ordering_index (name_cmp r.name name))
comparisons_rise name (r ∷ rows) u zero (suc j) d le lt =
    index_by (name_cmp (get_or rows j d).name name) r.name (get_or rows j d).name name refl
    (below_at r.name rows j d u.0 (omega (arith, lt)))
comparisons_rise name (r ∷ rows) u (suc i) zero d le lt = absurd (never le)
  where
    never : suc i ≤ zero → ⊥
    never le = omega (arith, le)
comparisons_rise name (r ∷ rows) u (suc i) (suc j) d le lt = comparisons_rise name rows u.1 i j d (omega (arith, le)) (omega (arith, lt))

-- ---- where a search ends

above : (one other : Name) → name_cmp other one ≡ order.Less → name_cmp one other ≡ order.Greater
above one other e = name_cmp_total.antisymm one other ∙ ap ordering_reverse e

taken : (a : Attribute) (rows : List Attribute) (i : ℕ) → AreRising rows → i < length rows
    → HoldsAt (λ row. name_cmp row.name a.name ≡ order.Equal) rows i
    → placed a rows ≡ None
taken a [] i u lt h = absurd (none_below i lt)
taken a (r ∷ rows) zero u lt h = ap (λ o. placed_by o a r rows (placed a rows)) (tied_back name_cmp_total r.name a.name (h a))
taken a (r ∷ rows) (suc i) u lt h =
    ap (λ o. placed_by o a r rows (placed a rows)) (above a.name r.name less)
    ∙ ap (option_map (λ more. r ∷ more)) (taken a rows i u.1 fewer h)
  where
    fewer : i < length rows
    fewer = omega (arith, lt)

    less : name_cmp r.name a.name ≡ order.Less
    less = sym (alike_right name_cmp_total (get_or rows i a).name a.name r.name (h a)) ∙ below_at r.name rows i a u.0 fewer

free : (a : Attribute) (rows : List Attribute) (i : ℕ) → i ≤ length rows
    → AllWithin (λ row. name_cmp row.name a.name ≡ order.Less) rows 0 i
    → AllWithin (λ row. name_cmp row.name a.name ≡ order.Greater) rows i (length rows) → placed a rows ≡ Some (insert rows i a)
free a [] zero le f g = refl
free a [] (suc i) le f g = absurd (never le)
  where
    never : suc i ≤ length {A = Attribute} [] → ⊥
    never le = omega (arith, le)
free a (r ∷ rows) zero le f g =
    ap (λ o. placed_by o a r rows (placed a rows))
    (name_cmp_total.antisymm a.name r.name ∙ ap ordering_reverse (g 0 a (omega arith) (omega arith)))
free a (r ∷ rows) (suc i) le f g =
    ap (λ o. placed_by o a r rows (placed a rows)) (above a.name r.name (f 0 a (omega arith) (omega arith)))
    ∙ ap (option_map (λ more. r ∷ more)) (free a rows i (omega (arith, le))
    (λ k d low high. f (suc k) d (omega arith) (omega (arith, high)))
    (λ k d low high. g (suc k) d (omega (arith, low)) (omega (arith, high))))

pub searched : (a : Attribute) (rows : List Attribute) (r : Result ℕ ℕ) → AreRising rows → IsSearchInRange r (length rows)
    → IsBinarySearchResult (λ row. name_cmp row.name a.name) rows r → placed a rows ≡ placed_at (gap_of r) a rows
searched a rows (Ok index) u lt h = taken a rows index u lt h
searched a rows (Err index) u le h = free a rows index le (parts.0) (parts.1)
  where
    parts : AllWithin (λ row. name_cmp row.name a.name ≡ order.Less) rows 0 index
        × AllWithin (λ row. name_cmp row.name a.name ≡ order.Greater) rows index (length rows)
    parts = h (comparisons_rise a.name rows u)

pub within : (rows : List Attribute) (r : Result ℕ ℕ) → IsSearchInRange r (length rows) → IsSpotWithin (gap_of r) (length rows)
within rows (Ok index) lt = tt
within rows (Err index) le = le

-- ---- what is put in its place keeps the order

longer_below : (name : Name) (r : Attribute) (o : Option (List Attribute)) → name_cmp name r.name ≡ order.Less → IfSome o (IsBelow name)
    → IfSome (option_map (λ more. r ∷ more) o) (IsBelow name)
longer_below name r None e b = tt
longer_below name r (Some more) e b = (e, b)

placed_below : (name : Name) (a : Attribute) (rows : List Attribute) → name_cmp name a.name ≡ order.Less → IsBelow name rows
    → IfSome (placed a rows) (IsBelow name)
placed_below name a [] e b = (e, tt)
placed_below name a (r ∷ rows) e b = by (name_cmp a.name r.name) (placed_below name a rows e b.1)
  where
    by : (o : Ordering) → IfSome (placed a rows) (IsBelow name) → IfSome (placed_by o a r rows (placed a rows)) (IsBelow name)
    by order.Less rest = (e, b)
    by order.Equal rest = tt
    by order.Greater rest = longer_below name r (placed a rows) b.0 rest

longer_rising : (r : Attribute) (o : Option (List Attribute)) → IfSome o (IsBelow r.name) → IfSome o AreRising
    → IfSome (option_map (λ more. r ∷ more) o) AreRising
longer_rising r None b u = tt
longer_rising r (Some more) b u = (b, u)

placed_rising : (a : Attribute) (rows : List Attribute) → AreRising rows → IfSome (placed a rows) AreRising
placed_rising a [] u = (tt, tt)
placed_rising a (r ∷ rows) u = by (name_cmp a.name r.name) refl (placed_rising a rows u.1)
  where
    by : (o : Ordering) → name_cmp a.name r.name ≡ o → IfSome (placed a rows) AreRising
        → IfSome (placed_by o a r rows (placed a rows)) AreRising
    by order.Less e rest = ((e, below_more a.name r.name rows e u.0), u)
    by order.Equal e rest = tt
    by order.Greater e rest = longer_rising r (placed a rows)
        (placed_below r.name a rows (name_cmp_total.antisymm r.name a.name ∙ ap ordering_reverse e) u.0) rest

put_by : (o : Option Attribute) (rows : List Attribute) → AreRising rows → IfSome (option_and_then (λ a. placed a rows) o) AreRising
put_by None rows u = tt
put_by (Some a) rows u = placed_rising a rows u

pub put_rising : (ds : List Declaration) (rows more : List Attribute) (raw : RawAttribute)
    → Some more ≡ put_one ds rows raw → AreRising rows → AreRising more
put_rising ds rows more raw e u = subst (λ o. IfSome o AreRising) (sym e) (put_by (attribute_of ds raw) rows u)

pub none_rising : (rows : List Attribute) → rows ≡ [] → AreRising rows
none_rising rows e = subst AreRising (sym e) tt

-- The codings of many parts, written one by one.
use Rattle.std.proofs.Common.{◌≡◌, ℕ, ◌+◌, ◌<◌, List, [], ◌∷◌, ◌++◌, length, drop, map, get_or, ap, sym, ◌∙◌, add-one, arith, length-append}
use Rattle.std.proofs.Common.{◌≤◌}
use Rattle.std.proofs.Math.Seq.{drop-cons, drop-length}
use Rattle.ba_tree.specs.declared.trees.Tree.{Tree}
use Rattle.ba_tree.specs.declared.trees.Content.{Content}
use Rattle.ba_tree.specs.declared.trees.Content.TheVariants.{Child, Text}
use Rattle.ba_message.specs.declared.endpoints.Epr.{Epr}
use Rattle.ba_tree.specs.Lengths.{in_u64}
use Rattle.ba_message.specs.Endpoints.{Fits, endpoint_length}
use Rattle.ba_tree.specs.Trees.{joined}
use Rattle.ba_record.specs.Coding.{content_coding, tree_coding, string_coding, endpoint_coding}
use Rattle.ba_record.specs.Endpoints.{IsBase}
use Rattle.ba_record.specs.Rooms.{RoomValue, filled}
use Rattle.ba_record.proofs.Filling.{filled_on, filled_none}
use Rattle.ba_record.proofs.Lengths.{endpoint_length_is}
use Rattle.ba_record.proofs.Trees.{text_coding, child_coding}

-- a room into which these parts come yet
module _ {A : Type 0} (coding : A → List ℕ) (parts : List A) where
  pub part_put : (i : ℕ) (d : A) (out whole : RoomValue) → i < length parts → filled out (joined (map coding (drop i parts))) ≡ whole
      → filled (filled out (coding (get_or parts i d))) (joined (map coding (drop (i + 1) parts))) ≡ whole
  part_put i d out whole more is =
      filled_on out (coding (get_or parts i d)) (joined (map coding (drop (i + 1) parts)))
      ∙ ap (λ (n : ℕ). filled out (coding (get_or parts i d) ++ joined (map coding (drop n parts)))) (add-one i)
      ∙ ap (λ (xs : List A). filled out (joined (map coding xs))) (sym (drop-cons parts i d more)) ∙ is

  pub all_put : (n : ℕ) (out whole : RoomValue) → n ≡ length parts → filled out (joined (map coding (drop n parts))) ≡ whole → out ≡ whole
  all_put n out whole all is =
      sym (filled_none out)
      ∙ ap (λ (xs : List A). filled out (joined (map coding xs))) (sym (ap (λ (m : ℕ). drop m parts) all ∙ drop-length parts)) ∙ is

  -- the same, as a loop over equal items meets it
  pub one_put : (items : List A) (i : ℕ) (item : A) (out new whole : RoomValue) → items ≡ parts → i < length items
      → item ≡ get_or items i item
      → new ≡ filled out (coding item) → filled out (joined (map coding (drop i parts))) ≡ whole
      → filled new (joined (map coding (drop (i + 1) parts))) ≡ whole
  one_put items i item out new whole same more there put is =
      let here : item ≡ get_or parts i item = there ∙ ap (λ (xs : List A). get_or xs i item) same in
      ap (λ (room : RoomValue). filled room (joined (map coding (drop (i + 1) parts)))) (put ∙ ap (λ (a : A). filled out (coding a)) here)
      ∙ part_put i item out whole (omega (arith, more, ap length same)) is

-- one part was put behind another
pub put_behind : (out a new : RoomValue) (x y : List ℕ) → a ≡ filled out x → new ≡ filled a y → new ≡ filled out (x ++ y)
put_behind out a new x y first second = second ∙ ap (λ (room : RoomValue). filled room y) first ∙ filled_on out x y

pub text_put : (out a new : RoomValue) (text : List ℕ) (c : Content) → c ≡ Text text → a ≡ filled out (0 ∷ [])
    → new ≡ filled a (string_coding text)
    → new ≡ filled out (content_coding c)
text_put out a new text c is first second =
    put_behind out a new (0 ∷ []) (string_coding text) first second
    ∙ ap (λ (xs : List ℕ). filled out xs) (sym (ap content_coding is ∙ text_coding text))

pub child_put : (out a new : RoomValue) (tree : Tree) (c : Content) → c ≡ Child tree → a ≡ filled out (1 ∷ [])
    → new ≡ filled a (tree_coding tree)
    → new ≡ filled out (content_coding c)
child_put out a new tree c is first second =
    put_behind out a new (1 ∷ []) (tree_coding tree) first second
    ∙ ap (λ (xs : List ℕ). filled out xs) (sym (ap content_coding is ∙ child_coding tree))

-- ---- lengths

pub size_is : (e : Epr) (size : ℕ) → Fits e → size ≡ in_u64 (endpoint_length e) → (size ≡ length (endpoint_coding e)) × (size ≤ 4096)
size_is e size fits is =
    let long = endpoint_length_is e in
    let few = fits.size in
    (omega arith, omega arith)

pub scope_length : (deadline upward : List ℕ) → length (deadline ++ upward) ≡ length deadline + length upward
scope_length deadline upward = length-append deadline upward

pub base_is_short : (base : List ℕ) → IsBase base → length base ≤ 1024
base_is_short base is = is.dialable.short

-- Limits of a tree, said of its element and of what stands in it.
use Rattle.std.proofs.Common.{◌≡◌, ℕ, ◌+◌, ◌-◌, ◌≤◌, ◌<◌, ◌&&◌, max, nat_le, true, List, [], ◌∷◌, map, length, suc, min, ◌^◌, refl, ap, sym}
use Rattle.std.proofs.Common.{◌∙◌, arith}
use Rattle.std.proofs.lemmas.Bool.Decides.{nat_tests}
use Rattle.std.specs.List.{list_all}
use Rattle.ba_tree.specs.declared.trees.Tree.{Tree}
use Rattle.ba_tree.specs.Trees.{elements, greatest, most_attributes}
use Rattle.ba_xml_writer.specs.Namespaces.{numbered, further}
use Rattle.ba_xml_writer.specs.OneText.{one_text, root_text}
use Rattle.ba_xml_writer.specs.Writable.{has_few_attributes, HasRoom, IsShort}

max_le : (a b n : ℕ) → (nat_le a n && nat_le b n) ≡ nat_le (max a b) n
max_le a b n = grind (arith, nat_tests)

all_below : {X : Type 0} (f : X → ℕ) (n : ℕ) (xs : List X) → list_all (λ x. nat_le (f x) n) xs ≡ nat_le (greatest (map f xs)) n
all_below f n [] = grind (arith, nat_tests)
all_below f n (x ∷ xs) = ap (λ b. nat_le (f x) n && b) (all_below f n xs) ∙ max_le (f x) (greatest (map f xs)) n

-- each element has at most 32 attributes where the greatest number of attributes is at most 32
pub few_is : (t : Tree) → nat_le (most_attributes t) 32 ≡ has_few_attributes t
few_is t = sym (all_below (λ e. length e.attributes) 32 (elements t))

pub length-numbered : (n : ℕ) (fs : List (List ℕ)) → length (numbered n fs) ≡ length fs
length-numbered n [] = refl
length-numbered n (f ∷ fs) = ap (λ k. suc k) (length-numbered (n + 1) fs)

below : (m n : ℕ) → n ≡ min m (2 ^ 64 - 1) → n ≤ 262144 → m ≤ 262144
below m n e le = omega arith

above : (m n : ℕ) → n ≡ min m (2 ^ 64 - 1) → m ≤ 262144 → n ≤ 262144
above m n e le = omega arith

short_from : (t : Tree) (n : ℕ) → n ≡ min (length (one_text t)) (2 ^ 64 - 1) → n ≤ 262144 → IsShort t
short_from t n e le = below (length (one_text t)) n e le

short_to : (t : Tree) (n : ℕ) → n ≡ min (length (one_text t)) (2 ^ 64 - 1) → IsShort t → n ≤ 262144
short_to t n e le = above (length (one_text t)) n e le

roomy : (t : Tree) → length t.attributes + length (further t) ≤ 28 → HasRoom t
roomy t h = let e : length (numbered 1 (further t)) ≡ length (further t) = length-numbered 1 (further t) in omega arith

pub crowded : (t : Tree) → 28 < length t.attributes + length (further t) → HasRoom t × IsShort t → ⊥
crowded t h both = let e : length (numbered 1 (further t)) ≡ length (further t) = length-numbered 1 (further t) in
    let room : HasRoom t = both.0 in omega arith

pub short_is : (t : Tree) (n : ℕ) → n ≡ min (length (one_text t)) (2 ^ 64 - 1) → length t.attributes + length (further t) ≤ 28
    → (n ≤ 262144 → HasRoom t × IsShort t) × (HasRoom t × IsShort t → n ≤ 262144)
short_is t n e h = (λ le. (roomy t h, short_from t n e le), λ both. short_to t n e both.1)

pub counted : (new old : ℕ) (text : List ℕ) → min (new + 0) (2 ^ 64 - 1) ≡ min (old + length text) (2 ^ 64 - 1) → old ≡ 0 → new < 2 ^ 64
    → new ≡ min (length text) (2 ^ 64 - 1)
counted new old text e z fits = omega arith

pub le_is : (n m : ℕ) → nat_le n m ≡ true → n ≤ m
le_is n m h = grind (arith, nat_tests)

pub is_le : (n m : ℕ) → n ≤ m → nat_le n m ≡ true
is_le n m h = grind (arith, nat_tests)

pub text_is : (ks : List (List ℕ)) (t : Tree) (n : ℕ) → n ≡ min (length (root_text ks t)) (2 ^ 64 - 1) → ks ≡ further t
    → n ≡ min (length (one_text t)) (2 ^ 64 - 1)
text_is ks t n e f = e ∙ ap (λ fs. min (length (root_text fs t)) (2 ^ 64 - 1)) f

-- A tree whose coding is short has a short canonical text: for the law on short codings.
use Rattle.std.proofs.Common.{◌≡◌, ℕ, ◌+◌, ◌*◌, ◌^◌, ◌<◌, ◌≤◌, List, [], ◌∷◌, ◌++◌, length, codes, decimal, length-append, arith}
use Rattle.std.proofs.lemmas.Fmt.{length-decimal-le}
use Rattle.std.proofs.lemmas.List.Sums.{sum_by-cons}
use Rattle.std.specs.List.{sum_by}
use Rattle.ba_tree.specs.declared.trees.Tree.{Tree}
use Rattle.ba_tree.specs.Lengths.{part_length, tree_length}
use Rattle.ba_tree.proofs.TreeLaws.{length_in}
use Rattle.ba_xml_writer.specs.Namespaces.{Declaration, declaration, declared, further, is_further, numbered, text_scope}
use Rattle.ba_xml_writer.specs.Namespaces.{soap_space, wsa_space, wscoor_space, wsba_space}
use Rattle.ba_xml_writer.specs.OneText.{declaration_texts, is_empty, items, one_text, tree_rest}
use Rattle.ba_xml_writer.specs.Writable.{HasRoom, IsShort}
use Rattle.ba_xml_writer.proofs.Numbers.{length-numbered}
use Rattle.ba_wire_limits.proofs.SpaceLengths.{of_further, total}
use Rattle.ba_wire_limits.specs.declared.laws.TheConstants.{SHORT_CODING}
use Rattle.ba_wire_limits.proofs.TextLengths.{AreShort, declarations_length, items_length, qualified_length, rest_length}

-- ---- prefixes

numbered_short : (n : ℕ) (fs : List (List ℕ)) → n + length fs ≤ 100 → AreShort (numbered n fs)
numbered_short n [] h = tt
numbered_short n (f ∷ fs) h =
    let small : n < 10 ^ 2 = omega arith in
    let fits : n < 2 ^ 64 = omega arith in
    let digits : length (decimal n) ≤ 2 = length-decimal-le 2 n (omega arith) small fits in
    let both = length-append (codes "n") (decimal n) in
    (omega arith, numbered_short (n + 1) fs (omega arith))

declared_short : (fs : List (List ℕ)) → length fs ≤ 28 → AreShort (declared fs)
declared_short fs h = (omega arith, (omega arith, (omega arith, (omega arith, numbered_short 1 fs (omega arith)))))

scope_short : (fs : List (List ℕ)) → length fs ≤ 28 → AreShort (text_scope fs)
scope_short fs h = (omega arith, declared_short fs h)

-- ---- declarations

abbrev weight : Declaration → ℕ
weight d = 16 + 6 * length d.space

numbered_weight : (n : ℕ) (fs : List (List ℕ)) → sum_by weight (numbered n fs) ≡ 16 * length fs + 6 * total fs
numbered_weight n [] = omega arith
numbered_weight n (f ∷ fs) =
    let more = numbered_weight (n + 1) fs in
    let split = sum_by-cons weight (declaration (codes "n" ++ decimal n) f) (numbered (n + 1) fs) in
    let sum = sum_by-cons {X = List ℕ} length f fs in
    omega arith

declared_weight : (fs : List (List ℕ)) → sum_by weight (declared fs) ≤ 1200 + 16 * length fs + 6 * total fs
unfolding soap_space wsa_space wscoor_space wsba_space
declared_weight fs =
    let numbers = numbered 1 fs in
    let last = declaration (codes "wsba") wsba_space ∷ numbers in
    let third = declaration (codes "wscoor") wscoor_space ∷ last in
    let second = declaration (codes "wsa") wsa_space ∷ third in
    let rest = numbered_weight 1 fs in
    let a = sum_by-cons weight (declaration (codes "soap") soap_space) second in
    let b = sum_by-cons weight (declaration (codes "wsa") wsa_space) third in
    let c = sum_by-cons weight (declaration (codes "wscoor") wscoor_space) last in
    let d = sum_by-cons weight (declaration (codes "wsba") wsba_space) numbers in
    omega arith

-- ---- the whole text: twelve times the coding, and what the four declarations and the prefixes take

module _ (t : Tree) (few : length (further t) ≤ 28) where
  abbrev all : List Declaration
  all = text_scope (further t)

  pub text_length_is : length (one_text t) ≤ 12 * tree_length t + 1800
  text_length_is =
      let short : AreShort all = scope_short (further t) few in
      let tag = qualified_length all short t.name (declaration_texts (declared (further t)) (tree_rest all t [])) in
      let own = declarations_length (declared (further t)) (declared_short (further t) few) (tree_rest all t []) in
      let weights = declared_weight (further t) in
      let spaces = of_further is_further t in
      let later =
      rest_length all short t.name t.attributes (is_empty t.content) (λ more. items all t.content more)
      (6 * sum_by part_length t.content) (λ r. items_length all short t.content r) [] in
      let size = length_in t in
      omega arith

  pub short_by_coding : tree_length t ≤ SHORT_CODING → IsShort t
  short_by_coding small = let text = text_length_is in omega arith

pub short_by_room : (t : Tree) → HasRoom t → tree_length t ≤ SHORT_CODING → IsShort t
short_by_room t room small =
    let count = length-numbered 1 (further t) in
    short_by_coding t (omega arith) small

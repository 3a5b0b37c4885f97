-- What the grammar writes stands before what follows it, and so is no shorter.
use Rattle.std.proofs.Common.{◌≡◌, ℕ, ◌+◌, ◌<◌, ◌≤◌, suc, Bool, true, false, List, [], ◌∷◌, ◌++◌, length, codes, refl, sym, ap, ◌∙◌, subst}
use Rattle.std.proofs.Common.{append_assoc, length-append, arith}
use Rattle.ba_xml_grammar.specs.Grammar.{Value, value_end, value_character, value_reference, Pair, Start, Pieces, nothing, character}
use Rattle.ba_xml_grammar.specs.Grammar.{reference, section, comment, empty, element, Misc, misc_end, misc_space, misc_comment, Saying}
use Rattle.ba_xml_grammar.specs.Grammar.{Encoding, no_encoding, encoding, Standalone, no_standalone, standalone, Head, no_head, head}
use Rattle.ba_xml_grammar.specs.Grammar.{written_value, written_quoted, written_attribute, written_pair, written_pairs, written_tag}
use Rattle.ba_xml_grammar.specs.Grammar.{written_end, written_comment, written_section, written, written_misc, written_saying}
use Rattle.ba_xml_grammar.specs.Grammar.{written_encoding, yes_or_no, written_standalone, written_heading, written_mark}
use Rattle.ba_xml_grammar.specs.GrammarWords.{IsName, IsPlainName, written_name, written_prefix, Reference, reference_text}
use Rattle.ba_xml_grammar.specs.GrammarWords.{written_reference}
use Rattle.ba_xml_words.specs.declared.names.RawName.{RawName}

-- ---- what is written, and what follows it

abbrev pub IsPart : (List ℕ → List ℕ) → Type 0
IsPart w = (xs rest : List ℕ) → w (xs ++ rest) ≡ w xs ++ rest

pub part_append : (ys : List ℕ) → IsPart (λ r. ys ++ r)
part_append ys xs rest = sym (append_assoc ys xs rest)

pub part_name : (name : RawName) → IsPart (written_name name)
part_name name xs rest = by name.prefix
  where
    by : (prefix : List ℕ) → written_prefix prefix (name.local ++ (xs ++ rest)) ≡ written_prefix prefix (name.local ++ xs) ++ rest
    by [] = sym (append_assoc name.local xs rest)
    by (b ∷ bs) = ap (λ x. b ∷ x) (ap (λ x. bs ++ 58 ∷ x) (sym (append_assoc name.local xs rest))
        ∙ sym (append_assoc bs (58 ∷ (name.local ++ xs)) rest))

pub part_reference : (r : Reference) → IsPart (written_reference r)
part_reference r xs rest = ap (λ x. 38 ∷ x) (sym (append_assoc (reference_text r) (59 ∷ xs) rest))

pub part_value : (v : Value) → IsPart (written_value v)
part_value value_end xs rest = refl
part_value (value_character b more) xs rest = ap (λ x. b ∷ x) (part_value more xs rest)
part_value (value_reference r more) xs rest =
    ap (λ x. written_reference r x) (part_value more xs rest) ∙ part_reference r (written_value more xs) rest

pub part_attribute : (a : Pair) → IsPart (written_attribute a)
part_attribute a xs rest =
    ap (λ x. written_name a.name (a.left ++ 61 ∷ (a.right ++ a.quote ∷ x))) (part_value a.value (a.quote ∷ xs) rest)
    ∙ ap (λ x. written_name a.name (a.left ++ 61 ∷ x)) (sym (append_assoc a.right (written_quoted a.quote a.value xs) rest))
    ∙ ap (λ x. written_name a.name x) (sym (append_assoc a.left (61 ∷ (a.right ++ written_quoted a.quote a.value xs)) rest))
    ∙ part_name a.name (a.left ++ 61 ∷ (a.right ++ written_quoted a.quote a.value xs)) rest

pub part_pair : (a : Pair) → IsPart (written_pair a)
part_pair a xs rest = ap (λ x. a.gap ++ x) (part_attribute a xs rest) ∙ sym (append_assoc a.gap (written_attribute a xs) rest)

pub part_comment : (body : List ℕ) → IsPart (written_comment body)
part_comment body xs rest = ap (λ x. 60 ∷ 33 ∷ 45 ∷ 45 ∷ x) (sym (append_assoc body (45 ∷ 45 ∷ 62 ∷ xs) rest))

pub part_section : (body : List ℕ) → IsPart (written_section body)
part_section body xs rest = ap (λ x. 60 ∷ 33 ∷ 91 ∷ 67 ∷ 68 ∷ 65 ∷ 84 ∷ 65 ∷ 91 ∷ x) (sym (append_assoc body (93 ∷ 93 ∷ 62 ∷ xs) rest))

pub part_end : (name : RawName) (space : List ℕ) → IsPart (written_end name space)
part_end name space xs rest =
    ap (λ x. 60 ∷ 47 ∷ written_name name x) (sym (append_assoc space (62 ∷ xs) rest))
    ∙ ap (λ x. 60 ∷ 47 ∷ x) (part_name name (space ++ 62 ∷ xs) rest)

pub part_misc : (m : Misc) → IsPart (written_misc m)
part_misc misc_end xs rest = refl
part_misc (misc_space b more) xs rest = ap (λ x. b ∷ x) (part_misc more xs rest)
part_misc (misc_comment body more) xs rest =
    ap (λ x. written_comment body x) (part_misc more xs rest) ∙ part_comment body (written_misc more xs) rest

pub part_saying : (s : Saying) (word value : List ℕ) → IsPart (written_saying s word value)
part_saying s word value xs rest =
    let v : List ℕ = value ++ s.quote ∷ xs in
    let q : List ℕ = s.right ++ s.quote ∷ v in
    let l : List ℕ = s.left ++ 61 ∷ q in
    ap (λ x. s.gap ++ (word ++ (s.left ++ 61 ∷ (s.right ++ s.quote ∷ x)))) (sym (append_assoc value (s.quote ∷ xs) rest))
    ∙ ap (λ x. s.gap ++ (word ++ (s.left ++ 61 ∷ x))) (sym (append_assoc s.right (s.quote ∷ v) rest))
    ∙ ap (λ x. s.gap ++ (word ++ x)) (sym (append_assoc s.left (61 ∷ q) rest))
    ∙ ap (λ x. s.gap ++ x) (sym (append_assoc word l rest))
    ∙ sym (append_assoc s.gap (word ++ l) rest)

pub part_encoding : (e : Encoding) → IsPart (written_encoding e)
part_encoding no_encoding xs rest = refl
part_encoding (encoding s name) xs rest = part_saying s (codes "encoding") name xs rest

pub part_standalone : (s : Standalone) → IsPart (written_standalone s)
part_standalone no_standalone xs rest = refl
part_standalone (standalone s answer) xs rest = part_saying s (codes "standalone") (yes_or_no answer) xs rest

pub part_heading : (h : Head) → IsPart (written_heading h)
part_heading no_head xs rest = refl
part_heading (head version e s space) xs rest =
    let i : List ℕ = space ++ (codes "?>" ++ xs) in
    ap (λ x. codes "<?xml" ++ x)
    (ap (λ x. written_saying version (codes "version") (codes "1.0") (written_encoding e (written_standalone s x)))
    (sym (append_assoc space (codes "?>" ++ xs) rest))
    ∙ ap (λ x. written_saying version (codes "version") (codes "1.0") (written_encoding e x)) (part_standalone s i rest)
    ∙ ap (λ x. written_saying version (codes "version") (codes "1.0") x) (part_encoding e (written_standalone s i) rest)
    ∙ part_saying version (codes "version") (codes "1.0") (written_encoding e (written_standalone s i)) rest)

pub part_mark : (mark : Bool) → IsPart (written_mark mark)
part_mark true xs rest = refl
part_mark false xs rest = refl

-- ---- lengths

pub at_most : (x y z : ℕ) → x ≤ y → y ≤ z → x ≤ z
at_most x y z e f = omega (arith, e, f)

pub part_longer : (w : List ℕ → List ℕ) → IsPart w → (rest : List ℕ) → length rest ≤ length (w rest)
part_longer w p rest = subst (λ x. length rest ≤ length x) (sym (p [] rest))
    (by (length (w [])) (length rest) (length (w [] ++ rest)) (length-append (w []) rest))
  where
    by : (x y z : ℕ) → z ≡ x + y → y ≤ z
    by x y z e = omega (arith, e)

prefix_longer : (prefix rest : List ℕ) → length rest ≤ length (written_prefix prefix rest)
prefix_longer prefix rest =
    let name : RawName = record { prefix = prefix; local = [] } in
    part_longer (written_name name) (part_name name) rest

-- a name has a letter at least
name_strict : (name : RawName) → IsName name → (rest : List ℕ) → length rest < length (written_name name rest)
name_strict name n rest = by name.prefix name.local n.1
  where
    less : (x y z w : ℕ) → z ≡ x + y → suc z ≤ w → y < w
    less x y z w e l = omega (arith, e, l)

    by : (prefix local : List ℕ) → IsPlainName local → length rest < length (written_prefix prefix (local ++ rest))
    by prefix [] l = absurd l
    by prefix (b ∷ bs) l = less (length bs) (length rest) (length (bs ++ rest)) (length (written_prefix prefix (b ∷ (bs ++ rest))))
        (length-append bs rest) (prefix_longer prefix (b ∷ (bs ++ rest)))

-- an attribute has its "=" at least
pub attribute_strict : (a : Pair) (rest : List ℕ) → length rest < length (written_attribute a rest)
attribute_strict a rest =
    let value : List ℕ = a.right ++ written_quoted a.quote a.value [] in
    less (length (written_attribute a [])) (length rest) (length (written_attribute a rest)) (length value)
    (at_most (length (61 ∷ value)) (length (a.left ++ 61 ∷ value)) (length (written_attribute a []))
    (part_longer (λ r. a.left ++ r) (part_append a.left) (61 ∷ value))
    (part_longer (written_name a.name) (part_name a.name) (a.left ++ 61 ∷ value)))
    (ap length (part_attribute a [] rest) ∙ length-append (written_attribute a []) rest)
  where
    less : (x y z v : ℕ) → suc v ≤ x → z ≡ x + y → y < z
    less x y z v l e = omega (arith, e, l)

pair_longer : (a : Pair) (rest : List ℕ) → length rest ≤ length (written_pair a rest)
pair_longer a rest = part_longer (written_pair a) (part_pair a) rest

pub pairs_longer : (pairs : List Pair) (rest : List ℕ) → length rest ≤ length (written_pairs pairs rest)
pairs_longer [] rest = omega arith
pairs_longer (a ∷ more) rest = at_most (length rest) (length (written_pairs more rest)) (length (written_pair a (written_pairs more rest)))
    (pairs_longer more rest) (pair_longer a (written_pairs more rest))

-- from one of the attributes on
pub from_pair : (first : List Pair) (a : Pair) (more : List Pair) (rest : List ℕ)
    → length (written_attribute a (written_pairs more rest)) ≤ length (written_pairs (first ++ a ∷ more) rest)
from_pair [] a more rest = part_longer (λ r. a.gap ++ r) (part_append a.gap) (written_attribute a (written_pairs more rest))
from_pair (x ∷ first) a more rest =
    at_most (length (written_attribute a (written_pairs more rest))) (length (written_pairs (first ++ a ∷ more) rest))
    (length (written_pair x (written_pairs (first ++ a ∷ more) rest)))
    (from_pair first a more rest) (pair_longer x (written_pairs (first ++ a ∷ more) rest))

pub space_longer : (space rest : List ℕ) → length rest ≤ length (space ++ rest)
space_longer space rest = part_longer (λ r. space ++ r) (part_append space) rest

pub pairs_in_tag : (s : Start) (rest : List ℕ) → length (written_pairs s.pairs (s.space ++ rest)) ≤ length (written_tag s rest)
pairs_in_tag s rest = part_longer (written_name s.name) (part_name s.name) (written_pairs s.pairs (s.space ++ rest))

pub name_in_tag : (s : Start) → IsName s.name → (rest : List ℕ)
    → length (written_pairs s.pairs (s.space ++ rest)) < length (written_tag s rest)
name_in_tag s n rest = name_strict s.name n (written_pairs s.pairs (s.space ++ rest))

pub behind_pairs : (s : Start) (rest : List ℕ) → length rest ≤ length (written_pairs s.pairs (s.space ++ rest))
behind_pairs s rest = at_most (length rest) (length (s.space ++ rest)) (length (written_pairs s.pairs (s.space ++ rest)))
    (space_longer s.space rest) (pairs_longer s.pairs (s.space ++ rest))

pub tag_longer : (s : Start) (rest : List ℕ) → length rest ≤ length (written_tag s rest)
tag_longer s rest = at_most (length rest) (length (written_pairs s.pairs (s.space ++ rest))) (length (written_tag s rest))
    (behind_pairs s rest) (pairs_in_tag s rest)

pub end_longer : (name : RawName) (space rest : List ℕ) → length rest ≤ length (written_end name space rest)
end_longer name space rest = part_longer (written_end name space) (part_end name space) rest

one_more : (x y : ℕ) → x ≤ y → x ≤ suc y
one_more x y l = omega (arith, l)

two_less : (x y : ℕ) → suc (suc x) ≤ y → x ≤ suc y
two_less x y l = omega (arith, l)

one_less : (x y : ℕ) → suc x ≤ y → x ≤ suc y
one_less x y l = omega (arith, l)

-- what follows pieces is no longer than they with it
pub written_longer : (p : Pieces) (rest : List ℕ) → length rest ≤ length (written p rest)
written_longer nothing rest = omega arith
written_longer (character b more) rest = one_more (length rest) (length (written more rest)) (written_longer more rest)
written_longer (reference r more) rest = at_most (length rest) (length (written more rest))
    (length (written_reference r (written more rest)))
    (written_longer more rest) (part_longer (written_reference r) (part_reference r) (written more rest))
written_longer (section body more) rest = at_most (length rest) (length (written more rest))
    (length (written_section body (written more rest)))
    (written_longer more rest) (part_longer (written_section body) (part_section body) (written more rest))
written_longer (comment body more) rest = at_most (length rest) (length (written more rest))
    (length (written_comment body (written more rest)))
    (written_longer more rest) (part_longer (written_comment body) (part_comment body) (written more rest))
written_longer (empty s more) rest = at_most (length rest) (length (written more rest)) (length (written (empty s more) rest))
    (written_longer more rest) (two_less (length (written more rest)) (length (written_tag s (47 ∷ 62 ∷ written more rest)))
    (tag_longer s (47 ∷ 62 ∷ written more rest)))
written_longer (element s inside space more) rest =
    let last = written_end s.name space (written more rest) in
    at_most (length rest) (length (written more rest)) (length (written (element s inside space more) rest)) (written_longer more rest)
    (at_most (length (written more rest)) (length last) (length (written (element s inside space more) rest))
    (end_longer s.name space (written more rest))
    (at_most (length last) (length (written inside last)) (length (written (element s inside space more) rest)) (written_longer inside last)
    (one_less (length (written inside last)) (length (written_tag s (62 ∷ written inside last)))
    (tag_longer s (62 ∷ written inside last)))))

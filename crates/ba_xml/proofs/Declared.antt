-- The declarations of the one text, and what a reader makes of them.
use Rattle.std.proofs.Common.{◌≡◌, ℕ, ◌+◌, ◌≤◌, ◌<◌, ◌^◌, Bool, true, false, cond, not, ◌&&◌, ◌||◌, Option, Some, None, IsSome, List, []}
use Rattle.std.proofs.Common.{◌∷◌, ◌++◌, map, filter, length, if◌then◌else◌, codes, decimal, refl, sym, ap, ◌∙◌, subst, arith, true≢false}
use Rattle.std.proofs.lemmas.Bool.Decides.{nat_tests}
use Rattle.std.proofs.lemmas.Cmp.{nat_list_eq_equiv}
use Rattle.std.proofs.lemmas.Fmt.{decimal_is_IsNumeral}
use Rattle.std.proofs.lemmas.Slice.Eq.{bytes_eq-Decides}
use Rattle.std.specs.Char.{digit_value, encode_utf8}
use Rattle.std.specs.List.{list_all, list_any}
use Rattle.std.specs.Str.{bytes_eq}
use Rattle.std.specs.Str.Parse.{AllDigits}
use Rattle.ba_tree.specs.Characters.{is_legal_text}
use Rattle.ba_tree.specs.Trees.{spaces_named, firsts, without}
use Rattle.ba_tree.specs.declared.trees.Tree.{Tree}
use Rattle.ba_xml_grammar.specs.GrammarWords.{Each, IsPlainName, is_name_letter}
use Rattle.ba_xml_names.specs.Namespaces.{nearest, first_scope, is_lawful}
use Rattle.ba_xml_names.specs.declared.levels.Declaration as reader
use Rattle.ba_xml_writer.proofs.Resolved.{scope_differ, resolves, few_further, named}
use Rattle.ba_xml_writer.specs.Namespaces.{Declaration, declaration, numbered, declared, text_scope, further, is_further, xml_space}
use Rattle.ba_xml_writer.specs.Namespaces.{soap_space}
use Rattle.ba_xml_writer.specs.Namespaces.{wsa_space, wscoor_space, wsba_space}
use Rattle.ba_xml_writer.specs.Resolving.{prefix_of, space_of, prefixes_differ}
use Rattle.ba_xml_writer.specs.Writable.{IsWritable}
use Rattle.ba_xml.proofs.Fine.{IsLegal}
use Rattle.ba_xml.proofs.LegalTexts.{legal_of}
use Rattle.ba_xml.proofs.Prefixes.{IsGood, AreDeclarable}
use Rattle.ba_xml.proofs.Spelling.{or_none}
use Rattle.ba_xml.proofs.Starts.{as_read}
use Rattle.ba_xml.proofs.Conditions.{both, joined, not_true, or_false}

-- what a reader holds inside of the root
abbrev pub read_scope : List (List ℕ) → List reader.Declaration
read_scope fs = map as_read (declared fs) ++ first_scope

-- ---- the prefixes

digit_letter : (c : ℕ) → digit_value c < 10 → is_name_letter c ≡ true
digit_letter c h = grind (arith, nat_tests)

digits_letters : (ds : List ℕ) → AllDigits 10 ds → Each is_name_letter ds
digits_letters [] h = tt
digits_letters (d ∷ ds) h = (digit_letter d h.0, digits_letters ds h.1)

number_letters : (n : ℕ) → n ≤ 100 → Each is_name_letter (decimal n)
number_letters n h = let small : n < 2 ^ 64 = omega arith in digits_letters (decimal n) (decimal_is_IsNumeral n small).0.1

abbrev AreGood : List Declaration → Type 0
AreGood [] = Unit {0}
AreGood (d ∷ ds) = (IsPlainName d.prefix × (bytes_eq d.prefix (codes "xmlns") ≡ false)) × AreGood ds

numbered_good : (k : ℕ) (fs : List (List ℕ)) → k + length fs ≤ 100 → AreGood (numbered k fs)
numbered_good k [] top = tt
numbered_good k (f ∷ fs) top =
    let low : k ≤ 100 = omega arith in
    let more : k + 1 + length fs ≤ 100 = omega arith in
    (((refl, number_letters k low), refl), numbered_good (k + 1) fs more)

declared_good : (fs : List (List ℕ)) → length fs ≤ 28 → AreGood (declared fs)
declared_good fs few =
    let top : 1 + length fs ≤ 100 = omega arith in (
      ((refl, (refl, (refl, (refl, tt)))), refl),
      (
        ((refl, (refl, (refl, tt))), refl),
        (((refl, (refl, (refl, (refl, (refl, (refl, tt)))))), refl), (((refl, (refl, (refl, (refl, tt)))), refl), numbered_good 1 fs top)),
      ),
    )

scope_good : (fs : List (List ℕ)) → length fs ≤ 28 → AreGood (text_scope fs)
scope_good fs few = (((refl, (refl, (refl, tt))), refl), declared_good fs few)

good_in : (ds : List Declaration) → AreGood ds → (space : List ℕ) → IsGood (prefix_of ds space)
good_in [] g space = tt
good_in (d ∷ ds) g space = by (bytes_eq space d.space) (good_in ds g.1 space)
  where
    by : (b : Bool) → IsGood (prefix_of ds space) → IsGood (if b then Some d.prefix else prefix_of ds space)
    by true later = g.0
    by false later = later

pub good_prefix : (fs : List (List ℕ)) → length fs ≤ 28 → (space : List ℕ) → IsGood (prefix_of (text_scope fs) space)
good_prefix fs few = good_in (text_scope fs) (scope_good fs few)

-- ---- the namespaces

further_some : (f : List ℕ) → is_further f ≡ true → bytes_eq [] f ≡ false
further_some [] h = absurd (true≢false (sym h))
further_some (b ∷ bs) h = refl

numbered_none : (k : ℕ) (fs : List (List ℕ)) → list_all is_further fs ≡ true → prefix_of (numbered k fs) [] ≡ None
numbered_none k [] h = refl
numbered_none k (f ∷ fs) h =
    let hs : (is_further f ≡ true) × (list_all is_further fs ≡ true) = both (is_further f) (list_all is_further fs) h in
    ap (λ b. if b then Some (codes "n" ++ decimal k) else prefix_of (numbered (k + 1) fs) []) (further_some f hs.0)
    ∙ numbered_none (k + 1) fs hs.1

-- no prefix stands for no namespace
none_for_none : (fs : List (List ℕ)) → list_all is_further fs ≡ true → prefix_of (text_scope fs) [] ≡ None
unfolding xml_space soap_space wsa_space wscoor_space wsba_space
none_for_none fs h = numbered_none 1 fs h

lawful_one : (f : List ℕ) → is_further f ≡ true → (not (bytes_eq f []) && not (bytes_eq f xml_space)) ≡ true
lawful_one f h = by (bytes_eq f []) (bytes_eq f xml_space)
    (list_any (bytes_eq f) (soap_space ∷ wsa_space ∷ wscoor_space ∷ wsba_space ∷ [])) h
  where
    by : (a b c : Bool) → not (a || (b || c)) ≡ true → (not a && not b) ≡ true
    by false false c h = refl
    by false true c h = h
    by true b c h = h

numbered_lawful : (k : ℕ) (fs : List (List ℕ)) → list_all is_further fs ≡ true → list_all is_lawful (map as_read (numbered k fs)) ≡ true
unfolding xml_space
numbered_lawful k [] h = refl
numbered_lawful k (f ∷ fs) h =
    let hs : (is_further f ≡ true) × (list_all is_further fs ≡ true) = both (is_further f) (list_all is_further fs) h in
    joined (is_lawful (as_read (declaration (codes "n" ++ decimal k) f))) (list_all is_lawful (map as_read (numbered (k + 1) fs)))
    (lawful_one f hs.0) (numbered_lawful (k + 1) fs hs.1)

pub declared_lawful : (fs : List (List ℕ)) → list_all is_further fs ≡ true → list_all is_lawful (map as_read (declared fs)) ≡ true
unfolding soap_space wsa_space wscoor_space wsba_space
declared_lawful fs h = numbered_lawful 1 fs h

numbered_declarable : (k : ℕ) (fs : List (List ℕ)) → k + length fs ≤ 100 → list_all is_legal_text fs ≡ true → AreDeclarable (numbered k fs)
numbered_declarable k [] top h = tt
numbered_declarable k (f ∷ fs) top h =
    let low : k ≤ 100 = omega arith in
    let more : k + 1 + length fs ≤ 100 = omega arith in
    let hs : (is_legal_text f ≡ true) × (list_all is_legal_text fs ≡ true) = both (is_legal_text f) (list_all is_legal_text fs) h in
    (((refl, number_letters k low), refl, legal_of f hs.0), numbered_declarable (k + 1) fs more hs.1)

fixed_legal : IsLegal soap_space × IsLegal wsa_space × IsLegal wscoor_space × IsLegal wsba_space
unfolding soap_space wsa_space wscoor_space wsba_space encode_utf8
fixed_legal = ((soap_space, refl, refl), (wsa_space, refl, refl), (wscoor_space, refl, refl), (wsba_space, refl, refl))

pub all_declarable : (fs : List (List ℕ)) → length fs ≤ 28 → list_all is_legal_text fs ≡ true → AreDeclarable (declared fs)
all_declarable fs few h =
    let top : 1 + length fs ≤ 100 = omega arith in
    let good : AreGood (declared fs) = declared_good fs few in (
      (good.0.0, good.0.1, fixed_legal.0),
      (
        (good.1.0.0, good.1.0.1, fixed_legal.1),
        ((good.1.1.0.0, good.1.1.0.1, fixed_legal.2), ((good.1.1.1.0.0, good.1.1.1.0.1, fixed_legal.3), numbered_declarable 1 fs top h)),
      ),
    )

-- ---- what a reader finds

not_empty : (prefix : List ℕ) → IsPlainName prefix → bytes_eq prefix [] ≡ false
not_empty [] n = absurd n
not_empty (b ∷ bs) n = refl

bare_in : (own : List Declaration) (rest : List reader.Declaration) → AreGood own → nearest [] (map as_read own ++ rest) ≡ nearest [] rest
bare_in [] rest g = refl
bare_in (d ∷ own) rest g = ap (λ b. cond b (Some d.space) (nearest [] (map as_read own ++ rest))) (not_empty d.prefix g.0.0)
    ∙ bare_in own rest g.1

-- no default namespace is declared
pub bare_space : (fs : List (List ℕ)) → length fs ≤ 28 → nearest [] (read_scope fs) ≡ Some []
bare_space fs few = bare_in (declared fs) first_scope (declared_good fs few)

found_in : (own : List Declaration) (rest : List reader.Declaration) (prefix space : List ℕ) → space_of own prefix ≡ Some space
    → nearest prefix (map as_read own ++ rest) ≡ Some space
found_in [] rest prefix space h = absurd (cc)
found_in (d ∷ own) rest prefix space h =
    ap (λ b. cond b (Some d.space) (nearest prefix (map as_read own ++ rest))) (nat_list_eq_equiv.symm d.prefix prefix)
    ∙ by (bytes_eq prefix d.prefix) (found_in own rest prefix space) h
  where
    by : (b : Bool) → (space_of own prefix ≡ Some space → nearest prefix (map as_read own ++ rest) ≡ Some space)
        → (if b then Some d.space else space_of own prefix) ≡ Some space
        → cond b (Some d.space) (nearest prefix (map as_read own ++ rest)) ≡ Some space
    by true later h = h
    by false later h = later h

behind_all : (own : List Declaration) (rest : List reader.Declaration) (prefix : List ℕ)
    → list_any (λ d. bytes_eq prefix d.prefix) own ≡ false → nearest prefix (map as_read own ++ rest) ≡ nearest prefix rest
behind_all [] rest prefix h = refl
behind_all (d ∷ own) rest prefix h =
    let hs : (bytes_eq prefix d.prefix ≡ false)
    × (list_any (λ e. bytes_eq prefix e.prefix) own ≡ false) =
    or_false (bytes_eq prefix d.prefix) (list_any (λ e. bytes_eq prefix e.prefix) own) h in
    ap (λ b. cond b (Some d.space) (nearest prefix (map as_read own ++ rest))) (nat_list_eq_equiv.symm d.prefix prefix ∙ hs.0)
    ∙ behind_all own rest prefix hs.1

found : (fs : List (List ℕ)) (prefix space : List ℕ) → prefixes_differ (text_scope fs) ≡ true → space_of (text_scope fs) prefix ≡ Some space
    → nearest prefix (read_scope fs) ≡ Some space
unfolding xml_space
found fs prefix space d h = by (bytes_eq prefix (codes "xml")) refl h
  where
    undeclared : list_any (λ e. bytes_eq (codes "xml") e.prefix) (declared fs) ≡ false
    undeclared = not_true (list_any (λ e. bytes_eq (codes "xml") e.prefix) (declared fs))
        (both (not (list_any (λ e. bytes_eq (codes "xml") e.prefix) (declared fs))) (prefixes_differ (declared fs)) d).0

    by : (b : Bool) → bytes_eq prefix (codes "xml") ≡ b → (if b then Some xml_space else space_of (declared fs) prefix) ≡ Some space
        → nearest prefix (read_scope fs) ≡ Some space
    by true e h = ap (λ p. nearest p (read_scope fs)) ((bytes_eq-Decides prefix (codes "xml")).0 e)
        ∙ behind_all (declared fs) first_scope (codes "xml") undeclared ∙ h
    by false e h = found_in (declared fs) first_scope prefix space h

-- ---- the further namespaces of a tree

all_filtered : (p f : List ℕ → Bool) (xs : List (List ℕ)) → list_all p xs ≡ true → list_all p (filter f xs) ≡ true
all_filtered p f [] h = refl
all_filtered p f (x ∷ xs) h = by (f x) (all_filtered p f xs (both (p x) (list_all p xs) h).1)
  where
    by : (b : Bool) → list_all p (filter f xs) ≡ true → list_all p (cond b (x ∷ filter f xs) (filter f xs)) ≡ true
    by true k = joined (p x) (list_all p (filter f xs)) (both (p x) (list_all p xs) h).0 k
    by false k = k

all_without : (p : List ℕ → Bool) (x : List ℕ) (ys : List (List ℕ)) → list_all p ys ≡ true → list_all p (without x ys) ≡ true
all_without p x [] h = refl
all_without p x (y ∷ ys) h = by (bytes_eq x y) (all_without p x ys (both (p y) (list_all p ys) h).1)
  where
    by : (b : Bool) → list_all p (without x ys) ≡ true → list_all p (elim b [ true ↦ without x ys | false ↦ y ∷ without x ys ]) ≡ true
    by true k = k
    by false k = joined (p y) (list_all p (without x ys)) (both (p y) (list_all p ys) h).0 k

all_firsts : (p : List ℕ → Bool) (xs : List (List ℕ)) → list_all p xs ≡ true → list_all p (firsts xs) ≡ true
all_firsts p [] h = refl
all_firsts p (x ∷ xs) h =
    let hs : (p x ≡ true) × (list_all p xs ≡ true) = both (p x) (list_all p xs) h in
    joined (p x) (list_all p (without x (firsts xs))) hs.0 (all_without p x (firsts xs) (all_firsts p xs hs.1))

pub further_legal : (t : Tree) → list_all is_legal_text (spaces_named t) ≡ true → list_all is_legal_text (further t) ≡ true
further_legal t h = all_filtered is_legal_text is_further (without [] (firsts (spaces_named t)))
    (all_without is_legal_text [] (firsts (spaces_named t)) (all_firsts is_legal_text (spaces_named t) h))

all_chosen : (f : List ℕ → Bool) (xs : List (List ℕ)) → list_all f (filter f xs) ≡ true
all_chosen f [] = refl
all_chosen f (x ∷ xs) = by (f x) refl (all_chosen f xs)
  where
    by : (b : Bool) → f x ≡ b → list_all f (filter f xs) ≡ true → list_all f (cond b (x ∷ filter f xs) (filter f xs)) ≡ true
    by true e k = joined (f x) (list_all f (filter f xs)) e k
    by false e k = k

pub further_all : (t : Tree) → list_all is_further (further t) ≡ true
further_all t = all_chosen is_further (without [] (firsts (spaces_named t)))

-- the prefix that is written for a namespace that the tree names means it
pub explained : (t : Tree) → IsWritable t → (space : List ℕ) → list_any (bytes_eq space) (spaces_named t) ≡ true
    → nearest (or_none (prefix_of (text_scope (further t)) space)) (read_scope (further t)) ≡ Some space
explained t w space h = by (bytes_eq space []) refl
  where
    prefixed : (o : Option (List ℕ)) → prefix_of (text_scope (further t)) space ≡ o → IsSome o
        → nearest (or_none o) (read_scope (further t)) ≡ Some space
    prefixed None e i = absurd (cc)
    prefixed (Some prefix) e i = found (further t) prefix space (scope_differ (further t) (few_further t w))
        (resolves (further t) space prefix (few_further t w) e)

    by : (b : Bool) → bytes_eq space [] ≡ b → nearest (or_none (prefix_of (text_scope (further t)) space))
        (read_scope (further t)) ≡ Some space
    by true e = subst (λ s. nearest (or_none (prefix_of (text_scope (further t)) s)) (read_scope (further t)) ≡ Some s)
        (sym ((bytes_eq-Decides space []).0 e))
        (ap (λ o. nearest (or_none o) (read_scope (further t))) (none_for_none (further t) (further_all t))
        ∙ bare_space (further t) (few_further t w))
    by false e = prefixed (prefix_of (text_scope (further t)) space) refl (named t space e h)

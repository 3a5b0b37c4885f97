-- Each prefix of the one text means the namespace that it stands for.
use Rattle.std.proofs.Common.{IsSome, cond, filter, ◌≡◌, ℕ, ◌+◌, ◌<◌, ◌≤◌, ◌^◌, length, Bool, true, false, not, ◌&&◌, ◌||◌, List, [], ◌∷◌}
use Rattle.std.proofs.Common.{◌++◌, Option, Some, if◌then◌else◌, nat_eq, codes, decimal, refl, sym, ap, ◌∙◌, arith}
use Rattle.std.specs.List.{list_any}
use Rattle.std.specs.Str.{bytes_eq}
use Rattle.std.specs.Str.Parse.{digits_value}
use Rattle.std.proofs.lemmas.Slice.Eq.{bytes_eq-Decides}
use Rattle.std.proofs.lemmas.Fmt.{decimal_is_IsNumeral}
use Rattle.ba_tree.specs.Trees.{namespaces, spaces_named, firsts, without}
use Rattle.ba_tree.specs.declared.trees.Tree.{Tree}
use Rattle.ba_xml_writer.specs.Namespaces.{Declaration, numbered, text_scope, further, is_further, xml_space, soap_space, wsa_space}
use Rattle.ba_xml_writer.specs.Namespaces.{wscoor_space, wsba_space}
use Rattle.ba_xml_writer.specs.OneText.{prefixed}
use Rattle.ba_xml_writer.specs.Resolving.{prefix_of, space_of, before_colon, prefixes_differ}
use Rattle.ba_xml_writer.specs.Writable.{IsWritable, HasRoom}
use Rattle.ba_xml_writer.proofs.Numbers.{length-numbered}

-- ---- no prefix is declared twice

value_of : (n : ℕ) → n ≤ 100 → digits_value 10 (decimal n) ≡ n
value_of n h = let small : n < 2 ^ 64 = omega arith in (decimal_is_IsNumeral n small).1

differs : (b : Bool) (m k : ℕ) → bytes_eq (decimal m) (decimal k) ≡ b → m < k → k ≤ 100 → b ≡ false
differs false m k e h top = refl
differs true m k e h top =
    let same : decimal m ≡ decimal k = (bytes_eq-Decides (decimal m) (decimal k)).0 e in
    let low : m ≤ 100 = omega arith in
    let number : m ≡ k = sym (value_of m low) ∙ (ap (digits_value 10) same ∙ value_of k top) in
    absurd (omega arith)

later_differ : (m k : ℕ) (fs : List (List ℕ)) → m < k → k + length fs ≤ 100
    → list_any (λ d. bytes_eq (codes "n" ++ decimal m) d.prefix) (numbered k fs) ≡ false
later_differ m k [] h top = refl
later_differ m k (f ∷ fs) h top =
    let next : m < k + 1 = omega arith in
    let here : k ≤ 100 = omega arith in
    let over : k + 1 + length fs ≤ 100 = omega arith in
    ap (λ b. b || list_any (λ d. bytes_eq (codes "n" ++ decimal m) d.prefix) (numbered (k + 1) fs))
    (differs (bytes_eq (decimal m) (decimal k)) m k refl h here)
    ∙ later_differ m (k + 1) fs next over

others_differ : (c : ℕ) (cs : List ℕ) (k : ℕ) (fs : List (List ℕ)) → nat_eq c 110 ≡ false
    → list_any (λ d. bytes_eq (c ∷ cs) d.prefix) (numbered k fs) ≡ false
others_differ c cs k [] h = refl
others_differ c cs k (f ∷ fs) h =
    ap (λ b. (b && bytes_eq cs (decimal k)) || list_any (λ d. bytes_eq (c ∷ cs) d.prefix) (numbered (k + 1) fs)) h
    ∙ others_differ c cs (k + 1) fs h

numbered_differ : (k : ℕ) (fs : List (List ℕ)) → k + length fs ≤ 99 → prefixes_differ (numbered k fs) ≡ true
numbered_differ k [] top = refl
numbered_differ k (f ∷ fs) top =
    let less : k < k + 1 = omega arith in
    let over : k + 1 + length fs ≤ 99 = omega arith in
    let wide : k + 1 + length fs ≤ 100 = omega arith in
    ap (λ b. not b && prefixes_differ (numbered (k + 1) fs)) (later_differ k (k + 1) fs less wide) ∙ numbered_differ (k + 1) fs over

pub scope_differ : (fs : List (List ℕ)) → length fs ≤ 28 → prefixes_differ (text_scope fs) ≡ true
scope_differ fs top =
    let over : 1 + length fs ≤ 99 = omega arith in
    let x = others_differ 120 (codes "ml") 1 fs refl in
    let s = others_differ 115 (codes "oap") 1 fs refl in
    let a = others_differ 119 (codes "sa") 1 fs refl in
    let c = others_differ 119 (codes "scoor") 1 fs refl in
    let b = others_differ 119 (codes "sba") 1 fs refl in
    rw (x, s, a, c, b) (numbered_differ 1 fs over)

-- ---- each prefix means its namespace

apart : (b : Bool) (p q : List ℕ) → bytes_eq q p ≡ b → bytes_eq p q ≡ false → bytes_eq q p ≡ false
apart false p q e h = e
apart true p q e h =
    let same : q ≡ p = (bytes_eq-Decides q p).0 e in
    let both : bytes_eq p q ≡ true = (bytes_eq-Decides p q).1 (sym same) in absurd (cc)

or_first : (a b : Bool) → (a || b) ≡ false → a ≡ false
or_first false b h = refl
or_first true b h = h

or_second : (a b : Bool) → (a || b) ≡ false → b ≡ false
or_second false b h = h
or_second true b h = absurd (cc)

and_first : (a b : Bool) → (not a && b) ≡ true → a ≡ false
and_first false b h = refl
and_first true b h = absurd (cc)

and_second : (a b : Bool) → (not a && b) ≡ true → b ≡ true
and_second false b h = h
and_second true b h = absurd (cc)

found_step : (b : Bool) (first p q : List ℕ) (later : Option (List ℕ)) → (if b then Some first else later) ≡ Some p
    → bytes_eq q first ≡ false → (later ≡ Some p → bytes_eq q p ≡ false) → bytes_eq q p ≡ false
found_step true first p q later e h ih = let same : first ≡ p = cc in ap (bytes_eq q) (sym same) ∙ h
found_step false first p q later e h ih = ih e

found : (ds : List Declaration) (s p q : List ℕ) → prefix_of ds s ≡ Some p → list_any (λ d. bytes_eq q d.prefix) ds ≡ false
    → bytes_eq q p ≡ false
found [] s p q e h = absurd (cc)
found (d ∷ ds) s p q e h =
    found_step (bytes_eq s d.space) d.prefix p q (prefix_of ds s) e
    (or_first (bytes_eq q d.prefix) (list_any (λ d. bytes_eq q d.prefix) ds) h)
    (λ later. found ds s p q later (or_second (bytes_eq q d.prefix) (list_any (λ d. bytes_eq q d.prefix) ds) h))

resolved_step : (b : Bool) (d : Declaration) (ds : List Declaration) (s p : List ℕ) → bytes_eq s d.space ≡ b
    → (if b then Some d.prefix else prefix_of ds s) ≡ Some p → list_any (λ e. bytes_eq d.prefix e.prefix) ds ≡ false
    → (prefix_of ds s ≡ Some p → space_of ds p ≡ Some s) → space_of (d ∷ ds) p ≡ Some s
resolved_step true d ds s p e h n ih =
    let same : d.prefix ≡ p = cc in
    let space : s ≡ d.space = (bytes_eq-Decides s d.space).0 e in
    ap (λ b. if b then Some d.space else space_of ds p) ((bytes_eq-Decides p d.prefix).1 (sym same)) ∙ ap Some (sym space)
resolved_step false d ds s p e h n ih =
    ap (λ b. if b then Some d.space else space_of ds p) (apart (bytes_eq p d.prefix) d.prefix p refl (found ds s p d.prefix h n)) ∙ ih h

resolved : (ds : List Declaration) (s p : List ℕ) → prefixes_differ ds ≡ true → prefix_of ds s ≡ Some p → space_of ds p ≡ Some s
resolved [] s p n h = absurd (cc)
resolved (d ∷ ds) s p n h =
    resolved_step (bytes_eq s d.space) d ds s p refl h (and_first (list_any (λ e. bytes_eq d.prefix e.prefix) ds) (prefixes_differ ds) n)
    (resolved ds s p (and_second (list_any (λ e. bytes_eq d.prefix e.prefix) ds) (prefixes_differ ds) n))

pub resolves : (fs : List (List ℕ)) (s p : List ℕ) → length fs ≤ 28 → prefix_of (text_scope fs) s ≡ Some p
    → space_of (text_scope fs) p ≡ Some s
resolves fs s p top h = resolved (text_scope fs) s p (scope_differ fs top) h

pub few_further : (t : Tree) → IsWritable t → length (further t) ≤ 28
few_further t w =
    let e : length (numbered 1 (further t)) ≡ length (further t) = length-numbered 1 (further t) in
    let room : HasRoom t = w.room in omega arith

-- ---- names are written by these prefixes

spelled_step : (b : Bool) (p rest : List ℕ) (later : Option (List ℕ)) (others : List ℕ) → others ≡ before_colon later rest
    → (if b then p ++ (codes ":" ++ rest) else others) ≡ before_colon (if b then Some p else later) rest
spelled_step true p rest later others e = refl
spelled_step false p rest later others e = e

pub spelled_by : (ds : List Declaration) (s rest : List ℕ) → prefixed ds s rest ≡ before_colon (prefix_of ds s) rest
spelled_by [] s rest = refl
spelled_by (d ∷ ds) s rest = spelled_step (bytes_eq s d.space) d.prefix rest (prefix_of ds s) (prefixed ds s rest) (spelled_by ds s rest)

-- ---- each namespace that is named has a prefix

or_right : (a b : Bool) → b ≡ true → (a || b) ≡ true
or_right true b h = refl
or_right false b h = h

kept_later : (b : Bool) (s y : List ℕ) (ys : List (List ℕ)) → list_any (bytes_eq s) ys ≡ true
    → list_any (bytes_eq s) (cond b (y ∷ ys) ys) ≡ true
kept_later true s y ys h = or_right (bytes_eq s y) (list_any (bytes_eq s) ys) h
kept_later false s y ys h = h

kept_step : (b : Bool) (f : List ℕ → Bool) (s y : List ℕ) (ys : List (List ℕ)) → bytes_eq s y ≡ b → f s ≡ true
    → (b || list_any (bytes_eq s) ys) ≡ true → (list_any (bytes_eq s) ys ≡ true → list_any (bytes_eq s) (filter f ys) ≡ true)
    → list_any (bytes_eq s) (cond (f y) (y ∷ filter f ys) (filter f ys)) ≡ true
kept_step true f s y ys e k h ih =
    let same : s ≡ y = (bytes_eq-Decides s y).0 e in
    ap (λ b. list_any (bytes_eq s) (cond b (y ∷ filter f ys) (filter f ys))) (ap f (sym same) ∙ k)
    ∙ ap (λ b. b || list_any (bytes_eq s) (filter f ys)) e
kept_step false f s y ys e k h ih = kept_later (f y) s y (filter f ys) (ih h)

any_filter : (f : List ℕ → Bool) (s : List ℕ) (ys : List (List ℕ)) → f s ≡ true → list_any (bytes_eq s) ys ≡ true
    → list_any (bytes_eq s) (filter f ys) ≡ true
any_filter f s [] k h = absurd (cc)
any_filter f s (y ∷ ys) k h = kept_step (bytes_eq s y) f s y ys refl k h (any_filter f s ys k)

left_step : (b c : Bool) (x s y : List ℕ) (ys rest : List (List ℕ)) → bytes_eq x y ≡ b → bytes_eq s y ≡ c → bytes_eq x s ≡ false
    → (c || list_any (bytes_eq s) ys) ≡ true → (list_any (bytes_eq s) ys ≡ true → list_any (bytes_eq s) rest ≡ true)
    → list_any (bytes_eq s) (elim b [ true ↦ rest | false ↦ y ∷ rest ]) ≡ true
left_step true true x s y ys rest e g n h ih =
    let one : x ≡ y = (bytes_eq-Decides x y).0 e in
    let two : s ≡ y = (bytes_eq-Decides s y).0 g in
    let both : bytes_eq x s ≡ true = (bytes_eq-Decides x s).1 (one ∙ sym two) in absurd (cc)
left_step true false x s y ys rest e g n h ih = ih h
left_step false true x s y ys rest e g n h ih = ap (λ b. b || list_any (bytes_eq s) rest) g
left_step false false x s y ys rest e g n h ih = or_right (bytes_eq s y) (list_any (bytes_eq s) rest) (ih h)

any_without : (x s : List ℕ) (ys : List (List ℕ)) → bytes_eq x s ≡ false → list_any (bytes_eq s) ys ≡ true
    → list_any (bytes_eq s) (without x ys) ≡ true
any_without x s [] n h = absurd (cc)
any_without x s (y ∷ ys) n h = left_step (bytes_eq x y) (bytes_eq s y) x s y ys (without x ys) refl refl n h (any_without x s ys n)

first_step : (b : Bool) (s y : List ℕ) (ys : List (List ℕ)) → bytes_eq s y ≡ b → (b || list_any (bytes_eq s) ys) ≡ true
    → (list_any (bytes_eq s) ys ≡ true → list_any (bytes_eq s) (firsts ys) ≡ true)
    → (b || list_any (bytes_eq s) (without y (firsts ys))) ≡ true
first_step true s y ys e h ih = refl
first_step false s y ys e h ih = any_without y s (firsts ys) (apart (bytes_eq y s) s y refl e) (ih h)

any_firsts : (s : List ℕ) (ys : List (List ℕ)) → list_any (bytes_eq s) ys ≡ true → list_any (bytes_eq s) (firsts ys) ≡ true
any_firsts s [] h = absurd (cc)
any_firsts s (y ∷ ys) h = first_step (bytes_eq s y) s y ys refl h (any_firsts s ys)

numbered_step : (b : Bool) (s : List ℕ) (p : List ℕ) (later : Option (List ℕ)) (any : Bool) → (b || any) ≡ true
    → (any ≡ true → IsSome later)
    → IsSome (if b then Some p else later)
numbered_step true s p later any h ih = refl
numbered_step false s p later any h ih = ih h

has_number : (s : List ℕ) (k : ℕ) (fs : List (List ℕ)) → list_any (bytes_eq s) fs ≡ true → IsSome (prefix_of (numbered k fs) s)
has_number s k [] h = absurd (cc)
has_number s k (f ∷ fs) h =
    numbered_step (bytes_eq s f) s (codes "n" ++ decimal k) (prefix_of (numbered (k + 1) fs) s) (list_any (bytes_eq s) fs) h
    (has_number s (k + 1) fs)

five : (a b c d e : Bool) (p q r u v : List ℕ) (later : Option (List ℕ))
    → (not (a || (b || (c || (d || (e || false))))) ≡ true → IsSome later)
    → IsSome (if a then Some p else (if b then Some q else (if c then Some r else (if d then Some u else (if e then Some v else later)))))
five true b c d e p q r u v later h = refl
five false true c d e p q r u v later h = refl
five false false true d e p q r u v later h = refl
five false false false true e p q r u v later h = refl
five false false false false true p q r u v later h = refl
five false false false false false p q r u v later h = h refl

pub named : (t : Tree) (s : List ℕ) → bytes_eq s [] ≡ false → list_any (bytes_eq s) (spaces_named t) ≡ true
    → IsSome (prefix_of (text_scope (further t)) s)
named t s n h =
    five (bytes_eq s xml_space) (bytes_eq s soap_space) (bytes_eq s wsa_space) (bytes_eq s wscoor_space) (bytes_eq s wsba_space)
    (codes "xml") (codes "soap") (codes "wsa") (codes "wscoor") (codes "wsba") (prefix_of (numbered 1 (further t)) s)
    (λ other. has_number s 1 (further t)
    (any_filter is_further s (namespaces t)
    (ap (λ b. not (b || list_any (bytes_eq s) (xml_space ∷ soap_space ∷ wsa_space ∷ wscoor_space ∷ wsba_space ∷ []))) n ∙ other)
    (any_without [] s (firsts (spaces_named t)) (apart (bytes_eq [] s) s [] refl n) (any_firsts s (spaces_named t) h))))

-- The start tags of a document as causes: which bytes each leaves, and that those of later tags are fewer.
use Rattle.std.proofs.Common.{◌≡◌, ℕ, ◌+◌, ◌<◌, ◌≤◌, zero, suc, ◌⊎◌, inl, inr, Option, Some, None, List, [], ◌∷◌, ◌++◌, length, get_or}
use Rattle.std.proofs.Common.{refl, sym, ap, ◌∙◌, subst, length-append, arith}
use Rattle.std.proofs.lemmas.List.Elements.{Contains-push, Contains-append_left, Contains-append_right}
use Rattle.std.specs.Prelude.{Contains}
use Rattle.ba_xml_places.proofs.Parts.{at_most, attribute_strict, pairs_longer, from_pair, space_longer, pairs_in_tag, name_in_tag}
use Rattle.ba_xml_places.proofs.Parts.{behind_pairs, tag_longer, end_longer, written_longer, part_longer, part_reference, part_section}
use Rattle.ba_xml_places.proofs.Parts.{part_comment}
use Rattle.ba_xml_names.specs.Namespaces.{opening}
use Rattle.ba_xml_grammar.specs.Grammar.{Pair, Start, Pieces, nothing, character, reference, section, comment, empty, element}
use Rattle.ba_xml_grammar.specs.Grammar.{written_attribute, written_pairs, written_tag, written_end, written, tag, meant, IsStart}
use Rattle.ba_xml_grammar.specs.Grammar.{written_section, written_comment}
use Rattle.ba_xml_grammar.specs.GrammarWords.{written_reference}
use Rattle.ba_xml_grammar.specs.Places.{Standing, standing, standings}
use Rattle.ba_xml_words.specs.declared.faults.Reason.{Reason}
use Rattle.ba_xml_words.specs.declared.faults.Reason.TheVariants as reason
use Rattle.ba_xml_names.specs.declared.levels.Declaration.{Declaration}
use Rattle.ba_xml_names.specs.declared.levels.Opening.{Opening}

-- ---- causes

-- the start tag is the reason to stop where these bytes are left
abbrev pub IsCauseAt : Reason → Standing → List ℕ → Type 0
IsCauseAt reason.Namespace t left = (opening t.scope (tag t.start) ≡ None) × (left ≡ t.closing)
IsCauseAt reason.Depth t left = (t.level ≡ 33) × (left ≡ written_tag t.start t.closing)
IsCauseAt reason.Attributes t left = (first : List Pair) × (a : Pair) × (more : List Pair) × (t.start.pairs ≡ first ++ a ∷ more)
    × (length first ≡ 32)
    × (left ≡ written_attribute a (written_pairs more (t.start.space ++ t.closing)))
IsCauseAt _ t left = ⊥

-- a cause that leaves fewer bytes than this one, or is this one
abbrev pub IsBehind : Reason → List ℕ → Reason → List ℕ → Type 0
IsBehind q l r left = (length l < length left) ⊎ ((l ≡ left) × (q ≡ r))

abbrev pub AreBehind : List Standing → Reason → List ℕ → Type 0
AreBehind ts r left = (q : Reason) (t : Standing) (l : List ℕ) → Contains ts t → IsCauseAt q t l → IsBehind q l r left

-- none of these is a cause
abbrev pub AreFree : List Standing → Type 0
AreFree ts = (q : Reason) (t : Standing) (l : List ℕ) → Contains ts t → IsCauseAt q t l → ⊥

-- each cause among these leaves so many bytes at most
abbrev pub AreWithin : List Standing → ℕ → Type 0
AreWithin ts n = (q : Reason) (t : Standing) (l : List ℕ) → Contains ts t → IsCauseAt q t l → length l ≤ n

-- ---- lists of start tags

abbrev pub Within : List Standing → List Standing → Type 0
Within ts us = (t : Standing) → Contains ts t → Contains us t

abbrev pub AreOf : List Standing → List Standing → List Standing → Type 0
AreOf ts us vs = (t : Standing) → Contains vs t → Contains ts t ⊎ Contains us t

pub the_first : (t : Standing) (ts : List Standing) → Contains (t ∷ ts) t
the_first t ts = Contains-append_left (t ∷ []) ts t (Contains-push [] t)

pub the_rest : (t : Standing) (ts : List Standing) → Within ts (t ∷ ts)
the_rest t ts u c = Contains-append_right (t ∷ []) ts u c

pub only_first : (t : Standing) (ts : List Standing) → Within (t ∷ []) (t ∷ ts)
only_first t ts u c = Contains-append_left (t ∷ []) ts u c

pub nothing_in : (u : Standing) → Contains [] u → ⊥
nothing_in u c = by c.0 c.1
  where
    by : (k : ℕ) → k < 0 → ⊥
    by k l = omega (arith, l)

pub first_or_rest : (t : Standing) (ts : List Standing) (u : Standing) → Contains (t ∷ ts) u → (t ≡ u) ⊎ Contains ts u
first_or_rest t ts u c = by c.0 c.1 c.2
  where
    by : (k : ℕ) → k < length (t ∷ ts) → get_or (t ∷ ts) k u ≡ u → (t ≡ u) ⊎ Contains ts u
    by zero l e = inl e
    by (suc k) l e = inr (k, omega (arith, l), e)

pub either_of : (ts us : List Standing) → AreOf ts us (ts ++ us)
either_of [] us u c = inr c
either_of (t ∷ ts) us u c = by (first_or_rest t (ts ++ us) u c) (λ d. either_of ts us u d)
  where
    later : Contains ts u ⊎ Contains us u → Contains (t ∷ ts) u ⊎ Contains us u
    later (inl d) = inl (the_rest t ts u d)
    later (inr d) = inr d

    by : (t ≡ u) ⊎ Contains (ts ++ us) u → (Contains (ts ++ us) u → Contains ts u ⊎ Contains us u) → Contains (t ∷ ts) u ⊎ Contains us u
    by (inl e) ih = inl (subst (λ x. Contains (t ∷ ts) x) e (the_first t ts))
    by (inr d) ih = later (ih d)

pub none_free : AreFree []
none_free q t l c i = nothing_in t c

pub none_within : (n : ℕ) → AreWithin [] n
none_within n q t l c i = absurd (nothing_in t c)

-- ---- one start tag

too_many : (pairs first : List Pair) (a : Pair) (more : List Pair) → pairs ≡ first ++ a ∷ more → length first ≡ 32 → length pairs ≤ 32 → ⊥
too_many pairs first a more e n l =
    by (length pairs) (length first) (length more) (ap length e ∙ length-append first (a ∷ more)) n l
  where
    by : (x y z : ℕ) → x ≡ y + suc z → y ≡ 32 → x ≤ 32 → ⊥
    by x y z e n l = omega (arith, e, n, l)

too_high : (level : ℕ) → level ≡ 33 → level ≤ 32 → ⊥
too_high level e l = omega (arith, e, l)

-- from an attribute on, by how many stand before it
same_attribute : (first other : List Pair) (a b : Pair) (more rest : List Pair) (tail : List ℕ) → length first ≡ length other
    → first ++ a ∷ more ≡ other ++ b ∷ rest → written_attribute a (written_pairs more tail) ≡ written_attribute b (written_pairs rest tail)
same_attribute [] [] a b more rest tail n e =
    let x : a ≡ b = heads a b more rest e in
    let y : more ≡ rest = tails a b more rest e in
    ap (λ z. written_attribute z (written_pairs more tail)) x ∙ ap (λ z. written_attribute b (written_pairs z tail)) y
  where
    heads : (a b : Pair) (xs ys : List Pair) → a ∷ xs ≡ b ∷ ys → a ≡ b
    heads a b xs ys e = cc

    tails : (a b : Pair) (xs ys : List Pair) → a ∷ xs ≡ b ∷ ys → xs ≡ ys
    tails a b xs ys e = cc
same_attribute [] (y ∷ ys) a b more rest tail n e = absurd (by (length ys) n)
  where
    by : (k : ℕ) → 0 ≡ suc k → ⊥
    by k e = omega (arith, e)
same_attribute (x ∷ xs) [] a b more rest tail n e = absurd (by (length xs) n)
  where
    by : (k : ℕ) → suc k ≡ 0 → ⊥
    by k e = omega (arith, e)
same_attribute (x ∷ xs) (y ∷ ys) a b more rest tail n e =
    same_attribute xs ys a b more rest tail (by (length xs) (length ys) n) (tails x y (xs ++ a ∷ more) (ys ++ b ∷ rest) e)
  where
    by : (k n : ℕ) → suc k ≡ suc n → k ≡ n
    by k n e = omega (arith, e)

    tails : (a b : Pair) (xs ys : List Pair) → a ∷ xs ≡ b ∷ ys → xs ≡ ys
    tails a b xs ys e = cc

same_length : (x y : ℕ) → x ≡ 32 → y ≡ 32 → x ≡ y
same_length x y e f = e ∙ sym f

pub shorter : (x y z : ℕ) → x ≤ y → y < z → x < z
shorter x y z a b = omega (arith, a, b)

pub longer : (x y z : ℕ) → x < y → y ≤ z → x < z
longer x y z a b = omega (arith, a, b)

-- the bytes from an attribute on are more than those behind the tag
pub behind_attribute : (s : Start) (a : Pair) (more : List Pair) (closing : List ℕ)
    → length closing < length (written_attribute a (written_pairs more (s.space ++ closing)))
behind_attribute s a more closing =
    shorter (length closing) (length (written_pairs more (s.space ++ closing)))
    (length (written_attribute a (written_pairs more (s.space ++ closing))))
    (at_most (length closing) (length (s.space ++ closing)) (length (written_pairs more (s.space ++ closing)))
    (space_longer s.space closing)
    (pairs_longer more (s.space ++ closing)))
    (attribute_strict a (written_pairs more (s.space ++ closing)))

module _ (level : ℕ) (sc : List Declaration) (s : Start) (closing : List ℕ) where
  abbrev here : Standing
  here = standing level sc s closing

  -- what is so of this tag is so of the tags of this list
  only : (P : Reason → List ℕ → Type 0) → ((q : Reason) (l : List ℕ) → IsCauseAt q here l → P q l)
      → (q : Reason) (t : Standing) (l : List ℕ) → Contains (here ∷ []) t → IsCauseAt q t l → P q l
  only P f q t l c i = by (first_or_rest here [] t c)
    where
      by : (here ≡ t) ⊎ Contains [] t → P q l
      by (inl e) = f q l (subst (λ x. IsCauseAt q x l) (sym e) i)
      by (inr d) = absurd (nothing_in t d)

  -- from the 33rd attribute on
  attribute_within : (first : List Pair) (a : Pair) (more : List Pair) → s.pairs ≡ first ++ a ∷ more
      → length (written_attribute a (written_pairs more (s.space ++ closing))) ≤ length (written_pairs s.pairs (s.space ++ closing))
  attribute_within first a more e =
      subst (λ x. length (written_attribute a (written_pairs more (s.space ++ closing))) ≤ length (written_pairs x (s.space ++ closing)))
      (sym e)
      (from_pair first a more (s.space ++ closing))

  pub within_tag : (q : Reason) (l : List ℕ) → IsCauseAt q here l → length l ≤ length (written_tag s closing)
  within_tag reason.Namespace l i = subst (λ x. length x ≤ length (written_tag s closing)) (sym i.1) (tag_longer s closing)
  within_tag reason.Depth l i = subst (λ x. length x ≤ length (written_tag s closing)) (sym i.1) (omega arith)
  within_tag reason.Attributes l i = subst (λ x. length x ≤ length (written_tag s closing)) (sym i.5)
      (at_most (length (written_attribute i.1 (written_pairs i.2 (s.space ++ closing))))
      (length (written_pairs s.pairs (s.space ++ closing)))
      (length (written_tag s closing)) (attribute_within i.0 i.1 i.2 i.3) (pairs_in_tag s closing))
  within_tag _ l i = absurd i

  -- a tag that stands too deep
  deep_first : IsStart s → (q : Reason) (l : List ℕ) → IsCauseAt q here l → IsBehind q l reason.Depth (written_tag s closing)
  deep_first t reason.Namespace l i = inl (subst (λ x. length x < length (written_tag s closing)) (sym i.1)
      (shorter (length closing) (length (written_pairs s.pairs (s.space ++ closing))) (length (written_tag s closing))
      (behind_pairs s closing) (name_in_tag s t.0 closing)))
  deep_first t reason.Depth l i = inr (i.1, refl)
  deep_first t reason.Attributes l i = inl (subst (λ x. length x < length (written_tag s closing)) (sym i.5)
      (shorter (length (written_attribute i.1 (written_pairs i.2 (s.space ++ closing))))
      (length (written_pairs s.pairs (s.space ++ closing)))
      (length (written_tag s closing)) (attribute_within i.0 i.1 i.2 i.3) (name_in_tag s t.0 closing)))
  deep_first t _ l i = absurd i

  -- and all that stands in it
  pub deep_behind : IsStart s → (us : List Standing) → AreWithin us (length closing)
      → AreBehind (here ∷ us) reason.Depth (written_tag s closing)
  deep_behind i us w q t l c k = by (first_or_rest here us t c)
    where
      by : (here ≡ t) ⊎ Contains us t → IsBehind q l reason.Depth (written_tag s closing)
      by (inl e) = deep_first i q l (subst (λ x. IsCauseAt q x l) (sym e) k)
      by (inr d) = inl (shorter (length l) (length closing) (length (written_tag s closing)) (w q t l d k)
          (shorter (length closing) (length (written_pairs s.pairs (s.space ++ closing))) (length (written_tag s closing))
          (behind_pairs s closing) (name_in_tag s i.0 closing)))

  -- a tag that keeps the limits, and is explained
  pub tag_free : (o : Opening) → level ≤ 32 → length s.pairs ≤ 32 → opening sc (tag s) ≡ Some o → AreFree (here ∷ [])
  tag_free o h n e = only (λ q l. ⊥) by
    where
      clash : (x : Option Opening) → x ≡ None → x ≡ Some o → ⊥
      clash x e f = cc

      by : (q : Reason) (l : List ℕ) → IsCauseAt q here l → ⊥
      by reason.Namespace l i = clash (opening sc (tag s)) i.0 e
      by reason.Depth l i = too_high level i.0 h
      by reason.Attributes l i = too_many s.pairs i.0 i.1 i.2 i.3 i.4 n
      by _ l i = i

  -- a tag that keeps the limits
  pub namespace_behind : level ≤ 32 → length s.pairs ≤ 32 → AreBehind (here ∷ []) reason.Namespace closing
  namespace_behind h n = only (λ q l. IsBehind q l reason.Namespace closing) by
    where
      by : (q : Reason) (l : List ℕ) → IsCauseAt q here l → IsBehind q l reason.Namespace closing
      by reason.Namespace l i = inr (i.1, refl)
      by reason.Depth l i = absurd (too_high level i.0 h)
      by reason.Attributes l i = absurd (too_many s.pairs i.0 i.1 i.2 i.3 i.4 n)
      by _ l i = absurd i

  -- a tag that doesn't stand too deep
  pub attributes_behind : level ≤ 32 → (first : List Pair) (a : Pair) (more : List Pair) → s.pairs ≡ first ++ a ∷ more → length first ≡ 32
      → AreBehind (here ∷ []) reason.Attributes (written_attribute a (written_pairs more (s.space ++ closing)))
  attributes_behind h first a more e n =
      only (λ q l. IsBehind q l reason.Attributes (written_attribute a (written_pairs more (s.space ++ closing)))) by
    where
      by : (q : Reason) (l : List ℕ) → IsCauseAt q here l
          → IsBehind q l reason.Attributes (written_attribute a (written_pairs more (s.space ++ closing)))
      by reason.Namespace l i =
          inl (subst (λ x. length x < length (written_attribute a (written_pairs more (s.space ++ closing)))) (sym i.1)
          (behind_attribute s a more closing))
      by reason.Depth l i = absurd (too_high level i.0 h)
      by reason.Attributes l i = inr (
        i.5 ∙ same_attribute i.0 first i.1 a i.2 more (s.space ++ closing)
            (same_length (length i.0) (length first) i.4 n) (sym i.3 ∙ e),
        refl,
      )
      by _ l i = absurd i

-- ---- pieces

wider : (ts : List Standing) (n m : ℕ) → n ≤ m → AreWithin ts n → AreWithin ts m
wider ts n m l w q t k c i = at_most (length k) n m (w q t k c i) l

one_more : (x : ℕ) → x ≤ suc x
one_more x = omega arith

up_one : (x y : ℕ) → x ≤ y → x ≤ suc y
up_one x y l = omega (arith, l)

two_less : (x y : ℕ) → suc (suc x) ≤ y → x ≤ suc y
two_less x y l = omega (arith, l)

one_less : (x y : ℕ) → suc x ≤ y → x ≤ suc y
one_less x y l = omega (arith, l)

module _ (level : ℕ) (sc : List Declaration) (s : Start) (inside : Pieces) (space : List ℕ) (more : Pieces) (rest : List ℕ) where
  abbrev last : List ℕ
  last = written_end s.name space (written more rest)

  abbrev vs : List Standing
  vs = standings (level + 1) ((meant sc s).declarations ++ sc) inside last

  abbrev us : List Standing
  us = standings level sc more rest

  inner : length (written inside last) ≤ length (written (element s inside space more) rest)
  inner = one_less (length (written inside last)) (length (written_tag s (62 ∷ written inside last)))
      (tag_longer s (62 ∷ written inside last))

  outer : length (written more rest) ≤ length (written (element s inside space more) rest)
  outer = at_most (length (written more rest)) (length last) (length (written (element s inside space more) rest))
      (end_longer s.name space (written more rest))
      (at_most (length last) (length (written inside last)) (length (written (element s inside space more) rest))
      (written_longer inside last) inner)

  of_part : (q : Reason) (t : Standing) (l : List ℕ) → IsCauseAt q t l → AreWithin vs (length (written inside last))
      → AreWithin us (length (written more rest)) → Contains vs t ⊎ Contains us t
      → length l ≤ length (written (element s inside space more) rest)
  of_part q t l i v w (inl d) =
      at_most (length l) (length (written inside last)) (length (written (element s inside space more) rest)) (v q t l d i) inner
  of_part q t l i v w (inr d) =
      at_most (length l) (length (written more rest)) (length (written (element s inside space more) rest)) (w q t l d i) outer

  of_element : (q : Reason) (t : Standing) (l : List ℕ) → IsCauseAt q t l → AreWithin vs (length (written inside last))
      → AreWithin us (length (written more rest))
      → (standing level sc s (62 ∷ written inside last) ≡ t) ⊎ Contains (vs ++ us) t
      → length l ≤ length (written (element s inside space more) rest)
  of_element q t l i v w (inl e) = up_one (length l) (length (written_tag s (62 ∷ written inside last)))
      (within_tag level sc s (62 ∷ written inside last) q l (subst (λ x. IsCauseAt q x l) (sym e) i))
  of_element q t l i v w (inr d) = of_part q t l i v w (either_of vs us t d)

-- the causes in pieces leave no more bytes than they are with what follows
pub pieces_within : (level : ℕ) (sc : List Declaration) (p : Pieces) (rest : List ℕ)
    → AreWithin (standings level sc p rest) (length (written p rest))
pieces_within level sc nothing rest = none_within (length rest)
pieces_within level sc (character b more) rest =
    wider (standings level sc more rest) (length (written more rest)) (suc (length (written more rest)))
    (one_more (length (written more rest)))
    (pieces_within level sc more rest)
pieces_within level sc (reference r more) rest =
    wider (standings level sc more rest) (length (written more rest)) (length (written_reference r (written more rest)))
    (part_longer (written_reference r) (part_reference r) (written more rest)) (pieces_within level sc more rest)
pieces_within level sc (section body more) rest =
    wider (standings level sc more rest) (length (written more rest)) (length (written_section body (written more rest)))
    (part_longer (written_section body) (part_section body) (written more rest)) (pieces_within level sc more rest)
pieces_within level sc (comment body more) rest =
    wider (standings level sc more rest) (length (written more rest)) (length (written_comment body (written more rest)))
    (part_longer (written_comment body) (part_comment body) (written more rest)) (pieces_within level sc more rest)
pieces_within level sc (empty s more) rest = λ q t l c i.
    by q t l i (pieces_within level sc more rest)
    (first_or_rest (standing level sc s (47 ∷ 62 ∷ written more rest)) (standings level sc more rest) t c)
  where
    by : (q : Reason) (t : Standing) (l : List ℕ) → IsCauseAt q t l → AreWithin (standings level sc more rest) (length (written more rest))
        → (standing level sc s (47 ∷ 62 ∷ written more rest) ≡ t) ⊎ Contains (standings level sc more rest) t
        → length l ≤ length (written (empty s more) rest)
    by q t l i w (inl e) = up_one (length l) (length (written_tag s (47 ∷ 62 ∷ written more rest)))
        (within_tag level sc s (47 ∷ 62 ∷ written more rest) q l (subst (λ x. IsCauseAt q x l) (sym e) i))
    by q t l i w (inr d) = at_most (length l) (length (written more rest)) (length (written (empty s more) rest)) (w q t l d i)
        (two_less (length (written more rest)) (length (written_tag s (47 ∷ 62 ∷ written more rest)))
        (tag_longer s (47 ∷ 62 ∷ written more rest)))
pieces_within level sc (element s inside space more) rest = λ q t l c i.
    of_element level sc s inside space more rest q t l i
    (pieces_within (level + 1) ((meant sc s).declarations ++ sc) inside (written_end s.name space (written more rest)))
    (pieces_within level sc more rest)
    (first_or_rest (standing level sc s (62 ∷ written inside (written_end s.name space (written more rest))))
    (standings (level + 1) ((meant sc s).declarations ++ sc) inside (written_end s.name space (written more rest))
    ++ standings level sc more rest) t c)

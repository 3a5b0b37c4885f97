-- What `opening` gives a start tag is what the rules of namespaces say, and it gives no tag less.
use Rattle.std.proofs.Common.{◌≡◌, ℕ, ◌⊎◌, inl, inr, Bool, true, false, cond, not, ◌&&◌, Option, Some, None, List, [], ◌∷◌, ◌++◌, codes}
use Rattle.std.proofs.Common.{refl, sym, ap, ◌∙◌, subst, true≢false}
use Rattle.std.proofs.lemmas.Cmp.{nat_list_cmp_total, on_total, then_total}
use Rattle.std.proofs.lemmas.Slice.Eq.{bytes_eq-Decides}
use Rattle.std.specs.Cmp.{IsTotalOrder}
use Rattle.std.specs.List.{list_all}
use Rattle.std.specs.Option.{option_map, option_and_then}
use Rattle.std.specs.Ordering.{is_lt, ordering_reverse}
use Rattle.std.specs.Str.{bytes_eq}
use Rattle.std.specs.declared.cmp.Ordering.{Ordering}
use Rattle.std.specs.declared.cmp.Ordering.TheVariants as order
use Rattle.ba_tree.specs.Trees.{name_cmp, rises}
use Rattle.ba_tree.specs.declared.trees.Attribute.{Attribute}
use Rattle.ba_tree.specs.declared.trees.Name.{Name}
use Rattle.ba_xml_names.proofs.Openings as openings
use Rattle.ba_tree.specs.Namespaces.{xml_space}
use Rattle.ba_xml_names.specs.Namespaces.{is_default, is_prefixed, is_declaration, declaration_of}
use Rattle.ba_xml_names.specs.Namespaces.{declarations, is_lawful, nearest, named, element_name, attribute_name, attribute_with}
use Rattle.ba_xml_names.specs.Namespaces.{attribute_of}
use Rattle.ba_xml_names.specs.Namespaces.{placed_by, placed, put_one, put_in_order, opened, opening_in, opening}
use Rattle.ba_xml_names.specs.declared.levels.Declaration.{Declaration}
use Rattle.ba_xml_names.specs.declared.levels.Opening.{Opening}
use Rattle.ba_xml_words.specs.declared.names.RawAttribute.{RawAttribute}
use Rattle.ba_xml_words.specs.declared.names.RawName.{RawName}
use Rattle.ba_xml_names.specs.declared.tags.Tag.{Tag}
use Rattle.ba_xml_names.specs.Resolution.{IsDefaultDeclaration, IsPrefixDeclaration, DeclaresNothing, Declares, AreDeclarations, IsLawful}
use Rattle.ba_xml_names.specs.Resolution.{AreLawfulDeclarations, prefix_declared, IsUndeclared, IsNearest, IsElementName, IsAttributeName}
use Rattle.ba_xml_names.specs.Resolution.{IsAttribute, AreAttributes, PutAmong, AreInOrder, IsMeaning}

-- ---- tests

both : (a b : Bool) → (a && b) ≡ true → (a ≡ true) × (b ≡ true)
both true b h = (refl, h)
both false b h = absurd (true≢false (sym h))

joined : (a b : Bool) → a ≡ true → b ≡ true → (a && b) ≡ true
joined true b h k = k
joined false b h k = h

same : (x y : List ℕ) → bytes_eq x y ≡ true → x ≡ y
same x y h = (bytes_eq-Decides x y).0 h

is_same : (x y : List ℕ) → x ≡ y → bytes_eq x y ≡ true
is_same x y h = (bytes_eq-Decides x y).1 h

other : (x y : List ℕ) → bytes_eq x y ≡ false → x ≡ y → ⊥
other x y h e = true≢false (sym (is_same x y e) ∙ h)

differs_by : (b : Bool) (x y : List ℕ) → bytes_eq x y ≡ b → (x ≡ y → ⊥) → bytes_eq x y ≡ false
differs_by true x y h n = absurd (n (same x y h))
differs_by false x y h n = h

differs : (x y : List ℕ) → (x ≡ y → ⊥) → bytes_eq x y ≡ false
differs x y n = differs_by (bytes_eq x y) x y refl n

-- ---- declarations

abbrev Kind : RawAttribute → Type 0
Kind a = (Declares a (declaration_of a) × (is_declaration a ≡ true)) ⊎ (DeclaresNothing a × (is_declaration a ≡ false))

default_is : (a : RawAttribute) → is_default a.name ≡ true → IsDefaultDeclaration a
default_is a h =
    let hs : (bytes_eq a.name.prefix [] ≡ true) × (bytes_eq a.name.local (codes "xmlns") ≡ true)
    = both (bytes_eq a.name.prefix []) (bytes_eq a.name.local (codes "xmlns")) h in
    (same a.name.prefix [] hs.0, same a.name.local (codes "xmlns") hs.1)

no_default : (a : RawAttribute) → is_default a.name ≡ false → IsDefaultDeclaration a → ⊥
no_default a h d =
    true≢false (sym (joined (bytes_eq a.name.prefix []) (bytes_eq a.name.local (codes "xmlns")) (is_same a.name.prefix [] d.0)
    (is_same a.name.local (codes "xmlns") d.1)) ∙ h)

kind_by : (a : RawAttribute) (x y : Bool) → is_default a.name ≡ x → is_prefixed a.name ≡ y → Kind a
kind_by a true y e f =
    inl ((refl, inl (default_is a e, ap (λ b. cond b [] a.name.local) e)), ap (λ b. cond b true (is_prefixed a.name)) e)
kind_by a false true e f =
    inl (
      (refl, inr (same a.name.prefix (codes "xmlns") f, ap (λ b. cond b [] a.name.local) e)),
      ap
          (λ b. cond b true (is_prefixed a.name)) e ∙ f,
    )
kind_by a false false e f =
    inr ((no_default a e, other a.name.prefix (codes "xmlns") f), ap (λ b. cond b true (is_prefixed a.name)) e ∙ f)

kind : (a : RawAttribute) → Kind a
kind a = kind_by a (is_default a.name) (is_prefixed a.name) refl refl

no_prefix : (a : RawAttribute) → IsDefaultDeclaration a → IsPrefixDeclaration a → ⊥
no_prefix a d p = clash (sym d.0 ∙ p)
  where
    clash : [] ≡ codes "xmlns" → ⊥
    clash e = cc

as_declaration : (a : RawAttribute) (d : Declaration) → Declares a d → IsDefaultDeclaration a ⊎ IsPrefixDeclaration a
as_declaration a d (s, inl p) = inl p.0
as_declaration a d (s, inr p) = inr p.0

not_nothing : (a : RawAttribute) → IsDefaultDeclaration a ⊎ IsPrefixDeclaration a → DeclaresNothing a → ⊥
not_nothing a (inl d) n = n.0 d
not_nothing a (inr d) n = n.1 d

same_prefix : (a : RawAttribute) (p q : List ℕ) → (IsDefaultDeclaration a × (p ≡ [])) ⊎ (IsPrefixDeclaration a × (p ≡ a.name.local))
    → (IsDefaultDeclaration a × (q ≡ [])) ⊎ (IsPrefixDeclaration a × (q ≡ a.name.local)) → p ≡ q
same_prefix a p q (inl d) (inl e) = d.1 ∙ sym e.1
same_prefix a p q (inl d) (inr e) = absurd (no_prefix a d.0 e.0)
same_prefix a p q (inr d) (inl e) = absurd (no_prefix a e.0 d.0)
same_prefix a p q (inr d) (inr e) = d.1 ∙ sym e.1

same_declaration : (a : RawAttribute) (d e : Declaration) → Declares a d → Declares a e → d ≡ e
same_declaration a d e x y = λ i. record { prefix = same_prefix a d.prefix e.prefix x.1 y.1 i; space = (x.0 ∙ sym y.0) i }

declarations_more : (a : RawAttribute) (more : List RawAttribute) (b : Bool) → is_declaration a ≡ b
    → declarations (a ∷ more) ≡ cond b (declaration_of a ∷ declarations more) (declarations more)
declarations_more a more b e = ap (λ b. cond b (declaration_of a ∷ declarations more) (declarations more)) e

are_declarations : (raws : List RawAttribute) → AreDeclarations raws (declarations raws)
are_declarations [] = refl
are_declarations (a ∷ more) = by (kind a) (are_declarations more)
  where
    by : Kind a → AreDeclarations more (declarations more) → AreDeclarations (a ∷ more) (declarations (a ∷ more))
    by (inl k) ih =
        subst (AreDeclarations (a ∷ more)) (sym (declarations_more a more true k.1))
        (inr (declaration_of a, declarations more, refl, k.0, ih))
    by (inr k) ih = subst (AreDeclarations (a ∷ more)) (sym (declarations_more a more false k.1)) (inl (k.0, ih))

only_declarations : (raws : List RawAttribute) (ds : List Declaration) → AreDeclarations raws ds → ds ≡ declarations raws
only_declarations [] ds h = h
only_declarations (a ∷ more) ds (inl h) = by (kind a) (only_declarations more ds h.1)
  where
    by : Kind a → ds ≡ declarations more → ds ≡ declarations (a ∷ more)
    by (inl k) ih = absurd (not_nothing a (as_declaration a (declaration_of a) k.0) h.0)
    by (inr k) ih = ih ∙ sym (declarations_more a more false k.1)
only_declarations (a ∷ more) ds (inr h) = by (kind a) (only_declarations more h.1 h.4)
  where
    by : Kind a → h.1 ≡ declarations more → ds ≡ declarations (a ∷ more)
    by (inl k) ih =
        h.2 ∙ (λ i. same_declaration a h.0 (declaration_of a) h.3 k.0 i ∷ ih i) ∙ sym (declarations_more a more true k.1)
    by (inr k) ih = absurd (not_nothing a (as_declaration a h.0 h.3) k.0)

-- ---- lawful declarations

-- what is asked of a declaration, by tests: of the prefix whether it is empty, `xmlns` or `xml`, of the namespace whether it
-- is that of `xml` or empty
abbrev law : Bool → Bool → Bool → Bool → Bool → Bool
law empty xmlns xml own none = cond empty true (cond xmlns false (cond xml own (not none && not own)))

abbrev law_of : List ℕ → List ℕ → Bool
law_of p s = law (bytes_eq p []) (bytes_eq p (codes "xmlns")) (bytes_eq p (codes "xml")) (bytes_eq s xml_space) (bytes_eq s [])

not_false : (b : Bool) → b ≡ true → b ≡ false → ⊥
not_false b h n = true≢false (sym h ∙ n)

lawful_is : (d : Declaration) → is_lawful d ≡ true → IsLawful d
lawful_is d h = record {
  other = λ p. true≢false (sym h ∙ ap (λ q. law_of q d.space) p);
  own = λ p. same d.space xml_space (sym (ap (λ q. law_of q d.space) p) ∙ h);
  alone = λ s. alone_by (bytes_eq d.prefix []) (bytes_eq d.prefix (codes "xml")) refl refl (is_same d.space xml_space s);
  some = λ s. some_by (bytes_eq d.prefix []) refl s;
}
  where
    alone_by : (x z : Bool) → bytes_eq d.prefix [] ≡ x → bytes_eq d.prefix (codes "xml") ≡ z → bytes_eq d.space xml_space ≡ true
        → (d.prefix ≡ []) ⊎ (d.prefix ≡ codes "xml")
    alone_by true z e f g = inl (same d.prefix [] e)
    alone_by false true e f g = inr (same d.prefix (codes "xml") f)
    alone_by false false e f g = absurd (clash (bytes_eq d.prefix (codes "xmlns")) (bytes_eq d.space [])
        (sym (λ i. law (e i) (bytes_eq d.prefix (codes "xmlns")) (f i) (g i) (bytes_eq d.space [])) ∙ h))
      where
        clash : (y v : Bool) → law false y false true v ≡ true → ⊥
        clash true v e = true≢false (sym e)
        clash false true e = true≢false (sym e)
        clash false false e = true≢false (sym e)

    some_by : (x : Bool) → bytes_eq d.prefix [] ≡ x → d.space ≡ [] → d.prefix ≡ []
    some_by true e s = same d.prefix [] e
    some_by false e s = absurd (clash (bytes_eq d.prefix (codes "xmlns")) (bytes_eq d.prefix (codes "xml"))
        (sym ((λ i. law (e i) (bytes_eq d.prefix (codes "xmlns")) (bytes_eq d.prefix (codes "xml")) (bytes_eq d.space xml_space)
        (bytes_eq d.space []))
        ∙ ap (λ t. law false (bytes_eq d.prefix (codes "xmlns")) (bytes_eq d.prefix (codes "xml")) (bytes_eq t xml_space)
        (bytes_eq t [])) s) ∙ h))
      where
        clash : (y z : Bool) → law false y z false true ≡ true → ⊥
        clash true z e = true≢false (sym e)
        clash false true e = true≢false (sym e)
        clash false false e = true≢false (sym e)

is_lawful_by : (d : Declaration) → IsLawful d → (x y z u v : Bool) → bytes_eq d.prefix [] ≡ x → bytes_eq d.prefix (codes "xmlns") ≡ y
    → bytes_eq d.prefix (codes "xml") ≡ z → bytes_eq d.space xml_space ≡ u → bytes_eq d.space [] ≡ v → law x y z u v ≡ true
is_lawful_by d l true y z u v e f g h k = refl
is_lawful_by d l false true z u v e f g h k = absurd (l.other (same d.prefix (codes "xmlns") f))
is_lawful_by d l false false true u v e f g h k = sym h ∙ is_same d.space xml_space (l.own (same d.prefix (codes "xml") g))
is_lawful_by d l false false false true v e f g h k = absurd (by (l.alone (same d.space xml_space h)))
  where
    by : (d.prefix ≡ []) ⊎ (d.prefix ≡ codes "xml") → ⊥
    by (inl p) = other d.prefix [] e p
    by (inr p) = other d.prefix (codes "xml") g p
is_lawful_by d l false false false false true e f g h k = absurd (other d.prefix [] e (l.some (same d.space [] k)))
is_lawful_by d l false false false false false e f g h k = refl

is_lawful_so : (d : Declaration) → IsLawful d → is_lawful d ≡ true
is_lawful_so d l =
    is_lawful_by d l (bytes_eq d.prefix []) (bytes_eq d.prefix (codes "xmlns")) (bytes_eq d.prefix (codes "xml"))
    (bytes_eq d.space xml_space) (bytes_eq d.space []) refl refl refl refl refl

are_lawful : (ds : List Declaration) → list_all is_lawful ds ≡ true → AreLawfulDeclarations ds
are_lawful [] h = tt
are_lawful (d ∷ ds) h =
    let hs : (is_lawful d ≡ true) × (list_all is_lawful ds ≡ true) = both (is_lawful d) (list_all is_lawful ds) h in
    (lawful_is d hs.0, are_lawful ds hs.1)

are_lawful_so : (ds : List Declaration) → AreLawfulDeclarations ds → list_all is_lawful ds ≡ true
are_lawful_so [] l = refl
are_lawful_so (d ∷ ds) l = joined (is_lawful d) (list_all is_lawful ds) (is_lawful_so d l.0) (are_lawful_so ds l.1)

-- ---- names

none_some : {X : Type 0} (x : X) → (let o : Option X = None in o) ≡ Some x → ⊥
none_some x e = cc

same_some : {X : Type 0} (x y : X) → Some x ≡ Some y → x ≡ y
same_some x y e = cc

nearest_by : (b : Bool) (d : Declaration) (ds : List Declaration) (p s : List ℕ) → bytes_eq d.prefix p ≡ b
    → cond b (Some d.space) (nearest p ds) ≡ Some s → (nearest p ds ≡ Some s → IsNearest ds p s) → IsNearest (d ∷ ds) p s
nearest_by true d ds p s e h ih = record {
  nearer = [];
  farther = ds;
  parts = λ i. record { prefix = same d.prefix p e i; space = same_some d.space s h i } ∷ ds;
  nearest = tt;
}
nearest_by false d ds p s e h ih =
    let n : IsNearest ds p s = ih h in
    record { nearer = d ∷ n.nearer; farther = n.farther; parts = ap (λ l. d ∷ l) n.parts; nearest = (other d.prefix p e, n.nearest) }

nearest_is : (ds : List Declaration) (p s : List ℕ) → nearest p ds ≡ Some s → IsNearest ds p s
nearest_is [] p s h = absurd (none_some s h)
nearest_is (d ∷ ds) p s h = nearest_by (bytes_eq d.prefix p) d ds p s refl h (nearest_is ds p s)

past : (near far : List Declaration) (p s : List ℕ) → IsUndeclared p near → nearest p (near ++ prefix_declared p s ∷ far) ≡ Some s
past [] far p s n = ap (λ b. cond b (Some s) (nearest p far)) (is_same p p refl)
past (d ∷ near) far p s n =
    ap (λ b. cond b (Some d.space) (nearest p (near ++ prefix_declared p s ∷ far))) (differs d.prefix p n.0) ∙ past near far p s n.1

nearest_so : (ds : List Declaration) (p s : List ℕ) → IsNearest ds p s → nearest p ds ≡ Some s
nearest_so ds p s n = ap (nearest p) n.parts ∙ past n.nearer n.farther p s n.nearest

element_by : (ds : List Declaration) (raw : RawName) (name : Name) (found : Option (List ℕ)) → nearest raw.prefix ds ≡ found
    → option_map (named raw.local) found ≡ Some name → IsElementName ds raw name
element_by ds raw name None e h = absurd (none_some name h)
element_by ds raw name (Some s) e h =
    let one : named raw.local s ≡ name = same_some (named raw.local s) name h in
    (sym (ap (λ n. n.local) one), nearest_is ds raw.prefix name.space (e ∙ ap (λ n. Some n.space) one))

element_is : (ds : List Declaration) (raw : RawName) (name : Name) → element_name ds raw ≡ Some name → IsElementName ds raw name
element_is ds raw name h = element_by ds raw name (nearest raw.prefix ds) refl h

named_so : (raw : RawName) (name : Name) → name.local ≡ raw.local → named raw.local name.space ≡ name
named_so raw name e = λ i. record { space = name.space; local = sym e i }

element_so : (ds : List Declaration) (raw : RawName) (name : Name) → IsElementName ds raw name → element_name ds raw ≡ Some name
element_so ds raw name h =
    ap (option_map (named raw.local)) (nearest_so ds raw.prefix name.space h.1) ∙ ap Some (named_so raw name h.0)

attribute_name_by : (ds : List Declaration) (raw : RawName) (name : Name) (b : Bool) → bytes_eq raw.prefix [] ≡ b
    → cond b (Some (named raw.local [])) (element_name ds raw) ≡ Some name → IsAttributeName ds raw name
attribute_name_by ds raw name true e h =
    let one : named raw.local [] ≡ name = same_some (named raw.local []) name h in
    (sym (ap (λ n. n.local) one), inl (same raw.prefix [] e, sym (ap (λ n. n.space) one)))
attribute_name_by ds raw name false e h =
    let n : IsElementName ds raw name = element_is ds raw name h in (n.0, inr (other raw.prefix [] e, n.1))

attribute_name_so : (ds : List Declaration) (raw : RawName) (name : Name) → IsAttributeName ds raw name → attribute_name ds raw ≡ Some name
attribute_name_so ds raw name (l, inl h) =
    ap (λ b. cond b (Some (named raw.local [])) (element_name ds raw)) (is_same raw.prefix [] h.0)
    ∙ ap Some (λ i. record { space = sym h.1 i; local = sym l i })
attribute_name_so ds raw name (l, inr h) =
    ap (λ b. cond b (Some (named raw.local [])) (element_name ds raw)) (differs raw.prefix [] h.0) ∙ element_so ds raw name (l, h.1)

attribute_by : (ds : List Declaration) (raw : RawAttribute) (a : Attribute) (found : Option Name) → attribute_name ds raw.name ≡ found
    → option_map (attribute_with raw.value) found ≡ Some a → IsAttribute ds raw a
attribute_by ds raw a None e h = absurd (none_some a h)
attribute_by ds raw a (Some name) e h =
    let one : attribute_with raw.value name ≡ a = same_some (attribute_with raw.value name) a h in (
      sym (ap (λ x. x.value) one),
      attribute_name_by ds raw.name a.name (bytes_eq raw.name.prefix []) refl (e ∙ ap (λ x. Some x.name) one),
    )

attribute_is : (ds : List Declaration) (raw : RawAttribute) (a : Attribute) → attribute_of ds raw ≡ Some a → IsAttribute ds raw a
attribute_is ds raw a h = attribute_by ds raw a (attribute_name ds raw.name) refl h

attribute_so : (ds : List Declaration) (raw : RawAttribute) (a : Attribute) → IsAttribute ds raw a → attribute_of ds raw ≡ Some a
attribute_so ds raw a h =
    ap (option_map (attribute_with raw.value)) (attribute_name_so ds raw.name a.name h.1)
    ∙ ap Some (λ i. record { name = a.name; value = sym h.0 i })

-- ---- rising order

names_total : IsTotalOrder name_cmp
names_total = then_total (on_total (λ (n : Name). n.space) nat_list_cmp_total) (on_total (λ (n : Name). n.local) nat_list_cmp_total)

-- the attribute's name is below each of these
abbrev IsBefore : Attribute → List Attribute → Type 0
IsBefore a [] = Unit {0}
IsBefore a (b ∷ more) = (name_cmp a.name b.name ≡ order.Less) × IsBefore a more

-- each name is below all that follow
abbrev Rise : List Attribute → Type 0
Rise [] = Unit {0}
Rise (a ∷ more) = IsBefore a more × Rise more

less_of : (o : Ordering) → is_lt o ≡ true → o ≡ order.Less
less_of order.Less h = refl
less_of order.Equal h = absurd (true≢false (sym h))
less_of order.Greater h = absurd (true≢false (sym h))

before_all : (a b : Attribute) (more : List Attribute) → name_cmp a.name b.name ≡ order.Less → IsBefore b more → IsBefore a more
before_all a b [] e f = tt
before_all a b (c ∷ more) e f = (names_total.trans a.name b.name c.name e f.0, before_all a b more e f.1)

rise_by : (a b : Attribute) (more : List Attribute) → (is_lt (name_cmp a.name b.name) ≡ true) × (rises (b ∷ more) ≡ true)
    → Rise (b ∷ more) → Rise (a ∷ b ∷ more)
rise_by a b more h later =
    let e : name_cmp a.name b.name ≡ order.Less = less_of (name_cmp a.name b.name) h.0 in
    ((e, before_all a b more e later.0), later)

all_rise : (atts : List Attribute) → rises atts ≡ true → Rise atts
all_rise [] h = tt
all_rise (a ∷ []) h = (tt, tt)
all_rise (a ∷ b ∷ more) h =
    let hs : (is_lt (name_cmp a.name b.name) ≡ true) × (rises (b ∷ more) ≡ true)
    = both (is_lt (name_cmp a.name b.name)) (rises (b ∷ more)) h in
    rise_by a b more hs (all_rise (b ∷ more) hs.1)

rises_by : (a : Attribute) (more : List Attribute) → IsBefore a more → Rise more → (rises more ≡ true) → rises (a ∷ more) ≡ true
rises_by a [] b r h = refl
rises_by a (c ∷ more) b r h =
    joined (is_lt (name_cmp a.name c.name)) (rises (c ∷ more)) (ap is_lt b.0) h

rises_so : (atts : List Attribute) → Rise atts → rises atts ≡ true
rises_so [] r = refl
rises_so (a ∷ more) r = rises_by a more r.0 r.1 (rises_so more r.1)

before_put : (f a : Attribute) (first rest : List Attribute) → name_cmp f.name a.name ≡ order.Less → IsBefore f (first ++ rest)
    → IsBefore f (first ++ a ∷ rest)
before_put f a [] rest l b = (l, b)
before_put f a (x ∷ first) rest l b = (b.0, before_put f a first rest l b.1)

before_without : (f a : Attribute) (first rest : List Attribute) → IsBefore f (first ++ a ∷ rest)
    → (name_cmp f.name a.name ≡ order.Less) × IsBefore f (first ++ rest)
before_without f a [] rest b = b
before_without f a (x ∷ first) rest b =
    let later : (name_cmp f.name a.name ≡ order.Less) × IsBefore f (first ++ rest) = before_without f a first rest b.1 in
    (later.0, (b.0, later.1))

rise_without : (a : Attribute) (first rest : List Attribute) → Rise (first ++ a ∷ rest) → Rise (first ++ rest)
rise_without a [] rest r = r.1
rise_without a (f ∷ first) rest r = ((before_without f a first rest r.0).1, rise_without a first rest r.1)

rise_before : (meant rows all : List Attribute) → PutAmong meant rows all → Rise all → Rise rows
rise_before [] rows all p r = subst Rise p r
rise_before (a ∷ meant) rows all p r =
    subst Rise (sym p.2) (rise_without a p.0 p.1 (rise_before meant (p.0 ++ a ∷ p.1) all p.3 r))

greater_back : (a b : Name) → name_cmp a b ≡ order.Greater → name_cmp b a ≡ order.Less
greater_back a b h = by (name_cmp b a) (sym (names_total.antisymm a b) ∙ h)
  where
    by : (o : Ordering) → ordering_reverse o ≡ order.Greater → o ≡ order.Less
    by order.Less e = refl
    by order.Equal e = absurd (cc)
    by order.Greater e = absurd (cc)

less_back : (a b : Name) → name_cmp a b ≡ order.Less → name_cmp b a ≡ order.Greater
less_back a b h = names_total.antisymm b a ∙ ap ordering_reverse h

-- ---- attributes that are put in order

abbrev IsPlaced : Attribute → List Attribute → List Attribute → Type 0
IsPlaced a rows all = (first : List Attribute) × (rest : List Attribute) × (rows ≡ first ++ rest) × (all ≡ first ++ a ∷ rest)

abbrev IsPut : Attribute → List Attribute → List Attribute → Type 0
IsPut a rows all = IsPlaced a rows all × Rise all

no_place : (all : List Attribute) → (let o : Option (List Attribute) = None in o) ≡ Some all → ⊥
no_place all e = cc

put_behind : (a row : Attribute) (rows all : List Attribute) (found : Option (List Attribute)) → name_cmp a.name row.name ≡ order.Greater
    → Rise (row ∷ rows) → ((more : List Attribute) → found ≡ Some more → IsPut a rows more)
    → option_map (λ more. row ∷ more) found ≡ Some all → IsPut a (row ∷ rows) all
put_behind a row rows all None o r ih h = absurd (no_place all h)
put_behind a row rows all (Some more) o r ih h =
    let p : IsPut a rows more = ih more refl in
    let is : row ∷ more ≡ all = same_some (row ∷ more) all h in
    let before : IsBefore row (p.0.0 ++ a ∷ p.0.1) =
    before_put row a p.0.0 p.0.1 (greater_back a.name row.name o) (subst (IsBefore row) p.0.2 r.0) in (
      (row ∷ p.0.0, p.0.1, ap (λ l. row ∷ l) p.0.2, sym is ∙ ap (λ l. row ∷ l) p.0.3),
      subst Rise is (subst (IsBefore row) (sym p.0.3) before, p.1),
    )

put_by : (o : Ordering) (a row : Attribute) (rows all : List Attribute) → name_cmp a.name row.name ≡ o → Rise (row ∷ rows)
    → ((more : List Attribute) → placed a rows ≡ Some more → IsPut a rows more)
    → placed_by o a row rows (placed a rows) ≡ Some all → IsPut a (row ∷ rows) all
put_by order.Less a row rows all e r ih h =
    let is : a ∷ row ∷ rows ≡ all = same_some (a ∷ row ∷ rows) all h in
    (([], row ∷ rows, refl, sym is), subst Rise is ((e, before_all a row rows e r.0), r))
put_by order.Equal a row rows all e r ih h = absurd (no_place all h)
put_by order.Greater a row rows all e r ih h = put_behind a row rows all (placed a rows) e r ih h

put_is : (a : Attribute) (rows all : List Attribute) → Rise rows → placed a rows ≡ Some all → IsPut a rows all
put_is a [] all r h =
    let is : a ∷ [] ≡ all = same_some (a ∷ []) all h in (([], [], refl, sym is), subst Rise is (tt, tt))
put_is a (row ∷ rows) all r h = put_by (name_cmp a.name row.name) a row rows all refl r (λ more. put_is a rows more r.1) h

put_so : (a : Attribute) (first rest : List Attribute) → Rise (first ++ a ∷ rest) → placed a (first ++ rest) ≡ Some (first ++ a ∷ rest)
put_so a [] [] r = refl
put_so a [] (row ∷ rest) r = ap (λ o. placed_by o a row rest (placed a rest)) r.0.0
put_so a (f ∷ first) rest r =
    ap (λ o. placed_by o a f (first ++ rest) (placed a (first ++ rest))) (less_back f.name a.name (before_without f a first rest r.0).0)
    ∙ ap (option_map (λ more. f ∷ more)) (put_so a first rest r.1)

abbrev IsOrdered : List Declaration → List RawAttribute → List Attribute → List Attribute → Type 0
IsOrdered ds raws rows all = (meant : List Attribute) × AreAttributes ds raws meant × PutAmong meant rows all × Rise all

ordered_from : (ds : List Declaration) (raw : RawAttribute) (more : List RawAttribute) (a : Attribute) (rows now all : List Attribute)
    → DeclaresNothing raw → IsAttribute ds raw a → IsPlaced a rows now → IsOrdered ds more now all → IsOrdered ds (raw ∷ more) rows all
ordered_from ds raw more a rows now all n is p o =
    (a ∷ o.0, inr (n, a, o.0, refl, is, o.1), (p.0, p.1, p.2, subst (λ l. PutAmong o.0 l all) p.3 o.2), o.3)

ordered_put : (ds : List Declaration) (raw : RawAttribute) (more : List RawAttribute) (a : Attribute) (rows all : List Attribute)
    (found : Option (List Attribute)) → DeclaresNothing raw → IsAttribute ds raw a
    → ((now : List Attribute) → found ≡ Some now → IsPut a rows now)
    → ((now : List Attribute) → Rise now → put_in_order ds now more ≡ Some all → IsOrdered ds more now all)
    → option_and_then (λ put. put_in_order ds put more) found ≡ Some all → IsOrdered ds (raw ∷ more) rows all
ordered_put ds raw more a rows all None n is put ih h = absurd (no_place all h)
ordered_put ds raw more a rows all (Some now) n is put ih h =
    let p : IsPut a rows now = put now refl in ordered_from ds raw more a rows now all n is p.0 (ih now p.1 h)

ordered_attribute : (ds : List Declaration) (raw : RawAttribute) (more : List RawAttribute) (rows all : List Attribute)
    (found : Option Attribute) → attribute_of ds raw ≡ found → DeclaresNothing raw → Rise rows
    → ((now : List Attribute) → Rise now → put_in_order ds now more ≡ Some all → IsOrdered ds more now all)
    → option_and_then (λ put. put_in_order ds put more) (option_and_then (λ e. placed e rows) found) ≡ Some all
    → IsOrdered ds (raw ∷ more) rows all
ordered_attribute ds raw more rows all None e n r ih h = absurd (no_place all h)
ordered_attribute ds raw more rows all (Some a) e n r ih h =
    ordered_put ds raw more a rows all (placed a rows) n (attribute_is ds raw a e) (λ now. put_is a rows now r) ih h

ordered_by : (ds : List Declaration) (raw : RawAttribute) (more : List RawAttribute) (rows all : List Attribute) → Kind raw → Rise rows
    → ((now : List Attribute) → Rise now → put_in_order ds now more ≡ Some all → IsOrdered ds more now all)
    → put_in_order ds rows (raw ∷ more) ≡ Some all → IsOrdered ds (raw ∷ more) rows all
ordered_by ds raw more rows all (inl k) r ih h =
    let later : put_in_order ds rows more ≡ Some all =
    sym (ap (λ b. cond b (put_in_order ds rows more) (option_and_then (λ put. put_in_order ds put more) (put_one ds rows raw))) k.1) ∙ h in
    let o : IsOrdered ds more rows all = ih rows r later in
    (o.0, inl (as_declaration raw (declaration_of raw) k.0, o.1), o.2, o.3)
ordered_by ds raw more rows all (inr k) r ih h =
    ordered_attribute ds raw more rows all (attribute_of ds raw) refl k.0 r ih
    (sym (ap (λ b. cond b (put_in_order ds rows more) (option_and_then (λ put. put_in_order ds put more) (put_one ds rows raw))) k.1) ∙ h)

ordered_is : (ds : List Declaration) (raws : List RawAttribute) (rows all : List Attribute) → Rise rows
    → put_in_order ds rows raws ≡ Some all
    → IsOrdered ds raws rows all
ordered_is ds [] rows all r h =
    let is : rows ≡ all = same_some rows all h in ([], refl, sym is, subst Rise is r)
ordered_is ds (raw ∷ more) rows all r h = ordered_by ds raw more rows all (kind raw) r (λ now. ordered_is ds more now all) h

-- back

ordered_so : (ds : List Declaration) (raws : List RawAttribute) (meant rows all : List Attribute) → AreAttributes ds raws meant
    → PutAmong meant rows all → Rise all → put_in_order ds rows raws ≡ Some all
ordered_so ds [] meant rows all m p r = ap Some (sym (subst (λ l. PutAmong l rows all) m p))
ordered_so ds (raw ∷ more) meant rows all (inl m) p r = by (kind raw) (ordered_so ds more meant rows all m.1 p r)
  where
    by : Kind raw → put_in_order ds rows more ≡ Some all → put_in_order ds rows (raw ∷ more) ≡ Some all
    by (inl k) ih =
        ap (λ b. cond b (put_in_order ds rows more) (option_and_then (λ put. put_in_order ds put more) (put_one ds rows raw))) k.1 ∙ ih
    by (inr k) ih = absurd (not_nothing raw m.0 k.0)
ordered_so ds (raw ∷ more) meant rows all (inr m) p r =
    by (kind raw) (subst (λ l. PutAmong l rows all) m.3 p) (λ now put. ordered_so ds more m.2 now all m.5 put r)
  where
    by : Kind raw → PutAmong (m.1 ∷ m.2) rows all → ((now : List Attribute) → PutAmong m.2 now all → put_in_order ds now more ≡ Some all)
        → put_in_order ds rows (raw ∷ more) ≡ Some all
    by (inl k) q ih = absurd (not_nothing raw (as_declaration raw (declaration_of raw) k.0) m.0)
    by (inr k) q ih =
        let rise : Rise (q.0 ++ m.1 ∷ q.1) = rise_before m.2 (q.0 ++ m.1 ∷ q.1) all q.3 r in
        ap (λ b. cond b (put_in_order ds rows more) (option_and_then (λ put. put_in_order ds put more) (put_one ds rows raw))) k.1
        ∙ ap (λ f. option_and_then (λ put. put_in_order ds put more) (option_and_then (λ e. placed e rows) f)) (attribute_so ds raw m.1 m.4)
        ∙ ap (λ l. option_and_then (λ put. put_in_order ds put more) (placed m.1 l)) q.2
        ∙ ap (option_and_then (λ put. put_in_order ds put more)) (put_so m.1 q.0 q.1 rise)
        ∙ ih (q.0 ++ m.1 ∷ q.1) q.3

-- ---- a start tag

in_order_of : (ds : List Declaration) (raws : List RawAttribute) (all : List Attribute) → IsOrdered ds raws [] all → AreInOrder ds raws all
in_order_of ds raws all o = record { meant = o.0; are = o.1; put = o.2; rising = rises_so all o.3 }

opened_rows : (ds own : List Declaration) (tag : Tag) (name : Name) (o : Opening) (found : Option (List Attribute))
    → put_in_order ds [] tag.attributes ≡ found → option_map (opened name own) found ≡ Some o
    → (o.name ≡ name) × (o.declarations ≡ own) × AreInOrder ds tag.attributes o.attributes
opened_rows ds own tag name o None e h = absurd (none_some o h)
opened_rows ds own tag name o (Some rows) e h =
    let is : opened name own rows ≡ o = same_some (opened name own rows) o h in
    let whole : put_in_order ds [] tag.attributes ≡ Some o.attributes = e ∙ ap (λ x. Some x.attributes) is in (
      sym (ap (λ x. x.name) is),
      sym (ap (λ x. x.declarations) is),
      in_order_of ds tag.attributes o.attributes (ordered_is ds tag.attributes [] o.attributes tt whole),
    )

opened_name : (ds own : List Declaration) (tag : Tag) (o : Opening) (found : Option Name) → element_name ds tag.name ≡ found
    → option_and_then (λ name. option_map (opened name own) (put_in_order ds [] tag.attributes)) found ≡ Some o
    → IsElementName ds tag.name o.name × (o.declarations ≡ own) × AreInOrder ds tag.attributes o.attributes
opened_name ds own tag o None e h = absurd (none_some o h)
opened_name ds own tag o (Some name) e h =
    let rows = opened_rows ds own tag name o (put_in_order ds [] tag.attributes) refl h in
    (element_is ds tag.name o.name (e ∙ ap Some (sym rows.0)), rows.1, rows.2)

by_lawful : (around : List Declaration) (tag : Tag) (o : Opening) (b : Bool) → list_all is_lawful (declarations tag.attributes) ≡ b
    → opening around tag ≡ Some o → IsMeaning around tag o
by_lawful around tag o false e h = absurd (none_some o (sym (openings.unlawful around tag e) ∙ h))
by_lawful around tag o true e h =
    let own : List Declaration = declarations tag.attributes in
    let in_scope
    = opened_name (own ++ around) own tag o (element_name (own ++ around) tag.name) refl (sym (openings.lawful around tag e) ∙ h) in
    record {
      declarations = subst (AreDeclarations tag.attributes) (sym in_scope.1) (are_declarations tag.attributes);
      lawful = subst AreLawfulDeclarations (sym in_scope.1) (are_lawful own e);
      name = subst (λ ds. IsElementName (ds ++ around) tag.name o.name) (sym in_scope.1) in_scope.0;
      attributes = subst (λ ds. AreInOrder (ds ++ around) tag.attributes o.attributes) (sym in_scope.1) in_scope.2;
    }

pub by_rule : (around : List Declaration) (tag : Tag) (o : Opening) → opening around tag ≡ Some o → IsMeaning around tag o
by_rule around tag o h = by_lawful around tag o (list_all is_lawful (declarations tag.attributes)) refl h

opening_so : (ds own : List Declaration) (tag : Tag) (o : Opening) → o.declarations ≡ own → IsElementName ds tag.name o.name
    → AreInOrder ds tag.attributes o.attributes → opening_in ds own tag ≡ Some o
opening_so ds own tag o d n a =
    ap (option_and_then (λ name. option_map (opened name own) (put_in_order ds [] tag.attributes))) (element_so ds tag.name o.name n)
    ∙ ap (option_map (opened o.name own))
    (ordered_so ds tag.attributes a.meant [] o.attributes a.are a.put (all_rise o.attributes a.rising))
    ∙ ap Some (λ i. record { name = o.name; attributes = o.attributes; declarations = sym d i })

pub only_rule : (around : List Declaration) (tag : Tag) (o : Opening) → IsMeaning around tag o → opening around tag ≡ Some o
only_rule around tag o m =
    let own : o.declarations ≡ declarations tag.attributes = only_declarations tag.attributes o.declarations m.declarations in
    openings.lawful around tag (are_lawful_so (declarations tag.attributes) (subst AreLawfulDeclarations own m.lawful))
    ∙ opening_so (declarations tag.attributes ++ around) (declarations tag.attributes) tag o own
    (subst (λ ds. IsElementName (ds ++ around) tag.name o.name) own m.name)
    (subst (λ ds. AreInOrder (ds ++ around) tag.attributes o.attributes) own m.attributes)

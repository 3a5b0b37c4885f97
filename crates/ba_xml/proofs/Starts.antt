-- What the start tags of the one text mean.
use Rattle.ba_tree.specs.Trees.{name_cmp}
use Rattle.std.proofs.Common.{◌≡◌, ℕ, Bool, true, false, cond, ◌&&◌, ◌||◌, ◌==◌, Option, Some, None, List, [], ◌∷◌, ◌++◌, map, nat_eq}
use Rattle.std.proofs.Common.{codes, refl, sym, ap, ◌∙◌, append_assoc, append-nil}
use Rattle.std.proofs.lemmas.Bool.{eqb-true}
use Rattle.std.proofs.lemmas.Slice.Eq.{bytes_eq-Decides}
use Rattle.std.specs.Char.{encode_utf8}
use Rattle.std.specs.List.{list_all}
use Rattle.std.specs.Option.{option_map, option_and_then}
use Rattle.std.specs.Ordering.{ordering_reverse}
use Rattle.std.specs.Str.{bytes_eq}
use Rattle.std.specs.declared.cmp.Ordering.TheVariants as order
use Rattle.ba_tree.specs.declared.trees.Name.{Name}
use Rattle.ba_tree.specs.declared.trees.Attribute.{Attribute}
use Rattle.ba_xml_names.proofs.Openings.{lawful}
use Rattle.ba_xml_grammar.specs.Grammar.{Pair, value_of, attribute, tag}
use Rattle.ba_xml_names.specs.Namespaces.{is_declaration, declaration_of, declarations, is_lawful, nearest, named, element_name}
use Rattle.ba_xml_names.specs.Namespaces.{attribute_name, attribute_of, attribute_with, placed, placed_by, put_one, put_in_order, opened}
use Rattle.ba_xml_names.specs.Namespaces.{opening_in, opening}
use Rattle.ba_xml_names.specs.declared.levels.Declaration as reader
use Rattle.ba_xml_words.specs.declared.names.RawAttribute.{RawAttribute}
use Rattle.ba_xml_writer.specs.Namespaces.{Declaration}
use Rattle.ba_xml_writer.specs.Resolving.{prefix_of}
use Rattle.ba_xml.proofs.Fine.{IsFineName, IsFineAttribute, AreFine, IsBefore, Rise, IsFineTag}
use Rattle.ba_xml.proofs.Prefixes.{IsGood, names_total}
use Rattle.ba_xml.proofs.Spelling.{value_spelling, in_value, one_value, value_pieces, or_none, raw, pair, attribute_pairs, declared_pairs}
use Rattle.ba_xml.proofs.Spelling.{start}
use Rattle.ba_xml.proofs.Conditions.{second_false}

-- ---- values

value_byte_meant : (b : ℕ) (bs : List ℕ) → value_of (one_value (in_value b) b (value_pieces bs)) ≡ b ∷ value_of (value_pieces bs)
unfolding encode_utf8
value_byte_meant b bs = by (nat_eq b 38) (nat_eq b 60) (nat_eq b 62) (nat_eq b 13) (nat_eq b 34) (nat_eq b 9) (nat_eq b 10) refl refl refl
    refl refl refl refl
  where
    put : (n : ℕ) → nat_eq b n ≡ true → n ∷ value_of (value_pieces bs) ≡ b ∷ value_of (value_pieces bs)
    put n e = ap (λ x. x ∷ value_of (value_pieces bs)) (sym (eqb-true b n e))

    plain : (s : Bool) → (b == 32) ≡ s → (b == 9) ≡ false → (b == 10) ≡ false → cond ((s || b == 9) || b == 10) 32 b ≡ b
    plain true e f g = sym (eqb-true b 32 e)
    plain false e f g = ap (λ x. cond (x || b == 10) 32 b) f ∙ ap (λ x. cond x 32 b) g

    by : (a l g r q t f : Bool) → nat_eq b 38 ≡ a → nat_eq b 60 ≡ l → nat_eq b 62 ≡ g → nat_eq b 13 ≡ r → nat_eq b 34 ≡ q → nat_eq b 9 ≡ t
        → nat_eq b 10 ≡ f
        → value_of (one_value (value_spelling a l g r q t f) b (value_pieces bs))
        ≡ b ∷ value_of (value_pieces bs)
    by true l g r q t f x1 x2 x3 x4 x5 x6 x7 = put 38 x1
    by false true g r q t f x1 x2 x3 x4 x5 x6 x7 = put 60 x2
    by false false true r q t f x1 x2 x3 x4 x5 x6 x7 = put 62 x3
    by false false false true q t f x1 x2 x3 x4 x5 x6 x7 = put 13 x4
    by false false false false true t f x1 x2 x3 x4 x5 x6 x7 = put 34 x5
    by false false false false false true f x1 x2 x3 x4 x5 x6 x7 = put 9 x6
    by false false false false false false true x1 x2 x3 x4 x5 x6 x7 = put 10 x7
    by false false false false false false false x1 x2 x3 x4 x5 x6 x7 =
        ap (λ x. x ∷ value_of (value_pieces bs)) (plain (b == 32) refl x6 x7)

value_meant : (value : List ℕ) → value_of (value_pieces value) ≡ value
value_meant [] = refl
value_meant (b ∷ bs) = value_byte_meant b bs ∙ ap (λ l. b ∷ l) (value_meant bs)

-- ---- the declarations of a tag

-- a declaration as a reader has it
abbrev pub as_read : Declaration → reader.Declaration
as_read d = record { prefix = d.prefix; space = d.space }

all_declared : (own : List Declaration) (others : List Pair)
    → declarations (map attribute (declared_pairs own others)) ≡ map as_read own ++ declarations (map attribute others)
all_declared [] others = refl
all_declared (d ∷ own) others =
    (λ i. record { prefix = d.prefix; space = value_meant d.space i } ∷ all_declared own others i)

not_put : (read : List reader.Declaration) (rows : List Attribute) (own : List Declaration) (others : List Pair)
    → put_in_order read rows (map attribute (declared_pairs own others)) ≡ put_in_order read rows (map attribute others)
not_put read rows [] others = refl
not_put read rows (d ∷ own) others = not_put read rows own others

-- ---- rising order

-- each of these is below the name
abbrev AreBelow : List Attribute → Attribute → Type 0
AreBelow [] a = Unit {0}
AreBelow (r ∷ rows) a = (name_cmp r.name a.name ≡ order.Less) × AreBelow rows a

abbrev AreUnder : List Attribute → List Attribute → Type 0
AreUnder rows [] = Unit {0}
AreUnder rows (a ∷ more) = AreBelow rows a × AreUnder rows more

below_last : (rows : List Attribute) (r a : Attribute) → AreBelow rows a → name_cmp r.name a.name ≡ order.Less → AreBelow (rows ++ r ∷ []) a
below_last [] r a b e = (e, tt)
below_last (x ∷ rows) r a b e = (b.0, below_last rows r a b.1 e)

under_last : (rows : List Attribute) (r : Attribute) (more : List Attribute) → AreUnder rows more → IsBefore r more
    → AreUnder (rows ++ r ∷ []) more
under_last rows r [] u b = tt
under_last rows r (a ∷ more) u b = (below_last rows r a u.0 b.0, under_last rows r more u.1 b.1)

none_under : (more : List Attribute) → AreUnder [] more
none_under [] = tt
none_under (a ∷ more) = (tt, none_under more)

placed_last : (a : Attribute) (rows : List Attribute) → AreBelow rows a → placed a rows ≡ Some (rows ++ a ∷ [])
placed_last a [] b = refl
placed_last a (r ∷ rows) b =
    ap (λ o. placed_by o a r rows (placed a rows)) (names_total.antisymm a.name r.name ∙ ap ordering_reverse b.0)
    ∙ ap (option_map (λ more. r ∷ more)) (placed_last a rows b.1)

-- ---- the attributes and the name of a tag

module _ (ds : List Declaration) (read : List reader.Declaration) (good : (space : List ℕ)
    → IsGood (prefix_of ds space)) (bare : nearest [] read ≡ Some []) where
  -- a name without a prefix is in no namespace
  no_space : (space : List ℕ) → nearest [] read ≡ Some space → space ≡ []
  no_space space e = cc (bare, e)

  none_declares : (prefix : Option (List ℕ)) (space local : List ℕ) → IsGood prefix → nearest (or_none prefix) read ≡ Some space
      → (bytes_eq space [] && bytes_eq local (codes "xmlns")) ≡ false
      → cond (bytes_eq (or_none prefix) [] && bytes_eq local (codes "xmlns")) true (bytes_eq (or_none prefix) (codes "xmlns")) ≡ false
  none_declares None space local g x h =
      ap (λ b. cond b true false) (second_false (bytes_eq space []) (bytes_eq local (codes "xmlns"))
      ((bytes_eq-Decides space []).1 (no_space space x)) h)
  none_declares (Some []) space local g x h = absurd g.0
  none_declares (Some (b ∷ bs)) space local g x h = g.1

  no_declaration : (a : Attribute) → IsFineAttribute ds read a → is_declaration (attribute (pair (raw ds a.name) a.value)) ≡ false
  no_declaration a f = none_declares (prefix_of ds a.name.space) a.name.space a.name.local (good a.name.space) f.0.1 f.1

  none_declared : (atts : List Attribute) → AreFine ds read atts → declarations (map attribute (attribute_pairs ds atts)) ≡ []
  none_declared [] f = refl
  none_declared (a ∷ more) f =
      ap (λ b. cond b (declaration_of (attribute (pair (raw ds a.name) a.value)) ∷ declarations (map attribute (attribute_pairs ds more)))
      (declarations (map attribute (attribute_pairs ds more))))
      (no_declaration a f.0)
      ∙ none_declared more f.1

  attribute_named : (prefix : Option (List ℕ)) (name : Name) → IsGood prefix → nearest (or_none prefix) read ≡ Some name.space
      → attribute_name read (record { prefix = or_none prefix; local = name.local }) ≡ Some name
  attribute_named None name g x = ap (λ space. Some (named name.local space)) (sym (no_space name.space x))
  attribute_named (Some []) name g x = absurd g.0
  attribute_named (Some (b ∷ bs)) name g x = ap (option_map (named name.local)) x

  attribute_meant : (a : Attribute) → IsFineAttribute ds read a → attribute_of read (attribute (pair (raw ds a.name) a.value)) ≡ Some a
  attribute_meant a f =
      ap (option_map (attribute_with (value_of (value_pieces a.value))))
      (attribute_named (prefix_of ds a.name.space) a.name (good a.name.space) f.0.1)
      ∙ ap (λ value. Some (attribute_with value a.name)) (value_meant a.value)

  attributes_meant : (rows more : List Attribute) → AreFine ds read more → Rise more → AreUnder rows more
      → put_in_order read rows (map attribute (attribute_pairs ds more)) ≡ Some (rows ++ more)
  attributes_meant rows [] f r u = ap Some (sym (append-nil rows))
  attributes_meant rows (a ∷ more) f r u =
      ap (λ b. cond b (put_in_order read rows later)
      (option_and_then (λ put. put_in_order read put later) (put_one read rows (attribute (pair (raw ds a.name) a.value)))))
      (no_declaration a f.0)
      ∙ ap (λ o. option_and_then (λ put. put_in_order read put later) (option_and_then (λ e. placed e rows) o)) (attribute_meant a f.0)
      ∙ ap (option_and_then (λ put. put_in_order read put later)) (placed_last a rows u.0)
      ∙ attributes_meant (rows ++ a ∷ []) more f.1 r.1 (under_last rows a more u.1 r.0)
      ∙ ap Some (append_assoc rows (a ∷ []) more)
    where
      later : List RawAttribute
      later = map attribute (attribute_pairs ds more)

  name_meant : (name : Name) → IsFineName ds read name → element_name read (raw ds name) ≡ Some name
  name_meant name f = ap (option_map (named name.local)) f.1

  -- ---- a start tag

  pub start_meant : (own : List Declaration) (outside : List reader.Declaration) (name : Name) (atts : List Attribute)
      → map as_read own ++ outside ≡ read → list_all is_lawful (map as_read own) ≡ true
      → IsFineTag ds read name atts → opening outside (tag (start ds own name atts)) ≡ Some (opened name (map as_read own) atts)
  start_meant own outside name atts all law f =
      lawful outside (tag (start ds own name atts)) (ap (list_all is_lawful) declared ∙ law)
      ∙ ap (λ d. opening_in (d ++ outside) d (tag (start ds own name atts))) declared
      ∙ ap (λ d. opening_in d (map as_read own) (tag (start ds own name atts))) all
      ∙ ap (option_and_then (λ n. option_map (opened n (map as_read own))
      (put_in_order read [] (map attribute (declared_pairs own (attribute_pairs ds atts)))))) (name_meant name f.0)
      ∙ ap (option_map (opened name (map as_read own)))
      (not_put read [] own (attribute_pairs ds atts) ∙ attributes_meant [] atts f.1 f.2 (none_under atts))
    where
      declared : declarations (map attribute (declared_pairs own (attribute_pairs ds atts))) ≡ map as_read own
      declared = all_declared own (attribute_pairs ds atts) ∙ ap (λ l. map as_read own ++ l) (none_declared atts f.1)
          ∙ append-nil (map as_read own)

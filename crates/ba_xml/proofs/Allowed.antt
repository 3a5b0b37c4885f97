-- The pieces of the one text may stand where they do.
use Rattle.std.proofs.Common.{◌≡◌, ℕ, ◌+◌, Bool, true, false, not, ◌==◌, Option, Some, None, inl, List, [], ◌∷◌, ◌++◌, nat_eq, codes, refl}
use Rattle.std.proofs.Common.{sym, ap, ◌∙◌, true≢false}
use Rattle.std.proofs.lemmas.Slice.Eq.{bytes_eq-Decides}
use Rattle.std.specs.List.{list_any}
use Rattle.std.specs.Str.{bytes_eq}
use Rattle.ba_tree.specs.declared.trees.Name.{Name}
use Rattle.ba_tree.specs.declared.trees.Attribute.{Attribute}
use Rattle.ba_tree.specs.declared.trees.Content.{Content, Text, Child', Row_of-Content, end_of-Content, more_of-Content}
use Rattle.ba_xml_grammar.specs.Grammar.{Pieces, nothing, Pair, attribute, IsValue, IsNew, IsPair, ArePairs, IsStart, row, Allowed}
use Rattle.ba_xml_grammar.specs.GrammarWords.{Each, IsFront, IsName, IsPrefix, is_character}
use Rattle.ba_xml_names.specs.declared.levels.Declaration as reader
use Rattle.ba_xml_words.specs.declared.names.RawName.{RawName}
use Rattle.ba_xml_words.specs.declared.names.RawAttribute.{RawAttribute}
use Rattle.ba_xml_writer.specs.Namespaces.{Declaration}
use Rattle.ba_xml_writer.specs.OneText.{is_end}
use Rattle.ba_xml_writer.specs.Resolving.{prefix_of, prefixes_differ}
use Rattle.ba_xml.proofs.Fine.{IsExplained, IsFineName, AreFine, IsBefore, Rise, IsFineTag, IsFine, IsFineRow}
use Rattle.ba_xml.proofs.LegalTexts.{is_text_byte, text_bytes}
use Rattle.ba_xml.proofs.Prefixes.{IsGood, AreDeclarable, names_differ}
use Rattle.ba_xml.proofs.Spelling.{text_spelling, value_spelling, in_text, in_value, one_piece, one_value, text_pieces, value_pieces}
use Rattle.ba_xml.proofs.Spelling.{or_none, raw, declared_name, pair, attribute_pairs, declared_pairs, start, element_pieces, item_pieces}
use Rattle.ba_xml.proofs.Spelling.{row_pieces}
use Rattle.ba_xml.proofs.Conditions.{both, not_true, or_false, or_first}

-- ---- texts: ">" is never written as itself

abbrev is_below : ℕ → Bool
is_below c = not (c == 62)

-- no ">" among the characters that stand in a row
abbrev pub NoGreater : Pieces → Type 0
NoGreater p = Each is_below (row p)

third_is : List ℕ → Bool
third_is [] = false
third_is (a ∷ []) = false
third_is (a ∷ b ∷ []) = false
third_is (a ∷ b ∷ c ∷ more) = c == 62

third_free : (b : ℕ) (more : List ℕ) → Each is_below more → third_is (b ∷ more) ≡ false
unfolding third_is
third_free b [] e = refl
third_free b (x ∷ []) e = refl
third_free b (x ∷ y ∷ more) e = not_true (y == 62) e.1.0

no_front : (b : ℕ) (more : List ℕ) → Each is_below more → IsFront (93 ∷ 93 ∷ 62 ∷ []) (b ∷ more) → ⊥
unfolding third_is
no_front b more e f = true≢false (sym (ap third_is f.1) ∙ third_free b more e)

abbrev Stands : Pieces → Type 0
Stands p = Allowed p × NoGreater p

byte_allowed : (b : ℕ) (p : Pieces) → is_text_byte b ≡ true → Stands p → Stands (one_piece (in_text b) b p)
byte_allowed b p h s = by (nat_eq b 38) (nat_eq b 60) (nat_eq b 62) (nat_eq b 13) refl refl refl refl
  where
    by : (a l g r : Bool) → nat_eq b 38 ≡ a → nat_eq b 60 ≡ l → nat_eq b 62 ≡ g → nat_eq b 13 ≡ r
        → Stands (one_piece (text_spelling a l g r) b p)
    by true l g r d e f k = ((tt, s.0), tt)
    by false true g r d e f k = ((tt, s.0), tt)
    by false false true r d e f k = ((tt, s.0), tt)
    by false false false true d e f k = (((tt, (refl, (refl, tt)), refl), s.0), tt)
    by false false false false d e f k = (((or_first (is_character b) (b == 13) h k, e, d, no_front b (row p) s.1), s.0), (ap not f, s.1))

text_allowed : (t : List ℕ) (p : Pieces) → Each is_text_byte t → Stands p → Stands (text_pieces t p)
text_allowed [] p e s = s
text_allowed (b ∷ bs) p e s = byte_allowed b (text_pieces bs p) e.0 (text_allowed bs p e.1 s)

-- ---- values

value_byte_allowed : (b : ℕ) (bs : List ℕ) → is_text_byte b ≡ true → IsValue 34 (value_pieces bs)
    → IsValue 34 (one_value (in_value b) b (value_pieces bs))
value_byte_allowed b bs h v = by (nat_eq b 38) (nat_eq b 60) (nat_eq b 62) (nat_eq b 13) (nat_eq b 34) (nat_eq b 9) (nat_eq b 10)
    refl refl refl refl
  where
    by : (a l g r q t f : Bool) → nat_eq b 38 ≡ a → nat_eq b 60 ≡ l → nat_eq b 13 ≡ r → nat_eq b 34 ≡ q
        → IsValue 34 (one_value (value_spelling a l g r q t f) b (value_pieces bs))
    by true l g r q t f d e k m = (tt, v)
    by false true g r q t f d e k m = (tt, v)
    by false false true r q t f d e k m = (tt, v)
    by false false false true q t f d e k m = ((tt, (refl, (refl, tt)), refl), v)
    by false false false false true t f d e k m = (tt, v)
    by false false false false false true f d e k m = ((tt, (refl, tt), refl), v)
    by false false false false false false true d e k m = ((tt, (refl, (refl, tt)), refl), v)
    by false false false false false false false d e k m = (or_first (is_character b) (b == 13) h k, e, d, m, v)

value_allowed : (value : List ℕ) → Each is_text_byte value → IsValue 34 (value_pieces value)
value_allowed [] e = tt
value_allowed (b ∷ bs) e = value_byte_allowed b bs e.0 (value_allowed bs e.1)

-- ---- names

prefix_allowed : (prefix : Option (List ℕ)) → IsGood prefix → IsPrefix (or_none prefix)
prefix_allowed None g = tt
prefix_allowed (Some []) g = absurd g.0
prefix_allowed (Some (b ∷ bs)) g = g.0

new_last : (name : RawName) (before : List RawAttribute) (a : RawAttribute) → IsNew name before → (name ≡ a.name → ⊥)
    → IsNew name (before ++ a ∷ [])
new_last name [] a n d = (d, tt)
new_last name (b ∷ before) a n d = (n.0, new_last name before a n.1 d)

pair_allowed : (before : List RawAttribute) (name : RawName) (value : List ℕ) → IsName name → IsNew name before → Each is_text_byte value
    → IsPair before (pair name value)
pair_allowed before name value n w e = ((tt, (refl, tt)), n, w, tt, tt, inl refl, value_allowed value e)

-- ---- the declarations of a tag

-- none of these stands before
abbrev AreNew : List RawAttribute → List Declaration → Type 0
AreNew before [] = Unit {0}
AreNew before (d ∷ own) = IsNew (declared_name d) before × AreNew before own

-- each of these is a declaration
abbrev AreDeclared : List RawAttribute → Type 0
AreDeclared [] = Unit {0}
AreDeclared (a ∷ before) = (a.name.prefix ≡ codes "xmlns") × AreDeclared before

declared_last : (before : List RawAttribute) (a : RawAttribute) → AreDeclared before → a.name.prefix ≡ codes "xmlns"
    → AreDeclared (before ++ a ∷ [])
declared_last [] a d e = (e, tt)
declared_last (b ∷ before) a d e = (d.0, declared_last before a d.1 e)

others_new : (before : List RawAttribute) (d : Declaration) (own : List Declaration) → AreNew before own
    → list_any (λ e. bytes_eq d.prefix e.prefix) own ≡ false
    → AreNew (before ++ attribute (pair (declared_name d) d.space) ∷ []) own
others_new before d [] n h = tt
others_new before d (e ∷ own) n h =
    let hs : (bytes_eq d.prefix e.prefix ≡ false) × (list_any (λ e. bytes_eq d.prefix e.prefix) own ≡ false) =
    or_false (bytes_eq d.prefix e.prefix) (list_any (λ e. bytes_eq d.prefix e.prefix) own) h in (
      new_last (declared_name e) before (attribute (pair (declared_name d) d.space)) n.0
          (λ same. true≢false (sym ((bytes_eq-Decides d.prefix e.prefix).1 (sym (ap (λ r. r.local) same))) ∙ hs.0)),
      others_new before d own n.1 hs.1,
    )

declared_allowed : (own : List Declaration) (before : List RawAttribute) (others : List Pair) → AreDeclarable own
    → prefixes_differ own ≡ true → AreNew before own → AreDeclared before
    → ((all : List RawAttribute) → AreDeclared all → ArePairs all others) → ArePairs before (declared_pairs own others)
declared_allowed [] before others f d n b then' = then' before b
declared_allowed (d ∷ own) before others f h n b then' =
    let hs : (not (list_any (λ e. bytes_eq d.prefix e.prefix) own) ≡ true)
    × (prefixes_differ own ≡ true) = both (not (list_any (λ e. bytes_eq d.prefix e.prefix) own)) (prefixes_differ own) h in
    let now : RawAttribute = attribute (pair (declared_name d) d.space) in (
      pair_allowed before (declared_name d) d.space ((refl, (refl, (refl, (refl, (refl, tt))))), f.0.0) n.0 (text_bytes d.space f.0.2),
      declared_allowed own (before ++ now ∷ []) others f.1 hs.1
          (others_new before d own n.1 (not_true (list_any (λ e. bytes_eq d.prefix e.prefix) own) hs.0))
          (declared_last before now b refl) then',
    )

none_new : (own : List Declaration) → AreNew [] own
none_new [] = tt
none_new (d ∷ own) = (tt, none_new own)

-- ---- the attributes of a tag

module _ (ds : List Declaration) (read : List reader.Declaration) (good : (space : List ℕ) → IsGood (prefix_of ds space)) where
  name_allowed : (name : Name) → IsFineName ds read name → IsName (raw ds name)
  name_allowed name f = (prefix_allowed (prefix_of ds name.space) (good name.space), f.0)

  -- the raw names of these stand nowhere before
  abbrev AllNew : List RawAttribute → List Attribute → Type 0
  AllNew before [] = Unit {0}
  AllNew before (a ∷ more) = IsNew (raw ds a.name) before × AllNew before more

  not_declared : (prefix : Option (List ℕ)) → IsGood prefix → or_none prefix ≡ codes "xmlns" → ⊥
  not_declared None g e = no e
    where
      no : [] ≡ codes "xmlns" → ⊥
      no e = cc
  not_declared (Some p) g e = true≢false (sym ((bytes_eq-Decides p (codes "xmlns")).1 e) ∙ g.1)

  behind_declared : (name : Name) (before : List RawAttribute) → AreDeclared before → IsNew (raw ds name) before
  behind_declared name [] d = tt
  behind_declared name (b ∷ before) d = (
    (λ e. not_declared (prefix_of ds name.space) (good name.space) (ap (λ r. r.prefix) e ∙ d.0)),
    behind_declared name before d.1,
  )

  all_behind : (before : List RawAttribute) (atts : List Attribute) → AreDeclared before → AllNew before atts
  all_behind before [] d = tt
  all_behind before (a ∷ more) d = (behind_declared a.name before d, all_behind before more d)

  later_new : (before : List RawAttribute) (a : Attribute) (more : List Attribute) → IsExplained ds read a.name.space → AreFine ds read more
      → IsBefore a more → AllNew before more
      → AllNew (before ++ attribute (pair (raw ds a.name) a.value) ∷ []) more
  later_new before a [] x f b n = tt
  later_new before a (c ∷ more) x f b n = (
    new_last (raw ds c.name) before (attribute (pair (raw ds a.name) a.value)) n.0 (names_differ ds read a.name c.name x f.0.0.1 b.0),
    later_new before a more x f.1 b.1 n.1,
  )

  attributes_allowed : (before : List RawAttribute) (atts : List Attribute) → AreFine ds read atts → Rise atts → AllNew before atts
      → ArePairs before (attribute_pairs ds atts)
  attributes_allowed before [] f r n = tt
  attributes_allowed before (a ∷ more) f r n = (
    pair_allowed before (raw ds a.name) a.value (name_allowed a.name f.0.0) n.0 (text_bytes a.value f.0.2),
    attributes_allowed (before ++ attribute (pair (raw ds a.name) a.value) ∷ []) more f.1 r.1 (later_new before a more f.0.0.1 f.1 r.0 n.1),
  )

  start_allowed : (own : List Declaration) (name : Name) (atts : List Attribute) → AreDeclarable own → prefixes_differ own ≡ true
      → IsFineTag ds read name atts → IsStart (start ds own name atts)
  start_allowed own name atts d p f = (
    name_allowed name f.0,
    declared_allowed own [] (attribute_pairs ds atts) d p (none_new own) tt
        (λ all are. attributes_allowed all atts f.1 f.2 (all_behind all atts are)),
    tt,
  )

  -- ---- elements

  pub element_allowed : (own : List Declaration) (name : Name) (atts : List Attribute) (none : Bool) (inside p : Pieces) → AreDeclarable own
      → prefixes_differ own ≡ true → IsFineTag ds read name atts
      → Allowed inside → Allowed p → Allowed (element_pieces (start ds own name atts) none inside p)
  element_allowed own name atts true inside p d e f i a = (start_allowed own name atts d e f, a)
  element_allowed own name atts false inside p d e f i a = (start_allowed own name atts d e f, i, tt, a)

  row_of_element : (s : _) (none : Bool) (inside p : Pieces) → NoGreater (element_pieces s none inside p)
  row_of_element s true inside p = tt
  row_of_element s false inside p = tt

  mutual
    item_allowed : (level : ℕ) (c : Content) (p : Pieces) → IsFine ds read level c → Stands p → Stands (item_pieces ds c p)
    item_allowed level (Text t) p f s = text_allowed t p (text_bytes t f.1) s
    item_allowed level (Child' name atts shape row) p f s = (
      element_allowed [] name atts (is_end row) (row_pieces ds row nothing) p tt refl f.0 (row_allowed (level + 1) row f.3).0 s.0,
      row_of_element (start ds [] name atts) (is_end row) (row_pieces ds row nothing) p,
    )

    pub row_allowed : {m : _} (level : ℕ) (row : Row_of-Content m) → IsFineRow ds read level row → Stands (row_pieces ds row nothing)
    row_allowed level end_of-Content f = (tt, tt)
    row_allowed level (more_of-Content c row) f = item_allowed level c (row_pieces ds row nothing) f.0 (row_allowed level row f.2)

-- The pieces of a tree are written as its one text.
use Rattle.std.proofs.Common.{◌≡◌, ℕ, Bool, true, false, Option, Some, None, List, [], ◌∷◌, ◌++◌, nat_eq, codes, refl, sym, ap, ◌∙◌}
use Rattle.ba_tree.specs.declared.trees.Name.{Name}
use Rattle.ba_tree.specs.declared.trees.Attribute.{Attribute}
use Rattle.ba_tree.specs.declared.trees.Content.{Content, Text, Child', Row_of-Content, end_of-Content, more_of-Content}
use Rattle.ba_xml_grammar.specs.Grammar.{Pair, Pieces, nothing, written_value, written_pairs, written_start, written_end, written}
use Rattle.ba_xml_grammar.specs.GrammarWords.{written_name}
use Rattle.ba_xml_writer.proofs.Resolved.{spelled_by}
use Rattle.ba_xml_writer.specs.Namespaces.{Declaration}
use Rattle.ba_xml_writer.specs.OneText.{text_escapes, value_escapes, spelled, escaped, qualified, valued, declaration_texts, attributes}
use Rattle.ba_xml_writer.specs.OneText.{element}
use Rattle.ba_xml_writer.specs.OneText.{is_end, item, row_items}
use Rattle.ba_xml_writer.specs.Resolving.{prefix_of, before_colon}
use Rattle.ba_xml.proofs.Prefixes.{IsGood}
use Rattle.ba_xml.proofs.Spelling.{text_spelling, value_spelling, text_spelled, value_spelled, in_text, in_value, one_piece, one_value}
use Rattle.ba_xml.proofs.Spelling.{text_pieces, value_pieces, or_none, raw, attribute_pairs, declared_pairs, start, element_pieces}
use Rattle.ba_xml.proofs.Spelling.{item_pieces, row_pieces}

byte_written : (b : ℕ) (p : Pieces) (rest : List ℕ) → written (one_piece (in_text b) b p) rest ≡ spelled text_escapes b (written p rest)
byte_written b p rest = by (nat_eq b 38) (nat_eq b 60) (nat_eq b 62) (nat_eq b 13)
  where
    by : (a l g r : Bool) → written (one_piece (text_spelling a l g r) b p) rest
        ≡ text_spelled a l g r b (written p rest)
    by true l g r = refl
    by false true g r = refl
    by false false true r = refl
    by false false false true = refl
    by false false false false = refl

text_written : (t : List ℕ) (p : Pieces) (rest : List ℕ) → written (text_pieces t p) rest ≡ escaped text_escapes t (written p rest)
text_written [] p rest = refl
text_written (b ∷ bs) p rest = byte_written b (text_pieces bs p) rest ∙ ap (spelled text_escapes b) (text_written bs p rest)

value_byte_written : (b : ℕ) (bs rest : List ℕ)
    → written_value (one_value (in_value b) b (value_pieces bs)) rest ≡ spelled value_escapes b (written_value (value_pieces bs) rest)
value_byte_written b bs rest = by (nat_eq b 38) (nat_eq b 60) (nat_eq b 62) (nat_eq b 13) (nat_eq b 34) (nat_eq b 9) (nat_eq b 10)
  where
    by : (a l g r q t f : Bool) → written_value (one_value (value_spelling a l g r q t f) b (value_pieces bs)) rest
        ≡ value_spelled a l g r q t f b (written_value (value_pieces bs) rest)
    by true l g r q t f = refl
    by false true g r q t f = refl
    by false false true r q t f = refl
    by false false false true q t f = refl
    by false false false false true t f = refl
    by false false false false false true f = refl
    by false false false false false false true = refl
    by false false false false false false false = refl

value_written : (value rest : List ℕ) → written_value (value_pieces value) rest ≡ escaped value_escapes value rest
value_written [] rest = refl
value_written (b ∷ bs) rest = value_byte_written b bs rest ∙ ap (spelled value_escapes b) (value_written bs rest)

-- ---- names

prefix_written : (prefix : Option (List ℕ)) (local rest : List ℕ) → IsGood prefix
    → written_name (record { prefix = or_none prefix; local = local }) rest ≡ before_colon prefix (local ++ rest)
prefix_written None local rest g = refl
prefix_written (Some []) local rest g = absurd g.0
prefix_written (Some (b ∷ bs)) local rest g = refl

module _ (ds : List Declaration) (good : (space : List ℕ) → IsGood (prefix_of ds space)) where
  name_written : (name : Name) (rest : List ℕ) → written_name (raw ds name) rest ≡ qualified ds name rest
  name_written name rest = prefix_written (prefix_of ds name.space) name.local rest (good name.space)
      ∙ sym (spelled_by ds name.space (name.local ++ rest))

  -- ---- tags

  attributes_written : (atts : List Attribute) (rest : List ℕ) → written_pairs (attribute_pairs ds atts) rest ≡ attributes ds atts rest
  attributes_written [] rest = refl
  attributes_written (a ∷ more) rest =
      let later : List ℕ = written_pairs (attribute_pairs ds more) rest in
      ap (λ l. 32 ∷ l) (name_written a.name (61 ∷ 34 ∷ written_value (value_pieces a.value) (34 ∷ later)))
      ∙ ap (λ l. 32 ∷ qualified ds a.name (61 ∷ 34 ∷ l)) (value_written a.value (34 ∷ later))
      ∙ ap (λ l. codes " " ++ qualified ds a.name (valued a.value l)) (attributes_written more rest)

  declarations_written : (own : List Declaration) (others : List Pair) (rest : List ℕ)
      → written_pairs (declared_pairs own others) rest ≡ declaration_texts own (written_pairs others rest)
  declarations_written [] others rest = refl
  declarations_written (d ∷ own) others rest =
      let later : List ℕ = written_pairs (declared_pairs own others) rest in
      ap (λ l. codes " xmlns:" ++ (d.prefix ++ (codes "=\"" ++ l))) (value_written d.space (34 ∷ later))
      ∙ ap (λ l. codes " xmlns:" ++ (d.prefix ++ valued d.space l)) (declarations_written own others rest)

  start_written : (own : List Declaration) (name : Name) (atts : List Attribute) (rest : List ℕ)
      → written_start (start ds own name atts) rest ≡ codes "<" ++ qualified ds name (declaration_texts own (attributes ds atts rest))
  start_written own name atts rest =
      ap (λ l. 60 ∷ l) (name_written name (written_pairs (declared_pairs own (attribute_pairs ds atts)) rest))
      ∙ ap (λ l. 60 ∷ qualified ds name l) (declarations_written own (attribute_pairs ds atts) rest)
      ∙ ap (λ l. 60 ∷ qualified ds name (declaration_texts own l)) (attributes_written atts rest)

  -- ---- elements

  pub element_written : (own : List Declaration) (name : Name) (atts : List Attribute) (none : Bool) (inside : Pieces) (f : List ℕ
      → List ℕ) (p : Pieces) (rest : List ℕ)
      → ((more : List ℕ) → written inside more ≡ f more)
      → written (element_pieces (start ds own name atts) none inside p) rest ≡ element ds own name atts none f (written p rest)
  element_written own name atts true inside f p rest within = start_written own name atts (47 ∷ 62 ∷ written p rest)
  element_written own name atts false inside f p rest within =
      start_written own name atts (62 ∷ written inside (written_end (raw ds name) [] (written p rest)))
      ∙ ap (λ l. codes "<" ++ qualified ds name (declaration_texts own (attributes ds atts (62 ∷ l))))
      (ap (λ l. written inside (60 ∷ 47 ∷ l)) (name_written name (62 ∷ written p rest))
      ∙ within (codes "</" ++ qualified ds name (codes ">" ++ written p rest)))

  mutual
    pub item_written : (c : Content) (p : Pieces) (rest : List ℕ) → written (item_pieces ds c p) rest ≡ item ds c (written p rest)
    item_written (Text t) p rest = text_written t p rest
    item_written (Child' name atts shape row) p rest =
        element_written [] name atts (is_end row) (row_pieces ds row nothing) (λ more. row_items ds row more) p rest
        (λ more. row_written row nothing more)

    pub row_written : {m : _} (row : Row_of-Content m) (p : Pieces) (rest : List ℕ)
        → written (row_pieces ds row p) rest ≡ row_items ds row (written p rest)
    row_written end_of-Content p rest = refl
    row_written (more_of-Content c row) p rest = item_written c (row_pieces ds row p) rest ∙ ap (item ds c) (row_written row p rest)

-- The one text of a tree as concrete syntax: the pieces that it is made of.
use Rattle.std.proofs.Common.{ℕ, Bool, true, false, Option, Some, None, List, [], ◌∷◌, ◌++◌, if◌then◌else◌, nat_eq, codes}
use Rattle.ba_tree.specs.declared.trees.Name.{Name}
use Rattle.ba_tree.specs.declared.trees.Attribute.{Attribute}
use Rattle.ba_tree.specs.declared.trees.Content.{Content, Text, Child', Row_of-Content, end_of-Content, more_of-Content}
use Rattle.ba_xml_grammar.specs.Grammar.{Value, value_end, value_character, value_reference, Pair, Start, Pieces, nothing, character}
use Rattle.ba_xml_grammar.specs.Grammar.{reference, empty, element}
use Rattle.ba_xml_grammar.specs.GrammarWords.{Reference, less, greater, ampersand, quotation, decimal}
use Rattle.ba_xml_words.specs.declared.names.RawName.{RawName}
use Rattle.ba_xml_writer.specs.Namespaces.{Declaration}
use Rattle.ba_xml_writer.specs.OneText.{is_end}
use Rattle.ba_xml_writer.specs.Resolving.{prefix_of}

-- how a byte stands in a text: as itself, or by a reference
pub data Spelling : Type 0 where
  itself : Spelling
  referred : Reference → Spelling

-- in text: whether it is "&", "<", ">" or a carriage return
abbrev pub text_spelling : Bool → Bool → Bool → Bool → Spelling
text_spelling true l g r = referred ampersand
text_spelling false true g r = referred less
text_spelling false false true r = referred greater
text_spelling false false false true = referred (decimal (codes "13"))
text_spelling false false false false = itself

abbrev pub in_text : ℕ → Spelling
in_text b = text_spelling (nat_eq b 38) (nat_eq b 60) (nat_eq b 62) (nat_eq b 13)

-- in values: whether it is one of these, or `"`, a tab or a line feed
abbrev pub value_spelling : Bool → Bool → Bool → Bool → Bool → Bool → Bool → Spelling
value_spelling true l g r q t f = referred ampersand
value_spelling false true g r q t f = referred less
value_spelling false false true r q t f = referred greater
value_spelling false false false true q t f = referred (decimal (codes "13"))
value_spelling false false false false true t f = referred quotation
value_spelling false false false false false true f = referred (decimal (codes "9"))
value_spelling false false false false false false true = referred (decimal (codes "10"))
value_spelling false false false false false false false = itself

abbrev pub in_value : ℕ → Spelling
in_value b = value_spelling (nat_eq b 38) (nat_eq b 60) (nat_eq b 62) (nat_eq b 13) (nat_eq b 34) (nat_eq b 9) (nat_eq b 10)

-- the same as the writer has it: the bytes, and then others
abbrev pub text_spelled : Bool → Bool → Bool → Bool → ℕ → List ℕ → List ℕ
text_spelled a l g r b rest = if a then codes "&amp;"
    ++ rest else (if l then codes "&lt;" ++ rest else (if g then codes "&gt;" ++ rest else (if r then codes "&#13;" ++ rest else b ∷ rest)))

abbrev pub value_spelled : Bool → Bool → Bool → Bool → Bool → Bool → Bool → ℕ → List ℕ → List ℕ
value_spelled a l g r q t f b rest =
    if a then codes "&amp;" ++ rest else (if l then codes "&lt;"
    ++ rest else (if g then codes "&gt;" ++ rest else (if r then codes "&#13;" ++ rest else
    (if q then codes "&quot;" ++ rest else (if t then codes "&#9;" ++ rest else (if f then codes "&#10;" ++ rest else b ∷ rest))))))

abbrev pub one_piece : Spelling → ℕ → Pieces → Pieces
one_piece itself b p = character b p
one_piece (referred r) b p = reference r p

-- each function gives the pieces of its part, and then others
abbrev pub text_pieces : List ℕ → Pieces → Pieces
text_pieces [] p = p
text_pieces (b ∷ bs) p = one_piece (in_text b) b (text_pieces bs p)

abbrev pub one_value : Spelling → ℕ → Value → Value
one_value itself b v = value_character b v
one_value (referred r) b v = value_reference r v

abbrev pub value_pieces : List ℕ → Value
value_pieces [] = value_end
value_pieces (b ∷ bs) = one_value (in_value b) b (value_pieces bs)

abbrev pub or_none : Option (List ℕ) → List ℕ
or_none None = []
or_none (Some prefix) = prefix

-- a name with the prefix of its namespace
abbrev pub raw : List Declaration → Name → RawName
raw ds name = record { prefix = or_none (prefix_of ds name.space); local = name.local }

abbrev pub declared_name : Declaration → RawName
declared_name d = record { prefix = codes "xmlns"; local = d.prefix }

abbrev pub pair : RawName → List ℕ → Pair
pair name value = record { gap = 32 ∷ []; name = name; left = []; right = []; quote = 34; value = value_pieces value }

abbrev pub attribute_pairs : List Declaration → List Attribute → List Pair
attribute_pairs ds [] = []
attribute_pairs ds (a ∷ more) = pair (raw ds a.name) a.value ∷ attribute_pairs ds more

abbrev pub declared_pairs : List Declaration → List Pair → List Pair
declared_pairs [] others = others
declared_pairs (d ∷ own) others = pair (declared_name d) d.space ∷ declared_pairs own others

-- the start tag of an element that declares `own`
abbrev pub start : List Declaration → List Declaration → Name → List Attribute → Start
start ds own name atts = record { name = raw ds name; pairs = declared_pairs own (attribute_pairs ds atts); space = [] }

-- an element, without an end tag where there is nothing inside
abbrev pub element_pieces : Start → Bool → Pieces → Pieces → Pieces
element_pieces s true inside p = empty s p
element_pieces s false inside p = element s inside [] p

abbrev mutual
  pub item_pieces : List Declaration → Content → Pieces → Pieces
  item_pieces ds (Text t) p = text_pieces t p
  item_pieces ds (Child' name atts shape row) p = element_pieces (start ds [] name atts) (is_end row) (row_pieces ds row nothing) p

  pub row_pieces : {m : _} → List Declaration → Row_of-Content m → Pieces → Pieces
  row_pieces ds end_of-Content p = p
  row_pieces ds (more_of-Content c row) p = item_pieces ds c (row_pieces ds row p)

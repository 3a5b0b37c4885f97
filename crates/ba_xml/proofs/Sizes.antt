-- The pieces of a tree keep the limits of levels and attributes.
use Rattle.std.proofs.Common.{◌≡◌, ℕ, ◌+◌, ◌≤◌, Bool, true, false, List, [], ◌∷◌, length, refl, arith}
use Rattle.ba_tree.specs.declared.trees.Name.{Name}
use Rattle.ba_tree.specs.declared.trees.Attribute.{Attribute}
use Rattle.ba_tree.specs.declared.trees.Content.{Content, Text, Child', Row_of-Content, end_of-Content, more_of-Content}
use Rattle.ba_xml_grammar.specs.Grammar.{Pair, Start, Pieces, nothing, Small}
use Rattle.ba_xml_names.specs.declared.levels.Declaration as reader
use Rattle.ba_xml_writer.specs.Namespaces.{Declaration}
use Rattle.ba_xml_writer.specs.OneText.{is_end}
use Rattle.ba_xml.proofs.Fine.{IsFine, IsFineRow}
use Rattle.ba_xml.proofs.Spelling.{itself, referred, in_text, one_piece, text_pieces, attribute_pairs, declared_pairs, start}
use Rattle.ba_xml.proofs.Spelling.{element_pieces, item_pieces, row_pieces}

byte_small : (level b : ℕ) (p : Pieces) → Small level p → Small level (one_piece (in_text b) b p)
byte_small level b p s = by (in_text b)
  where
    by : (x : _) → Small level (one_piece x b p)
    by itself = s
    by (referred r) = s

text_small : (level : ℕ) (t : List ℕ) (p : Pieces) → Small level p → Small level (text_pieces t p)
text_small level [] p s = s
text_small level (b ∷ bs) p s = byte_small level b (text_pieces bs p) (text_small level bs p s)

attributes_count : (ds : List Declaration) (atts : List Attribute) → length (attribute_pairs ds atts) ≡ length atts
attributes_count ds [] = refl
attributes_count ds (a ∷ more) = let rest = attributes_count ds more in omega arith

pairs_count : (own : List Declaration) (others : List Pair) → length (declared_pairs own others) ≡ length own + length others
pairs_count [] others = omega arith
pairs_count (d ∷ own) others = let rest = pairs_count own others in omega arith

pub few_pairs : (ds own : List Declaration) (name : Name) (atts : List Attribute) → length own + length atts ≤ 32
    → length (start ds own name atts).pairs ≤ 32
few_pairs ds own name atts h =
    let all : length (declared_pairs own (attribute_pairs ds atts)) ≡ length own + length (attribute_pairs ds atts) =
    pairs_count own (attribute_pairs ds atts) in
    let plain : length (attribute_pairs ds atts) ≡ length atts = attributes_count ds atts in
    omega arith

pub element_small : (level : ℕ) (s : Start) (none : Bool) (inside p : Pieces) → level ≤ 32 → length s.pairs ≤ 32 → Small (level + 1) inside
    → Small level p → Small level (element_pieces s none inside p)
element_small level s true inside p l n i r = (l, n, r)
element_small level s false inside p l n i r = (l, n, i, r)

module _ (ds : List Declaration) (read : List reader.Declaration) where
  mutual
    item_small : (level : ℕ) (c : Content) (p : Pieces) → IsFine ds read level c → Small level p → Small level (item_pieces ds c p)
    item_small level (Text t) p f r = text_small level t p r
    item_small level (Child' name atts shape row) p f r =
        element_small level (start ds [] name atts) (is_end row) (row_pieces ds row nothing) p f.1
        (few_pairs ds [] name atts (none (length atts) f.2)) (row_small (level + 1) row f.3) r
      where
        none : (n : ℕ) → n ≤ 32 → 0 + n ≤ 32
        none n h = omega arith

    pub row_small : {m : _} (level : ℕ) (row : Row_of-Content m) → IsFineRow ds read level row → Small level (row_pieces ds row nothing)
    row_small level end_of-Content f = tt
    row_small level (more_of-Content c row) f = item_small level c (row_pieces ds row nothing) f.0 (row_small level row f.2)

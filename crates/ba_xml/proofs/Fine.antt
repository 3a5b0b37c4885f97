-- What the laws of the one text need of each piece of a tree's content.
use Rattle.ba_tree.specs.Trees.{name_cmp}
use Rattle.std.proofs.Common.{◌≡◌, ℕ, ◌+◌, ◌≤◌, Bool, true, false, ◌&&◌, Some, List, [], ◌∷◌, length, encode_utf8_all, codes}
use Rattle.std.specs.List.{list_all}
use Rattle.std.specs.Str.{bytes_eq}
use Rattle.std.specs.declared.cmp.Ordering.TheVariants as order
use Rattle.ba_tree.specs.Characters.{is_legal}
use Rattle.ba_tree.specs.declared.trees.Name.{Name}
use Rattle.ba_tree.specs.declared.trees.Attribute.{Attribute}
use Rattle.ba_tree.specs.declared.trees.Content.{Content, Text, Child', Row_of-Content, end_of-Content, more_of-Content}
use Rattle.ba_xml_grammar.specs.GrammarWords.{Begun, IsPlainName}
use Rattle.ba_xml_names.specs.Namespaces.{nearest}
use Rattle.ba_xml_names.specs.declared.levels.Declaration as reader
use Rattle.ba_xml_writer.specs.Namespaces.{Declaration}
use Rattle.ba_xml_writer.specs.Resolving.{prefix_of}
use Rattle.ba_xml.proofs.Spelling.{or_none}

-- the bytes are those of legal characters
abbrev pub IsLegal : List ℕ → Type 0
IsLegal bytes = (characters : List ℕ) × (list_all is_legal characters ≡ true) × (bytes ≡ encode_utf8_all characters)

-- the attribute's name is below each of these
abbrev pub IsBefore : Attribute → List Attribute → Type 0
IsBefore a [] = Unit {0}
IsBefore a (b ∷ more) = (name_cmp a.name b.name ≡ order.Less) × IsBefore a more

-- the names rise
abbrev pub Rise : List Attribute → Type 0
Rise [] = Unit {0}
Rise (a ∷ more) = IsBefore a more × Rise more

abbrev pub is_text : Content → Bool
is_text (Text t) = true
is_text (Child' name atts shape row) = false

-- a text comes first
abbrev pub starts_text : {m : _} → Row_of-Content m → Bool
starts_text end_of-Content = false
starts_text (more_of-Content c row) = is_text c

-- how the one text declares prefixes, and how a reader has them where it reads
module _ (ds : List Declaration) (read : List reader.Declaration) where
  -- the prefix that is written for a namespace means it
  abbrev pub IsExplained : List ℕ → Type 0
  IsExplained space = nearest (or_none (prefix_of ds space)) read ≡ Some space

  abbrev pub IsFineName : Name → Type 0
  IsFineName name = IsPlainName name.local × IsExplained name.space

  abbrev pub IsFineAttribute : Attribute → Type 0
  IsFineAttribute a = IsFineName a.name × ((bytes_eq a.name.space [] && bytes_eq a.name.local (codes "xmlns")) ≡ false) × IsLegal a.value

  abbrev pub AreFine : List Attribute → Type 0
  AreFine [] = Unit {0}
  AreFine (a ∷ more) = IsFineAttribute a × AreFine more

  abbrev pub IsFineTag : Name → List Attribute → Type 0
  IsFineTag name atts = IsFineName name × AreFine atts × Rise atts

  abbrev mutual
    pub IsFine : ℕ → Content → Type 0
    IsFine level (Text t) = Begun t × IsLegal t
    IsFine level (Child' name atts shape row) = IsFineTag name atts × (level ≤ 32) × (length atts ≤ 32) × IsFineRow (level + 1) row

    pub IsFineRow : {m : _} → ℕ → Row_of-Content m → Type 0
    IsFineRow level end_of-Content = Unit {0}
    IsFineRow level (more_of-Content c row) = IsFine level c × ((is_text c && starts_text row) ≡ false) × IsFineRow level row

-- Believe: which bytes are a text, and of which tree.
use Rattle.std.specs.Prelude.{◌≡◌, ℕ, ◌≤◌, Bool, true, false, cond, ◌&&◌, ◌==◌, List, [], ◌∷◌, ◌++◌, length, encode_utf8_all}
use Rattle.std.specs.List.{list_all}
use Rattle.ba_tree.specs.Characters.{is_legal}
use Rattle.ba_tree.specs.declared.trees.Content.TheVariants.{Child}
use Rattle.ba_tree.specs.declared.trees.Tree.{Tree}
use Rattle.ba_xml_grammar.specs.Grammar.{Document, written_document, IsDocument, Resolves, Small, meaning}
use Rattle.ba_xml_names.specs.Namespaces.{first_scope}

-- the bytes are the UTF-8 of characters of XML 1.0 (Char, production 2)
abbrev pub IsOfCharacters : List ℕ → Type 0
IsOfCharacters bytes = (characters : List ℕ) × (list_all is_legal characters ≡ true) × (bytes ≡ encode_utf8_all characters)

-- the bytes with each line end made one line feed (section 2.11): a carriage return counts as a line feed, and a
-- line feed right behind it as nothing
abbrev pub lines : Bool → List ℕ → List ℕ
lines returned [] = []
lines returned (b ∷ bs) = cond (returned && b == 10) (lines false bs) (cond (b == 13) (10 ∷ lines true bs) (b ∷ lines false bs))

abbrev pub IsWrittenAs : List ℕ → Document → Type 0
IsWrittenAs bytes d = IsOfCharacters bytes × IsDocument d × (lines false bytes ≡ written_document d)

-- the bytes are a text but for what prefixes mean, and for its size
abbrev pub IsWellFormed : List ℕ → Type 0
IsWellFormed bytes = (d : Document) × IsWrittenAs bytes d

abbrev pub IsSmall : List ℕ → Document → Type 0
IsSmall bytes d = (length bytes ≤ 262144) × Small 1 d.root

abbrev pub MeansTree : Document → Tree → Type 0
MeansTree d tree = Resolves first_scope d.root × (meaning first_scope d.root ≡ Child tree ∷ [])

-- the bytes are a text of this tree
abbrev pub IsXmlText : List ℕ → Tree → Type 0
IsXmlText bytes tree = (d : Document) × IsWrittenAs bytes d × IsSmall bytes d × MeansTree d tree

-- some bytes continue these to a text, whatever its prefixes mean and its size
abbrev pub CanContinue : List ℕ → Type 0
CanContinue front = (more : List ℕ) × IsWellFormed (front ++ more)

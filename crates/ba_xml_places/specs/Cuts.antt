-- Believe: what the first bytes of a text are by themselves.
use Rattle.std.specs.Prelude.{ℕ, ◌⊎◌, List}
use Rattle.ba_tree.specs.declared.trees.Tree.{Tree}
use Rattle.ba_xml_grammar.specs.GrammarTexts.{IsXmlText}
use Rattle.ba_xml_grammar.specs.Places.{IsTruncated}

-- the bytes are a text, or end too early for one
abbrev pub IsTextOrBeginning : List ℕ → Type 0
IsTextOrBeginning bytes = ((tree : Tree) × IsXmlText bytes tree) ⊎ IsTruncated bytes

-- What the machine answers with a tree is a text of that tree.
use Rattle.std.proofs.Common.{◌≡◌, ℕ, Ok, List}
use Rattle.ba_tree.specs.declared.trees.Tree.{Tree}
use Rattle.ba_xml_reader.proofs.SoundAnswer.{answered}
use Rattle.ba_xml_reader.proofs.SoundDeclaring.{declaration_read}
use Rattle.ba_xml_reader.proofs.SoundText.{is_text}
use Rattle.ba_xml_reader.specs.inside.Machine.{xml_answer}
use Rattle.ba_xml_grammar.specs.GrammarTexts.{IsXmlText}

pub sound : (bytes : List ℕ) (tree : Tree) → xml_answer bytes ≡ Ok tree → IsXmlText bytes tree
sound bytes tree a = is_text bytes tree (answered tree (declaration_read tree) bytes a)

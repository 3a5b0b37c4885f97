-- What is read keeps all that a tree must keep to be written, but for the room in its root and the length of its text.
use Rattle.std.proofs.Common.{◌≡◌, ℕ, ◌≤◌, nat_le, true, List, sym, ◌∙◌, arith}
use Rattle.std.proofs.lemmas.Bool.Decides.{nat_tests}
use Rattle.ba_tree.specs.Trees.{most_attributes}
use Rattle.ba_tree.specs.declared.trees.Tree.{Tree}
use Rattle.ba_xml_grammar.specs.GrammarTexts.{IsXmlText}
use Rattle.ba_xml_reader.proofs.ReadFit.{read_fit}
use Rattle.ba_xml_reader.proofs.ReadLimits.{within_limits}
use Rattle.ba_xml_reader.specs.Fitness.{IsWithinLimits}
use Rattle.ba_xml_writer.proofs.Numbers.{few_is}
use Rattle.ba_xml_writer.specs.Writable.{HasRoom, IsShort, IsWritable}

is_few : (n : ℕ) → n ≤ 32 → nat_le n 32 ≡ true
is_few n h = grind (arith, nat_tests)

pub rewritten : (bytes : List ℕ) (t : Tree) → IsXmlText bytes t → HasRoom t → IsShort t → IsWritable t
rewritten bytes t x room short =
    let limits : IsWithinLimits t = within_limits bytes t x in
    record {
      fit = read_fit bytes t x;
      deep = limits.deep;
      few = sym (few_is t) ∙ is_few (most_attributes t) limits.few;
      room = room;
      short = short;
    }

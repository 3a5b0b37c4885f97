-- The first bytes of a text are a text, or end too early for one.
use Rattle.std.proofs.Common.{◌≡◌, ℕ, inl, inr, Option, Some, None, List, take, refl, ap, ◌∙◌}
use Rattle.ba_tree.specs.declared.trees.Tree.{Tree}
use Rattle.ba_xml_places.proofs.Answering.{taken_free}
use Rattle.ba_xml_places.proofs.Earlier.{taken_front, text_taken}
use Rattle.ba_xml_places.specs.Cuts.{IsTextOrBeginning}
use Rattle.ba_xml_places.specs.inside.Taken.{IsTaken}
use Rattle.ba_xml_reader.proofs.Complete.{complete}
use Rattle.ba_xml_reader.proofs.Dead.{refused_none}
use Rattle.ba_xml_reader.proofs.Sound.{sound}
use Rattle.ba_xml_grammar.specs.GrammarTexts.{IsXmlText}
use Rattle.ba_xml_reader.specs.inside.Machine.{run, start, finished, answer_by, answer_of, xml_answer}
use Rattle.ba_xml_reader.specs.inside.Readings.{Going}
use Rattle.ba_xml_words.specs.declared.faults.Reason.TheVariants as reason
use Rattle.ba_xml_words.specs.declared.faults.XmlFault.TheVariants as fault

by_taken : (bytes : List ℕ) → IsTaken bytes → IsTextOrBeginning bytes
by_taken bytes t = by (finished t.0) refl
  where
    answered : (found : Option Tree) → finished t.0 ≡ found → xml_answer bytes ≡ answer_by t.1 found
    answered found e = ap answer_of t.2 ∙ ap (answer_by t.1) e

    by : (found : Option Tree) → finished t.0 ≡ found → IsTextOrBeginning bytes
    by (Some tree) e = inl (tree, sound bytes tree (answered (Some tree) e))
    by None e = inr (taken_free bytes t, λ tree x. refused_none bytes tree (fault.At reason.Truncated t.1) (answered None e) x)

pub cut : (bytes : List ℕ) (tree : Tree) (count : ℕ) → IsXmlText bytes tree → IsTextOrBeginning (take count bytes)
cut bytes tree count x = by_taken (take count bytes)
    (taken_front bytes count (text_taken bytes tree (run (Going start 0) bytes) refl (complete bytes tree x)))

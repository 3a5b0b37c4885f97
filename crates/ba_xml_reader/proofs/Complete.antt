-- The machine answers each text of XML with its tree.
use Rattle.std.proofs.Common.{◌≡◌, ℕ, ◌+◌, Bool, false, Ok, List, [], ◌∷◌, length, ap, ◌∙◌, arith}
use Rattle.ba_tree.specs.declared.trees.Content.TheVariants.{Child}
use Rattle.ba_tree.specs.declared.trees.Tree.{Tree}
use Rattle.ba_xml_reader.proofs.CompleteCharacters.{octets, characters_octets}
use Rattle.ba_xml_reader.proofs.CompleteDocuments.{document_runs, ended_tree}
use Rattle.ba_xml_reader.proofs.CompleteLayers.{to}
use Rattle.ba_xml_reader.proofs.CompletePieces.{holding}
use Rattle.ba_xml_reader.proofs.CompleteSteps.{steps}
use Rattle.ba_xml_reader.specs.inside.Machine.{document, run, answer_by, answer_of, xml_answer}
use Rattle.ba_xml_grammar.specs.GrammarTexts.{lines, IsOfCharacters, IsXmlText}
use Rattle.ba_xml_reader.specs.inside.Readings as reading
use Rattle.ba_xml_words.specs.declared.octets.Octet.TheVariants.{Between}
use Rattle.ba_xml_words.specs.declared.octets.Decoding.TheVariants.{At}
use Rattle.ba_xml_reader.specs.declared.states.Mode.TheVariants as mode
use Rattle.ba_xml_reader.specs.declared.states.Seen.TheVariants.{Zero}
use Rattle.ba_xml_reader.specs.declared.states.State.TheVariants as state

pub legal_octets : (bytes : List ℕ) → IsOfCharacters bytes → octets (At Between) bytes ≡ At Between
legal_octets bytes c = ap (octets (At Between)) c.2 ∙ characters_octets c.0 c.1

pub complete : (bytes : List ℕ) (tree : Tree) → IsXmlText bytes tree → xml_answer bytes ≡ Ok tree
complete bytes tree x = by (to [] (holding document (Child tree ∷ []) []) (mode.Inside Zero) Between bytes (state.At [] document mode.Begin)
    Between false 0 (legal_octets bytes x.1.0) states (omega (arith, x.2.0)))
  where
    states : steps (state.At [] document mode.Begin) (lines false bytes)
        ≡ state.At [] (holding document (Child tree ∷ []) []) (mode.Inside Zero)
    states = ap (steps (state.At [] document mode.Begin)) x.1.2 ∙ document_runs x.0 tree x.1.1 x.3.0 x.3.1 x.2.1

    by : (r : Bool) × (run (reading.Going (record { state = state.At [] document mode.Begin; octet = Between; returned = false }) 0) bytes
        ≡ reading.Going (record {
          state = state.At [] (holding document (Child tree ∷ []) []) (mode.Inside Zero);
          octet = Between;
          returned = r;
        }) (0 + length bytes)) → xml_answer bytes ≡ Ok tree
    by r = ap answer_of r.1 ∙ ap (answer_by (0 + length bytes)) (ended_tree tree)

-- What an answer with a tree says of the raw bytes, given what is read of a declaration.
use Rattle.std.proofs.Common.{◌≡◌, ℕ, ◌+◌, ◌≤◌, false, Option, Some, None, Ok, List, ◌∷◌, length, refl, ap, ◌∙◌, arith}
use Rattle.ba_tree.specs.declared.trees.Tree.{Tree}
use Rattle.ba_xml_reader.proofs.SoundDocuments.{IsReadTo, top, Headed, IsDocumentOf, document_read}
use Rattle.ba_xml_reader.proofs.SoundBack.{back}
use Rattle.ba_xml_reader.proofs.CompleteCharacters.{octets}
use Rattle.ba_xml_reader.specs.inside.Machine.{start, run, ended_at, finished, answer_by, answer_of, xml_answer}
use Rattle.ba_xml_grammar.specs.GrammarTexts.{lines}
use Rattle.ba_xml_reader.specs.inside.Readings.{Reading}
use Rattle.ba_xml_reader.specs.inside.Readings as reading
use Rattle.ba_xml_words.specs.declared.octets.Octet.{Octet}
use Rattle.ba_xml_words.specs.declared.octets.Octet.TheVariants.{Between}
use Rattle.ba_xml_words.specs.declared.octets.Decoding.TheVariants as decoding
use Rattle.ba_xml_words.specs.declared.headings.Heading.TheVariants.{Target}
use Rattle.ba_xml_reader.specs.declared.states.Mode.TheVariants as mode

-- the bytes, their line ends made one, are a document of this tree; they are not too many; and no octet among them is out of place
abbrev pub IsReadAs : Tree → List ℕ → Type 0
IsReadAs tree bytes = IsDocumentOf tree (lines false bytes) × (length bytes ≤ 262144) × (last : Octet)
    × (octets (decoding.At Between) bytes ≡ decoding.At last)

by_answer : (found : Option Tree) (taken : ℕ) (tree : Tree) → answer_by taken found ≡ Ok tree → found ≡ Some tree
by_answer None taken tree e = absurd (clash e)
  where
    clash : answer_by taken None ≡ Ok tree → ⊥
    clash e = cc
by_answer (Some other) taken tree e = same e
  where
    same : answer_by taken (Some other) ≡ Ok tree → Some other ≡ Some tree
    same e = cc

module _ (tree : Tree) (declared : (bs : List ℕ) → IsReadTo tree (top (mode.Declaring (Target 0))) bs → Headed tree (60 ∷ 63 ∷ bs)) where
  by_reading : (bytes : List ℕ) (r : Reading) → run (reading.Going start 0) bytes ≡ r → answer_of r ≡ Ok tree → IsReadAs tree bytes
  by_reading bytes (reading.Refused why place) e a = absurd (clash a)
    where
      clash : answer_of (reading.Refused why place) ≡ Ok tree → ⊥
      clash e = cc
  by_reading bytes (reading.Going scan n) e a =
      let r = back bytes (top mode.Begin) Between false 0 scan n (omega arith) e in
      (document_read tree declared (lines false bytes) (ap ended_at r.1 ∙ by_answer (finished scan) n tree a), few r.2 r.3, scan.octet, r.0)
    where
      few : 0 + length bytes ≡ n → n ≤ 262144 → length bytes ≤ 262144
      few e l = omega (arith, e, l)

  pub answered : (bytes : List ℕ) → xml_answer bytes ≡ Ok tree → IsReadAs tree bytes
  answered bytes a = by_reading bytes (run (reading.Going start 0) bytes) refl a

-- By hand: a line end of two bytes in a tag that no declarations explain, which is refused at the tag's own byte.
use Rattle.std.proofs.Common.{◌≡◌, ℕ, Err, List, ◌∷◌, ◌++◌, codes, refl, subst}
use Rattle.ba_xml_grammar.specs.Places.{IsCause, IsAnswerOf}
use Rattle.ba_xml_names.specs.Namespaces.{opening}
use Rattle.ba_xml_places.proofs.Answering.{holds}
use Rattle.ba_xml_reader.specs.inside.Machine.{run, reading_after, state_after, xml_answer}
use Rattle.ba_xml_words.specs.Classes.{class_of, mark_of}
use Rattle.ba_xml_words.specs.inside.Octets.{octet_after, lead}
use Rattle.ba_xml_words.specs.declared.faults.Reason.TheVariants as reason
use Rattle.ba_xml_words.specs.declared.faults.XmlFault.TheVariants as fault

abbrev bytes : List ℕ
bytes = codes "<p:a" ++ 13 ∷ 10 ∷ codes "/>"

answer_behind : xml_answer bytes ≡ Err (fault.At reason.Namespace 6)
unfolding run reading_after state_after class_of mark_of octet_after lead opening
answer_behind = refl

-- at the "/"
pub at_its_own_byte : IsAnswerOf bytes (Err (fault.At reason.Namespace 6))
at_its_own_byte = subst (λ x. IsAnswerOf bytes x) answer_behind (holds bytes)

-- and not at the line feed
pub not_at_the_line_feed : IsCause bytes reason.Namespace 5 → ⊥
not_at_the_line_feed x = x.4.1.1 refl

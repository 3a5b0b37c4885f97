-- What an answer says of bytes: for the clauses of `decode`.
use Rattle.std.proofs.Common.{◌≡◌, ◌≢◌, ℕ, List, Result, Ok, Err, refl, sym, subst}
use Rattle.std.specs.Prelude.{IfOk, IfErr}
use Rattle.ba_soap.specs.Envelopes.{soap11}
use Rattle.ba_tree.specs.declared.trees.Tree.{Tree}
use Rattle.ba_wire.specs.declared.faults.WireFault.{WireFault}
use Rattle.ba_wire.specs.declared.faults.WireFault.TheVariants as fault
use Rattle.ba_wire.specs.declared.meaning.Decoded.{Decoded}
use Rattle.ba_wire.proofs.Answered.{err_is_due}
use Rattle.ba_wire.proofs.NoMemory.{IsAnswered, IsOtherWire, tree_answered}
use Rattle.ba_wire.specs.Meaning.{IsDecodedOf, IsNoMessage, IsWireAnswer, Means, answer_by_tree, tree_answer}
use Rattle.ba_xml.specs.Reading.{IsReadOf}
use Rattle.ba_xml_grammar.specs.GrammarTexts.{IsXmlText}
use Rattle.ba_xml_grammar.specs.Places.{IsAnswerOf}
use Rattle.ba_xml_places.proofs.Answering.{holds, is_one}
use Rattle.ba_xml_reader.proofs.Sound.{sound}
use Rattle.ba_xml_reader.specs.inside.Machine.{xml_answer}
use Rattle.ba_xml_words.specs.declared.faults.Reason.{Reason}
use Rattle.ba_xml_words.specs.declared.faults.XmlFault.{XmlFault}
use Rattle.ba_xml_words.specs.declared.faults.XmlFault.TheVariants as xml

abbrev IsMeant : List ℕ → Decoded → Type 0
IsMeant bytes x = (tree : Tree) × IsXmlText bytes tree × Means soap11 tree x

meant : (bytes : List ℕ) (x : Decoded) (r : Result Tree XmlFault) → xml_answer bytes ≡ r → answer_by_tree r ≡ Ok x → IsMeant bytes x
meant bytes x (Ok tree) e is = (tree, sound bytes tree e, is)
meant bytes x (Err xml.Memory) e is = absurd (cc)
meant bytes x (Err (xml.At reason place)) e is = absurd (cc)

-- the answer by the machine's
abbrev text_answer : List ℕ → Result Decoded WireFault
text_answer bytes = answer_by_tree (xml_answer bytes)

by_machine : (bytes : List ℕ) (answer : Result Decoded WireFault) → IsDecodedOf bytes answer → IsWireAnswer (text_answer bytes) answer
by_machine bytes answer is = is (xml_answer bytes) (holds bytes)

-- what follows from what is read
answer_read : (bytes : List ℕ) (read : Result Tree XmlFault) (answer : Result Decoded WireFault) → IsAnswerOf bytes read
    → IsWireAnswer (answer_by_tree read) answer → IsDecodedOf bytes answer
answer_read bytes read answer known is other x =
    subst (λ a. IsWireAnswer (answer_by_tree a) answer) (is_one bytes read other known x) is

pub tree_read : (bytes : List ℕ) (tree : Tree) (answer : Result Decoded WireFault) → IsReadOf bytes (Ok tree)
    → IsWireAnswer (tree_answer soap11 tree) answer → IsDecodedOf bytes answer
tree_read bytes tree answer known is = answer_read bytes (Ok tree) answer known is

pub fault_read : (bytes : List ℕ) (why : XmlFault) (f : WireFault) → IsReadOf bytes (Err why) → answer_by_tree (Err why) ≡ Err f
    → IsDecodedOf bytes (Err f)
fault_read bytes xml.Memory f known is = subst (λ a. IsDecodedOf bytes a) is (λ other x. tt)
fault_read bytes (xml.At reason place) f known is =
    subst (λ a. IsDecodedOf bytes a) is (answer_read bytes (Err (xml.At reason place)) (Err (fault.Xml reason place)) known refl)

ok_due : (bytes : List ℕ) (answer : Result Decoded WireFault) → IsWireAnswer (text_answer bytes) answer → IfOk answer (IsMeant bytes)
ok_due bytes (Ok x) is = meant bytes x (xml_answer bytes) refl (sym is)
ok_due bytes (Err f) is = tt

pub ok_is_meant : (bytes : List ℕ) (answer : Result Decoded WireFault) → IsDecodedOf bytes answer → IfOk answer (IsMeant bytes)
ok_is_meant bytes answer is = ok_due bytes answer (by_machine bytes answer is)

pub meant_is_answered :
    (bytes : List ℕ) (answer : Result Decoded WireFault) → IsDecodedOf bytes answer → (tree : Tree) (x : Decoded)
    → IsXmlText bytes tree → Means soap11 tree x → IsWireAnswer (Ok x) answer
meant_is_answered bytes answer is tree x text means = subst (λ expected. IsWireAnswer expected answer) means (is (Ok tree) text)

of_tree : (bytes : List ℕ) (t : Tree) (f : WireFault) → IsXmlText bytes t → tree_answer soap11 t ≡ Err f → IsOtherWire f
    → IsNoMessage bytes f
of_tree bytes t fault.Memory text is other = other
of_tree bytes t (fault.Xml reason place) text is other = absurd other
of_tree bytes t (fault.Soap f) text is other = (t, text, is)
of_tree bytes t fault.OnlyAnonymous text is other = (t, text, is)
of_tree bytes t (fault.EprLimit n) text is other = (t, text, is)
of_tree bytes t fault.ActionNotSupported text is other = (t, text, is)
of_tree bytes t (fault.BodyMismatch n) text is other = (t, text, is)

of_bytes : (bytes : List ℕ) (reason : Reason) (place : ℕ) (f : WireFault) → xml_answer bytes ≡ Err (xml.At reason place)
    → fault.Xml reason place ≡ f → IsNoMessage bytes f
of_bytes bytes reason place f e is = subst (IsNoMessage bytes) is (subst (λ a. IsAnswerOf bytes a) e (holds bytes))

no_message_by : (bytes : List ℕ) (f : WireFault) (r : Result Tree XmlFault) → xml_answer bytes ≡ r → f ≢ fault.Memory
    → answer_by_tree r ≡ Err f → IsNoMessage bytes f
no_message_by bytes f (Ok t) e other is = of_tree bytes t f (sound bytes t e) is (subst IsAnswered is (tree_answered soap11 t))
no_message_by bytes f (Err xml.Memory) e other is = absurd (other (cc))
no_message_by bytes f (Err (xml.At reason place)) e other is = of_bytes bytes reason place f e (cc)

due_is_no_message : (bytes : List ℕ) (answer : Result Decoded WireFault)
    → IfErr answer (λ f. f ≢ fault.Memory → text_answer bytes ≡ Err f) → IfErr answer (λ f. f ≢ fault.Memory → IsNoMessage bytes f)
due_is_no_message bytes (Ok x) due = tt
due_is_no_message bytes (Err f) due = λ other. no_message_by bytes f (xml_answer bytes) refl other (due other)

pub err_is_no_message : (bytes : List ℕ) (answer : Result Decoded WireFault) → IsDecodedOf bytes answer
    → IfErr answer (λ f. f ≢ fault.Memory → IsNoMessage bytes f)
err_is_no_message bytes answer is = due_is_no_message bytes answer (err_is_due (text_answer bytes) answer (by_machine bytes answer is))

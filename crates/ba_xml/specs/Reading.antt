-- Believe: what is answered of bytes, by the table of causes and places.
use Rattle.std.specs.Prelude.{ℕ, Result, Ok, Err, List}
use Rattle.ba_tree.specs.declared.trees.Tree.{Tree}
use Rattle.ba_xml_grammar.specs.Places.{IsCause, IsLeast, IsAnswerOf}
use Rattle.ba_xml_words.specs.declared.faults.Reason.{Reason}
use Rattle.ba_xml_words.specs.declared.faults.XmlFault.{XmlFault}
use Rattle.ba_xml_words.specs.declared.faults.XmlFault.TheVariants as fault

-- the bytes' answer by the table, or want of memory
abbrev pub IsReadOf : List ℕ → Result Tree XmlFault → Type 0
IsReadOf bytes (Err fault.Memory) = Unit {0}
IsReadOf bytes answer = IsAnswerOf bytes answer

-- this is the first cause of the bytes
abbrev pub IsFirstCause : List ℕ → Reason → ℕ → Type 0
IsFirstCause bytes why place = IsCause bytes why place × IsLeast bytes why place

-- of bytes that others may follow: their first cause, or that they have none
abbrev pub IsToldOf : List ℕ → Result (Unit {0}) XmlFault → Type 0
IsToldOf bytes (Ok done) = (why : Reason) (place : ℕ) → IsCause bytes why place → ⊥
IsToldOf bytes (Err fault.Memory) = ⊥
IsToldOf bytes (Err (fault.At why place)) = IsFirstCause bytes why place

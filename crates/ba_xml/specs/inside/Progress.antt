-- Inside: how far a reader has come.
use Rattle.std.specs.Prelude.{◌≡◌, ℕ, Result, Ok, Err, List}
use Rattle.ba_tree.specs.declared.trees.Tree.{Tree}
use Rattle.ba_xml.specs.declared.readers.Progress.{Progress}
use Rattle.ba_xml.specs.declared.readers.Progress.TheVariants.{Reads, Faulted, Starved}
use Rattle.ba_xml_reader.specs.inside.Machine.{start, run, answer_of}
use Rattle.ba_xml_reader.specs.inside.Readings.{Reading, Refused, Going}
use Rattle.ba_xml_words.specs.declared.faults.XmlFault.{XmlFault}
use Rattle.ba_xml_words.specs.declared.faults.XmlFault.TheVariants as fault

-- from there the machine comes here over these bytes, unless memory was wanting
abbrev pub ComesTo : Reading → List ℕ → Progress → Type 0
ComesTo from bytes (Reads scan taken) = run from bytes ≡ Going scan taken
ComesTo from bytes (Faulted why place) = run from bytes ≡ Refused why place
ComesTo from bytes Starved = Unit {0}

-- a fault stays, and so does want of memory
abbrev pub GoesOn : Progress → List ℕ → Progress → Type 0
GoesOn (Reads scan taken) piece next = ComesTo (Going scan taken) piece next
GoesOn (Faulted why place) piece next = next ≡ Faulted why place
GoesOn Starved piece next = next ≡ Starved

abbrev pub IsProgressOf : List ℕ → Progress → Type 0
IsProgressOf bytes (Reads scan taken) = run (Going start 0) bytes ≡ Going scan taken
IsProgressOf bytes (Faulted why place) = run (Going start 0) bytes ≡ Refused why place
IsProgressOf bytes Starved = ⊥

-- what is told so far
abbrev pub told_by : Progress → Result (Unit {0}) XmlFault
told_by (Reads scan taken) = Ok tt
told_by (Faulted why place) = Err (fault.At why place)
told_by Starved = Err fault.Memory

-- the answer where the bytes end here
abbrev pub answer_by : Progress → Result Tree XmlFault
answer_by (Reads scan taken) = answer_of (Going scan taken)
answer_by (Faulted why place) = Err (fault.At why place)
answer_by Starved = Err fault.Memory

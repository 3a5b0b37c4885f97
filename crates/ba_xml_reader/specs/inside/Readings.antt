-- Inside: a text as far as it is read: refused at a place, or going on after so many bytes.
use Rattle.std.specs.Prelude.{ℕ}
use Rattle.ba_xml_words.specs.declared.faults.Reason.{Reason}
use Rattle.ba_xml_reader.specs.declared.machine.Scan.{Scan}

pub data Reading : Type 0 where
  Refused : Reason → ℕ → Reading
  Going : Scan → ℕ → Reading

-- Inside: what one byte more does to a text.
use Rattle.ba_xml_words.specs.declared.faults.Reason.{Reason}
use Rattle.ba_xml_reader.specs.declared.machine.Scan.{Scan}

pub data Turn : Type 0 where
  Refused : Reason → Turn
  On : Scan → Turn

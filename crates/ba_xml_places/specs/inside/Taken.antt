-- Inside: which bytes the machine takes, each of them.
use Rattle.std.specs.Prelude.{◌≡◌, ℕ, List}
use Rattle.ba_xml_reader.specs.inside.Machine.{run, start}
use Rattle.ba_xml_reader.specs.declared.machine.Scan.{Scan}
use Rattle.ba_xml_reader.specs.inside.Readings.{Going}

-- none of these bytes is refused
abbrev pub IsTaken : List ℕ → Type 0
IsTaken bytes = (scan : Scan) × (taken : ℕ) × (run (Going start 0) bytes ≡ Going scan taken)

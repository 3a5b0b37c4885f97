use Rattle.std.proofs.Common.{◌≡◌, ◌≤◌, ◌-◌, drop, length}
use Rattle.ba_xml_reader.specs.inside.Machine.{run}
use Rattle.ba_xml_reader.specs.inside.Readings.{Going}
use Rattle.ba_xml.proofs.readers.read_piece.Given as goal

-- the bytes that are left lead from here to where all lead from the start
abbrev pub invariant-loop-at : goal.invariant-loop-at
invariant-loop-at l =
    (l.at ≤ length l.piece) × (run (Going l.scan l.taken) (drop l.at l.piece) ≡ run (Going l.initial.scan l.initial.taken) l.initial.piece)

abbrev pub decreases-loop-at : goal.decreases-loop-at
decreases-loop-at l = length l.piece - l.at

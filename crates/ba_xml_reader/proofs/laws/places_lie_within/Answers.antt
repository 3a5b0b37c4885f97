use Rattle.std.proofs.Common.{◌≡◌, ◌≤◌, ◌+◌, length, arith}
use Rattle.ba_xml_reader.specs.inside.Machine.{run, start}
use Rattle.ba_xml_reader.specs.inside.Readings.{Going}
use Rattle.ba_xml_reader.proofs.Kept.{told, text_within, place_within}
use Rattle.ba_xml_reader.proofs.laws.places_lie_within.Goals as goal

pub returns-clause-text : goal.returns-clause-text
returns-clause-text c = λ bytes tree is.
    let none : 0 + length bytes ≡ length bytes = omega arith in
    let few : 0 ≤ 262144 = omega arith in
    text_within (run (Going start 0) bytes) (length bytes) tree (told bytes start 0 (length bytes) none few) is

pub returns-clause-place : goal.returns-clause-place
returns-clause-place c = λ bytes reason place is.
    let none : 0 + length bytes ≡ length bytes = omega arith in
    let few : 0 ≤ 262144 = omega arith in
    place_within (run (Going start 0) bytes) (length bytes) reason place (told bytes start 0 (length bytes) none few) is

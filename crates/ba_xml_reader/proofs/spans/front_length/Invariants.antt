-- The bytes so far are plain, and the first of those that have to come.
use Rattle.std.proofs.Common.{◌≡◌, ◌≤◌, ◌-◌, true, take, length}
use Rattle.std.specs.List.{list_all}
use Rattle.ba_xml_words.specs.inside.Remaining.{is_front}
use Rattle.ba_xml_reader.specs.inside.Spans.{is_plain}
use Rattle.ba_xml_reader.proofs.spans.front_length.Given as goal

abbrev pub invariant-loop-length : goal.invariant-loop-length
invariant-loop-length l = (l.length ≤ length l.bytes) × (l.length ≤ l.most) × (list_all is_plain (take l.length l.bytes) ≡ true)
    × (is_front (take l.length l.bytes) l.rest ≡ true)

abbrev pub decreases-loop-length : goal.decreases-loop-length
decreases-loop-length l = length l.bytes - l.length

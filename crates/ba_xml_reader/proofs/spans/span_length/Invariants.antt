-- The bytes so far are all put on.
use Rattle.std.proofs.Common.{◌≡◌, ◌≤◌, ◌-◌, true, take, length}
use Rattle.std.specs.List.{list_all}
use Rattle.ba_xml_reader.specs.inside.Spans.{is_put}
use Rattle.ba_xml_reader.proofs.spans.span_length.Given as goal

abbrev pub invariant-loop-length : goal.invariant-loop-length
invariant-loop-length l = (l.length ≤ length l.bytes) × (l.length ≤ l.most) × (list_all (is_put l.puts) (take l.length l.bytes) ≡ true)

abbrev pub decreases-loop-length : goal.decreases-loop-length
decreases-loop-length l = length l.bytes - l.length

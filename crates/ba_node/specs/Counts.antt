-- Believe: a node on its journal, of whose disk only the count of failures is known: what may be told of it without the disk.
use Rattle.std.specs.Prelude.{ℕ}
use Rattle.std.specs.Coded.{Coded, coded_ℕ}
use Rattle.ba_node.specs.Nodes.{NodeOnJournal, node_code}
use Rattle.ba_node.specs.inside.Stored.{state_code}
use Rattle.ba_node_objects.specs.contracts.objects.Objects as in_memory

-- the same node, and in place of its disk the count
abbrev pub on_count : {D : Type 0} → (D → ℕ) → NodeOnJournal D → NodeOnJournal ℕ
on_count faults n = record { disk = faults n.disk; node = n.node; end = n.end; closed = n.closed }

-- how such a node is stored as plain data
abbrev pub counted_node_code : Coded (NodeOnJournal ℕ)
counted_node_code = node_code coded_ℕ (state_code in_memory.the_row.coded)

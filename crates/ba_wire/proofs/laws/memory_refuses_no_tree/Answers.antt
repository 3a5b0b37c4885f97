use Rattle.ba_wire.proofs.NoMemory.{never_memory}
use Rattle.ba_wire.proofs.laws.memory_refuses_no_tree.Goals as goal

pub returns : goal.returns
returns c = never_memory

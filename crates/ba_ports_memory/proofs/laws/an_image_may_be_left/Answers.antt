use Rattle.ba_ports_memory.specs.inside.DiskLaws.{left_of_all}
use Rattle.ba_ports_memory.proofs.laws.an_image_may_be_left.Goals as goal

pub returns : goal.returns
returns c = λ image m. left_of_all image m.pending m.synced

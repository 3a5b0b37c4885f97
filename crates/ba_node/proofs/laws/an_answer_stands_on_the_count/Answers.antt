use Rattle.ba_node.proofs.OnCount.{answered_on_count}
use Rattle.ba_node.proofs.laws.an_answer_stands_on_the_count.Goals as goal

pub returns : goal.returns
returns g c = record {
  calls = λ due old new result. answered_on_count g.D.Disk.faults due old new result;
  ticks = λ due old new result. answered_on_count g.D.Disk.faults due old new result;
}

use Rattle.ba_node_steps.proofs.WhatIsSaid.{letter_postable, step_answers}
use Rattle.ba_node_steps.proofs.laws.what_a_node_says_can_be_written.Goals as goal

pub returns : goal.returns
returns c = record {
  letters = λ n id l is of. letter_postable n is id l of;
  replies = λ n now i is short. step_answers n is now i short;
}

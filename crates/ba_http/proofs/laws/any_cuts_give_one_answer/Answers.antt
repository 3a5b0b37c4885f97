use Rattle.ba_http.proofs.AnyCuts.{any_cuts}
use Rattle.ba_http.proofs.laws.any_cuts_give_one_answer.Goals as goal

pub returns : goal.returns
returns c = any_cuts

use Rattle.ba_http_head.proofs.Once.{says_one}
use Rattle.ba_http_head.proofs.laws.a_head_says_one_thing.Goals as goal

pub returns : goal.returns
returns c = says_one

use Rattle.ba_http.proofs.OneMessage.{decides_once, decision_settles}
use Rattle.ba_http.proofs.laws.bytes_begin_with_one_message.Goals as goal

pub returns-clause-once : goal.returns-clause-once
returns-clause-once c = decides_once

pub returns-clause-settled : goal.returns-clause-settled
returns-clause-settled c = decision_settles

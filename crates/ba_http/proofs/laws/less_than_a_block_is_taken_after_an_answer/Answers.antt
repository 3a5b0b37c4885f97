use Rattle.ba_http.proofs.LittleMore.{after_message, after_refusal, before_failure}
use Rattle.ba_http.proofs.laws.less_than_a_block_is_taken_after_an_answer.Goals as goal

pub returns-clause-message : goal.returns-clause-message
returns-clause-message c = after_message

pub returns-clause-refusal : goal.returns-clause-refusal
returns-clause-refusal c = after_refusal

pub returns-clause-failure : goal.returns-clause-failure
returns-clause-failure c = before_failure

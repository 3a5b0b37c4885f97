use Rattle.ba_http.proofs.AfterHead.{no_head}
use Rattle.ba_http.proofs.TwoSteps.{body_after, refusal_after}
use Rattle.ba_http.proofs.laws.a_head_and_its_body_are_a_message.Goals as goal

pub returns-clause-message : goal.returns-clause-message
returns-clause-message g c = λ heading old mid new opening before after.
    body_after heading old mid new opening (g.T.Taker.stands before) (g.T.Taker.stands after)

pub returns-clause-refused_body : goal.returns-clause-refused_body
returns-clause-refused_body g c = λ heading old mid new opening before after.
    refusal_after heading old mid new opening (g.T.Taker.stands before) (g.T.Taker.stands after)

pub returns-clause-refused_head : goal.returns-clause-refused_head
returns-clause-refused_head g c = no_head

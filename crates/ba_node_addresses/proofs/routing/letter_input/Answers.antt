use Rattle.std.proofs.Common.{◌≡◌, ◌∙◌, sym}
use Rattle.ba_core.specs.Numbers.{code_part}
use Rattle.ba_node_addresses.proofs.RoutingLemmas.{letter_by_endpoint}
use Rattle.ba_node_addresses.proofs.routing.letter_input.Goals as goal

pub returns : goal.returns
returns c = λ n same.
    let object : code_part c.args.id.0 ≡ 0 = sym c.code.ensures ∙ c.if-code-ne0.false in
    c.input_if_at.ensures
    ∙ letter_by_endpoint n c.args.id c.args.letter c.args.base.now c.endpoint_at.result object c.endpoint_at.ensures.its
    c.endpoint_at.ensures.found same

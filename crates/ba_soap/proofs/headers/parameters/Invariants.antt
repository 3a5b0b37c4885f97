use Rattle.std.proofs.Common.{◌≡◌, ◌++◌, drop, map, filter}
use Rattle.ba_soap_shapes.specs.Endpoints.{unmarked_tree}
use Rattle.ba_soap.specs.Envelopes.{is_parameter}
use Rattle.ba_soap.proofs.headers.parameters.Given as goal

abbrev pub invariant-loop-block : goal.invariant-loop-block
invariant-loop-block l = l.found ++ map unmarked_tree (filter is_parameter (map (λ b. b.now) (drop l.block-index l.blocks)))
    ≡ map unmarked_tree (filter is_parameter (map (λ b. b.now) l.blocks))

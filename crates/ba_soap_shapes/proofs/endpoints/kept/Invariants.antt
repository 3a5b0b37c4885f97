-- What is kept so far and what is kept of the rest is what is kept of all.
use Rattle.std.proofs.Common.{◌≡◌, ◌++◌, drop, filter, not}
use Rattle.ba_message.specs.Endpoints.{marks_parameter}
use Rattle.ba_soap_shapes.proofs.endpoints.kept.Given as goal

abbrev pub invariant-loop-attribute : goal.invariant-loop-attribute
invariant-loop-attribute l = l.kept ++ filter (λ a. not (marks_parameter a)) (drop l.attribute-index l.attributes)
    ≡ filter (λ a. not (marks_parameter a)) l.attributes

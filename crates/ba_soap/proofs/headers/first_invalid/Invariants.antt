use Rattle.std.proofs.Common.{◌≡◌, [], take, drop, map}
use Rattle.ba_soap.specs.Envelopes.{first_invalid_header}
use Rattle.ba_soap.proofs.headers.first_invalid.Given as goal

abbrev pub invariant-loop-index : goal.invariant-loop-index
invariant-loop-index l = first_invalid_header (map (λ b. b.now) (take l.index l.mine)) (map (λ b. b.now) (drop l.index l.mine))
    ≡ first_invalid_header [] (map (λ b. b.now) l.mine)

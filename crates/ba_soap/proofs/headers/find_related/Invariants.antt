use Rattle.std.proofs.Common.{◌≡◌, drop, map, find}
use Rattle.ba_soap.specs.Envelopes.{is_reply_relation}
use Rattle.ba_soap.proofs.headers.find_related.Given as goal

abbrev pub invariant-loop-block : goal.invariant-loop-block
invariant-loop-block l = find is_reply_relation (map (λ b. b.now) (drop l.block-index l.mine))
    ≡ find is_reply_relation (map (λ b. b.now) l.mine)

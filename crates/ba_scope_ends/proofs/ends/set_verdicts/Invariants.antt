-- Those before the index have the verdict, the others are as they were.
use Rattle.std.proofs.Common.{◌≡◌, ◌++◌, map, take, drop}
use Rattle.ba_scope_ends.specs.Ends.{end_with_verdict}
use Rattle.ba_scope_ends.proofs.ends.set_verdicts.Given as goal

abbrev pub invariant-loop-end : goal.invariant-loop-end
invariant-loop-end l = l.ends ≡ map (end_with_verdict l.fn.verdict) (take l.end-index l.fn.ends) ++ drop l.end-index l.fn.ends

use Rattle.std.proofs.Common.{◌≡◌, drop}
use Rattle.ba_ports_memory.specs.DiskValue.{all_imaged}
use Rattle.ba_ports_memory.proofs.changes.all_left.Given as goal

-- what the image leaves of the rest is what it leaves of all
abbrev pub invariant-loop-change : goal.invariant-loop-change
invariant-loop-change l = all_imaged l.image (drop l.change-index l.changes) l.all ≡ all_imaged l.image l.changes l.fn.file

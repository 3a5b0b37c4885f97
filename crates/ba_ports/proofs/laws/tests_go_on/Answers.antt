use Rattle.std.proofs.Common.{List, ℕ, IsTrue}
use Rattle.ba_ports.proofs.Moments.{goes_on}
use Rattle.ba_ports.proofs.laws.tests_go_on.Goals as goal

pub returns : goal.returns
returns g c = λ old mid new test during so_far passes here.
    goes_on g.D.Disk.later g.D.Disk.left_between old mid new (λ (c : List ℕ). IsTrue (test c))
    (λ (c : List ℕ). IsTrue (during c)) g.met.D.Disk.call_after_call so_far passes here

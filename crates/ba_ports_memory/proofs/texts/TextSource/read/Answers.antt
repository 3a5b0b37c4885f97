use Rattle.std.proofs.Common.{◌≡◌, ◌+◌, ◌++◌, arith, take, drop, take-append-drop}
use Rattle.std.proofs.lemmas.Grind.{common_steps}
use Rattle.ba_ports_memory.proofs.texts.TextSource.read.Goals as goal

pub returns-clause-bytes : goal.returns-clause-bytes
returns-clause-bytes c =
    let n = c.min-count.result in
    let left = c.args.self.now.left in
    let front : take n (c.copy_from_slice.new.self ++ drop n c.args.room.now) ≡ take n left = grind (arith, common_steps) in
    let back : drop (c.self.inside.at + n) c.self.inside.bytes ≡ drop n left = grind (arith, common_steps) in
    (grind (arith, front, back, take-append-drop n left), λ zero room. grind (arith, common_steps, back))

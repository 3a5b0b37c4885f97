use Rattle.std.proofs.Common.{ℕ, [], ◌∷◌, ◌++◌, ap, ◌∙◌}
use Rattle.std.specs.Int.{w64, to_le_bytes}
use Rattle.ba_record.specs.Coding.{counter_coding, kind_code, option_coding, upward_coding}
use Rattle.ba_record.specs.Rooms.{filled}
use Rattle.ba_record.proofs.Parts.{put_behind}
use Rattle.ba_record.proofs.writer.put_scope.Goals as goal

pub returns : goal.returns
returns c =
    let out = c.args.out.now in
    let new = c.put_upward.new.out in
    let a = 2 ∷ counter_coding c.args.counter in
    let b = kind_code c.args.kind ∷ [] in
    let d = option_coding (to_le_bytes w64) c.args.deadline in
    let u = option_coding upward_coding c.args.upward.now in
    put_behind out c.put_counter.new.out new a (b ++ (d ++ u)) c.put_counter.ensures
    (put_behind c.put_counter.new.out c.put_byte.new.out new b (d ++ u)
    (c.put_byte.ensures ∙ ap (λ (k : ℕ). filled c.put_counter.new.out (k ∷ [])) c.code_of_kind.ensures)
    (put_behind c.put_byte.new.out c.put_deadline.new.out new d u c.put_deadline.ensures c.put_upward.ensures))

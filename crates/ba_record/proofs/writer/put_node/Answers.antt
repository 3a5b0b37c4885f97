use Rattle.std.proofs.Common.{[], ◌∷◌, rules}
use Rattle.std.specs.Int.{w32, to_le_bytes}
use Rattle.ba_record.specs.Coding.{string_coding}
use Rattle.ba_record.proofs.Parts.{put_behind}
use Rattle.ba_record.proofs.writer.put_node.Goals as goal

pub returns : goal.returns
returns c =
    let out = c.args.out.now in
    let a = to_le_bytes w32 c.args.number in
    let b = string_coding c.args.base.now in
    put_behind out c.put_byte.new.out c.put_string.new.out (1 ∷ []) _ c.put_byte.ensures
    (put_behind c.put_byte.new.out c.put_bytes.new.self c.put_string.new.out a b (search rules) c.put_string.ensures)

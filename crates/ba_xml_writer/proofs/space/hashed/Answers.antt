use Rattle.std.proofs.Common.{◌≤◌, length, sym, arith}
use Rattle.std.proofs.lemmas.List.{length-take-le, take_all}
use Rattle.ba_xml_writer.proofs.space.hashed.Goals as goal

pub slice_bounds-result-end : goal.slice_bounds-result-end
slice_bounds-result-end c =
    let room : 32 ≤ length c.args.bytes.now = omega arith in sym (length-take-le 32 c.args.bytes.now room)

pub returns-then-bytes-le-HASHED : goal.returns-then-bytes-le-HASHED
returns-then-bytes-le-HASHED c = sym (take_all 32 c.args.bytes.now c.if-bytes-le-HASHED.true)

use Rattle.std.proofs.Common.{[], ◌∷◌, ◌++◌}
use Rattle.ba_record.specs.Coding.{counter_coding, protocol_code, endpoint_coding}
use Rattle.ba_record.proofs.Parts.{put_behind}
use Rattle.ba_record.proofs.writer.put_part.Goals as goal

pub returns : goal.returns
returns c =
    let out = c.args.out.now in
    let a = 4 ∷ counter_coding c.args.counter in
    let b = protocol_code c.args.protocol ∷ [] in
    let d = endpoint_coding c.args.registration.now in
    put_behind out c.put_counter.new.out c.put_endpoint.new.out a (b ++ d) c.put_counter.ensures
    (put_behind c.put_counter.new.out c.put_protocol.new.out c.put_endpoint.new.out b d c.put_protocol.ensures c.put_endpoint.ensures)

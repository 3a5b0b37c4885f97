use Rattle.std.proofs.Common.{[], ◌∷◌, ◌++◌}
use Rattle.ba_record.specs.Coding.{counter_coding, protocol_code, endpoint_coding}
use Rattle.ba_record.proofs.Parts.{put_behind}
use Rattle.ba_record.proofs.writer.put_end.Goals as goal

pub returns : goal.returns
returns c =
    let out = c.args.out.now in
    let new = c.put_endpoint.new.out in
    let a = 3 ∷ counter_coding c.args.counter in
    let b = counter_coding c.args.scope in
    let d = protocol_code c.args.protocol ∷ [] in
    let e = endpoint_coding c.args.participant.now in
    put_behind out c.put_counter.new.out new a (b ++ (d ++ e)) c.put_counter.ensures
    (put_behind c.put_counter.new.out c.put_long.new.out new b (d ++ e) c.put_long.ensures
    (put_behind c.put_long.new.out c.put_protocol.new.out new d e c.put_protocol.ensures c.put_endpoint.ensures))

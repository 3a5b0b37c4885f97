use Rattle.std.proofs.Common.{◌∷◌}
use Rattle.ba_record.specs.Coding.{counter_coding, endpoint_coding}
use Rattle.ba_record.proofs.Parts.{put_behind}
use Rattle.ba_record.proofs.writer.put_enrolled.Goals as goal

pub returns : goal.returns
returns c =
    put_behind c.args.out.now c.put_counter.new.out c.put_endpoint.new.out (5 ∷ counter_coding c.args.counter)
    (endpoint_coding c.args.coordinator.now)
    c.put_counter.ensures c.put_endpoint.ensures

use Rattle.std.proofs.Common.{Option, [], ◌∷◌, ◌++◌, ap, sym, ◌∙◌}
use Rattle.ba_core.specs.declared.protocols.Protocol.{Protocol}
use Rattle.ba_message.specs.declared.endpoints.Epr.{Epr}
use Rattle.ba_record.specs.Coding.{protocol_code, endpoint_coding, option_coding, upward_coding}
use Rattle.ba_record.specs.Rooms.{filled}
use Rattle.ba_record.proofs.Parts.{put_behind}
use Rattle.ba_record.proofs.writer.put_upward.Goals as goal

pub returns-in-Some : goal.returns-in-Some
returns-in-Some c =
    let out = c.args.out.now in
    let new = c.put_endpoint.new.out in
    let p = protocol_code c.in-Some.protocol ∷ [] in
    let e = endpoint_coding c.in-Some.registration in
    put_behind out c.put_byte-in-Some.new.out new (1 ∷ []) (p ++ e) c.put_byte-in-Some.ensures
    (put_behind c.put_byte-in-Some.new.out c.put_protocol.new.out new p e c.put_protocol.ensures c.put_endpoint.ensures)
    ∙ ap (λ (u : Option (Protocol × Epr)). filled out (option_coding upward_coding u)) (sym c.in-Some.is)

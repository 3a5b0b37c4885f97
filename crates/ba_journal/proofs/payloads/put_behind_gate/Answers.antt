use Rattle.std.proofs.Common.{length, arith, rules}
use Rattle.std.specs.Int.{w32, to_le_bytes}
use Rattle.ba_record.specs.Coding.{coding}
use Rattle.ba_journal.proofs.Framing.{frame_put}
use Rattle.ba_journal.proofs.payloads.put_behind_gate.Goals as goal

pub returns : goal.returns
returns c =
    let payload = coding c.args.r.now in
    frame_put c.args.room.now c.clear.new.self c.put_bytes.new.self c.put_in.new.room c.put_bytes-2.new.self
    (to_le_bytes w32 (length payload)) payload
    c.clear.ensures (search rules) c.put_in.ensures (search rules) (omega (arith, c.requires.size, c.requires.fits))

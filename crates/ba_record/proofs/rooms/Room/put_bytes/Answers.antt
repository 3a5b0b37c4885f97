use Rattle.std.proofs.Common.{◌≡◌, ◌≤◌, ◌+◌, length, take, subst, arith}
use Rattle.std.proofs.lemmas.List.{length-take}
use Rattle.ba_record.specs.Rooms.{filled}
use Rattle.ba_record.proofs.Filling.{went_in, kept_is}
use Rattle.ba_record.proofs.rooms.Room.put_bytes.Goals as goal

pub returns : goal.returns
returns c =
    let bytes = c.args.bytes.now in
    let inside = c.self.inside in
    let added = take c.min.result bytes in
    let e = c.extend_from_slice in
    let fits : inside.bytes.len + length added ≤ inside.bytes.cap = omega
    (arith, length-take c.min.result bytes, c.min.ensures, c.len.ensures, c.self.invariant.0, c.self.invariant.1, inside.bytes.ok.0) in
    let new =
    went_in e.result inside.bytes.items e.new.self.items added inside.bytes.len inside.bytes.cap e.ensures.items e.ensures.full fits in
    subst (λ room. record { bytes = e.new.self.items; size = inside.size } ≡ filled room bytes) c.self.view_is
    (kept_is inside.bytes.items e.new.self.items bytes inside.size c.min.result
    (omega (arith, c.min.ensures, c.len.ensures, inside.bytes.ok.0)) new)

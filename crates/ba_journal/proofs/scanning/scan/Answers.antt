use Rattle.std.proofs.Common.{◌-◌, length, drop, sym, take_all, arith, rules, length-drop}
use Rattle.ba_journal.proofs.Leading.{begun, gone_on, frame_length, long_enough}
use Rattle.ba_journal.proofs.scanning.scan.Goals as goal

pub frames-init : goal.frames-init
frames-init c =
    let file = c.args.file.now in
    let not_fresh = sym c.is_fresh.ensures in
    rw (c.new-records.ensures, take_all (length file - 16) (drop 16 file) (omega (arith, length-drop 16 file)))
    (begun file (long_enough file (search rules)))

pub frames-smaller : goal.frames-smaller
frames-smaller c =
    let long = frame_length c.frames.rest.now c.in-Some-next_frame.payload.now c.in-Some-next_frame.next.now
    c.in-Some-next_frame.ensures.some in
    omega (arith, long.0)

pub frames-preserved : goal.frames-preserved
frames-preserved c =
    let more = c.in_default-take_in.ensures.ok in
    rw more.2 (gone_on c.args.file.now c.frames.rest.now c.in-Some-next_frame.payload.now c.in-Some-next_frame.next.now
    c.frames.records more.0
    c.frames.invariant c.in-Some-next_frame.ensures.some more.1)

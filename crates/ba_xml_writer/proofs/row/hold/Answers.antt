use Rattle.ba_xml_writer.proofs.Collecting.{past_row}
use Rattle.ba_xml_writer.proofs.row.hold.Goals as goal

pub returns-in-Err-clause-many : goal.returns-in-Err-clause-many
returns-in-Err-clause-many c rest =
    past_row c.args.row.now.items c.as_slice.result.now c.args.space.now rest c.as_slice.ensures.value c.if-not-needs_number.ensures
    c.if-holds.ensures c.in-Err.ensures.full

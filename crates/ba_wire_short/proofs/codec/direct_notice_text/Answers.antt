use Rattle.std.proofs.Common.{Some, sym, ap, ◌∙◌}
use Rattle.ba_wire_short.proofs.DirectEnvelopes.{notice_told}
use Rattle.ba_wire_short.proofs.codec.direct_notice_text.Goals as goal

pub returns-in-Some-Some-None : goal.returns-in-Some-Some-None
returns-in-Some-Some-None c =
    notice_told c.args.route.now c.args.message.now (c.is_empty.ensures.0 c.if-not-is_empty.false)
    (sym c.is_direct.ensures ∙ c.if-not-is_direct.false)
    c.args.source.now c.as_slice.result.now c.as_slice-in-Some-Some-None.result.now
    (c.is_alone.ensures c.if-not-is_alone.false)
    (c.in-Some-Some-None.is-0 ∙ ap Some (sym c.as_slice.ensures))
    (c.in-Some-Some-None.is-1 ∙ ap Some (sym c.as_slice-in-Some-Some-None.ensures))
    c.in-Some-Some-None.is-2 c.direct_notice.result c.direct_notice.ensures

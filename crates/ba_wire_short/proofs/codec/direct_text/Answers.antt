use Rattle.std.proofs.Common.{Some, sym, ap, ◌∙◌}
use Rattle.ba_wire_short.proofs.DirectEnvelopes.{letter_told, reply_told}
use Rattle.ba_wire_short.proofs.codec.direct_text.Goals as goal

pub returns-in-Some-Some-None : goal.returns-in-Some-Some-None
returns-in-Some-Some-None c =
    letter_told c.args.route.now c.args.message.now (c.is_empty.ensures.0 c.if-not-is_empty.false)
    (sym c.is_direct.ensures ∙ c.if-not-is_direct.false)
    c.as_slice.result.now c.as_slice-in-Some-Some-None.result.now
    (c.in-Some-Some-None.is-0 ∙ ap Some (sym c.as_slice.ensures))
    (c.in-Some-Some-None.is-1 ∙ ap Some (sym c.as_slice-in-Some-Some-None.ensures))
    c.in-Some-Some-None.is-2 c.direct_letter.result c.direct_letter.ensures

pub returns-in-None-None-Some : goal.returns-in-None-None-Some
returns-in-None-None-Some c =
    reply_told c.args.route.now c.args.message.now (c.is_empty.ensures.0 c.if-not-is_empty.false)
    (sym c.is_direct.ensures ∙ c.if-not-is_direct.false)
    c.as_slice-in-None-None-Some.result.now c.in-None-None-Some.is-0 c.in-None-None-Some.is-1
    (c.in-None-None-Some.is-2 ∙ ap Some (sym c.as_slice-in-None-None-Some.ensures)) c.direct_reply.result c.direct_reply.ensures

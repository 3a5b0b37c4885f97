use Rattle.std.proofs.Common.{◌≡◌, ap, ◌∙◌, subst, take, drop, length, true, nat_eq}
use Rattle.std.specs.Cmp.Lexicographic.{pointwise}
use Rattle.ba_message.proofs.Dialed.{exactly_dialable}
use Rattle.ba_message.proofs.addresses.dialable.Goals as goal

pub returns-then-address-le-MOST_ADDRESS_BYTES : goal.returns-then-address-le-MOST_ADDRESS_BYTES
returns-then-address-le-MOST_ADDRESS_BYTES c =
    let stripped = c.in-Some.ensures.cases in
    let address = c.args.address.now in
    let scheme = c.as_slice.ensures in
    exactly_dialable address c.in-Some.rest.now c.host_follows.result
    (subst (λ s. pointwise nat_eq (take (length s) address) s ≡ true) scheme stripped.0)
    (stripped.1 ∙ ap (λ s. drop (length s) address) scheme) c.if-address-le-MOST_ADDRESS_BYTES.true c.host_follows.ensures

use Rattle.std.proofs.Common.{arith}
use Rattle.ba_record.proofs.SkipLemmas.{string_leaves}
use Rattle.ba_record.proofs.fields.Fields.skip_endpoint.Goals as goal

pub skip_parameters-requires : goal.skip_parameters-requires
skip_parameters-requires c =
    let less = string_leaves c.args.self.now.rest.now c.text.new.self.rest.now c.in_ok-_address._address.now c.in_ok-_address.ensures.ok in
    omega (arith, less, c.requires)

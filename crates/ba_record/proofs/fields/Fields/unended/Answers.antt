use Rattle.std.proofs.Common.{◌∙◌, ℕ, List, ap, sym, arith}
use Rattle.ba_message.specs.declared.endpoints.TheConstants.{MOST_ENDPOINT_BYTES}
use Rattle.ba_record.specs.Reading.{IsBytes, read, bad, read_any_endpoint, read_endpoint}
use Rattle.ba_record.specs.inside.Skips.{without_value}
use Rattle.ba_record.proofs.Exact.{front_bytes}
use Rattle.ba_record.proofs.Onward.{bad_at, was_bad, was_short}
use Rattle.ba_record.proofs.Shallow.{deep_and_ended, deep_is_bad, deep_is_short}
use Rattle.ba_record.proofs.SkipLemmas.{short_without}
use Rattle.ba_record.proofs.fields.Fields.unended.Goals as goal

pub returns-then-field-ge-MOST_BYTES : goal.returns-then-field-ge-MOST_BYTES
returns-then-field-ge-MOST_BYTES c =
    let field = c.args.field.now in
    let are : IsBytes field = λ i. omega (arith, c.type_inv.field i) in
    let is = deep_is_bad field (front_bytes MOST_ENDPOINT_BYTES field are) c.requires (λ none. c.if-field-ge-MOST_BYTES.true) in
    bad_at (read_endpoint field) field c.back_to.new.self.rest.now c.back_to.result is c.back_to.ensures.fault c.back_to.ensures.rest

pub returns-in-Err-Short : goal.returns-in-Err-Short
returns-in-Err-Short c =
    let field = c.args.field.now in
    let within = c.new-within.result.rest.now in
    let from = c.skip_endpoint.new.self.rest.now in
    let is = was_short (without_value (read_any_endpoint within)) from c.in-Err-Short.field-0 c.in-Err-Short.field-0-is
    c.in-Err-Short.ensures.fault in
    let none = ap read_any_endpoint (sym c.new-within.ensures) ∙ short_without (read_any_endpoint within) is in
    deep_is_short field c.if-field-ge-MOST_BYTES.false none

pub returns-in-Err-Bad : goal.returns-in-Err-Bad
returns-in-Err-Bad c =
    let field = c.args.field.now in
    let within = c.new-within.result.rest.now in
    let from = c.skip_endpoint.new.self.rest.now in
    let are : IsBytes field = λ i. omega (arith, c.type_inv.field i) in
    let ended = was_bad (without_value (read_any_endpoint within)) from c.in-Err-Bad.field-0 c.in-Err-Bad.field-0-is
    c.in-Err-Bad.ensures.fault in
    let here = ap (λ (xs : List ℕ). without_value (read_any_endpoint xs)) (sym c.new-within.ensures) ∙ ended in
    let is = deep_and_ended field (bad from) are c.if-field-ge-MOST_BYTES.false c.requires here (λ e. cc) in
    bad_at (read_endpoint field) field c.back_to-in-Err-Bad.new.self.rest.now c.back_to-in-Err-Bad.result is
    c.back_to-in-Err-Bad.ensures.fault c.back_to-in-Err-Bad.ensures.rest

pub returns-in-Ok : goal.returns-in-Ok
returns-in-Ok c =
    let field = c.args.field.now in
    let are : IsBytes field = λ i. omega (arith, c.type_inv.field i) in
    let here = ap (λ (xs : List ℕ). without_value (read_any_endpoint xs)) (sym c.new-within.ensures) ∙ c.in-Ok.ensures.ok in
    let ended = read tt c.skip_endpoint.new.self.rest.now in
    let is = deep_and_ended field ended are c.if-field-ge-MOST_BYTES.false c.requires here (λ e. cc) in
    bad_at (read_endpoint field) field c.back_to-in-Ok.new.self.rest.now c.back_to-in-Ok.result is
    c.back_to-in-Ok.ensures.fault c.back_to-in-Ok.ensures.rest

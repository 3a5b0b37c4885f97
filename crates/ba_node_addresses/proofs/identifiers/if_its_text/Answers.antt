use Rattle.std.proofs.Common.{◌≡◌, ℕ, List, Bool, true, false, None, Some, if◌then◌else◌, sym, ap, ◌∙◌}
use Rattle.std.specs.Str.{bytes_eq}
use Rattle.uuid.specs.Text.{hyphenated_text, lower}
use Rattle.ba_core.specs.declared.identifiers.Id.{Id}
use Rattle.ba_node_steps.specs.Addresses.{hyphenated}
use Rattle.ba_node_addresses.proofs.identifiers.if_its_text.Goals as goal

pub returns-then-eq : goal.returns-then-eq
unfolding hyphenated
returns-then-eq c =
    let written : c.as_bytes.result.now ≡ hyphenated c.args.id.0 =
    c.as_bytes.ensures.value ∙ c.encode_lower.ensures.text
    ∙ ap (hyphenated_text lower) (c.hyphenated-hyphenated.ensures ∙ c.from_u128.ensures) in
    let test : bytes_eq c.args.text.now (hyphenated c.args.id.0) ≡ true =
    ap (bytes_eq c.args.text.now) (sym written) ∙ sym c.eq.ensures ∙ c.if-eq.true in
    sym (ap (λ (b : Bool). if b then Some c.args.id else None) test)

pub returns-else-eq : goal.returns-else-eq
unfolding hyphenated
returns-else-eq c =
    let written : c.as_bytes.result.now ≡ hyphenated c.args.id.0 =
    c.as_bytes.ensures.value ∙ c.encode_lower.ensures.text
    ∙ ap (hyphenated_text lower) (c.hyphenated-hyphenated.ensures ∙ c.from_u128.ensures) in
    let test : bytes_eq c.args.text.now (hyphenated c.args.id.0) ≡ false =
    ap (bytes_eq c.args.text.now) (sym written) ∙ sym c.eq.ensures ∙ c.if-eq.false in
    sym (ap (λ (b : Bool). if b then Some c.args.id else None) test)

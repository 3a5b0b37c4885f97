use Rattle.std.proofs.Common.{◌≡◌, ◌++◌, List, ℕ, OnOk, ap, ◌∙◌, subst}
use Rattle.uuid.specs.Text.{hyphenated_text, lower}
use Rattle.ba_node_steps.specs.Addresses.{hyphenated}
use Rattle.ba_node_addresses.proofs.identifiers.append_text.Goals as goal

pub returns : goal.returns
unfolding hyphenated
returns c =
    let written : c.as_bytes.result.now ≡ hyphenated c.args.id.0 =
    c.as_bytes.ensures.value ∙ c.encode_lower.ensures.text
    ∙ ap (hyphenated_text lower) (c.hyphenated-hyphenated.ensures ∙ c.from_u128.ensures) in
    subst (λ (t : List ℕ). OnOk c.append.result (c.append.new.self ≡ c.args.out.now ++ t)) written c.append.ensures.ok

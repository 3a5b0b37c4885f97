use Rattle.std.proofs.Common.{◌≡◌, length, map, sym, ap, ◌∙◌, arith, true≢false}
use Rattle.std.proofs.lemmas.Bool.Decides.{nat_tests}
use Rattle.ba_message.specs.Endpoints.{all_namespaces}
use Rattle.ba_message.specs.declared.endpoints.TheConstants.{MOST_PARAMETER_NAMESPACES}
use Rattle.ba_tree.specs.Trees.{joined, spaces_named}
use Rattle.ba_tree.proofs.Firsts.{row_is_firsts, no_row_for}
use Rattle.ba_message.proofs.endpoints.name_few_spaces.Goals as goal

pub returns-in-Some : goal.returns-in-Some
returns-in-Some c =
    let row = row_is_firsts MOST_PARAMETER_NAMESPACES (joined (map spaces_named c.args.trees.now)) c.in-Some.spaces
    (sym c.note_trees.ensures ∙ c.in-Some.is) in
    let sized : c.into_len.result ≡ length (all_namespaces c.args.trees.now) = c.into_len.ensures ∙ ap length row in
    (λ h. grind (arith, nat_tests), λ h. grind (arith, nat_tests))

pub returns-in-None : goal.returns-in-None
returns-in-None c =
    let many = no_row_for MOST_PARAMETER_NAMESPACES (joined (map spaces_named c.args.trees.now))
    (sym c.note_trees.ensures ∙ c.in-None.is) in
    (λ h. absurd (true≢false (sym h)), λ h. absurd (omega (arith, many, h)))

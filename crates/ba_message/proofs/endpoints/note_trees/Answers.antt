use Rattle.std.proofs.Common.{◌<◌, ◌+◌, drop, map, length, sym, ap, ◌∙◌, arith}
use Rattle.ba_message.specs.declared.endpoints.TheConstants.{MOST_PARAMETER_NAMESPACES}
use Rattle.ba_tree.specs.Spaces.{go_on, all_noted}
use Rattle.ba_tree.specs.Trees.{joined, spaces_named}
use Rattle.ba_tree.proofs.SpaceLaws.{part_step}
use Rattle.ba_message.proofs.endpoints.note_trees.Goals as goal

pub returns-in_default : goal.returns-in_default
returns-in_default c =
    let trees = c.args.trees.now in
    let index = c.loop-tree.tree-index in
    let within : index < length trees = omega (arith, c.loop-tree-test.true) in
    let step = part_step spaces_named MOST_PARAMETER_NAMESPACES c.loop-tree.noted trees index c.tree-item.result c.note_spaces.result within
    c.tree-item.is c.note_spaces.ensures in
    sym (c.loop-tree.invariant ∙ step ∙ ap (λ o. go_on o
    (λ now. all_noted MOST_PARAMETER_NAMESPACES now (joined (map spaces_named (drop (index + 1) trees))))) c.in_default.is)

pub loop-tree-preserved : goal.loop-tree-preserved
loop-tree-preserved c =
    let trees = c.args.trees.now in
    let index = c.loop-tree.tree-index in
    let within : index < length trees = omega (arith, c.loop-tree-test.true) in
    let step = part_step spaces_named MOST_PARAMETER_NAMESPACES c.loop-tree.noted trees index c.tree-item.result c.note_spaces.result within
    c.tree-item.is c.note_spaces.ensures in
    c.loop-tree.invariant ∙ step ∙ ap (λ o. go_on o
    (λ now. all_noted MOST_PARAMETER_NAMESPACES now (joined (map spaces_named (drop (index + 1) trees))))) c.in-Some.is

use Rattle.std.proofs.Common.{◌<◌, ◌+◌, drop, map, length, sym, ap, ◌∙◌, arith}
use Rattle.ba_tree.specs.Spaces.{go_on, all_noted, spaces_within}
use Rattle.ba_tree.specs.Trees.{joined}
use Rattle.ba_tree.proofs.SpaceLaws.{part_step}
use Rattle.ba_tree.proofs.trees.+spaces.Goals as goal

pub note_content-returns-in_default : goal.note_content-returns-in_default
note_content-returns-in_default t c =
    let parts = c.args.content.now in
    let index = c.loop-part.part-index in
    let within : index < length parts = omega (arith, c.loop-part-test.true) in
    let step = part_step spaces_within c.args.most c.loop-part.noted parts index c.part-item.result c.note_spaces.result within
    c.part-item.is c.note_spaces.ensures in
    sym (c.loop-part.invariant ∙ step ∙ ap (λ o. go_on o
    (λ now. all_noted c.args.most now (joined (map spaces_within (drop (index + 1) parts))))) c.in_default.is)

pub note_content-loop-part-preserved : goal.note_content-loop-part-preserved
note_content-loop-part-preserved t c =
    let parts = c.args.content.now in
    let index = c.loop-part.part-index in
    let within : index < length parts = omega (arith, c.loop-part-test.true) in
    let step = part_step spaces_within c.args.most c.loop-part.noted parts index c.part-item.result c.note_spaces.result within
    c.part-item.is c.note_spaces.ensures in
    c.loop-part.invariant ∙ step ∙ ap (λ o. go_on o
    (λ now. all_noted c.args.most now (joined (map spaces_within (drop (index + 1) parts))))) c.in-Some.is

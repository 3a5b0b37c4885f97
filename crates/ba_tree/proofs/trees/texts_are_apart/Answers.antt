use Rattle.std.proofs.Common.{rules, tests, ◌&&◌, not}
use Rattle.std.proofs.lemmas.Fn.{always_returns_same}
use Rattle.ba_tree.specs.Trees.{is_text, within}
use Rattle.ba_tree.proofs.Adjacent.{adjacent_is}
use Rattle.ba_tree.proofs.trees.texts_are_apart.Goals as goal

pub returns : goal.returns
returns c = adjacent_is (λ c d. not (is_text (within c).part && is_text (within d).part)) _ _
    (c.is_sorted_by.ensures.cases (λ c d. not (is_text (within c).part && is_text (within d).part))
    (always_returns_same _ _ _ (λ a r f k. search (rules, tests))))

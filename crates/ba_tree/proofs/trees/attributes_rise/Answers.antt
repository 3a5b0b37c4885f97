use Rattle.std.proofs.Common.{rules, tests}
use Rattle.std.specs.Ordering.{is_lt}
use Rattle.std.proofs.lemmas.Fn.{always_returns_same}
use Rattle.ba_tree.specs.Trees.{name_cmp}
use Rattle.ba_tree.proofs.Adjacent.{adjacent_is}
use Rattle.ba_tree.proofs.trees.attributes_rise.Goals as goal

pub returns : goal.returns
returns c = adjacent_is (λ a b. is_lt (name_cmp a.name b.name)) _ _
    (c.is_sorted_by.ensures.cases (λ a b. is_lt (name_cmp a.name b.name)) (always_returns_same _ _ _ (λ a r f k. search (rules, tests))))

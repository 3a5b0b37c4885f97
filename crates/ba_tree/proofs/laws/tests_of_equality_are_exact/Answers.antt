use Rattle.ba_tree.proofs.SameTrees.{tells_contents, tells_trees}
use Rattle.ba_tree.proofs.laws.tests_of_equality_are_exact.Goals as goal

pub returns-clause-contents : goal.returns-clause-contents
returns-clause-contents c = tells_contents

pub returns-clause-trees : goal.returns-clause-trees
returns-clause-trees c = tells_trees

-- A tree in content is written as its parts say.
use Rattle.std.proofs.Common.{◌≡◌, ℕ, List, [], refl, ap, ◌∙◌}
use mathlib.Core.Former.{Count}
use Rattle.ba_tree.specs.declared.trees.Tree.{Tree}
use Rattle.ba_tree.specs.declared.trees.Content.{Child, Row_of-Content, end_of-Content, more_of-Content}
use Rattle.ba_tree.specs.declared.trees.Content.TheBlock.{hidden-the_row-Content-0, items-the_row-Content, items_hidden-the_row-Content-0}
use Rattle.ba_xml_writer.specs.Namespaces.{Declaration}
use Rattle.ba_xml_writer.specs.OneText.{item, items, row_items, element, tree_text, is_end, is_empty}

-- a row of content is written as the list of its items
pub row_is : {m : Count} (ds : List Declaration) (row : Row_of-Content m) (rest : List ℕ)
    → row_items ds row rest ≡ items ds (items-the_row-Content m row) rest
row_is ds end_of-Content rest = refl
row_is ds (more_of-Content c row) rest = ap (item ds c) (row_is ds row rest)

pub end_is : {m : Count} (row : Row_of-Content m) → is_end row ≡ is_empty (items-the_row-Content m row)
end_is end_of-Content = refl
end_is (more_of-Content c row) = refl

pub child_text : (ds : List Declaration) (t : Tree) (rest : List ℕ) → item ds (Child t) rest ≡ tree_text ds [] t rest
child_text ds t rest =
    λ i. element ds [] t.name t.attributes
    ((end_is (hidden-the_row-Content-0 t.content) ∙ ap is_empty (items_hidden-the_row-Content-0 t.content)) i)
    (λ more. (row_is ds (hidden-the_row-Content-0 t.content) more
    ∙ ap (λ cs. items ds cs more) (items_hidden-the_row-Content-0 t.content)) i)
    rest

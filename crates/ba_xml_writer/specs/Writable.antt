-- Believe: which trees keep the rules and limits of texts.
use Rattle.std.specs.Prelude.{◌+◌, ◌≤◌, Bool, IsTrue, length, nat_le}
use Rattle.std.specs.List.{list_all}
use Rattle.ba_tree.specs.Trees.{elements, levels, is_fit_tree}
use Rattle.ba_tree.specs.declared.trees.Tree.{Tree}
use Rattle.ba_xml_writer.specs.Namespaces.{declared, further}
use Rattle.ba_xml_writer.specs.OneText.{one_text}

-- the attributes of the root and the declarations are at most 32
abbrev pub HasRoom : Tree → Type 0
HasRoom t = length t.attributes + length (declared (further t)) ≤ 32

abbrev pub IsShort : Tree → Type 0
IsShort t = length (one_text t) ≤ 262144

abbrev pub has_few_attributes : Tree → Bool
has_few_attributes t = list_all (λ e. nat_le (length e.attributes) 32) (elements t)

pub record IsWritable (t : Tree) : Type 0 where
  -- each element has a plain name, attributes in rising order with plain names that declare nothing, texts
  -- that are neither empty nor beside another, and legal characters alone
  pub fit : IsTrue (is_fit_tree t)
  pub deep : levels t ≤ 32
  pub few : IsTrue (has_few_attributes t)
  pub room : HasRoom t
  pub short : IsShort t

-- Believe: the lengths of the codings of names and trees in a record.
use Rattle.std.specs.Prelude.{ℕ, ◌+◌, ◌-◌, ◌^◌, min, List, length}
use Rattle.std.specs.List.{sum, sum_by}
use Rattle.ba_tree.specs.declared.trees.Tree.{Tree}
use Rattle.ba_tree.specs.declared.trees.Name.{Name}
use Rattle.ba_tree.specs.declared.trees.Attribute.{Attribute}
use Rattle.ba_tree.specs.declared.trees.Content.{Content}
use Rattle.ba_tree.specs.declared.trees.Content.TheOpen.{Content-F, Tree-F}
use Rattle.ba_tree.specs.declared.trees.Content.TheFolds.{fold-Content, fold-Tree}

-- A length or a count takes as many bytes where it is too great for its field.

-- a length in two bytes, and the bytes
abbrev pub text_length : List ℕ → ℕ
text_length bytes = 2 + length bytes

-- the namespace and the local part
abbrev pub name_length : Name → ℕ
name_length n = text_length n.space + text_length n.local

-- the name and the value
abbrev pub attribute_length : Attribute → ℕ
attribute_length a = name_length a.name + text_length a.value

-- a byte that tells a text from an element, and the text or the element
abbrev pub content_length : Content-F ℕ ℕ → ℕ
content_length (Content-F.Text t) = 1 + text_length t
content_length (Content-F.Child n) = 1 + n

-- the name; the count of attributes in a byte, and the attributes; the count of parts in two bytes, and the parts
abbrev pub element_length : Tree-F ℕ ℕ → ℕ
element_length t = name_length t.name + ((1 + sum_by attribute_length t.attributes) + (2 + sum t.content))

abbrev pub tree_length : Tree → ℕ
tree_length = fold-Tree ℕ ℕ content_length element_length

abbrev pub part_length : Content → ℕ
part_length = fold-Content ℕ ℕ content_length element_length

-- the number, and the greatest u64 in place of a greater one
abbrev pub in_u64 : ℕ → ℕ
in_u64 n = min n (2 ^ 64 - 1)

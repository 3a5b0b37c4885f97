-- Inside: rows of attributes in rising order of their names, and where a search among them ends.
use Rattle.ba_tree.specs.Trees.{name_cmp}
use Rattle.std.specs.Prelude.{ℕ, List, [], ◌∷◌, ◌≡◌, Result, Ok, Err}
use Rattle.std.specs.declared.cmp.Ordering.TheVariants as order
use Rattle.ba_tree.specs.declared.trees.Attribute.{Attribute}
use Rattle.ba_tree.specs.declared.trees.Name.{Name}
use Rattle.ba_xml_names.specs.declared.spaces.Spot.{Spot}
use Rattle.ba_xml_names.specs.declared.spaces.Spot.TheVariants.{At, Taken}

-- each row's name is above this one
abbrev pub IsBelow : Name → List Attribute → Type 0
IsBelow name [] = Unit {0}
IsBelow name (row ∷ rows) = (name_cmp name row.name ≡ order.Less) × IsBelow name rows

abbrev pub AreRising : List Attribute → Type 0
AreRising [] = Unit {0}
AreRising (row ∷ rows) = IsBelow row.name rows × AreRising rows

-- a search that finds a row leaves no place
abbrev pub gap_of : Result ℕ ℕ → Spot
gap_of (Ok index) = Taken
gap_of (Err index) = At index

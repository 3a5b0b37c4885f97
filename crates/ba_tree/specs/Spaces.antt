-- Believe: how a row with a limit takes namespaces one after another, each once and no empty one.
use Rattle.std.specs.Prelude.{ℕ, Bool, true, false, ◌||◌, List, [], ◌∷◌, ◌++◌, length, map, nat_lt, bytes_eq, Some, None}
use Rattle.std.specs.declared.option.Option.{Option}
use Rattle.std.specs.List.{list_any}
use Rattle.ba_tree.specs.declared.trees.Content.{Content}
use Rattle.ba_tree.specs.Trees.{joined, named_spaces, within}

-- the row has the namespace already, or there is none
abbrev pub is_noted : List (List ℕ) → List ℕ → Bool
is_noted known x = bytes_eq x [] || list_any (bytes_eq x) known

-- the row after one namespace more; none where it would be too long
abbrev pub noted : ℕ → List (List ℕ) → List ℕ → Option (List (List ℕ))
noted most known x = elim (is_noted known x)
    [ true ↦ Some known | false ↦ elim (nat_lt (length known) most) [ true ↦ Some (known ++ x ∷ []) | false ↦ None ] ]

abbrev pub go_on : Option (List (List ℕ)) → (List (List ℕ) → Option (List (List ℕ))) → Option (List (List ℕ))
go_on None more = None
go_on (Some known) more = more known

-- the row after several namespaces
abbrev pub all_noted : ℕ → List (List ℕ) → List (List ℕ) → Option (List (List ℕ))
all_noted most known [] = Some known
all_noted most known (x ∷ xs) = go_on (noted most known x) (λ now. all_noted most now xs)

-- the namespaces that the elements in a part of an element name
abbrev pub spaces_within : Content → List (List ℕ)
spaces_within c = joined (map named_spaces (within c).elements)

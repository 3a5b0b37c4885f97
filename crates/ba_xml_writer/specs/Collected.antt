-- Inside: what a writer holds of the namespaces that it has met, and which it meets on its way.
use Rattle.std.specs.Prelude.{ℕ, not, ◌&&◌, List, [], ◌∷◌, ◌++◌, if◌then◌else◌, map}
use Rattle.std.specs.List.{list_any}
use Rattle.std.specs.Str.{bytes_eq}
use Rattle.ba_tree.specs.Trees.{named_spaces, joined, within}
use Rattle.ba_tree.specs.declared.trees.Attribute.{Attribute}
use Rattle.ba_tree.specs.declared.trees.Content.{Content}
use Rattle.ba_xml_writer.specs.Namespaces.{is_further}

-- these, and then each further one that is met and not held yet
abbrev pub taken : List (List ℕ) → List (List ℕ) → List (List ℕ)
taken held [] = held
taken held (s ∷ more) = taken (if is_further s && not (list_any (bytes_eq s) held) then held ++ s ∷ [] else held) more

-- the namespaces of these attributes, and then others
abbrev pub spaces_with : List Attribute → List (List ℕ) → List (List ℕ)
spaces_with [] rest = rest
spaces_with (a ∷ more) rest = a.name.space ∷ spaces_with more rest

-- those that are named in a piece of content
abbrev pub spaces_of : Content → List (List ℕ)
spaces_of c = joined (map named_spaces (within c).elements)

-- those that are named in these pieces, and then others
abbrev pub spaces_in : List Content → List (List ℕ) → List (List ℕ)
spaces_in [] rest = rest
spaces_in (c ∷ more) rest = spaces_of c ++ spaces_in more rest

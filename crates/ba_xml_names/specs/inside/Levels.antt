-- Inside: the elements that are open, and what a piece of a text adds to them.
use Rattle.std.specs.Prelude.{ℕ, List, [], ◌∷◌, ◌++◌}
use Rattle.ba_tree.specs.declared.trees.Content.{Content}
use Rattle.ba_tree.specs.declared.trees.Content.TheVariants.{Child, Text}
use Rattle.ba_tree.specs.declared.trees.Tree.{Tree}
use Rattle.ba_xml_names.specs.declared.levels.Level.{Level}
use Rattle.ba_xml_names.specs.declared.levels.Opening.{Opening}
use Rattle.ba_xml_names.specs.declared.levels.Place.{Place}
use Rattle.ba_xml_names.specs.declared.levels.Place.TheVariants.{Before, Within, Behind}

abbrev pub put : Level → ℕ → Level
put here b = record here { text = here.text ++ b ∷ [] }

abbrev pub put_all : Level → List ℕ → Level
put_all here bytes = record here { text = here.text ++ bytes }

-- empty texts are left out
abbrev pub text_item : List ℕ → List Content
text_item [] = []
text_item (b ∷ bs) = Text (b ∷ bs) ∷ []

abbrev pub settled : Level → Level
settled here = record here { content = here.content ++ text_item here.text; text = [] }

abbrev pub with_child : Level → Tree → Level
with_child here child = record here { content = here.content ++ Child child ∷ [] }

abbrev pub tree_of : Level → Tree
tree_of here = record { name = here.name; attributes = here.attributes; content = here.content ++ text_item here.text }

abbrev pub child_level : Opening → List ℕ → Level
child_level o bytes = record {
  spelled = bytes;
  name = o.name;
  attributes = o.attributes;
  declarations = o.declarations;
  content = [];
  text = [];
}

abbrev pub empty_tree : Opening → Tree
empty_tree o = record { name = o.name; attributes = o.attributes; content = [] }

abbrev pub place_outside : List Content → Place
place_outside [] = Before
place_outside (c ∷ cs) = Behind

-- where the next piece stands
abbrev pub place_of : List Level → Level → Place
place_of [] here = place_outside here.content
place_of (parent ∷ outer) here = Within

-- Inside: start tags as far as they are read.
use Rattle.std.specs.Prelude.{ℕ, List, [], ◌∷◌, ◌++◌}
use Rattle.ba_xml_words.specs.declared.names.RawAttribute.{RawAttribute}
use Rattle.ba_xml_names.specs.declared.tags.Tag.{Tag}

abbrev pub with_attribute : Tag → RawAttribute → Tag
with_attribute tag a = record { name = tag.name; attributes = tag.attributes ++ a ∷ [] }

abbrev pub with_value : RawAttribute → List ℕ → RawAttribute
with_value a bytes = record { name = a.name; value = a.value ++ bytes }

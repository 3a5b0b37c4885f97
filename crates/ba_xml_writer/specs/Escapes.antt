-- Inside: which escapes hold where, and what is left to write of bytes that are written in runs.
use Rattle.std.specs.Prelude.{ℕ, ◌-◌, List, ◌++◌, take, drop}
use Rattle.ba_xml_writer.specs.OneText.{Escape, text_escapes, value_escapes, escaped}
use Rattle.ba_xml_writer.specs.declared.scribe.Place.{Place}
use Rattle.ba_xml_writer.specs.declared.scribe.Place.TheVariants.{Text, Value}

abbrev pub escapes_of : Place → List Escape
escapes_of Text = text_escapes
escapes_of Value = value_escapes

-- what is to be written once the bytes from `start` to `at` are known to be written as themselves
abbrev pub waiting : Place → List ℕ → ℕ → ℕ → List ℕ → List ℕ
waiting place bytes start at rest =
    take (at - start) (drop start bytes) ++ escaped (escapes_of place) (drop at bytes) rest

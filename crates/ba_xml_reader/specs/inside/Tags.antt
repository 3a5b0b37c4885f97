-- Inside: what a byte does in start tags and end tags.
use Rattle.std.specs.Prelude.{ℕ, List, [], ◌∷◌, length, Bool, true, false, cond, ◌==◌, nat_lt, Option, Some, None, encode_utf8}
use Rattle.ba_xml_names.specs.inside.Levels.{settled, with_child, tree_of, child_level, empty_tree}
use Rattle.ba_xml_words.specs.inside.Names.{spelled, one_letter, grown, is_written}
use Rattle.ba_xml_names.specs.Namespaces.{opening, scope}
use Rattle.ba_xml_words.specs.inside.References.{referred}
use Rattle.ba_xml_words.specs.inside.Remaining.{met}
use Rattle.ba_xml_words.specs.declared.classes.Class.{Class}
use Rattle.ba_xml_words.specs.declared.classes.Class.TheVariants as class
use Rattle.ba_xml_words.specs.declared.faults.Reason.TheVariants.{Syntax, Namespace, Attributes}
use Rattle.ba_xml_names.specs.declared.levels.Level.{Level}
use Rattle.ba_xml_names.specs.declared.levels.Opening.{Opening}
use Rattle.ba_xml_words.specs.declared.names.RawName.{RawName}
use Rattle.ba_xml_words.specs.declared.names.RawAttribute.{RawAttribute}
use Rattle.ba_xml_words.specs.declared.names.Naming.{Naming}
use Rattle.ba_xml_words.specs.declared.names.Naming.TheVariants as naming
use Rattle.ba_xml_words.specs.declared.references.Partial.{Partial}
use Rattle.ba_xml_words.specs.declared.references.Partial.TheVariants.{Nothing}
use Rattle.ba_xml_words.specs.declared.references.Referred.{Referred}
use Rattle.ba_xml_words.specs.declared.references.Referred.TheVariants as referred'
use Rattle.ba_xml_words.specs.declared.remaining.Meeting.{Meeting}
use Rattle.ba_xml_words.specs.declared.remaining.Meeting.TheVariants as meeting
use Rattle.ba_xml_reader.specs.declared.states.Seen.TheVariants.{Zero}
use Rattle.ba_xml_names.specs.declared.tags.Tag.{Tag}
use Rattle.ba_xml_reader.specs.declared.states.Mode.TheVariants as mode
use Rattle.ba_xml_reader.specs.declared.states.State.{State}
use Rattle.ba_xml_reader.specs.declared.states.State.TheVariants.{Refused, At}
use Rattle.ba_xml_names.specs.inside.Tags.{with_attribute, with_value}

abbrev pub no_value : RawName → RawAttribute
no_value name = record { name = name; value = [] }

abbrev pub slashed_at : List Level → Level → Option Opening → State
slashed_at outer here None = Refused Namespace
slashed_at outer here (Some o) = At outer here (mode.Slashed o)

abbrev pub opened_at : List Level → Level → List ℕ → Option Opening → State
opened_at outer here name None = Refused Namespace
opened_at outer here name (Some o) = At (settled here ∷ outer) (child_level o name) (mode.Inside Zero)

abbrev pub begun_attribute : List Level → Level → Tag → Bool → ℕ → State
begun_attribute outer here tag false b = Refused Syntax
begun_attribute outer here tag true b =
    cond (nat_lt (length tag.attributes) 32) (At outer here (mode.AttributeName tag (one_letter b))) (Refused Attributes)

abbrev pub in_tag_after : List Level → Level → Tag → Bool → ℕ → Class → State
in_tag_after outer here tag spaced b class.Space = At outer here (mode.InTag tag true)
in_tag_after outer here tag spaced b class.Slash = slashed_at outer here (opening (scope (here ∷ outer)) tag)
in_tag_after outer here tag spaced b class.Greater = opened_at outer here (spelled tag.name) (opening (scope (here ∷ outer)) tag)
in_tag_after outer here tag spaced b class.Letter = begun_attribute outer here tag spaced b
in_tag_after outer here tag spaced b _ = Refused Syntax

abbrev pub tag_name_by : List Level → Level → ℕ → Class → Naming → State
tag_name_by outer here b k naming.Wrong = Refused Syntax
tag_name_by outer here b k (naming.On name) = At outer here (mode.TagName name)
tag_name_by outer here b k (naming.Whole name) = in_tag_after outer here (record { name = name; attributes = [] }) false b k

abbrev pub tag_name_after : List Level → Level → RawName → ℕ → Class → State
tag_name_after outer here name b k = tag_name_by outer here b k (grown name b k)

abbrev pub equals_after : List Level → Level → Tag → RawName → Class → State
equals_after outer here tag name class.Space = At outer here (mode.Equals tag name)
equals_after outer here tag name class.EqualsSign = At outer here (mode.Quote tag name)
equals_after outer here tag name _ = Refused Syntax

-- no name stands twice in a tag
abbrev pub name_ended : List Level → Level → Tag → RawName → Class → State
name_ended outer here tag name k = cond (is_written name tag.attributes) (Refused Syntax) (equals_after outer here tag name k)

abbrev pub attribute_name_by : List Level → Level → Tag → Class → Naming → State
attribute_name_by outer here tag k naming.Wrong = Refused Syntax
attribute_name_by outer here tag k (naming.On name) = At outer here (mode.AttributeName tag name)
attribute_name_by outer here tag k (naming.Whole name) = name_ended outer here tag name k

abbrev pub attribute_name_after : List Level → Level → Tag → RawName → ℕ → Class → State
attribute_name_after outer here tag name b k = attribute_name_by outer here tag k (grown name b k)

abbrev pub quote_after : List Level → Level → Tag → RawName → ℕ → Class → State
quote_after outer here tag name b class.Space = At outer here (mode.Quote tag name)
quote_after outer here tag name b class.Apostrophe = At outer here (mode.Value tag (no_value name) b)
quote_after outer here tag name b class.DoubleQuote = At outer here (mode.Value tag (no_value name) b)
quote_after outer here tag name b _ = Refused Syntax

abbrev pub value_more : List Level → Level → Tag → RawAttribute → ℕ → ℕ → State
value_more outer here tag a quote b = At outer here (mode.Value tag (with_value a (b ∷ [])) quote)

-- white space counts as a space
abbrev pub value_by : List Level → Level → Tag → RawAttribute → ℕ → ℕ → Class → State
value_by outer here tag a quote b class.Less = Refused Syntax
value_by outer here tag a quote b class.Control = Refused Syntax
value_by outer here tag a quote b class.Ampersand = At outer here (mode.ValueReference tag a quote Nothing)
value_by outer here tag a quote b class.Space = value_more outer here tag a quote 32
value_by outer here tag a quote b _ = value_more outer here tag a quote b

abbrev pub value_after : List Level → Level → Tag → RawAttribute → ℕ → ℕ → Class → State
value_after outer here tag a quote b k = cond (b == quote) (At outer here (mode.InTag (with_attribute tag a) false))
    (value_by outer here tag a quote b k)

abbrev pub value_reference_by : List Level → Level → Tag → RawAttribute → ℕ → Referred → State
value_reference_by outer here tag a quote referred'.Wrong = Refused Syntax
value_reference_by outer here tag a quote (referred'.On more) = At outer here (mode.ValueReference tag a quote more)
value_reference_by outer here tag a quote (referred'.Meant c) = At outer here (mode.Value tag (with_value a (encode_utf8 c)) quote)

abbrev pub value_reference_after : List Level → Level → Tag → RawAttribute → ℕ → Partial → ℕ → State
value_reference_after outer here tag a quote partial b = value_reference_by outer here tag a quote (referred partial b)

abbrev pub slashed_after : List Level → Level → Opening → Class → State
slashed_after outer here o class.Greater = At outer (with_child (settled here) (empty_tree o)) (mode.Inside Zero)
slashed_after outer here o _ = Refused Syntax

abbrev pub end_name_by : List Level → Level → Meeting → State
end_name_by outer here meeting.Wrong = Refused Syntax
end_name_by outer here (meeting.On rest) = At outer here (mode.EndName rest)
end_name_by outer here meeting.Whole = At outer here mode.EndSpace

abbrev pub end_name_after : List Level → Level → List ℕ → ℕ → State
end_name_after outer here rest b = end_name_by outer here (met rest b)

-- the document has no end tag
abbrev pub closed : List Level → Level → State
closed [] here = Refused Syntax
closed (parent ∷ outer) here = At outer (with_child parent (tree_of here)) (mode.Inside Zero)

abbrev pub end_space_after : List Level → Level → Class → State
end_space_after outer here class.Space = At outer here mode.EndSpace
end_space_after outer here class.Greater = closed outer here
end_space_after outer here _ = Refused Syntax

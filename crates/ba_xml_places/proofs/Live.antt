-- What holds of each state that the machine comes to: parts of names are parts of names, numbers aren't too large, and so on.
use Rattle.std.proofs.Common.{◌≡◌, ℕ, ◌<◌, ◌≤◌, Bool, not, ◌&&◌, nat_lt, List, [], ◌∷◌, length}
use Rattle.ba_xml_reader.proofs.SoundNames.{IsPart}
use Rattle.ba_xml_grammar.specs.GrammarWords.{Each, IsName, IsQuote}
use Rattle.ba_xml_words.specs.inside.References.{entity_text}
use Rattle.ba_xml_names.specs.declared.levels.Level.{Level}
use Rattle.ba_xml_words.specs.declared.faults.Reason.{Reason}
use Rattle.ba_xml_words.specs.declared.faults.Reason.TheVariants as reason
use Rattle.ba_xml_words.specs.declared.headings.Declared.{Declared}
use Rattle.ba_xml_words.specs.declared.headings.Declared.TheVariants as declared'
use Rattle.ba_xml_words.specs.declared.headings.Heading.{Heading}
use Rattle.ba_xml_words.specs.declared.headings.Heading.TheVariants as heading'
use Rattle.ba_xml_words.specs.declared.references.Partial.{Partial}
use Rattle.ba_xml_words.specs.declared.references.Partial.TheVariants.{Nothing, LetterA, Named, Hash, HashX, Number}
use Rattle.ba_xml_words.specs.declared.references.Referred.{Referred}
use Rattle.ba_xml_words.specs.declared.references.Referred.TheVariants as referred'
use Rattle.ba_xml_reader.specs.declared.states.Mode.{Mode}
use Rattle.ba_xml_reader.specs.declared.states.Mode.TheVariants as mode
use Rattle.ba_xml_reader.specs.declared.states.State.{State}
use Rattle.ba_xml_reader.specs.declared.states.State.TheVariants.{Refused, At}

-- from 20 to 7F
abbrev pub is_plain : ℕ → Bool
is_plain b = nat_lt b 128 && not (nat_lt b 32)

abbrev pub ArePlain : List ℕ → Type 0
ArePlain bytes = Each is_plain bytes

-- the names of these elements are plain
abbrev pub PlainLevels : List Level → Type 0
PlainLevels [] = Unit {0}
PlainLevels (level ∷ outer) = ArePlain level.spelled × PlainLevels outer

-- an element is open
abbrev pub IsWithin : List Level → Type 0
IsWithin [] = ⊥
IsWithin (parent ∷ outer) = Unit {0}

abbrev pub LivePartial : Partial → Type 0
LivePartial Nothing = Unit {0}
LivePartial LetterA = Unit {0}
LivePartial (Named e count) = count < length (entity_text e)
LivePartial Hash = Unit {0}
LivePartial HashX = Unit {0}
LivePartial (Number radix value) = value ≤ 0x10_FFFF

abbrev pub LiveReferred : Referred → Type 0
LiveReferred referred'.Wrong = Unit {0}
LiveReferred (referred'.On partial) = LivePartial partial
LiveReferred (referred'.Meant c) = Unit {0}

abbrev pub LiveHeading : Heading → Type 0
LiveHeading (heading'.Target count) = Unit {0}
LiveHeading (heading'.Blank spaced) = Unit {0}
LiveHeading (heading'.Behind i spaced) = Unit {0}
LiveHeading (heading'.Word i count) = Unit {0}
LiveHeading (heading'.Equals i) = Unit {0}
LiveHeading (heading'.Quote i) = Unit {0}
LiveHeading (heading'.Said i quote s count) = IsQuote quote
LiveHeading (heading'.SaidAll i quote) = IsQuote quote
LiveHeading heading'.Close = Unit {0}

abbrev pub LiveDeclared : Declared → Type 0
LiveDeclared declared'.Wrong = Unit {0}
LiveDeclared (declared'.On h) = LiveHeading h
LiveDeclared declared'.Whole = Unit {0}

-- what a state may refuse a byte for: not for UTF-8, size or an early end
abbrev pub IsOfState : Reason → Type 0
IsOfState reason.NotUtf8 = ⊥
IsOfState reason.Size = ⊥
IsOfState reason.Truncated = ⊥
IsOfState _ = Unit {0}

-- where this is the last byte
abbrev pub LiveMode : ℕ → List Level → Mode → Type 0
LiveMode last outer mode.Begin = Unit {0}
LiveMode last outer mode.MarkOne = last ≡ 0xEF
LiveMode last outer mode.MarkTwo = last ≡ 0xBB
LiveMode last outer mode.First = Unit {0}
LiveMode last outer mode.FirstOpen = Unit {0}
LiveMode last outer (mode.Declaring h) = LiveHeading h
LiveMode last outer (mode.Inside seen) = Unit {0}
LiveMode last outer mode.Open = Unit {0}
LiveMode last outer mode.Exclaimed = Unit {0}
LiveMode last outer mode.Hyphened = Unit {0}
LiveMode last outer (mode.Comment seen) = Unit {0}
LiveMode last outer (mode.Bracketed count) = Unit {0}
LiveMode last outer (mode.Section body seen) = Unit {0}
LiveMode last outer (mode.Reference partial) = LivePartial partial
LiveMode last outer (mode.TagName name) = IsPart name
LiveMode last outer (mode.InTag t spaced) = IsName t.name
LiveMode last outer (mode.AttributeName t name) = IsName t.name × IsPart name
LiveMode last outer (mode.Equals t name) = IsName t.name
LiveMode last outer (mode.Quote t name) = IsName t.name
LiveMode last outer (mode.Value t a quote) = IsName t.name × IsQuote quote
LiveMode last outer (mode.ValueReference t a quote partial) = IsName t.name × IsQuote quote × LivePartial partial
LiveMode last outer (mode.Slashed o) = Unit {0}
LiveMode last outer (mode.EndName name) = IsWithin outer × ArePlain name
LiveMode last outer mode.EndSpace = IsWithin outer

abbrev pub PlainAround : List Level → Level → Type 0
PlainAround outer here = ArePlain here.spelled × PlainLevels outer

abbrev pub Live : ℕ → State → Type 0
Live last (Refused r) = IsOfState r
Live last (At outer here m) = PlainAround outer here × LiveMode last outer m

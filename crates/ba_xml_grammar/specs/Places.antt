-- Believe: why bytes are no text of XML, and where: each cause with its place, and the answer, by the least of the places.
use Rattle.std.specs.Prelude.{◌≡◌, ℕ, ◌+◌, false, ◌<◌, ◌≤◌, ◌⊎◌, None, Result, Ok, Err, List, [], ◌∷◌, ◌++◌, length, take, Contains, IsUtf8}
use Rattle.ba_tree.specs.declared.trees.Tree.{Tree}
use Rattle.ba_xml_names.specs.Namespaces.{opening, first_scope}
use Rattle.ba_xml_grammar.specs.Grammar.{Pair, Start, Pieces, nothing, character, reference, section, comment, empty, element, Document}
use Rattle.ba_xml_grammar.specs.Grammar.{written, written_misc, written_end, written_attribute, written_pairs, written_tag}
use Rattle.ba_xml_grammar.specs.Grammar.{written_document, tag, meant}
use Rattle.ba_xml_grammar.specs.GrammarTexts.{lines, IsWrittenAs, IsXmlText, CanContinue}
use Rattle.ba_xml_words.specs.declared.faults.Reason.{Reason}
use Rattle.ba_xml_words.specs.declared.faults.Reason.TheVariants as reason
use Rattle.ba_xml_words.specs.declared.faults.XmlFault.{XmlFault}
use Rattle.ba_xml_words.specs.declared.faults.XmlFault.TheVariants as fault
use Rattle.ba_xml_names.specs.declared.levels.Declaration.{Declaration}

-- ---- the start tags of a text

pub record Standing : Type 0 where
  -- the root stands at level 1
  pub level : ℕ
  -- the declarations that hold around it
  pub scope : List Declaration
  pub start : Start
  -- the bytes from its ">" or "/>" on, up to the text's end
  pub closing : List ℕ

abbrev pub standing : ℕ → List Declaration → Start → List ℕ → Standing
standing level scope s closing = record { level = level; scope = scope; start = s; closing = closing }

-- the start tags of pieces that stand at this level, where these declarations hold and these bytes follow
abbrev pub standings : ℕ → List Declaration → Pieces → List ℕ → List Standing
standings level scope nothing rest = []
standings level scope (character b more) rest = standings level scope more rest
standings level scope (reference r more) rest = standings level scope more rest
standings level scope (section body more) rest = standings level scope more rest
standings level scope (comment body more) rest = standings level scope more rest
standings level scope (empty s more) rest = standing level scope s (47 ∷ 62 ∷ written more rest) ∷ standings level scope more rest
standings level scope (element s inside space more) rest =
    standing level scope s (62 ∷ written inside (written_end s.name space (written more rest)))
    ∷ (standings (level + 1) ((meant scope s).declarations ++ scope) inside (written_end s.name space (written more rest))
    ++ standings level scope more rest)

abbrev pub document_standings : Document → List Standing
document_standings d = standings 1 first_scope d.root (written_misc d.behind [])

-- ---- places, which count bytes from 0

-- the byte at this place adds nothing to the text: it is the second of a line end (section 2.11)
abbrev pub EndsLine : List ℕ → ℕ → Type 0
EndsLine bytes place = lines false (take (place + 1) bytes) ≡ lines false (take place bytes)

-- a byte of the text is at this place, and from it on the text, its line ends being one byte each, is this
abbrev pub IsAt : List ℕ → ℕ → Document → List ℕ → Type 0
IsAt bytes place d rest = (lines false (take place bytes) ++ rest ≡ written_document d) × (EndsLine bytes place → ⊥)

-- the bytes up to and with the one at this place are the front of this document, whatever its prefixes mean and its size
abbrev pub IsFrontOf : List ℕ → ℕ → Document → Type 0
IsFrontOf bytes place d = (place < length bytes) × (more : List ℕ) × IsWrittenAs (take (place + 1) bytes ++ more) d

-- with the byte at this place the bytes have no continuation, without it they have
abbrev pub IsDead : List ℕ → ℕ → Type 0
IsDead bytes place = (place < length bytes) × CanContinue (take place bytes) × (CanContinue (take (place + 1) bytes) → ⊥)

-- some UTF-8 text begins so
abbrev pub BeginsUtf8 : List ℕ → Type 0
BeginsUtf8 front = (more : List ℕ) × IsUtf8 (front ++ more)

-- a start tag of some document that the bytes begin stands so that this of its bytes are at the place
abbrev pub SomeTag : List ℕ → ℕ → (Document → Standing → Type 0) → Type 0
SomeTag bytes place here = (d : Document) × IsFrontOf bytes place d × (t : Standing) × Contains (document_standings d) t × here d t

-- the name of a tag at level 33 begins here
abbrev pub IsTooDeep : List ℕ → ℕ → Document → Standing → Type 0
IsTooDeep bytes place d t = (t.level ≡ 33) × IsAt bytes place d (written_tag t.start t.closing)

-- the name of a 33rd attribute begins here
abbrev pub IsOneTooMany : List ℕ → ℕ → Document → Standing → Type 0
IsOneTooMany bytes place d t = (first : List Pair) × (a : Pair) × (more : List Pair) × (t.start.pairs ≡ first ++ a ∷ more)
    × (length first ≡ 32)
    × IsAt bytes place d (written_attribute a (written_pairs more (t.start.space ++ t.closing)))

-- a tag that no declarations explain ends here
abbrev pub IsUnexplained : List ℕ → ℕ → Document → Standing → Type 0
IsUnexplained bytes place d t = (opening t.scope (tag t.start) ≡ None) × IsAt bytes place d t.closing

-- ---- causes

-- this is a reason to refuse the bytes at this place
abbrev pub IsCause : List ℕ → Reason → ℕ → Type 0
IsCause bytes reason.NotUtf8 place = IsDead bytes place × (BeginsUtf8 (take (place + 1) bytes) → ⊥)
IsCause bytes reason.Syntax place = IsDead bytes place × BeginsUtf8 (take (place + 1) bytes)
IsCause bytes reason.Truncated place = ⊥
IsCause bytes reason.Namespace place = SomeTag bytes place (IsUnexplained bytes place)
IsCause bytes reason.Depth place = SomeTag bytes place (IsTooDeep bytes place)
IsCause bytes reason.Size place = (262144 < length bytes) × (place ≡ 262144)
IsCause bytes reason.Attributes place = SomeTag bytes place (IsOneTooMany bytes place)

abbrev pub number_of : Reason → ℕ
number_of reason.NotUtf8 = 1
number_of reason.Syntax = 2
number_of reason.Truncated = 3
number_of reason.Namespace = 4
number_of reason.Depth = 5
number_of reason.Size = 6
number_of reason.Attributes = 7

-- the least place, and there the reason with the lowest number
abbrev pub IsLeast : List ℕ → Reason → ℕ → Type 0
IsLeast bytes why place = (r : Reason) (n : ℕ) → IsCause bytes r n → (place < n) ⊎ ((place ≡ n) × (number_of why ≤ number_of r))

-- the bytes end before the text does
abbrev pub IsTruncated : List ℕ → Type 0
IsTruncated bytes = ((r : Reason) (n : ℕ) → IsCause bytes r n → ⊥) × ((tree : Tree) → IsXmlText bytes tree → ⊥)

abbrev pub IsRefused : List ℕ → Reason → ℕ → Type 0
IsRefused bytes reason.Truncated place = IsTruncated bytes × (place ≡ length bytes)
IsRefused bytes why place = IsCause bytes why place × IsLeast bytes why place

-- what is said of the bytes: the tree of which they are a text, or why and where they are none
abbrev pub IsAnswerOf : List ℕ → Result Tree XmlFault → Type 0
IsAnswerOf bytes (Ok tree) = IsXmlText bytes tree
IsAnswerOf bytes (Err fault.Memory) = ⊥
IsAnswerOf bytes (Err (fault.At why place)) = IsRefused bytes why place

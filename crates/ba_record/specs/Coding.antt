-- Believe: the one coding of numbers, strings, trees, endpoints and records. Numbers are written lowest byte first.
use Rattle.std.specs.Prelude.{ℕ, ◌<◌, ◌≤◌, ◌^◌, List, [], ◌∷◌, ◌++◌, length, map, Option, None, Some}
use Rattle.std.specs.Int.{w8, w16, w32, w64, to_le_bytes}
use Rattle.ba_core.specs.declared.notices.Act.{Act}
use Rattle.ba_core.specs.declared.notices.Act.TheVariants as act
use Rattle.ba_core.specs.declared.protocols.Kind.{Kind}
use Rattle.ba_core.specs.declared.protocols.Kind.TheVariants.{Atomic, Mixed}
use Rattle.ba_core.specs.declared.protocols.Protocol.{Protocol}
use Rattle.ba_core.specs.declared.protocols.Protocol.TheVariants.{Pc, Cc}
use Rattle.ba_core.specs.declared.protocols.Verdict.{Verdict}
use Rattle.ba_core.specs.declared.protocols.Verdict.TheVariants.{Close, Undo}
use Rattle.ba_tree.specs.declared.trees.Name.{Name}
use Rattle.ba_tree.specs.declared.trees.Attribute.{Attribute}
use Rattle.ba_tree.specs.declared.trees.Tree.{Tree}
use Rattle.ba_tree.specs.declared.trees.Content.{Content}
use Rattle.ba_tree.specs.declared.trees.Content.TheOpen.{Content-F, Tree-F}
use Rattle.ba_tree.specs.declared.trees.Content.TheFolds.{fold-Content, fold-Tree}
use Rattle.ba_core.specs.Messages.{notice_code}
use Rattle.ba_message.specs.declared.endpoints.Epr.{Epr}
use Rattle.ba_message.specs.Endpoints.{Fits}
use Rattle.ba_tree.specs.Trees.{joined}
use Rattle.ba_record.specs.Endpoints.{IsBase}
use Rattle.ba_record.specs.declared.records.Record.{Record}
use Rattle.ba_record.specs.declared.records.Record.TheVariants.{Node, Scope, End, Part, Enrolled, Refused, Received, Acted, Decided, Chosen}
use Rattle.ba_record.specs.declared.records.Record.TheVariants.{Ticked, Asked}

-- ---- strings and trees

-- a length of two bytes, and the bytes
abbrev pub string_coding : List ℕ → List ℕ
string_coding bytes = to_le_bytes w16 (length bytes) ++ bytes

abbrev pub name_coding : Name → List ℕ
name_coding name = string_coding name.space ++ string_coding name.local

abbrev pub attribute_coding : Attribute → List ℕ
attribute_coding attribute = name_coding attribute.name ++ string_coding attribute.value

-- a byte 0 and a text, or a byte 1 and a tree
abbrev pub layer_of_content : Content-F (List ℕ) (List ℕ) → List ℕ
layer_of_content (Content-F.Text text) = 0 ∷ string_coding text
layer_of_content (Content-F.Child tree) = 1 ∷ tree

-- the name, a count of one byte and the attributes, a count of two bytes and the content
abbrev pub layer_of_tree : Tree-F (List ℕ) (List ℕ) → List ℕ
layer_of_tree tree =
    name_coding tree.name
    ++ ((to_le_bytes w8 (length tree.attributes) ++ joined (map attribute_coding tree.attributes))
    ++ (to_le_bytes w16 (length tree.content) ++ joined tree.content))

unfoldable pub tree_coding : Tree → List ℕ
tree_coding = fold-Tree (List ℕ) (List ℕ) layer_of_content layer_of_tree

unfoldable pub content_coding : Content → List ℕ
content_coding = fold-Content (List ℕ) (List ℕ) layer_of_content layer_of_tree

-- ---- fields

-- the address, a count of one byte and the parameters
abbrev pub endpoint_coding : Epr → List ℕ
endpoint_coding epr = string_coding epr.address ++ (to_le_bytes w8 (length epr.parameters) ++ joined (map tree_coding epr.parameters))

abbrev pub counter_coding : ℕ → List ℕ
counter_coding n = to_le_bytes w64 n

abbrev pub kind_code : Kind → ℕ
kind_code Atomic = 1
kind_code Mixed = 2

abbrev pub protocol_code : Protocol → ℕ
protocol_code Pc = 1
protocol_code Cc = 2

abbrev pub verdict_code : Verdict → ℕ
verdict_code Close = 1
verdict_code Undo = 2

abbrev pub act_code : Act → ℕ
act_code act.Completed = 1
act_code act.Closed = 2
act_code act.Canceled = 3
act_code act.Compensated = 4
act_code act.Fail = 5
act_code act.Exit = 6
act_code act.CannotComplete = 7

-- a byte 0, or a byte 1 and the value
abbrev pub option_coding : {A : Type 0} → (A → List ℕ) → Option A → List ℕ
option_coding coding None = 0 ∷ []
option_coding coding (Some a) = 1 ∷ coding a

abbrev pub upward_coding : Protocol × Epr → List ℕ
upward_coding upward = protocol_code upward.0 ∷ endpoint_coding upward.1

-- ---- records: the number of the kind, and the fields one after another

abbrev pub coding : Record → List ℕ
coding (Node number base) = 1 ∷ (to_le_bytes w32 number ++ string_coding base)
coding (Scope counter kind deadline upward) =
    2 ∷ (counter_coding counter ++ (kind_code kind ∷ (option_coding (to_le_bytes w64) deadline ++ option_coding upward_coding upward)))
coding (End counter scope protocol participant) =
    3 ∷ (counter_coding counter ++ (counter_coding scope ++ (protocol_code protocol ∷ endpoint_coding participant)))
coding (Part counter protocol registration) = 4 ∷ (counter_coding counter ++ (protocol_code protocol ∷ endpoint_coding registration))
coding (Enrolled counter coordinator) = 5 ∷ (counter_coding counter ++ endpoint_coding coordinator)
coding (Refused counter code) = 6 ∷ (counter_coding counter ++ code ∷ [])
coding (Received counter n) = 7 ∷ (counter_coding counter ++ notice_code n ∷ [])
coding (Acted counter a) = 8 ∷ (counter_coding counter ++ act_code a ∷ [])
coding (Decided counter verdict) = 9 ∷ (counter_coding counter ++ verdict_code verdict ∷ [])
coding (Chosen counter choice) = 10 ∷ (counter_coding counter ++ choice ∷ [])
coding (Ticked counter) = 11 ∷ counter_coding counter
coding (Asked counter) = 12 ∷ counter_coding counter

-- ---- the range of each field

-- a number from 1 of 64 bits
abbrev pub IsCounter : ℕ → Type 0
IsCounter n = (1 ≤ n) × (n < 2 ^ 64)

-- a number from 1 up to the greatest
abbrev pub IsFrom1 : ℕ → ℕ → Type 0
IsFrom1 greatest n = (1 ≤ n) × (n ≤ greatest)

abbrev pub IsDeadline : Option ℕ → Type 0
IsDeadline None = Unit {0}
IsDeadline (Some moment) = moment < 2 ^ 64

abbrev pub IsUpward : Option (Protocol × Epr) → Type 0
IsUpward None = Unit {0}
IsUpward (Some upward) = Fits upward.1

-- each field of the record is in its range
abbrev pub InRange : Record → Type 0
InRange (Node number base) = ((1 ≤ number) × (number < 2 ^ 32)) × IsBase base
InRange (Scope counter kind deadline upward) = IsCounter counter × (IsDeadline deadline × IsUpward upward)
InRange (End counter scope protocol participant) = IsCounter counter × (IsCounter scope × Fits participant)
InRange (Part counter protocol registration) = IsCounter counter × Fits registration
InRange (Enrolled counter coordinator) = IsCounter counter × Fits coordinator
InRange (Refused counter code) = IsCounter counter × IsFrom1 2 code
InRange (Received counter n) = IsCounter counter × IsFrom1 15 (notice_code n)
InRange (Acted counter a) = IsCounter counter
InRange (Decided counter verdict) = IsCounter counter
InRange (Chosen counter choice) = IsCounter counter × IsFrom1 3 choice
InRange (Ticked counter) = IsCounter counter
InRange (Asked counter) = IsCounter counter

-- Believe: what `check` promises: the input is one envelope, and the name of its message and the canonical text of what it
-- says are printed.
use Rattle.std.specs.Prelude.{◌≡◌, ℕ, ◌≤◌, Bool, true, false, List, [], ◌++◌, length, codes, Option, IsTrue}
use Rattle.std.specs.Io.KnownBytes.{Keeps}
use Rattle.ba_cmd_check.specs.declared.checks.CheckFault.{CheckFault}
use Rattle.ba_cmd_check.specs.declared.checks.CheckFault.TheVariants as fault
use Rattle.ba_cmd_check.specs.declared.checks.TheConstants.{MOST_TEXT}
use Rattle.ba_message.specs.declared.messages.Message.{Message}
use Rattle.ba_ports.specs.Whole.{IsTooLong, WritesPrefixOf}
use Rattle.ba_soap.specs.Envelopes.{soap11}
use Rattle.ba_tree.specs.declared.trees.Tree.{Tree}
use Rattle.ba_wire.specs.Actions.{body_name}
use Rattle.ba_wire.specs.Elements.{body_of_message}
use Rattle.ba_wire.specs.Envelopes.{envelope_text, envelope_tree, is_known}
use Rattle.ba_wire.specs.Meaning.{IsNoMessage, Means}
use Rattle.ba_wire.specs.declared.faults.WireFault.{WireFault}
use Rattle.ba_wire.specs.declared.meaning.Decoded.{Decoded}
use Rattle.ba_xml_grammar.specs.GrammarTexts.{IsXmlText}
use Rattle.ba_xml_writer.specs.Writable.{IsWritable}

-- ---- what is printed

-- `message` and the name of the body's element
abbrev pub first_line : Message → List ℕ
first_line m = codes "message " ++ (body_name (body_of_message m) ++ codes "\n")

-- the canonical text, of a message that names nothing unknown
abbrev pub text_line : Bool → Decoded → List ℕ
text_line true d = envelope_text d.route d.message ++ codes "\n"
text_line false d = []

-- the report of a message: its first line, and the text's
abbrev pub report_of : Decoded → List ℕ
report_of d = first_line d.message ++ text_line (is_known d.message) d

-- what a message's text has to keep to, where it is printed
abbrev pub MayBePrinted : Decoded → Type 0
MayBePrinted d = IsTrue (is_known d.message) → IsWritable (envelope_tree d.route d.message)

-- this is the report of the message that the input means
pub record IsReport (input text : List ℕ) : Type 0 where
  pub tree : Tree
  pub decoded : Decoded
  pub reads : IsXmlText input tree
  pub means : Means soap11 tree decoded
  pub writable : MayBePrinted decoded
  pub is : text ≡ report_of decoded

-- ---- why nothing is printed

-- The input is no longer than a text may be, and no message, for this reason. Nothing was written.
pub record RefusesText (input : List ℕ) (why : WireFault) (before now : Option (List ℕ)) : Type 0 where
  pub small : length input ≤ MOST_TEXT
  pub refused : IsNoMessage input why
  pub kept : Keeps before now

-- The input means a message whose envelope doesn't keep to the limits of texts. Nothing was written.
pub record RefusesTree (input : List ℕ) (before now : Option (List ℕ)) : Type 0 where
  pub small : length input ≤ MOST_TEXT
  pub tree : Tree
  pub decoded : Decoded
  pub reads : IsXmlText input tree
  pub means : Means soap11 tree decoded
  pub unwritable : MayBePrinted decoded → ⊥
  pub kept : Keeps before now

-- why a check of this input ended early, and what it had written, where this was left to read
abbrev pub StopsCheck : List ℕ → Option (List ℕ) → Option (List ℕ) → Option (List ℕ) → CheckFault → Type 0
StopsCheck input rest before now fault.Memory = Keeps before now
StopsCheck input rest before now fault.Read = Keeps before now
StopsCheck input rest before now fault.Write = WritesPrefixOf (IsReport input) before now
StopsCheck input rest before now fault.TooLong = IsTooLong MOST_TEXT input rest before now
StopsCheck input rest before now fault.Unwritable = RefusesTree input before now
StopsCheck input rest before now (fault.Refused why) = RefusesText input why before now

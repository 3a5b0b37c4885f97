-- Inside: why no report is printed for bytes that were read whole.
use Rattle.std.specs.Prelude.{ℕ, List, Option}
use Rattle.std.specs.Io.KnownBytes.{Keeps}
use Rattle.ba_cmd_check.specs.Checks.{IsReport, MayBePrinted}
use Rattle.ba_cmd_check.specs.declared.checks.CheckFault.{CheckFault}
use Rattle.ba_cmd_check.specs.declared.checks.CheckFault.TheVariants as fault
use Rattle.ba_ports.specs.Whole.{WritesPrefixOf}
use Rattle.ba_soap.specs.Envelopes.{soap11}
use Rattle.ba_tree.specs.declared.trees.Tree.{Tree}
use Rattle.ba_wire.specs.Meaning.{IsNoMessage, Means}
use Rattle.ba_wire.specs.declared.meaning.Decoded.{Decoded}
use Rattle.ba_xml_grammar.specs.GrammarTexts.{IsXmlText}
use Rattle.ba_xml_writer.specs.Writable.{IsWritable}

-- why the text of a tree isn't appended; want of memory says nothing of it
abbrev pub HasNoText : Tree → CheckFault → Type 0
HasNoText tree fault.Unwritable = IsWritable tree → ⊥
HasNoText tree fault.Memory = Unit {0}
HasNoText tree _ = ⊥

-- why a message has no report that is printed; want of memory says nothing of it
abbrev pub HasNoLines : Decoded → CheckFault → Type 0
HasNoLines d fault.Unwritable = MayBePrinted d → ⊥
HasNoLines d fault.Memory = Unit {0}
HasNoLines d _ = ⊥

-- why these bytes have no report that is printed; want of memory says nothing of them
abbrev pub HasNoReport : List ℕ → CheckFault → Type 0
HasNoReport bytes fault.Unwritable =
    (tree : Tree) × (decoded : Decoded) × IsXmlText bytes tree × Means soap11 tree decoded × (MayBePrinted decoded → ⊥)
HasNoReport bytes (fault.Refused why) = IsNoMessage bytes why
HasNoReport bytes fault.Memory = Unit {0}
HasNoReport bytes _ = ⊥

-- why the report of these bytes wasn't printed whole: a prefix of them was written, or there are none
abbrev pub StopsPrint : List ℕ → Option (List ℕ) → Option (List ℕ) → CheckFault → Type 0
StopsPrint bytes before now fault.Write = WritesPrefixOf (IsReport bytes) before now
StopsPrint bytes before now why = HasNoReport bytes why × Keeps before now

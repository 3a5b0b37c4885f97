-- Inside: why no listing is printed for a file that was read whole.
use Rattle.std.specs.Prelude.{ℕ, List, Option}
use Rattle.std.specs.Io.KnownBytes.{Keeps}
use Rattle.ba_journal.specs.Frames.{IsNoJournal}
use Rattle.ba_cmd_journal.specs.Journals.{IsListing}
use Rattle.ba_cmd_journal.specs.declared.journals.ListFault.{ListFault}
use Rattle.ba_cmd_journal.specs.declared.journals.ListFault.TheVariants as fault
use Rattle.ba_ports.specs.Whole.{WritesPrefixOf}

-- why no listing is printed for this file; want of memory says nothing of it
abbrev pub HasNoListing : List ℕ → ListFault → Type 0
HasNoListing file (fault.NoJournal place) = IsNoJournal file place
HasNoListing file fault.Memory = Unit {0}
HasNoListing file _ = ⊥

-- why this file's listing wasn't printed whole: a prefix of it was written, or there is none
abbrev pub StopsPrinting : List ℕ → Option (List ℕ) → Option (List ℕ) → ListFault → Type 0
StopsPrinting file before now fault.Write = WritesPrefixOf (IsListing file) before now
StopsPrinting file before now why = HasNoListing file why × Keeps before now

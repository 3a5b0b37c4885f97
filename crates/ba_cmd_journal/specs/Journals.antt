-- Believe: what `journal` promises: the input is a journal's file, and its listing is printed.
use Rattle.std.specs.Prelude.{◌≡◌, ℕ, ◌≤◌, List, length, Option}
use Rattle.std.specs.Io.KnownBytes.{Keeps}
use Rattle.ba_journal.specs.Frames.{IsNoJournal}
use Rattle.ba_journal.specs.Scans.{Scans}
use Rattle.ba_journal.specs.declared.scans.Scan.{Scan}
use Rattle.ba_cmd_journal.specs.Listing.{listing}
use Rattle.ba_cmd_journal.specs.declared.journals.ListFault.{ListFault}
use Rattle.ba_cmd_journal.specs.declared.journals.ListFault.TheVariants as fault
use Rattle.ba_cmd_journal.specs.declared.journals.TheConstants.{MOST_FILE}
use Rattle.ba_ports.specs.Whole.{IsTooLong, WritesPrefixOf}

-- This lists what the file holds.
pub record IsListing (file text : List ℕ) : Type 0 where
  pub found : Scan
  pub holds : Scans file found
  pub is : text ≡ listing found

-- The input is no longer than a file may be, and is no journal's: that shows at this place. Nothing was written.
pub record RefusesJournal (input : List ℕ) (place : ℕ) (before now : Option (List ℕ)) : Type 0 where
  pub small : length input ≤ MOST_FILE
  pub refused : IsNoJournal input place
  pub kept : Keeps before now

-- why a listing of this input ended early, and what it had written, where this was left to read
abbrev pub StopsListing : List ℕ → Option (List ℕ) → Option (List ℕ) → Option (List ℕ) → ListFault → Type 0
StopsListing input rest before now fault.Memory = Keeps before now
StopsListing input rest before now fault.Read = Keeps before now
StopsListing input rest before now fault.Write = WritesPrefixOf (IsListing input) before now
StopsListing input rest before now fault.TooLong = IsTooLong MOST_FILE input rest before now
StopsListing input rest before now (fault.NoJournal place) = RefusesJournal input place before now

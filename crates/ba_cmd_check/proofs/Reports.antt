-- What a message that was read says of its report, for the clauses of `report` and `check`.
use Rattle.std.proofs.Common.{◌≡◌, ℕ, ◌≤◌, List, ◌++◌, length, codes, Option, Some, None, Result, Ok, Err, IfErr, IfOk, IfSome, OnOk}
use Rattle.std.proofs.Common.{◌∙◌, subst}
use Rattle.ba_cmd_check.specs.Checks.{IsReport, MayBePrinted, StopsCheck, report_of}
use Rattle.ba_cmd_check.specs.declared.checks.CheckFault.{CheckFault}
use Rattle.ba_cmd_check.specs.declared.checks.CheckFault.TheVariants as fault
use Rattle.ba_cmd_check.specs.declared.checks.TheConstants.{MOST_TEXT}
use Rattle.ba_cmd_check.specs.inside.Printing.{HasNoLines, HasNoReport, HasNoText, StopsPrint}
use Rattle.ba_wire_limits.proofs.ReadMessages.{IsDecoded}
use Rattle.ba_tree.specs.declared.trees.Tree.{Tree}
use Rattle.ba_wire.specs.declared.meaning.Decoded.{Decoded}
use Rattle.ba_xml_writer.specs.OneText.{one_text}
use Rattle.ba_xml_writer.specs.Writable.{IsWritable}

pub reported : (bytes text : List ℕ) (d : Decoded) → IsDecoded bytes d → MayBePrinted d → text ≡ report_of d → IsReport bytes text
reported bytes text d meant may is = record {
  tree = meant.0;
  decoded = d;
  reads = meant.1;
  means = meant.2;
  writable = may;
  is = is;
}

pub unreported : (bytes : List ℕ) (d : Decoded) (f : CheckFault) → IsDecoded bytes d → HasNoLines d f → HasNoReport bytes f
unreported bytes d fault.Unwritable meant lacks = (meant.0, d, meant.1, meant.2, lacks)
unreported bytes d fault.Memory meant lacks = tt
unreported bytes d fault.Read meant lacks = absurd lacks
unreported bytes d fault.Write meant lacks = absurd lacks
unreported bytes d fault.TooLong meant lacks = absurd lacks
unreported bytes d (fault.Refused why) meant lacks = absurd lacks

-- the same of what `report_of` returned
pub reported_of : (r : Result (List ℕ) CheckFault) (bytes : List ℕ) (d : Decoded) → IsDecoded bytes d
    → OnOk r (MayBePrinted d) → IfOk r (λ text. text ≡ report_of d) → IfOk r (IsReport bytes)
reported_of (Ok text) bytes d meant may is = reported bytes text d meant may is
reported_of (Err f) bytes d meant may is = tt

pub unreported_of : (r : Result (List ℕ) CheckFault) (bytes : List ℕ) (d : Decoded) → IsDecoded bytes d
    → IfErr r (HasNoLines d) → IfErr r (HasNoReport bytes)
unreported_of (Ok text) bytes d meant lacks = tt
unreported_of (Err f) bytes d meant lacks = unreported bytes d f meant lacks

-- what stopped the printing stopped the check
pub stops_check : (input : List ℕ) (rest before now : Option (List ℕ)) (f : CheckFault) → length input ≤ MOST_TEXT
    → StopsPrint input before now f → StopsCheck input rest before now f
stops_check input rest before now fault.Memory small stops = stops.1
stops_check input rest before now fault.Read small stops = absurd stops.0
stops_check input rest before now fault.Write small stops = stops
stops_check input rest before now fault.TooLong small stops = absurd stops.0
stops_check input rest before now fault.Unwritable small stops = record {
  small = small;
  tree = stops.0.0;
  decoded = stops.0.1;
  reads = stops.0.2;
  means = stops.0.3;
  unwritable = stops.0.4;
  kept = stops.1;
}
stops_check input rest before now (fault.Refused why) small stops = record { small = small; refused = stops.0; kept = stops.1 }

-- the same of what the printing of these bytes returned, which were the whole input
pub stops_of : {A : Type 0} (r : Result A CheckFault) (left rest before now : Option (List ℕ)) (taken bytes : List ℕ)
    → IfSome left (λ input. taken ≡ input) → length taken ≤ MOST_TEXT → bytes ≡ taken → IfErr r (StopsPrint bytes before now)
    → IfErr r (λ f. IfSome left (λ input. StopsCheck input rest before now f))
stops_of (Ok done) left rest before now taken bytes whole small same stops = tt
stops_of (Err f) None rest before now taken bytes whole small same stops = tt
stops_of (Err f) (Some input) rest before now taken bytes whole small same stops =
    stops_check input rest before now f
    (subst (λ (b : List ℕ). length b ≤ MOST_TEXT) whole small)
    (subst (λ (b : List ℕ). StopsPrint b before now f) (same ∙ whole) stops)

-- what `append_tree` says of a tree it says of the one that is meant
module _ {A : Type 0} (r : Result A CheckFault) (old new : List ℕ) (tree wanted : Tree) (same : tree ≡ wanted) where
  pub appended_of : OnOk r (new ≡ old ++ (one_text tree ++ codes "\n")) → OnOk r (new ≡ old ++ (one_text wanted ++ codes "\n"))
  appended_of is = subst (λ (t : Tree). OnOk r (new ≡ old ++ (one_text t ++ codes "\n"))) same is

  pub writable_of : OnOk r (IsWritable tree) → OnOk r (IsWritable wanted)
  writable_of is = subst (λ (t : Tree). OnOk r (IsWritable t)) same is

  pub lacking_of : IfErr r (HasNoText tree) → IfErr r (HasNoText wanted)
  lacking_of is = subst (λ (t : Tree). IfErr r (HasNoText t)) same is

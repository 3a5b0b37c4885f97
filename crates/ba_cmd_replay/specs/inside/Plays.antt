-- Inside: how a play breaks off, what is held of it, and the faults of a replay by those of its parts.
use Rattle.std.specs.Prelude.{◌≡◌, ℕ, ◌⊎◌, List, [], ◌++◌, Option, None, Some}
use Rattle.std.specs.Io.KnownBytes.{Appends, Keeps}
use Rattle.ba_pair.specs.PairPlay.{Effect, Play}
use Rattle.ba_ports.specs.Outputs.{WritesPart}
use Rattle.ba_script.specs.Printer.{numbered_line, shown_lines}
use Rattle.ba_script.specs.declared.scripts.ScriptFault.{ScriptFault}
use Rattle.ba_script.specs.declared.scripts.ScriptFault.TheVariants as script
use Rattle.ba_cmd_replay.specs.Replay.{WritesFirstLines}
use Rattle.ba_cmd_replay.specs.declared.faults.ReplayFault.{ReplayFault}
use Rattle.ba_cmd_replay.specs.declared.faults.ReplayFault.TheVariants as fault
use Rattle.ba_cmd_replay.specs.declared.plays.PlayFault.{PlayFault}
use Rattle.ba_cmd_replay.specs.declared.plays.PlayFault.TheVariants as played

-- a play that broke off: what was written of it, and why
abbrev pub BreaksOff : Play → Option (List ℕ) → Option (List ℕ) → PlayFault → Type 0
BreaksOff p before now (played.NoSuchMessage number) = (p.stopped_at ≡ Some number) × Appends before now (shown_lines p.lines)
BreaksOff p before now (played.NoSuchName number) = ⊥
BreaksOff p before now played.Write = WritesPart before now (shown_lines p.lines)
BreaksOff p before now played.Memory = WritesFirstLines p.lines before now

-- what an event's effect shows
abbrev pub effect_text : ℕ → Option Effect → List ℕ
effect_text number None = []
effect_text number (Some effect) = numbered_line number effect.1

-- one event broke off a play: what was written since of the text before it and of its own line, and why
abbrev pub BreaksOffAt : ℕ → Option Effect → List ℕ → Option (List ℕ) → Option (List ℕ) → PlayFault → Type 0
BreaksOffAt number effect text before now (played.NoSuchMessage at) = (effect ≡ None) × (at ≡ number) × Appends before now text
BreaksOffAt number effect text before now (played.NoSuchName at) = ⊥
BreaksOffAt number effect text before now played.Write = WritesPart before now (text ++ effect_text number effect)
BreaksOffAt number effect text before now played.Memory = Keeps before now

-- a text was written and nothing is held, or nothing was written and the text is held
abbrev pub GoesOutOrStays : Option (List ℕ) → List ℕ → Option (List ℕ) → List ℕ → Type 0
GoesOutOrStays before text now held = (Keeps before now × (held ≡ text)) ⊎ (Appends before now text × (held ≡ []))

-- the fault of a replay whose script wasn't read
abbrev pub unread_fault : ScriptFault → ReplayFault
unread_fault script.Memory = fault.Memory
unread_fault script.Read = fault.Read
unread_fault (script.BadLine number column) = fault.BadLine number column
unread_fault script.TooManyLines = fault.TooManyLines

-- the fault of a replay whose play broke off
abbrev pub unplayed_fault : PlayFault → ReplayFault
unplayed_fault played.Memory = fault.Memory
unplayed_fault played.Write = fault.Write
unplayed_fault (played.NoSuchName number) = fault.NoSuchName number
unplayed_fault (played.NoSuchMessage number) = fault.NoSuchMessage number

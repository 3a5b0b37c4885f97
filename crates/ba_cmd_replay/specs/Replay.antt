-- Believe: what `replay` promises, by its answer.
use Rattle.std.specs.Prelude.{◌≡◌, ℕ, ◌+◌, ◌-◌, ◌⊎◌, List, take, Option, None, Some}
use Rattle.std.specs.Io.KnownBytes.{Appends, Keeps}
use Rattle.ba_core.specs.declared.protocols.Protocol.{Protocol}
use Rattle.ba_pair.specs.PairPlay.{Numbered, play, IsSafePlay}
use Rattle.ba_pair.specs.PairState.{starting_pair}
use Rattle.ba_pair.specs.declared.lines.Line.{Line}
use Rattle.ba_world_play.specs.Shows.{Halt}
use Rattle.ba_world_play.specs.declared.missing.Missing.{Missing}
use Rattle.ba_world_play.specs.declared.missing.Missing.TheVariants as missing
use Rattle.ba_ports.specs.Inputs.{TakesAtMost}
use Rattle.ba_ports.specs.Lines.{lines_of, byte_count}
use Rattle.ba_ports.specs.Outputs.{WritesPart}
use Rattle.ba_script.specs.Printer.{shown_lines}
use Rattle.ba_script.specs.Scripts.{IsPairScript, IsBadScript, IsLongScript, lookahead}
use Rattle.ba_script.specs.declared.scripts.TheConstants.{MOST_LINES}
use Rattle.ba_cmd_replay.specs.WorldReplay.{PrintsStory, PrintsStoryUpTo, PrintsFirstOfStory, PrintsPartOfStory}
use Rattle.ba_cmd_replay.specs.declared.faults.ReplayFault.{ReplayFault}
use Rattle.ba_cmd_replay.specs.declared.faults.ReplayFault.TheVariants as fault
-- no more of a source is taken
pub use Rattle.ba_script.specs.Scripts.{most_of_script}

-- the first so many lines were written, each whole, and nothing more
abbrev pub WritesFirstLines : List (ℕ × Line) → Option (List ℕ) → Option (List ℕ) → Type 0
WritesFirstLines lines before now = (count : ℕ) × Appends before now (shown_lines (take count lines))

-- The input is a script of a pair, and its whole play, which is safe, was written.
pub record PrintsPlay (input : List ℕ) (before now : Option (List ℕ)) : Type 0 where
  pub protocol : Protocol
  pub events : List Numbered
  pub script : IsPairScript input protocol events
  pub whole : (play (starting_pair protocol) events).stopped_at ≡ None
  pub written : Appends before now (shown_lines (play (starting_pair protocol) events).lines)
  pub safe : IsSafePlay (play (starting_pair protocol) events)

-- The input is a script, and its play was written up to the event of this line, which can't be played.
pub record PrintsUpTo (input : List ℕ) (number : ℕ) (before now : Option (List ℕ)) : Type 0 where
  pub protocol : Protocol
  pub events : List Numbered
  pub script : IsPairScript input protocol events
  pub stopped : (play (starting_pair protocol) events).stopped_at ≡ Some number
  pub written : Appends before now (shown_lines (play (starting_pair protocol) events).lines)
  pub safe : IsSafePlay (play (starting_pair protocol) events)

-- The input is a script, and the first lines of its play were written, each whole.
pub record PrintsFirstLines (input : List ℕ) (before now : Option (List ℕ)) : Type 0 where
  pub protocol : Protocol
  pub events : List Numbered
  pub script : IsPairScript input protocol events
  pub written : WritesFirstLines (play (starting_pair protocol) events).lines before now
  pub safe : IsSafePlay (play (starting_pair protocol) events)

-- The input is a script, and a prefix of its play was written, which may end anywhere.
pub record PrintsPrefix (input : List ℕ) (before now : Option (List ℕ)) : Type 0 where
  pub protocol : Protocol
  pub events : List Numbered
  pub script : IsPairScript input protocol events
  pub written : WritesPart before now (shown_lines (play (starting_pair protocol) events).lines)
  pub safe : IsSafePlay (play (starting_pair protocol) events)

-- The input is refused at its first bad line, which has this number and is bad at this column. Nothing was written,
-- and little was read past the line.
pub record RefusesLine (input : List ℕ) (number column : ℕ) (rest before now : Option (List ℕ)) : Type 0 where
  pub bad : IsBadScript input number column
  pub kept : Keeps before now
  pub taken : TakesAtMost (Some input) rest (byte_count (take (number - 1) (lines_of input)) + lookahead)

-- The input has too many lines. Nothing was written, and little was read past the last line that it may have.
pub record RefusesLength (input : List ℕ) (rest before now : Option (List ℕ)) : Type 0 where
  pub long : IsLongScript input
  pub kept : Keeps before now
  pub taken : TakesAtMost (Some input) rest (byte_count (take MOST_LINES (lines_of input)) + lookahead)

-- The input is a script of a pair or of a world, and its whole play, which is safe, was written.
abbrev pub PrintsWhole : List ℕ → Option (List ℕ) → Option (List ℕ) → Type 0
PrintsWhole input before now = PrintsPlay input before now ⊎ PrintsStory input before now

-- the play halts at the event of this line, which names this, and it isn't there
abbrev pub halt_at : ℕ → Missing → Halt
halt_at number why = record { number = number; why = why }

-- why a replay of this input ended early, and what it had written, where this was left to read: at want of memory
-- whole lines alone, or nothing; where the output failed, whatever it had taken of the play
abbrev pub StopsReplay : List ℕ → Option (List ℕ) → Option (List ℕ) → Option (List ℕ) → ReplayFault → Type 0
StopsReplay input rest before now (fault.BadLine number column) = RefusesLine input number column rest before now
StopsReplay input rest before now fault.TooManyLines = RefusesLength input rest before now
StopsReplay input rest before now (fault.NoSuchName number) = PrintsStoryUpTo input (halt_at number missing.Name) before now
StopsReplay input rest before now (fault.NoSuchMessage number) =
    PrintsUpTo input number before now ⊎ PrintsStoryUpTo input (halt_at number missing.Message) before now
StopsReplay input rest before now fault.Read = Keeps before now
StopsReplay input rest before now fault.Write = PrintsPrefix input before now ⊎ PrintsPartOfStory input before now
StopsReplay input rest before now fault.Memory =
    PrintsFirstLines input before now ⊎ (PrintsFirstOfStory input before now ⊎ Keeps before now)

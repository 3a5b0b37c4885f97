-- Inside: lines that are shown, of which the last ones are held as a text; how far the events of a world were played; and how its
-- play breaks off.
use Rattle.std.specs.Prelude.{◌≡◌, ℕ, List, ◌++◌, map, Option, None, Some, Result, Ok, Err}
use Rattle.std.specs.Io.KnownBytes.{Appends}
use Rattle.std.specs.Option.{option_map, option_to_list}
use Rattle.ba_core.specs.declared.identifiers.Id.{Id}
use Rattle.ba_world_events.specs.Outcomes.{summary_line}
use Rattle.ba_ports_memory.specs.DiskValue.{DiskValue}
use Rattle.ba_world_play.specs.Plays.{WorldOnDisks}
use Rattle.ba_world_play.specs.Shows.{Halt, Story, object_summary, story_lines, story_text}
use Rattle.ba_world_play.specs.declared.missing.Missing.{Missing}
use Rattle.ba_world_play.specs.declared.missing.Missing.TheVariants as missing
use Rattle.ba_ports.specs.Outputs.{WritesPart}
use Rattle.ba_node_steps.specs.declared.answers.Seen.{Seen}
use Rattle.ba_tree.specs.Trees.{joined}
use Rattle.ba_world.specs.Worlds.{AreDisksOf, IsWorldOf, WorldValue}
use Rattle.ba_world.specs.declared.faults.StepFault.{StepFault}
use Rattle.ba_world.specs.declared.faults.StepFault.TheVariants as fault
use Rattle.ba_cmd_replay.specs.Replay.{halt_at}
use Rattle.ba_cmd_replay.specs.WorldReplay.{WritesFirstOf}
use Rattle.ba_cmd_replay.specs.declared.plays.PlayFault.{PlayFault}
use Rattle.ba_cmd_replay.specs.declared.plays.PlayFault.TheVariants as played
use Rattle.ba_cmd_replay.specs.declared.world_plays.Played.{Played}

-- of these lines the first are written, each whole, and the others are held as this text
pub record HoldsRest (lines : List (List ℕ)) (before now : Option (List ℕ)) (text : List ℕ) : Type 0 where
  pub out : List (List ℕ)
  pub held : List (List ℕ)
  pub are : lines ≡ out ++ held
  pub written : Appends before now (joined out)
  pub text_is : text ≡ joined held

-- the lines were shown, or it broke off
abbrev pub AreLinesShown : {A : Type 0} → List (List ℕ) → Option (List ℕ) → Option (List ℕ) → List ℕ → Result A PlayFault → Type 0
AreLinesShown lines before now text (Ok done) = HoldsRest lines before now text
AreLinesShown lines before now text (Err played.Memory) = WritesFirstOf lines before now
AreLinesShown lines before now text (Err played.Write) = WritesPart before now (joined lines)
AreLinesShown lines before now text (Err why) = ⊥

-- the lines were written, or it broke off
abbrev pub AreLinesWritten : {A : Type 0} → List (List ℕ) → Option (List ℕ) → Option (List ℕ) → Result A PlayFault → Type 0
AreLinesWritten lines before now (Ok done) = Appends before now (joined lines)
AreLinesWritten lines before now (Err played.Memory) = WritesFirstOf lines before now
AreLinesWritten lines before now (Err played.Write) = WritesPart before now (joined lines)
AreLinesWritten lines before now (Err why) = ⊥

-- the line of an object that shows this, if any
abbrev pub object_lines : Id → Option Seen → List (List ℕ)
object_lines id seen = map summary_line (option_to_list (option_map (object_summary id) seen))

-- where a play halted, as it is told
abbrev pub halt_told : Option (ℕ × Missing) → Option Halt
halt_told None = None
halt_told (Some told) = Some (halt_at told.0 told.1)

-- the events were played as in this story
pub record LedTo (s : Story) (done : Played) : Type 0 where
  pub is : IsWorldOf done.world s.last
  pub halt : s.halt ≡ halt_told done.halt

-- a play that broke off: what was written of it, and why
abbrev pub BreaksOffStory : Story → Option (List ℕ) → Option (List ℕ) → PlayFault → Type 0
BreaksOffStory s before now (played.NoSuchName number) =
    (s.halt ≡ Some (halt_at number missing.Name)) × Appends before now (story_text s)
BreaksOffStory s before now (played.NoSuchMessage number) =
    (s.halt ≡ Some (halt_at number missing.Message)) × Appends before now (story_text s)
BreaksOffStory s before now played.Write = WritesPart before now (story_text s)
BreaksOffStory s before now played.Memory = WritesFirstOf (story_lines s) before now

-- what a play comes to at an event that wasn't played: it halts there, or there was no memory
abbrev pub IsLeftAt : WorldValue → ℕ → StepFault → Result Played PlayFault → Type 0
IsLeftAt v number (fault.Missing why) (Ok done) = done ≡ record { world = v; halt = Some (number, why) }
IsLeftAt v number fault.Memory (Err played.Memory) = Unit {0}
IsLeftAt v number why result = ⊥

-- the answer of a play that was written up to where it halted, if it did
abbrev pub IsAnswerTo : {A : Type 0} → Option (ℕ × Missing) → Result A PlayFault → Type 0
IsAnswerTo None (Ok done) = Unit {0}
IsAnswerTo (Some told) (Err (played.NoSuchName number)) = told ≡ (number, missing.Name)
IsAnswerTo (Some told) (Err (played.NoSuchMessage number)) = told ≡ (number, missing.Message)
IsAnswerTo told result = ⊥

-- the disks of a play that halted are handed out, and at another fault none are
abbrev pub IsHandedOut : WorldOnDisks → List DiskValue → List DiskValue → PlayFault → Type 0
IsHandedOut p old new (played.NoSuchName number) = AreDisksOf p new
IsHandedOut p old new (played.NoSuchMessage number) = AreDisksOf p new
IsHandedOut p old new why = new ≡ old

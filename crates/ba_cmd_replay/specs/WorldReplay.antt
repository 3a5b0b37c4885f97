-- Believe: what `replay` promises of a script of a world, by its answer: which lines of the play were written, that the play is
-- safe, and which disks are handed out.
use Rattle.std.specs.Prelude.{◌≡◌, ℕ, Bool, true, false, List, [], ◌++◌, Option, None, Some}
use Rattle.std.specs.Io.KnownBytes.{Appends}
use Rattle.ba_world_events.specs.Events.{NumberedEvent}
use Rattle.ba_ports_memory.specs.DiskValue.{DiskValue}
use Rattle.ba_world_play.specs.SafeStories.{IsSafeStory}
use Rattle.ba_world_play.specs.Shows.{Halt, Story, story, story_lines, story_text}
use Rattle.ba_ports.specs.Outputs.{WritesPart}
use Rattle.ba_script.specs.Scripts.{IsScript, IsWorldScript}
use Rattle.ba_script.specs.declared.scripts.Script.{Script}
use Rattle.ba_script.specs.declared.scripts.Script.TheVariants.{Pair, World}
use Rattle.ba_tree.specs.Trees.{joined}
use Rattle.ba_world.specs.Worlds.{AreDisksOf}
use Rattle.ba_cmd_replay.specs.declared.faults.ReplayFault.{ReplayFault}
use Rattle.ba_cmd_replay.specs.declared.faults.ReplayFault.TheVariants as fault

-- the input is a script of a world, whose play is this, and is safe
pub record TellsStory (input : List ℕ) (s : Story) : Type 0 where
  pub nodes : ℕ
  pub events : List NumberedEvent
  pub script : IsWorldScript input nodes events
  pub is : s ≡ story nodes events
  pub safe : IsSafeStory s

-- The input is a script of a world, and its whole play was written.
pub record PrintsStory (input : List ℕ) (before now : Option (List ℕ)) : Type 0 where
  pub story : Story
  pub tells : TellsStory input story
  pub whole : story.halt ≡ None
  pub written : Appends before now (story_text story)

-- The input is a script of a world, and its play was written up to the event where it halted.
pub record PrintsStoryUpTo (input : List ℕ) (halt : Halt) (before now : Option (List ℕ)) : Type 0 where
  pub story : Story
  pub tells : TellsStory input story
  pub halted : story.halt ≡ Some halt
  pub written : Appends before now (story_text story)

-- the first of these lines were written, each whole, and nothing more
abbrev pub WritesFirstOf : List (List ℕ) → Option (List ℕ) → Option (List ℕ) → Type 0
WritesFirstOf lines before now =
    (first : List (List ℕ)) × (rest : List (List ℕ)) × (lines ≡ first ++ rest) × Appends before now (joined first)

-- The input is a script of a world, and the first lines of its play were written, each whole.
pub record PrintsFirstOfStory (input : List ℕ) (before now : Option (List ℕ)) : Type 0 where
  pub story : Story
  pub tells : TellsStory input story
  pub written : WritesFirstOf (story_lines story) before now

-- The input is a script of a world, and a prefix of its play was written, which may end anywhere.
pub record PrintsPartOfStory (input : List ℕ) (before now : Option (List ℕ)) : Type 0 where
  pub story : Story
  pub tells : TellsStory input story
  pub written : WritesPart before now (story_text story)

-- ---- disks

-- these are the disks of a script's play at its end: those of a world's nodes; a pair has none
abbrev pub AreDisksLeft : Script → List DiskValue → Type 0
AreDisksLeft (Pair protocol events) disks = disks ≡ []
AreDisksLeft (World nodes events) disks = AreDisksOf (story nodes events).last disks

-- the input is a script, and these are its disks
abbrev pub LeavesDisks : List ℕ → List DiskValue → Type 0
LeavesDisks input disks = (script : Script) × IsScript input script × AreDisksLeft script disks

-- disks are handed out at an event that can't be played, as the events before left them, and at no other fault
abbrev pub HandsOut : List ℕ → List DiskValue → ReplayFault → Type 0
HandsOut input disks (fault.NoSuchName number) = LeavesDisks input disks
HandsOut input disks (fault.NoSuchMessage number) = LeavesDisks input disks
HandsOut input disks why = disks ≡ []

-- the play halts at an event of the script
abbrev pub is_halt : ReplayFault → Bool
is_halt (fault.NoSuchName number) = true
is_halt (fault.NoSuchMessage number) = true
is_halt why = false

-- Believe: what the play of a script of a world shows: the line of each event, and after the last one what each object shows.
use Rattle.std.specs.Prelude.{ℕ, zero, suc, ◌+◌, List, [], ◌∷◌, ◌++◌, length, map, Option, None, Some, Ok, Err}
use Rattle.std.specs.Option.{option_map, option_to_list}
use Rattle.ba_core.specs.declared.identifiers.Id.{Id}
use Rattle.ba_world_events.specs.Events.{NumberedEvent}
use Rattle.ba_world_events.specs.Outcomes.{outcome_line, summary_line}
use Rattle.ba_world_events.specs.declared.outcomes.Outcome.{Outcome}
use Rattle.ba_world_events.specs.declared.summaries.Summary.{Summary}
use Rattle.ba_world_events.specs.declared.summaries.Summary.TheVariants as summary
use Rattle.ba_world_play.specs.Plays.{EventEffect, WorldOnDisks, play_step, starting_play}
use Rattle.ba_world_play.specs.declared.missing.Missing.{Missing}
use Rattle.ba_world_runs.specs.World.{Mode, World, is_closed, is_down, is_up}
use Rattle.ba_node_steps.specs.Node.{NodeState, id_at, last}
use Rattle.ba_node_steps.specs.Shown.{seen_at}
use Rattle.ba_node_steps.specs.declared.answers.Seen.{Seen}
use Rattle.ba_node_steps.specs.declared.answers.Seen.TheVariants as seen
use Rattle.ba_tree.specs.Trees.{joined}

-- the first event that can't be played: the number of its line, and what it names that isn't there
pub record Halt : Type 0 where
  pub number : ℕ
  pub why : Missing

-- What was played: the numbered outcomes; the worlds of the run, the last one first; the play at its end; and where it
-- halted, if it did.
pub record Story : Type 0 where
  pub lines : List (ℕ × Outcome)
  pub worlds : List World
  pub last : WorldOnDisks
  pub halt : Option Halt

-- nothing further is played
abbrev pub story_end : List World → WorldOnDisks → Option Halt → Story
story_end before p halt = record { lines = []; worlds = p.world ∷ before; last = p; halt = halt }

abbrev pub story_by : List World → WorldOnDisks → ℕ → EventEffect → (WorldOnDisks → Story) → Story
story_by before p number (Err why) rest = story_end before p (Some (record { number = number; why = why }))
story_by before p number (Ok e) rest = let later = rest e.after in record later { lines = (number, e.outcome) ∷ later.lines }

-- events played on from here, after these worlds
abbrev pub story_from : List World → WorldOnDisks → List NumberedEvent → Story
story_from before p [] = story_end before p None
story_from before p (e ∷ more) = story_by before p e.0 (play_step p e.1) (λ after. story_from (p.world ∷ before) after more)

-- the events of a script of so many nodes
abbrev pub story : ℕ → List NumberedEvent → Story
story count events = story_from [] (starting_play count) events

-- ---- after the last event

-- so many numbers, from this one on
abbrev pub numbers_from : ℕ → ℕ → List ℕ
numbers_from first zero = []
numbers_from first (suc more) = first ∷ numbers_from (first + 1) more

abbrev pub object_summary : Id → Seen → Summary
object_summary id (seen.Scope kind verdict) = summary.Scope id kind verdict
object_summary id (seen.End protocol state verdict) = summary.End id protocol state verdict
object_summary id (seen.Part protocol state lone) = summary.Part id protocol state

-- what the object with this counter shows
abbrev pub summaries_at : NodeState → ℕ → List Summary
summaries_at n counter = option_to_list (option_map (object_summary (id_at n counter)) (seen_at n (id_at n counter)))

abbrev pub object_summaries : NodeState → List Summary
object_summaries n = joined (map (summaries_at n) (numbers_from 1 (last n)))

abbrev pub summaries_by_mode : ℕ → NodeState → Mode → List Summary
summaries_by_mode k n is_up = object_summaries n
summaries_by_mode k n is_closed = object_summaries n
summaries_by_mode k n is_down = summary.NodeDown k ∷ []

abbrev pub node_summaries : World → ℕ → List Summary
node_summaries w k = summaries_by_mode k (w.nodes k).state (w.nodes k).mode

-- of each node in order each object in order, and how many messages are in the bag
abbrev pub summaries : WorldOnDisks → List Summary
summaries p = joined (map (node_summaries p.world) (numbers_from 1 p.count)) ++ summary.Bag (length p.world.bag) ∷ []

-- ---- the texts

abbrev pub event_line : ℕ × Outcome → List ℕ
event_line line = outcome_line line.0 line.1

-- the lines after the last event, where the play didn't halt before
abbrev pub ending_lines : WorldOnDisks → Option Halt → List (List ℕ)
ending_lines p None = map summary_line (summaries p)
ending_lines p (Some halt) = []

abbrev pub story_lines : Story → List (List ℕ)
story_lines s = map event_line s.lines ++ ending_lines s.last s.halt

abbrev pub story_text : Story → List ℕ
story_text s = joined (story_lines s)

-- Believe: what is safe of a whole play: each of its worlds, what was recorded by its end, and each of its lines.
use Rattle.std.specs.Prelude.{◌≡◌, ◌≢◌, ◌↔◌, ℕ, List, [], ◌∷◌, IsTrue}
use Rattle.std.specs.List.{AllByRecursion}
use Rattle.ba_core.specs.Messages.{notice_code}
use Rattle.ba_core.specs.declared.codes.Code.TheVariants.{InvalidState}
use Rattle.ba_core.specs.declared.identifiers.Id.{Id}
use Rattle.ba_core.specs.declared.notices.Notice.{Notice}
use Rattle.ba_core.specs.declared.notices.Notice.TheVariants as notice
use Rattle.ba_scope_ends.specs.declared.ends.End.{End}
use Rattle.ba_world_events.specs.declared.outcomes.Label.TheVariants as label
use Rattle.ba_world_events.specs.declared.outcomes.Outcome.{Outcome}
use Rattle.ba_world_events.specs.declared.outcomes.Outcome.TheVariants as outcome
use Rattle.ba_link.specs.Outcomes.{is_outcome}
use Rattle.ba_message.specs.declared.messages.Letter.{Letter}
use Rattle.ba_message.specs.declared.messages.Message.TheVariants as message
use Rattle.ba_world_play.specs.Shows.{Story}
use Rattle.ba_record.specs.declared.records.Record.TheVariants as journal
use Rattle.ba_world_runs.specs.Records.{HasActed, WasRecorded}
use Rattle.ba_world_runs.specs.Runs.{IsRun, WasCompleted, is_closing_state}
use Rattle.ba_world_runs.specs.Safety.{IsItsRecords, IsSafe}
use Rattle.ba_world_runs.specs.World.{PartAt, ScopeAt, World, letter, net_of}
use Rattle.ba_scope.specs.Scope.{ScopeState}
use Rattle.ba_scope_ends.specs.declared.parts.Part.{Part}
use Rattle.ba_node_steps.specs.Addresses.{message_number, sender_of}
use Rattle.ba_node_steps.specs.Fits.{IsIdAt}
use Rattle.ba_node_steps.specs.Node.{Among, counter}

-- The records of each node say that an end received Fail, Exit or CannotComplete exactly where a step of the run recorded it; and each
-- such notice that was ever sent is that of a participant which had done so by then.
pub record OutcomesAreRecorded (w : World) (before : List World) : Type 0 where
  pub received : (k : ℕ) (id : Id) (n : Notice) → IsIdAt k id → IsTrue (is_outcome n)
      → Among (w.nodes k).records (journal.Received (counter id) n) ↔ WasRecorded (w ∷ before) k id n
  pub acted : (l : Letter) (n : Notice) → Among w.bag (letter l) → l.message ≡ message.Notice n → IsTrue (is_outcome n)
      → (j : ℕ) × (p : Part) × PartAt (net_of w) j p × (l.number ≡ message_number (notice_code n) p.id)
      × HasActed (w ∷ before) j p.id n

-- so it is at the end of the run
abbrev pub RunIsRecorded : List World → Type 0
RunIsRecorded [] = ⊥
RunIsRecorded (w ∷ before) = OutcomesAreRecorded w before

-- An end that closes, or has closed, was Completed in an earlier world; and each Close that was ever sent is that of an end which was.
pub record ClosesWhatCompleted (w : World) (before : List World) : Type 0 where
  pub state : (k : ℕ) (s : ScopeState) (e : End) → ScopeAt (net_of w) k s → Among s.ends e → IsTrue (is_closing_state e.state)
      → WasCompleted before e.id
  pub told : (l : Letter) → Among w.bag (letter l) → l.message ≡ message.Notice notice.Close
      → (k : ℕ) × (s : ScopeState) × (e : End) × ScopeAt (net_of w) k s × Among s.ends e × (sender_of l.number ≡ e.id.0)
      × WasCompleted before e.id

-- so it is at the end of the run
abbrev pub RunClosesWhatCompleted : List World → Type 0
RunClosesWhatCompleted [] = ⊥
RunClosesWhatCompleted (w ∷ before) = ClosesWhatCompleted w before

-- no message was answered by InvalidState
abbrev pub IsInPlace : Outcome → Type 0
IsInPlace o = (number : ℕ) → o ≢ outcome.Reply number (label.Fault InvalidState)

-- The worlds are a run; each of them is safe, and each of its nodes is the replay of its records; outcomes are recorded; what closes was
-- completed; and nothing arrived out of place.
pub record IsSafeStory (s : Story) : Type 0 where
  pub run : IsRun s.worlds
  pub safe : AllByRecursion (λ w. IsSafe (net_of w)) s.worlds
  pub records : AllByRecursion IsItsRecords s.worlds
  pub recorded : RunIsRecorded s.worlds
  pub completed : RunClosesWhatCompleted s.worlds
  pub in_place : AllByRecursion (λ line. IsInPlace line.1) s.lines

-- Believe: outcomes are recorded once: what a pair's play so far says of the outcomes that its end keeps and that its
-- bag tells. A delivery whose row leads to another state is the record, since a pair keeps no journal.
use Rattle.std.specs.Prelude.{◌≡◌, ℕ, ◌<◌, List, [], ◌∷◌, ◌++◌, length, slice_get, IsTrue, Option, None, Some}
use Rattle.std.specs.Option.{option_to_list}
use Rattle.ba_core.specs.PartRows.{part_says, acted_state}
use Rattle.ba_core.specs.declared.notices.Act.{Act}
use Rattle.ba_core.specs.declared.notices.Notice.{Notice}
use Rattle.ba_core.specs.declared.states.PState.{PState}
use Rattle.ba_core.specs.declared.protocols.Side.TheVariants.{Participant}
use Rattle.ba_link.specs.Outcomes.{is_outcome, outcome_kept, recorded_at}
use Rattle.ba_pair.specs.declared.events.PairEvent.{PairEvent}
use Rattle.ba_pair.specs.declared.events.PairEvent.TheVariants.{Deliver}
use Rattle.ba_pair.specs.declared.events.PairEvent.TheVariants as event
use Rattle.ba_pair.specs.PairState.{PairState, message_at}

-- an event that was played, with the pair before it
abbrev pub Played : Type 0
Played = PairState × PairEvent

-- what the delivery of this message, if it is there, records
abbrev pub recorded_of : PairState → Option Notice → List Notice
recorded_of w None = []
recorded_of w (Some n) = option_to_list (recorded_at w.protocol w.end n)

-- what an event records: nothing, where it is no delivery
abbrev pub recorded_by : Played → List Notice
recorded_by (w, Deliver number) = recorded_of w (message_at w.bag number)
recorded_by (w, e) = []

-- what these events recorded, one after another
abbrev pub recorded_notices : List Played → List Notice
recorded_notices [] = []
recorded_notices (m ∷ ms) = recorded_by m ++ recorded_notices ms

-- by this event the participant's work comes to something that the notice tells
abbrev pub ActsFor : Notice → Played → Type 0
ActsFor n m = (a : Act) × (next : PState) × (m.1 ≡ event.Act a) × (acted_state m.0.protocol m.0.part a ≡ Some next)
    × (part_says next ≡ Some n)

-- by this event the participant sends the notice, which comes to this place of the bag
abbrev pub Sends : ℕ → Notice → Played → Type 0
Sends place n m = (m.1 ≡ event.Tick Participant) × (part_says m.0.part ≡ Some n) × (length m.0.bag ≡ place)

-- the event with this number among those that were played, from 0, is such
abbrev pub WasPlayed : List Played → ℕ → (Played → Type 0) → Type 0
WasPlayed past number Is = (m : Played) × (slice_get past number ≡ Some m) × Is m

-- the notice at this place of the bag was sent by a tick of the participant, after the act that it tells of
pub record IsSaid (past : List Played) (place : ℕ) (n : Notice) : Type 0 where
  pub acted_at : ℕ
  pub sent_at : ℕ
  pub ordered : acted_at < sent_at
  pub acts : WasPlayed past acted_at (ActsFor n)
  pub sends : WasPlayed past sent_at (Sends place n)

-- After these events of a play the pair is so: the events recorded what the end's state keeps, and nothing
-- more, so one outcome at most, and once; what the participant's state lets it say of an outcome, an act led
-- to; and each outcome in the bag was sent by a tick of its own, after that act.
pub record OutcomesRecorded (past : List Played) (w : PairState) : Type 0 where
  pub once : recorded_notices past ≡ option_to_list (outcome_kept w.end)
  pub acted : (n : Notice) → IsTrue (is_outcome n) → part_says w.part ≡ Some n → (number : ℕ) × WasPlayed past number (ActsFor n)
  pub said : (place : ℕ) (n : Notice) → slice_get w.bag place ≡ Some n → IsTrue (is_outcome n) → IsSaid past place n

-- Believe: the play of a pair's events: what each event leads to, what it shows, and which move of the link it is.
-- Choosing is that of an end alone in a root scope of MixedOutcome; each message that is sent joins the bag.
use Rattle.std.specs.Prelude.{◌≡◌, ◌≢◌, ℕ, List, [], ◌∷◌, ◌++◌, length, take, slice_get, Bool, true, false, Option, None, Some, is_some}
use Rattle.std.specs.Prelude.{if◌then◌else◌}
use Rattle.std.specs.Option.{option_map, option_to_list}
use Rattle.std.specs.List.{AllByRecursion}
use Rattle.ba_core.specs.EndRows.{end_row, end_tick, chosen_state, completed_state}
use Rattle.ba_core.specs.PartRows.{part_row, part_says, acted_state}
use Rattle.ba_core.specs.declared.codes.Code.TheVariants.{InvalidState}
use Rattle.ba_core.specs.declared.protocols.Side.TheVariants.{Coordinator, Participant}
use Rattle.ba_core.specs.declared.protocols.Verdict.{Verdict}
use Rattle.ba_core.specs.declared.notices.Notice.{Notice}
use Rattle.ba_core.specs.declared.states.CState.{CState}
use Rattle.ba_core.specs.declared.states.PState.{PState}
use Rattle.ba_core.specs.declared.rows.CRow.{CRow}
use Rattle.ba_core.specs.declared.rows.CRow.TheVariants as crow
use Rattle.ba_core.specs.declared.rows.PRow.{PRow}
use Rattle.ba_core.specs.declared.rows.PRow.TheVariants as prow
use Rattle.ba_link.specs.Link.{LinkStep, Move, part_receives, end_receives, chooses, completes, acts, end_ticks, part_ticks, moved_link}
use Rattle.ba_link.specs.Link.{settled_state}
use Rattle.ba_pair.specs.declared.events.PairEvent.{PairEvent}
use Rattle.ba_pair.specs.declared.events.PairEvent.TheVariants.{Act, Tick, Choose, Complete, Deliver}
use Rattle.ba_pair.specs.declared.lines.Line.{Line}
use Rattle.ba_pair.specs.declared.lines.Line.TheVariants as line
use Rattle.ba_core.specs.declared.refusals.TheConstants.{ALREADY_DECIDED, NOT_READY, WRONG_STATE}
use Rattle.ba_pair.specs.PairState.{PairState, PairFits, is_for_part, message_at, state_of_pair, link_of}
use Rattle.ba_pair.specs.Recorded.{Played, OutcomesRecorded}

-- the effect of an event: the pair after it, and the line that it shows
abbrev pub Effect : Type 0
Effect = PairState × Line

abbrev pub seen_effect : PairState → Effect
seen_effect w = (w, line.Pair w.end w.part (length w.bag))

-- a refusal changes nothing, and its number says why: there is a verdict already, the end isn't ready for that
-- verdict, the state doesn't let it
abbrev pub refused_effect : PairState → ℕ → Effect
refused_effect w number = (w, line.Refused number None)

abbrev pub acted_effect : PairState → Option PState → Effect
acted_effect w None = refused_effect w WRONG_STATE
acted_effect w (Some next) = seen_effect (record w { part = next })

abbrev pub end_ticked_effect : PairState → CState × Option Notice → Effect
end_ticked_effect w said = seen_effect (record w { end = said.0; bag = w.bag ++ option_to_list said.1 })

abbrev pub part_ticked_effect : PairState → Option Notice → Effect
part_ticked_effect w said = seen_effect (record w { bag = w.bag ++ option_to_list said })

abbrev pub chosen_effect : PairState → Verdict → Option Verdict → Option CState → Effect
chosen_effect w v (Some before) next = refused_effect w ALREADY_DECIDED
chosen_effect w v None None = refused_effect w NOT_READY
chosen_effect w v None (Some next) = seen_effect (record w { end = next; verdict = Some v })

abbrev pub completed_effect : PairState → Option Verdict → Option CState → Effect
completed_effect w (Some before) next = refused_effect w ALREADY_DECIDED
completed_effect w None None = refused_effect w WRONG_STATE
completed_effect w None (Some next) = seen_effect (record w { end = next })

-- a notice without a row is answered by the fault InvalidState, and changes nothing
abbrev pub end_received_effect : PairState → CRow → Effect
end_received_effect w crow.Invalid = (w, line.Fault InvalidState)
end_received_effect w (crow.Row next prompt) = seen_effect (record w { end = settled_state w.protocol next w.verdict })

abbrev pub part_received_effect : PairState → PRow → Effect
part_received_effect w prow.Invalid = (w, line.Fault InvalidState)
part_received_effect w (prow.Row next prompt) = seen_effect (record w { part = next })

abbrev pub received_effect : PairState → Notice → Effect
received_effect w n = if is_for_part n then part_received_effect w (part_row w.protocol w.part n) else end_received_effect w
    (end_row w.protocol w.end n)

abbrev pub delivered_effect : PairState → Option Notice → Option Effect
delivered_effect w None = None
delivered_effect w (Some n) = Some (received_effect w n)

-- what an event leads to; None where it names a message that isn't there
abbrev pub happens : PairState → PairEvent → Option Effect
happens w (Act act) = Some (acted_effect w (acted_state w.protocol w.part act))
happens w (Tick Coordinator) = Some (end_ticked_effect w (end_tick w.end))
happens w (Tick Participant) = Some (part_ticked_effect w (part_says w.part))
happens w (Choose v) = Some (chosen_effect w v w.verdict (chosen_state w.protocol w.end v))
happens w Complete = Some (completed_effect w w.verdict (completed_state w.protocol w.end))
happens w (Deliver number) = delivered_effect w (message_at w.bag number)

-- the move by which a notice that was sent arrives
abbrev pub arrival_of : Notice → Move
arrival_of n = if is_for_part n then part_receives n else end_receives n

-- the move of the link that an event is; None where it names a message that isn't there
abbrev pub move_of : PairState → PairEvent → Option Move
move_of w (Act act) = Some (acts act)
move_of w (Tick Coordinator) = Some end_ticks
move_of w (Tick Participant) = Some part_ticks
move_of w (Choose v) = Some (chooses v)
move_of w Complete = Some completes
move_of w (Deliver number) = option_map arrival_of (message_at w.bag number)

-- the link makes the move that the event is, and what the move says joins the bag
pub record IsStepBy (w : PairState) (e : PairEvent) (next : PairState) : Type 0 where
  pub step : LinkStep (link_of w) (link_of next)
  pub move : move_of w e ≡ Some step.move
  pub joined : step.joined ≡ true

-- the link has no such move as the event is, and nothing has changed
pub record IsRefusedBy (w : PairState) (e : PairEvent) (next : PairState) : Type 0 where
  pub move : Move
  pub is : move_of w e ≡ Some move
  pub none : moved_link (state_of_pair w) move ≡ None
  pub unchanged : next ≡ w

-- what an event that shows this line makes of a pair
abbrev pub MovesBy : PairState → PairEvent → PairState → Line → Type 0
MovesBy w e next (line.Pair c p bag) = IsStepBy w e next
MovesBy w e next (line.Refused number id) = IsRefusedBy w e next
MovesBy w e next (line.Fault code) = ⊥

-- by the event a message joins the bag
abbrev pub speaks : PairState → PairEvent → Bool
speaks w (Tick Coordinator) = is_some (end_tick w.end).1
speaks w (Tick Participant) = is_some (part_says w.part)
speaks w e = false

-- an event and the number of its line in the script
abbrev pub Numbered : Type 0
Numbered = ℕ × PairEvent

-- a play: the numbered lines that it shows; the pair at each moment, the first before any event; the events
-- that were played, each with the pair before it; and the number of the first event that couldn't be played,
-- after which nothing is played
pub record Play : Type 0 where
  pub lines : List (ℕ × Line)
  pub pairs : List PairState
  pub events : List Played
  pub stopped_at : Option ℕ

abbrev pub play_by : PairState → Numbered → Option Effect → (PairState → Play) → Play
play_by w e None rest = record { lines = []; pairs = w ∷ []; events = []; stopped_at = Some e.0 }
play_by w e (Some effect) rest =
    let later = rest effect.0 in
    record {
      lines = (e.0, effect.1) ∷ later.lines;
      pairs = w ∷ later.pairs;
      events = (w, e.1) ∷ later.events;
      stopped_at = later.stopped_at;
    }

abbrev pub play : PairState → List Numbered → Play
play w [] = record { lines = []; pairs = w ∷ []; events = []; stopped_at = None }
play w (e ∷ es) = play_by w e (happens w e.1) (λ after. play after es)

-- in a play each pair fits, no line is the fault InvalidState, and at each moment outcomes are recorded once
pub record IsSafePlay (p : Play) : Type 0 where
  pub pairs : AllByRecursion PairFits p.pairs
  pub in_place : AllByRecursion (λ l. l.1 ≢ line.Fault InvalidState) p.lines
  pub recorded : (moment : ℕ) (w : PairState) → slice_get p.pairs moment ≡ Some w → OutcomesRecorded (take moment p.events) w

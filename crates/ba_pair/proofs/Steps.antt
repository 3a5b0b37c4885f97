-- Each event of a pair is the move of its link that it names, or is refused where the link has none, so what fits it
-- stays, and no notice arrives out of place: for `Pair::step`, clauses `moves`, `fits` and `in_place`.
use Rattle.std.proofs.Common.{◌≡◌, ◌≢◌, ℕ, ◌-◌, Bool, true, false, IsTrue, List, [], ◌++◌, map, slice_get, nat_eq, Option, Some, None}
use Rattle.std.proofs.Common.{Result, Ok, Err, IfOk, OnErr, Contains, refl, sym, ap, ◌∙◌, subst, append-nil, if◌then◌else◌}
use Rattle.std.specs.List.{AllByRecursion}
use Rattle.std.specs.Option.{option_to_list, option_map}
use Rattle.ba_core.specs.EndRows.{end_row, end_tick, chosen_state, completed_state}
use Rattle.ba_core.specs.PartRows.{part_row, part_says, acted_state}
use Rattle.ba_core.specs.Messages.{is_column}
use Rattle.ba_core.specs.declared.codes.Code.TheVariants.{InvalidState}
use Rattle.ba_core.specs.declared.notices.Act.{Act}
use Rattle.ba_core.specs.declared.notices.Notice.{Notice}
use Rattle.ba_core.specs.declared.protocols.Side.TheVariants.{Coordinator, Participant}
use Rattle.ba_core.specs.declared.protocols.Verdict.{Verdict}
use Rattle.ba_core.specs.declared.states.CState.{CState}
use Rattle.ba_core.specs.declared.states.CState.TheVariants as end
use Rattle.ba_core.specs.declared.states.How.TheVariants.{Canceled, Closed, Compensated, Failed, Exited, NotCompleted}
use Rattle.ba_core.specs.declared.states.PState.{PState}
use Rattle.ba_core.specs.declared.states.PState.TheVariants as part
use Rattle.ba_core.specs.declared.rows.CRow.{CRow}
use Rattle.ba_core.specs.declared.rows.CRow.TheVariants as crow
use Rattle.ba_core.specs.declared.rows.PRow.{PRow}
use Rattle.ba_core.specs.declared.rows.PRow.TheVariants as prow
use Rattle.ba_link.specs.Fits.{LinkFits}
use Rattle.ba_link.specs.Link as link
use Rattle.ba_link.specs.Link.{End, to_part, to_end}
use Rattle.ba_pair.specs.declared.events.PairEvent.{PairEvent}
use Rattle.ba_pair.specs.declared.events.PairEvent.TheVariants as event
use Rattle.ba_pair.specs.declared.events.StepFault.{StepFault}
use Rattle.ba_pair.specs.declared.lines.Line.{Line}
use Rattle.ba_pair.specs.declared.lines.Line.TheVariants as line
use Rattle.ba_core.specs.declared.refusals.TheConstants.{ALREADY_DECIDED, NOT_READY, WRONG_STATE}
use Rattle.ba_pair.specs.PairState.{PairState, PairFits, link_of, state_of_pair, link_message, is_for_part, message_at}
use Rattle.ba_pair.specs.PairPlay.{Effect, MovesBy, arrival_of, move_of, happens, refused_effect, acted_effect, end_ticked_effect}
use Rattle.ba_pair.specs.PairPlay.{part_ticked_effect, chosen_effect, completed_effect, end_received_effect, part_received_effect}
use Rattle.ba_pair.specs.PairPlay.{delivered_effect}
use Rattle.ba_pair.proofs.Enrolled.{acted_enrolled, row_enrolled}
use Rattle.ba_link.proofs.Kept.{links_stay_possible, part_in_place, end_in_place}
use Rattle.ba_pair.proofs.Bags.{map-joined, all_joined, all_at, sent_at}

-- an effect of an event at a pair
pub record Steps (w : PairState) (e : PairEvent) (o : Effect) : Type 0 where
  pub moves : MovesBy w e o.0 o.1
  pub enrolled : o.0.part ≢ part.Registering
  pub columns : AllByRecursion (λ n. IsTrue (is_column n)) o.0.bag
  pub in_place : o.1 ≢ line.Fault InvalidState

-- what is there is one thing
some_is : {A : Type 0} {x y : A} → Some x ≡ Some y → x ≡ y
some_is h = cc

-- nothing is sent
unsent : (w : PairState) → map link_message w.bag ≡ map link_message w.bag ++ []
unsent w = sym (append-nil (map link_message w.bag))

-- the link has no such move, so the event is refused
refused_steps : (w : PairState) (e : PairEvent) (why : ℕ) (m : link.Move) → PairFits w → move_of w e ≡ Some m
    → link.moved_link (state_of_pair w) m ≡ None
    → Steps w e (refused_effect w why)
refused_steps w e why m fits is none = record {
  moves = record { move = m; is = is; none = none; unchanged = refl };
  enrolled = fits.enrolled;
  columns = fits.columns;
  in_place = λ e. cc;
}

acted_steps : (w : PairState) (a : Act) → PairFits w → (answer : Option PState) → acted_state w.protocol w.part a ≡ answer
    → Steps w (event.Act a) (acted_effect w answer)
acted_steps w a fits None h = refused_steps w (event.Act a) WRONG_STATE (link.acts a) fits refl
    (ap (λ o. link.acted_link (state_of_pair w) o) h)
acted_steps w a fits (Some next) h = record {
  moves = record {
    step = record {
      move = link.acts a;
      joined = true;
      message = None;
      heard = tt;
      moves = ap (λ o. link.acted_link (state_of_pair w) o) h;
      sent = unsent w;
    };
    move = refl;
    joined = refl;
  };
  enrolled = acted_enrolled w.protocol w.part a next h;
  columns = fits.columns;
  in_place = λ e. cc;
}

-- what an end says is a notice for the participant, and a column of its table
end_says : (s : CState) → map link_message (option_to_list (end_tick s).1) ≡ option_to_list (option_map to_part (end_tick s).1)
end_says end.Active = refl
end_says (end.Ended Canceled) = refl
end_says s = refl

end_says_columns : (s : CState) → AllByRecursion (λ n. IsTrue (is_column n)) (option_to_list (end_tick s).1)
end_says_columns end.Active = tt
end_says_columns end.Completing = (refl, tt)
end_says_columns end.Canceling = (refl, tt)
end_says_columns end.CancelingActive = (refl, tt)
end_says_columns end.CancelingCompleting = (refl, tt)
end_says_columns end.Closing = (refl, tt)
end_says_columns end.Compensating = (refl, tt)
end_says_columns end.FailingActive = (refl, tt)
end_says_columns end.FailingCanceling = (refl, tt)
end_says_columns end.FailingCompleting = (refl, tt)
end_says_columns end.FailingCompensating = (refl, tt)
end_says_columns end.NotCompleting = (refl, tt)
end_says_columns end.Exiting = (refl, tt)
end_says_columns (end.Ended Failed) = (refl, tt)
end_says_columns (end.Ended Exited) = (refl, tt)
end_says_columns (end.Ended NotCompleted) = (refl, tt)
end_says_columns s = tt

end_ticked_steps : (w : PairState) → PairFits w → Steps w (event.Tick Coordinator) (end_ticked_effect w (end_tick w.end))
end_ticked_steps w fits = record {
  moves = record {
    step = record {
      move = link.end_ticks;
      joined = true;
      message = option_map to_part (end_tick w.end).1;
      heard = tt;
      moves = refl;
      sent = map-joined link_message w.bag (end_tick w.end).1 ∙ ap (λ said. map link_message w.bag ++ said) (end_says w.end);
    };
    move = refl;
    joined = refl;
  };
  enrolled = fits.enrolled;
  columns = all_joined (λ n. IsTrue (is_column n)) w.bag (option_to_list (end_tick w.end).1) fits.columns (end_says_columns w.end);
  in_place = λ e. cc;
}

-- what an enrolled participant says is a notice for the end, and a column of its table
part_speaks : (s : PState) → s ≢ part.Registering → option_to_list (link.part_message s) ≡ map link_message (option_to_list (part_says s))
part_speaks part.Registering here = absurd (here refl)
part_speaks (part.Ended Canceled) here = refl
part_speaks s here = refl

part_speaks_columns : (s : PState) → AllByRecursion (λ n. IsTrue (is_column n)) (option_to_list (part_says s))
part_speaks_columns part.Completed = (refl, tt)
part_speaks_columns part.FailingActive = (refl, tt)
part_speaks_columns part.FailingCompleting = (refl, tt)
part_speaks_columns part.FailingCanceling = (refl, tt)
part_speaks_columns part.FailingCompensating = (refl, tt)
part_speaks_columns part.NotCompleting = (refl, tt)
part_speaks_columns part.Exiting = (refl, tt)
part_speaks_columns (part.Ended Canceled) = (refl, tt)
part_speaks_columns (part.Ended Closed) = (refl, tt)
part_speaks_columns (part.Ended Compensated) = (refl, tt)
part_speaks_columns s = tt

part_ticked_steps : (w : PairState) → PairFits w → Steps w (event.Tick Participant) (part_ticked_effect w (part_says w.part))
part_ticked_steps w fits = record {
  moves = record {
    step = record {
      move = link.part_ticks;
      joined = true;
      message = link.part_message w.part;
      heard = tt;
      moves = refl;
      sent =
          map-joined link_message w.bag (part_says w.part)
          ∙ ap (λ said. map link_message w.bag ++ said) (sym (part_speaks w.part fits.enrolled));
    };
    move = refl;
    joined = refl;
  };
  enrolled = fits.enrolled;
  columns = all_joined (λ n. IsTrue (is_column n)) w.bag (option_to_list (part_says w.part)) fits.columns (part_speaks_columns w.part);
  in_place = λ e. cc;
}

chosen_steps : (w : PairState) (v : Verdict) → PairFits w → (before : Option Verdict) → w.verdict ≡ before → (next : Option CState)
    → chosen_state w.protocol w.end v ≡ next → Steps w (event.Choose v) (chosen_effect w v before next)
chosen_steps w v fits (Some before) g next h =
    refused_steps w (event.Choose v) ALREADY_DECIDED (link.chooses v) fits refl
    (ap (λ verdict. link.chosen_link (state_of_pair w) v verdict (chosen_state w.protocol w.end v)) g)
chosen_steps w v fits None g None h =
    refused_steps w (event.Choose v) NOT_READY (link.chooses v) fits refl
    (ap (λ verdict. link.chosen_link (state_of_pair w) v verdict (chosen_state w.protocol w.end v)) g
    ∙ ap (λ o. link.chosen_link (state_of_pair w) v None o) h)
chosen_steps w v fits None g (Some next) h = record {
  moves = record {
    step = record {
      move = link.chooses v;
      joined = true;
      message = None;
      heard = tt;
      moves =
          ap (λ verdict. link.chosen_link (state_of_pair w) v verdict (chosen_state w.protocol w.end v)) g
          ∙ ap (λ o. link.chosen_link (state_of_pair w) v None o) h;
      sent = unsent w;
    };
    move = refl;
    joined = refl;
  };
  enrolled = fits.enrolled;
  columns = fits.columns;
  in_place = λ e. cc;
}

completed_steps : (w : PairState) → PairFits w → (before : Option Verdict) → w.verdict ≡ before → (next : Option CState)
    → completed_state w.protocol w.end ≡ next → Steps w event.Complete (completed_effect w before next)
completed_steps w fits (Some before) g next h =
    refused_steps w event.Complete ALREADY_DECIDED link.completes fits refl
    (ap (λ verdict. link.completed_link (state_of_pair w) verdict (completed_state w.protocol w.end)) g)
completed_steps w fits None g None h =
    refused_steps w event.Complete WRONG_STATE link.completes fits refl
    (ap (λ verdict. link.completed_link (state_of_pair w) verdict (completed_state w.protocol w.end)) g
    ∙ ap (λ o. link.completed_link (state_of_pair w) None o) h)
completed_steps w fits None g (Some next) h = record {
  moves = record {
    step = record {
      move = link.completes;
      joined = true;
      message = None;
      heard = tt;
      moves =
          ap (λ verdict. link.completed_link (state_of_pair w) verdict (completed_state w.protocol w.end)) g
          ∙ ap (λ o. link.completed_link (state_of_pair w) None o) h
          ∙ ap (λ verdict. Some (link.with_end (state_of_pair w) next verdict, None)) (sym g);
      sent = unsent w;
    };
    move = refl;
    joined = refl;
  };
  enrolled = fits.enrolled;
  columns = fits.columns;
  in_place = λ e. cc;
}

-- a notice that was sent arrives at the participant
part_received_steps : (w : PairState) (e : PairEvent) (n : Notice) → move_of w e ≡ Some (link.part_receives n) → PairFits w
    → IsTrue (is_column n) → Contains (link_of w).sent (to_part n)
    → (row : PRow) → part_row w.protocol w.part n ≡ row → Steps w e (part_received_effect w row)
part_received_steps w e n is fits column sent prow.Invalid h = absurd (part_in_place (link_of w) n fits.link sent column fits.enrolled h)
part_received_steps w e n is fits column sent (prow.Row next prompt) h = record {
  moves = record {
    step = record {
      move = link.part_receives n;
      joined = true;
      message = None;
      heard = sent;
      moves = ap (λ row. link.part_moved_link (state_of_pair w) row) h;
      sent = unsent w;
    };
    move = is;
    joined = refl;
  };
  enrolled = row_enrolled w.protocol w.part n next prompt fits.enrolled h;
  columns = fits.columns;
  in_place = λ e. cc;
}

-- a notice that was sent arrives at the end
end_received_steps : (w : PairState) (e : PairEvent) (n : Notice) → move_of w e ≡ Some (link.end_receives n) → PairFits w
    → IsTrue (is_column n) → Contains (link_of w).sent (to_end n)
    → (row : CRow) → end_row w.protocol w.end n ≡ row → Steps w e (end_received_effect w row)
end_received_steps w e n is fits column sent crow.Invalid h =
    let there = end_in_place (link_of w) n fits.link sent column in
    absurd (there.2 (subst (λ (e : End). end_row w.protocol e.state n ≡ crow.Invalid) (some_is there.1) h))
end_received_steps w e n is fits column sent (crow.Row next prompt) h = record {
  moves = record {
    step = record {
      move = link.end_receives n;
      joined = true;
      message = None;
      heard = sent;
      moves = ap (λ row. link.end_moved_link (state_of_pair w) w.verdict row) h;
      sent = unsent w;
    };
    move = is;
    joined = refl;
  };
  enrolled = fits.enrolled;
  columns = fits.columns;
  in_place = λ e. cc;
}

received_steps : (w : PairState) (e : PairEvent) (n : Notice) → move_of w e ≡ Some (arrival_of n) → PairFits w → IsTrue (is_column n)
    → Contains (link_of w).sent (link_message n) → (for_part : Bool) → is_for_part n ≡ for_part
    → Steps w e
    (if for_part then part_received_effect w (part_row w.protocol w.part n) else end_received_effect w (end_row w.protocol w.end n))
received_steps w e n is fits column sent true g =
    let same : link_message n ≡ to_part n = ap (λ b. if b then to_part n else to_end n) g in
    let move : move_of w e ≡ Some (link.part_receives n) =
    is ∙ ap (λ b. Some (if b then link.part_receives n else link.end_receives n)) g in
    part_received_steps w e n move fits column (subst (Contains (link_of w).sent) same sent) (part_row w.protocol w.part n) refl
received_steps w e n is fits column sent false g =
    let same : link_message n ≡ to_end n = ap (λ b. if b then to_part n else to_end n) g in
    let move : move_of w e ≡ Some (link.end_receives n) = is ∙ ap (λ b. Some (if b then link.part_receives n else link.end_receives n)) g in
    end_received_steps w e n move fits column (subst (Contains (link_of w).sent) same sent) (end_row w.protocol w.end n) refl

-- the message with a number, from 1, is in the bag
found_at : (bag : List Notice) (k : ℕ) (n : Notice) (none : Bool) → (if none then None else slice_get bag k) ≡ Some n
    → slice_get bag k ≡ Some n
found_at bag k n true h = absurd cc
found_at bag k n false h = h

delivered_steps : (w : PairState) (number : ℕ) → PairFits w → (found : Option Notice) → message_at w.bag number ≡ found → (o : Effect)
    → delivered_effect w found ≡ Some o → Steps w (event.Deliver number) o
delivered_steps w number fits None g o h = absurd cc
delivered_steps w number fits (Some n) g o h =
    let there = found_at w.bag (number - 1) n (nat_eq number 0) g in
    subst (Steps w (event.Deliver number)) (some_is h) (received_steps w (event.Deliver number) n (ap (option_map arrival_of) g) fits
    (all_at (λ n. IsTrue (is_column n)) w.bag (number - 1) n fits.columns there)
    (sent_at link_message w.bag (number - 1) n there) (is_for_part n) refl)

-- what an event leads to, if it leads to something
pub step_steps : (w : PairState) (e : PairEvent) (o : Effect) → PairFits w → happens w e ≡ Some o → Steps w e o
step_steps w (event.Act a) o fits h =
    subst (Steps w (event.Act a)) (some_is h) (acted_steps w a fits (acted_state w.protocol w.part a) refl)
step_steps w (event.Tick Coordinator) o fits h = subst (Steps w (event.Tick Coordinator)) (some_is h) (end_ticked_steps w fits)
step_steps w (event.Tick Participant) o fits h = subst (Steps w (event.Tick Participant)) (some_is h) (part_ticked_steps w fits)
step_steps w (event.Choose v) o fits h =
    subst (Steps w (event.Choose v)) (some_is h) (chosen_steps w v fits w.verdict refl (chosen_state w.protocol w.end v) refl)
step_steps w event.Complete o fits h =
    subst (Steps w event.Complete) (some_is h) (completed_steps w fits w.verdict refl (completed_state w.protocol w.end) refl)
step_steps w (event.Deliver number) o fits h = delivered_steps w number fits (message_at w.bag number) refl o h

ok_is : {x y : Line} → let r : Result Line StepFault = Ok x in r ≡ Ok y → x ≡ y
ok_is h = cc

-- what fits a link fits it after an event
link_fits : (w : PairState) (e : PairEvent) (next : PairState) (shown : Line) → MovesBy w e next shown → LinkFits (link_of w)
    → LinkFits (link_of next)
link_fits w e next (line.Pair c p bag) moves fits = links_stay_possible (link_of w) (link_of next) moves.step fits
link_fits w e next (line.Refused number id) moves fits = subst (λ v. LinkFits (link_of v)) (sym moves.unchanged) fits
link_fits w e next (line.Fault code) moves fits = absurd moves

-- what fits a pair fits it after a step
pub steps_fit : (w : PairState) (e : PairEvent) (o : Effect) → PairFits w → Steps w e o → PairFits o.0
steps_fit w e o fits steps = record {
  link = link_fits w e o.0 o.1 steps.moves fits.link;
  enrolled = steps.enrolled;
  columns = steps.columns;
}

-- what a call of a step ensures, at its result
abbrev pub Answers : PairState → PairEvent → PairState → Result Line StepFault → Type 0
Answers w e next result = IfOk result (λ line. happens w e ≡ Some (next, line)) × OnErr result (next ≡ w)

pub step_fits : (w : PairState) (e : PairEvent) (next : PairState) (result : Result Line StepFault) → PairFits w → Answers w e next result
    → PairFits next
step_fits w e next (Ok line) fits answers = steps_fit w e (next, line) fits (step_steps w e (next, line) fits answers.0)
step_fits w e next (Err fault) fits answers = subst PairFits (sym answers.1) fits

pub step_moves : (w : PairState) (e : PairEvent) (next : PairState) (result : Result Line StepFault) → PairFits w → Answers w e next result
    → IfOk result (λ shown. MovesBy w e next shown)
step_moves w e next (Ok line) fits answers = (step_steps w e (next, line) fits answers.0).moves
step_moves w e next (Err fault) fits answers = tt

pub step_in_place : (w : PairState) (e : PairEvent) (next : PairState) (result : Result Line StepFault) → PairFits w
    → Answers w e next result
    → result ≢ Ok (line.Fault InvalidState)
step_in_place w e next (Ok shown) fits answers h = (step_steps w e (next, shown) fits answers.0).in_place (ok_is h)
step_in_place w e next (Err fault) fits answers h = cc

-- Every play of a pair is safe.
use Rattle.std.proofs.Common.{◌≡◌, ◌≢◌, ℕ, false, zero, suc, List, [], ◌∷◌, ◌++◌, take, slice_get, Option, Some, None, refl, sym, subst}
use Rattle.std.proofs.Common.{append_assoc, append-nil}
use Rattle.std.specs.List.{AllByRecursion}
use Rattle.ba_core.specs.declared.codes.Code.TheVariants.{InvalidState}
use Rattle.ba_core.specs.declared.protocols.Protocol.{Protocol}
use Rattle.ba_link.proofs.Begins.{active_link_fits}
use Rattle.ba_pair.specs.declared.lines.Line.TheVariants as line
use Rattle.ba_pair.specs.PairState.{PairState, PairFits, starting_pair}
use Rattle.ba_pair.specs.PairPlay.{Numbered, Effect, Play, IsSafePlay, happens, play, play_by}
use Rattle.ba_pair.specs.Recorded.{Played, OutcomesRecorded}
use Rattle.ba_pair.proofs.Outcomes.{some_is, outcomes_kept, start_recorded}
use Rattle.ba_pair.proofs.Steps.{step_steps, steps_fit}

pub start_fits : (p : Protocol) → PairFits (starting_pair p)
start_fits p = record { link = active_link_fits p false; enrolled = λ e. cc; columns = tt }

-- at each moment of a play outcomes are recorded once, by what was played before the play and in it
abbrev RecordedIn : List Played → Play → Type 0
RecordedIn past p = (moment : ℕ) (w : PairState) → slice_get p.pairs moment ≡ Some w → OutcomesRecorded (past ++ take moment p.events) w

-- what a play from a pair keeps, by what was played before it
record SafeFrom (past : List Played) (p : Play) : Type 0 where
  pairs : AllByRecursion PairFits p.pairs
  in_place : AllByRecursion (λ l. l.1 ≢ line.Fault InvalidState) p.lines
  recorded : RecordedIn past p

-- the pair at a moment is the one now, or one of the rest
at_moment : (past : List Played) (w : PairState) (m : Played) (pairs : List PairState) (events : List Played) → OutcomesRecorded past w
    → ((moment : ℕ) (v : PairState) → slice_get pairs moment ≡ Some v → OutcomesRecorded ((past ++ m ∷ []) ++ take moment events) v)
    → (moment : ℕ) (v : PairState) → slice_get (w ∷ pairs) moment ≡ Some v → OutcomesRecorded (past ++ take moment (m ∷ events)) v
at_moment past w m pairs events now later zero v h =
    subst (λ p. OutcomesRecorded p v) (sym (append-nil past)) (subst (OutcomesRecorded past) (some_is h) now)
at_moment past w m pairs events now later (suc moment) v h =
    subst (λ p. OutcomesRecorded p v) (append_assoc past (m ∷ []) (take moment events)) (later moment v h)

-- a play that is at its end
at_end : (past : List Played) (w : PairState) → OutcomesRecorded past w → (moment : ℕ) (v : PairState) → slice_get (w ∷ []) moment ≡ Some v
    → OutcomesRecorded (past ++ take moment []) v
at_end past w now zero v h = subst (λ p. OutcomesRecorded p v) (sym (append-nil past)) (subst (OutcomesRecorded past) (some_is h) now)
at_end past w now (suc moment) v h = absurd cc

-- a play goes on from an event as its rest does
goes_on : (past : List Played) (w : PairState) (e : Numbered) (rest : PairState → Play) → PairFits w → OutcomesRecorded past w
    → ((next : PairState) → PairFits next → OutcomesRecorded (past ++ (w, e.1) ∷ []) next → SafeFrom (past ++ (w, e.1) ∷ []) (rest next))
    → (answer : Option Effect) → happens w e.1 ≡ answer → SafeFrom past (play_by w e answer rest)
goes_on past w e rest fits now later None h = record { pairs = (fits, tt); in_place = tt; recorded = at_end past w now }
goes_on past w e rest fits now later (Some o) h =
    let steps = step_steps w e.1 o fits h in
    let safe = later o.0 (steps_fit w e.1 o fits steps) (outcomes_kept past w e.1 o now h) in
    record {
      pairs = (fits, safe.pairs);
      in_place = (steps.in_place, safe.in_place);
      recorded = at_moment past w (w, e.1) (rest o.0).pairs (rest o.0).events now safe.recorded;
    }

from_here : (past : List Played) (w : PairState) (es : List Numbered) → PairFits w → OutcomesRecorded past w → SafeFrom past (play w es)
from_here past w [] fits now = record { pairs = (fits, tt); in_place = tt; recorded = at_end past w now }
from_here past w (e ∷ es) fits now =
    goes_on past w e (λ next. play next es) fits now (λ next fits now. from_here (past ++ (w, e.1) ∷ []) next es fits now)
    (happens w e.1) refl

pub plays_are_safe : (p : Protocol) (es : List Numbered) → IsSafePlay (play (starting_pair p) es)
plays_are_safe p es =
    let safe = from_here [] (starting_pair p) es (start_fits p) (start_recorded p) in
    record { pairs = safe.pairs; in_place = safe.in_place; recorded = safe.recorded }

-- What a call of one node of a play is to its world: a step of it. For the law that each event is a step of the world.
use Rattle.std.proofs.Common.{◌≡◌, ◌≢◌, inl, inr, ℕ, Bool, true, false, List, [], ◌++◌, nat_eq, Option, None, Some, IfSome, refl, sym, ap}
use Rattle.std.proofs.Common.{◌∙◌, subst, if◌then◌else◌}
use Rattle.std.specs.Option.{option_to_list}
use Rattle.std.proofs.lemmas.Bool.{eq-eqb, ne_eqb}
use Rattle.std.proofs.lemmas.Bool.Decides.{eqb_tells}
use Rattle.std.proofs.lemmas.List.{append-nil}
use Rattle.ba_world_events.specs.declared.outcomes.Outcome.{Outcome}
use Rattle.ba_world_events.specs.declared.outcomes.Outcome.TheVariants as outcome
use Rattle.ba_journal.specs.Readings.{reading_of}
use Rattle.ba_journal.specs.declared.readings.Reading.{Reading}
use Rattle.ba_ports_memory.specs.DiskValue.{MediumValue, bytes_of}
use Rattle.ba_world_play.specs.Nodes.{NodeCall, append_run, broken_call, call_by_append, call_by_mode, call_by_record, called_node, disarmed}
use Rattle.ba_world_play.specs.Nodes.{holds_more, is_past_end, load_run, lost_call, node_stopped, node_taken, node_up_again, open_by_load}
use Rattle.ba_world_play.specs.Nodes.{opened_by, running, unopened_call}
use Rattle.ba_world_play.specs.Outcomes.{occasion_outcome}
use Rattle.ba_world_play.specs.Plays.{WorldEffect, WorldOnDisks, effect_by_shown, effect_of_call, effect_with, lost_effect, next_number}
use Rattle.ba_world_play.specs.Plays.{occasion_effect, open_effect, with_at, with_node}
use Rattle.ba_world_play.specs.SafeStories.{IsInPlace}
use Rattle.ba_ports.specs.declared.images.Image.{Image}
use Rattle.ba_record.specs.declared.records.Record.{Record}
use Rattle.ba_world_runs.specs.Safety.{IsItsRecords}
use Rattle.ba_world_runs.specs.World.{Mail, Mode, Occasion, World, WorldNode, is_closed, is_down, is_up, net_of}
use Rattle.ba_world_runs.specs.WorldSteps.{IsPossible, MayStillBeTaken, Stays, Takes, WorldStep, crashes, effect, fails, happens, nothing}
use Rattle.ba_world_runs.specs.WorldSteps.{opens_with, opens_without}
use Rattle.ba_world_runs.proofs.Tests.{if_false, if_true}
use Rattle.ba_scope.proofs.Lists.{by_test}
use Rattle.ba_node_steps.specs.Fits.{HasSpareCounters}

-- ---- what is put at one number

pub at_here : {A : Type 0} (items : ℕ → A) (k : ℕ) (new : A) → with_at items k new k ≡ new
at_here items k new = if_true (nat_eq k k) new (items k) (eq-eqb k k refl)

pub at_other : {A : Type 0} (items : ℕ → A) (k : ℕ) (new : A) (j : ℕ) → j ≢ k → with_at items k new j ≡ items j
at_other items k new j apart = if_false (nat_eq j k) new (items j) (ne_eqb j k apart)

at_same : {A : Type 0} (items : ℕ → A) (k j : ℕ) → with_at items k (items k) j ≡ items j
at_same items k j = elim (eqb_tells j k) [
  | inl same ↦ if_true (nat_eq j k) (items k) (items j) same.0 ∙ sym (ap items same.1)
  | inr other ↦ if_false (nat_eq j k) (items k) (items j) other.0
]

-- ---- steps of a world at one node

-- the world with another node in the place of the one with this number, and with this bag
abbrev world_with_node : World → ℕ → WorldNode → List Mail → World
world_with_node w k n bag = record { clock = w.clock; bag = bag; nodes = with_at w.nodes k n }

takes_step : (w : World) (k : ℕ) (o : Occasion) (joined : Bool) (bag : List Mail) → IsPossible (net_of w) k o
    → HasSpareCounters (w.nodes k).state
    → bag ≡ w.bag ++ (if joined then option_to_list (effect (w.nodes k).state o).sends else [])
    → Takes w (world_with_node w k (node_taken (w.nodes k) o) bag) k o joined
takes_step w k o joined bag possible room sent =
    let n : WorldNode = node_taken (w.nodes k) o in
    let here : with_at w.nodes k n k ≡ n = at_here w.nodes k n in
    record {
      moves = record {
        possible = possible;
        room = room;
        state = ap (λ (x : WorldNode). x.state) here;
        others = λ j apart. ap (λ (x : WorldNode). x.state) (at_other w.nodes k n j apart);
        bag = sent;
      };
      only = record { others = at_other w.nodes k n; clock = refl };
      records = ap (λ (x : WorldNode). x.records) here;
      pending = ap (λ (x : WorldNode). x.pending) here;
      mode = ap (λ (x : WorldNode). x.mode) here;
    }

stays_so : (w : World) (k : ℕ) (pending : Option Occasion) (mode : Mode)
    → Stays w (world_with_node w k (record (w.nodes k) { pending = pending; mode = mode }) w.bag) k pending mode
stays_so w k pending mode =
    let n : WorldNode = record (w.nodes k) { pending = pending; mode = mode } in
    record { node = at_here w.nodes k n; only = record { others = at_other w.nodes k n; clock = refl }; bag = refl }

same_world : (w : World) (k : ℕ) → world_with_node w k (w.nodes k) w.bag ≡ w
same_world w k = λ i. record { clock = w.clock; bag = w.bag; nodes = λ j. at_same w.nodes k j i }

-- ---- what an effect is to its world

pub record StepsOn (p : WorldOnDisks) (e : WorldEffect) : Type 0 where
  pub step : WorldStep p.world e.after.world
  pub count : e.after.count ≡ p.count
  pub in_place : IsInPlace e.outcome

-- the node stays as it is, whatever becomes of its disk
pub node_stays : (p : WorldOnDisks) (k : ℕ) (disk : MediumValue) (shown : Outcome) → IsInPlace shown
    → StepsOn p (effect_with (with_node p k (record { node = p.world.nodes k; disk = disk })) shown)
node_stays p k disk shown in_place = record { step = nothing (same_world p.world k); count = refl; in_place = in_place }

-- its machine stops, or it isn't loaded
pub node_stops : (p : WorldOnDisks) (k : ℕ) (disk : MediumValue) (shown : Outcome) → IsInPlace shown
    → StepsOn p (effect_with (with_node p k (record { node = node_stopped (p.world.nodes k); disk = disk })) shown)
node_stops p k disk shown in_place = record {
  step = crashes k (stays_so p.world k (p.world.nodes k).pending is_down);
  count = refl;
  in_place = in_place;
}

-- ---- an occasion

-- the effect of an occasion, by what the call of its node led to
abbrev OccasionSteps : WorldOnDisks → ℕ → Occasion → NodeCall → Type 0
OccasionSteps p k o call =
    let sends : Option Mail = (effect (p.world.nodes k).state o).sends in
    StepsOn p
    (effect_by_shown p k sends (occasion_outcome (next_number p) (p.world.nodes k).state o sends) call.after call.shown)

-- what holds where the occasion may happen
pub record MayHappen (p : WorldOnDisks) (k : ℕ) (o : Occasion) : Type 0 where
  pub possible : IsPossible (net_of p.world) k o
  pub room : (p.world.nodes k).mode ≡ is_up → HasSpareCounters (p.world.nodes k).state
  pub in_place : IsInPlace (occasion_outcome (next_number p) (p.world.nodes k).state o (effect (p.world.nodes k).state o).sends)

module _ (p : WorldOnDisks) (k : ℕ) (o : Occasion) (may : MayHappen p k o) where
  step_taken : (p.world.nodes k).mode ≡ is_up → (disk : MediumValue)
      → OccasionSteps p k o (called_node (node_taken (p.world.nodes k) o) disk None)
  step_taken up disk = record {
    step = happens k o up (takes_step p.world k o true
        (p.world.bag ++ option_to_list (effect (p.world.nodes k).state o).sends) may.possible (may.room up) refl);
    count = refl;
    in_place = may.in_place;
  }

  left_pending : (p.world.nodes k).mode ≡ is_up → (r : Record) → (effect (p.world.nodes k).state o).written ≡ Some r
      → (disk : MediumValue) (stopped : Option Image) → OccasionSteps p k o (broken_call (p.world.nodes k) o disk stopped)
  left_pending up r writes disk None = record {
    step = fails k o is_closed up (inl refl)
        (record { possible = may.possible; room = may.room up; written = r; writes = writes }) (stays_so p.world k (Some o) is_closed);
    count = refl;
    in_place = λ number h. absurd cc;
  }
  left_pending up r writes disk (Some image) = record {
    step = fails k o is_down up (inr refl)
        (record { possible = may.possible; room = may.room up; written = r; writes = writes }) (stays_so p.world k (Some o) is_down);
    count = refl;
    in_place = λ number h. absurd cc;
  }

  by_append : (p.world.nodes k).mode ≡ is_up → (r : Record) → (effect (p.world.nodes k).state o).written ≡ Some r
      → (made : Bool × MediumValue) → OccasionSteps p k o (call_by_append (p.world.nodes k) o made)
  by_append up r writes (false, disk) = step_taken up disk
  by_append up r writes (true, disk) = left_pending up r writes disk disk.stopped

  by_record : (p.world.nodes k).mode ≡ is_up → (disk : MediumValue) (written : Option Record)
      → (effect (p.world.nodes k).state o).written ≡ written
      → OccasionSteps p k o (call_by_record (p.world.nodes k) o disk written)
  by_record up disk None writes = step_taken up disk
  by_record up disk (Some r) writes =
      by_test (OccasionSteps p k o) (is_past_end disk r) (called_node (p.world.nodes k) disk (Some outcome.Full))
      (call_by_append (p.world.nodes k) o (append_run disk r))
      (λ past. node_stays p k (disarmed disk) outcome.Full (λ number h. absurd cc))
      (λ within. by_append up r writes (append_run disk r))

  by_mode : (disk : MediumValue) (mode : Mode) → (p.world.nodes k).mode ≡ mode
      → OccasionSteps p k o (call_by_mode (p.world.nodes k) o disk mode)
  by_mode disk is_up is = by_record is disk (effect (p.world.nodes k).state o).written refl
  by_mode disk is_closed is = node_stays p k (disarmed disk) outcome.Closed (λ number h. absurd cc)
  by_mode disk is_down is = node_stays p k (disarmed disk) outcome.Down (λ number h. absurd cc)

  pub occasion_steps : StepsOn p (occasion_effect p k o)
  occasion_steps = by_mode (p.disks k) (p.world.nodes k).mode refl

-- ---- a message that leads nowhere

lost_by_mode : (p : WorldOnDisks) (k : ℕ) (disk : MediumValue) (mode : Mode)
    → StepsOn p (effect_of_call p k (lost_call (p.world.nodes k) disk mode))
lost_by_mode p k disk is_up = node_stays p k (disarmed disk) outcome.Done (λ number h. absurd cc)
lost_by_mode p k disk is_closed = node_stays p k (disarmed disk) outcome.Done (λ number h. absurd cc)
lost_by_mode p k disk is_down = node_stays p k (disarmed disk) outcome.Down (λ number h. absurd cc)

pub lost_steps : (p : WorldOnDisks) (k : ℕ) → StepsOn p (lost_effect p k)
lost_steps p k = lost_by_mode p k (p.disks k) (p.world.nodes k).mode

-- ---- an opening

module _ (p : WorldOnDisks) (k : ℕ) (records : IsItsRecords p.world) where
  opened_without : (disk : MediumValue)
      → StepsOn p (effect_of_call p k (called_node (node_up_again (p.world.nodes k)) disk (Some outcome.Done)))
  opened_without disk = record {
    step = opens_without k (stays_so p.world k None is_up);
    count = refl;
    in_place = λ number h. absurd cc;
  }

  opened_with : (o : Occasion) → (p.world.nodes k).pending ≡ Some o → (disk : MediumValue)
      → StepsOn p (effect_of_call p k (called_node (node_taken (p.world.nodes k) o) disk (Some outcome.Done)))
  opened_with o pending disk =
      let may = subst (λ (x : Option Occasion). IfSome x (MayStillBeTaken p.world k)) pending (records.pending k) in
      record {
        step = opens_with k o pending (takes_step p.world k o false p.world.bag may.possible may.room (sym (append-nil p.world.bag)));
        count = refl;
        in_place = λ number h. absurd cc;
      }

  by_pending : (disk : MediumValue) (pending : Option Occasion) (more : Bool) → (p.world.nodes k).pending ≡ pending
      → StepsOn p (effect_of_call p k (called_node (opened_by (p.world.nodes k) pending more) disk (Some outcome.Done)))
  by_pending disk None more is = opened_without disk
  by_pending disk (Some o) true is = opened_with o is disk
  by_pending disk (Some o) false is = opened_without disk

  unopened : (disk : MediumValue) (stopped : Option Image)
      → StepsOn p (effect_of_call p k (unopened_call (p.world.nodes k) disk stopped))
  unopened disk None = node_stops p k (disarmed disk) outcome.Disk (λ number h. absurd cc)
  unopened disk (Some image) = node_stops p k (disarmed disk) outcome.Stopped (λ number h. absurd cc)

  by_load : (found : Reading) (made : Bool × MediumValue)
      → StepsOn p (effect_of_call p k (open_by_load (p.world.nodes k) found made))
  by_load found (false, disk) = by_pending disk (p.world.nodes k).pending (holds_more (p.world.nodes k) found) refl
  by_load found (true, disk) = unopened disk disk.stopped

  pub open_steps : StepsOn p (open_effect p k)
  open_steps =
      let disk : MediumValue = running (p.disks k) in
      by_load (reading_of (bytes_of disk)) (load_run disk (reading_of (bytes_of disk)))

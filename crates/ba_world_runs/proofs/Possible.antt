-- What is possible can happen, what is pending can be kept, and there is a world to start from; for the law of that name.
use Rattle.std.proofs.Common.{◌≡◌, ◌≢◌, ◌⊎◌, ℕ, ◌≤◌, ◌<◌, ◌^◌, Bool, true, false, List, [], ◌++◌, Option, None, Some, IfSome, nat_eq, refl}
use Rattle.std.proofs.Common.{ap, subst, if◌then◌else◌}
use Rattle.std.specs.Option.{option_to_list}
use Rattle.std.proofs.lemmas.Bool.{eq-eqb, ne_eqb}
use Rattle.ba_record.specs.Coding.{InRange}
use Rattle.ba_record.specs.declared.records.Record.TheVariants as journal
use Rattle.ba_node_steps.specs.Fits.{HasSpareCounters}
use Rattle.ba_world_runs.specs.Runs.{IsFirstWorld, node_at_start}
use Rattle.ba_world_runs.specs.Safety.{IsItsRecords}
use Rattle.ba_world_runs.specs.World.{Mail, Mode, Occasion, World, WorldNode, is_closed, is_down, is_up, net_of}
use Rattle.ba_world_runs.specs.WorldSteps.{IsPossible, MayStillBeTaken, Stays, Takes, WorldStep, crashes, effect, fails, fails_to_open, happens}
use Rattle.ba_world_runs.specs.WorldSteps.{opens_with, opens_without}
use Rattle.ba_world_runs.proofs.Tests.{if_false, if_true}

-- the world with another node in the place of the one with this number, and with this bag
abbrev world_with : World → ℕ → WorldNode → List Mail → World
world_with w k node bag = record { clock = w.clock; bag = bag; nodes = λ j. if nat_eq j k then node else w.nodes j }

abbrev node_after : WorldNode → Occasion → WorldNode
node_after n o = record {
  state = (effect n.state o).after;
  records = n.records ++ option_to_list (effect n.state o).written;
  pending = None;
  mode = is_up;
}

abbrev world_after : World → ℕ → Occasion → Bool → World
world_after w k o joined =
    world_with w k (node_after (w.nodes k) o) (w.bag ++ (if joined then option_to_list (effect (w.nodes k).state o).sends else []))

takes : (w : World) (k : ℕ) (o : Occasion) (joined : Bool) → IsPossible (net_of w) k o → HasSpareCounters (w.nodes k).state
    → Takes w (world_after w k o joined) k o joined
takes w k o joined possible room =
    let here : (world_after w k o joined).nodes k ≡ node_after (w.nodes k) o =
    if_true (nat_eq k k) (node_after (w.nodes k) o) (w.nodes k) (eq-eqb k k refl) in
    let other : (j : ℕ) → j ≢ k → (world_after w k o joined).nodes j ≡ w.nodes j =
    λ j apart. if_false (nat_eq j k) (node_after (w.nodes k) o) (w.nodes j) (ne_eqb j k apart) in
    record {
      moves = record {
        possible = possible;
        room = room;
        state = ap (λ (n : WorldNode). n.state) here;
        others = λ j apart. ap (λ (n : WorldNode). n.state) (other j apart);
        bag = refl;
      };
      only = record { others = other; clock = refl };
      records = ap (λ (n : WorldNode). n.records) here;
      pending = ap (λ (n : WorldNode). n.pending) here;
      mode = ap (λ (n : WorldNode). n.mode) here;
    }

pub can_happen : (w : World) (k : ℕ) (o : Occasion) → (w.nodes k).mode ≡ is_up → IsPossible (net_of w) k o
    → HasSpareCounters (w.nodes k).state → (w2 : World) × WorldStep w w2 × Takes w w2 k o true
can_happen w k o up possible room =
    let step = takes w k o true possible room in (world_after w k o true, happens k o up step, step)

-- ---- what of a node is pending changes, and its mode

abbrev node_in_mode : WorldNode → Option Occasion → Mode → WorldNode
node_in_mode n pending mode = record n { pending = pending; mode = mode }

abbrev world_in_mode : World → ℕ → Option Occasion → Mode → World
world_in_mode w k pending mode = world_with w k (node_in_mode (w.nodes k) pending mode) w.bag

stays_at : (w : World) (k : ℕ) (pending : Option Occasion) (mode : Mode) → Stays w (world_in_mode w k pending mode) k pending mode
stays_at w k pending mode = record {
  node = if_true (nat_eq k k) (node_in_mode (w.nodes k) pending mode) (w.nodes k) (eq-eqb k k refl);
  only = record {
    others = λ j apart. if_false (nat_eq j k) (node_in_mode (w.nodes k) pending mode) (w.nodes j) (ne_eqb j k apart);
    clock = refl;
  };
  bag = refl;
}

pub can_fail : (w : World) (k : ℕ) (o : Occasion) (mode : Mode) → (w.nodes k).mode ≡ is_up → (mode ≡ is_closed) ⊎ (mode ≡ is_down)
    → MayStillBeTaken w k o → (w2 : World) × WorldStep w w2 × Stays w w2 k (Some o) mode
can_fail w k o mode up is_mode may =
    let step = stays_at w k (Some o) mode in (world_in_mode w k (Some o) mode, fails k o mode up is_mode may step, step)

pub can_stop : (w : World) (k : ℕ) → (w2 : World) × WorldStep w w2 × Stays w w2 k (w.nodes k).pending is_down
can_stop w k =
    let step = stays_at w k (w.nodes k).pending is_down in (world_in_mode w k (w.nodes k).pending is_down, crashes k step, step)

pub can_open : (w : World) (k : ℕ) → (w2 : World) × WorldStep w w2 × Stays w w2 k None is_up
can_open w k = let step = stays_at w k None is_up in (world_in_mode w k None is_up, opens_without k step, step)

pub can_fail_to_open : (w : World) (k : ℕ) → (w2 : World) × WorldStep w w2 × Stays w w2 k (w.nodes k).pending is_down
can_fail_to_open w k =
    let step = stays_at w k (w.nodes k).pending is_down in (world_in_mode w k (w.nodes k).pending is_down, fails_to_open k step, step)

pub can_be_kept : (w : World) (k : ℕ) (o : Occasion) → IsItsRecords w → (w.nodes k).pending ≡ Some o
    → (w2 : World) × WorldStep w w2 × Takes w w2 k o false
can_be_kept w k o is pending =
    let may = subst (λ (p : Option Occasion). IfSome p (MayStillBeTaken w k)) pending (is.pending k) in
    let step = takes w k o false may.possible may.room in
    (world_after w k o false, opens_with k o pending step, step)

pub can_start : (base : ℕ → List ℕ) → ((k : ℕ) → 1 ≤ k → k < 2 ^ 32 → InRange (journal.Node k (base k))) → (w : World) × IsFirstWorld w
can_start base in_range = (
  record { clock = 0; bag = []; nodes = λ k. node_at_start k (base k) },
  record { clock = refl; bag = refl; base = base; nodes = λ k. refl; in_range = in_range },
)

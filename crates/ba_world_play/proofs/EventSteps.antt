-- Each event that is played is a step of the world; for the law of that name.
use Rattle.std.proofs.Common.{◌≡◌, ℕ, ◌≤◌, Bool, true, false, ◌&&◌, List, ◌∷◌, nat_le, Option, None, Some, Ok, Err, refl, sym, ap, subst}
use Rattle.std.proofs.Common.{if◌then◌else◌, arith, true≢false}
use Rattle.std.proofs.lemmas.Bool.Decides.{nat_tests}
use Rattle.ba_core.specs.Numbers.{node_of}
use Rattle.ba_core.specs.declared.identifiers.Id.{Id}
use Rattle.ba_core.specs.declared.protocols.Kind.{Kind}
use Rattle.ba_core.specs.declared.protocols.Protocol.{Protocol}
use Rattle.ba_core.specs.declared.protocols.Protocol.TheVariants.{Pc}
use Rattle.ba_world_events.specs.declared.events.Event.{Event}
use Rattle.ba_world_events.specs.declared.events.Event.TheVariants as event
use Rattle.ba_world_events.specs.declared.outcomes.Outcome.TheVariants as outcome
use Rattle.ba_ports_memory.specs.DiskValue.{rearmed_medium, restarted_medium}
use Rattle.ba_world_play.specs.Arrivals.{arrival}
use Rattle.ba_world_play.specs.Disks.{HaveSpare}
use Rattle.ba_world_play.specs.Plays.{EventEffect, WorldEffect, WorldOnDisks, arming_effect, context_handed, create_at, crash_effect, deliver}
use Rattle.ba_world_play.specs.Plays.{delivery_by_input, effect_with, has_node, if_has_node, join_at, mail_at, moment, next_number}
use Rattle.ba_world_play.specs.Plays.{occasion_effect, open_effect, own_at, play_step, scope_named, with_scope_named}
use Rattle.ba_world_play.specs.Posting.{CanPost}
use Rattle.ba_world_play.specs.declared.missing.Missing.TheVariants as missing
use Rattle.ba_world_play.proofs.Arriving.{arrival_brings, mail_among}
use Rattle.ba_world_play.proofs.EventDisks.{AllFit, arming_disks, crash_disks, lost_disks, occasion_disks, open_disks}
use Rattle.ba_world_play.proofs.InPlaceLines.{occasion_in_place}
use Rattle.ba_world_play.proofs.NodeSteps.{StepsOn, lost_steps, node_stays, node_stops, occasion_steps, open_steps}
use Rattle.ba_ports.specs.Disk.{Armament, fail, stop}
use Rattle.ba_world_runs.proofs.SoundRuns.{sound_run}
use Rattle.ba_world_runs.specs.Runs.{IsRun}
use Rattle.ba_world_runs.specs.Safety.{IsItsRecords, IsSound}
use Rattle.ba_world_runs.specs.World.{Mail, Occasion, World, delivers, is_up, net_of, node_at, own, ticks}
use Rattle.ba_world_runs.specs.WorldSteps.{BringsInput, IsOwn, IsPossible, nothing, waits}
use Rattle.ba_scope.proofs.Lists.{by_test}
use Rattle.ba_scope.specs.Scope.{ScopeState}
use Rattle.ba_node_steps.proofs.Cases.{found_cases}
use Rattle.ba_node_steps.proofs.Places.{scope_found}
use Rattle.ba_node_steps.specs.Addresses.{registration_of}
use Rattle.ba_node_steps.specs.Fits.{HasSpareCounters}
use Rattle.ba_node_steps.specs.Node.{Among, scope_with_id}
use Rattle.ba_node_steps.specs.declared.inputs.Input.{Input}
use Rattle.ba_node_steps.specs.declared.inputs.Input.TheVariants as input

-- ---- a node of the world

both_tests : (a b : Bool) → (a && b) ≡ true → (a ≡ true) × (b ≡ true)
both_tests true true h = (refl, refl)
both_tests true false h = absurd (true≢false (sym h))
both_tests false b h = absurd (true≢false (sym h))

at_most : (a b : ℕ) → nat_le a b ≡ true → a ≤ b
at_most a b h = grind (arith, nat_tests)

node_spare : (p : WorldOnDisks) → HaveSpare p → (k : ℕ) → has_node p k ≡ true → (p.world.nodes k).mode ≡ is_up
    → HasSpareCounters (p.world.nodes k).state
node_spare p spare k has =
    let tests = both_tests (nat_le 1 k) (nat_le k p.count) has in spare k (at_most 1 k tests.0) (at_most k p.count tests.1)

-- what an event leads to is a step, and disks go on to hold their nodes
pub record GoesWell (p : WorldOnDisks) (e : WorldEffect) : Type 0 where
  pub steps : StepsOn p e
  pub disks : CanPost p.world → AllFit p → AllFit e.after

-- so it is, if it is played
abbrev pub IsStepIfPlayed : WorldOnDisks → EventEffect → Type 0
IsStepIfPlayed p (Ok e) = GoesWell p e
IsStepIfPlayed p (Err why) = Unit {0}

if_here : (p : WorldOnDisks) (k : ℕ) (e : WorldEffect) → (has_node p k ≡ true → GoesWell p e)
    → IsStepIfPlayed p (if_has_node p k e)
if_here p k e steps = by_test (IsStepIfPlayed p) (has_node p k) (Ok e) (Err missing.Name) steps (λ none. tt)

module _ (p : WorldOnDisks) (sound : IsSound (net_of p.world)) (records : IsItsRecords p.world) (spare : HaveSpare p) where
  -- ---- an occasion that is possible

  happens_at : (k : ℕ) (o : Occasion) → IsPossible (net_of p.world) k o → has_node p k ≡ true → GoesWell p (occasion_effect p k o)
  happens_at k o possible has = record {
    steps = occasion_steps p k o (record {
      possible = possible;
      room = node_spare p spare k has;
      in_place = occasion_in_place (net_of p.world) sound k o possible (next_number p);
    });
    disks = occasion_disks p records k o possible (node_spare p spare k has);
  }

  own_steps : (k : ℕ) (i : Input) → IsOwn (net_of p.world) i → IsStepIfPlayed p (own_at p k i)
  own_steps k i is_own = if_here p k (occasion_effect p k (own (moment p) i)) (happens_at k (own (moment p) i) is_own)

  -- ---- a scope that is named

  scope_is : (id : Id) (s : ScopeState) → scope_named p id ≡ Some s → scope_with_id (p.world.nodes (node_of id.0)).state id ≡ Some s
  scope_is id s h = by_node (has_node p (node_of id.0)) h
    where
      by_node : (b : Bool) → (if b then scope_with_id (p.world.nodes (node_of id.0)).state id else None) ≡ Some s
          → scope_with_id (p.world.nodes (node_of id.0)).state id ≡ Some s
      by_node true h = h
      by_node false h = absurd cc

  named_steps : (id : Id) (next : ScopeState → EventEffect)
      → ((s : ScopeState) → Among (p.world.nodes (node_of id.0)).state.scopes s → s.id ≡ id → IsStepIfPlayed p (next s))
      → IsStepIfPlayed p (with_scope_named p id next)
  named_steps id next steps =
      found_cases (IsStepIfPlayed p) (scope_named p id) (Err missing.Name) next tt (λ s named.
      let found = scope_found (p.world.nodes (node_of id.0)).state id s (scope_is id s named) in steps s found.0 found.1)

  create_steps : (k : ℕ) (kind : Kind) (expires : Option ℕ) (under : Option (Id × Protocol))
      → IsStepIfPlayed p (create_at p k kind expires under)
  create_steps k kind expires None = own_steps k (input.Create expires None (Some kind) Pc) tt
  create_steps k kind expires (Some under) =
      named_steps under.0
      (λ s. own_at p k (input.Create expires (Some (context_handed p under.0 s)) (Some kind) under.1)) (λ s among is.
      own_steps k (input.Create expires (Some (context_handed p under.0 s)) (Some kind) under.1)
      (node_of under.0.0, s, among, ap (registration_of (p.world.nodes (node_of under.0.0)).state.base) (sym is), refl))

  join_steps : (k : ℕ) (protocol : Protocol) (scope : Id) → IsStepIfPlayed p (join_at p k protocol scope)
  join_steps k protocol scope =
      named_steps scope (λ s. own_at p k (input.Join protocol (context_handed p scope s).registration)) (λ s among is.
      own_steps k (input.Join protocol (context_handed p scope s).registration)
      (node_of scope.0, s, among, ap (registration_of (p.world.nodes (node_of scope.0)).state.base) (sym is)))

  -- ---- a delivery

  by_input : (m : Mail) → Among p.world.bag m → (k : ℕ) → k ≡ (arrival (net_of p.world) m).node → has_node p k ≡ true
      → (i : Option Input) → (arrival (net_of p.world) m).input ≡ i → GoesWell p (delivery_by_input p m k i)
  by_input m among k to has None leads = record { steps = lost_steps p k; disks = λ can. lost_disks p k }
  by_input m among k to has (Some i) leads =
      let brings = arrival_brings (net_of p.world) m i (λ j. (records.nodes j).number) leads in
      happens_at k (delivers (moment p) m i)
      (among, subst (λ (j : ℕ). BringsInput (node_at (net_of p.world) j) m i) (sym to) brings) has

  deliver_steps : (m : Option Mail) → ((x : Mail) → m ≡ Some x → Among p.world.bag x) → IsStepIfPlayed p (deliver p m)
  deliver_steps None among = tt
  deliver_steps (Some m) among =
      let to = arrival (net_of p.world) m in
      by_test (GoesWell p) (has_node p to.node) (delivery_by_input p m to.node to.input) (effect_with p outcome.Done)
      (λ has. by_input m (among m refl) to.node refl has to.input refl)
      (λ none. record {
        steps = record { step = nothing refl; count = refl; in_place = λ number h. absurd cc };
        disks = λ can all. all;
      })

  -- ---- any event

  arming_steps : (k : ℕ) (armament : Armament) → IsStepIfPlayed p (if_has_node p k (arming_effect p k armament))
  arming_steps k armament = if_here p k (arming_effect p k armament) (λ has. record {
    steps = node_stays p k (rearmed_medium armament (p.disks k)) outcome.Done (λ number h. absurd cc);
    disks = λ can. arming_disks p k armament;
  })

  pub event_steps : (e : Event) → IsStepIfPlayed p (play_step p e)
  event_steps (event.Create node kind under expires) = create_steps node kind expires under
  event_steps (event.Join node protocol scope) = join_steps node protocol scope
  event_steps (event.Tick id) =
      if_here p (node_of id.0) (occasion_effect p (node_of id.0) (ticks (moment p) id)) (happens_at (node_of id.0) (ticks (moment p) id) tt)
  event_steps (event.Deliver number) = deliver_steps (mail_at p.world.bag number) (mail_among p.world.bag number)
  event_steps (event.Act id a) = own_steps (node_of id.0) (input.Act id a) tt
  event_steps (event.Ask id) = own_steps (node_of id.0) (input.Ask id) tt
  event_steps (event.Decide id v) = own_steps (node_of id.0) (input.Decide id v) tt
  event_steps (event.Choose id v) = own_steps (node_of id.0) (input.Choose id v) tt
  event_steps (event.Complete id) = own_steps (node_of id.0) (input.Complete id) tt
  event_steps (event.Finish id) = own_steps (node_of id.0) (input.Finish id) tt
  event_steps (event.Leave id how) = own_steps (node_of id.0) (input.Leave id how) tt
  event_steps (event.Wait time) = record {
    steps = record { step = waits time refl; count = refl; in_place = λ number h. absurd cc };
    disks = λ can all. all;
  }
  event_steps (event.Crash node) = if_here p node (crash_effect p node) (λ has. record {
    steps = node_stops p node (restarted_medium (p.disks node)) outcome.Done (λ number h. absurd cc);
    disks = λ can. crash_disks p node;
  })
  event_steps (event.CrashAt node call image) = arming_steps node (stop call image)
  event_steps (event.Fail node call) = arming_steps node (fail call)
  event_steps (event.Open node) = if_here p node (open_effect p node) (λ has.
      record { steps = open_steps p node records; disks = λ can. open_disks p records node })

-- ---- in a run

pub steps_in_run : (p : WorldOnDisks) (before : List World) (e : Event) (effect : WorldEffect) → IsRun (p.world ∷ before) → HaveSpare p
    → play_step p e ≡ Ok effect → GoesWell p effect
steps_in_run p before e effect run spare is =
    let sound = sound_run p.world before run in
    subst (IsStepIfPlayed p) is (event_steps p sound.net sound.records spare e)

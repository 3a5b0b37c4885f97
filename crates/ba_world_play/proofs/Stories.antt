-- The worlds of a play are a run, each of them is safe, and so is each of its lines; for the law that plays stay safe.
use Rattle.std.proofs.Common.{◌≡◌, inl, inr, ℕ, suc, ◌+◌, ◌*◌, ◌<◌, ◌≤◌, ◌^◌, Bool, List, [], ◌∷◌, ◌++◌, length, Option, None, Some, Ok}
use Rattle.std.proofs.Common.{Err, refl, sym, ap, subst, arith}
use Rattle.std.specs.List.{AllByRecursion}
use Rattle.std.proofs.lemmas.Bool.Decides.{eqb_tells}
use Rattle.ba_world_events.specs.Events.{NumberedEvent}
use Rattle.ba_world_play.specs.Disks.{DiskFits, HaveSpare}
use Rattle.ba_world_play.specs.Plays.{EventEffect, WorldEffect, WorldOnDisks, node_base, play_step, starting_play, world_at_start}
use Rattle.ba_world_play.specs.SafeStories.{ClosesWhatCompleted, IsInPlace, IsSafeStory, OutcomesAreRecorded, RunClosesWhatCompleted}
use Rattle.ba_world_play.specs.SafeStories.{RunIsRecorded}
use Rattle.ba_world_play.specs.Posting.{CanPost}
use Rattle.ba_world_play.specs.Shows.{Halt, Story, story, story_by, story_from}
use Rattle.ba_world_play.proofs.Bases.{base_in_range}
use Rattle.ba_world_play.proofs.EventDisks.{AllFit}
use Rattle.ba_world_play.proofs.EventSteps.{GoesWell, steps_in_run}
use Rattle.ba_world_play.proofs.Posted.{start_posts, step_posts}
use Rattle.ba_world_play.proofs.Starts.{start_fits}
use Rattle.ba_world_runs.proofs.Completed.{close_told, run_closes}
use Rattle.ba_world_runs.proofs.Nets.{net_moves}
use Rattle.ba_world_runs.proofs.OutcomeRecords.{outcomes_recorded}
use Rattle.ba_world_runs.proofs.OutcomesTold.{outcomes_told}
use Rattle.ba_world_runs.proofs.Recorded.{run_keeps}
use Rattle.ba_world_runs.proofs.SoundRuns.{safe_run, sound_run}
use Rattle.ba_world_runs.specs.Runs.{IsFirstWorld, IsRun, goes_on, starts}
use Rattle.ba_world_runs.specs.Safety.{IsItsRecords, IsSafe}
use Rattle.ba_world_runs.specs.World.{formats, Net, Occasion, World, delivers, net_of, node_at, own, ticks}
use Rattle.ba_world_runs.specs.WorldSteps.{Moves, WorldStep, effect}
use Rattle.ba_node_steps.proofs.StepsFit.{step_makes_few}
use Rattle.ba_node_steps.specs.Fits.{HasSpareCounters, NodeFits}
use Rattle.ba_node_steps.specs.Lawful.{formatted, given, ticked}
use Rattle.ba_node_steps.specs.Node.{NodeState, last}

-- ---- each step makes two objects at most

few_made : (n : NodeState) (o : Occasion) → HasSpareCounters n → NodeFits n → last (effect n o).after ≤ last n + 2
few_made n (own now i) room fits = step_makes_few n (given now i) room fits
few_made n (delivers now m i) room fits = step_makes_few n (given now i) room fits
few_made n (ticks now id) room fits = step_makes_few n (ticked now id) room fits
few_made n formats room fits = step_makes_few n formatted room fits

few_moved : (w w2 : Net) (k : ℕ) (o : Occasion) (joined : Bool) → Moves w w2 k o joined → NodeFits (node_at w k) → (j : ℕ)
    → last (node_at w2 j) ≤ last (node_at w j) + 2
few_moved w w2 k o joined moves fits j = elim (eqb_tells j k) [
  | inl same ↦ subst (λ (i : ℕ). last (node_at w2 i) ≤ last (node_at w i) + 2) (sym same.1)
      (subst (λ (n : NodeState). last n ≤ last (node_at w k) + 2) (sym moves.state) (few_made (node_at w k) o moves.room fits))
  | inr other ↦ let stays : last (node_at w2 j) ≡ last (node_at w j) = ap last (moves.others j other.1) in omega (arith, stays)
]

few_stepped : (w w2 : World) → WorldStep w w2 → IsItsRecords w → (j : ℕ)
    → last (w2.nodes j).state ≤ last (w.nodes j).state + 2
few_stepped w w2 step records j = elim (net_moves w w2 step) [
  | inl same ↦
      let stays : last (w.nodes j).state ≡ last (w2.nodes j).state = ap (λ (n : Net). last (node_at n j)) same in
      omega (arith, stays)
  | inr moved ↦
      few_moved (net_of w) (net_of w2) moved.0 moved.1 moved.2 moved.3 (records.nodes moved.0).fits j
]

-- ---- a play after so many events

record GoesOn (p : WorldOnDisks) (before : List World) (played : ℕ) : Type 0 where
  run : IsRun (p.world ∷ before)
  few : (k : ℕ) → last (p.world.nodes k).state ≤ 2 * played
  count : p.count < 2 ^ 32
  posts : CanPost p.world
  posted : AllByRecursion CanPost before
  disks : AllFit p

spare_there : (p : WorldOnDisks) (before : List World) (played : ℕ) → GoesOn p before played → 2 * played + 2 < 2 ^ 64 → HaveSpare p
spare_there p before played goes room k from to up =
    let number : (p.world.nodes k).state.number ≡ k = ((run_keeps p.world before goes.run).nodes k).number in
    let small : p.count < 2 ^ 32 = goes.count in
    let few : last (p.world.nodes k).state ≤ 2 * played = goes.few k in
    record {
      number = subst (λ (n : ℕ). n < 2 ^ 32) (sym number) (omega (arith, to, small));
      counters = omega (arith, few, room);
    }

-- what its events lead to: a run, and lines in place
record Ends (s : Story) : Type 0 where
  first : World
  before : List World
  are : s.worlds ≡ first ∷ before
  run : IsRun (first ∷ before)
  in_place : AllByRecursion (λ line. IsInPlace line.1) s.lines
  posted : AllByRecursion CanPost s.worlds
  disks : AllFit s.last

halts : (p : WorldOnDisks) (before : List World) (played : ℕ) (halt : Option Halt) → GoesOn p before played
    → Ends (record { lines = []; worlds = p.world ∷ before; last = p; halt = halt })
halts p before played halt goes = record {
  first = p.world;
  before = before;
  are = refl;
  run = goes.run;
  in_place = tt;
  posted = (goes.posts, goes.posted);
  disks = goes.disks;
}

goes_further : (p : WorldOnDisks) (before : List World) (played : ℕ) (effect : WorldEffect) → GoesOn p before played
    → GoesWell p effect → GoesOn effect.after (p.world ∷ before) (suc played)
goes_further p before played effect goes well = let step = well.steps.step in record {
  run = goes_on goes.run step;
  few = λ k.
      let more : last (effect.after.world.nodes k).state ≤ last (p.world.nodes k).state + 2 =
      few_stepped p.world effect.after.world step (run_keeps p.world before goes.run) k in
      let few : last (p.world.nodes k).state ≤ 2 * played = goes.few k in
      omega (arith, more, few);
  count = subst (λ (n : ℕ). n < 2 ^ 32) (sym well.steps.count) goes.count;
  posts = step_posts p.world (run_keeps p.world before goes.run) goes.posts effect.after.world step;
  posted = (goes.posts, goes.posted);
  disks = well.disks goes.posts goes.disks;
}

by_played : (p : WorldOnDisks) (before : List World) (played : ℕ) (e : NumberedEvent) (rest : WorldOnDisks → Story)
    → GoesOn p before played → 2 * played + 2 < 2 ^ 64
    → ((after : WorldOnDisks) → GoesOn after (p.world ∷ before) (suc played) → Ends (rest after))
    → (a : EventEffect) → play_step p e.1 ≡ a → Ends (story_by before p e.0 a rest)
by_played p before played e rest goes room later (Err why) is = halts p before played (Some (record { number = e.0; why = why })) goes
by_played p before played e rest goes room later (Ok effect) is =
    let well = steps_in_run p before e.1 effect goes.run (spare_there p before played goes room) is in
    let end = later effect.after (goes_further p before played effect goes well) in
    record {
      first = end.first;
      before = end.before;
      are = end.are;
      run = end.run;
      in_place = (well.steps.in_place, end.in_place);
      posted = end.posted;
      disks = end.disks;
    }

walk : (p : WorldOnDisks) (before : List World) (played : ℕ) (events : List NumberedEvent) → GoesOn p before played
    → 2 * (played + length events) + 2 < 2 ^ 64 → Ends (story_from before p events)
walk p before played [] goes room = halts p before played None goes
walk p before played (e ∷ more) goes room =
    by_played p before played e (λ after. story_from (p.world ∷ before) after more) goes (omega (arith, room))
    (λ after on. walk after (p.world ∷ before) (suc played) more on (omega (arith, room))) (play_step p e.1) refl

-- ---- the start

first_world : IsFirstWorld world_at_start
first_world = record { clock = refl; bag = refl; base = node_base; nodes = λ k. refl; in_range = base_in_range }

start_goes_on : (count : ℕ) → count < 2 ^ 32 → GoesOn (starting_play count) [] 0
start_goes_on count small = record {
  run = starts first_world;
  few = none_made;
  count = small;
  posts = start_posts;
  posted = tt;
  disks = start_fits;
}
  where
    none_made : (k : ℕ) → last (world_at_start.nodes k).state ≤ 2 * 0
    none_made k = let none : last (world_at_start.nodes k).state ≡ 0 = refl in omega (arith, none)

-- ---- what holds in each run

all_safe : (w : World) (before : List World) → IsRun (w ∷ before) → AllByRecursion (λ (x : World). IsSafe (net_of x)) (w ∷ before)
all_safe w before (starts start) = (safe_run w _ (starts start), tt)
all_safe w before (goes_on run step) = (safe_run w _ (goes_on run step), all_safe _ _ run)

all_recorded : (w : World) (before : List World) → IsRun (w ∷ before) → OutcomesAreRecorded w before
all_recorded w before run = record { received = outcomes_recorded w before run; acted = outcomes_told w before run }

all_records : (w : World) (before : List World) → IsRun (w ∷ before) → AllByRecursion IsItsRecords (w ∷ before)
all_records w before (starts start) = (run_keeps w _ (starts start), tt)
all_records w before (goes_on run step) = (run_keeps w _ (goes_on run step), all_records _ _ run)

all_completed : (w : World) (before : List World) → IsRun (w ∷ before) → ClosesWhatCompleted w before
all_completed w before run =
    record { state = run_closes w before run; told = close_told w before run (sound_run w before run).net }

is_safe : (s : Story) → Ends s → IsSafeStory s
is_safe s end = record {
  run = subst IsRun (sym end.are) end.run;
  safe = subst (AllByRecursion (λ (x : World). IsSafe (net_of x))) (sym end.are) (all_safe end.first end.before end.run);
  records = subst (AllByRecursion IsItsRecords) (sym end.are) (all_records end.first end.before end.run);
  recorded = subst RunIsRecorded (sym end.are) (all_recorded end.first end.before end.run);
  completed = subst RunClosesWhatCompleted (sym end.are) (all_completed end.first end.before end.run);
  in_place = end.in_place;
}

ends_well : (count : ℕ) (events : List NumberedEvent) → count < 2 ^ 32 → 2 * length events + 2 < 2 ^ 64 → Ends (story count events)
ends_well count events small room = walk (starting_play count) [] 0 events (start_goes_on count small) (omega (arith, room))

pub safe_story : (count : ℕ) (events : List NumberedEvent) → count < 2 ^ 32 → 2 * length events + 2 < 2 ^ 64
    → IsSafeStory (story count events)
safe_story count events small room = is_safe (story count events) (ends_well count events small room)

pub disks_at_end : (count : ℕ) (events : List NumberedEvent) → count < 2 ^ 32 → 2 * length events + 2 < 2 ^ 64 → (k : ℕ) → 1 ≤ k
    → k < 2 ^ 32 → DiskFits ((story count events).last.world.nodes k) ((story count events).last.disks k)
disks_at_end count events small room = (ends_well count events small room).disks

pub posted_in_all : (count : ℕ) (events : List NumberedEvent) → count < 2 ^ 32 → 2 * length events + 2 < 2 ^ 64
    → AllByRecursion CanPost (story count events).worlds
posted_in_all count events small room = (ends_well count events small room).posted

-- the worlds of a run up to one of them are a run
run_before : (later : List World) (here : World) (behind worlds : List World) → worlds ≡ later ++ (here ∷ behind) → IsRun worlds
    → IsRun (here ∷ behind)
run_before [] here behind worlds are run = subst IsRun are run
run_before (x ∷ []) here behind worlds are (starts start) = absurd cc
run_before (x ∷ y ∷ later) here behind worlds are (starts start) = absurd cc
run_before (x ∷ later) here behind worlds are (goes_on {w} {w2} {before} run step) =
    let same : w ∷ before ≡ later ++ (here ∷ behind) = cc in run_before later here behind (w ∷ before) same run

pub recorded_so_far : (count : ℕ) (events : List NumberedEvent) → count < 2 ^ 32 → 2 * length events + 2 < 2 ^ 64
    → (later : List World) (w : World) (before : List World) → (story count events).worlds ≡ later ++ (w ∷ before)
    → OutcomesAreRecorded w before
recorded_so_far count events small room later w before are =
    all_recorded w before (run_before later w before (story count events).worlds are (safe_story count events small room).run)

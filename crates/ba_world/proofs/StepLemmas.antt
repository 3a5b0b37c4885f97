-- After an event the world is that of the play after it, whose worlds are a run; for the clauses of `step`.
use Rattle.std.proofs.Common.{◌≡◌, ℕ, ◌+◌, ◌-◌, ◌<◌, ◌^◌, false, ◌∷◌, length, slice_get, Option, None, Some, Result, Ok, Err, refl, sym, ap}
use Rattle.std.proofs.Common.{subst, arith}
use Rattle.ba_world_events.specs.declared.events.Event.{Event}
use Rattle.ba_world_events.specs.declared.outcomes.Outcome.{Outcome}
use Rattle.ba_ports_memory.specs.DiskValue.{MediumValue}
use Rattle.ba_world_places.specs.Places.{Matches}
use Rattle.ba_world_places.specs.declared.places.Place.{Place}
use Rattle.ba_world_places.specs.declared.places.Place.TheVariants as place
use Rattle.ba_world_play.proofs.EventSteps.{steps_in_run}
use Rattle.ba_world_play.proofs.Posted.{step_posts}
use Rattle.ba_world_play.specs.Disks.{HaveSpare}
use Rattle.ba_world_play.specs.Plays.{EventEffect, WorldEffect, WorldOnDisks, play_step}
use Rattle.ba_world_runs.proofs.Recorded.{run_keeps}
use Rattle.ba_world_runs.specs.Runs.{goes_on}
use Rattle.ba_world_runs.specs.World.{WorldNode, is_up}
use Rattle.ba_node_steps.specs.Fits.{HasSpareCounters}
use Rattle.ba_world.proofs.PlaceLemmas.{some_within}
use Rattle.ba_world.specs.Worlds.{IsPlayed, IsPlayedAs, IsSetAs, IsStageOf, StageValue}
use Rattle.ba_world.specs.declared.faults.StepFault.{StepFault}
use Rattle.ba_world.specs.declared.faults.StepFault.TheVariants as fault
use Rattle.ba_world.specs.inside.Stages.{StageIsPlayedAs, is_starved}

spare_at : (n : WorldNode) (disk : MediumValue) (at : Place) → Matches n disk at → n.mode ≡ is_up → HasSpareCounters n.state
spare_at n disk (place.Up node) matches up = subst HasSpareCounters matches.place.state matches.place.spare
spare_at n disk (place.Down held known) matches up = let down = matches.place.mode in absurd cc

pub all_spare : (v : StageValue) (p : WorldOnDisks) → IsSetAs v p → HaveSpare p
all_spare v p set k from to up = by (slice_get v.places (k - 1)) refl
  where
    by : (o : Option Place) → slice_get v.places (k - 1) ≡ o → HasSpareCounters (p.world.nodes k).state
    by None is =
        let count : p.count ≡ length v.places = set.count in
        absurd (some_within v.places (k - 1) (omega (arith, from, to, count)) is)
    by (Some at) is =
        let same : k - 1 + 1 ≡ k = omega (arith, from) in
        spare_at (p.world.nodes k) (p.disks k) at
        (subst (λ (j : ℕ). Matches (p.world.nodes j) (p.disks j) at) same (set.places (k - 1) at is)) up

pub stage_after : (old new : StageValue) (p : WorldOnDisks) (e : Event) (led : WorldEffect) → IsStageOf old p → play_step p e ≡ Ok led
    → IsSetAs new led.after → IsStageOf new led.after
stage_after old new p e led stage is set =
    let well = steps_in_run p stage.before e led stage.run (all_spare old p stage.set) is in
    let records = run_keeps p.world stage.before stage.run in
    record {
      set = set;
      before = p.world ∷ stage.before;
      run = goes_on stage.run well.steps.step;
      posts = step_posts p.world records stage.posts led.after.world well.steps.step;
      few = subst (λ (n : ℕ). n < 2 ^ 32) (sym well.steps.count) stage.few;
    }

module _ (old new : StageValue) (p : WorldOnDisks) (e : Event) (stage : IsStageOf old p) where
  played_by : (due : EventEffect) → play_step p e ≡ due → (result : Result Outcome StepFault) → StageIsPlayedAs due old new result
      → IsPlayedAs due (record { stage = old; spent = false }) (record { stage = new; spent = is_starved result }) result
  played_by (Ok led) is (Ok o) h = (h.0, (refl, stage_after old new p e led stage is h.1))
  played_by (Err why) is (Err (fault.Missing told)) h = (h.0, ap (λ (s : StageValue). record { stage = s; spent = false }) h.1)
  played_by (Ok led) is (Err fault.Memory) h = tt
  played_by (Err why) is (Err fault.Memory) h = tt
  played_by (Err why) is (Ok o) h = absurd h
  played_by (Ok led) is (Err (fault.Missing told)) h = absurd h

  pub world_plays : (result : Result Outcome StepFault) → StageIsPlayedAs (play_step p e) old new result
      → IsPlayedAs (play_step p e) (record { stage = old; spent = false }) (record { stage = new; spent = is_starved result }) result
  world_plays result h = played_by (play_step p e) refl result h

  goes_on_by : (due : EventEffect) → play_step p e ≡ due → (result : Result Outcome StepFault) → StageIsPlayedAs due old new result
      → IsPlayed (record { stage = new; spent = is_starved result })
  goes_on_by (Ok led) is (Ok o) h = λ live. (led.after, stage_after old new p e led stage is h.1)
  goes_on_by (Err why) is (Err (fault.Missing told)) h = λ live. (p, subst (λ (s : StageValue). IsStageOf s p) (sym h.1) stage)
  goes_on_by (Ok led) is (Err fault.Memory) h = λ live. absurd cc
  goes_on_by (Err why) is (Err fault.Memory) h = λ live. absurd cc
  goes_on_by (Err why) is (Ok o) h = absurd h
  goes_on_by (Ok led) is (Err (fault.Missing told)) h = absurd h

  pub world_goes_on : (result : Result Outcome StepFault) → StageIsPlayedAs (play_step p e) old new result
      → IsPlayed (record { stage = new; spent = is_starved result })
  world_goes_on result h = goes_on_by (play_step p e) refl result h

-- Each event of a play keeps that disks hold their nodes; for the law that plays keep their disks.
use Rattle.std.proofs.Common.{◌≡◌, ◌≢◌, inl, inr, ℕ, ◌<◌, ◌≤◌, ◌^◌, List, [], Option, None, Some, refl, sym, ◌∙◌, subst}
use Rattle.std.proofs.lemmas.Bool.Decides.{eqb_tells}
use Rattle.ba_world_events.specs.declared.outcomes.Outcome.{Outcome}
use Rattle.ba_world_events.specs.declared.outcomes.Outcome.TheVariants as outcome
use Rattle.ba_ports_memory.specs.DiskValue.{MediumValue}
use Rattle.ba_world_play.proofs.Holding.{arming_fits, call_fits, fits_unarmed, opening_fits, stop_fits}
use Rattle.ba_world_play.proofs.NodeSteps.{at_here, at_other}
use Rattle.ba_world_play.proofs.Posted.{occasion_gives}
use Rattle.ba_world_play.specs.Disks.{DiskFits}
use Rattle.ba_world_play.specs.Nodes.{NodeCall, NodeOnDisk, armed_with, crashed, lost_call, node_call, open_call}
use Rattle.ba_world_play.specs.Outcomes.{occasion_outcome}
use Rattle.ba_world_play.specs.Plays.{WorldOnDisks, arming_effect, crash_effect, effect_by_shown, lost_effect, next_number, occasion_effect}
use Rattle.ba_world_play.specs.Plays.{open_effect, with_at, with_node}
use Rattle.ba_world_play.specs.Posting.{CanPost, occasion_event}
use Rattle.ba_ports.specs.Disk.{Armament}
use Rattle.ba_record.specs.Coding.{InRange}
use Rattle.ba_record.specs.declared.records.Record.{Record}
use Rattle.ba_world_runs.specs.Safety.{IsItsRecords}
use Rattle.ba_world_runs.specs.World.{formats, Mail, Mode, Occasion, WorldNode, delivers, is_closed, is_down, is_up, net_of, own, ticks}
use Rattle.ba_world_runs.specs.WorldSteps.{IsPossible, effect}
use Rattle.ba_node_steps.proofs.InRange.{in_range}
use Rattle.ba_node_steps.specs.Fits.{HasSpareCounters}
use Rattle.ba_node_steps.specs.Lawful.{Replays, change}
use Rattle.ba_node_steps.specs.Node.{NodeState}

-- each disk of a numbered node holds it
abbrev pub AllFit : WorldOnDisks → Type 0
AllFit p = (k : ℕ) → 1 ≤ k → k < 2 ^ 32 → DiskFits (p.world.nodes k) (p.disks k)

-- a node and its disk are put in their place
node_fits : (p : WorldOnDisks) (k : ℕ) (on_disk : NodeOnDisk) → AllFit p
    → ((1 ≤ k) → (k < 2 ^ 32) → DiskFits on_disk.node on_disk.disk) → AllFit (with_node p k on_disk)
node_fits p k on_disk all fits j from small = elim (eqb_tells j k) [
  | inl same ↦
      subst (λ (i : ℕ). DiskFits (with_at p.world.nodes k on_disk.node i) (with_at p.disks k on_disk.disk i)) (sym same.1)
      (subst (λ (n : WorldNode). DiskFits n (with_at p.disks k on_disk.disk k)) (sym (at_here p.world.nodes k on_disk.node))
      (subst (DiskFits on_disk.node) (sym (at_here p.disks k on_disk.disk))
      (fits (subst (λ (i : ℕ). 1 ≤ i) same.1 from) (subst (λ (i : ℕ). i < 2 ^ 32) same.1 small))))
  | inr other ↦
      subst (λ (n : WorldNode). DiskFits n (with_at p.disks k on_disk.disk j)) (sym (at_other p.world.nodes k on_disk.node j other.1))
      (subst (DiskFits (p.world.nodes j)) (sym (at_other p.disks k on_disk.disk j other.1)) (all j from small))
]

-- what a call made of its node is put there, whatever it shows
shown_fits : (p : WorldOnDisks) (k : ℕ) (sends : Option Mail) (taken : Outcome) (after : NodeOnDisk) → AllFit p
    → ((1 ≤ k) → (k < 2 ^ 32) → DiskFits after.node after.disk) → (shown : Option Outcome)
    → AllFit (effect_by_shown p k sends taken after shown).after
shown_fits p k sends taken after all fits None = node_fits p k after all fits
shown_fits p k sends taken after all fits (Some o) = node_fits p k after all fits

-- ---- an occasion

written_is : (n : NodeState) (o : Occasion) → (effect n o).written ≡ (change n (occasion_event o)).written
written_is n (own now i) = refl
written_is n (delivers now m i) = refl
written_is n (ticks now id) = refl
written_is n formats = refl

-- what a possible occasion writes is in the ranges of records
kept_in_range : (p : WorldOnDisks) → IsItsRecords p.world → CanPost p.world → (k : ℕ) (o : Occasion) → IsPossible (net_of p.world) k o
    → HasSpareCounters (p.world.nodes k).state → (r : Record) → (effect (p.world.nodes k).state o).written ≡ Some r → InRange r
kept_in_range p records can k o possible room r writes =
    in_range (p.world.nodes k).state (occasion_event o) r room (records.nodes k).fits
    (occasion_gives p.world records can k o possible) (sym (written_is (p.world.nodes k).state o) ∙ writes)

pub occasion_disks : (p : WorldOnDisks) → IsItsRecords p.world → (k : ℕ) (o : Occasion) → IsPossible (net_of p.world) k o
    → ((p.world.nodes k).mode ≡ is_up → HasSpareCounters (p.world.nodes k).state) → CanPost p.world → AllFit p
    → AllFit (occasion_effect p k o).after
occasion_disks p records k o possible room can all =
    let n : WorldNode = p.world.nodes k in
    let call : NodeCall = node_call n (p.disks k) o in
    shown_fits p k (effect n.state o).sends (occasion_outcome (next_number p) n.state o (effect n.state o).sends) call.after all
    (λ from small. call_fits n o (p.disks k) (all k from small) (λ up. kept_in_range p records can k o possible (room up))) call.shown

-- ---- what is none

lost_fits : (n : WorldNode) (disk : MediumValue) (mode : Mode) → DiskFits n disk
    → DiskFits (lost_call n disk mode).after.node (lost_call n disk mode).after.disk
lost_fits n disk is_up fits = fits_unarmed n disk fits
lost_fits n disk is_closed fits = fits_unarmed n disk fits
lost_fits n disk is_down fits = fits_unarmed n disk fits

pub lost_disks : (p : WorldOnDisks) (k : ℕ) → AllFit p → AllFit (lost_effect p k).after
lost_disks p k all =
    let n : WorldNode = p.world.nodes k in
    let call : NodeCall = lost_call n (p.disks k) n.mode in
    shown_fits p k None outcome.Done call.after all (λ from small. lost_fits n (p.disks k) n.mode (all k from small)) call.shown

some_records : (records : List Record) (n : NodeState) → Replays records n → records ≢ []
some_records records n replays none = subst (λ (rs : List Record). Replays rs n) none replays

pub open_disks : (p : WorldOnDisks) → IsItsRecords p.world → (k : ℕ) → AllFit p → AllFit (open_effect p k).after
open_disks p records k all =
    let n : WorldNode = p.world.nodes k in
    let call : NodeCall = open_call n (p.disks k) in
    shown_fits p k None outcome.Done call.after all (λ from small.
    opening_fits n (p.disks k) (all k from small) (some_records n.records n.state (records.replays k))) call.shown

pub crash_disks : (p : WorldOnDisks) (k : ℕ) → AllFit p → AllFit (crash_effect p k).after
crash_disks p k all =
    node_fits p k (crashed (p.world.nodes k) (p.disks k)) all (λ from small. stop_fits (p.world.nodes k) (p.disks k) (all k from small))

pub arming_disks : (p : WorldOnDisks) (k : ℕ) (armament : Armament) → AllFit p → AllFit (arming_effect p k armament).after
arming_disks p k armament all =
    node_fits p k (armed_with armament (p.world.nodes k) (p.disks k)) all (λ from small.
    arming_fits armament (p.world.nodes k) (p.disks k) (all k from small))

-- Each world of a run is its records, each node fits, and what is pending may still happen; for the law that each world of a run
-- is its records.
use Rattle.std.proofs.Common.{◌≡◌, inl, inr, ℕ, Bool, List, ◌++◌, Option, None, Some, IfSome, refl, sym, ap, ◌∙◌, subst}
use Rattle.std.specs.Option.{option_to_list}
use Rattle.std.proofs.lemmas.Bool.Decides.{eqb_tells}
use Rattle.ba_message.specs.declared.messages.Context.{Context}
use Rattle.ba_record.specs.declared.records.Record.{Record}
use Rattle.ba_scope.specs.Scope.{ScopeState}
use Rattle.ba_node_steps.specs.Addresses.{registration_of}
use Rattle.ba_node_steps.specs.Fits.{HasSpareCounters, NodeFits}
use Rattle.ba_node_steps.specs.Lawful.{Event, Replays, formatted, given, ticked}
use Rattle.ba_node_steps.specs.Node.{Among, NodeState}
use Rattle.ba_node_steps.specs.declared.inputs.Input.{Input}
use Rattle.ba_node_steps.specs.declared.inputs.Input.TheVariants as input
use Rattle.ba_node_steps.proofs.Members.{among_left}
use Rattle.ba_node_steps.proofs.Replayed.{goes_on}
use Rattle.ba_node_steps.proofs.StepsFit.{step_fits}
use Rattle.ba_world_runs.specs.Safety.{FitsAt}
use Rattle.ba_world_runs.specs.World.{formats, Mail, Net, Occasion, ScopeAt, World, delivers, net_of, own, registration_at, node_at, ticks}
use Rattle.ba_world_runs.specs.WorldSteps.{IsContextOf, IsPossible, BringsInput, MayStillBeTaken, Moves, effect}
use Rattle.ba_world_runs.proofs.NodesStay.{NodeStays, input_stays, itself, tick_stays}

-- ---- an occasion is an event of its node

abbrev pub event_at : Occasion → Event
event_at (own now i) = given now i
event_at (delivers now mail i) = given now i
event_at (ticks now id) = ticked now id
event_at formats = formatted

pub after_fits : (n : NodeState) (o : Occasion) → NodeFits n → HasSpareCounters n → NodeFits (effect n o).after
after_fits n (own now i) fits room = step_fits n (given now i) room fits
after_fits n (delivers now mail i) fits room = step_fits n (given now i) room fits
after_fits n (ticks now id) fits room = step_fits n (ticked now id) room fits
after_fits n formats fits room = step_fits n formatted room fits

pub after_stays : (n : NodeState) (o : Occasion) → NodeFits n → NodeStays n (effect n o).after
after_stays n (own now i) fits = input_stays n now i fits
after_stays n (delivers now mail i) fits = input_stays n now i fits
after_stays n (ticks now id) fits = tick_stays n now id fits
after_stays n formats fits = itself n

pub replay_goes_on : (records : List Record) (n : NodeState) (o : Occasion) → Replays records n
    → Replays (records ++ option_to_list (effect n o).written) (effect n o).after
replay_goes_on records n (own now i) replays = goes_on records n (given now i) replays
replay_goes_on records n (delivers now mail i) replays = goes_on records n (given now i) replays
replay_goes_on records n (ticks now id) replays = goes_on records n (ticked now id) replays
replay_goes_on records n formats replays = goes_on records n formatted replays

-- ---- a net in which nothing is forgotten: what was sent stays sent, each node keeps its base, and its scopes by their kinds

pub record Grows (w w2 : Net) : Type 0 where
  pub bag : (m : Mail) → Among w.bag m → Among w2.bag m
  pub nodes : (k : ℕ) → NodeStays (node_at w k) (node_at w2 k)

pub grows_same : (w : Net) → Grows w w
grows_same w = record {
  bag = λ m among. among;
  nodes = λ k. record { number = refl; base = refl; scopes = λ s among. (s, among, refl, refl) };
}

registration_stays : (w w2 : Net) (k : ℕ) (s : ScopeState) (grows : Grows w w2) (at : ScopeAt w k s)
    → registration_at w k s.id ≡ registration_at w2 k ((grows.nodes k).scopes s at).0.id
registration_stays w w2 k s grows at =
    let stays = grows.nodes k in
    let like = stays.scopes s at in
    λ i. registration_of (sym stays.base i) (sym like.2 i)

context_stays : (w w2 : Net) → Grows w w2 → (c : Context) → IsContextOf w c → IsContextOf w2 c
context_stays w w2 grows c is =
    let like = (grows.nodes is.0).scopes is.1 is.2 in
    (is.0, like.0, like.1, is.3 ∙ registration_stays w w2 is.0 is.1 grows is.2, is.4 ∙ ap Some (sym like.3))

own_stays : (w w2 : Net) → Grows w w2 → (k now : ℕ) (i : Input) → IsPossible w k (own now i) → IsPossible w2 k (own now i)
own_stays w w2 grows k now (input.Create expires None kind protocol) is = tt
own_stays w w2 grows k now (input.Create expires (Some c) kind protocol) is = context_stays w w2 grows c is
own_stays w w2 grows k now (input.Join protocol registration) is =
    let like = (grows.nodes is.0).scopes is.1 is.2 in
    (is.0, like.0, like.1, is.3 ∙ registration_stays w w2 is.0 is.1 grows is.2)
own_stays w w2 grows k now (input.Register scope protocol participant) is = absurd is
own_stays w w2 grows k now (input.Enrolled id coordinator) is = absurd is
own_stays w w2 grows k now (input.RefusedBy id c) is = absurd is
own_stays w w2 grows k now (input.Notice side id m) is = absurd is
own_stays w w2 grows k now i is = tt

possible_stays : (w w2 : Net) → Grows w w2 → (k : ℕ) (o : Occasion) → node_at w2 k ≡ node_at w k → IsPossible w k o → IsPossible w2 k o
possible_stays w w2 grows k (own now i) same is = own_stays w w2 grows k now i is
possible_stays w w2 grows k (delivers now mail i) same is =
    (grows.bag mail is.0, subst (λ (n : NodeState). BringsInput n mail i) (sym same) is.1)
possible_stays w w2 grows k (ticks now id) same is = tt
possible_stays w w2 grows k formats same is = tt

-- ---- what is pending may still be taken

if_some : {A : Type 0} (P Q : A → Type 0) (o : Option A) → ((a : A) → P a → Q a) → IfSome o P → IfSome o Q
if_some P Q None h is = tt
if_some P Q (Some a) h is = h a is

still_taken : (w w2 : World) → Grows (net_of w) (net_of w2) → (k : ℕ) → (w2.nodes k).state ≡ (w.nodes k).state → (o : Occasion)
    → MayStillBeTaken w k o → MayStillBeTaken w2 k o
still_taken w w2 grows k same o may = record {
  possible = possible_stays (net_of w) (net_of w2) grows k o same may.possible;
  room = subst HasSpareCounters (sym same) may.room;
  written = may.written;
  writes = ap (λ (n : NodeState). (effect n o).written) same ∙ may.writes;
}

pub pending_stays : (w w2 : World) → Grows (net_of w) (net_of w2) → (k : ℕ) → (w2.nodes k).state ≡ (w.nodes k).state
    → (o : Option Occasion) → IfSome o (MayStillBeTaken w k) → IfSome o (MayStillBeTaken w2 k)
pending_stays w w2 grows k same o is = if_some (MayStillBeTaken w k) (MayStillBeTaken w2 k) o (still_taken w w2 grows k same) is

-- ---- a move

moved_node : (w w2 : Net) (k : ℕ) (o : Occasion) (joined : Bool) → Moves w w2 k o joined → FitsAt w k
    → FitsAt w2 k × NodeStays (node_at w k) (node_at w2 k)
moved_node w w2 k o joined moves at =
    let stays : NodeStays (node_at w k) (node_at w2 k) =
    subst (NodeStays (node_at w k)) (sym moves.state) (after_stays (node_at w k) o at.fits) in (
      record {
        number = stays.number ∙ at.number;
        fits = subst NodeFits (sym moves.state) (after_fits (node_at w k) o at.fits moves.room);
      },
      stays,
    )

same_node : (w w2 : Net) (k : ℕ) → node_at w2 k ≡ node_at w k → FitsAt w k → FitsAt w2 k × NodeStays (node_at w k) (node_at w2 k)
same_node w w2 k same at = (
  record { number = ap (λ (n : NodeState). n.number) same ∙ at.number; fits = subst NodeFits (sym same) at.fits },
  subst (NodeStays (node_at w k)) (sym same) ((grows_same w).nodes k),
)

each_node : (w w2 : Net) (k : ℕ) (o : Occasion) (joined : Bool) → Moves w w2 k o joined → ((j : ℕ) → FitsAt w j) → (j : ℕ)
    → FitsAt w2 j × NodeStays (node_at w j) (node_at w2 j)
each_node w w2 k o joined moves nodes j = elim (eqb_tells j k) [
  | inl same ↦ subst (λ (i : ℕ). FitsAt w2 i × NodeStays (node_at w i) (node_at w2 i)) (sym same.1)
      (moved_node w w2 k o joined moves (nodes k))
  | inr other ↦ same_node w w2 j (moves.others j other.1) (nodes j)
]

pub moved_fits : (w w2 : Net) (k : ℕ) (o : Occasion) (joined : Bool) → Moves w w2 k o joined → ((j : ℕ) → FitsAt w j) → (j : ℕ)
    → FitsAt w2 j
moved_fits w w2 k o joined moves nodes j = (each_node w w2 k o joined moves nodes j).0

pub moved_grows : (w w2 : Net) (k : ℕ) (o : Occasion) (joined : Bool) → Moves w w2 k o joined → ((j : ℕ) → FitsAt w j) → Grows w w2
moved_grows w w2 k o joined moves nodes = record {
  bag = λ m among. subst (λ (bag : List Mail). Among bag m) (sym moves.bag) (among_left w.bag _ m among);
  nodes = λ j. (each_node w w2 k o joined moves nodes j).1;
}

-- Each step of a world keeps it sound, and each run is safe; for the laws of these names.
use Rattle.std.proofs.Common.{◌≡◌, ◌≢◌, inl, inr, ℕ, Bool, List, [], ◌∷◌, Option, None, Some, refl, sym, ◌∙◌, subst}
use Rattle.ba_core.specs.declared.protocols.Protocol.{Protocol}
use Rattle.ba_scope.specs.Scope.{ScopeState}
use Rattle.ba_node_steps.specs.Node.{Among, NodeState}
use Rattle.ba_node_steps.specs.declared.inputs.Input.{Input}
use Rattle.ba_node_steps.specs.declared.inputs.Input.TheVariants as input
use Rattle.ba_world_runs.specs.Links.{LinksStay, LinksStep, link_in}
use Rattle.ba_world_runs.specs.Runs.{IsRun, IsFirstWorld, goes_on, starts}
use Rattle.ba_world_runs.specs.Safety.{IsAddressed, IsSafe, IsSound, IsSoundWorld}
use Rattle.ba_world_runs.specs.World.{formats, Mail, Net, Occasion, World, WorldNode, answer, delivers, letter, net_of, node_at, own, ticks}
use Rattle.ba_world_runs.specs.WorldSteps.{BringsInput, IsPossible, Moves, WorldStep, effect}
use Rattle.ba_world_runs.proofs.Addressed.{cause_of}
use Rattle.ba_world_runs.proofs.AddressedRuns.{run_addressed}
use Rattle.ba_world_runs.proofs.Generations.{run_generations}
use Rattle.ba_world_runs.proofs.LinksKept.{links_fit, links_stay_on, links_step}
use Rattle.ba_world_runs.proofs.MailLemmas.{addressed}
use Rattle.ba_world_runs.proofs.Nets.{net_moves}
use Rattle.ba_world_runs.proofs.Owners.{fits_here}
use Rattle.ba_world_runs.proofs.Recorded.{run_keeps, step_keeps}
use Rattle.ba_world_runs.proofs.SafeLemmas.{safe}
use Rattle.ba_world_runs.proofs.Said.{IsSpeechOf}
use Rattle.ba_world_runs.proofs.Senders.{no_register, sender}
use Rattle.ba_world_runs.proofs.Strides.{Change, NamesItsProtocol, Speech, no_object, silent}
use Rattle.ba_world_runs.proofs.StridesOfInputs.{input_changes}
use Rattle.ba_world_runs.proofs.StridesOfTicks.{tick_changes}
use Rattle.ba_world_runs.proofs.TreeSteps.{trees_fit}

-- ---- a Register that is delivered names its protocol

no_protocol : (o : Option Protocol) (p : Protocol) → o ≡ Some p → o ≢ None
no_protocol o p is none = let both : ◌≡◌ {A = Option Protocol} None (Some p) = sym none ∙ is in absurd cc

names_protocol : (w : Net) (is : IsAddressed w) (k : ℕ) (mail : Mail) (i : Input) → Among w.bag mail → BringsInput (node_at w k) mail i
    → NamesItsProtocol i
names_protocol w is k (letter l) (input.Register scope protocol participant) sent leads =
    let from = sender w k l scope protocol participant (is.mail (letter l) sent) leads.1 leads.2 in
    no_protocol protocol from.part.protocol from.protocol_is
names_protocol w is k (answer number m) (input.Register scope protocol participant) sent leads =
    absurd (no_register (node_at w k) number m scope protocol participant leads)
names_protocol w is k mail i sent leads = tt

own_protocol : (w : Net) (k now : ℕ) (i : Input) → IsPossible w k (own now i) → NamesItsProtocol i
own_protocol w k now (input.Register scope protocol participant) possible = absurd possible
own_protocol w k now i possible = tt

-- ---- what an occasion says, and what it is to the links of its node

abbrev Changes : NodeState → Occasion → Type 0
Changes n o = (speech : Speech) × IsSpeechOf n o speech × Change (cause_of o) speech n (effect n o).after

changes : (w : Net) (is : IsAddressed w) (k : ℕ) (o : Occasion) → IsPossible w k o → Changes (node_at w k) o
changes w is k (own now i) possible =
    (_, refl, input_changes (node_at w k) now i (fits_here w is k) (own_protocol w k now i possible))
changes w is k (delivers now mail i) possible =
    (_, refl, input_changes (node_at w k) now i (fits_here w is k) (names_protocol w is k mail i possible.0 possible.1))
changes w is k (ticks now id) possible = tick_changes (node_at w k) now id (fits_here w is k)
changes w is k formats possible = (silent, refl, no_object refl tt)

-- ---- a move

pub links_move : (w w2 : Net) (k : ℕ) (o : Occasion) (joined : Bool) → Moves w w2 k o joined → IsSound w → LinksStep w w2
links_move w w2 k o joined moves sound =
    let is = sound.addressed in
    let c = changes w is k o moves.possible in
    links_step w w2 k o joined moves is c.0 c.1 (subst (Change (cause_of o) c.0 (node_at w k)) (sym moves.state) c.2)
    sound.trees.generations

pub links_stay_there : (w w2 : Net) (k : ℕ) (o : Occasion) (joined : Bool) → Moves w w2 k o joined → IsSound w → LinksStay w w2
links_stay_there w w2 k o joined moves sound = links_stay_on w w2 k o joined moves sound.addressed

sound_moves : (w w2 : Net) (k : ℕ) (o : Occasion) (joined : Bool) → Moves w w2 k o joined → IsSound w → IsSound w2
sound_moves w w2 k o joined moves sound = record {
  addressed = addressed w w2 k o joined moves sound.addressed;
  links = links_fit w w2 (links_move w w2 k o joined moves sound) sound.links;
  trees = trees_fit w w2 k o joined moves sound;
}

sound_net : (w w2 : World) → WorldStep w w2 → IsSound (net_of w) → IsSound (net_of w2)
sound_net w w2 step sound = elim (net_moves w w2 step) [
  | inl same ↦ subst IsSound same sound
  | inr moved ↦ sound_moves (net_of w) (net_of w2) moved.0 moved.1 moved.2 moved.3 sound
]

pub sound_step : (w w2 : World) → WorldStep w w2 → IsSoundWorld w → IsSoundWorld w2
sound_step w w2 step sound = record { net = sound_net w w2 step sound.net; records = step_keeps w w2 step sound.records }

-- ---- runs

sound_start : (w : World) → IsFirstWorld w → IsSound (net_of w)
sound_start w start = record {
  addressed = run_addressed w [] (starts start);
  links = λ j k p s at. absurd (no_scope k s at.scope);
  trees = record {
    generations = run_generations w [] (starts start);
    same_verdict_above = λ k j s t upward v child is. absurd (no_scope k s child.child);
  };
}
  where
    no_scope : (k : ℕ) (s : ScopeState) → Among (w.nodes k).state.scopes s → ⊥
    no_scope k s of = subst (λ (n : WorldNode). Among n.state.scopes s) (start.nodes k) of

sound_net_run : (w : World) (before : List World) → IsRun (w ∷ before) → IsSound (net_of w)
sound_net_run w before (starts start) = sound_start w start
sound_net_run w before (goes_on run step) = sound_net _ w step (sound_net_run _ _ run)

pub sound_run : (w : World) (before : List World) → IsRun (w ∷ before) → IsSoundWorld w
sound_run w before run = record { net = sound_net_run w before run; records = run_keeps w before run }

-- where no node moves each link stays
links_stay : (w : Net) → LinksStep w w
links_stay w = λ j p k s at. inl (p, s, at, (refl, refl), (link_in w j p s, inl refl, inl refl))

pub links_step_in_runs : (w w2 : World) (before : List World) → IsRun (w ∷ before) → WorldStep w w2
    → LinksStep (net_of w) (net_of w2)
links_step_in_runs w w2 before run step = elim (net_moves w w2 step) [
  | inl same ↦ subst (LinksStep (net_of w)) same (links_stay (net_of w))
  | inr moved ↦ links_move (net_of w) (net_of w2) moved.0 moved.1 moved.2 moved.3 (sound_net_run w before run)
]

pub links_stay_in_runs : (w w2 : World) (before : List World) → IsRun (w ∷ before) → WorldStep w w2 → LinksStay (net_of w) (net_of w2)
links_stay_in_runs w w2 before run step = elim (net_moves w w2 step) [
  | inl same ↦ subst (LinksStay (net_of w)) same (λ j p l r at. (p, r, at, (refl, refl)))
  | inr moved ↦ links_stay_on (net_of w) (net_of w2) moved.0 moved.1 moved.2 moved.3 (run_addressed w before run)
]

pub safe_run : (w : World) (before : List World) → IsRun (w ∷ before) → IsSafe (net_of w)
safe_run w before run = safe (net_of w) (sound_net_run w before run)

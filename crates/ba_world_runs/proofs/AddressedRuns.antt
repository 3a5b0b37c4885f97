-- In each world of each run endpoints lead where they should; for the law of that name.
use Rattle.std.proofs.Common.{inl, inr, ℕ, List, ◌∷◌, subst}
use Rattle.ba_scope.specs.Scope.{ScopeState}
use Rattle.ba_scope_ends.specs.declared.parts.Part.{Part}
use Rattle.ba_node_steps.specs.Node.{Among}
use Rattle.ba_world_runs.specs.Runs.{IsRun, IsFirstWorld, goes_on, starts}
use Rattle.ba_world_runs.specs.Safety.{IsAddressed}
use Rattle.ba_world_runs.specs.World.{Mail, PartAt, ScopeAt, World, WorldNode, net_of}
use Rattle.ba_world_runs.specs.WorldSteps.{WorldStep}
use Rattle.ba_world_runs.proofs.MailLemmas.{addressed}
use Rattle.ba_world_runs.proofs.Nets.{net_moves}
use Rattle.ba_world_runs.proofs.Recorded.{start_is}

pub step_addressed : (w w2 : World) → WorldStep w w2 → IsAddressed (net_of w) → IsAddressed (net_of w2)
step_addressed w w2 step is = elim (net_moves w w2 step) [
  | inl same ↦ subst IsAddressed same is
  | inr moved ↦ addressed (net_of w) (net_of w2) moved.0 moved.1 moved.2 moved.3 is
]

start_addressed : (w : World) → IsFirstWorld w → IsAddressed (net_of w)
start_addressed w start = record {
  nodes = (start_is w start).nodes;
  endpoints = record {
    ends = λ k s e of among. absurd (no_scope k s of);
    parts = λ j p has. absurd (no_part j p has);
    coordinators = λ j p has. absurd (no_part j p has);
  };
  mail = λ m among. absurd (subst (λ (bag : List Mail). Among bag m) start.bag among);
}
  where
    no_scope : (k : ℕ) (s : ScopeState) → ScopeAt (net_of w) k s → ⊥
    no_scope k s of = subst (λ (n : WorldNode). Among n.state.scopes s) (start.nodes k) of

    no_part : (j : ℕ) (p : Part) → PartAt (net_of w) j p → ⊥
    no_part j p (inl alone) = subst (λ (n : WorldNode). Among n.state.parts p) (start.nodes j) alone
    no_part j p (inr above) = no_scope j above.0 above.1

pub run_addressed : (w : World) (before : List World) → IsRun (w ∷ before) → IsAddressed (net_of w)
run_addressed w before (starts start) = start_addressed w start
run_addressed w before (goes_on run step) = step_addressed _ w step (run_addressed _ _ run)

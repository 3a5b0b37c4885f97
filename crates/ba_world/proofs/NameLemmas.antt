-- An input that names a scope: its context is handed in. For the clauses of `create` and `join`.
use Rattle.std.proofs.Common.{ℕ, Option, Some, Result, Ok, Err, refl, sym, subst}
use Rattle.ba_core.specs.declared.identifiers.Id.{Id}
use Rattle.ba_core.specs.declared.protocols.Kind.{Kind}
use Rattle.ba_core.specs.declared.protocols.Protocol.{Protocol}
use Rattle.ba_world_events.specs.declared.outcomes.Outcome.{Outcome}
use Rattle.ba_message.specs.declared.messages.Context.{Context}
use Rattle.ba_world_play.specs.Plays.{EventEffect, WorldOnDisks, create_at, join_at, own_at, with_scope_named}
use Rattle.ba_world_play.specs.declared.missing.Missing.TheVariants as missing
use Rattle.ba_scope.specs.Scope.{ScopeState}
use Rattle.ba_node_steps.specs.Steps.{if_found}
use Rattle.ba_node_steps.specs.declared.inputs.Input.TheVariants as input
use Rattle.ba_world.proofs.EventLemmas.{starved}
use Rattle.ba_world.specs.Worlds.{StageValue}
use Rattle.ba_world.specs.declared.faults.StepFault.{StepFault}
use Rattle.ba_world.specs.declared.faults.StepFault.TheVariants as fault
use Rattle.ba_world.specs.inside.Stages.{IsContextNamed, StageIsPlayedAs}
use Rattle.ba_world_play.specs.Plays.{context_handed}

pub handed_fails : (v : StageValue) (p : WorldOnDisks) (id : Id) (next : ScopeState → EventEffect) (why : StepFault)
    → IsContextNamed p id (Err why) → StageIsPlayedAs (with_scope_named p id next) v v (Err why)
handed_fails v p id next fault.Memory h = starved (with_scope_named p id next) v v
handed_fails v p id next (fault.Missing why) h =
    subst (λ (s : Option ScopeState). StageIsPlayedAs (if_found s (Err missing.Name) next) v v (Err (fault.Missing why))) (sym h.1)
    (h.0, refl)

module _ (old new : StageValue) (p : WorldOnDisks) (id : Id) (k : ℕ) (context : Context) (result : Result Outcome StepFault)
    (named : IsContextNamed p id (Ok context)) where
  named_plays : (next : ScopeState → EventEffect) → StageIsPlayedAs (next named.0) old new result
      → StageIsPlayedAs (with_scope_named p id next) old new result
  named_plays next h =
      subst (λ (s : Option ScopeState). StageIsPlayedAs (if_found s (Err missing.Name) next) old new result) (sym named.1) h

  pub create_under : (kind : Kind) (expires : Option ℕ) (up : Protocol)
      → StageIsPlayedAs (own_at p k (input.Create expires (Some context) (Some kind) up)) old new result
      → StageIsPlayedAs (create_at p k kind expires (Some (id, up))) old new result
  create_under kind expires up h =
      named_plays (λ s. own_at p k (input.Create expires (Some (context_handed p id s)) (Some kind) up))
      (subst (λ (c : Context). StageIsPlayedAs (own_at p k (input.Create expires (Some c) (Some kind) up)) old new result) named.2 h)

  pub join_named : (protocol : Protocol) → StageIsPlayedAs (own_at p k (input.Join protocol context.registration)) old new result
      → StageIsPlayedAs (join_at p k protocol id) old new result
  join_named protocol h =
      named_plays (λ s. own_at p k (input.Join protocol (context_handed p id s).registration))
      (subst (λ (c : Context). StageIsPlayedAs (own_at p k (input.Join protocol c.registration)) old new result) named.2 h)

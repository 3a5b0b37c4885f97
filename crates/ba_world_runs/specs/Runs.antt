-- Believe: runs of a world, from one without objects; and that an end was Completed in one of the worlds of a run.
use Rattle.std.specs.Prelude.{◌≡◌, ℕ, ◌≤◌, ◌<◌, ◌^◌, Bool, List, [], ◌∷◌, None}
use Rattle.ba_core.specs.declared.identifiers.Id.{Id}
use Rattle.ba_core.specs.declared.states.How.TheVariants.{Closed}
use Rattle.ba_core.specs.declared.states.CState.{CState}
use Rattle.ba_core.specs.declared.states.CState.TheVariants as end
use Rattle.ba_link.specs.States.{end_among}
use Rattle.ba_record.specs.Coding.{InRange}
use Rattle.ba_record.specs.declared.records.Record.TheVariants as journal
use Rattle.ba_scope.specs.Scope.{ScopeState}
use Rattle.ba_scope_ends.specs.declared.ends.End.{End}
use Rattle.ba_node_steps.specs.Lawful.{first_records}
use Rattle.ba_node_steps.specs.Node.{Among, new_node}
use Rattle.ba_world_runs.specs.World.{ScopeAt, World, WorldNode, is_up, net_of}
use Rattle.ba_world_runs.specs.WorldSteps.{WorldStep}

-- a node that has no object, and keeps a new node's records
abbrev pub node_at_start : ℕ → List ℕ → WorldNode
node_at_start number base =
    record { state = new_node number base; records = first_records number base; pending = None; mode = is_up }

-- a world without objects; the record of each node whose number has 32 bits is in range
pub record IsFirstWorld (w : World) : Type 0 where
  pub clock : w.clock ≡ 0
  pub bag : w.bag ≡ []
  pub base : ℕ → List ℕ
  pub nodes : (k : ℕ) → w.nodes k ≡ node_at_start k (base k)
  pub in_range : (k : ℕ) → 1 ≤ k → k < 2 ^ 32 → InRange (journal.Node k (base k))

-- the worlds of a run, the last one first
pub data IsRun : List World → Type 0 where
  starts : {w : World} → IsFirstWorld w → IsRun (w ∷ [])
  goes_on : {w w2 : World} {before : List World} → IsRun (w ∷ before) → WorldStep w w2 → IsRun (w2 ∷ w ∷ before)

-- the end was told to close, or is told it when it ticks
abbrev pub is_closing_state : CState → Bool
is_closing_state = end_among (end.Closing ∷ end.Ended Closed ∷ [])

-- an end was Completed in one of these worlds
pub data WasCompleted : List World → Id → Type 0 where
  now : {w : World} {before : List World} {id : Id} (k : ℕ) (s : ScopeState) (e : End) → ScopeAt (net_of w) k s
      → Among s.ends e → e.id ≡ id → e.state ≡ end.Completed → WasCompleted (w ∷ before) id
  earlier : {w : World} {before : List World} {id : Id} → WasCompleted before id → WasCompleted (w ∷ before) id

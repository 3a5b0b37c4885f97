-- A node that is the one replay of its records is so with its pending record too; for the clause of `open`.
use Rattle.std.proofs.Common.{◌≡◌, ℕ, Bool, true, false, List, [], ◌∷◌, Option, None, Some, refl}
use Rattle.ba_world_places.specs.Calls.{IsLawfulNode}
use Rattle.ba_world_play.specs.Nodes.{opened_by}
use Rattle.ba_record.specs.declared.records.Record.{Record}
use Rattle.ba_world_runs.proofs.OneReplay.{IsOnly, only_after}
use Rattle.ba_world_runs.specs.World.{Occasion, WorldNode, is_up}
use Rattle.ba_node_steps.specs.Lawful.{Replays}
use Rattle.ba_node_steps.specs.Node.{NodeState}

pub opened_one : (number : ℕ) (n : WorldNode) (pending : Option Occasion) (more : Bool) → IsLawfulNode number n
    → IsOnly (opened_by n pending more).records (opened_by n pending more).state
opened_one number n None more lawful = lawful.one
opened_one number n (Some o) true lawful = only_after n.records n.state o lawful.fits lawful.replays lawful.one
opened_one number n (Some o) false lawful = lawful.one

pub opened_up : (n : WorldNode) (pending : Option Occasion) (more : Bool) → (opened_by n pending more).mode ≡ is_up
opened_up n None more = refl
opened_up n (Some o) true = refl
opened_up n (Some o) false = refl

pub opened_none : (n : WorldNode) (pending : Option Occasion) (more : Bool) → (opened_by n pending more).pending ≡ None
opened_none n None more = refl
opened_none n (Some o) true = refl
opened_none n (Some o) false = refl

some_records : (records : List Record) (n : NodeState) → Replays records n → records ≡ [] → ⊥
some_records [] n replays none = replays
some_records (r ∷ more) n replays none = absurd cc

-- a lawful node has a record, its own
pub has_records : (number : ℕ) (n : WorldNode) → IsLawfulNode number n → n.records ≡ [] → ⊥
has_records number n lawful = some_records n.records n.state lawful.replays

-- Believe: a node on its journal as contracts see it, and what holds of each.
use Rattle.std.specs.Prelude.{◌≡◌, ℕ, ◌+◌, ◌*◌, ◌<◌, ◌≤◌, ◌^◌, List, length, Option, None, IsTrue, Bool, refl}
use Rattle.std.specs.Coded.{Coded, code_by, coded×, coded_ℕ, coded_option}
use Rattle.ba_journal.specs.Journals.{JournalValue}
use Rattle.ba_record.specs.Endpoints.{IsBase}
use Rattle.ba_node_steps.specs.Endpoints.{AllReachable}
use Rattle.ba_node_steps.specs.Fits.{NodeFits}
use Rattle.ba_node_steps.specs.Node.{NodeState, last}

-- a node, and the journal that it keeps
pub record NodeOnJournal (D : Type 0) : Type 0 where
  pub disk : D
  pub node : NodeState
  -- the place of the journal's last gate, in bytes
  pub end : ℕ
  -- the disk's count of failures when a call answered Disk; since then each is refused
  pub closed : Option ℕ

-- the node in memory on this journal
abbrev pub on_journal : {D : Type 0} → JournalValue D → NodeState → NodeOnJournal D
on_journal j n = record { disk = j.disk; node = n; end = j.gate; closed = j.closed }

-- it is stored as its parts
abbrev pub node_code : {D : Type 0} → Coded D → Coded NodeState → Coded (NodeOnJournal D)
node_code {D} code state_code =
    code_by (D × (NodeState × (ℕ × Option ℕ))) (coded× code (coded× state_code (coded× coded_ℕ (coded_option coded_ℕ))))
    (λ n. (n.disk, (n.node, (n.end, n.closed)))) (λ p. record { disk = p.0; node = p.1.0; end = p.1.1.0; closed = p.1.1.1 }) (λ _. refl)

-- What holds of each node. An object costs three bytes of the journal at least, so that counters don't run out; while the
-- journal is open, its last gate is the last byte of the file.
pub record NodeHolds {D : Type 0} (follows : D → Bool) (seen : D → List ℕ) (n : NodeOnJournal D) : Type 0 where
  pub fits : NodeFits n.node
  pub reachable : AllReachable n.node
  pub number : n.node.number < 2 ^ 32
  pub base : IsBase n.node.base
  pub counters : 3 * last n.node ≤ n.end
  pub short : n.end < 2 ^ 64
  pub place : IsTrue (follows n.disk) → n.closed ≡ None → n.end + 1 ≡ length (seen n.disk)

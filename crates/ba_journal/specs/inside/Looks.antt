-- Inside: calls of a disk that only look: its length is asked, or bytes are read.
use Rattle.std.specs.Prelude.{◌≡◌, ◌≤◌, ℕ, Bool, List, [], IsTrue}
use Rattle.ba_ports.specs.Disk.{NoMore, LeavesOnly, counted}
use Rattle.ba_ports.specs.declared.requests.Call.{Call}
use Rattle.ba_journal.specs.Loads.{EndsFailed}

-- From old to new there were no calls but those that look: a disk that follows the model shows the same bytes, and
-- a crash since leaves no others than before; none of the calls is counted, and the count of faults doesn't fall.
pub record Looked {D : Type 0} (follows : D → Bool) (seen : D → List ℕ) (may_leave : D → List ℕ → Type 0) (later : D → D
    → Type 0) (left_between : D → D → List ℕ → Type 0) (driven : D → List Call → D → Type 0) (faults : D → ℕ) (old new : D) : Type 0 where
  pub follows_same : follows new ≡ follows old
  pub seen_same : IsTrue (follows old) → seen new ≡ seen old
  pub no_more : IsTrue (follows old) → NoMore (may_leave old) (may_leave new)
  pub moments : IsTrue (follows old) → LeavesOnly later left_between old new (may_leave old)
  pub calls : (calls : List Call) × driven old calls new × (counted calls ≡ [])
  pub faults_later : faults old ≤ faults new

-- From old to new there were calls that look, of which the last failed.
abbrev pub BreaksOff : {D : Type 0} → (D → List Call → D → Type 0) → D → D → Type 0
BreaksOff driven old new = (calls : List Call) × driven old calls new × (counted calls ≡ []) × EndsFailed calls

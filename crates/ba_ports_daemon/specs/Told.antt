-- Believe: what an object tells of what it will still give, and of what was done with it, where it tells that.
use Rattle.std.specs.Prelude.{◌≡◌, ℕ, zero, suc, ◌+◌, List, [], ◌∷◌, ◌++◌, Option, Some, None, Result, Ok, Err}
use Rattle.std.specs.Io.KnownBytes.{IsAtEnd}
use Rattle.ba_core.specs.declared.identifiers.Id.{Id}
use Rattle.ba_ports.specs.Counts.{risen}
use Rattle.ba_ports.specs.declared.failures.Failed.{Failed}
use Rattle.ba_ports_daemon.specs.declared.works.Outcome.{Outcome}
use Rattle.ba_ports_daemon.specs.declared.works.Task.{Task}
use Rattle.ba_ports_daemon.specs.declared.works.WorkCall.{WorkCall}

-- what is told stays as it was
abbrev pub Remains : {A : Type 0} → Option A → Option A → Type 0
Remains None now = Unit {0}
Remains (Some told) None = ⊥
Remains (Some told) (Some after) = after ≡ told

-- this one was put last
abbrev pub Gains : {A : Type 0} → Option (List A) → Option (List A) → A → Type 0
Gains None now item = Unit {0}
Gains (Some items) None item = ⊥
Gains (Some items) (Some after) item = after ≡ items ++ item ∷ []

-- the first of what was to come was given
abbrev pub GivesFirst : {A : Type 0} → Option (List A) → Option (List A) → A → Type 0
GivesFirst None now item = Unit {0}
GivesFirst (Some items) None item = ⊥
GivesFirst (Some items) (Some after) item = items ≡ item ∷ after

-- nothing was to come, and nothing is
abbrev pub IsSpent : {A : Type 0} → Option (List A) → Option (List A) → Type 0
IsSpent None now = Unit {0}
IsSpent (Some items) None = ⊥
IsSpent (Some items) (Some after) = (items ≡ []) × (after ≡ [])

-- a dial gives the first that was to come, and one that fails gives nothing
abbrev pub GivesOne : {A E : Type 0} → Option (List A) → Option (List A) → Result A E → Type 0
GivesOne before now (Ok item) = GivesFirst before now item
GivesOne before now (Err e) = Remains before now

-- an accept gives the first that was to come, or nothing more is to come, and one that fails gives nothing
abbrev pub GivesNext : {A E : Type 0} → Option (List A) → Option (List A) → Result (Option A) E → Type 0
GivesNext before now (Ok (Some item)) = GivesFirst before now item
GivesNext before now (Ok None) = IsSpent before now
GivesNext before now (Err e) = Remains before now

-- how many links are out rises by one where one was given
abbrev pub CountsOne : Option ℕ → Option ℕ → Type 0
CountsOne None now = now ≡ None
CountsOne (Some out) now = now ≡ Some (out + 1)

-- how many links are out falls by one where one came back
abbrev pub CountsBack : Option ℕ → Option ℕ → Type 0
CountsBack None now = now ≡ None
CountsBack (Some out) None = ⊥
CountsBack (Some out) (Some after) = out ≡ after + 1

-- a link as it is given out: it hasn't failed, and nothing is written on it
pub record IsFresh (faults : ℕ) (written : Option (List ℕ)) : Type 0 where
  pub count : faults ≡ 0
  pub empty : IsAtEnd written

-- a dialer's count after a link came back that has failed so often
abbrev pub count_after : ℕ → ℕ → ℕ
count_after count zero = count
count_after count (suc faults) = risen count

-- a call of the work that was answered is told last, and one that failed isn't told
abbrev pub TellsCall : Option (List WorkCall) → Option (List WorkCall) → Id → Task → Result Outcome Failed → Type 0
TellsCall before now part task (Ok outcome) = Gains before now (record { part = part; task = task; outcome = outcome })
TellsCall before now part task (Err e) = Remains before now

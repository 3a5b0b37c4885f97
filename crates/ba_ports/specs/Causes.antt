-- Believe: when a failure may be answered: only where the object that was handed in counted one.
use Rattle.std.specs.Prelude.{◌≡◌, ℕ, ◌+◌, ◌-◌, ◌^◌, ◌≤◌, min, Bool, false, Result, OnErr, OnOk}
use Rattle.ba_ports.specs.declared.failures.Failed.{Failed}

-- a count of faults rose; one that stands at the greatest u64 counts as risen
abbrev pub Rose : ℕ → ℕ → Type 0
Rose before now = min (before + 1) (2 ^ 64 - 1) ≤ now

-- the count never falls, and a failure is told only where it rose
pub record HasCause {T : Type 0} (before now : ℕ) (result : Result T Failed) : Type 0 where
  pub later : before ≤ now
  pub failed : OnErr result (Rose before now)

-- of a stream: the count rises at a failure, and at nothing else
pub record CountsFailures {T : Type 0} (before now : ℕ) (result : Result T Failed) : Type 0 where
  pub later : before ≤ now
  pub failed : OnErr result (Rose before now)
  pub stayed : OnOk result (now ≡ before)

-- of a write: the same, but where it took nothing of a piece that wasn't empty, which may count as a failure
pub record CountsFailedWrites {T : Type 0} (before now : ℕ) (took_nothing : Bool) (result : Result T Failed) : Type 0 where
  pub later : before ≤ now
  pub failed : OnErr result (Rose before now)
  pub stayed : took_nothing ≡ false → OnOk result (now ≡ before)

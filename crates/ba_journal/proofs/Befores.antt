-- Where the last gate stands after the frames of the records that were read: for the clauses `in_range` and `end` of a load.
use Rattle.std.proofs.Common.{◌≡◌, ℕ, ◌+◌, ◌*◌, ◌≤◌, List, [], ◌∷◌, ◌++◌, length, Ok, arith, ap, subst, sym}
use Rattle.std.specs.List.{AllByRecursion}
use Rattle.ba_record.specs.Coding.{InRange, coding}
use Rattle.ba_record.specs.Reading.{IsBytes, reading}
use Rattle.ba_record.specs.declared.records.Record.{Record}
use Rattle.ba_record.specs.declared.records.Record.TheVariants as record_kind
use Rattle.ba_record.proofs.ExactRecords.{is_coding}
use Rattle.ba_journal.specs.Readings.{AreBefore, frames_length, last_gate}

all_and : (records : List Record) (r : Record) → AllByRecursion InRange records → InRange r → AllByRecursion InRange (records ++ r ∷ [])
all_and [] r all one = (one, tt)
all_and (first ∷ more) r all one = (all.0, all_and more r all.1 one)

-- the gate after one record more
pub gate_on : (records : List Record) (r : Record) → last_gate (records ++ r ∷ []) ≡ last_gate records + (5 + length (coding r))
gate_on [] r = omega arith
gate_on (first ∷ more) r = let on = gate_on more r in omega (arith, on)

-- each frame has six bytes at least
some_bytes : (r : Record) → 1 ≤ length (coding r)
some_bytes (record_kind.Node number base) = omega arith
some_bytes (record_kind.Scope counter kind deadline upward) = omega arith
some_bytes (record_kind.End counter scope protocol participant) = omega arith
some_bytes (record_kind.Part counter protocol registration) = omega arith
some_bytes (record_kind.Enrolled counter coordinator) = omega arith
some_bytes (record_kind.Refused counter code) = omega arith
some_bytes (record_kind.Received counter notice) = omega arith
some_bytes (record_kind.Acted counter act) = omega arith
some_bytes (record_kind.Decided counter verdict) = omega arith
some_bytes (record_kind.Chosen counter choice) = omega arith
some_bytes (record_kind.Ticked counter) = omega arith
some_bytes (record_kind.Asked counter) = omega arith

pub six_each : (records : List Record) → 6 * length records ≤ frames_length records
six_each [] = omega arith
six_each (r ∷ records) = omega (arith, some_bytes r, six_each records)

-- no frame was read yet
pub before_none : (records : List Record) (gate : ℕ) → records ≡ [] → gate ≡ 16 → AreBefore records gate
before_none records gate none is =
    subst (λ (rs : List Record). AreBefore rs gate) (sym none) (tt, omega (arith, is))

-- one more frame was read
pub before_on : (records : List Record) (gate next : ℕ) (shown : List ℕ) (r : Record) → AreBefore records gate → IsBytes shown
    → reading shown ≡ Ok r
    → next ≡ gate + (5 + length shown) → AreBefore (records ++ r ∷ []) next
before_on records gate next shown r before are is there =
    let coded = is_coding shown r are is in (
      all_and records r before.0 coded.0,
      omega (arith, before.1, there, ap length coded.1, gate_on records r),
    )

-- the gate is where it was
pub before_at : (records : List Record) (gate there : ℕ) → there ≡ gate → AreBefore records gate → AreBefore records there
before_at records gate there same before = subst (AreBefore records) (sym same) before

-- An append that was Ok: the journal was open, and not full.
use Rattle.std.proofs.Common.{◌≡◌, ◌↔◌, ℕ, Option, None, Some, Result, Ok, Err, refl, sym, ◌∙◌}
use Rattle.ba_journal.specs.declared.faults.JournalFault.{JournalFault}
use Rattle.ba_journal.specs.declared.faults.JournalFault.TheVariants as fault
use Rattle.ba_node.specs.declared.faults.NodeFault.{NodeFault}
use Rattle.ba_node.specs.declared.faults.NodeFault.TheVariants as node

ok_no_err : {T E : Type 0} (t : T) (e : E) → let told : Result T E = Ok t in told ≡ Err e → ⊥
ok_no_err t e is = cc

pub not_err : {T E : Type 0} (result : Result T E) (t : T) (e : E) → result ≡ Ok t → result ≡ Err e → ⊥
not_err result t e ok err = ok_no_err t e (sym ok ∙ err)

pub open_at_ok : {T : Type 0} (closed : Option ℕ) (result : Result T JournalFault) (t : T) → result ≡ Ok t
    → ((count : ℕ) → (result ≡ Err (fault.Closed count)) ↔ (closed ≡ Some count)) → closed ≡ None
open_at_ok None result t ok h = refl
open_at_ok (Some count) result t ok h = absurd (not_err result t (fault.Closed count) ok ((h count).1 refl))

pub same_count : {T : Type 0} (none : Result T NodeFault) (m n : ℕ)
    → let told : Result T NodeFault = Err (node.Closed m) in told ≡ Err (node.Closed n) → m ≡ n
same_count none m n is = cc

pub two_errs : {T E : Type 0} (none : Result T E) (d e : E) → let told : Result T E = Err d in told ≡ Err e → d ≡ e
two_errs none d e is = cc

other_fault : (count : ℕ) → fault.Disk ≡ fault.Closed count → ⊥
other_fault count is = cc

pub not_full : fault.Disk ≡ fault.Full → ⊥
not_full is = cc

pub open_at_disk : {T : Type 0} (closed : Option ℕ) (result : Result T JournalFault) → result ≡ Err fault.Disk
    → ((count : ℕ) → (result ≡ Err (fault.Closed count)) ↔ (closed ≡ Some count)) → closed ≡ None
open_at_disk None result is h = refl
open_at_disk (Some count) result is h = absurd (other_fault count
    (two_errs result fault.Disk (fault.Closed count) (sym is ∙ (h count).1 refl)))

pub not_past : {T : Type 0} {P Q : Type 0} (result : Result T JournalFault) → result ≡ Err fault.Disk
    → ((result ≡ Err fault.Full) ↔ (P × Q)) → P → Q → ⊥
not_past result is full p q = not_full (two_errs result fault.Disk fault.Full (sym is ∙ full.1 (p, q)))

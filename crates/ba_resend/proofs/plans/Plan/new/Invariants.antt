use Rattle.std.proofs.Common.{ℕ, ◌≡◌, length, get_or, []}
use Rattle.ba_resend.proofs.plans.Plan.new.Given as goal

abbrev pub invariant-loop : goal.invariant-loop
invariant-loop l = record {
  len : length l.shares.items ≡ l.counter;
  empty : (s : ℕ) → get_or l.shares.items s [] ≡ [];
}

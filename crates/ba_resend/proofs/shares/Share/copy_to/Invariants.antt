use Rattle.std.proofs.Common.{ℕ, ◌≡◌, ◌<◌, ◌≤◌, length}
use Rattle.std.specs.Prelude.{None}
use Rattle.ba_resend.specs.inside.Tournaments.{slot}
use Rattle.ba_resend.proofs.shares.Share.copy_to.Given as goal

abbrev pub invariant-loop-place : goal.invariant-loop-place
invariant-loop-place l = record {
  len : length l.wider ≡ length l.initial.wider;
  before : (j : ℕ) → j < l.place → slot l.wider j ≡ slot l.self j;
  after : (j : ℕ) → l.place ≤ j → slot l.wider j ≡ None;
}

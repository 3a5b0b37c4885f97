use Rattle.std.proofs.Common.{ℕ, ◌≡◌, ◌+◌, ◌<◌, ◌≤◌, length, get_or, []}
use Rattle.ba_resend.specs.inside.Tournaments.{slot}
use Rattle.ba_resend.proofs.plans.widen.Given as goal

abbrev pub invariant-loop-share : goal.invariant-loop-share
invariant-loop-share l = record {
  senders : length l.shares ≡ length l.initial.shares;
  slots : (s j : ℕ) → slot (get_or l.shares s []) j ≡ slot (get_or l.initial.shares s []) j;
  longer : (s : ℕ) → length (get_or l.initial.shares s []) ≤ length (get_or l.shares s []);
  done : (s : ℕ) → s < l.share → l.places ≤ length (get_or l.shares s []);
}

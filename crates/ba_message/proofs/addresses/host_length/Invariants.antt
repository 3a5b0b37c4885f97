-- The bytes so far pass, and the rest adds what it has at its front.
use Rattle.std.proofs.Common.{◌≡◌, ◌≤◌, ◌+◌, ◌-◌, drop, length}
use Rattle.std.specs.List.{prefix_len}
use Rattle.ba_message.specs.Addresses.{is_host_byte}
use Rattle.ba_message.proofs.addresses.host_length.Given as goal

abbrev pub invariant-loop-length : goal.invariant-loop-length
invariant-loop-length l = (l.length ≤ length l.bytes)
    × (prefix_len is_host_byte l.bytes ≡ l.length + prefix_len is_host_byte (drop l.length l.bytes))

abbrev pub decreases-loop-length : goal.decreases-loop-length
decreases-loop-length l = length l.bytes - l.length

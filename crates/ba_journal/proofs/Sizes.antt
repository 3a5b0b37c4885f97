-- A record's coding is shorter than what four bytes can tell.
use Rattle.std.proofs.Common.{ℕ, ◌<◌, ◌≤◌, ◌^◌, length, Option, None, Some, refl, arith, length-append}
use Rattle.std.specs.Int.{w64, to_le_bytes}
use Rattle.ba_core.specs.declared.protocols.Protocol.{Protocol}
use Rattle.ba_message.specs.declared.endpoints.Epr.{Epr}
use Rattle.ba_tree.specs.Lengths.{in_u64}
use Rattle.ba_message.specs.Endpoints.{Fits, endpoint_length}
use Rattle.ba_record.proofs.Parts.{size_is, base_is_short}
use Rattle.ba_record.specs.Coding.{coding, InRange, IsUpward, endpoint_coding, option_coding, upward_coding}
use Rattle.ba_record.specs.declared.records.Record.{Record}
use Rattle.ba_record.specs.declared.records.Record.TheVariants.{Node, Scope, End, Part, Enrolled, Refused, Received, Acted, Decided, Chosen}
use Rattle.ba_record.specs.declared.records.Record.TheVariants.{Ticked, Asked}

endpoint_is_short : (e : Epr) → Fits e → length (endpoint_coding e) ≤ 4096
endpoint_is_short e fits =
    let both = size_is e (in_u64 (endpoint_length e)) fits refl in
    omega (arith, both.0, both.1)

deadline_is_short : (d : Option ℕ) → length (option_coding (to_le_bytes w64) d) ≤ 9
deadline_is_short None = omega arith
deadline_is_short (Some moment) = omega arith

upward_is_short : (u : Option (Protocol × Epr)) → IsUpward u → length (option_coding upward_coding u) ≤ 4098
upward_is_short None is = omega arith
upward_is_short (Some upward) is = omega (arith, endpoint_is_short upward.1 is)

pub is_short : (r : Record) → InRange r → length (coding r) < 2 ^ 32
is_short (Node number base) is = omega (arith, base_is_short base is.1)
is_short (Scope counter kind deadline upward) is =
    omega (
      arith,
      length-append (option_coding (to_le_bytes w64) deadline) (option_coding upward_coding upward),
      deadline_is_short deadline,
      upward_is_short upward is.1.1,
    )
is_short (End counter scope protocol participant) is = omega (arith, endpoint_is_short participant is.1.1)
is_short (Part counter protocol registration) is = omega (arith, endpoint_is_short registration is.1)
is_short (Enrolled counter coordinator) is = omega (arith, endpoint_is_short coordinator is.1)
is_short (Refused counter code) is = omega arith
is_short (Received counter n) is = omega arith
is_short (Acted counter a) is = omega arith
is_short (Decided counter verdict) is = omega arith
is_short (Chosen counter choice) is = omega arith
is_short (Ticked counter) is = omega arith
is_short (Asked counter) is = omega arith

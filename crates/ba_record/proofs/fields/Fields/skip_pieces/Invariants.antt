use Rattle.std.proofs.Common.{◌≡◌, ◌+◌, ◌*◌, ◌≤◌, length}
use Rattle.ba_message.specs.declared.endpoints.TheConstants.{MOST_ENDPOINT_BYTES}
use Rattle.ba_record.specs.inside.Skips.{without_value, read_pieces}
use Rattle.ba_record.proofs.fields.Fields.skip_pieces.Given as goal

-- each byte may bring 65,535 pieces
abbrev pub invariant-pieces : goal.invariant-pieces
invariant-pieces l = record {
  same : without_value (read_pieces l.open l.self.rest.now) ≡ without_value (read_pieces l.fn.count l.initial.self.rest.now);
  within : length l.self.rest.now ≤ MOST_ENDPOINT_BYTES;
  few : l.open + 65536 * length l.self.rest.now ≤ 65536 * (MOST_ENDPOINT_BYTES + 1);
}

abbrev pub decreases-pieces : goal.decreases-pieces
decreases-pieces l = length l.self.rest.now

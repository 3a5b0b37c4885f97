use Rattle.std.proofs.Common.{◌≡◌, ◌-◌, ◌≤◌, length}
use Rattle.ba_message.specs.declared.endpoints.TheConstants.{MOST_ENDPOINT_BYTES}
use Rattle.ba_record.specs.Reading.{read_many, read_tree}
use Rattle.ba_record.specs.inside.Skips.{without_value}
use Rattle.ba_record.proofs.fields.Fields.skip_parameters.Given as goal

abbrev pub invariant-parameters : goal.invariant-parameters
invariant-parameters l = record {
  same : without_value (read_many (read_tree MOST_ENDPOINT_BYTES) (l.count - l.done) l.self.rest.now)
      ≡ without_value (read_many (read_tree MOST_ENDPOINT_BYTES) l.count l.initial.self.rest.now);
  within : length l.self.rest.now ≤ MOST_ENDPOINT_BYTES;
}

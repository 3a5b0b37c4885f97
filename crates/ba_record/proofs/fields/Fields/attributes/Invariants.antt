use Rattle.std.proofs.Common.{◌≡◌, ◌-◌}
use Rattle.ba_record.specs.Reading.{read_many, read_attribute}
use Rattle.ba_record.proofs.Onward.{behind}
use Rattle.ba_record.proofs.fields.Fields.attributes.Given as goal

abbrev pub invariant-attributes : goal.invariant-attributes
invariant-attributes l = behind l.attributes
    (read_many read_attribute (l.count - l.done) l.self.rest.now) ≡ read_many read_attribute l.count l.initial.self.rest.now

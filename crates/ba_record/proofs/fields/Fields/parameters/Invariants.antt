use Rattle.std.proofs.Common.{◌≡◌, ◌-◌}
use Rattle.ba_message.specs.declared.endpoints.TheConstants.{MOST_PARAMETER_LEVELS}
use Rattle.ba_record.specs.Reading.{read_many, read_tree}
use Rattle.ba_record.proofs.Onward.{behind}
use Rattle.ba_record.proofs.fields.Fields.parameters.Given as goal

abbrev pub invariant-parameters : goal.invariant-parameters
invariant-parameters l =
    behind l.parameters (read_many (read_tree MOST_PARAMETER_LEVELS) (l.count - l.done) l.self.rest.now)
    ≡ read_many (read_tree MOST_PARAMETER_LEVELS) l.count l.initial.self.rest.now

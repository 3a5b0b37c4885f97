use Rattle.std.proofs.Common.{◌≡◌, ◌+◌, ◌*◌, ◌-◌}
use Rattle.ba_record.specs.Reading.{read_many, read_tree, read_content}
use Rattle.ba_record.proofs.Onward.{behind}
use Rattle.ba_record.proofs.fields.Fields.+trees.Given as goal

abbrev pub decreases-content : goal.decreases-content
decreases-content l = 3 * l.levels + 1

abbrev pub decreases-contents : goal.decreases-contents
decreases-contents l = 3 * l.levels + 2

abbrev pub decreases-tree : goal.decreases-tree
decreases-tree l = 3 * l.levels

abbrev pub invariant-contents-contents : goal.invariant-contents-contents
invariant-contents-contents l = behind l.contents
    (read_many (read_content (read_tree l.levels)) (l.count - l.done) l.self.rest.now) ≡ read_many
    (read_content (read_tree l.levels)) l.count l.initial.self.rest.now

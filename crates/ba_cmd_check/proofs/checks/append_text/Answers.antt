use Rattle.ba_wire.specs.Envelopes.{envelope_tree}
use Rattle.ba_cmd_check.proofs.Reports.{appended_of, lacking_of, writable_of}
use Rattle.ba_cmd_check.proofs.checks.append_text.Goals as goal

pub returns-clause-text : goal.returns-clause-text
returns-clause-text c =
    appended_of c.append_tree.result c.args.report.now c.append_tree.new.report
    c.in_ok-tree.tree (envelope_tree c.args.decoded.now.route c.args.decoded.now.message) c.in_ok-tree.ensures
    c.append_tree.ensures.text

pub returns-clause-writable : goal.returns-clause-writable
returns-clause-writable c =
    writable_of c.append_tree.result c.args.report.now c.append_tree.new.report
    c.in_ok-tree.tree (envelope_tree c.args.decoded.now.route c.args.decoded.now.message) c.in_ok-tree.ensures
    c.append_tree.ensures.writable

pub returns-clause-fault : goal.returns-clause-fault
returns-clause-fault c =
    lacking_of c.append_tree.result c.args.report.now c.append_tree.new.report
    c.in_ok-tree.tree (envelope_tree c.args.decoded.now.route c.args.decoded.now.message) c.in_ok-tree.ensures
    c.append_tree.ensures.fault

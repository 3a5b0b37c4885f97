use Rattle.ba_cmd_check.proofs.Reports.{reported_of, unreported_of}
use Rattle.ba_wire_limits.proofs.ReadMessages.{decoded_has_envelope}
use Rattle.ba_cmd_check.proofs.checks.report.Goals as goal

pub report_of-requires : goal.report_of-requires
report_of-requires c = decoded_has_envelope c.args.bytes.now c.in-Ok.decoded c.in-Ok.ensures.means

pub returns-in-Ok-clause-report : goal.returns-in-Ok-clause-report
returns-in-Ok-clause-report c =
    reported_of c.report_of.result c.args.bytes.now c.in-Ok.decoded c.in-Ok.ensures.means c.report_of.ensures.writable
    c.report_of.ensures.report

pub returns-in-Ok-clause-fault : goal.returns-in-Ok-clause-fault
returns-in-Ok-clause-fault c =
    unreported_of c.report_of.result c.args.bytes.now c.in-Ok.decoded c.in-Ok.ensures.means c.report_of.ensures.fault

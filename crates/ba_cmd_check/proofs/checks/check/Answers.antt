use Rattle.ba_cmd_check.proofs.Reports.{stops_of}
use Rattle.ba_cmd_check.proofs.checks.check.Goals as goal

pub returns-in-Ok-clause-stops : goal.returns-in-Ok-clause-stops
returns-in-Ok-clause-stops g c =
    stops_of c.print_report.result
    (g.S.Source.left c.args.source.now) (g.S.Source.left c.read_up_to.new.source)
    (g.K.Sink.written c.args.sink.now) (g.K.Sink.written c.print_report.new.sink)
    c.in-Ok.input c.as_slice.result.now c.in-Ok.ensures.bytes c.in-Ok.ensures.small c.as_slice.ensures c.print_report.ensures.stops

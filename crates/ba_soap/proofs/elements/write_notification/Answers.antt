use Rattle.ba_soap.proofs.WrittenNotifications.{ok_notification_is_read}
use Rattle.ba_soap.proofs.elements.write_notification.Goals as goal

pub returns-clause-reads_back : goal.returns-clause-reads_back
returns-clause-reads_back g c plain =
    ok_notification_is_read (g.D.Dialect.sheet c.args.dialect.now) c.args.source.now c.args.envelope.now c.notification_element.result
    c.notification_element.ensures plain

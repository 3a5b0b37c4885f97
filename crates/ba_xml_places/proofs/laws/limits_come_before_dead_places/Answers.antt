use Rattle.ba_xml_places.proofs.Table.{lives_on, dies_later}
use Rattle.ba_xml_places.proofs.laws.limits_come_before_dead_places.Goals as goal

pub returns-clause-alive : goal.returns-clause-alive
returns-clause-alive c = lives_on

pub returns-clause-later : goal.returns-clause-later
returns-clause-later c = dies_later

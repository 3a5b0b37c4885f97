use Rattle.ba_xml_places.proofs.Examples.{at_its_own_byte, not_at_the_line_feed}
use Rattle.ba_xml_places.proofs.laws.a_tag_is_refused_at_its_own_byte.Goals as goal

pub returns-clause-answer : goal.returns-clause-answer
returns-clause-answer c = at_its_own_byte

pub returns-clause-line_feed : goal.returns-clause-line_feed
returns-clause-line_feed c = not_at_the_line_feed

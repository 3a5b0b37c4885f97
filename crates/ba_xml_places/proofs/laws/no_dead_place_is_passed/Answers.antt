use Rattle.ba_xml_places.proofs.Earlier.{first_dead, early_alive, text_alive}
use Rattle.ba_xml_places.proofs.laws.no_dead_place_is_passed.Goals as goal

pub returns-clause-refused : goal.returns-clause-refused
returns-clause-refused c = first_dead

pub returns-clause-early : goal.returns-clause-early
returns-clause-early c = early_alive

pub returns-clause-text : goal.returns-clause-text
returns-clause-text c = text_alive

use Rattle.ba_xml_reader.proofs.Complete.{complete}
use Rattle.ba_xml_reader.proofs.Dead.{one_tree, refused_none}
use Rattle.ba_xml_reader.proofs.CompleteExamples.{example_tree, example_is_text}
use Rattle.ba_xml_reader.proofs.laws.every_text_is_read.Goals as goal

pub returns-clause-read : goal.returns-clause-read
returns-clause-read c = complete

pub returns-clause-one : goal.returns-clause-one
returns-clause-one c = one_tree

pub returns-clause-none : goal.returns-clause-none
returns-clause-none c = refused_none

pub returns-clause-some : goal.returns-clause-some
returns-clause-some c = (example_tree, example_is_text)

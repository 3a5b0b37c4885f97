use Rattle.std.proofs.Common.{Ok}
use Rattle.ba_xml_places.proofs.Answering.{is_one}
use Rattle.ba_xml_writer.specs.OneText.{one_text}
use Rattle.ba_xml.proofs.RoundTrip.{round_trip}
use Rattle.ba_xml.proofs.laws.what_is_written_is_read_back.Goals as goal

pub returns-clause-text : goal.returns-clause-text
returns-clause-text c = round_trip

pub returns-clause-read : goal.returns-clause-read
returns-clause-read c = λ t w answer is. is_one (one_text t) answer (Ok t) is (round_trip t w)

use Rattle.ba_http_writer.proofs.Phrases.{has_phrase}
use Rattle.ba_http_writer.proofs.responses.phrase_of.Goals as goal

pub unreachable-requires-in-Err : goal.unreachable-requires-in-Err
unreachable-requires-in-Err c = let is = has_phrase c.args.code c.requires.phrase in c.in-Err.ensures is

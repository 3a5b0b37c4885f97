use Rattle.std.proofs.Common.{[], arith}
use Rattle.ba_http_head.proofs.Steps.{nothing}
use Rattle.ba_http_head.proofs.LookLemmas.{begun}
use Rattle.ba_http_head.proofs.fetches.fetch.Goals as goal

pub returns-in-Err-clause-found : goal.returns-in-Err-clause-found
returns-in-Err-clause-found g c = ([], [], nothing (g.K.Link.left c.args.link.now), (begun c.args.heading).open_yet, omega arith, tt)

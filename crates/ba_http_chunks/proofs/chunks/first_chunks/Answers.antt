use Rattle.std.proofs.Common.{[], sym, subst}
use Rattle.ba_http_chunks.specs.inside.Progress.{Stands}
use Rattle.ba_http_chunks.proofs.Standing.{started}
use Rattle.ba_http_chunks.proofs.chunks.first_chunks.Goals as goal

pub returns : goal.returns
returns c = subst (λ v. Stands (record { spot = v; got = 0; count = 0 }) [] []) (sym c.first_line.ensures) started

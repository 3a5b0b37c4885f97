use Rattle.std.proofs.Common.{append_assoc}
use Rattle.ba_http_writer.proofs.requests.append_line.Goals as goal

pub returns : goal.returns
returns c = rw (c.in_ok-append-3.ensures.ok, c.in_ok-append-2.ensures.ok, c.in_ok-append.ensures.ok) (simp append_assoc)

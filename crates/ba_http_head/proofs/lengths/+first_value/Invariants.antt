use Rattle.std.proofs.Common.{length}
use Rattle.ba_http_head.proofs.lengths.«+first_value».Given as goal

abbrev pub decreases-first_value : goal.decreases-first_value
decreases-first_value l = length l.headers.now

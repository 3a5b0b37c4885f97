use Rattle.std.proofs.Common.{length}
use Rattle.ba_http_head.proofs.lengths.«+are_chunked».Given as goal

abbrev pub decreases-are_chunked : goal.decreases-are_chunked
decreases-are_chunked l = length l.headers.now

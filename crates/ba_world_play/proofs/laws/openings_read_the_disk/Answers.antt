use Rattle.ba_world_play.proofs.Openings.{opening_reads}
use Rattle.ba_world_play.proofs.laws.openings_read_the_disk.Goals as goal

pub returns : goal.returns
returns c = opening_reads

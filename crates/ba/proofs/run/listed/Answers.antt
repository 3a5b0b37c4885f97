use Rattle.std.proofs.Common.{ap, Err}
use Rattle.ba.proofs.Statuses.{list_reads, list_writes}
use Rattle.ba.proofs.run.listed.Goals as goal

pub returns-in-Err-clause-read : goal.returns-in-Err-clause-read
returns-in-Err-clause-read g c four = c.in-Err.ensures.read (ap Err (list_reads c.in-Err.fault four))

pub returns-in-Err-clause-unwritten : goal.returns-in-Err-clause-unwritten
returns-in-Err-clause-unwritten g c four = c.in-Err.ensures.unwritten (ap Err (list_reads c.in-Err.fault four))

pub returns-in-Err-clause-write : goal.returns-in-Err-clause-write
returns-in-Err-clause-write g c five = c.in-Err.ensures.write (ap Err (list_writes c.in-Err.fault five))

use Rattle.std.proofs.Common.{sym, subst}
use Rattle.ba.specs.Notes.{IsStatus}
use Rattle.ba.proofs.Statuses.{status_known}
use Rattle.ba.proofs.run.run.Goals as goal

pub returns-in-Err-clause-known : goal.returns-in-Err-clause-known
returns-in-Err-clause-known g c = subst IsStatus (sym c.refuse-in-Err.ensures.status) (status_known c.in-Err.fault)

pub returns-in-Err-clause-stopped : goal.returns-in-Err-clause-stopped
returns-in-Err-clause-stopped g c late = record {
  command = c.in-Some.command;
  asks = c.in-Some.ensures.some;
  why = c.in-Err.fault;
  own = c.in-Err.ensures.own;
  has_status = c.refuse-in-Err.ensures.status;
  stops = c.in-Err.ensures.stops;
  handed = c.in-Err.ensures.handed;
  noted = c.refuse-in-Err.ensures.note;
}

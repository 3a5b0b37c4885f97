use Rattle.std.proofs.Common.{refl}
use Rattle.ba_ports.specs.declared.requests.Request.TheVariants as request
use Rattle.ba_ports_memory.proofs.DiskCalls.{caused, cut_done, cut_left, cut_short, passes, passes_during}
use Rattle.ba_ports_memory.proofs.mem_disks.MemDiskDisk.cut.Goals as goal

pub returns-clause-cut : goal.returns-clause-cut
returns-clause-cut c = λ follows. cut_done c.args.len c.cut_to.result c.args.self.now c.cut_to.new.self c.cut_to.ensures.makes

pub returns-clause-short : goal.returns-clause-short
returns-clause-short c = λ follows. cut_short c.args.len c.cut_to.result c.args.self.now c.cut_to.new.self c.cut_to.ensures.makes

pub returns-clause-crash : goal.returns-clause-crash
returns-clause-crash c = λ follows. cut_left c.args.len c.cut_to.result c.args.self.now c.cut_to.new.self c.cut_to.ensures.makes

pub returns-clause-moments : goal.returns-clause-moments
returns-clause-moments c = λ follows. passes_during c.args.self.now c.cut_to.new.self _
    (passes c.cut_to.result c.args.self.now c.cut_to.new.self (request.Cut c.args.len) refl c.cut_to.ensures.makes)
    (cut_left c.args.len c.cut_to.result c.args.self.now c.cut_to.new.self c.cut_to.ensures.makes)

pub returns-clause-cause : goal.returns-clause-cause
returns-clause-cause c = caused
    (request.Cut c.args.len) c.cut_to.result c.args.self.now c.cut_to.new.self c.cut_to.ensures.makes c.cut_to.ensures.later

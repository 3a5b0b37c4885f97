use Rattle.std.proofs.Common.{refl}
use Rattle.ba_ports.specs.declared.requests.Request.TheVariants as request
use Rattle.ba_ports_memory.proofs.DiskCalls.{caused, passes, passes_during, sync_durable, sync_no_more, sync_seen}
use Rattle.ba_ports_memory.proofs.mem_disks.MemDiskDisk.sync.Goals as goal

pub returns-clause-durable : goal.returns-clause-durable
returns-clause-durable c = λ follows. sync_durable c.settle.result c.args.self.now c.settle.new.self c.settle.ensures.makes

pub returns-clause-seen : goal.returns-clause-seen
returns-clause-seen c = λ follows. sync_seen c.settle.result c.args.self.now c.settle.new.self c.settle.ensures.makes

pub returns-clause-crash : goal.returns-clause-crash
returns-clause-crash c = λ follows. sync_no_more c.settle.result c.args.self.now c.settle.new.self c.settle.ensures.makes

pub returns-clause-moments : goal.returns-clause-moments
returns-clause-moments c = λ follows. passes_during c.args.self.now c.settle.new.self _
    (passes c.settle.result c.args.self.now c.settle.new.self request.Sync refl c.settle.ensures.makes)
    (sync_no_more c.settle.result c.args.self.now c.settle.new.self c.settle.ensures.makes)

pub returns-clause-cause : goal.returns-clause-cause
returns-clause-cause c = caused request.Sync c.settle.result c.args.self.now c.settle.new.self c.settle.ensures.makes c.settle.ensures.later

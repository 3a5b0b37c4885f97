use Rattle.std.proofs.Common.{refl}
use Rattle.ba_ports.specs.declared.requests.Request.TheVariants as request
use Rattle.ba_ports_memory.proofs.DiskCalls.{caused, passes, passes_during, write_done, write_left, write_torn, write_within}
use Rattle.ba_ports_memory.proofs.mem_disks.MemDiskDisk.write_at.Goals as goal

pub returns-clause-written : goal.returns-clause-written
returns-clause-written c =
    λ follows. write_done c.args.place c.args.piece.now c.write.result c.args.self.now c.write.new.self c.write.ensures.makes
    (c.requires follows)

pub returns-clause-torn : goal.returns-clause-torn
returns-clause-torn c =
    λ follows. write_torn c.args.place c.args.piece.now c.write.result c.args.self.now c.write.new.self c.write.ensures.makes

pub returns-clause-crash : goal.returns-clause-crash
returns-clause-crash c =
    λ follows. write_left c.args.place c.args.piece.now c.write.result c.args.self.now c.write.new.self c.write.ensures.makes

pub returns-clause-moments : goal.returns-clause-moments
returns-clause-moments c = λ follows. passes_during c.args.self.now c.write.new.self _
    (passes c.write.result c.args.self.now c.write.new.self (request.WriteAt c.args.place c.args.piece.now) refl c.write.ensures.makes)
    (write_left c.args.place c.args.piece.now c.write.result c.args.self.now c.write.new.self c.write.ensures.makes)

pub returns-clause-cause : goal.returns-clause-cause
returns-clause-cause c = caused
    (request.WriteAt c.args.place c.args.piece.now)
    c.write.result c.args.self.now c.write.new.self c.write.ensures.makes c.write.ensures.later

pub returns-clause-within : goal.returns-clause-within
returns-clause-within c = λ follows. write_within c.args.place c.args.piece.now c.write.result c.args.self.now c.write.new.self
    (write_done c.args.place c.args.piece.now c.write.result c.args.self.now c.write.new.self c.write.ensures.makes
    (c.requires follows)) (c.requires follows) c.write.ensures.end

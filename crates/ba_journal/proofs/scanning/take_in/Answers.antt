use Rattle.std.proofs.Common.{arith}
use Rattle.ba_record.specs.declared.records.RecordFault.TheVariants as fault
use Rattle.ba_journal.proofs.Leading.{fault_within}
use Rattle.ba_journal.proofs.scanning.take_in.Goals as goal

pub overflow_add-result-in-Err-Short : goal.overflow_add-result-in-Err-Short
overflow_add-result-in-Err-Short c =
    let told = rw c.in-Err-Short.field-0-is at c.in-Err-Short.ensures.least_place in
    let within = fault_within c.args.payload.now (fault.Short c.in-Err-Short.at) told in
    omega (arith, within, c.requires)

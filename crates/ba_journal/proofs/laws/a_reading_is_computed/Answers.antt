use Rattle.ba_journal.proofs.ReadingOf.{computed, each_computed, stands_computed, stands_found}
use Rattle.ba_journal.proofs.laws.a_reading_is_computed.Goals as goal

pub returns-clause-computed : goal.returns-clause-computed
returns-clause-computed c = λ file found read. computed file found read

pub returns-clause-read : goal.returns-clause-read
returns-clause-read c = λ file. each_computed file

pub returns-clause-records : goal.returns-clause-records
returns-clause-records c = λ file records stands. (stands_computed file records stands).1

pub returns-clause-stands : goal.returns-clause-stands
returns-clause-stands c = λ file found read. stands_found file found read

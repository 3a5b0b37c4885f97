use Rattle.std.proofs.Common.{arith}
use Rattle.ba_message.specs.declared.endpoints.TheConstants.{MOST_ENDPOINT_BYTES}
use Rattle.ba_record.proofs.Exact.{front_bytes}
use Rattle.ba_record.proofs.Onward.{all_of_few}
use Rattle.ba_record.proofs.elements.most_of.Goals as goal

pub returns-then-bytes-lt-MOST_BYTES-clause-front : goal.returns-then-bytes-lt-MOST_BYTES-clause-front
returns-then-bytes-lt-MOST_BYTES-clause-front c = all_of_few MOST_ENDPOINT_BYTES c.args.bytes.now c.if-bytes-lt-MOST_BYTES.true

pub returns-clause-bytes : goal.returns-clause-bytes
returns-clause-bytes c = front_bytes MOST_ENDPOINT_BYTES c.args.bytes.now (λ i. omega (arith, c.type_inv.bytes i))

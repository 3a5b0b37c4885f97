use Rattle.std.proofs.Common.{sym, true≢false}
use Rattle.uuid.specs.Text.{parsed}
use Rattle.ba_node_addresses.proofs.PathLemmas.{none_read}
use Rattle.ba_node_addresses.proofs.identifiers.identifier_of_text.Goals as goal

pub returns-in-Err : goal.returns-in-Err
returns-in-Err c =
    none_read c.args.text.now (parsed c.args.text.now) (λ u is. true≢false (sym (c.in-Err.ensures.ok.1 (u, is))))

use Rattle.std.proofs.Common.{◌≡◌, IfOk, sym, subst}
use Rattle.ba_tree.specs.declared.trees.Tree.{Tree}
use Rattle.ba_xml_writer.specs.OneText.{one_text}
use Rattle.ba_xml_writer.specs.Writable.{IsWritable}
use Rattle.ba_wire_short.proofs.DirectEnvelopes.{other_is}
use Rattle.ba_wire_short.proofs.codec.encode_letter.Goals as goal

pub encode-requires : goal.encode-requires
encode-requires c = record {
  envelope = c.requires.envelope;
  writable = subst IsWritable (other_is c.args.source.now c.args.route.now c.args.message.now c.in_default.not-Notice) c.requires.writable;
}

pub returns-in_default : goal.returns-in_default
returns-in_default c =
    subst (λ (t : Tree). IfOk c.encode.result (λ text. text ≡ one_text t))
    (sym (other_is c.args.source.now c.args.route.now c.args.message.now c.in_default.not-Notice)) c.encode.ensures

use Rattle.std.proofs.Common.{sym, subst, ◌∙◌}
use Rattle.ba_xml_writer.specs.Writable.{IsWritable}
use Rattle.table_envelopes.proofs.answers.put_canonical.Goals as goal

pub put_text_of-requires : goal.put_text_of-requires
put_text_of-requires c = record {
  envelope = c.requires (sym c.is_known.ensures ∙ c.if-not-is_known.false);
  writable = subst IsWritable c.in-Ok.ensures (c.writable.ensures.0 c.if-not-writable.false);
}

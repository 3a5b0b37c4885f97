use Rattle.std.proofs.Common.{sym, subst, ◌∙◌}
use Rattle.ba_xml_writer.specs.Writable.{IsWritable}
use Rattle.table_envelopes.proofs.answers.put_letter.Goals as goal

pub put_letter_text-requires : goal.put_letter_text-requires
put_letter_text-requires c = record {
  envelope = c.requires (sym c.is_known.ensures ∙ c.if-not-is_known.false);
  writable = subst IsWritable c.in-Ok.ensures (c.writable.ensures.0 c.if-not-writable.false);
}

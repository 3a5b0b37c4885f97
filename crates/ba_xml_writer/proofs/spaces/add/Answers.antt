use Rattle.std.proofs.Common.{◌∙◌, ap, sym}
use Rattle.std.specs.Str.{bytes_eq}
use Rattle.indexmap.specs.IndexSet.{insert_key}
use Rattle.ba_xml_writer.proofs.Collecting.{inserted}
use Rattle.ba_xml_writer.proofs.spaces.add.Goals as goal

pub returns-in-Ok : goal.returns-in-Ok
returns-in-Ok c rest =
    inserted c.args.spaces.now.keys c.insert.new.self.keys c.args.space.now rest (sym c.if-not-needs_number.ensures)
    (c.in-Ok.ensures.keys ∙ ap (insert_key bytes_eq c.args.spaces.now.keys) c.of-key.ensures)

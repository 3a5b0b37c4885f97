use Rattle.ba.proofs.notes.write_message_note.Goals as goal

pub returns-in-Xml-clause-part : goal.returns-in-Xml-clause-part
returns-in-Xml-clause-part g c = rw (c.in-Xml.is, ← c.reason_number.ensures) c.write_counts.ensures.part

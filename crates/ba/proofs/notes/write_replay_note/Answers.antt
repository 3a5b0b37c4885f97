use Rattle.ba.proofs.notes.write_replay_note.Goals as goal

pub returns-in-BadLine-clause-part : goal.returns-in-BadLine-clause-part
returns-in-BadLine-clause-part g c =
    rw (c.in-BadLine.is, ← c.from.ensures, ← c.from-in-BadLine.ensures) c.write_counts.ensures.part

pub returns-in-NoSuchMessage-clause-part : goal.returns-in-NoSuchMessage-clause-part
returns-in-NoSuchMessage-clause-part g c =
    rw (c.in-NoSuchMessage.is, ← c.from-in-NoSuchMessage.ensures) c.write_line-in-NoSuchMessage.ensures.part

pub returns-in-NoSuchName-clause-part : goal.returns-in-NoSuchName-clause-part
returns-in-NoSuchName-clause-part g c =
    rw (c.in-NoSuchName.is, ← c.from-in-NoSuchName.ensures) c.write_line.ensures.part

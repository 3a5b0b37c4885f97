use Rattle.ba_cmd_journal.proofs.journals.print_listing.Goals as goal

pub returns-in-Ok-clause-stops : goal.returns-in-Ok-clause-stops
returns-in-Ok-clause-stops g c =
    (c.in-Ok.text, c.in-Ok.ensures.text, rw c.as_slice.ensures at c.in-Err-write_all.ensures.part)

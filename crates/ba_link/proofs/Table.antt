-- What is computed at all possible states of a link: that each move keeps what fits, and that each notice
-- that was sent has a row.
use Rattle.std.proofs.Common.{◌≡◌, Bool, true, false, ◌&&◌, List, [], ◌∷◌, ◌++◌, Option, None, Some, map, refl}
use Rattle.std.specs.List.{list_all}
use Rattle.ba_core.specs.EndRows.{end_row}
use Rattle.ba_core.specs.Messages.{is_column}
use Rattle.ba_core.specs.PartRows.{part_row}
use Rattle.ba_core.specs.declared.notices.Act.TheVariants as act
use Rattle.ba_core.specs.declared.notices.Notice.{Notice}
use Rattle.ba_core.specs.declared.notices.Notice.TheVariants as notice
use Rattle.ba_core.specs.declared.protocols.Protocol.{Protocol}
use Rattle.ba_core.specs.declared.protocols.Verdict.TheVariants.{Close}
use Rattle.ba_core.specs.declared.rows.CRow.{CRow}
use Rattle.ba_core.specs.declared.rows.CRow.TheVariants as crow
use Rattle.ba_core.specs.declared.rows.PRow.{PRow}
use Rattle.ba_core.specs.declared.rows.PRow.TheVariants as prow
use Rattle.ba_core.specs.declared.states.PState.{PState}
use Rattle.ba_core.specs.declared.states.PState.TheVariants as part
use Rattle.ba_link.specs.Fits.{message_fits}
use Rattle.ba_link.specs.Link.{End, LinkState, Message, register, registered, refused_for_good, refused_for_now, to_part, to_end, Move}
use Rattle.ba_link.specs.Link.{part_receives, end_receives, chooses, acts, heard_by, Moved, moved_link}
use Rattle.ba_link.specs.Pairs.{is_possible_pair, verdict_fits}
use Rattle.ba_link.proofs.Everywhere.{only_if, everywhere}

-- the notices but for Status, and the messages but for Status, of which nothing is said
abbrev pub notices : List Notice
notices = notice.Complete ∷ notice.Close ∷ notice.Cancel ∷ notice.Compensate ∷ notice.Failed ∷ notice.Exited
    ∷ notice.NotCompleted ∷ notice.Completed ∷ notice.Closed ∷ notice.Canceled ∷ notice.Compensated ∷ notice.Fail
    ∷ notice.Exit ∷ notice.CannotComplete ∷ notice.GetStatus ∷ []

abbrev pub messages : List Message
messages = register ∷ registered ∷ refused_for_good ∷ refused_for_now ∷ (map to_part notices ++ map to_end notices)

-- the message still fits, if it did
abbrev pub still_fits : LinkState → LinkState → Message → Bool
still_fits before after m = only_if (message_fits before m) (message_fits after) m

-- the message fits, if there is one
abbrev pub fits_if_any : LinkState → Option Message → Bool
fits_if_any l None = true
fits_if_any l (Some m) = message_fits l m

-- what a move led to fits: the states, the verdict, all that was sent before, and what is sent now
abbrev pub outcome_fits : LinkState → Moved → Bool
outcome_fits before None = true
outcome_fits before (Some after) =
    is_possible_pair after.0 && verdict_fits after.0.end && list_all (still_fits before after.0) messages && fits_if_any after.0 after.1

-- a move that hears what fits leads to what fits
abbrev pub keeps : Move → LinkState → Bool
keeps move l = only_if (fits_if_any l (heard_by move)) (λ from. outcome_fits from (moved_link from move)) l

-- computed, a case for each move and notice
pub each_move_keeps : (move : Move) → everywhere (keeps move) ≡ true
each_move_keeps (part_receives notice.Complete) = refl
each_move_keeps (end_receives notice.Complete) = refl
each_move_keeps (acts act.Completed) = refl
each_move_keeps (chooses Close) = refl
each_move_keeps move = refl

-- the table has the row; a participant that is Registering needs none
abbrev pub is_part_row : PState → PRow → Bool
is_part_row part.Registering row = true
is_part_row p prow.Invalid = false
is_part_row p (prow.Row next prompt) = true

-- the table has the row
abbrev pub is_end_row : CRow → Bool
is_end_row crow.Invalid = false
is_end_row (crow.Row next prompt) = true

-- there is an end, and the table has the row
abbrev pub has_end_row : Protocol → Notice → Option End → Bool
has_end_row protocol n None = false
has_end_row protocol n (Some e) = is_end_row (end_row protocol e.state n)

-- a notice that moves by the tables and fits has a row, at the participant and at the end
abbrev pub part_takes : Notice → LinkState → Bool
part_takes n l = only_if (is_column n && message_fits l (to_part n)) (λ at. is_part_row at.part (part_row at.protocol at.part n)) l

abbrev pub end_takes : Notice → LinkState → Bool
end_takes n l = only_if (is_column n && message_fits l (to_end n)) (λ at. has_end_row at.protocol n at.end) l

-- computed, a case for each notice
pub part_takes_each : (n : Notice) → everywhere (part_takes n) ≡ true
part_takes_each notice.Complete = refl
part_takes_each n = refl

pub end_takes_each : (n : Notice) → everywhere (end_takes n) ≡ true
end_takes_each notice.Complete = refl
end_takes_each n = refl

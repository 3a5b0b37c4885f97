-- What fits a link is kept, and no notice arrives out of place: the rules at any state and any move, from what
-- was computed at each.
use Rattle.std.proofs.Common.{◌≡◌, ◌≢◌, ℕ, ◌+◌, Bool, true, false, ◌&&◌, List, [], ◌++◌, Option, None, Some, IfSome, IsTrue, Contains, refl}
use Rattle.std.proofs.Common.{if◌then◌else◌, option_to_list}
use Rattle.std.specs.List.{AllByRecursion, list_all}
use Rattle.std.proofs.lemmas.Bool.{and_parts, and_from}
use Rattle.std.proofs.lemmas.List.Elements.{All-from_recursion, recursion_from_All, All-contains, All-weaker, All-append}
use Rattle.ba_core.specs.EndRows.{end_row}
use Rattle.ba_core.specs.Messages.{is_column, notice_code}
use Rattle.ba_core.specs.PartRows.{part_row}
use Rattle.ba_core.specs.declared.notices.Notice.{Notice}
use Rattle.ba_core.specs.declared.notices.Notice.TheVariants as notice
use Rattle.ba_core.specs.declared.protocols.Protocol.{Protocol}
use Rattle.ba_core.specs.declared.rows.CRow.{CRow}
use Rattle.ba_core.specs.declared.rows.CRow.TheVariants as crow
use Rattle.ba_core.specs.declared.rows.PRow.{PRow}
use Rattle.ba_core.specs.declared.rows.PRow.TheVariants as prow
use Rattle.ba_core.specs.declared.states.PState.{PState}
use Rattle.ba_core.specs.declared.states.PState.TheVariants as part
use Rattle.ba_link.specs.Fits.{message_fits, MessageFits, LinkFits, HasPartRow, HasEndRow}
use Rattle.ba_link.specs.Link.{End, LinkState, Link, LinkStep, Message, register, registered, refused_for_good, refused_for_now, to_part}
use Rattle.ba_link.specs.Link.{to_end, heard_by, moved_link}
use Rattle.ba_link.specs.Pairs.{is_possible_pair, verdict_fits}
use Rattle.ba_link.proofs.Everywhere.{where_asked, at_place, passes}
use Rattle.ba_link.proofs.Table.{messages, still_fits, fits_if_any, outcome_fits, keeps, each_move_keeps, is_part_row, is_end_row}
use Rattle.ba_link.proofs.Table.{has_end_row, part_takes, part_takes_each, end_takes, end_takes_each}

-- a message that was sent fits
pub sent_fits : (link : Link) (m : Message) → LinkFits link → Contains link.sent m → MessageFits link.state m
sent_fits link m fits sent =
    All-contains (MessageFits link.state) link.sent m (All-from_recursion (MessageFits link.state) link.sent fits.messages) sent

-- what a move hears was sent, so it fits
heard_fits : (link : Link) (heard : Option Message) → LinkFits link → IfSome heard (Contains link.sent)
    → fits_if_any link.state heard ≡ true
heard_fits link None fits sent = refl
heard_fits link (Some m) fits sent = sent_fits link m fits sent

-- where a message stands in the list of messages
abbrev message_number : Message → ℕ
message_number register = 0
message_number registered = 1
message_number refused_for_good = 2
message_number refused_for_now = 3
message_number (to_part n) = 3 + notice_code n
message_number (to_end n) = 18 + notice_code n

-- any message that fitted still fits
each_still_fits : (before after : LinkState) → list_all (still_fits before after) messages ≡ true → (m : Message) → MessageFits before m
    → MessageFits after m
each_still_fits before after h (to_part (notice.Status name)) fits = refl
each_still_fits before after h (to_end (notice.Status name)) fits = refl
each_still_fits before after h m fits =
    where_asked (message_fits before m) (message_fits after) m
    (at_place (still_fits before after) messages (message_number m) m refl h) fits

-- the message that joins what was sent fits
joined_fits : (l : LinkState) (joined : Bool) (message : Option Message) → fits_if_any l message ≡ true
    → AllByRecursion (MessageFits l) (if joined then option_to_list message else [])
joined_fits l false message h = tt
joined_fits l true None h = tt
joined_fits l true (Some m) h = (h, tt)

-- each of four tests that hold together
and_four_parts : (a b c d : Bool) → (a && b && c && d) ≡ true → (a ≡ true) × (b ≡ true) × (c ≡ true) × (d ≡ true)
and_four_parts a b c d h =
    let last = and_parts (a && b && c) d h in
    let third = and_parts (a && b) c last.0 in
    let first = and_parts a b third.0 in
    (first.0, first.1, third.1, last.1)

-- each move of a link that fits leads to a link that fits
pub links_stay_possible : (before after : Link) → LinkStep before after → LinkFits before → LinkFits after
links_stay_possible before after step fits =
    let kept = passes (keeps step.move) (each_move_keeps step.move) before.state fits.pair fits.verdict in
    let heard = heard_fits before (heard_by step.move) fits step.heard in
    let led =
    where_asked (fits_if_any before.state (heard_by step.move))
    (λ l. outcome_fits l (moved_link l step.move)) before.state kept heard in
    let outcome : outcome_fits before.state (Some (after.state, step.message)) ≡ true = rw step.moves at led in
    let each =
    and_four_parts (is_possible_pair after.state) (verdict_fits after.state.end)
    (list_all (still_fits before.state after.state) messages) (fits_if_any after.state step.message) outcome in
    let fit_before = MessageFits before.state in
    let fit_after = MessageFits after.state in
    let joining : List Message = if step.joined then option_to_list step.message else [] in
    let old =
    All-weaker fit_before fit_after (each_still_fits before.state after.state each.2) before.sent
    (All-from_recursion fit_before before.sent fits.messages) in
    let new = All-from_recursion fit_after joining (joined_fits after.state step.joined step.message each.3) in
    record {
      pair = each.0;
      verdict = each.1;
      messages = rw step.sent (recursion_from_All fit_after (before.sent ++ joining) (All-append fit_after before.sent joining old new));
    }

-- a row that was computed to be there is there, at the participant and at the end
part_row_there : (p : PState) (row : PRow) → is_part_row p row ≡ true → p ≢ part.Registering → row ≢ prow.Invalid
part_row_there part.Registering row h enrolled none = enrolled refl
part_row_there p prow.Invalid h enrolled none = cc
part_row_there p (prow.Row next prompt) h enrolled none = cc

end_row_there : (row : CRow) → is_end_row row ≡ true → row ≢ crow.Invalid
end_row_there crow.Invalid h none = cc
end_row_there (crow.Row next prompt) h none = cc

end_there : (protocol : Protocol) (n : Notice) (e : Option End) → has_end_row protocol n e ≡ true
    → (there : End) × (e ≡ Some there) × (end_row protocol there.state n ≢ crow.Invalid)
end_there protocol n None h = absurd cc
end_there protocol n (Some e) h = (e, refl, end_row_there (end_row protocol e.state n) h)

-- a notice that was sent to the participant has a row there
pub part_in_place : (link : Link) (n : Notice) → LinkFits link → Contains link.sent (to_part n)
    → IsTrue (is_column n) → link.state.part ≢ part.Registering → HasPartRow link.state n
part_in_place link n fits sent moves enrolled =
    let passed = passes (part_takes n) (part_takes_each n) link.state fits.pair fits.verdict in
    let asked = and_from (is_column n) (message_fits link.state (to_part n)) moves (sent_fits link (to_part n) fits sent) in
    let row = part_row link.state.protocol link.state.part n in
    part_row_there link.state.part row
    (where_asked (is_column n && message_fits link.state (to_part n))
    (λ l. is_part_row l.part (part_row l.protocol l.part n)) link.state passed asked) enrolled

-- a notice that was sent to the end has a row there
pub end_in_place : (link : Link) (n : Notice) → LinkFits link → Contains link.sent (to_end n)
    → IsTrue (is_column n) → HasEndRow link.state n
end_in_place link n fits sent moves =
    let passed = passes (end_takes n) (end_takes_each n) link.state fits.pair fits.verdict in
    let asked = and_from (is_column n) (message_fits link.state (to_end n)) moves (sent_fits link (to_end n) fits sent) in
    end_there link.state.protocol n link.state.end
    (where_asked (is_column n && message_fits link.state (to_end n)) (λ l. has_end_row l.protocol n l.end) link.state passed asked)

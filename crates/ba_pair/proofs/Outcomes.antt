-- Each event of a play keeps that outcomes are recorded once.
use Rattle.std.proofs.Common.{◌≡◌, ℕ, zero, suc, ◌⊎◌, inl, inr, Bool, true, false, IsTrue, List, [], ◌∷◌, ◌++◌, length, slice_get, Option}
use Rattle.std.proofs.Common.{Some, None, unwrap_or, Result, Ok, Err, IfOk, OnOk, refl, sym, ap, ◌∙◌, subst, append_assoc, append-nil}
use Rattle.std.proofs.Common.{if◌then◌else◌}
use Rattle.std.specs.Option.{option_to_list}
use Rattle.std.proofs.lemmas.Option.{slice_get_within}
use Rattle.ba_core.specs.EndRows.{end_rows, end_column, end_row, end_tick, chosen_state, completed_state}
use Rattle.ba_core.specs.PartRows.{part_row, part_says, acted_state}
use Rattle.ba_core.specs.declared.notices.Act.{Act}
use Rattle.ba_core.specs.declared.notices.Notice.{Notice}
use Rattle.ba_core.specs.declared.notices.Notice.TheVariants as notice
use Rattle.ba_core.specs.declared.protocols.Protocol.{Protocol}
use Rattle.ba_core.specs.declared.protocols.Protocol.TheVariants.{Pc, Cc}
use Rattle.ba_core.specs.declared.protocols.Side.TheVariants.{Coordinator, Participant}
use Rattle.ba_core.specs.declared.protocols.Verdict.{Verdict}
use Rattle.ba_core.specs.declared.protocols.Verdict.TheVariants.{Close, Undo}
use Rattle.ba_core.specs.declared.states.CState.{CState}
use Rattle.ba_core.specs.declared.states.CState.TheVariants as end
use Rattle.ba_core.specs.declared.states.How.TheVariants.{Canceled, Failed, Exited, NotCompleted}
use Rattle.ba_core.specs.declared.states.PState.{PState}
use Rattle.ba_core.specs.declared.states.PState.TheVariants as part
use Rattle.ba_core.specs.declared.rows.CRow.{CRow}
use Rattle.ba_core.specs.declared.rows.CRow.TheVariants as crow
use Rattle.ba_core.specs.declared.rows.PRow.{PRow}
use Rattle.ba_core.specs.declared.rows.PRow.TheVariants as prow
use Rattle.ba_link.specs.Link.{settled_state}
use Rattle.ba_link.specs.Outcomes.{is_outcome, outcome_kept, cell_leads_on, recorded_at}
use Rattle.ba_pair.specs.declared.events.PairEvent.{PairEvent}
use Rattle.ba_pair.specs.declared.events.StepFault.{StepFault}
use Rattle.ba_pair.specs.declared.lines.Line.{Line}
use Rattle.ba_pair.specs.declared.events.PairEvent.TheVariants as event
use Rattle.ba_pair.specs.PairState.{PairState, starting_pair, is_for_part, message_at}
use Rattle.ba_pair.specs.PairPlay.{Effect, happens, acted_effect, end_ticked_effect, part_ticked_effect, chosen_effect, completed_effect}
use Rattle.ba_pair.specs.PairPlay.{end_received_effect, part_received_effect, delivered_effect}
use Rattle.ba_pair.specs.Recorded.{Played, recorded_of, recorded_by, recorded_notices, ActsFor, Sends, WasPlayed, IsSaid, OutcomesRecorded}

pub some_is : {A : Type 0} {x y : A} → Some x ≡ Some y → x ≡ y
some_is h = cc

-- a tick keeps the outcome
ticked_keeps : (s : CState) → outcome_kept (end_tick s).0 ≡ outcome_kept s
ticked_keeps end.Active = refl
ticked_keeps (end.Ended Canceled) = refl
ticked_keeps s = refl

-- so does a verdict
chosen_keeps : (p : Protocol) (s : CState) (v : Verdict) → outcome_kept (unwrap_or (chosen_state p s v) s) ≡ outcome_kept s
chosen_keeps Pc end.Active Close = refl
chosen_keeps Pc end.Active Undo = refl
chosen_keeps Cc end.Active Close = refl
chosen_keeps Cc end.Active Undo = refl
chosen_keeps Pc (end.Ended Canceled) Close = refl
chosen_keeps Pc (end.Ended Canceled) Undo = refl
chosen_keeps Cc (end.Ended Canceled) Close = refl
chosen_keeps Cc (end.Ended Canceled) Undo = refl
chosen_keeps Pc s Close = refl
chosen_keeps Pc s Undo = refl
chosen_keeps Cc s Close = refl
chosen_keeps Cc s Undo = refl

-- and completing
completed_keeps : (p : Protocol) (s : CState) → outcome_kept (unwrap_or (completed_state p s) s) ≡ outcome_kept s
completed_keeps Pc end.Active = refl
completed_keeps Cc end.Active = refl
completed_keeps Pc (end.Ended Canceled) = refl
completed_keeps Cc (end.Ended Canceled) = refl
completed_keeps Pc s = refl
completed_keeps Cc s = refl

-- the end's state after a row
abbrev after_row : Protocol → CState → Option Verdict → CRow → CState
after_row p s v crow.Invalid = s
after_row p s v (crow.Row next prompt) = settled_state p next v

abbrev RowKeeps : Protocol → CState → Option Verdict → Notice → Type 0
RowKeeps p s v n =
    option_to_list (outcome_kept (after_row p s v (end_row p s n))) ≡ option_to_list (outcome_kept s) ++ option_to_list (recorded_at p s n)

-- Completed may move on by the verdict
settles : (p : Protocol) (s : CState) (v : Option Verdict) → RowKeeps p s v notice.Completed
settles Pc end.Active None = refl
settles Pc end.Active (Some Close) = refl
settles Pc end.Active (Some Undo) = refl
settles Cc end.Active None = refl
settles Cc end.Active (Some Close) = refl
settles Cc end.Active (Some Undo) = refl
settles Pc (end.Ended Canceled) None = refl
settles Pc (end.Ended Canceled) (Some Close) = refl
settles Pc (end.Ended Canceled) (Some Undo) = refl
settles Cc (end.Ended Canceled) None = refl
settles Cc (end.Ended Canceled) (Some Close) = refl
settles Cc (end.Ended Canceled) (Some Undo) = refl
settles Pc s None = refl
settles Pc s (Some Close) = refl
settles Pc s (Some Undo) = refl
settles Cc s None = refl
settles Cc s (Some Close) = refl
settles Cc s (Some Undo) = refl

-- the outcome that an end's state keeps after a row is the one before it, or what the row records
row_keeps : (n : Notice) (p : Protocol) (s : CState) (v : Option Verdict) → RowKeeps p s v n
row_keeps notice.Completed p s v = settles p s v
row_keeps notice.Closed p end.Active v = refl
row_keeps notice.Closed p (end.Ended Canceled) v = refl
row_keeps notice.Closed p s v = refl
row_keeps notice.Canceled p end.Active v = refl
row_keeps notice.Canceled p (end.Ended Canceled) v = refl
row_keeps notice.Canceled p s v = refl
row_keeps notice.Compensated p end.Active v = refl
row_keeps notice.Compensated p (end.Ended Canceled) v = refl
row_keeps notice.Compensated p s v = refl
row_keeps notice.Fail p end.Active v = refl
row_keeps notice.Fail p (end.Ended Canceled) v = refl
row_keeps notice.Fail p s v = refl
row_keeps notice.Exit p end.Active v = refl
row_keeps notice.Exit p (end.Ended Canceled) v = refl
row_keeps notice.Exit p s v = refl
row_keeps notice.CannotComplete p end.Active v = refl
row_keeps notice.CannotComplete p (end.Ended Canceled) v = refl
row_keeps notice.CannotComplete p s v = refl
row_keeps n p s v = sym (append-nil (option_to_list (outcome_kept s)))

-- what of a notice tells an outcome
abbrev outcome_only : Option Notice → Option Notice
outcome_only None = None
outcome_only (Some n) = if is_outcome n then Some n else None

only_outcome : (said : Option Notice) (n : Notice) → IsTrue (is_outcome n) → said ≡ Some n → outcome_only said ≡ Some n
only_outcome said n outcome says = ap outcome_only says ∙ ap (λ b. if b then Some n else None) outcome

only_if_said : (n m : Notice) (outcome : Bool) → (if outcome then Some n else None) ≡ Some m → Some n ≡ Some m
only_if_said n m true h = h
only_if_said n m false h = absurd cc

was_said : (said : Option Notice) (m : Notice) → outcome_only said ≡ Some m → said ≡ Some m
was_said None m h = h
was_said (Some n) m h = only_if_said n m (is_outcome n) h

-- the participant's state after a row
abbrev after_part_row : PState → PRow → PState
after_part_row s prow.Invalid = s
after_part_row s (prow.Row next prompt) = next

abbrev RowSays : Protocol → PState → Notice → Type 0
RowSays p s n =
    let after = outcome_only (part_says (after_part_row s (part_row p s n))) in (after ≡ None) ⊎ (after ≡ outcome_only (part_says s))

-- a row leaves the outcome that the participant says, or takes it back
row_says : (n : Notice) (p : Protocol) (s : PState) → RowSays p s n
row_says notice.Complete Pc part.Active = inr refl
row_says notice.Complete Pc (part.Ended Canceled) = inr refl
row_says notice.Complete Pc s = inr refl
row_says notice.Complete Cc part.Active = inr refl
row_says notice.Complete Cc (part.Ended Canceled) = inr refl
row_says notice.Complete Cc s = inr refl
row_says notice.Close Pc part.Active = inr refl
row_says notice.Close Pc (part.Ended Canceled) = inr refl
row_says notice.Close Pc s = inr refl
row_says notice.Close Cc part.Active = inr refl
row_says notice.Close Cc (part.Ended Canceled) = inr refl
row_says notice.Close Cc s = inr refl
row_says notice.Cancel Pc part.Active = inr refl
row_says notice.Cancel Pc (part.Ended Canceled) = inr refl
row_says notice.Cancel Pc s = inr refl
row_says notice.Cancel Cc part.Active = inr refl
row_says notice.Cancel Cc (part.Ended Canceled) = inr refl
row_says notice.Cancel Cc s = inr refl
row_says notice.Compensate Pc part.Active = inr refl
row_says notice.Compensate Pc (part.Ended Canceled) = inr refl
row_says notice.Compensate Pc s = inr refl
row_says notice.Compensate Cc part.Active = inr refl
row_says notice.Compensate Cc (part.Ended Canceled) = inr refl
row_says notice.Compensate Cc s = inr refl
row_says notice.Failed Pc part.FailingActive = inl refl
row_says notice.Failed Pc part.FailingCompleting = inl refl
row_says notice.Failed Pc part.FailingCanceling = inl refl
row_says notice.Failed Pc part.FailingCompensating = inl refl
row_says notice.Failed Pc (part.Ended Canceled) = inr refl
row_says notice.Failed Pc s = inr refl
row_says notice.Failed Cc part.FailingActive = inl refl
row_says notice.Failed Cc part.FailingCompleting = inl refl
row_says notice.Failed Cc part.FailingCanceling = inl refl
row_says notice.Failed Cc part.FailingCompensating = inl refl
row_says notice.Failed Cc (part.Ended Canceled) = inr refl
row_says notice.Failed Cc s = inr refl
row_says notice.Exited Pc part.Exiting = inl refl
row_says notice.Exited Pc (part.Ended Canceled) = inr refl
row_says notice.Exited Pc s = inr refl
row_says notice.Exited Cc part.Exiting = inl refl
row_says notice.Exited Cc (part.Ended Canceled) = inr refl
row_says notice.Exited Cc s = inr refl
row_says notice.NotCompleted Pc part.NotCompleting = inl refl
row_says notice.NotCompleted Pc (part.Ended Canceled) = inr refl
row_says notice.NotCompleted Pc s = inr refl
row_says notice.NotCompleted Cc part.NotCompleting = inl refl
row_says notice.NotCompleted Cc (part.Ended Canceled) = inr refl
row_says notice.NotCompleted Cc s = inr refl
row_says n Pc s = inr refl
row_says n Cc s = inr refl

-- what a tick of the end sends tells no outcome
end_tells_none : (s : CState) (n : Notice) → (end_tick s).1 ≡ Some n → is_outcome n ≡ false
end_tells_none end.Completing n h = subst (λ m. is_outcome m ≡ false) (some_is h) refl
end_tells_none end.Canceling n h = subst (λ m. is_outcome m ≡ false) (some_is h) refl
end_tells_none end.CancelingActive n h = subst (λ m. is_outcome m ≡ false) (some_is h) refl
end_tells_none end.CancelingCompleting n h = subst (λ m. is_outcome m ≡ false) (some_is h) refl
end_tells_none end.Closing n h = subst (λ m. is_outcome m ≡ false) (some_is h) refl
end_tells_none end.Compensating n h = subst (λ m. is_outcome m ≡ false) (some_is h) refl
end_tells_none end.FailingActive n h = subst (λ m. is_outcome m ≡ false) (some_is h) refl
end_tells_none end.FailingCanceling n h = subst (λ m. is_outcome m ≡ false) (some_is h) refl
end_tells_none end.FailingCompleting n h = subst (λ m. is_outcome m ≡ false) (some_is h) refl
end_tells_none end.FailingCompensating n h = subst (λ m. is_outcome m ≡ false) (some_is h) refl
end_tells_none end.NotCompleting n h = subst (λ m. is_outcome m ≡ false) (some_is h) refl
end_tells_none end.Exiting n h = subst (λ m. is_outcome m ≡ false) (some_is h) refl
end_tells_none (end.Ended Failed) n h = subst (λ m. is_outcome m ≡ false) (some_is h) refl
end_tells_none (end.Ended Exited) n h = subst (λ m. is_outcome m ≡ false) (some_is h) refl
end_tells_none (end.Ended NotCompleted) n h = subst (λ m. is_outcome m ≡ false) (some_is h) refl
end_tells_none s n h = absurd cc

-- a notice for the participant is none
for_part_none : (n : Notice) → is_for_part n ≡ true → is_outcome n ≡ false
for_part_none notice.Fail h = absurd cc
for_part_none notice.Exit h = absurd cc
for_part_none notice.CannotComplete h = absurd cc
for_part_none n h = refl

get_more : (past : List Played) (m : Played) (place : ℕ) (x : Played) → slice_get past place ≡ Some x
    → slice_get (past ++ m ∷ []) place ≡ Some x
get_more [] m place x h = absurd cc
get_more (y ∷ past) m zero x h = h
get_more (y ∷ past) m (suc place) x h = get_more past m place x h

get_last : (past : List Played) (m : Played) → slice_get (past ++ m ∷ []) (length past) ≡ Some m
get_last [] m = refl
get_last (y ∷ past) m = get_last past m

-- what is in the bag after something was sent was there before, or is what was sent
get_joined : (bag : List Notice) (said : Option Notice) (place : ℕ) (n : Notice) → slice_get (bag ++ option_to_list said) place ≡ Some n
    → (slice_get bag place ≡ Some n) ⊎ ((place ≡ length bag) × (said ≡ Some n))
get_joined [] None place n h = absurd cc
get_joined [] (Some m) zero n h = inr (refl, h)
get_joined [] (Some m) (suc place) n h = absurd cc
get_joined (x ∷ bag) said zero n h = inl h
get_joined (x ∷ bag) said (suc place) n h = elim (get_joined bag said place n h) [
  | inl before ↦ inl before
  | inr now ↦ inr (ap suc now.0, now.1)
]

recorded_more : (past : List Played) (m : Played) → recorded_notices (past ++ m ∷ []) ≡ recorded_notices past ++ recorded_by m
recorded_more [] m = append-nil (recorded_by m)
recorded_more (y ∷ past) m =
    ap (λ t. recorded_by y ++ t) (recorded_more past m) ∙ sym (append_assoc (recorded_by y) (recorded_notices past) (recorded_by m))

module _ (past : List Played) (w : PairState) (e : PairEvent) (so : OutcomesRecorded past w) where
  abbrev longer : List Played
  longer = past ++ (w, e) ∷ []

  abbrev AllSaid : List Notice → Type 0
  AllSaid bag = (place : ℕ) (n : Notice) → slice_get bag place ≡ Some n → IsTrue (is_outcome n) → IsSaid longer place n

  abbrev HasActed : Notice → Type 0
  HasActed n = (place : ℕ) × WasPlayed longer place (ActsFor n)

  -- what was said and acted before this event
  at_before : (place : ℕ) (Is : Played → Type 0) → WasPlayed past place Is → WasPlayed longer place Is
  at_before place Is at = (at.0, get_more past (w, e) place at.0 at.1, at.2)

  all_said_on : AllSaid w.bag
  all_said_on place n there outcome =
      let said = so.said place n there outcome in
      record {
        acted_at = said.acted_at;
        sent_at = said.sent_at;
        ordered = said.ordered;
        acts = at_before said.acted_at (ActsFor n) said.acts;
        sends = at_before said.sent_at (Sends place n) said.sends;
      }

  acted_on : (n : Notice) → IsTrue (is_outcome n) → part_says w.part ≡ Some n → HasActed n
  acted_on n outcome says = let before = so.acted n outcome says in (before.0, at_before before.0 (ActsFor n) before.1)

  -- the pair after the event, by what it does to the end, the participant and the bag
  goes_on : (next : PairState) → option_to_list (outcome_kept next.end) ≡ option_to_list (outcome_kept w.end) ++ recorded_by (w, e)
      → ((n : Notice) → IsTrue (is_outcome n) → part_says next.part ≡ Some n → HasActed n) → AllSaid next.bag
      → OutcomesRecorded longer next
  goes_on next once acted said = record {
    once = recorded_more past (w, e) ∙ ap (λ t. t ++ recorded_by (w, e)) so.once ∙ sym once;
    acted = acted;
    said = said;
  }

  -- nothing is recorded
  unrecorded : recorded_by (w, e) ≡ [] → (s : CState) → outcome_kept s ≡ outcome_kept w.end
      → option_to_list (outcome_kept s) ≡ option_to_list (outcome_kept w.end) ++ recorded_by (w, e)
  unrecorded none s same =
      ap option_to_list same ∙ sym (append-nil (option_to_list (outcome_kept w.end)))
      ∙ ap (λ t. option_to_list (outcome_kept w.end) ++ t) (sym none)

  -- only the end moves, and keeps its outcome
  end_alone : recorded_by (w, e) ≡ [] → (next : PairState) → outcome_kept next.end ≡ outcome_kept w.end → next.part ≡ w.part
      → next.bag ≡ w.bag
      → OutcomesRecorded longer next
  end_alone none next same part_same bag_same =
      goes_on next (unrecorded none next.end same) (λ n outcome says. acted_on n outcome (ap part_says (sym part_same) ∙ says))
      (subst AllSaid (sym bag_same) all_said_on)

-- each kind of event
acted_kept : (past : List Played) (w : PairState) (a : Act) → OutcomesRecorded past w → (answer : Option PState)
    → acted_state w.protocol w.part a ≡ answer
    → OutcomesRecorded (past ++ (w, event.Act a) ∷ []) (acted_effect w answer).0
acted_kept past w a so None h = end_alone past w (event.Act a) so refl w refl refl refl
acted_kept past w a so (Some next) h =
    goes_on past w (event.Act a) so (record w { part = next }) (unrecorded past w (event.Act a) so refl w.end refl)
    (λ n outcome says. (length past, ((w, event.Act a), get_last past (w, event.Act a), (a, next, refl, h, says))))
    (all_said_on past w (event.Act a) so)

end_ticked_kept : (past : List Played) (w : PairState) → OutcomesRecorded past w
    → OutcomesRecorded (past ++ (w, event.Tick Coordinator) ∷ []) (end_ticked_effect w (end_tick w.end)).0
end_ticked_kept past w so =
    let e = event.Tick Coordinator in
    goes_on past w e so (end_ticked_effect w (end_tick w.end)).0 (unrecorded past w e so refl (end_tick w.end).0 (ticked_keeps w.end))
    (acted_on past w e so)
    (λ place n there outcome. elim (get_joined w.bag (end_tick w.end).1 place n there) [
      | inl before ↦ all_said_on past w e so place n before outcome
      | inr now ↦ let none = end_tells_none w.end n now.1 in absurd cc
    ])

-- what the participant says is said after the act
says_after : (past : List Played) (w : PairState) → OutcomesRecorded past w → (n : Notice) → part_says w.part ≡ Some n
    → IsTrue (is_outcome n)
    → IsSaid (past ++ (w, event.Tick Participant) ∷ []) (length w.bag) n
says_after past w so n says outcome =
    let m : Played = (w, event.Tick Participant) in
    let before = so.acted n outcome says in
    record {
      acted_at = before.0;
      sent_at = length past;
      ordered = slice_get_within past before.0 before.1.0 before.1.1;
      acts = at_before past w (event.Tick Participant) so before.0 (ActsFor n) before.1;
      sends = (m, get_last past m, (refl, says, refl));
    }

part_ticked_kept : (past : List Played) (w : PairState) → OutcomesRecorded past w
    → OutcomesRecorded (past ++ (w, event.Tick Participant) ∷ []) (part_ticked_effect w (part_says w.part)).0
part_ticked_kept past w so =
    let e = event.Tick Participant in
    goes_on past w e so (part_ticked_effect w (part_says w.part)).0 (unrecorded past w e so refl w.end refl) (acted_on past w e so)
    (λ place n there outcome. elim (get_joined w.bag (part_says w.part) place n there) [
      | inl before ↦ all_said_on past w e so place n before outcome
      | inr now ↦ subst (λ k. IsSaid (past ++ (w, e) ∷ []) k n) (sym now.0) (says_after past w so n now.1 outcome)
    ])

chosen_kept : (past : List Played) (w : PairState) (v : Verdict) → OutcomesRecorded past w
    → (before : Option Verdict) (next : Option CState)
    → chosen_state w.protocol w.end v ≡ next → OutcomesRecorded (past ++ (w, event.Choose v) ∷ []) (chosen_effect w v before next).0
chosen_kept past w v so (Some before) next h = end_alone past w (event.Choose v) so refl w refl refl refl
chosen_kept past w v so None None h = end_alone past w (event.Choose v) so refl w refl refl refl
chosen_kept past w v so None (Some next) h =
    end_alone past w (event.Choose v) so refl (record w { end = next; verdict = Some v })
    (ap (λ o. outcome_kept (unwrap_or o w.end)) (sym h) ∙ chosen_keeps w.protocol w.end v) refl refl

completed_kept : (past : List Played) (w : PairState) → OutcomesRecorded past w → (before : Option Verdict) (next : Option CState)
    → completed_state w.protocol w.end ≡ next → OutcomesRecorded (past ++ (w, event.Complete) ∷ []) (completed_effect w before next).0
completed_kept past w so (Some before) next h = end_alone past w event.Complete so refl w refl refl refl
completed_kept past w so None None h = end_alone past w event.Complete so refl w refl refl refl
completed_kept past w so None (Some next) h =
    end_alone past w event.Complete so refl (record w { end = next })
    (ap (λ o. outcome_kept (unwrap_or o w.end)) (sym h) ∙ completed_keeps w.protocol w.end) refl refl

-- what a row leads the participant to say it said before
said_before : (after before : PState) (n : Notice) → IsTrue (is_outcome n) → part_says after ≡ Some n
    → (outcome_only (part_says after) ≡ None) ⊎ (outcome_only (part_says after) ≡ outcome_only (part_says before))
    → part_says before ≡ Some n
said_before after before n outcome says (inl none) = let told = only_outcome (part_says after) n outcome says in absurd (cc)
said_before after before n outcome says (inr same) =
    was_said (part_says before) n (sym same ∙ only_outcome (part_says after) n outcome says)

module _ (past : List Played) (w : PairState) (number : ℕ) (n : Notice) (so : OutcomesRecorded past w)
    (there : message_at w.bag number ≡ Some n) where
  records : recorded_by (w, event.Deliver number) ≡ option_to_list (recorded_at w.protocol w.end n)
  records = ap (recorded_of w) there

  part_records_none : is_for_part n ≡ true → recorded_by (w, event.Deliver number) ≡ []
  part_records_none for_part =
      records ∙ ap (λ b. option_to_list
      (if b then (if cell_leads_on w.protocol (end_column n (end_rows w.end)) then Some n else None) else None)) (for_part_none n for_part)

  part_received_kept : is_for_part n ≡ true → (row : PRow) → part_row w.protocol w.part n ≡ row
      → OutcomesRecorded (past ++ (w, event.Deliver number) ∷ []) (part_received_effect w row).0
  part_received_kept for_part prow.Invalid h = end_alone past w (event.Deliver number) so (part_records_none for_part) w refl refl refl
  part_received_kept for_part (prow.Row next prompt) h =
      let e = event.Deliver number in
      goes_on past w e so (record w { part = next }) (unrecorded past w e so (part_records_none for_part) w.end refl)
      (λ m outcome says. acted_on past w e so m outcome
      (said_before next w.part m outcome says (subst (λ row. let after = outcome_only (part_says (after_part_row w.part row)) in
      (after ≡ None) ⊎ (after ≡ outcome_only (part_says w.part))) h (row_says n w.protocol w.part))))
      (all_said_on past w e so)

  -- the end moves by its row, and keeps the outcome that it records
  end_moves : (row : CRow) → end_row w.protocol w.end n ≡ row → (next : PairState) → next.end ≡ after_row w.protocol w.end w.verdict row
      → next.part ≡ w.part
      → next.bag ≡ w.bag → OutcomesRecorded (past ++ (w, event.Deliver number) ∷ []) next
  end_moves row h next end_is part_same bag_same =
      let e = event.Deliver number in
      let kept : option_to_list (outcome_kept next.end) ≡ option_to_list (outcome_kept w.end) ++ option_to_list
      (recorded_at w.protocol w.end n) =
      ap (λ s. option_to_list (outcome_kept s)) (end_is ∙ ap (after_row w.protocol w.end w.verdict) (sym h))
      ∙ row_keeps n w.protocol w.end w.verdict in
      goes_on past w e so next (kept ∙ ap (λ t. option_to_list (outcome_kept w.end) ++ t) (sym records))
      (λ m outcome says. acted_on past w e so m outcome (ap part_says (sym part_same) ∙ says))
      (subst (AllSaid past w e so) (sym bag_same) (all_said_on past w e so))

  end_received_kept : (row : CRow) → end_row w.protocol w.end n ≡ row
      → OutcomesRecorded (past ++ (w, event.Deliver number) ∷ []) (end_received_effect w row).0
  end_received_kept crow.Invalid h = end_moves crow.Invalid h w refl refl refl
  end_received_kept (crow.Row next prompt) h =
      end_moves (crow.Row next prompt) h (record w { end = settled_state w.protocol next w.verdict }) refl refl refl

  received_kept : (for_part : Bool) → is_for_part n ≡ for_part
      → OutcomesRecorded (past ++ (w, event.Deliver number) ∷ [])
      (if for_part then part_received_effect w (part_row w.protocol w.part n) else end_received_effect w (end_row w.protocol w.end n)).0
  received_kept true g = part_received_kept g (part_row w.protocol w.part n) refl
  received_kept false g = end_received_kept (end_row w.protocol w.end n) refl

delivered_kept : (past : List Played) (w : PairState) (number : ℕ) → OutcomesRecorded past w → (found : Option Notice)
    → message_at w.bag number ≡ found
    → (o : Effect) → delivered_effect w found ≡ Some o → OutcomesRecorded (past ++ (w, event.Deliver number) ∷ []) o.0
delivered_kept past w number so None g o h = absurd cc
delivered_kept past w number so (Some n) g o h =
    subst (λ o. OutcomesRecorded (past ++ (w, event.Deliver number) ∷ []) o.0) (some_is h)
    (received_kept past w number n so g (is_for_part n) refl)

-- outcomes are recorded once after an event, if they were before it
pub outcomes_kept : (past : List Played) (w : PairState) (e : PairEvent) (o : Effect) → OutcomesRecorded past w → happens w e ≡ Some o
    → OutcomesRecorded (past ++ (w, e) ∷ []) o.0
outcomes_kept past w (event.Act a) o so h =
    subst (λ o. OutcomesRecorded (past ++ (w, event.Act a) ∷ []) o.0) (some_is h)
    (acted_kept past w a so (acted_state w.protocol w.part a) refl)
outcomes_kept past w (event.Tick Coordinator) o so h =
    subst (λ o. OutcomesRecorded (past ++ (w, event.Tick Coordinator) ∷ []) o.0) (some_is h) (end_ticked_kept past w so)
outcomes_kept past w (event.Tick Participant) o so h =
    subst (λ o. OutcomesRecorded (past ++ (w, event.Tick Participant) ∷ []) o.0) (some_is h) (part_ticked_kept past w so)
outcomes_kept past w (event.Choose v) o so h =
    subst (λ o. OutcomesRecorded (past ++ (w, event.Choose v) ∷ []) o.0) (some_is h)
    (chosen_kept past w v so w.verdict (chosen_state w.protocol w.end v) refl)
outcomes_kept past w event.Complete o so h =
    subst (λ o. OutcomesRecorded (past ++ (w, event.Complete) ∷ []) o.0) (some_is h)
    (completed_kept past w so w.verdict (completed_state w.protocol w.end) refl)
outcomes_kept past w (event.Deliver number) o so h = delivered_kept past w number so (message_at w.bag number) refl o h

-- a pair at its start recorded nothing
pub start_recorded : (p : Protocol) → OutcomesRecorded [] (starting_pair p)
start_recorded p = record { once = refl; acted = λ n outcome says. absurd cc; said = λ place n there outcome. absurd cc }

-- what a call of a step answers keeps it
pub step_recorded : (w : PairState) (e : PairEvent) (next : PairState) (result : Result Line StepFault)
    → IfOk result (λ line. happens w e ≡ Some (next, line)) → (past : List Played) → OutcomesRecorded past w
    → OnOk result (OutcomesRecorded (past ++ (w, e) ∷ []) next)
step_recorded w e next (Ok line) answers past so = outcomes_kept past w e (next, line) so answers
step_recorded w e next (Err fault) answers past so = tt

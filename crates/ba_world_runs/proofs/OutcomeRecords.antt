-- In each run an outcome is in the records of a node exactly where a step recorded it; for the law that outcomes are recorded.
use Rattle.std.proofs.Common.{◌≡◌, ◌⊎◌, inl, inr, ◌↔◌, ℕ, Bool, true, false, not, List, [], ◌∷◌, Option, None, Some, option_to_list, refl}
use Rattle.std.proofs.Common.{sym, ap, ◌∙◌, subst, true≢false, arith, if◌then◌else◌}
use Rattle.std.specs.List.{list_all}
use Rattle.ba_core.specs.EndRows.{end_column, end_row, end_rows}
use Rattle.ba_core.specs.Numbers.{counter_of, id_of}
use Rattle.ba_core.specs.PartRows.{part_row}
use Rattle.ba_core.specs.declared.codes.Code.TheVariants as code
use Rattle.ba_core.specs.declared.identifiers.Id.{Id}
use Rattle.ba_core.specs.declared.notices.Notice.{Notice}
use Rattle.ba_core.specs.declared.notices.Notice.TheVariants as notice
use Rattle.ba_core.specs.declared.protocols.Protocol.{Protocol}
use Rattle.ba_core.specs.declared.protocols.Protocol.TheVariants.{Pc, Cc}
use Rattle.ba_core.specs.declared.protocols.Side.TheVariants.{Coordinator, Participant}
use Rattle.ba_core.specs.declared.protocols.Verdict.{Verdict}
use Rattle.ba_core.specs.declared.rows.CRow.{CRow}
use Rattle.ba_core.specs.declared.rows.CRow.TheVariants as crow
use Rattle.ba_core.specs.declared.rows.PRow.TheVariants as prow
use Rattle.ba_core.specs.declared.states.CState.{CState}
use Rattle.ba_core.specs.declared.states.PState.{PState}
use Rattle.ba_link.specs.Link.{settled_state}
use Rattle.ba_link.specs.Outcomes.{cell_leads_on, is_outcome, recorded_at}
use Rattle.ba_link.proofs.Everywhere.{ends, only_if, protocol_passes, protocols, state_passes, verdict_passes, verdicts, where_asked}
use Rattle.ba_message.specs.declared.messages.Message.{Message}
use Rattle.ba_message.specs.declared.messages.Message.TheVariants as message
use Rattle.ba_record.specs.declared.records.Record.{Record}
use Rattle.ba_record.specs.declared.records.Record.TheVariants as journal
use Rattle.ba_scope_ends.specs.Ends.{end_after_notice, end_after_row}
use Rattle.ba_scope.specs.Rules.{with_end_changed}
use Rattle.ba_scope.specs.Scope.{ScopeState}
use Rattle.ba_scope_ends.specs.declared.ends.End.{End}
use Rattle.ba_node_steps.specs.declared.answers.Reply.TheVariants as reply
use Rattle.ba_node_steps.specs.declared.answers.Wake.{Wake}
use Rattle.ba_node_steps.specs.declared.inputs.Input.{Input}
use Rattle.ba_node_steps.specs.declared.inputs.Input.TheVariants as input
use Rattle.ba_node_steps.specs.Fits.{IsIdAt}
use Rattle.ba_node_steps.specs.Node.{Among, EndPlace, NodeState, counter, end_place, with_scope}
use Rattle.ba_node_steps.specs.Steps.{again_step, fault_step, if_found, node_step, NodeStep, on_end_row, same_end_state, wake_of_end}
use Rattle.ba_node_steps.specs.Steps.{written_step}
use Rattle.ba_node_steps.specs.Ticks.{TickStep, tick_step}
use Rattle.ba_node_steps.proofs.Cases.{act_cases, ask_cases, create_cases, end_notice_cases, enrolled_cases, join_cases, on_choose_cases}
use Rattle.ba_node_steps.proofs.Cases.{on_complete_cases, on_decide_cases, on_finish_cases, on_leave_cases, part_notice_cases, refused_cases}
use Rattle.ba_node_steps.proofs.Cases.{register_cases, tick_cases}
use Rattle.ba_node_steps.proofs.Members.{among_left, among_right, id_by_number}
use Rattle.ba_node_steps.proofs.Places.{end_found}
use Rattle.ba_world_runs.specs.Records.{RecordsOutcome, WasRecorded, by_earlier_step, by_last_step}
use Rattle.ba_world_runs.specs.Runs.{IsFirstWorld, IsRun, goes_on, starts}
use Rattle.ba_world_runs.specs.Safety.{IsAddressed}
use Rattle.ba_world_runs.specs.World.{formats, Mode, Occasion, World, WorldNode, answer, delivers, letter, net_of, own, ticks}
use Rattle.ba_world_runs.specs.WorldSteps.{BringsInput, IsPossible, Stays, Takes, WorldStep, crashes, effect, fails, fails_to_open, happens}
use Rattle.ba_world_runs.specs.WorldSteps.{nothing, opens_with, opens_without, waits}
use Rattle.ba_world_runs.proofs.AddressedRuns.{run_addressed}
use Rattle.ba_world_runs.proofs.Goes.{from_append}
use Rattle.ba_world_runs.proofs.Owners.{end_id}
use Rattle.ba_world_runs.proofs.Recorded.{at_or_other}
use Rattle.ba_world_runs.proofs.Tests.{if_false, if_true}

-- ---- what is computed: an end's row for an outcome leads to another state exactly where the table has another state

abbrev other_after : Protocol → CState → Option Verdict → CState → Bool
other_after protocol s v next = not (same_end_state s (settled_state protocol next v))

abbrev pub leads_on : Notice → Protocol → CState → Bool
leads_on m protocol s = cell_leads_on protocol (end_column m (end_rows s))

-- where the row leads to another state, the cell does
abbrev row_leads_on : Notice → Protocol → CState → Option Verdict → CRow → Bool
row_leads_on m protocol s v crow.Invalid = true
row_leads_on m protocol s v (crow.Row next prompt) = only_if (other_after protocol s v next) (leads_on m protocol) s

abbrev rows_lead_on : Notice → Protocol → CState → Option Verdict → Bool
rows_lead_on m protocol s v = row_leads_on m protocol s v (end_row protocol s m)

-- where the cell leads to another state, the row does
abbrev row_is_other : Protocol → CState → Option Verdict → CRow → Bool
row_is_other protocol s v crow.Invalid = false
row_is_other protocol s v (crow.Row next prompt) = other_after protocol s v next

abbrev rows_are_other : Notice → Protocol → CState → Option Verdict → Bool
rows_are_other m protocol s v = only_if (leads_on m protocol s) (λ from. row_is_other protocol from v (end_row protocol from m)) s

abbrev pub at_each_end : (Protocol → CState → Option Verdict → Bool) → Bool
at_each_end test = list_all (λ protocol. list_all (λ s. list_all (test protocol s) verdicts) ends) protocols

pub at_this_end : (test : Protocol → CState → Option Verdict → Bool) → at_each_end test ≡ true → (protocol : Protocol) (s : CState)
    (v : Option Verdict) → test protocol s v ≡ true
at_this_end test h protocol s v =
    verdict_passes (test protocol s) (state_passes (λ c. list_all (test protocol c) verdicts)
    (protocol_passes (λ p. list_all (λ c. list_all (test p c) verdicts) ends) h protocol) s) v

each_leads_on : (m : Notice) → is_outcome m ≡ true → at_each_end (rows_lead_on m) ≡ true
each_leads_on notice.Fail h = refl
each_leads_on notice.Exit h = refl
each_leads_on notice.CannotComplete h = refl
each_leads_on m h = absurd (true≢false (sym h))

each_is_other : (m : Notice) → is_outcome m ≡ true → at_each_end (rows_are_other m) ≡ true
each_is_other notice.Fail h = refl
each_is_other notice.Exit h = refl
each_is_other notice.CannotComplete h = refl
each_is_other m h = absurd (true≢false (sym h))

not_is : (b : Bool) → b ≡ false → not b ≡ true
not_is b h = ap not h

is_not : (b : Bool) → not b ≡ true → b ≡ false
is_not true h = absurd (true≢false (sym h))
is_not false h = refl

recorded_here : (e : End) (m : Notice) (next : CState) (prompt : Bool) → is_outcome m ≡ true
    → end_row e.protocol e.state m ≡ crow.Row next prompt
    → same_end_state e.state (end_after_row (crow.Row next prompt) e).state ≡ false → recorded_at e.protocol e.state m ≡ Some m
recorded_here e m next prompt outcome row other =
    let table = at_this_end (rows_lead_on m) (each_leads_on m outcome) e.protocol e.state e.verdict in
    let here : row_leads_on m e.protocol e.state e.verdict (crow.Row next prompt) ≡ true =
    subst (λ (x : CRow). row_leads_on m e.protocol e.state e.verdict x ≡ true) row table in
    let leads = where_asked (other_after e.protocol e.state e.verdict next) (leads_on m e.protocol) e.state here (not_is _ other) in
    if_true (is_outcome m) (if leads_on m e.protocol e.state then Some m else None) None outcome
    ∙ if_true (leads_on m e.protocol e.state) (Some m) None leads

-- a participant has no row for an outcome
no_part_row : (m : Notice) → is_outcome m ≡ true → (protocol : Protocol) (s : PState) → part_row protocol s m ≡ prow.Invalid
no_part_row notice.Fail h Pc s = refl
no_part_row notice.Fail h Cc s = refl
no_part_row notice.Exit h Pc s = refl
no_part_row notice.Exit h Cc s = refl
no_part_row notice.CannotComplete h Pc s = refl
no_part_row notice.CannotComplete h Cc s = refl
no_part_row m h protocol s = absurd (true≢false (sym h))

-- ---- which step keeps the record of an outcome

received_same : (a b : ℕ) (x y : Notice) → ◌≡◌ {A = Option Record} (Some (journal.Received a x)) (Some (journal.Received b y))
    → (a ≡ b) × (x ≡ y)
received_same a b x y h =
    let one : ◌≡◌ {A = Record} (journal.Received a x) (journal.Received b y) = cc in
    let counters : a ≡ b = cc in
    let notices : x ≡ y = cc in
    (counters, notices)

-- the input brings the outcome to an end whose row leads on
record RecordOf (n : NodeState) (i : Input) (c : ℕ) (m : Notice) : Type 0 where
  id : Id
  is : i ≡ input.Notice Coordinator id m
  place : EndPlace
  found : end_place n id ≡ Some place
  its : counter id ≡ c
  leads : recorded_at place.end.protocol place.end.state m ≡ Some m

abbrev Tells : NodeState → ℕ → Notice → Input → NodeStep → Type 0
Tells n c m i step = step.written ≡ Some (journal.Received c m) → RecordOf n i c m

module _ (n : NodeState) (c : ℕ) (m : Notice) (outcome : is_outcome m ≡ true) where
  no_get_status : {A : Type 0} (counter : ℕ) → ◌≡◌ {A = Option Record} (Some (journal.Received counter notice.GetStatus))
      (Some (journal.Received c m)) → A
  no_get_status counter h =
      let same = received_same counter c notice.GetStatus m h in absurd (true≢false (sym outcome ∙ ap is_outcome (sym same.1)))

  no_row_below : {A : Type 0} (x : Notice) (protocol : Protocol) (s next : PState) (prompt : Bool) → x ≡ m
      → part_row protocol s x ≡ prow.Row next prompt → A
  no_row_below x protocol s next prompt same row =
      let none : part_row protocol s x ≡ prow.Invalid = no_part_row x (ap is_outcome same ∙ outcome) protocol s in absurd cc

  tells : (now : ℕ) (i : Input) → Tells n c m i (node_step n now i)
  tells now (input.Create expires current kind protocol) =
      create_cases (Tells n c m _) n now expires current kind protocol (λ r h. absurd cc) (λ k is root h. absurd cc)
      (λ k x is of alike dialable h. absurd cc)
  tells now (input.Register scope protocol participant) =
      register_cases (Tells n c m _) n scope protocol participant (λ r h. absurd cc) (λ s known registers h. absurd cc)
  tells now (input.Join protocol registration) =
      join_cases (Tells n c m _) n protocol registration (λ r h. absurd cc) (λ dialable h. absurd cc)
  tells now (input.Enrolled id coordinator) =
      enrolled_cases (Tells n c m _) n id coordinator (λ r h. absurd cc) (λ place p stands registering dialable h. absurd cc)
  tells now (input.RefusedBy id x) =
      refused_cases (Tells n c m _) n id x (λ r h. absurd cc) (λ place p number stands registering is h. absurd cc)
  tells now (input.Notice Coordinator id x) =
      end_notice_cases (Tells n c m _) n id x (λ r h. absurd cc) (λ shown prompt h. absurd cc)
      (λ at stands owes asks h. no_get_status (counter at.end.id) h)
      (λ at next prompt stands row other h.
      let same = received_same (counter at.end.id) c x m h in
      record {
        id = id;
        is = ap (λ (y : Notice). input.Notice Coordinator id y) same.1;
        place = at;
        found = stands.placed;
        its = ap counter (sym stands.is) ∙ same.0;
        leads = recorded_here at.end m next prompt outcome
            (subst (λ (y : Notice). end_row at.end.protocol at.end.state y ≡ crow.Row next prompt) same.1 row) other;
      })
  tells now (input.Notice Participant id x) =
      part_notice_cases (Tells n c m _) n id x (λ r h. absurd cc) (λ shown prompt h. absurd cc)
      (λ place p stands hears asks owes h. no_get_status (counter p.id) h)
      (λ p next prompt stands hears row other h.
      no_row_below x p.protocol p.state next prompt (received_same (counter p.id) c x m h).1 row)
      (λ s p next prompt stands hears row other h.
      no_row_below x p.protocol p.state next prompt (received_same (counter p.id) c x m h).1 row)
  tells now (input.Act id a) = act_cases (Tells n c m _) n id a (λ r h. absurd cc) (λ p next stands acts h. absurd cc)
  tells now (input.Ask id) =
      ask_cases (Tells n c m _) n id (λ r h. absurd cc) (λ at stands asks h. absurd cc) (λ place p none stands hears asks h. absurd cc)
  tells now (input.Decide id v) = on_decide_cases (Tells n c m _) n id v (λ r h. absurd cc) (λ s here ok h. absurd cc)
  tells now (input.Choose id v) = on_choose_cases (Tells n c m _) n id v (λ r h. absurd cc) (λ at stands ok h. absurd cc)
  tells now (input.Complete id) = on_complete_cases (Tells n c m _) n id (λ r h. absurd cc) (λ at stands ok h. absurd cc)
  tells now (input.Finish id) = on_finish_cases (Tells n c m _) n id (λ r h. absurd cc) (λ s up here is ok h. absurd cc)
  tells now (input.Leave id how) = on_leave_cases (Tells n c m _) n id how (λ r h. absurd cc) (λ s up here is ok h. absurd cc)

abbrev TellsNone : ℕ → Notice → TickStep → Type 0
TellsNone c m step = step.written ≡ Some (journal.Received c m) → ⊥

no_tick_tells : (n : NodeState) (now : ℕ) (id : Id) (c : ℕ) (m : Notice) → TellsNone c m (tick_step n now id)
no_tick_tells n now id c m =
    tick_cases (TellsNone c m) n now id (λ l h. cc) (λ s here expired h. cc) (λ at w no_scope stands talks h. cc)
    (λ p no_scope no_end stands hears talks h. cc) (λ s p w no_scope no_end stands hears moves h. cc)

-- ---- and that such a step keeps it

-- the end is changed by its row, and the record of that is written
abbrev received_step : NodeState → ScopeState → End → Notice → Wake → NodeStep
received_step n s e m w =
    written_step (with_scope n (with_end_changed e.id (end_after_notice m) s)) reply.Accepted (journal.Received (counter e.id) m) w

-- the step that it is, where each wake gives this
module _ {A : Type 0} (get : NodeStep → A) (r : A) where
  row_gives : (n : NodeState) (s : ScopeState) (e : End) (m : Notice) → is_outcome m ≡ true → leads_on m e.protocol e.state ≡ true
      → ((w : Wake) → get (received_step n s e m w) ≡ r) → get (on_end_row n s e m (end_row e.protocol e.state m)) ≡ r
  row_gives n s e m outcome leads gives = by_row (end_row e.protocol e.state m) other
    where
      other : row_is_other e.protocol e.state e.verdict (end_row e.protocol e.state m) ≡ true
      other = where_asked (leads_on m e.protocol e.state) (λ from. row_is_other e.protocol from e.verdict (end_row e.protocol from m))
          e.state (at_this_end (rows_are_other m) (each_is_other m outcome) e.protocol e.state e.verdict) leads

      by_row : (row : CRow) → row_is_other e.protocol e.state e.verdict row ≡ true → get (on_end_row n s e m row) ≡ r
      by_row crow.Invalid h = absurd (true≢false (sym h))
      by_row (crow.Row next prompt) h =
          ap get (if_false (same_end_state e.state (settled_state e.protocol next e.verdict)) (again_step n e.id prompt) _ (is_not _ h))
          ∙ gives (wake_of_end s e.id (settled_state e.protocol next e.verdict))

  found_gives : (place : EndPlace) (o : Option EndPlace) (otherwise : NodeStep) (f : EndPlace → NodeStep) → o ≡ Some place
      → get (f place) ≡ r → get (if_found o otherwise f) ≡ r
  found_gives place None otherwise f is h = absurd cc
  found_gives place (Some at) otherwise f is h = let one : at ≡ place = cc in ap (λ (x : EndPlace). get (f x)) one ∙ h

pub leads_of : (p : Protocol) (s : CState) (m : Notice) → is_outcome m ≡ true → recorded_at p s m ≡ Some m → leads_on m p s ≡ true
leads_of p s m outcome h = by_lead (leads_on m p s)
    (sym (if_true (is_outcome m) (if leads_on m p s then Some m else None) None outcome) ∙ h)
  where
    by_lead : (b : Bool) → (if b then Some m else None) ≡ Some m → b ≡ true
    by_lead true h = refl
    by_lead false h = absurd cc

abbrev at_place_step : NodeState → Notice → EndPlace → NodeStep
at_place_step n m at = on_end_row n at.scope at.end m (end_row at.end.protocol at.end.state m)

module _ {A : Type 0} (get : NodeStep → A) (r : A) where
  outcome_gives : (n : NodeState) (now : ℕ) (id : Id) (place : EndPlace) → end_place n id ≡ Some place → (m : Notice)
      → recorded_at place.end.protocol place.end.state m ≡ Some m
      → ((w : Wake) → get (received_step n place.scope place.end m w) ≡ r)
      → get (node_step n now (input.Notice Coordinator id m)) ≡ r
  outcome_gives n now id place found notice.Fail leads gives =
      found_gives get r place (end_place n id) (fault_step n code.DestinationUnreachable) (at_place_step n notice.Fail) found
      (row_gives get r n place.scope place.end notice.Fail refl (leads_of place.end.protocol place.end.state notice.Fail refl leads) gives)
  outcome_gives n now id place found notice.Exit leads gives =
      found_gives get r place (end_place n id) (fault_step n code.DestinationUnreachable) (at_place_step n notice.Exit) found
      (row_gives get r n place.scope place.end notice.Exit refl (leads_of place.end.protocol place.end.state notice.Exit refl leads) gives)
  outcome_gives n now id place found notice.CannotComplete leads gives =
      found_gives get r place (end_place n id) (fault_step n code.DestinationUnreachable) (at_place_step n notice.CannotComplete) found
      (row_gives get r n place.scope place.end notice.CannotComplete refl
      (leads_of place.end.protocol place.end.state notice.CannotComplete refl leads) gives)
  outcome_gives n now id place found m leads gives = absurd cc

module _ (n : NodeState) (now : ℕ) (id : Id) (place : EndPlace) (found : end_place n id ≡ Some place) (m : Notice)
    (leads : recorded_at place.end.protocol place.end.state m ≡ Some m) where
  outcome_writes : (node_step n now (input.Notice Coordinator id m)).written ≡ Some (journal.Received (counter id) m)
  outcome_writes =
      outcome_gives (λ step. step.written) (Some (journal.Received (counter id) m)) n now id place found m leads
      (λ w. ap (λ (i : Id). Some (journal.Received (counter i) m)) (end_found n id place found).is)

  pub outcome_after : (node_step n now (input.Notice Coordinator id m)).after
      ≡ with_scope n (with_end_changed place.end.id (end_after_notice m) place.scope)
  outcome_after =
      outcome_gives (λ step. step.after) (with_scope n (with_end_changed place.end.id (end_after_notice m) place.scope)) n now id place
      found m leads (λ w. refl)

-- ---- the records of a node grow by the records of its steps

abbrev RecordsGrow : World → World → ℕ → Type 0
RecordsGrow w w2 k =
    ((w2.nodes k).records ≡ (w.nodes k).records) ⊎ ((o : Occasion) × (joined : Bool) × Takes w w2 k o joined)

taken_grow : (w w2 : World) (j : ℕ) (o : Occasion) (joined : Bool) → Takes w w2 j o joined → (k : ℕ) → RecordsGrow w w2 k
taken_grow w w2 j o joined takes = at_or_other (RecordsGrow w w2) j (inr (o, joined, takes))
    (λ k other. inl (ap (λ (n : WorldNode). n.records) (takes.only.others k other)))

stayed_grow : (w w2 : World) (j : ℕ) (pending : Option Occasion) (mode : Mode) → Stays w w2 j pending mode → (k : ℕ) → RecordsGrow w w2 k
stayed_grow w w2 j pending mode stays = at_or_other (RecordsGrow w w2) j (inl (ap (λ (n : WorldNode). n.records) stays.node))
    (λ k other. inl (ap (λ (n : WorldNode). n.records) (stays.only.others k other)))

step_grow : (w w2 : World) → WorldStep w w2 → (k : ℕ) → RecordsGrow w w2 k
step_grow w w2 (happens j o up takes) = taken_grow w w2 j o _ takes
step_grow w w2 (fails j o mode up is_mode may stays) = stayed_grow w w2 j _ _ stays
step_grow w w2 (nothing same) = λ k. inl (ap (λ (x : World). (x.nodes k).records) same)
step_grow w w2 (crashes j stays) = stayed_grow w w2 j _ _ stays
step_grow w w2 (opens_without j stays) = stayed_grow w w2 j _ _ stays
step_grow w w2 (opens_with j o pending takes) = taken_grow w w2 j o _ takes
step_grow w w2 (fails_to_open j stays) = stayed_grow w w2 j _ _ stays
step_grow w w2 (waits ms same) = λ k. inl (ap (λ (x : World). (x.nodes k).records) same)

stays_recorded : (w w2 : World) → WorldStep w w2 → (k : ℕ) (r : Record) → Among (w.nodes k).records r → Among (w2.nodes k).records r
stays_recorded w w2 step k r among = elim (step_grow w w2 step k) [
  | inl same ↦ subst (λ (rs : List Record). Among rs r) (sym same) among
  | inr taken ↦ subst (λ (rs : List Record). Among rs r) (sym taken.2.records) (among_left (w.nodes k).records _ r among)
]

-- ---- runs

from_option : {A : Type 0} (o : Option A) (x : A) → Among (option_to_list o) x → o ≡ Some x
from_option None x h = absurd h
from_option (Some y) x (inl same) = ap Some same
from_option (Some y) x (inr h) = absurd h

-- the counter of an identifier at a node tells it
counter_is : (k : ℕ) (id : Id) (at : IsIdAt k id) → counter id ≡ at.counter
counter_is k id at = let small = at.is_counter.1 in ap counter_of at.spelled ∙ omega (arith, small)

same_counter : (k : ℕ) (a b : Id) → IsIdAt k a → IsIdAt k b → counter a ≡ counter b → a ≡ b
same_counter k a b is_a is_b same =
    let counters : is_a.counter ≡ is_b.counter = sym (counter_is k a is_a) ∙ same ∙ counter_is k b is_b in
    id_by_number a b (is_a.spelled ∙ ap (id_of k) counters ∙ sym is_b.spelled)

no_answer_leads : (n : NodeState) (number : Id) (x : Message) (id : Id) (m : Notice)
    → BringsInput n (answer number x) (input.Notice Coordinator id m) → ⊥
no_answer_leads n number (message.Registered c) id m h = h
no_answer_leads n number (message.Fault c) id m h = h
no_answer_leads n number x id m h = h

module _ (w w2 : World) (k : ℕ) (is : IsAddressed (net_of w)) (id : Id) (m : Notice) (own_id : IsIdAt k id)
    (outcome : is_outcome m ≡ true) where
  same_id_here : (x : Id) (place : EndPlace) → end_place (w.nodes k).state x ≡ Some place → counter x ≡ counter id → x ≡ id
  same_id_here x place found same =
      let stands = end_found (w.nodes k).state x place found in
      let here : IsIdAt k x =
      subst (IsIdAt k) stands.is (end_id (net_of w) is k place.scope place.end stands.scope stands.end) in
      same_counter k x id here own_id same

  by_occasion : (o : Occasion) (joined : Bool) → Takes w w2 k o joined
      → (effect (w.nodes k).state o).written ≡ Some (journal.Received (counter id) m) → RecordsOutcome w w2 k id m
  by_occasion (own moment i) joined takes h =
      let of = tells (w.nodes k).state (counter id) m outcome moment i h in
      absurd (subst (λ (x : Input). IsPossible (net_of w) k (own moment x)) of.is takes.moves.possible)
  by_occasion (delivers moment (answer number x) i) joined takes h =
      let of = tells (w.nodes k).state (counter id) m outcome moment i h in
      absurd (no_answer_leads (w.nodes k).state number x of.id m
      (subst (λ (y : Input). BringsInput (w.nodes k).state (answer number x) y) of.is takes.moves.possible.1))
  by_occasion (delivers moment (letter l) i) joined takes h =
      let of = tells (w.nodes k).state (counter id) m outcome moment i h in
      let same = same_id_here of.id of.place of.found of.its in
      record {
        moment = moment;
        sent = l;
        joined = joined;
        takes = subst (λ (x : Input). Takes w w2 k (delivers moment (letter l) x) joined)
            (of.is ∙ ap (λ (y : Id). input.Notice Coordinator y m) same) takes;
        place = of.place;
        found = subst (λ (y : Id). end_place (w.nodes k).state y ≡ Some of.place) same of.found;
        leads_on = of.leads;
      }
  by_occasion (ticks moment x) joined takes h = absurd (no_tick_tells (w.nodes k).state moment x (counter id) m h)
  by_occasion formats joined takes h = absurd cc

  come_recorded : WorldStep w w2 → Among (w2.nodes k).records (journal.Received (counter id) m)
      → Among (w.nodes k).records (journal.Received (counter id) m) ⊎ RecordsOutcome w w2 k id m
  come_recorded step among = elim (step_grow w w2 step k) [
    | inl same ↦ inl (subst (λ (rs : List Record). Among rs (journal.Received (counter id) m)) same among)
    | inr taken ↦ by_place taken.0 taken.1 taken.2 (from_append (w.nodes k).records _ (journal.Received (counter id) m)
        (subst (λ (rs : List Record). Among rs (journal.Received (counter id) m)) taken.2.records among))
  ]
    where
      by_place : (o : Occasion) (joined : Bool) → Takes w w2 k o joined
          → Among (w.nodes k).records (journal.Received (counter id) m)
          ⊎ Among (option_to_list (effect (w.nodes k).state o).written) (journal.Received (counter id) m)
          → Among (w.nodes k).records (journal.Received (counter id) m) ⊎ RecordsOutcome w w2 k id m
      by_place o joined takes (inl old) = inl old
      by_place o joined takes (inr new) =
          inr (by_occasion o joined takes (from_option (effect (w.nodes k).state o).written (journal.Received (counter id) m) new))

no_first_record : (w : World) → IsFirstWorld w → (k c : ℕ) (m : Notice) → Among (w.nodes k).records (journal.Received c m) → ⊥
no_first_record w start k c m among =
    by_node (subst (λ (n : WorldNode). Among n.records (journal.Received c m)) (start.nodes k) among)
  where
    by_node : Among (journal.Node k (start.base k) ∷ []) (journal.Received c m) → ⊥
    by_node (inl same) = cc
    by_node (inr h) = h

was_recorded : (w : World) (before : List World) → IsRun (w ∷ before) → (k : ℕ) (id : Id) (m : Notice) → IsIdAt k id
    → is_outcome m ≡ true → Among (w.nodes k).records (journal.Received (counter id) m) → WasRecorded (w ∷ before) k id m
was_recorded w before (starts start) k id m own_id outcome among = absurd (no_first_record w start k (counter id) m among)
was_recorded w before (goes_on {w = x} run step) k id m own_id outcome among =
    elim (come_recorded x w k (run_addressed _ _ run) id m own_id outcome step among) [
      | inl old ↦ by_earlier_step (was_recorded _ _ run k id m own_id outcome old)
      | inr new ↦ by_last_step new
    ]

keeps_record : (w w2 : World) (k : ℕ) (id : Id) (m : Notice) → RecordsOutcome w w2 k id m
    → Among (w2.nodes k).records (journal.Received (counter id) m)
keeps_record w w2 k id m by =
    let written = outcome_writes (w.nodes k).state by.moment id by.place by.found m by.leads_on in
    subst (λ (rs : List Record). Among rs (journal.Received (counter id) m)) (sym by.takes.records)
    (among_right (w.nodes k).records _ (journal.Received (counter id) m)
    (subst (λ (r : Option Record). Among (option_to_list r) (journal.Received (counter id) m)) (sym written) (inl refl)))

is_recorded : (w : World) (before : List World) → IsRun (w ∷ before) → (k : ℕ) (id : Id) (m : Notice) → WasRecorded (w ∷ before) k id m
    → Among (w.nodes k).records (journal.Received (counter id) m)
is_recorded w before run k id m (by_last_step by) = keeps_record _ w k id m by
is_recorded w before (starts start) k id m (by_earlier_step was) = elim was [ ]
is_recorded w before (goes_on run step) k id m (by_earlier_step was) =
    stays_recorded _ w step k (journal.Received (counter id) m) (is_recorded _ _ run k id m was)

pub outcomes_recorded : (w : World) (before : List World) → IsRun (w ∷ before) → (k : ℕ) (id : Id) (m : Notice) → IsIdAt k id
    → is_outcome m ≡ true → Among (w.nodes k).records (journal.Received (counter id) m) ↔ WasRecorded (w ∷ before) k id m
outcomes_recorded w before run k id m own_id outcome =
    (was_recorded w before run k id m own_id outcome, is_recorded w before run k id m)

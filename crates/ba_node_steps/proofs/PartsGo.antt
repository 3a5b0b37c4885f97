-- What a step of a node keeps of its participants: how one ended, and whence one comes to have completed; for the law that each
-- participant keeps its outcome.
use Rattle.std.proofs.Common.{◌≡◌, ◌⊎◌, inl, inr, ℕ, Bool, true, false, not, ◌||◌, [], ◌∷◌, ◌++◌, Option, None, Some, refl, sym}
use Rattle.std.proofs.Common.{ap, ◌∙◌, subst, true≢false}
use Rattle.std.specs.List.{list_all}
use Rattle.ba_core.specs.PartRows.{acted_state, part_row}
use Rattle.ba_core.specs.declared.identifiers.Id.{Id}
use Rattle.ba_core.specs.declared.notices.Act.{Act}
use Rattle.ba_core.specs.declared.notices.Act.TheVariants as act
use Rattle.ba_core.specs.declared.notices.Leave.{Leave}
use Rattle.ba_core.specs.declared.notices.Notice.{Notice}
use Rattle.ba_core.specs.declared.notices.Notice.TheVariants as notice
use Rattle.ba_core.specs.declared.protocols.Protocol.{Protocol}
use Rattle.ba_core.specs.declared.protocols.Side.TheVariants.{Coordinator, Participant}
use Rattle.ba_core.specs.declared.protocols.Verdict.{Verdict}
use Rattle.ba_core.specs.declared.rows.PRow.{PRow}
use Rattle.ba_core.specs.declared.rows.PRow.TheVariants as prow
use Rattle.ba_core.specs.declared.states.How.{How}
use Rattle.ba_core.specs.declared.states.PState.{PState}
use Rattle.ba_core.specs.declared.states.PState.TheVariants as part
use Rattle.ba_link.proofs.Everywhere.{only_if, part_passes, parts, protocol_passes, protocols, where_asked}
use Rattle.ba_record.specs.declared.records.Record.{Record}
use Rattle.ba_record.specs.declared.records.Record.TheVariants as journal
use Rattle.ba_scope.proofs.Calls.{by_option, led, registering_is, ticked_part}
use Rattle.ba_scope.proofs.Lists.{by_test}
use Rattle.ba_scope.proofs.ScopeCases.{choose_cases, complete_cases, decide_cases, finish_cases, leave_cases}
use Rattle.ba_scope.proofs.Tables.{if_leads}
use Rattle.ba_scope.specs.Rules.{ScopeStep, choose, complete, decide, expire, finish, is_expired, leave_act, leave_by, part_at_tick}
use Rattle.ba_scope.specs.Rules.{scope_with_end, state_at_tick, tick_up, with_end_changed, with_up, with_up_moved}
use Rattle.ba_scope.specs.Scope.{ScopeState, any_failed, is_drained}
use Rattle.ba_scope.specs.declared.answers.Said.{Said}
use Rattle.ba_scope_ends.specs.Ends.{Tick, end_after_notice, end_asking, end_owing, same_id, tick_of_end}
use Rattle.ba_scope_ends.specs.Parts.{act_when_drained, enrolled_part, part_asking, part_in_state, part_owing}
use Rattle.ba_scope_ends.specs.Parts.{refused_part, state_after_act}
use Rattle.ba_scope_ends.specs.Parts.{tick_of_part}
use Rattle.ba_scope_ends.specs.declared.ends.End.{End}
use Rattle.ba_scope_ends.specs.declared.parts.Part.{Part}
use Rattle.ba_node_steps.specs.declared.inputs.Input.{Input}
use Rattle.ba_node_steps.specs.declared.inputs.Input.TheVariants as input
use Rattle.ba_node_steps.specs.Fits.{NodeFits}
use Rattle.ba_node_steps.specs.Histories.{has_completed}
use Rattle.ba_node_steps.specs.Node.{Among, EndPlace, HasPart, NodeState, PartPlace, counter, lone, next_id, nowhere, part_in_place_of}
use Rattle.ba_node_steps.specs.Node.{scope_in_place_of, upward, with_lone, with_part_changed, with_scope}
use Rattle.ba_node_steps.specs.Steps.{NodeStep, is_registering_state, node_step, same_part_state}
use Rattle.ba_node_steps.specs.Ticks.{TickStep, tick_step}
use Rattle.ba_node_steps.proofs.Cases.{act_cases, ask_cases, create_cases, end_notice_cases, enrolled_cases, join_cases, on_choose_cases}
use Rattle.ba_node_steps.proofs.Cases.{on_complete_cases, on_decide_cases, on_finish_cases, on_leave_cases}
use Rattle.ba_node_steps.proofs.Cases.{part_notice_cases, refused_cases}
use Rattle.ba_node_steps.proofs.Cases.{register_cases, tick_cases}
use Rattle.ba_node_steps.proofs.Members.{same_id_is}
use Rattle.ba_node_steps.proofs.Objects.{one_lone, one_scope}
use Rattle.ba_node_steps.proofs.Places.{Stands, scope_found}
use Rattle.ba_node_steps.proofs.ScopesGo.{Follow, all_mapped, all_stay, one_pushed}

-- ---- what is computed

abbrev is_ended_part : PState → Bool
is_ended_part (part.Ended how) = true
is_ended_part p = false

-- a row that leads to another state: no participant that has ended moves, and one that has completed had
abbrev row_keeps : PState → PRow → Bool
row_keeps s prow.Invalid = true
row_keeps s (prow.Row next prompt) = only_if (not (same_part_state s next)) (λ from. not (is_ended_part from)) s

abbrev row_completes : PState → PRow → Bool
row_completes s prow.Invalid = true
row_completes s (prow.Row next prompt) = only_if (has_completed next) has_completed s

abbrev rows_keep : Notice → Protocol → PState → Bool
rows_keep m protocol s = row_keeps s (part_row protocol s m)

abbrev rows_complete : Notice → Protocol → PState → Bool
rows_complete m protocol s = row_completes s (part_row protocol s m)

each_row_keeps : (m : Notice) → list_all (λ protocol. list_all (rows_keep m protocol) parts) protocols ≡ true
each_row_keeps notice.Complete = refl
each_row_keeps m = refl

each_row_completes : (m : Notice) → list_all (λ protocol. list_all (rows_complete m protocol) parts) protocols ≡ true
each_row_completes notice.Complete = refl
each_row_completes m = refl

abbrev is_completed_act : Act → Bool
is_completed_act act.Completed = true
is_completed_act a = false

abbrev act_keeps : Act → Protocol → PState → Bool
act_keeps a protocol s = if_leads (λ next. not (is_ended_part s)) (acted_state protocol s a)

abbrev act_completes : Act → Protocol → PState → Bool
act_completes a protocol s =
    if_leads (λ next. only_if (has_completed next) (λ from. has_completed from || is_completed_act a) s) (acted_state protocol s a)

each_act_keeps : (a : Act) → list_all (λ protocol. list_all (act_keeps a protocol) parts) protocols ≡ true
each_act_keeps act.Completed = refl
each_act_keeps a = refl

each_act_completes : (a : Act) → list_all (λ protocol. list_all (act_completes a protocol) parts) protocols ≡ true
each_act_completes act.Completed = refl
each_act_completes a = refl

abbrev drained_completes : Bool → Protocol → PState → Bool
drained_completes failed protocol s = only_if (has_completed (state_after_act protocol s (act_when_drained s failed))) has_completed s

each_drained_completes : (failed : Bool) → list_all (λ protocol. list_all (drained_completes failed protocol) parts) protocols ≡ true
each_drained_completes true = refl
each_drained_completes false = refl

-- ---- a participant before and after

pub record PartGoes (r : Option Record) (p q : Part) : Type 0 where
  pub id : q.id ≡ p.id
  pub ended : (how : How) → p.state ≡ part.Ended how → q.state ≡ part.Ended how
  pub completed : has_completed q.state ≡ true
      → (has_completed p.state ≡ true) ⊎ (r ≡ Some (journal.Acted (counter p.id) act.Completed))

abbrev pub IsNewPart : Part → Type 0
IsNewPart q = q.state ≡ part.Registering

not_ended : {A : Type 0} (p : PState) (how : How) → not (is_ended_part p) ≡ true → p ≡ part.Ended how → A
not_ended p how h is = absurd (true≢false (sym h ∙ ap (λ (s : PState). not (is_ended_part s)) is))

same_state : (r : Option Record) (p q : Part) → q.id ≡ p.id → q.state ≡ p.state → PartGoes r p q
same_state r p q id state = record {
  id = id;
  ended = λ how is. state ∙ is;
  completed = λ h. inl (ap has_completed (sym state) ∙ h);
}

same_part : (r : Option Record) (p : Part) → PartGoes r p p
same_part r p = same_state r p p refl refl

-- from Registering to what hasn't completed
enrols : (r : Option Record) (p q : Part) → is_registering_state p.state ≡ true → q.id ≡ p.id → has_completed q.state ≡ false
    → PartGoes r p q
enrols r p q registers id fresh = record {
  id = id;
  ended = λ how is. not_ended p.state how (ap (λ (s : PState). not (is_ended_part s)) (registering_is p.state registers)) is;
  completed = λ h. absurd (true≢false (sym h ∙ fresh));
}

row_goes : (r : Option Record) (p : Part) (m : Notice) (next : PState) (prompt : Bool)
    → part_row p.protocol p.state m ≡ prow.Row next prompt → same_part_state p.state next ≡ false → PartGoes r p (part_in_state next p)
row_goes r p m next prompt row other =
    let keeps : row_keeps p.state (prow.Row next prompt) ≡ true = subst (λ (x : PRow). row_keeps p.state x ≡ true) row
    (part_passes (rows_keep m p.protocol)
    (protocol_passes (λ protocol. list_all (rows_keep m protocol) parts) (each_row_keeps m) p.protocol) p.state) in
    let completes : row_completes p.state (prow.Row next prompt) ≡ true = subst (λ (x : PRow). row_completes p.state x ≡ true) row
    (part_passes (rows_complete m p.protocol)
    (protocol_passes (λ protocol. list_all (rows_complete m protocol) parts) (each_row_completes m) p.protocol) p.state) in
    record {
      id = refl;
      ended = λ how is. not_ended p.state how
          (where_asked (not (same_part_state p.state next)) (λ from. not (is_ended_part from)) p.state keeps (ap not other)) is;
      completed = λ h. inl (where_asked (has_completed next) has_completed p.state completes h);
    }

completed_is : (a : Act) → is_completed_act a ≡ true → a ≡ act.Completed
completed_is act.Completed h = refl
completed_is a h = absurd (true≢false (sym h))

either_true : (a b : Bool) → (a || b) ≡ true → (a ≡ true) ⊎ (b ≡ true)
either_true true b h = inl refl
either_true false b h = inr h

act_goes : (id : Id) (p : Part) (a : Act) (next : PState) → p.id ≡ id → acted_state p.protocol p.state a ≡ Some next
    → PartGoes (Some (journal.Acted (counter id) a)) p (part_in_state next p)
act_goes id p a next its acts =
    let keeps = led (λ (to : PState). not (is_ended_part p.state)) (acted_state p.protocol p.state a) next acts
    (part_passes (act_keeps a p.protocol)
    (protocol_passes (λ protocol. list_all (act_keeps a protocol) parts) (each_act_keeps a) p.protocol) p.state) in
    let completes = led (λ (to : PState). only_if (has_completed to) (λ from. has_completed from || is_completed_act a) p.state)
    (acted_state p.protocol p.state a) next acts
    (part_passes (act_completes a p.protocol)
    (protocol_passes (λ protocol. list_all (act_completes a protocol) parts) (each_act_completes a) p.protocol) p.state) in
    record {
      id = refl;
      ended = λ how is. not_ended p.state how keeps is;
      completed = λ h. elim (either_true (has_completed p.state) (is_completed_act a)
          (where_asked (has_completed next) (λ from. has_completed from || is_completed_act a) p.state completes h)) [
            | inl before ↦ inl before
            | inr now ↦ inr (ap (λ (x : Act). Some (journal.Acted (counter id) x)) (completed_is a now)
                ∙ ap (λ (i : Id). Some (journal.Acted (counter i) act.Completed)) (sym its))
          ];
    }

tick_goes : (r : Option Record) (p : Part) → PartGoes r p (tick_of_part p).after
tick_goes r p =
    ticked_part (PartGoes r p) p (same_state r p (record p { owes = false }) refl refl)
    (same_state r p (record p { asks = false }) refl refl) (same_part r p)

-- an upward part as its scope ticks
drained_goes : (r : Option Record) (s : ScopeState) (p : Part) → PartGoes r p (part_in_state (state_at_tick s p) p)
drained_goes r s p =
    by_test (λ (x : PState). PartGoes r p (part_in_state x p)) (is_drained s)
    (state_after_act p.protocol p.state (act_when_drained p.state (any_failed s))) p.state
    (λ _. record {
      id = refl;
      ended = λ how is. subst (λ (x : PState). state_after_act p.protocol x (act_when_drained x (any_failed s)) ≡ part.Ended how)
          (sym is) refl;
      completed = λ h. inl (where_asked
          (has_completed (state_after_act p.protocol p.state (act_when_drained p.state (any_failed s)))) has_completed p.state
          (part_passes (drained_completes (any_failed s) p.protocol)
          (protocol_passes (λ protocol. list_all (drained_completes (any_failed s) protocol) parts)
          (each_drained_completes (any_failed s)) p.protocol) p.state) h);
    }) (λ _. same_state r p (part_in_state p.state p) refl refl)

at_tick_goes : (r : Option Record) (s : ScopeState) (p : Part) → PartGoes r p (part_at_tick s p)
at_tick_goes r s p =
    by_test (PartGoes r p) (p.owes || p.asks) p (part_in_state (state_at_tick s p) p) (λ _. same_part r p) (λ _. drained_goes r s p)

-- ---- an upward part

some_one : {A : Type 0} (x y : A) → ◌≡◌ {A = Option A} (Some x) (Some y) → x ≡ y
some_one x y h = cc

pub record UpGoes (r : Option Record) (s t : ScopeState) : Type 0 where
  pub on : (p : Part) → s.up ≡ Some p → (q : Part) × (t.up ≡ Some q) × PartGoes r p q
  pub back : (q : Part) → t.up ≡ Some q → (p : Part) × (s.up ≡ Some p) × PartGoes r p q

abbrev pub IsNewAbove : ScopeState → Type 0
IsNewAbove t = (q : Part) → t.up ≡ Some q → IsNewPart q

up_same : (r : Option Record) (s t : ScopeState) → t.up ≡ s.up → UpGoes r s t
up_same r s t same = record {
  on = λ p is. (p, same ∙ is, same_part r p);
  back = λ q is. (q, sym same ∙ is, same_part r q);
}

up_stays : (r : Option Record) (s : ScopeState) → UpGoes r s s
up_stays r s = up_same r s s refl

up_to : (r : Option Record) (s t : ScopeState) (p q : Part) → s.up ≡ Some p → t.up ≡ Some q → PartGoes r p q → UpGoes r s t
up_to r s t p q is is_then goes = record {
  on = λ x x_is. (q, is_then, subst (λ (y : Part). PartGoes r y q) (some_one p x (sym is ∙ x_is)) goes);
  back = λ y y_is. (p, is, subst (PartGoes r p) (some_one q y (sym is_then ∙ y_is)) goes);
}

-- it moves on in two steps
twice : (r : Option Record) (p q x : Part) → PartGoes r p q → x.id ≡ q.id → x.state ≡ q.state → PartGoes r p x
twice r p q x goes id state = record {
  id = id ∙ goes.id;
  ended = λ how is. state ∙ goes.ended how is;
  completed = λ h. goes.completed (ap has_completed (sym state) ∙ h);
}

ticked_up : (r : Option Record) (s : ScopeState) → UpGoes r s (tick_up s).after
ticked_up r s =
    by_option (λ (t : Tick ScopeState). UpGoes r s t.after) s.up (record { after = s; says = None }) _ (λ root. up_stays r s)
    (λ up is.
    let q : Part = part_at_tick s up in
    let same = ticked_part (λ (x : Part). (x.id ≡ q.id) × (x.state ≡ q.state)) q (refl, refl) (refl, refl) (refl, refl) in
    up_to r s (with_up s (tick_of_part q).after) up (tick_of_part q).after is refl
    (twice r up q (tick_of_part q).after (at_tick_goes r s up) same.0 same.1))

-- ---- the participants of a node

pub record PartsGo (r : Option Record) (n m : NodeState) : Type 0 where
  pub scopes : Follow ScopeState (UpGoes r) IsNewAbove n.scopes m.scopes
  pub parts : Follow Part (PartGoes r) IsNewPart n.parts m.parts

pub parts_stay : (r : Option Record) (n : NodeState) → PartsGo r n n
parts_stay r n = record {
  scopes = all_stay ScopeState (UpGoes r) IsNewAbove n.scopes (up_stays r);
  parts = all_stay Part (PartGoes r) IsNewPart n.parts (same_part r);
}

scope_goes : (r : Option Record) (n : NodeState) (s new : ScopeState) → NodeFits n → Among n.scopes s → new.id ≡ s.id → UpGoes r s new
    → PartsGo r n (with_scope n new)
scope_goes r n s new fits among own goes = record {
  scopes = all_mapped ScopeState (UpGoes r) IsNewAbove n.scopes (scope_in_place_of new) each;
  parts = all_stay Part (PartGoes r) IsNewPart n.parts (same_part r);
}
  where
    each : (x : ScopeState) → Among n.scopes x → UpGoes r x (scope_in_place_of new x)
    each x of = by_test (UpGoes r x) (same_id x.id new.id) new x (λ here.
        let one : s ≡ x = one_scope n s x fits among of
        (ap (λ (i : Id). i.0) (sym own) ∙ ap (λ (i : Id). i.0) (sym (same_id_is x.id new.id here))) in
        subst (λ (y : ScopeState). UpGoes r y new) one goes)
        (λ other. up_stays r x)

lone_goes : (r : Option Record) (n : NodeState) (p new : Part) → NodeFits n → Among n.parts p → PartGoes r p new
    → PartsGo r n (with_lone n new)
lone_goes r n p new fits among goes = record {
  scopes = all_stay ScopeState (UpGoes r) IsNewAbove n.scopes (up_stays r);
  parts = all_mapped Part (PartGoes r) IsNewPart n.parts (part_in_place_of new) each;
}
  where
    each : (x : Part) → Among n.parts x → PartGoes r x (part_in_place_of new x)
    each x of = by_test (PartGoes r x) (same_id x.id new.id) new x (λ here.
        let one : p ≡ x = one_lone n p x fits among of
        (ap (λ (i : Id). i.0) (sym goes.id) ∙ ap (λ (i : Id). i.0) (sym (same_id_is x.id new.id here))) in
        subst (λ (y : Part). PartGoes r y new) one goes)
        (λ other. same_part r x)

place_goes : (r : Option Record) (n : NodeState) (id : Id) (place : PartPlace) (p : Part) (f : Part → Part) → NodeFits n
    → Stands n id place p → PartGoes r p (f p) → PartsGo r n (with_part_changed n place f)
place_goes r n id nowhere p f fits stands goes = absurd stands
place_goes r n id (lone q) p f fits stands goes =
    lone_goes r n q (f q) fits stands.0.part (subst (λ (x : Part). PartGoes r x (f x)) (sym stands.1) goes)
place_goes r n id (upward s q) p f fits stands goes =
    scope_goes r n s (with_up s (f q)) fits stands.0.scope refl
    (up_to r s (with_up s (f q)) q (f q) stands.0.up refl (subst (λ (x : Part). PartGoes r x (f x)) (sym stands.1) goes))

new_scope : (r : Option Record) (n : NodeState) (new : ScopeState) → IsNewAbove new
    → PartsGo r n (record n { scopes = n.scopes ++ new ∷ [] })
new_scope r n new is = record {
  scopes = one_pushed ScopeState (UpGoes r) IsNewAbove n.scopes new (up_stays r) is;
  parts = all_stay Part (PartGoes r) IsNewPart n.parts (same_part r);
}

new_lone : (r : Option Record) (n : NodeState) (new : Part) → IsNewPart new → PartsGo r n (record n { parts = n.parts ++ new ∷ [] })
new_lone r n new is = record {
  scopes = all_stay ScopeState (UpGoes r) IsNewAbove n.scopes (up_stays r);
  parts = one_pushed Part (PartGoes r) IsNewPart n.parts new (same_part r) is;
}

-- an end changes
end_goes : (r : Option Record) (n : NodeState) (at : EndPlace) (f : End → End) → NodeFits n → Among n.scopes at.scope
    → PartsGo r n (with_scope n (with_end_changed at.end.id f at.scope))
end_goes r n at f fits of =
    scope_goes r n at.scope (with_end_changed at.end.id f at.scope) fits of refl
    (up_same r at.scope (with_end_changed at.end.id f at.scope) refl)

-- ---- a rule of a scope keeps its upward part

abbrev Keeps : {A : Type 0} → ScopeState → ScopeStep A → Type 0
Keeps s step = (step.after.id ≡ s.id) × (step.after.up ≡ s.up)

decide_keeps : (s : ScopeState) (v : Verdict) → Keeps s (decide s v)
decide_keeps s v = decide_cases (Keeps {A = Said} s) s v (λ number id. (refl, refl)) (λ root atomic undecided ready. (refl, refl))

choose_keeps : (s : ScopeState) (id : Id) (v : Verdict) → Keeps s (choose s id v)
choose_keeps s id v =
    choose_cases (Keeps {A = Said} s) s id v (λ number id. (refl, refl)) (λ e next found root mixed undecided chosen. (refl, refl))

complete_keeps : (s : ScopeState) (id : Id) → Keeps s (complete s id)
complete_keeps s id =
    complete_cases (Keeps {A = Said} s) s id (λ number id. (refl, refl)) (λ e next found open_ undecided wish. (refl, refl))

expire_keeps : (s : ScopeState) (now : ℕ) → Keeps s (expire s now)
expire_keeps s now =
    by_test (Keeps {A = Bool} s) (is_expired s now) _ (record { after = s; answer = false }) (λ _. (refl, refl)) (λ _. (refl, refl))

-- or its upward part acts
abbrev Acts : ScopeState → Part → Act → ScopeStep Said → Type 0
Acts s up a step = (step.after.id ≡ s.id) × UpGoes (Some (journal.Acted (counter up.id) a)) s step.after

finish_acts : (s : ScopeState) (up : Part) → s.up ≡ Some up → Acts s up act.Completed (finish s)
finish_acts s up is =
    finish_cases (Acts s up act.Completed) s (λ number id. (refl, up_stays _ s))
    (λ p next p_is acts ready. (
      refl,
      up_to _ s (with_up s (part_in_state next p)) p (part_in_state next p) p_is refl
          (act_goes up.id p act.Completed next (ap (λ (x : Part). x.id) (some_one p up (sym p_is ∙ is))) acts),
    ))

leave_acts : (s : ScopeState) (how : Leave) (up : Part) → s.up ≡ Some up → Acts s up (leave_act how) (leave_by s how)
leave_acts s how up is =
    leave_cases (Acts s up (leave_act how)) s how (λ number id. (refl, up_stays _ s))
    (λ p next p_is may acts ended. (
      refl,
      up_to _ s (with_up s (part_in_state next p)) p (part_in_state next p) p_is refl
          (act_goes up.id p (leave_act how) next (ap (λ (x : Part). x.id) (some_one p up (sym p_is ∙ is))) acts),
    ))

tick_up_id : (s : ScopeState) → (tick_up s).after.id ≡ s.id
tick_up_id s =
    by_option (λ (t : Tick ScopeState). t.after.id ≡ s.id) s.up (record { after = s; says = None }) _ (λ root. refl) (λ up is. refl)

-- ---- each step

abbrev ByInput : NodeState → NodeStep → Type 0
ByInput n step = PartsGo step.written n step.after

abbrev ByTick : NodeState → TickStep → Type 0
ByTick n step = PartsGo step.written n step.after

pub input_parts : (n : NodeState) (now : ℕ) (i : Input) → NodeFits n → ByInput n (node_step n now i)
input_parts n now (input.Create expires current kind protocol) fits =
    create_cases (ByInput n) n now expires current kind protocol (λ r. parts_stay _ n)
    (λ k is root. new_scope _ n _ (λ q none. absurd cc))
    (λ k c is of alike dialable. new_scope _ n _ (λ q same. ap (λ (y : Part). y.state) (sym (some_one _ q same))))
input_parts n now (input.Register scope protocol participant) fits =
    register_cases (ByInput n) n scope protocol participant (λ r. parts_stay _ n) (λ s known registers.
    let new : ScopeState = scope_with_end s (next_id n 1) known participant in
    scope_goes _ n s new fits (scope_found n scope s registers.here).0 refl (up_same _ s new refl))
input_parts n now (input.Join protocol registration) fits =
    join_cases (ByInput n) n protocol registration (λ r. parts_stay _ n) (λ dialable. new_lone _ n _ refl)
input_parts n now (input.Enrolled id coordinator) fits =
    enrolled_cases (ByInput n) n id coordinator (λ r. parts_stay _ n) (λ place p stands registering dialable.
    place_goes _ n id place p (enrolled_part coordinator) fits stands (enrols _ p (enrolled_part coordinator p) registering refl refl))
input_parts n now (input.RefusedBy id c) fits =
    refused_cases (ByInput n) n id c (λ r. parts_stay _ n) (λ place p number stands registering is.
    place_goes _ n id place p refused_part fits stands (enrols _ p (refused_part p) registering refl refl))
input_parts n now (input.Notice Coordinator id m) fits =
    end_notice_cases (ByInput n) n id m (λ r. parts_stay _ n) (λ shown prompt. parts_stay _ n)
    (λ at stands owes asks. end_goes _ n at end_owing fits stands.scope)
    (λ at next prompt stands row other. end_goes _ n at (end_after_notice m) fits stands.scope)
input_parts n now (input.Notice Participant id m) fits =
    part_notice_cases (ByInput n) n id m (λ r. parts_stay _ n) (λ shown prompt. parts_stay _ n)
    (λ place p stands hears asks owes. place_goes _ n id place p part_owing fits stands (same_state _ p (part_owing p) refl refl))
    (λ p next prompt stands hears row other. lone_goes _ n p (part_in_state next p) fits stands.part (row_goes _ p m next prompt row other))
    (λ s p next prompt stands hears row other. scope_goes _ n s (with_up_moved s p next) fits stands.scope refl
    (up_to _ s (with_up_moved s p next) p (part_in_state next p) stands.up refl (row_goes _ p m next prompt row other)))
input_parts n now (input.Act id a) fits =
    act_cases (ByInput n) n id a (λ r. parts_stay _ n)
    (λ p next stands acts. lone_goes _ n p (part_in_state next p) fits stands.part (act_goes id p a next stands.is acts))
input_parts n now (input.Ask id) fits =
    ask_cases (ByInput n) n id (λ r. parts_stay _ n)
    (λ at stands asks. end_goes _ n at end_asking fits stands.scope)
    (λ place p none stands hears asks. place_goes _ n id place p part_asking fits stands (same_state _ p (part_asking p) refl refl))
input_parts n now (input.Decide id v) fits =
    on_decide_cases (ByInput n) n id v (λ r. parts_stay _ n) (λ s here ok.
    let keeps = decide_keeps s v in
    scope_goes _ n s (decide s v).after fits (scope_found n id s here).0 keeps.0 (up_same _ s (decide s v).after keeps.1))
input_parts n now (input.Choose id v) fits =
    on_choose_cases (ByInput n) n id v (λ r. parts_stay _ n) (λ at stands ok.
    let keeps = choose_keeps at.scope id v in
    scope_goes _ n at.scope (choose at.scope id v).after fits stands.scope keeps.0
    (up_same _ at.scope (choose at.scope id v).after keeps.1))
input_parts n now (input.Complete id) fits =
    on_complete_cases (ByInput n) n id (λ r. parts_stay _ n) (λ at stands ok.
    let keeps = complete_keeps at.scope id in
    scope_goes _ n at.scope (complete at.scope id).after fits stands.scope keeps.0
    (up_same _ at.scope (complete at.scope id).after keeps.1))
input_parts n now (input.Finish id) fits =
    on_finish_cases (ByInput n) n id (λ r. parts_stay _ n) (λ s up here is ok.
    let acts = finish_acts s up is in scope_goes _ n s (finish s).after fits (scope_found n id s here).0 acts.0 acts.1)
input_parts n now (input.Leave id how) fits =
    on_leave_cases (ByInput n) n id how (λ r. parts_stay _ n) (λ s up here is ok.
    let acts = leave_acts s how up is in scope_goes _ n s (leave_by s how).after fits (scope_found n id s here).0 acts.0 acts.1)

pub tick_parts : (n : NodeState) (now : ℕ) (id : Id) → NodeFits n → ByTick n (tick_step n now id)
tick_parts n now id fits =
    tick_cases (ByTick n) n now id (λ l. parts_stay _ n)
    (λ s here expired.
    let keeps = expire_keeps s now in
    scope_goes _ n s (expire s now).after fits (scope_found n id s here).0 keeps.0 (up_same _ s (expire s now).after keeps.1))
    (λ at w no_scope stands ticks. end_goes _ n at (λ it. (tick_of_end it).after) fits stands.scope)
    (λ p no_scope no_end stands hears talks. lone_goes _ n p (tick_of_part p).after fits stands.part (tick_goes _ p))
    (λ s p w no_scope no_end stands hears moves. scope_goes _ n s (tick_up s).after fits stands.scope (tick_up_id s) (ticked_up _ s))

-- ---- each participant

pub part_on : (r : Option Record) (n m : NodeState) (p : Part) → PartsGo r n m → HasPart n p → (q : Part) × HasPart m q × PartGoes r p q
part_on r n m p goes (inl alone) = let q = goes.parts.on p alone in (q.0, inl q.1, q.2)
part_on r n m p goes (inr above) =
    let t = goes.scopes.on above.0 above.1 in
    let q = t.2.on p above.2 in (q.0, inr (t.0, t.1, q.1), q.2)

pub part_back : (r : Option Record) (n m : NodeState) (q : Part) → PartsGo r n m → HasPart m q
    → ((p : Part) × HasPart n p × PartGoes r p q) ⊎ IsNewPart q
part_back r n m q goes (inl alone) = elim (goes.parts.back q alone) [
  | inl p ↦ inl (p.0, inl p.1, p.2)
  | inr new ↦ inr new
]
part_back r n m q goes (inr above) = elim (goes.scopes.back above.0 above.1) [
  | inl s ↦ let p = s.2.back q above.2 in inl (p.0, inr (s.0, s.1, p.1), p.2)
  | inr new ↦ inr (new q above.2)
]

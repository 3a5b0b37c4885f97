-- A step of a node keeps its number, its base, and each of its scopes by identifier and kind; for the law that each world of a
-- run is its records.
use Rattle.std.proofs.Common.{◌≡◌, ℕ, Bool, true, false, List, [], ◌∷◌, map, None, Some, refl, sym, ap, ◌∙◌}
use Rattle.ba_core.specs.declared.identifiers.Id.{Id}
use Rattle.ba_core.specs.declared.notices.Leave.{Leave}
use Rattle.ba_core.specs.declared.protocols.Side.TheVariants.{Coordinator, Participant}
use Rattle.ba_core.specs.declared.protocols.Verdict.{Verdict}
use Rattle.ba_core.specs.declared.protocols.Verdict.TheVariants.{Undo}
use Rattle.ba_scope.proofs.Calls.{by_option}
use Rattle.ba_scope.proofs.Lists.{by_test}
use Rattle.ba_scope_ends.specs.Ends.{Tick, end_after_notice, end_asking, end_owing, end_with_verdict_if_none, tick_of_end, same_id}
use Rattle.ba_scope_ends.specs.Parts.{enrolled_part, part_asking, part_in_state, part_owing, refused_part, tick_of_part}
use Rattle.ba_scope.specs.Rules.{ScopeStep, choose, complete, decide, expire, finish, is_expired, leave_by, scope_with_end, tick_up}
use Rattle.ba_scope.specs.Rules.{with_end_changed, with_up, with_up_moved}
use Rattle.ba_scope.specs.Scope.{ScopeState}
use Rattle.ba_scope.specs.declared.answers.Said.{Said}
use Rattle.ba_scope_ends.specs.declared.ends.End.{End}
use Rattle.ba_scope_ends.specs.declared.parts.Part.{Part}
use Rattle.ba_node_steps.specs.declared.inputs.Input.{Input}
use Rattle.ba_node_steps.specs.declared.inputs.Input.TheVariants as input
use Rattle.ba_node_steps.specs.Fits.{NodeFits}
use Rattle.ba_node_steps.specs.Node.{Among, EndPlace, NodeState, PartPlace, lone, next_id, nowhere, scope_in_place_of, upward, with_lone}
use Rattle.ba_node_steps.specs.Node.{with_new_part, with_new_scope, with_part_changed, with_scope}
use Rattle.ba_node_steps.specs.Steps.{NodeStep, node_step}
use Rattle.ba_node_steps.specs.Ticks.{TickStep, tick_step}
use Rattle.ba_node_steps.proofs.Cases.{act_cases, ask_cases, create_cases, end_notice_cases, enrolled_cases, join_cases, on_choose_cases}
use Rattle.ba_node_steps.proofs.Cases.{on_complete_cases, on_decide_cases, on_finish_cases, on_leave_cases, part_notice_cases, refused_cases}
use Rattle.ba_node_steps.proofs.Cases.{register_cases, tick_cases}
use Rattle.ba_node_steps.proofs.Members.{among_left, among_map, same_id_is}
use Rattle.ba_node_steps.proofs.NodeKept.{id_kept}
use Rattle.ba_node_steps.proofs.Objects.{one_scope}
use Rattle.ba_node_steps.proofs.Own.{choose_own, complete_own, decide_own, expire_own, finish_own, leave_own, tick_up_own}
use Rattle.ba_node_steps.proofs.Places.{EndStands, Stands, scope_found}
use Rattle.ba_scope.proofs.ScopeCases.{choose_cases, complete_cases, decide_cases, finish_cases, leave_cases}

-- one of these scopes has the identifier and the kind of this one
abbrev pub HasLike : List ScopeState → ScopeState → Type 0
HasLike scopes s = (t : ScopeState) × Among scopes t × (t.id ≡ s.id) × (t.kind ≡ s.kind)

pub record NodeStays (n m : NodeState) : Type 0 where
  pub number : m.number ≡ n.number
  pub base : m.base ≡ n.base
  pub scopes : (s : ScopeState) → Among n.scopes s → HasLike m.scopes s

pub itself : (n : NodeState) → NodeStays n n
itself n = record { number = refl; base = refl; scopes = λ s among. (s, among, refl, refl) }

-- ---- a changed object

abbrev Like : ScopeState → ScopeState → Type 0
Like t x = (x.id ≡ t.id) × (x.kind ≡ t.kind)

scope_stays : (n : NodeState) (s new : ScopeState) → NodeFits n → Among n.scopes s → new.id ≡ s.id → new.kind ≡ s.kind
    → NodeStays n (with_scope n new)
scope_stays n s new fits among own kind = record {
  number = refl;
  base = refl;
  scopes = λ t of.
      let same = like t of in
      (scope_in_place_of new t, among_map (scope_in_place_of new) n.scopes t of, same.0, same.1);
}
  where
    like : (t : ScopeState) → Among n.scopes t → Like t (scope_in_place_of new t)
    like t of = by_test (Like t) (same_id t.id new.id) new t (λ here.
        let ids : t.id ≡ new.id = same_id_is t.id new.id here in
        let one : s ≡ t = one_scope n s t fits among of (ap (λ (x : Id). x.0) (sym (ids ∙ own))) in
        (sym ids, kind ∙ ap (λ (x : ScopeState). x.kind) one))
        (λ other. (refl, refl))

part_stays : (n : NodeState) (id : Id) (place : PartPlace) (p : Part) (f : Part → Part) → NodeFits n → Stands n id place p
    → NodeStays n (with_part_changed n place f)
part_stays n id nowhere p f fits stands = itself n
part_stays n id (lone q) p f fits stands = record { number = refl; base = refl; scopes = λ s among. (s, among, refl, refl) }
part_stays n id (upward s q) p f fits stands = scope_stays n s (with_up s (f q)) fits stands.0.scope refl refl

lone_stays : (n : NodeState) (p : Part) → NodeStays n (with_lone n p)
lone_stays n p = record { number = refl; base = refl; scopes = λ s among. (s, among, refl, refl) }

end_stays : (n : NodeState) (id : Id) (at : EndPlace) (f : End → End) → NodeFits n → EndStands n id at
    → NodeStays n (with_scope n (with_end_changed at.end.id f at.scope))
end_stays n id at f fits stands = scope_stays n at.scope (with_end_changed at.end.id f at.scope) fits stands.scope refl refl

new_scope_stays : (n : NodeState) (new : ScopeState) → NodeStays n (with_new_scope n new)
new_scope_stays n new = record {
  number = refl;
  base = refl;
  scopes = λ s among. (s, among_left n.scopes (new ∷ []) s among, refl, refl);
}

new_part_stays : (n : NodeState) (p : Part) → NodeStays n (with_new_part n p)
new_part_stays n p = record { number = refl; base = refl; scopes = λ s among. (s, among, refl, refl) }

-- ---- the kind of a scope stays under each rule

abbrev SameKind : ScopeState → ScopeStep Said → Type 0
SameKind s step = step.after.kind ≡ s.kind

decide_kind : (s : ScopeState) (v : Verdict) → SameKind s (decide s v)
decide_kind s v = decide_cases (SameKind s) s v (λ number id. refl) (λ root atomic undecided ready. refl)

choose_kind : (s : ScopeState) (id : Id) (v : Verdict) → SameKind s (choose s id v)
choose_kind s id v =
    choose_cases (SameKind s) s id v (λ number shown. refl) (λ e next found root mixed undecided chosen. refl)

complete_kind : (s : ScopeState) (id : Id) → SameKind s (complete s id)
complete_kind s id =
    complete_cases (SameKind s) s id (λ number shown. refl) (λ e next found open_ undecided asked. refl)

finish_kind : (s : ScopeState) → SameKind s (finish s)
finish_kind s = finish_cases (SameKind s) s (λ number shown. refl) (λ up next is acts ready. refl)

leave_kind : (s : ScopeState) (how : Leave) → SameKind s (leave_by s how)
leave_kind s how = leave_cases (SameKind s) s how (λ number shown. refl) (λ up next is may acts ended. refl)

expire_kind : (s : ScopeState) (now : ℕ) → (expire s now).after.kind ≡ s.kind
expire_kind s now =
    by_test (λ (step : ScopeStep Bool). step.after.kind ≡ s.kind) (is_expired s now)
    (record { after = record s { verdict = Some Undo; ends = map (end_with_verdict_if_none Undo) s.ends }; answer = true })
    (record { after = s; answer = false }) (λ _. refl) (λ _. refl)

tick_up_kind : (s : ScopeState) → (tick_up s).after.kind ≡ s.kind
tick_up_kind s =
    by_option (λ (t : Tick ScopeState). t.after.kind ≡ s.kind) s.up (record { after = s; says = None }) _ (λ root. refl) (λ up is. refl)

-- ---- each step

abbrev Stays : NodeState → NodeStep → Type 0
Stays n step = NodeStays n step.after

abbrev StaysByTick : NodeState → TickStep → Type 0
StaysByTick n step = NodeStays n step.after

pub input_stays : (n : NodeState) (now : ℕ) (i : Input) → NodeFits n → Stays n (node_step n now i)
input_stays n now (input.Create expires current kind protocol) fits =
    create_cases (Stays n) n now expires current kind protocol (λ r. itself n) (λ k is root. new_scope_stays n _)
    (λ k c is of alike dialable. new_scope_stays n _)
input_stays n now (input.Register scope protocol participant) fits =
    register_cases (Stays n) n scope protocol participant (λ r. itself n) (λ s known registers.
    scope_stays n s (scope_with_end s (next_id n 1) known participant) fits (scope_found n scope s registers.here).0 refl refl)
input_stays n now (input.Join protocol registration) fits =
    join_cases (Stays n) n protocol registration (λ r. itself n) (λ dialable. new_part_stays n _)
input_stays n now (input.Enrolled id coordinator) fits =
    enrolled_cases (Stays n) n id coordinator (λ r. itself n)
    (λ place p stands registering dialable. part_stays n id place p (enrolled_part coordinator) fits stands)
input_stays n now (input.RefusedBy id c) fits =
    refused_cases (Stays n) n id c (λ r. itself n)
    (λ place p number stands registering is. part_stays n id place p refused_part fits stands)
input_stays n now (input.Notice Coordinator id m) fits =
    end_notice_cases (Stays n) n id m (λ r. itself n) (λ shown prompt. itself n)
    (λ at stands owes asks. end_stays n id at end_owing fits stands)
    (λ at next prompt stands row other. end_stays n id at (end_after_notice m) fits stands)
input_stays n now (input.Notice Participant id m) fits =
    part_notice_cases (Stays n) n id m (λ r. itself n) (λ shown prompt. itself n)
    (λ place p stands hears asks owes. part_stays n id place p part_owing fits stands)
    (λ p next prompt stands hears row other. lone_stays n (part_in_state next p))
    (λ s p next prompt stands hears row other. scope_stays n s (with_up_moved s p next) fits stands.scope refl refl)
input_stays n now (input.Act id a) fits =
    act_cases (Stays n) n id a (λ r. itself n) (λ p next stands acts. lone_stays n (part_in_state next p))
input_stays n now (input.Ask id) fits =
    ask_cases (Stays n) n id (λ r. itself n) (λ at stands asks. end_stays n id at end_asking fits stands)
    (λ place p none stands hears asks. part_stays n id place p part_asking fits stands)
input_stays n now (input.Decide id v) fits =
    on_decide_cases (Stays n) n id v (λ r. itself n) (λ s here ok.
    scope_stays n s (decide s v).after fits (scope_found n id s here).0 (id_kept s _ (decide_own s v).own) (decide_kind s v))
input_stays n now (input.Choose id v) fits =
    on_choose_cases (Stays n) n id v (λ r. itself n) (λ at stands ok. scope_stays n at.scope (choose at.scope id v).after fits
    stands.scope (id_kept at.scope _ (choose_own at.scope id v).own) (choose_kind at.scope id v))
input_stays n now (input.Complete id) fits =
    on_complete_cases (Stays n) n id (λ r. itself n) (λ at stands ok. scope_stays n at.scope (complete at.scope id).after fits
    stands.scope (id_kept at.scope _ (complete_own at.scope id).own) (complete_kind at.scope id))
input_stays n now (input.Finish id) fits =
    on_finish_cases (Stays n) n id (λ r. itself n) (λ s up here is ok.
    scope_stays n s (finish s).after fits (scope_found n id s here).0 (id_kept s _ (finish_own s).own) (finish_kind s))
input_stays n now (input.Leave id how) fits =
    on_leave_cases (Stays n) n id how (λ r. itself n) (λ s up here is ok.
    scope_stays n s (leave_by s how).after fits (scope_found n id s here).0 (id_kept s _ (leave_own s how).own) (leave_kind s how))

pub tick_stays : (n : NodeState) (now : ℕ) (id : Id) → NodeFits n → StaysByTick n (tick_step n now id)
tick_stays n now id fits =
    tick_cases (StaysByTick n) n now id (λ l. itself n)
    (λ s here expired.
    scope_stays n s (expire s now).after fits (scope_found n id s here).0 (id_kept s _ (expire_own s now).own) (expire_kind s now))
    (λ at w no_scope stands ticks. end_stays n id at (λ it. (tick_of_end it).after) fits stands)
    (λ p no_scope no_end stands hears talks. lone_stays n (tick_of_part p).after)
    (λ s p w no_scope no_end stands hears moves.
    scope_stays n s (tick_up s).after fits stands.scope (id_kept s _ (tick_up_own s).own) (tick_up_kind s))

-- Each step keeps a node's endpoints reachable; for the law steps_keep_endpoints_reachable.
use Rattle.std.proofs.Common.{◌≡◌, inl, inr, ℕ, true, List, [], ◌∷◌, ◌++◌, map, Option, None, Some, sym, ap, ◌∙◌, subst}
use Rattle.std.specs.List.{AllByRecursion}
use Rattle.std.specs.Option.{option_to_list}
use Rattle.ba_core.specs.declared.identifiers.Id.{Id}
use Rattle.ba_core.specs.declared.protocols.Protocol.{Protocol}
use Rattle.ba_core.specs.declared.protocols.Side.TheVariants.{Coordinator, Participant}
use Rattle.ba_message.specs.Dialing.{is_dialable}
use Rattle.ba_message.specs.Endpoints.{Fits}
use Rattle.ba_message.specs.declared.endpoints.Epr.{Epr}
use Rattle.ba_message.specs.declared.messages.Context.{Context}
use Rattle.ba_scope.proofs.Calls.{ticked_part}
use Rattle.ba_scope.proofs.Lists.{by_test}
use Rattle.ba_scope_ends.specs.Ends.{end_after_notice, end_asking, end_owing, new_end, tick_of_end, same_id}
use Rattle.ba_scope_ends.specs.Parts.{enrolled_part, part_asking, part_in_state, part_owing, refused_part, tick_of_part}
use Rattle.ba_scope.specs.Rules.{new_scope, scope_with_end, with_up, with_up_moved}
use Rattle.ba_scope.specs.Scope.{ScopeState}
use Rattle.ba_scope_ends.specs.declared.ends.End.{End}
use Rattle.ba_scope_ends.specs.declared.parts.Part.{Part}
use Rattle.ba_node_steps.specs.declared.inputs.Input.{Input}
use Rattle.ba_node_steps.specs.declared.inputs.Input.TheVariants as input
use Rattle.ba_node_steps.specs.Endpoints.{AllReachable, GivesFit, IsReachable, input_endpoints, part_endpoints, scope_endpoints}
use Rattle.ba_node_steps.specs.Lawful.{Event, given, ticked, formatted, change}
use Rattle.ba_node_steps.specs.Node.{Among, NodeState, PartPlace, nowhere, lone, upward, new_node, next_id, part_in_place_of, scope_in_place_of}
use Rattle.ba_node_steps.specs.Node.{with_lone, with_new_part, with_new_scope, with_part_changed, with_scope}
use Rattle.ba_node_steps.specs.Steps.{NodeStep, deadline_after, new_part, node_step}
use Rattle.ba_node_steps.specs.Ticks.{TickStep, tick_step}
use Rattle.ba_node_steps.proofs.Cases.{act_cases, ask_cases, create_cases, end_notice_cases, enrolled_cases, join_cases, on_choose_cases}
use Rattle.ba_node_steps.proofs.Cases.{on_complete_cases, on_decide_cases, on_finish_cases, on_leave_cases, part_notice_cases, refused_cases}
use Rattle.ba_node_steps.proofs.Cases.{register_cases, tick_cases}
use Rattle.ba_node_steps.proofs.Members.{all_append, all_among, all_left, all_right, among_map}
use Rattle.ba_node_steps.proofs.Own.{SameKept, asking_who, choose_own, complete_own, decide_own, end_changed, expire_own, finish_own, leave_own}
use Rattle.ba_node_steps.proofs.Own.{moved_own, notice_who, owing_who, tick_up_own, tick_who}
use Rattle.ba_node_steps.proofs.Places.{Stands, scope_found}
use Rattle.ba_tree.specs.Trees.{joined}

-- ---- what holds of each in lists of lists

abbrev pub EachReachable : List Epr → Type 0
EachReachable = AllByRecursion IsReachable

abbrev all_of : {A : Type 0} → (A → List Epr) → List A → List Epr
all_of f xs = joined (map f xs)

one_of : {A : Type 0} (f : A → List Epr) (xs : List A) (x : A) → EachReachable (all_of f xs) → Among xs x → EachReachable (f x)
one_of f [] x all among = absurd among
one_of f (y ∷ ys) x all (inl same) = subst (λ z. EachReachable (f z)) same (all_left IsReachable (f y) (all_of f ys) all)
one_of f (y ∷ ys) x all (inr later) = one_of f ys x (all_right IsReachable (f y) (all_of f ys) all) later

each_replaced : {A : Type 0} (f : A → List Epr) (g : A → A) (xs : List A)
    → ((x : A) → EachReachable (f x) → EachReachable (f (g x))) → EachReachable (all_of f xs) → EachReachable (all_of f (map g xs))
each_replaced f g [] h all = tt
each_replaced f g (x ∷ xs) h all =
    all_append IsReachable (f (g x)) (all_of f (map g xs)) (h x (all_left IsReachable (f x) (all_of f xs) all))
    (each_replaced f g xs h (all_right IsReachable (f x) (all_of f xs) all))

one_more : {A : Type 0} (f : A → List Epr) (xs : List A) (x : A) → EachReachable (all_of f xs) → EachReachable (f x)
    → EachReachable (all_of f (xs ++ x ∷ []))
one_more f [] x all here = all_append IsReachable (f x) [] here tt
one_more f (y ∷ ys) x all here =
    all_append IsReachable (f y) (all_of f (ys ++ x ∷ [])) (all_left IsReachable (f y) (all_of f ys) all)
    (one_more f ys x (all_right IsReachable (f y) (all_of f ys) all) here)

-- ---- the endpoints of a node

pub in_scopes : (n : NodeState) → AllReachable n → EachReachable (all_of scope_endpoints n.scopes)
in_scopes n all = all_left IsReachable (all_of scope_endpoints n.scopes) (all_of part_endpoints n.parts) all

in_parts : (n : NodeState) → AllReachable n → EachReachable (all_of part_endpoints n.parts)
in_parts n all = all_right IsReachable (all_of scope_endpoints n.scopes) (all_of part_endpoints n.parts) all

whole_node : (n : NodeState) → EachReachable (all_of scope_endpoints n.scopes) → EachReachable (all_of part_endpoints n.parts)
    → AllReachable n
whole_node n scopes parts = all_append IsReachable (all_of scope_endpoints n.scopes) (all_of part_endpoints n.parts) scopes parts

pub of_scope : (n : NodeState) (s : ScopeState) → AllReachable n → Among n.scopes s → EachReachable (scope_endpoints s)
of_scope n s all among = one_of scope_endpoints n.scopes s (in_scopes n all) among

pub of_lone : (n : NodeState) (p : Part) → AllReachable n → Among n.parts p → EachReachable (part_endpoints p)
of_lone n p all among = one_of part_endpoints n.parts p (in_parts n all) among

abbrev ups_of : Option Part → List Epr
ups_of o = all_of part_endpoints (option_to_list o)

abbrev participants_of : List End → List Epr
participants_of = map (λ (e : End). e.participant)

pub of_up : (s : ScopeState) (p : Part) → s.up ≡ Some p → EachReachable (scope_endpoints s) → EachReachable (part_endpoints p)
of_up s p is all =
    let ups : EachReachable (ups_of (Some p)) =
    subst (λ (o : Option Part). EachReachable (ups_of o)) is (all_left IsReachable (ups_of s.up) (participants_of s.ends) all) in
    all_left IsReachable (part_endpoints p) [] ups

pub of_end : (s : ScopeState) (e : End) → Among s.ends e → EachReachable (scope_endpoints s) → IsReachable e.participant
of_end s e among all =
    all_among IsReachable (participants_of s.ends) e.participant (all_right IsReachable (ups_of s.up) (participants_of s.ends) all)
    (among_map (λ (x : End). x.participant) s.ends e among)

-- ---- a changed object

scope_reaches : (n : NodeState) (new : ScopeState) → EachReachable (scope_endpoints new) → AllReachable n → AllReachable (with_scope n new)
scope_reaches n new here all =
    whole_node (with_scope n new)
    (each_replaced scope_endpoints (scope_in_place_of new) n.scopes
    (λ s before. by_test (λ (x : ScopeState). EachReachable (scope_endpoints x)) (same_id s.id new.id) new s (λ _. here) (λ _. before))
    (in_scopes n all)) (in_parts n all)

lone_reaches : (n : NodeState) (new : Part) → EachReachable (part_endpoints new) → AllReachable n → AllReachable (with_lone n new)
lone_reaches n new here all =
    whole_node (with_lone n new) (in_scopes n all)
    (each_replaced part_endpoints (part_in_place_of new) n.parts
    (λ p before. by_test (λ (x : Part). EachReachable (part_endpoints x)) (same_id p.id new.id) new p (λ _. here) (λ _. before))
    (in_parts n all))

kept_reaches : (n : NodeState) (s new : ScopeState) → Among n.scopes s → SameKept s new → AllReachable n → AllReachable (with_scope n new)
kept_reaches n s new among kept all =
    let same = kept.endpoints in
    scope_reaches n new (subst EachReachable (sym same) (of_scope n s all among)) all

with_up_reaches : (s : ScopeState) (q : Part) → EachReachable (part_endpoints q) → EachReachable (scope_endpoints s)
    → EachReachable (scope_endpoints (with_up s q))
with_up_reaches s q here all =
    all_append IsReachable (ups_of (Some q)) (participants_of s.ends) (all_append IsReachable (part_endpoints q) [] here tt)
    (all_right IsReachable (ups_of s.up) (participants_of s.ends) all)

part_reaches : (n : NodeState) (id : Id) (place : PartPlace) (p : Part) (f : Part → Part) → Stands n id place p
    → (EachReachable (part_endpoints p) → EachReachable (part_endpoints (f p))) → AllReachable n
    → AllReachable (with_part_changed n place f)
part_reaches n id nowhere p f stands keeps all = absurd stands
part_reaches n id (lone q) p f stands keeps all =
    let among : Among n.parts p = subst (λ (x : Part). Among n.parts x) stands.1 stands.0.part in
    subst (λ (x : Part). AllReachable (with_lone n (f x))) (sym stands.1) (lone_reaches n (f p) (keeps (of_lone n p all among)) all)
part_reaches n id (upward s q) p f stands keeps all =
    let before = of_scope n s all stands.0.scope in
    let up = of_up s p (stands.0.up ∙ ap Some stands.1) before in
    subst (λ (x : Part). AllReachable (with_scope n (with_up s (f x)))) (sym stands.1)
    (scope_reaches n (with_up s (f p)) (with_up_reaches s (f p) (keeps up) before) all)

scope_made : (n : NodeState) (s : ScopeState) → EachReachable (scope_endpoints s) → AllReachable n → AllReachable (with_new_scope n s)
scope_made n s own all = whole_node (with_new_scope n s) (one_more scope_endpoints n.scopes s (in_scopes n all) own) (in_parts n all)

part_made : (n : NodeState) (p : Part) → EachReachable (part_endpoints p) → AllReachable n → AllReachable (with_new_part n p)
part_made n p own all = whole_node (with_new_part n p) (in_scopes n all) (one_more part_endpoints n.parts p (in_parts n all) own)

end_enrolled_reaches : (s : ScopeState) (id : Id) (protocol : Protocol) (participant : Epr) → IsReachable participant
    → EachReachable (scope_endpoints s)
    → EachReachable (scope_endpoints (scope_with_end s id protocol participant))
end_enrolled_reaches s id protocol participant here all =
    all_append IsReachable (ups_of s.up) (participants_of (s.ends ++ new_end id protocol participant ∷ []))
    (all_left IsReachable (ups_of s.up) (participants_of s.ends) all)
    (with_last s.ends (all_right IsReachable (ups_of s.up) (participants_of s.ends) all))
  where
    with_last : (es : List End) → EachReachable (participants_of es)
        → EachReachable (participants_of (es ++ new_end id protocol participant ∷ []))
    with_last [] all = (here, tt)
    with_last (e ∷ es) all = (all.0, with_last es all.1)

-- ---- each step

abbrev Reaching : NodeStep → Type 0
Reaching step = AllReachable step.after

abbrev ReachingByTick : TickStep → Type 0
ReachingByTick step = AllReachable step.after

reachable : (e : Epr) → Fits e → is_dialable e.address ≡ true → IsReachable e
reachable e fits dialable = record { fits = fits; dialable = dialable }

input_reaches : (n : NodeState) (now : ℕ) (i : Input) → AllByRecursion Fits (input_endpoints i) → AllReachable n
    → Reaching (node_step n now i)
input_reaches n now (input.Create expires current kind protocol) fit all =
    create_cases Reaching n now expires current kind protocol (λ r. all)
    (λ k is root. scope_made n (new_scope (next_id n 1) k (deadline_after now expires) None) tt all)
    (λ k c is of alike dialable.
    let own : EachReachable (c.registration ∷ []) = (reachable c.registration (child_fits current c of fit) dialable, tt) in
    scope_made n (new_scope (next_id n 1) k (deadline_after now expires) (Some (new_part (next_id n 2) protocol c.registration))) own all)
  where
    child_fits : (o : Option Context) (c : Context) → o ≡ Some c
        → AllByRecursion Fits (input_endpoints (input.Create expires o kind protocol))
        → Fits c.registration
    child_fits None c is fit = cc
    child_fits (Some d) c is fit = let same : d ≡ c = cc in subst (λ (x : Context). Fits x.registration) same fit.0
input_reaches n now (input.Register scope protocol participant) fit all =
    register_cases Reaching n scope protocol participant (λ r. all) (λ s known registers.
    let among = (scope_found n scope s registers.here).0 in
    scope_reaches n (scope_with_end s (next_id n 1) known participant)
    (end_enrolled_reaches s (next_id n 1) known participant (reachable participant fit.0 registers.dialable) (of_scope n s all among))
    all)
input_reaches n now (input.Join protocol registration) fit all =
    join_cases Reaching n protocol registration (λ r. all) (λ dialable.
    let own : EachReachable (registration ∷ []) = (reachable registration fit.0 dialable, tt) in
    part_made n (new_part (next_id n 1) protocol registration) own all)
input_reaches n now (input.Enrolled id coordinator) fit all =
    enrolled_cases Reaching n id coordinator (λ r. all) (λ place p stands registering dialable.
    part_reaches n id place p (enrolled_part coordinator) stands (λ before. (before.0, (reachable coordinator fit.0 dialable, tt))) all)
input_reaches n now (input.RefusedBy id c) fit all =
    refused_cases Reaching n id c (λ r. all)
    (λ place p number stands registering is. part_reaches n id place p refused_part stands (λ before. before) all)
input_reaches n now (input.Notice Coordinator id m) fit all =
    end_notice_cases Reaching n id m (λ r. all) (λ shown prompt. all)
    (λ at stands owes asks. kept_reaches n at.scope _ stands.scope (end_changed at.scope at.end.id end_owing owing_who) all)
    (λ at next prompt stands row other. kept_reaches n at.scope _ stands.scope
    (end_changed at.scope at.end.id (end_after_notice m) (notice_who m)) all)
input_reaches n now (input.Notice Participant id m) fit all =
    part_notice_cases Reaching n id m (λ r. all) (λ shown prompt. all)
    (λ place p stands hears asks owes. part_reaches n id place p part_owing stands (λ before. before) all)
    (λ p next prompt stands hears row other. lone_reaches n (part_in_state next p) (of_lone n p all stands.part) all)
    (λ s p next prompt stands hears row other. kept_reaches n s (with_up_moved s p next) stands.scope (moved_own s p next stands.up) all)
input_reaches n now (input.Act id a) fit all =
    act_cases Reaching n id a (λ r. all) (λ p next stands acts. lone_reaches n (part_in_state next p) (of_lone n p all stands.part) all)
input_reaches n now (input.Ask id) fit all =
    ask_cases Reaching n id (λ r. all)
    (λ at stands asks. kept_reaches n at.scope _ stands.scope (end_changed at.scope at.end.id end_asking asking_who) all)
    (λ place p none stands hears asks. part_reaches n id place p part_asking stands (λ before. before) all)
input_reaches n now (input.Decide id v) fit all =
    on_decide_cases Reaching n id v (λ r. all) (λ s here ok. kept_reaches n s _ (scope_found n id s here).0 (decide_own s v) all)
input_reaches n now (input.Choose id v) fit all =
    on_choose_cases Reaching n id v (λ r. all) (λ at stands ok. kept_reaches n at.scope _ stands.scope (choose_own at.scope id v) all)
input_reaches n now (input.Complete id) fit all =
    on_complete_cases Reaching n id (λ r. all) (λ at stands ok. kept_reaches n at.scope _ stands.scope (complete_own at.scope id) all)
input_reaches n now (input.Finish id) fit all =
    on_finish_cases Reaching n id (λ r. all) (λ s up here is ok. kept_reaches n s _ (scope_found n id s here).0 (finish_own s) all)
input_reaches n now (input.Leave id how) fit all =
    on_leave_cases Reaching n id how (λ r. all) (λ s up here is ok. kept_reaches n s _ (scope_found n id s here).0 (leave_own s how) all)

tick_reaches : (n : NodeState) (now : ℕ) (id : Id) → AllReachable n → ReachingByTick (tick_step n now id)
tick_reaches n now id all =
    tick_cases ReachingByTick n now id (λ l. all)
    (λ s here expired. kept_reaches n s _ (scope_found n id s here).0 (expire_own s now) all)
    (λ at w no_scope stands ticks. kept_reaches n at.scope _ stands.scope
    (end_changed at.scope at.end.id (λ it. (tick_of_end it).after) tick_who) all)
    (λ p no_scope no_end stands hears talks.
    let before = of_lone n p all stands.part in
    lone_reaches n (tick_of_part p).after (ticked_part (λ (q : Part). EachReachable (part_endpoints q)) p before before before) all)
    (λ s p w no_scope no_end stands hears moves. kept_reaches n s _ stands.scope (tick_up_own s) all)

pub step_reaches : (n : NodeState) (e : Event) → GivesFit e → AllReachable n → AllReachable (change n e).after
step_reaches n (given now i) fit all = input_reaches n now i fit all
step_reaches n (ticked now id) fit all = tick_reaches n now id all
step_reaches n formatted fit all = all

pub new_reaches : (number : ℕ) (base : List ℕ) → AllReachable (new_node number base)
new_reaches number base = tt

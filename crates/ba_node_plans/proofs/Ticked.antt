-- The plans of ticks: what an object says, and what changes where it stands.
use Rattle.std.proofs.Common.{◌≡◌, ℕ, ◌+◌, ◌*◌, ◌^◌, ◌<◌, Bool, true, false, not, ◌||◌, ◌&&◌, Option, None, Some, refl, sym, ap, ◌∙◌, subst}
use Rattle.std.proofs.Common.{if◌then◌else◌, arith}
use Rattle.std.specs.Option.{option_map}
use Rattle.ba_core.specs.PartRows.{part_says}
use Rattle.ba_core.specs.declared.identifiers.Id.{Id}
use Rattle.ba_core.specs.declared.notices.Notice.{Notice}
use Rattle.ba_core.specs.declared.states.CState.{CState}
use Rattle.ba_core.specs.declared.states.PState.{PState}
use Rattle.ba_message.specs.declared.messages.Letter.{Letter}
use Rattle.ba_node_objects.specs.Changes.{changed_node, changed_part}
use Rattle.ba_node_objects.specs.Finds.{FindsEnd, FindsLone, FindsScope, FindsUp, end_at}
use Rattle.ba_node_objects.specs.declared.changes.Change.TheVariants as changes
use Rattle.ba_node_objects.specs.declared.changes.PartChange.TheVariants as by_part
use Rattle.ba_node_objects.specs.declared.changes.ScopeChange.TheVariants as by_scope
use Rattle.ba_node_plans.proofs.Asked.{true_branch}
use Rattle.ba_node_plans.proofs.Placed.{among_at, lone_placed}
use Rattle.ba_node_plans.proofs.Planned.{found_step, none_step, scope_in_place}
use Rattle.ba_node_plans.specs.inside.Ticking.{end_changes, part_talks, wake_at_end}
use Rattle.ba_scope.proofs.Calls.{ticked_part}
use Rattle.ba_scope.proofs.Lists.{false_branch, some_branch}
use Rattle.ba_scope_ends.specs.Ends.{Tick, end_with_id, tick_of_end}
use Rattle.ba_scope_ends.specs.Parts.{tick_of_part}
use Rattle.ba_scope.specs.Rules.{expire, state_at_tick, tick_end, tick_up, with_end_changed}
use Rattle.ba_scope.specs.Scope.{ScopeState}
use Rattle.ba_scope_ends.specs.declared.ends.End.{End}
use Rattle.ba_scope_ends.specs.declared.parts.Part.{Part}
use Rattle.ba_node_steps.proofs.Objects.{end_here, lone_here, up_here}
use Rattle.ba_node_steps.proofs.Own.{end_changed, expire_own, tick_up_own, tick_who}
use Rattle.ba_node_steps.proofs.Places.{end_found}
use Rattle.ba_node_steps.specs.Fits.{IsIdAt}
use Rattle.ba_node_steps.specs.Node.{NodeState, PartPlace, end_place, lone, part_place, scope_with_id, upward, with_scope}
use Rattle.ba_node_steps.specs.Steps.{if_found, is_registering_state, same_part_state}
use Rattle.ba_node_steps.specs.Ticks.{TickStep, end_letter, letter_step, part_letter, register_letter, tick_at_end, tick_at_part, tick_at_scope}
use Rattle.ba_node_steps.specs.Ticks.{tick_lone, tick_step, tick_upward, ticked_step}
use Rattle.ba_node_steps.specs.declared.answers.Wake.TheVariants as wake

-- ---- an object's identifier has 96 bits

is_short : (node : ℕ) (id : Id) → IsIdAt node id → id.0 < 2 ^ 96
is_short node id at =
    let spelled : id.0 ≡ node * 2 ^ 64 + at.counter = at.spelled in
    let counter : at.counter < 2 ^ 64 = at.is_counter.1 in
    let number : node < 2 ^ 32 = at.is_number in
    omega arith

pub end_short : (n : NodeState) (id : Id) (place : ℕ) (s : ScopeState) (e : End) → FindsEnd n id place s e → e.id.0 < 2 ^ 96
end_short n id place s e finds =
    let stands = end_found n id (end_at s e) finds.placed in
    is_short n.number e.id (end_here n s e finds.node stands.scope stands.end)

pub lone_short : (n : NodeState) (id : Id) (place : ℕ) (p : Part) → FindsLone n id place p → p.id.0 < 2 ^ 96
lone_short n id place p finds = is_short n.number p.id (lone_here n p finds.node (among_at n.parts place p finds.at))

pub up_short : (n : NodeState) (id : Id) (place : ℕ) (s : ScopeState) (p : Part) → FindsUp n id place s p → p.id.0 < 2 ^ 96
up_short n id place s p finds = is_short n.number p.id (up_here n s p finds.node (among_at n.scopes place s finds.at) finds.up)

-- ---- a scope

pub scope_waits : (n : NodeState) (s : ScopeState) (now : ℕ) → (expire s now).answer ≡ false → letter_step n None ≡ tick_at_scope n s now
scope_waits n s now is = sym (false_branch (expire s now).answer _ (letter_step n None) is)

pub scope_expires : (n : NodeState) (id : Id) (place : ℕ) (s : ScopeState) (now : ℕ) → FindsScope n id place s
    → (expire s now).answer ≡ true
    → ticked_step (changed_node n (changes.Scope place (by_scope.Expire now))) None s.id (wake.Scope s.id) ≡ tick_at_scope n s now
scope_expires n id place s now finds is =
    let node = scope_in_place n place s (expire s now).after (by_scope.Expire now) finds.node finds.at refl (expire_own s now).own in
    ap (λ (m : NodeState). ticked_step m None s.id (wake.Scope s.id)) node
    ∙ sym (true_branch (expire s now).answer _ (letter_step n None) is)

-- ---- an end

pub end_says : (n : NodeState) (s : ScopeState) (e : End) (next : CState) (says : Option Notice) (l : Option Letter)
    → next ≡ (tick_of_end e).after.state → says ≡ (tick_of_end e).says → l ≡ end_letter e says → end_changes e next ≡ false
    → letter_step n l ≡ tick_at_end n s e
end_says n s e next says l next_is says_is l_is stays =
    let letter : l ≡ end_letter e (tick_of_end e).says = l_is ∙ ap (end_letter e) says_is in
    let same : end_changes e (tick_of_end e).after.state ≡ false = sym (ap (end_changes e) next_is) ∙ stays in
    ap (letter_step n) letter
    ∙ sym (false_branch (end_changes e (tick_of_end e).after.state) _ (letter_step n (end_letter e (tick_of_end e).says)) same)

abbrev ticked : End → End
ticked it = (tick_of_end it).after

pub end_ticks : (n : NodeState) (id : Id) (place : ℕ) (s : ScopeState) (e : End) (next : CState) (says : Option Notice)
    (l : Option Letter) → FindsEnd n id place s e
    → next ≡ (tick_of_end e).after.state → says ≡ (tick_of_end e).says → l ≡ end_letter e says → end_changes e next ≡ true
    → ticked_step (changed_node n (changes.Scope place (by_scope.EndTick id))) l id (wake_at_end s e next) ≡ tick_at_end n s e
end_ticks n id place s e next says l finds next_is says_is l_is moves =
    let letter : l ≡ end_letter e (tick_of_end e).says = l_is ∙ ap (end_letter e) says_is in
    let differs : end_changes e (tick_of_end e).after.state ≡ true = sym (ap (end_changes e) next_is) ∙ moves in
    let found : end_with_id s.ends e.id ≡ Some e = subst (λ (i : Id). end_with_id s.ends i ≡ Some e) (sym finds.is) finds.found in
    let after : (tick_end s e.id).after ≡ with_end_changed e.id ticked s =
    ap (λ (t : Tick ScopeState). t.after) (some_branch (end_with_id s.ends e.id) _ _ e found) in
    let node = scope_in_place n place s (with_end_changed e.id ticked s) (by_scope.EndTick e.id) finds.node finds.at after
    (end_changed s e.id ticked tick_who).own in
    ap (λ (i : Id). ticked_step (changed_node n (changes.Scope place (by_scope.EndTick i))) l i (wake_at_end s e next)) (sym finds.is)
    ∙ (λ i. ticked_step (node i) (letter i) e.id (wake_at_end s e (next_is i)))
    ∙ sym (true_branch (end_changes e (tick_of_end e).after.state) _ (letter_step n (end_letter e (tick_of_end e).says)) differs)

-- ---- a participant

pub lone_registers : (n : NodeState) (p : Part) → is_registering_state p.state ≡ true
    → letter_step n (Some (register_letter n p)) ≡ tick_at_part n (lone p)
lone_registers n p registers = sym (true_branch (is_registering_state p.state) _ (tick_lone n p) registers)

pub lone_registered : (n : NodeState) (p : Part) → is_registering_state p.state ≡ false → tick_lone n p ≡ tick_at_part n (lone p)
lone_registered n p gone = sym (false_branch (is_registering_state p.state) _ (tick_lone n p) gone)

pub up_registers : (n : NodeState) (s : ScopeState) (p : Part) → is_registering_state p.state ≡ true
    → letter_step n (Some (register_letter n p)) ≡ tick_at_part n (upward s p)
up_registers n s p registers = sym (true_branch (is_registering_state p.state) _ (tick_upward n s p) registers)

pub up_registered : (n : NodeState) (s : ScopeState) (p : Part) → is_registering_state p.state ≡ false
    → tick_upward n s p ≡ tick_at_part n (upward s p)
up_registered n s p gone = sym (false_branch (is_registering_state p.state) _ (tick_upward n s p) gone)

-- ---- a lone one

pub lone_says : (n : NodeState) (p : Part) (says : Option Notice) (l : Option Letter) → says ≡ part_says p.state
    → l ≡ part_letter p says → part_talks p ≡ false → letter_step n l ≡ tick_lone n p
lone_says n p says l says_is l_is quiet =
    ap (letter_step n) (l_is ∙ ap (part_letter p) says_is)
    ∙ sym (false_branch (part_talks p) _ (letter_step n (part_letter p (part_says p.state))) quiet)

pub lone_ticks : (n : NodeState) (id : Id) (place : ℕ) (p : Part) (says : Option Notice) (l : Option Letter)
    → FindsLone n id place p → says ≡ (tick_of_part p).says → l ≡ part_letter p says → part_talks p ≡ true
    → ticked_step (changed_node n (changes.Part place by_part.Tick)) l id wake.Nobody ≡ tick_lone n p
lone_ticks n id place p says l finds says_is l_is talks =
    let letter : l ≡ part_letter p (tick_of_part p).says = l_is ∙ ap (part_letter p) says_is in
    let own : (tick_of_part p).after.id ≡ p.id = ticked_part (λ (q : Part). q.id ≡ p.id) p refl refl refl in
    let node = lone_placed n place p (changed_part by_part.Tick) finds.node finds.at own in
    (λ i. ticked_step (node i) (letter i) (sym finds.is i) wake.Nobody)
    ∙ sym (true_branch (part_talks p) _ (letter_step n (part_letter p (part_says p.state))) talks)

-- ---- a scope's own

abbrev up_step : NodeState → ScopeState → Part → Tick ScopeState → Bool → Bool → TickStep
up_step n s up tick talks same =
    let acts : Bool = not talks && not same in
    if talks || acts
    then ticked_step (with_scope n tick.after) (part_letter up tick.says) up.id (if acts then wake.One up.id else wake.Nobody)
    else letter_step n (part_letter up tick.says)

pub up_talks : (n : NodeState) (id : Id) (place : ℕ) (s : ScopeState) (up : Part) (says : Option Notice) (l : Option Letter)
    → FindsUp n id place s up → says ≡ (tick_up s).says → l ≡ part_letter up says → part_talks up ≡ true
    → ticked_step (changed_node n (changes.Scope place by_scope.UpTick)) l id wake.Nobody ≡ tick_upward n s up
up_talks n id place s up says l finds says_is l_is talks =
    let same : Bool = same_part_state up.state (state_at_tick s up) in
    let letter : l ≡ part_letter up (tick_up s).says = l_is ∙ ap (part_letter up) says_is in
    let node = scope_in_place n place s (tick_up s).after by_scope.UpTick finds.node finds.at refl (tick_up_own s).own in
    (λ i. ticked_step (node i) (letter i) (sym finds.is i) wake.Nobody)
    ∙ ap (λ b. up_step n s up (tick_up s) b same) (sym talks)

pub up_says : (n : NodeState) (s : ScopeState) (up : Part) (says : Option Notice) (l : Option Letter)
    → says ≡ (tick_up s).says → l ≡ part_letter up says → part_talks up ≡ false
    → same_part_state up.state (state_at_tick s up) ≡ true → letter_step n l ≡ tick_upward n s up
up_says n s up says l says_is l_is quiet stays =
    ap (letter_step n) (l_is ∙ ap (part_letter up) says_is)
    ∙ (λ i. up_step n s up (tick_up s) (sym quiet i) (sym stays i))

pub up_acts : (n : NodeState) (id : Id) (place : ℕ) (s : ScopeState) (up : Part) (says : Option Notice) (l : Option Letter)
    → FindsUp n id place s up → says ≡ (tick_up s).says → l ≡ part_letter up says → part_talks up ≡ false
    → same_part_state up.state (state_at_tick s up) ≡ false
    → ticked_step (changed_node n (changes.Scope place by_scope.UpTick)) l id (wake.One id) ≡ tick_upward n s up
up_acts n id place s up says l finds says_is l_is quiet moves =
    let letter : l ≡ part_letter up (tick_up s).says = l_is ∙ ap (part_letter up) says_is in
    let node = scope_in_place n place s (tick_up s).after by_scope.UpTick finds.node finds.at refl (tick_up_own s).own in
    (λ i. ticked_step (node i) (letter i) (sym finds.is i) (wake.One (sym finds.is i)))
    ∙ (λ i. up_step n s up (tick_up s) (sym quiet i) (sym moves i))

-- the state in which it ticks, as the scope tells it
pub next_is : (s : ScopeState) (up : Part) (next : PState) → ◌≡◌ {A = Option PState} (Some next) (option_map (state_at_tick s) s.up)
    → s.up ≡ Some up → next ≡ state_at_tick s up
next_is s up next is up_is =
    let both : ◌≡◌ {A = Option PState} (Some next) (Some (state_at_tick s up)) = is ∙ ap (option_map (state_at_tick s)) up_is in
    cc

pub next_is_there : (s : ScopeState) (up : Part) → ◌≡◌ {A = Option PState} None (option_map (state_at_tick s) s.up) → s.up ≡ Some up → ⊥
next_is_there s up is up_is =
    let both : ◌≡◌ {A = Option PState} None (Some (state_at_tick s up)) = is ∙ ap (option_map (state_at_tick s)) up_is in
    cc

-- ---- the object with this identifier

abbrev others : NodeState → Id → TickStep
others n id = if_found (end_place n id) (tick_at_part n (part_place n id)) (λ at. tick_at_end n at.scope at.end)

pub ticks_scope : (n : NodeState) (now : ℕ) (id : Id) (place : ℕ) (s : ScopeState) → FindsScope n id place s
    → tick_at_scope n s now ≡ tick_step n now id
ticks_scope n now id place s finds = found_step (scope_with_id n id) (others n id) (λ s. tick_at_scope n s now) s finds.found

ticks_other : (n : NodeState) (now : ℕ) (id : Id) → scope_with_id n id ≡ None → others n id ≡ tick_step n now id
ticks_other n now id none = none_step (scope_with_id n id) (others n id) (λ s. tick_at_scope n s now) none

pub ticks_end : (n : NodeState) (now : ℕ) (id : Id) (place : ℕ) (s : ScopeState) (e : End) → scope_with_id n id ≡ None
    → FindsEnd n id place s e → tick_at_end n s e ≡ tick_step n now id
ticks_end n now id place s e none finds =
    found_step (end_place n id) (tick_at_part n (part_place n id)) (λ at. tick_at_end n at.scope at.end) (end_at s e) finds.placed
    ∙ ticks_other n now id none

pub ticks_part : (n : NodeState) (now : ℕ) (id : Id) (place : PartPlace) → scope_with_id n id ≡ None → end_place n id ≡ None
    → part_place n id ≡ place → tick_at_part n place ≡ tick_step n now id
ticks_part n now id place no_scope no_end is =
    ap (tick_at_part n) (sym is)
    ∙ none_step (end_place n id) (tick_at_part n (part_place n id)) (λ at. tick_at_end n at.scope at.end) no_end
    ∙ ticks_other n now id no_scope

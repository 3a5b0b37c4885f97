-- What each tick of a node is to the links of its objects, and who writes its letter; for the law that each step of a node is moves
-- of its links.
use Rattle.std.proofs.Common.{◌≡◌, inl, inr, ℕ, Bool, true, false, not, ◌&&◌, ◌||◌, List, [], ◌∷◌, map, nat_eq, slice_get, Option, None}
use Rattle.std.proofs.Common.{Some, refl, sym, ap, ◌∙◌, subst, arith, true≢false, if◌then◌else◌}
use Rattle.std.specs.Option.{option_map}
use Rattle.std.proofs.lemmas.Bool.Decides.{nat_tests}
use Rattle.ba_core.specs.EndRows.{end_tick}
use Rattle.ba_core.specs.PartRows.{part_says}
use Rattle.ba_core.specs.declared.identifiers.Id.{Id}
use Rattle.ba_core.specs.declared.notices.Notice.{Notice}
use Rattle.ba_core.specs.declared.notices.Notice.TheVariants as notice
use Rattle.ba_core.specs.declared.states.How.TheVariants.{Canceled}
use Rattle.ba_core.specs.declared.states.CState.{CState}
use Rattle.ba_core.specs.declared.states.CState.TheVariants as end
use Rattle.ba_core.specs.declared.states.PState.{PState}
use Rattle.ba_core.specs.declared.states.PState.TheVariants as part
use Rattle.ba_link.specs.Link.{Message, to_part}
use Rattle.ba_link.specs.States.{end_number, part_number}
use Rattle.ba_link.proofs.Everywhere.{ends, parts}
use Rattle.ba_message.specs.Endpoints.{same_epr}
use Rattle.ba_message.specs.declared.endpoints.Epr.{Epr}
use Rattle.ba_message.specs.declared.messages.Letter.{Letter}
use Rattle.ba_message.proofs.FitTests.{endpoints_equal}
use Rattle.ba_scope.proofs.Calls.{ticked_part}
use Rattle.ba_scope.proofs.Lists.{by_test, false_branch, not_true, some_branch}
use Rattle.ba_scope.proofs.Sealed.{stays_sealed}
use Rattle.ba_scope.specs.Calls.{by_up_tick}
use Rattle.ba_scope_ends.specs.Ends.{Tick, end_in_state, tick_of_end, end_of, same_id}
use Rattle.ba_scope_ends.specs.Parts.{part_in_state, tick_of_part}
use Rattle.ba_scope.specs.Rules.{changed_at, expire, part_at_tick, state_at_tick, tick_up, with_end_changed, with_up}
use Rattle.ba_scope.specs.Scope.{ScopeState, is_sealed, takes_no_more}
use Rattle.ba_scope_ends.specs.declared.ends.End.{End}
use Rattle.ba_scope_ends.specs.declared.parts.Part.{Part}
use Rattle.ba_node_steps.specs.Fits.{NodeFits}
use Rattle.ba_node_steps.specs.Node.{Among, HasPart, NodeState, with_scope}
use Rattle.ba_node_steps.specs.Steps.{is_registering_state, same_end_state, same_part_state}
use Rattle.ba_node_steps.specs.Ticks.{end_letter, part_letter, tick_step}
use Rattle.ba_node_steps.proofs.Cases.{SentOnly, end_ticks, nothing, of_end, of_lone, of_registering, of_up, tick_letters, up_acts, up_talks}
use Rattle.ba_node_steps.proofs.Members.{number_is_same, same_id_is}
use Rattle.ba_node_steps.proofs.Objects.{one_end, scope_fits}
use Rattle.ba_node_steps.proofs.Places.{UpStands, scope_found}
use Rattle.ba_scope.proofs.ScopeCases.{neither_left, neither_right}
use Rattle.ba_world_runs.specs.Links.{link_state}
use Rattle.ba_world_runs.proofs.Goes.{some_same}
use Rattle.ba_world_runs.proofs.LinkMoves.{KeepsOwner, takes_no_less}
use Rattle.ba_world_runs.proofs.Owners.{one_participant}
use Rattle.ba_world_runs.proofs.Strides.{Above, Below, Change, EndHears, IsSaidAt, IsSaidBy, SaidAgain, SaysAtMost, Sends, Speech, Strides}
use Rattle.ba_world_runs.proofs.Strides.{TickChanges, end_writes, no_object, one_lone, one_scope, part_registers, said_by, said_to, silent}
use Rattle.ba_world_runs.proofs.Strides.{up_strides_change, up_strides_stay}
use Rattle.ba_world_runs.proofs.StridesAbove.{part_letter_sent, part_speech, registers_above, says_above, speech_to, ticks_above, up_says_again}
use Rattle.ba_world_runs.proofs.StridesAbove.{up_ticks_above}
use Rattle.ba_world_runs.proofs.StridesBelow.{end_ticked, one_end_changes, only_sealed}
use Rattle.ba_world_runs.proofs.StridesOfInputs.{scope_changes}
use Rattle.ba_world_runs.proofs.StridesOfScopes.{expire_strides, found_end}

-- ---- states that have one number are one

end_placed : (s : CState) → slice_get ends (end_number s) ≡ Some s
end_placed (end.Ended Canceled) = refl
end_placed s = refl

part_placed : (p : PState) → slice_get parts (part_number p) ≡ Some p
part_placed (part.Ended Canceled) = refl
part_placed p = refl

same_number : (a b : ℕ) → (nat_eq a b || false) ≡ true → a ≡ b
same_number a b h = grind (arith, nat_tests)

end_states_equal : (a b : CState) → same_end_state a b ≡ true → b ≡ a
end_states_equal a b h =
    some_same b a (sym (end_placed b) ∙ ap (slice_get ends) (same_number (end_number b) (end_number a) h) ∙ end_placed a)

part_states_equal : (a b : PState) → same_part_state a b ≡ true → b ≡ a
part_states_equal a b h =
    some_same b a (sym (part_placed b) ∙ ap (slice_get parts) (same_number (part_number b) (part_number a) h) ∙ part_placed a)

-- ---- an end ticks

-- what an end says by this notice
abbrev end_speech : End → Option Notice → Speech
end_speech e None = silent
end_speech e (Some m) = end_writes e m

end_letter_sent : (n : NodeState) (e : End) (says : Option Notice) → Sends n (end_speech e says) (end_letter e says)
end_letter_sent n e None = refl
end_letter_sent n e (Some m) = refl

end_said_at : (s : ScopeState) (e : End) (says : Option Notice) → Among s.ends e → IsSaidAt s (end_speech e says)
end_said_at s e None among = tt
end_said_at s e (Some m) among = among

end_not_above : (e : End) (says : Option Notice) → said_by (end_speech e says) ≡ None
end_not_above e None = refl
end_not_above e (Some m) = refl

end_said_to : (e : End) (says : Option Notice) (here : Epr) → SaysAtMost (said_to (end_speech e says) here) (option_map to_part says)
end_said_to e None here = inl refl
end_said_to e (Some m) here =
    by_test (λ (x : Option Message). SaysAtMost x (Some (to_part m))) (same_epr e.participant here) (Some (to_part m)) None
    (λ _. inr refl) (λ _. inl refl)

-- to another endpoint it says nothing
not_said_to : (e : End) (says : Option Notice) (here : Epr) → same_epr e.participant here ≡ false → said_to (end_speech e says) here ≡ None
not_said_to e None here other = refl
not_said_to e (Some m) here other = false_branch (same_epr e.participant here) (Some (to_part m)) None other

end_tick_keeps : KeepsOwner (λ it. (tick_of_end it).after)
end_tick_keeps e =
    by_test (λ (t : Tick End). t.after.participant ≡ e.participant) e.owes _ _ (λ _. refl)
    (λ _. by_test (λ (t : Tick End). t.after.participant ≡ e.participant) e.asks
    (record { after = record e { asks = false }; says = Some notice.GetStatus })
    (record { after = end_in_state (end_tick e.state).0 e; says = (end_tick e.state).1 }) (λ _. refl) (λ _. refl))

-- where a participant has an end, one is found
none_found : (es : List End) (e : End) (here : Epr) → end_of es here ≡ None → Among es e → same_epr e.participant here ≡ true → ⊥
none_found [] e here none among same = among
none_found (x ∷ es) e here none among same =
    by_head (same_epr x.participant here) refl none among (λ h later. none_found es e here h later same)
  where
    by_head : (b : Bool) → same_epr x.participant here ≡ b → (if b then Some x else end_of es here) ≡ None → Among (x ∷ es) e
        → (end_of es here ≡ None → Among es e → ⊥) → ⊥
    by_head true is h at rest = absurd cc
    by_head false is h (inl one) rest = true≢false (sym (subst (λ (y : End). same_epr y.participant here ≡ true) (sym one) same) ∙ is)
    by_head false is h (inr later) rest = rest h later

-- the end of the participant with this endpoint is the one that has it
only_owner : (n : NodeState) (s : ScopeState) (e : End) (here : Epr) → NodeFits n → Among n.scopes s → Among s.ends e
    → same_epr e.participant here ≡ true → end_of s.ends here ≡ Some e
only_owner n s e here fits of among same = by_end (end_of s.ends here) refl
  where
    by_end : (o : Option End) → end_of s.ends here ≡ o → end_of s.ends here ≡ Some e
    by_end None is = absurd (none_found s.ends e here is among same)
    by_end (Some x) is =
        let found = found_end s here x is in
        let participants : x.participant ≡ e.participant =
        endpoints_equal x.participant here found.1 ∙ sym (endpoints_equal e.participant here same) in
        is ∙ ap Some (one_participant s.ends x e (scope_fits n s fits of).apart found.0 among participants)

-- the ticking end's link moves, and no other one hears of it
end_ticks_below : (n : NodeState) (s : ScopeState) (e : End) → NodeFits n → Among n.scopes s → Among s.ends e
    → Below None (end_speech e (tick_of_end e).says) s (with_end_changed e.id (λ it. (tick_of_end it).after) s)
end_ticks_below n s e fits of among p here own =
    let says : Option Message = said_to (end_speech e (tick_of_end e).says) here in
    one_end_changes (EndHears None s here) says s e.id (λ it. (tick_of_end it).after) p here end_tick_keeps
    (λ x is same.
    let ids : e.id.0 ≡ x.id.0 = ap (λ (i : Id). i.0) (sym (same_id_is x.id e.id same)) in
    let one : e ≡ x = (one_end n s s e x fits of of among (found_end s here x is).0 ids).1 in
    end_ticked (EndHears None s here) p.protocol x p.state (takes_no_more s) says
    (subst (λ (y : End). SaysAtMost says (option_map to_part (tick_of_end y).says)) one (end_said_to e (tick_of_end e).says here)))
    (λ x is other. elsewhere (λ here_too.
    let one : x ≡ e = some_same x e (sym is ∙ here_too) in
    true≢false (sym (number_is_same x.id e.id (ap (λ (y : End). y.id.0) one)) ∙ other)))
    (λ none. elsewhere (λ here_too. some_is_none e (sym here_too ∙ none)))
  where
    some_is_none : (x : End) → Some x ≡ None → ⊥
    some_is_none x h = absurd cc

    not_true_is : (b : Bool) → (b ≡ true → ⊥) → b ≡ false
    not_true_is true h = absurd (h refl)
    not_true_is false h = refl

    elsewhere : (end_of s.ends here ≡ Some e → ⊥) → said_to (end_speech e (tick_of_end e).says) here ≡ None
    elsewhere not_here =
        not_said_to e (tick_of_end e).says here
        (not_true_is (same_epr e.participant here) (λ same. not_here (only_owner n s e here fits of among same)))

-- an end that neither owes nor asks, and whose state stays, stays
still_end : (e : End) → end_ticks e ≡ false → (tick_of_end e).after ≡ e
still_end e h =
    let talks = neither_left (e.owes || e.asks) (not (same_end_state e.state (tick_of_end e).after.state)) h in
    let tick : tick_of_end e ≡ record { after = end_in_state (end_tick e.state).0 e; says = (end_tick e.state).1 } =
    false_branch e.owes _ _ (neither_left e.owes e.asks talks) ∙ false_branch e.asks _ _ (neither_right e.owes e.asks talks) in
    let after : (tick_of_end e).after ≡ end_in_state (end_tick e.state).0 e = ap (λ (t : Tick End). t.after) tick in
    let same = not_true (same_end_state e.state (tick_of_end e).after.state)
    (neither_right (e.owes || e.asks) (not (same_end_state e.state (tick_of_end e).after.state)) h) in
    let state : (tick_of_end e).after.state ≡ e.state = end_states_equal e.state (tick_of_end e).after.state same in
    after ∙ (λ i. record e { state = (sym (ap (λ (x : End). x.state) after) ∙ state) i })

-- a scope all whose ends stay
stays_whole : (n : NodeState) (s : ScopeState) (e : End) (f : End → End) → NodeFits n → Among n.scopes s → Among s.ends e → f e ≡ e
    → with_end_changed e.id f s ≡ s
stays_whole n s e f fits of among same = λ i. record s { ends = each s.ends (λ x there. one x there) i }
  where
    one : (x : End) → Among s.ends x → changed_at e.id f x ≡ x
    one x there = by_test (λ (y : End). y ≡ x) (same_id x.id e.id) (f x) x
        (λ is.
        let here : e ≡ x = (one_end n s s e x fits of of among there (ap (λ (i : Id). i.0) (sym (same_id_is x.id e.id is)))).1 in
        subst (λ (y : End). f y ≡ y) here same) (λ _. refl)

    each : (es : List End) → ((x : End) → Among es x → changed_at e.id f x ≡ x) → map (changed_at e.id f) es ≡ es
    each [] h = refl
    each (x ∷ es) h =
        let rest = each es (λ y later. h y (inr later)) in
        let head = h x (inl refl) in
        λ i. head i ∷ rest i

end_says_again : (n : NodeState) (s : ScopeState) (e : End) → NodeFits n → Among n.scopes s → Among s.ends e → end_ticks e ≡ false
    → SaidAgain None n (end_speech e (tick_of_end e).says)
end_says_again n s e fits of among still =
    by_says (tick_of_end e).says
    (subst (λ (t : ScopeState). Below None (end_speech e (tick_of_end e).says) s t)
    (stays_whole n s e (λ it. (tick_of_end it).after) fits of among (still_end e still)) (end_ticks_below n s e fits of among))
  where
    by_says : (says : Option Notice) → Below None (end_speech e says) s s → SaidAgain None n (end_speech e says)
    by_says None below = tt
    by_says (Some m) below = (s, of, among, below)

-- ---- a participant ticks

part_said_by : (p : Part) (o : Option Epr) (says : Option Notice) → p.coordinator ≡ o → IsSaidBy p (speech_to p o says)
part_said_by p None says keeps = tt
part_said_by p (Some to) None keeps = tt
part_said_by p (Some to) (Some m) keeps = (refl, keeps)

part_said_at : (s : ScopeState) (p : Part) (o : Option Epr) (says : Option Notice) → s.up ≡ Some p → p.coordinator ≡ o
    → IsSaidAt s (speech_to p o says)
part_said_at s p None says is keeps = tt
part_said_at s p (Some to) None is keeps = tt
part_said_at s p (Some to) (Some m) is keeps = (is, keeps)

-- it isn't said on links below
part_not_below : (p : Part) (o : Option Epr) (says : Option Notice) (here : Epr) → said_to (speech_to p o says) here ≡ None
part_not_below p None says here = refl
part_not_below p (Some to) None here = refl
part_not_below p (Some to) (Some m) here = refl

part_says_again : (n : NodeState) (p : Part) (o : Option Epr) (says : Option Notice) → HasPart n p → p.coordinator ≡ o
    → Above None (speech_to p o says) p p → SaidAgain None n (speech_to p o says)
part_says_again n p None says has keeps above = tt
part_says_again n p (Some to) None has keeps above = tt
part_says_again n p (Some to) (Some m) has keeps above = (has, keeps, above)

-- a participant says what its state lets it say
state_said : (n : NodeState) (p : Part) (l : Option Letter) → HasPart n p → is_registering_state p.state ≡ false
    → l ≡ part_letter p (part_says p.state)
    → (speech : Speech) × Sends n speech l × Change None speech n n
state_said n p l has registered is =
    let says : Option Notice = part_says p.state in (
      part_speech p says,
      subst (Sends n (part_speech p says)) (sym is) (part_letter_sent n p says),
      no_object refl (part_says_again n p p.coordinator says has refl (says_above None p registered)),
    )

tick_keeps_id : (p : Part) → (tick_of_part p).after.id ≡ p.id
tick_keeps_id p = ticked_part (λ (x : Part). x.id ≡ p.id) p refl refl refl

-- the tick of a scope that has an upward part
up_tick : (s : ScopeState) (p : Part) → s.up ≡ Some p
    → tick_up s ≡ record { after = with_up s (tick_of_part (part_at_tick s p)).after; says = (tick_of_part (part_at_tick s p)).says }
up_tick s p is = some_branch s.up _ _ p is

up_keeps_id : (s : ScopeState) (p : Part) → (tick_of_part (part_at_tick s p)).after.id ≡ p.id
up_keeps_id s p =
    tick_keeps_id (part_at_tick s p)
    ∙ by_test (λ (x : Part). x.id ≡ p.id) (p.owes || p.asks) p (part_in_state (state_at_tick s p) p) (λ _. refl) (λ _. refl)

-- what an upward part says whose scope stays
up_silent : (s : ScopeState) (p : Part) → s.up ≡ Some p → (up_talks p || up_acts s p) ≡ false → (tick_up s).says ≡ part_says p.state
up_silent s p is h =
    let talks = neither_left (up_talks p) (up_acts s p) h in
    let acts = neither_right (up_talks p) (up_acts s p) h in
    let same : same_part_state p.state (state_at_tick s p) ≡ true =
    stays_in (up_talks p) (same_part_state p.state (state_at_tick s p)) talks acts in
    ap (λ (t : Tick ScopeState). t.says) (up_tick s p is)
    ∙ up_says_again s p (neither_left p.owes p.asks talks) (neither_right p.owes p.asks talks)
    (part_states_equal p.state (state_at_tick s p) same)
  where
    stays_in : (talks same : Bool) → talks ≡ false → (not talks && not same) ≡ false → same ≡ true
    stays_in true same h k = absurd (true≢false h)
    stays_in false true h k = refl
    stays_in false false h k = absurd (true≢false k)

-- ---- each tick

-- who speaks, and what the tick is to the links
abbrev TickTo : NodeState → Option Letter → NodeState → Type 0
TickTo n l after = (speech : Speech) × Sends n speech l × Change None speech n after

-- a tick that changes nothing
sent_only : (n : NodeState) (id : Id) (l : Option Letter) → NodeFits n → SentOnly n id l → TickTo n l n
sent_only n id l fits (nothing is) = (silent, is, no_object refl tt)
sent_only n id l fits (of_end at stands still is) =
    let says : Option Notice = (tick_of_end at.end).says in (
      end_speech at.end says,
      subst (Sends n (end_speech at.end says)) (sym is) (end_letter_sent n at.end says),
      no_object refl (end_says_again n at.scope at.end fits stands.scope stands.end still),
    )
sent_only n id l fits (of_registering p has registering is) =
    (part_registers p, is, no_object refl (has, registers_above None p registering))
sent_only n id l fits (of_lone p stands registered still is) = state_said n p l (inl stands.part) registered is
sent_only n id l fits (of_up s p stands registered still is) =
    state_said n p l (inr (s, stands.scope, stands.up)) registered (is ∙ ap (part_letter p) (up_silent s p stands.up still))

-- the upward part of a scope talks, or acts
up_changes : (n : NodeState) (id : Id) (s : ScopeState) (p : Part) → UpStands n id s p → is_registering_state p.state ≡ false
    → TickTo n (part_letter p (tick_up s).says) (with_scope n (tick_up s).after)
up_changes n id s p stands registered =
    let q : Part = (tick_of_part (part_at_tick s p)).after in
    let says : Option Notice = (tick_of_part (part_at_tick s p)).says in
    let t : ScopeState = with_up s q in
    let tick : tick_up s ≡ record { after = t; says = says } = up_tick s p stands.up in
    let sealed : is_sealed s ≡ true → is_sealed t ≡ true =
    λ h. subst (λ (x : Tick ScopeState). is_sealed x.after ≡ true) tick (stays_sealed s by_up_tick h) in
    let below : Below None (part_speech p says) s t =
    λ x here own. subst (λ (said : Option Message). Strides (EndHears None s here) said (link_state x here s) (link_state x here t))
    (sym (part_not_below p p.coordinator says here))
    (only_sealed (EndHears None s here) s t x here refl (takes_no_less s t refl (omega arith) sealed)) in
    subst (λ (x : Tick ScopeState). TickTo n (part_letter p x.says) (with_scope n x.after)) (sym tick) (
      part_speech p says,
      part_letter_sent n p says,
      one_scope s t stands.scope refl refl (part_said_at s p p.coordinator says stands.up refl) below
          (up_strides_change None (part_speech p says) s.up p q stands.up (up_keeps_id s p) (up_ticks_above None s p registered)),
    )

pub tick_changes : (n : NodeState) (now : ℕ) (id : Id) → NodeFits n → TickChanges n (tick_step n now id)
tick_changes n now id fits =
    tick_letters (TickChanges n) n now id (λ l sent. sent_only n id l fits sent)
    (λ s here expired.
    let of = (scope_found n id s here).0 in (
      silent,
      refl,
      scope_changes None silent n s (expire s now).after of tt (expire_strides None s now (scope_fits n s fits of)),
    ))
    (λ at w no_scope stands ticks.
    let says : Option Notice = (tick_of_end at.end).says in (
      end_speech at.end says,
      end_letter_sent n at.end says,
      one_scope at.scope (with_end_changed at.end.id (λ it. (tick_of_end it).after) at.scope) stands.scope refl refl
          (end_said_at at.scope at.end says stands.end) (end_ticks_below n at.scope at.end fits stands.scope stands.end)
          (up_strides_stay None (end_speech at.end says) at.scope.up (end_not_above at.end says)),
    ))
    (λ p no_scope no_end stands registered talks.
    let says : Option Notice = (tick_of_part p).says in (
      part_speech p says,
      part_letter_sent n p says,
      one_lone p (tick_of_part p).after stands.part (tick_keeps_id p) refl (part_said_by p p.coordinator says refl)
          (ticks_above None p registered),
    ))
    (λ s p w no_scope no_end stands registered moves. up_changes n id s p stands registered)

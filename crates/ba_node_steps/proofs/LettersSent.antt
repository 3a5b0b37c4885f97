-- Each letter goes to an endpoint that the node keeps, and says who sends it; for the law letters_tell_their_senders.
use Rattle.std.proofs.Common.{Bool, false, ◌≡◌, ℕ, true, ◌||◌, [], ◌∷◌, Option, None, Some, refl, ap, subst}
use Rattle.std.specs.Option.{option_map, option_to_list}
use Rattle.ba_core.specs.PartRows.{part_says}
use Rattle.ba_core.specs.declared.identifiers.Id.{Id}
use Rattle.ba_core.specs.declared.notices.Notice.{Notice}
use Rattle.ba_message.specs.declared.endpoints.Epr.{Epr}
use Rattle.ba_message.specs.declared.messages.Letter.{Letter}
use Rattle.ba_scope.proofs.Calls.{by_option}
use Rattle.ba_scope.proofs.Lists.{by_test}
use Rattle.ba_scope_ends.specs.Ends.{tick_of_end, Tick, end_in_state}
use Rattle.ba_scope_ends.specs.Parts.{tick_of_part}
use Rattle.ba_scope.specs.Rules.{expire, tick_up, part_at_tick}
use Rattle.ba_scope.specs.Scope.{ScopeState}
use Rattle.ba_scope_ends.specs.declared.ends.End.{End}
use Rattle.ba_scope_ends.specs.declared.parts.Part.{Part}
use Rattle.ba_node_steps.specs.Endpoints.{AllReachable, IsReachable, part_endpoints}
use Rattle.ba_node_steps.specs.Node.{EndPlace, NodeState, PartPlace, end_place, part_place, scope_with_id}
use Rattle.ba_node_steps.specs.Steps.{if_found, is_registering_state}
use Rattle.ba_node_steps.specs.Ticks.{TickStep, end_letter, letter_step, notice_letter, part_letter, register_letter, tick_at_end, tick_at_part}
use Rattle.ba_node_steps.specs.Ticks.{tick_at_scope, tick_lone, tick_step, tick_upward}
use Rattle.ba_node_steps.proofs.Cases.{end_ticks, up_acts, up_talks}
use Rattle.ba_node_steps.proofs.Enacted.{some_is}
use Rattle.ba_node_steps.proofs.Places.{end_found, place_cases}
use Rattle.ba_core.specs.EndRows.{end_tick}
use Rattle.ba_core.specs.Messages.{end_name, notice_code, part_name}
use Rattle.ba_core.specs.declared.notices.Notice.TheVariants as notice
use Rattle.ba_core.specs.declared.states.How.TheVariants.{Canceled, Failed}
use Rattle.ba_core.specs.declared.states.CState.{CState}
use Rattle.ba_core.specs.declared.states.CState.TheVariants as end
use Rattle.ba_core.specs.declared.states.PState.{PState}
use Rattle.ba_core.specs.declared.states.PState.TheVariants as part
use Rattle.ba_node_steps.specs.Addresses.{message_number, participant_of, register_code}
use Rattle.ba_node_steps.specs.Letters.{IsLetterOf, is_known_notice}
use Rattle.ba_node_steps.proofs.EndpointsKept.{EachReachable, of_end, of_lone, of_scope, of_up}

-- ---- what is said names a state that is known

abbrev known_if_any : Option Notice → Bool
known_if_any None = true
known_if_any (Some m) = is_known_notice m

end_name_known : (s : CState) → is_known_notice (notice.Status (end_name s)) ≡ true
end_name_known (end.Ended how) = refl
end_name_known s = refl

part_name_known : (s : PState) → is_known_notice (notice.Status (part_name s)) ≡ true
part_name_known (part.Ended how) = refl
part_name_known s = refl

end_tick_known : (s : CState) → known_if_any (end_tick s).1 ≡ true
end_tick_known (end.Ended Failed) = refl
end_tick_known s = refl

part_says_known : (s : PState) → known_if_any (part_says s) ≡ true
part_says_known (part.Ended Canceled) = refl
part_says_known s = refl

end_says : (e : End) → known_if_any (tick_of_end e).says ≡ true
end_says e =
    by_test (λ (t : Tick End). known_if_any t.says ≡ true) e.owes _ _ (λ _. end_name_known e.state)
    (λ _. by_test (λ (t : Tick End). known_if_any t.says ≡ true) e.asks
    (record { after = record e { asks = false }; says = Some notice.GetStatus })
    (record { after = end_in_state (end_tick e.state).0 e; says = (end_tick e.state).1 }) (λ _. refl) (λ _. end_tick_known e.state))

part_tick_says : (p : Part) → known_if_any (tick_of_part p).says ≡ true
part_tick_says p =
    by_test (λ (t : Tick Part). known_if_any t.says ≡ true) p.owes _ _ (λ _. part_name_known p.state)
    (λ _. by_test (λ (t : Tick Part). known_if_any t.says ≡ true) p.asks
    (record { after = record p { asks = false }; says = Some notice.GetStatus })
    (record { after = p; says = part_says p.state }) (λ _. refl) (λ _. part_says_known p.state))

up_says : (s : ScopeState) → known_if_any (tick_up s).says ≡ true
up_says s =
    by_option (λ (t : Tick ScopeState). known_if_any t.says ≡ true) s.up (record { after = s; says = None }) _ (λ root. refl)
    (λ up is. part_tick_says (part_at_tick s up))

-- ---- one letter

-- where there is a letter, the object with this identifier sends it
abbrev Sends : NodeState → Id → Option Letter → Type 0
Sends n id o = (l : Letter) → o ≡ Some l → IsLetterOf n id l

no_letter : (n : NodeState) (id : Id) → Sends n id None
no_letter n id l h = absurd cc

one_letter : (n : NodeState) (id : Id) (k : Letter) → IsLetterOf n id k → Sends n id (Some k)
one_letter n id k sent l h = subst (IsLetterOf n id) (some_is k l h) sent

end_writes : (n : NodeState) (id : Id) (e : End) (says : Option Notice) → e.id ≡ id → IsReachable e.participant → known_if_any says ≡ true
    → Sends n id (end_letter e says)
end_writes n id e None is here known = no_letter n id
end_writes n id e (Some m) is here known =
    one_letter n id (notice_letter e.id e.participant m)
    (record { reachable = here; message = known; number = ap (message_number (notice_code m)) is })

part_writes : (n : NodeState) (id : Id) (p : Part) (says : Option Notice) → p.id ≡ id → EachReachable (part_endpoints p)
    → known_if_any says ≡ true
    → Sends n id (part_letter p says)
part_writes n id p None is kept known = no_letter n id
part_writes n id p (Some m) is kept known = by_coordinator p.coordinator refl
  where
    by_coordinator : (o : Option Epr) → p.coordinator ≡ o → Sends n id (option_map (λ to. notice_letter p.id to m) o)
    by_coordinator None at = no_letter n id
    by_coordinator (Some to) at =
        let here : EachReachable (to ∷ []) = subst (λ (o : Option Epr). EachReachable (option_to_list o)) at kept.1 in
        one_letter n id (notice_letter p.id to m)
        (record { reachable = here.0; message = known; number = ap (message_number (notice_code m)) is })

registers : (n : NodeState) (id : Id) (p : Part) → p.id ≡ id → EachReachable (part_endpoints p) → Sends n id (Some (register_letter n p))
registers n id p is kept =
    one_letter n id (register_letter n p)
    (record { reachable = kept.0; message = ap (participant_of n.base) is; number = ap (message_number register_code) is })

-- ---- each tick

abbrev SendsByTick : NodeState → Id → TickStep → Type 0
SendsByTick n id step = Sends n id step.letter

tick_writes : (n : NodeState) (now : ℕ) (id : Id) → AllReachable n → SendsByTick n id (tick_step n now id)
tick_writes n now id all = by_scope (scope_with_id n id) refl
  where
    by_part : SendsByTick n id (tick_at_part n (part_place n id))
    by_part =
        place_cases (λ (place : PartPlace). SendsByTick n id (tick_at_part n place)) n id (λ _. no_letter n id)
        (λ p stands.
        let kept = of_lone n p all stands.part in
        by_test (SendsByTick n id) (is_registering_state p.state) (letter_step n (Some (register_letter n p))) (tick_lone n p)
        (λ _. registers n id p stands.is kept)
        (λ _. by_test (SendsByTick n id) (p.owes || p.asks) _ (letter_step n (part_letter p (part_says p.state)))
        (λ _. part_writes n id p (tick_of_part p).says stands.is kept (part_tick_says p))
        (λ _. part_writes n id p (part_says p.state) stands.is kept (part_says_known p.state))))
        (λ s p stands.
        let kept = of_up s p stands.up (of_scope n s all stands.scope) in
        by_test (SendsByTick n id) (is_registering_state p.state) (letter_step n (Some (register_letter n p))) (tick_upward n s p)
        (λ _. registers n id p stands.is kept)
        (λ _. by_test (SendsByTick n id) (up_talks p || up_acts s p) _ (letter_step n (part_letter p (tick_up s).says))
        (λ _. part_writes n id p (tick_up s).says stands.is kept (up_says s))
        (λ _. part_writes n id p (tick_up s).says stands.is kept (up_says s))))

    by_end : (o : Option EndPlace) → end_place n id ≡ o
        → SendsByTick n id (if_found o (tick_at_part n (part_place n id)) (λ at. tick_at_end n at.scope at.end))
    by_end None none = by_part
    by_end (Some at) found =
        let stands = end_found n id at found in
        let kept = of_end at.scope at.end stands.end (of_scope n at.scope all stands.scope) in
        by_test (SendsByTick n id) (end_ticks at.end) _ (letter_step n (end_letter at.end (tick_of_end at.end).says))
        (λ _. end_writes n id at.end (tick_of_end at.end).says stands.is kept (end_says at.end))
        (λ _. end_writes n id at.end (tick_of_end at.end).says stands.is kept (end_says at.end))

    by_scope : (o : Option ScopeState) → scope_with_id n id ≡ o
        → SendsByTick n id (if_found o (if_found (end_place n id) (tick_at_part n (part_place n id)) (λ at. tick_at_end n at.scope at.end))
        (λ s. tick_at_scope n s now))
    by_scope None none = by_end (end_place n id) refl
    by_scope (Some s) here =
        by_test (SendsByTick n id) (expire s now).answer _ (letter_step n None) (λ _. no_letter n id) (λ _. no_letter n id)

pub letter_is : (n : NodeState) (now : ℕ) (id : Id) (l : Letter) → AllReachable n → (tick_step n now id).letter ≡ Some l → IsLetterOf n id l
letter_is n now id l all sent = tick_writes n now id all l sent

-- A node stays fit where one of its scopes or lone participants is changed, or a new object is made; for the law that steps
-- keep a node fit.
use Rattle.std.proofs.Common.{◌≡◌, inl, inr, ℕ, ◌+◌, ◌<◌, ◌≤◌, ◌^◌, false, List, [], ◌∷◌, ◌++◌, length, map, max, None, Some, IsTrue, refl}
use Rattle.std.proofs.Common.{sym, ap, ◌∙◌, subst, arith, append_assoc}
use Rattle.std.specs.List.{AllByRecursion, IsDistinct}
use Rattle.std.specs.Option.{option_to_list}
use Rattle.ba_core.specs.Numbers.{id_of, counter_of}
use Rattle.ba_core.specs.declared.identifiers.Id.{Id}
use Rattle.ba_record.specs.Coding.{IsCounter, IsDeadline}
use Rattle.ba_scope.proofs.Lists.{by_test}
use Rattle.ba_scope_ends.specs.Parts.{part_fits}
use Rattle.ba_scope.specs.Fits.{ScopeFits}
use Rattle.ba_scope_ends.specs.Ends.{same_id}
use Rattle.ba_scope.specs.Scope.{ScopeState}
use Rattle.ba_scope_ends.specs.declared.ends.End.{End}
use Rattle.ba_scope_ends.specs.declared.parts.Part.{Part}
use Rattle.ba_node_steps.specs.Fits.{HasSpareCounters, IsIdAt, NodeFits}
use Rattle.ba_node_steps.specs.Node.{Among, NodeState, counter, ids, last, next_id, part_in_place_of, scope_ids, scope_in_place_of, with_lone}
use Rattle.ba_node_steps.specs.Node.{with_new_part, with_new_scope, with_scope}
use Rattle.ba_node_steps.proofs.Members.{Inserts, all_among, all_append, among_all, among_joined, among_map, apart_across, apart_left}
use Rattle.ba_node_steps.proofs.Members.{apart_right, id_by_number, inserts_all, inserts_apart, inserts_greatest, inserts_length, is_other}
use Rattle.ba_node_steps.proofs.Members.{other_by_number, same_by_number}
use Rattle.ba_node_steps.proofs.Objects.{ids_in_scopes, lone_ids, one_scope}
use Rattle.ba_node_steps.proofs.Own.{SameOwn}
use Rattle.ba_tree.specs.Trees.{joined, greatest}

-- ---- what the identifiers of a node keep

-- of a node with this number
pub record IdsFit (number : ℕ) (xs : List Id) : Type 0 where
  pub here : AllByRecursion (IsIdAt number) xs
  pub apart : IsDistinct same_id xs
  pub whole : length xs ≡ greatest (map counter xs)

pub ids_of : (n : NodeState) → NodeFits n → IdsFit n.number (ids n)
ids_of n fits = record { here = fits.here; apart = fits.apart; whole = fits.whole }

-- the node after a step fits, and has at most two objects more
pub record Follows (n after : NodeState) : Type 0 where
  pub fits : NodeFits after
  pub few : last after ≤ last n + 2

pub stays : (n : NodeState) → NodeFits n → Follows n n
stays n fits = record { fits = fits; few = omega arith }

follows_by_ids : (n after : NodeState) (xs : List Id) → ids after ≡ xs → greatest (map counter xs) ≤ last n + 2 → IdsFit after.number xs
    → AllByRecursion ScopeFits after.scopes → AllByRecursion (λ (s : ScopeState). IsDeadline s.deadline) after.scopes
    → AllByRecursion (λ (p : Part). IsTrue (part_fits p)) after.parts → Follows n after
follows_by_ids n after xs same few fit scopes deadlines parts =
    let moved : IdsFit after.number (ids after) = subst (IdsFit after.number) (sym same) fit in
    record {
      fits = record { here = moved.here; apart = moved.apart; whole = moved.whole; scopes = scopes; deadlines = deadlines; parts = parts };
      few = subst (λ ys. greatest (map counter ys) ≤ last n + 2) (sym same) few;
    }

-- ---- a changed scope in the place of the one with its identifier

pub id_kept : (s new : ScopeState) → SameOwn s new → new.id ≡ s.id
id_kept s new same = let ids = same.ids in cc

replaced_ids : (new : ScopeState) (scopes : List ScopeState)
    → ((t : ScopeState) → Among scopes t → t.id.0 ≡ new.id.0 → scope_ids new ≡ scope_ids t)
    → joined (map scope_ids (map (scope_in_place_of new) scopes)) ≡ joined (map scope_ids scopes)
replaced_ids new [] h = refl
replaced_ids new (t ∷ more) h =
    let here : scope_ids (scope_in_place_of new t) ≡ scope_ids t =
    by_test (λ (x : ScopeState). scope_ids x ≡ scope_ids t) (same_id t.id new.id) new t
    (λ same. h t (inl refl) (same_by_number t.id new.id same)) (λ _. refl) in
    let rest = replaced_ids new more (λ u later. h u (inr later)) in
    λ i. here i ++ rest i

replaced_fit : (new : ScopeState) (scopes : List ScopeState) → ScopeFits new → AllByRecursion ScopeFits scopes
    → AllByRecursion ScopeFits (map (scope_in_place_of new) scopes)
replaced_fit new [] fits all = tt
replaced_fit new (t ∷ more) fits all =
    (by_test ScopeFits (same_id t.id new.id) new t (λ _. fits) (λ _. all.0), replaced_fit new more fits all.1)

replaced_deadlines : (new : ScopeState) (scopes : List ScopeState) → IsDeadline new.deadline
    → AllByRecursion (λ (s : ScopeState). IsDeadline s.deadline) scopes
    → AllByRecursion (λ (s : ScopeState). IsDeadline s.deadline) (map (scope_in_place_of new) scopes)
replaced_deadlines new [] fits all = tt
replaced_deadlines new (t ∷ more) fits all = (
  by_test (λ (x : ScopeState). IsDeadline x.deadline) (same_id t.id new.id) new t (λ _. fits)
      (λ _. all.0),
  replaced_deadlines new more fits all.1,
)

moment_kept : (n : NodeState) (s new : ScopeState) → Among n.scopes s → new.deadline ≡ s.deadline → NodeFits n → IsDeadline new.deadline
moment_kept n s new among same fits =
    subst IsDeadline (sym same) (all_among (λ (x : ScopeState). IsDeadline x.deadline) n.scopes s fits.deadlines among)

pub scope_changed_fits : (n : NodeState) (s new : ScopeState) → Among n.scopes s → SameOwn s new → ScopeFits new → NodeFits n
    → Follows n (with_scope n new)
scope_changed_fits n s new among same new_fits fits =
    let own : new.id ≡ s.id = id_kept s new same in
    let alike : (t : ScopeState) → Among n.scopes t → t.id.0 ≡ new.id.0 → scope_ids new ≡ scope_ids t =
    (λ t of_t is. same.ids ∙ sym (ap scope_ids (one_scope n t s fits of_t among (is ∙ ap (λ (id : Id). id.0) own)))) in
    let in_scopes = replaced_ids new n.scopes alike in
    let whole : ids (with_scope n new) ≡ ids n = (λ i. in_scopes i ++ lone_ids n) in
    follows_by_ids n (with_scope n new) (ids n) whole (omega arith) (ids_of n fits) (replaced_fit new n.scopes new_fits fits.scopes)
    (replaced_deadlines new n.scopes (moment_kept n s new among same.deadline fits) fits.deadlines) fits.parts

-- ---- a changed lone participant likewise

replaced_lone_ids : (new : Part) (parts : List Part)
    → map (λ (p : Part). p.id) (map (part_in_place_of new) parts) ≡ map (λ (p : Part). p.id) parts
replaced_lone_ids new [] = refl
replaced_lone_ids new (p ∷ more) =
    let here : (part_in_place_of new p).id ≡ p.id =
    by_test (λ (x : Part). x.id ≡ p.id) (same_id p.id new.id) new p
    (λ same. sym (id_by_number p.id new.id (same_by_number p.id new.id same))) (λ _. refl) in
    let rest = replaced_lone_ids new more in
    λ i. here i ∷ rest i

replaced_lone_fit : (new : Part) (parts : List Part) → IsTrue (part_fits new) → AllByRecursion (λ (p : Part). IsTrue (part_fits p)) parts
    → AllByRecursion (λ (p : Part). IsTrue (part_fits p)) (map (part_in_place_of new) parts)
replaced_lone_fit new [] fits all = tt
replaced_lone_fit new (p ∷ more) fits all = (
  by_test (λ (x : Part). IsTrue (part_fits x)) (same_id p.id new.id) new p (λ _. fits)
      (λ _. all.0),
  replaced_lone_fit new more fits all.1,
)

pub lone_changed_fits : (n : NodeState) (new : Part) → IsTrue (part_fits new) → NodeFits n → Follows n (with_lone n new)
lone_changed_fits n new new_fits fits =
    let lone = replaced_lone_ids new n.parts in
    let whole : ids (with_lone n new) ≡ ids n = (λ i. ids_in_scopes n ++ lone i) in
    follows_by_ids n (with_lone n new) (ids n) whole (omega arith) (ids_of n fits) fits.scopes fits.deadlines
    (replaced_lone_fit new n.parts new_fits fits.parts)

-- ---- a new identifier among the others

counter_is : (number c : ℕ) (id : Id) → id.0 ≡ id_of number c → c < 2 ^ 64 → counter id ≡ c
counter_is number c id spelled small = ap counter_of spelled ∙ omega (arith, small)

no_greater : (f : Id → ℕ) (xs : List Id) → AllByRecursion (λ y. f y ≤ greatest (map f xs)) xs
no_greater f [] = tt
no_greater f (x ∷ xs) = (omega arith, up_to xs (no_greater f xs))
  where
    up_to : (ys : List Id) → AllByRecursion (λ y. f y ≤ greatest (map f xs)) ys
        → AllByRecursion (λ y. f y ≤ max (f x) (greatest (map f xs))) ys
    up_to [] all = tt
    up_to (y ∷ ys) all = let here = all.0 in (omega (arith, here), up_to ys all.1)

-- the identifier after the greatest
pub record IsNextOf (number : ℕ) (xs : List Id) (new : Id) : Type 0 where
  pub spelled : new.0 ≡ id_of number (greatest (map counter xs) + 1)
  pub is_number : number < 2 ^ 32
  pub room : greatest (map counter xs) + 1 < 2 ^ 64

next_counter : (number : ℕ) (xs : List Id) (new : Id) → IsNextOf number xs new → counter new ≡ greatest (map counter xs) + 1
next_counter number xs new next = counter_is number (greatest (map counter xs) + 1) new next.spelled next.room

-- it is no other's
pub fresh_of : (number : ℕ) (xs : List Id) (new : Id) → IsNextOf number xs new → AllByRecursion (IsIdAt number) xs
    → AllByRecursion (λ y. same_id new y ≡ false) xs
fresh_of number xs new next here =
    among_all (λ y. same_id new y ≡ false) xs (λ y among.
    let at : IsIdAt number y = all_among (IsIdAt number) xs y here among in
    let small : counter y ≤ greatest (map counter xs) = all_among (λ z. counter z ≤ greatest (map counter xs)) xs y
    (no_greater counter xs) among in
    let is : counter y ≡ at.counter = counter_is number at.counter y at.spelled at.is_counter.1 in
    let mine : counter new ≡ greatest (map counter xs) + 1 = next_counter number xs new next in
    other_by_number new y (λ same.
    let one : counter new ≡ counter y = ap counter_of same in
    omega (arith, small, mine, one)))

pub one_more_fits : (number : ℕ) (left right : List Id) (new : Id) → IsNextOf number (left ++ right) new → IdsFit number (left ++ right)
    → IdsFit number (left ++ new ∷ right)
one_more_fits number left right new next fits =
    let g : ℕ = greatest (map counter (left ++ right)) in
    let is_counter : IsCounter (g + 1) = (omega arith, next.room) in
    let at : IsIdAt number new = record { counter = g + 1; spelled = next.spelled; is_counter = is_counter; is_number = next.is_number } in
    record {
      here = inserts_all (IsIdAt number) new left right at fits.here;
      apart = inserts_apart new left right (fresh_of number (left ++ right) new next fits.here) fits.apart;
      whole = one_more number left right new next fits;
    }
  where
    one_more : (number : ℕ) (left right : List Id) (new : Id) → IsNextOf number (left ++ right) new → IdsFit number (left ++ right)
        → length (left ++ new ∷ right) ≡ greatest (map counter (left ++ new ∷ right))
    one_more number left right new next fits =
        let mine = next_counter number (left ++ right) new next in
        let whole = fits.whole in
        inserts_length new left right ∙ omega (arith, mine, whole) ∙ sym (inserts_greatest counter new left right (omega (arith, mine)))

-- the greatest counter afterwards
pub one_more_greatest : (number : ℕ) (left right : List Id) (new : Id) → IsNextOf number (left ++ right) new
    → greatest (map counter (left ++ new ∷ right)) ≡ greatest (map counter (left ++ right)) + 1
one_more_greatest number left right new next =
    let mine = next_counter number (left ++ right) new next in
    inserts_greatest counter new left right (omega (arith, mine)) ∙ mine

-- ---- a new object after the others

joined_push : (f : ScopeState → List Id) (scopes : List ScopeState) (s : ScopeState) (rest : List Id)
    → joined (map f (scopes ++ s ∷ [])) ++ rest ≡ joined (map f scopes) ++ (f s ++ rest)
joined_push f [] s rest = append_assoc (f s) [] rest
joined_push f (t ∷ more) s rest =
    append_assoc (f t) (joined (map f (more ++ s ∷ []))) rest
    ∙ ap (λ xs. f t ++ xs) (joined_push f more s rest)
    ∙ sym (append_assoc (f t) (joined (map f more)) (f s ++ rest))

pub next_is : (n : NodeState) → HasSpareCounters n → IsNextOf n.number (ids n) (next_id n 1)
next_is n room = let counters = room.counters in record { spelled = refl; is_number = room.number; room = omega (arith, counters) }

-- a root
pub new_root_fits : (n : NodeState) (s : ScopeState) → s.up ≡ None → s.ends ≡ [] → s.id ≡ next_id n 1 → ScopeFits s
    → IsDeadline s.deadline → HasSpareCounters n → NodeFits n
    → Follows n (with_new_scope n s)
new_root_fits n s root empty is fit moment room fits =
    let own : scope_ids s ≡ next_id n 1 ∷ [] =
    (λ i. is i ∷ (map (λ (p : Part). p.id) (option_to_list (root i)) ++ map (λ (e : End). e.id) (empty i))) in
    let whole : ids (with_new_scope n s) ≡ ids_in_scopes n ++ next_id n 1 ∷ lone_ids n =
    joined_push scope_ids n.scopes s (lone_ids n) ∙ ap (λ xs. ids_in_scopes n ++ (xs ++ lone_ids n)) own in
    let grown = one_more_greatest n.number (ids_in_scopes n) (lone_ids n) (next_id n 1) (next_is n room) in
    follows_by_ids n (with_new_scope n s) (ids_in_scopes n ++ next_id n 1 ∷ lone_ids n) whole (omega (arith, grown))
    (one_more_fits n.number (ids_in_scopes n) (lone_ids n) (next_id n 1) (next_is n room) (ids_of n fits))
    (all_append ScopeFits n.scopes (s ∷ []) fits.scopes (fit, tt))
    (all_append (λ (x : ScopeState). IsDeadline x.deadline) n.scopes (s ∷ []) fits.deadlines (moment, tt)) fits.parts

-- a child, and its upward part
pub new_child_fits : (n : NodeState) (s : ScopeState) (p : Part) → s.up ≡ Some p → s.ends ≡ [] → s.id ≡ next_id n 1 → p.id ≡ next_id n 2
    → ScopeFits s
    → IsDeadline s.deadline → HasSpareCounters n → NodeFits n → Follows n (with_new_scope n s)
new_child_fits n s p above empty is is_too fit moment room fits =
    let first : Id = next_id n 1 in
    let second : Id = next_id n 2 in
    let left : List Id = ids_in_scopes n in
    let right : List Id = lone_ids n in
    let own : scope_ids s ≡ first ∷ second ∷ [] =
    (λ i. is i ∷ (map (λ (q : Part). q.id) (option_to_list (above i)) ++ map (λ (e : End). e.id) (empty i)))
    ∙ ap (λ id. first ∷ id ∷ []) is_too in
    let whole : ids (with_new_scope n s) ≡ left ++ first ∷ second ∷ right =
    joined_push scope_ids n.scopes s right ∙ ap (λ xs. left ++ (xs ++ right)) own in
    let with_first : IdsFit n.number (left ++ first ∷ right) = one_more_fits n.number left right first (next_is n room) (ids_of n fits) in
    let counters = room.counters in
    let grown : greatest (map counter (left ++ first ∷ right)) ≡ last n + 1 = one_more_greatest n.number left right first
    (next_is n room) in
    let moved : (left ++ first ∷ []) ++ right ≡ left ++ first ∷ right = append_assoc left (first ∷ []) right in
    let moved_too : (left ++ first ∷ []) ++ second ∷ right ≡ left ++ first ∷ second ∷ right = append_assoc left (first ∷ [])
    (second ∷ right) in
    let next_spelled : second.0 ≡ id_of n.number (greatest (map counter (left ++ first ∷ right)) + 1) =
    ap (λ k. id_of n.number k) (omega (arith, grown)) in
    let next_again : IsNextOf n.number (left ++ first ∷ right) second =
    record { spelled = next_spelled; is_number = room.number; room = omega (arith, grown, counters) } in
    let with_both : IdsFit n.number ((left ++ first ∷ []) ++ second ∷ right) =
    one_more_fits n.number (left ++ first ∷ []) right second (subst (λ xs. IsNextOf n.number xs second) (sym moved) next_again)
    (subst (IdsFit n.number) (sym moved) with_first) in
    let grown_twice : greatest (map counter (left ++ first ∷ second ∷ right)) ≡ greatest (map counter (left ++ first ∷ right)) + 1 =
    ap (λ xs. greatest (map counter xs)) (sym moved_too)
    ∙ one_more_greatest n.number (left ++ first ∷ []) right second (subst (λ xs. IsNextOf n.number xs second) (sym moved) next_again)
    ∙ ap (λ xs. greatest (map counter xs) + 1) moved in
    follows_by_ids n (with_new_scope n s) (left ++ first ∷ second ∷ right) whole (omega (arith, grown, grown_twice))
    (subst (IdsFit n.number) moved_too with_both)
    (all_append ScopeFits n.scopes (s ∷ []) fits.scopes (fit, tt))
    (all_append (λ (x : ScopeState). IsDeadline x.deadline) n.scopes (s ∷ []) fits.deadlines (moment, tt)) fits.parts

-- a lone participant
pub new_part_fits : (n : NodeState) (p : Part) → p.id ≡ next_id n 1 → IsTrue (part_fits p) → HasSpareCounters n → NodeFits n
    → Follows n (with_new_part n p)
new_part_fits n p is fit room fits =
    let new : Id = next_id n 1 in
    let pushed : map (λ (q : Part). q.id) (n.parts ++ p ∷ []) ≡ lone_ids n ++ new ∷ [] = pushed_ids n.parts
    ∙ ap (λ id. lone_ids n ++ id ∷ []) is in
    let whole : ids (with_new_part n p) ≡ ids n ++ new ∷ [] =
    ap (λ xs. ids_in_scopes n ++ xs) pushed ∙ sym (append_assoc (ids_in_scopes n) (lone_ids n) (new ∷ [])) in
    let nothing : ids n ++ [] ≡ ids n = append_nil (ids n) in
    let grown : greatest (map counter (ids n ++ new ∷ [])) ≡ greatest (map counter (ids n)) + 1 =
    one_more_greatest n.number (ids n) [] new (subst (λ xs. IsNextOf n.number xs new) (sym nothing) (next_is n room))
    ∙ ap (λ xs. greatest (map counter xs) + 1) nothing in
    follows_by_ids n (with_new_part n p) (ids n ++ new ∷ []) whole (omega (arith, grown))
    (one_more_fits n.number (ids n) [] new (subst (λ xs. IsNextOf n.number xs new) (sym nothing) (next_is n room))
    (subst (IdsFit n.number) (sym nothing) (ids_of n fits)))
    fits.scopes fits.deadlines (all_append (λ (q : Part). IsTrue (part_fits q)) n.parts (p ∷ []) fits.parts (fit, tt))
  where
    pushed_ids : (parts : List Part) → map (λ (q : Part). q.id) (parts ++ p ∷ []) ≡ map (λ (q : Part). q.id) parts ++ p.id ∷ []
    pushed_ids [] = refl
    pushed_ids (q ∷ more) = ap (λ xs. q.id ∷ xs) (pushed_ids more)

    append_nil : (xs : List Id) → xs ++ [] ≡ xs
    append_nil [] = refl
    append_nil (x ∷ xs) = ap (λ ys. x ∷ ys) (append_nil xs)

-- ---- a scope with a new end

-- the scope changes where it stands alone: the others keep their identifiers
end_inserted : (s new : ScopeState) (id : Id) → new.id ≡ s.id → scope_ids new ≡ scope_ids s ++ id ∷ [] → (scopes : List ScopeState)
    → IsDistinct same_id (joined (map scope_ids scopes)) → Among scopes s
    → Inserts id (joined (map scope_ids scopes)) (joined (map scope_ids (map (scope_in_place_of new) scopes)))
end_inserted s new id own grown [] apart among = absurd among
end_inserted s new id own grown (t ∷ more) apart (inl same) =
    let rest : joined (map scope_ids (map (scope_in_place_of new) more)) ≡ joined (map scope_ids more) =
    replaced_ids new more (λ u later is.
    let there : Among (joined (map scope_ids more)) u.id = among_joined (map scope_ids more) (scope_ids u) u.id
    (among_map scope_ids more u later) (inl refl) in
    let mine : t.id.0 ≡ u.id.0 = ap (λ (x : ScopeState). x.id.0) same ∙ sym (ap (λ (x : Id). x.0) own) ∙ sym is in
    absurd (apart_across (scope_ids t) (joined (map scope_ids more)) t.id u.id apart (inl refl) there mine)) in
    let here : scope_ids (scope_in_place_of new t) ≡ scope_ids s ++ id ∷ [] =
    by_test (λ (x : ScopeState). scope_ids x ≡ scope_ids s ++ id ∷ []) (same_id t.id new.id) new t (λ _. grown)
    (λ other. absurd (is_other t.id new.id other (ap (λ (x : ScopeState). x.id.0) same ∙ sym (ap (λ (x : Id). x.0) own)))) in
    record {
      left = scope_ids s;
      right = joined (map scope_ids more);
      was = ap (λ (x : ScopeState). scope_ids x ++ joined (map scope_ids more)) same;
      is = (λ i. here i ++ rest i) ∙ append_assoc (scope_ids s) (id ∷ []) (joined (map scope_ids more));
    }
end_inserted s new id own grown (t ∷ more) apart (inr later) =
    let rest = end_inserted s new id own grown more (apart_right (scope_ids t) (joined (map scope_ids more)) apart) later in
    let there : Among (joined (map scope_ids more)) s.id = among_joined (map scope_ids more) (scope_ids s) s.id
    (among_map scope_ids more s later) (inl refl) in
    let here : scope_ids (scope_in_place_of new t) ≡ scope_ids t =
    by_test (λ (x : ScopeState). scope_ids x ≡ scope_ids t) (same_id t.id new.id) new t
    (λ same. absurd (apart_across (scope_ids t) (joined (map scope_ids more)) t.id s.id apart (inl refl) there
    (same_by_number t.id new.id same ∙ ap (λ (x : Id). x.0) own)))
    (λ _. refl) in
    let was = rest.was in
    let is = rest.is in
    record {
      left = scope_ids t ++ rest.left;
      right = rest.right;
      was = ap (λ xs. scope_ids t ++ xs) was ∙ sym (append_assoc (scope_ids t) rest.left rest.right);
      is = (λ i. here i ++ is i) ∙ sym (append_assoc (scope_ids t) rest.left (id ∷ rest.right));
    }

pub new_end_fits : (n : NodeState) (s new : ScopeState) → Among n.scopes s → new.id ≡ s.id → new.deadline ≡ s.deadline
    → scope_ids new ≡ scope_ids s ++ next_id n 1 ∷ []
    → ScopeFits new → HasSpareCounters n → NodeFits n → Follows n (with_scope n new)
new_end_fits n s new among own same grown fit room fits =
    let id : Id = next_id n 1 in
    let at = end_inserted s new id own grown n.scopes (apart_left (ids_in_scopes n) (lone_ids n) fits.apart) among in
    let before = at.was in
    let after = at.is in
    let right : List Id = at.right ++ lone_ids n in
    let was : ids n ≡ at.left ++ right = ap (λ xs. xs ++ lone_ids n) before ∙ append_assoc at.left at.right (lone_ids n) in
    let whole : ids (with_scope n new) ≡ at.left ++ id ∷ right =
    ap (λ xs. xs ++ lone_ids n) after ∙ append_assoc at.left (id ∷ at.right) (lone_ids n) in
    let grown : greatest (map counter (at.left ++ id ∷ right)) ≡ last n + 1 =
    one_more_greatest n.number at.left right id (subst (λ xs. IsNextOf n.number xs id) was (next_is n room))
    ∙ ap (λ xs. greatest (map counter xs) + 1) (sym was) in
    follows_by_ids n (with_scope n new) (at.left ++ id ∷ right) whole (omega (arith, grown))
    (one_more_fits n.number at.left right id (subst (λ xs. IsNextOf n.number xs id) was (next_is n room))
    (subst (IdsFit n.number) was (ids_of n fits)))
    (replaced_fit new n.scopes fit fits.scopes)
    (replaced_deadlines new n.scopes (moment_kept n s new among same fits) fits.deadlines) fits.parts

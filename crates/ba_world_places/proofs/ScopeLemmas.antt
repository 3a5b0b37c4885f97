-- The scopes of a node are those of its identifiers, up to the last, that show a scope; for the clauses of `scope_kind` and `scopes_of`.
use Rattle.std.proofs.Common.{◌≡◌, inl, inr, ℕ, ◌+◌, ◌<◌, ◌≤◌, ◌⊎◌, Bool, true, false, List, [], ◌∷◌, ◌++◌, map, Option, Some, None, refl}
use Rattle.std.proofs.Common.{sym, ◌∙◌, ap, subst, arith, if◌then◌else◌}
use Rattle.std.specs.List.{find}
use Rattle.std.specs.Option.{option_map}
use Rattle.ba_core.specs.Numbers.{counter_of, id_of}
use Rattle.ba_core.specs.declared.identifiers.Id.{Id}
use Rattle.ba_core.specs.declared.protocols.Kind.{Kind}
use Rattle.ba_scope_ends.specs.Ends.{same_id}
use Rattle.ba_world_places.specs.Places.{kind_among}
use Rattle.ba_world_places.specs.declared.places.KnownScope.{KnownScope}
use Rattle.ba_world_places.specs.inside.Calls.{known_with}
use Rattle.ba_scope.specs.Scope.{ScopeState}
use Rattle.ba_node_steps.proofs.Enacted.{counter_at, id_told}
use Rattle.ba_node_steps.proofs.Members.{among_left, among_map, id_by_number, number_is_same, same_id_is}
use Rattle.ba_node_steps.proofs.Objects.{ids_in_scopes, in_scopes, lone_ids, scope_here}
use Rattle.ba_node_steps.proofs.Places.{scope_found}
use Rattle.ba_node_steps.specs.Fits.{NodeFits}
use Rattle.ba_node_steps.specs.Node.{Among, EndPlace, NodeState, PartPlace, counter, end_place, id_at, ids, last, lone, nowhere, part_place}
use Rattle.ba_node_steps.specs.Node.{scope_with_id, upward}
use Rattle.ba_node_steps.specs.Shown.{part_seen, seen_at}
use Rattle.ba_node_steps.specs.Steps.{if_found}
use Rattle.ba_node_steps.specs.declared.answers.Seen.{Seen}
use Rattle.ba_node_steps.specs.declared.answers.Seen.TheVariants as seen
use Rattle.ba_tree.specs.Trees.{greatest}

-- the kind of the node's scope with this identifier
abbrev pub kind_at : NodeState → Id → Option Kind
kind_at n id = option_map (λ s. s.kind) (scope_with_id n id)

-- ---- what a scope shows

-- the kind that is shown, where it is a scope that shows it
abbrev pub kind_seen : Option Seen → Option Kind
kind_seen None = None
kind_seen (Some (seen.Scope kind verdict)) = Some kind
kind_seen (Some (seen.End protocol state verdict)) = None
kind_seen (Some (seen.Part protocol state own)) = None

no_part_is_a_scope : (p : PartPlace) → kind_seen (part_seen p) ≡ None
no_part_is_a_scope nowhere = refl
no_part_is_a_scope (lone p) = refl
no_part_is_a_scope (upward s p) = refl

no_end_is_a_scope : (at : Option EndPlace) (otherwise : Option Seen) → kind_seen otherwise ≡ None
    → kind_seen (if_found at otherwise (λ a. Some (seen.End a.end.protocol a.end.state a.end.verdict))) ≡ None
no_end_is_a_scope None otherwise none = none
no_end_is_a_scope (Some at) otherwise none = refl

scope_shows : (s : Option ScopeState) (otherwise : Option Seen) → kind_seen otherwise ≡ None
    → kind_seen (if_found s otherwise (λ x. Some (seen.Scope x.kind x.verdict))) ≡ option_map (λ x. x.kind) s
scope_shows None otherwise none = none
scope_shows (Some s) otherwise none = refl

pub kind_is_seen : (n : NodeState) (id : Id) → kind_seen (seen_at n id) ≡ kind_at n id
kind_is_seen n id =
    scope_shows (scope_with_id n id) _
    (no_end_is_a_scope (end_place n id) (part_seen (part_place n id)) (no_part_is_a_scope (part_place n id)))

-- ---- a list of known scopes

same_somes : {A : Type 0} (a b : Option A) → ((x : A) → a ≡ Some x → b ≡ Some x) → ((x : A) → b ≡ Some x → a ≡ Some x) → a ≡ b
same_somes None None there back = refl
same_somes None (Some y) there back = back y refl
same_somes (Some x) b there back = sym (there x refl)

then_else : {A : Type 0} (b : Bool) (v u w r : A) → (u ≡ r → w ≡ r) → (if b then v else u) ≡ r → (if b then v else w) ≡ r
then_else true v u w r goes is = is
then_else false v u w r goes is = goes is

none_else : {A : Type 0} (b : Bool) (v : A) (u w r : Option A) → (u ≡ None → w ≡ r) → (if b then Some v else u) ≡ None
    → (if b then Some v else w) ≡ r
none_else true v u w r goes is = absurd cc
none_else false v u w r goes is = goes is

among_more : (known : List KnownScope) (x : KnownScope) (id : Id) (kind : Kind) → kind_among known id ≡ Some kind
    → kind_among (known ++ x ∷ []) id ≡ Some kind
among_more [] x id kind is = absurd cc
among_more (k ∷ more) x id kind is =
    then_else (same_id k.id id) (Some k.kind) (kind_among more id) (kind_among (more ++ x ∷ []) id) (Some kind)
    (among_more more x id kind) is

among_last : (known : List KnownScope) (x : KnownScope) (id : Id) → kind_among known id ≡ None
    → kind_among (known ++ x ∷ []) id ≡ (if same_id x.id id then Some x.kind else None)
among_last [] x id is = refl
among_last (k ∷ more) x id is =
    none_else (same_id k.id id) k.kind (kind_among more id) (kind_among (more ++ x ∷ []) id)
    (if same_id x.id id then Some x.kind else None) (among_last more x id) is

-- the first that has the identifier
pub first_known : (known : List KnownScope) (id : Id)
    → option_map (λ k. k.kind) (find (λ k. same_id k.id id) known) ≡ kind_among known id
first_known [] id = refl
first_known (k ∷ more) id = by_same (same_id k.id id) (first_known more id)
  where
    by_same : (b : Bool) → option_map (λ x. x.kind) (find (λ x. same_id x.id id) more) ≡ kind_among more id
        → option_map (λ x. x.kind) (if b then Some k else find (λ x. same_id x.id id) more)
        ≡ (if b then Some k.kind else kind_among more id)
    by_same true rest = refl
    by_same false rest = rest

-- ---- the scopes with counters below the next

-- each that is known is a scope of the node, and each scope with a counter below the next is known
pub record KnowsUpTo (n : NodeState) (known : List KnownScope) (next : ℕ) : Type 0 where
  pub sound : (id : Id) (kind : Kind) → kind_among known id ≡ Some kind → kind_at n id ≡ Some kind
  pub whole : (c : ℕ) → 1 ≤ c → c < next → (kind : Kind) → kind_at n (id_at n c) ≡ Some kind
      → kind_among known (id_at n c) ≡ Some kind

pub knows_none : (n : NodeState) → KnowsUpTo n [] 1
knows_none n = record { sound = λ id kind is. absurd cc; whole = λ c from below. absurd (omega (arith, from, below)) }

below_next : (c next : ℕ) → c < next + 1 → (c < next) ⊎ (next ≡ c)
below_next c next below = grind (arith, below)

pub knows_no_more : (n : NodeState) (known : List KnownScope) (next : ℕ) → KnowsUpTo n known next
    → kind_at n (id_at n next) ≡ None → KnowsUpTo n known (next + 1)
knows_no_more n known next knows none = record {
  sound = knows.sound;
  whole = λ c from below kind is. elim (below_next c next below) [
    | inl less ↦ knows.whole c from less kind is
    | inr same ↦ let other : kind_at n (id_at n c) ≡ None = subst (λ (x : ℕ). kind_at n (id_at n x) ≡ None) same none in absurd cc
  ];
}

module _ (n : NodeState) (known : List KnownScope) (x : KnownScope) (is_kind : kind_at n x.id ≡ Some x.kind)
    (sound : (id : Id) (kind : Kind) → kind_among known id ≡ Some kind → kind_at n id ≡ Some kind) where
  sound_last : (id : Id) (kind : Kind) (b : Bool) → same_id x.id id ≡ b → (if b then Some x.kind else None) ≡ Some kind
      → kind_at n id ≡ Some kind
  sound_last id kind true same is = subst (λ (i : Id). kind_at n i ≡ Some kind) (same_id_is x.id id same) (is_kind ∙ is)
  sound_last id kind false same is = absurd cc

  sound_more : (id : Id) (kind : Kind) → kind_among (known ++ x ∷ []) id ≡ Some kind → kind_at n id ≡ Some kind
  sound_more id kind is = by_known (kind_among known id) refl
    where
      by_known : (o : Option Kind) → kind_among known id ≡ o → kind_at n id ≡ Some kind
      by_known None none = sound_last id kind (same_id x.id id) refl (sym (among_last known x id none) ∙ is)
      by_known (Some k) some = sound id k some ∙ sym (among_more known x id k some) ∙ is

  last_found : kind_among (known ++ x ∷ []) x.id ≡ Some x.kind
  last_found = by_known (kind_among known x.id) refl
    where
      by_known : (o : Option Kind) → kind_among known x.id ≡ o → kind_among (known ++ x ∷ []) x.id ≡ Some x.kind
      by_known None none =
          among_last known x x.id none
          ∙ ap (λ (b : Bool). if b then Some x.kind else None) (number_is_same x.id x.id refl)
      by_known (Some k) some = among_more known x x.id k some ∙ sym (sound x.id k some) ∙ is_kind

pub knows_one_more : (n : NodeState) (known : List KnownScope) (next : ℕ) (x : KnownScope) → KnowsUpTo n known next
    → x.id ≡ id_at n next → kind_at n x.id ≡ Some x.kind → KnowsUpTo n (known ++ x ∷ []) (next + 1)
unfolding sound_more last_found
knows_one_more n known next x knows here is_kind = record {
  sound = sound_more n known x is_kind knows.sound;
  whole = λ c from below kind is. elim (below_next c next below) [
    | inl less ↦ among_more known x (id_at n c) kind (knows.whole c from less kind is)
    | inr same ↦
        let at : x.id ≡ id_at n c = here ∙ ap (id_at n) same in
        subst (λ (i : Id). kind_among (known ++ x ∷ []) i ≡ Some kind) at
        (last_found n known x is_kind knows.sound ∙ sym is_kind ∙ ap (kind_at n) at ∙ is)
  ];
}

-- ---- all scopes of a node that fits

greatest_of : (xs : List ℕ) (x : ℕ) → Among xs x → x ≤ greatest xs
greatest_of [] x h = absurd h
greatest_of (y ∷ ys) x (inl same) = omega (arith, same)
greatest_of (y ∷ ys) x (inr later) = let rest = greatest_of ys x later in omega (arith, rest)

scope_up_to : (n : NodeState) (s : ScopeState) → Among n.scopes s → counter s.id ≤ last n
scope_up_to n s among =
    greatest_of (map counter (ids n)) (counter s.id)
    (among_map counter (ids n) s.id (among_left (ids_in_scopes n) (lone_ids n) s.id (in_scopes n s s.id among (inl refl))))

scope_from : (n : NodeState) (s : ScopeState) → NodeFits n → Among n.scopes s → 1 ≤ counter s.id
scope_from n s fits among =
    let at = scope_here n s fits among in
    let is : counter s.id ≡ at.counter = ap counter_of at.spelled ∙ counter_at n at.counter at.is_counter.1 in
    subst (λ (c : ℕ). 1 ≤ c) (sym is) at.is_counter.0

pub knows_all : (n : NodeState) (known : List KnownScope) (next : ℕ) → NodeFits n → last n < next → KnowsUpTo n known next → (id : Id)
    → kind_among known id ≡ kind_at n id
knows_all n known next fits past knows id = same_somes (kind_among known id) (kind_at n id) (knows.sound id) by_scope
  where
    found : (s : ScopeState) → scope_with_id n id ≡ Some s → kind_among known id ≡ Some s.kind
    found s is =
        let there = scope_found n id s is in
        let at : id_at n (counter s.id) ≡ id = id_told n s.id (scope_here n s fits there.0) ∙ there.1 in
        let up_to : counter s.id ≤ last n = scope_up_to n s there.0 in
        let kind_is : kind_at n (id_at n (counter s.id)) ≡ Some s.kind = ap (kind_at n) at ∙ ap (option_map (λ x. x.kind)) is in
        subst (λ (i : Id). kind_among known i ≡ Some s.kind) at
        (knows.whole (counter s.id) (scope_from n s fits there.0) (omega (arith, up_to, past)) s.kind kind_is)

    by_scope : (kind : Kind) → kind_at n id ≡ Some kind → kind_among known id ≡ Some kind
    by_scope kind is = by_found (scope_with_id n id) refl
      where
        by_found : (o : Option ScopeState) → scope_with_id n id ≡ o → kind_among known id ≡ Some kind
        by_found None none =
            let no : kind_at n id ≡ None = ap (option_map (λ (x : ScopeState). x.kind)) none in absurd cc
        by_found (Some s) some = found s some ∙ sym (ap (option_map (λ (x : ScopeState). x.kind)) some) ∙ is

knows_next : (n : NodeState) (known : List KnownScope) (next : ℕ) (x : KnownScope) (id : Id) (kind : Kind) → KnowsUpTo n known next
    → id.0 ≡ id_of n.number next → x ≡ record { id = id; kind = kind } → Some kind ≡ kind_at n id
    → KnowsUpTo n (known ++ x ∷ []) (next + 1)
knows_next n known next x id kind knows spelled is shows =
    let here : x.id ≡ id_at n next = ap (λ (k : KnownScope). k.id) is ∙ id_by_number id (id_at n next) spelled in
    let kind_is : kind_at n x.id ≡ Some x.kind =
    ap (λ (k : KnownScope). kind_at n k.id) is ∙ sym shows ∙ ap (λ (k : KnownScope). Some k.kind) (sym is) in
    knows_one_more n known next x knows here kind_is

knows_same : (n : NodeState) (known : List KnownScope) (next : ℕ) (id : Id) → KnowsUpTo n known next
    → id.0 ≡ id_of n.number next → None ≡ kind_at n id → KnowsUpTo n known (next + 1)
knows_same n known next id knows spelled shows =
    knows_no_more n known next knows (ap (kind_at n) (sym (id_by_number id (id_at n next) spelled)) ∙ sym shows)

knows_by : (n : NodeState) (known : List KnownScope) (next : ℕ) (id : Id) (kind : Option Kind) → KnowsUpTo n known next
    → id.0 ≡ id_of n.number next → kind ≡ kind_at n id → KnowsUpTo n (known_with known id kind) (next + 1)
knows_by n known next id None knows spelled shows = knows_same n known next id knows spelled shows
knows_by n known next id (Some kind) knows spelled shows =
    knows_next n known next (record { id = id; kind = kind }) id kind knows spelled refl shows

pub knows_with : (n : NodeState) (known more : List KnownScope) (next : ℕ) (id : Id) (kind : Option Kind) → KnowsUpTo n known next
    → id.0 ≡ id_of n.number next → kind ≡ kind_at n id → more ≡ known_with known id kind → KnowsUpTo n more (next + 1)
knows_with n known more next id kind knows spelled shows is =
    subst (λ (k : List KnownScope). KnowsUpTo n k (next + 1)) (sym is) (knows_by n known next id kind knows spelled shows)

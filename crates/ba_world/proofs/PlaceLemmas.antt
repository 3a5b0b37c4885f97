-- Where each node is against the play's nodes, also once one is put back; for the clauses of what is played at a node.
use Rattle.std.proofs.Common.{◌≡◌, ◌≢◌, inl, inr, ℕ, suc, zero, ◌+◌, ◌-◌, ◌<◌, ◌≤◌, Bool, true, false, ◌&&◌, List, [], ◌∷◌, length, get_or}
use Rattle.std.proofs.Common.{nat_eq, nat_le, slice_get, slice_set, Option, None, Some, Ok, Err, IsTrue, is_some, refl, sym, ap, ◌∙◌, subst}
use Rattle.std.proofs.Common.{if◌then◌else◌, ◌⊎◌, arith}
use Rattle.std.proofs.lemmas.Bool.Decides.{eqb_tells, nat_tests}
use Rattle.std.proofs.lemmas.List.{length-set}
use Rattle.std.proofs.lemmas.Option.{slice_get-get_or, slice_get_within}
use Rattle.std.specs.Option.{option_map}
use Rattle.ba_core.specs.Numbers.{node_of}
use Rattle.ba_core.specs.declared.identifiers.Id.{Id}
use Rattle.ba_core.specs.declared.protocols.Kind.{Kind}
use Rattle.ba_ports_memory.specs.DiskValue.{DiskValue, MediumValue}
use Rattle.ba_node.specs.Nodes.{NodeOnJournal}
use Rattle.ba_world_places.specs.Calls.{IsLawfulNode, MatchesBoth}
use Rattle.ba_world_places.specs.Places.{IsPlaceOf, Matches, mode_of}
use Rattle.ba_world_places.specs.declared.places.KnownScope.{KnownScope}
use Rattle.ba_world_places.specs.declared.places.Place.{Place}
use Rattle.ba_world_places.specs.declared.places.Place.TheVariants as place
use Rattle.ba_world_play.proofs.NodeSteps.{at_here, at_other}
use Rattle.ba_world_play.specs.Nodes.{NodeOnDisk}
use Rattle.ba_world_play.specs.Plays.{WorldOnDisks, has_node, scope_named, with_at, with_node}
use Rattle.ba_world_play.specs.declared.missing.Missing.TheVariants as missing
use Rattle.ba_world_runs.proofs.OneReplay.{run_one}
use Rattle.ba_world_runs.proofs.Recorded.{run_keeps}
use Rattle.ba_world_runs.specs.World.{WorldNode}
use Rattle.ba_scope.specs.Scope.{ScopeState}
use Rattle.ba_node_steps.specs.Node.{NodeState, scope_with_id}
use Rattle.ba_node_steps.specs.Shown.{seen_at}
use Rattle.ba_world.specs.Worlds.{IsSetAs, IsStageOf, StageValue, is_node_up, is_running, seen_in}
use Rattle.ba_world.specs.declared.faults.StepFault.TheVariants as fault
use Rattle.ba_world.specs.inside.Stages.{IsKindNamed, IsTakenOut, place_at, with_place}

-- ---- lists

pub set_length : {A : Type 0} (xs : List A) (i : ℕ) (x : A) → length (slice_set xs i x) ≡ length xs
set_length xs i x = length-set xs i x

-- what is there after one item was put
pub got_set : {A : Type 0} (xs : List A) (i j : ℕ) (x y : A) → slice_get (slice_set xs i x) j ≡ Some y
    → ((j ≡ i) × (x ≡ y)) ⊎ ((j ≢ i) × (slice_get xs j ≡ Some y))
got_set [] i j x y h = absurd cc
got_set (z ∷ zs) zero zero x y h = let same : x ≡ y = cc in inl (refl, same)
got_set (z ∷ zs) zero (suc j) x y h = inr (λ e. absurd cc, h)
got_set (z ∷ zs) (suc i) zero x y h = inr (λ e. absurd cc, h)
got_set (z ∷ zs) (suc i) (suc j) x y h = elim (got_set zs i j x y h) [
  | inl here ↦ inl (ap suc here.0, here.1)
  | inr other ↦ inr (λ e. other.0 (omega (arith, e)), other.1)
]

pub set_there : {A : Type 0} (xs : List A) (i : ℕ) (x y : A) → slice_get xs i ≡ Some y → slice_get (slice_set xs i x) i ≡ Some x
set_there [] i x y h = absurd cc
set_there (z ∷ zs) zero x y h = refl
set_there (z ∷ zs) (suc i) x y h = set_there zs i x y h

eqb_or : (n k : ℕ) → (n < k) ⊎ (k ≤ n)
eqb_or n k = by (nat_le k n) refl
  where
    by : (b : Bool) → nat_le k n ≡ b → (n < k) ⊎ (k ≤ n)
    by true is = inr (grind (arith, nat_tests))
    by false is = inl (grind (arith, nat_tests))

pub some_within : {A : Type 0} (xs : List A) (i : ℕ) → i < length xs → slice_get xs i ≡ None → ⊥
some_within [] i low h = omega (arith, low)
some_within (x ∷ xs) zero low h = cc
some_within (x ∷ xs) (suc i) low h = some_within xs i (omega (arith, low)) h

-- ---- where a node is

pub both_tests : (a b : Bool) → a ≡ true → b ≡ true → (a && b) ≡ true
both_tests true true h k = refl
both_tests true false h k = k
both_tests false b h k = h

pub left_fails : (a b : Bool) → a ≡ false → (a && b) ≡ false
left_fails false b h = refl
left_fails true b h = absurd cc

pub right_fails : (a b : Bool) → b ≡ false → (a && b) ≡ false
right_fails true b h = h
right_fails false b h = refl

at_most : (a b : ℕ) → a ≤ b → nat_le a b ≡ true
at_most a b h = grind (arith, nat_tests)

beyond : (a b : ℕ) → b < a → nat_le a b ≡ false
beyond a b h = grind (arith, nat_tests)

-- a node is at a place of the list
pub place_from : (v : StageValue) (k : ℕ) (at : Place) → place_at v k ≡ Some at
    → (1 ≤ k) × (slice_get v.places (k - 1) ≡ Some at)
place_from v k at h = elim (eqb_tells k 0) [
  | inl none ↦ absurd (no_place (nat_eq k 0) none.0 h)
  | inr some ↦ (omega (arith, some.1), there (nat_eq k 0) some.0 h)
]
  where
    no_place : (b : Bool) → b ≡ true → (if b then None else slice_get v.places (k - 1)) ≡ Some at → ⊥
    no_place true is h = cc
    no_place false is h = cc

    there : (b : Bool) → b ≡ false → (if b then None else slice_get v.places (k - 1)) ≡ Some at → slice_get v.places (k - 1) ≡ Some at
    there true is h = absurd cc
    there false is h = h

pub is_here : (v : StageValue) (k : ℕ) (at : Place) → 1 ≤ k → slice_get v.places (k - 1) ≡ Some at → place_at v k ≡ Some at
is_here v k at from h = elim (eqb_tells k 0) [
  | inl none ↦ let zero_is : k ≡ 0 = none.1 in absurd (omega (arith, from, zero_is))
  | inr some ↦ there (nat_eq k 0) some.0
]
  where
    there : (b : Bool) → b ≡ false → (if b then None else slice_get v.places (k - 1)) ≡ Some at
    there true is = absurd cc
    there false is = h

module _ (v : StageValue) (p : WorldOnDisks) (set : IsSetAs v p) (k : ℕ) where
  short : slice_get v.places (k - 1) ≡ None → k ≢ 0 → p.count < k
  short none above = elim (eqb_or (length v.places) k) [
    | inl few ↦ let same : p.count ≡ length v.places = set.count in omega (arith, few, same)
    | inr more ↦ absurd (some_within v.places (k - 1) (omega (arith, more, above)) none)
  ]

  count : p.count ≡ length v.places
  count = set.count

  pub has_there : (at : Place) → place_at v k ≡ Some at → has_node p k ≡ true
  has_there at h =
      let from = place_from v k at h in
      let low : 1 ≤ k = from.0 in
      let within : k - 1 < length v.places = slice_get_within v.places (k - 1) at from.1 in
      both_tests (nat_le 1 k) (nat_le k p.count) (at_most 1 k low) (at_most k p.count (omega (arith, within, low, count)))

  pub matches_there : (at : Place) → place_at v k ≡ Some at → Matches (p.world.nodes k) (p.disks k) at
  matches_there at h =
      let from = place_from v k at h in
      let low : 1 ≤ k = from.0 in
      let same : k - 1 + 1 ≡ k = omega (arith, low) in
      subst (λ (j : ℕ). Matches (p.world.nodes j) (p.disks j) at) same (set.places (k - 1) at from.1)

  -- it is nowhere
  pub none_there : place_at v k ≡ None → has_node p k ≡ false
  none_there h = elim (eqb_tells k 0) [
    | inl none ↦ left_fails (nat_le 1 k) (nat_le k p.count) (beyond 1 k (let is : k ≡ 0 = none.1 in omega (arith, is)))
    | inr some ↦ right_fails (nat_le 1 k) (nat_le k p.count) (past (slice_get v.places (k - 1)) refl (nat_eq k 0) some.0 h some.1)
  ]
    where
      past : (at : Option Place) → slice_get v.places (k - 1) ≡ at → (b : Bool) → b ≡ false
          → (if b then None else slice_get v.places (k - 1)) ≡ None → k ≢ 0 → nat_le k p.count ≡ false
      past at is true is_no none above = absurd cc
      past at is false is_no none above = beyond k p.count (short none above)

  -- ---- put back

  module _ (held : Place) (there : place_at v k ≡ Some held) (empty after : Place) (now : NodeOnDisk)
      (matches : MatchesBoth now after) where
    low : 1 ≤ k
    low = (place_from v k held there).0

    at_it : (j : ℕ) → j ≡ k → Matches (with_at p.world.nodes k now.node j) (with_at p.disks k now.disk j) after
    at_it j same =
        subst (λ (i : ℕ). Matches (with_at p.world.nodes k now.node i) (with_at p.disks k now.disk i) after) (sym same)
        (subst (λ (n : WorldNode). Matches n (with_at p.disks k now.disk k) after) (sym (at_here p.world.nodes k now.node))
        (subst (λ (d : MediumValue). Matches now.node d after) (sym (at_here p.disks k now.disk)) matches))

    at_another : (j : ℕ) (at : Place) → j ≢ k → Matches (p.world.nodes j) (p.disks j) at
        → Matches (with_at p.world.nodes k now.node j) (with_at p.disks k now.disk j) at
    at_another j at apart old =
        subst (λ (n : WorldNode). Matches n (with_at p.disks k now.disk j) at) (sym (at_other p.world.nodes k now.node j apart))
        (subst (λ (d : MediumValue). Matches (p.world.nodes j) d at) (sym (at_other p.disks k now.disk j apart)) old)

    each : (j : ℕ) (at : Place) → slice_get (slice_set (slice_set v.places (k - 1) empty) (k - 1) after) j ≡ Some at
        → Matches (with_at p.world.nodes k now.node (j + 1)) (with_at p.disks k now.disk (j + 1)) at
    each j at h = elim (got_set (slice_set v.places (k - 1) empty) (k - 1) j after at h) [
      | inl here ↦
          let place : j ≡ k - 1 = here.0 in
          let number : j + 1 ≡ k = omega (arith, place, low) in
          subst (Matches (with_at p.world.nodes k now.node (j + 1)) (with_at p.disks k now.disk (j + 1))) here.1 (at_it (j + 1) number)
      | inr other ↦ elim (got_set v.places (k - 1) j empty at other.1) [
        | inl here ↦ absurd (other.0 here.0)
        | inr old ↦
            let apart : j ≢ k - 1 = other.0 in
            let not_it : j + 1 ≢ k = λ e. apart (omega (arith, e)) in
            at_another (j + 1) at not_it (set.places j at old.1)
      ]
    ]

    pub set_again : IsSetAs (with_place (with_place v k empty) k after) (with_node p k now)
    set_again = record {
      count = count
          ∙ sym (set_length v.places (k - 1) empty)
          ∙ sym (set_length (slice_set v.places (k - 1) empty) (k - 1) after);
      clock = set.clock;
      bag = set.bag;
      places = each;
    }

-- the place that is left can be put back
pub can_be_put : (old new : StageValue) (k : ℕ) (held : Place) → IsTakenOut old new k held → IsTrue (is_some (place_at new k))
can_be_put old new k held out =
    let from = place_from old k held out.there in
    let left : place_at (with_place old k out.empty) k ≡ Some out.empty =
    is_here (with_place old k out.empty) k out.empty from.0 (set_there old.places (k - 1) out.empty held from.1) in
    subst (λ (v : StageValue). IsTrue (is_some (place_at v k))) (sym out.left)
    (subst (λ (o : Option Place). IsTrue (is_some o)) (sym left) refl)

-- a node of the list is taken out of its place
pub taken_there : (old v : StageValue) → v ≡ old → (k : ℕ) → 1 ≤ k → k ≤ length v.places → (held empty d : Place)
    → held ≡ get_or v.places (k - 1) d → IsTakenOut old (with_place v k empty) k held
taken_there old v same k low within held empty d is = record {
  there = subst (λ (w : StageValue). place_at w k ≡ Some held) same
      (is_here v k held low (slice_get-get_or v.places (k - 1) d (omega (arith, low, within)) ∙ ap Some (sym is)));
  empty = empty;
  left = ap (λ (w : StageValue). with_place w k empty) same;
}

-- the node with this number of a play is lawful
pub lawful_there : (v : StageValue) (p : WorldOnDisks) → IsStageOf v p → (k : ℕ) → IsLawfulNode k (p.world.nodes k)
lawful_there v p stage k =
    let records = run_keeps p.world stage.before stage.run in
    record {
      number = (records.nodes k).number;
      base = stage.posts.bases k;
      fits = (records.nodes k).fits;
      replays = records.replays k;
      one = run_one p.world stage.before stage.run k;
    }

-- ---- what is looked at

by_true : {A : Type 0} (b : Bool) (x y : A) → b ≡ true → (if b then x else y) ≡ x
by_true true x y h = refl
by_true false x y h = absurd cc

by_false : {A : Type 0} (b : Bool) (x y : A) → b ≡ false → (if b then x else y) ≡ y
by_false false x y h = refl
by_false true x y h = absurd cc

kind_some : (o : Option ScopeState) (kind : Kind) → Some kind ≡ option_map (λ (s : ScopeState). s.kind) o → IsKindNamed o (Ok kind)
kind_some None kind h = absurd cc
kind_some (Some s) kind h = let same : kind ≡ s.kind = cc in same

kind_none : (o : Option ScopeState) → None ≡ option_map (λ (s : ScopeState). s.kind) o → IsKindNamed o (Err (fault.Missing missing.Name))
kind_none None h = refl
kind_none (Some s) h = absurd cc

module _ (v : StageValue) (p : WorldOnDisks) (set : IsSetAs v p) (id : Id) where
  named_there : (at : Place) → Some at ≡ place_at v (node_of id.0)
      → scope_named p id ≡ scope_with_id (p.world.nodes (node_of id.0)).state id
  named_there at h =
      by_true (has_node p (node_of id.0)) (scope_with_id (p.world.nodes (node_of id.0)).state id) None
      (has_there v p set (node_of id.0) at (sym h))

  module _ (at : Place) (h : Some at ≡ place_at v (node_of id.0)) (kind : Option Kind)
      (is : (n : WorldNode) (disk : MediumValue) → IsPlaceOf n disk at
      → kind ≡ option_map (λ (s : ScopeState). s.kind) (scope_with_id n.state id)) where
    kind_is : kind ≡ option_map (λ (s : ScopeState). s.kind) (scope_named p id)
    kind_is =
        is (p.world.nodes (node_of id.0)) (p.disks (node_of id.0)) (matches_there v p set (node_of id.0) at (sym h)).place
        ∙ ap (option_map (λ (s : ScopeState). s.kind)) (sym (named_there at h))

    pub kind_there : (x : Kind) → kind ≡ Some x → IsKindNamed (scope_named p id) (Ok x)
    kind_there x some = kind_some (scope_named p id) x (sym some ∙ kind_is)

    pub no_kind_there : kind ≡ None → IsKindNamed (scope_named p id) (Err (fault.Missing missing.Name))
    no_kind_there none = kind_none (scope_named p id) (sym none ∙ kind_is)

  pub no_node_there : place_at v (node_of id.0) ≡ None → IsKindNamed (scope_named p id) (Err (fault.Missing missing.Name))
  no_node_there none =
      subst (λ (o : Option ScopeState). IsKindNamed o (Err (fault.Missing missing.Name)))
      (sym (by_false (has_node p (node_of id.0)) (scope_with_id (p.world.nodes (node_of id.0)).state id) None
      (none_there v p set (node_of id.0) none))) refl

-- ---- whether a node is up

up_is : (n : WorldNode) (disk : MediumValue) (node : NodeOnJournal DiskValue) → IsPlaceOf n disk (place.Up node) → is_running n.mode ≡ true
up_is n disk node runs = by node.closed runs.mode
  where
    by : (closed : Option ℕ) → n.mode ≡ mode_of closed → is_running n.mode ≡ true
    by None is = ap is_running is
    by (Some since) is = ap is_running is

module _ (v : StageValue) (p : WorldOnDisks) (set : IsSetAs v p) (k : ℕ) where
  pub up_there : (node : NodeOnJournal DiskValue) → place_at v k ≡ Some (place.Up node) → is_node_up p k ≡ true
  up_there node h =
      both_tests (has_node p k) (is_running (p.world.nodes k).mode) (has_there v p set k (place.Up node) h)
      (up_is (p.world.nodes k) (p.disks k) node (matches_there v p set k (place.Up node) h).place)

  pub down_there : (held : DiskValue) (known : List KnownScope) → place_at v k ≡ Some (place.Down held known) → is_node_up p k ≡ false
  down_there held known h =
      right_fails (has_node p k) (is_running (p.world.nodes k).mode)
      (ap is_running (matches_there v p set k (place.Down held known) h).place.mode)

  pub nowhere_up : place_at v k ≡ None → is_node_up p k ≡ false
  nowhere_up h = left_fails (has_node p k) (is_running (p.world.nodes k).mode) (none_there v p set k h)

module _ (v : StageValue) (p : WorldOnDisks) (set : IsSetAs v p) (id : Id) where
  pub seen_there : (node : NodeOnJournal DiskValue) → place_at v (node_of id.0) ≡ Some (place.Up node) → seen_at node.node id ≡ seen_in p id
  seen_there node h =
      ap (λ (n : NodeState). seen_at n id) (matches_there v p set (node_of id.0) (place.Up node) h).place.state
      ∙ sym (by_true (is_node_up p (node_of id.0)) (seen_at (p.world.nodes (node_of id.0)).state id) None
      (up_there v p set (node_of id.0) node h))

  pub unseen : is_node_up p (node_of id.0) ≡ false → None ≡ seen_in p id
  unseen h = sym (by_false (is_node_up p (node_of id.0)) (seen_at (p.world.nodes (node_of id.0)).state id) None h)

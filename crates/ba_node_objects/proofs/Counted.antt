-- As many objects as the greatest counter, and the count that is kept of them; for `last` and each change.
use Rattle.std.proofs.Common.{◌≡◌, ℕ, ◌+◌, ◌-◌, ◌<◌, ◌≤◌, ◌^◌, List, [], ◌∷◌, ◌++◌, map, length, slice_index_or, slice_set, refl, sym, ap}
use Rattle.std.proofs.Common.{◌∙◌, arith, length-append}
use Rattle.std.proofs.lemmas.List.{length-map}
use Rattle.std.proofs.lemmas.List.Sums.{get_or-le-sum_by, sum_by-append, sum_by-cons, sum_by-set}
use Rattle.std.specs.List.{sum_by}
use Rattle.ba_core.specs.declared.identifiers.Id.{Id}
use Rattle.ba_node_objects.specs.inside.Counts.{id_count}
use Rattle.ba_scope.specs.Scope.{ScopeState}
use Rattle.ba_scope_ends.specs.declared.parts.Part.{Part}
use Rattle.ba_node_steps.proofs.Objects.{ids_in_scopes, lone_ids}
use Rattle.ba_node_steps.specs.Fits.{NodeFits}
use Rattle.ba_node_steps.specs.Node.{NodeState, counter, ids, last, scope_ids}
use Rattle.ba_tree.specs.Lengths.{in_u64}
use Rattle.ba_tree.specs.Trees.{greatest, joined}

joined_length : (xs : List ScopeState) → length (joined (map scope_ids xs)) ≡ sum_by id_count xs
joined_length [] = refl
joined_length (s ∷ more) =
    length-append (scope_ids s) (joined (map scope_ids more)) ∙ ap (λ k. id_count s + k) (joined_length more)
    ∙ sym (sum_by-cons id_count s more)

greatest_is_small : (xs : List Id) → greatest (map counter xs) < 2 ^ 64
greatest_is_small [] = omega arith
greatest_is_small (x ∷ xs) = let rest = greatest_is_small xs in omega arith

in_both : (n : NodeState) → length (ids n) ≡ sum_by id_count n.scopes + length n.parts
in_both n =
    let both : length (ids n) ≡ length (ids_in_scopes n) + length (lone_ids n) = length-append (ids_in_scopes n) (lone_ids n) in
    let left : length (ids_in_scopes n) ≡ sum_by id_count n.scopes = joined_length n.scopes in
    let right : length (lone_ids n) ≡ length n.parts = length-map n.parts (λ (p : Part). p.id) in
    omega arith

pub counted : (n : NodeState) (in_scopes : ℕ) → NodeFits n → in_scopes ≡ in_u64 (sum_by id_count n.scopes)
    → in_u64 (in_scopes + length n.parts) ≡ last n
counted n in_scopes fits is =
    let whole : length (ids n) ≡ last n = fits.whole in
    let small : last n < 2 ^ 64 = greatest_is_small (ids n) in
    let both = in_both n in
    omega arith

-- ---- the count that is kept

pub few_in_scopes : (n : NodeState) → NodeFits n → sum_by id_count n.scopes < 2 ^ 64
few_in_scopes n fits =
    let whole : length (ids n) ≡ last n = fits.whole in
    let small : last n < 2 ^ 64 = greatest_is_small (ids n) in
    let both = in_both n in
    omega arith

-- a scope is counted among the others
pub one_within : (scopes : List ScopeState) (place : ℕ) (s : ScopeState) (in_scopes before : ℕ) → place < length scopes
    → s ≡ slice_index_or scopes place s → in_scopes ≡ in_u64 (sum_by id_count scopes) → before ≡ in_u64 (id_count s) → before ≤ in_scopes
one_within scopes place s in_scopes before within at is of =
    let here : id_count s ≡ id_count (slice_index_or scopes place s) = ap id_count at in
    let part : id_count (slice_index_or scopes place s) ≤ sum_by id_count scopes = get_or-le-sum_by id_count scopes place s within in
    omega arith

-- the count where the scope at a place is another one
pub counted_anew : (scopes : List ScopeState) (place : ℕ) (s new : ScopeState) (in_scopes before after : ℕ) → place < length scopes
    → s ≡ slice_index_or scopes place s → sum_by id_count scopes < 2 ^ 64 → in_scopes ≡ in_u64 (sum_by id_count scopes)
    → before ≡ in_u64 (id_count s) → after ≡ in_u64 (id_count new)
    → in_u64 ((in_scopes - before) + after) ≡ in_u64 (sum_by id_count (slice_set scopes place new))
counted_anew scopes place s new in_scopes before after within at few is of of_new =
    let here : id_count s ≡ id_count (slice_index_or scopes place s) = ap id_count at in
    let part : id_count (slice_index_or scopes place s) ≤ sum_by id_count scopes = get_or-le-sum_by id_count scopes place s within in
    let whole : sum_by id_count (slice_set scopes place new) + id_count (slice_index_or scopes place s)
    ≡ sum_by id_count scopes + id_count new =
    sum_by-set id_count scopes place new s within in
    omega arith

-- the count with one more scope
pub counted_more : (scopes : List ScopeState) (new : ScopeState) (in_scopes more : ℕ) → in_scopes ≡ in_u64 (sum_by id_count scopes)
    → more ≡ in_u64 (id_count new) → in_u64 (in_scopes + more) ≡ in_u64 (sum_by id_count (scopes ++ new ∷ []))
counted_more scopes new in_scopes more is of =
    let whole : sum_by id_count (scopes ++ new ∷ []) ≡ sum_by id_count scopes + sum_by id_count (new ∷ []) =
    sum_by-append id_count scopes (new ∷ []) in
    let one : sum_by id_count (new ∷ []) ≡ id_count new + sum_by id_count [] = sum_by-cons id_count new [] in
    omega arith

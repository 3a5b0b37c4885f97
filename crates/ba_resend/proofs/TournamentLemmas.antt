-- A tournament stays one where a place is set and then each node above it: for `put`.
use Rattle.std.proofs.Common.{◌≡◌, ℕ, zero, suc, ◌+◌, ◌-◌, ◌*◌, ◌/◌, ◌<◌, ◌≤◌, List, length, set, drop, map, get_or, refl, sym, ◌∙◌, ap}
use Rattle.std.proofs.Common.{subst, inl, inr, arith}
use Rattle.std.proofs.lemmas.List.{get_or_default, length-set, get_or-set_same, get_or-set_other, drop-set-lt, drop-set-add, map-set}
use Rattle.std.proofs.lemmas.Bool.{cases_eq}
use Rattle.std.specs.Prelude.{Option, Some, None}
use Rattle.ba_resend.specs.declared.dues.Due.{Due}
use Rattle.ba_resend.specs.declared.shares.Entry.{Entry}
use Rattle.ba_resend.specs.inside.Tournaments.{IsSettledBut, IsTournament, node_at, first_of, entry_at, due_in, half, slots_of}

half_set : (t : List (Option Entry)) (i : ℕ) (x : Option Entry) → half (set t i x) ≡ half t
half_set t i x = ap (λ n. n / 2) (length-set t i x)

here : (t : List (Option Entry)) (i : ℕ) (x : Option Entry) → i < length t → node_at (set t i x) i ≡ x
here t i x low = get_or-set_same t i x None low

elsewhere : (t : List (Option Entry)) (i j : ℕ) (x : Option Entry) → (j ≡ i → ⊥) → node_at (set t i x) j ≡ node_at t j
elsewhere t i j x apart = get_or-set_other t i j x None apart

even_set : (t : List (Option Entry)) (i : ℕ) (x : Option Entry) → half t + half t ≡ length t → half (set t i x) + half (set t i x)
    ≡ length (set t i x)
even_set t i x e = subst (λ n. n / 2 + n / 2 ≡ n) (sym (length-set t i x)) e

due_in-entry_at : (j : ℕ) (v : Option Due) → due_in (entry_at j v) ≡ v
due_in-entry_at j None = refl
due_in-entry_at j (Some d) = refl

node_again : (x a b a' b' n n' : Option Entry) → n ≡ first_of a b → n' ≡ n → a' ≡ a → b' ≡ b → n' ≡ first_of a' b'
node_again x a b a' b' n n' e p q r = cc

settled_here : (t : List (Option Entry)) (i : ℕ) → 0 < i → i < length t
    → let x : Option Entry = first_of (node_at t (2 * i)) (node_at t (2 * i + 1)) in
    node_at (set t i x) i ≡ first_of (node_at (set t i x) (2 * i)) (node_at (set t i x) (2 * i + 1))
settled_here t i pos low =
    let x : Option Entry = first_of (node_at t (2 * i)) (node_at t (2 * i + 1)) in
    let a : node_at (set t i x) (2 * i) ≡ node_at t (2 * i) = elsewhere t i (2 * i) x (λ e. omega arith) in
    let b : node_at (set t i x) (2 * i + 1) ≡ node_at t (2 * i + 1) = elsewhere t i (2 * i + 1) x (λ e. omega arith) in
    here t i x low ∙ sym (ap (λ n. first_of n (node_at (set t i x) (2 * i + 1))) a ∙ ap (first_of (node_at t (2 * i))) b)

-- a node whose number is another, and whose children have other numbers
settled_there : (t : List (Option Entry)) (i k : ℕ) (x : Option Entry) → (k ≡ i → ⊥) → (2 * k ≡ i → ⊥) → (2 * k + 1 ≡ i → ⊥)
    → node_at t k ≡ first_of (node_at t (2 * k)) (node_at t (2 * k + 1))
    → node_at (set t i x) k ≡ first_of (node_at (set t i x) (2 * k)) (node_at (set t i x) (2 * k + 1))
settled_there t i k x n a b e =
    elsewhere t i k x n ∙ e
    ∙ sym (ap (λ y. first_of y (node_at (set t i x) (2 * k + 1))) (elsewhere t i (2 * k) x a) ∙ ap (first_of (node_at t (2 * k)))
    (elsewhere t i (2 * k + 1) x b))

placed_there : (t : List (Option Entry)) (i j : ℕ) (x : Option Entry) → (half t + j ≡ i → ⊥)
    → node_at t (half t + j) ≡ entry_at j (due_in (node_at t (half t + j)))
    → node_at (set t i x) (half (set t i x) + j) ≡ entry_at j (due_in (node_at (set t i x) (half (set t i x) + j)))
placed_there t i j x apart e =
    let same : node_at (set t i x) (half t + j) ≡ node_at t (half t + j) = elsewhere t i (half t + j) x apart in
    let at_half : node_at (set t i x) (half t + j) ≡ entry_at j (due_in (node_at (set t i x) (half t + j))) =
    same ∙ e ∙ sym (ap (λ y. entry_at j (due_in y)) same) in
    subst (λ h. node_at (set t i x) (h + j) ≡ entry_at j (due_in (node_at (set t i x) (h + j)))) (sym (half_set t i x)) at_half

-- a node is settled: then only the one above it may be unsettled
settle_node : (t : List (Option Entry)) (i : ℕ) → IsSettledBut t i → 0 < i → i < half t
    → IsSettledBut (set t i (first_of (node_at t (2 * i)) (node_at t (2 * i + 1)))) (i / 2)
settle_node t i s pos low =
    let x : Option Entry = first_of (node_at t (2 * i)) (node_at t (2 * i + 1)) in
    let within : i < length t = omega (arith, s.even) in
    record {
      even = even_set t i x s.even;
      settled = λ k k_pos k_low apart. elim (cases_eq k i) [
        | inl e ↦ subst (λ n. node_at (set t i x) n ≡ first_of (node_at (set t i x) (2 * n)) (node_at (set t i x) (2 * n + 1))) (sym e)
            (settled_here t i pos within)
        | inr ne ↦ settled_there t i k x ne (λ e. apart (omega arith)) (λ e. apart (omega arith))
            (s.settled k k_pos (omega (arith, k_low, half_set t i x)) ne)
      ];
      placed = λ j j_low. placed_there t i j x (λ e. omega arith) (s.placed j (omega (arith, j_low, half_set t i x)));
    }

settle_slots : (t : List (Option Entry)) (i : ℕ) (x : Option Entry) → i < half t → slots_of (set t i x) ≡ slots_of t
settle_slots t i x low =
    ap (λ n. map due_in (drop n (set t i x))) (half_set t i x) ∙ ap (map due_in) (drop-set-lt (half t) t i x low)

placed_here : (t : List (Option Entry)) (j : ℕ) (v : Option Due) → half t + j < length t
    → let i : ℕ = half t + j in let x : Option Entry = entry_at j v in
    node_at (set t i x) (half (set t i x) + j) ≡ entry_at j (due_in (node_at (set t i x) (half (set t i x) + j)))
placed_here t j v within =
    let i : ℕ = half t + j in
    let x : Option Entry = entry_at j v in
    let at_half : node_at (set t i x) i ≡ entry_at j (due_in (node_at (set t i x) i)) =
    here t i x within ∙ sym (ap (λ y. entry_at j (due_in y)) (here t i x within) ∙ ap (entry_at j) (due_in-entry_at j v)) in
    subst (λ h. node_at (set t i x) (h + j) ≡ entry_at j (due_in (node_at (set t i x) (h + j)))) (sym (half_set t i x)) at_half

-- a place is set: then only the node above it may be unsettled
set_place : (t : List (Option Entry)) (j : ℕ) (v : Option Due) → IsTournament t → j < half t
    → IsSettledBut (set t (half t + j) (entry_at j v)) ((half t + j) / 2)
set_place t j v s low =
    let i : ℕ = half t + j in
    let x : Option Entry = entry_at j v in
    let within : i < length t = omega (arith, s.even) in
    record {
      even = even_set t i x s.even;
      settled = λ k k_pos k_low apart. settled_there t i k x (λ e. omega (arith, k_low, half_set t i x)) (λ e. apart (omega arith))
          (λ e. apart (omega arith))
          (s.settled k k_pos (omega (arith, k_low, half_set t i x)) (λ e. omega arith));
      placed = λ n n_low. elim (cases_eq n j) [
        | inl e ↦ subst (λ m. node_at (set t i x) (half (set t i x) + m) ≡ entry_at m (due_in (node_at (set t i x) (half
            (set t i x) + m)))) (sym e)
            (placed_here t j v within)
        | inr ne ↦ placed_there t i n x (λ e. ne (omega arith)) (s.placed n (omega (arith, n_low, half_set t i x)))
      ];
    }

set_slots : (t : List (Option Entry)) (j : ℕ) (v : Option Due) → slots_of (set t (half t + j) (entry_at j v)) ≡ set (slots_of t) j v
set_slots t j v =
    let x : Option Entry = entry_at j v in
    ap (λ n. map due_in (drop n (set t (half t + j) x))) (half_set t (half t + j) x)
    ∙ ap (map due_in) (drop-set-add (half t) t j x)
    ∙ map-set due_in (drop (half t) t) j x
    ∙ ap (set (slots_of t) j) (due_in-entry_at j v)

-- what `put` starts from: the place is set
pub start_settled : (t : List (Option Entry)) (j : ℕ) (v : Option Due) (x : Option Entry) → x ≡ entry_at j v → IsTournament t → j < half t
    → IsSettledBut (set t (half t + j) x) ((half t + j) / 2)
start_settled t j v x e s low = subst (λ y. IsSettledBut (set t (half t + j) y) ((half t + j) / 2)) (sym e) (set_place t j v s low)

pub start_below : (t : List (Option Entry)) (j : ℕ) (x : Option Entry) → j < half t → (half t + j) / 2 < half (set t (half t + j) x)
start_below t j x low = omega (arith, half_set t (half t + j) x)

pub start_slots : (t : List (Option Entry)) (j : ℕ) (v : Option Due) (x : Option Entry) → x ≡ entry_at j v
    → slots_of (set t (half t + j) x) ≡ set (slots_of t) j v
start_slots t j v x e = ap (λ y. slots_of (set t (half t + j) y)) e ∙ set_slots t j v

-- a turn of `put`: the node is settled, whatever stands for a number past the list
pub turn_settled : (t : List (Option Entry)) (i : ℕ) (a b x : Option Entry) → x ≡ first_of (get_or t (2 * i) a) (get_or t (2 * i + 1) b)
    → IsSettledBut t i → 0 < i → i < half t → IsSettledBut (set t i x) (i / 2)
turn_settled t i a b x e s pos low =
    let one : get_or t (2 * i) a ≡ node_at t (2 * i) = get_or_default t (2 * i) a None (omega (arith, s.even)) in
    let other : get_or t (2 * i + 1) b ≡ node_at t (2 * i + 1) = get_or_default t (2 * i + 1) b None (omega (arith, s.even)) in
    let is : x ≡ first_of (node_at t (2 * i)) (node_at t (2 * i + 1)) = e ∙ ap (λ y. first_of y (get_or t (2 * i + 1) b)) one ∙ ap
    (first_of (node_at t (2 * i))) other in
    subst (λ y. IsSettledBut (set t i y) (i / 2)) (sym is) (settle_node t i s pos low)

pub turn_below : (t : List (Option Entry)) (i : ℕ) (x : Option Entry) → i < half t → i / 2 < half (set t i x)
turn_below t i x low = omega (arith, half_set t i x)

pub turn_slots : (t : List (Option Entry)) (i : ℕ) (x : Option Entry) (slots : List (Option Due)) → i < half t → slots_of t ≡ slots
    → slots_of (set t i x) ≡ slots
turn_slots t i x slots low e = settle_slots t i x low ∙ e

-- The first node of a tournament is the first of all that is due: for `Share::first`.
use Rattle.std.proofs.Common.{◌≡◌, ℕ, zero, suc, ◌+◌, ◌-◌, ◌*◌, ◌/◌, ◌<◌, ◌≤◌, ◌⊎◌, Bool, true, false, cond, List, length, set, drop, map}
use Rattle.std.proofs.Common.{get_or, replicate, refl, sym, ◌∙◌, ap, subst, inl, inr, arith}
use Rattle.std.proofs.lemmas.List.{get_or-drop, get_or_past}
use Rattle.std.proofs.Math.ListN.{get_or-map}
use Rattle.std.proofs.lemmas.Bool.{cases_eq, cases_lt}
use Rattle.std.proofs.lemmas.Bool.Decides.{nat_tests}
use Rattle.std.specs.Prelude.{Option, Some, None, nat_lt, ◌||◌, ◌&&◌, ◌==◌}
use Rattle.ba_resend.specs.declared.dues.Due.{Due}
use Rattle.ba_resend.specs.declared.shares.Entry.{Entry}
use Rattle.ba_resend.specs.inside.Tournaments.{IsSettledBut, IsTournament, IsFirst, IsFirstOf, node_at, first_of, comes_first, entry_at}
use Rattle.ba_resend.specs.inside.Tournaments.{due_in, half, slot, slots_of}

-- the first is not due after the second
abbrev IsNotAfter : Option Entry → Option Entry → Type 0
IsNotAfter None None = Unit {0}
IsNotAfter (Some a) None = Unit {0}
IsNotAfter None (Some b) = ⊥
IsNotAfter (Some a) (Some b) = (a.due.moment ≤ b.due.moment) × (a.due.moment ≡ b.due.moment → a.place ≤ b.place)

first_numbers : (m n p q : ℕ) → (nat_lt m n || (m == n && nat_lt p q)) ≡ true → (m ≤ n) × (m ≡ n → p ≤ q)
first_numbers m n p q e = (grind (arith, nat_tests), λ h. grind (arith, nat_tests))

second_numbers : (m n p q : ℕ) → (nat_lt m n || (m == n && nat_lt p q)) ≡ false → (n ≤ m) × (n ≡ m → q ≤ p)
second_numbers m n p q e = (grind (arith, nat_tests), λ h. grind (arith, nat_tests))

not_after_itself : (x : Option Entry) → IsNotAfter x x
not_after_itself None = tt
not_after_itself (Some a) = (omega arith, λ h. omega arith)

not_after : (x y z : Option Entry) → IsNotAfter x y → IsNotAfter y z → IsNotAfter x z
not_after None y None p q = tt
not_after (Some a) y None p q = tt
not_after None None (Some c) p q = q
not_after None (Some b) (Some c) p q = p
not_after (Some a) None (Some c) p q = absurd q
not_after (Some a) (Some b) (Some c) p q = (omega arith, λ h. omega (arith, p.1, q.1))

cond_first : (b : Bool) (x y : Entry) → comes_first x y ≡ b
    → IsNotAfter (cond b (Some x) (Some y)) (Some x) × IsNotAfter (cond b (Some x) (Some y)) (Some y)
cond_first true x y e = (not_after_itself (Some x), first_numbers _ _ _ _ e)
cond_first false x y e = (second_numbers _ _ _ _ e, not_after_itself (Some y))

first_not_after : (x y : Option Entry) → IsNotAfter (first_of x y) x × IsNotAfter (first_of x y) y
first_not_after None None = (tt, tt)
first_not_after None (Some b) = (tt, not_after_itself (Some b))
first_not_after (Some a) None = (not_after_itself (Some a), tt)
first_not_after (Some a) (Some b) = cond_first (comes_first a b) a b refl

cond_either : (b : Bool) (x y : Option Entry) → (cond b x y ≡ x) ⊎ (cond b x y ≡ y)
cond_either true x y = inl refl
cond_either false x y = inr refl

first_either : (x y : Option Entry) → (first_of x y ≡ x) ⊎ (first_of x y ≡ y)
first_either None y = inr refl
first_either (Some a) None = inl refl
first_either (Some a) (Some b) = cond_either (comes_first a b) (Some a) (Some b)

child_not_after : (t : List (Option Entry)) → IsTournament t → (k : ℕ) → 1 < k → k < length t → IsNotAfter (node_at t (k / 2))
    (node_at t k)
child_not_after t s k pos low =
    let up : node_at t (k / 2) ≡ first_of (node_at t (2 * (k / 2))) (node_at t (2 * (k / 2) + 1)) =
    s.settled (k / 2) (omega arith) (omega (arith, s.even)) (λ e. omega arith) in
    let both : IsNotAfter (first_of (node_at t (2 * (k / 2))) (node_at t (2 * (k / 2) + 1))) (node_at t (2 * (k / 2)))
    × IsNotAfter (first_of (node_at t (2 * (k / 2))) (node_at t (2 * (k / 2) + 1))) (node_at t (2 * (k / 2) + 1)) =
    first_not_after (node_at t (2 * (k / 2))) (node_at t (2 * (k / 2) + 1)) in
    elim (cases_eq (2 * (k / 2)) k) [
      | inl e ↦ subst (λ y. IsNotAfter y (node_at t k)) (sym up)
          (subst (λ n. IsNotAfter (first_of (node_at t (2 * (k / 2))) (node_at t (2 * (k / 2) + 1))) (node_at t n)) e both.0)
      | inr ne ↦ subst (λ y. IsNotAfter y (node_at t k)) (sym up)
          (let odd : 2 * (k / 2) + 1 ≡ k = omega arith in
          subst (λ n. IsNotAfter (first_of (node_at t (2 * (k / 2))) (node_at t (2 * (k / 2) + 1))) (node_at t n)) odd both.1)
    ]

-- the first node is due no later than any
root_not_after : (fuel : ℕ) (t : List (Option Entry)) → IsTournament t → (k : ℕ) → k ≤ fuel → 0 < k → k < length t → IsNotAfter
    (node_at t 1) (node_at t k)
root_not_after zero t s k le pos low = absurd (omega arith)
root_not_after (suc fuel) t s k le pos low = elim (cases_lt 1 k) [
  | inl more ↦ not_after (node_at t 1) (node_at t (k / 2)) (node_at t k)
      (root_not_after fuel t s (k / 2) (omega arith) (omega arith) (omega arith)) (child_not_after t s k more low)
  | inr one ↦ let e : 1 ≡ k = omega arith in subst (λ n. IsNotAfter (node_at t 1) (node_at t n)) e (not_after_itself (node_at t 1))
]

-- what a node holds is due at some place
place_of_node : (fuel : ℕ) (t : List (Option Entry)) → IsTournament t → (k : ℕ) → length t ≤ k + fuel → 0 < k → k < length t
    → (j : ℕ) × (j < half t) × (node_at t (half t + j) ≡ node_at t k)
place_of_node zero t s k le pos low = absurd (omega arith)
place_of_node (suc fuel) t s k le pos low = elim (cases_lt k (half t)) [
  | inr high ↦ (k - half t, omega (arith, s.even), ap (node_at t) (let e : half t + (k - half t) ≡ k = omega arith in e))
  | inl inner ↦ let up : node_at t k ≡ first_of (node_at t (2 * k)) (node_at t (2 * k + 1)) = s.settled k pos inner (λ e. omega arith) in
      elim (first_either (node_at t (2 * k)) (node_at t (2 * k + 1))) [
        | inl e ↦ (let found : (j : ℕ) × (j < half t) × (node_at t (half t + j) ≡ node_at t (2 * k)) =
            place_of_node fuel t s (2 * k) (omega arith) (omega arith) (omega (arith, s.even)) in
            (found.0, found.1, found.2 ∙ sym e ∙ sym up))
        | inr e ↦ (let found : (j : ℕ) × (j < half t) × (node_at t (half t + j) ≡ node_at t (2 * k + 1)) =
            place_of_node fuel t s (2 * k + 1) (omega arith) (omega arith) (omega (arith, s.even)) in
            (found.0, found.1, found.2 ∙ sym e ∙ sym up))
      ]
]

pub slot_of_node : (t : List (Option Entry)) (j : ℕ) → slot (slots_of t) j ≡ due_in (node_at t (half t + j))
slot_of_node t j = get_or-map due_in (drop (half t) t) j None ∙ ap due_in (get_or-drop (half t) t j None)

after_none : (x : Option Entry) → IsNotAfter None x → due_in x ≡ None
after_none None h = refl
after_none (Some e) h = absurd h

is_none : (t : List (Option Entry)) → IsTournament t → 1 < length t → node_at t 1 ≡ None → (j : ℕ) → slot (slots_of t) j ≡ None
is_none t s more e j = slot_of_node t j ∙ elim (cases_lt (half t + j) (length t)) as (λ _. due_in (node_at t (half t + j)) ≡ None) [
  | inl low ↦ after_none _ (subst (λ y. IsNotAfter y (node_at t (half t + j))) e
      (root_not_after (length t) t s (half t + j) (omega arith) (omega (arith, s.even)) low))
  | inr past ↦ ap due_in (get_or_past t (half t + j) None past)
]

entry_is : (j : ℕ) (x : Option Entry) (d : Due) → x ≡ entry_at j (due_in x) → due_in x ≡ Some d → x ≡ Some (record { place = j; due = d })
entry_is j x d e f = e ∙ ap (entry_at j) f

same_entry : (a b : Entry) → ◌≡◌ {A = Option Entry} (Some a) (Some b) → a ≡ b
same_entry a b e = cc

bounds : (e b : Entry) → IsNotAfter (Some e) (Some b) → (e.due.moment ≤ b.due.moment) × (e.due.moment ≡ b.due.moment → e.place ≤ b.place)
bounds e b h = h

none_some : {A : Type 0} (d : Due) → ◌≡◌ {A = Option Due} None (Some d) → A
none_some d e = absurd (let h : ⊥ = cc in h)

-- each place where something is due
not_before : (t : List (Option Entry)) → IsTournament t → 1 < length t → (e : Entry) → node_at t 1 ≡ Some e → (j : ℕ) (d : Due) → slot
    (slots_of t) j ≡ Some d
    → (e.due.moment ≤ d.moment) × (e.due.moment ≡ d.moment → e.place ≤ j)
not_before t s more e root j d is =
    let node : due_in (node_at t (half t + j)) ≡ Some d = sym (slot_of_node t j) ∙ is in
    elim (cases_lt j (half t)) [
      | inl low ↦ (let entry : node_at t (half t + j) ≡ Some (record { place = j; due = d }) = entry_is j (node_at t (half t + j)) d
          (s.placed j low) node in
          let order : IsNotAfter (node_at t 1) (node_at t (half t + j)) =
          root_not_after (length t) t s (half t + j) (omega (arith, s.even)) (omega (arith, s.even)) (omega (arith, s.even)) in
          bounds e (record { place = j; due = d }) (subst (λ y. IsNotAfter (Some e) y) entry (subst (λ y. IsNotAfter y (node_at t
          (half t + j))) root order)))
      | inr past ↦ none_some d (sym (ap due_in (get_or_past t (half t + j) None (omega (arith, s.even)))) ∙ node)
    ]

is_some : (t : List (Option Entry)) → IsTournament t → 1 < length t → (e : Entry) → node_at t 1 ≡ Some e → IsFirst (slots_of t) e
is_some t s more e root =
    let found : (j : ℕ) × (j < half t) × (node_at t (half t + j) ≡ node_at t 1) = place_of_node (length t) t s 1 (omega arith)
    (omega arith) more in
    let entry : node_at t (half t + found.0) ≡ Some e = found.2 ∙ root in
    let placed : node_at t (half t + found.0) ≡ entry_at found.0 (due_in (node_at t (half t + found.0))) = s.placed found.0 found.1 in
    let whole : ◌≡◌ {A = Option Entry} (Some e) (Some (record { place = found.0; due = e.due })) =
    sym entry ∙ placed ∙ ap (λ y. entry_at found.0 (due_in y)) entry in
    let place : e.place ≡ found.0 = ap (λ a. a.place) (same_entry e (record { place = found.0; due = e.due }) whole) in
    record {
      here = ap (slot (slots_of t)) place ∙ slot_of_node t found.0 ∙ ap due_in entry;
      least = λ j d is. (not_before t s more e root j d is).0;
      lowest = λ j d is. (not_before t s more e root j d is).1;
    }

first_cases : (t : List (Option Entry)) → IsTournament t → 1 < length t → (r : Option Entry) → node_at t 1 ≡ r → IsFirstOf (slots_of t) r
first_cases t s more None e = is_none t s more e
first_cases t s more (Some a) e = is_some t s more a e

pub root_is_first : (t : List (Option Entry)) → IsTournament t → 1 < length t → IsFirstOf (slots_of t) (node_at t 1)
root_is_first t s more = first_cases t s more (node_at t 1) refl

pub nothing_is_first : (t : List (Option Entry)) → IsTournament t → length t < 2 → IsFirstOf (slots_of t) None
nothing_is_first t s few j = slot_of_node t j ∙ ap due_in (get_or_past t (half t + j) None (omega (arith, s.even)))

none_anywhere : (n k : ℕ) → get_or (replicate {A = Option Entry} n None) k None ≡ None
none_anywhere zero k = refl
none_anywhere (suc n) zero = refl
none_anywhere (suc n) (suc k) = none_anywhere n k

-- nothing is due where no place and no node holds anything
pub nothing_due : (n : ℕ) (t : List (Option Entry)) → t ≡ replicate n None → (j : ℕ) → slot (slots_of t) j ≡ None
nothing_due n t e j = slot_of_node t j ∙ ap due_in (ap (λ u. get_or u (half t + j) None) e ∙ none_anywhere n (half t + j))

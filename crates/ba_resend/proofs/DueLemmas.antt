-- What is due of a plan is a map: what is set at a counter is set at its identifier, and more room changes nothing. For `Plan`.
use Rattle.std.proofs.Common.{◌≡◌, ℕ, zero, suc, ◌+◌, ◌-◌, ◌*◌, ◌/◌, ◌%◌, ◌^◌, ◌<◌, ◌≤◌, ◌⊎◌, Bool, true, false, cond, List, length}
use Rattle.std.proofs.Common.{get_or, refl, sym, ◌∙◌, ap, subst, inl, inr, arith}
use Rattle.std.proofs.lemmas.Bool.{cases_eq, cases_lt}
use Rattle.std.proofs.lemmas.Bool.Decides.{nat_tests}
use Rattle.std.proofs.lemmas.Cmp.{nat_cmp_total}
use Rattle.std.specs.Ordering.{nat_cmp, eq_by_cmp, is_eq}
use Rattle.std.specs.declared.cmp.Ordering.TheVariants.{Less, Equal, Greater}
use Rattle.std.specs.Prelude.{Option, Some, None, nat_lt, ◌==◌}
use Rattle.std.specs.FinMap.{get-insert, get-remove, get-empty, same_map, nat_cmp-IsAntisymmetric}
use Rattle.std.specs.FinMap as map
use Rattle.ba_core.specs.Numbers.{id_of}
use Rattle.ba_resend.specs.declared.dues.Due.{Due}
use Rattle.ba_resend.specs.Plans.{Dues, due_with}
use Rattle.ba_resend.specs.inside.Rows.{due_with_row, dues_below}

key_test : (b c : Bool) → is_eq (cond b Less (cond c Equal Greater)) ≡ cond b false c
key_test true c = refl
key_test false true = refl
key_test false false = refl

same_key : (k : ℕ) → eq_by_cmp nat_cmp k k ≡ true
same_key k = key_test (nat_lt k k) (k == k) ∙ (let h : cond (nat_lt k k) false (k == k) ≡ true = grind (arith, nat_tests) in h)

other_key : (q k : ℕ) → (q ≡ k → ⊥) → eq_by_cmp nat_cmp q k ≡ false
other_key q k ne = key_test (nat_lt q k) (q == k) ∙ (let h : cond (nat_lt q k) false (q == k) ≡ false = grind (arith, nat_tests) in h)

row_same : (m : Dues) (k : ℕ) (v : Option Due) → map.get m k ≡ None → map.get (due_with_row m k v) k ≡ v
row_same m k None h = h
row_same m k (Some d) h = get-insert nat_cmp_total m k d k ∙ ap (λ b. cond b (Some d) (map.get m k)) (same_key k)

row_other : (m : Dues) (k : ℕ) (v : Option Due) (q : ℕ) → (q ≡ k → ⊥) → map.get (due_with_row m k v) q ≡ map.get m q
row_other m k None q ne = refl
row_other m k (Some d) q ne = get-insert nat_cmp_total m k d q ∙ ap (λ b. cond b (Some d) (map.get m q)) (other_key q k ne)

with_same : (m : Dues) (k : ℕ) (v : Option Due) → map.get (due_with m k v) k ≡ v
with_same m k None = get-remove nat_cmp_total m k k ∙ ap (λ b. cond b None (map.get m k)) (same_key k)
with_same m k (Some d) = get-insert nat_cmp_total m k d k ∙ ap (λ b. cond b (Some d) (map.get m k)) (same_key k)

with_other : (m : Dues) (k : ℕ) (v : Option Due) (q : ℕ) → (q ≡ k → ⊥) → map.get (due_with m k v) q ≡ map.get m q
with_other m k None q ne = get-remove nat_cmp_total m k q ∙ ap (λ b. cond b None (map.get m q)) (other_key q k ne)
with_other m k (Some d) q ne = get-insert nat_cmp_total m k d q ∙ ap (λ b. cond b (Some d) (map.get m q)) (other_key q k ne)

same_dues : (m n : Dues) → ((q : ℕ) → map.get m q ≡ map.get n q) → m ≡ n
same_dues m n is = same_map nat_cmp_total nat_cmp-IsAntisymmetric m n is

pub remove_absent : (m : Dues) (k : ℕ) → map.get m k ≡ None → map.remove m k ≡ m
remove_absent m k none = same_dues _ _ (λ q. elim (cases_eq q k) as (λ _. map.get (map.remove m k) q ≡ map.get m q) [
  | inl e ↦ ap (map.get (map.remove m k)) e ∙ with_same m k None ∙ sym none ∙ sym (ap (map.get m) e)
  | inr ne ↦ with_other m k None q ne
])

-- no counter below the number has this identifier
abbrev IsNoneOf : ℕ → ℕ → ℕ → Type 0
IsNoneOf node n q = (c : ℕ) → c < n → q ≡ id_of node c → ⊥

pub get_out : (node : ℕ) (row : ℕ → Option Due) (n q : ℕ) → ((c : ℕ) → c < n → q ≡ id_of node c → ⊥) → map.get (dues_below node row n) q
    ≡ None
get_out node row zero q out = get-empty nat_cmp q
get_out node row (suc n) q out =
    row_other (dues_below node row n) (id_of node n) (row n) q (out n (omega arith)) ∙ get_out node row n q (λ c h. out c (omega arith))

pub get_in : (node : ℕ) (row : ℕ → Option Due) (n c : ℕ) → c < n → map.get (dues_below node row n) (id_of node c) ≡ row c
get_in node row zero c low = absurd (omega arith)
get_in node row (suc n) c low = elim (cases_eq c n) as (λ _. map.get (dues_below node row (suc n)) (id_of node c) ≡ row c) [
  | inl e ↦ subst (λ k. map.get (dues_below node row (suc n)) (id_of node k) ≡ row k) (sym e)
      (row_same (dues_below node row n) (id_of node n) (row n) (get_out node row n (id_of node n) (λ k h is. omega arith)))
  | inr ne ↦ row_other (dues_below node row n) (id_of node n) (row n) (id_of node c) (λ is. ne (omega arith)) ∙ get_in node row n c
      (omega arith)
]

pub in_or_out : (node n q : ℕ) → ((c : ℕ) × (c < n) × (q ≡ id_of node c)) ⊎ ((c : ℕ) → c < n → q ≡ id_of node c → ⊥)
in_or_out node zero q = inr (λ c h e. omega arith)
in_or_out node (suc n) q = elim (in_or_out node n q) [
  | inl f ↦ inl (f.0, omega (arith, f.1), f.2)
  | inr out ↦ elim (cases_eq q (id_of node n)) [
    | inl e ↦ inl (n, omega arith, e)
    | inr ne ↦ inr (λ c h e. elim (cases_eq c n) [
      | inl p ↦ ne (e ∙ ap (id_of node) p)
      | inr apart ↦ out c (omega arith) e
    ])
  ]
]

-- what is due of an identifier in the map is due of an object
pub some_in : (node : ℕ) (row : ℕ → Option Due) (n q : ℕ) (d : Due) → map.get (dues_below node row n) q ≡ Some d
    → (c : ℕ) × (c < n) × (q ≡ id_of node c) × (row c ≡ Some d)
some_in node row n q d is = elim (in_or_out node n q) [
  | inl f ↦ (f.0, f.1, f.2, sym (get_in node row n f.0 f.1) ∙ sym (ap (map.get (dues_below node row n)) f.2) ∙ is)
  | inr out ↦ absurd (let none : ◌≡◌ {A = Option Due} None (Some d) = sym (get_out node row n q out) ∙ is in let h : ⊥ = cc in h)
]

set_due_at : (node : ℕ) (row row' : ℕ → Option Due) (n k : ℕ) (v : Option Due) → k < n → row' k ≡ v → ((c : ℕ) → (c ≡ k → ⊥) → row' c
    ≡ row c)
    → (c : ℕ) → c < n → map.get (dues_below node row' n) (id_of node c) ≡ map.get (due_with (dues_below node row n) (id_of node k) v)
    (id_of node c)
set_due_at node row row' n k v low is same c c_low =
    let m : Dues = dues_below node row n in
    elim (cases_eq c k) as (λ _. map.get (dues_below node row' n) (id_of node c) ≡ map.get (due_with m (id_of node k) v) (id_of node c)) [
      | inl e ↦ get_in node row' n c c_low ∙ ap row' e ∙ is ∙ sym (ap (λ j. map.get (due_with m (id_of node k) v) (id_of node j)) e
          ∙ with_same m (id_of node k) v)
      | inr ne ↦ get_in node row' n c c_low ∙ same c ne
          ∙ sym (with_other m (id_of node k) v (id_of node c) (λ same_id. ne (omega arith)) ∙ get_in node row n c c_low)
    ]

pub set_due : (node : ℕ) (row row' : ℕ → Option Due) (n k : ℕ) (v : Option Due) → k < n → row' k ≡ v → ((c : ℕ) → (c ≡ k → ⊥) → row' c
    ≡ row c)
    → dues_below node row' n ≡ due_with (dues_below node row n) (id_of node k) v
set_due node row row' n k v low is same =
    let m : Dues = dues_below node row n in
    same_dues _ _ (λ q. elim (in_or_out node n q) as (λ _. map.get (dues_below node row' n) q ≡ map.get (due_with m (id_of node k) v) q) [
      | inl f ↦ subst (λ p. map.get (dues_below node row' n) p ≡ map.get (due_with m (id_of node k) v) p) (sym f.2)
          (set_due_at node row row' n k v low is same f.0 f.1)
      | inr out ↦ get_out node row' n q out ∙ sym (with_other m (id_of node k) v q (out k low) ∙ get_out node row n q out)
    ])

wider_due_at : (node : ℕ) (row : ℕ → Option Due) (n c : ℕ) → ((k : ℕ) → n ≤ k → row k ≡ None) → row c ≡ map.get (dues_below node row n)
    (id_of node c)
wider_due_at node row n c beyond = elim (cases_lt c n) as (λ _. row c ≡ map.get (dues_below node row n) (id_of node c)) [
  | inl low ↦ sym (get_in node row n c low)
  | inr past ↦ beyond c past ∙ sym (get_out node row n (id_of node c) (λ k h e. omega arith))
]

pub wider_due : (node : ℕ) (row row' : ℕ → Option Due) (n n' : ℕ) → n ≤ n' → ((c : ℕ) → row' c ≡ row c) → ((c : ℕ) → n ≤ c → row c ≡ None)
    → dues_below node row' n' ≡ dues_below node row n
wider_due node row row' n n' more same beyond =
    same_dues _ _ (λ q. elim (in_or_out node n' q) as (λ _. map.get (dues_below node row' n') q ≡ map.get (dues_below node row n) q) [
      | inl f ↦ subst (λ p. map.get (dues_below node row' n') p ≡ map.get (dues_below node row n) p) (sym f.2)
          (get_in node row' n' f.0 f.1 ∙ same f.0 ∙ wider_due_at node row n f.0 beyond)
      | inr out ↦ get_out node row' n' q out ∙ sym (get_out node row n q (λ c h. out c (omega arith)))
    ])

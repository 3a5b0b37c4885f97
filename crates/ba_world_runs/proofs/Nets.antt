-- What a step of a world is to its net: it leaves it, or is a move of it. For the law that steps move a net.
use Rattle.std.proofs.Common.{◌≡◌, ◌≢◌, ◌⊎◌, inl, inr, ℕ, Bool, true, false, List, [], ◌++◌, Option, sym, ap, ◌∙◌, subst}
use Rattle.std.specs.Option.{option_to_list}
use Rattle.std.proofs.lemmas.Bool.Decides.{eqb_tells}
use Rattle.std.proofs.lemmas.List.{append-nil}
use Rattle.ba_record.specs.declared.records.Record.{Record}
use Rattle.ba_world_runs.specs.World.{Mail, Mode, Net, Occasion, World, WorldNode, net_of, node_at}
use Rattle.ba_world_runs.specs.WorldSteps.{Moves, OnlyAt, Stays, Takes, WorldStep, crashes, fails, fails_to_open, happens, nothing, opens_with}
use Rattle.ba_world_runs.specs.WorldSteps.{opens_without, waits, effect}

pub same_net : (w w2 : Net) → ((j : ℕ) → node_at w2 j ≡ node_at w j) → w2.bag ≡ w.bag → w ≡ w2
same_net w w2 states bag = sym (λ i. record { bag = bag i; states = λ j. states j i })

-- where the node with one number and all others stay, each stays
pub all_stay : (w w2 : Net) (k : ℕ) → node_at w2 k ≡ node_at w k → ((j : ℕ) → j ≢ k → node_at w2 j ≡ node_at w j)
    → (j : ℕ) → node_at w2 j ≡ node_at w j
all_stay w w2 k here others j = elim (eqb_tells j k) [
  | inl same ↦ ap (node_at w2) same.1 ∙ here ∙ sym (ap (node_at w) same.1)
  | inr other ↦ others j other.1
]

pub stays_net : (w w2 : World) (k : ℕ) (pending : Option Occasion) (mode : Mode) → Stays w w2 k pending mode → net_of w ≡ net_of w2
stays_net w w2 k pending mode s = same_net (net_of w) (net_of w2)
    (all_stay (net_of w) (net_of w2) k (ap (λ (n : WorldNode). n.state) s.node)
    (λ j other. ap (λ (n : WorldNode). n.state) (s.only.others j other)))
    s.bag

pub net_moves : (w w2 : World) → WorldStep w w2
    → (net_of w ≡ net_of w2) ⊎ ((k : ℕ) × (o : Occasion) × (joined : Bool) × Moves (net_of w) (net_of w2) k o joined)
net_moves w w2 (happens k o up takes) = inr (k, o, true, takes.moves)
net_moves w w2 (fails k o mode up is_mode may stays) = inl (stays_net w w2 k _ _ stays)
net_moves w w2 (nothing same) = inl (ap net_of (sym same))
net_moves w w2 (crashes k stays) = inl (stays_net w w2 k _ _ stays)
net_moves w w2 (opens_without k stays) = inl (stays_net w w2 k _ _ stays)
net_moves w w2 (opens_with k o pending takes) = inr (k, o, false, takes.moves)
net_moves w w2 (fails_to_open k stays) = inl (stays_net w w2 k _ _ stays)
net_moves w w2 (waits ms same) = inl (ap net_of (sym same))

-- ---- what was sent and what is kept only grows

abbrev GrowsBy : {A : Type 0} → List A → List A → Type 0
GrowsBy {A} xs ys = (more : List A) × (ys ≡ xs ++ more)

by_none : {A : Type 0} (xs ys : List A) → ys ≡ xs → GrowsBy xs ys
by_none xs ys same = ([], same ∙ sym (append-nil xs))

pub bag_grows : (w w2 : World) → WorldStep w w2 → (more : List Mail) × (w2.bag ≡ w.bag ++ more)
bag_grows w w2 step = elim (net_moves w w2 step) [
  | inl same ↦ by_none w.bag w2.bag (ap (λ (n : Net). n.bag) (sym same))
  | inr moved ↦ (_, moved.3.bag)
]

abbrev RecordsGrow : World → World → ℕ → Type 0
RecordsGrow w w2 k = (more : List Record) × ((w2.nodes k).records ≡ (w.nodes k).records ++ more)

same_records : (w w2 : World) (k : ℕ) → w2.nodes k ≡ w.nodes k → RecordsGrow w w2 k
same_records w w2 k same = by_none (w.nodes k).records (w2.nodes k).records (ap (λ (n : WorldNode). n.records) same)

at_one : (w w2 : World) (k : ℕ) → OnlyAt w w2 k → RecordsGrow w w2 k → (j : ℕ) → RecordsGrow w w2 j
at_one w w2 k only here j = elim (eqb_tells j k) [
  | inl same ↦ subst (RecordsGrow w w2) (sym same.1) here
  | inr other ↦ same_records w w2 j (only.others j other.1)
]

stays_records : (w w2 : World) (k : ℕ) (pending : Option Occasion) (mode : Mode) → Stays w w2 k pending mode → (j : ℕ) → RecordsGrow w w2 j
stays_records w w2 k pending mode s =
    at_one w w2 k s.only (by_none (w.nodes k).records (w2.nodes k).records (ap (λ (n : WorldNode). n.records) s.node))

takes_records : (w w2 : World) (k : ℕ) (o : Occasion) (joined : Bool) → Takes w w2 k o joined → (j : ℕ) → RecordsGrow w w2 j
takes_records w w2 k o joined t = at_one w w2 k t.only (option_to_list (effect (w.nodes k).state o).written, t.records)

pub records_grow : (w w2 : World) → WorldStep w w2 → (k : ℕ)
    → (more : List Record) × ((w2.nodes k).records ≡ (w.nodes k).records ++ more)
records_grow w w2 (happens k o up t) = takes_records w w2 k o true t
records_grow w w2 (fails k o mode up is_mode may s) = stays_records w w2 k _ _ s
records_grow w w2 (nothing same) = λ j. same_records w w2 j (ap (λ (x : World). x.nodes j) same)
records_grow w w2 (crashes k s) = stays_records w w2 k _ _ s
records_grow w w2 (opens_without k s) = stays_records w w2 k _ _ s
records_grow w w2 (opens_with k o pending t) = takes_records w w2 k o false t
records_grow w w2 (fails_to_open k s) = stays_records w w2 k _ _ s
records_grow w w2 (waits ms same) = λ j. same_records w w2 j (ap (λ (x : World). x.nodes j) same)

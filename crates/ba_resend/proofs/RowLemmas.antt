-- A row set in its share is the row of its counter, and of no other; shares that grow keep their rows. For `Plan`.
use Rattle.std.proofs.Common.{◌≡◌, ℕ, zero, suc, ◌+◌, ◌-◌, ◌*◌, ◌/◌, ◌%◌, ◌^◌, ◌<◌, ◌≤◌, ◌⊎◌, List, [], ◌∷◌, ◌++◌, lit<, length, set}
use Rattle.std.proofs.Common.{get_or, refl, sym, ◌∙◌, ap, subst, inl, inr, arith}
use Rattle.std.proofs.lemmas.Bool.{cases_eq, cases_lt}
use Rattle.std.proofs.lemmas.List.{length-set, get_or-set_same, get_or-set_other}
use Rattle.std.proofs.lemmas.Nat.{div-add-mod', mod_below, le-div, mod-mul-add, div-mul-add, mul-le}
use Rattle.std.specs.Prelude.{Option, Some, None, max}
use Rattle.std.specs.FinMap as map
use Rattle.ba_core.specs.Numbers.{id_of, counter_of}
use Rattle.ba_resend.specs.declared.dues.Due.{Due}
use Rattle.ba_resend.specs.declared.shares.Entry.{Entry}
use Rattle.ba_resend.specs.Plans.{Dues, Planned, HasRoom, IsServedBy, IsLeastDue, IsNoneDue, due_with}
use Rattle.ba_resend.specs.inside.Tournaments.{slot, IsFirst}
use Rattle.ba_resend.specs.inside.Rows.{Shares, FitsRoom, row_at, shares_with_row, dues_below, planned_of}
use Rattle.ba_resend.proofs.DueLemmas.{set_due, wider_due, remove_absent, get_in, get_out, some_in}

same_number : (e c n : ℕ) → e % n ≡ c % n → e / n ≡ c / n → e ≡ c
same_number e c n p q = sym (div-add-mod' e n) ∙ ap (λ r. r * n + e % n) q ∙ ap (λ r. c / n * n + r) p ∙ div-add-mod' c n

-- the row of a counter in shares of a known number
row_by : (shares : Shares) (n e : ℕ) → length shares ≡ n → row_at shares e ≡ slot (get_or shares (e % n) []) (e / n)
row_by shares n e len = ap (λ k. slot (get_or shares (e % k) []) (e / k)) len

shares_len : (shares : Shares) (c : ℕ) (v : Option Due) → length (shares_with_row shares c v) ≡ length shares
shares_len shares c v = length-set shares (c % length shares) (set (get_or shares (c % length shares) []) (c / length shares) v)

pub row_set_same : (shares : Shares) (c : ℕ) (v : Option Due) → 0 < length shares → c / length shares < length (get_or shares
    (c % length shares) [])
    → row_at (shares_with_row shares c v) c ≡ v
row_set_same shares c v pos within =
    let n : ℕ = length shares in
    let old : List (Option Due) = get_or shares (c % n) [] in
    row_by (shares_with_row shares c v) n c (shares_len shares c v)
    ∙ ap (λ l. slot l (c / n)) (get_or-set_same shares (c % n) (set old (c / n) v) [] (mod_below c n pos))
    ∙ get_or-set_same old (c / n) v None within

pub row_set_other : (shares : Shares) (c : ℕ) (v : Option Due) (e : ℕ) → 0 < length shares → (e ≡ c → ⊥)
    → row_at (shares_with_row shares c v) e ≡ row_at shares e
row_set_other shares c v e pos ne =
    let n : ℕ = length shares in
    let old : List (Option Due) = get_or shares (c % n) [] in
    row_by (shares_with_row shares c v) n e (shares_len shares c v)
    ∙ elim (cases_eq (e % n) (c % n)) as (λ _. slot (get_or (shares_with_row shares c v) (e % n) []) (e / n) ≡ row_at shares e) [
      | inl same ↦ ap (λ k. slot (get_or (shares_with_row shares c v) k []) (e / n)) same
          ∙ ap (λ l. slot l (e / n)) (get_or-set_same shares (c % n) (set old (c / n) v) [] (mod_below c n pos))
          ∙ get_or-set_other old (c / n) (e / n) v None (λ q. ne (same_number e c n same q))
          ∙ ap (λ k. slot (get_or shares k []) (e / n)) (sym same)
      | inr apart ↦ ap (λ l. slot l (e / n)) (get_or-set_other shares (c % n) (e % n) (set old (c / n) v) [] apart)
    ]

share_len : (shares : Shares) (k p : ℕ) (v : Option Due) (s : ℕ) → k < length shares
    → length (get_or (set shares k (set (get_or shares k []) p v)) s []) ≡ length (get_or shares s [])
share_len shares k p v s low = elim (cases_eq s k) as (λ _. length (get_or (set shares k (set (get_or shares k []) p v)) s []) ≡ length
    (get_or shares s [])) [
      | inl e ↦ ap (λ j. length (get_or (set shares k (set (get_or shares k []) p v)) j [])) e
          ∙ ap length (get_or-set_same shares k (set (get_or shares k []) p v) [] low)
          ∙ length-set (get_or shares k []) p v ∙ sym (ap (λ j. length (get_or shares j [])) e)
      | inr ne ↦ ap length (get_or-set_other shares k s (set (get_or shares k []) p v) [] ne)
    ]

pub set_fits : (shares : Shares) (room c : ℕ) (v : Option Due) → FitsRoom shares room → c < room → FitsRoom
    (shares_with_row shares c v) room
set_fits shares room c v f low =
    let n : ℕ = length shares in
    record {
      senders = omega (arith, shares_len shares c v, f.senders);
      small = f.small;
      within = λ e e_low. subst (λ k. e / k < length (get_or (shares_with_row shares c v) (e % k) [])) (sym (shares_len shares c v))
          (subst (λ k. e / n < k) (sym (share_len shares (c % n) (c / n) v (e % n) (mod_below c n f.senders))) (f.within e e_low));
      beyond = λ e past. row_set_other shares c v e f.senders (λ is. omega arith) ∙ f.beyond e past;
    }

same_planned : (node s s' r r' : ℕ) (d d' : Dues) → s ≡ s' → r ≡ r' → d ≡ d'
    → ◌≡◌ {A = Planned} (record { node = node; senders = s; room = r; due = d }) (record {
      node = node;
      senders = s';
      room = r';
      due =
          d';
    })
same_planned node s s' r r' d d' p q e = λ i. record { node = node; senders = p i; room = q i; due = e i }

pub set_planned : (node room : ℕ) (shares : Shares) (id : ℕ) (v : Option Due) → FitsRoom shares room → HasRoom
    (planned_of node room shares) id
    → planned_of node room (shares_with_row shares (counter_of id) v)
    ≡ record { node = node; senders = length shares; room = room; due = due_with (dues_below node (row_at shares) room) id v }
set_planned node room shares id v f h =
    let c : ℕ = counter_of id in
    same_planned node _ _ room room _ _ (shares_len shares c v) refl
    (set_due node (row_at shares) (row_at (shares_with_row shares c v)) room c v h.below
    (row_set_same shares c v f.senders (f.within c h.below)) (λ e ne. row_set_other shares c v e f.senders ne)
    ∙ ap (λ q. due_with (dues_below node (row_at shares) room) q v) (sym h.own))

-- what may be due of an identifier
pub get_planned : (node room : ℕ) (shares : Shares) (id : ℕ) → HasRoom (planned_of node room shares) id
    → row_at shares (counter_of id) ≡ map.get (dues_below node (row_at shares) room) id
get_planned node room shares id h =
    sym (ap (map.get (dues_below node (row_at shares) room)) h.own ∙ get_in node (row_at shares) room (counter_of id) h.below)

counter_is : (node c : ℕ) → c < 2 ^ 64 → counter_of (id_of node c) ≡ c
counter_is node c low = mod-mul-add node (2 ^ 64) c low

pub get_nowhere : (node room : ℕ) (shares : Shares) (id : ℕ) → FitsRoom shares room → (HasRoom (planned_of node room shares) id → ⊥)
    → map.get (dues_below node (row_at shares) room) id ≡ None
get_nowhere node room shares id f out = get_out node (row_at shares) room id (λ c low is.
    let same : counter_of id ≡ c = ap counter_of is ∙ counter_is node c (omega (arith, f.small)) in
    out (record { own = is ∙ sym (ap (id_of node) same); below = subst (λ k. k < room) (sym same) low }))

pub quiet_planned : (node room : ℕ) (shares : Shares) (id : ℕ) → FitsRoom shares room → (HasRoom (planned_of node room shares) id → ⊥)
    → planned_of node room shares ≡ record {
      node = node;
      senders = length shares;
      room = room;
      due = map.remove (dues_below node
          (row_at shares) room) id;
    }
quiet_planned node room shares id f out =
    same_planned node _ _ room room _ _ refl refl (sym (remove_absent _ id (get_nowhere node room shares id f out)))

-- shares that grew, with the rows that they had
pub record HaveGrown (old new : Shares) : Type 0 where
  pub senders : length new ≡ length old
  pub slots : (s j : ℕ) → slot (get_or new s []) j ≡ slot (get_or old s []) j
  pub longer : (s : ℕ) → length (get_or old s []) ≤ length (get_or new s [])

row_grown : (old new : Shares) → HaveGrown old new → (c : ℕ) → row_at new c ≡ row_at old c
row_grown old new g c = row_by new (length old) c g.senders ∙ g.slots (c % length old) (c / length old)

pub grown_fits : (old new : Shares) (room : ℕ) → HaveGrown old new → FitsRoom old room → FitsRoom new room
grown_fits old new room g f = record {
  senders = omega (arith, g.senders, f.senders);
  small = f.small;
  within = λ c low. subst (λ k. c / k < length (get_or new (c % k) [])) (sym g.senders)
      (omega (arith, f.within c low, g.longer (c % length old)));
  beyond = λ c past. row_grown old new g c ∙ f.beyond c past;
}

below_last : (c last n : ℕ) → 0 < n → c ≤ last → c / n ≤ last / n
below_last c last n pos low = le-div (c / n) last n pos (omega (arith, div-add-mod' c n))

pub roomier_fits : (old new : Shares) (room last : ℕ) → HaveGrown old new → FitsRoom old room → room ≤ last → last + 1 < 2 ^ 64
    → ((s : ℕ) → s < length new → last / length old + 1 ≤ length (get_or new s [])) → FitsRoom new (last + 1)
roomier_fits old new room last g f more small places = record {
  senders = omega (arith, g.senders, f.senders);
  small = small;
  within = λ c low. subst (λ k. c / k < length (get_or new (c % k) [])) (sym g.senders)
      (omega (
        arith,
        below_last c last (length old) f.senders (omega arith),
        places (c % length old) (omega (arith, g.senders, mod_below c (length old) f.senders)),
      ));
  beyond = λ c past. row_grown old new g c ∙ f.beyond c (omega arith);
}

pub grown_planned : (node room : ℕ) (old new : Shares) → HaveGrown old new → FitsRoom old room → planned_of node room new
    ≡ planned_of node room old
grown_planned node room old new g f =
    same_planned node _ _ room room _ _ g.senders refl (wider_due node (row_at old) (row_at new) room room (omega arith)
    (row_grown old new g) f.beyond)

pub roomier_planned : (node room last : ℕ) (old new : Shares) → HaveGrown old new → FitsRoom old room → room ≤ last
    → planned_of node (last + 1) new ≡ record {
      node = node;
      senders = length old;
      room = max room (last + 1);
      due = dues_below node
          (row_at old) room;
    }
roomier_planned node room last old new g f more =
    same_planned node _ _ (last + 1) (max room (last + 1)) _ _ g.senders (omega arith)
    (wider_due node (row_at old) (row_at new) room (last + 1) (omega arith) (row_grown old new g) f.beyond)

-- an identifier that a sender serves is due at a place of its share
served_place : (node room : ℕ) (shares : Shares) (share : ℕ) → FitsRoom shares room → (q : ℕ) (d : Due)
    → map.get (dues_below node (row_at shares) room) q ≡ Some d → IsServedBy (length shares) share q
    → (c : ℕ) × (q ≡ id_of node c) × (c % length shares ≡ share) × (slot (get_or shares share []) (c / length shares) ≡ Some d)
served_place node room shares share f q d is served =
    let found : (c : ℕ) × (c < room) × (q ≡ id_of node c) × (row_at shares c ≡ Some d) = some_in node (row_at shares) room q d is in
    let counter : counter_of q ≡ found.0 = ap counter_of found.2 ∙ counter_is node found.0 (omega (arith, f.small, found.1)) in
    let own : found.0 % length shares ≡ share = ap (λ k. k % length shares) (sym counter) ∙ served in
    (found.0, found.2, own, ap (λ s. slot (get_or shares s []) (found.0 / length shares)) (sym own) ∙ found.3)

pub none_next : (node room : ℕ) (shares : Shares) (share now : ℕ) → FitsRoom shares room
    → ((j : ℕ) → slot (get_or shares share []) j ≡ None) → IsNoneDue (dues_below node (row_at shares) room) (length shares) share now
none_next node room shares share now f none other d is served =
    let place : (c : ℕ) × (other ≡ id_of node c) × (c % length shares ≡ share) × (slot (get_or shares share []) (c / length shares)
    ≡ Some d) =
    served_place node room shares share f other d is served in
    absurd (let e : ◌≡◌ {A = Option Due} None (Some d) = sym (none (place.0 / length shares)) ∙ place.3 in let h : ⊥ = cc in h)

pub later_next : (node room : ℕ) (shares : Shares) (share now : ℕ) (e : Entry) → FitsRoom shares room
    → IsFirst (get_or shares share []) e → now < e.due.moment → IsNoneDue (dues_below node (row_at shares) room) (length shares) share now
later_next node room shares share now e f first later other d is served =
    let place : (c : ℕ) × (other ≡ id_of node c) × (c % length shares ≡ share) × (slot (get_or shares share []) (c / length shares)
    ≡ Some d) =
    served_place node room shares share f other d is served in
    omega (arith, first.least (place.0 / length shares) d place.3)

row_of_place : (shares : Shares) (share place : ℕ) → share < length shares
    → row_at shares (place * length shares + share) ≡ slot (get_or shares share []) place
row_of_place shares share place low =
    let n : ℕ = length shares in
    ap (λ s. slot (get_or shares s []) ((place * n + share) / n)) (mod-mul-add place n share low)
    ∙ ap (slot (get_or shares share [])) (div-mul-add place n share low)

pub first_fits : (shares : Shares) (room share : ℕ) (e : Entry) → FitsRoom shares room → share < length shares
    → IsFirst (get_or shares share []) e → e.place * length shares + share < room
first_fits shares room share e f low first = elim (cases_lt (e.place * length shares + share) room) [
  | inl below ↦ below
  | inr past ↦ absurd (let none : ◌≡◌ {A = Option Due} None (Some e.due) =
      sym (f.beyond (e.place * length shares + share) past) ∙ row_of_place shares share e.place low ∙ first.here in let h : ⊥ = cc in h)
]

lower_id : (node place n share c : ℕ) → c % n ≡ share → place ≤ c / n → id_of node (place * n + share) ≤ id_of node c
lower_id node place n share c own low =
    let product : place * n ≤ c / n * n = mul-le place n (c / n) n low (omega arith) in
    omega (arith, div-add-mod' c n)

pub first_next : (node room : ℕ) (shares : Shares) (share now : ℕ) (e : Entry) (id : ℕ) → FitsRoom shares room → share < length shares
    → IsFirst (get_or shares share []) e → e.due.moment ≤ now → id ≡ id_of node (e.place * length shares + share)
    → IsLeastDue (dues_below node (row_at shares) room) (length shares) share now id
first_next node room shares share now e id f low first past is =
    let n : ℕ = length shares in
    let c : ℕ = e.place * n + share in
    let below : c < room = first_fits shares room share e f low first in
    record {
      at = e.due;
      planned = ap (map.get (dues_below node (row_at shares) room)) is ∙ get_in node (row_at shares) room c below
          ∙ row_of_place shares share e.place low ∙ first.here;
      past = past;
      served = ap (λ q. counter_of q % n) is ∙ ap (λ k. k % n) (counter_is node c (omega (arith, f.small, below)))
          ∙ mod-mul-add e.place n share low;
      least = λ other d planned served.
          let place : (k : ℕ) × (other ≡ id_of node k) × (k % n ≡ share) × (slot (get_or shares share []) (k / n) ≡ Some d) =
          served_place node room shares share f other d planned served in
          first.least (place.0 / n) d place.3;
      lowest = λ other d planned served same.
          let place : (k : ℕ) × (other ≡ id_of node k) × (k % n ≡ share) × (slot (get_or shares share []) (k / n) ≡ Some d) =
          served_place node room shares share f other d planned served in
          let order : id_of node c ≤ id_of node place.0 = lower_id node e.place n share place.0 place.2 (first.lowest
          (place.0 / n) d place.3 same) in
          subst (λ q. id ≤ q) (sym place.1) (subst (λ q. q ≤ id_of node place.0) (sym is) order);
    }

pub all_empty-push : (items : Shares) (x : List (Option Due)) → x ≡ [] → ((s : ℕ) → get_or items s [] ≡ []) → (s : ℕ) → get_or
    (items ++ x ∷ []) s [] ≡ []
all_empty-push [] x e all zero = e
all_empty-push [] x e all (suc s) = refl
all_empty-push (y ∷ ys) x e all zero = all zero
all_empty-push (y ∷ ys) x e all (suc s) = all_empty-push ys x e (λ k. all (suc k)) s

pub empty_fits : (items : Shares) → 0 < length items → ((s : ℕ) → get_or items s [] ≡ []) → FitsRoom items 0
empty_fits items pos all = record {
  senders = pos;
  small = lit< tt;
  within = λ c low. absurd (omega arith);
  beyond = λ c past. ap (λ l. slot l (c / length items)) (all (c % length items));
}

pub empty_planned : (node senders : ℕ) (items : Shares) → length items ≡ senders
    → planned_of node 0 items ≡ record { node = node; senders = senders; room = 0; due = map.empty }
empty_planned node senders items len = same_planned node _ _ 0 0 _ _ len refl refl

-- Believe: the plan of a node: which of its objects are to say something again, and when. It is a finite map from their
-- identifiers to moments and delays, in milliseconds, which four rules change.
use Rattle.std.specs.Prelude.{◌≡◌, ℕ, ◌+◌, ◌-◌, ◌*◌, ◌%◌, ◌^◌, ◌<◌, ◌≤◌, min, refl, Option, Some, None}
use Rattle.std.specs.Ordering.{nat_cmp}
use Rattle.std.specs.FinMap as map
use Rattle.std.specs.Coded.{Coded, code_by, coded×, coded_ℕ}
use Rattle.ba_core.specs.Numbers.{id_of, counter_of}
use Rattle.ba_core.specs.declared.identifiers.Id.{Id}
use Rattle.ba_resend.specs.declared.dues.Due.{Due}
use Rattle.ba_resend.specs.contracts.dues.Due as due_type
use Rattle.ba_resend.specs.declared.dues.TheConstants.{FIRST_DELAY, LONGEST_DELAY}

-- what is due, by identifier
abbrev pub Dues : Type 0
Dues = map.FinMap nat_cmp Due

-- a plan: the node whose objects it speaks of, how many senders share them, the counters below which it has room, and what is due
pub record Planned : Type 0 where
  pub node : ℕ
  pub senders : ℕ
  pub room : ℕ
  pub due : Dues

abbrev pub planned_code : Coded Planned
planned_code =
    code_by ((ℕ × ℕ) × (ℕ × Dues)) (coded× (coded× coded_ℕ coded_ℕ) (coded× coded_ℕ (map.code coded_ℕ due_type.the_row.coded)))
    (λ p. ((p.node, p.senders), (p.room, p.due))) (λ q. record { node = q.0.0; senders = q.0.1; room = q.1.0; due = q.1.1 }) (λ _. refl)

-- the plan has room for the identifier: one of an object of its node, whose counter is below its room
pub record HasRoom (plan : Planned) (id : ℕ) : Type 0 where
  pub own : id ≡ id_of plan.node (counter_of id)
  pub below : counter_of id < plan.room

-- what is due, where one identifier is due so, or isn't any more
abbrev pub due_with : Dues → ℕ → Option Due → Dues
due_with due id None = map.remove due id
due_with due id (Some d) = map.insert due id d

-- the lesser of its moment and now: what is due already stays so
abbrev pub prompted_moment : Option Due → ℕ → ℕ
prompted_moment None now = now
prompted_moment (Some due) now = min due.moment now

abbrev pub delay_of : Option Due → ℕ
delay_of None = FIRST_DELAY
delay_of (Some due) = due.delay

-- prompted: due now, or since it was, with the first delay
abbrev pub due_after_prompt : Dues → ℕ → ℕ → Dues
due_after_prompt due id now = map.insert due id (record { moment = prompted_moment (map.get due id) now; delay = FIRST_DELAY })

-- put off to a moment, with the first delay
abbrev pub due_after_later : Dues → ℕ → ℕ → Dues
due_after_later due id moment = map.insert due id (record { moment = moment; delay = FIRST_DELAY })

-- sent: due again after its delay, at most at the last moment that there is, and the delay doubles up to the longest
abbrev pub due_after_sent : Dues → ℕ → ℕ → Dues
due_after_sent due id now =
    let delay : ℕ = delay_of (map.get due id) in
    map.insert due id (record { moment = min (now + delay) (2 ^ 64 - 1); delay = min (2 * delay) LONGEST_DELAY })

-- quiet: not due any more
abbrev pub due_after_quiet : Dues → ℕ → Dues
due_after_quiet due id = map.remove due id

-- the identifier is one of those that this one of so many senders serves
abbrev pub IsServedBy : ℕ → ℕ → ℕ → Type 0
IsServedBy senders share id = counter_of id % senders ≡ share

-- the identifier is due now, this sender serves it, and of all these it has the least moment, and then the least number
pub record IsLeastDue (due : Dues) (senders share now : ℕ) (id : ℕ) : Type 0 where
  pub at : Due
  pub planned : map.get due id ≡ Some at
  pub past : at.moment ≤ now
  pub served : IsServedBy senders share id
  pub least : (other : ℕ) (d : Due) → map.get due other ≡ Some d → IsServedBy senders share other → at.moment ≤ d.moment
  pub lowest : (other : ℕ) (d : Due) → map.get due other ≡ Some d → IsServedBy senders share other → at.moment ≡ d.moment → id ≤ other

-- none that this sender serves is due now
abbrev pub IsNoneDue : Dues → ℕ → ℕ → ℕ → Type 0
IsNoneDue due senders share now = (other : ℕ) (d : Due) → map.get due other ≡ Some d → IsServedBy senders share other → now < d.moment

-- whose turn it is at this moment among those that a sender serves
abbrev pub IsNextDue : Dues → ℕ → ℕ → ℕ → Option Id → Type 0
IsNextDue due senders share now None = IsNoneDue due senders share now
IsNextDue due senders share now (Some id) = IsLeastDue due senders share now id.0

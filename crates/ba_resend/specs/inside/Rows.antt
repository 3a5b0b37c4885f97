-- Inside: a plan as its shares: the object with counter c is at the place c / n of the share c % n, where there are n.
use Rattle.std.specs.Prelude.{◌≡◌, ℕ, zero, suc, ◌/◌, ◌%◌, ◌^◌, ◌<◌, ◌≤◌, List, [], length, get_or, set, Option, Some, None}
use Rattle.std.specs.FinMap as map
use Rattle.ba_core.specs.Numbers.{id_of}
use Rattle.ba_resend.specs.declared.dues.Due.{Due}
use Rattle.ba_resend.specs.Plans.{Dues, Planned, due_with}
use Rattle.ba_resend.specs.inside.Tournaments.{slot}

abbrev pub Shares : Type 0
Shares = List (List (Option Due))

-- what is due of the object with this counter
abbrev pub row_at : Shares → ℕ → Option Due
row_at shares counter = slot (get_or shares (counter % length shares) []) (counter / length shares)

abbrev pub shares_with_row : Shares → ℕ → Option Due → Shares
shares_with_row shares counter due =
    set shares (counter % length shares) (set (get_or shares (counter % length shares) []) (counter / length shares) due)

abbrev pub due_with_row : Dues → ℕ → Option Due → Dues
due_with_row due id None = due
due_with_row due id (Some d) = map.insert due id d

-- what is due of the objects of a node whose counters are below a number
abbrev pub dues_below : ℕ → (ℕ → Option Due) → ℕ → Dues
dues_below node row zero = map.empty
dues_below node row (suc n) = due_with_row (dues_below node row n) (id_of node n) (row n)

abbrev pub planned_of : ℕ → ℕ → Shares → Planned
planned_of node room shares = record { node = node; senders = length shares; room = room; due = dues_below node (row_at shares) room }

-- there is a place for each counter below the room, and nothing is due past it
pub record FitsRoom (shares : Shares) (room : ℕ) : Type 0 where
  pub senders : 0 < length shares
  pub small : room < 2 ^ 64
  pub within : (c : ℕ) → c < room → c / length shares < length (get_or shares (c % length shares) [])
  pub beyond : (c : ℕ) → room ≤ c → row_at shares c ≡ None

-- Inside: a tournament over places, as a list: its second half holds what is due at each place, and each node of the
-- first half, from the number 1 on, holds the one of its two children that is due first.
use Rattle.std.specs.Prelude.{◌≡◌, ◌≢◌, ℕ, zero, suc, ◌+◌, ◌-◌, ◌*◌, ◌/◌, ◌<◌, ◌≤◌, Bool, cond, ◌||◌, ◌&&◌, ◌==◌, nat_lt}
use Rattle.std.specs.Prelude.{List, length, get_or, drop, map, Option, Some, None}
use Rattle.ba_resend.specs.declared.dues.Due.{Due}
use Rattle.ba_resend.specs.declared.shares.Entry.{Entry}

-- what is due at a place, or nothing
abbrev pub slot : List (Option Due) → ℕ → Option Due
slot slots place = get_or slots place None

-- the node or place of this number
abbrev pub node_at : List (Option Entry) → ℕ → Option Entry
node_at tree k = get_or tree k None

abbrev pub comes_first : Entry → Entry → Bool
comes_first a b = nat_lt a.due.moment b.due.moment || (a.due.moment == b.due.moment && nat_lt a.place b.place)

-- the one of two that is due first
abbrev pub first_of : Option Entry → Option Entry → Option Entry
first_of None other = other
first_of (Some a) None = Some a
first_of (Some a) (Some b) = cond (comes_first a b) (Some a) (Some b)

-- what is due, without its place
abbrev pub due_in : Option Entry → Option Due
due_in None = None
due_in (Some e) = Some e.due

-- what is due, at this place
abbrev pub entry_at : ℕ → Option Due → Option Entry
entry_at place None = None
entry_at place (Some due) = Some (record { place = place; due = due })

-- the number of the first place
abbrev pub half : List (Option Entry) → ℕ
half tree = length tree / 2

-- what is due at each place
abbrev pub slots_of : List (Option Entry) → List (Option Due)
slots_of tree = map due_in (drop (half tree) tree)

-- each node but one holds the first of its children; where that one is 0, each node does
pub record IsSettledBut (tree : List (Option Entry)) (node : ℕ) : Type 0 where
  pub even : half tree + half tree ≡ length tree
  pub settled : (k : ℕ) → 0 < k → k < half tree → k ≢ node → node_at tree k ≡ first_of (node_at tree (2 * k)) (node_at tree (2 * k + 1))
  pub placed : (j : ℕ) → j < half tree → node_at tree (half tree + j) ≡ entry_at j (due_in (node_at tree (half tree + j)))

abbrev pub IsTournament : List (Option Entry) → Type 0
IsTournament tree = IsSettledBut tree 0

-- the first of a share: none of the places is due before it, and none at all where it is none
pub record IsFirst (slots : List (Option Due)) (e : Entry) : Type 0 where
  pub here : slot slots e.place ≡ Some e.due
  pub least : (j : ℕ) (d : Due) → slot slots j ≡ Some d → e.due.moment ≤ d.moment
  pub lowest : (j : ℕ) (d : Due) → slot slots j ≡ Some d → e.due.moment ≡ d.moment → e.place ≤ j

abbrev pub IsFirstOf : List (Option Due) → Option Entry → Type 0
IsFirstOf slots None = (j : ℕ) → slot slots j ≡ None
IsFirstOf slots (Some e) = IsFirst slots e

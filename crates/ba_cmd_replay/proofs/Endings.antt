-- The lines after the last event, number by number: for `show_objects`, `show_node` and `show_ending`, clause `shown`.
use Rattle.std.proofs.Common.{◌≡◌, ℕ, zero, suc, ◌+◌, ◌-◌, ◌<◌, ◌≤◌, Bool, true, false, ◌&&◌, nat_le, length, List, [], ◌∷◌, ◌++◌, map}
use Rattle.std.proofs.Common.{None, refl, sym, ap, ◌∙◌, subst, append-nil, append_assoc, arith, if◌then◌else◌}
use Rattle.ba_core.specs.Numbers.{id_of, node_of}
use Rattle.ba_core.specs.declared.identifiers.Id.{Id}
use Rattle.ba_world_events.specs.Outcomes.{summary_line}
use Rattle.ba_world_events.specs.declared.summaries.Summary.{Summary}
use Rattle.ba_world_events.specs.declared.summaries.Summary.TheVariants as summary
use Rattle.ba_world_play.specs.Plays.{WorldOnDisks, has_node}
use Rattle.ba_world_play.specs.Shows.{node_summaries, numbers_from, object_summaries, summaries, summaries_at, summaries_by_mode}
use Rattle.ba_world_runs.proofs.Recorded.{run_keeps}
use Rattle.ba_world_runs.specs.World.{Mode, is_closed, is_down, is_up}
use Rattle.std.proofs.lemmas.Bool.{le-leb}
use Rattle.ba_node_steps.specs.Node.{NodeState, id_at}
use Rattle.ba_node_steps.specs.Shown.{seen_at}
use Rattle.ba_tree.specs.Trees.{joined}
use Rattle.ba_world.specs.Worlds.{IsWorldOf, WorldValue, is_node_up, is_running, seen_in}
use Rattle.ba_cmd_replay.specs.inside.WorldPlays.{object_lines}

-- ---- what is shown of the first so many numbers

abbrev pub numbered : (ℕ → List Summary) → ℕ → List (List ℕ)
numbered f m = map summary_line (joined (map f (numbers_from 1 m)))

from_next : (f : ℕ → List Summary) (first m : ℕ)
    → joined (map f (numbers_from first (suc m))) ≡ joined (map f (numbers_from first m)) ++ f (first + m)
from_next f first zero = let same : first ≡ first + 0 = omega arith in append-nil (f first) ∙ ap f same
from_next f first (suc m) =
    let before = joined (map f (numbers_from (first + 1) m)) in
    let same : (first + 1) + m ≡ first + suc m = omega arith in
    ap (λ (xs : List Summary). f first ++ xs) (from_next f (first + 1) m ∙ ap (λ (k : ℕ). before ++ f k) same)
    ∙ sym (append_assoc (f first) before (f (first + suc m)))

pub mapped : (xs ys : List Summary) → map summary_line (xs ++ ys) ≡ map summary_line xs ++ map summary_line ys
mapped [] ys = refl
mapped (x ∷ xs) ys = ap (λ (ls : List (List ℕ)). summary_line x ∷ ls) (mapped xs ys)

next_numbered : (f : ℕ → List Summary) (m : ℕ) → numbered f (suc m) ≡ numbered f m ++ map summary_line (f (suc m))
next_numbered f m =
    let before = joined (map f (numbers_from 1 m)) in
    let same : 1 + m ≡ suc m = omega arith in
    ap (map summary_line) (from_next f 1 m ∙ ap (λ (k : ℕ). before ++ f k) same) ∙ mapped before (f (suc m))

-- with the number after the first so many
pub one_more : (f : ℕ → List Summary) (m : ℕ) → numbered f (m + 1) ≡ numbered f m ++ map summary_line (f (m + 1))
one_more f m = let same : m + 1 ≡ suc m = omega arith in
    ap (numbered f) same ∙ next_numbered f m ∙ ap (λ (i : ℕ). numbered f m ++ map summary_line (f i)) (sym same)

further : (f : ℕ → List Summary) (m d : ℕ) → (rest : List (List ℕ)) × (numbered f (m + d) ≡ numbered f m ++ rest)
further f m zero = let same : m + 0 ≡ m = omega arith in ([], ap (numbered f) same ∙ sym (append-nil (numbered f m)))
further f m (suc d) =
    let before = further f m d in
    let line = map summary_line (f (suc (m + d))) in
    let same : m + suc d ≡ suc (m + d) = omega arith in (
      before.0 ++ line,
      ap (numbered f) same ∙ next_numbered f (m + d) ∙ ap (λ (ls : List (List ℕ)). ls ++ line) before.1
          ∙ append_assoc (numbered f m) before.0 line,
    )

-- what comes after it
pub after_number : (f : ℕ → List Summary) (m all : ℕ) → m < all
    → (rest : List (List ℕ)) × (numbered f all ≡ (numbered f m ++ map summary_line (f (m + 1))) ++ rest)
after_number f m all to =
    let rest = further f (m + 1) (all - (m + 1)) in
    let same : all ≡ (m + 1) + (all - (m + 1)) = omega (arith, to) in
    (rest.0, ap (numbered f) same ∙ rest.1 ∙ ap (λ (ls : List (List ℕ)). ls ++ rest.0) (one_more f m))

-- ---- an object

seen_here : (p : WorldOnDisks) (id : Id) (k : ℕ) → node_of id.0 ≡ k → is_node_up p k ≡ true
    → seen_in p id ≡ seen_at (p.world.nodes k).state id
seen_here p id k at =
    subst (λ (j : ℕ). is_node_up p j ≡ true → seen_in p id ≡ seen_at (p.world.nodes j).state id) at
    (λ up. ap (λ (b : Bool). if b then seen_at (p.world.nodes (node_of id.0)).state id else None) up)

pub object_shown : (v : WorldValue) (p : WorldOnDisks) (id : Id) (k counter : ℕ) → IsWorldOf v p → is_node_up p k ≡ true
    → node_of id.0 ≡ k → id.0 ≡ id_of k counter
    → object_lines id (seen_in p id) ≡ map summary_line (summaries_at (p.world.nodes k).state counter)
object_shown v p id k counter world up at is =
    let n : NodeState = (p.world.nodes k).state in
    let number : n.number ≡ k = ((run_keeps p.world world.1.before world.1.run).nodes k).number in
    let value : id.0 ≡ id_of n.number counter = is ∙ ap (λ (j : ℕ). id_of j counter) (sym number) in
    let same : id ≡ id_at n counter = ap (λ (x : ℕ). let made : Id = record { 0 = x } in made) value in
    ap (object_lines id) (seen_here p id k at up) ∙ ap (λ (i : Id). object_lines i (seen_at n i)) same

-- ---- a node

rest_of_and : (a b v : Bool) → a ≡ true → (a && b) ≡ v → b ≡ v
rest_of_and true b v is h = h
rest_of_and false b v is h = absurd cc

down_by : (k : ℕ) (n : NodeState) (m : Mode) → is_running m ≡ false → summaries_by_mode k n m ≡ summary.NodeDown k ∷ []
down_by k n is_up h = absurd cc
down_by k n is_closed h = absurd cc
down_by k n is_down h = refl

pub node_down : (p : WorldOnDisks) (k : ℕ) → has_node p k ≡ true → is_node_up p k ≡ false
    → node_summaries p.world k ≡ summary.NodeDown k ∷ []
node_down p k has down =
    down_by k (p.world.nodes k).state (p.world.nodes k).mode (rest_of_and (has_node p k) (is_running (p.world.nodes k).mode) false has down)

up_by : (k : ℕ) (n : NodeState) (m : Mode) → is_running m ≡ true → summaries_by_mode k n m ≡ object_summaries n
up_by k n is_up h = refl
up_by k n is_closed h = refl
up_by k n is_down h = absurd cc

pub node_up : (p : WorldOnDisks) (k : ℕ) → has_node p k ≡ true → is_node_up p k ≡ true
    → node_summaries p.world k ≡ object_summaries (p.world.nodes k).state
node_up p k has up =
    up_by k (p.world.nodes k).state (p.world.nodes k).mode (rest_of_and (has_node p k) (is_running (p.world.nodes k).mode) true has up)

both_true : (a b : Bool) → a ≡ true → b ≡ true → (a && b) ≡ true
both_true a b one two = ap (λ (x : Bool). x && b) one ∙ two

pub node_there : (p : WorldOnDisks) (k : ℕ) → 1 ≤ k → k ≤ p.count → has_node p k ≡ true
node_there p k from to = both_true (nat_le 1 k) (nat_le k p.count) (le-leb 1 k from) (le-leb k p.count to)

-- ---- all nodes

pub all_lines : (p : WorldOnDisks)
    → map summary_line (summaries p) ≡ numbered (node_summaries p.world) p.count ++ summary_line (summary.Bag (length p.world.bag)) ∷ []
all_lines p = mapped (joined (map (node_summaries p.world) (numbers_from 1 p.count))) (summary.Bag (length p.world.bag) ∷ [])

-- what comes after the first so many nodes and the next one
pub after_node : (p : WorldOnDisks) (m : ℕ) → m < p.count
    → (rest : List (List ℕ))
    × (map summary_line (summaries p) ≡ (numbered (node_summaries p.world) m ++ map summary_line (node_summaries p.world (m + 1))) ++ rest)
after_node p m to =
    let f = node_summaries p.world in
    let bag : List (List ℕ) = summary_line (summary.Bag (length p.world.bag)) ∷ [] in
    let later = after_number f m p.count to in (
      later.0 ++ bag,
      all_lines p ∙ ap (λ (ls : List (List ℕ)). ls ++ bag) later.1
          ∙ append_assoc (numbered f m ++ map summary_line (f (m + 1))) later.0 bag,
    )

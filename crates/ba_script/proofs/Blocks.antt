-- A block that was read stands after the bytes that were at hand: for `Lines::fill`, clause `kept`.
use Rattle.std.proofs.Common.{◌≡◌, ℕ, ◌+◌, ◌-◌, List, ◌++◌, take, drop, slice_range, Option, None, Some, sym, ap, ◌∙◌, append_assoc}
use Rattle.std.proofs.Common.{take-add, arith}
use Rattle.std.specs.Io.KnownBytes.{Consumes, Keeps, prepend_known}

-- a room begins with the bytes at hand, and n more that were taken stand after them
pub block_after : (a b : Option (List ℕ)) (hand room kept_in : List ℕ) (kept n : ℕ) → take kept room ≡ hand
    → Consumes a b (take n (drop kept room))
    → kept_in ≡ room → Keeps (prepend_known hand a) (prepend_known (slice_range kept_in 0 (kept + n)) b)
block_after None b hand room kept_in kept n first taken is = tt
block_after (Some x) None hand room kept_in kept n first taken is = absurd taken
block_after (Some x) (Some y) hand room kept_in kept n first taken is =
    let size : kept + n - 0 ≡ kept + n = omega arith in
    let now_is : take (kept + n - 0) kept_in ≡ hand ++ take n (drop kept room) =
    ap (λ k. take k kept_in) size ∙ ap (take (kept + n)) is ∙ take-add kept n room ∙ ap (λ t. t ++ take n (drop kept room)) first in
    ap (λ t. t ++ y) now_is ∙ append_assoc hand (take n (drop kept room)) y ∙ ap (λ t. hand ++ t) (sym taken)

-- Bytes of a file that were read into a room.
use Rattle.std.proofs.Common.{◌≡◌, ℕ, ◌+◌, ◌-◌, ◌≤◌, List, ◌++◌, length, take, drop, slice_range, sym, ap, ◌∙◌, arith, take-add}
use Rattle.std.proofs.Common.{length-take, length-drop, length-append}
use Rattle.std.proofs.lemmas.List.{take_at, take-append-le, drop-drop, drop-take}
use Rattle.std.proofs.Math.Seq.{take-append-add}
use borrow.Rule.Slice.PartMut.{put_mid, post_of}
use Rattle.ba_ports.specs.Disk.{Reads}
use Rattle.ba_journal.specs.inside.Blocks.{AtHand, IsOf}

-- what a read puts at a place of the room stands behind what was there
pub read_more : (file room before after : List ℕ) (place done count k : ℕ) → take done room ≡ take done (drop place file)
    → done ≤ length room → Reads file (place + done) count before after
    → take (done + count) (put_mid done k room after) ≡ take (done + count) (drop place file)
read_more file room before after place done count k so_far within reads =
    let long : length (take done room) ≡ done = omega (arith, length-take done room, within) in
    let came : length (take count (drop (place + done) file)) ≡ count =
    omega (arith, length-take count (drop (place + done) file), reads.within) in
    let some : count ≤ length after = omega (
      arith,
      ap length reads.bytes,
      length-append (take count (drop (place + done) file)) (drop count before),
      came,
    ) in
    let first : take (length (take done room) + count) (take done room ++ (after ++ post_of done k room)) ≡ take done room
    ++ take count (after ++ post_of done k room) = take-append-add (take done room) (after ++ post_of done k room) count in
    let next : take count (after ++ post_of done k room) ≡ take count (drop done (drop place file)) =
    take-append-le count after (post_of done k room) some ∙ ap (take count) reads.bytes
    ∙ take_at (take count (drop (place + done) file)) (drop count before) count came
    ∙ ap (take count) (sym (drop-drop done place file)) in
    ap (λ (n : ℕ). take (n + count) (put_mid done k room after)) (sym long) ∙ first
    ∙ ap (λ (xs : List ℕ). xs ++ take count (after ++ post_of done k room)) so_far
    ∙ ap (λ (xs : List ℕ). take done (drop place file) ++ xs) next ∙ sym (take-add done count (drop place file))

-- what is left of a part of the room
pub part_passed : (room : List ℕ) (at end n : ℕ) → n ≤ length (slice_range room at end)
    → slice_range room (at + n) end ≡ drop n (slice_range room at end)
part_passed room at end n within =
    let some : n ≤ end - at = omega (arith, within, length-take (end - at) (drop at room)) in
    let parts : end - at ≡ n + (end - (at + n)) = omega (arith, some) in
    ap (take (end - (at + n))) (sym (drop-drop n at room)) ∙ sym (drop-take n (end - (at + n)) (drop at room))
    ∙ ap (λ (k : ℕ). drop n (take k (drop at room))) (sym parts)

-- bytes that were read behind those at hand are at hand with them
pub block_behind : (file : List ℕ) (hand : AtHand) (room kept_in : List ℕ) (kept n : ℕ) → IsOf file hand → kept ≡ length hand.bytes
    → take kept room ≡ hand.bytes
    → take n (drop kept room) ≡ take n (drop (hand.place + kept) file) → hand.place + kept + n ≤ length file → kept_in ≡ room
    → IsOf file record { place = hand.place; bytes = slice_range kept_in 0 (kept + n); len = hand.len }
block_behind file hand room kept_in kept n of long front behind within is =
    let size : kept + n - 0 ≡ kept + n = omega arith in
    let here : take (length hand.bytes) (drop hand.place file) ≡ take kept (drop hand.place file) =
    ap (λ (k : ℕ). take k (drop hand.place file)) (sym long) in
    let now_is : take (kept + n - 0) kept_in ≡ take (kept + n) (drop hand.place file) =
    ap (λ (k : ℕ). take k kept_in) size ∙ ap (take (kept + n)) is ∙ take-add kept n room
    ∙ ap (λ (t : List ℕ). t ++ take n (drop kept room)) (front ∙ of.bytes_are ∙ here)
    ∙ ap (λ (t : List ℕ). take kept (drop hand.place file) ++ t) (behind ∙ ap (take n) (sym (drop-drop kept hand.place file)))
    ∙ sym (take-add kept n (drop hand.place file)) in
    let whole : length (take (kept + n - 0) kept_in) ≡ kept + n =
    omega (arith, ap length now_is, length-take (kept + n) (drop hand.place file), length-drop hand.place file, within) in
    record {
      len_is = of.len_is;
      within = of.within;
      bytes_are = now_is ∙ ap (λ (k : ℕ). take k (drop hand.place file)) (sym whole);
    }

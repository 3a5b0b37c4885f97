-- What a room keeps of bytes that are put in one after another.
use Rattle.std.proofs.Common.{◌≡◌, ◌≤◌, ℕ, zero, suc, ◌+◌, ◌-◌, min, max, List, [], ◌∷◌, ◌++◌, length, take, ap, sym, ◌∙◌, arith}
use Rattle.std.proofs.Common.{append_assoc, append-nil, length-append, Result, Ok, Err, OnErr, is_ok, if◌then◌else◌, ◌<◌}
use Rattle.std.proofs.lemmas.List.{length-take, take_all, take_min}
use Rattle.ba_record.specs.Rooms.{RoomValue, filled}

-- a front of two lists
take_both : (n : ℕ) (a b : List ℕ) → take n (a ++ b) ≡ take n a ++ take (n - length a) b
take_both n [] b =
    let all : n ≡ n - 0 = omega arith in
    ap (λ (m : ℕ). take m b) all ∙ ap (λ (xs : List ℕ). xs ++ take (n - 0) b) (sym (take_all n [] (omega arith)))
take_both zero (x ∷ a) b =
    let none : 0 ≡ 0 - length (x ∷ a) = omega arith in
    ap (λ (m : ℕ). take m b) none
take_both (suc n) (x ∷ a) b =
    let one_less : n - length a ≡ suc n - length (x ∷ a) = omega arith in
    ap (λ (xs : List ℕ). x ∷ xs) (take_both n a b ∙ ap (λ (m : ℕ). take n a ++ take m b) one_less)

pub filled_on : (room : RoomValue) (a b : List ℕ) → filled (filled room a) b ≡ filled room (a ++ b)
unfolding filled
filled_on room a b =
    let n = room.size - length room.bytes in
    let left : room.size - length (room.bytes ++ take n a) ≡ n - length a =
    omega (arith, length-append room.bytes (take n a), length-take n a) in
    ap (λ (bytes : List ℕ). record { bytes = bytes; size = room.size })
    (ap (λ (m : ℕ). (room.bytes ++ take n a) ++ take m b) left
    ∙ append_assoc room.bytes (take n a) (take (n - length a) b)
    ∙ ap (λ (xs : List ℕ). room.bytes ++ xs) (sym (take_both n a b)))

pub filled_none : (room : RoomValue) → filled room [] ≡ room
unfolding filled
filled_none room =
    ap (λ (bytes : List ℕ). record { bytes = bytes; size = room.size })
    (ap (λ (xs : List ℕ). room.bytes ++ xs) (take_all (room.size - length room.bytes) [] (omega arith)) ∙ append-nil room.bytes)

-- where there is room, all bytes are kept
pub filled_whole : (room : RoomValue) (bytes : List ℕ) → length room.bytes + length bytes ≤ room.size
    → filled room bytes ≡ record { bytes = room.bytes ++ bytes; size = room.size }
unfolding filled
filled_whole room bytes fits =
    ap (λ (kept : List ℕ). record { bytes = room.bytes ++ kept; size = room.size })
    (take_all (room.size - length room.bytes) bytes (omega (arith, fits)))

-- a new room that is as large as what is put in
pub from_new : (new reserved full : RoomValue) (bytes : List ℕ) (size : ℕ) → new ≡ record { bytes = []; size = 0 }
    → reserved ≡ record { bytes = new.bytes; size = max new.size size }
    → size ≡ length bytes → full ≡ filled reserved bytes → full.bytes ≡ bytes
from_new new reserved full bytes size is_new is_reserved is_size is =
    let empty : reserved.bytes ≡ [] = ap (λ (room : RoomValue). room.bytes) is_reserved ∙ ap (λ (room : RoomValue). room.bytes) is_new in
    let large : length bytes ≤ reserved.size = omega (arith, ap (λ (room : RoomValue). room.size) is_reserved, is_size) in
    ap (λ (room : RoomValue). room.bytes) (is ∙ filled_whole reserved bytes (omega (arith, ap length empty, large)))
    ∙ ap (λ (xs : List ℕ). xs ++ bytes) empty

-- a call that fails only without room was given room
pub went_in : {T E : Type 0} (r : Result T E) (old new added : List ℕ) (len capacity : ℕ) → new ≡ (if is_ok r then old ++ added else old)
    → OnErr r (capacity < len + length added) → len + length added ≤ capacity → new ≡ old ++ added
went_in (Ok done) old new added len capacity is full fits = is
went_in (Err why) old new added len capacity is full fits = absurd (omega (arith, full, fits))

-- the front of some bytes was put in, as long as the room that was left
pub kept_is : (old new bytes : List ℕ) (size count : ℕ) → count ≡ min (size - length old) (length bytes) → new ≡ old ++ take count bytes
    → record { bytes = new; size = size } ≡ filled (record { bytes = old; size = size }) bytes
unfolding filled
kept_is old new bytes size count is added =
    ap (λ (xs : List ℕ). record { bytes = xs; size = size })
    (added ∙ ap (λ (n : ℕ). old ++ take n bytes) is ∙ ap (λ (xs : List ℕ). old ++ xs) (take_min (size - length old) bytes))

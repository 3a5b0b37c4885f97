-- What a room holds in which a frame is made.
use Rattle.std.proofs.Common.{◌≡◌, ◌≤◌, ℕ, ◌+◌, List, [], ◌∷◌, ◌++◌, length, ap, ◌∙◌, arith, length-append}
use Rattle.ba_record.specs.Rooms.{RoomValue, filled}
use Rattle.ba_record.proofs.Filling.{filled_on, filled_whole}

-- the size, the payload and the next gate were put into an empty room, one behind another
pub frame_put : (old empty sized paid ended : RoomValue) (digits payload : List ℕ) → empty ≡ record { bytes = []; size = old.size }
    → sized ≡ filled empty digits → paid ≡ filled sized payload → ended ≡ filled paid (0 ∷ [])
    → length digits + length payload + 1 ≤ old.size
    → ended ≡ record { bytes = digits ++ (payload ++ 0 ∷ []); size = old.size }
frame_put old empty sized paid ended digits payload is_empty is_sized is_paid is_ended fits =
    let all = payload ++ 0 ∷ [] in
    let long : 0 + length (digits ++ all) ≤ old.size = omega (arith, fits, length-append digits all, length-append payload (0 ∷ [])) in
    is_ended
    ∙ ap (λ (room : RoomValue). filled room (0 ∷ [])) is_paid ∙ filled_on sized payload (0 ∷ [])
    ∙ ap (λ (room : RoomValue). filled room all) is_sized ∙ filled_on empty digits all
    ∙ ap (λ (room : RoomValue). filled room (digits ++ all)) is_empty
    ∙ filled_whole (record { bytes = []; size = old.size }) (digits ++ all) long

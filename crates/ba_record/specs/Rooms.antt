-- Believe: a row of bytes with a room that is taken beforehand.
use Rattle.std.specs.Prelude.{ℕ, ◌-◌, List, ◌++◌, length, take}

-- the bytes that it keeps, and how many it may keep
pub record RoomValue : Type 0 where
  pub bytes : List ℕ
  pub size : ℕ

-- with these bytes behind its own; those for which no room is left aren't kept
unfoldable pub filled : RoomValue → List ℕ → RoomValue
filled room bytes = record { bytes = room.bytes ++ take (room.size - length room.bytes) bytes; size = room.size }

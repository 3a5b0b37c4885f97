-- Believe: the parts of an identifier: a counter below 2^64, and a node's number above it. The number of a message
-- that an object sends is the object's identifier with the message's code above it.
use Rattle.std.specs.Prelude.{ℕ, ◌+◌, ◌*◌, ◌/◌, ◌%◌, ◌^◌}

-- the identifier of the object with this counter at this node
abbrev pub id_of : ℕ → ℕ → ℕ
id_of node counter = node * 2 ^ 64 + counter

-- the counter of an identifier
abbrev pub counter_of : ℕ → ℕ
counter_of id = id % 2 ^ 64

-- the number of its node
abbrev pub node_of : ℕ → ℕ
node_of id = id / 2 ^ 64 % 2 ^ 32

-- the code of the message that it numbers, or 0
abbrev pub code_part : ℕ → ℕ
code_part id = id / 2 ^ 96

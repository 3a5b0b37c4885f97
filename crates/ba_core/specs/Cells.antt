-- Believe: what stands in a cell of a state table, and of which protocol a row is.
use Rattle.std.specs.Prelude.{Bool, true, false}
use Rattle.ba_core.specs.declared.protocols.Protocol.{Protocol}
use Rattle.ba_core.specs.declared.protocols.Protocol.TheVariants.{Pc, Cc}

-- a cell: another state, which prompts; the same in ParticipantCompletion alone, and no row in
-- CoordinatorCompletion; the same state; the same state, which prompts; no row
pub data Cell (S : Type 0) : Type 0 where
  to pc_to : S → Cell S
  stay again none : Cell S

-- the mark at the head of a row: both protocols, one of them, or no state of this side
pub data Mark : Type 0 where
  both pc cc neither : Mark

-- a row so marked is one of this protocol's
abbrev pub is_marked : Mark → Protocol → Bool
is_marked both protocol = true
is_marked pc Pc = true
is_marked pc Cc = false
is_marked cc Pc = false
is_marked cc Cc = true
is_marked neither protocol = false

-- Believe: worked examples: two histories of a node, in which participants are told Close, and Undo; the last happening first.
use Rattle.std.specs.Prelude.{List, [], ◌∷◌, None, Some}
use Rattle.ba_core.specs.declared.notices.Notice.TheVariants as notice
use Rattle.ba_core.specs.declared.protocols.Kind.TheVariants.{Atomic}
use Rattle.ba_core.specs.declared.protocols.Protocol.TheVariants.{Pc}
use Rattle.ba_core.specs.declared.protocols.Side.TheVariants.{Coordinator}
use Rattle.ba_core.specs.declared.protocols.Verdict.TheVariants.{Close, Undo}
use Rattle.ba_node_steps.specs.declared.inputs.Input.TheVariants as input
use Rattle.ba_node_steps.specs.Examples.{object, register_of}
use Rattle.ba_node_steps.specs.Histories.{Happening, arrives_at, stops_without, ticks_at}

-- a root of type AtomicOutcome enrols two participants, of which the first completes
abbrev pub one_completed : List Happening
one_completed =
    arrives_at 0 (input.Notice Coordinator (object 1 2) notice.Completed)
    ∷ arrives_at 0 (register_of 2)
    ∷ arrives_at 0 (register_of 1)
    ∷ arrives_at 0 (input.Create None None (Some Atomic) Pc)
    ∷ []

-- so does the second; the root is decided to close, and tells both. The node stops once, and its record isn't kept.
abbrev pub two_closes : List Happening
two_closes =
    ticks_at 0 (object 1 3)
    ∷ ticks_at 0 (object 1 2)
    ∷ arrives_at 0 (input.Decide (object 1 1) Close)
    ∷ stops_without (arrives_at 0 (input.Decide (object 1 1) Undo))
    ∷ arrives_at 0 (input.Notice Coordinator (object 1 3) notice.Completed)
    ∷ one_completed

-- or it is decided to undo, and tells both: the first compensates, and the second is canceled
abbrev pub two_undone : List Happening
two_undone = ticks_at 0 (object 1 3) ∷ ticks_at 0 (object 1 2) ∷ arrives_at 0 (input.Decide (object 1 1) Undo) ∷ one_completed

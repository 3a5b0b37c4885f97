use Rattle.std.proofs.Common.{◌≡◌, ◌++◌, length, map}
use Rattle.std.specs.Vec.Iter.{into_iter_items, into_iter_len}
use Rattle.ba_world_places.specs.Places.{disk_at}
use Rattle.ba_world.proofs.stages.Stage.into_disks.Given as goal

abbrev pub invariant-loop-place : goal.invariant-loop-place
invariant-loop-place l = (l.yielded ++ into_iter_items l.place-iterator ≡ into_iter_items l.initial.place-iterator)
    × (l.disks ≡ map disk_at l.yielded)
    × (into_iter_len l.place-iterator ≡ length (into_iter_items l.place-iterator))

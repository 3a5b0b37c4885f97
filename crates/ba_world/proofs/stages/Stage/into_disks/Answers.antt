use Rattle.std.proofs.Common.{◌≡◌, [], ◌∷◌, ◌++◌, List, length, map, sym, ap, ◌∙◌, append_assoc, append-nil, arith}
use Rattle.std.specs.Vec.Iter.{into_iter_items}
use Rattle.ba_ports_memory.specs.DiskValue.{DiskValue}
use Rattle.ba_world_places.specs.Places.{disk_at}
use Rattle.ba_world.proofs.StageAnswers.{disks_of, map_last, nothing_left, pushed}
use Rattle.ba_world.specs.Worlds.{StageValue}
use Rattle.ba_world.proofs.stages.Stage.into_disks.Goals as goal

pub loop-place-preserved : goal.loop-place-preserved
loop-place-preserved c =
    let at = c.loop-place in
    let x = c.in-Some.place in
    let steps : into_iter_items at.place-iterator ≡ x ∷ into_iter_items c.next.new.self = c.in-Some.ensures.steps.0 in
    let grown : c.push.new.self ≡ at.disks ++ c.into_disk.result ∷ [] =
    pushed c.push.result c.push.ensures.ok (sym c.if-is_err.ensures.value)
    in (
      append_assoc at.yielded (x ∷ []) _ ∙ rw (← steps) at.invariant.0,
      grown
          ∙ ap (λ (ds : List DiskValue). ds ++ c.into_disk.result ∷ []) at.invariant.1
          ∙ ap (λ (d : DiskValue). map disk_at at.yielded ++ d ∷ []) c.into_disk.ensures
          ∙ sym (map_last disk_at at.yielded x),
      let was = at.invariant.2 in
          let gone = c.in-Some.ensures.steps.1 in
          let short = ap length steps in
          omega arith,
    )

pub returns : goal.returns
returns c =
    let at = c.loop-place in
    let none = c.in-None.ensures.steps in
    let empty : into_iter_items at.place-iterator ≡ [] = nothing_left _ (sym at.invariant.2 ∙ none.0) in
    let all : at.yielded ≡ c.self.inside.places.items =
    sym (append-nil at.yielded) ∙ rw empty at at.invariant.0 ∙ c.into_iter-place-iterator.ensures.into_iter_gives.0
    in
    λ p stage. disks_of c.args.self p at.disks
    (at.invariant.1 ∙ ap (map disk_at) (all ∙ ap (λ (v : StageValue). v.places) c.self.view_is)) stage

use Rattle.std.proofs.Common.{◌≡◌, ◌+◌, ◌-◌, ◌≤◌, length, drop, take, slice_range, arith, rules, length-take, length-drop}
use Rattle.std.proofs.lemmas.List.{with_items_is}
use Rattle.std.specs.Vec.{with_items}
use Rattle.ba_journal.specs.inside.Blocks.{AtHand, IsOf}
use Rattle.ba_journal.proofs.Windows.{block_behind}
use Rattle.ba_journal.proofs.blocks.Blocks.read_on.Goals as goal

pub returns-else-count-most-clause-file : goal.returns-else-count-most-clause-file
returns-else-count-most-clause-file g c = λ follows of.
    let file = g.D.Disk.seen c.args.disk.now in
    let inside = c.self.inside in
    let view = c.self.view_is in
    let hand : AtHand = record { place = inside.place; bytes = slice_range inside.room.items inside.at inside.end; len = inside.len } in
    let here : IsOf file hand = rw (← view) at of in
    let kept = inside.end - inside.at in
    let long : kept ≡ length hand.bytes = omega (
      arith,
      length-take kept (drop inside.at inside.room.items),
      length-drop inside.at inside.room.items,
    ) in
    let front : take kept c.read_behind.new.room ≡ hand.bytes = search rules in
    let in_file : inside.place + kept + c.most_of-most.result ≤ length file = omega (arith, here.len_is, c.most_of-most.ensures) in
    let came = c.in_ok-count.ensures.bytes follows in_file in
    block_behind file hand c.read_behind.new.room (with_items inside.room c.read_behind.new.room).items kept c.in_ok-count.count here long
    front came.1 (omega (arith, came.0, in_file))
    (with_items_is inside.room c.read_behind.new.room (search rules))

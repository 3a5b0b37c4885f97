use Rattle.std.proofs.Common.{◌≡◌, ◌∙◌, ap, rules}
use Rattle.ba_ports_memory.specs.DiskValue.{bytes_of}
use Rattle.ba_ports_memory.specs.inside.MediumFits.{shown_or}
use Rattle.ba_ports_memory.proofs.MediumKept.{bytes_shown}
use Rattle.ba_ports_memory.proofs.media.Medium.bytes.Goals as goal

pub returns-in-Some : goal.returns-in-Some
returns-in-Some c =
    let m = c.self.inside in
    let is : c.as_slice.result.now ≡ shown_or m.base m.shown = search rules in
    is ∙ bytes_shown m.shown m.changes.items m.base m.settled c.self.invariant.is_shown ∙ ap bytes_of c.self.view_is

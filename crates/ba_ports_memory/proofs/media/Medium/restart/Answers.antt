use Rattle.std.proofs.Common.{◌≡◌, None, sym, ◌∙◌, ap, rules}
use Rattle.ba_ports_memory.specs.DiskValue.{MediumValue, bytes_of, chosen, all_imaged}
use Rattle.ba_ports_memory.specs.inside.MediumFits.{image_of, shown_or}
use Rattle.ba_ports_memory.proofs.MediumKept.{bytes_shown}
use Rattle.ba_ports_memory.proofs.media.Medium.restart.Goals as goal

pub returns-in-Some-shown : goal.returns-in-Some-shown
returns-in-Some-shown c =
    let m = c.self.inside in
    let old = c.args.self.now in
    let is : c.in-Some-shown.bytes ≡ shown_or m.base m.shown = search rules in
    let shown : c.in-Some-shown.bytes ≡ bytes_of old = is
    ∙ bytes_shown m.shown m.changes.items m.base m.settled c.self.invariant.is_shown ∙ ap bytes_of c.self.view_is in
    let running : image_of m.stopped ≡ None = search rules in
    let none : old.stopped ≡ None = sym (ap (λ (v : MediumValue). v.stopped) c.self.view_is) ∙ running in
    let left : c.in-Some-shown.bytes ≡ all_imaged (chosen old.stopped) old.pending old.synced = shown
    ∙ ap (λ s. all_imaged (chosen s) old.pending old.synced) (sym none) in
    let calls : m.calls.items ≡ old.calls = ap (λ (v : MediumValue). v.calls) c.self.view_is in
    let armed : m.armed ≡ old.armed = ap (λ (v : MediumValue). v.armed) c.self.view_is in
    let after : image_of c.take.new.self ≡ None = search rules in
    λ i. record { synced = left i; pending = c.clear.ensures.items i; calls = calls i; armed = armed i; stopped = after i }

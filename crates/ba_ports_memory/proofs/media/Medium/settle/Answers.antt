use Rattle.std.proofs.Common.{◌≡◌, List, [], ◌∷◌, ◌++◌, length, drop, false, sym, ◌∙◌, ap, arith, rules}
use Rattle.std.proofs.lemmas.List.{take_all, drop_all}
use Rattle.ba_ports_memory.specs.DiskValue.{MediumValue, bytes_of, all_imaged}
use Rattle.ba_ports_memory.specs.inside.MediumFits.{image_of, synced_of}
use Rattle.ba_ports_memory.specs.declared.changes.Change.{Change}
use Rattle.ba_ports.specs.declared.images.Image.TheVariants as image
use Rattle.ba_ports.specs.declared.requests.Call.{Call}
use Rattle.ba_ports.specs.declared.requests.Request.TheVariants as request
use Rattle.ba_ports_memory.proofs.MediumKept.{all_of}
use Rattle.ba_ports_memory.proofs.media.Medium.settle.Goals as goal

pub returns-clause-ok : goal.returns-clause-ok
returns-clause-ok c =
    let m = c.self.inside in
    let old = c.args.self.now in
    let n = c.len-self-inside.result in
    let all : n ≡ length m.changes.items = search rules in
    let synced : synced_of m.base m.changes.items n ≡ bytes_of old =
    ap (λ (l : List Change). all_imaged image.New l m.base) (take_all n m.changes.items (omega (arith, all)))
    ∙ sym (all_of m.base m.changes.items m.settled) ∙ ap bytes_of c.self.view_is in
    let pending : drop n m.changes.items ≡ [] = drop_all n m.changes.items (omega (arith, all)) in
    let call : Call = record { request = request.Sync; failed = false } in
    let calls : c.push_call.new.calls.items ≡ old.calls ++ call ∷ [] = c.in_ok-push_call.ensures.ok
    ∙ ap (λ (v : MediumValue). v.calls ++ call ∷ []) c.self.view_is in
    let armed : m.armed ≡ old.armed = ap (λ (v : MediumValue). v.armed) c.self.view_is in
    let stopped : image_of m.stopped ≡ old.stopped = ap (λ (v : MediumValue). v.stopped) c.self.view_is in
    λ i. record { synced = synced i; pending = pending i; calls = calls i; armed = armed i; stopped = stopped i }

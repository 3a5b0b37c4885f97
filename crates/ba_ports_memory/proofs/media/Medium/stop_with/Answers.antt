use Rattle.std.proofs.Common.{◌≡◌, ℕ, List, sym, ◌∙◌, ap, rules}
use Rattle.ba_ports_memory.specs.DiskValue.{MediumValue, imaged, all_imaged}
use Rattle.ba_ports_memory.specs.inside.MediumFits.{left_of}
use Rattle.ba_ports_memory.proofs.DiskCalls.{all_imaged_on}
use Rattle.ba_ports_memory.proofs.media.Medium.stop_with.Goals as goal

pub invariant_of-self : goal.invariant_of-self
invariant_of-self c =
    let m = c.self.inside in
    let old = c.args.self.now in
    let change = c.args.change in
    let i = c.args.image in
    let of : MediumValue → List ℕ = λ v. all_imaged i v.pending v.synced in
    let made : c.in_ok-left.left ≡ imaged i change c.in_ok-before.before = search rules in
    let before : c.in_ok-before.before ≡ left_of i m.base m.changes.items m.settled = search rules in
    record {
      within = c.self-2.invariant.within;
      is_shown = c.self-2.invariant.is_shown;
      is_left = made ∙ ap (imaged i change) (before ∙ ap of c.self.view_is) ∙ sym (all_imaged_on i old.pending change old.synced)
          ∙ sym (ap of c.in_ok-issue.ensures.ok) ∙ sym (ap of c.self-2.view_is);
    }

use Rattle.std.proofs.Common.{◌≡◌, List, [], ◌∷◌, ◌++◌, length, sym, ◌∙◌, ap, arith, length-append, rules}
use Rattle.ba_ports_memory.specs.DiskValue.{MediumValue, imaged, all_imaged}
use Rattle.ba_ports_memory.specs.inside.MediumFits.{shown_or}
use Rattle.ba_ports_memory.specs.declared.changes.Change.{Change}
use Rattle.ba_ports.specs.declared.images.Image.TheVariants as image
use Rattle.ba_ports_memory.proofs.DiskCalls.{all_imaged_on}
use Rattle.ba_ports_memory.proofs.MediumKept.{none_left, shown_is}
use Rattle.ba_ports_memory.proofs.media.Medium.issue.Goals as goal

pub invariant_of-self-in-Ok : goal.invariant_of-self-in-Ok
invariant_of-self-in-Ok c =
    let m = c.self.inside in
    let change = c.args.change in
    let grown : c.push_into.new.list.items ≡ m.changes.items ++ change ∷ [] = c.push_into.ensures
    ∙ ap (λ (l : List Change). l ++ change ∷ []) c.reserve.ensures.items in
    let made : c.in-Ok.next ≡ imaged image.New change (shown_or m.base m.shown) = search rules in
    record {
      within = omega (arith, c.self.invariant.within, ap length grown, length-append m.changes.items (change ∷ []));
      is_shown = made ∙ ap (imaged image.New change) (shown_is m.shown m.changes.items m.base c.self.invariant.is_shown)
          ∙ sym (all_imaged_on image.New m.changes.items change m.base)
          ∙ ap (λ (l : List Change). all_imaged image.New l m.base) (sym grown);
      is_left = none_left m.stopped m.base c.push_into.new.list.items m.settled
          (ap (λ (v : MediumValue). v.stopped) c.self.view_is ∙ c.requires);
    }

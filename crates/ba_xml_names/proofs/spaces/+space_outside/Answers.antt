use Rattle.std.proofs.Common.{◌≡◌, ◌-◌, ◌<◌, length, take, reverse, ap, sym, subst, ◌∙◌, arith, IfOk, Some, None, Option, List, ℕ}
use Rattle.ba_xml_names.specs.Namespaces.{nearest, scope}
use Rattle.ba_xml_names.specs.declared.levels.Level.{Level}
use Rattle.ba_xml_names.proofs.Nearest.{in_front, behind, innermost}
use Rattle.ba_xml_names.proofs.spaces.+space_outside.Goals as goal

pub returns-in-Some : goal.returns-in-Some
returns-in-Some t c =
    let levels = c.args.levels.now in
    let prefix = c.args.prefix.now in
    let last = c.last-item.result in
    let some : 0 < length levels = omega arith in
    let told = sym c.in_ok-space-in-len1-up.ensures ∙ c.in-Some.is in
    let own : nearest prefix last.declarations ≡ Some c.in-Some.space =
    ap (λ (level : Level). nearest prefix level.declarations) (sym c.get.ensures)
    ∙ ap (λ ds. nearest prefix ds) (sym c.as_slice.ensures) ∙ told in
    sym (ap (λ ds. nearest prefix ds) (innermost levels last some c.last-item.is)
    ∙ in_front prefix last.declarations (scope (reverse (take (length levels - 1) levels))) c.in-Some.space own)

pub returns-in_default : goal.returns-in_default
returns-in_default t c =
    let levels = c.args.levels.now in
    let prefix = c.args.prefix.now in
    let last = c.last-item.result in
    let some : 0 < length levels = omega arith in
    let told = sym c.in_ok-space-in-len1-up.ensures ∙ c.in_default.is in
    let own : nearest prefix last.declarations ≡ None = ap (λ (level : Level). nearest prefix level.declarations) (sym c.get.ensures)
    ∙ ap (λ ds. nearest prefix ds) (sym c.as_slice.ensures) ∙ told in
    let there = ap (λ ds. nearest prefix ds) (innermost levels last some c.last-item.is)
    ∙ behind prefix last.declarations (scope (reverse (take (length levels - 1) levels))) own in
    subst (λ (o : Option (List ℕ)). IfOk c.space_outside.result (λ space. space ≡ o)) (sym there) c.space_outside.ensures

use Rattle.ba_tree.specs.Trees.{name_cmp}
use Rattle.std.proofs.Common.{◌∙◌, sym, ap, subst, rules, length}
use Rattle.std.proofs.lemmas.Fn.{always_returns_same}
use Rattle.ba_xml_names.proofs.Rows.{searched, within}
use Rattle.ba_xml_names.proofs.spaces.spot_of.Goals as goal
use Rattle.ba_xml_names.specs.Namespaces.{placed_at, IsSpotWithin}

pub returns : goal.returns
returns c =
    let rows = c.args.rows.now in
    let row = c.args.row.now in
    let facts = c.binary_search_by.ensures in
    let by_name = facts.position (λ other. name_cmp other.name row.name)
    (always_returns_same _ _ _ (λ a r f called. search rules)) in
    record {
      spot = searched row rows _ c.requires facts.bound by_name ∙ ap (λ s. placed_at s row rows) (sym c.gap.ensures);
      within = subst (λ s. IsSpotWithin s (length rows)) (sym c.gap.ensures) (within rows _ facts.bound);
    }

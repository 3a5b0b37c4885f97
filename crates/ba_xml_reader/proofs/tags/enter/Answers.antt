use Rattle.std.proofs.Common.{◌∷◌, ◌∙◌, ap}
use Rattle.ba_xml_words.specs.inside.Names.{spelled}
use Rattle.ba_xml_names.specs.Namespaces.{opening, scope}
use Rattle.ba_xml_names.specs.declared.levels.Level.{Level}
use Rattle.ba_xml_names.specs.declared.tags.Tag.{Tag}
use Rattle.ba_xml_reader.proofs.tags.enter.Goals as goal

pub returns : goal.returns
returns c =
    let here = ap (λ (level : Level). opening (scope (level ∷ c.args.outer.now)) c.into_inner-tag.result) c.get.ensures in
    let tag = ap (λ (t : Tag). opening (scope (c.args.here.now ∷ c.args.outer.now)) t) c.into_inner-tag.ensures in
    let name = c.in_ok-spelled.ensures ∙ ap (λ (t : Tag). spelled t.name) c.into_inner-tag.ensures in
    rw (← (c.in_ok-found.ensures ∙ here ∙ tag), ← name) c.entered.ensures

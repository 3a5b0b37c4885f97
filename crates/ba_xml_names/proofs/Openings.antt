-- What a start tag means, by whether its declarations are lawful.
use Rattle.std.proofs.Common.{◌≡◌, true, false, cond, List, ◌++◌, None, ap}
use Rattle.std.specs.List.{list_all}
use Rattle.ba_xml_names.specs.Namespaces.{opening, opening_in, declarations, is_lawful}
use Rattle.ba_xml_names.specs.declared.levels.Declaration.{Declaration}
use Rattle.ba_xml_names.specs.declared.tags.Tag.{Tag}

pub lawful : (outside : List Declaration) (tag : Tag) → list_all is_lawful (declarations tag.attributes) ≡ true
    → opening outside tag ≡ opening_in (declarations tag.attributes ++ outside) (declarations tag.attributes) tag
unfolding opening
lawful outside tag h = ap (λ b. cond b (opening_in (declarations tag.attributes ++ outside) (declarations tag.attributes) tag) None) h

pub unlawful : (outside : List Declaration) (tag : Tag) → list_all is_lawful (declarations tag.attributes) ≡ false
    → opening outside tag ≡ None
unfolding opening
unlawful outside tag h = ap (λ b. cond b (opening_in (declarations tag.attributes ++ outside) (declarations tag.attributes) tag) None) h

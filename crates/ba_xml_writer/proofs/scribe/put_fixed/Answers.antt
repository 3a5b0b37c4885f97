use Rattle.std.proofs.Common.{◌∙◌, ◌∷◌, codes}
use Rattle.ba_xml_writer.specs.Namespaces.{declaration, soap_space, wsa_space, wscoor_space, wsba_space}
use Rattle.ba_xml_writer.proofs.scribe.put_fixed.Goals as goal

pub returns : goal.returns
unfolding soap_space wsa_space wscoor_space wsba_space
returns g c more rest =
    c.in_ok-put_declaration-4.ensures more rest
    ∙ (c.in_ok-put_declaration-3.ensures (declaration (codes "wsba") wsba_space ∷ more) rest
    ∙ (c.in_ok-put_declaration-2.ensures (declaration (codes "wscoor") wscoor_space ∷ declaration (codes "wsba") wsba_space ∷ more) rest
    ∙ c.in_ok-put_declaration.ensures (declaration (codes "wsa") wsa_space ∷ declaration (codes "wscoor") wscoor_space
    ∷ declaration (codes "wsba") wsba_space ∷ more) rest))

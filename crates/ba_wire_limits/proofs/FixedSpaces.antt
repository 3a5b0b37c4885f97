-- The namespaces that every root declares are no further ones: for the laws on envelopes.
use Rattle.std.proofs.Common.{◌≡◌, false, refl}
use Rattle.ba_tree.specs.Namespaces as core
use Rattle.ba_xml_writer.specs.Namespaces.{is_further, xml_space, soap_space, wsa_space, wscoor_space, wsba_space}

pub soap_fixed : is_further core.soap_space ≡ false
unfolding xml_space soap_space wsa_space wscoor_space wsba_space
soap_fixed = refl

pub wsa_fixed : is_further core.wsa_space ≡ false
unfolding xml_space soap_space wsa_space wscoor_space wsba_space
wsa_fixed = refl

pub wscoor_fixed : is_further core.wscoor_space ≡ false
unfolding xml_space soap_space wsa_space wscoor_space wsba_space
wscoor_fixed = refl

pub wsba_fixed : is_further core.wsba_space ≡ false
unfolding xml_space soap_space wsa_space wscoor_space wsba_space
wsba_fixed = refl

-- The names of elements that messages write keep the rules of names: for the laws on envelopes.
use Rattle.std.proofs.Common.{◌≡◌, ℕ, true, List, [], refl}
use Rattle.ba_soap_shapes.specs.Endpoints.{wsa_name}
use Rattle.ba_tree.specs.declared.trees.Name.{Name}
use Rattle.ba_tree.specs.Characters.{is_legal_text}
use Rattle.ba_tree.specs.Names.{is_plain_name}
use Rattle.ba_tree.specs.Namespaces.{soap_space, wsa_space, wsba_space, wscoor_space}
use Rattle.ba_wire.specs.Elements.{bare_name, wsba_name, wscoor_name}
use Rattle.ba_wire_limits.proofs.FixedSpaces.{soap_fixed, wsa_fixed, wsba_fixed, wscoor_fixed}
use Rattle.ba_message.proofs.PlainTexts.{and_both, plain_is_legal}
use Rattle.ba_wire_limits.proofs.SoundTrees.{IsFixed}

abbrev pub soap_name : List ℕ → Name
soap_name local = record { space = soap_space; local = local }

module _ (local : List ℕ) (plain : is_plain_name local ≡ true) where
  pub soap_is : IsFixed (soap_name local)
  soap_is = record {
    fit = and_both (is_plain_name local) (is_legal_text soap_space) plain (plain_is_legal soap_space refl);
    fixed = soap_fixed;
  }

  pub wsa_is : IsFixed (wsa_name local)
  wsa_is = record {
    fit = and_both (is_plain_name local) (is_legal_text wsa_space) plain (plain_is_legal wsa_space refl);
    fixed = wsa_fixed;
  }

  pub wscoor_is : IsFixed (wscoor_name local)
  wscoor_is = record {
    fit = and_both (is_plain_name local) (is_legal_text wscoor_space) plain (plain_is_legal wscoor_space refl);
    fixed = wscoor_fixed;
  }

  pub wsba_is : IsFixed (wsba_name local)
  wsba_is = record {
    fit = and_both (is_plain_name local) (is_legal_text wsba_space) plain (plain_is_legal wsba_space refl);
    fixed = wsba_fixed;
  }

  pub bare_is : IsFixed (bare_name local)
  bare_is = record {
    fit = and_both (is_plain_name local) (is_legal_text []) plain (plain_is_legal [] refl);
    fixed = refl;
  }

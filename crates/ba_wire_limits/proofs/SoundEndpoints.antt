-- The element of an endpoint reference that fits keeps the rules of texts: for the laws on envelopes.
use Rattle.std.proofs.Common.{◌≡◌, ◌+◌, true, List, [], ◌∷◌, map, codes, append-nil, refl, sym, ◌∙◌}
use Rattle.std.proofs.Common.{subst, arith}
use Rattle.std.specs.Str.{is_utf8, chars}
use Rattle.ba_message.specs.declared.endpoints.Epr.{Epr}
use Rattle.ba_message.specs.Endpoints.{Fits}
use Rattle.ba_soap_shapes.specs.Endpoints.{bare_element, endpoint_element, parameters_content, parameters_element, wsa_name}
use Rattle.ba_tree.specs.declared.trees.Content.TheVariants.{Child, Text}
use Rattle.ba_tree.specs.declared.trees.Name.{Name}
use Rattle.ba_tree.specs.declared.trees.Tree.{Tree}
use Rattle.ba_tree.specs.Lengths.{name_length}
use Rattle.ba_tree.specs.Trees.{is_fit_name}
use Rattle.ba_wire_limits.proofs.FitParameters.{short_parameters, sound_parameters}
use Rattle.ba_wire_limits.proofs.FixedSpaces.{wsa_fixed}
use Rattle.ba_wire_limits.proofs.SoundTrees.{AllSound, IsFixed, IsSaid, Sound, all_wider, further_named, lengths, more_sound, none_sound}
use Rattle.ba_wire_limits.proofs.SoundTrees.{sound_element, sound_text, wider}

-- ---- names

address_fit : is_fit_name (wsa_name (codes "Address")) ≡ true
unfolding is_utf8 chars lib.Utf8.encode
address_fit = refl

address_fixed : IsFixed (wsa_name (codes "Address"))
address_fixed = record { fit = address_fit; fixed = wsa_fixed }

parameters_fit : is_fit_name (wsa_name (codes "ReferenceParameters")) ≡ true
unfolding is_utf8 chars lib.Utf8.encode
parameters_fit = refl

parameters_fixed : IsFixed (wsa_name (codes "ReferenceParameters"))
parameters_fixed = record { fit = parameters_fit; fixed = wsa_fixed }

-- ---- the parameters

-- the element that holds them, if there are any
abbrev holder : List Tree → List Tree
holder [] = []
holder (p ∷ more) = parameters_element (p ∷ more) ∷ []

holder_is : (ps : List Tree) → parameters_content ps ≡ map Child (holder ps)
holder_is [] = refl
holder_is (p ∷ more) = refl

sound_holder : (ps : List Tree) → AllSound ps 16 (lengths ps) (further_named ps)
    → AllSound (holder ps) 17 (lengths ps + 70) (further_named ps)
sound_holder [] all = all_wider 17 70 none_sound (omega arith) (omega arith)
sound_holder (p ∷ more) all =
    let whole = more_sound (sound_element parameters_fixed all) none_sound in
    let s = all_wider 17 (lengths (p ∷ more) + 70) whole (omega arith) (omega arith) in
    record {
      fit = s.fit;
      within_levels = s.within_levels;
      few = s.few;
      within_size = s.within_size;
      names = s.names ∙ append-nil (further_named (p ∷ more));
    }

-- ---- the endpoint reference

pub sound_endpoint : {n : Name} → IsFixed n → (e : Epr) → Fits e
    → Sound (endpoint_element n e) 18 (name_length n + 4300) (further_named e.parameters)
sound_endpoint {n} is e fits =
    let said : IsSaid e.address = record { legal = fits.legal; there = fits.named } in
    let short = short_parameters e fits in
    let whole = sound_element is (more_sound (sound_text address_fixed said) (sound_holder e.parameters (sound_parameters e fits))) in
    let s = wider 18 (name_length n + 4300) whole (omega arith) (omega arith) in
    let address : Tree = bare_element (wsa_name (codes "Address")) (Text e.address ∷ []) in
    subst (λ c. Sound (bare_element n (Child address ∷ c)) 18 (name_length n + 4300) (further_named e.parameters))
    (sym (holder_is e.parameters)) s

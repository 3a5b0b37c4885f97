-- The parameters of an endpoint reference that fits keep the rules of texts, within levels, lengths and few namespaces: for
-- the laws on envelopes.
use Rattle.std.proofs.Common.{◌≡◌, ◌+◌, ◌≤◌, true, List, [], ◌∷◌, map, length, nat_le, refl, ◌∙◌, arith}
use Rattle.std.proofs.lemmas.Bool.{leb-true, le-leb}
use Rattle.std.specs.Cmp.{first_so, second_so}
use Rattle.std.specs.List.{list_all}
use Rattle.ba_message.specs.declared.endpoints.Epr.{Epr}
use Rattle.ba_message.specs.Endpoints.{Fits, have_few_attributes}
use Rattle.ba_tree.specs.declared.trees.Tree.{Tree}
use Rattle.ba_tree.specs.Trees.{Element, elements, firsts, greatest, joined, levels, most_attributes, spaces_named}
use Rattle.ba_tree.proofs.TreeLimits.{greatest_within}
use Rattle.ba_message.proofs.PlainTexts.{and_both}
use Rattle.ba_wire_limits.proofs.FurtherSpaces.{few_further}
use Rattle.ba_wire_limits.proofs.SoundTrees.{AllSound, further_named, has_few, have_few, lengths}

-- elements of at most 16 attributes have at most 32
pub few_of : (es : List Element) → greatest (map (λ e. length e.attributes) es) ≤ 16 → list_all has_few es ≡ true
few_of [] h = refl
few_of (e ∷ es) h =
    and_both (has_few e) (list_all has_few es) (le-leb (length e.attributes) 32 (omega arith)) (few_of es (omega arith))

pub most_of : (t : Tree) → nat_le (most_attributes t) 16 ≡ true → most_attributes t ≤ 16
most_of t h = leb-true (most_attributes t) 16 h

all_few : (ts : List Tree) → have_few_attributes ts ≡ true → list_all have_few ts ≡ true
all_few [] h = refl
all_few (t ∷ ts) h =
    and_both (have_few t) (list_all have_few ts)
    (few_of (elements t) (most_of t (first_so (nat_le (most_attributes t) 16) (have_few_attributes ts) h)))
    (all_few ts (second_so (nat_le (most_attributes t) 16) (have_few_attributes ts) h))

module _ (e : Epr) (fits : Fits e) where
  pub sound_parameters : AllSound e.parameters 16 (lengths e.parameters) (further_named e.parameters)
  sound_parameters = record {
    fit = fits.fit;
    within_levels = leb-true (greatest (map levels e.parameters)) 16 (greatest_within levels 16 e.parameters ∙ fits.depth);
    few = all_few e.parameters fits.attributes;
    within_size = omega arith;
    names = refl;
  }

  pub few_spaces : length (firsts (further_named e.parameters)) ≤ 16
  few_spaces =
      let less = few_further (joined (map spaces_named e.parameters)) in
      let most = fits.spaces in
      omega arith

  pub short_parameters : length e.address + lengths e.parameters ≤ 4101
  short_parameters =
      let size = fits.size in
      let count = fits.count in
      omega arith

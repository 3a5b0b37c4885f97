-- The endpoints of the objects of a node of a play can be dialed; for the law that messages of plays can be posted.
use Rattle.std.proofs.Common.{◌≡◌, inl, inr, ℕ, ◌/◌, ◌^◌, ◌<◌, ◌≤◌, true, List, [], ◌++◌, length}
use Rattle.std.proofs.Common.{codes, decimal, refl, arith, length-append}
use Rattle.std.specs.List.{list_all}
use Rattle.std.proofs.lemmas.Fmt.{length-decimal-le}
use Rattle.ba_message.specs.Addresses.{IsDialable, is_path_byte}
use Rattle.ba_message.specs.Letters.{IsOwnEndpoint}
use Rattle.ba_world_play.proofs.Bases.{host_of, is_host}
use Rattle.ba_world_play.specs.Plays.{node_base}
use Rattle.ba_core.specs.declared.identifiers.Id.{Id}
use Rattle.ba_node_steps.proofs.Hyphens.{hyphenated_length}
use Rattle.ba_node_steps.proofs.PathBytes.{joined_passes, text_passes}
use Rattle.ba_node_steps.specs.Addresses.{coordinator_of, hyphenated, participant_of, registration_of}

-- an address of the node, with this word for what is found there
module _ (k : ℕ) (small : k < 2 ^ 32) (id : Id) where
  abbrev text : List ℕ
  text = hyphenated id.0

  short : length (decimal k) ≤ 10
  short = length-decimal-le 10 k (omega arith) (omega (arith, small)) (omega (arith, small))

  dials : (word : List ℕ) → length word ≤ 20 → list_all is_path_byte word ≡ true
      → IsDialable (node_base k ++ (codes "/" ++ (word ++ text)))
  dials word brief passes = record {
    host = host_of k;
    port = [];
    path = codes "/" ++ (word ++ text);
    spelled = refl;
    is_host = is_host k small;
    is_port = inl refl;
    is_path = inr (word ++ text, joined_passes word text passes (text_passes id.0), refl);
    short = omega (
      arith,
      short,
      brief,
      hyphenated_length id.0,
      length-append word text,
      length-append (node_base k) (codes "/" ++ (word ++ text)),
    );
  }

  pub registration_dials : IsOwnEndpoint (registration_of (node_base k) id)
  registration_dials = record { dialable = dials (codes "registration/") (omega arith) refl; alone = refl }

  pub coordinator_dials : IsOwnEndpoint (coordinator_of (node_base k) id)
  coordinator_dials = record { dialable = dials (codes "coordinator/") (omega arith) refl; alone = refl }

  pub participant_dials : IsOwnEndpoint (participant_of (node_base k) id)
  participant_dials = record { dialable = dials (codes "participant/") (omega arith) refl; alone = refl }

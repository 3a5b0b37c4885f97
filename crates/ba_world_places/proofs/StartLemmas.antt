-- A node that is loaded from an empty disk is that of a world at its start; for the clause of `first_place`.
use Rattle.std.proofs.Common.{◌≡◌, inl, ℕ, ◌<◌, ◌≤◌, ◌^◌, Bool, false, List, [], ◌∷◌, refl, sym, ◌∙◌, ap, subst}
use Rattle.ba_journal.proofs.Meanings.{one_list}
use Rattle.ba_journal.proofs.ReadingOf.{computed}
use Rattle.ba_journal.specs.declared.readings.Reading.{Reading}
use Rattle.ba_journal.specs.declared.readings.Reading.TheVariants.{Fresh}
use Rattle.ba_ports_memory.proofs.Turns.{run_of_counted}
use Rattle.ba_ports_memory.specs.DiskValue.{DiskValue, MediumValue, holding}
use Rattle.ba_node.specs.Loading.{begun, opening}
use Rattle.ba_node.specs.Nodes.{NodeOnJournal}
use Rattle.ba_world_places.proofs.CallLemmas.{Settled, holds_at_rest, settled_unarmed}
use Rattle.ba_world_places.proofs.OpeningLemmas.{IsLoaded}
use Rattle.ba_world_places.specs.Places.{Matches, mode_of}
use Rattle.ba_world_places.specs.declared.places.Place.{Place}
use Rattle.ba_world_places.specs.declared.places.Place.TheVariants as place
use Rattle.ba_world_places.specs.inside.Calls.{unarmed}
use Rattle.ba_world_play.proofs.Bases.{base_in_range}
use Rattle.ba_world_play.specs.Disks.{HoldsNode}
use Rattle.ba_world_play.specs.Nodes.{disarmed}
use Rattle.ba_world_play.specs.Plays.{disk_at_start, node_base}
use Rattle.ba_ports.specs.Disk.{InTurn, counted}
use Rattle.ba_record.specs.Endpoints.{IsBase}
use Rattle.ba_record.specs.declared.records.Record.{Record}
use Rattle.ba_record.specs.declared.records.Record.TheVariants as journal
use Rattle.ba_world_runs.specs.Runs.{node_at_start}
use Rattle.ba_world_runs.specs.World.{WorldNode}
use Rattle.ba_node_steps.specs.Lawful.{Replays}
use Rattle.ba_node_steps.specs.Node.{new_node}

-- the base of a node's addresses is one
pub base_is_one : (k : ℕ) → 1 ≤ k → k < 2 ^ 32 → IsBase (node_base k)
base_is_one k from small = (base_in_range k from small).1

disarmed_start : (k : ℕ) → disarmed (disk_at_start k) ≡ disk_at_start k
disarmed_start k = refl

module _ (k : ℕ) (node : NodeOnJournal DiskValue) (l : IsLoaded k (node_base k) (holding []) node) where
  none_there : l.records ≡ []
  none_there = one_list [] l.records [] l.stands (inl (refl, refl))

  begun_there : begun k (node_base k) l.records ≡ journal.Node k (node_base k) ∷ []
  begun_there = ap (begun k (node_base k)) none_there

  found_fresh : l.found ≡ Fresh
  found_fresh = sym (computed [] l.found l.reads)

  asked : InTurn (opening k (node_base k) Fresh) false (counted l.calls)
  asked = subst (λ (f : Reading). InTurn (opening k (node_base k) f) false (counted l.calls)) found_fresh l.turn

  medium_there : node.disk.medium ≡ disk_at_start k
  medium_there = sym (ap (λ (x : Bool × MediumValue). x.1)
      (run_of_counted (opening k (node_base k) Fresh) false l.calls (holding []) node.disk asked (l.drives l.fed)))

  settled_there : Settled node.disk node.end (journal.Node k (node_base k) ∷ [])
  settled_there = subst (Settled node.disk node.end) begun_there l.settled

  state_there : node.node ≡ new_node k (node_base k)
  state_there =
      let replays : Replays (journal.Node k (node_base k) ∷ []) node.node =
      subst (λ (rs : List Record). Replays rs node.node) begun_there l.replays in
      sym replays

  pub first_matches : Matches (node_at_start k (node_base k)) (disk_at_start k) (place.Up (unarmed node))
  first_matches =
      let n : WorldNode = node_at_start k (node_base k) in
      record {
        place = record {
          mode = sym (ap mode_of l.opened);
          medium = ap disarmed medium_there ∙ disarmed_start k;
          fed = l.fed;
          state = state_there;
          none_pending = λ is. refl;
          spare = l.spare;
          settled = λ is. settled_unarmed node.disk node.end n.records settled_there;
        };
        holds = subst (HoldsNode n) medium_there (holds_at_rest n node.disk node.end settled_there);
      }

pub first_leads : (k : ℕ) (base : List ℕ) (d : DiskValue) (node : NodeOnJournal DiskValue) (at : Place) → base ≡ node_base k
    → d ≡ holding [] → IsLoaded k base d node → at ≡ place.Up (unarmed node)
    → Matches (node_at_start k (node_base k)) (disk_at_start k) at
first_leads k base d node at is_base is_disk l is =
    let from_base : IsLoaded k (node_base k) d node = subst (λ (b : List ℕ). IsLoaded k b d node) is_base l in
    let from_empty : IsLoaded k (node_base k) (holding []) node =
    subst (λ (x : DiskValue). IsLoaded k (node_base k) x node) is_disk from_base in
    subst (Matches (node_at_start k (node_base k)) (disk_at_start k)) (sym is) (first_matches k node from_empty)

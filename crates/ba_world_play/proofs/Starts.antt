-- The disk on which a node of a play was loaded holds it; for the law that plays keep their disks.
use Rattle.std.proofs.Common.{◌≡◌, ℕ, ◌<◌, ◌≤◌, ◌^◌, Bool, false, [], ◌∷◌, refl, sym, ap, ◌∙◌, subst, true≢false}
use Rattle.ba_journal.proofs.NewFile.{made_at_rest}
use Rattle.ba_journal.specs.Journals.{appending, behind_gate}
use Rattle.ba_journal.specs.Loads.{making}
use Rattle.ba_journal.specs.declared.loads.TheConstants.{FIRST_GATE}
use Rattle.ba_ports_memory.proofs.Turns.{run_of_both, runs_well}
use Rattle.ba_ports_memory.specs.DiskValue.{IsUntroubled, MediumValue, holding, run, unless_failed}
use Rattle.ba_world_play.proofs.Bases.{base_in_range}
use Rattle.ba_world_play.proofs.Holding.{fits_so}
use Rattle.ba_world_play.proofs.Quiet.{Appends, append_keeps, broken, whole}
use Rattle.ba_world_play.specs.Disks.{DiskFits, IsAtRest}
use Rattle.ba_world_play.specs.Nodes.{append_run}
use Rattle.ba_world_play.specs.Plays.{disk_at_start, node_base, world_at_start}
use Rattle.ba_ports.specs.declared.requests.Request.TheVariants.{Sync}
use Rattle.ba_record.specs.Coding.{coding}
use Rattle.ba_record.specs.declared.records.Record.{Record}
use Rattle.ba_record.specs.declared.records.Record.TheVariants as journal

abbrev empty : MediumValue
empty = (holding []).medium

-- the disk whose journal was made
abbrev made : MediumValue
made = (run (Sync ∷ making) empty).1

pub made_well : (run (Sync ∷ making) empty).0 ≡ false
made_well = runs_well (Sync ∷ making) empty (record { unarmed = refl; running = refl })

made_rests : IsAtRest made []
made_rests = record { runs = refl; settled = refl; journal = made_at_rest }

made_free : IsUntroubled made
made_free = record { unarmed = refl; running = refl }

-- the calls of the append of the node's own record, whatever its number
well_answered : (x : Bool × MediumValue) (disk : MediumValue) → x.0 ≡ false → disk ≡ x.1 → x ≡ (false, disk)
well_answered (failed, after) disk well same = λ i. (well i, sym same i)

pub start_appends : (k : ℕ) → append_run made (journal.Node k (node_base k)) ≡ (false, disk_at_start k)
start_appends k =
    let requests = appending FIRST_GATE (behind_gate (coding (journal.Node k (node_base k)))) in
    let both : disk_at_start k ≡ (run requests made).1 =
    ap (λ (x : Bool × MediumValue). x.1) (run_of_both (Sync ∷ making) requests empty)
    ∙ ap (λ (b : Bool). (unless_failed b made (run requests made)).1) made_well in
    well_answered (append_run made (journal.Node k (node_base k))) (disk_at_start k) (runs_well requests made made_free) both

-- the node's own record
module _ (k : ℕ) (from : 1 ≤ k) (small : k < 2 ^ 32) where
  abbrev own : Record
  own = journal.Node k (node_base k)

  abbrev appended : Bool × MediumValue
  appended = append_run made own

  whole_rests : (x : Bool × MediumValue) → x.0 ≡ false → Appends [] own x → IsAtRest x.1 (own ∷ [])
  whole_rests x well (whole done rest) = rest
  whole_rests x well (broken failed left) = absurd (true≢false (sym failed ∙ well))

  appended_well : appended.0 ≡ false
  appended_well = ap (λ (x : Bool × MediumValue). x.0) (start_appends k)

  start_is : disk_at_start k ≡ appended.1
  start_is = sym (ap (λ (x : Bool × MediumValue). x.1) (start_appends k))

  pub start_rests : IsAtRest (disk_at_start k) (own ∷ [])
  start_rests =
      subst (λ (m : MediumValue). IsAtRest m (own ∷ [])) (sym start_is)
      (whole_rests appended appended_well (append_keeps made [] own made_rests (base_in_range k from small)))

  pub start_fits : DiskFits (world_at_start.nodes k) (disk_at_start k)
  start_fits = fits_so (world_at_start.nodes k) (disk_at_start k) start_rests refl

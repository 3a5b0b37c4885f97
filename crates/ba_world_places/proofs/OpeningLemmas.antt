-- A loading that finds memory is the opening of the play; for the clauses of `open`.
use Rattle.std.proofs.Common.{◌≡◌, ◌≢◌, ◌⊎◌, ◌+◌, ℕ, inl, inr, Bool, true, false, List, [], ◌∷◌, ◌++◌, Option, Some, None, Result, Ok, Err}
use Rattle.std.proofs.Common.{IfOk, refl, sym, ◌∙◌, ap, subst}
use Rattle.std.specs.Option.{option_to_list}
use Rattle.std.proofs.lemmas.List.{append-nil}
use Rattle.ba_core.specs.declared.memory.Memory.{Memory}
use Rattle.ba_world_events.specs.declared.outcomes.Outcome.{Outcome}
use Rattle.ba_world_events.specs.declared.outcomes.Outcome.TheVariants as outcome
use Rattle.ba_journal.proofs.Meanings.{one_list}
use Rattle.ba_journal.proofs.ReadingOf.{stands_found}
use Rattle.ba_journal.specs.Frames.{StandsFor}
use Rattle.ba_journal.specs.Loads.{EndsFailed, settling}
use Rattle.ba_journal.specs.Readings.{ReadsAs, reading_of, records_found}
use Rattle.ba_journal.specs.declared.readings.Reading.{Reading}
use Rattle.ba_ports_memory.specs.DiskValue.{DiskValue, Drives, IsLater, MayBeLeft, MayHaveBeenLeft, MediumValue, bytes_of, chosen, rearm}
use Rattle.ba_ports_memory.specs.DiskValue.{restarted, restarted_medium}
use Rattle.ba_ports_memory.specs.inside.DiskLaws.{left_now, left_of_all, shown_may_stay}
use Rattle.ba_node.specs.Loading.{MayBeginSince, Opened, beginning, begun, gate_read, opening}
use Rattle.ba_node.specs.declared.faults.LoadFault.{LoadFault}
use Rattle.ba_node.specs.declared.faults.LoadFault.TheVariants as load
use Rattle.ba_node.specs.Nodes.{NodeOnJournal}
use Rattle.ba_world_play.proofs.Driven.{early_is_played, load_is_played}
use Rattle.ba_world_play.proofs.Openings.{opened_records}
use Rattle.ba_world_play.specs.Disks.{HoldsNode, StandsForNode, pending_record}
use Rattle.ba_world_play.specs.Nodes.{NodeCall, called_node, crashed, disarmed, holds_more, load_run, node_stopped, open_by_load, open_call}
use Rattle.ba_world_play.specs.Nodes.{open_running, opened_node, running, running_by, unopened_call}
use Rattle.ba_ports.specs.Disk.{InTurn, LeavesOnly, counted, nothing}
use Rattle.ba_ports.specs.declared.images.Image.{Image}
use Rattle.ba_ports.specs.declared.requests.Call.{Call}
use Rattle.ba_ports.specs.declared.requests.Request.{Request}
use Rattle.ba_ports.specs.declared.requests.Request.TheVariants as request
use Rattle.ba_record.specs.declared.records.Record.{Record}
use Rattle.ba_world_runs.specs.World.{WorldNode, is_up}
use Rattle.ba_node_steps.specs.Fits.{HasSpareCounters}
use Rattle.ba_node_steps.specs.Lawful.{Replays}
use Rattle.ba_node_steps.specs.Node.{NodeState}
use Rattle.ba_world_places.proofs.CallLemmas.{Settled, holds_at_rest, settled_unarmed}
use Rattle.ba_world_places.proofs.ReplayLemmas.{has_records, opened_none, opened_one, opened_up}
use Rattle.ba_world_places.specs.Calls.{IsLawfulNode, MatchesBoth}
use Rattle.ba_world_places.specs.Places.{IsPlaceOf, Matches, RestsAt, RunsAt, disk_at, mode_of}
use Rattle.ba_world_places.specs.inside.Calls.{IsReadied, IsUnloaded, KnowsScopes, ready_by, ready_disk, unarmed, unopened_outcome}
use Rattle.ba_world_places.specs.declared.places.KnownScope.{KnownScope}
use Rattle.ba_world_places.specs.declared.places.Place.{Place}
use Rattle.ba_world_places.specs.declared.places.Place.TheVariants as place

-- ---- a list with records has begun

begun_same : (number : ℕ) (base : List ℕ) (records : List Record) → records ≢ [] → begun number base records ≡ records
begun_same number base [] some = absurd (some refl)
begun_same number base (r ∷ more) some = refl

none_begins : (gate number : ℕ) (base : List ℕ) (records : List Record) → records ≢ [] → beginning gate number base records ≡ []
none_begins gate number base [] some = absurd (some refl)
none_begins gate number base (r ∷ more) some = refl

opening_is : (number : ℕ) (base : List ℕ) (found : Reading) → records_found found ≢ []
    → opening number base found ≡ request.Sync ∷ settling found
opening_is number base found some =
    ap (λ (l : List Request). (request.Sync ∷ settling found) ++ l) (none_begins (gate_read found) number base (records_found found) some)
    ∙ append-nil (request.Sync ∷ settling found)

-- ---- the records on the disk

more_is_some : (records more : List Record) → records ≢ [] → records ++ more ≢ []
more_is_some [] more some h = some refl
more_is_some (r ∷ records) more some h = absurd cc

-- a file that stands for the node stands for some records
stands_is_some : (n : WorldNode) (file : List ℕ) (records : List Record) → n.records ≢ [] → StandsForNode n file → StandsFor file records
    → records ≢ []
stands_is_some n file records some (inl own) also none = some (one_list file n.records records own also ∙ none)
stands_is_some n file records some (inr more) also none =
    more_is_some n.records (option_to_list (pending_record n)) some
    (one_list file (n.records ++ option_to_list (pending_record n)) records more also ∙ none)

-- another file that stands for the same stands for the node too
stands_too : (n : WorldNode) (file left : List ℕ) (records : List Record) → StandsForNode n file → StandsFor file records
    → StandsFor left records → StandsForNode n left
stands_too n file left records (inl own) also now = inl (subst (StandsFor left) (one_list file records n.records also own) now)
stands_too n file left records (inr more) also now =
    inr (subst (StandsFor left) (one_list file records (n.records ++ option_to_list (pending_record n)) also more) now)

-- ---- the machine of the disk runs

ready_holds : (n : WorldNode) (disk : MediumValue) (d : DiskValue) → IsReadied n disk d
    → ((c : List ℕ) → MayBeLeft (running disk) c → MayBeLeft disk c) → (c : List ℕ) → MayBeLeft d.medium c → StandsForNode n c
ready_holds n disk d ready back c may = ready.holds c (back c (subst (λ (m : MediumValue). MayBeLeft m c) ready.medium may))

opening_on : (n : WorldNode) (disk : MediumValue) (d : DiskValue) (made : Bool × MediumValue) → IsReadied n disk d
    → load_run d.medium (reading_of (bytes_of d.medium)) ≡ made
    → open_call n disk ≡ open_by_load n (reading_of (bytes_of d.medium)) made
opening_on n disk d made ready ran =
    ap (open_running n) (sym ready.medium) ∙ ap (open_by_load n (reading_of (bytes_of d.medium))) ran

ready_of : (n : WorldNode) (disk : MediumValue) (d : DiskValue) → d.medium ≡ disk → d.starved ≡ false → HoldsNode n disk
    → IsReadied n disk (ready_disk d)
ready_of n disk d is fed holds = by_stop d.medium.stopped (ap (λ (m : MediumValue). m.stopped) is)
  where
    by_stop : (stopped : Option Image) → stopped ≡ disk.stopped → IsReadied n disk (ready_by stopped d)
    by_stop None same = record {
      medium = is ∙ ap (λ (s : Option Image). running_by s disk) same;
      fed = fed;
      holds = holds;
    }
    by_stop (Some image) same = record {
      medium = ap restarted_medium is ∙ ap (λ (s : Option Image). running_by s disk) same;
      fed = fed;
      holds = holds;
    }

-- ---- a node that was loaded

-- what a loading says of the node, over a disk in memory
pub record IsLoaded (number : ℕ) (base : List ℕ) (d : DiskValue) (node : NodeOnJournal DiskValue) : Type 0 where
  pub opened : node.closed ≡ None
  pub records : List Record
  pub stands : StandsFor (bytes_of d.medium) records
  pub replays : Replays (begun number base records) node.node
  pub settled : Settled node.disk node.end (begun number base records)
  pub calls : List Call
  pub drives : Drives d calls node.disk
  pub found : Reading
  pub reads : ReadsAs (bytes_of d.medium) found
  pub turn : InTurn (opening number base found) false (counted calls)
  pub fed : node.disk.starved ≡ false
  pub spare : HasSpareCounters node.node

-- what may be left of the machine that runs might have been left before
running_left : (disk : MediumValue) (stopped : Option Image) (c : List ℕ) → MayBeLeft (running_by stopped disk) c → MayBeLeft disk c
running_left disk None c may = may
running_left disk (Some image) c may = subst (MayBeLeft disk) (sym may) (left_of_all (chosen disk.stopped) disk.pending disk.synced)

-- the calls of a loading from a disk in memory, by its answer
abbrev pub OpenedWith : ℕ → List ℕ → DiskValue → DiskValue → Result (NodeOnJournal DiskValue) LoadFault → Type 0
OpenedWith number base d d1 result = (calls : List Call) × Drives d calls d1
    × Opened (λ found. true ≡ true → ReadsAs (bytes_of d.medium) found) number base result calls

module _ (n : WorldNode) (disk : MediumValue) (d : DiskValue) (some : n.records ≢ []) (ready : IsReadied n disk d)
    (number : ℕ) (base : List ℕ) where
  back : (c : List ℕ) → MayBeLeft (running disk) c → MayBeLeft disk c
  back = running_left disk disk.stopped

  file_stands : StandsForNode n (bytes_of d.medium)
  file_stands = ready_holds n disk d ready back (bytes_of d.medium) (shown_may_stay d.medium)

  pub loaded_is : (node : NodeOnJournal DiskValue) → (l : IsLoaded number base d node)
      → ((m : NodeState) → Replays (opened_node n (reading_of (bytes_of d.medium))).records m
      → m ≡ (opened_node n (reading_of (bytes_of d.medium))).state)
      → ((opened_node n (reading_of (bytes_of d.medium))).mode ≡ is_up)
      → ((opened_node n (reading_of (bytes_of d.medium))).pending ≡ None)
      → (open_call n disk ≡ called_node (opened_node n (reading_of (bytes_of d.medium))) node.disk.medium (Some outcome.Done))
      × Matches (opened_node n (reading_of (bytes_of d.medium))) (disarmed node.disk.medium) (place.Up (unarmed node))
  loaded_is node l unique up none =
      let file : List ℕ = bytes_of d.medium in
      let opened : WorldNode = opened_node n (reading_of file) in
      let found_some : records_found l.found ≢ [] =
      stands_is_some n file (records_found l.found) some file_stands (stands_found file l.found l.reads) in
      let asked : InTurn (request.Sync ∷ settling l.found) false (counted l.calls) =
      subst (λ (rs : List Request). InTurn rs false (counted l.calls)) (opening_is number base l.found found_some) l.turn in
      let ran = load_is_played d node.disk l.found false l.calls l.reads l.drives l.fed asked in
      let same : begun number base l.records ≡ l.records =
      begun_same number base l.records (stands_is_some n file l.records some file_stands l.stands) in
      let are : opened.records ≡ l.records =
      subst (λ (m : MediumValue). (opened_node n (reading_of (bytes_of m))).records ≡ l.records) (sym ready.medium)
      (opened_records n disk l.records ready.holds (subst (λ (m : MediumValue). StandsFor (bytes_of m) l.records) ready.medium l.stands))
      in
      let whole : begun number base l.records ≡ opened.records = same ∙ sym are in
      let rest : Settled node.disk node.end opened.records = subst (Settled node.disk node.end) whole l.settled in (
        opening_on n disk d (false, node.disk.medium) ready ran,
        record {
          place = record {
            mode = up ∙ sym (ap mode_of l.opened);
            medium = refl;
            fed = l.fed;
            state = unique node.node (subst (λ (rs : List Record). Replays rs node.node) whole l.replays);
            none_pending = λ is. none;
            spare = l.spare;
            settled = λ is. settled_unarmed node.disk node.end opened.records rest;
          };
          holds = holds_at_rest opened node.disk node.end rest;
        },
      )

  -- ---- a node that wasn't

  abbrev pub Leaves : DiskValue → (List ℕ → Type 0) → Type 0
  Leaves d1 = LeavesOnly (λ (x y : DiskValue). IsLater x.medium y.medium) (λ (x y : DiskValue). MayHaveBeenLeft x.medium y.medium) d d1

  still_holds : (d1 : DiskValue) → Leaves d1 (MayBeginSince number base (MayBeLeft d.medium)) → (c : List ℕ) → MayBeLeft d1.medium c
      → StandsForNode n c
  still_holds d1 leaves c may = elim (leaves.each c (left_now d.medium d1.medium c leaves.goes_on may)) [
    | inl was ↦ ready_holds n disk d ready back c was
    | inr since ↦ by_file since.0 since.1 since.2 since.3 since.4
  ]
    where
      by_file : (f : List ℕ) → MayBeLeft d.medium f → (records : List Record) → StandsFor f records
          → StandsFor c records ⊎ StandsFor c (begun number base records) → StandsForNode n c
      by_file f was records stands (inl now) = stands_too n f c records (ready_holds n disk d ready back f was) stands now
      by_file f was records stands (inr now) =
          let there = ready_holds n disk d ready back f was in
          let same = begun_same number base records (stands_is_some n f records some there stands) in
          stands_too n f c records there stands (subst (StandsFor c) same now)

  pub unloaded_is : (d1 : DiskValue) (calls : List Call) → Drives d calls d1 → d1.starved ≡ false → EndsFailed calls
      → ((failed : Bool) × InTurn (request.Sync ∷ []) failed (counted calls))
      ⊎ ((found : Reading) × ReadsAs (bytes_of d.medium) found × InTurn (opening number base found) true (counted calls))
      → open_call n disk ≡ unopened_call n d1.medium d1.medium.stopped
  unloaded_is d1 calls drives fed ends (inl (failed, turn)) =
      opening_on n disk d (true, d1.medium) ready (early_is_played d d1 (reading_of (bytes_of d.medium)) failed calls drives fed ends turn)
  unloaded_is d1 calls drives fed ends (inr (found, reads, turn)) =
      let found_some : records_found found ≢ [] =
      stands_is_some n (bytes_of d.medium) (records_found found) some file_stands (stands_found (bytes_of d.medium) found reads) in
      let asked : InTurn (request.Sync ∷ settling found) true (counted calls) =
      subst (λ (rs : List Request). InTurn rs true (counted calls)) (opening_is number base found found_some) turn in
      opening_on n disk d (true, d1.medium) ready (load_is_played d d1 found true calls reads drives fed asked)

  pub failed_is : (d1 : DiskValue) → OpenedWith number base d d1 (Err load.Disk) → d1.starved ≡ false
      → open_call n disk ≡ unopened_call n d1.medium d1.medium.stopped
  failed_is d1 (calls, drives, (ends, inl early)) fed = unloaded_is d1 calls drives fed ends (inl early)
  failed_is d1 (calls, drives, (ends, inr (found, reads, turn))) fed = unloaded_is d1 calls drives fed ends (inr (found, reads refl, turn))

  pub down_again : (d1 : DiskValue) (known : List KnownScope) → d1.starved ≡ false → KnowsScopes n known
      → Leaves d1 (MayBeginSince number base (MayBeLeft d.medium))
      → Matches (node_stopped n) (disarmed d1.medium) (place.Down (rearm nothing d1) known)
  down_again d1 known fed knows leaves = record {
    place = record { mode = refl; medium = refl; fed = fed; scopes = knows };
    holds = still_holds d1 leaves;
  }

pub loaded_of : (number : ℕ) (base : List ℕ) (d : DiskValue) (node : NodeOnJournal DiskValue) → node.closed ≡ None
    → (records : List Record) × StandsFor (bytes_of d.medium) records × Replays (begun number base records) node.node
    × Settled node.disk node.end (begun number base records)
    → OpenedWith number base d node.disk (Ok node) → node.disk.starved ≡ false → HasSpareCounters node.node → IsLoaded number base d node
loaded_of number base d node opened (records, stands, replays, settled) (calls, drives, (found, reads, turn)) fed spare = record {
  opened = opened;
  records = records;
  stands = stands;
  replays = replays;
  settled = settled;
  calls = calls;
  drives = drives;
  found = found;
  reads = reads refl;
  turn = turn;
  fed = fed;
  spare = spare;
}

-- ---- the clauses

-- the machine of the disk of a place is started, where it has stopped
pub readied : (n : WorldNode) (disk : MediumValue) (held : Place) → Matches n disk held → IsReadied n disk (ready_disk (disk_at held))
readied n disk (place.Up node) matches =
    let runs : RunsAt n disk node = matches.place in
    ready_of n disk node.disk runs.medium runs.fed matches.holds
readied n disk (place.Down held known) matches =
    let rests : RestsAt n disk held known = matches.place in
    ready_of n disk held rests.medium rests.fed matches.holds

abbrev pub OpenLeads : Place → Outcome → NodeCall → Type 0
OpenLeads at shown call = MatchesBoth call.after at × (call.shown ≡ Some shown)

module _ (number : ℕ) (base : List ℕ) (n : WorldNode) (disk : MediumValue) (d : DiskValue) (lawful : IsLawfulNode number n)
    (ready : IsReadied n disk d) where
  abbrev there : WorldNode
  there = opened_node n (reading_of (bytes_of d.medium))

  pub opened_leads : (node : NodeOnJournal DiskValue) (at : Place) → IsLoaded number base d node → at ≡ place.Up (unarmed node)
      → OpenLeads at outcome.Done (open_call n disk)
  opened_leads node at l is =
      let some : n.records ≢ [] = has_records number n lawful in
      let more : Bool = holds_more n (reading_of (bytes_of d.medium)) in
      let loaded = loaded_is n disk d some ready number base node l (opened_one number n n.pending more lawful)
      (opened_up n n.pending more) (opened_none n n.pending more) in
      let led : OpenLeads at outcome.Done (called_node there node.disk.medium (Some outcome.Done)) =
      (subst (Matches there (disarmed node.disk.medium)) (sym is) loaded.1, refl) in
      subst (OpenLeads at outcome.Done) (sym loaded.0) led

  unopened_with : (d1 : DiskValue) (known : List KnownScope) (at : Place)
      → Matches (node_stopped n) (disarmed d1.medium) at → (stopped : Option Image)
      → OpenLeads at (unopened_outcome stopped) (unopened_call n d1.medium stopped)
  unopened_with d1 known at matches None = (matches, refl)
  unopened_with d1 known at matches (Some image) = (matches, refl)

  pub unopened_leads : (d1 : DiskValue) (known : List KnownScope) (why : LoadFault) (at : Place) (shown : Outcome)
      → d1.starved ≡ false → KnowsScopes n known
      → LeavesOnly (λ (x y : DiskValue). IsLater x.medium y.medium) (λ (x y : DiskValue). MayHaveBeenLeft x.medium y.medium) d d1
      (MayBeginSince number base (MayBeLeft d.medium))
      → OpenedWith number base d d1 (Err why) → IsUnloaded d1 known why at shown → OpenLeads at shown (open_call n disk)
  unopened_leads d1 known why at shown fed knows leaves calls unloaded =
      let some : n.records ≢ [] = has_records number n lawful in
      let matches : Matches (node_stopped n) (disarmed d1.medium) at =
      subst (Matches (node_stopped n) (disarmed d1.medium)) (sym unloaded.place)
      (down_again n disk d some ready number base d1 known fed knows leaves) in
      let is : open_call n disk ≡ unopened_call n d1.medium d1.medium.stopped =
      failed_is n disk d some ready number base d1
      (subst (λ (w : LoadFault). OpenedWith number base d d1 (Err w)) unloaded.why_is calls) fed in
      let led : OpenLeads at (unopened_outcome d1.medium.stopped) (unopened_call n d1.medium d1.medium.stopped) =
      unopened_with d1 known at matches d1.medium.stopped in
      subst (λ (o : Outcome). OpenLeads at o (open_call n disk)) (sym unloaded.shown_is)
      (subst (OpenLeads at (unopened_outcome d1.medium.stopped)) (sym is) led)

pub each_ok : {T E : Type 0} (P Q : T → Type 0) → ((x : T) → P x → Q x) → (r : Result T E) → IfOk r P → IfOk r Q
each_ok P Q goes (Ok x) is = goes x is
each_ok P Q goes (Err e) is = is

abbrev pub Opens : ℕ → (WorldNode → MediumValue → Type 0) → Place × Outcome → Type 0
Opens number IsThere made = (n : WorldNode) (disk : MediumValue) → IsLawfulNode number n → IsThere n disk
    → MatchesBoth (open_call n disk).after made.0 × ((open_call n disk).shown ≡ Some made.1)

abbrev pub OpensReady : ℕ → DiskValue → List KnownScope → Place × Outcome → Type 0
OpensReady number d known made = (n : WorldNode) (disk : MediumValue) → IsLawfulNode number n → IsReadied n disk d → KnowsScopes n known
    → MatchesBoth (open_call n disk).after made.0 × ((open_call n disk).shown ≡ Some made.1)

pub unopened_by : (number : ℕ) (base : List ℕ) (d d1 : DiskValue) (known : List KnownScope) (why : LoadFault) → d1.starved ≡ false
    → LeavesOnly (λ (x y : DiskValue). IsLater x.medium y.medium) (λ (x y : DiskValue). MayHaveBeenLeft x.medium y.medium) d d1
    (MayBeginSince number base (MayBeLeft d.medium))
    → OpenedWith number base d d1 (Err why) → (r : Result (Place × Outcome) Memory)
    → IfOk r (λ made. IsUnloaded d1 known why made.0 made.1) → IfOk r (OpensReady number d known)
unopened_by number base d d1 known why fed leaves calls =
    each_ok (λ made. IsUnloaded d1 known why made.0 made.1) (OpensReady number d known)
    (λ made unloaded n disk lawful ready knows.
    unopened_leads number base n disk d lawful ready d1 known why made.0 made.1 fed knows leaves calls unloaded)

pub open_by : (number : ℕ) (held : Place) (d0 d1 : DiskValue) (known : List KnownScope) → d0 ≡ disk_at held → d1 ≡ ready_disk d0
    → ((n : WorldNode) (disk : MediumValue) → IsPlaceOf n disk held → KnowsScopes n known) → (r : Result (Place × Outcome) Memory)
    → IfOk r (OpensReady number d1 known) → IfOk r (Opens number (λ n disk. Matches n disk held))
open_by number held d0 d1 known is_disk is_ready knows =
    each_ok (OpensReady number d1 known) (Opens number (λ n disk. Matches n disk held))
    (λ made opens n disk lawful matches.
    let is : d1 ≡ ready_disk (disk_at held) = is_ready ∙ ap ready_disk is_disk in
    opens n disk lawful (subst (IsReadied n disk) (sym is) (readied n disk held matches)) (knows n disk matches.place))

-- ---- a stop

medium_at : (n : WorldNode) (disk : MediumValue) (held : Place) → IsPlaceOf n disk held → (disk_at held).medium ≡ disk
medium_at n disk (place.Up node) runs = runs.medium
medium_at n disk (place.Down d known) rests = rests.medium

fed_at : (n : WorldNode) (disk : MediumValue) (held : Place) → IsPlaceOf n disk held → (disk_at held).starved ≡ false
fed_at n disk (place.Up node) runs = runs.fed
fed_at n disk (place.Down d known) rests = rests.fed

pub crash_leads : (n : WorldNode) (disk : MediumValue) (held : Place) (d0 d1 : DiskValue) (known : List KnownScope) → Matches n disk held
    → d0 ≡ disk_at held → d1 ≡ restarted d0 → KnowsScopes n known → MatchesBoth (crashed n disk) (place.Down d1 known)
crash_leads n disk held d0 d1 known matches is_disk is_again knows = record {
  place = record {
    mode = refl;
    medium = ap (λ (d : DiskValue). d.medium) is_again
        ∙ ap (λ (d : DiskValue). restarted_medium d.medium) is_disk ∙ ap restarted_medium (medium_at n disk held matches.place);
    fed = ap (λ (d : DiskValue). d.starved) is_again ∙ ap (λ (d : DiskValue). d.starved) is_disk ∙ fed_at n disk held matches.place;
    scopes = knows;
  };
  holds = λ c may. matches.holds c (subst (MayBeLeft disk) (sym may) (left_of_all (chosen disk.stopped) disk.pending disk.synced));
}

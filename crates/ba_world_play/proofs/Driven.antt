-- What the calls of an append or of a load, made on a disk in memory, are in a play; for the law that disks are driven as played.
use Rattle.std.proofs.Common.{◌≡◌, ◌↔◌, ◌+◌, ℕ, inl, inr, Bool, true, false, List, [], ◌∷◌, ◌++◌, length, Option, Some, None, is_some, refl}
use Rattle.std.proofs.Common.{sym, ◌∙◌, ap, subst, arith, true≢false}
use Rattle.std.proofs.lemmas.Bool.Decides.{nat_tests}
use Rattle.std.proofs.lemmas.List.{append-nil}
use Rattle.ba_journal.proofs.ReadingOf.{computed}
use Rattle.ba_journal.proofs.Turns.{counted_on, in_turn_stopped}
use Rattle.ba_journal.specs.Journals.{GoesPast, appending, behind_gate}
use Rattle.ba_journal.specs.Loads.{EndsFailed, settling}
use Rattle.ba_journal.specs.Readings.{ReadsAs, reading_of}
use Rattle.ba_journal.specs.declared.readings.Reading.{Reading}
use Rattle.ba_ports_memory.proofs.Turns.{run_of_all, run_of_counted}
use Rattle.ba_ports_memory.specs.DiskValue.{DiskValue, Drives, CallsLead, MediumValue, after, bytes_of, course, course_of, fails, goes_wrong, run}
use Rattle.ba_ports_memory.specs.DiskValue.{step, synced_by, unless_failed}
use Rattle.ba_ports_memory.specs.declared.media.Armed.{Armed}
use Rattle.ba_ports_memory.specs.declared.media.Course.{Course}
use Rattle.ba_ports_memory.specs.declared.media.Course.TheVariants.{GoesOn, Met, Refused}
use Rattle.ba_world_play.specs.Nodes.{append_run, is_past_end, last_place, load_run}
use Rattle.ba_ports.specs.Disk.{InTurn, counted}
use Rattle.ba_ports.specs.declared.images.Image.{Image}
use Rattle.ba_ports.specs.declared.requests.Call.{Call}
use Rattle.ba_ports.specs.declared.requests.Request.{Request}
use Rattle.ba_ports.specs.declared.requests.Request.TheVariants as request
use Rattle.ba_record.specs.Coding.{coding}
use Rattle.ba_record.specs.declared.records.Record.{Record}

-- ---- an append

place_is : (disk : MediumValue) (gate : ℕ) → gate + 1 ≡ length (bytes_of disk) → last_place disk ≡ gate
place_is disk gate is = omega (arith, is)

pub append_is_played : (d b : DiskValue) (gate : ℕ) (r : Record) (failed : Bool) (calls : List Call)
    → gate + 1 ≡ length (bytes_of d.medium) → Drives d calls b → b.starved ≡ false
    → InTurn (appending gate (behind_gate (coding r))) failed calls → append_run d.medium r ≡ (failed, b.medium)
append_is_played d b gate r failed calls place drives fed turn =
    ap (λ (g : ℕ). run (appending g (behind_gate (coding r))) d.medium) (place_is d.medium gate place)
    ∙ run_of_all (appending gate (behind_gate (coding r))) failed calls d b turn (drives fed)

past_there : (disk : MediumValue) (gate : ℕ) (r : Record) → last_place disk ≡ gate → GoesPast gate (length (coding r))
    → is_past_end disk r ≡ true
past_there disk gate r is past = grind (arith, nat_tests)

there_past : (disk : MediumValue) (gate : ℕ) (r : Record) → last_place disk ≡ gate → is_past_end disk r ≡ true
    → GoesPast gate (length (coding r))
there_past disk gate r is past = grind (arith, nat_tests)

pub past_is_played : (disk : MediumValue) (gate : ℕ) (r : Record) → gate + 1 ≡ length (bytes_of disk)
    → (is_past_end disk r ≡ true) ↔ GoesPast gate (length (coding r))
past_is_played disk gate r place =
    (there_past disk gate r (place_is disk gate place), past_there disk gate r (place_is disk gate place))

-- ---- a load

pub load_is_played : (d b : DiskValue) (found : Reading) (failed : Bool) (calls : List Call) → ReadsAs (bytes_of d.medium) found
    → Drives d calls b → b.starved ≡ false → InTurn (request.Sync ∷ settling found) failed (counted calls)
    → load_run d.medium (reading_of (bytes_of d.medium)) ≡ (failed, b.medium)
load_is_played d b found failed calls reads drives fed turn =
    ap (λ (f : Reading). run (request.Sync ∷ settling f) d.medium) (computed (bytes_of d.medium) found reads)
    ∙ run_of_counted (request.Sync ∷ settling found) failed calls d b turn (drives fed)

-- the last of some calls
split_last : (before : List Call) (x : Call) (a b : DiskValue) → CallsLead a (before ++ x ∷ []) b
    → (d : DiskValue) × CallsLead a before d × (x.failed ≡ fails x.request d.medium)
split_last [] x a b leads = (a, refl, leads.0)
split_last (call ∷ before) x a b leads =
    let rest = split_last before x (step call.request a) b leads.1 in (rest.0, (leads.0, rest.1), rest.2)

going_on : (c : Course) → goes_wrong c ≡ false → c ≡ GoesOn
going_on GoesOn is = refl
going_on Refused is = absurd (true≢false is)
going_on (Met trouble) is = absurd (true≢false is)

runs_on : (stopped : Option Image) (armed : Option Armed) (number : ℕ) → course_of stopped armed number ≡ GoesOn → stopped ≡ None
runs_on None armed number is = refl
runs_on (Some image) armed number is = absurd cc

-- after a sync that went well the machine runs
sync_well : (m : MediumValue) → goes_wrong (course m) ≡ false → (after request.Sync m).stopped ≡ None
sync_well m is =
    let goes : course m ≡ GoesOn = going_on (course m) is in
    ap (λ (c : Course). (synced_by c m).stopped) goes ∙ runs_on m.stopped m.armed (length m.calls + 1) goes

by_run : (m after_it : MediumValue) (failed : Bool)
    → unless_failed failed (after request.Sync m) (false, after request.Sync m) ≡ (false, after_it)
    → (failed ≡ false) × (after_it ≡ after request.Sync m)
by_run m after_it true is = absurd (true≢false (ap (λ (x : Bool × MediumValue). x.0) is))
by_run m after_it false is = (refl, sym (ap (λ (x : Bool × MediumValue). x.1) is))

abbrev failed_call : Request → Call
failed_call r = record { request = r; failed = true }

abbrev well_synced : Call
well_synced = record { request = request.Sync; failed = false }

-- of a disk whose one counted call was a sync that went well the machine runs
synced_disk : (calls : List Call) (a b : DiskValue) → CallsLead a calls b → counted calls ≡ well_synced ∷ [] → b.medium.stopped ≡ None
synced_disk calls a b leads one =
    let turn : InTurn (request.Sync ∷ []) false (counted calls) = inr ([], one, (refl, refl)) in
    let ran = by_run a.medium b.medium (fails request.Sync a.medium)
    (run_of_counted (request.Sync ∷ []) false calls a b turn leads) in
    ap (λ (m : MediumValue). m.stopped) ran.1 ∙ sync_well a.medium ran.0

-- so a look at it doesn't fail
looked : (r : Request) → ((m : MediumValue) → fails r m ≡ is_some m.stopped) → (before : List Call) (a b : DiskValue)
    → CallsLead a (before ++ failed_call r ∷ []) b → counted before ≡ well_synced ∷ [] → ⊥
looked r fails_so before a b leads one =
    let last = split_last before (failed_call r) a b leads in
    let runs : last.0.medium.stopped ≡ None = synced_disk before a last.0 last.1 one in
    let no : true ≡ false = last.2 ∙ fails_so last.0.medium ∙ ap (λ (s : Option Image). is_some s) runs in
    true≢false no

last_alone : (xs : List Call) (x y : Call) → xs ++ x ∷ [] ≡ y ∷ [] → x ≡ y
last_alone [] x y is = cc
last_alone (z ∷ []) x y is = absurd cc
last_alone (z ∷ w ∷ xs) x y is = absurd cc

-- nor is the one counted call that went well the one that failed
counted_last : (r : Request) (before : List Call) → counted before ++ failed_call r ∷ [] ≡ well_synced ∷ [] → ⊥
counted_last r before is =
    let same : failed_call r ≡ well_synced = last_alone (counted before) (failed_call r) well_synced is in
    true≢false (ap (λ (c : Call). c.failed) same)

none_fails_late : (r : Request) (before : List Call) (a b : DiskValue) → CallsLead a (before ++ failed_call r ∷ []) b
    → counted (before ++ failed_call r ∷ []) ≡ well_synced ∷ [] → ⊥
none_fails_late request.Len before a b leads is =
    looked request.Len (λ m. refl) before a b leads
    (sym (append-nil (counted before)) ∙ sym (counted_on before (failed_call request.Len ∷ [])) ∙ is)
none_fails_late (request.ReadAt place room) before a b leads is =
    looked (request.ReadAt place room) (λ m. refl) before a b leads
    (sym (append-nil (counted before)) ∙ sym (counted_on before (failed_call (request.ReadAt place room) ∷ [])) ∙ is)
none_fails_late (request.WriteAt place bytes) before a b leads is =
    counted_last (request.WriteAt place bytes) before (sym (counted_on before (failed_call (request.WriteAt place bytes) ∷ [])) ∙ is)
none_fails_late (request.Cut len) before a b leads is =
    counted_last (request.Cut len) before (sym (counted_on before (failed_call (request.Cut len) ∷ [])) ∙ is)
none_fails_late request.Sync before a b leads is =
    counted_last request.Sync before (sym (counted_on before (failed_call request.Sync ∷ [])) ∙ is)

-- a load that failed before the file was read failed at its sync
pub early_is_played : (d b : DiskValue) (found : Reading) (failed : Bool) (calls : List Call) → Drives d calls b → b.starved ≡ false
    → EndsFailed calls → InTurn (request.Sync ∷ []) failed (counted calls) → load_run d.medium found ≡ (true, b.medium)
early_is_played d b found true calls drives fed ends turn =
    run_of_counted (request.Sync ∷ settling found) true calls d b
    (in_turn_stopped (request.Sync ∷ []) (settling found) (counted calls) turn) (drives fed)
early_is_played d b found false calls drives fed ends (inl stopped) = absurd (true≢false (sym stopped.0))
early_is_played d b found false calls drives fed (before, r, all) (inr (later, is, none)) =
    let one : counted calls ≡ well_synced ∷ [] = is ∙ ap (λ (l : List Call). well_synced ∷ l) none.1 in
    absurd (none_fails_late r before d b (subst (λ (cs : List Call). CallsLead d cs b) all (drives fed)) (ap counted (sym all) ∙ one))

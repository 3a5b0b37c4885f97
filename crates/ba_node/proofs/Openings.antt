-- How a loading of a node follows from one of its journal.
use Rattle.std.proofs.Common.{◌≡◌, ◌≢◌, ◌⊎◌, ℕ, inl, inr, Bool, true, false, List, [], ◌∷◌, ◌++◌, length, Result, Ok, Err, refl, sym, ◌∙◌}
use Rattle.std.proofs.Common.{ap, subst}
use Rattle.ba_ports.specs.Disk.{InTurn, counted}
use Rattle.ba_ports.specs.declared.requests.Call.{Call}
use Rattle.ba_ports.specs.declared.requests.Request.{Request}
use Rattle.ba_ports.specs.declared.requests.Request.TheVariants.{Sync}
use Rattle.ba_record.specs.declared.records.Record.{Record}
use Rattle.ba_journal.specs.Frames.{StandsFor, IsNoJournal}
use Rattle.ba_journal.specs.Loads as journal
use Rattle.ba_journal.specs.Loads.{MayStandSince, IsOpenedAs, settling}
use Rattle.ba_journal.specs.declared.faults.JournalFault.{JournalFault}
use Rattle.ba_journal.specs.declared.faults.JournalFault.TheVariants as journal_fault
use Rattle.ba_journal.specs.declared.readings.Reading.{Reading}
use Rattle.ba_journal.specs.declared.readings.Reading.TheVariants.{Fresh, Found}
use Rattle.ba_journal.proofs.Turns.{in_turn_on, in_turn_stopped, counted_on, AreCounted, all_counted}
use Rattle.ba_journal.proofs.Loadings.{turn_ends_failed}
use Rattle.ba_journal.proofs.Looking.{ends_failed_on}
use Rattle.ba_node.specs.Loading.{MayBeginSince, Opened, RefusesFile, RefusesLoad, beginning, begun, gate_read, load_fault_of, opening}
use Rattle.ba_node.specs.inside.Beginnings.{Begun}
use Rattle.ba_journal.specs.Readings.{records_found}
use Rattle.ba_node.specs.declared.faults.LoadFault.{LoadFault}
use Rattle.ba_node.specs.declared.faults.LoadFault.TheVariants as fault

-- a journal with records is begun without a call
pub replay_begun : {T : Type 0} (gate number : ℕ) (base : List ℕ) (r : Record) (rs : List Record) (result : Result T LoadFault)
    → result ≢ Err fault.Disk → Begun gate number base (r ∷ rs) result []
replay_begun gate number base r rs (Ok done) other = (refl, refl)
replay_begun gate number base r rs (Err fault.Disk) other = absurd (other refl)
replay_begun gate number base r rs (Err fault.Memory) other = refl
replay_begun gate number base r rs (Err (fault.NotAJournal place)) other = refl
replay_begun gate number base r rs (Err (fault.OtherNode n)) other = refl
replay_begun gate number base r rs (Err fault.OtherBase) other = refl
replay_begun gate number base r rs (Err (fault.BadHistory n)) other = refl

-- the journal wasn't loaded

pub unread : (number : ℕ) (base file : List ℕ) (why : JournalFault)
    → ((place : ℕ) → why ≡ journal_fault.NotAJournal place → IsNoJournal file place)
    → RefusesFile number base file (load_fault_of why)
unread number base file journal_fault.Memory none = tt
unread number base file journal_fault.Disk none = tt
unread number base file (journal_fault.NotAJournal place) none = none place refl
unread number base file journal_fault.Full none = tt
unread number base file (journal_fault.Closed count) none = tt

pub since_alike : (number : ℕ) (base : List ℕ) (before : List ℕ → Type 0) (c : List ℕ) → MayStandSince before c
    → MayBeginSince number base before c
since_alike number base before c (inl was) = inl was
since_alike number base before c (inr (d, was, alike)) = inr (d, was, alike.0, alike.1, inl alike.2)

pub unread_calls : (T S : Type 0) (IsRead : Reading → Type 0) (IsOpened : T → Reading → Type 0) (number : ℕ) (base : List ℕ)
    (why : JournalFault) (calls : List Call)
    → journal.Loaded {T = T} IsRead IsOpened (Err why) calls → Opened {T = S} IsRead number base (Err (load_fault_of why)) calls
unread_calls T S IsRead IsOpened number base journal_fault.Memory calls made = inl made
unread_calls T S IsRead IsOpened number base journal_fault.Disk calls (ends, inl sync) = (ends, inl sync)
unread_calls T S IsRead IsOpened number base journal_fault.Disk calls (ends, inr (found, read, turn)) = (
  ends,
  inr (
    found,
    read,
    in_turn_stopped (Sync ∷ settling found) (beginning (gate_read found) number base (records_found found))
        (counted calls) turn,
  ),
)
unread_calls T S IsRead IsOpened number base (journal_fault.NotAJournal place) calls made = made
unread_calls T S IsRead IsOpened number base journal_fault.Full calls made = absurd made
unread_calls T S IsRead IsOpened number base (journal_fault.Closed count) calls made = absurd made

-- the journal was loaded

pub since_begun : (number : ℕ) (base : List ℕ) (before : List ℕ → Type 0) (file : List ℕ) (records : List Record) (c : List ℕ)
    → before file → StandsFor file records
    → StandsFor c records ⊎ StandsFor c (begun number base records) → MayBeginSince number base before c
since_begun number base before file records c was stands now = inr (file, was, records, stands, now)

gate_same : (gate : ℕ) (records : List Record) (found : Reading) → IsOpenedAs gate records found → gate_read found ≡ gate
gate_same gate records Fresh is = sym is.0
gate_same gate records (Found read last tail) is = sym is.0

records_same : (gate : ℕ) (records : List Record) (found : Reading) → IsOpenedAs gate records found → records_found found ≡ records
records_same gate records Fresh is = sym is.1
records_same gate records (Found read last tail) is = sym is.1

beginning_counted : (gate number : ℕ) (base : List ℕ) (records : List Record) → AreCounted (beginning gate number base records)
beginning_counted gate number base [] = (refl, (refl, (refl, (refl, tt))))
beginning_counted gate number base (r ∷ rs) = tt

-- the counted calls of both
both : (requests : List Request) (gate number : ℕ) (base : List ℕ) (records : List Record) (failed : Bool) (first second : List Call)
    → InTurn requests false (counted first)
    → InTurn (beginning gate number base records) failed second
    → InTurn (requests ++ beginning gate number base records) failed (counted (first ++ second))
both requests gate number base records failed first second before behind =
    subst (λ (cs : List Call). InTurn (requests ++ beginning gate number base records) failed cs)
    (sym (counted_on first second ∙ ap (λ (cs : List Call). counted first ++ cs)
    (all_counted (beginning gate number base records) failed second (beginning_counted gate number base records) behind)))
    (in_turn_on requests (beginning gate number base records) failed (counted first) second before behind)

opened_turn : (number gate : ℕ) (base : List ℕ) (records : List Record) (found : Reading) (failed : Bool) (first second : List Call)
    → IsOpenedAs gate records found
    → InTurn (Sync ∷ settling found) false (counted first) → InTurn (beginning gate number base records) failed second
    → InTurn (opening number base found) failed (counted (first ++ second))
opened_turn number gate base records found failed first second is before behind =
    subst (λ (g : ℕ). InTurn ((Sync ∷ settling found) ++ beginning g number base (records_found found)) failed
    (counted (first ++ second))) (sym (gate_same gate records found is))
    (subst (λ (rs : List Record). InTurn ((Sync ∷ settling found) ++ beginning gate number base rs) failed (counted (first ++ second)))
    (sym (records_same gate records found is))
    (both (Sync ∷ settling found) gate number base records failed first second before behind))

pub begun_calls : {T : Type 0} (IsRead : Reading → Type 0) (number gate : ℕ) (base : List ℕ) (records : List Record)
    (first second : List Call) (some : T)
    → ((found : Reading) × IsRead found × IsOpenedAs gate records found × InTurn (Sync ∷ settling found) false (counted first))
    → InTurn (beginning gate number base records) false second → Opened {T = T} IsRead number base (Ok some) (first ++ second)
begun_calls IsRead number gate base records first second some (found, read, is, turn) behind =
    (found, read, opened_turn number gate base records found false first second is turn behind)

-- a call that wasn't made
alone : (requests : List Request) (first second : List Call) → second ≡ [] → InTurn requests false (counted first)
    → InTurn requests false (counted (first ++ second))
alone requests first second none turn =
    subst (λ (cs : List Call). InTurn requests false cs) (sym
    (counted_on first second ∙ ap (λ (cs : List Call). counted first ++ counted cs) none ∙ append_nil (counted first))) turn
  where
    append_nil : (cs : List Call) → cs ++ [] ≡ cs
    append_nil [] = refl
    append_nil (c ∷ cs) = ap (λ (l : List Call). c ∷ l) (append_nil cs)

pub refused_calls : (T S : Type 0) (IsRead : Reading → Type 0) (number gate : ℕ) (base : List ℕ) (records : List Record)
    (first second : List Call) (why : LoadFault)
    → ((found : Reading) × IsRead found × IsOpenedAs gate records found × InTurn (Sync ∷ settling found) false (counted first))
    → Begun {T = T} gate number base records (Err why) second → RefusesLoad number base records why
    → Opened {T = S} IsRead number base (Err why) (first ++ second)
refused_calls T S IsRead number gate base records first second fault.Disk (found, read, is, turn) behind refused = (
  ends_failed_on first second (turn_ends_failed (beginning gate number base records) second behind),
  inr
      (found, read, opened_turn number gate base records found true first second is turn behind),
)
refused_calls T S IsRead number gate base records first second fault.Memory (found, read, is, turn) behind refused =
    inr (found, read, alone (Sync ∷ settling found) first second behind turn)
refused_calls T S IsRead number gate base records first second (fault.NotAJournal place) (found, read, is, turn) behind refused =
    absurd refused
refused_calls T S IsRead number gate base records first second (fault.OtherNode n) (found, read, is, turn) behind refused =
    (found, read, alone (Sync ∷ settling found) first second behind turn)
refused_calls T S IsRead number gate base records first second fault.OtherBase (found, read, is, turn) behind refused =
    (found, read, alone (Sync ∷ settling found) first second behind turn)
refused_calls T S IsRead number gate base records first second (fault.BadHistory n) (found, read, is, turn) behind refused =
    (found, read, alone (Sync ∷ settling found) first second behind turn)

-- a file that was loaded gives the ground
pub refused_all : (number : ℕ) (base file : List ℕ) (records : List Record) (why : LoadFault) → StandsFor file records
    → RefusesLoad number base records why → RefusesFile number base file why
refused_all number base file records fault.Memory stands refused = tt
refused_all number base file records fault.Disk stands refused = tt
refused_all number base file records (fault.NotAJournal place) stands refused = absurd refused
refused_all number base file records (fault.OtherNode other) stands refused = (records, stands, refused)
refused_all number base file records fault.OtherBase stands refused = (records, stands, refused)
refused_all number base file records (fault.BadHistory place) stands refused = (records, stands, refused)

pub empty : (rs : List Record) → length rs ≡ 0 → rs ≡ []
empty [] is = refl
empty (r ∷ rs) is = let no = is in absurd cc

-- the same, where the records and the base are given as other lists that equal them
pub since_same : (number : ℕ) (base other : List ℕ) (before : List ℕ → Type 0) (file : List ℕ) (records others : List Record)
    (c : List ℕ) → other ≡ base → others ≡ records → before file
    → StandsFor file records → StandsFor c others ⊎ StandsFor c (begun number other others) → MayBeginSince number base before c
since_same number base other before file records others c same_base same was stands now =
    since_begun number base before file records c was stands
    (subst (λ (rs : List Record). StandsFor c rs ⊎ StandsFor c (begun number base rs)) same
    (subst (λ (b : List ℕ). StandsFor c others ⊎ StandsFor c (begun number b others)) same_base now))

-- What requests that were made in turn make of a disk in memory, for the clauses of `laws`.
use Rattle.std.proofs.Common.{◌≡◌, ◌+◌, ℕ, inl, inr, Bool, true, false, if◌then◌else◌, List, [], ◌∷◌, ◌++◌, length, Option, Some, None}
use Rattle.std.proofs.Common.{is_some, refl, sym, ◌∙◌, ap, subst}
use Rattle.ba_ports.specs.Counts.{risen}
use Rattle.ba_ports.specs.Disk.{InTurn, counted, if_counted, is_counted}
use Rattle.ba_ports_memory.specs.DiskValue.{MediumValue, DiskValue, IsUntroubled, after, changed_by, course, course_of, fails, goes_wrong, issued}
use Rattle.ba_ports_memory.specs.DiskValue.{CallsLead, run, step, synced_by, unless_failed}
use Rattle.ba_ports_memory.specs.declared.changes.Change.{Change}
use Rattle.ba_ports_memory.specs.declared.changes.Change.TheVariants as change
use Rattle.ba_ports_memory.specs.declared.media.Armed.{Armed}
use Rattle.ba_ports_memory.specs.declared.media.Course.{Course}
use Rattle.ba_ports_memory.specs.declared.media.Course.TheVariants.{GoesOn}
use Rattle.ba_ports.specs.declared.images.Image.{Image}
use Rattle.ba_ports.specs.declared.requests.Call.{Call}
use Rattle.ba_ports.specs.declared.requests.Request.{Request}
use Rattle.ba_ports.specs.declared.requests.Request.TheVariants as request

-- Calls lead from one medium to another

abbrev MediumLeads : MediumValue → List Call → MediumValue → Type 0
MediumLeads a [] b = b ≡ a
MediumLeads a (call ∷ calls) b = (call.failed ≡ fails call.request a) × MediumLeads (after call.request a) calls b

on_medium : (calls : List Call) (a b : DiskValue) → CallsLead a calls b → MediumLeads a.medium calls b.medium
on_medium [] a b leads = ap (λ (d : DiskValue). d.medium) leads
on_medium (call ∷ calls) a b leads = (leads.0, on_medium calls (step call.request a) b leads.1)

put_first : (r : Request) (failed : Bool) (rest : List Call) (a b : MediumValue) → failed ≡ fails r a → MediumLeads (after r a) rest b
    → MediumLeads a (if_counted (is_counted r) (record { request = r; failed = failed }) rest) b
put_first request.Len failed rest a b is leads = leads
put_first (request.ReadAt place room) failed rest a b is leads = leads
put_first (request.WriteAt place bytes) failed rest a b is leads = (is, leads)
put_first (request.Cut len) failed rest a b is leads = (is, leads)
put_first request.Sync failed rest a b is leads = (is, leads)

-- calls that look change nothing of it
counted_alone : (calls : List Call) (a b : MediumValue) → MediumLeads a calls b → MediumLeads a (counted calls) b
counted_alone [] a b leads = leads
counted_alone (call ∷ calls) a b leads =
    put_first call.request call.failed (counted calls) a b leads.0 (counted_alone calls (after call.request a) b leads.1)

-- Requests in turn are a run

run_on_medium : (requests : List Request) (failed : Bool) (calls : List Call) (a b : MediumValue) → InTurn requests failed calls
    → MediumLeads a calls b
    → run requests a ≡ (failed, b)
run_on_medium [] failed calls a b turn leads =
    let same : b ≡ a = subst (λ (cs : List Call). MediumLeads a cs b) turn.1 leads in
    let none = turn.0 in
    cc
run_on_medium (r ∷ requests) failed calls a b (inl turn) leads =
    let led : (true ≡ fails r a) × (b ≡ after r a) = subst (λ (cs : List Call). MediumLeads a cs b) turn.1 leads in
    let is : failed ≡ true = turn.0 in
    let same : (true, after r a) ≡ (failed, b) = let end = led.1 in cc in
    ap (λ (f : Bool). unless_failed f (after r a) (run requests (after r a))) (sym led.0) ∙ same
run_on_medium (r ∷ requests) failed calls a b (inr (later, turn, others)) leads =
    let led : (false ≡ fails r a) × MediumLeads (after r a) later b = subst (λ (cs : List Call). MediumLeads a cs b) turn leads in
    ap (λ (f : Bool). unless_failed f (after r a) (run requests (after r a))) (sym led.0)
    ∙ run_on_medium requests failed later (after r a) b others led.1

pub run_of_all : (requests : List Request) (failed : Bool) (calls : List Call) (a b : DiskValue) → InTurn requests failed calls
    → CallsLead a calls b
    → run requests a.medium ≡ (failed, b.medium)
run_of_all requests failed calls a b turn leads = run_on_medium requests failed calls a.medium b.medium turn (on_medium calls a b leads)

pub run_of_counted : (requests : List Request) (failed : Bool) (calls : List Call) (a b : DiskValue)
    → InTurn requests failed (counted calls) → CallsLead a calls b
    → run requests a.medium ≡ (failed, b.medium)
run_of_counted requests failed calls a b turn leads =
    run_on_medium requests failed (counted calls) a.medium b.medium turn (counted_alone calls a.medium b.medium (on_medium calls a b leads))

-- the count of faults rises by the one that failed
pub faults_in_turn : (requests : List Request) (failed : Bool) (calls : List Call) (a b : DiskValue) → InTurn requests failed calls
    → CallsLead a calls b
    → b.faults ≡ (if failed then risen a.faults else a.faults)
faults_in_turn [] failed calls a b turn leads =
    let same : b ≡ a = subst (λ (cs : List Call). CallsLead a cs b) turn.1 leads in
    ap (λ (d : DiskValue). d.faults) same ∙ ap (λ (f : Bool). if f then risen a.faults else a.faults) (sym turn.0)
faults_in_turn (r ∷ requests) failed calls a b (inl turn) leads =
    let led : (true ≡ fails r a.medium) × (b ≡ step r a) = subst (λ (cs : List Call). CallsLead a cs b) turn.1 leads in
    ap (λ (d : DiskValue). d.faults) led.1 ∙ ap (λ (f : Bool). if f then risen a.faults else a.faults) (sym led.0 ∙ sym turn.0)
faults_in_turn (r ∷ requests) failed calls a b (inr (later, turn, others)) leads =
    let led : (false ≡ fails r a.medium) × CallsLead (step r a) later b = subst (λ (cs : List Call). CallsLead a cs b) turn leads in
    let kept : (step r a).faults ≡ a.faults = ap (λ (f : Bool). if f then risen a.faults else a.faults) (sym led.0) in
    faults_in_turn requests failed later (step r a) b others led.1
    ∙ ap (λ (n : ℕ). if failed then risen n else n) kept

pub starved_in_turn : (calls : List Call) (a b : DiskValue) → CallsLead a calls b → b.starved ≡ a.starved
starved_in_turn [] a b leads = ap (λ (d : DiskValue). d.starved) leads
starved_in_turn (call ∷ calls) a b leads = starved_in_turn calls (step call.request a) b leads.1

-- a run of two lists
pub run_of_both : (first second : List Request) (m : MediumValue)
    → run (first ++ second) m ≡ unless_failed (run first m).0 (run first m).1 (run second (run first m).1)
run_of_both [] second m = refl
run_of_both (r ∷ first) second m =
    ap (λ (others : Bool × MediumValue). unless_failed (fails r m) (after r m) others) (run_of_both first second (after r m))
    ∙ by_answer (fails r m) (after r m) (run first (after r m)) (λ (n : MediumValue). run second n)
  where
    by_answer : (failed : Bool) (m : MediumValue) (others : Bool × MediumValue) (second : MediumValue → Bool × MediumValue)
        → unless_failed failed m (unless_failed others.0 others.1 (second others.1))
        ≡ unless_failed (unless_failed failed m others).0 (unless_failed failed m others).1 (second (unless_failed failed m others).1)
    by_answer true m others second = refl
    by_answer false m others second = refl

-- Where nothing is armed and the machine runs

goes_on : (m : MediumValue) → IsUntroubled m → course m ≡ GoesOn
goes_on m free = by_both m.stopped m.armed (length m.calls + 1) free.running free.unarmed
  where
    by_both : (stopped : Option Image) (armed : Option Armed) (n : ℕ) → stopped ≡ None → armed ≡ None → course_of stopped armed n ≡ GoesOn
    by_both None None n running unarmed = refl
    by_both None (Some armed) n running unarmed = absurd cc
    by_both (Some image) armed n running unarmed = absurd cc

pub none_fails : (r : Request) (m : MediumValue) → IsUntroubled m → fails r m ≡ false
none_fails request.Len m free = ap (λ (s : Option Image). is_some s) free.running
none_fails (request.ReadAt place room) m free = ap (λ (s : Option Image). is_some s) free.running
none_fails (request.WriteAt place bytes) m free = ap goes_wrong (goes_on m free)
none_fails (request.Cut len) m free = ap goes_wrong (goes_on m free)
none_fails request.Sync m free = ap goes_wrong (goes_on m free)

change_untroubled : (change : Change) (m : MediumValue) → IsUntroubled m → IsUntroubled (changed_by (course m) m (issued change m))
change_untroubled change m free = subst (λ (k : Course). IsUntroubled (changed_by k m (issued change m))) (sym (goes_on m free))
    (record { unarmed = free.unarmed; running = free.running })

sync_untroubled : (m : MediumValue) → IsUntroubled m → IsUntroubled (synced_by (course m) m)
sync_untroubled m free = subst (λ (k : Course). IsUntroubled (synced_by k m)) (sym (goes_on m free))
    (record { unarmed = free.unarmed; running = free.running })

stays_untroubled : (r : Request) (m : MediumValue) → IsUntroubled m → IsUntroubled (after r m)
stays_untroubled request.Len m free = free
stays_untroubled (request.ReadAt place room) m free = free
stays_untroubled (request.WriteAt place bytes) m free =
    let after = change_untroubled (change.Write place bytes) m free in
    record { unarmed = after.unarmed; running = after.running }
stays_untroubled (request.Cut len) m free =
    let after = change_untroubled (change.Cut len) m free in
    record { unarmed = after.unarmed; running = after.running }
stays_untroubled request.Sync m free =
    let after = sync_untroubled m free in
    record { unarmed = after.unarmed; running = after.running }

pub runs_well : (requests : List Request) (m : MediumValue) → IsUntroubled m → (run requests m).0 ≡ false
runs_well [] m free = refl
runs_well (r ∷ requests) m free =
    ap (λ (f : Bool). (unless_failed f (after r m) (run requests (after r m))).0) (none_fails r m free)
    ∙ runs_well requests (after r m) (stays_untroubled r m free)

pub runs_untroubled : (requests : List Request) (m : MediumValue) → IsUntroubled m → IsUntroubled (run requests m).1
runs_untroubled [] m free = free
runs_untroubled (r ∷ requests) m free =
    subst (λ (f : Bool). IsUntroubled (unless_failed f (after r m) (run requests (after r m))).1) (sym (none_fails r m free))
    (runs_untroubled requests (after r m) (stays_untroubled r m free))

use Rattle.std.proofs.Common.{◌≡◌, inl, inr, true, false, Bool, refl, List, [], ◌∷◌, ◌++◌, ℕ, Err, IsTrue, is_err, sym, ◌∙◌, ap, subst}
use Rattle.std.proofs.Common.{rules}
use Rattle.ba_ports.specs.Disk.{Only}
use Rattle.ba_ports.specs.declared.requests.Request.TheVariants.{Sync}
use Rattle.ba_ports.proofs.Moments.{started, goes_on}
use Rattle.ba_journal.specs.Frames.{StandsFor, IsNoJournal}
use Rattle.ba_journal.specs.Loads.{IsOpenedAs, MayStandSince, StandAlike, settling}
use Rattle.ba_journal.specs.Readings.{ReadsAs}
use Rattle.ba_journal.specs.declared.faults.JournalFault.TheVariants as fault
use Rattle.ba_journal.proofs.Loadings.{settled_counted, refusal, turn_ends_failed, err_is}
use Rattle.ba_journal.proofs.Looking.{ends_failed_on}
use Rattle.ba_journal.proofs.Turns.{at_ok, joined}
use Rattle.ba_journal.proofs.loads.open_file.Goals as goal

pub returns-in_err-found-clause-refused : goal.returns-in_err-found-clause-refused
returns-in_err-found-clause-refused g c = λ follows place is.
    let f1 = subst IsTrue (sym c.sync.ensures.follows) follows in
    let why = c.in_err-found.field-0.0 in
    let told : c.from_residual.result ≡ Err why = search rules in
    let same = err_is c.from_residual.result why (fault.NotAJournal place) told is in
    subst (λ (file : List ℕ). IsNoJournal file place) (c.sync.ensures.seen follows) (c.in_err-found.ensures.fault place (ap Err same) f1)

pub returns-in_err-found-clause-any_moment : goal.returns-in_err-found-clause-any_moment
returns-in_err-found-clause-any_moment g c = λ follows.
    let D = g.D.Disk in
    let laws = g.met.D.Disk in
    let d = c.args.disk.now in
    let s = c.sync.new.self in
    let r = c.read_file.new.disk in
    let R = MayStandSince (D.may_leave d) in
    let at_start = started D.later D.left_between d R (laws.no_call d) (λ f left. inl (laws.only_now d f left)) in
    let synced = goes_on D.later D.left_between d d s R (D.may_leave d) laws.call_after_call at_start (c.sync.ensures.moments follows)
    (λ f now. inl now) in
    let f1 = subst IsTrue (sym c.sync.ensures.follows) follows in
    let read = joined D.later D.left_between d s r (D.may_leave s) R laws.call_after_call synced (c.read_file.ensures.moments f1)
    (λ f left. inl (c.sync.ensures.crash follows f left)) in
    read

pub returns-in_err-found-clause-calls : goal.returns-in_err-found-clause-calls
returns-in_err-found-clause-calls g c =
    let D = g.D.Disk in
    let d = c.args.disk.now in
    let well : is_err c.sync.result ≡ false = search rules in
    let why = c.in_err-found.field-0.0 in
    let told : c.from_residual.result ≡ Err why = search rules in
    refusal D.driven g.met.D.Disk.driven_on (λ found. IsTrue (D.follows d)
    → ReadsAs (D.seen d) found) (λ opened. IsOpenedAs opened.0 opened.1)
    c.from_residual.result d c.sync.new.self c.read_file.new.disk (is_err c.sync.result) why told well c.sync.ensures.driven
    c.in_err-found.ensures.calls
    (λ is. c.in_err-found.ensures.broke_off (ap Err is)) (λ is. c.in_err-found.ensures.not_full (ap Err is))
    (λ count is. c.in_err-found.ensures.not_closed count (ap Err is))

pub returns-in-Ok-clause-records : goal.returns-in-Ok-clause-records
returns-in-Ok-clause-records g c = λ follows.
    let D = g.D.Disk in
    let laws = g.met.D.Disk in
    let d = c.args.disk.now in
    let s = c.sync.new.self in
    let r = c.read_file.new.disk in
    let f1 = subst IsTrue (sym c.sync.ensures.follows) follows in
    let f2 = subst IsTrue (sym c.read_file.ensures.follows) f1 in
    let same : D.seen r ≡ D.seen d = c.read_file.ensures.seen f1 ∙ c.sync.ensures.seen follows in
    subst (λ (file : List ℕ). StandsFor file c.in-Ok.opened.1) same (c.in-Ok.ensures.records f2)

pub returns-in-Ok-clause-settled : goal.returns-in-Ok-clause-settled
returns-in-Ok-clause-settled g c = λ follows.
    let D = g.D.Disk in
    let laws = g.met.D.Disk in
    let d = c.args.disk.now in
    let s = c.sync.new.self in
    let r = c.read_file.new.disk in
    let f1 = subst IsTrue (sym c.sync.ensures.follows) follows in
    let f2 = subst IsTrue (sym c.read_file.ensures.follows) f1 in
    let same : D.seen r ≡ D.seen d = c.read_file.ensures.seen f1 ∙ c.sync.ensures.seen follows in
    let well : is_err c.sync.result ≡ false = search rules in
    let durable = at_ok c.sync.result well (c.sync.ensures.durable follows) in
    let only : Only (D.seen r) (D.may_leave r) = λ f left. durable f (c.read_file.ensures.crash f1 f left) ∙ sym same in
    c.in-Ok.ensures.settled f2 only

pub returns-in-Ok-clause-any_moment : goal.returns-in-Ok-clause-any_moment
returns-in-Ok-clause-any_moment g c = λ follows.
    let D = g.D.Disk in
    let laws = g.met.D.Disk in
    let d = c.args.disk.now in
    let s = c.sync.new.self in
    let r = c.read_file.new.disk in
    let R = MayStandSince (D.may_leave d) in
    let at_start = started D.later D.left_between d R (laws.no_call d) (λ f left. inl (laws.only_now d f left)) in
    let synced = goes_on D.later D.left_between d d s R (D.may_leave d) laws.call_after_call at_start (c.sync.ensures.moments follows)
    (λ f now. inl now) in
    let f1 = subst IsTrue (sym c.sync.ensures.follows) follows in
    let read = joined D.later D.left_between d s r (D.may_leave s) R laws.call_after_call synced (c.read_file.ensures.moments f1)
    (λ f left. inl (c.sync.ensures.crash follows f left)) in
    let f2 = subst IsTrue (sym c.read_file.ensures.follows) f1 in
    let same : D.seen r ≡ D.seen d = c.read_file.ensures.seen f1 ∙ c.sync.ensures.seen follows in
    let well : is_err c.sync.result ≡ false = search rules in
    let durable = at_ok c.sync.result well (c.sync.ensures.durable follows) in
    let only : Only (D.seen r) (D.may_leave r) = λ f left. durable f (c.read_file.ensures.crash f1 f left) ∙ sym same in
    joined D.later D.left_between d r c.settle.new.disk (StandAlike (D.seen r)) R laws.call_after_call read
    (c.settle.ensures.any_moment f2 only)
    (λ f alike. inr (D.seen d, laws.seen_may_stay d follows, subst (λ (file : List ℕ). StandAlike file f) same alike))

pub returns-in-Err-clause-any_moment : goal.returns-in-Err-clause-any_moment
returns-in-Err-clause-any_moment g c = λ follows.
    let D = g.D.Disk in
    let laws = g.met.D.Disk in
    let d = c.args.disk.now in
    let s = c.sync.new.self in
    let r = c.read_file.new.disk in
    let R = MayStandSince (D.may_leave d) in
    let at_start = started D.later D.left_between d R (laws.no_call d) (λ f left. inl (laws.only_now d f left)) in
    let synced = goes_on D.later D.left_between d d s R (D.may_leave d) laws.call_after_call at_start (c.sync.ensures.moments follows)
    (λ f now. inl now) in
    let f1 = subst IsTrue (sym c.sync.ensures.follows) follows in
    let read = joined D.later D.left_between d s r (D.may_leave s) R laws.call_after_call synced (c.read_file.ensures.moments f1)
    (λ f left. inl (c.sync.ensures.crash follows f left)) in
    let f2 = subst IsTrue (sym c.read_file.ensures.follows) f1 in
    let same : D.seen r ≡ D.seen d = c.read_file.ensures.seen f1 ∙ c.sync.ensures.seen follows in
    let well : is_err c.sync.result ≡ false = search rules in
    let durable = at_ok c.sync.result well (c.sync.ensures.durable follows) in
    let only : Only (D.seen r) (D.may_leave r) = λ f left. durable f (c.read_file.ensures.crash f1 f left) ∙ sym same in
    joined D.later D.left_between d r c.settle.new.disk (StandAlike (D.seen r)) R laws.call_after_call read
    (c.settle.ensures.any_moment f2 only)
    (λ f alike. inr (D.seen d, laws.seen_may_stay d follows, subst (λ (file : List ℕ). StandAlike file f) same alike))

pub returns-in-Ok-clause-calls : goal.returns-in-Ok-clause-calls
returns-in-Ok-clause-calls g c =
    let D = g.D.Disk in
    let laws = g.met.D.Disk in
    let d = c.args.disk.now in
    let s = c.sync.new.self in
    let r = c.read_file.new.disk in
    let found = c.in_ok-found.found in
    let well : is_err c.sync.result ≡ false = search rules in
    let first = record { request = Sync; failed = is_err c.sync.result } ∷ [] in
    let reads = c.in_ok-found.ensures.calls in
    let made = c.in-Ok.ensures.calls in
    let behind = laws.driven_on s r c.settle.new.disk reads.0 made.0 reads.1 made.1 in
    let all = laws.driven_on d s c.settle.new.disk first (reads.0 ++ made.0) c.sync.ensures.driven behind in
    let turn = settled_counted found (is_err c.sync.result) false reads.0 made.0 reads.2 well made.2 in
    let read : IsTrue (D.follows d) → ReadsAs (D.seen d) found = λ follows.
    subst (λ (file : List ℕ). ReadsAs file found) (c.sync.ensures.seen follows)
    (c.in_ok-found.ensures.ok (subst IsTrue (sym c.sync.ensures.follows) follows)) in
    (first ++ (reads.0 ++ made.0), all, (found, read, c.in-Ok.ensures.opened, turn))

pub returns-in-Err-clause-calls : goal.returns-in-Err-clause-calls
returns-in-Err-clause-calls g c =
    let D = g.D.Disk in
    let laws = g.met.D.Disk in
    let d = c.args.disk.now in
    let s = c.sync.new.self in
    let r = c.read_file.new.disk in
    let found = c.in_ok-found.found in
    let well : is_err c.sync.result ≡ false = search rules in
    let first = record { request = Sync; failed = is_err c.sync.result } ∷ [] in
    let reads = c.in_ok-found.ensures.calls in
    let made = c.in-Err.ensures.calls in
    let behind = laws.driven_on s r c.settle.new.disk reads.0 made.0 reads.1 made.1 in
    let all = laws.driven_on d s c.settle.new.disk first (reads.0 ++ made.0) c.sync.ensures.driven behind in
    let turn = settled_counted found (is_err c.sync.result) true reads.0 made.0 reads.2 well made.2 in
    let read : IsTrue (D.follows d) → ReadsAs (D.seen d) found = λ follows.
    subst (λ (file : List ℕ). ReadsAs file found) (c.sync.ensures.seen follows)
    (c.in_ok-found.ensures.ok (subst IsTrue (sym c.sync.ensures.follows) follows)) in (
      first ++ (reads.0 ++ made.0),
      all,
      (
        ends_failed_on first (reads.0 ++ made.0)
            (ends_failed_on reads.0 made.0 (turn_ends_failed (settling found) made.0 made.2)),
        inr (found, read, turn),
      ),
    )

pub returns-then-is_err-clause-calls : goal.returns-then-is_err-clause-calls
returns-then-is_err-clause-calls g c =
    let failed : is_err c.sync.result ≡ true = search rules in
    let same = ap (λ (b : Bool). record { request = Sync; failed = b } ∷ []) failed in
    (record { request = Sync; failed = is_err c.sync.result } ∷ [], c.sync.ensures.driven, (([], Sync, same), inl (true, inl (refl, same))))

-- What a change that was due makes of a node on its journal, from what the keeping of its record makes of the journal.
use Rattle.std.proofs.Common.{◌≡◌, ◌≢◌, ℕ, ◌+◌, ◌*◌, ◌<◌, ◌≤◌, ◌^◌, Bool, List, length, Option, None, Some, Ok, Err, IfSome, IsTrue, refl}
use Rattle.std.proofs.Common.{sym, ap, ◌∙◌, subst, arith}
use Rattle.ba_journal.specs.Journals.{JournalValue}
use Rattle.ba_journal.specs.declared.journals.TheConstants.{GREATEST_LENGTH}
use Rattle.ba_node.specs.Keeping.{IsPast, end_after}
use Rattle.ba_node.specs.Nodes.{NodeHolds, NodeOnJournal, on_journal}
use Rattle.ba_node.specs.declared.faults.NodeFault.{NodeFault}
use Rattle.ba_node.specs.declared.faults.NodeFault.TheVariants as fault
use Rattle.ba_node.specs.inside.Commits.{Commits, IsDue}
use Rattle.ba_node.specs.inside.Kept.{IsKept}
use Rattle.ba_ports.specs.declared.requests.Call.{Call}
use Rattle.ba_node.proofs.Moments.{none_is_no_some, ok_is_no_err}
use Rattle.ba_record.specs.Coding.{InRange, coding}
use Rattle.ba_record.specs.declared.records.Record.{Record}
use Rattle.ba_record.specs.declared.records.Record.TheVariants as journal
use Rattle.ba_record.specs.Endpoints.{IsBase}
use Rattle.ba_node_steps.specs.Endpoints.{AllReachable}
use Rattle.ba_node_steps.specs.Fits.{HasSpareCounters, NodeFits}
use Rattle.ba_node_steps.specs.Lawful.{Change, change}
use Rattle.ba_node_steps.specs.Node.{NodeState, SameNode, last}
use Rattle.ba_node_steps.proofs.EndpointsKept.{step_reaches}
use Rattle.ba_node_steps.proofs.InRange.{in_range}
use Rattle.ba_node_steps.proofs.SameNode.{step_keeps}
use Rattle.ba_node_steps.proofs.StepsFit.{step_fits, step_makes_few}
use Rattle.ba_node_steps.proofs.Unchanged.{unchanged}

-- ---- what holds of the node

-- a record has one byte at least
coded_some : (r : Record) → 1 ≤ length (coding r)
coded_some (journal.Node number base) = omega arith
coded_some (journal.Scope counter kind deadline up) = omega arith
coded_some (journal.End counter scope protocol participant) = omega arith
coded_some (journal.Part counter protocol registration) = omega arith
coded_some (journal.Enrolled counter coordinator) = omega arith
coded_some (journal.Refused counter code) = omega arith
coded_some (journal.Received counter n) = omega arith
coded_some (journal.Acted counter a) = omega arith
coded_some (journal.Decided counter verdict) = omega arith
coded_some (journal.Chosen counter choice) = omega arith
coded_some (journal.Ticked counter) = omega arith
coded_some (journal.Asked counter) = omega arith

-- the counters after a change, and the place of the last gate
record Grows (before after end : ℕ) (written : Option Record) : Type 0 where
  counters : 3 * after ≤ end_after end written
  short : end_after end written < 2 ^ 64

grows : (before after end : ℕ) (written : Option Record) → 3 * before ≤ end → end < 2 ^ 64 → after ≤ before + 2
    → (written ≡ None → after ≡ before) → (IsPast end written → ⊥) → Grows before after end written
grows before after end None counters short few still within =
    let same : after ≡ before = still refl in record { counters = omega (arith, same, counters); short = short }
grows before after end (Some r) counters short few still within =
    let some = coded_some r in
    let here : end + length (coding r) + 6 ≤ GREATEST_LENGTH = omega (arith, within) in
    record { counters = omega (arith, some, counters, few); short = omega (arith, here) }

module _ {D : Type 0} (follows : D → Bool) (seen : D → List ℕ) where
  pub spare_of : (n : NodeOnJournal D) → NodeHolds follows seen n → HasSpareCounters n.node
  spare_of n holds =
      let counters = holds.counters in let short = holds.short in
      record { number = holds.number; counters = omega (arith, counters, short) }

  pub due_fits : (n : NodeOnJournal D) (due : Change) → NodeHolds follows seen n → IsDue n.node due → NodeFits due.after
  due_fits n due holds d = subst NodeFits (ap (λ (c : Change). c.after) d.is) (step_fits n.node d.event (spare_of n holds) holds.fits)

  pub due_in_range : (n : NodeOnJournal D) (due : Change) → NodeHolds follows seen n → IsDue n.node due → IfSome due.written InRange
  due_in_range n due holds d = by_written due.written refl
    where
      by_written : (o : Option Record) → due.written ≡ o → IfSome o InRange
      by_written None is = tt
      by_written (Some r) is = in_range n.node d.event r (spare_of n holds) holds.fits d.gives (ap (λ (c : Change). c.written) d.is ∙ is)

  -- after the change, with its record in the journal
  pub holds_after : (n : NodeOnJournal D) (due : Change) (j : JournalValue D) → NodeHolds follows seen n → IsDue n.node due
      → (IsPast n.end due.written → ⊥) → j.gate ≡ end_after n.end due.written
      → (IsTrue (follows j.disk) → j.gate + 1 ≡ length (seen j.disk))
      → NodeHolds follows seen (on_journal j due.after)
  holds_after n due j holds d within grown place =
      let after_is : (change n.node d.event).after ≡ due.after = ap (λ (c : Change). c.after) d.is in
      let same : SameNode n.node due.after = subst (SameNode n.node) after_is (step_keeps n.node d.event) in
      let few : last due.after ≤ last n.node + 2 =
      subst (λ (m : NodeState). last m ≤ last n.node + 2) after_is (step_makes_few n.node d.event (spare_of n holds) holds.fits) in
      let still : due.written ≡ None → last due.after ≡ last n.node =
      λ none. ap last (sym after_is ∙ unchanged n.node d.event (ap (λ (c : Change). c.written) d.is ∙ none)) in
      let on : Grows (last n.node) (last due.after) n.end due.written =
      grows (last n.node) (last due.after) n.end due.written holds.counters holds.short few still within in
      record {
        fits = due_fits n due holds d;
        reachable = subst (λ (m : NodeState). AllReachable m) after_is (step_reaches n.node d.event d.gives holds.reachable);
        number = subst (λ (k : ℕ). k < 2 ^ 32) (sym same.number) holds.number;
        base = subst IsBase (sym same.base) holds.base;
        counters = subst (λ (e : ℕ). 3 * last due.after ≤ e) (sym grown) on.counters;
        short = subst (λ (e : ℕ). e < 2 ^ 64) (sym grown) on.short;
        place = λ f opened. place f;
      }

  -- after a fault
  pub holds_still : (n m : NodeOnJournal D) → NodeHolds follows seen n → m.node ≡ n.node → m.end ≡ n.end
      → (IsTrue (follows m.disk) → m.closed ≡ None → m.end + 1 ≡ length (seen m.disk)) → NodeHolds follows seen m
  holds_still n m holds node end place = record {
    fits = subst NodeFits (sym node) holds.fits;
    reachable = subst (λ (k : NodeState). AllReachable k) (sym node) holds.reachable;
    number = subst (λ (k : NodeState). k.number < 2 ^ 32) (sym node) holds.number;
    base = subst (λ (k : NodeState). IsBase k.base) (sym node) holds.base;
    counters = subst (λ (k : NodeState). 3 * last k ≤ m.end) (sym node) (subst (λ (e : ℕ). 3 * last n.node ≤ e) (sym end) holds.counters);
    short = subst (λ (e : ℕ). e < 2 ^ 64) (sym end) holds.short;
    place = place;
  }

-- ---- what is answered

module _ {D : Type 0} (follows : D → Bool) (seen : D → List ℕ) (may_leave : D → List ℕ → Type 0) (later : D → D → Type 0)
    (left_between : D → D → List ℕ → Type 0) (driven : D → List Call → D → Type 0) (faults : D → ℕ) where
  -- the record was kept, and the change made
  pub commits_done : (n : NodeState) (due : Change) (old new : JournalValue D) → old.closed ≡ None
      → IsKept {T = Unit {0}} follows seen may_leave later left_between driven faults old new due.written (Ok tt)
      → Commits {T = Unit {0}} follows seen may_leave later left_between driven faults due (on_journal old n) (on_journal new due.after)
      (Ok tt)
  commits_done n due old new opened kept = record {
    answered = record {
      done = (
        opened,
        ap (λ (e : ℕ). record { disk = new.disk; node = due.after; end = e; closed = new.closed }) kept.grows
            ∙ ap (λ (c : Option ℕ). record { disk = new.disk; node = due.after; end = end_after old.gate due.written; closed = c })
            (kept.stays_open ∙ sym opened),
      );
      within = kept.within;
      closed = λ count. (λ is. absurd (ok_is_no_err tt (fault.Closed count) is), λ was. absurd (none_is_no_some count (sym opened ∙ was)));
      full = λ is. absurd (ok_is_no_err tt fault.Full is);
      broke = λ is. absurd (ok_is_no_err tt fault.Disk is);
      closes = λ is. absurd (ok_is_no_err tt fault.Disk is);
      unchanged = tt;
    };
    durable = kept.durable;
    any_moment = kept.any_moment;
    calls = kept.calls;
    follows_same = kept.follows_same;
    cause = kept.cause;
    faults_later = kept.faults_later;
  }

  -- it wasn't
  pub commits_refused : (n : NodeState) (due : Change) (old new : JournalValue D) (why : NodeFault) → old.closed ≡ None
      → IsKept {T = Unit {0}} follows seen may_leave later left_between driven faults old new due.written (Err why)
      → Commits {T = Unit {0}} follows seen may_leave later left_between driven faults due (on_journal old n) (on_journal new n) (Err why)
  commits_refused n due old new why opened kept = record {
    answered = record {
      done = tt;
      within = tt;
      closed = λ count. (λ is. absurd (kept.not_closed count is), λ was. absurd (none_is_no_some count (sym opened ∙ was)));
      full = λ is. (opened, kept.full is);
      broke = λ is. (opened, (kept.broke is).0, (kept.broke is).1);
      closes = λ is.
          ap (λ (e : ℕ). record { disk = new.disk; node = n; end = e; closed = new.closed }) kept.stays
          ∙ ap (λ (c : Option ℕ). record { disk = new.disk; node = n; end = old.gate; closed = c }) (kept.closes is);
      unchanged = λ other. let same = kept.unchanged other in
          ap (λ (d : D). record { disk = d; node = n; end = new.gate; closed = new.closed }) same.0
          ∙ ap (λ (e : ℕ). record { disk = old.disk; node = n; end = e; closed = new.closed }) kept.stays
          ∙ ap (λ (c : Option ℕ). record { disk = old.disk; node = n; end = old.gate; closed = c }) same.1;
    };
    durable = tt;
    any_moment = kept.any_moment;
    calls = kept.calls;
    follows_same = kept.follows_same;
    cause = kept.cause;
    faults_later = kept.faults_later;
  }

  holds_unchanged : (n : NodeState) (written : Option Record) (old new : JournalValue D) (why : NodeFault) → why ≢ fault.Disk
      → NodeHolds follows seen (on_journal old n)
      → IsKept {T = Unit {0}} follows seen may_leave later left_between driven faults old new written (Err why)
      → NodeHolds follows seen (on_journal new n)
  holds_unchanged n written old new why other holds kept =
      let same = kept.unchanged other in
      let stays = kept.stays in
      holds_still follows seen (on_journal old n) (on_journal new n) holds refl stays
      (λ f opened. subst (λ (d : D). new.gate + 1 ≡ length (seen d)) (sym same.0)
      (subst (λ (e : ℕ). e + 1 ≡ length (seen old.disk)) (sym stays)
      (holds.place (subst (λ (d : D). IsTrue (follows d)) same.0 f) (sym same.1 ∙ opened))))

  -- what holds of the node after a fault
  pub holds_refused : (n : NodeState) (written : Option Record) (old new : JournalValue D) (why : NodeFault)
      → NodeHolds follows seen (on_journal old n)
      → IsKept {T = Unit {0}} follows seen may_leave later left_between driven faults old new written (Err why)
      → NodeHolds follows seen (on_journal new n)
  holds_refused n written old new fault.Disk holds kept =
      holds_still follows seen (on_journal old n) (on_journal new n) holds refl kept.stays
      (λ f opened. absurd (none_is_no_some (faults new.disk) (sym opened ∙ kept.closes refl)))
  holds_refused n written old new fault.Memory holds kept = holds_unchanged n written old new fault.Memory (λ is. cc) holds kept
  holds_refused n written old new fault.Full holds kept = holds_unchanged n written old new fault.Full (λ is. cc) holds kept
  holds_refused n written old new (fault.Closed count) holds kept = holds_unchanged n written old new (fault.Closed count)
      (λ is. cc) holds kept

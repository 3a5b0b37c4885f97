-- How a journal is begun: its own record is kept, or its records are replayed.
use Rattle.std.proofs.Common.{◌≡◌, ◌≢◌, inl, ℕ, ◌+◌, ◌*◌, ◌<◌, ◌≤◌, ◌^◌, Bool, List, [], ◌∷◌, length, None, Some, Result, Ok, Err, IfOk}
use Rattle.std.proofs.Common.{IsTrue, refl, sym, ap, subst, arith}
use Rattle.std.specs.List.{AllByRecursion}
use Rattle.ba_journal.proofs.Befores.{six_each}
use Rattle.ba_journal.specs.Journals.{JournalValue}
use Rattle.ba_journal.specs.Readings.{last_gate}
use Rattle.ba_journal.specs.declared.journals.TheConstants.{GREATEST_LENGTH}
use Rattle.ba_node.specs.Loading.{RefusesLoad, begun}
use Rattle.ba_node.specs.Nodes.{NodeHolds, on_journal}
use Rattle.ba_node.specs.declared.faults.LoadFault.{LoadFault}
use Rattle.ba_node.specs.declared.faults.LoadFault.TheVariants as fault
use Rattle.ba_node.specs.declared.faults.NodeFault.{NodeFault}
use Rattle.ba_node.specs.declared.faults.NodeFault.TheVariants as node_fault
use Rattle.ba_node.specs.inside.Beginnings.{Begins, Begun, IsReplay, begin_fault_of}
use Rattle.ba_node.specs.inside.Kept.{IsKept}
use Rattle.ba_node.proofs.Moments.{stood_still}
use Rattle.ba_ports.specs.declared.requests.Call.{Call}
use Rattle.ba_record.specs.Coding.{InRange, coding}
use Rattle.ba_record.specs.Endpoints.{IsBase}
use Rattle.ba_record.specs.declared.records.Record.{Record}
use Rattle.ba_record.specs.declared.records.Record.TheVariants as journal
use Rattle.ba_node_steps.specs.Lawful.{AreFew}
use Rattle.ba_node_steps.specs.Node.{NodeState, last, new_node}
use Rattle.ba_node_steps.proofs.FewObjects.{replay_last}
use Rattle.ba_node_steps.proofs.Replayed.{replay_fits}
use Rattle.ba_node_steps.proofs.StepsFit.{new_fits}

err_is_no_disk : {T : Type 0} (none : Result T LoadFault) (why : LoadFault) → why ≢ fault.Disk
    → let told : Result T LoadFault = Err why in told ≡ Err fault.Disk → ⊥
err_is_no_disk none why other is = other (let same : why ≡ fault.Disk = cc in same)

ok_is_no_err : {T : Type 0} (done : T) (why : LoadFault) → let told : Result T LoadFault = Ok done in told ≡ Err why → ⊥
ok_is_no_err done why is = cc

same_fault : (T : Type 0) (why other : LoadFault) → let told : Result T LoadFault = Err why in told ≡ Err other → why ≡ other
same_fault T why other is = cc

pub memory_is_no_disk : fault.Memory ≢ fault.Disk
memory_is_no_disk is = cc

begun_err : (T S : Type 0) (gate number : ℕ) (base : List ℕ) (records : List Record) (why : LoadFault) (calls : List Call)
    → Begun {T = T} gate number base records (Err why) calls → Begun {T = S} gate number base records (Err why) calls
begun_err T S gate number base records fault.Disk calls made = made
begun_err T S gate number base records fault.Memory calls made = made
begun_err T S gate number base records (fault.NotAJournal place) calls made = made
begun_err T S gate number base records (fault.OtherNode other) calls made = made
begun_err T S gate number base records fault.OtherBase calls made = made
begun_err T S gate number base records (fault.BadHistory place) calls made = made

begun_none : (T : Type 0) (gate number : ℕ) (base : List ℕ) (records : List Record) (why : LoadFault) → why ≢ fault.Disk
    → Begun {T = T} gate number base records (Err why) []
begun_none T gate number base records fault.Disk other = absurd (other refl)
begun_none T gate number base records fault.Memory other = refl
begun_none T gate number base records (fault.NotAJournal place) other = refl
begun_none T gate number base records (fault.OtherNode number_other) other = refl
begun_none T gate number base records fault.OtherBase other = refl
begun_none T gate number base records (fault.BadHistory place) other = refl

pub few_of : (records : List Record) (gate : ℕ) → gate ≡ last_gate records → gate < 2 ^ 64 → AreFew records
few_of records gate end small = omega (arith, end, small, six_each records)

pub begun_same : (number : ℕ) (base : List ℕ) (records : List Record) → records ≢ [] → begun number base records ≡ records
begun_same number base [] some = absurd (some refl)
begun_same number base (r ∷ more) some = refl

pub begun_in_range : (number : ℕ) (base : List ℕ) (records : List Record) → 1 ≤ number → number < 2 ^ 32 → IsBase base
    → AllByRecursion InRange records
    → AllByRecursion InRange (begun number base records)
begun_in_range number base [] from_one small is_base ranges = (((from_one, small), is_base), tt)
begun_in_range number base (r ∷ more) from_one small is_base ranges = ranges

-- what holds at Ok leads to something else there
pub at_ok : {T E : Type 0} {P Q : T → Type 0} (result : Result T E) → ((x : T) → P x → Q x) → IfOk result P → IfOk result Q
at_ok (Ok x) leads holds = leads x holds
at_ok (Err why) leads holds = tt

-- a fault of the own record's keeping says nothing of a list
pub keeping_refuses : (number : ℕ) (base : List ℕ) (records : List Record) (why : NodeFault)
    → RefusesLoad number base records (begin_fault_of why)
keeping_refuses number base records node_fault.Disk = tt
keeping_refuses number base records node_fault.Memory = tt
keeping_refuses number base records node_fault.Full = tt
keeping_refuses number base records (node_fault.Closed count) = tt

module _ {D : Type 0} (follows : D → Bool) (seen : D → List ℕ) where
  -- a node whose records stand before the gate
  pub holds_again : (number : ℕ) (base : List ℕ) (records : List Record) (j : JournalValue D) (n : NodeState)
      → IsReplay number base records n
      → number < 2 ^ 32 → IsBase base → AllByRecursion InRange records → j.gate ≡ last_gate records → j.gate < 2 ^ 64
      → (IsTrue (follows j.disk) → j.gate + 1 ≡ length (seen j.disk)) → NodeHolds follows seen (on_journal j n)
  holds_again number base records j n replay small_number is_base ranges end small place =
      let few : AreFew records = few_of records j.gate end small in
      let made : last n ≤ 2 * length records = replay_last records n ranges few replay.replays in
      record {
        fits = replay_fits records n ranges few replay.replays;
        reachable = replay.reachable;
        number = subst (λ (k : ℕ). k < 2 ^ 32) (sym replay.number_is) small_number;
        base = subst IsBase (sym replay.base_is) is_base;
        counters = omega (arith, made, end, six_each records);
        short = small;
        place = λ f opened. place f;
      }

  -- a node without objects
  pub holds_new : (number : ℕ) (base : List ℕ) (j : JournalValue D) (n : NodeState) → n ≡ new_node number base → number < 2 ^ 32
      → IsBase base
      → j.gate < 2 ^ 64 → (IsTrue (follows j.disk) → j.gate + 1 ≡ length (seen j.disk)) → NodeHolds follows seen (on_journal j n)
  holds_new number base j n is small_number is_base small place =
      let new : NodeHolds follows seen (on_journal j (new_node number base)) = record {
        fits = new_fits number base;
        reachable = tt;
        number = small_number;
        base = is_base;
        counters = omega arith;
        short = small;
        place = λ f opened. place f;
      } in subst (λ (k : NodeState). NodeHolds follows seen (on_journal j k)) (sym is) new

pub replay_new : (number : ℕ) (base : List ℕ) (n : NodeState) → n ≡ new_node number base
    → IsReplay number base (journal.Node number base ∷ []) n
replay_new number base n is =
    let new : IsReplay number base (journal.Node number base ∷ []) (new_node number base) = record {
      replays = refl;
      reachable = tt;
      number_is = refl;
      base_is = refl;
    } in subst (λ (k : NodeState). IsReplay number base (journal.Node number base ∷ []) k) (sym is) new

module _ {D : Type 0} (follows : D → Bool) (seen : D → List ℕ) (may_leave : D → List ℕ → Type 0) (later : D → D → Type 0)
    (left_between : D → D → List ℕ → Type 0) (driven : D → List Call → D → Type 0) (faults : D → ℕ) where
  -- the node's own record was kept
  pub begins_kept : (number : ℕ) (base : List ℕ) (old new : JournalValue D)
      → IsKept {T = Unit {0}} follows seen may_leave later left_between driven faults old new (Some (journal.Node number base)) (Ok tt)
      → Begins {T = Unit {0}} follows seen may_leave later left_between driven faults number base [] old new (Ok tt)
  begins_kept number base old new kept =
      let within = kept.within in
      let here : old.gate + length (coding (journal.Node number base)) + 6 ≤ GREATEST_LENGTH = omega (arith, within) in
      let there = kept.grows in
      record {
        settled = λ f settled. kept.durable f [] settled;
        any_moment = λ f settled. kept.any_moment f [] settled;
        calls = kept.calls;
        follows_same = kept.follows_same;
        cause = λ is. absurd (ok_is_no_err tt fault.Disk is);
        faults_later = kept.faults_later;
        stays_open = kept.stays_open;
        place = kept.place;
        grows = (omega (arith, there), omega (arith, there, here));
        end = λ end. omega (arith, there, end);
      }

  -- it wasn't
  pub begins_failed : (number : ℕ) (base : List ℕ) (old new : JournalValue D) (why : NodeFault)
      → IsKept {T = Unit {0}} follows seen may_leave later left_between driven faults old new (Some (journal.Node number base)) (Err why)
      → Begins {T = Unit {0}} follows seen may_leave later left_between driven faults number base [] old new (Err (begin_fault_of why))
  begins_failed number base old new node_fault.Disk kept = record {
    settled = tt;
    any_moment = λ f settled. kept.any_moment f [] settled;
    calls = kept.calls;
    follows_same = kept.follows_same;
    cause = λ is. kept.cause refl;
    faults_later = kept.faults_later;
    stays_open = tt;
    place = tt;
    grows = tt;
    end = tt;
  }
  begins_failed number base old new node_fault.Memory kept = record {
    settled = tt;
    any_moment = λ f settled. kept.any_moment f [] settled;
    calls = kept.calls;
    follows_same = kept.follows_same;
    cause = λ is. absurd (err_is_no_disk (Ok tt) fault.Memory memory_is_no_disk is);
    faults_later = kept.faults_later;
    stays_open = tt;
    place = tt;
    grows = tt;
    end = tt;
  }
  begins_failed number base old new node_fault.Full kept = record {
    settled = tt;
    any_moment = λ f settled. kept.any_moment f [] settled;
    calls = kept.calls;
    follows_same = kept.follows_same;
    cause = λ is. absurd (err_is_no_disk (Ok tt) fault.Memory memory_is_no_disk is);
    faults_later = kept.faults_later;
    stays_open = tt;
    place = tt;
    grows = tt;
    end = tt;
  }
  begins_failed number base old new (node_fault.Closed count) kept = absurd (kept.not_closed count refl)

  -- nothing was asked of the disk
  pub begins_not : {T : Type 0} (number : ℕ) (base : List ℕ) (records : List Record) (j : JournalValue D) (why : LoadFault)
      → why ≢ fault.Disk
      → later j.disk j.disk → ((c : List ℕ) → left_between j.disk j.disk c → may_leave j.disk c) → driven j.disk [] j.disk
      → Begins {T = T} follows seen may_leave later left_between driven faults number base records j j (Err why)
  begins_not {T} number base records j why other no_call only_now none = record {
    settled = tt;
    any_moment = λ f settled. stood_still seen may_leave later left_between j.disk j.gate records _ no_call only_now
        (λ c stands. inl stands) settled;
    calls = ([], none, begun_none T j.gate number base records why other);
    follows_same = refl;
    cause = λ is. absurd (err_is_no_disk {T = T} (Err why) why other is);
    faults_later = omega arith;
    stays_open = tt;
    place = tt;
    grows = tt;
    end = tt;
  }

  -- there are records, and they were replayed
  pub begins_again : {T : Type 0} (number : ℕ) (base : List ℕ) (records : List Record) (j : JournalValue D) (result : Result T LoadFault)
      → records ≢ [] → result ≢ Err fault.Disk → j.closed ≡ None → j.gate < 2 ^ 64
      → (IsTrue (follows j.disk) → j.gate + 1 ≡ length (seen j.disk))
      → later j.disk j.disk → ((c : List ℕ) → left_between j.disk j.disk c → may_leave j.disk c) → driven j.disk [] j.disk
      → Begins {T = T} follows seen may_leave later left_between driven faults number base records j j result
  begins_again number base [] j result some other opened small place no_call only_now none = absurd (some refl)
  begins_again number base (r ∷ more) j (Err why) some other opened small place no_call only_now none =
      begins_not number base (r ∷ more) j why (λ is. other (ap Err is)) no_call only_now none
  begins_again number base (r ∷ more) j (Ok done) some other opened small place no_call only_now none = record {
    settled = λ f settled. settled;
    any_moment = λ f settled. stood_still seen may_leave later left_between j.disk j.gate (r ∷ more) _ no_call only_now
        (λ c stands. inl stands) settled;
    calls = ([], none, (refl, refl));
    follows_same = refl;
    cause = λ is. absurd (other is);
    faults_later = omega arith;
    stays_open = opened;
    place = place;
    grows = (omega arith, small);
    end = λ end. end;
  }

  -- the same with another value in its Ok
  pub begins_ok : {T S : Type 0} (a : T) (b : S) (number : ℕ) (base : List ℕ) (records : List Record) (old new : JournalValue D)
      → Begins {T = T} follows seen may_leave later left_between driven faults number base records old new (Ok a)
      → Begins {T = S} follows seen may_leave later left_between driven faults number base records old new (Ok b)
  begins_ok a b number base records old new made = record {
    settled = made.settled;
    any_moment = made.any_moment;
    calls = made.calls;
    follows_same = made.follows_same;
    cause = λ is. absurd (ok_is_no_err b fault.Disk is);
    faults_later = made.faults_later;
    stays_open = made.stays_open;
    place = made.place;
    grows = made.grows;
    end = made.end;
  }

  pub begins_err : (T S : Type 0) (why : LoadFault) (number : ℕ) (base : List ℕ) (records : List Record) (old new : JournalValue D)
      → Begins {T = T} follows seen may_leave later left_between driven faults number base records old new (Err why)
      → Begins {T = S} follows seen may_leave later left_between driven faults number base records old new (Err why)
  begins_err T S why number base records old new made = record {
    settled = tt;
    any_moment = made.any_moment;
    calls = (made.calls.0, made.calls.1, begun_err T S old.gate number base records why made.calls.0 made.calls.2);
    follows_same = made.follows_same;
    cause = λ is. made.cause (ap Err (same_fault S why fault.Disk is));
    faults_later = made.faults_later;
    stays_open = tt;
    place = tt;
    grows = tt;
    end = tt;
  }

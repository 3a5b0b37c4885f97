-- The same answer with another value in its Ok, and the answer of a call that asked nothing of the disk.
use Rattle.std.proofs.Common.{◌≡◌, ◌≢◌, ◌↔◌, ℕ, Bool, List, [], Option, None, Some, Result, Ok, Err, refl, sym, ap, ◌∙◌, arith}
use Rattle.ba_node.specs.Keeping.{Stepped}
use Rattle.ba_node.specs.Nodes.{NodeOnJournal}
use Rattle.ba_node.specs.declared.faults.NodeFault.{NodeFault}
use Rattle.ba_node.specs.declared.faults.NodeFault.TheVariants as fault
use Rattle.ba_node.specs.inside.Commits.{Commits}
use Rattle.ba_node.proofs.Moments.{nothing_asked}
use Rattle.ba_ports.specs.declared.requests.Call.{Call}
use Rattle.ba_record.specs.declared.records.Record.{Record}
use Rattle.ba_node_steps.specs.Lawful.{Change}

ok_is_no_err : {T : Type 0} (done : T) (why : NodeFault) → let told : Result T NodeFault = Ok done in told ≡ Err why → ⊥
ok_is_no_err done why is = cc

same_fault : (T : Type 0) (why other : NodeFault) → let told : Result T NodeFault = Err why in told ≡ Err other → why ≡ other
same_fault T why other is = cc

as_fault : (T : Type 0) (why other : NodeFault) → why ≡ other → let told : Result T NodeFault = Err why in told ≡ Err other
as_fault T why other is = ap Err is

-- from one type of what is answered to another
other_told : (T S : Type 0) (why other : NodeFault) → (let told : Result T NodeFault = Err why in told ≡ Err other)
    → let told : Result S NodeFault = Err why in told ≡ Err other
other_told T S why other is = as_fault S why other (same_fault T why other is)

stepped_ok : {T S : Type 0} (a : T) (b : S) (end : ℕ) (written : Option Record) (calls : List Call)
    → Stepped {T = T} end written (Ok a) calls
    → Stepped {T = S} end written (Ok b) calls
stepped_ok a b end None calls made = made
stepped_ok a b end (Some r) calls made = made

stepped_err : (T S : Type 0) (why : NodeFault) (end : ℕ) (written : Option Record) (calls : List Call)
    → Stepped {T = T} end written (Err why) calls
    → Stepped {T = S} end written (Err why) calls
stepped_err T S fault.Disk end None calls made = made
stepped_err T S fault.Disk end (Some r) calls made = made
stepped_err T S fault.Memory end None calls made = made
stepped_err T S fault.Memory end (Some r) calls made = made
stepped_err T S fault.Full end None calls made = made
stepped_err T S fault.Full end (Some r) calls made = made
stepped_err T S (fault.Closed count) end None calls made = made
stepped_err T S (fault.Closed count) end (Some r) calls made = made

stepped_none : (T : Type 0) (why : NodeFault) (end : ℕ) (written : Option Record) → why ≢ fault.Disk
    → Stepped {T = T} end written (Err why) []
stepped_none T fault.Disk end written other = absurd (other refl)
stepped_none T fault.Memory end None other = refl
stepped_none T fault.Memory end (Some r) other = refl
stepped_none T fault.Full end None other = refl
stepped_none T fault.Full end (Some r) other = refl
stepped_none T (fault.Closed count) end None other = refl
stepped_none T (fault.Closed count) end (Some r) other = refl

module _ {D : Type 0} (follows : D → Bool) (seen : D → List ℕ) (may_leave : D → List ℕ → Type 0) (later : D → D → Type 0)
    (left_between : D → D → List ℕ → Type 0) (driven : D → List Call → D → Type 0) (faults : D → ℕ) where
  pub told_ok : {T S : Type 0} (a : T) (b : S) (due : Change) (old new : NodeOnJournal D)
      → Commits {T = T} follows seen may_leave later left_between driven faults due old new (Ok a)
      → Commits {T = S} follows seen may_leave later left_between driven faults due old new (Ok b)
  told_ok a b due old new made = record {
    answered = record {
      done = made.answered.done;
      within = made.answered.within;
      closed = λ count. (
        λ is. absurd (ok_is_no_err b (fault.Closed count) is),
        λ was. absurd (ok_is_no_err a (fault.Closed count) ((made.answered.closed count).1 was)),
      );
      full = λ is. absurd (ok_is_no_err b fault.Full is);
      broke = λ is. absurd (ok_is_no_err b fault.Disk is);
      closes = λ is. absurd (ok_is_no_err b fault.Disk is);
      unchanged = tt;
    };
    durable = made.durable;
    any_moment = made.any_moment;
    calls = (made.calls.0, made.calls.1, stepped_ok a b old.end due.written made.calls.0 made.calls.2);
    follows_same = made.follows_same;
    cause = λ is. absurd (ok_is_no_err b fault.Disk is);
    faults_later = made.faults_later;
  }

  pub told_err : (T S : Type 0) (why : NodeFault) (due : Change) (old new : NodeOnJournal D)
      → Commits {T = T} follows seen may_leave later left_between driven faults due old new (Err why)
      → Commits {T = S} follows seen may_leave later left_between driven faults due old new (Err why)
  told_err T S why due old new made = record {
    answered = record {
      done = tt;
      within = tt;
      closed = λ count. (
        λ is. (made.answered.closed count).0 (other_told S T why (fault.Closed count) is),
        λ was. other_told T S why (fault.Closed count) ((made.answered.closed count).1 was),
      );
      full = λ is. made.answered.full (other_told S T why fault.Full is);
      broke = λ is. made.answered.broke (other_told S T why fault.Disk is);
      closes = λ is. made.answered.closes (other_told S T why fault.Disk is);
      unchanged = made.answered.unchanged;
    };
    durable = tt;
    any_moment = made.any_moment;
    calls = (made.calls.0, made.calls.1, stepped_err T S why old.end due.written made.calls.0 made.calls.2);
    follows_same = made.follows_same;
    cause = λ is. made.cause (other_told S T why fault.Disk is);
    faults_later = made.faults_later;
  }

  -- nothing was asked of the disk, and the node is as it was
  pub told_still : (T : Type 0) (why : NodeFault) (due : Change) (n : NodeOnJournal D) → why ≢ fault.Disk → why ≢ fault.Full
      → ((count : ℕ) → (why ≡ fault.Closed count) ↔ (n.closed ≡ Some count)) → later n.disk n.disk
      → ((c : List ℕ) → left_between n.disk n.disk c → may_leave n.disk c) → driven n.disk [] n.disk
      → Commits {T = T} follows seen may_leave later left_between driven faults due n n (Err why)
  told_still T why due n no_disk no_full closed no_call only_now none = record {
    answered = record {
      done = tt;
      within = tt;
      closed = λ count. (
        λ is. (closed count).0 (same_fault T why (fault.Closed count) is),
        λ was. as_fault T why (fault.Closed count)
            ((closed count).1 was),
      );
      full = λ is. absurd (no_full (same_fault T why fault.Full is));
      broke = λ is. absurd (no_disk (same_fault T why fault.Disk is));
      closes = λ is. absurd (no_disk (same_fault T why fault.Disk is));
      unchanged = λ other. refl;
    };
    durable = tt;
    any_moment = λ follows records settled. nothing_asked seen may_leave later left_between n.disk n.end due.written records no_call
        only_now settled;
    calls = ([], none, stepped_none T why n.end due.written no_disk);
    follows_same = refl;
    cause = λ is. absurd (no_disk (same_fault T why fault.Disk is));
    faults_later = omega arith;
  }

-- ---- which fault it is

pub memory_is_no_disk : fault.Memory ≢ fault.Disk
memory_is_no_disk is = cc

pub memory_is_no_full : fault.Memory ≢ fault.Full
memory_is_no_full is = cc

pub closed_is_no_disk : (count : ℕ) → fault.Closed count ≢ fault.Disk
closed_is_no_disk count is = cc

pub closed_is_no_full : (count : ℕ) → fault.Closed count ≢ fault.Full
closed_is_no_full count is = cc

memory_is_no_closed : (count : ℕ) → fault.Memory ≡ fault.Closed count → ⊥
memory_is_no_closed count is = cc

none_is_no_some : (count : ℕ) → ◌≡◌ {A = Option ℕ} None (Some count) → ⊥
none_is_no_some count is = cc

same_count : (a b : ℕ) → fault.Closed a ≡ fault.Closed b → a ≡ b
same_count a b is = cc

same_some : (a b : ℕ) → ◌≡◌ {A = Option ℕ} (Some a) (Some b) → a ≡ b
same_some a b is = cc

pub open_is_memory : (closed : Option ℕ) → closed ≡ None → (count : ℕ) → (fault.Memory ≡ fault.Closed count) ↔ (closed ≡ Some count)
open_is_memory closed opened count =
    (λ is. absurd (memory_is_no_closed count is), λ was. absurd (none_is_no_some count (sym opened ∙ was)))

pub closed_is_closed : (closed : Option ℕ) (since : ℕ) → closed ≡ Some since → (count : ℕ)
    → (fault.Closed since ≡ fault.Closed count) ↔ (closed ≡ Some count)
closed_is_closed closed since was count =
    (λ is. was ∙ ap Some (same_count since count is), λ is. ap fault.Closed (same_some since count (sym was ∙ is)))

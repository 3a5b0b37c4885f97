-- A moment at which nothing was asked of the disk; and answers that differ.
use Rattle.std.proofs.Common.{◌≡◌, inl, inr, ℕ, List, [], ◌∷◌, Option, None, Some, Result, Ok, Err, sym, subst}
use Rattle.ba_journal.specs.Frames.{StandsFor}
use Rattle.ba_journal.specs.Journals.{IsSettled}
use Rattle.ba_node.specs.Keeping.{StandsWith}
use Rattle.ba_node.specs.declared.faults.NodeFault.{NodeFault}
use Rattle.ba_ports.specs.Disk.{LeavesOnly}
use Rattle.ba_ports.proofs.Moments.{started}
use Rattle.ba_record.specs.declared.records.Record.{Record}

-- ---- answers

pub ok_is_no_err : {T : Type 0} (done : T) (why : NodeFault) → let told : Result T NodeFault = Ok done in told ≡ Err why → ⊥
ok_is_no_err done why is = cc

pub err_is : {T : Type 0} (none : Result T NodeFault) (why other : NodeFault)
    → let told : Result T NodeFault = Err why in told ≡ Err other → why ≡ other
err_is none why other is = cc

pub none_is_no_some : {A : Type 0} (a : A) → None ≡ Some a → ⊥
none_is_no_some a is = cc

pub some_is_no_none : {A : Type 0} (a : A) → Some a ≡ None → ⊥
some_is_no_none a is = cc

-- ---- a moment at which nothing was asked of the disk

module _ {D : Type 0} (seen : D → List ℕ) (may_leave : D → List ℕ → Type 0) (later : D → D → Type 0)
    (left_between : D → D → List ℕ → Type 0) where
  pub stood_still : (d : D) (end : ℕ) (records : List Record) (P : List ℕ → Type 0) → later d d
      → ((c : List ℕ) → left_between d d c → may_leave d c) → ((c : List ℕ) → StandsFor c records → P c)
      → IsSettled seen may_leave d end records
      → LeavesOnly later left_between d d P
  stood_still d end records P no_call only_now has settled =
      started later left_between d P no_call (λ c left.
      subst P (sym (settled.durable c (only_now c left))) (has (seen d) (inr (0 ∷ [], settled.at_rest))))

  pub nothing_asked : (d : D) (end : ℕ) (written : Option Record) (records : List Record) → later d d
      → ((c : List ℕ) → left_between d d c → may_leave d c) → IsSettled seen may_leave d end records
      → LeavesOnly later left_between d d (StandsWith records written)
  nothing_asked d end written records no_call only_now settled =
      stood_still d end records (StandsWith records written) no_call only_now (λ c stands. inl stands) settled

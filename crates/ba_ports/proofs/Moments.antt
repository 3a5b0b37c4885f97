-- How a run of a disk's calls goes on.
use Rattle.std.proofs.Common.{inl, inr, ⊎_elim, List, ℕ}
use Rattle.ba_ports.specs.Disk.{Passes, LeavesOnly}

module _ {D : Type 0} (later : D → D → Type 0) (left_between : D → D → List ℕ → Type 0) where
  -- before the first call
  pub started : (old : D) (P : List ℕ → Type 0) → later old old → ((c : List ℕ) → left_between old old c → P c)
      → LeavesOnly later left_between old old P
  started old P self here = record { goes_on = self; each = here; before = λ a c earlier left. inl left }

  -- one call more, after which a crash leaves what has P
  pub goes_on : (old mid new : D) (P : List ℕ → Type 0) (during : List ℕ → Type 0) → ((a b c : D) → later a b → later b c → later a c)
      → LeavesOnly later left_between old mid P → Passes later left_between during mid new
      → ((c : List ℕ) → during c → P c) → LeavesOnly later left_between old new P
  goes_on old mid new P during join so_far passes here = record {
    goes_on = passes.goes_on old so_far.goes_on;
    each = λ c left. ⊎_elim (so_far.each c) (here c) (passes.nothing_else old c so_far.goes_on left);
    before = λ a c earlier left. ⊎_elim (so_far.before a c earlier) (λ now. inr (here c now))
        (passes.nothing_else a c (join a old mid earlier so_far.goes_on) left);
  }

-- How runs of a disk's calls are joined.
use Rattle.std.proofs.Common.{◌≡◌, inl, inr, ⊎_elim, ℕ, Bool, true, false, List, [], ◌∷◌, ◌++◌, Result, Ok, Err, OnOk, is_err, refl, ◌∙◌}
use Rattle.std.proofs.Common.{sym, ap, subst}
use Rattle.ba_ports.specs.Disk.{InTurn, LeavesOnly, Only, is_counted, if_counted, counted}
use Rattle.ba_ports.specs.declared.requests.Call.{Call}
use Rattle.ba_ports.specs.declared.requests.Request.{Request}
use Rattle.ba_journal.specs.inside.Syncing.{MayHaveChanged}

-- requests that all went well, and then others
pub in_turn_on : (first second : List Request) (failed : Bool) (calls later : List Call)
    → InTurn first false calls → InTurn second failed later → InTurn (first ++ second) failed (calls ++ later)
in_turn_on [] second failed calls later before behind = subst (λ (cs : List Call). InTurn second failed (cs ++ later)) (sym before.1) behind
in_turn_on (request ∷ first) second failed calls later (inl stopped) behind = let no = stopped.0 in absurd cc
in_turn_on (request ∷ first) second failed calls later (inr (more, is, others)) behind =
    inr (more ++ later, ap (λ (cs : List Call). cs ++ later) is, in_turn_on first second failed more later others behind)

-- requests of which one failed, so that the others weren't made
pub in_turn_stopped : (first second : List Request) (calls : List Call) → InTurn first true calls → InTurn (first ++ second) true calls
in_turn_stopped [] second calls before = let no = before.0 in absurd cc
in_turn_stopped (request ∷ first) second calls (inl stopped) = inl stopped
in_turn_stopped (request ∷ first) second calls (inr (more, is, others)) = inr (more, is, in_turn_stopped first second more others)

-- what is counted of a run, and of one more
pub counted_on : (first second : List Call) → counted (first ++ second) ≡ counted first ++ counted second
counted_on [] second = refl
counted_on (call ∷ first) second = by_kind (is_counted call.request) (counted_on first second)
  where
    by_kind : (kind : Bool) → counted (first ++ second) ≡ counted first ++ counted second
        → if_counted kind call (counted (first ++ second)) ≡ if_counted kind call (counted first) ++ counted second
    by_kind true is = ap (λ (cs : List Call). call ∷ cs) is
    by_kind false is = is

abbrev pub AreCounted : List Request → Type 0
AreCounted [] = Unit {0}
AreCounted (request ∷ requests) = (is_counted request ≡ true) × AreCounted requests

-- counted requests made in turn are counted calls
pub all_counted : (requests : List Request) (failed : Bool) (calls : List Call) → AreCounted requests → InTurn requests failed calls
    → counted calls ≡ calls
all_counted [] failed calls kinds made = ap counted made.1 ∙ sym made.1
all_counted (request ∷ requests) failed calls kinds (inl stopped) =
    ap counted stopped.1 ∙ ap (λ (kind : Bool). if_counted kind (record { request = request; failed = true }) []) kinds.0 ∙ sym stopped.1
all_counted (request ∷ requests) failed calls kinds (inr (more, is, others)) =
    ap counted is ∙ ap (λ (kind : Bool). if_counted kind (record { request = request; failed = false }) (counted more)) kinds.0
    ∙ ap (λ (cs : List Call). record { request = request; failed = false } ∷ cs) (all_counted requests failed more kinds.1 others) ∙ sym is

-- what holds at Ok, where a result is no error
pub at_ok : {T E : Type 0} {P : Type 0} (result : Result T E) → is_err result ≡ false → OnOk result P → P
at_ok (Ok done) is holds = holds
at_ok (Err why) is holds = absurd cc

-- what holds at Ok, from two facts that hold there
pub on_ok_both : {T E : Type 0} {P Q R : Type 0} (result : Result T E) → OnOk result P → OnOk result Q → (P → Q → R) → OnOk result R
on_ok_both (Ok done) p q both = both p q
on_ok_both (Err why) p q both = tt

module _ {D : Type 0} (later : D → D → Type 0) (left_between : D → D → List ℕ → Type 0) where
  -- what a crash leaves also has R
  pub widened : (old new : D) (P R : List ℕ → Type 0) → LeavesOnly later left_between old new P → ((c : List ℕ) → P c → R c)
      → LeavesOnly later left_between old new R
  widened old new P R run has = record {
    goes_on = run.goes_on;
    each = λ c left. has c (run.each c left);
    before = λ a c earlier left. ⊎_elim (λ was. inl was) (λ now. inr (has c now)) (run.before a c earlier left);
  }

  -- one run, and then another
  pub joined : (old mid new : D) (P R : List ℕ → Type 0) → ((a b c : D) → later a b → later b c → later a c)
      → LeavesOnly later left_between old mid R → LeavesOnly later left_between mid new P → ((c : List ℕ) → P c → R c)
      → LeavesOnly later left_between old new R
  joined old mid new P R join first second has = record {
    goes_on = join old mid new first.goes_on second.goes_on;
    each = λ c left. ⊎_elim (first.each c) (has c) (second.before old c first.goes_on left);
    before = λ a c earlier left. ⊎_elim (first.before a c earlier) (λ now. inr (has c now))
        (second.before a c (join a old mid earlier first.goes_on) left);
  }

  -- a change under way, where a crash left this file until then
  pub changing : (old mid new : D) (before : List ℕ → Type 0) (change : List ℕ → List ℕ → Type 0) (file : List ℕ) (R : List ℕ → Type 0)
      → ((a b c : D) → later a b → later b c → later a c)
      → LeavesOnly later left_between old mid R → LeavesOnly later left_between mid new (MayHaveChanged change before)
      → Only file before → R file → ((c : List ℕ) → change file c → R c) → LeavesOnly later left_between old new R
  changing old mid new before change file R join first second only still has =
      joined old mid new (MayHaveChanged change before) R join first second (λ c left. ⊎_elim
      (λ was. subst R (sym (only c was)) still)
      (λ from. has c (subst (λ (f : List ℕ). change f c) (only from.0 from.1) from.2))
      left)

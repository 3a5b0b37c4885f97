-- What a call answers that changes the end at a place.
use Rattle.std.proofs.Common.{◌≡◌, ℕ, Bool, true, not, Option, Some, slice_get, slice_set, refl, sym, ◌∙◌}
use Rattle.ba_core.specs.EndRows.{end_row}
use Rattle.ba_core.specs.declared.identifiers.Id.{Id}
use Rattle.ba_core.specs.declared.notices.Notice.{Notice}
use Rattle.ba_core.specs.declared.rows.CRow.{CRow}
use Rattle.ba_scope_ends.specs.declared.ends.End.{End}
use Rattle.ba_scope.specs.Fits.{are_apart}
use Rattle.ba_scope_ends.specs.Ends.{end_after_notice, end_asking, end_owing, settled_row, tick_of_end, end_with_id}
use Rattle.ba_scope.specs.Rules.{ask, end_receive, owe, tick_end, with_end_changed}
use Rattle.ba_scope.specs.Scope.{ScopeState}
use Rattle.ba_scope.proofs.Lists.{some_branch}
use Rattle.ba_scope.proofs.Places.{changed_scope}

-- the end at a place of a scope is the one with this Id
pub record StandsAt (s : ScopeState) (id : Id) (k : ℕ) (e : End) : Type 0 where
  pub apart : are_apart s.ends ≡ true
  pub found : end_with_id s.ends id ≡ slice_get s.ends k
  pub at : slice_get s.ends k ≡ Some e

abbrev pub with_end_at : ScopeState → ℕ → End → ScopeState
with_end_at s k e = record s { ends = slice_set s.ends k e }

pub changed_there : (s : ScopeState) (id : Id) (k : ℕ) (e e2 : End) (change : End → End) → StandsAt s id k e → e2 ≡ change e
    → with_end_changed id change s ≡ with_end_at s k e2
changed_there s id k e e2 change is same =
    changed_scope s id change k e e2 (slice_set s.ends k e2) is.apart (is.found ∙ is.at) is.at same refl

pub received_at : (s : ScopeState) (id : Id) (n : Notice) (k : ℕ) (e e2 : End) (row : CRow) → StandsAt s id k e → e2 ≡ end_after_notice n e
    → row ≡ settled_row (end_row e.protocol e.state n) e
    → end_receive s id n ≡ record { after = with_end_at s k e2; answer = row }
received_at s id n k e e2 row is same rows =
    let after = changed_there s id k e e2 (end_after_notice n) is same in
    some_branch (end_with_id s.ends id) _ _ e (is.found ∙ is.at) ∙ (λ i. record { after = after i; answer = sym rows i })

pub ticked_at : (s : ScopeState) (id : Id) (k : ℕ) (e e2 : End) (says : Option Notice) → StandsAt s id k e → e2 ≡ (tick_of_end e).after
    → says ≡ (tick_of_end e).says → tick_end s id ≡ record { after = with_end_at s k e2; says = says }
ticked_at s id k e e2 says is same said_ =
    let after = changed_there s id k e e2 (λ it. (tick_of_end it).after) is same in
    some_branch (end_with_id s.ends id) _ _ e (is.found ∙ is.at) ∙ (λ i. record { after = after i; says = sym said_ i })

pub owing_at : (s : ScopeState) (id : Id) (k : ℕ) (e e2 : End) (first : Bool) → StandsAt s id k e → e2 ≡ end_owing e → first ≡ not e.owes
    → owe s id ≡ record { after = with_end_at s k e2; answer = first }
owing_at s id k e e2 first is same firsts =
    let after = changed_there s id k e e2 end_owing is same in
    some_branch (end_with_id s.ends id) _ _ e (is.found ∙ is.at) ∙ (λ i. record { after = after i; answer = sym firsts i })

pub asking_at : (s : ScopeState) (id : Id) (k : ℕ) (e e2 : End) (first : Bool) → StandsAt s id k e → e2 ≡ end_asking e → first ≡ not e.asks
    → ask s id ≡ record { after = with_end_at s k e2; answer = first }
asking_at s id k e e2 first is same firsts =
    let after = changed_there s id k e e2 end_asking is same in
    some_branch (end_with_id s.ends id) _ _ e (is.found ∙ is.at) ∙ (λ i. record { after = after i; answer = sym firsts i })

-- Of a fit scope each end is in a state of its protocol, and so is its own participant.
use Rattle.std.proofs.Common.{◌≡◌, ℕ, Bool, true, false, ◌&&◌, List, [], ◌∷◌, None, Some, IsTrue, if◌then◌else◌, slice_get, zero, suc}
use Rattle.std.proofs.Common.{subst}
use Rattle.std.specs.List.{AllByRecursion}
use Rattle.std.proofs.lemmas.Bool.{and_parts}
use Rattle.ba_core.specs.EndRows.{is_end_state}
use Rattle.ba_link.specs.Pairs.{verdict_fits_state}
use Rattle.ba_scope_ends.specs.declared.ends.End.{End}
use Rattle.ba_scope_ends.specs.Ends.{has_own_state, end_with_id, same_id}
use Rattle.ba_scope.specs.Fits.{Above, above, end_fits, state_fits_above, verdict_fits_scope, ScopeFits}
use Rattle.ba_core.specs.declared.identifiers.Id.{Id}
use Rattle.ba_scope.specs.Scope.{ScopeState}

own_state : (a : Above) (e : End) → end_fits a e ≡ true → has_own_state e ≡ true
own_state a e h =
    let states : Bool = is_end_state e.protocol e.state && verdict_fits_state e.state e.verdict in
    let seen : Bool = verdict_fits_scope a.up a.kind a.verdict e.verdict None && state_fits_above a.up e.verdict e.state in
    let both = and_parts states seen h in
    (and_parts (is_end_state e.protocol e.state) (verdict_fits_state e.state e.verdict) both.0).0

all_own : (a : Above) (es : List End) → AllByRecursion (λ e. IsTrue (end_fits a e)) es → AllByRecursion (λ e. IsTrue (has_own_state e)) es
all_own a [] all = tt
all_own a (e ∷ es) all = (own_state a e all.0, all_own a es all.1)

pub own_states : (s : ScopeState) → ScopeFits s → AllByRecursion (λ e. IsTrue (has_own_state e)) s.ends
own_states s fits = all_own (above s) s.ends fits.ends

pub own_at : (es : List End) (k : ℕ) (e : End) → AllByRecursion (λ e. IsTrue (has_own_state e)) es → slice_get es k ≡ Some e
    → has_own_state e ≡ true
own_at [] k e all at = cc
own_at (x ∷ es) zero e all at = let same : x ≡ e = cc in subst (λ y. has_own_state y ≡ true) same all.0
own_at (x ∷ es) (suc k) e all at = own_at es k e all.1 at

pub found_own : (es : List End) (id : Id) (e : End) → AllByRecursion (λ e. IsTrue (has_own_state e)) es → end_with_id es id ≡ Some e
    → has_own_state e ≡ true
found_own [] id e all found = cc
found_own (x ∷ es) id e all found = by_head (same_id x.id id) found (λ further. found_own es id e all.1 further)
  where
    by_head : (b : Bool) → (if b then Some x else end_with_id es id) ≡ Some e → (end_with_id es id ≡ Some e → has_own_state e ≡ true)
        → has_own_state e ≡ true
    by_head true h rest = let same : x ≡ e = cc in subst (λ y. has_own_state y ≡ true) same all.0
    by_head false h rest = rest h

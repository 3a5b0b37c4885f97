-- What fits an end, part by part: what its verdict and its state say of its scope; for the laws of words and of what closes.
use Rattle.std.proofs.Common.{◌≡◌, true, ◌&&◌, Option, None, Some, sym, subst, refl, true≢false}
use Rattle.std.proofs.lemmas.Bool.{and_parts}
use Rattle.ba_core.specs.EndRows.{is_end_state}
use Rattle.ba_core.specs.declared.protocols.Kind.TheVariants.{Atomic}
use Rattle.ba_core.specs.declared.protocols.Verdict.{Verdict}
use Rattle.ba_core.specs.declared.protocols.Verdict.TheVariants.{Close, Undo}
use Rattle.ba_link.specs.Pairs.{verdict_fits_state}
use Rattle.ba_scope.specs.Fits.{Above, above, end_fits, same_verdict, state_fits_above, up_state, verdict_fits_scope}
use Rattle.ba_scope.specs.Rules.{own_choice}
use Rattle.ba_scope.specs.Scope.{ScopeState}
use Rattle.ba_scope_ends.specs.declared.ends.End.{End}
use Rattle.ba_scope_ends.specs.declared.parts.Part.{Part}

-- of two verdicts that are the same, one is the other
pub same_verdict_is : (v : Verdict) (x : Option Verdict) → same_verdict (Some v) x ≡ true → x ≡ Some v
same_verdict_is Close None h = absurd (true≢false (sym h))
same_verdict_is Close (Some Close) h = refl
same_verdict_is Close (Some Undo) h = absurd (true≢false (sym h))
same_verdict_is Undo None h = absurd (true≢false (sym h))
same_verdict_is Undo (Some Close) h = absurd (true≢false (sym h))
same_verdict_is Undo (Some Undo) h = refl

pub same_verdict_of : (o : Option Verdict) (v : Verdict) → same_verdict o (Some v) ≡ true → o ≡ Some v
same_verdict_of None v h = absurd (true≢false (sym h))
same_verdict_of (Some Close) Close h = refl
same_verdict_of (Some Close) Undo h = absurd (true≢false (sym h))
same_verdict_of (Some Undo) Close h = absurd (true≢false (sym h))
same_verdict_of (Some Undo) Undo h = refl

-- the verdict goes with the state, the verdict with the scope's, the state with what is above
pub record EndParts (s : ScopeState) (e : End) : Type 0 where
  pub verdict : verdict_fits_state e.state e.verdict ≡ true
  pub scope : verdict_fits_scope (up_state s.up) s.kind s.verdict e.verdict (own_choice e) ≡ true
  pub state : state_fits_above (up_state s.up) e.verdict e.state ≡ true

pub end_parts : (s : ScopeState) (e : End) → end_fits (above s) e ≡ true → EndParts s e
end_parts s e fit =
    let both = and_parts (is_end_state e.protocol e.state && verdict_fits_state e.state e.verdict)
    (verdict_fits_scope (up_state s.up) s.kind s.verdict e.verdict (own_choice e) && state_fits_above (up_state s.up) e.verdict e.state) fit in
    let own = and_parts (is_end_state e.protocol e.state) (verdict_fits_state e.state e.verdict) both.0 in
    let seen = and_parts (verdict_fits_scope (up_state s.up) s.kind s.verdict e.verdict (own_choice e))
    (state_fits_above (up_state s.up) e.verdict e.state) both.1 in
    record { verdict = own.1; scope = seen.0; state = seen.1 }

-- in an AtomicOutcome root an end's verdict is the scope's
pub atomic_verdict : (s : ScopeState) (e : End) → s.up ≡ None → s.kind ≡ Atomic → end_fits (above s) e ≡ true
    → same_verdict s.verdict e.verdict ≡ true
atomic_verdict s e root atomic fit =
    let seen : above s ≡ record { up = None; kind = Atomic; verdict = s.verdict } =
    (λ i. record { up = up_state (root i); kind = atomic i; verdict = s.verdict }) in
    subst (λ (a : Above). verdict_fits_scope a.up a.kind a.verdict e.verdict (own_choice e) ≡ true) seen (end_parts s e fit).scope

-- and so it is in a child
pub childs_verdict : (s : ScopeState) (up : Part) (e : End) (v : Verdict) → s.up ≡ Some up → end_fits (above s) e ≡ true
    → e.verdict ≡ Some v → s.verdict ≡ Some v
childs_verdict s up e v is_up fit has =
    let below = subst (λ (u : Option Part). verdict_fits_scope (up_state u) s.kind s.verdict e.verdict (own_choice e) ≡ true) is_up
    (end_parts s e fit).scope in
    same_verdict_of s.verdict v (subst (λ (x : Option Verdict). same_verdict s.verdict x ≡ true) has below)

-- below an upward part an end's state goes with that part's
pub state_below : (s : ScopeState) (up : Part) (e : End) → s.up ≡ Some up → end_fits (above s) e ≡ true
    → state_fits_above (Some up.state) e.verdict e.state ≡ true
state_below s up e is fit = subst (λ (u : Option Part). state_fits_above (up_state u) e.verdict e.state ≡ true) is (end_parts s e fit).state

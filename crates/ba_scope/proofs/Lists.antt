-- Tests and look-ups: what an answer of theirs says.
use Rattle.std.proofs.Common.{◌≡◌, Bool, true, false, not, List, [], ◌∷◌, map, Option, None, Some, refl, ap, if◌then◌else◌, true≢false}
use Rattle.std.specs.List.{AllByRecursion, find}
use Rattle.std.specs.Option.{option_map}
use Rattle.ba_core.specs.declared.protocols.Verdict.{Verdict}
use Rattle.ba_core.specs.declared.protocols.Verdict.TheVariants.{Close, Undo}
use Rattle.ba_core.specs.declared.states.CState.{CState}
use Rattle.ba_scope.specs.Rules.{word_for, end_with_verdict_if_any, scope_with_verdict_if_any}
use Rattle.ba_scope_ends.specs.Ends.{first_failing}
use Rattle.ba_scope.specs.Scope.{ScopeState}
use Rattle.ba_scope_ends.specs.declared.ends.End.{End}

-- by the answer of a test
pub by_test : {X : Type 0} (P : X → Type 0) (b : Bool) (x y : X) → (b ≡ true → P x) → (b ≡ false → P y) → P (if b then x else y)
by_test P true x y h k = h refl
by_test P false x y h k = k refl

-- what a look-up that finds it leads to, and a test that fails
pub some_branch : {X R : Type 0} (o : Option X) (none : R) (some : X → R) (x : X) → o ≡ Some x
    → (elim o [ None ↦ none | Some y ↦ some y ]) ≡ some x
some_branch o none some x is = ap (λ p. elim p [ None ↦ none | Some y ↦ some y ]) is

pub false_branch : {X : Type 0} (b : Bool) (x y : X) → b ≡ false → (if b then x else y) ≡ y
false_branch true x y h = absurd (true≢false h)
false_branch false x y h = refl

pub not_true : (b : Bool) → not b ≡ false → b ≡ true
not_true true h = refl
not_true false h = absurd (true≢false h)

-- where no end fails a test, each passes it
pub none_fails : (test : CState → Bool) (es : List End) → first_failing test es ≡ None
    → AllByRecursion (λ (e : End). test e.state ≡ true) es
none_fails test [] h = tt
none_fails test (e ∷ es) h = by_head (test e.state) refl h (none_fails test es)
  where
    by_head : (b : Bool) → test e.state ≡ b
        → option_map (λ (x : End). x.id) (if not b then Some e else find (λ (x : End). not (test x.state)) es) ≡ None
        → (first_failing test es ≡ None → AllByRecursion (λ (x : End). test x.state ≡ true) es)
        → AllByRecursion (λ (x : End). test x.state ≡ true) (e ∷ es)
    by_head true is h rest = (is, rest h)
    by_head false is h rest = cc

-- no end has a choice of its own
pub word_is : (v : Verdict) (e : End) → word_for v e ≡ v
word_is Close e = refl
word_is Undo e = refl

-- where no verdict comes from above, nothing changes
same_ends : (es : List End) → es ≡ map (end_with_verdict_if_any None) es
same_ends [] = refl
same_ends (e ∷ es) = ap (λ (rest : List End). e ∷ rest) (same_ends es)

pub told_nothing : (s : ScopeState) → s ≡ scope_with_verdict_if_any None s
told_nothing s = λ i. record s { ends = same_ends s.ends i }

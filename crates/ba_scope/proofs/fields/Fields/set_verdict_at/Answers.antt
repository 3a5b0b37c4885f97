use Rattle.std.proofs.Common.{◌≡◌, ◌<◌, None, length, refl, sym, subst, slice_get}
use Rattle.std.proofs.lemmas.Option.{slice_get_read}
use Rattle.ba_scope.specs.Fits.{ScopeFits}
use Rattle.ba_scope_ends.specs.Ends.{end_with_verdict, end_with_id}
use Rattle.ba_scope.specs.Rules.{with_end_changed}
use Rattle.ba_scope.specs.Scope.{ScopeState}
use Rattle.ba_scope_ends.specs.declared.ends.End.{End}
use Rattle.ba_scope.specs.contracts.fields.Fields.{the_view}
use Rattle.ba_scope.proofs.Changes.{StandsAt, changed_there, with_end_at}
use Rattle.ba_scope.proofs.Tested.{none_change}
use Rattle.ba_scope.proofs.fields.Fields.set_verdict_at.Goals as goal

pub returns-in-Some : goal.returns-in-Some
returns-in-Some c =
    let place = c.in-Some.place in
    let s : ScopeState = the_view c.self.inside in
    let change : End → End = end_with_verdict c.args.verdict in
    let fits = subst ScopeFits (sym c.self.view_is) c.requires in
    let within : place < length s.ends = rw c.deref.ensures.value at c.in-Some.ensures.within in
    let found : end_with_id s.ends c.args.id ≡ slice_get s.ends place = rw c.deref.ensures.value at c.in-Some.ensures.found in
    let at = slice_get_read s.ends (length s.ends) place c.index_mut.result.now refl within c.index_mut.ensures.value in
    let stands : StandsAt s c.args.id place c.index_mut.result.now = record { apart = fits.apart; found = found; at = at } in
    subst (λ (s2 : ScopeState). with_end_at s place c.set_verdict.new.self ≡ with_end_changed c.args.id change s2) c.self.view_is
    (sym (changed_there s c.args.id place c.index_mut.result.now c.set_verdict.new.self change stands c.set_verdict.ensures))

pub returns-in-None : goal.returns-in-None
returns-in-None c =
    let s : ScopeState = the_view c.self.inside in
    let none : end_with_id s.ends c.args.id ≡ None = rw c.deref.ensures.value at c.in-None.ensures.none in
    let change : End → End = end_with_verdict c.args.verdict in
    let ends = none_change c.args.id change s.ends none in
    subst (λ (s2 : ScopeState). s2 ≡ with_end_changed c.args.id change s2) c.self.view_is (λ i. record s { ends = ends i })

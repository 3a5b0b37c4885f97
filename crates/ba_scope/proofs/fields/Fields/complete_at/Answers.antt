use Rattle.std.proofs.Common.{◌≡◌, ◌<◌, None, length, refl, sym, subst, slice_get}
use Rattle.std.proofs.lemmas.Option.{slice_get_read}
use Rattle.ba_scope.specs.Fits.{ScopeFits}
use Rattle.ba_scope.specs.Rules.{with_end_changed}
use Rattle.ba_scope_ends.specs.Ends.{completing_end, end_with_id}
use Rattle.ba_scope.specs.Scope.{ScopeState}
use Rattle.ba_scope.specs.contracts.fields.Fields.{the_view}
use Rattle.ba_scope.proofs.Changes.{StandsAt, changed_there, with_end_at}
use Rattle.ba_scope.proofs.Tested.{none_change}
use Rattle.ba_scope.proofs.fields.Fields.complete_at.Goals as goal

pub returns-in-Some : goal.returns-in-Some
returns-in-Some c =
    let place = c.in-Some.place in
    let s : ScopeState = the_view c.self.inside in
    let fits = subst ScopeFits (sym c.self.view_is) c.requires in
    let within : place < length s.ends = rw c.deref.ensures.value at c.in-Some.ensures.within in
    let found : end_with_id s.ends c.args.id ≡ slice_get s.ends place = rw c.deref.ensures.value at c.in-Some.ensures.found in
    let at = slice_get_read s.ends (length s.ends) place c.index_mut.result.now refl within c.index_mut.ensures.value in
    let stands : StandsAt s c.args.id place c.index_mut.result.now = record { apart = fits.apart; found = found; at = at } in
    subst (λ (s2 : ScopeState). with_end_at s place c.complete.new.self ≡ with_end_changed c.args.id completing_end s2) c.self.view_is
    (sym (changed_there s c.args.id place c.index_mut.result.now c.complete.new.self completing_end stands c.complete.ensures))

pub returns-in-None : goal.returns-in-None
returns-in-None c =
    let s : ScopeState = the_view c.self.inside in
    let none : end_with_id s.ends c.args.id ≡ None = rw c.deref.ensures.value at c.in-None.ensures.none in
    let ends = none_change c.args.id completing_end s.ends none in
    subst (λ (s2 : ScopeState). s2 ≡ with_end_changed c.args.id completing_end s2) c.self.view_is (λ i. record s { ends = ends i })

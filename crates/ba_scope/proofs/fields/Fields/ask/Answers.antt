use Rattle.std.proofs.Common.{◌≡◌, ◌<◌, length, refl, sym, subst, slice_get}
use Rattle.std.proofs.lemmas.Option.{slice_get_read}
use Rattle.ba_scope.specs.Fits.{ScopeFits}
use Rattle.ba_scope.specs.Rules.{ask}
use Rattle.ba_scope_ends.specs.Ends.{end_with_id}
use Rattle.ba_scope.specs.Scope.{ScopeState}
use Rattle.ba_scope.specs.contracts.fields.Fields.{the_view}
use Rattle.ba_scope.proofs.Changes.{StandsAt, with_end_at, asking_at}
use Rattle.ba_scope.proofs.fields.Fields.ask.Goals as goal

pub returns-in-Some : goal.returns-in-Some
returns-in-Some c =
    let place = c.in-Some.place in
    let s : ScopeState = the_view c.self.inside in
    let fits = subst ScopeFits (sym c.self.view_is) c.requires in
    let within : place < length s.ends = rw c.deref.ensures.value at c.in-Some.ensures.within in
    let found : end_with_id s.ends c.args.id ≡ slice_get s.ends place = rw c.deref.ensures.value at c.in-Some.ensures.found in
    let at = slice_get_read s.ends (length s.ends) place c.index_mut.result.now refl within c.index_mut.ensures.value in
    let stands : StandsAt s c.args.id place c.index_mut.result.now = record { apart = fits.apart; found = found; at = at } in
    subst (λ (s2 : ScopeState). ask s2 c.args.id
    ≡ record { after = with_end_at s place c.ask.new.self; answer = c.ask.result }) c.self.view_is
    (asking_at s c.args.id place c.index_mut.result.now c.ask.new.self c.ask.result stands c.ask.ensures.end c.ask.ensures.first)

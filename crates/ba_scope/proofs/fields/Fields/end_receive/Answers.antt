use Rattle.std.proofs.Common.{◌≡◌, ◌<◌, length, refl, sym, subst, slice_get}
use Rattle.std.proofs.lemmas.Option.{slice_get_read}
use Rattle.ba_scope.specs.Fits.{ScopeFits}
use Rattle.ba_scope.specs.Rules.{end_receive}
use Rattle.ba_scope_ends.specs.Ends.{end_with_id}
use Rattle.ba_scope.specs.Scope.{ScopeState}
use Rattle.ba_scope.specs.contracts.fields.Fields.{the_view}
use Rattle.ba_scope.proofs.Changes.{StandsAt, with_end_at, received_at}
use Rattle.ba_scope.proofs.fields.Fields.end_receive.Goals as goal

pub returns-in-Some : goal.returns-in-Some
returns-in-Some c =
    let place = c.in-Some.place in
    let s : ScopeState = the_view c.self.inside in
    let fits = subst ScopeFits (sym c.self.view_is) c.requires.fits in
    let within : place < length s.ends = rw c.deref.ensures.value at c.in-Some.ensures.within in
    let found : end_with_id s.ends c.args.id ≡ slice_get s.ends place = rw c.deref.ensures.value at c.in-Some.ensures.found in
    let at = slice_get_read s.ends (length s.ends) place c.index_mut.result.now refl within c.index_mut.ensures.value in
    let stands : StandsAt s c.args.id place c.index_mut.result.now = record { apart = fits.apart; found = found; at = at } in
    subst (λ (s2 : ScopeState). end_receive s2 c.args.id c.args.notice
    ≡ record { after = with_end_at s place c.receive.new.self; answer = c.receive.result }) c.self.view_is
    (received_at s c.args.id c.args.notice place c.index_mut.result.now c.receive.new.self c.receive.result stands
    c.receive.ensures.end c.receive.ensures.row)

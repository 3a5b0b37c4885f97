use Rattle.std.proofs.Common.{true, ◌≡◌, ◌∙◌, ap, subst, sym}
use Rattle.std.specs.FinMap as map
use Rattle.ba_core.specs.Numbers.{counter_of}
use Rattle.ba_resend.specs.Plans.{Planned, HasRoom}
use Rattle.ba_resend.specs.inside.Rows.{planned_of, row_at}
use Rattle.ba_resend.proofs.RowLemmas.{get_planned, get_nowhere}
use Rattle.ba_resend.proofs.plans.Plan.due.Goals as goal

pub returns-then-has_room : goal.returns-then-has_room
returns-then-has_room c =
    let has : HasRoom (planned_of c.self.inside.node c.self.inside.room c.self.inside.shares.items) c.args.id.0 =
    subst (λ p. HasRoom p c.args.id.0) (sym c.self.view_is) (c.has_room.ensures.0 c.if-has_room.true) in
    c.row.ensures ∙ ap (λ s. row_at s c.counter.result) c.deref.ensures.value ∙ ap (row_at c.self.inside.shares.items) c.counter.ensures
    ∙ get_planned c.self.inside.node c.self.inside.room c.self.inside.shares.items c.args.id.0 has
    ∙ ap (λ (p : Planned). map.get p.due c.args.id.0) c.self.view_is

pub returns-else-has_room : goal.returns-else-has_room
returns-else-has_room c =
    sym (get_nowhere c.self.inside.node c.self.inside.room c.self.inside.shares.items c.args.id.0 c.self.invariant
    (λ h. (let r : HasRoom c.args.self.now c.args.id.0 = subst
    (λ p. HasRoom p c.args.id.0) c.self.view_is h in let yes : c.has_room.result ≡ true = c.has_room.ensures.1 r in let h : ⊥ =
    cc in h)))
    ∙ ap (λ (p : Planned). map.get p.due c.args.id.0) c.self.view_is

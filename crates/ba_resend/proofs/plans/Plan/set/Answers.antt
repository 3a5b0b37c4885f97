use Rattle.std.proofs.Common.{rules, ◌≡◌, ◌∙◌, ap, subst, sym}
use Rattle.std.proofs.lemmas.List.{with_items_is}
use Rattle.ba_core.specs.Numbers.{counter_of}
use Rattle.ba_resend.specs.Plans.{Planned, HasRoom, due_with}
use Rattle.ba_resend.specs.inside.Rows.{planned_of, shares_with_row}
use Rattle.ba_resend.proofs.RowLemmas.{set_planned}
use Rattle.ba_resend.proofs.plans.Plan.set.Goals as goal

pub returns : goal.returns
returns c =
    let has : HasRoom (planned_of c.self.inside.node c.self.inside.room c.self.inside.shares.items) c.args.id.0 =
    subst (λ p. HasRoom p c.args.id.0) (sym c.self.view_is) c.requires in
    let same : c.set_row.new.shares ≡ shares_with_row c.self.inside.shares.items (counter_of c.args.id.0) c.args.due =
    c.set_row.ensures ∙ ap (λ s. shares_with_row s c.counter.result c.args.due) c.deref_mut.ensures.value
    ∙ ap (λ k. shares_with_row c.self.inside.shares.items k c.args.due) c.counter.ensures in
    ap (planned_of c.self.inside.node c.self.inside.room) (with_items_is c.self.inside.shares c.set_row.new.shares (search rules) ∙ same)
    ∙ set_planned c.self.inside.node c.self.inside.room c.self.inside.shares.items c.args.id.0 c.args.due c.self.invariant has
    ∙ ap (λ (p : Planned). record {
      node = p.node;
      senders = p.senders;
      room = p.room;
      due =
          due_with p.due c.args.id.0 c.args.due;
    }) c.self.view_is

use Rattle.std.proofs.Common.{rules, max, ◌≡◌, ◌+◌, ◌≤◌, [], ◌∙◌, ap, subst, sym, arith, length, get_or}
use Rattle.std.proofs.lemmas.List.{with_items_is}
use Rattle.ba_resend.specs.Plans.{Planned}
use Rattle.ba_resend.specs.inside.Rows.{planned_of}
use Rattle.ba_resend.specs.inside.Tournaments.{slot}
use Rattle.ba_resend.proofs.RowLemmas.{HaveGrown, roomier_planned, roomier_fits, grown_planned, grown_fits}
use Rattle.ba_resend.proofs.plans.Plan.reserve.Goals as goal

pub returns-clause-room : goal.returns-clause-room
returns-clause-room c =
    let value : c.deref_mut.result.now ≡ c.self.inside.shares.items = c.deref_mut.ensures.value in
    let grown : HaveGrown c.self.inside.shares.items c.widen.new.shares = record {
      senders = c.widen.ensures.senders ∙ ap length value;
      slots = λ s j. c.widen.ensures.slots s j ∙ ap (λ l. slot (get_or l s []) j) value;
      longer = λ s. subst (λ l. length (get_or l s []) ≤ length (get_or c.widen.new.shares s [])) value (c.widen.ensures.longer s);
    } in
    let room : c.in-Some.room ≡ c.args.last + 1 = omega (arith, c.in-Some.ensures) in
    ap (planned_of c.self.inside.node c.in-Some.room) (with_items_is c.self.inside.shares c.widen.new.shares (search rules))
    ∙ ap (λ k. planned_of c.self.inside.node k c.widen.new.shares) room
    ∙ roomier_planned c.self.inside.node c.self.inside.room c.args.last c.self.inside.shares.items c.widen.new.shares grown c.self.invariant c.if-last-self.false
    ∙ ap (λ (p : Planned). record { node = p.node; senders = p.senders; room = max p.room (c.args.last + 1); due = p.due }) c.self.view_is

use Rattle.std.proofs.Common.{true, ◌≡◌, subst}
use Rattle.std.specs.FinMap as map
use Rattle.ba_resend.specs.Plans.{Planned, HasRoom}
use Rattle.ba_resend.proofs.RowLemmas.{quiet_planned}
use Rattle.ba_resend.proofs.plans.Plan.quiet.Goals as goal

pub returns-else-has_room : goal.returns-else-has_room
returns-else-has_room c =
    subst (λ (p : Planned). p ≡ record {
      node = p.node;
      senders = p.senders;
      room = p.room;
      due =
          map.remove p.due c.args.id.0;
    }) c.self.view_is
    (quiet_planned c.self.inside.node c.self.inside.room c.self.inside.shares.items c.args.id.0 c.self.invariant
    (λ h. (let r : HasRoom c.args.self.now c.args.id.0 = subst (λ p. HasRoom p c.args.id.0) c.self.view_is h in
    let yes : c.has_room.result ≡ true = c.has_room.ensures.1 r in let h : ⊥ = cc in h)))

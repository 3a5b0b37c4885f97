use Rattle.std.proofs.Common.{ℕ, None, ◌≡◌, ◌<◌, ◌+◌, ◌*◌, List, [], ◌∙◌, ap, subst, sym, arith, length, get_or}
use Rattle.std.proofs.lemmas.List.{get_or_default}
use Rattle.ba_core.specs.Numbers.{id_of}
use Rattle.ba_resend.specs.Plans.{Planned, IsNoneDue, IsLeastDue}
use Rattle.ba_resend.specs.inside.Tournaments.{IsFirst, IsFirstOf, slot}
use Rattle.ba_resend.proofs.RowLemmas.{none_next, later_next, first_next, first_fits}
use Rattle.ba_resend.proofs.plans.Plan.next.Goals as goal

pub returns-in_default : goal.returns-in_default
returns-in_default c =
    let low : c.args.share < length c.self.inside.shares.items = subst (λ (p : Planned). c.args.share < p.senders)
    (sym c.self.view_is) c.requires in
    let is : c.index.result.now ≡ get_or c.self.inside.shares.items c.args.share [] =
    c.index.ensures ∙ get_or_default c.self.inside.shares.items c.args.share c.index.result.now [] low in
    let h : (j : ℕ) → slot c.index.result.now j ≡ None = c.in_default.ensures in
    subst (λ (p : Planned). IsNoneDue p.due p.senders c.args.share c.args.now) c.self.view_is
    (none_next c.self.inside.node c.self.inside.room c.self.inside.shares.items c.args.share c.args.now c.self.invariant
    (λ j. sym (ap (λ s. slot s j) is) ∙ h j))

pub returns-then-now-first : goal.returns-then-now-first
returns-then-now-first c =
    let low : c.args.share < length c.self.inside.shares.items = subst (λ (p : Planned). c.args.share < p.senders)
    (sym c.self.view_is) c.requires in
    let is : c.index.result.now ≡ get_or c.self.inside.shares.items c.args.share [] =
    c.index.ensures ∙ get_or_default c.self.inside.shares.items c.args.share c.index.result.now [] low in
    let first : IsFirst (get_or c.self.inside.shares.items c.args.share []) c.in-Some.first = subst
    (λ s. IsFirst s c.in-Some.first) is c.in-Some.ensures in
    subst (λ (p : Planned). IsNoneDue p.due p.senders c.args.share c.args.now) c.self.view_is
    (later_next c.self.inside.node c.self.inside.room c.self.inside.shares.items c.args.share c.args.now c.in-Some.first c.self.invariant first c.if-now-first.true)

pub overflow_mul-first : goal.overflow_mul-first
overflow_mul-first c =
    let low : c.args.share < length c.self.inside.shares.items = subst (λ (p : Planned). c.args.share < p.senders)
    (sym c.self.view_is) c.requires in
    let is : c.index.result.now ≡ get_or c.self.inside.shares.items c.args.share [] =
    c.index.ensures ∙ get_or_default c.self.inside.shares.items c.args.share c.index.result.now [] low in
    let first : IsFirst (get_or c.self.inside.shares.items c.args.share []) c.in-Some.first = subst
    (λ s. IsFirst s c.in-Some.first) is c.in-Some.ensures in
    let below : c.in-Some.first.place * length c.self.inside.shares.items + c.args.share < c.self.inside.room =
    first_fits c.self.inside.shares.items c.self.inside.room c.args.share c.in-Some.first c.self.invariant low first in
    let len : c.len-senders.result ≡ length c.self.inside.shares.items = omega (arith, c.len-senders.ensures) in
    let product : c.in-Some.first.place * c.len-senders.result ≡ c.in-Some.first.place * length c.self.inside.shares.items =
    ap (λ k. c.in-Some.first.place * k) len in
    omega (arith, product, below, c.self.invariant.small)

pub overflow_add-first : goal.overflow_add-first
overflow_add-first c =
    let low : c.args.share < length c.self.inside.shares.items = subst (λ (p : Planned). c.args.share < p.senders)
    (sym c.self.view_is) c.requires in
    let is : c.index.result.now ≡ get_or c.self.inside.shares.items c.args.share [] =
    c.index.ensures ∙ get_or_default c.self.inside.shares.items c.args.share c.index.result.now [] low in
    let first : IsFirst (get_or c.self.inside.shares.items c.args.share []) c.in-Some.first = subst
    (λ s. IsFirst s c.in-Some.first) is c.in-Some.ensures in
    let below : c.in-Some.first.place * length c.self.inside.shares.items + c.args.share < c.self.inside.room =
    first_fits c.self.inside.shares.items c.self.inside.room c.args.share c.in-Some.first c.self.invariant low first in
    let len : c.len-senders.result ≡ length c.self.inside.shares.items = omega (arith, c.len-senders.ensures) in
    let product : c.in-Some.first.place * c.len-senders.result ≡ c.in-Some.first.place * length c.self.inside.shares.items =
    ap (λ k. c.in-Some.first.place * k) len in
    omega (arith, product, below, c.self.invariant.small)

pub returns : goal.returns
returns c =
    let low : c.args.share < length c.self.inside.shares.items = subst (λ (p : Planned). c.args.share < p.senders)
    (sym c.self.view_is) c.requires in
    let is : c.index.result.now ≡ get_or c.self.inside.shares.items c.args.share [] =
    c.index.ensures ∙ get_or_default c.self.inside.shares.items c.args.share c.index.result.now [] low in
    let first : IsFirst (get_or c.self.inside.shares.items c.args.share []) c.in-Some.first = subst
    (λ s. IsFirst s c.in-Some.first) is c.in-Some.ensures in
    let len : c.len-senders.result ≡ length c.self.inside.shares.items = omega (arith, c.len-senders.ensures) in
    subst (λ (p : Planned). IsLeastDue p.due p.senders c.args.share c.args.now c.of.result.0) c.self.view_is
    (first_next c.self.inside.node c.self.inside.room c.self.inside.shares.items c.args.share c.args.now c.in-Some.first c.of.result.0
    c.self.invariant low first c.if-now-first.false
    (c.of.ensures.id ∙ ap (λ k. id_of c.self.inside.node (c.in-Some.first.place * k + c.args.share)) len))

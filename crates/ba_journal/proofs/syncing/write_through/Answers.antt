use Rattle.std.proofs.Common.{length, inl, inr, IsTrue, refl, sym, subst, rules}
use Rattle.ba_ports.specs.Disk.{Torn}
use Rattle.ba_ports.proofs.Moments.{started, goes_on}
use Rattle.ba_journal.specs.inside.Syncing.{MayHaveChanged}
use Rattle.ba_journal.proofs.syncing.write_through.Goals as goal

pub returns-in_err-write_at-clause-any_moment : goal.returns-in_err-write_at-clause-any_moment
returns-in_err-write_at-clause-any_moment g c =
    let D = g.D.Disk in
    let laws = g.met.D.Disk in
    let d = c.args.disk.now in
    λ follows.
    let P = MayHaveChanged (Torn c.args.place (length c.args.piece.now)) (D.may_leave d) in
    let at_start = started D.later D.left_between d P (laws.no_call d) (λ f left. inl (laws.only_now d f left)) in
    goes_on D.later D.left_between d d c.write_at.new.self P _ laws.call_after_call at_start
    (c.write_at.ensures.moments follows) (λ f now. inr now)

pub returns-in_err-sync-clause-any_moment : goal.returns-in_err-sync-clause-any_moment
returns-in_err-sync-clause-any_moment g c =
    let D = g.D.Disk in
    let laws = g.met.D.Disk in
    let d = c.args.disk.now in
    λ follows.
    let P = MayHaveChanged (Torn c.args.place (length c.args.piece.now)) (D.may_leave d) in
    let at_start = started D.later D.left_between d P (laws.no_call d) (λ f left. inl (laws.only_now d f left)) in
    let changed = goes_on D.later D.left_between d d c.write_at.new.self P _ laws.call_after_call at_start
    (c.write_at.ensures.moments follows) (λ f now. inr now) in
    let f1 = subst IsTrue (sym c.write_at.ensures.follows) follows in
    goes_on D.later D.left_between d c.write_at.new.self c.sync.new.self P _ laws.call_after_call changed
    (c.sync.ensures.moments f1) (λ f now. inr (c.write_at.ensures.crash follows f now))

pub returns-clause-any_moment : goal.returns-clause-any_moment
returns-clause-any_moment g c =
    let D = g.D.Disk in
    let laws = g.met.D.Disk in
    let d = c.args.disk.now in
    λ follows.
    let P = MayHaveChanged (Torn c.args.place (length c.args.piece.now)) (D.may_leave d) in
    let at_start = started D.later D.left_between d P (laws.no_call d) (λ f left. inl (laws.only_now d f left)) in
    let changed = goes_on D.later D.left_between d d c.write_at.new.self P _ laws.call_after_call at_start
    (c.write_at.ensures.moments follows) (λ f now. inr now) in
    let f1 = subst IsTrue (sym c.write_at.ensures.follows) follows in
    goes_on D.later D.left_between d c.write_at.new.self c.sync.new.self P _ laws.call_after_call changed
    (c.sync.ensures.moments f1) (λ f now. inr (c.write_at.ensures.crash follows f now))

pub returns-in_err-sync-clause-calls : goal.returns-in_err-sync-clause-calls
returns-in_err-sync-clause-calls g c =
    let two = g.met.D.Disk.driven_on c.args.disk.now c.write_at.new.self c.sync.new.self _ _ c.in_ok-write_at.ensures.driven
    c.in_err-sync.ensures.driven in
    (_, two, inr (_, refl, inl (search rules, refl)))

pub returns-clause-calls : goal.returns-clause-calls
returns-clause-calls g c =
    let two = g.met.D.Disk.driven_on c.args.disk.now c.write_at.new.self c.sync.new.self _ _ c.in_ok-write_at.ensures.driven
    c.in_ok-sync.ensures.driven in
    (_, two, inr (_, refl, inr (_, refl, (refl, refl))))

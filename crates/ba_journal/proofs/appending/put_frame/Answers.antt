use Rattle.std.proofs.Common.{◌≡◌, ◌+◌, inl, inr, [], ◌∷◌, ◌++◌, length, refl, sym, ◌∙◌, ap, subst, arith, IsTrue, rules}
use Rattle.ba_ports.specs.Disk.{Done, Only, Torn, written_at}
use Rattle.ba_ports.proofs.Moments.{started, goes_on}
use Rattle.ba_journal.specs.Journals.{AtRest, StandsWithOrWithout}
use Rattle.ba_journal.specs.Frames.{StandsFor}
use Rattle.ba_journal.proofs.FrameWrites.{length-written, written_behind, written_gate, length-after, stage_crash, gate_crash, after}
use Rattle.ba_journal.proofs.appending.put_frame.Goals as goal

pub write_at-requires : goal.write_at-requires
write_at-requires g c = λ follows. omega (arith, c.requires.place follows)

pub write_at-requires-2 : goal.write_at-requires-2
write_at-requires-2 g c = λ f2.
    let follows = subst IsTrue (c.sync.ensures.follows ∙ c.write_at.ensures.follows) f2 in
    let f1 = subst IsTrue c.sync.ensures.follows f2 in
    let longer = c.write_at.ensures.torn follows in
    omega (arith, c.requires.place follows, longer.no_shorter, ap length (c.sync.ensures.seen f1))

pub returns-in_err-write_at-clause-any_moment : goal.returns-in_err-write_at-clause-any_moment
returns-in_err-write_at-clause-any_moment g c =
    let D = g.D.Disk in
    let laws = g.met.D.Disk in
    let d = c.args.disk.now in
    let n = c.args.gate in
    let b = c.args.behind.now in
    λ follows records last s frame.
    let file = D.seen d in
    let P = StandsWithOrWithout records last in
    let at_start = started D.later D.left_between d P (laws.no_call d)
    (λ f left. inl (subst (λ x. StandsFor x records) (sym (s.durable f (laws.only_now d f left))) (inr (0 ∷ [], s.at_rest)))) in
    let first = stage_crash file records n s.at_rest s.place (length b) _ _ s.durable (c.write_at.ensures.crash follows) in
    let f1 = subst IsTrue (sym c.write_at.ensures.follows) follows in
    let behind = goes_on D.later D.left_between d d c.write_at.new.self P _ laws.call_after_call at_start
    (c.write_at.ensures.moments follows) (λ f now. inl
    (stage_crash file records n s.at_rest s.place (length b) (D.may_leave d) (Done (Torn (n + 1) (length b)) (D.may_leave d)) s.durable
    (λ e x. x) f now)) in
    behind

pub returns-in_err-sync-clause-any_moment : goal.returns-in_err-sync-clause-any_moment
returns-in_err-sync-clause-any_moment g c =
    let D = g.D.Disk in
    let laws = g.met.D.Disk in
    let d = c.args.disk.now in
    let n = c.args.gate in
    let b = c.args.behind.now in
    λ follows records last s frame.
    let file = D.seen d in
    let P = StandsWithOrWithout records last in
    let at_start = started D.later D.left_between d P (laws.no_call d)
    (λ f left. inl (subst (λ x. StandsFor x records) (sym (s.durable f (laws.only_now d f left))) (inr (0 ∷ [], s.at_rest)))) in
    let first = stage_crash file records n s.at_rest s.place (length b) _ _ s.durable (c.write_at.ensures.crash follows) in
    let f1 = subst IsTrue (sym c.write_at.ensures.follows) follows in
    let behind = goes_on D.later D.left_between d d c.write_at.new.self P _ laws.call_after_call at_start
    (c.write_at.ensures.moments follows) (λ f now. inl
    (stage_crash file records n s.at_rest s.place (length b) (D.may_leave d) (Done (Torn (n + 1) (length b)) (D.may_leave d)) s.durable
    (λ e x. x) f now)) in
    let f2 = subst IsTrue (sym c.sync.ensures.follows) f1 in
    let kept = goes_on D.later D.left_between d c.write_at.new.self c.sync.new.self P _ laws.call_after_call behind
    (c.sync.ensures.moments f1) (λ f now. inl (first f now)) in
    kept

pub returns-in_err-sync-clause-calls : goal.returns-in_err-sync-clause-calls
returns-in_err-sync-clause-calls g c =
    let two = g.met.D.Disk.driven_on c.args.disk.now c.write_at.new.self c.sync.new.self _ _ c.in_ok-write_at.ensures.driven
    c.in_err-sync.ensures.driven in
    (_, two, inr (_, refl, inl (search rules, refl)))

pub returns-in_err-write_at-2-clause-any_moment : goal.returns-in_err-write_at-2-clause-any_moment
returns-in_err-write_at-2-clause-any_moment g c =
    let D = g.D.Disk in
    let laws = g.met.D.Disk in
    let d = c.args.disk.now in
    let n = c.args.gate in
    let b = c.args.behind.now in
    λ follows records last s frame.
    let file = D.seen d in
    let P = StandsWithOrWithout records last in
    let at_start = started D.later D.left_between d P (laws.no_call d)
    (λ f left. inl (subst (λ x. StandsFor x records) (sym (s.durable f (laws.only_now d f left))) (inr (0 ∷ [], s.at_rest)))) in
    let first = stage_crash file records n s.at_rest s.place (length b) _ _ s.durable (c.write_at.ensures.crash follows) in
    let f1 = subst IsTrue (sym c.write_at.ensures.follows) follows in
    let behind = goes_on D.later D.left_between d d c.write_at.new.self P _ laws.call_after_call at_start
    (c.write_at.ensures.moments follows) (λ f now. inl
    (stage_crash file records n s.at_rest s.place (length b) (D.may_leave d) (Done (Torn (n + 1) (length b)) (D.may_leave d)) s.durable
    (λ e x. x) f now)) in
    let f2 = subst IsTrue (sym c.sync.ensures.follows) f1 in
    let kept = goes_on D.later D.left_between d c.write_at.new.self c.sync.new.self P _ laws.call_after_call behind
    (c.sync.ensures.moments f1) (λ f now. inl (first f now)) in
    let is_staged = c.in_ok-write_at.ensures.written follows ∙ written_behind file records n s.at_rest s.place b in
    let only_staged = subst (λ f. Only f (D.may_leave c.sync.new.self)) is_staged (c.in_ok-sync.ensures.durable f1) in
    let second = gate_crash file records n s.at_rest s.place last b frame _ _ only_staged (c.write_at-2.ensures.crash f2) in
    let f3 = subst IsTrue (sym c.write_at-2.ensures.follows) f2 in
    let opened = goes_on D.later D.left_between d c.sync.new.self c.write_at-2.new.self P _ laws.call_after_call kept
    (c.write_at-2.ensures.moments f2) (λ f now. gate_crash file records n s.at_rest s.place last b frame (D.may_leave c.sync.new.self)
    (Done (Torn n 1) (D.may_leave c.sync.new.self)) only_staged (λ e x. x) f now) in
    opened

pub returns-in_err-write_at-2-clause-calls : goal.returns-in_err-write_at-2-clause-calls
returns-in_err-write_at-2-clause-calls g c =
    let two = g.met.D.Disk.driven_on c.args.disk.now c.write_at.new.self c.sync.new.self _ _ c.in_ok-write_at.ensures.driven
    c.in_ok-sync.ensures.driven in
    let three = g.met.D.Disk.driven_on c.args.disk.now c.sync.new.self c.write_at-2.new.self _ _ two c.in_err-write_at-2.ensures.driven in
    (_, three, inr (_, refl, inr (_, refl, inl (search rules, refl))))

pub returns-in_err-sync-2-clause-any_moment : goal.returns-in_err-sync-2-clause-any_moment
returns-in_err-sync-2-clause-any_moment g c =
    let D = g.D.Disk in
    let laws = g.met.D.Disk in
    let d = c.args.disk.now in
    let n = c.args.gate in
    let b = c.args.behind.now in
    λ follows records last s frame.
    let file = D.seen d in
    let P = StandsWithOrWithout records last in
    let at_start = started D.later D.left_between d P (laws.no_call d)
    (λ f left. inl (subst (λ x. StandsFor x records) (sym (s.durable f (laws.only_now d f left))) (inr (0 ∷ [], s.at_rest)))) in
    let first = stage_crash file records n s.at_rest s.place (length b) _ _ s.durable (c.write_at.ensures.crash follows) in
    let f1 = subst IsTrue (sym c.write_at.ensures.follows) follows in
    let behind = goes_on D.later D.left_between d d c.write_at.new.self P _ laws.call_after_call at_start
    (c.write_at.ensures.moments follows) (λ f now. inl
    (stage_crash file records n s.at_rest s.place (length b) (D.may_leave d) (Done (Torn (n + 1) (length b)) (D.may_leave d)) s.durable
    (λ e x. x) f now)) in
    let f2 = subst IsTrue (sym c.sync.ensures.follows) f1 in
    let kept = goes_on D.later D.left_between d c.write_at.new.self c.sync.new.self P _ laws.call_after_call behind
    (c.sync.ensures.moments f1) (λ f now. inl (first f now)) in
    let is_staged = c.in_ok-write_at.ensures.written follows ∙ written_behind file records n s.at_rest s.place b in
    let only_staged = subst (λ f. Only f (D.may_leave c.sync.new.self)) is_staged (c.in_ok-sync.ensures.durable f1) in
    let second = gate_crash file records n s.at_rest s.place last b frame _ _ only_staged (c.write_at-2.ensures.crash f2) in
    let f3 = subst IsTrue (sym c.write_at-2.ensures.follows) f2 in
    let opened = goes_on D.later D.left_between d c.sync.new.self c.write_at-2.new.self P _ laws.call_after_call kept
    (c.write_at-2.ensures.moments f2) (λ f now. gate_crash file records n s.at_rest s.place last b frame (D.may_leave c.sync.new.self)
    (Done (Torn n 1) (D.may_leave c.sync.new.self)) only_staged (λ e x. x) f now) in
    let ended = goes_on D.later D.left_between d c.write_at-2.new.self c.sync-2.new.self P _ laws.call_after_call opened
    (c.sync-2.ensures.moments f3) (λ f now. second f now) in
    ended

pub returns-in_err-sync-2-clause-calls : goal.returns-in_err-sync-2-clause-calls
returns-in_err-sync-2-clause-calls g c =
    let two = g.met.D.Disk.driven_on c.args.disk.now c.write_at.new.self c.sync.new.self _ _ c.in_ok-write_at.ensures.driven
    c.in_ok-sync.ensures.driven in
    let three = g.met.D.Disk.driven_on c.args.disk.now c.sync.new.self c.write_at-2.new.self _ _ two c.in_ok-write_at-2.ensures.driven in
    let four = g.met.D.Disk.driven_on c.args.disk.now c.write_at-2.new.self c.sync-2.new.self _ _ three c.in_err-sync-2.ensures.driven in
    (_, four, inr (_, refl, inr (_, refl, inr (_, refl, inl (search rules, refl)))))

pub returns-clause-acknowledged : goal.returns-clause-acknowledged
returns-clause-acknowledged g c =
    let D = g.D.Disk in
    let laws = g.met.D.Disk in
    let d = c.args.disk.now in
    let n = c.args.gate in
    let b = c.args.behind.now in
    λ follows records last s frame.
    let file = D.seen d in
    let f1 = subst IsTrue (sym c.write_at.ensures.follows) follows in
    let f2 = subst IsTrue (sym c.sync.ensures.follows) f1 in
    let f3 = subst IsTrue (sym c.write_at-2.ensures.follows) f2 in
    let is_staged = c.in_ok-write_at.ensures.written follows ∙ written_behind file records n s.at_rest s.place b in
    let is_after = c.sync-2.ensures.seen f3 ∙ c.in_ok-write_at-2.ensures.written f2
    ∙ ap (λ f. written_at n (1 ∷ []) f) (c.sync.ensures.seen f1 ∙ is_staged) ∙ written_gate file records n s.at_rest s.place b in
    let only_after = subst (λ f. Only f (D.may_leave c.sync-2.new.self)) (sym (c.sync-2.ensures.seen f3))
    (c.in_ok-sync-2.ensures.durable f3) in
    record {
      at_rest = subst (λ f. AtRest f (records ++ last ∷ [])) (sym is_after) (after file records n s.at_rest s.place last b frame);
      place = omega (arith, ap length is_after, length-after file records n s.at_rest s.place b);
      durable = only_after;
    }

pub returns-clause-any_moment : goal.returns-clause-any_moment
returns-clause-any_moment g c =
    let D = g.D.Disk in
    let laws = g.met.D.Disk in
    let d = c.args.disk.now in
    let n = c.args.gate in
    let b = c.args.behind.now in
    λ follows records last s frame.
    let file = D.seen d in
    let P = StandsWithOrWithout records last in
    let at_start = started D.later D.left_between d P (laws.no_call d)
    (λ f left. inl (subst (λ x. StandsFor x records) (sym (s.durable f (laws.only_now d f left))) (inr (0 ∷ [], s.at_rest)))) in
    let first = stage_crash file records n s.at_rest s.place (length b) _ _ s.durable (c.write_at.ensures.crash follows) in
    let f1 = subst IsTrue (sym c.write_at.ensures.follows) follows in
    let behind = goes_on D.later D.left_between d d c.write_at.new.self P _ laws.call_after_call at_start
    (c.write_at.ensures.moments follows) (λ f now. inl
    (stage_crash file records n s.at_rest s.place (length b) (D.may_leave d) (Done (Torn (n + 1) (length b)) (D.may_leave d)) s.durable
    (λ e x. x) f now)) in
    let f2 = subst IsTrue (sym c.sync.ensures.follows) f1 in
    let kept = goes_on D.later D.left_between d c.write_at.new.self c.sync.new.self P _ laws.call_after_call behind
    (c.sync.ensures.moments f1) (λ f now. inl (first f now)) in
    let is_staged = c.in_ok-write_at.ensures.written follows ∙ written_behind file records n s.at_rest s.place b in
    let only_staged = subst (λ f. Only f (D.may_leave c.sync.new.self)) is_staged (c.in_ok-sync.ensures.durable f1) in
    let second = gate_crash file records n s.at_rest s.place last b frame _ _ only_staged (c.write_at-2.ensures.crash f2) in
    let f3 = subst IsTrue (sym c.write_at-2.ensures.follows) f2 in
    let opened = goes_on D.later D.left_between d c.sync.new.self c.write_at-2.new.self P _ laws.call_after_call kept
    (c.write_at-2.ensures.moments f2) (λ f now. gate_crash file records n s.at_rest s.place last b frame (D.may_leave c.sync.new.self)
    (Done (Torn n 1) (D.may_leave c.sync.new.self)) only_staged (λ e x. x) f now) in
    let ended = goes_on D.later D.left_between d c.write_at-2.new.self c.sync-2.new.self P _ laws.call_after_call opened
    (c.sync-2.ensures.moments f3) (λ f now. second f now) in
    ended

pub returns-clause-calls : goal.returns-clause-calls
returns-clause-calls g c =
    let two = g.met.D.Disk.driven_on c.args.disk.now c.write_at.new.self c.sync.new.self _ _ c.in_ok-write_at.ensures.driven
    c.in_ok-sync.ensures.driven in
    let three = g.met.D.Disk.driven_on c.args.disk.now c.sync.new.self c.write_at-2.new.self _ _ two c.in_ok-write_at-2.ensures.driven in
    let four = g.met.D.Disk.driven_on c.args.disk.now c.write_at-2.new.self c.sync-2.new.self _ _ three c.in_ok-sync-2.ensures.driven in
    (_, four, inr (_, refl, inr (_, refl, inr (_, refl, inr (_, refl, (refl, refl))))))

pub returns-clause-place : goal.returns-clause-place
returns-clause-place g c = λ follows.
    let D = g.D.Disk in
    let n = c.args.gate in
    let b = c.args.behind.now in
    let file = D.seen c.args.disk.now in
    let f1 = subst IsTrue (sym c.write_at.ensures.follows) follows in
    let f2 = subst IsTrue (sym c.sync.ensures.follows) f1 in
    let f3 = subst IsTrue (sym c.write_at-2.ensures.follows) f2 in
    let staged = written_at (n + 1) b file in
    let is_staged : D.seen c.sync.new.self ≡ staged = c.sync.ensures.seen f1 ∙ c.in_ok-write_at.ensures.written follows in
    let is_after : D.seen c.sync-2.new.self ≡ written_at n (1 ∷ []) staged =
    c.sync-2.ensures.seen f3 ∙ c.in_ok-write_at-2.ensures.written f2 ∙ ap (λ f. written_at n (1 ∷ []) f) is_staged in
    let first = length-written (n + 1) b file (omega (arith, c.requires.place follows)) in
    let second = length-written n (1 ∷ []) staged (omega (arith, first, c.requires.place follows)) in
    omega (arith, ap length is_after, first, second, c.requires.place follows)

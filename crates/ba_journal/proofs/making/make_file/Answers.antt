use Rattle.std.proofs.Common.{◌≡◌, inl, Bool, true, false, [], ◌∷◌, ◌++◌, List, ℕ, IsTrue, is_err, refl, sym, ◌∙◌, ap, subst, rules}
use Rattle.ba_ports.specs.Disk.{InTurn, Only, written_at}
use Rattle.ba_ports.proofs.Moments.{started}
use Rattle.ba_ports.specs.declared.requests.Request.TheVariants.{WriteAt, Cut, Sync}
use Rattle.ba_journal.specs.Frames.{StandsFor}
use Rattle.ba_journal.specs.Loads.{making}
use Rattle.ba_journal.proofs.NewFile.{behind_first, cut_is_fresh, first_is_fresh, others_are_fresh, first_set}
use Rattle.ba_journal.proofs.Turns.{in_turn_on, in_turn_stopped, changing}
use Rattle.ba_journal.proofs.making.make_file.Goals as goal

pub returns-in_err-cut_through-clause-any_moment : goal.returns-in_err-cut_through-clause-any_moment
returns-in_err-cut_through-clause-any_moment g c =
    let D = g.D.Disk in
    let laws = g.met.D.Disk in
    let d = c.args.disk.now in
    λ follows fresh only.
    let P : List ℕ → Type 0 = λ left. StandsFor left [] in
    let at_start = started D.later D.left_between d P (laws.no_call d)
    (λ f left. subst P (sym (only f (laws.only_now d f left))) (inl (fresh, refl))) in
    let cut = changing D.later D.left_between d d c.cut_through.new.disk (D.may_leave d) _ (D.seen d) P laws.call_after_call
    at_start (c.cut_through.ensures.any_moment follows) only (inl (fresh, refl))
    (λ f left. inl (cut_is_fresh (D.seen d) f fresh left, refl)) in
    cut

pub returns-in_err-write_through-clause-any_moment : goal.returns-in_err-write_through-clause-any_moment
returns-in_err-write_through-clause-any_moment g c =
    let D = g.D.Disk in
    let laws = g.met.D.Disk in
    let d = c.args.disk.now in
    λ follows fresh only.
    let P : List ℕ → Type 0 = λ left. StandsFor left [] in
    let at_start = started D.later D.left_between d P (laws.no_call d)
    (λ f left. subst P (sym (only f (laws.only_now d f left))) (inl (fresh, refl))) in
    let cut = changing D.later D.left_between d d c.cut_through.new.disk (D.may_leave d) _ (D.seen d) P laws.call_after_call
    at_start (c.cut_through.ensures.any_moment follows) only (inl (fresh, refl))
    (λ f left. inl (cut_is_fresh (D.seen d) f fresh left, refl)) in
    let f1 = subst IsTrue (sym c.cut_through.ensures.follows) follows in
    let is_cut : D.seen c.cut_through.new.disk ≡ [] = c.in_ok-cut_through.ensures.cut follows in
    let only_1 = subst (λ (f : List ℕ). Only f (D.may_leave c.cut_through.new.disk)) is_cut (c.in_ok-cut_through.ensures.durable follows) in
    let first = changing D.later D.left_between d c.cut_through.new.disk c.write_through.new.disk (D.may_leave c.cut_through.new.disk) _ []
    P laws.call_after_call
    cut (c.write_through.ensures.any_moment f1) only_1 (inl (refl, refl)) (λ f left. inl (first_is_fresh f left, refl)) in
    first

pub returns-in_err-write_through-2-clause-any_moment : goal.returns-in_err-write_through-2-clause-any_moment
returns-in_err-write_through-2-clause-any_moment g c =
    let D = g.D.Disk in
    let laws = g.met.D.Disk in
    let d = c.args.disk.now in
    λ follows fresh only.
    let P : List ℕ → Type 0 = λ left. StandsFor left [] in
    let at_start = started D.later D.left_between d P (laws.no_call d)
    (λ f left. subst P (sym (only f (laws.only_now d f left))) (inl (fresh, refl))) in
    let cut = changing D.later D.left_between d d c.cut_through.new.disk (D.may_leave d) _ (D.seen d) P laws.call_after_call
    at_start (c.cut_through.ensures.any_moment follows) only (inl (fresh, refl))
    (λ f left. inl (cut_is_fresh (D.seen d) f fresh left, refl)) in
    let f1 = subst IsTrue (sym c.cut_through.ensures.follows) follows in
    let is_cut : D.seen c.cut_through.new.disk ≡ [] = c.in_ok-cut_through.ensures.cut follows in
    let only_1 = subst (λ (f : List ℕ). Only f (D.may_leave c.cut_through.new.disk)) is_cut (c.in_ok-cut_through.ensures.durable follows) in
    let first = changing D.later D.left_between d c.cut_through.new.disk c.write_through.new.disk (D.may_leave c.cut_through.new.disk) _ []
    P laws.call_after_call
    cut (c.write_through.ensures.any_moment f1) only_1 (inl (refl, refl)) (λ f left. inl (first_is_fresh f left, refl)) in
    let is_first : D.seen c.write_through.new.disk ≡ 0 ∷ [] =
    c.in_ok-write_through.ensures.written f1 ∙ ap (λ (f : List ℕ). written_at 0 (0 ∷ []) f) is_cut in
    let f2 = subst IsTrue (sym c.write_through.ensures.follows) f1 in
    let only_2 = subst (λ (f : List ℕ). Only f (D.may_leave c.write_through.new.disk)) is_first
    (c.in_ok-write_through.ensures.durable f1) in
    let others = changing D.later D.left_between d c.write_through.new.disk c.write_through-2.new.disk
    (D.may_leave c.write_through.new.disk) _ (0 ∷ []) P laws.call_after_call
    first (c.write_through-2.ensures.any_moment f2) only_2 (inl (refl, refl)) (λ f left. inl (others_are_fresh f left, refl)) in
    others

pub returns-in_err-write_through-3-clause-any_moment : goal.returns-in_err-write_through-3-clause-any_moment
returns-in_err-write_through-3-clause-any_moment g c =
    let D = g.D.Disk in
    let laws = g.met.D.Disk in
    let d = c.args.disk.now in
    λ follows fresh only.
    let P : List ℕ → Type 0 = λ left. StandsFor left [] in
    let at_start = started D.later D.left_between d P (laws.no_call d)
    (λ f left. subst P (sym (only f (laws.only_now d f left))) (inl (fresh, refl))) in
    let cut = changing D.later D.left_between d d c.cut_through.new.disk (D.may_leave d) _ (D.seen d) P laws.call_after_call
    at_start (c.cut_through.ensures.any_moment follows) only (inl (fresh, refl))
    (λ f left. inl (cut_is_fresh (D.seen d) f fresh left, refl)) in
    let f1 = subst IsTrue (sym c.cut_through.ensures.follows) follows in
    let is_cut : D.seen c.cut_through.new.disk ≡ [] = c.in_ok-cut_through.ensures.cut follows in
    let only_1 = subst (λ (f : List ℕ). Only f (D.may_leave c.cut_through.new.disk)) is_cut (c.in_ok-cut_through.ensures.durable follows) in
    let first = changing D.later D.left_between d c.cut_through.new.disk c.write_through.new.disk (D.may_leave c.cut_through.new.disk) _ []
    P laws.call_after_call
    cut (c.write_through.ensures.any_moment f1) only_1 (inl (refl, refl)) (λ f left. inl (first_is_fresh f left, refl)) in
    let is_first : D.seen c.write_through.new.disk ≡ 0 ∷ [] =
    c.in_ok-write_through.ensures.written f1 ∙ ap (λ (f : List ℕ). written_at 0 (0 ∷ []) f) is_cut in
    let f2 = subst IsTrue (sym c.write_through.ensures.follows) f1 in
    let only_2 = subst (λ (f : List ℕ). Only f (D.may_leave c.write_through.new.disk)) is_first
    (c.in_ok-write_through.ensures.durable f1) in
    let others = changing D.later D.left_between d c.write_through.new.disk c.write_through-2.new.disk
    (D.may_leave c.write_through.new.disk) _ (0 ∷ []) P laws.call_after_call
    first (c.write_through-2.ensures.any_moment f2) only_2 (inl (refl, refl)) (λ f left. inl (others_are_fresh f left, refl)) in
    let is_others : D.seen c.write_through-2.new.disk ≡ 0 ∷ behind_first =
    c.in_ok-write_through-2.ensures.written f2 ∙ ap (λ (f : List ℕ). written_at 1 behind_first f) is_first in
    let f3 = subst IsTrue (sym c.write_through-2.ensures.follows) f2 in
    let only_3 = subst (λ (f : List ℕ). Only f (D.may_leave c.write_through-2.new.disk)) is_others
    (c.in_ok-write_through-2.ensures.durable f2) in
    let set = changing D.later D.left_between d c.write_through-2.new.disk c.write_through-3.new.disk
    (D.may_leave c.write_through-2.new.disk) _ (0 ∷ behind_first) P laws.call_after_call
    others (c.write_through-3.ensures.any_moment f3) only_3 (inl (refl, refl)) first_set in
    set

pub returns-clause-any_moment : goal.returns-clause-any_moment
returns-clause-any_moment g c =
    let D = g.D.Disk in
    let laws = g.met.D.Disk in
    let d = c.args.disk.now in
    λ follows fresh only.
    let P : List ℕ → Type 0 = λ left. StandsFor left [] in
    let at_start = started D.later D.left_between d P (laws.no_call d)
    (λ f left. subst P (sym (only f (laws.only_now d f left))) (inl (fresh, refl))) in
    let cut = changing D.later D.left_between d d c.cut_through.new.disk (D.may_leave d) _ (D.seen d) P laws.call_after_call
    at_start (c.cut_through.ensures.any_moment follows) only (inl (fresh, refl))
    (λ f left. inl (cut_is_fresh (D.seen d) f fresh left, refl)) in
    let f1 = subst IsTrue (sym c.cut_through.ensures.follows) follows in
    let is_cut : D.seen c.cut_through.new.disk ≡ [] = c.in_ok-cut_through.ensures.cut follows in
    let only_1 = subst (λ (f : List ℕ). Only f (D.may_leave c.cut_through.new.disk)) is_cut (c.in_ok-cut_through.ensures.durable follows) in
    let first = changing D.later D.left_between d c.cut_through.new.disk c.write_through.new.disk (D.may_leave c.cut_through.new.disk) _ []
    P laws.call_after_call
    cut (c.write_through.ensures.any_moment f1) only_1 (inl (refl, refl)) (λ f left. inl (first_is_fresh f left, refl)) in
    let is_first : D.seen c.write_through.new.disk ≡ 0 ∷ [] =
    c.in_ok-write_through.ensures.written f1 ∙ ap (λ (f : List ℕ). written_at 0 (0 ∷ []) f) is_cut in
    let f2 = subst IsTrue (sym c.write_through.ensures.follows) f1 in
    let only_2 = subst (λ (f : List ℕ). Only f (D.may_leave c.write_through.new.disk)) is_first
    (c.in_ok-write_through.ensures.durable f1) in
    let others = changing D.later D.left_between d c.write_through.new.disk c.write_through-2.new.disk
    (D.may_leave c.write_through.new.disk) _ (0 ∷ []) P laws.call_after_call
    first (c.write_through-2.ensures.any_moment f2) only_2 (inl (refl, refl)) (λ f left. inl (others_are_fresh f left, refl)) in
    let is_others : D.seen c.write_through-2.new.disk ≡ 0 ∷ behind_first =
    c.in_ok-write_through-2.ensures.written f2 ∙ ap (λ (f : List ℕ). written_at 1 behind_first f) is_first in
    let f3 = subst IsTrue (sym c.write_through-2.ensures.follows) f2 in
    let only_3 = subst (λ (f : List ℕ). Only f (D.may_leave c.write_through-2.new.disk)) is_others
    (c.in_ok-write_through-2.ensures.durable f2) in
    let set = changing D.later D.left_between d c.write_through-2.new.disk c.write_through-3.new.disk
    (D.may_leave c.write_through-2.new.disk) _ (0 ∷ behind_first) P laws.call_after_call
    others (c.write_through-3.ensures.any_moment f3) only_3 (inl (refl, refl)) first_set in
    set

pub returns-in_err-write_through-clause-calls : goal.returns-in_err-write_through-clause-calls
returns-in_err-write_through-clause-calls g c =
    let on = g.met.D.Disk.driven_on in
    let d = c.args.disk.now in
    let m0 = c.in_ok-cut_through.ensures.calls in
    let m1 = c.in_err-write_through.ensures.calls in
    let t1 = in_turn_stopped (WriteAt 0 (0 ∷ []) ∷ Sync ∷ [])
    ((WriteAt 1 behind_first ∷ Sync ∷ []) ++ (WriteAt 0 (1 ∷ []) ∷ Sync ∷ [])) m1.0 m1.2 in
    let d0 = on d c.cut_through.new.disk c.write_through.new.disk m0.0 (m1.0)
    m0.1 m1.1 in
    let t0 = in_turn_on (Cut 0 ∷ Sync ∷ []) ((WriteAt 0 (0 ∷ []) ∷ Sync ∷ [])
    ++ ((WriteAt 1 behind_first ∷ Sync ∷ []) ++ (WriteAt 0 (1 ∷ []) ∷ Sync ∷ []))) true m0.0
    (m1.0) m0.2 t1 in
    let failed : is_err c.from_residual-in_err-write_through.result ≡ true = search rules in
    (m0.0 ++ m1.0, d0, subst (λ (b : Bool). InTurn making b (m0.0 ++ m1.0)) (sym failed) t0)

pub returns-in_err-write_through-2-clause-calls : goal.returns-in_err-write_through-2-clause-calls
returns-in_err-write_through-2-clause-calls g c =
    let on = g.met.D.Disk.driven_on in
    let d = c.args.disk.now in
    let m0 = c.in_ok-cut_through.ensures.calls in
    let m1 = c.in_ok-write_through.ensures.calls in
    let m2 = c.in_err-write_through-2.ensures.calls in
    let t2 = in_turn_stopped (WriteAt 1 behind_first ∷ Sync ∷ []) (WriteAt 0 (1 ∷ []) ∷ Sync ∷ []) m2.0 m2.2 in
    let d1 = on c.cut_through.new.disk c.write_through.new.disk c.write_through-2.new.disk m1.0 (m2.0)
    m1.1 m2.1 in
    let t1 = in_turn_on (WriteAt 0 (0 ∷ []) ∷ Sync ∷ []) ((WriteAt 1 behind_first ∷ Sync ∷ []) ++ (WriteAt 0 (1 ∷ []) ∷ Sync ∷ [])) true
    m1.0 (m2.0) m1.2 t2 in
    let d0 = on d c.cut_through.new.disk c.write_through-2.new.disk m0.0 (m1.0 ++ m2.0)
    m0.1 d1 in
    let t0 = in_turn_on (Cut 0 ∷ Sync ∷ []) ((WriteAt 0 (0 ∷ []) ∷ Sync ∷ [])
    ++ ((WriteAt 1 behind_first ∷ Sync ∷ []) ++ (WriteAt 0 (1 ∷ []) ∷ Sync ∷ []))) true m0.0
    (m1.0 ++ m2.0) m0.2 t1 in
    let failed : is_err c.from_residual-in_err-write_through-2.result ≡ true = search rules in
    (m0.0 ++ (m1.0 ++ m2.0), d0, subst (λ (b : Bool). InTurn making b (m0.0 ++ (m1.0 ++ m2.0))) (sym failed) t0)

pub returns-in_err-write_through-3-clause-calls : goal.returns-in_err-write_through-3-clause-calls
returns-in_err-write_through-3-clause-calls g c =
    let on = g.met.D.Disk.driven_on in
    let d = c.args.disk.now in
    let m0 = c.in_ok-cut_through.ensures.calls in
    let m1 = c.in_ok-write_through.ensures.calls in
    let m2 = c.in_ok-write_through-2.ensures.calls in
    let m3 = c.in_err-write_through-3.ensures.calls in
    let t3 = m3.2 in
    let d2 = on c.write_through.new.disk c.write_through-2.new.disk c.write_through-3.new.disk m2.0 (m3.0)
    m2.1 m3.1 in
    let t2 = in_turn_on (WriteAt 1 behind_first ∷ Sync ∷ []) (WriteAt 0 (1 ∷ []) ∷ Sync ∷ []) true m2.0 (m3.0) m2.2 t3 in
    let d1 = on c.cut_through.new.disk c.write_through.new.disk c.write_through-3.new.disk m1.0 (m2.0 ++ m3.0)
    m1.1 d2 in
    let t1 = in_turn_on (WriteAt 0 (0 ∷ []) ∷ Sync ∷ []) ((WriteAt 1 behind_first ∷ Sync ∷ []) ++ (WriteAt 0 (1 ∷ []) ∷ Sync ∷ [])) true
    m1.0 (m2.0 ++ m3.0) m1.2 t2 in
    let d0 = on d c.cut_through.new.disk c.write_through-3.new.disk m0.0 (m1.0 ++ (m2.0 ++ m3.0))
    m0.1 d1 in
    let t0 = in_turn_on (Cut 0 ∷ Sync ∷ []) ((WriteAt 0 (0 ∷ []) ∷ Sync ∷ [])
    ++ ((WriteAt 1 behind_first ∷ Sync ∷ []) ++ (WriteAt 0 (1 ∷ []) ∷ Sync ∷ []))) true m0.0
    (m1.0 ++ (m2.0 ++ m3.0)) m0.2 t1 in
    let failed : is_err c.from_residual-in_err-write_through-3.result ≡ true = search rules in
    (m0.0 ++ (m1.0 ++ (m2.0 ++ m3.0)), d0, subst (λ (b : Bool). InTurn making b (m0.0 ++ (m1.0 ++ (m2.0 ++ m3.0)))) (sym failed) t0)

pub returns-clause-calls : goal.returns-clause-calls
returns-clause-calls g c =
    let on = g.met.D.Disk.driven_on in
    let d = c.args.disk.now in
    let m0 = c.in_ok-cut_through.ensures.calls in
    let m1 = c.in_ok-write_through.ensures.calls in
    let m2 = c.in_ok-write_through-2.ensures.calls in
    let m3 = c.in_ok-write_through-3.ensures.calls in
    let t3 = m3.2 in
    let d2 = on c.write_through.new.disk c.write_through-2.new.disk c.write_through-3.new.disk m2.0 (m3.0)
    m2.1 m3.1 in
    let t2 = in_turn_on (WriteAt 1 behind_first ∷ Sync ∷ []) (WriteAt 0 (1 ∷ []) ∷ Sync ∷ []) false m2.0 (m3.0) m2.2 t3 in
    let d1 = on c.cut_through.new.disk c.write_through.new.disk c.write_through-3.new.disk m1.0 (m2.0 ++ m3.0)
    m1.1 d2 in
    let t1 = in_turn_on (WriteAt 0 (0 ∷ []) ∷ Sync ∷ []) ((WriteAt 1 behind_first ∷ Sync ∷ []) ++ (WriteAt 0 (1 ∷ []) ∷ Sync ∷ [])) false
    m1.0 (m2.0 ++ m3.0) m1.2 t2 in
    let d0 = on d c.cut_through.new.disk c.write_through-3.new.disk m0.0 (m1.0 ++ (m2.0 ++ m3.0))
    m0.1 d1 in
    let t0 = in_turn_on (Cut 0 ∷ Sync ∷ []) ((WriteAt 0 (0 ∷ []) ∷ Sync ∷ [])
    ++ ((WriteAt 1 behind_first ∷ Sync ∷ []) ++ (WriteAt 0 (1 ∷ []) ∷ Sync ∷ []))) false m0.0
    (m1.0 ++ (m2.0 ++ m3.0)) m0.2 t1 in
    (m0.0 ++ (m1.0 ++ (m2.0 ++ m3.0)), d0, t0)

use Rattle.std.proofs.Common.{arith, ◌≡◌, ◌<◌, ◌++◌, ◌∷◌, [], length, sym, ap, ◌∙◌, Some}
use Rattle.std.proofs.lemmas.List.{length-set}
use Rattle.ba_tree.proofs.SpaceLaws.{put_last, noted_new, row_length, is_fresh}
use Rattle.ba_tree.proofs.spaces.Spaces.note.Goals as goal

pub invariant_of-result : goal.invariant_of-result
invariant_of-result c =
    (omega (arith, c.if-count-most.false, c.requires), length-set c.self.inside.row c.self.inside.count c.args.space ∙ c.self.invariant.1)

pub returns : goal.returns
returns c =
    let row = c.self.inside.row in
    let count = c.self.inside.count in
    let known = c.args.self in
    let new = c.args.space.now in
    let within : count < length row = omega (arith, c.self.invariant.1, c.if-count-most.false, c.requires) in
    let sized : length known ≡ count = ap length (sym c.self.view_is) ∙ row_length (λ b. b.now) row count (omega (arith, within)) in
    let room : length known < c.args.most = omega (arith, sized, c.if-count-most.false) in
    let fresh = is_fresh known new (sym c.is_empty.ensures ∙ c.if-is_empty.false) (sym c.holds.ensures ∙ c.if-holds.false) in
    ap Some (put_last (λ b. b.now) row count c.args.space within ∙ ap (λ l. l ++ new ∷ []) c.self.view_is)
    ∙ sym (noted_new c.args.most known new fresh room)

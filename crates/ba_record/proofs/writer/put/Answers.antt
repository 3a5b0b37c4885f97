use Rattle.std.proofs.Common.{◌≡◌, ℕ, List, OnOk, subst, ◌∙◌, ◌++◌}
use Rattle.ba_record.specs.Coding.{coding}
use Rattle.ba_record.proofs.Filling.{from_new}
use Rattle.ba_record.proofs.writer.put.Goals as goal

pub returns-clause-ok : goal.returns-clause-ok
returns-clause-ok c =
    let all = from_new c.new-room.result c.reserve.new.self c.put_in.new.room (coding c.args.r.now) c.size_of.result
    c.new-room.ensures c.in_ok-reserve.ensures.ok c.size_of.ensures c.put_in.ensures in
    subst (λ (xs : List ℕ). OnOk c.append.result (c.append.new.self ≡ c.args.out.now ++ xs)) (c.as_slice.ensures ∙ all) c.append.ensures.ok

use Rattle.std.proofs.Common.{◌≡◌, ◌≤◌, ◌-◌, List, [], ℕ, length, drop, arith, subst, sym, ap, ◌∙◌, IfOk, IfErr}
use Rattle.ba_message.specs.Endpoints.{fits_endpoint}
use Rattle.ba_record.specs.Reading.{IsBytes, Explains, read, read_endpoint, tested}
use Rattle.ba_record.specs.inside.Skips.{read_shallow_endpoint}
use Rattle.ba_record.proofs.ExactRecords.{within_front}
use Rattle.ba_record.proofs.Onward.{bad_at, was_bad}
use Rattle.ba_record.proofs.Shallow.{shallow_bad_field, shallow_is_read}
use Rattle.ba_record.proofs.fields.Fields.endpoint.Goals as goal
use Rattle.ba_record.proofs.fields.Fields.endpoint.Goals.{After-len}

-- what is known of the endpoint that was read, wherever the bytes go on
found_in : (c : After-len) (skipped : List ℕ)
    → (length c.shallow_endpoint.new.self.rest.now ≤ length c.new-within.result.rest.now)
    × ((length c.new-within.result.rest.now ≤ length c.args.self.now.rest.now)
    × (skipped ≡ drop (length c.new-within.result.rest.now - length c.shallow_endpoint.new.self.rest.now) c.args.self.now.rest.now
    → read_endpoint c.args.self.now.rest.now ≡ tested fits_endpoint c.args.self.now.rest.now c.in-Ok.epr skipped))
found_in c skipped =
    within_front c.args.self.now.rest.now c.new-within.result.rest.now c.shallow_endpoint.new.self.rest.now skipped c.in-Ok.epr
    (c.new-within.ensures ∙ c.most_of-front.ensures.front)
    (subst (λ (xs : List ℕ). IsBytes xs) (sym c.new-within.ensures) c.most_of-front.ensures.bytes)
    (shallow_is_read c.new-within.result.rest.now c.shallow_endpoint.new.self.rest.now c.in-Ok.epr c.in-Ok.ensures.ok)

pub overflow_sub-front : goal.overflow_sub-front
overflow_sub-front c = let known = found_in c [] in let same = ap length c.new-within.ensures in omega arith

pub skip-requires : goal.skip-requires
skip-requires c = let known = found_in c [] in let same = ap length c.new-within.ensures in omega arith

pub returns-in-Ok-clause-ok : goal.returns-in-Ok-clause-ok
returns-in-Ok-clause-ok c =
    let at = (goal.at.returns-in-Ok-clause-ok c).After-len in
    let known = found_in at c.skip.new.self.rest.now in
    let same = ap length c.new-within.ensures in
    let taken : length c.most_of-front.result.now - c.len.result
    ≡ length c.new-within.result.rest.now - length c.shallow_endpoint.new.self.rest.now = omega arith in
    let is = known.1.1 (c.skip.ensures ∙ ap (λ (n : ℕ). drop n c.args.self.now.rest.now) taken) in
    subst (λ r. IfOk c.fitting.result (λ epr. r ≡ read epr c.fitting.new.self.rest.now)) (sym is) c.fitting.ensures.ok

pub returns-in-Ok-clause-fault : goal.returns-in-Ok-clause-fault
returns-in-Ok-clause-fault c =
    let at = (goal.at.returns-in-Ok-clause-fault c).After-len in
    let known = found_in at c.skip.new.self.rest.now in
    let same = ap length c.new-within.ensures in
    let taken : length c.most_of-front.result.now - c.len.result
    ≡ length c.new-within.result.rest.now - length c.shallow_endpoint.new.self.rest.now = omega arith in
    let is = known.1.1 (c.skip.ensures ∙ ap (λ (n : ℕ). drop n c.args.self.now.rest.now) taken) in
    subst (λ r. IfErr c.fitting.result (Explains r c.fitting.new.self.rest.now)) (sym is) c.fitting.ensures.fault

pub returns-in-Err-Bad-clause-fault : goal.returns-in-Err-Bad-clause-fault
returns-in-Err-Bad-clause-fault c =
    let field = c.args.self.now.rest.now in
    let front = c.new-within.result.rest.now in
    let from = c.shallow_endpoint.new.self.rest.now in
    let is = was_bad (read_shallow_endpoint front) from c.in-Err-Bad.field-0 c.in-Err-Bad.field-0-is c.in-Err-Bad.ensures.fault in
    let whole = shallow_bad_field field front from (c.new-within.ensures ∙ c.most_of-front.ensures.front) is in
    bad_at (read_endpoint field) field c.back_to.new.self.rest.now c.back_to.result whole c.back_to.ensures.fault c.back_to.ensures.rest

use Rattle.std.proofs.Common.{◌≡◌, ℕ, ◌+◌, List, [], ◌∷◌, length, Ok, arith, ap, subst, ◌∙◌, length-drop}
use Rattle.ba_node.specs.Loading.{RefusesLoad}
use Rattle.ba_node.specs.declared.faults.LoadFault.TheVariants as fault
use Rattle.ba_node.proofs.Histories.{Going, all_enacted, broke_off, going_begun, next_spare, place_small, went_on}
use Rattle.ba_node.proofs.Openings.{empty}
use Rattle.ba_record.specs.declared.records.Record.{Record}
use Rattle.ba_record.specs.declared.records.Record.TheVariants as journal
use Rattle.ba_node.proofs.replaying.replay_on.Goals as goal

pub records-init : goal.records-init
records-init c = going_begun c.args.objects.node c.args.rest.items c.requires.begun

pub enact-requires : goal.enact-requires
enact-requires c =
    let going : Going c.args.objects.node c.args.rest.items (c.in-Some.r ∷ c.pop_front.new.self.items) c.records.place
    c.records.objects.node =
    subst (λ (rs : List Record). Going c.args.objects.node c.args.rest.items rs c.records.place
    c.records.objects.node) c.in-Some.ensures.items c.records.invariant in
    next_spare c.args.objects.node c.args.rest.items c.requires.in_range c.requires.few c.in-Some.r c.pop_front.new.self.items
    c.records.place c.records.objects.node going

pub records-preserved : goal.records-preserved
records-preserved c =
    let start = c.args.objects.node in
    let all = c.args.rest.items in
    let going : Going start all (c.in-Some.r ∷ c.pop_front.new.self.items) c.records.place c.records.objects.node =
    subst (λ (rs : List Record). Going start all rs c.records.place c.records.objects.node) c.in-Some.ensures.items c.records.invariant in
    let small = place_small start all c.requires.in_range c.requires.few
    (c.in-Some.r ∷ c.pop_front.new.self.items) c.records.place c.records.objects.node going in
    let counted = c.saturating_add-place.ensures in
    let place : c.records.place + 1 ≡ c.saturating_add-place.result = omega (arith, small, counted) in
    subst (λ (k : ℕ). Going start all c.pop_front.new.self.items k c.enact.new.node.node) place
    (went_on start all c.requires.in_range c.requires.few c.in-Some.r c.pop_front.new.self.items c.records.place c.records.objects.node
    c.enact.new.node.node going
    (c.enact.ensures.done (c.in-Ok-true.is ∙ ap Ok c.in-Ok-true.field-0-test)))

pub returns-in-Ok-false-clause-refused : goal.returns-in-Ok-false-clause-refused
returns-in-Ok-false-clause-refused c =
    let start = c.args.objects.node in
    let all = c.args.rest.items in
    let going : Going start all (c.in-Some.r ∷ c.pop_front.new.self.items) c.records.place c.records.objects.node =
    subst (λ (rs : List Record). Going start all rs c.records.place c.records.objects.node) c.in-Some.ensures.items c.records.invariant in
    let small = place_small start all c.requires.in_range c.requires.few
    (c.in-Some.r ∷ c.pop_front.new.self.items) c.records.place c.records.objects.node going in
    let counted = c.saturating_add-place.ensures in
    let place : c.records.place + 1 ≡ c.saturating_add-place.result = omega (arith, small, counted) in
    subst (λ (k : ℕ). RefusesLoad start.number start.base (journal.Node start.number start.base ∷ all) (fault.BadHistory k)) place
    (broke_off start all c.requires.in_range c.requires.few c.in-Some.r c.pop_front.new.self.items c.records.place c.records.objects.node
    going
    (c.enact.ensures.unlawful (c.in-Ok-false.is ∙ ap Ok c.in-Ok-false.field-0-test)))

pub returns-clause-ok : goal.returns-clause-ok
returns-clause-ok c =
    let start = c.args.objects.node in
    let all = c.args.rest.items in
    let items = c.in_default.ensures.items in
    let rest = c.in_default.ensures.rest in
    let shorter : length c.records.rest.items ≡ 0 = omega (arith, ap length (items ∙ rest), length-drop 1 c.records.rest.items) in
    let none : c.records.rest.items ≡ [] = empty c.records.rest.items shorter in
    all_enacted start all c.requires.in_range c.requires.few c.records.place c.records.objects.node
    (subst (λ (rs : List Record). Going start all rs c.records.place c.records.objects.node) none c.records.invariant)

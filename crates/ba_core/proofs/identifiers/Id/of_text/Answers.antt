use Rattle.std.proofs.Common.{length, drop, take_all, ◌+◌, ◌-◌, arith}
use Rattle.std.proofs.lemmas.List.{length-drop}
use Rattle.std.specs.Fmt.{decimal}
use Rattle.ba_core.proofs.Dots.{dotless, no_numbers_round}
use Rattle.ba_core.proofs.identifiers.Id.of_text.Goals as goal

pub returns-in-None-clause-none : goal.returns-in-None-clause-none
returns-in-None-clause-none c = λ node counter low small. dotless c.args.text.now c.in-None.ensures.none (decimal node) (decimal counter)

pub returns-in-Some-clause-none : goal.returns-in-Some-clause-none
returns-in-Some-clause-none c =
    let text = c.args.text.now in
    let n = c.in-Some.dot in
    let found = c.in-Some.ensures in
    let rest = take_all (length text - (n + 1)) (drop (n + 1) text) (omega (arith, length-drop (n + 1) text)) in
    no_numbers_round text _ n found.within found.dot found.first rest c.object_of.result c.object_of.ensures.none

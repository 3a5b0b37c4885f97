use Rattle.std.proofs.Common.{sym, subst, ◌∙◌}
use Rattle.ba_xml.proofs.Feeding.{fed_on, told_exactly, stays_told}
use Rattle.ba_xml.specs.Reading.{IsToldOf}
use Rattle.ba_xml.specs.inside.Progress.{IsProgressOf}
use Rattle.ba_xml.proofs.readers.Reader.feed.Goals as goal

pub returns-clause-fed : goal.returns-clause-fed
returns-clause-fed c = λ bytes fed other.
    let before = subst (λ progress. IsProgressOf bytes progress) (sym c.replace-progress.ensures.value) fed in
    fed_on c.replace-progress.result c.args.piece.now c.after.result c.after.ensures bytes before (λ e. other (c.told.ensures ∙ e))

pub returns-clause-told : goal.returns-clause-told
returns-clause-told c = λ bytes fed.
    subst (λ result. IsToldOf bytes result) (sym c.told.ensures) (told_exactly c.after.result bytes fed)

pub returns-clause-stays : goal.returns-clause-stays
returns-clause-stays c = λ bytes reason place fed first.
    let before = subst (λ progress. IsProgressOf bytes progress) (sym c.replace-progress.ensures.value) fed in
    c.told.ensures ∙ stays_told c.replace-progress.result c.args.piece.now c.after.result c.after.ensures bytes reason place before first

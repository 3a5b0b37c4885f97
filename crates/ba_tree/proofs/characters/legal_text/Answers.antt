use Rattle.std.proofs.Common.{sym, ap, ◌∙◌}
use Rattle.std.specs.List.{list_all}
use Rattle.std.specs.Str.{chars}
use Rattle.ba_tree.specs.Characters.{is_legal}
use Rattle.ba_tree.proofs.LegalTexts.{legal_of_utf8, illegal_of_no_utf8}
use Rattle.ba_tree.proofs.characters.legal_text.Goals as goal

pub returns-in-Ok : goal.returns-in-Ok
returns-in-Ok c =
    let told = c.in-Ok.ensures.cases in
    c.legal_characters.ensures ∙ ap (λ bytes. list_all is_legal (chars bytes)) told.0 ∙ sym (legal_of_utf8 c.args.bytes.now told.1)

pub returns-in-Err : goal.returns-in-Err
returns-in-Err c = sym (illegal_of_no_utf8 c.args.bytes.now c.in-Err.ensures.cases.0)

use Rattle.std.proofs.Common.{◌∙◌, sym, List, ℕ, [], ◌++◌, ap, append-nil}
use Rattle.ba_wire_short.specs.inside.Texts.{notice_pieces}
use Rattle.ba_wire_short.proofs.texts.notice_letter_text.Goals as goal

pub returns : goal.returns
returns c =
    sym (append-nil c.put_notice_letter.new.text)
    ∙ c.in_ok-put_notice_letter.ensures []
    ∙ ap (λ (l : List ℕ). l ++ notice_pieces c.args.source.now c.args.to.now c.args.number.now c.args.message.now []) c.in_ok-text.ensures

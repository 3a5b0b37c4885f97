use Rattle.std.proofs.Common.{◌∙◌, sym, List, ℕ, [], ◌++◌, ap, append-nil}
use Rattle.ba_wire_short.specs.inside.Texts.{letter_pieces}
use Rattle.ba_wire_short.proofs.texts.letter_text.Goals as goal

pub returns : goal.returns
returns c =
    sym (append-nil c.put_letter.new.text)
    ∙ c.in_ok-put_letter.ensures []
    ∙ ap (λ (l : List ℕ). l ++ letter_pieces c.args.to.now c.args.number.now c.args.message.now []) c.in_ok-text.ensures

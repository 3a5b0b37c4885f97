use Rattle.std.proofs.Common.{◌∙◌, sym, List, ℕ, [], ◌++◌, ap, append-nil}
use Rattle.ba_wire_short.specs.inside.Texts.{reply_pieces}
use Rattle.ba_wire_short.proofs.texts.reply_text.Goals as goal

pub returns : goal.returns
returns c =
    sym (append-nil c.put_reply.new.text)
    ∙ c.in_ok-put_reply.ensures []
    ∙ ap (λ (l : List ℕ). l ++ reply_pieces c.args.related.now c.args.message.now []) c.in_ok-text.ensures

use Rattle.std.proofs.Common.{◌≢◌, length, refl, sym, take_all, arith}
use Rattle.std.proofs.lemmas.List.Elements.{All-same}
use Rattle.ba_script_forms.proofs.Walks.{word_last}
use Rattle.ba_script_forms.proofs.readings.first_word.Goals as goal

pub returns : goal.returns
returns c =
    word_last c.args.bytes.now (length c.args.bytes.now) refl
    (All-same (λ b. b ≢ 32) _ _ (sym (take_all c.loop-index.index c.args.bytes.now (omega arith))) c.loop-index.invariant.clear)

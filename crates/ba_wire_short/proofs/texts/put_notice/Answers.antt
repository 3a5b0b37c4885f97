use Rattle.std.proofs.Common.{◌≡◌, ℕ, List, ◌++◌, refl, sym, ap, ◌∙◌, subst}
use Rattle.std.specs.Prelude.{OnOk}
use Rattle.ba_core.specs.Messages.{notice_name}
use Rattle.ba_core.specs.declared.notices.Notice.{Notice}
use Rattle.ba_core.specs.declared.notices.Notice.TheVariants as notice
use Rattle.ba_wire_short.specs.declared.pieces.TheConstants as piece
use Rattle.ba_wire_short.specs.inside.Texts.{notice_text}
use Rattle.ba_wire_short.proofs.texts.put_notice.Goals as goal

-- each notice but Fail is an empty element
is_empty_element : (n : Notice) (rest : List ℕ) → (n ≡ notice.Fail → ⊥)
    → notice_text n rest ≡ piece.NOTICE.now ++ (notice_name n ++ (piece.NOTICE_END.now ++ rest))
is_empty_element notice.Fail rest other = absurd (other refl)
is_empty_element (notice.Status state) rest other = refl
is_empty_element notice.Complete rest other = refl
is_empty_element notice.Close rest other = refl
is_empty_element notice.Cancel rest other = refl
is_empty_element notice.Compensate rest other = refl
is_empty_element notice.Failed rest other = refl
is_empty_element notice.Exited rest other = refl
is_empty_element notice.NotCompleted rest other = refl
is_empty_element notice.Completed rest other = refl
is_empty_element notice.Closed rest other = refl
is_empty_element notice.Canceled rest other = refl
is_empty_element notice.Compensated rest other = refl
is_empty_element notice.Exit rest other = refl
is_empty_element notice.CannotComplete rest other = refl
is_empty_element notice.GetStatus rest other = refl

pub returns-in_default : goal.returns-in_default
returns-in_default c =
    subst
    (λ (f : List ℕ → List ℕ). OnOk c.put_between.result ((rest : List ℕ) → c.put_between.new.text ++ rest ≡ c.args.text.now ++ f rest))
    (λ i rest.
    (ap (λ (name : List ℕ). piece.NOTICE.now ++ (name ++ (piece.NOTICE_END.now ++ rest))) c.name_of.ensures
    ∙ sym (is_empty_element c.args.notice rest c.in_default.not-Fail)) i)
    c.put_between.ensures

use Rattle.std.proofs.Common.{◌≡◌, true, false, take, drop, length, ap, refl, sym, ◌∙◌, subst, codes, ◌++◌, nat_eq}
use Rattle.std.proofs.lemmas.List.{take-append-drop}
use Rattle.std.specs.Cmp.Lexicographic.{pointwise, same_text}
use Rattle.ba_record.proofs.Bases.{tells_base, no_base, other_scheme}
use Rattle.ba_record.proofs.endpoints.base_is_dialable.Goals as goal

pub returns-then-dialable : goal.returns-then-dialable
returns-then-dialable c =
    let stripped = c.in-Some.ensures.cases in
    let base = c.args.base.now in
    let scheme = c.as_slice.ensures in
    let front = subst (λ s. pointwise nat_eq (take (length s) base) s ≡ true) scheme stripped.0 in
    let rest = stripped.1 ∙ ap (λ s. drop (length s) base) scheme in
    let spelled : base ≡ codes "http://" ++ c.in-Some.rest.now =
    sym (take-append-drop 7 base) ∙ (λ i. same_text (take 7 base) (codes "http://") (sym front) i ++ sym rest i) in
    tells_base base c.in-Some.rest.now true c.contains.result spelled
    (λ e. c.dialable.ensures.0 c.if-dialable.true, λ d. refl) c.contains.ensures.value

pub returns-else-dialable : goal.returns-else-dialable
returns-else-dialable c = no_base c.args.base.now c.dialable.result c.if-dialable.false c.dialable.ensures.1

pub returns-in-None : goal.returns-in-None
returns-in-None c =
    let h = c.in-None.ensures.cases in
    other_scheme c.args.base.now (subst (λ s. pointwise nat_eq (take (length s) c.args.base.now) s ≡ false) c.as_slice.ensures h)

use Rattle.std.proofs.Common.{sym, ◌∙◌, subst}
use Rattle.ba_http_head.specs.declared.headings.Heading.TheVariants.{Request, Reply}
use Rattle.ba_http_head.specs.HeadLines.{NeverWhole}
use Rattle.ba_http_head.specs.inside.Asks.{HasWhole}
use Rattle.ba_http_head.proofs.Empties.{may_follow, none_whole, reply_may_follow, reply_none_whole}
use Rattle.ba_http_head.proofs.asks.ask_after.Goals as goal

pub returns-in-Request-eq0 : goal.returns-in-Request-eq0
returns-in-Request-eq0 c =
    let bytes = c.args.prefix.now in
    let e = c.requires.empties c.in-Request-eq0.is-1 in
    subst (λ h. (HasWhole h bytes → ⊥) × (NeverWhole h bytes → ⊥)) (sym c.in-Request-eq0.is-0) (
      none_whole bytes (sym c.requires.count ∙ c.in-Request-eq0.is-1),
      λ never. may_follow e.0 (subst (NeverWhole Request) e.1 never),
    )

pub returns-in-Reply-eq0 : goal.returns-in-Reply-eq0
returns-in-Reply-eq0 c =
    let bytes = c.args.prefix.now in
    let e = c.requires.empties c.in-Reply-eq0.is-1 in
    subst (λ h. (HasWhole h bytes → ⊥) × (NeverWhole h bytes → ⊥)) (sym c.in-Reply-eq0.is-0) (
      reply_none_whole bytes (sym c.requires.count ∙ c.in-Reply-eq0.is-1),
      λ never. reply_may_follow e.0 (subst (NeverWhole Reply) e.1 never),
    )

use Rattle.std.proofs.Common.{subst, sym, ◌≡◌, ◌<◌, ◌∙◌, length, get_or, arith}
use Rattle.std.proofs.lemmas.List.{get_or_default}
use Rattle.std.specs.Prelude.{None}
use Rattle.ba_resend.specs.inside.Tournaments.{IsFirstOf, slots_of, node_at}
use Rattle.ba_resend.proofs.FirstLemmas.{root_is_first}
use Rattle.ba_resend.proofs.shares.Share.first.Goals as goal

pub returns-else-len-lt2 : goal.returns-else-len-lt2
returns-else-len-lt2 c =
    let more : 1 < length c.self.inside.tree.items = omega (arith, c.if-len-lt2.false, c.len.ensures) in
    let is : c.index.result.now ≡ node_at c.self.inside.tree.items 1 =
    c.index.ensures ∙ get_or_default c.self.inside.tree.items 1 c.index.result.now None more in
    subst (λ s. IsFirstOf s c.index.result.now) c.self.view_is
    (subst (IsFirstOf (slots_of c.self.inside.tree.items)) (sym is) (root_is_first c.self.inside.tree.items c.self.invariant more))

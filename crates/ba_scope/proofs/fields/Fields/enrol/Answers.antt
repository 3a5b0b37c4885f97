use Rattle.std.proofs.Common.{◌≡◌, ◌+◌, ◌<◌, ◌≤◌, ◌∷◌, ◌++◌, List, [], Result, length, is_ok, IsOk, arith, sym, ap, ◌∙◌, subst}
use Rattle.std.proofs.Common.{vec_capacity, vec_len, if◌then◌else◌}
use Rattle.ba_scope_ends.specs.Ends.{new_end}
use Rattle.ba_scope.specs.Rules.{scope_with_end}
use Rattle.ba_scope.specs.Scope.{ScopeState}
use Rattle.ba_scope.specs.contracts.fields.Fields.{the_view}
use Rattle.ba_scope_ends.specs.declared.ends.End.{End}
use Rattle.ba_scope.proofs.fields.Fields.enrol.Goals as goal

if_ok : {A E X : Type 0} (r : Result A E) (x y : X) → IsOk r → (if is_ok r then x else y) ≡ x
if_ok r x y h = ap (λ b. if b then x else y) h

-- the block is empty, and holds the scope's ends and one more
pub push_reserved-requires : goal.push_reserved-requires
push_reserved-requires c =
    let s : ScopeState = the_view c.self.inside in
    let room : length s.ends < c.args.room = subst (λ (s2 : ScopeState). length s2.ends < c.args.room) (sym c.self.view_is) c.requires in
    let none : vec_len c.into_block.result ≡ 0 = c.into_block.result.ok.0 ∙ ap length c.into_block.ensures.items in
    let empty : vec_len c.replace-ends.new.dest ≡ 0 = ap vec_len c.replace-ends.ensures.after ∙ none in
    let size : vec_capacity c.replace-ends.new.dest ≡ c.args.room =
    ap vec_capacity c.replace-ends.ensures.after ∙ c.into_block.ensures.capacity in
    let count : vec_len c.replace-ends.result ≡ length s.ends = ap vec_len c.replace-ends.ensures.value ∙ c.self.inside.ends.ok.0 in
    let fits : vec_len c.replace-ends.new.dest + vec_len c.replace-ends.result ≤ vec_capacity c.replace-ends.new.dest =
    omega (arith, empty, size, count, room) in
    let len = c.append.ensures.len ∙ if_ok c.append.result _ _ (c.append.ensures.succeeds fits) in
    omega (arith, len, empty, size, count, room, c.append.ensures.capacity)

pub returns : goal.returns
returns c =
    let s : ScopeState = the_view c.self.inside in
    let room : length s.ends < c.args.room = subst (λ (s2 : ScopeState). length s2.ends < c.args.room) (sym c.self.view_is) c.requires in
    let none : vec_len c.into_block.result ≡ 0 = c.into_block.result.ok.0 ∙ ap length c.into_block.ensures.items in
    let empty : vec_len c.replace-ends.new.dest ≡ 0 = ap vec_len c.replace-ends.ensures.after ∙ none in
    let size : vec_capacity c.replace-ends.new.dest ≡ c.args.room =
    ap vec_capacity c.replace-ends.ensures.after ∙ c.into_block.ensures.capacity in
    let count : vec_len c.replace-ends.result ≡ length s.ends = ap vec_len c.replace-ends.ensures.value ∙ c.self.inside.ends.ok.0 in
    let fits : vec_len c.replace-ends.new.dest + vec_len c.replace-ends.result ≤ vec_capacity c.replace-ends.new.dest =
    omega (arith, empty, size, count, room) in
    let new : End = new_end c.args.id c.args.protocol c.args.participant in
    let before : c.append.new.self.items ≡ s.ends =
    c.append.ensures.items ∙ if_ok c.append.result _ _ (c.append.ensures.succeeds fits)
    ∙ (λ i. (c.replace-ends.ensures.after i).items ++ (c.replace-ends.ensures.value i).items)
    ∙ ap (λ (es : List End). es ++ s.ends) c.into_block.ensures.items in
    let ends : c.push_reserved.new.self.items ≡ s.ends ++ new ∷ [] =
    c.push_reserved.ensures.items ∙ ap (λ (es : List End). es ++ new ∷ []) before in
    let after : ScopeState = record s { ends = c.push_reserved.new.self.items } in
    subst (λ (s2 : ScopeState). after ≡ scope_with_end s2 c.args.id c.args.protocol c.args.participant) c.self.view_is
    (λ i. record s { ends = ends i })

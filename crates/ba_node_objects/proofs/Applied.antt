-- A change is done at its place; for the doing of a plan.
use Rattle.std.proofs.Common.{◌≡◌, ℕ, ◌<◌, List, [], ◌∷◌, ◌++◌, Option, Some, length, slice_get, slice_set, sym, ap, ◌∙◌, subst}
use Rattle.std.proofs.lemmas.Option.{slice_get_within}
use Rattle.ba_node_objects.specs.Changes.{Suits, SuitsScope, changed_node, changed_part, changed_scope, with_changed}
use Rattle.ba_node_objects.specs.Objects.{NodeInMemory}
use Rattle.ba_node_objects.specs.declared.changes.Change.{Change}
use Rattle.ba_node_objects.specs.declared.changes.Change.TheVariants as changes
use Rattle.ba_node_objects.specs.declared.changes.PartChange.{PartChange}
use Rattle.ba_node_objects.specs.declared.changes.ScopeChange.{ScopeChange}
use Rattle.ba_scope.proofs.Lists.{some_branch}
use Rattle.ba_scope.specs.Scope.{ScopeState}
use Rattle.ba_scope_ends.specs.declared.parts.Part.{Part}
use Rattle.ba_node_steps.specs.Node.{NodeState}

one_item : {A : Type 0} (xs : Option A) (x y : A) → xs ≡ Some x → xs ≡ Some y → x ≡ y
one_item {A = A} xs x y h k = let both : ◌≡◌ {A = Option A} (Some x) (Some y) = sym h ∙ k in cc

-- ---- a scope

pub scope_within : (m : NodeInMemory) (place : ℕ) (change : ScopeChange) (c : Change) → c ≡ changes.Scope place change → Suits m c
    → place < length m.node.scopes
scope_within m place change c is suits =
    let here : Suits m (changes.Scope place change) = subst (Suits m) is suits in
    slice_get_within m.node.scopes place here.0 here.1

pub scope_asks : (m : NodeInMemory) (place : ℕ) (s : ScopeState) (change : ScopeChange) (c : Change) → c ≡ changes.Scope place change
    → Suits m c → slice_get m.node.scopes place ≡ Some s → SuitsScope s change
scope_asks m place s change c is suits found =
    let here : Suits m (changes.Scope place change) = subst (Suits m) is suits in
    subst (λ (t : ScopeState). SuitsScope t change) (one_item (slice_get m.node.scopes place) here.0 s here.1 found) here.2

pub scope_applied : (n : NodeState) (place : ℕ) (s new : ScopeState) (change : ScopeChange) (c : Change) → c ≡ changes.Scope place change
    → slice_get n.scopes place ≡ Some s → new ≡ changed_scope change s → record n { scopes = slice_set n.scopes place new }
    ≡ changed_node n c
scope_applied n place s new change c is found same =
    let whole : slice_set n.scopes place new ≡ with_changed n.scopes place (changed_scope change) =
    ap (slice_set n.scopes place) same ∙ sym (some_branch (slice_get n.scopes place) _ _ s found) in
    (λ i. record n { scopes = whole i }) ∙ ap (changed_node n) (sym is)

-- ---- a lone participant

pub part_within : (m : NodeInMemory) (place : ℕ) (change : PartChange) (c : Change) → c ≡ changes.Part place change → Suits m c
    → place < length m.node.parts
part_within m place change c is suits =
    let here : Suits m (changes.Part place change) = subst (Suits m) is suits in
    slice_get_within m.node.parts place here.0 here.1

pub part_applied : (n : NodeState) (place : ℕ) (p new : Part) (change : PartChange) (c : Change) → c ≡ changes.Part place change
    → slice_get n.parts place ≡ Some p → new ≡ changed_part change p → record n { parts = slice_set n.parts place new } ≡ changed_node n c
part_applied n place p new change c is found same =
    let whole : slice_set n.parts place new ≡ with_changed n.parts place (changed_part change) =
    ap (slice_set n.parts place) same ∙ sym (some_branch (slice_get n.parts place) _ _ p found) in
    (λ i. record n { parts = whole i }) ∙ ap (changed_node n) (sym is)

-- ---- a new object

pub room_for_scope : (m : NodeInMemory) (s : ScopeState) (c : Change) → c ≡ changes.NewScope s → Suits m c → 0 < m.room
room_for_scope m s c is suits = subst (Suits m) is suits

pub room_for_part : (m : NodeInMemory) (p : Part) (c : Change) → c ≡ changes.NewPart p → Suits m c → 0 < m.room
room_for_part m p c is suits = subst (Suits m) is suits

pub scope_pushed : (n : NodeState) (s : ScopeState) (xs : List ScopeState) (c : Change) → c ≡ changes.NewScope s
    → xs ≡ n.scopes ++ s ∷ [] → record n { scopes = xs } ≡ changed_node n c
scope_pushed n s xs c is pushed = (λ i. record n { scopes = pushed i }) ∙ ap (changed_node n) (sym is)

pub part_pushed : (n : NodeState) (p : Part) (xs : List Part) (c : Change) → c ≡ changes.NewPart p → xs ≡ n.parts ++ p ∷ []
    → record n { parts = xs } ≡ changed_node n c
part_pushed n p xs c is pushed = (λ i. record n { parts = pushed i }) ∙ ap (changed_node n) (sym is)

-- In a node that fits each object is one: what two with one identifier have in common; for the law that steps keep a node fit.
use Rattle.std.proofs.Common.{◌≡◌, inl, inr, List, [], ◌∷◌, ◌++◌, map, Option, Some, IsTrue, refl, sym, ap, ◌∙◌, subst}
use Rattle.std.specs.List.{IsDistinct}
use Rattle.std.specs.Option.{option_to_list}
use Rattle.ba_core.specs.declared.identifiers.Id.{Id}
use Rattle.ba_scope_ends.specs.Parts.{part_fits}
use Rattle.ba_scope.specs.Fits.{ScopeFits}
use Rattle.ba_scope_ends.specs.Ends.{same_id}
use Rattle.ba_scope.specs.Scope.{ScopeState}
use Rattle.ba_scope_ends.specs.declared.ends.End.{End}
use Rattle.ba_scope_ends.specs.declared.parts.Part.{Part}
use Rattle.ba_node_steps.specs.Fits.{IsIdAt, NodeFits}
use Rattle.ba_node_steps.specs.Node.{Among, HasPart, NodeState, ids, scope_ids}
use Rattle.ba_node_steps.proofs.Members.{all_among, among_joined, among_left, among_map, among_right, apart_across, apart_left, apart_right}
use Rattle.ba_node_steps.proofs.Members.{one_item, one_owner}
use Rattle.ba_tree.specs.Trees.{joined}

-- ---- whose an identifier is

abbrev pub up_ids : ScopeState → List Id
up_ids s = map (λ (p : Part). p.id) (option_to_list s.up)

abbrev pub end_ids : ScopeState → List Id
end_ids s = map (λ (e : End). e.id) s.ends

-- the identifiers in scopes, and those of lone participants
abbrev pub ids_in_scopes : NodeState → List Id
ids_in_scopes n = joined (map scope_ids n.scopes)

abbrev pub lone_ids : NodeState → List Id
lone_ids n = map (λ (p : Part). p.id) n.parts

pub up_owned : (s : ScopeState) (p : Part) → s.up ≡ Some p → Among (scope_ids s) p.id
up_owned s p is =
    let here : Among (up_ids s) p.id = subst (λ (o : Option Part). Among (map (λ (q : Part). q.id) (option_to_list o)) p.id) (sym is)
    (inl refl) in
    inr (among_left (up_ids s) (end_ids s) p.id here)

pub end_owned : (s : ScopeState) (e : End) → Among s.ends e → Among (scope_ids s) e.id
end_owned s e among = inr (among_right (up_ids s) (end_ids s) e.id (among_map (λ (x : End). x.id) s.ends e among))

pub in_scopes : (n : NodeState) (s : ScopeState) (id : Id) → Among n.scopes s → Among (scope_ids s) id → Among (ids_in_scopes n) id
in_scopes n s id among owned = among_joined (map scope_ids n.scopes) (scope_ids s) id (among_map scope_ids n.scopes s among) owned

-- ---- each is at its node

here_of : (n : NodeState) (id : Id) → NodeFits n → Among (ids n) id → IsIdAt n.number id
here_of n id fits among = all_among (IsIdAt n.number) (ids n) id fits.here among

pub owned_here : (n : NodeState) (s : ScopeState) (id : Id) → NodeFits n → Among n.scopes s → Among (scope_ids s) id → IsIdAt n.number id
owned_here n s id fits among owned = here_of n id fits (among_left (ids_in_scopes n) (lone_ids n) id (in_scopes n s id among owned))

pub scope_here : (n : NodeState) (s : ScopeState) → NodeFits n → Among n.scopes s → IsIdAt n.number s.id
scope_here n s fits among = owned_here n s s.id fits among (inl refl)

pub end_here : (n : NodeState) (s : ScopeState) (e : End) → NodeFits n → Among n.scopes s → Among s.ends e → IsIdAt n.number e.id
end_here n s e fits among of = owned_here n s e.id fits among (end_owned s e of)

pub up_here : (n : NodeState) (s : ScopeState) (p : Part) → NodeFits n → Among n.scopes s → s.up ≡ Some p → IsIdAt n.number p.id
up_here n s p fits among is = owned_here n s p.id fits among (up_owned s p is)

pub lone_here : (n : NodeState) (p : Part) → NodeFits n → Among n.parts p → IsIdAt n.number p.id
lone_here n p fits among =
    here_of n p.id fits (among_right (ids_in_scopes n) (lone_ids n) p.id (among_map (λ (x : Part). x.id) n.parts p among))

pub part_here : (n : NodeState) (p : Part) → NodeFits n → HasPart n p → IsIdAt n.number p.id
part_here n p fits (inl among) = lone_here n p fits among
part_here n p fits (inr above) = up_here n above.0 p fits above.1 above.2

-- ---- each fits

pub scope_fits : (n : NodeState) (s : ScopeState) → NodeFits n → Among n.scopes s → ScopeFits s
scope_fits n s fits among = all_among ScopeFits n.scopes s fits.scopes among

pub lone_fits : (n : NodeState) (p : Part) → NodeFits n → Among n.parts p → IsTrue (part_fits p)
lone_fits n p fits among = all_among (λ (x : Part). IsTrue (part_fits x)) n.parts p fits.parts among

-- ---- each is one

-- two scopes that have an identifier in common
pub owners_are_one : (n : NodeState) (s t : ScopeState) (a b : Id) → NodeFits n → Among n.scopes s → Among n.scopes t
    → Among (scope_ids s) a → Among (scope_ids t) b → a.0 ≡ b.0 → s ≡ t
owners_are_one n s t a b fits of_s of_t here there same =
    one_owner scope_ids n.scopes s t a b (apart_left (ids_in_scopes n) (lone_ids n) fits.apart) of_s of_t here there same

pub one_scope : (n : NodeState) (s t : ScopeState) → NodeFits n → Among n.scopes s → Among n.scopes t → s.id.0 ≡ t.id.0 → s ≡ t
one_scope n s t fits of_s of_t same = owners_are_one n s t s.id t.id fits of_s of_t (inl refl) (inl refl) same

pub one_scope_above : (n : NodeState) (s t : ScopeState) (p q : Part) → NodeFits n → Among n.scopes s → Among n.scopes t
    → s.up ≡ Some p → t.up ≡ Some q → p.id.0 ≡ q.id.0 → s ≡ t
one_scope_above n s t p q fits of_s of_t up_s up_t same =
    owners_are_one n s t p.id q.id fits of_s of_t (up_owned s p up_s) (up_owned t q up_t) same

-- within one scope
apart_within : (n : NodeState) (s : ScopeState) → NodeFits n → Among n.scopes s → IsDistinct same_id (scope_ids s)
apart_within n s fits among = by_scopes n.scopes (apart_left (ids_in_scopes n) (lone_ids n) fits.apart) among
  where
    by_scopes : (scopes : List ScopeState) → IsDistinct same_id (joined (map scope_ids scopes)) → Among scopes s
        → IsDistinct same_id (scope_ids s)
    by_scopes [] apart h = absurd h
    by_scopes (t ∷ more) apart (inl same) =
        subst (λ (x : ScopeState). IsDistinct same_id (scope_ids x)) same (apart_left (scope_ids t) (joined (map scope_ids more)) apart)
    by_scopes (t ∷ more) apart (inr later) = by_scopes more (apart_right (scope_ids t) (joined (map scope_ids more)) apart) later

own_apart : (s : ScopeState) → IsDistinct same_id (scope_ids s) → IsDistinct same_id (up_ids s ++ end_ids s)
own_apart s apart = apart_right (s.id ∷ []) (up_ids s ++ end_ids s) apart

pub one_end : (n : NodeState) (s t : ScopeState) (e f : End) → NodeFits n → Among n.scopes s → Among n.scopes t → Among s.ends e
    → Among t.ends f
    → e.id.0 ≡ f.id.0 → (s ≡ t) × (e ≡ f)
one_end n s t e f fits of_s of_t end_s end_t same =
    let scopes : s ≡ t = owners_are_one n s t e.id f.id fits of_s of_t (end_owned s e end_s) (end_owned t f end_t) same in
    let apart = apart_right (up_ids s) (end_ids s) (own_apart s (apart_within n s fits of_s)) in
    let end_too : Among s.ends f = subst (λ (x : ScopeState). Among x.ends f) (sym scopes) end_t in
    (scopes, one_item (λ (x : End). x.id) s.ends e f apart end_s end_too same)

pub one_lone : (n : NodeState) (p q : Part) → NodeFits n → Among n.parts p → Among n.parts q → p.id.0 ≡ q.id.0 → p ≡ q
one_lone n p q fits of_p of_q same =
    one_item (λ (x : Part). x.id) n.parts p q (apart_right (ids_in_scopes n) (lone_ids n) fits.apart) of_p of_q same

-- no lone participant has an identifier that a scope, its upward part or an end has
pub no_lone_is_owned : (n : NodeState) (s : ScopeState) (p : Part) (id : Id) → NodeFits n → Among n.parts p → Among n.scopes s
    → Among (scope_ids s) id
    → id.0 ≡ p.id.0 → ⊥
no_lone_is_owned n s p id fits of_p of_s owned same =
    apart_across (ids_in_scopes n) (lone_ids n) id p.id fits.apart (in_scopes n s id of_s owned)
    (among_map (λ (x : Part). x.id) n.parts p of_p) same

pub no_lone_is_up : (n : NodeState) (s : ScopeState) (p q : Part) → NodeFits n → Among n.parts p → Among n.scopes s → s.up ≡ Some q
    → p.id.0 ≡ q.id.0 → ⊥
no_lone_is_up n s p q fits of_p of_s is same = no_lone_is_owned n s p q.id fits of_p of_s (up_owned s q is) (sym same)

-- no end has a participant's identifier
no_end_is_up : (n : NodeState) (s t : ScopeState) (e : End) (p : Part) → NodeFits n → Among n.scopes s → Among n.scopes t → Among s.ends e
    → t.up ≡ Some p → e.id.0 ≡ p.id.0 → ⊥
no_end_is_up n s t e p fits of_s of_t end_s up_t same =
    let scopes : s ≡ t = owners_are_one n s t e.id p.id fits of_s of_t (end_owned s e end_s) (up_owned t p up_t) same in
    let up_s : s.up ≡ Some p = ap (λ (x : ScopeState). x.up) scopes ∙ up_t in
    let here : Among (up_ids s) p.id = subst (λ (o : Option Part). Among (map (λ (q : Part). q.id) (option_to_list o)) p.id) (sym up_s)
    (inl refl) in
    let there : Among (end_ids s) e.id = among_map (λ (x : End). x.id) s.ends e end_s in
    apart_across (up_ids s) (end_ids s) p.id e.id (own_apart s (apart_within n s fits of_s)) here there (sym same)

pub no_end_is_a_part : (n : NodeState) (s : ScopeState) (e : End) (p : Part) → NodeFits n → Among n.scopes s → Among s.ends e → HasPart n p
    → e.id.0 ≡ p.id.0 → ⊥
no_end_is_a_part n s e p fits of_s end_s (inl of_p) same = no_lone_is_owned n s p e.id fits of_p of_s (end_owned s e end_s) same
no_end_is_a_part n s e p fits of_s end_s (inr above) same = no_end_is_up n s above.0 e p fits of_s above.1 end_s above.2 same

-- no scope has the identifier of an end
pub no_scope_is_an_end : (n : NodeState) (s t : ScopeState) (e : End) → NodeFits n → Among n.scopes s → Among n.scopes t → Among t.ends e
    → s.id.0 ≡ e.id.0 → ⊥
no_scope_is_an_end n s t e fits of_s of_t end_t same =
    let scopes : s ≡ t = owners_are_one n s t s.id e.id fits of_s of_t (inl refl) (end_owned t e end_t) same in
    let same_too : t.id.0 ≡ e.id.0 = sym (ap (λ (x : ScopeState). x.id.0) scopes) ∙ same in
    apart_across (t.id ∷ []) (up_ids t ++ end_ids t) t.id e.id (apart_within n t fits of_t) (inl refl)
    (among_right (up_ids t) (end_ids t) e.id (among_map (λ (x : End). x.id) t.ends e end_t)) same_too

-- two participants with one identifier are one
pub one_part : (n : NodeState) (p q : Part) → NodeFits n → HasPart n p → HasPart n q → p.id.0 ≡ q.id.0 → p ≡ q
one_part n p q fits (inl of_p) (inl of_q) same = one_lone n p q fits of_p of_q same
one_part n p q fits (inl of_p) (inr above) same = absurd (no_lone_is_up n above.0 p q fits of_p above.1 above.2 same)
one_part n p q fits (inr above) (inl of_q) same = absurd (no_lone_is_up n above.0 q p fits of_q above.1 above.2 (sym same))
one_part n p q fits (inr above) (inr other) same =
    let scopes = one_scope_above n above.0 other.0 p q fits above.1 other.1 above.2 other.2 same in
    let ups : ◌≡◌ {A = Option Part} (Some p) (Some q) = sym above.2 ∙ ap (λ (x : ScopeState). x.up) scopes ∙ other.2 in
    cc

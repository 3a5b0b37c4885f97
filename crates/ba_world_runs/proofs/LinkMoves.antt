-- What becomes of the state of one link where its scope's ends or its participant change: the look-up of its end, whether its
-- scope takes no more, and quiet moves; for the law that each step of a node is moves of its links.
use Rattle.std.proofs.Common.{◌≡◌, ℕ, ◌≤◌, Bool, true, false, not, ◌||◌, List, [], ◌∷◌, ◌++◌, length, map, nat_le, Option, None, Some}
use Rattle.std.proofs.Common.{is_some, refl, sym, ap, ◌∙◌, subst, arith, true≢false, if◌then◌else◌}
use Rattle.std.specs.List.{find}
use Rattle.std.specs.Option.{option_map, option_or}
use Rattle.std.proofs.lemmas.Bool.Decides.{nat_tests}
use Rattle.std.proofs.lemmas.List.{length-map}
use Rattle.std.proofs.lemmas.List.Folds.{find-append}
use Rattle.ba_core.specs.declared.identifiers.Id.{Id}
use Rattle.ba_core.specs.declared.protocols.Protocol.{Protocol}
use Rattle.ba_core.specs.declared.states.PState.{PState}
use Rattle.ba_link.specs.Link as link
use Rattle.ba_link.specs.Link.{LinkState, Move, heard_by, moved_link}
use Rattle.ba_message.specs.Endpoints.{same_epr}
use Rattle.ba_message.specs.declared.endpoints.Epr.{Epr}
use Rattle.ba_scope.proofs.Lists.{by_test}
use Rattle.ba_scope.proofs.Tables.{is_open_state}
use Rattle.ba_scope.specs.Rules.{changed_at, with_up}
use Rattle.ba_scope_ends.specs.Ends.{end_of, same_id}
use Rattle.ba_scope.specs.Scope.{ScopeState, is_at_work, is_full, is_sealed, takes_no_more}
use Rattle.ba_scope_ends.specs.declared.ends.End.{End}
use Rattle.ba_scope_ends.specs.declared.parts.Part.{Part}

-- ---- the end of a participant

find_map_here : {A : Type 0} (f : A → A) (y : A) (b : Bool) (m o : Option A) → m ≡ option_map f o
    → (if b then Some (f y) else m) ≡ option_map f (if b then Some y else o)
find_map_here f y true m o h = refl
find_map_here f y false m o h = h

-- under a change that keeps the test the first that passes is the same one, changed
pub find_map : {A : Type 0} (test : A → Bool) (f : A → A) → ((x : A) → test (f x) ≡ test x) → (xs : List A)
    → find test (map f xs) ≡ option_map f (find test xs)
find_map test f keeps [] = refl
find_map test f keeps (y ∷ xs) =
    ap (λ (b : Bool). if b then Some (f y) else find test (map f xs)) (keeps y)
    ∙ find_map_here f y (test y) (find test (map f xs)) (find test xs) (find_map test f keeps xs)

-- a change that keeps whose an end is
abbrev pub KeepsOwner : (End → End) → Type 0
KeepsOwner f = (e : End) → (f e).participant ≡ e.participant

pub end_of_map : (f : End → End) → KeepsOwner f → (es : List End) (here : Epr) → end_of (map f es) here ≡ option_map f (end_of es here)
end_of_map f keeps es here =
    find_map (λ (e : End). same_epr e.participant here) f (λ x. ap (λ (y : Epr). same_epr y here) (keeps x)) es

pub at_keeps_owner : (id : Id) (f : End → End) → KeepsOwner f → KeepsOwner (changed_at id f)
at_keeps_owner id f keeps e =
    by_test (λ (x : End). x.participant ≡ e.participant) (same_id e.id id) (f e) e (λ _. keeps e) (λ _. refl)

-- a new end after the others
pub end_of_new : (es : List End) (new : End) (here : Epr) → end_of es here ≡ None → same_epr new.participant here ≡ true
    → end_of (es ++ new ∷ []) here ≡ Some new
end_of_new es new here none same =
    find-append (λ (e : End). same_epr e.participant here) es (new ∷ [])
    ∙ ap (λ (o : Option End). option_or o (end_of (new ∷ []) here)) none
    ∙ ap (λ (b : Bool). if b then Some new else None) same

pub end_of_others : (es : List End) (new : End) (here : Epr) → same_epr new.participant here ≡ false
    → end_of (es ++ new ∷ []) here ≡ end_of es here
end_of_others es new here other =
    find-append (λ (e : End). same_epr e.participant here) es (new ∷ [])
    ∙ ap (λ (b : Bool). option_or (end_of es here) (if b then Some new else None)) other
    ∙ or_none (end_of es here)
  where
    or_none : (o : Option End) → option_or o None ≡ o
    or_none None = refl
    or_none (Some e) = refl

-- ---- a scope that takes no more goes on taking no more

or_grows : (a b c d : Bool) → (a ≡ true → c ≡ true) → (b ≡ true → d ≡ true) → (a || b) ≡ true → (c || d) ≡ true
or_grows true b c d left right h = let here : c ≡ true = left refl in ap (λ (x : Bool). x || d) here
or_grows false true true d left right h = refl
or_grows false true false d left right h = right refl
or_grows false false c d left right h = absurd (true≢false (sym h))

-- a scope of the same limit that has no fewer ends, and that isn't sealed less
pub takes_no_less : (s t : ScopeState) → t.limit ≡ s.limit → length s.ends ≤ length t.ends → (is_sealed s ≡ true → is_sealed t ≡ true)
    → takes_no_more s ≡ true → takes_no_more t ≡ true
takes_no_less s t limit more sealed =
    or_grows (is_sealed s) (is_full s) (is_sealed t) (is_full t) sealed (full s.limit t.limit (length s.ends) (length t.ends) limit more)
  where
    full : (limit limit2 count count2 : ℕ) → limit2 ≡ limit → count ≤ count2 → nat_le limit count ≡ true → nat_le limit2 count2 ≡ true
    full limit limit2 count count2 same more h = grind (arith, nat_tests)

-- the upward part doesn't come back to work
pub sealed_above : (s : ScopeState) (p q : Part) → s.up ≡ Some p → (is_open_state q.state ≡ true → is_open_state p.state ≡ true)
    → is_sealed s ≡ true → is_sealed (with_up s q) ≡ true
sealed_above s p q is work h =
    or_grows (is_some s.verdict) (not (is_open_state p.state)) (is_some s.verdict) (not (is_open_state q.state)) (λ verdict. verdict)
    (closed (is_open_state p.state) (is_open_state q.state) work)
    (subst (λ (o : Option Part). (is_some s.verdict || not (is_at_work o)) ≡ true) is h)
  where
    closed : (before after : Bool) → (after ≡ true → before ≡ true) → not before ≡ true → not after ≡ true
    closed before true work h = absurd (true≢false (sym h ∙ ap not (work refl)))
    closed before false work h = refl

-- one end changes, and no more ends
pub takes_as_before : (s : ScopeState) (f : End → End) → takes_no_more (record s { ends = map f s.ends }) ≡ takes_no_more s
takes_as_before s f = ap (λ (count : ℕ). is_sealed s || nat_le s.limit count) (length-map s.ends f)

-- ---- a link's state, part by part, and moves that neither hear nor say anything

abbrev pub link_with : Protocol → Option link.End → PState → Bool → LinkState
link_with protocol end part sealed = record { protocol = protocol; end = end; part = part; sealed = sealed }

pub data Quiet (a c : LinkState) : Type 0 where
  stays_quiet : c ≡ a → Quiet a c
  moves_quiet : (m : Move) → heard_by m ≡ None → moved_link a m ≡ Some (c, None) → Quiet a c

-- What a step of a node keeps of who its objects are, and which new ones an input makes; for the law that endpoints lead where they
-- should.
use Rattle.std.proofs.Common.{◌≡◌, ◌⊎◌, inl, inr, List, [], ◌∷◌, ◌++◌, map, Option, None, Some, refl, sym, ap, ◌∙◌, subst}
use Rattle.ba_core.specs.declared.identifiers.Id.{Id}
use Rattle.ba_core.specs.declared.protocols.Kind.{Kind}
use Rattle.ba_core.specs.declared.protocols.Protocol.{Protocol}
use Rattle.ba_message.specs.declared.endpoints.Epr.{Epr}
use Rattle.ba_message.specs.declared.messages.Context.{Context}
use Rattle.ba_scope.proofs.Lists.{by_test}
use Rattle.ba_scope.specs.Rules.{with_up}
use Rattle.ba_scope_ends.specs.Ends.{same_id}
use Rattle.ba_scope.specs.Scope.{ScopeState}
use Rattle.ba_scope_ends.specs.declared.ends.End.{End}
use Rattle.ba_scope_ends.specs.declared.parts.Part.{Part}
use Rattle.ba_node_steps.specs.declared.inputs.Input.{Input}
use Rattle.ba_node_steps.specs.declared.inputs.Input.TheVariants as input
use Rattle.ba_node_steps.specs.Fits.{NodeFits}
use Rattle.ba_node_steps.specs.Node.{Among, HasPart, NodeState, PartPlace, lone, next_id, nowhere, part_in_place_of, scope_in_place_of, upward}
use Rattle.ba_node_steps.specs.Node.{with_lone, with_new_part, with_new_scope, with_part_changed, with_scope}
use Rattle.ba_node_steps.proofs.Members.{among_left, among_map, same_id_is}
use Rattle.ba_node_steps.proofs.Objects.{one_lone, one_scope}
use Rattle.ba_node_steps.proofs.Places.{Stands}

-- ---- what an input brings: a coordinator for a participant, a participant for a scope, a registration for a new participant

abbrev pub Tells : Option Input → Id → Epr → Type 0
Tells (Some (input.Enrolled id c)) part coordinator = (part ≡ id) × (coordinator ≡ c)
Tells cause part coordinator = ⊥

abbrev pub Enrols : Option Input → Id → Protocol → Epr → Type 0
Enrols (Some (input.Register scope protocol participant)) s p e = (s ≡ scope) × (protocol ≡ Some p) × (e ≡ participant)
Enrols cause s p e = ⊥

abbrev pub Makes : Option Input → Epr → Type 0
Makes (Some (input.Create expires current kind protocol)) r = (c : Context) × (current ≡ Some c) × (r ≡ c.registration)
Makes (Some (input.Join protocol registration)) r = r ≡ registration
Makes cause r = ⊥

-- a registration and the kind of its scope, for a new child of this kind
abbrev pub MakesChild : Option Input → Epr → Kind → Type 0
MakesChild (Some (input.Create expires current kind protocol)) r k =
    (c : Context) × (current ≡ Some c) × (r ≡ c.registration) × (c.kind ≡ Some k)
MakesChild cause r k = ⊥

-- ---- who an object is

pub record SameEnd (e f : End) : Type 0 where
  pub id : f.id ≡ e.id
  pub participant : f.participant ≡ e.participant
  pub protocol : f.protocol ≡ e.protocol

pub record IsTold (cause : Option Input) (p q : Part) : Type 0 where
  pub none : p.coordinator ≡ None
  pub coordinator : Epr
  pub keeps : q.coordinator ≡ Some coordinator
  pub tells : Tells cause p.id coordinator

pub record SamePart (cause : Option Input) (p q : Part) : Type 0 where
  pub id : q.id ≡ p.id
  pub protocol : q.protocol ≡ p.protocol
  pub registration : q.registration ≡ p.registration
  pub coordinator : (q.coordinator ≡ p.coordinator) ⊎ IsTold cause p q

pub same_end : (e : End) → SameEnd e e
same_end e = record { id = refl; participant = refl; protocol = refl }

pub same_part : (cause : Option Input) (p : Part) → SamePart cause p p
same_part cause p = record { id = refl; protocol = refl; registration = refl; coordinator = inl refl }

-- ---- the ends of a scope, and its upward part

pub record EndsGo (cause : Option Input) (id : Id) (es fs : List End) : Type 0 where
  pub forth : (e : End) → Among es e → (f : End) × Among fs f × SameEnd e f
  pub back : (f : End) → Among fs f → ((e : End) × Among es e × SameEnd e f) ⊎ Enrols cause id f.protocol f.participant

pub record UpGoes (cause : Option Input) (o u : Option Part) : Type 0 where
  pub forth : (p : Part) → o ≡ Some p → (q : Part) × (u ≡ Some q) × SamePart cause p q
  pub back : (q : Part) → u ≡ Some q → (p : Part) × (o ≡ Some p) × SamePart cause p q

pub record ScopeGoes (cause : Option Input) (s t : ScopeState) : Type 0 where
  pub id : t.id ≡ s.id
  pub kind : t.kind ≡ s.kind
  pub ends : EndsGo cause s.id s.ends t.ends
  pub up : UpGoes cause s.up t.up

pub ends_stay : (cause : Option Input) (id : Id) (es : List End) → EndsGo cause id es es
ends_stay cause id es = record { forth = λ e among. (e, among, same_end e); back = λ f among. inl (f, among, same_end f) }

pub from_map : {A B : Type 0} (f : A → B) (xs : List A) (y : B) → Among (map f xs) y → (x : A) × Among xs x × (f x ≡ y)
from_map f [] y h = absurd h
from_map f (x ∷ xs) y (inl h) = (x, inl refl, h)
from_map f (x ∷ xs) y (inr h) = let rest = from_map f xs y h in (rest.0, inr rest.1, rest.2)

pub from_append : {A : Type 0} (xs ys : List A) (x : A) → Among (xs ++ ys) x → Among xs x ⊎ Among ys x
from_append [] ys x h = inr h
from_append (y ∷ xs) ys x (inl h) = inl (inl h)
from_append (y ∷ xs) ys x (inr h) = elim (from_append xs ys x h) [ inl l ↦ inl (inr l) | inr r ↦ inr r ]

pub ends_map : (cause : Option Input) (id : Id) (g : End → End) (es : List End) → ((e : End) → SameEnd e (g e))
    → EndsGo cause id es (map g es)
ends_map cause id g es same = record {
  forth = λ e among. (g e, among_map g es e among, same e);
  back = λ f among. let e = from_map g es f among in inl (e.0, e.1, subst (SameEnd e.0) e.2 (same e.0));
}

pub ends_push : (cause : Option Input) (id : Id) (es : List End) (new : End) → Enrols cause id new.protocol new.participant
    → EndsGo cause id es (es ++ new ∷ [])
ends_push cause id es new enrols = record {
  forth = λ e among. (e, among_left es (new ∷ []) e among, same_end e);
  back = λ f among. elim (from_append es (new ∷ []) f among) [
    | inl old ↦ inl (f, old, same_end f)
    | inr last ↦ inr (by_last f last)
  ];
}
  where
    by_last : (f : End) → Among (new ∷ []) f → Enrols cause id f.protocol f.participant
    by_last f (inl same) = subst (λ (x : End). Enrols cause id x.protocol x.participant) same enrols
    by_last f (inr h) = absurd h

pub some_same : {A : Type 0} (x y : A) → ◌≡◌ {A = Option A} (Some x) (Some y) → x ≡ y
some_same x y h = cc

pub up_stays : (cause : Option Input) (o : Option Part) → UpGoes cause o o
up_stays cause o = record { forth = λ p is. (p, is, same_part cause p); back = λ q is. (q, is, same_part cause q) }

pub up_changes : (cause : Option Input) (o : Option Part) (p q : Part) → o ≡ Some p → SamePart cause p q → UpGoes cause o (Some q)
up_changes cause o p q is same = record {
  forth = λ x x_is. (q, refl, subst (λ (y : Part). SamePart cause y q) (some_same p x (sym is ∙ x_is)) same);
  back = λ y y_is. (p, is, subst (SamePart cause p) (some_same q y y_is) same);
}

pub scope_stays : (cause : Option Input) (s : ScopeState) → ScopeGoes cause s s
scope_stays cause s = record { id = refl; kind = refl; ends = ends_stay cause s.id s.ends; up = up_stays cause s.up }

-- ---- the objects of a node

-- an end afterwards that is this one
pub record EndGoes (m : NodeState) (s : ScopeState) (e : End) : Type 0 where
  pub scope : ScopeState
  pub end : End
  pub here : Among m.scopes scope
  pub among : Among scope.ends end
  pub own : scope.id ≡ s.id
  pub same : SameEnd e end

-- the end before that is this one
pub record EndComes (n : NodeState) (t : ScopeState) (f : End) : Type 0 where
  pub scope : ScopeState
  pub end : End
  pub here : Among n.scopes scope
  pub among : Among scope.ends end
  pub own : t.id ≡ scope.id
  pub same : SameEnd end f

pub record EndIsNew (cause : Option Input) (n : NodeState) (t : ScopeState) (f : End) : Type 0 where
  pub scope : ScopeState
  pub here : Among n.scopes scope
  pub own : t.id ≡ scope.id
  pub enrols : Enrols cause scope.id f.protocol f.participant

-- the scope before that is this one
pub record ScopeComes (cause : Option Input) (n : NodeState) (t : ScopeState) : Type 0 where
  pub scope : ScopeState
  pub here : Among n.scopes scope
  pub own : t.id ≡ scope.id
  pub kind : t.kind ≡ scope.kind
  pub up : (q : Part) → t.up ≡ Some q → (p : Part) × (scope.up ≡ Some p) × SamePart cause p q

pub record ScopeIsNew (cause : Option Input) (n : NodeState) (t : ScopeState) : Type 0 where
  pub id : t.id ≡ next_id n 1
  pub made : (q : Part) → t.up ≡ Some q → MakesChild cause q.registration t.kind

pub record NodeGoes (cause : Option Input) (n m : NodeState) : Type 0 where
  pub ends_forth : (s : ScopeState) (e : End) → Among n.scopes s → Among s.ends e → EndGoes m s e
  pub ends_back : (t : ScopeState) (f : End) → Among m.scopes t → Among t.ends f → EndComes n t f ⊎ EndIsNew cause n t f
  pub scopes_back : (t : ScopeState) → Among m.scopes t → ScopeComes cause n t ⊎ ScopeIsNew cause n t
  pub parts_forth : (p : Part) → HasPart n p → (q : Part) × HasPart m q × SamePart cause p q
  pub parts_back : (q : Part) → HasPart m q
      → ((p : Part) × HasPart n p × SamePart cause p q) ⊎ (Makes cause q.registration × (q.coordinator ≡ None))

-- each scope and each lone participant changes where it stands
pub mapped_goes : (cause : Option Input) (n : NodeState) (g : ScopeState → ScopeState) (h : Part → Part)
    → ((s : ScopeState) → Among n.scopes s → ScopeGoes cause s (g s)) → ((p : Part) → Among n.parts p → SamePart cause p (h p))
    → NodeGoes cause n (record n { scopes = map g n.scopes; parts = map h n.parts })
mapped_goes cause n g h goes same = record {
  ends_forth = λ s e of among.
      let f = (goes s of).ends.forth e among in
      record { scope = g s; end = f.0; here = among_map g n.scopes s of; among = f.1; own = (goes s of).id; same = f.2 };
  ends_back = λ t f of among. end_back t f (from_map g n.scopes t of) among;
  scopes_back = λ t of. inl (scope_back t (from_map g n.scopes t of));
  parts_forth = part_forth;
  parts_back = λ q has. inl (part_back q has);
}
  where
    scope_back : (t : ScopeState) → (s : ScopeState) × Among n.scopes s × (g s ≡ t) → ScopeComes cause n t
    scope_back t x =
        let at = goes x.0 x.1 in
        record {
          scope = x.0;
          here = x.1;
          own = ap (λ (y : ScopeState). y.id) (sym x.2) ∙ at.id;
          kind = ap (λ (y : ScopeState). y.kind) (sym x.2) ∙ at.kind;
          up = λ q above. at.up.back q (ap (λ (y : ScopeState). y.up) x.2 ∙ above);
        }

    end_back : (t : ScopeState) (f : End) → (s : ScopeState) × Among n.scopes s × (g s ≡ t) → Among t.ends f
        → EndComes n t f ⊎ EndIsNew cause n t f
    end_back t f x among =
        let at = goes x.0 x.1 in
        let own : t.id ≡ x.0.id = ap (λ (y : ScopeState). y.id) (sym x.2) ∙ at.id in
        elim (at.ends.back f (subst (λ (y : ScopeState). Among y.ends f) (sym x.2) among)) [
          | inl e ↦ inl (record { scope = x.0; end = e.0; here = x.1; among = e.1; own = own; same = e.2 })
          | inr new ↦ inr (record { scope = x.0; here = x.1; own = own; enrols = new })
        ]

    part_forth : (p : Part) → HasPart n p
        → (q : Part) × HasPart (record n { scopes = map g n.scopes; parts = map h n.parts }) q × SamePart cause p q
    part_forth p (inl alone) = (h p, inl (among_map h n.parts p alone), same p alone)
    part_forth p (inr above) =
        let q = (goes above.0 above.1).up.forth p above.2 in
        (q.0, inr (g above.0, among_map g n.scopes above.0 above.1, q.1), q.2)

    part_back : (q : Part) → HasPart (record n { scopes = map g n.scopes; parts = map h n.parts }) q
        → (p : Part) × HasPart n p × SamePart cause p q
    part_back q (inl alone) =
        let p = from_map h n.parts q alone in (p.0, inl p.1, subst (SamePart cause p.0) p.2 (same p.0 p.1))
    part_back q (inr above) =
        let s = from_map g n.scopes above.0 above.1 in
        let p = (goes s.0 s.1).up.back q (ap (λ (y : ScopeState). y.up) s.2 ∙ above.2) in
        (p.0, inr (s.0, s.1, p.1), p.2)

scope_itself : (cause : Option Input) (n : NodeState) (t : ScopeState) → Among n.scopes t → ScopeComes cause n t
scope_itself cause n t of =
    record { scope = t; here = of; own = refl; kind = refl; up = λ q above. (q, above, same_part cause q) }

pub itself : (cause : Option Input) (n : NodeState) → NodeGoes cause n n
itself cause n = record {
  ends_forth = λ s e of among.
      record { scope = s; end = e; here = of; among = among; own = refl; same = same_end e };
  ends_back = λ t f of among.
      inl (record { scope = t; end = f; here = of; among = among; own = refl; same = same_end f });
  scopes_back = λ t of. inl (scope_itself cause n t of);
  parts_forth = λ p has. (p, has, same_part cause p);
  parts_back = λ q has. inl (q, has, same_part cause q);
}

map_itself : {A : Type 0} (xs : List A) → map (λ (x : A). x) xs ≡ xs
map_itself [] = refl
map_itself (x ∷ xs) = ap (λ rest. x ∷ rest) (map_itself xs)

pub scope_goes : (cause : Option Input) (n : NodeState) (s new : ScopeState) → NodeFits n → Among n.scopes s → ScopeGoes cause s new
    → NodeGoes cause n (with_scope n new)
scope_goes cause n s new fits among goes =
    subst (λ (parts : List Part). NodeGoes cause n (record n { scopes = map (scope_in_place_of new) n.scopes; parts = parts }))
    (map_itself n.parts)
    (mapped_goes cause n (scope_in_place_of new) (λ (p : Part). p) each (λ p alone. same_part cause p))
  where
    each : (x : ScopeState) → Among n.scopes x → ScopeGoes cause x (scope_in_place_of new x)
    each x of = by_test (ScopeGoes cause x) (same_id x.id new.id) new x (λ here.
        let one : s ≡ x = one_scope n s x fits among of
        (ap (λ (i : Id). i.0) (sym goes.id) ∙ ap (λ (i : Id). i.0) (sym (same_id_is x.id new.id here))) in
        subst (λ (y : ScopeState). ScopeGoes cause y new) one goes)
        (λ other. scope_stays cause x)

pub lone_goes : (cause : Option Input) (n : NodeState) (p q : Part) → NodeFits n → Among n.parts p → SamePart cause p q
    → NodeGoes cause n (with_lone n q)
lone_goes cause n p q fits among same =
    subst (λ (scopes : List ScopeState). NodeGoes cause n (record n { scopes = scopes; parts = map (part_in_place_of q) n.parts }))
    (map_itself n.scopes)
    (mapped_goes cause n (λ (s : ScopeState). s) (part_in_place_of q) (λ s of. scope_stays cause s) each)
  where
    each : (x : Part) → Among n.parts x → SamePart cause x (part_in_place_of q x)
    each x of = by_test (SamePart cause x) (same_id x.id q.id) q x (λ here.
        let one : p ≡ x = one_lone n p x fits among of
        (ap (λ (i : Id). i.0) (sym same.id) ∙ ap (λ (i : Id). i.0) (sym (same_id_is x.id q.id here))) in
        subst (λ (y : Part). SamePart cause y q) one same)
        (λ other. same_part cause x)

-- a participant changed where it stands
pub part_goes : (cause : Option Input) (n : NodeState) (id : Id) (place : PartPlace) (p : Part) (f : Part → Part) → NodeFits n
    → Stands n id place p → SamePart cause p (f p) → NodeGoes cause n (with_part_changed n place f)
part_goes cause n id nowhere p f fits stands same = absurd stands
part_goes cause n id (lone q) p f fits stands same =
    lone_goes cause n q (f q) fits stands.0.part (subst (λ (x : Part). SamePart cause x (f x)) (sym stands.1) same)
part_goes cause n id (upward s q) p f fits stands same =
    scope_goes cause n s (with_up s (f q)) fits stands.0.scope (record {
      id = refl;
      kind = refl;
      ends = ends_stay cause s.id s.ends;
      up = up_changes cause s.up q (f q) stands.0.up (subst (λ (x : Part). SamePart cause x (f x)) (sym stands.1) same);
    })

-- ---- a new scope, whose upward part is new, and a new lone participant

pub new_scope_goes : (cause : Option Input) (n : NodeState) (new : ScopeState) → new.ends ≡ [] → new.id ≡ next_id n 1
    → ((q : Part) → new.up ≡ Some q → MakesChild cause q.registration new.kind)
    → ((q : Part) → new.up ≡ Some q → Makes cause q.registration × (q.coordinator ≡ None)) → NodeGoes cause n (with_new_scope n new)
new_scope_goes cause n new empty id made_child made = record {
  ends_forth = λ s e of among.
      record { scope = s; end = e; here = among_left n.scopes (new ∷ []) s of; among = among; own = refl; same = same_end e };
  ends_back = λ t f of among. end_back t f (from_append n.scopes (new ∷ []) t of) among;
  scopes_back = λ t of. scope_back t (from_append n.scopes (new ∷ []) t of);
  parts_forth = part_forth;
  parts_back = part_back;
}
  where
    scope_back : (t : ScopeState) → Among n.scopes t ⊎ Among (new ∷ []) t → ScopeComes cause n t ⊎ ScopeIsNew cause n t
    scope_back t (inl old) = inl (scope_itself cause n t old)
    scope_back t (inr (inl same)) = inr (subst (ScopeIsNew cause n) same (record { id = id; made = made_child }))
    scope_back t (inr (inr h)) = absurd h

    no_end : (t : ScopeState) (f : End) → Among (new ∷ []) t → Among t.ends f → ⊥
    no_end t f (inl same) among = subst (λ (es : List End). Among es f) (ap (λ (y : ScopeState). y.ends) (sym same) ∙ empty) among
    no_end t f (inr h) among = h

    end_back : (t : ScopeState) (f : End) → Among n.scopes t ⊎ Among (new ∷ []) t → Among t.ends f
        → EndComes n t f ⊎ EndIsNew cause n t f
    end_back t f (inl old) among = inl (record { scope = t; end = f; here = old; among = among; own = refl; same = same_end f })
    end_back t f (inr last) among = absurd (no_end t f last among)

    part_forth : (p : Part) → HasPart n p → (q : Part) × HasPart (with_new_scope n new) q × SamePart cause p q
    part_forth p (inl alone) = (p, inl alone, same_part cause p)
    part_forth p (inr above) =
        (p, inr (above.0, among_left n.scopes (new ∷ []) above.0 above.1, above.2), same_part cause p)

    by_scope : (q : Part) (s : ScopeState) → s.up ≡ Some q → Among n.scopes s ⊎ Among (new ∷ []) s
        → ((p : Part) × HasPart n p × SamePart cause p q) ⊎ (Makes cause q.registration × (q.coordinator ≡ None))
    by_scope q s is (inl old) = inl (q, inr (s, old, is), same_part cause q)
    by_scope q s is (inr (inl same)) = inr (made q (ap (λ (y : ScopeState). y.up) same ∙ is))
    by_scope q s is (inr (inr h)) = absurd h

    part_back : (q : Part) → HasPart (with_new_scope n new) q
        → ((p : Part) × HasPart n p × SamePart cause p q) ⊎ (Makes cause q.registration × (q.coordinator ≡ None))
    part_back q (inl alone) = inl (q, inl alone, same_part cause q)
    part_back q (inr above) = by_scope q above.0 above.2 (from_append n.scopes (new ∷ []) above.0 above.1)

pub new_part_goes : (cause : Option Input) (n : NodeState) (new : Part) → Makes cause new.registration → new.coordinator ≡ None
    → NodeGoes cause n (with_new_part n new)
new_part_goes cause n new made none = record {
  ends_forth = λ s e of among.
      record { scope = s; end = e; here = of; among = among; own = refl; same = same_end e };
  ends_back = λ t f of among.
      inl (record { scope = t; end = f; here = of; among = among; own = refl; same = same_end f });
  scopes_back = λ t of. inl (scope_itself cause n t of);
  parts_forth = part_forth;
  parts_back = part_back;
}
  where
    part_forth : (p : Part) → HasPart n p → (q : Part) × HasPart (with_new_part n new) q × SamePart cause p q
    part_forth p (inl alone) = (p, inl (among_left n.parts (new ∷ []) p alone), same_part cause p)
    part_forth p (inr above) = (p, inr above, same_part cause p)

    by_part : (q : Part) → Among n.parts q ⊎ Among (new ∷ []) q
        → ((p : Part) × HasPart n p × SamePart cause p q) ⊎ (Makes cause q.registration × (q.coordinator ≡ None))
    by_part q (inl old) = inl (q, inl old, same_part cause q)
    by_part q (inr (inl same)) =
        inr (subst (λ (x : Part). Makes cause x.registration × (x.coordinator ≡ None)) same (made, none))
    by_part q (inr (inr h)) = absurd h

    part_back : (q : Part) → HasPart (with_new_part n new) q
        → ((p : Part) × HasPart n p × SamePart cause p q) ⊎ (Makes cause q.registration × (q.coordinator ≡ None))
    part_back q (inl alone) = by_part q (from_append n.parts (new ∷ []) q alone)
    part_back q (inr above) = inl (q, inr above, same_part cause q)

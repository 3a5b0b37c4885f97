-- What a look-up by places finds stands there; for the look-ups of scopes, ends and participants.
use Rattle.std.proofs.Common.{◌≡◌, ℕ, Bool, true, false, List, [], ◌∷◌, Option, None, Some, IsTrue, is_some, slice_get, refl, sym, ap, ◌∙◌}
use Rattle.std.proofs.Common.{subst, true≢false, if◌then◌else◌}
use Rattle.std.proofs.lemmas.Bool.{and_parts}
use Rattle.std.specs.List.{find}
use Rattle.ba_core.specs.PartRows.{is_part_state}
use Rattle.ba_core.specs.declared.identifiers.Id.{Id}
use Rattle.ba_node_objects.specs.Finds.{FindsEnd, FindsLone, FindsScope, FindsUp, end_at}
use Rattle.ba_scope.proofs.Owned.{own_states}
use Rattle.ba_scope_ends.proofs.Places.{found_passes}
use Rattle.ba_scope_ends.specs.Ends.{end_with_id, has_own_state, same_id}
use Rattle.ba_scope_ends.specs.Parts.{part_fits}
use Rattle.ba_scope.specs.Fits.{ScopeFits, up_fits}
use Rattle.ba_scope.specs.Scope.{ScopeState, is_id_above}
use Rattle.ba_scope_ends.specs.declared.ends.End.{End}
use Rattle.ba_scope_ends.specs.declared.parts.Part.{Part}
use Rattle.ba_node_steps.proofs.Members.{all_among, same_id_is}
use Rattle.ba_node_steps.proofs.Objects.{lone_fits, scope_fits}
use Rattle.ba_node_steps.proofs.Places.{end_found, first_is, scope_found}
use Rattle.ba_node_steps.specs.Fits.{NodeFits}
use Rattle.ba_node_steps.specs.Node.{Among, EndPlace, NodeState, PartPlace, end_place, first_end, first_up, lone, nowhere, part_place}
use Rattle.ba_node_steps.specs.Node.{scope_with_id, upward}

-- ---- a scope

pub scope_at : (n : NodeState) (id : Id) (place : ℕ) (s : ScopeState) → NodeFits n
    → find (λ (x : ScopeState). same_id x.id id) n.scopes ≡ slice_get n.scopes place → slice_get n.scopes place ≡ Some s
    → FindsScope n id place s
scope_at n id place s fits placed at =
    let found : scope_with_id n id ≡ Some s = placed ∙ at in
    let stands = scope_found n id s found in
    record { node = fits; found = found; at = at; is = stands.1; fits = scope_fits n s fits stands.0 }

-- ---- an end

abbrev pub has_end : Id → ScopeState → Bool
has_end id s = is_some (end_with_id s.ends id)

first_of : (id : Id) (xs : List ScopeState) (s : ScopeState) (e : End) → find (has_end id) xs ≡ Some s → end_with_id s.ends id ≡ Some e
    → first_end id xs ≡ Some (end_at s e)
first_of id [] s e h found = absurd cc
first_of id (x ∷ more) s e h found = by_end (end_with_id x.ends id) refl h (λ later. first_of id more s e later found)
  where
    by_end : (o : Option End) → end_with_id x.ends id ≡ o → (if is_some o then Some x else find (has_end id) more) ≡ Some s
        → (find (has_end id) more ≡ Some s → first_end id more ≡ Some (end_at s e))
        → (elim o [ None ↦ first_end id more | Some f ↦ Some (end_at x f) ]) ≡ Some (end_at s e)
    by_end None is h rest = rest h
    by_end (Some f) is h rest =
        let same : x ≡ s = cc in
        let both : ◌≡◌ {A = Option End} (Some f) (Some e) = sym is ∙ ap (λ (t : ScopeState). end_with_id t.ends id) same ∙ found in
        let ends : f ≡ e = cc in
        λ i. Some (end_at (same i) (ends i))

none_of : (id : Id) (xs : List ScopeState) → find (has_end id) xs ≡ None → first_end id xs ≡ None
none_of id [] h = refl
none_of id (x ∷ more) h = by_end (end_with_id x.ends id) h (none_of id more)
  where
    by_end : (o : Option End) → (if is_some o then Some x else find (has_end id) more) ≡ None
        → (find (has_end id) more ≡ None → first_end id more ≡ None)
        → ◌≡◌ {A = Option EndPlace} (elim o [ None ↦ first_end id more | Some f ↦ Some (end_at x f) ]) None
    by_end None h rest = rest h
    by_end (Some f) h rest = absurd cc

own_state : (s : ScopeState) (e : End) → ScopeFits s → Among s.ends e → IsTrue (has_own_state e)
own_state s e fits among = all_among (λ (x : End). IsTrue (has_own_state x)) s.ends e (own_states s fits) among

pub end_placed : (n : NodeState) (id : Id) (place : ℕ) (s : ScopeState) (e : End) → NodeFits n
    → find (has_end id) n.scopes ≡ slice_get n.scopes place → slice_get n.scopes place ≡ Some s → end_with_id s.ends id ≡ Some e
    → FindsEnd n id place s e
end_placed n id place s e fits placed at found =
    let first : find (has_end id) n.scopes ≡ Some s = placed ∙ at in
    let stands = end_found n id (end_at s e) (first_of id n.scopes s e first found) in
    record {
      node = fits;
      placed = stands.placed;
      at = at;
      found = found;
      is = stands.is;
      own = own_state s e (scope_fits n s fits stands.scope) stands.end;
    }

pub no_end : (n : NodeState) (id : Id) → find (has_end id) n.scopes ≡ None → end_place n id ≡ None
no_end n id none = none_of id n.scopes none

-- the scope at the place has the end
pub end_is_there : (n : NodeState) (id : Id) (place : ℕ) (s : ScopeState) → find (has_end id) n.scopes ≡ slice_get n.scopes place
    → slice_get n.scopes place ≡ Some s → end_with_id s.ends id ≡ None → ⊥
end_is_there n id place s placed at none =
    let first : find (has_end id) n.scopes ≡ Some s = placed ∙ at in
    true≢false (sym (found_passes (has_end id) n.scopes s first) ∙ ap is_some none)

-- ---- a participant

own_part : (p : Part) → IsTrue (part_fits p) → IsTrue (is_part_state p.protocol p.state)
own_part p fits = (and_parts (is_part_state p.protocol p.state) _ fits).0

abbrev pub lone_with : NodeState → Id → Option Part
lone_with n id = find (λ (p : Part). same_id p.id id) n.parts

abbrev by_lone : NodeState → Id → Option Part → PartPlace
by_lone n id o = elim o [ None ↦ first_up id n.scopes | Some p ↦ lone p ]

pub lone_at : (n : NodeState) (id : Id) (place : ℕ) (p : Part) → NodeFits n
    → find (λ (x : Part). same_id x.id id) n.parts ≡ slice_get n.parts place → slice_get n.parts place ≡ Some p
    → FindsLone n id place p
lone_at n id place p fits placed at =
    let found : lone_with n id ≡ Some p = placed ∙ at in
    let first = first_is (λ (x : Part). same_id x.id id) n.parts p found in
    record {
      node = fits;
      placed = ap (by_lone n id) found;
      at = at;
      is = same_id_is p.id id first.1;
      own = own_part p (lone_fits n p fits first.0);
    }

abbrev pub above_with : Id → ScopeState → Bool
above_with id s = is_id_above s.up id

first_above : (id : Id) (xs : List ScopeState) (s : ScopeState) (p : Part) → find (above_with id) xs ≡ Some s → s.up ≡ Some p
    → first_up id xs ≡ upward s p
first_above id [] s p h up = absurd cc
first_above id (x ∷ more) s p h up = by_up x.up refl h (λ later. first_above id more s p later up)
  where
    by_id : (b : Bool) (q : Part) → x.up ≡ Some q → (if b then Some x else find (above_with id) more) ≡ Some s
        → (find (above_with id) more ≡ Some s → first_up id more ≡ upward s p)
        → (if b then upward x q else first_up id more) ≡ upward s p
    by_id true q is h rest =
        let same : x ≡ s = cc in
        let both : ◌≡◌ {A = Option Part} (Some q) (Some p) = sym is ∙ ap (λ (t : ScopeState). t.up) same ∙ up in
        let parts : q ≡ p = cc in
        λ i. upward (same i) (parts i)
    by_id false q is h rest = rest h

    by_up : (o : Option Part) → x.up ≡ o → (if is_id_above o id then Some x else find (above_with id) more) ≡ Some s
        → (find (above_with id) more ≡ Some s → first_up id more ≡ upward s p)
        → (elim o [ None ↦ first_up id more | Some q ↦ if same_id q.id id then upward x q else first_up id more ]) ≡ upward s p
    by_up None is h rest = rest h
    by_up (Some q) is h rest = by_id (same_id q.id id) q is h rest

none_above : (id : Id) (xs : List ScopeState) → find (above_with id) xs ≡ None → first_up id xs ≡ nowhere
none_above id [] h = refl
none_above id (x ∷ more) h = by_up x.up h (none_above id more)
  where
    by_id : (b : Bool) (q : Part) → (if b then Some x else find (above_with id) more) ≡ None
        → (find (above_with id) more ≡ None → first_up id more ≡ nowhere)
        → (if b then upward x q else first_up id more) ≡ nowhere
    by_id true q h rest = absurd cc
    by_id false q h rest = rest h

    by_up : (o : Option Part) → (if is_id_above o id then Some x else find (above_with id) more) ≡ None
        → (find (above_with id) more ≡ None → first_up id more ≡ nowhere)
        → (elim o [ None ↦ first_up id more | Some q ↦ if same_id q.id id then upward x q else first_up id more ]) ≡ nowhere
    by_up None h rest = rest h
    by_up (Some q) h rest = by_id (same_id q.id id) q h rest

-- the participant above a scope that fits
pub up_own : (o : Option Part) (p : Part) → IsTrue (up_fits o) → o ≡ Some p → IsTrue (is_part_state p.protocol p.state)
up_own o p fits is = own_part p (subst (λ (x : Option Part). IsTrue (up_fits x)) is fits)

pub up_at : (n : NodeState) (id : Id) (place : ℕ) (s : ScopeState) (p : Part) → NodeFits n → lone_with n id ≡ None
    → find (above_with id) n.scopes ≡ slice_get n.scopes place → slice_get n.scopes place ≡ Some s → s.up ≡ Some p
    → FindsUp n id place s p
up_at n id place s p fits alone placed at up =
    let found : find (above_with id) n.scopes ≡ Some s = placed ∙ at in
    let first = first_is (above_with id) n.scopes s found in
    let same : same_id p.id id ≡ true = ap (λ (o : Option Part). is_id_above o id) (sym up) ∙ first.1 in
    record {
      node = fits;
      placed = ap (by_lone n id) alone ∙ first_above id n.scopes s p found up;
      at = at;
      up = up;
      is = same_id_is p.id id same;
      own = up_own s.up p (scope_fits n s fits first.0).up up;
    }

pub nobody_at : (n : NodeState) (id : Id) → lone_with n id ≡ None → find (above_with id) n.scopes ≡ None → part_place n id ≡ nowhere
nobody_at n id alone none = ap (by_lone n id) alone ∙ none_above id n.scopes none

-- the scope at the place has a participant
pub up_is_there : (n : NodeState) (id : Id) (place : ℕ) (s : ScopeState) → find (above_with id) n.scopes ≡ slice_get n.scopes place
    → slice_get n.scopes place ≡ Some s → s.up ≡ None → ⊥
up_is_there n id place s placed at none =
    let found : find (above_with id) n.scopes ≡ Some s = placed ∙ at in
    true≢false (sym (found_passes (above_with id) n.scopes s found) ∙ ap (λ (o : Option Part). is_id_above o id) none)

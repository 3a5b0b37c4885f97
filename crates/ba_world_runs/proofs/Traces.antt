-- Where the scopes and participants of a node come from, in a step that is a change of it; for the law that each link moves by its
-- table.
use Rattle.std.proofs.Common.{◌≡◌, ◌⊎◌, inl, inr, ℕ, ◌≤◌, [], ◌∷◌, ◌++◌, map, Option, None, Some, arith, refl, sym, ap, ◌∙◌, subst}
use Rattle.ba_core.specs.declared.identifiers.Id.{Id}
use Rattle.ba_core.specs.declared.notices.Notice.{Notice}
use Rattle.ba_message.specs.declared.endpoints.Epr.{Epr}
use Rattle.ba_scope_ends.specs.Ends.{same_id}
use Rattle.ba_scope.specs.Scope.{ScopeState}
use Rattle.ba_scope_ends.specs.declared.ends.End.{End}
use Rattle.ba_scope_ends.specs.declared.parts.Part.{Part}
use Rattle.ba_node_steps.specs.Fits.{NodeFits}
use Rattle.ba_node_steps.specs.Node.{Among, HasPart, NodeState, next_id, part_in_place_of, scope_in_place_of, with_lone, with_new_part}
use Rattle.ba_node_steps.specs.Node.{with_new_scope, with_scope}
use Rattle.ba_node_steps.specs.declared.answers.Reply.{Reply}
use Rattle.ba_node_steps.specs.declared.inputs.Input.{Input}
use Rattle.ba_node_steps.proofs.Members.{is_other, same_by_number, same_id_is}
use Rattle.ba_node_steps.proofs.Objects.{no_lone_is_up, one_end, one_part, one_scope, one_scope_above}
use Rattle.ba_world_runs.proofs.Goes.{from_append, from_map, some_same}
use Rattle.ba_world_runs.proofs.Said.{IsSpeaker, SpeaksAt, SpeaksBy, SpeechStands}
use Rattle.ba_world_runs.proofs.Strides.{Above, Below, Change, IsMade, IsSaidAt, IsSaidBy, SaidAgain, Speech, UpStrides, end_writes, made_lone}
use Rattle.ba_world_runs.proofs.Strides.{made_scope, no_object, one_lone as lone_changes, one_scope as scope_changes, part_registers, part_writes}
use Rattle.ba_world_runs.proofs.Strides.{scope_answers, silent}
use Rattle.ba_world_runs.proofs.Tests.{if_false, if_true, test_cases}

-- ---- whose side of a link moves

-- that of nobody; of the scope with this identifier, which answers; of this scope, and of its upward part; of this participant
pub data Mover : Type 0 where
  nobody : Mover
  answering : Id → Mover
  scope_moves : ScopeState → Mover
  part_moves : Part → Mover

abbrev pub MovesScope : Mover → ScopeState → Type 0
MovesScope (answering scope) s = s.id ≡ scope
MovesScope (scope_moves x) s = s ≡ x
MovesScope mover s = ⊥

abbrev pub MovesPart : Mover → Part → Type 0
MovesPart (scope_moves x) p = x.up ≡ Some p
MovesPart (part_moves x) p = p ≡ x
MovesPart mover p = ⊥

-- where a scope and a participant move, the one is above the other
pub both_move : (mover : Mover) (s : ScopeState) (p : Part) → MovesScope mover s → MovesPart mover p → s.up ≡ Some p
both_move nobody s p at by = absurd at
both_move (answering scope) s p at by = absurd by
both_move (scope_moves x) s p at by = ap (λ (y : ScopeState). y.up) at ∙ by
both_move (part_moves x) s p at by = absurd at

-- ---- what each object was

-- the scope stays and doesn't speak, or it moves
abbrev pub ScopeStrides : Option Input → Speech → Mover → ScopeState → ScopeState → Type 0
ScopeStrides cause speech mover s t = ((t ≡ s) × (SpeaksAt s speech → ⊥)) ⊎ (MovesScope mover s × Below cause speech s t)

abbrev pub PartStrides : Option Input → Speech → Mover → Part → Part → Type 0
PartStrides cause speech mover p q =
    ((q ≡ p) × (SpeaksBy p speech → ⊥)) ⊎ (MovesPart mover p × IsSpeaker p speech × Above cause speech p q)

abbrev pub ScopeFrom : Option Input → Speech → Mover → NodeState → ScopeState → Type 0
ScopeFrom cause speech mover n t = (s : ScopeState) × Among n.scopes s × (t.id ≡ s.id) × ScopeStrides cause speech mover s t

abbrev pub PartFrom : Option Input → Speech → Mover → NodeState → Part → Type 0
PartFrom cause speech mover n q = (p : Part) × HasPart n p × (q.id ≡ p.id) × PartStrides cause speech mover p q

-- a participant that is new
abbrev pub IsNewPart : Option Input → NodeState → Part → Type 0
IsNewPart cause n q = (further : ℕ) × (1 ≤ further) × (further ≤ 2) × IsMade cause (next_id n further) q

pub record Trace (cause : Option Input) (speech : Speech) (n m : NodeState) : Type 0 where
  pub mover : Mover
  pub scopes : (t : ScopeState) → Among m.scopes t → ScopeFrom cause speech mover n t ⊎ (t.id ≡ next_id n 1)
  pub parts : (q : Part) → HasPart m q → PartFrom cause speech mover n q ⊎ IsNewPart cause n q
  pub stands : SpeechStands n speech

-- ---- one by one

scope_stays : (cause : Option Input) (speech : Speech) (mover : Mover) (n : NodeState) (s : ScopeState) → Among n.scopes s
    → (SpeaksAt s speech → ⊥) → ScopeFrom cause speech mover n s
scope_stays cause speech mover n s of quiet = (s, of, refl, inl (refl, quiet))

part_stays : (cause : Option Input) (speech : Speech) (mover : Mover) (n : NodeState) (p : Part) → HasPart n p
    → (SpeaksBy p speech → ⊥) → PartFrom cause speech mover n p
part_stays cause speech mover n p has quiet = (p, has, refl, inl (refl, quiet))

number_of : (a b : Id) → a ≡ b → a.0 ≡ b.0
number_of a b same = ap (λ (x : Id). x.0) same

module _ (cause : Option Input) (n : NodeState) (fits : NodeFits n) where
  -- ---- no object changes

  -- the scope with this identifier answers
  answering_trace : (scope : Id) (participant : Epr) (r : Reply) → SaidAgain cause n (scope_answers scope participant r)
      → Trace cause (scope_answers scope participant r) n n
  answering_trace scope participant r again = record {
    mover = answering scope;
    scopes = λ t of. inl (by_id t of);
    parts = λ q has. inl (part_stays cause (scope_answers scope participant r) (answering scope) n q has (λ h. h));
    stands = tt;
  }
    where
      by_id : (t : ScopeState) → Among n.scopes t → ScopeFrom cause (scope_answers scope participant r) (answering scope) n t
      by_id t of = elim (test_cases (same_id t.id scope)) [
        | inl same ↦ let is = same_id_is t.id scope same in (t, of, refl, inr (is, again t of is))
        | inr other ↦
            scope_stays cause (scope_answers scope participant r) (answering scope) n t of
            (λ is. is_other t.id scope other (number_of t.id scope is))
      ]

  end_trace : (e : End) (m : Notice) → SaidAgain cause n (end_writes e m) → Trace cause (end_writes e m) n n
  end_trace e m again = record {
    mover = scope_moves again.0;
    scopes = λ t of. inl (by_id t of);
    parts = λ q has. inl (part_stays cause (end_writes e m) (scope_moves again.0) n q has (λ h. h));
    stands = (again.0, again.1, again.2);
  }
    where
      by_id : (t : ScopeState) → Among n.scopes t → ScopeFrom cause (end_writes e m) (scope_moves again.0) n t
      by_id t of = elim (test_cases (same_id t.id again.0.id)) [
        | inl same ↦
            let one : t ≡ again.0 = one_scope n t again.0 fits of again.1 (same_by_number t.id again.0.id same) in
            (t, of, refl, inr (one, subst (λ (x : ScopeState). Below cause (end_writes e m) x x) (sym one) again.3))
        | inr other ↦
            scope_stays cause (end_writes e m) (scope_moves again.0) n t of (λ its.
            let one = (one_end n t again.0 e e fits of again.1 its again.2 refl).0 in
            is_other t.id again.0.id other (ap (λ (x : ScopeState). x.id.0) one))
      ]

  -- a participant, where no other speaks
  part_trace : (speech : Speech) (p : Part) → HasPart n p → SpeechStands n speech → ((s : ScopeState) → SpeaksAt s speech → ⊥)
      → ((q : Part) → SpeaksBy q speech → p ≡ q) → ((q : Part) → p ≡ q → IsSpeaker q speech) → Above cause speech p p
      → Trace cause speech n n
  part_trace speech p has stands below alone speaks above = record {
    mover = part_moves p;
    scopes = λ t of. inl (scope_stays cause speech (part_moves p) n t of (below t));
    parts = λ q of. inl (by_id q of);
    stands = stands;
  }
    where
      by_id : (q : Part) → HasPart n q → PartFrom cause speech (part_moves p) n q
      by_id q of = elim (test_cases (same_id q.id p.id)) [
        | inl same ↦
            let one : q ≡ p = one_part n q p fits of has (same_by_number q.id p.id same) in
            (q, of, refl, inr (one, speaks q (sym one), subst (λ (x : Part). Above cause speech x x) (sym one) above))
        | inr other ↦
            part_stays cause speech (part_moves p) n q of
            (λ its. is_other q.id p.id other (ap (λ (x : Part). x.id.0) (sym (alone q its))))
      ]

  again_trace : (speech : Speech) → SaidAgain cause n speech → Trace cause speech n n
  again_trace silent again = record {
    mover = nobody;
    scopes = λ t of. inl (scope_stays cause silent nobody n t of (λ h. h));
    parts = λ q has. inl (part_stays cause silent nobody n q has (λ h. h));
    stands = tt;
  }
  again_trace (scope_answers scope participant r) again = answering_trace scope participant r again
  again_trace (end_writes e m) again = end_trace e m again
  again_trace (part_writes p to m) again =
      part_trace (part_writes p to m) p again.0 (again.0, again.1) (λ s h. h) (λ q h. h) (λ q h. h) again.2
  again_trace (part_registers p) again = part_trace (part_registers p) p again.0 again.0 (λ s h. h) (λ q h. h) (λ q h. h) again.1

  -- ---- one scope changes

  -- no other scope speaks
  speaks_there : (s x : ScopeState) (speech : Speech) → Among n.scopes s → Among n.scopes x → IsSaidAt s speech → SpeaksAt x speech
      → x.id.0 ≡ s.id.0
  speaks_there s x silent of_s of_x said speaks = absurd speaks
  speaks_there s x (scope_answers scope participant r) of_s of_x said speaks = number_of x.id s.id (speaks ∙ sym said)
  speaks_there s x (end_writes e m) of_s of_x said speaks =
      ap (λ (y : ScopeState). y.id.0) (one_end n x s e e fits of_x of_s speaks said refl).0
  speaks_there s x (part_writes p to m) of_s of_x said speaks = absurd speaks
  speaks_there s x (part_registers p) of_s of_x said speaks = absurd speaks

  -- no participant speaks but the one above
  speaks_above : (s : ScopeState) (q : Part) (speech : Speech) → IsSaidAt s speech → SpeaksBy q speech → s.up ≡ Some q
  speaks_above s q silent said speaks = absurd speaks
  speaks_above s q (scope_answers scope participant r) said speaks = absurd speaks
  speaks_above s q (end_writes e m) said speaks = absurd speaks
  speaks_above s q (part_writes p to m) said speaks = said.0 ∙ ap Some speaks
  speaks_above s q (part_registers p) said speaks = said ∙ ap Some speaks

  above_speaks : (s : ScopeState) (q : Part) (speech : Speech) → IsSaidAt s speech → s.up ≡ Some q → IsSpeaker q speech
  above_speaks s q silent said above = tt
  above_speaks s q (scope_answers scope participant r) said above = tt
  above_speaks s q (end_writes e m) said above = tt
  above_speaks s q (part_writes p to m) said above = some_same p q (sym said.0 ∙ above)
  above_speaks s q (part_registers p) said above = some_same p q (sym said ∙ above)

  stands_at : (s : ScopeState) (speech : Speech) → Among n.scopes s → IsSaidAt s speech → SpeechStands n speech
  stands_at s silent of said = tt
  stands_at s (scope_answers scope participant r) of said = tt
  stands_at s (end_writes e m) of said = (s, of, said)
  stands_at s (part_writes p to m) of said = (inr (s, of, said.0), said.1)
  stands_at s (part_registers p) of said = inr (s, of, said)

  up_from : (speech : Speech) (o u : Option Part) (q : Part) → UpStrides cause speech o u → u ≡ Some q
      → (p : Part) × (o ≡ Some p) × (q.id ≡ p.id) × Above cause speech p q
  up_from speech None None q strides is = absurd cc
  up_from speech None (Some x) q strides is = absurd strides
  up_from speech (Some p) None q strides is = absurd strides
  up_from speech (Some p) (Some x) q strides is =
      let one : x ≡ q = some_same x q is in
      (p, refl, subst (λ (y : Part). y.id ≡ p.id) one strides.0, subst (λ (y : Part). Above cause speech p y) one strides.1)

  scope_trace : (speech : Speech) (s t : ScopeState) → Among n.scopes s → t.id ≡ s.id → IsSaidAt s speech → Below cause speech s t
      → UpStrides cause speech s.up t.up → Trace cause speech n (with_scope n t)
  scope_trace speech s t of same said below up = record {
    mover = scope_moves s;
    scopes = λ t2 of2. inl (scope_from t2 (placed t2 of2));
    parts = λ q has. inl (part_from q has);
    stands = stands_at s speech of said;
  }
    where
      -- a scope afterwards is t in the place of s, or it was there and is another one
      placed : (t2 : ScopeState) → Among (map (scope_in_place_of t) n.scopes) t2
          → (x : ScopeState) × Among n.scopes x × (((x ≡ s) × (t2 ≡ t)) ⊎ ((t2 ≡ x) × (x.id.0 ≡ s.id.0 → ⊥)))
      placed t2 of2 =
          let x = from_map (scope_in_place_of t) n.scopes t2 of2 in
          elim (test_cases (same_id x.0.id t.id)) [
            | inl here ↦ (
              x.0,
              x.1,
              inl (
                one_scope n x.0 s fits x.1 of (same_by_number x.0.id t.id here ∙ number_of t.id s.id same),
                sym x.2 ∙ if_true (same_id x.0.id t.id) t x.0 here,
              ),
            )
            | inr other ↦ (
              x.0,
              x.1,
              inr (
                sym x.2 ∙ if_false (same_id x.0.id t.id) t x.0 other,
                λ is. is_other x.0.id t.id other (is ∙ sym (number_of t.id s.id same)),
              ),
            )
          ]

      scope_from : (t2 : ScopeState)
          → (x : ScopeState) × Among n.scopes x × (((x ≡ s) × (t2 ≡ t)) ⊎ ((t2 ≡ x) × (x.id.0 ≡ s.id.0 → ⊥)))
          → ScopeFrom cause speech (scope_moves s) n t2
      scope_from t2 x = elim x.2 [
        | inl here ↦ (
          s,
          of,
          ap (λ (y : ScopeState). y.id) here.1 ∙ same,
          inr (refl, subst (λ (y : ScopeState). Below cause speech s y) (sym here.1) below),
        )
        | inr other ↦ (
          x.0,
          x.1,
          ap (λ (y : ScopeState). y.id) other.0,
          inl (other.0, λ speaks. other.1 (speaks_there s x.0 speech of x.1 said speaks)),
        )
      ]

      part_from : (q : Part) → HasPart (with_scope n t) q → PartFrom cause speech (scope_moves s) n q
      part_from q (inl alone) =
          part_stays cause speech (scope_moves s) n q (inl alone)
          (λ speaks. no_lone_is_up n s q q fits alone of (speaks_above s q speech said speaks) refl)
      part_from q (inr above) =
          let x = placed above.0 above.1 in
          elim x.2 [
            | inl here ↦
                let p = up_from speech s.up t.up q up (ap (λ (y : ScopeState). y.up) (sym here.1) ∙ above.2) in
                (p.0, inr (s, of, p.1), p.2, inr (p.1, above_speaks s p.0 speech said p.1, p.3))
            | inr other ↦
                let is : x.0.up ≡ Some q = ap (λ (y : ScopeState). y.up) (sym other.0) ∙ above.2 in
                part_stays cause speech (scope_moves s) n q (inr (x.0, x.1, is)) (λ speaks.
                let one = one_scope_above n x.0 s q q fits x.1 of is (speaks_above s q speech said speaks) refl in
                other.1 (ap (λ (y : ScopeState). y.id.0) one))
          ]

  -- ---- one lone participant changes

  speaks_itself : (p q : Part) (speech : Speech) → IsSaidBy p speech → SpeaksBy q speech → p ≡ q
  speaks_itself p q silent said speaks = absurd speaks
  speaks_itself p q (scope_answers scope participant r) said speaks = absurd speaks
  speaks_itself p q (end_writes e m) said speaks = absurd speaks
  speaks_itself p q (part_writes x to m) said speaks = sym said.0 ∙ speaks
  speaks_itself p q (part_registers x) said speaks = sym said ∙ speaks

  itself_speaks : (p : Part) (speech : Speech) → IsSaidBy p speech → IsSpeaker p speech
  itself_speaks p silent said = tt
  itself_speaks p (scope_answers scope participant r) said = tt
  itself_speaks p (end_writes e m) said = tt
  itself_speaks p (part_writes x to m) said = said.0
  itself_speaks p (part_registers x) said = said

  no_scope_speaks : (p : Part) (speech : Speech) (s : ScopeState) → IsSaidBy p speech → SpeaksAt s speech → ⊥
  no_scope_speaks p silent s said speaks = speaks
  no_scope_speaks p (scope_answers scope participant r) s said speaks = said
  no_scope_speaks p (end_writes e m) s said speaks = said
  no_scope_speaks p (part_writes x to m) s said speaks = speaks
  no_scope_speaks p (part_registers x) s said speaks = speaks

  stands_by : (p : Part) (speech : Speech) → Among n.parts p → IsSaidBy p speech → SpeechStands n speech
  stands_by p silent of said = tt
  stands_by p (scope_answers scope participant r) of said = tt
  stands_by p (end_writes e m) of said = absurd said
  stands_by p (part_writes x to m) of said =
      subst (λ (y : Part). HasPart n y × (y.coordinator ≡ Some to)) (sym said.0) (inl of, said.1)
  stands_by p (part_registers x) of said = subst (λ (y : Part). HasPart n y) (sym said) (inl of)

  lone_trace : (speech : Speech) (p q : Part) → Among n.parts p → q.id ≡ p.id → IsSaidBy p speech → Above cause speech p q
      → Trace cause speech n (with_lone n q)
  lone_trace speech p q of same said above = record {
    mover = part_moves p;
    scopes = λ t of2. inl (scope_stays cause speech (part_moves p) n t of2 (λ speaks. no_scope_speaks p speech t said speaks));
    parts = λ q2 has. inl (part_from q2 has);
    stands = stands_by p speech of said;
  }
    where
      part_from : (q2 : Part) → HasPart (with_lone n q) q2 → PartFrom cause speech (part_moves p) n q2
      part_from q2 (inl alone) =
          let x = from_map (part_in_place_of q) n.parts q2 alone in
          elim (test_cases (same_id x.0.id q.id)) [
            | inl here ↦
                let is : q2 ≡ q = sym x.2 ∙ if_true (same_id x.0.id q.id) q x.0 here in (
                  p,
                  inl of,
                  ap (λ (y : Part). y.id) is ∙ same,
                  inr (refl, itself_speaks p speech said, subst (λ (y : Part). Above cause speech p y) (sym is) above),
                )
            | inr other ↦
                let is : q2 ≡ x.0 = sym x.2 ∙ if_false (same_id x.0.id q.id) q x.0 other in (
                  x.0,
                  inl x.1,
                  ap (λ (y : Part). y.id) is,
                  inl (
                    is,
                    λ speaks. is_other x.0.id q.id other
                        (ap (λ (y : Part). y.id.0) (sym (speaks_itself p x.0 speech said speaks)) ∙ sym (number_of q.id p.id same)),
                  ),
                )
          ]
      part_from q2 (inr above_it) =
          part_stays cause speech (part_moves p) n q2 (inr above_it) (λ speaks.
          no_lone_is_up n above_it.0 p q2 fits of above_it.1 above_it.2
          (ap (λ (y : Part). y.id.0) (speaks_itself p q2 speech said speaks)))

  -- ---- an object is made

  new_scope_trace : (s : ScopeState) → s.id ≡ next_id n 1 → ((p : Part) → s.up ≡ Some p → IsMade cause (next_id n 2) p)
      → Trace cause silent n (with_new_scope n s)
  new_scope_trace s named above = record {
    mover = nobody;
    scopes = scope_from;
    parts = part_from;
    stands = tt;
  }
    where
      scope_from : (t : ScopeState) → Among (n.scopes ++ s ∷ []) t → ScopeFrom cause silent nobody n t ⊎ (t.id ≡ next_id n 1)
      scope_from t of = elim (from_append n.scopes (s ∷ []) t of) [
        | inl old ↦ inl (scope_stays cause silent nobody n t old (λ h. h))
        | inr (inl last) ↦ inr (ap (λ (y : ScopeState). y.id) (sym last) ∙ named)
        | inr (inr h) ↦ absurd h
      ]

      part_from : (q : Part) → HasPart (with_new_scope n s) q → PartFrom cause silent nobody n q ⊎ IsNewPart cause n q
      part_from q (inl alone) = inl (part_stays cause silent nobody n q (inl alone) (λ h. h))
      part_from q (inr up) = elim (from_append n.scopes (s ∷ []) up.0 up.1) [
        | inl old ↦ inl (part_stays cause silent nobody n q (inr (up.0, old, up.2)) (λ h. h))
        | inr (inl last) ↦
            inr (2, omega arith, omega arith, above q (ap (λ (y : ScopeState). y.up) last ∙ up.2))
        | inr (inr h) ↦ absurd h
      ]

  new_lone_trace : (p : Part) → IsMade cause (next_id n 1) p → Trace cause silent n (with_new_part n p)
  new_lone_trace p made = record {
    mover = nobody;
    scopes = λ t of. inl (scope_stays cause silent nobody n t of (λ h. h));
    parts = part_from;
    stands = tt;
  }
    where
      part_from : (q : Part) → HasPart (with_new_part n p) q → PartFrom cause silent nobody n q ⊎ IsNewPart cause n q
      part_from q (inl alone) = elim (from_append n.parts (p ∷ []) q alone) [
        | inl old ↦ inl (part_stays cause silent nobody n q (inl old) (λ h. h))
        | inr (inl last) ↦ inr (1, omega arith, omega arith, subst (IsMade cause (next_id n 1)) last made)
        | inr (inr h) ↦ absurd h
      ]
      part_from q (inr up) = inl (part_stays cause silent nobody n q (inr up) (λ h. h))

  pub traced : (speech : Speech) (m : NodeState) → Change cause speech n m → Trace cause speech n m
  traced speech m (no_object same again) = subst (Trace cause speech n) (sym same) (again_trace speech again)
  traced speech m (scope_changes s t of same is said below up) =
      subst (Trace cause speech n) (sym is) (scope_trace speech s t of same said below up)
  traced speech m (lone_changes p q of same is said above) =
      subst (Trace cause speech n) (sym is) (lone_trace speech p q of same said above)
  traced speech m (made_scope s is quiet named above) =
      subst (λ (x : Speech). Trace cause x n m) (sym quiet) (subst (Trace cause silent n) (sym is) (new_scope_trace s named above))
  traced speech m (made_lone p is quiet made) =
      subst (λ (x : Speech). Trace cause x n m) (sym quiet) (subst (Trace cause silent n) (sym is) (new_lone_trace p made))

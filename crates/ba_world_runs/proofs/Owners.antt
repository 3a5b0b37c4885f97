-- In a sound net each object is one, and so is the participant of each end; for the law that what is sound is safe.
use Rattle.std.proofs.Common.{◌≡◌, inl, inr, ℕ, ◌+◌, ◌*◌, ◌^◌, ◌<◌, Bool, true, not, List, [], ◌∷◌, arith, sym, ap, ◌∙◌, subst, true≢false}
use Rattle.std.specs.List.{list_all}
use Rattle.std.proofs.lemmas.Bool.{and_parts}
use Rattle.std.proofs.lemmas.Nat.{mod-mul-add}
use Rattle.ba_core.specs.declared.identifiers.Id.{Id}
use Rattle.ba_message.specs.Endpoints.{same_epr}
use Rattle.ba_message.specs.declared.endpoints.Epr.{Epr}
use Rattle.ba_message.proofs.FitTests.{endpoint_itself}
use Rattle.ba_scope.specs.Fits.{ScopeFits, above, are_apart, end_fits, is_other_end}
use Rattle.ba_scope_ends.specs.Ends.{same_id}
use Rattle.ba_scope.specs.Scope.{ScopeState}
use Rattle.ba_scope_ends.specs.declared.ends.End.{End}
use Rattle.ba_scope_ends.specs.declared.parts.Part.{Part}
use Rattle.ba_node_steps.specs.Addresses.{message_number, register_code, sender_of}
use Rattle.ba_node_steps.specs.Fits.{IsIdAt, NodeFits}
use Rattle.ba_node_steps.specs.Node.{Among}
use Rattle.ba_node_steps.proofs.Hyphens.{participants_apart, registrations_apart}
use Rattle.ba_node_steps.proofs.Members.{all_among}
use Rattle.ba_node_steps.proofs.Objects.{end_here, one_end, one_part, one_scope, part_here, scope_fits, scope_here}
use Rattle.ba_world_runs.specs.Links.{IsLink}
use Rattle.ba_world_runs.specs.Safety.{IsAddressed}
use Rattle.ba_world_runs.specs.World.{Net, PartAt, ScopeAt, participant_at, registration_at, node_at}

-- ---- identifiers

-- the identifier of an object stands below the code of a message
pub id_small : (k : ℕ) (id : Id) → IsIdAt k id → id.0 < 2 ^ 96
id_small k id is =
    let e : id.0 ≡ k * 2 ^ 64 + is.counter = is.spelled in
    let wide = is.is_counter.1 in
    let number = is.is_number in
    omega (arith, e, wide, number)

pub id_has_text : (k : ℕ) (id : Id) → IsIdAt k id → id.0 < 2 ^ 128
id_has_text k id is = let small : id.0 < 2 ^ 96 = id_small k id is in omega (arith, small)

pub sender_is : (k code : ℕ) (id : Id) → IsIdAt k id → sender_of (message_number code id) ≡ id.0
sender_is k code id is = mod-mul-add code (2 ^ 96) id.0 (id_small k id is)

-- an identifier tells its node
pub one_node : (j k : ℕ) (a b : Id) → IsIdAt j a → IsIdAt k b → a.0 ≡ b.0 → j ≡ k
one_node j k a b is other h =
    let x : a.0 ≡ j * 2 ^ 64 + is.counter = is.spelled in
    let y : b.0 ≡ k * 2 ^ 64 + other.counter = other.spelled in
    let a_wide = is.is_counter.1 in
    let b_wide = other.is_counter.1 in
    omega (arith, h, x, y, a_wide, b_wide)

-- ---- two ends of a scope with one participant are one

apart_not_same : (a b : End) → is_other_end a b ≡ true → a.participant ≡ b.participant → ⊥
apart_not_same a b other same =
    let no = (and_parts (not (same_id a.id b.id)) (not (same_epr a.participant b.participant)) other).1 in
    let yes : same_epr a.participant b.participant ≡ true =
    subst (λ (x : Epr). same_epr a.participant x ≡ true) same (endpoint_itself a.participant) in
    true≢false (sym no ∙ ap not yes)

each_among : {A : Type 0} (test : A → Bool) (xs : List A) (x : A) → list_all test xs ≡ true → Among xs x → test x ≡ true
each_among test [] x h among = absurd among
each_among test (y ∷ xs) x h (inl same) = subst (λ z. test z ≡ true) same (and_parts (test y) (list_all test xs) h).0
each_among test (y ∷ xs) x h (inr later) = each_among test xs x (and_parts (test y) (list_all test xs) h).1 later

pub one_participant : (es : List End) (a b : End) → are_apart es ≡ true → Among es a → Among es b → a.participant ≡ b.participant → a ≡ b
one_participant [] a b h of_a of_b same = absurd of_a
one_participant (x ∷ es) a b h (inl is) (inl is_too) same = sym is ∙ is_too
one_participant (x ∷ es) a b h (inl is) (inr later) same =
    let others = (and_parts (list_all (is_other_end x) es) (are_apart es) h).0 in
    absurd (apart_not_same x b (each_among (is_other_end x) es b others later) (ap (λ (e : End). e.participant) is ∙ same))
one_participant (x ∷ es) a b h (inr later) (inl is) same =
    let others = (and_parts (list_all (is_other_end x) es) (are_apart es) h).0 in
    absurd (apart_not_same x a (each_among (is_other_end x) es a others later) (ap (λ (e : End). e.participant) is ∙ sym same))
one_participant (x ∷ es) a b h (inr later) (inr later_too) same =
    one_participant es a b (and_parts (list_all (is_other_end x) es) (are_apart es) h).1 later later_too same

-- ---- objects of a sound net

module _ (w : Net) (sound : IsAddressed w) where
  id_here : (k : ℕ) (id : Id) → IsIdAt (node_at w k).number id → IsIdAt k id
  id_here k id is = subst (λ (n : ℕ). IsIdAt n id) (sound.nodes k).number is

  pub fits_here : (k : ℕ) → NodeFits (node_at w k)
  fits_here k = (sound.nodes k).fits

  pub scope_id : (k : ℕ) (s : ScopeState) → ScopeAt w k s → IsIdAt k s.id
  scope_id k s of = id_here k s.id (scope_here (node_at w k) s (fits_here k) of)

  pub end_id : (k : ℕ) (s : ScopeState) (e : End) → ScopeAt w k s → Among s.ends e → IsIdAt k e.id
  end_id k s e of among = id_here k e.id (end_here (node_at w k) s e (fits_here k) of among)

  pub part_id : (k : ℕ) (p : Part) → PartAt w k p → IsIdAt k p.id
  part_id k p of = id_here k p.id (part_here (node_at w k) p (fits_here k) of)

  pub scope_fits_here : (k : ℕ) (s : ScopeState) → ScopeAt w k s → ScopeFits s
  scope_fits_here k s of = scope_fits (node_at w k) s (fits_here k) of

  pub end_fits_here : (k : ℕ) (s : ScopeState) (e : End) → ScopeAt w k s → Among s.ends e → end_fits (above s) e ≡ true
  end_fits_here k s e of among = all_among (λ (x : End). end_fits (above s) x ≡ true) s.ends e (scope_fits_here k s of).ends among

  -- two ends with one identifier are one
  pub one_end_here : (k l : ℕ) (s t : ScopeState) (e f : End) → ScopeAt w k s → ScopeAt w l t → Among s.ends e → Among t.ends f
      → e.id.0 ≡ f.id.0 → (k ≡ l) × (s ≡ t) × (e ≡ f)
  one_end_here k l s t e f of_s of_t end_s end_t same =
      let nodes : k ≡ l = one_node k l e.id f.id (end_id k s e of_s end_s) (end_id l t f of_t end_t) same in
      let one = one_end (node_at w l) s t e f (fits_here l) (subst (λ (i : ℕ). ScopeAt w i s) nodes of_s) of_t end_s end_t same in
      (nodes, one.0, one.1)

  -- two participants with one endpoint are one
  pub one_endpoint : (i j : ℕ) (p q : Part) → PartAt w i p → PartAt w j q → participant_at w i p.id ≡ participant_at w j q.id
      → (i ≡ j) × (p ≡ q)
  one_endpoint i j p q of_p of_q same =
      let p_is = part_id i p of_p in
      let q_is = part_id j q of_q in
      let ids : p.id.0 ≡ q.id.0 = participants_apart p.id q.id (node_at w i).base (node_at w j).base
      (id_has_text i p.id p_is) (id_has_text j q.id q_is) same in
      let nodes : i ≡ j = one_node i j p.id q.id p_is q_is ids in
      (nodes, one_part (node_at w j) p q (fits_here j) (subst (λ (k : ℕ). PartAt w k p) nodes of_p) of_q ids)

  -- two participants with one message number are one
  pub one_number : (j k : ℕ) (p q : Part) → PartAt w j p → PartAt w k q
      → (message_number register_code p.id).0 ≡ (message_number register_code q.id).0 → (j ≡ k) × (p ≡ q)
  one_number j k p q of_p of_q same =
      let ids : p.id.0 ≡ q.id.0 = omega (arith, same) in
      let nodes : j ≡ k = one_node j k p.id q.id (part_id j p of_p) (part_id k q of_q) ids in
      (nodes, one_part (node_at w k) p q (fits_here k) (subst (λ (i : ℕ). PartAt w i p) nodes of_p) of_q ids)

  -- two scopes with one registration are one
  pub one_registration : (k l : ℕ) (s t : ScopeState) → ScopeAt w k s → ScopeAt w l t
      → registration_at w k s.id ≡ registration_at w l t.id → (k ≡ l) × (s ≡ t)
  one_registration k l s t of_s of_t same =
      let s_is = scope_id k s of_s in
      let t_is = scope_id l t of_t in
      let ids : s.id.0 ≡ t.id.0 = registrations_apart s.id t.id (node_at w k).base (node_at w l).base
      (id_has_text k s.id s_is) (id_has_text l t.id t_is) same in
      let nodes : k ≡ l = one_node k l s.id t.id s_is t_is ids in
      (nodes, one_scope (node_at w l) s t (fits_here l) (subst (λ (i : ℕ). ScopeAt w i s) nodes of_s) of_t ids)

  -- an end with a participant's endpoint is the end of its link, and has its protocol
  pub owner : (j k : ℕ) (q : Part) (s : ScopeState) (e : End) → PartAt w j q → ScopeAt w k s → Among s.ends e
      → e.participant ≡ participant_at w j q.id → IsLink w j q k s × (e.protocol ≡ q.protocol)
  owner j k q s e of_q of_s among at =
      let known = sound.endpoints.ends k s e of_s among in
      let one = one_endpoint known.0 j known.1 q known.2.part of_q (sym known.3 ∙ at) in (
        subst (λ (x : Part). IsLink w j x k s) one.1 (subst (λ (i : ℕ). IsLink w i known.1 k s) one.0 known.2),
        known.4 ∙ ap (λ (x : Part). x.protocol) one.1,
      )

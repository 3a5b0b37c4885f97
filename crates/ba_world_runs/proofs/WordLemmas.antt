-- In a sound net each end with a verdict has that word, an end has one word, and each word that was told is that of its end;
-- for the law that what is sound is safe.
use Rattle.std.proofs.Common.{◌≡◌, inr, ℕ, zero, suc, ◌<◌, Option, None, Some, arith, refl, sym, ap, ◌∙◌, subst}
use Rattle.ba_core.specs.declared.protocols.Verdict.{Verdict}
use Rattle.ba_scope.specs.Fits.{above}
use Rattle.ba_scope.specs.Scope.{ScopeState}
use Rattle.ba_scope_ends.specs.declared.ends.End.{End}
use Rattle.ba_scope_ends.specs.declared.parts.Part.{Part}
use Rattle.ba_node_steps.specs.Node.{Among}
use Rattle.ba_world_runs.specs.Links.{HasEnd}
use Rattle.ba_world_runs.specs.Safety.{IsSound}
use Rattle.ba_world_runs.specs.Trees.{IsChild}
use Rattle.ba_world_runs.specs.Words.{HasWord, of_child, of_root}
use Rattle.ba_world_runs.specs.World.{Net, ScopeAt, participant_at}
use Rattle.ba_world_runs.proofs.EndLemmas.{childs_verdict}
use Rattle.ba_world_runs.proofs.Owners.{end_fits_here, one_end_here, one_participant, one_registration, scope_fits_here}

some_verdict : {u v : Verdict} → ◌≡◌ {A = Option Verdict} (Some u) (Some v) → u ≡ v
some_verdict h = cc

-- when a scope was made
abbrev pub age : (w : Net) → IsSound w → ScopeState → ℕ
age w sound s = sound.trees.generations.made_at s.id.0

module _ (w : Net) (sound : IsSound w) where
  -- ---- an end with a verdict has that word: by the order in which scopes were made

  word_by_up : (n k : ℕ) (s : ScopeState) (e : End) (v : Verdict) → age w sound s < suc n → ScopeAt w k s → Among s.ends e
      → e.verdict ≡ Some v
      → ((j : ℕ) (t : ScopeState) (over : End) → age w sound t < n → ScopeAt w j t → Among t.ends over → over.verdict ≡ Some v
      → HasWord w over.id.0 v)
      → (o : Option Part) → s.up ≡ o → HasWord w e.id.0 v
  word_by_up n k s e v before has among is rest None root = of_root k s e has root among refl is
  word_by_up n k s e v before has among is rest (Some up) is_up =
      let parent = sound.addressed.endpoints.parts k up (inr (s, has, is_up)) in
      let child : IsChild w k s up parent.0 parent.1 =
      record { child = has; has_upward = is_up; parent = parent.2.scope; names = parent.2.names } in
      let own : s.verdict ≡ Some v = childs_verdict s up e v is_up (end_fits_here w sound.addressed k s e has among) is in
      let over = sound.trees.same_verdict_above k parent.0 s parent.1 up v child own in
      let earlier : age w sound parent.1 < age w sound s =
      sound.trees.generations.made_after_parent k parent.0 s parent.1 up child in
      let sooner : sound.trees.generations.made_at parent.1.id.0 < n = omega (arith, earlier, before) in
      of_child k s up e parent.0 parent.1 over.0 child among refl over.1
      (rest parent.0 parent.1 over.0 sooner parent.2.scope over.1.0 over.2)

  words_before : (v : Verdict) (n j : ℕ) (t : ScopeState) (e : End) → age w sound t < n → ScopeAt w j t → Among t.ends e
      → e.verdict ≡ Some v → HasWord w e.id.0 v
  words_before v zero j t e before has among is = absurd (omega (arith, before))
  words_before v (suc n) j t e before has among is = word_by_up n j t e v before has among is (words_before v n) t.up refl

  pub has_word : (k : ℕ) (s : ScopeState) (e : End) (v : Verdict) → ScopeAt w k s → Among s.ends e → e.verdict ≡ Some v
      → HasWord w e.id.0 v
  has_word k s e v has among is = words_before v (suc (sound.trees.generations.made_at s.id.0)) k s e (omega arith) has among is

  -- ---- an end has one word

  root_and_child : (s t : ScopeState) (up : Part) → s ≡ t → s.up ≡ None → t.up ≡ Some up → ⊥
  root_and_child s t up same root above =
      let both : ◌≡◌ {A = Option Part} None (Some up) = sym root ∙ ap (λ (x : ScopeState). x.up) same ∙ above in absurd cc

  -- a word of an end of a root is its verdict
  pub word_in_root : (k : ℕ) (s : ScopeState) (e : End) (id : ℕ) (v : Verdict) → ScopeAt w k s → s.up ≡ None → Among s.ends e → e.id.0 ≡ id
      → HasWord w id v → e.verdict ≡ Some v
  word_in_root k s e id v has root among own (of_root l t f has_too root_too among_too own_too is) =
      let one = one_end_here w sound.addressed k l s t e f has has_too among among_too (own ∙ sym own_too) in
      ap (λ (x : End). x.verdict) one.2 ∙ is
  word_in_root k s e id v has root among own (of_child l t up f j r over child among_too own_too over_has word) =
      let one = one_end_here w sound.addressed k l s t e f has child.child among among_too (own ∙ sym own_too) in
      absurd (root_and_child s t up one.1 root child.has_upward)

  -- a word of an end of a child is that of the end that enrolled the child's upward part
  pub word_above : (k i : ℕ) (s r : ScopeState) (up : Part) (e : End) (id : ℕ) (v : Verdict) → IsChild w k s up i r → Among s.ends e
      → e.id.0 ≡ id → HasWord w id v → (over : End) × HasEnd w k up r over × HasWord w over.id.0 v
  word_above k i s r up e id v child among own (of_root l t f has root among_too own_too is) =
      let one = one_end_here w sound.addressed l k t s f e has child.child among_too among (own_too ∙ sym own) in
      absurd (root_and_child t s up one.1 root child.has_upward)
  word_above k i s r up e id v child among own (of_child l t q f j x over child_too among_too own_too over_has word) =
      let one = one_end_here w sound.addressed k l s t e f child.child child_too.child among among_too (own ∙ sym own_too) in
      let ups : ◌≡◌ {A = Option Part} (Some up) (Some q) =
      sym child.has_upward ∙ ap (λ (y : ScopeState). y.up) one.1 ∙ child_too.has_upward in
      let same : up ≡ q = cc in
      let parents = one_registration w sound.addressed i j r x child.parent child_too.parent
      (sym child.names ∙ ap (λ (p : Part). p.registration) same ∙ child_too.names) in (
        over,
        (
          subst (λ (y : ScopeState). Among y.ends over) (sym parents.1) over_has.0,
          over_has.1 ∙ sym (λ i. participant_at w (one.0 i) (same i).id),
        ),
        word,
      )

  -- the end that enrolled an upward part is one
  pub one_over : (k i : ℕ) (s r : ScopeState) (up : Part) (over other : End) → IsChild w k s up i r → HasEnd w k up r over
      → HasEnd w k up r other → over ≡ other
  one_over k i s r up over other child is is_too =
      one_participant r.ends over other (scope_fits_here w sound.addressed i r child.parent).apart is.0 is_too.0 (is.1 ∙ sym is_too.1)

  pub one_word : (id : ℕ) (v u : Verdict) → HasWord w id v → HasWord w id u → u ≡ v
  one_word id v u (of_root k s e has root among own is) other =
      some_verdict (sym (word_in_root k s e id u has root among own other) ∙ is)
  one_word id v u (of_child k s up e i r over child among own over_has word) other =
      let above_it = word_above k i s r up e id u child among own other in
      let ends = one_over k i s r up over above_it.0 child over_has above_it.1 in
      one_word over.id.0 v u word (subst (λ (y : End). HasWord w y.id.0 u) (sym ends) above_it.2)

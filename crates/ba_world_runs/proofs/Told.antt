-- In a sound net each word that was told is the one word of its end; for the law that what is sound is safe.
use Rattle.std.proofs.Common.{◌≡◌, ℕ, true, ◌&&◌, Option, None, Some, refl, sym, ap, ◌∙◌, subst, true≢false}
use Rattle.std.specs.Option.{option_map}
use Rattle.std.proofs.lemmas.Bool.{and_parts}
use Rattle.ba_core.specs.Messages.{notice_code}
use Rattle.ba_core.specs.declared.notices.Notice.{Notice}
use Rattle.ba_core.specs.declared.notices.Notice.TheVariants as notice
use Rattle.ba_core.specs.declared.protocols.Verdict.{Verdict}
use Rattle.ba_core.specs.declared.protocols.Verdict.TheVariants.{Close, Undo}
use Rattle.ba_link.specs.Fits.{end_closes, end_undoes, message_fits}
use Rattle.ba_link.specs.Link as link
use Rattle.ba_link.specs.Link.{LinkState, to_end, to_part}
use Rattle.ba_link.specs.Pairs.{is_close, is_undo}
use Rattle.ba_link.proofs.Kept.{sent_fits}
use Rattle.ba_message.specs.Endpoints.{same_epr}
use Rattle.ba_message.specs.declared.endpoints.Epr.{Epr}
use Rattle.ba_message.specs.declared.messages.Letter.{Letter}
use Rattle.ba_message.specs.declared.messages.Message.TheVariants as message
use Rattle.ba_message.proofs.FitTests.{endpoints_equal}
use Rattle.ba_scope_ends.specs.Ends.{end_of}
use Rattle.ba_scope.specs.Scope.{ScopeState}
use Rattle.ba_scope_ends.specs.declared.ends.End.{End}
use Rattle.ba_scope_ends.specs.declared.parts.Part.{Part}
use Rattle.ba_node_steps.specs.Addresses.{sender_of}
use Rattle.ba_node_steps.specs.Node.{Among}
use Rattle.ba_node_steps.proofs.Places.{first_is}
use Rattle.ba_world_runs.specs.Links.{HasEnd, IsLink, link_in, side_of}
use Rattle.ba_world_runs.specs.Safety.{IsSound, MailFits, TellsTheWord, of_end, of_part, of_register}
use Rattle.ba_world_runs.specs.Words.{HasWord, IsTheWord}
use Rattle.ba_node_steps.specs.WordsTold.{word_told}
use Rattle.ba_world_runs.specs.World.{Net, letter, participant_at}
use Rattle.ba_world_runs.proofs.Letters.{heard_above, heard_below}
use Rattle.ba_world_runs.proofs.Owners.{end_id, one_endpoint, one_participant, one_registration, part_id, scope_fits_here, sender_is}
use Rattle.ba_world_runs.proofs.WordLemmas.{has_word, one_word}

-- ---- where a word was sent, the end of the link has it

closed_verdict : (v : Option Verdict) → is_close v ≡ true → v ≡ Some Close
closed_verdict None h = absurd (true≢false (sym h))
closed_verdict (Some Close) h = refl
closed_verdict (Some Undo) h = absurd (true≢false (sym h))

undone_verdict : (v : Option Verdict) → is_undo v ≡ true → v ≡ Some Undo
undone_verdict None h = absurd (true≢false (sym h))
undone_verdict (Some Close) h = absurd (true≢false (sym h))
undone_verdict (Some Undo) h = refl

-- there is an end with this verdict
abbrev pub Shows : Option link.End → Verdict → Type 0
Shows o v = (x : link.End) × (o ≡ Some x) × (x.verdict ≡ Some v)

closes : (o : Option link.End) → end_closes o ≡ true → Shows o Close
closes None h = absurd (true≢false (sym h))
closes (Some x) h = (x, refl, closed_verdict x.verdict h)

undoes : (o : Option link.End) → end_undoes o ≡ true → Shows o Undo
undoes None h = absurd (true≢false (sym h))
undoes (Some x) h = (x, refl, undone_verdict x.verdict h)

pub word_sent : (l : LinkState) (n : Notice) (v : Verdict) → word_told n ≡ Some v → message_fits l (to_part n) ≡ true → Shows l.end v
word_sent l notice.Close v told h =
    let is : Close ≡ v = cc in subst (Shows l.end) is (closes l.end (and_parts (end_closes l.end) _ h).0)
word_sent l notice.Cancel v told h =
    let is : Undo ≡ v = cc in subst (Shows l.end) is (undoes l.end (and_parts (end_undoes l.end) _ h).0)
word_sent l notice.Compensate v told h =
    let is : Undo ≡ v = cc in
    let both = and_parts (end_undoes l.end && _) _ h in
    subst (Shows l.end) is (undoes l.end (and_parts (end_undoes l.end) _ both.0).0)
word_sent l n v told h = absurd cc

-- no word is told upwards
pub no_word_up : (l : LinkState) (n : Notice) (v : Verdict) → word_told n ≡ Some v → message_fits l (to_end n) ≡ true → ⊥
no_word_up l notice.Close v told h = true≢false (sym h)
no_word_up l notice.Cancel v told h = true≢false (sym h)
no_word_up l notice.Compensate v told h = true≢false (sym h)
no_word_up l n v told h = absurd cc

-- the end that a link shows is an end of its scope
pub shown_side : (s : ScopeState) (here : Epr) (x : link.End) → option_map side_of (end_of s.ends here) ≡ Some x
    → (e : End) × Among s.ends e × (e.participant ≡ here) × (side_of e ≡ x)
shown_side s here x h = by_found (end_of s.ends here) refl h
  where
    by_found : (o : Option End) → end_of s.ends here ≡ o → option_map side_of o ≡ Some x
        → (e : End) × Among s.ends e × (e.participant ≡ here) × (side_of e ≡ x)
    by_found None found h = absurd cc
    by_found (Some e) found h =
        let first = first_is (λ (y : End). same_epr y.participant here) s.ends e found in
        let same : side_of e ≡ x = cc in
        (e, first.0, endpoints_equal e.participant here first.1, same)

pub shown_end : (s : ScopeState) (here : Epr) (x : link.End) → option_map side_of (end_of s.ends here) ≡ Some x
    → (e : End) × Among s.ends e × (e.participant ≡ here) × (e.verdict ≡ x.verdict)
shown_end s here x h = let e = shown_side s here x h in (e.0, e.1, e.2, ap (λ (y : link.End). y.verdict) e.3)

module _ (w : Net) (sound : IsSound w) where
  told_by : (l : Letter) (n : Notice) (v : Verdict) → Among w.bag (letter l) → l.message ≡ message.Notice n → word_told n ≡ Some v
      → MailFits w (letter l) → HasWord w (sender_of l.number) v
  told_by l n v sent says told (of_register j p has number to other) = absurd cc
  told_by l n v sent says told (of_part j p m has number to other) =
      let at = sound.addressed.endpoints.parts j p has in
      let own : sender_of l.number ≡ p.id.0 = ap sender_of number ∙ sender_is j (notice_code m) p.id (part_id w sound.addressed j p has) in
      absurd (no_word_up (link_in w j p at.1).state n v told
      (sent_fits (link_in w j p at.1) (to_end n) (sound.links j at.0 p at.1 at.2) (heard_above w sound.addressed j p l n sent own says)))
  told_by l n v sent says told (of_end k s e m has among number to other) =
      let known = sound.addressed.endpoints.ends k s e has among in
      let j : ℕ = known.0 in
      let p : Part = known.1 in
      let heard = heard_below w sound.addressed j p l n known.2.part sent (to ∙ known.3) says in
      let fits = sent_fits (link_in w j p s) (to_part n) (sound.links j k p s known.2) heard in
      let x = word_sent (link_in w j p s).state n v told fits in
      let shown = shown_end s (participant_at w j p.id) x.0 x.1 in
      let one : shown.0 ≡ e =
      one_participant s.ends shown.0 e (scope_fits_here w sound.addressed k s has).apart shown.1 among (shown.2 ∙ sym known.3) in
      let word : HasWord w e.id.0 v =
      has_word w sound k s e v has among (ap (λ (y : End). y.verdict) (sym one) ∙ shown.3 ∙ x.2) in
      subst (λ (i : ℕ). HasWord w i v)
      (sym (ap sender_of number ∙ sender_is k (notice_code m) e.id (end_id w sound.addressed k s e has among))) word

  pub tells_the_word : TellsTheWord w
  tells_the_word l n v sent says told =
      let word = told_by l n v sent says told (sound.addressed.mail (letter l) sent) in
      record { has = word; no_other = λ u other. one_word w sound (sender_of l.number) v u word other }

  -- ---- the word that a letter tells the participant to which it goes

  told_its_end_by : (j k : ℕ) (p : Part) (s : ScopeState) (e : End) (l : Letter) (n : Notice) (v : Verdict) → IsLink w j p k s
      → HasEnd w j p s e → Among w.bag (letter l) → l.to ≡ participant_at w j p.id → l.message ≡ message.Notice n
      → word_told n ≡ Some v → MailFits w (letter l) → sender_of l.number ≡ e.id.0
  told_its_end_by j k p s e l n v at its sent goes says told (of_register i q has number to other) = absurd cc
  told_its_end_by j k p s e l n v at its sent goes says told (of_part i q m has number to other) =
      let under = sound.addressed.endpoints.parts i q has in
      let own : sender_of l.number ≡ q.id.0 = ap sender_of number ∙ sender_is i (notice_code m) q.id (part_id w sound.addressed i q has) in
      absurd (no_word_up (link_in w i q under.1).state n v told
      (sent_fits (link_in w i q under.1) (to_end n) (sound.links i under.0 q under.1 under.2)
      (heard_above w sound.addressed i q l n sent own says)))
  told_its_end_by j k p s e l n v at its sent goes says told (of_end i t f m has among number to other) =
      let known = sound.addressed.endpoints.ends i t f has among in
      let part = one_endpoint w sound.addressed known.0 j known.1 p known.2.part at.part (sym known.3 ∙ sym to ∙ goes) in
      let scope = one_registration w sound.addressed i k t s has at.scope
      (sym known.2.names ∙ ap (λ (x : Part). x.registration) part.1 ∙ at.names) in
      let there : Among s.ends f = subst (λ (x : ScopeState). Among x.ends f) scope.1 among in
      let one : f ≡ e =
      one_participant s.ends f e (scope_fits_here w sound.addressed k s at.scope).apart there its.0 (sym to ∙ goes ∙ sym its.1) in
      ap sender_of number ∙ sender_is i (notice_code m) f.id (end_id w sound.addressed i t f has among)
      ∙ ap (λ (x : End). x.id.0) one

  pub told_its_word : (j k : ℕ) (p : Part) (s : ScopeState) (e : End) (l : Letter) (n : Notice) (v : Verdict) → IsLink w j p k s
      → HasEnd w j p s e → Among w.bag (letter l) → l.to ≡ participant_at w j p.id → l.message ≡ message.Notice n
      → word_told n ≡ Some v → IsTheWord w e.id.0 v
  told_its_word j k p s e l n v at its sent goes says told =
      subst (λ (i : ℕ). IsTheWord w i v)
      (told_its_end_by j k p s e l n v at its sent goes says told (sound.addressed.mail (letter l) sent))
      (tells_the_word l n v sent says told)

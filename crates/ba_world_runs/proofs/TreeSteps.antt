-- Each move of a sound net keeps trees fit: a child with a verdict has an end above it, and that end has the same verdict; for the
-- law that trees stay fit.
use Rattle.std.proofs.Common.{None, ◌≡◌, inl, inr, ℕ, Bool, Some, refl, sym, ap, ◌∙◌, subst}
use Rattle.ba_core.specs.declared.identifiers.Id.{Id}
use Rattle.ba_core.specs.declared.notices.Notice.{Notice}
use Rattle.ba_core.specs.declared.protocols.Side.TheVariants.{Participant}
use Rattle.ba_core.specs.declared.protocols.Verdict.{Verdict}
use Rattle.ba_link.specs.Link.{to_part}
use Rattle.ba_link.proofs.Kept.{sent_fits}
use Rattle.ba_message.specs.declared.messages.Letter.{Letter}
use Rattle.ba_message.specs.declared.messages.Message.{Message}
use Rattle.ba_message.specs.declared.messages.Message.TheVariants as message
use Rattle.ba_scope.specs.Scope.{ScopeState}
use Rattle.ba_scope_ends.specs.declared.parts.Part.{Part}
use Rattle.ba_node_steps.specs.declared.inputs.Input.TheVariants as input
use Rattle.ba_node_steps.specs.Fits.{NodeFits}
use Rattle.ba_node_steps.specs.Node.{Among, NodeState}
use Rattle.ba_world_runs.specs.Links.{IsLink, link_in}
use Rattle.ba_world_runs.specs.Safety.{IsSound}
use Rattle.ba_world_runs.specs.Trees.{HasVerdictAbove, IsChild, TreesFit}
use Rattle.ba_node_steps.specs.WordsTold.{word_told}
use Rattle.ba_world_runs.specs.World.{Net, Occasion, PartAt, ScopeAt, answer, delivers, letter, node_at, own, participant_at, registration_at}
use Rattle.ba_world_runs.specs.World.{formats, ticks}
use Rattle.ba_world_runs.specs.WorldSteps.{IsPossible, BringsInput, Moves, effect}
use Rattle.ba_world_runs.proofs.Addressed.{cause_of, endpoint_stays, registration_stays}
use Rattle.ba_world_runs.proofs.Generations.{generations}
use Rattle.ba_world_runs.proofs.Letters.{heard_below}
use Rattle.ba_world_runs.proofs.MailLemmas.{addressed}
use Rattle.ba_world_runs.proofs.Owners.{one_registration}
use Rattle.ba_world_runs.proofs.Recorded.{at_or_other}
use Rattle.ba_world_runs.proofs.Told.{shown_end, word_sent}
use Rattle.ba_world_runs.proofs.VerdictsGo.{ChildComes, TellsWord, VerdictsStay, input_verdicts, stays_all, tick_verdicts}

after_verdicts : (n : NodeState) (o : Occasion) → NodeFits n → VerdictsStay (cause_of o) n.scopes (effect n o).after.scopes
after_verdicts n (own now i) fits = input_verdicts n now i fits
after_verdicts n (delivers now mail i) fits = input_verdicts n now i fits
after_verdicts n (ticks now id) fits = tick_verdicts n now id fits
after_verdicts n formats fits = stays_all None n.scopes

-- ---- a word that an occasion tells was sent

-- a letter to this participant that tells this word is in the bag
record WordSent (w : Net) (k : ℕ) (id : Id) (v : Verdict) : Type 0 where
  told : Letter
  notice : Notice
  sent : Among w.bag (letter told)
  to : told.to ≡ participant_at w k id
  says : told.message ≡ message.Notice notice
  tells : word_told notice ≡ Some v

no_notice : (w : Net) (k : ℕ) (number : Id) (m : Message) (id : Id) (n : Notice)
    → BringsInput (node_at w k) (answer number m) (input.Notice Participant id n) → ⊥
no_notice w k number (message.Registered c) id n h = h
no_notice w k number (message.Fault c) id n h = h
no_notice w k number m id n h = h

word_sent_to : (w : Net) (k : ℕ) (o : Occasion) (part : Id) (v : Verdict) → IsPossible w k o → TellsWord (cause_of o) part v
    → WordSent w k part v
word_sent_to w k (own now (input.Notice Participant id n)) part v possible tells = absurd possible
word_sent_to w k (own now i) part v possible tells = absurd tells
word_sent_to w k (delivers now (letter l) (input.Notice Participant id n)) part v possible tells = record {
  told = l;
  notice = n;
  sent = possible.0;
  to = possible.1.1 ∙ ap (λ (i : Id). participant_at w k i) (sym tells.0);
  says = possible.1.2;
  tells = tells.1;
}
word_sent_to w k (delivers now (answer number m) (input.Notice Participant id n)) part v possible tells =
    absurd (no_notice w k number m id n possible.1)
word_sent_to w k (delivers now mail i) part v possible tells = absurd tells
word_sent_to w k (ticks now id) part v possible tells = absurd tells
word_sent_to w k formats part v possible tells = absurd tells

-- ---- the end above an upward part, in the scope where that registers

record ShowsAbove (w : Net) (i : ℕ) (p : Part) (v : Verdict) : Type 0 where
  node : ℕ
  scope : ScopeState
  link : IsLink w i p node scope
  end : HasVerdictAbove w i p scope v

module _ (w w2 : Net) (k : ℕ) (o : Occasion) (joined : Bool) (moves : Moves w w2 k o joined) (sound : IsSound w) where
  verdicts_stay : (j : ℕ) → VerdictsStay (cause_of o) (node_at w j).scopes (node_at w2 j).scopes
  verdicts_stay = at_or_other (λ j. VerdictsStay (cause_of o) (node_at w j).scopes (node_at w2 j).scopes) k
      (subst (λ (n : NodeState). VerdictsStay (cause_of o) (node_at w k).scopes n.scopes) (sym moves.state)
      (after_verdicts (node_at w k) o (sound.addressed.nodes k).fits))
      (λ j other. subst (λ (n : NodeState). VerdictsStay (cause_of o) (node_at w j).scopes n.scopes) (sym (moves.others j other))
      (stays_all (cause_of o) (node_at w j).scopes))

  -- a child that had the verdict had it above
  had_above : (i : ℕ) (s : ScopeState) (p : Part) (v : Verdict) → ScopeAt w i s → s.up ≡ Some p → s.verdict ≡ Some v → ShowsAbove w i p v
  had_above i s p v of is has =
      let at = sound.addressed.endpoints.parts i p (inr (s, of, is)) in
      let child : IsChild w i s p at.0 at.1 = record { child = of; has_upward = is; parent = at.2.scope; names = at.2.names } in
      record { node = at.0; scope = at.1; link = at.2; end = sound.trees.same_verdict_above i at.0 s at.1 p v child has }

  -- an upward part that is told a word has an end above that shows it
  told_above : (p : Part) (v : Verdict) → PartAt w k p → TellsWord (cause_of o) p.id v → ShowsAbove w k p v
  told_above p v has tells =
      let word = word_sent_to w k o p.id v moves.possible tells in
      let at = sound.addressed.endpoints.parts k p has in
      let heard = heard_below w sound.addressed k p word.told word.notice has word.sent word.to word.says in
      let fits = sent_fits (link_in w k p at.1) (to_part word.notice) (sound.links k at.0 p at.1 at.2) heard in
      let shown = word_sent (link_in w k p at.1).state word.notice v word.tells fits in
      let e = shown_end at.1 (participant_at w k p.id) shown.0 shown.1 in
      record { node = at.0; scope = at.1; link = at.2; end = (e.0, (e.1, e.2), e.3 ∙ shown.2) }

  -- the end that was above is above, with its verdict
  still_above : (i j : ℕ) (p q : Part) (t : ScopeState) (v : Verdict) → ShowsAbove w i p v → q.id ≡ p.id → q.registration ≡ p.registration
      → ScopeAt w2 j t → q.registration ≡ registration_at w2 j t.id → HasVerdictAbove w2 i q t v
  still_above i j p q t v above id registration there names =
      let e = above.end in
      let f = (verdicts_stay above.node).ends above.scope e.0 v above.link.scope e.1.0 e.2 in
      let stays = registration_stays w w2 k o joined moves sound.addressed above.node above.scope f.scope f.own in
      let one = one_registration w2 (addressed w w2 k o joined moves sound.addressed) above.node j f.scope t f.here there
      (sym stays ∙ sym above.link.names ∙ sym registration ∙ names) in
      let among : Among t.ends f.end = subst (λ (x : ScopeState). Among x.ends f.end) one.1 f.among in
      let its = f.keeps.0 ∙ e.1.1 ∙ endpoint_stays w w2 k o joined moves sound.addressed i p q id in
      (f.end, (among, its), f.keeps.1)

  by_child : (j : ℕ) (q : Part) (t : ScopeState) (v : Verdict) → ScopeAt w2 j t → q.registration ≡ registration_at w2 j t.id
      → ChildComes (cause_of o) (node_at w k).scopes q v → HasVerdictAbove w2 k q t v
  by_child j q t v there names c =
      still_above k j c.comes.part q t v (elim c.comes.verdict [
        | inl had ↦ had_above k c.scope c.comes.part v c.here c.comes.is_up had
        | inr tells ↦ told_above c.comes.part v (inr (c.scope, c.here, c.comes.is_up)) tells
      ]) c.comes.id c.comes.registration there names

  verdict_above : (i j : ℕ) (s t : ScopeState) (q : Part) (v : Verdict) → IsChild w2 i s q j t → s.verdict ≡ Some v
      → HasVerdictAbove w2 i q t v
  verdict_above = at_or_other (λ i. (j : ℕ) (s t : ScopeState) (q : Part) (v : Verdict) → IsChild w2 i s q j t → s.verdict ≡ Some v
      → HasVerdictAbove w2 i q t v) k
      (λ j s t q v its has.
      by_child j q t v its.parent its.names ((verdicts_stay k).children s q v its.child its.has_upward has))
      (λ i other j s t q v its has.
      let of = subst (λ (n : NodeState). Among n.scopes s) (moves.others i other) its.child in
      still_above i j q q t v (had_above i s q v of its.has_upward has) refl refl its.parent its.names)

  pub trees_fit : TreesFit w2
  trees_fit = record {
    generations = generations w w2 k o joined moves sound.addressed sound.trees.generations;
    same_verdict_above = verdict_above;
  }

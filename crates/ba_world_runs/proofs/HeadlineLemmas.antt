-- What a participant is told, by its endpoint; for the law that none learns two outcomes.
use Rattle.std.proofs.Common.{◌≡◌, ℕ, List, ◌∷◌, None, Some, refl, sym, ap, ◌∙◌, subst}
use Rattle.ba_core.specs.Messages.{notice_code}
use Rattle.ba_core.specs.declared.notices.Notice.{Notice}
use Rattle.ba_core.specs.declared.notices.Notice.TheVariants as notice
use Rattle.ba_core.specs.declared.protocols.Kind.TheVariants.{Atomic}
use Rattle.ba_core.specs.declared.protocols.Verdict.{Verdict}
use Rattle.ba_core.specs.declared.protocols.Verdict.TheVariants.{Close}
use Rattle.ba_link.specs.Link.{to_end, to_part}
use Rattle.ba_link.proofs.Kept.{sent_fits}
use Rattle.ba_message.specs.declared.endpoints.Epr.{Epr}
use Rattle.ba_message.specs.declared.messages.Letter.{Letter}
use Rattle.ba_message.specs.declared.messages.Message.{Message}
use Rattle.ba_message.specs.declared.messages.Message.TheVariants as message
use Rattle.ba_scope.specs.Scope.{ScopeState}
use Rattle.ba_scope_ends.specs.declared.ends.End.{End}
use Rattle.ba_scope_ends.specs.declared.parts.Part.{Part}
use Rattle.ba_node_steps.specs.Addresses.{sender_of}
use Rattle.ba_node_steps.specs.Node.{Among}
use Rattle.ba_node_steps.specs.WordsTold.{word_in, word_told}
use Rattle.ba_node_steps.proofs.Members.{id_by_number}
use Rattle.ba_world_runs.specs.Headline.{IsEndFor, RecordsSay, WasTold}
use Rattle.ba_world_runs.specs.Links.{link_in}
use Rattle.ba_world_runs.specs.Runs.{IsRun, WasCompleted}
use Rattle.ba_world_runs.specs.Safety.{IsSound, MailFits, of_end, of_part, of_register}
use Rattle.ba_world_runs.specs.Trees.{IsUnder}
use Rattle.ba_world_runs.specs.Words.{IsTheWord}
use Rattle.ba_world_runs.specs.World.{Net, ScopeAt, World, letter, net_of, participant_at}
use Rattle.ba_world_runs.proofs.Completed.{close_told}
use Rattle.ba_world_runs.proofs.Letters.{heard_above, heard_below}
use Rattle.ba_world_runs.proofs.Owners.{end_id, one_participant, part_id, scope_fits_here, sender_is}
use Rattle.ba_world_runs.proofs.SoundRuns.{sound_run}
use Rattle.ba_world_runs.proofs.Told.{no_word_up, shown_end, told_its_word, word_sent}
use Rattle.ba_world_runs.proofs.TreeWords.{atomic_words}

-- a message that tells a word is a notice
notice_with_word : (m : Message) (v : Verdict) → word_in m ≡ Some v → (n : Notice) × (m ≡ message.Notice n) × (word_told n ≡ Some v)
notice_with_word (message.Notice n) v h = (n, refl, h)
notice_with_word m v h = absurd cc

-- the end that tells this word in a letter
record TellsIt (w : Net) (l : Letter) (v : Verdict) : Type 0 where
  node : ℕ
  scope : ScopeState
  end : End
  here : ScopeAt w node scope
  among : Among scope.ends end
  sender : sender_of l.number ≡ end.id.0
  to : l.to ≡ end.participant
  own : end.verdict ≡ Some v

module _ (w : Net) (sound : IsSound w) where
  tells_by : (l : Letter) (n : Notice) (v : Verdict) → Among w.bag (letter l) → l.message ≡ message.Notice n → word_told n ≡ Some v
      → MailFits w (letter l) → TellsIt w l v
  tells_by l n v sent says told (of_register j p has number to other) = absurd cc
  tells_by l n v sent says told (of_part j p m has number to other) =
      let at = sound.addressed.endpoints.parts j p has in
      let own : sender_of l.number ≡ p.id.0 = ap sender_of number ∙ sender_is j (notice_code m) p.id (part_id w sound.addressed j p has) in
      absurd (no_word_up (link_in w j p at.1).state n v told
      (sent_fits (link_in w j p at.1) (to_end n) (sound.links j at.0 p at.1 at.2) (heard_above w sound.addressed j p l n sent own says)))
  tells_by l n v sent says told (of_end k s e m has among number to other) =
      let known = sound.addressed.endpoints.ends k s e has among in
      let j : ℕ = known.0 in
      let p : Part = known.1 in
      let heard = heard_below w sound.addressed j p l n known.2.part sent (to ∙ known.3) says in
      let fits = sent_fits (link_in w j p s) (to_part n) (sound.links j k p s known.2) heard in
      let x = word_sent (link_in w j p s).state n v told fits in
      let shown = shown_end s (participant_at w j p.id) x.0 x.1 in
      let one : shown.0 ≡ e =
      one_participant s.ends shown.0 e (scope_fits_here w sound.addressed k s has).apart shown.1 among (shown.2 ∙ sym known.3) in
      record {
        node = k;
        scope = s;
        end = e;
        here = has;
        among = among;
        sender = ap sender_of number ∙ sender_is k (notice_code m) e.id (end_id w sound.addressed k s e has among);
        to = to;
        own = ap (λ (y : End). y.verdict) (sym one) ∙ shown.3 ∙ x.2;
      }

  tells_it : (l : Letter) (v : Verdict) → Among w.bag (letter l) → word_in l.message ≡ Some v → TellsIt w l v
  tells_it l v sent word =
      let says = notice_with_word l.message v word in
      tells_by l says.0 v sent says.1 says.2 (sound.addressed.mail (letter l) sent)

  -- what goes to the participant of an end tells the end's word
  its_word : (k : ℕ) (s : ScopeState) (e : End) (l : Letter) (v : Verdict) → ScopeAt w k s → Among s.ends e → Among w.bag (letter l)
      → l.to ≡ e.participant → word_in l.message ≡ Some v → IsTheWord w e.id.0 v
  its_word k s e l v has among sent goes word =
      let known = sound.addressed.endpoints.ends k s e has among in
      let says = notice_with_word l.message v word in
      told_its_word w sound known.0 k known.1 s e l says.0 v known.2 (among, known.3) sent (goes ∙ known.3) says.1 says.2

module _ (w : World) (before : List World) (run : IsRun (w ∷ before)) where
  sound : IsSound (net_of w)
  sound = let whole = sound_run w before run in whole.net

  its_end : (to : Epr) (v : Verdict) (told : WasTold w to v) → TellsIt (net_of w) told.said v
  its_end to v told = tells_it (net_of w) sound told.said v told.sent told.word

  pub one_outcome : (to : Epr) (v u : Verdict) → WasTold w to v → WasTold w to u → v ≡ u
  one_outcome to v u told told_too =
      let its = its_end to v told in
      let first = its_word (net_of w) sound its.node its.scope its.end told.said v its.here its.among told.sent its.to told.word in
      let second = its_word (net_of w) sound its.node its.scope its.end told_too.said u its.here its.among told_too.sent
      (told_too.goes ∙ sym told.goes ∙ its.to) told_too.word in
      second.no_other v first.has

  pub is_recorded : (to : Epr) (v : Verdict) → WasTold w to v → (k : ℕ) × RecordsSay (w.nodes k).records to v
  is_recorded to v told =
      let its = its_end to v told in
      let whole = sound_run w before run in (
        its.node,
        record {
          node = (w.nodes its.node).state;
          replays = whole.records.replays its.node;
          scope = its.scope;
          its = its.end;
          here = record { scope = its.here; among = its.among; participant = sym its.to ∙ told.goes };
          verdict = its.own;
        },
      )

  pub completed_first : (to : Epr) → WasTold w to Close
      → (k : ℕ) × (s : ScopeState) × (e : End) × IsEndFor (w.nodes k).state s e to × WasCompleted before e.id
  completed_first to told =
      let its = its_end to Close told in
      let says = notice_with_word told.said.message Close told.word in
      let closing = close_told w before run sound told.said told.sent (says.1 ∙ ap message.Notice (close_is says.0 says.2)) in
      let same : closing.2.id ≡ its.end.id = id_by_number closing.2.id its.end.id (sym closing.5 ∙ its.sender) in (
        its.node,
        its.scope,
        its.end,
        record { scope = its.here; among = its.among; participant = sym its.to ∙ told.goes },
        subst (WasCompleted before) same closing.6,
      )
    where
      close_is : (n : Notice) → word_told n ≡ Some Close → n ≡ notice.Close
      close_is notice.Close h = refl
      close_is n h = absurd cc

  pub told_the_roots : (l k : ℕ) (root s : ScopeState) (e : End) (to : Epr) (v : Verdict) → root.up ≡ None → root.kind ≡ Atomic
      → IsUnder (net_of w) l root k s → IsEndFor (w.nodes k).state s e to → WasTold w to v → root.verdict ≡ Some v
  told_the_roots l k root s e to v is_root atomic under for_it told =
      let word = its_word (net_of w) sound k s e told.said v for_it.scope for_it.among told.sent (told.goes ∙ sym for_it.participant)
      told.word in
      let same = atomic_words (net_of w) sound l root is_root atomic k s under e v for_it.among in
      same.0 word.has

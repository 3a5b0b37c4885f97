-- What holds of each history of a node; for the law that each node keeps its word.
use Rattle.std.proofs.Common.{◌≡◌, ◌⊎◌, inl, inr, ℕ, ◌+◌, ◌*◌, ◌≤◌, ◌<◌, ◌^◌, Bool, true, false, List, [], ◌∷◌, ◌++◌, length, Option}
use Rattle.std.proofs.Common.{None, Some}
use Rattle.std.proofs.Common.{refl, sym, ap, ◌∙◌, subst, arith, true≢false}
use Rattle.std.specs.List.{list_all}
use Rattle.std.specs.Option.{option_map, option_to_list}
use Rattle.std.proofs.lemmas.Nat.{mod-mul-add}
use Rattle.ba_core.specs.EndRows.{end_tick}
use Rattle.ba_core.specs.Messages.{notice_code}
use Rattle.ba_core.specs.PartRows.{part_says}
use Rattle.ba_core.specs.declared.identifiers.Id.{Id}
use Rattle.ba_core.specs.declared.notices.Act.TheVariants as act
use Rattle.ba_core.specs.declared.notices.Notice.{Notice}
use Rattle.ba_core.specs.declared.notices.Notice.TheVariants as notice
use Rattle.ba_core.specs.declared.protocols.Verdict.{Verdict}
use Rattle.ba_core.specs.declared.protocols.Verdict.TheVariants.{Close, Undo}
use Rattle.ba_core.specs.declared.states.How.TheVariants.{Closed}
use Rattle.ba_core.specs.declared.states.CState.{CState}
use Rattle.ba_core.specs.declared.states.CState.TheVariants as end
use Rattle.ba_core.specs.declared.states.How.{How}
use Rattle.ba_core.specs.declared.states.PState.TheVariants as part
use Rattle.ba_link.proofs.Everywhere.{ends, only_if, part_passes, parts, state_passes, verdict_passes, verdicts, where_asked}
use Rattle.ba_link.specs.Pairs.{is_close, is_open, is_undo, verdict_fits_state}
use Rattle.ba_message.specs.declared.endpoints.Epr.{Epr}
use Rattle.ba_message.specs.declared.messages.Letter.{Letter}
use Rattle.ba_message.specs.declared.messages.Message.TheVariants as message
use Rattle.ba_record.specs.declared.records.Record.{Record}
use Rattle.ba_record.specs.declared.records.Record.TheVariants as journal
use Rattle.ba_scope.proofs.Calls.{by_option}
use Rattle.ba_scope.proofs.Lists.{by_test}
use Rattle.ba_scope.specs.Fits.{same_verdict, up_state, verdict_fits_scope}
use Rattle.ba_scope.specs.Rules.{own_choice, part_at_tick, tick_up}
use Rattle.ba_scope.specs.Scope.{ScopeState}
use Rattle.ba_scope_ends.specs.Ends.{Tick, end_in_state, tick_of_end}
use Rattle.ba_scope_ends.specs.Parts.{tick_of_part}
use Rattle.ba_scope_ends.specs.declared.ends.End.{End}
use Rattle.ba_scope_ends.specs.declared.parts.Part.{Part}
use Rattle.ba_node_steps.specs.Addresses.{message_number, sender_of}
use Rattle.ba_node_steps.specs.Fits.{HasSpareCounters, IsIdAt, NodeFits}
use Rattle.ba_node_steps.specs.Histories.{HadCompleted, Happening, HasCounters, HasEndAt, HasEndVerdict, HasOneWord}
use Rattle.ba_node_steps.specs.Histories.{HasScopeVerdict, IsTold}
use Rattle.ba_node_steps.specs.Histories.{HasPartIn, has_completed, written_by}
use Rattle.ba_node_steps.specs.Histories.{TellsItsVerdict, atomic_has_one, child_has_one, consequence, arrives_at, letters_of, node_then}
use Rattle.ba_node_steps.specs.Histories.{states_of, stops_with, stops_without, ticks_at}
use Rattle.ba_node_steps.specs.WordsTold.{word_in, word_told}
use Rattle.ba_node_steps.specs.Lawful.{Replays, given, ticked}
use Rattle.ba_node_steps.specs.Node.{Among, HasPart, NodeState, counter, last}
use Rattle.ba_node_steps.specs.Ticks.{TickStep, end_letter, notice_letter, part_letter, register_letter, tick_step}
use Rattle.ba_node_steps.proofs.Cases.{SentOnly, nothing, of_end, of_lone, of_registering, of_up, tick_letters}
use Rattle.ba_node_steps.proofs.Members.{among_left, among_right, id_by_number}
use Rattle.ba_node_steps.proofs.Objects.{end_here, one_end, one_part, one_scope, scope_fits}
use Rattle.ba_node_steps.proofs.PartsGo.{PartsGo, input_parts, part_back, part_on, parts_stay, tick_parts}
use Rattle.ba_node_steps.proofs.Replayed.{goes_on}
use Rattle.ba_node_steps.proofs.SameNode.{step_keeps}
use Rattle.ba_node_steps.proofs.ScopesGo.{EndParts, atomic_verdict, closes_now, end_parts, input_goes, ScopesGo, scopes_stay, tick_moves}
use Rattle.ba_node_steps.proofs.ScopesGo.{among_either, was_completed}
use Rattle.ba_node_steps.proofs.StepsFit.{new_fits, step_fits, step_makes_few}

-- ---- a node fits at each time of its history

-- what a happening keeps
record HappensFit (n after : NodeState) : Type 0 where
  fits : NodeFits after
  few : last after ≤ last n + 2
  number : after.number ≡ n.number

happening_fits : (n : NodeState) (h : Happening) → HasSpareCounters n → NodeFits n → HappensFit n (consequence n h).after
happening_fits n (arrives_at now i) room fits = record {
  fits = step_fits n (given now i) room fits;
  few = step_makes_few n (given now i) room fits;
  number = let same = step_keeps n (given now i) in same.number;
}
happening_fits n (ticks_at now id) room fits = record {
  fits = step_fits n (ticked now id) room fits;
  few = step_makes_few n (ticked now id) room fits;
  number = let same = step_keeps n (ticked now id) in same.number;
}
happening_fits n (stops_with h) room fits = happening_fits n h room fits
happening_fits n (stops_without h) room fits = record { fits = fits; few = omega arith; number = refl }

record StandsFit (number : ℕ) (past : List Happening) (n : NodeState) : Type 0 where
  fits : NodeFits n
  few : last n ≤ 2 * length past
  is_number : n.number ≡ number

pub earlier_has : (number : ℕ) (h : Happening) (past : List Happening) → HasCounters number (h ∷ past) → HasCounters number past
earlier_has number h past room = let few = room.few in record { is_number = room.is_number; few = omega (arith, few) }

module _ (number : ℕ) (base : List ℕ) where
  stands_fit : (past : List Happening) → HasCounters number past → StandsFit number past (node_then number base past)
  stands_fit [] room = record { fits = new_fits number base; few = omega arith; is_number = refl }
  stands_fit (h ∷ past) room =
      let few = room.few in
      let was = stands_fit past (earlier_has number h past room) in
      let so_few = was.few in
      let same = was.is_number in
      let spare : HasSpareCounters (node_then number base past) =
      record { number = subst (λ k. k < 2 ^ 32) (sym same) room.is_number; counters = omega (arith, few, so_few) } in
      let next = happening_fits (node_then number base past) h spare was.fits in
      let more = next.few in
      record { fits = next.fits; few = omega (arith, more, so_few); is_number = next.number ∙ same }

  pub then_fits : (past : List Happening) → HasCounters number past → NodeFits (node_then number base past)
  then_fits past room = let stands = stands_fit past room in stands.fits

-- ---- its scopes and ends go on

happening_goes : (n : NodeState) (h : Happening) → NodeFits n → ScopesGo n (consequence n h).after
happening_goes n (arrives_at now i) fits = input_goes n now i fits
happening_goes n (ticks_at now id) fits = tick_moves n now id fits
happening_goes n (stops_with h) fits = happening_goes n h fits
happening_goes n (stops_without h) fits = scopes_stay n

-- an end is there still
pub record EndStill (e f : End) : Type 0 where
  pub id : f.id ≡ e.id
  pub participant : f.participant ≡ e.participant
  pub verdict : (v : Verdict) → e.verdict ≡ Some v → f.verdict ≡ Some v

pub record ScopeStill (s t : ScopeState) : Type 0 where
  pub id : t.id ≡ s.id
  pub verdict : (v : Verdict) → s.verdict ≡ Some v → t.verdict ≡ Some v
  pub ends : (e : End) → Among s.ends e → (f : End) × Among t.ends f × EndStill e f

abbrev pub Still : NodeState → NodeState → Type 0
Still n m = (s : ScopeState) → Among n.scopes s → (t : ScopeState) × Among m.scopes t × ScopeStill s t

itself : (n : NodeState) → Still n n
itself n s of =
    let same : (e : End) → EndStill e e = λ e. record { id = refl; participant = refl; verdict = λ v has. has } in
    (s, of, record { id = refl; verdict = λ v has. has; ends = λ e among. (e, among, same e) })

one_later : (n m : NodeState) → ScopesGo n m → Still n m
one_later n m goes s of =
    let on = goes.on s of in (
      on.0,
      on.1,
      record {
        id = on.2.id;
        verdict = on.2.verdict;
        ends = λ e among.
            let further = on.2.ends.on e among in
            (further.0, further.1, record { id = further.2.id; participant = further.2.participant; verdict = further.2.verdict });
      },
    )

one_more : (n m k : NodeState) → Still n m → Still m k → Still n k
one_more n m k first second s of =
    let a = first s of in
    let b = second a.0 a.1 in (
      b.0,
      b.1,
      record {
        id = b.2.id ∙ a.2.id;
        verdict = λ v has. b.2.verdict v (a.2.verdict v has);
        ends = λ e among.
            let f = a.2.ends e among in
            let g = b.2.ends f.0 f.1 in (
              g.0,
              g.1,
              record {
                id = g.2.id ∙ f.2.id;
                participant = g.2.participant ∙ f.2.participant;
                verdict = λ v has. g.2.verdict v (f.2.verdict v has);
              },
            );
      },
    )

module _ (number : ℕ) (base : List ℕ) where
  step_still : (h : Happening) (past : List Happening) → HasCounters number (h ∷ past)
      → Still (node_then number base past) (node_then number base (h ∷ past))
  step_still h past room =
      one_later (node_then number base past) (node_then number base (h ∷ past))
      (happening_goes (node_then number base past) h (then_fits number base past (earlier_has number h past room)))

  pub still : (more past : List Happening) → HasCounters number (more ++ past)
      → Still (node_then number base past) (node_then number base (more ++ past))
  still [] past room = itself (node_then number base past)
  still (h ∷ more) past room =
      one_more (node_then number base past) (node_then number base (more ++ past)) (node_then number base (h ∷ (more ++ past)))
      (still more past (earlier_has number h (more ++ past) room)) (step_still h (more ++ past) room)

  pub scope_keeps : (more past : List Happening) (s : ScopeState) (v : Verdict) → HasCounters number (more ++ past)
      → Among (node_then number base past).scopes s → s.verdict ≡ Some v → HasScopeVerdict (node_then number base (more ++ past)) s.id v
  scope_keeps more past s v room of has =
      let t = still more past room s of in record {
        scope = t.0;
        here = t.1;
        is = t.2.id;
        verdict = t.2.verdict v has;
        alone = λ x x_of x_is. one_scope (node_then number base (more ++ past)) x t.0 (then_fits number base (more ++ past) room) x_of t.1
            (ap (λ (i : Id). i.0) (x_is ∙ sym t.2.id));
      }

  pub end_keeps : (more past : List Happening) (s : ScopeState) (e : End) (v : Verdict) → HasCounters number (more ++ past)
      → HasEndAt (node_then number base past) e.id s e → e.verdict ≡ Some v
      → HasEndVerdict (node_then number base (more ++ past)) s.id e.id v
  end_keeps more past s e v room at has =
      let t = still more past room s at.scope in
      let f = t.2.ends e at.end in record {
        scope = t.0;
        end = f.0;
        here = record { scope = t.1; end = f.1; is = f.2.id };
        in_scope = t.2.id;
        verdict = f.2.verdict v has;
        alone = λ x y there. (one_end (node_then number base (more ++ past)) x t.0 y f.0 (then_fits number base (more ++ past) room)
            there.scope t.1 there.end f.1 (ap (λ (i : Id). i.0) (there.is ∙ sym f.2.id))).1;
      }

-- ---- what a letter tells

-- the letter is that of an end, which says this notice
record IsEnds (n : NodeState) (l : Letter) : Type 0 where
  scope : ScopeState
  end : End
  here : Among n.scopes scope
  among : Among scope.ends end
  notice : Notice
  says : (tick_of_end end).says ≡ Some notice
  is : l ≡ notice_letter end.id end.participant notice

abbrev OfEnds : NodeState → Option Letter → Type 0
OfEnds n o = (l : Letter) (v : Verdict) → o ≡ Some l → word_in l.message ≡ Some v → IsEnds n l

no_letter : (n : NodeState) → OfEnds n None
no_letter n l v sent word = absurd cc

end_tells : (n : NodeState) (s : ScopeState) (e : End) (says : Option Notice) → (tick_of_end e).says ≡ says → Among n.scopes s
    → Among s.ends e → OfEnds n (end_letter e says)
end_tells n s e None is of among = no_letter n
end_tells n s e (Some m) is of among = λ l v sent word.
    record {
      scope = s;
      end = e;
      here = of;
      among = among;
      notice = m;
      says = is;
      is = sym (letter_one (notice_letter e.id e.participant m) l sent);
    }
  where
    letter_one : (a b : Letter) → ◌≡◌ {A = Option Letter} (Some a) (Some b) → a ≡ b
    letter_one a b h = cc

abbrev wordless : Option Notice → Bool
wordless None = true
wordless (Some m) = is_open (word_told m)

parts_wordless : list_all (λ p. wordless (part_says p)) parts ≡ true
parts_wordless = refl

part_tick_wordless : (p : Part) → wordless (tick_of_part p).says ≡ true
part_tick_wordless p =
    by_test (λ (t : Tick Part). wordless t.says ≡ true) p.owes _ _ (λ _. refl)
    (λ _. by_test (λ (t : Tick Part). wordless t.says ≡ true) p.asks
    (record { after = record p { asks = false }; says = Some notice.GetStatus })
    (record { after = p; says = part_says p.state }) (λ _. refl) (λ _. part_passes (λ q. wordless (part_says q)) parts_wordless p.state))

up_tick_wordless : (s : ScopeState) → wordless (tick_up s).says ≡ true
up_tick_wordless s =
    by_option (λ (t : Tick ScopeState). wordless t.says ≡ true) s.up (record { after = s; says = None }) _ (λ root. refl)
    (λ up is. part_tick_wordless (part_at_tick s up))

no_word : {A : Type 0} (o : Option Verdict) (v : Verdict) → is_open o ≡ true → o ≡ Some v → A
no_word None v open_ has = absurd cc
no_word (Some u) v open_ has = absurd (true≢false (sym open_))

letter_word : (a l : Letter) (v : Verdict) → ◌≡◌ {A = Option Letter} (Some a) (Some l) → word_in l.message ≡ Some v
    → word_in a.message ≡ Some v
letter_word a l v h word = let same : a ≡ l = cc in subst (λ (x : Letter). word_in x.message ≡ Some v) (sym same) word

part_tells : (n : NodeState) (p : Part) (says : Option Notice) → wordless says ≡ true → OfEnds n (part_letter p says)
part_tells n p None silent = no_letter n
part_tells n p (Some m) silent = by_coordinator p.coordinator
  where
    by_coordinator : (o : Option Epr) → OfEnds n (option_map (λ to. notice_letter p.id to m) o)
    by_coordinator None = no_letter n
    by_coordinator (Some to) = λ l v sent word. no_word (word_told m) v silent (letter_word (notice_letter p.id to m) l v sent word)

register_tells : (n : NodeState) (p : Part) → OfEnds n (Some (register_letter n p))
register_tells n p l v sent word = no_word None v refl (letter_word (register_letter n p) l v sent word)

abbrev ByTick : NodeState → TickStep → Type 0
ByTick n step = OfEnds n step.letter

sent_only : (n : NodeState) (id : Id) (o : Option Letter) → SentOnly n id o → OfEnds n o
sent_only n id o (nothing is) = subst (OfEnds n) (sym is) (no_letter n)
sent_only n id o (of_end at stands stays is) =
    subst (OfEnds n) (sym is) (end_tells n at.scope at.end (tick_of_end at.end).says refl stands.scope stands.end)
sent_only n id o (of_registering p has registers is) = subst (OfEnds n) (sym is) (register_tells n p)
sent_only n id o (of_lone p stands hears silent is) =
    subst (OfEnds n) (sym is) (part_tells n p (part_says p.state) (part_passes (λ q. wordless (part_says q)) parts_wordless p.state))
sent_only n id o (of_up s p stands hears stays is) = subst (OfEnds n) (sym is) (part_tells n p (tick_up s).says (up_tick_wordless s))

tick_tells : (n : NodeState) (now : ℕ) (id : Id) → ByTick n (tick_step n now id)
tick_tells n now id =
    tick_letters (ByTick n) n now id (λ o sent. sent_only n id o sent) (λ s here expired. no_letter n)
    (λ at w no_scope stands ticks. end_tells n at.scope at.end (tick_of_end at.end).says refl stands.scope stands.end)
    (λ p no_scope no_end stands hears talks. part_tells n p (tick_of_part p).says (part_tick_wordless p))
    (λ s p w no_scope no_end stands hears moves. part_tells n p (tick_up s).says (up_tick_wordless s))

happening_tells : (n : NodeState) (h : Happening) → OfEnds n (consequence n h).letter
happening_tells n (arrives_at now i) = no_letter n
happening_tells n (ticks_at now id) = tick_tells n now id
happening_tells n (stops_with h) = no_letter n
happening_tells n (stops_without h) = no_letter n

-- ---- an end tells its own verdict, and Close where it closes

abbrev same_word : Option Verdict → Option Verdict → Bool
same_word None told = true
same_word (Some Close) told = is_close told
same_word (Some Undo) told = is_undo told

abbrev says_own : Option Notice → Option Verdict → Bool
says_own None v = true
says_own (Some m) v = same_word (word_told m) v

abbrev tick_says_own : CState → Option Verdict → Bool
tick_says_own s v = only_if (verdict_fits_state s v) (says_own (end_tick s).1) v

each_tick_says_own : list_all (λ s. list_all (tick_says_own s) verdicts) ends ≡ true
each_tick_says_own = refl

same_word_is : (v : Verdict) (told : Option Verdict) → same_word (Some v) told ≡ true → told ≡ Some v
same_word_is Close None h = absurd (true≢false (sym h))
same_word_is Close (Some Close) h = refl
same_word_is Close (Some Undo) h = absurd (true≢false (sym h))
same_word_is Undo None h = absurd (true≢false (sym h))
same_word_is Undo (Some Close) h = absurd (true≢false (sym h))
same_word_is Undo (Some Undo) h = refl

end_says_own : (e : End) → verdict_fits_state e.state e.verdict ≡ true → says_own (tick_of_end e).says e.verdict ≡ true
end_says_own e fits =
    by_test (λ (t : Tick End). says_own t.says e.verdict ≡ true) e.owes _ _ (λ _. refl)
    (λ _. by_test (λ (t : Tick End). says_own t.says e.verdict ≡ true) e.asks
    (record { after = record e { asks = false }; says = Some notice.GetStatus })
    (record { after = end_in_state (end_tick e.state).0 e; says = (end_tick e.state).1 }) (λ _. refl)
    (λ _. where_asked (verdict_fits_state e.state e.verdict) (says_own (end_tick e.state).1) e.verdict
    (verdict_passes (tick_says_own e.state) (state_passes (λ s. list_all (tick_says_own s) verdicts) each_tick_says_own e.state) e.verdict)
    fits))

own_word : (e : End) (m : Notice) (v : Verdict) → verdict_fits_state e.state e.verdict ≡ true → (tick_of_end e).says ≡ Some m
    → word_told m ≡ Some v → e.verdict ≡ Some v
own_word e m v fits says word =
    let own = subst (λ (o : Option Notice). says_own o e.verdict ≡ true) says (end_says_own e fits) in
    same_word_is v e.verdict (subst (λ (o : Option Verdict). same_word o e.verdict ≡ true) word own)

abbrev is_close_notice : Option Notice → Bool
is_close_notice (Some notice.Close) = true
is_close_notice o = false

abbrev tick_says_close : CState → Bool
tick_says_close s = only_if (is_close_notice (end_tick s).1) closes_now s

each_tick_says_close : list_all tick_says_close ends ≡ true
each_tick_says_close = refl

end_says_close : (e : End) → is_close_notice (tick_of_end e).says ≡ true → closes_now e.state ≡ true
end_says_close e =
    by_test (λ (t : Tick End). is_close_notice t.says ≡ true → closes_now e.state ≡ true) e.owes _ _ (λ _ h. absurd (true≢false (sym h)))
    (λ _. by_test (λ (t : Tick End). is_close_notice t.says ≡ true → closes_now e.state ≡ true) e.asks
    (record { after = record e { asks = false }; says = Some notice.GetStatus })
    (record { after = end_in_state (end_tick e.state).0 e; says = (end_tick e.state).1 }) (λ _ h. absurd (true≢false (sym h)))
    (λ _ h. where_asked (is_close_notice (end_tick e.state).1) closes_now e.state
    (state_passes tick_says_close each_tick_says_close e.state) h))

-- ---- the number of a letter tells its sender

number_tells : (k code : ℕ) (id : Id) → IsIdAt k id → sender_of (message_number code id) ≡ id.0
number_tells k code id is = mod-mul-add code (2 ^ 96) id.0 small
  where
    small : id.0 < 2 ^ 96
    small =
        let spelled : id.0 ≡ k * 2 ^ 64 + is.counter = is.spelled in
        let wide = is.is_counter.1 in
        let few = is.is_number in
        omega (arith, spelled, wide, few)

-- ---- what was told, and what is recorded of it now

record Tells (n : NodeState) (l : Letter) (v : Verdict) : Type 0 where
  scope : ScopeState
  end : End
  here : Among n.scopes scope
  among : Among scope.ends end
  sender : sender_of l.number ≡ end.id.0
  to : l.to ≡ end.participant
  own : end.verdict ≡ Some v

ends_tell : (n : NodeState) (l : Letter) (v : Verdict) → NodeFits n → word_in l.message ≡ Some v → IsEnds n l → Tells n l v
ends_tell n l v fits word its = record {
  scope = its.scope;
  end = its.end;
  here = its.here;
  among = its.among;
  sender = ap (λ (x : Letter). sender_of x.number) its.is ∙ number_tells n.number (notice_code its.notice) its.end.id
      (end_here n its.scope its.end fits its.here its.among);
  to = ap (λ (x : Letter). x.to) its.is;
  own = let parts = end_parts its.scope its.end (scope_fits n its.scope fits its.here) its.among in
      own_word its.end its.notice v parts.verdict its.says (subst (λ (x : Letter). word_in x.message ≡ Some v) its.is word);
}

tells_still : (n m : NodeState) (l : Letter) (v : Verdict) → Still n m → Tells n l v → Tells m l v
tells_still n m l v goes tells =
    let t = goes tells.scope tells.here in
    let f = t.2.ends tells.end tells.among in record {
      scope = t.0;
      end = f.0;
      here = t.1;
      among = f.1;
      sender = tells.sender ∙ ap (λ (i : Id). i.0) (sym f.2.id);
      to = tells.to ∙ sym f.2.participant;
      own = f.2.verdict v tells.own;
    }

same_verdict_of : (o : Option Verdict) (v : Verdict) → same_verdict o (Some v) ≡ true → o ≡ Some v
same_verdict_of None v h = absurd (true≢false (sym h))
same_verdict_of (Some Close) Close h = refl
same_verdict_of (Some Close) Undo h = absurd (true≢false (sym h))
same_verdict_of (Some Undo) Close h = absurd (true≢false (sym h))
same_verdict_of (Some Undo) Undo h = refl

-- the verdict of an end that goes with its scope's
scopes_word : (s : ScopeState) (e : End) (v : Verdict) → EndParts s e → e.verdict ≡ Some v → HasOneWord s → s.verdict ≡ Some v
scopes_word s e v parts has one =
    same_verdict_of s.verdict v (subst (λ (o : Option Verdict). same_verdict s.verdict o ≡ true) has (alike one))
  where
    below : (up : Part) → s.up ≡ Some up → same_verdict s.verdict e.verdict ≡ true
    below up is =
        subst (λ (u : Option Part). verdict_fits_scope (up_state u) s.kind s.verdict e.verdict (own_choice e) ≡ true) is parts.scope

    by_up : (o : Option Part) → s.up ≡ o → HasOneWord s → same_verdict s.verdict e.verdict ≡ true
    by_up None is (atomic_has_one kind) = atomic_verdict s e is kind parts
    by_up None is (child_has_one up is_too) = below up is_too
    by_up (Some up) is h = below up is

    alike : HasOneWord s → same_verdict s.verdict e.verdict ≡ true
    alike = by_up s.up refl

head_letter : (o : Option Letter) (l : Letter) → Among (option_to_list o) l → o ≡ Some l
head_letter None l h = absurd h
head_letter (Some x) l (inl is) = ap Some is
head_letter (Some x) l (inr h) = absurd h

module _ (number : ℕ) (base : List ℕ) where
  all_tell : (past : List Happening) (l : Letter) (v : Verdict) → HasCounters number past → Among (letters_of number base past) l
      → word_in l.message ≡ Some v → Tells (node_then number base past) l v
  all_tell [] l v room went word = absurd went
  all_tell (h ∷ past) l v room went word =
      let n : NodeState = node_then number base past in
      let before = earlier_has number h past room in
      tells_still n (node_then number base (h ∷ past)) l v (step_still number base h past room)
      (elim (among_either (option_to_list (consequence n h).letter) (letters_of number base past) l went) [
        | inl now ↦ ends_tell n l v (then_fits number base past before) word
            (happening_tells n h l v (head_letter (consequence n h).letter l now) word)
        | inr earlier ↦ all_tell past l v before earlier word
      ])

  pub tells_its_verdict : (past : List Happening) (l : Letter) (v : Verdict) → HasCounters number past
      → Among (letters_of number base past) l → word_in l.message ≡ Some v → TellsItsVerdict (node_then number base past) l v
  tells_its_verdict past l v room went word =
      let tells = all_tell past l v room went word in
      let parts = end_parts tells.scope tells.end (scope_fits (node_then number base past) tells.scope (then_fits number base past room)
      tells.here) tells.among in record {
        scope = tells.scope;
        end = tells.end;
        here = record { scope = tells.here; end = tells.among; is = refl };
        sender = tells.sender;
        to = tells.to;
        own = tells.own;
        of_scope = scopes_word tells.scope tells.end v parts tells.own;
      }

  -- what an end's participant was told is the end's verdict
  told_verdict : (past : List Happening) (s : ScopeState) (e : End) (v : Verdict) → HasCounters number past
      → Among (node_then number base past).scopes s → Among s.ends e → IsTold (letters_of number base past) e.id v → e.verdict ≡ Some v
  told_verdict past s e v room of among told =
      let tells = all_tell past told.letter v room told.went told.word in
      let one = one_end (node_then number base past) tells.scope s tells.end e (then_fits number base past room) tells.here of tells.among
      among (sym tells.sender ∙ told.sender) in
      subst (λ (x : End). x.verdict ≡ Some v) one.1 tells.own

  both_are : (o : Option Verdict) (v u : Verdict) → o ≡ Some v → o ≡ Some u → v ≡ u
  both_are o v u h k = let same : ◌≡◌ {A = Option Verdict} (Some v) (Some u) = sym h ∙ k in cc

  pub told_one : (past : List Happening) (id : Id) (v u : Verdict) → HasCounters number past → IsTold (letters_of number base past) id v
      → IsTold (letters_of number base past) id u → v ≡ u
  told_one past id v u room told told_too =
      let tells = all_tell past told.letter v room told.went told.word in
      let its : id ≡ tells.end.id = id_by_number id tells.end.id (sym told.sender ∙ tells.sender) in
      both_are tells.end.verdict v u tells.own
      (told_verdict past tells.scope tells.end u room tells.here tells.among
      (subst (λ (i : Id). IsTold (letters_of number base past) i u) its told_too))

  pub told_one_in_scope : (past : List Happening) (s : ScopeState) (e f : End) (v u : Verdict) → HasCounters number past
      → Among (node_then number base past).scopes s → HasOneWord s → Among s.ends e → Among s.ends f
      → IsTold (letters_of number base past) e.id v → IsTold (letters_of number base past) f.id u → v ≡ u
  told_one_in_scope past s e f v u room of one among among_too told told_too =
      let fits = scope_fits (node_then number base past) s (then_fits number base past room) of in
      both_are s.verdict v u
      (scopes_word s e v (end_parts s e fits among) (told_verdict past s e v room of among told) one)
      (scopes_word s f u (end_parts s f fits among_too) (told_verdict past s f u room of among_too told_too) one)

-- ---- an end closes only after it was Completed

completed_or_closing : (s : CState) → was_completed s ≡ true → (s ≡ end.Completed) ⊎ (closes_now s ≡ true)
completed_or_closing end.Completed h = inl refl
completed_or_closing end.Closing h = inr refl
completed_or_closing (end.Ended Closed) h = inr refl
completed_or_closing s h = absurd (true≢false (sym h))

module _ (number : ℕ) (base : List ℕ) where
  now_is_state : (past : List Happening) → Among (states_of number base past) (node_then number base past)
  now_is_state [] = inl refl
  now_is_state (h ∷ past) = inl refl

  one_earlier : (h : Happening) (past : List Happening) (id : ℕ) → HadCompleted (states_of number base past) id
      → HadCompleted (states_of number base (h ∷ past)) id
  one_earlier h past id had = record {
    node = had.node;
    state = inr had.state;
    scope = had.scope;
    end = had.end;
    here = had.here;
    is = had.is;
    completed = had.completed;
  }

  closing_was_completed : (past : List Happening) (s : ScopeState) (e : End) → HasCounters number past
      → Among (node_then number base past).scopes s → Among s.ends e → closes_now e.state ≡ true
      → HadCompleted (states_of number base past) e.id.0
  closing_was_completed [] s e room of among closes = absurd of
  closing_was_completed (h ∷ past) s e room of among closes =
      elim (goes.back s of) [
        | inl from ↦ elim (from.2.ends.back e among) [
          | inl was ↦ subst (HadCompleted (states_of number base (h ∷ past))) (ap (λ (i : Id). i.0) (sym was.2.id))
              (one_earlier h past was.0.id.0 (elim (completed_or_closing was.0.state (was.2.closes closes)) [
                | inl completed ↦ record {
                  node = node_then number base past;
                  state = now_is_state past;
                  scope = from.0;
                  end = was.0;
                  here = record { scope = from.1; end = was.1; is = refl };
                  is = refl;
                  completed = completed;
                }
                | inr closing ↦ closing_was_completed past from.0 was.0 before from.1 was.1 closing
              ]))
          | inr new ↦ absurd (true≢false (sym closes ∙ ap closes_now new))
        ]
        | inr new ↦ absurd (subst (λ (es : List End). Among es e) new among)
      ]
    where
      before : HasCounters number past
      before = earlier_has number h past room

      goes : ScopesGo (node_then number base past) (node_then number base (h ∷ past))
      goes = happening_goes (node_then number base past) h (then_fits number base past before)

  pub close_after_completed : (past : List Happening) (h : Happening) (l : Letter) → HasCounters number (h ∷ past)
      → (consequence (node_then number base past) h).letter ≡ Some l → l.message ≡ message.Notice notice.Close
      → HadCompleted (states_of number base past) (sender_of l.number)
  unfolding ends_tell happening_tells
  close_after_completed past h l room sent says =
      let n : NodeState = node_then number base past in
      let before = earlier_has number h past room in
      let fits = then_fits number base past before in
      let its = happening_tells n h l Close sent (ap word_in says) in
      let tells = ends_tell n l Close fits (ap word_in says) its in
      let same : its.notice ≡ notice.Close = notice_is its.notice (sym (ap (λ (x : Letter). x.message) its.is) ∙ says) in
      let told : is_close_notice (tick_of_end its.end).says ≡ true = ap is_close_notice (its.says ∙ ap Some same) in
      subst (HadCompleted (states_of number base past)) (sym tells.sender)
      (closing_was_completed past its.scope its.end before its.here its.among (end_says_close its.end told))
    where
      notice_is : (m : Notice) → message.Notice m ≡ message.Notice notice.Close → m ≡ notice.Close
      notice_is m h = cc

-- ---- participants

happening_parts : (n : NodeState) (h : Happening) → NodeFits n → PartsGo (consequence n h).written n (consequence n h).after
happening_parts n (arrives_at now i) fits = input_parts n now i fits
happening_parts n (ticks_at now id) fits = tick_parts n now id fits
happening_parts n (stops_with h) fits = happening_parts n h fits
happening_parts n (stops_without h) fits = parts_stay None n

module _ (number : ℕ) (base : List ℕ) where
  step_parts : (h : Happening) (past : List Happening) → HasCounters number (h ∷ past)
      → PartsGo (consequence (node_then number base past) h).written (node_then number base past) (node_then number base (h ∷ past))
  step_parts h past room =
      happening_parts (node_then number base past) h (then_fits number base past (earlier_has number h past room))

  still_ended : (more past : List Happening) (p : Part) (how : How) → HasCounters number (more ++ past)
      → HasPart (node_then number base past) p → p.state ≡ part.Ended how
      → (q : Part) × HasPart (node_then number base (more ++ past)) q × (q.id ≡ p.id) × (q.state ≡ part.Ended how)
  still_ended [] past p how room has ended = (p, has, refl, ended)
  still_ended (h ∷ more) past p how room has ended =
      let q = still_ended more past p how (earlier_has number h (more ++ past) room) has ended in
      let x = part_on (consequence (node_then number base (more ++ past)) h).written (node_then number base (more ++ past))
      (node_then number base (h ∷ (more ++ past))) q.0 (step_parts h (more ++ past) room) q.1 in
      (x.0, x.1, x.2.id ∙ q.2, x.2.ended how q.3)

  pub outcome_stays : (more past : List Happening) (p : Part) (how : How) → HasCounters number (more ++ past)
      → HasPart (node_then number base past) p → p.state ≡ part.Ended how
      → HasPartIn (node_then number base (more ++ past)) p.id (part.Ended how)
  outcome_stays more past p how room has ended =
      let q = still_ended more past p how room has ended in record {
        participant = q.0;
        here = q.1;
        is = q.2;
        is_in = q.3;
        alone = λ x x_has x_is. one_part (node_then number base (more ++ past)) x q.0 (then_fits number base (more ++ past) room) x_has q.1
            (ap (λ (i : Id). i.0) (x_is ∙ sym q.2));
      }

  last_record : (rest : List Record) (o : Option Record) (k : Record) → o ≡ Some k → Among (rest ++ option_to_list o) k
  last_record rest None k is = absurd cc
  last_record rest (Some x) k is = among_right rest (x ∷ []) k (inl (record_one x k is))
    where
      record_one : (a b : Record) → ◌≡◌ {A = Option Record} (Some a) (Some b) → a ≡ b
      record_one a b h = cc

  pub completed_by_act : (past : List Happening) (p : Part) → HasCounters number past → HasPart (node_then number base past) p
      → has_completed p.state ≡ true → Among (written_by number base past) (journal.Acted (counter p.id) act.Completed)
  completed_by_act [] p room (inl alone) completed = absurd alone
  completed_by_act [] p room (inr above) completed = absurd above.1
  completed_by_act (h ∷ past) p room has completed =
      elim (part_back written n (node_then number base (h ∷ past)) p (step_parts h past room) has) [
        | inl from ↦ subst (λ (i : Id). Among (written_by number base (h ∷ past)) (journal.Acted (counter i) act.Completed))
            (sym from.2.id) (elim (from.2.completed completed) [
              | inl before ↦ among_left (written_by number base past) (option_to_list written) _
                  (completed_by_act past from.0 (earlier_has number h past room) from.1 before)
              | inr now ↦ last_record (written_by number base past) written _ now
            ])
        | inr new ↦ absurd (true≢false (sym completed ∙ ap has_completed new))
      ]
    where
      n : NodeState
      n = node_then number base past

      written : Option Record
      written = (consequence n h).written

-- ---- the records are the node's journal

append_nil : (xs : List Record) → xs ++ [] ≡ xs
append_nil [] = refl
append_nil (x ∷ xs) = ap (λ ys. x ∷ ys) (append_nil xs)

happening_replays : (records : List Record) (n : NodeState) (h : Happening) → Replays records n
    → Replays (records ++ option_to_list (consequence n h).written) (consequence n h).after
happening_replays records n (arrives_at now i) replays = goes_on records n (given now i) replays
happening_replays records n (ticks_at now id) replays = goes_on records n (ticked now id) replays
happening_replays records n (stops_with h) replays = happening_replays records n h replays
happening_replays records n (stops_without h) replays = subst (λ rs. Replays rs n) (sym (append_nil records)) replays

pub then_replays : (number : ℕ) (base : List ℕ) (past : List Happening) → Replays (written_by number base past) (node_then number base past)
then_replays number base [] = refl
then_replays number base (h ∷ past) =
    happening_replays (written_by number base past) (node_then number base past) h (then_replays number base past)

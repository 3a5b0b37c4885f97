-- What an event makes of what is played is its effect: what is no call, an opening, an input of the node's own, a tick. For the clauses
-- of events.
use Rattle.std.proofs.Common.{◌≡◌, ℕ, suc, ◌+◌, ◌-◌, ◌^◌, min, Result, Bool, true, List, [], ◌∷◌, ◌++◌, length, map, Option, None, Some, Ok}
use Rattle.std.proofs.Common.{Err, refl, sym, ap, ◌∙◌, subst, if◌then◌else◌, arith}
use Rattle.std.specs.Option.{option_map, option_to_list}
use Rattle.std.proofs.lemmas.List.{append-nil}
use Rattle.ba_world.specs.Mails.{mail_of}
use Rattle.ba_world.specs.declared.mails.Mail.{Mail}
use Rattle.ba_world.specs.declared.mails.Mail.TheVariants as mail
use Rattle.ba_core.specs.Numbers.{node_of}
use Rattle.ba_core.specs.declared.identifiers.Id.{Id}
use Rattle.ba_world_events.specs.declared.outcomes.Outcome.{Outcome}
use Rattle.ba_world_events.specs.declared.outcomes.Outcome.TheVariants as outcome
use Rattle.ba_ports_memory.specs.DiskValue.{MediumValue}
use Rattle.ba_message.specs.declared.messages.Letter.{Letter}
use Rattle.ba_world_places.specs.Calls.{CallLeadsTo, IsCallAnswer, IsLawfulNode, IsOfInput, MatchesBoth}
use Rattle.ba_world_places.specs.Places.{IsPlaceOf, Matches}
use Rattle.ba_world_places.specs.declared.calls.Answer.{Answer}
use Rattle.ba_world_places.specs.declared.calls.Answer.TheVariants as answer
use Rattle.ba_world_places.specs.declared.places.Place.{Place}
use Rattle.ba_world_play.specs.Nodes.{NodeCall, NodeOnDisk, call_by_mode, node_call}
use Rattle.ba_world_play.specs.Outcomes.{label_of, reply_outcome, tick_outcome}
use Rattle.ba_world_play.specs.Plays.{EventEffect, WorldEffect, WorldOnDisks, effect_by_shown, effect_of_call, effect_with, has_node, if_has_node}
use Rattle.ba_world_play.specs.Plays.{moment, next_number, own_at, wait_effect, with_node, with_sent}
use Rattle.ba_world_play.specs.declared.missing.Missing.TheVariants as missing
use Rattle.ba_world_runs.specs.World as runs
use Rattle.ba_world_runs.specs.World.{Mode, Occasion, WorldNode, is_closed, is_down, is_up, own, ticks}
use Rattle.ba_world_runs.specs.WorldSteps.{effect}
use Rattle.ba_node_steps.specs.Steps.{node_step}
use Rattle.ba_node_steps.specs.Ticks.{tick_step}
use Rattle.ba_node_steps.specs.declared.answers.Reply.{Reply}
use Rattle.ba_node_steps.specs.declared.inputs.Input.{Input}
use Rattle.ba_world.proofs.ChildLemmas.{reply_is}
use Rattle.ba_world.proofs.PlaceLemmas.{has_there, lawful_there, matches_there, none_there, set_again}
use Rattle.ba_world.specs.Worlds.{IsSetAs, IsStageOf, StageValue}
use Rattle.ba_world.specs.declared.faults.StepFault.{StepFault}
use Rattle.ba_world.specs.declared.faults.StepFault.TheVariants as fault
use Rattle.ba_world.specs.declared.outcomes.Makes.{Makes}
use Rattle.ba_world.specs.inside.Shown.{answer_shown, is_child, next_made, reply_shown}
use Rattle.ba_world.specs.inside.Stages.{AreMade, IsCalled, IsLetterAt, IsNotCalled, IsNotThere, IsReplyAt, IsTakenOut, StageIsPlayedAs}
use Rattle.ba_world.specs.inside.Stages.{StagePlays, node_call_at, tick_at, with_place}

-- ---- where there was no memory, and where there is no such node

pub starved : (due : EventEffect) (old new : StageValue) → StageIsPlayedAs due old new (Err fault.Memory)
starved (Ok e) old new = tt
starved (Err why) old new = tt

pub not_there : (old new : StageValue) (p : WorldOnDisks) → IsSetAs old p → (k : ℕ) (e : WorldEffect) (why : StepFault)
    → IsNotThere old new k why → StageIsPlayedAs (if_has_node p k e) old new (Err why)
not_there old new p set k e why gone =
    subst (λ (x : StepFault). StageIsPlayedAs (if_has_node p k e) old new (Err x)) (sym gone.why_is)
    (subst (λ (b : Bool). StageIsPlayedAs (if b then Ok e else Err missing.Name) old new (Err (fault.Missing missing.Name)))
    (sym (none_there old p set k gone.none)) (refl, gone.stays))

pub not_called : (old new : StageValue) (p : WorldOnDisks) → IsSetAs old p → (k : ℕ) (e : WorldEffect) (why : StepFault)
    → IsNotCalled old new k why → StageIsPlayedAs (if_has_node p k e) old new (Err why)
not_called old new p set k e fault.Memory gone = starved (if_has_node p k e) old new
not_called old new p set k e (fault.Missing why) gone = not_there old new p set k e (fault.Missing why) gone

-- so at an exit with this fault
pub exit_there : (old new : StageValue) (p : WorldOnDisks) → IsSetAs old p → (k : ℕ) (e : WorldEffect) (why : StepFault)
    (result : Result Outcome StepFault) → result ≡ Err why → IsNotThere old new k why → StageIsPlayedAs (if_has_node p k e) old new result
exit_there old new p set k e why result is gone =
    subst (λ (r : Result Outcome StepFault). StageIsPlayedAs (if_has_node p k e) old new r) (sym is) (not_there old new p set k e why gone)

pub exit_called : (old new : StageValue) (p : WorldOnDisks) → IsSetAs old p → (k : ℕ) (e : WorldEffect) (why : StepFault)
    (result : Result Outcome StepFault) → result ≡ Err why → IsNotCalled old new k why → StageIsPlayedAs (if_has_node p k e) old new result
exit_called old new p set k e why result is gone =
    subst (λ (r : Result Outcome StepFault). StageIsPlayedAs (if_has_node p k e) old new r) (sym is)
    (not_called old new p set k e why gone)

-- an effect at a node that is there
pub done_there : (old new : StageValue) (p : WorldOnDisks) (k : ℕ) (e : WorldEffect) (o : Outcome) → has_node p k ≡ true
    → o ≡ e.outcome → IsSetAs new e.after → StageIsPlayedAs (if_has_node p k e) old new (Ok o)
done_there old new p k e o has is set =
    subst (λ (b : Bool). StageIsPlayedAs (if b then Ok e else Err missing.Name) old new (Ok o)) (sym has) (is, set)

-- ---- a node that was taken out and put back

module _ (old mid new : StageValue) (k : ℕ) (held after : Place) (out : IsTakenOut old mid k held)
    (put : new ≡ with_place mid k after) where
  pub put_back : (p : WorldOnDisks) → IsSetAs old p → (now : NodeOnDisk) → MatchesBoth now after → IsSetAs new (with_node p k now)
  put_back p set now matches =
      subst (λ (v : StageValue). IsSetAs v (with_node p k now)) (sym (put ∙ ap (λ (v : StageValue). with_place v k after) out.left))
      (set_again old p set k held out.there out.empty after now matches)

  pub same_bag : new.bag ≡ old.bag
  same_bag = ap (λ (v : StageValue). v.bag) put ∙ ap (λ (v : StageValue). v.bag) out.left

  -- what is no call
  pub changed_plays : (made : WorldNode → MediumValue → NodeOnDisk)
      → ((n : WorldNode) (disk : MediumValue) → Matches n disk held → MatchesBoth (made n disk) after)
      → StagePlays (λ p. if_has_node p k (effect_with (with_node p k (made (p.world.nodes k) (p.disks k))) outcome.Done)) old new
      (Ok outcome.Done)
  changed_plays made leads = λ p stage.
      done_there old new p k (effect_with (with_node p k (made (p.world.nodes k) (p.disks k))) outcome.Done) outcome.Done
      (has_there old p stage.set k held out.there) refl
      (put_back p stage.set (made (p.world.nodes k) (p.disks k))
      (leads (p.world.nodes k) (p.disks k) (matches_there old p stage.set k held out.there)))

  -- a call that takes no step of the node
  pub call_plays : (call : WorldNode → MediumValue → NodeCall) (shown : Outcome)
      → ((n : WorldNode) (disk : MediumValue) → IsLawfulNode k n → Matches n disk held
      → MatchesBoth (call n disk).after after × ((call n disk).shown ≡ Some shown))
      → StagePlays (λ p. if_has_node p k (effect_of_call p k (call (p.world.nodes k) (p.disks k)))) old new (Ok shown)
  call_plays call shown leads = λ p stage.
      let n : WorldNode = p.world.nodes k in
      let made = leads n (p.disks k) (lawful_there old p stage k) (matches_there old p stage.set k held out.there) in
      subst
      (λ (s : Option Outcome). StageIsPlayedAs
      (if_has_node p k (effect_by_shown p k None outcome.Done (call n (p.disks k)).after s)) old new (Ok shown))
      (sym made.1)
      (done_there old new p k (effect_with (with_node p k (call n (p.disks k)).after) shown) shown
      (has_there old p stage.set k held out.there) refl (put_back p stage.set (call n (p.disks k)).after made.0))

  -- a call that may take a step
  pub is_called : {T : Type 0} (IsOfStep : T → Type 0) (p : WorldOnDisks) → IsSetAs old p → (call : NodeCall) (given : Answer T)
      → CallLeadsTo IsOfStep call after given → IsCalled IsOfStep old new p k call given
  is_called IsOfStep p set call given leads = record {
    has = has_there old p set k held out.there;
    set = put_back p set call.after leads.after;
    bag = same_bag;
    answer = leads.answer;
  }

  -- the node's own clock is the play's
  pub input_called : (p : WorldOnDisks) → IsStageOf old p → (clock : ℕ) → clock ≡ mid.clock → (i : Input) (given : Answer Reply)
      → ((n : WorldNode) (disk : MediumValue) (o : Occasion) → IsOfInput clock i o → Matches n disk held
      → CallLeadsTo (λ r. r ≡ (node_step n.state clock i).reply) (node_call n disk o) after given)
      → (o : Occasion) → IsOfInput (moment p) i o → IsCalled (IsReplyAt p k i) old new p k (node_call_at p k o) given
  input_called p stage clock same i given leads o is =
      let now : clock ≡ moment p = same ∙ ap (λ (v : StageValue). v.clock) out.left ∙ stage.set.clock in
      let led : CallLeadsTo (IsReplyAt p k i) (node_call_at p k o) after given = subst
      (λ (t : ℕ). IsOfInput t i o
      → CallLeadsTo (λ (r : Reply). r ≡ (node_step (p.world.nodes k).state t i).reply) (node_call_at p k o) after given)
      now (λ of. leads (p.world.nodes k) (p.disks k) o of (matches_there old p stage.set k held out.there)) is
      in
      is_called (IsReplyAt p k i) p stage.set (node_call_at p k o) given led

  pub input_made : (p : WorldOnDisks) → IsStageOf old p → (i : Input) (child : Bool) → child ≡ is_child i → (makes : Makes)
      → ((n : WorldNode) (disk : MediumValue) → IsPlaceOf n disk held → n.mode ≡ is_up → n.state.number ≡ k
      → makes ≡ next_made n.state child)
      → AreMade p k i makes
  input_made p stage i child same makes leads up =
      leads (p.world.nodes k) (p.disks k) (matches_there old p stage.set k held out.there).place up (lawful_there old p stage k).number
      ∙ ap (next_made (p.world.nodes k).state) same

  pub tick_called : (p : WorldOnDisks) → IsStageOf old p → (clock : ℕ) → clock ≡ mid.clock → (id : Id) → k ≡ node_of id.0
      → (given : Answer (Option Letter))
      → ((n : WorldNode) (disk : MediumValue) → Matches n disk held
      → CallLeadsTo (λ l. l ≡ (tick_step n.state clock id).letter) (node_call n disk (ticks clock id)) after given)
      → IsCalled (IsLetterAt p id) old new p (node_of id.0) (node_call_at p (node_of id.0) (ticks (moment p) id)) given
  tick_called p stage clock same id here given leads =
      let now : clock ≡ moment p = same ∙ ap (λ (v : StageValue). v.clock) out.left ∙ stage.set.clock in
      let led : CallLeadsTo (λ (l : Option Letter). l ≡ (tick_step (p.world.nodes k).state (moment p) id).letter)
      (node_call_at p k (ticks (moment p) id)) after given = subst
      (λ (t : ℕ). CallLeadsTo (λ (l : Option Letter). l ≡ (tick_step (p.world.nodes k).state t id).letter)
      (node_call_at p k (ticks t id)) after given)
      now (leads (p.world.nodes k) (p.disks k) (matches_there old p stage.set k held out.there))
      in
      subst
      (λ (j : ℕ). IsCalled (λ (l : Option Letter). l ≡ (tick_step (p.world.nodes j).state (moment p) id).letter) old new p j
      (node_call_at p j (ticks (moment p) id)) given)
      here
      (is_called (λ (l : Option Letter). l ≡ (tick_step (p.world.nodes k).state (moment p) id).letter) p stage.set
      (node_call_at p k (ticks (moment p) id)) given led)

-- ---- the clock

pub waited : (v : StageValue) (p : WorldOnDisks) → IsSetAs v p → (time clock : ℕ) → clock ≡ min (v.clock + time) (2 ^ 64 - 1)
    → IsSetAs (record v { clock = clock }) (wait_effect p time).after
waited v p set time clock is =
    let before : v.clock ≡ min p.world.clock (2 ^ 64 - 1) = set.clock in
    record {
      count = set.count;
      clock = omega (arith, is, before);
      bag = set.bag;
      places = set.places;
    }

-- ---- what joins the bag

pub sent_none : (v : StageValue) (p : WorldOnDisks) → IsSetAs v p → IsSetAs v (with_sent p [])
sent_none v p set = record {
  count = set.count;
  clock = set.clock;
  bag = set.bag ∙ sym (append-nil p.world.bag);
  places = set.places;
}

map_last : (ms : List Mail) (m : Mail) → map mail_of (ms ++ m ∷ []) ≡ map mail_of ms ++ mail_of m ∷ []
map_last [] m = refl
map_last (x ∷ ms) m = ap (λ (l : List runs.Mail). mail_of x ∷ l) (map_last ms m)

pub sent_one : (mid new : StageValue) (p : WorldOnDisks) (m : Mail) → IsSetAs mid p → new ≡ record mid { bag = mid.bag ++ m ∷ [] }
    → IsSetAs new (with_sent p (mail_of m ∷ []))
sent_one mid new p m set is =
    subst (λ (v : StageValue). IsSetAs v (with_sent p (mail_of m ∷ []))) (sym is) (record {
      count = set.count;
      clock = set.clock;
      bag = map_last mid.bag m ∙ ap (λ (l : List runs.Mail). l ++ mail_of m ∷ []) set.bag;
      places = set.places;
    })

mapped_length : (ms : List Mail) → length (map mail_of ms) ≡ length ms
mapped_length [] = refl
mapped_length (x ∷ ms) = ap suc (mapped_length ms)

pub number_is : (old mid : StageValue) (p : WorldOnDisks) (number : ℕ) → IsSetAs old p → mid.bag ≡ old.bag
    → number ≡ length mid.bag + 1 → number ≡ next_number p
number_is old mid p number set same is =
    is ∙ ap (λ (ms : List Mail). length ms + 1) same ∙ ap (λ (n : ℕ). n + 1) (sym (mapped_length old.bag))
    ∙ ap (λ (ms : List runs.Mail). length ms + 1) set.bag

-- ---- a step that is taken

pub taken_up : (n : WorldNode) (disk : MediumValue) (o : Occasion) → (node_call n disk o).shown ≡ None → n.mode ≡ is_up
taken_up n disk o h = by n.mode refl h
  where
    by : (m : Mode) → n.mode ≡ m → (call_by_mode n o disk m).shown ≡ None → n.mode ≡ is_up
    by is_up is h = is
    by is_closed is h = absurd cc
    by is_down is h = absurd cc

-- ---- an input of the node's own

module _ (old new : StageValue) (p : WorldOnDisks) (k : ℕ) (i : Input) (makes : Makes) (made : AreMade p k i makes) where
  own_by : (given : Answer Reply) (shown : Option Outcome) → (node_call_at p k (own (moment p) i)).shown ≡ shown
      → IsCalled (IsReplyAt p k i) old new p k (node_call_at p k (own (moment p) i)) given → IsCallAnswer (IsReplyAt p k i) shown given
      → StageIsPlayedAs
      (if_has_node p k (effect_by_shown p k None
      (reply_outcome (p.world.nodes k).state i (node_step (p.world.nodes k).state (moment p) i).reply)
      (node_call_at p k (own (moment p) i)).after shown)) old new
      (Ok (answer_shown given makes))
  own_by (answer.Taken r) None is called h =
      let n : WorldNode = p.world.nodes k in
      let up : n.mode ≡ is_up = taken_up n (p.disks k) (own (moment p) i) is in
      done_there old new p k
      (effect_with (with_sent (with_node p k (node_call_at p k (own (moment p) i)).after) [])
      (reply_outcome n.state i (node_step n.state (moment p) i).reply))
      (reply_shown r makes) called.has
      (ap (reply_shown r) (made up) ∙ reply_is n.state i r ∙ ap (reply_outcome n.state i) h)
      (sent_none new (with_node p k (node_call_at p k (own (moment p) i)).after) called.set)
  own_by (answer.Untaken o) (Some s) is called h =
      done_there old new p k (effect_with (with_node p k (node_call_at p k (own (moment p) i)).after) s) o called.has h called.set
  own_by (answer.Taken r) (Some s) is called h = absurd h
  own_by (answer.Untaken o) None is called h = absurd h

  pub own_plays : (given : Answer Reply) → IsCalled (IsReplyAt p k i) old new p k (node_call_at p k (own (moment p) i)) given
      → StageIsPlayedAs (own_at p k i) old new (Ok (answer_shown given makes))
  own_plays given called = own_by given (node_call_at p k (own (moment p) i)).shown refl called called.answer

-- ---- a tick

abbrev pub option_letter : Option Letter → Option runs.Mail
option_letter l = option_map runs.letter l

module _ (old mid : StageValue) (p : WorldOnDisks) (set : IsSetAs old p) (id : Id) where
  abbrev pub k : ℕ
  k = node_of id.0

  abbrev pub call : NodeCall
  call = node_call_at p k (ticks (moment p) id)

  tick_untaken_by : (shown : Option Outcome) (o : Outcome) (sends : Option runs.Mail) (taken : Outcome) → has_node p k ≡ true
      → IsSetAs mid (with_node p k call.after)
      → IsCallAnswer (IsLetterAt p id) shown (answer.Untaken o)
      → StageIsPlayedAs (if_has_node p k (effect_by_shown p k sends taken call.after shown)) old mid (Ok o)
  tick_untaken_by (Some s) o sends taken has now h =
      done_there old mid p k (effect_with (with_node p k call.after) s) o has h now
  tick_untaken_by None o sends taken has now h = absurd h

  pub tick_untaken : (o : Outcome) → IsCalled (IsLetterAt p id) old mid p k call (answer.Untaken o)
      → StageIsPlayedAs (tick_at id p) old mid (Ok o)
  tick_untaken o called =
      tick_untaken_by call.shown o (effect (p.world.nodes k).state (ticks (moment p) id)).sends
      (tick_outcome (next_number p) (effect (p.world.nodes k).state (ticks (moment p) id)).sends) called.has called.set called.answer

  -- whatever the step's letter is
  tick_taken_by : (new : StageValue) (o : Outcome) (shown : Option Outcome) (l m : Option Letter) → has_node p k ≡ true
      → IsCallAnswer (λ (x : Option Letter). x ≡ m) shown (answer.Taken l)
      → (l ≡ m → o ≡ tick_outcome (next_number p) (option_letter m))
      → (l ≡ m → IsSetAs new (with_sent (with_node p k call.after) (option_to_list (option_letter m))))
      → StageIsPlayedAs
      (if_has_node p k (effect_by_shown p k (option_letter m) (tick_outcome (next_number p) (option_letter m)) call.after shown))
      old new (Ok o)
  tick_taken_by new o None l m has h is now =
      done_there old new p k
      (effect_with (with_sent (with_node p k call.after) (option_to_list (option_letter m)))
      (tick_outcome (next_number p) (option_letter m)))
      o has (is h) (now h)
  tick_taken_by new o (Some s) l m has h is now = absurd h

  pub tick_quiet : IsCalled (IsLetterAt p id) old mid p k call (answer.Taken None)
      → StageIsPlayedAs (tick_at id p) old mid (Ok outcome.Quiet)
  tick_quiet called =
      let m : Option Letter = (tick_step (p.world.nodes k).state (moment p) id).letter in
      tick_taken_by mid outcome.Quiet call.shown None m called.has called.answer
      (λ same. ap (λ (x : Option Letter). tick_outcome (next_number p) (option_letter x)) same)
      (λ same. subst (λ (x : Option Letter). IsSetAs mid (with_sent (with_node p k call.after) (option_to_list (option_letter x)))) same
      (sent_none mid (with_node p k call.after) called.set))

  pub tick_sent : (new : StageValue) (l : Letter) (number : ℕ) → IsCalled (IsLetterAt p id) old mid p k call (answer.Taken (Some l))
      → number ≡ length mid.bag + 1 → new ≡ record mid { bag = mid.bag ++ mail.Letter l ∷ [] }
      → StageIsPlayedAs (tick_at id p) old new (Ok (outcome.Sent number (label_of l.message)))
  tick_sent new l number called at is =
      let m : Option Letter = (tick_step (p.world.nodes k).state (moment p) id).letter in
      tick_taken_by new (outcome.Sent number (label_of l.message)) call.shown (Some l) m called.has called.answer
      (λ same. ap (λ (n : ℕ). outcome.Sent n (label_of l.message)) (number_is old mid p number set called.bag at)
      ∙ ap (λ (x : Option Letter). tick_outcome (next_number p) (option_letter x)) same)
      (λ same. subst (λ (x : Option Letter). IsSetAs new (with_sent (with_node p k call.after) (option_to_list (option_letter x)))) same
      (sent_one mid new (with_node p k call.after) (mail.Letter l) called.set is))

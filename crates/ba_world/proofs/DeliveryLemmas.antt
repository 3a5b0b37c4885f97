-- What a delivery makes of what is played is its effect; for the clauses of `deliver`.
use Rattle.std.proofs.Common.{◌≡◌, ℕ, ◌+◌, Bool, true, false, [], ◌∷◌, ◌++◌, length, Option, None, Some, Result, Ok, Err, refl, sym, ap}
use Rattle.std.proofs.Common.{◌∙◌, subst, if◌then◌else◌}
use Rattle.std.specs.Option.{option_to_list}
use Rattle.ba_world.specs.declared.mails.Mail.TheVariants as mail
use Rattle.ba_core.specs.declared.identifiers.Id.{Id}
use Rattle.ba_world_events.specs.declared.outcomes.Outcome.{Outcome}
use Rattle.ba_world_events.specs.declared.outcomes.Outcome.TheVariants as outcome
use Rattle.ba_message.specs.declared.messages.Message.{Message}
use Rattle.ba_message.specs.declared.messages.Message.TheVariants as message
use Rattle.ba_world_places.specs.Calls.{IsCallAnswer}
use Rattle.ba_world_places.specs.declared.calls.Answer.{Answer}
use Rattle.ba_world_places.specs.declared.calls.Answer.TheVariants as answer
use Rattle.ba_world_play.proofs.Arriving.{arrival_brings, mail_among}
use Rattle.ba_world_play.proofs.Posted.{occasion_gives}
use Rattle.ba_world_play.specs.Arrivals.{Arrival, arrival}
use Rattle.ba_world_play.specs.Nodes.{NodeCall}
use Rattle.ba_world_play.specs.Outcomes.{delivery_outcome, label_of, reply_outcome}
use Rattle.ba_world_play.specs.Plays.{WorldEffect, WorldOnDisks, deliver, delivery_by_input, delivery_effect, effect_by_shown, effect_with}
use Rattle.ba_world_play.specs.Plays.{has_node, if_has_node, mail_at, moment, next_number, with_node, with_sent}
use Rattle.ba_world_play.specs.declared.missing.Missing.TheVariants as missing
use Rattle.ba_world_runs.proofs.Recorded.{run_keeps}
use Rattle.ba_world_runs.specs.World as runs
use Rattle.ba_world_runs.specs.World.{WorldNode, delivers, net_of}
use Rattle.ba_world_runs.specs.WorldSteps.{answer_to}
use Rattle.ba_node_steps.specs.Endpoints.{GivesFit}
use Rattle.ba_node_steps.specs.Lawful.{given}
use Rattle.ba_node_steps.specs.Steps.{node_step}
use Rattle.ba_node_steps.specs.declared.answers.Reply.{Reply}
use Rattle.ba_node_steps.specs.declared.answers.Reply.TheVariants as reply
use Rattle.ba_node_steps.specs.declared.inputs.Input.{Input}
use Rattle.ba_world.proofs.ChildLemmas.{reply_is}
use Rattle.ba_world.proofs.EventLemmas.{number_is, sent_none, sent_one, starved, taken_up}
use Rattle.ba_world.specs.Worlds.{IsSetAs, IsStageOf, StageValue}
use Rattle.ba_world.specs.declared.faults.StepFault.{StepFault}
use Rattle.ba_world.specs.declared.faults.StepFault.TheVariants as fault
use Rattle.ba_world.specs.declared.messages.Delivery.{Delivery}
use Rattle.ba_world.specs.declared.outcomes.Makes.{Makes}
use Rattle.ba_world.specs.inside.Shown.{reply_shown}
use Rattle.ba_world.specs.inside.Stages.{AreMade, Arrives, IsArrival, IsCalled, IsReplyAt, IsReplySent, StageIsPlayedAs, node_call_at}
use Rattle.ba_world.specs.inside.Stages.{number_answered}

-- ---- which message

pub arrive_fails : (v : StageValue) (p : WorldOnDisks) (number : ℕ) (why : StepFault) → IsArrival p number (Err why)
    → StageIsPlayedAs (deliver p (mail_at p.world.bag number)) v v (Err why)
arrive_fails v p number fault.Memory h = starved (deliver p (mail_at p.world.bag number)) v v
arrive_fails v p number (fault.Missing why) h =
    subst (λ (m : Option runs.Mail). StageIsPlayedAs (deliver p m) v v (Err (fault.Missing why))) (sym h.1) (h.0, refl)

module _ (p : WorldOnDisks) (number : ℕ) (to : Delivery) (is : Arrives p number to) where
  abbrev pub goes : Arrival
  goes = record { node = to.node; input = to.input }

  arrival_is : goes ≡ arrival (net_of p.world) is.sent
  arrival_is = λ i. record { node = is.node i; input = is.input i }

  module _ (old new : StageValue) (result : Result Outcome StepFault) where
    pub sent_plays : StageIsPlayedAs (Ok (delivery_effect p is.sent goes)) old new result
        → StageIsPlayedAs (deliver p (mail_at p.world.bag number)) old new result
    sent_plays h =
        subst (λ (m : Option runs.Mail). StageIsPlayedAs (deliver p m) old new result) (sym is.is)
        (subst (λ (a : Arrival). StageIsPlayedAs (Ok (delivery_effect p is.sent a)) old new result) arrival_is h)

    -- to a node that is there
    pub here_plays : has_node p to.node ≡ true → StageIsPlayedAs (Ok (delivery_by_input p is.sent to.node to.input)) old new result
        → StageIsPlayedAs (deliver p (mail_at p.world.bag number)) old new result
    here_plays has h =
        sent_plays (subst
        (λ (b : Bool). StageIsPlayedAs (Ok (if b then delivery_by_input p is.sent to.node to.input else effect_with p outcome.Done)) old new
        result)
        (sym has) h)

  -- to none
  pub nowhere_plays : (v : StageValue) → IsSetAs v p → has_node p to.node ≡ false
      → StageIsPlayedAs (deliver p (mail_at p.world.bag number)) v v (Ok outcome.Done)
  nowhere_plays v set has =
      sent_plays v v (Ok outcome.Done) (subst
      (λ (b : Bool). StageIsPlayedAs (Ok (if b then delivery_by_input p is.sent to.node to.input else effect_with p outcome.Done)) v v
      (Ok outcome.Done))
      (sym has) (refl, set))

  -- what it leads to fits
  pub delivered_fits : (v : StageValue) → IsStageOf v p → (i : Input) → to.input ≡ Some i → GivesFit (given 0 i)
  delivered_fits v stage i leads =
      let records = run_keeps p.world stage.before stage.run in
      occasion_gives p.world records stage.posts (arrival (net_of p.world) is.sent).node (delivers 0 is.sent i) (
        mail_among p.world.bag number is.sent is.is,
        arrival_brings (net_of p.world) is.sent i (λ j. (records.nodes j).number) (sym is.input ∙ leads),
      )

-- where the node is there, its effect is due
pub due_there : (p : WorldOnDisks) (k : ℕ) (e : WorldEffect) (old new : StageValue) (result : Result Outcome StepFault)
    → has_node p k ≡ true
    → StageIsPlayedAs (if_has_node p k e) old new result → StageIsPlayedAs (Ok e) old new result
due_there p k e old new result has h =
    subst (λ (b : Bool). StageIsPlayedAs (if b then Ok e else Err missing.Name) old new result) has h

-- ---- what comes of its input

module _ (old mid : StageValue) (p : WorldOnDisks) (set : IsSetAs old p) (k : ℕ) (m : runs.Mail) (i : Input) where
  abbrev pub call : NodeCall
  call = node_call_at p k (delivers (moment p) m i)

  untaken_by : (sends : Option runs.Mail) (taken : Outcome) (shown : Option Outcome) (o : Outcome) → IsSetAs mid (with_node p k call.after)
      → IsCallAnswer (IsReplyAt p k i) shown (answer.Untaken o)
      → StageIsPlayedAs (Ok (effect_by_shown p k sends taken call.after shown)) old mid (Ok o)
  untaken_by sends taken (Some s) o now h = (h, now)
  untaken_by sends taken None o now h = absurd h

  pub delivery_untaken : (o : Outcome) → IsCalled (IsReplyAt p k i) old mid p k call (answer.Untaken o)
      → StageIsPlayedAs (Ok (delivery_by_input p m k (Some i))) old mid (Ok o)
  delivery_untaken o called =
      let r : Reply = (node_step (p.world.nodes k).state (moment p) i).reply in
      untaken_by (answer_to m r) (delivery_outcome (next_number p) (answer_to m r) (reply_outcome (p.world.nodes k).state i r)) call.shown o
      called.set called.answer

  module _ (new : StageValue) (makes : Makes) (shown : Outcome) (now : IsSetAs mid (with_node p k call.after))
      (bag : mid.bag ≡ old.bag) where
    abbrev q : WorldOnDisks
    q = with_node p k call.after

    record IsSentSo (sends : Option runs.Mail) (else_shown : Outcome) : Type 0 where
      shows : shown ≡ delivery_outcome (next_number p) sends else_shown
      set_so : IsSetAs new (with_sent q (option_to_list sends))

    unsent : (else_shown : Outcome) → shown ≡ else_shown → new ≡ mid → IsSentSo None else_shown
    unsent else_shown is same = record {
      shows = is;
      set_so = subst (λ (v : StageValue). IsSetAs v (with_sent q [])) (sym same) (sent_none mid q now);
    }

    sent : (number : Id) (x : Message) (else_shown : Outcome) → shown ≡ outcome.Reply (length mid.bag + 1) (label_of x)
        → new ≡ record mid { bag = mid.bag ++ mail.Answer number x ∷ [] } → IsSentSo (Some (runs.answer number x)) else_shown
    sent number x else_shown is same = record {
      shows = is ∙ ap (λ (n : ℕ). outcome.Reply n (label_of x)) (number_is old mid p (length mid.bag + 1) set bag refl);
      set_so = sent_one mid new q (mail.Answer number x) now same;
    }

    sent_by : (x : runs.Mail) (r : Reply) → IsReplySent mid new (number_answered x) r makes shown
        → IsSentSo (answer_to x r) (reply_shown r makes)
    sent_by (runs.letter l) (reply.Enrolment c) h = sent l.number (message.Registered c) (reply_shown (reply.Enrolment c) makes) h.0 h.1
    sent_by (runs.letter l) (reply.SoapFault c) h = sent l.number (message.Fault c) (reply_shown (reply.SoapFault c) makes) h.0 h.1
    sent_by (runs.letter l) r h = unsent (reply_shown r makes) h.0 h.1
    sent_by (runs.answer number x) r h = unsent (reply_shown r makes) h.0 h.1

    taken_by : (r s : Reply) (else_shown : Outcome) (o : Option Outcome) → r ≡ s
        → IsCallAnswer (IsReplyAt p k i) o (answer.Taken r) → reply_shown r makes ≡ else_shown
        → IsReplySent mid new (number_answered m) r makes shown
        → StageIsPlayedAs
        (Ok (effect_by_shown p k (answer_to m s) (delivery_outcome (next_number p) (answer_to m s) else_shown) call.after o)) old new
        (Ok shown)
    taken_by r s else_shown None same h shows sends =
        let so = sent_by m r sends in
        let due : Reply → Outcome → Type 0 = λ x o.
        StageIsPlayedAs (Ok (effect_by_shown p k (answer_to m x) (delivery_outcome (next_number p) (answer_to m x) o) call.after None))
        old new (Ok shown)
        in
        subst (λ (x : Reply). due x else_shown) same (subst (λ (o : Outcome). due r o) shows (so.shows, so.set_so))
    taken_by r s else_shown (Some o) same h shows sends = absurd h

    pub delivery_taken : (r : Reply) → IsCalled (IsReplyAt p k i) old mid p k call (answer.Taken r) → AreMade p k i makes
        → IsReplySent mid new (number_answered m) r makes shown → StageIsPlayedAs (Ok (delivery_by_input p m k (Some i))) old new (Ok shown)
    delivery_taken r called made sends = by call.shown refl called.answer
      where
        by : (o : Option Outcome) → call.shown ≡ o → IsCallAnswer (IsReplyAt p k i) o (answer.Taken r)
            → StageIsPlayedAs (Ok (delivery_by_input p m k (Some i))) old new (Ok shown)
        by None is h =
            let n : WorldNode = p.world.nodes k in
            let up = taken_up n (p.disks k) (delivers (moment p) m i) is in
            taken_by r (node_step n.state (moment p) i).reply (reply_outcome n.state i (node_step n.state (moment p) i).reply) call.shown h
            called.answer
            (ap (reply_shown r) (made up) ∙ reply_is n.state i r ∙ ap (reply_outcome n.state i) h) sends
        by (Some o) is h = absurd h

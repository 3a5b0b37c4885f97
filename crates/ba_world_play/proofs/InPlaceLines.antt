-- No line of a play says that a message was answered by InvalidState; for the law that plays stay safe.
use Rattle.std.proofs.Common.{◌≡◌, ◌≢◌, ℕ, Option, None, Some, refl, ap, subst}
use Rattle.std.specs.Option.{option_map}
use Rattle.ba_core.specs.declared.codes.Code.{Code}
use Rattle.ba_core.specs.declared.codes.Code.TheVariants as code
use Rattle.ba_core.specs.declared.identifiers.Id.{Id}
use Rattle.ba_core.specs.declared.protocols.Protocol.{Protocol}
use Rattle.ba_core.specs.declared.protocols.Side.TheVariants.{Coordinator, Participant}
use Rattle.ba_world_events.specs.declared.outcomes.Label.TheVariants as label
use Rattle.ba_world_events.specs.declared.outcomes.Outcome.TheVariants as outcome
use Rattle.ba_message.specs.Dialing.{is_dialable}
use Rattle.ba_message.specs.declared.endpoints.Epr.{Epr}
use Rattle.ba_message.specs.declared.messages.Letter.{Letter}
use Rattle.ba_world_play.specs.Outcomes.{delivery_outcome, made_outcome, occasion_outcome, reply_outcome, tick_outcome}
use Rattle.ba_world_play.specs.SafeStories.{IsInPlace}
use Rattle.ba_world_runs.proofs.InPlace.{notices_in_place}
use Rattle.ba_world_runs.specs.Safety.{IsSound}
use Rattle.ba_world_runs.specs.World.{formats, Mail, Net, Occasion, answer, delivers, letter, node_at, own, ticks}
use Rattle.ba_world_runs.specs.WorldSteps.{BringsInput, IsPossible, answer_to, effect}
use Rattle.ba_scope.proofs.Lists.{by_test}
use Rattle.ba_scope.specs.Rules.{enrol_refusal}
use Rattle.ba_scope_ends.specs.Ends.{end_of}
use Rattle.ba_scope.specs.Scope.{ScopeState}
use Rattle.ba_scope.specs.declared.answers.EnrolFault.{EnrolFault}
use Rattle.ba_scope.specs.declared.answers.EnrolFault.TheVariants.{NotYetEnrolled}
use Rattle.ba_node_steps.proofs.Cases.{found_cases}
use Rattle.ba_node_steps.specs.Node.{Among, NodeState, scope_with_id}
use Rattle.ba_node_steps.specs.Steps.{NodeStep, enrol_unless, enrolled_before, fault_step, node_step, on_register, register_at, same_protocol}
use Rattle.ba_node_steps.specs.Ticks.{tick_step}
use Rattle.ba_node_steps.specs.declared.answers.Reply.{Reply}
use Rattle.ba_node_steps.specs.declared.answers.Reply.TheVariants as reply
use Rattle.ba_node_steps.specs.declared.inputs.Input.{Input}
use Rattle.ba_node_steps.specs.declared.inputs.Input.TheVariants as input

-- ---- a Register is never answered so

abbrev StepInPlace : NodeStep → Type 0
StepInPlace step = step.reply ≢ reply.SoapFault code.InvalidState

enrol_in_place : (n : NodeState) (s : ScopeState) (protocol : Protocol) (participant : Epr) (why : Option EnrolFault)
    → StepInPlace (enrol_unless n s protocol participant why)
enrol_in_place n s protocol participant None = λ h. absurd cc
enrol_in_place n s protocol participant (Some NotYetEnrolled) = λ h. absurd cc
enrol_in_place n s protocol participant (Some why) = λ h. absurd cc

register_in_place : (n : NodeState) (scope : Id) (protocol : Option Protocol) (participant : Epr)
    → StepInPlace (on_register n scope protocol participant)
register_in_place n scope protocol participant =
    found_cases StepInPlace (scope_with_id n scope) (fault_step n code.DestinationUnreachable) _ (λ h. absurd cc) (λ s here.
    found_cases StepInPlace protocol (fault_step n code.InvalidProtocol) _ (λ h. absurd cc) (λ known named.
    by_test StepInPlace (is_dialable participant.address) (register_at n s known participant) (fault_step n code.InvalidParameters)
    (λ dialable. found_cases StepInPlace (end_of s.ends participant) (enrol_unless n s known participant (enrol_refusal s))
    (enrolled_before n known) (enrol_in_place n s known participant (enrol_refusal s)) (λ e found.
    by_test StepInPlace (same_protocol e.protocol known) _ (fault_step n code.InvalidParameters) (λ _ h. absurd cc)
    (λ _ h. absurd cc)))
    (λ other h. absurd cc)))

-- what a letter brings isn't answered so
letter_in_place : (w : Net) → IsSound w → (k now : ℕ) (l : Letter) (i : Input) → Among w.bag (letter l)
    → BringsInput (node_at w k) (letter l) i → StepInPlace (node_step (node_at w k) now i)
letter_in_place w sound k now l (input.Register scope protocol participant) sent brings =
    register_in_place (node_at w k) scope protocol participant
letter_in_place w sound k now l (input.Notice Coordinator id m) sent brings =
    notices_in_place w sound k now l Coordinator id m sent brings
letter_in_place w sound k now l (input.Notice Participant id m) sent brings =
    notices_in_place w sound k now l Participant id m sent brings
letter_in_place w sound k now l i sent brings = absurd brings

-- ---- what an occasion shows

made_is_none : (n : NodeState) (i : Input) → IsInPlace (made_outcome n i)
made_is_none n (input.Create expires (Some current) kind up) number h = absurd cc
made_is_none n (input.Create expires None kind up) number h = absurd cc
made_is_none n i number h = absurd cc

reply_is_none : (n : NodeState) (i : Input) (r : Reply) → IsInPlace (reply_outcome n i r)
reply_is_none n i reply.Accepted = λ number h. absurd cc
reply_is_none n i (reply.Context context) = made_is_none n i
reply_is_none n i (reply.Joined id) = λ number h. absurd cc
reply_is_none n i (reply.Enrolment coordinator) = λ number h. absurd cc
reply_is_none n i (reply.SoapFault c) = λ number h. absurd cc
reply_is_none n i (reply.Refused why id) = λ number h. absurd cc

tick_is_none : (number : ℕ) (sends : Option Mail) → IsInPlace (tick_outcome number sends)
tick_is_none number None = λ other h. absurd cc
tick_is_none number (Some m) = λ other h. absurd cc

fault_told : (number other : ℕ) (c : Code)
    → outcome.Reply number (label.Fault c) ≡ outcome.Reply other (label.Fault code.InvalidState) → c ≡ code.InvalidState
fault_told number other c h = cc

delivery_in_place : (n : NodeState) (i : Input) (m : Mail) (r : Reply) (number : ℕ)
    → ((l : Letter) → m ≡ letter l → r ≢ reply.SoapFault code.InvalidState)
    → IsInPlace (delivery_outcome number (answer_to m r) (reply_outcome n i r))
delivery_in_place n i (letter l) (reply.Enrolment coordinator) number good = λ other h. absurd cc
delivery_in_place n i (letter l) (reply.SoapFault c) number good =
    λ other h. good l refl (ap reply.SoapFault (fault_told number other c h))
delivery_in_place n i (letter l) reply.Accepted number good = reply_is_none n i reply.Accepted
delivery_in_place n i (letter l) (reply.Context context) number good = reply_is_none n i (reply.Context context)
delivery_in_place n i (letter l) (reply.Joined id) number good = reply_is_none n i (reply.Joined id)
delivery_in_place n i (letter l) (reply.Refused why id) number good = reply_is_none n i (reply.Refused why id)
delivery_in_place n i (answer of m) r number good = reply_is_none n i r

pub occasion_in_place : (w : Net) → IsSound w → (k : ℕ) (o : Occasion) → IsPossible w k o → (number : ℕ)
    → IsInPlace (occasion_outcome number (node_at w k) o (effect (node_at w k) o).sends)
occasion_in_place w sound k (own now i) possible number = reply_is_none (node_at w k) i (node_step (node_at w k) now i).reply
occasion_in_place w sound k (delivers now m i) possible number =
    delivery_in_place (node_at w k) i m (node_step (node_at w k) now i).reply number
    (λ l same. letter_in_place w sound k now l i (subst (Among w.bag) same possible.0)
    (subst (λ (x : Mail). BringsInput (node_at w k) x i) same possible.1))
occasion_in_place w sound k (ticks now id) possible number =
    tick_is_none number (option_map letter (tick_step (node_at w k) now id).letter)
occasion_in_place w sound k formats possible number = tick_is_none number None

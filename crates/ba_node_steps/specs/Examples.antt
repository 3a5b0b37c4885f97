-- Believe: worked examples: what happens at a node, one after another, for the laws that say what the node shows then.
use Rattle.std.specs.Prelude.{ℕ, List, [], ◌∷◌, ◌++◌, map, codes, Option, None, Some}
use Rattle.std.specs.Option.{option_and_then, option_to_list}
use Rattle.ba_core.specs.Numbers.{id_of}
use Rattle.ba_core.specs.declared.identifiers.Id.{Id}
use Rattle.ba_core.specs.declared.notices.Notice.{Notice}
use Rattle.ba_core.specs.declared.notices.Notice.TheVariants as notice
use Rattle.ba_core.specs.declared.protocols.Kind.{Kind}
use Rattle.ba_core.specs.declared.protocols.Kind.TheVariants.{Atomic}
use Rattle.ba_core.specs.declared.protocols.Protocol.TheVariants.{Pc}
use Rattle.ba_core.specs.declared.protocols.Side.TheVariants.{Coordinator, Participant}
use Rattle.ba_core.specs.declared.protocols.Verdict.{Verdict}
use Rattle.ba_core.specs.declared.protocols.Verdict.TheVariants.{Close, Undo}
use Rattle.ba_core.specs.declared.states.CState.{CState}
use Rattle.ba_core.specs.declared.states.PState.{PState}
use Rattle.ba_message.specs.declared.messages.Context.{Context}
use Rattle.ba_record.specs.declared.records.Record.{Record}
use Rattle.ba_node_steps.specs.declared.answers.Reply.{Reply}
use Rattle.ba_node_steps.specs.declared.inputs.Input.{Input}
use Rattle.ba_node_steps.specs.declared.inputs.Input.TheVariants as input
use Rattle.ba_node_steps.specs.Addresses.{coordinator_of, participant_of, registration_of}
use Rattle.ba_node_steps.specs.Lawful.{Event, given, ticked, after_record, change}
use Rattle.ba_node_steps.specs.Node.{NodeState, new_node}
use Rattle.ba_node_steps.specs.Steps.{node_step}

-- the identifier of the object with this counter at the node with this number
abbrev pub object : ℕ → ℕ → Id
object number c = record { 0 = id_of number c }

abbrev pub first_base : List ℕ
first_base = codes "http://node1"

abbrev pub second_base : List ℕ
second_base = codes "http://node2"

-- the first node and the second, without objects
abbrev pub first_node : NodeState
first_node = new_node 1 first_base

abbrev pub second_node : NodeState
second_node = new_node 2 second_base

-- the node after all this
abbrev pub node_after : NodeState → List Event → NodeState
node_after n [] = n
node_after n (e ∷ more) = node_after (change n e).after more

-- the records that are kept meanwhile
abbrev pub all_written : NodeState → List Event → List Record
all_written n [] = []
all_written n (e ∷ more) = option_to_list (change n e).written ++ all_written (change n e).after more

-- the node after the steps of these records
abbrev pub after_records : Option NodeState → List Record → Option NodeState
after_records n [] = n
after_records n (r ∷ more) = after_records (option_and_then (λ at. after_record at r) n) more

abbrev pub reply_to : NodeState → Input → Reply
reply_to n i = (node_step n 0 i).reply

-- what a node shows of the ends of its scopes: of each its identifier, its state and its verdict
abbrev pub shown_ends : NodeState → List (List (ℕ × CState × Option Verdict))
shown_ends n = map (λ s. map (λ e. (e.id.0, e.state, e.verdict)) s.ends) n.scopes

-- and of its scopes: the verdict, and the state of the upward part
abbrev pub shown_scopes : NodeState → List (Option Verdict × List PState)
shown_scopes n = map (λ s. (s.verdict, map (λ p. p.state) (option_to_list s.up))) n.scopes

-- ---- at the first node

-- the participant with this counter at the second node registers at the scope 1.1
abbrev pub register_of : ℕ → Input
register_of c = input.Register (object 1 1) (Some Pc) (participant_of second_base (object 2 c))

-- a notice to the end with this counter
abbrev pub end_hears : ℕ → Notice → Event
end_hears c m = given 0 (input.Notice Coordinator (object 1 c) m)

-- a root of this kind is made, and enrols two participants, of which the first completes
abbrev pub first_completes : Kind → List Event
first_completes kind =
    given 0 (input.Create None None (Some kind) Pc)
    ∷ given 0 (register_of 1)
    ∷ given 0 (register_of 2)
    ∷ end_hears 2 notice.Completed
    ∷ []

-- the second exits, and the root is decided to close
abbrev pub second_exits : List Event
second_exits = end_hears 3 notice.Exit ∷ given 0 (input.Decide (object 1 1) Close) ∷ []

-- the first closes, and the second is canceled
abbrev pub own_choices : List Event
own_choices = given 0 (input.Choose (object 1 2) Close) ∷ given 0 (input.Choose (object 1 3) Undo) ∷ []

-- ---- at the second node, whose scope stands between one above and one below

abbrev pub context_above : Context
context_above = record { identifier = []; expires = None; kind = Some Atomic; registration = registration_of first_base (object 1 1) }

abbrev pub child_is_made : Event
child_is_made = given 0 (input.Create None (Some context_above) (Some Atomic) Pc)

abbrev pub child_is_enrolled : Event
child_is_enrolled = given 0 (input.Enrolled (object 2 2) (coordinator_of first_base (object 1 2)))

-- a participant of a third node registers at the scope 2.1
abbrev pub register_below : Input
register_below = input.Register (object 2 1) (Some Pc) (participant_of (codes "http://node3") (object 3 2))

-- the end below completes, and so does the child; it is told to compensate, and the end below fails
abbrev pub fails_below : List Event
fails_below =
    child_is_made
    ∷ child_is_enrolled
    ∷ given 0 register_below
    ∷ given 0 (input.Notice Coordinator (object 2 3) notice.Completed)
    ∷ given 0 (input.Finish (object 2 1))
    ∷ given 0 (input.Notice Participant (object 2 2) notice.Compensate)
    ∷ given 0 (input.Notice Coordinator (object 2 3) notice.Fail)
    ∷ ticked 0 (object 2 3)
    ∷ given 0 (input.Ask (object 2 3))
    ∷ ticked 0 (object 2 2)
    ∷ []

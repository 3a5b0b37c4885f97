-- Inside: what happens to a node as the code has it, and what is made of it.
use Rattle.ba_node_objects.specs.Changes.{changed_node}
use Rattle.ba_node.specs.declared.events.Event.TheVariants as event
use Rattle.ba_node.specs.declared.events.Event as declared
use Rattle.ba_node.specs.declared.enacting.Again.{Again}
use Rattle.ba_node_steps.specs.Lawful.{Change, Event, given, ticked}
use Rattle.ba_node_steps.specs.Node.{NodeState}

abbrev pub told_event : declared.Event → Event
told_event (event.Given now i) = given now i
told_event (event.Ticked now id) = ticked now id

-- the node after it, and the record that is kept
abbrev pub told_change : NodeState → Again → Change
told_change n a = record { after = changed_node n a.change; written = a.written }

-- Inside: when the tick of an end changes it, and who has something to say then.
use Rattle.std.specs.Prelude.{Bool, not, ◌||◌, if◌then◌else◌}
use Rattle.ba_core.specs.declared.states.CState.{CState}
use Rattle.ba_scope.specs.Scope.{ScopeState}
use Rattle.ba_scope_ends.specs.declared.ends.End.{End}
use Rattle.ba_scope_ends.specs.declared.parts.Part.{Part}
use Rattle.ba_node_steps.specs.Steps.{same_end_state, wake_of_end}
use Rattle.ba_node_steps.specs.declared.answers.Wake.{Wake}
use Rattle.ba_node_steps.specs.declared.answers.Wake.TheVariants as wake

-- it says a Status or asks for one, or it moves on to this state
abbrev pub end_changes : End → CState → Bool
end_changes e next = (e.owes || e.asks) || not (same_end_state e.state next)

abbrev pub wake_at_end : ScopeState → End → CState → Wake
wake_at_end s e next = if same_end_state e.state next then wake.Nobody else wake_of_end s e.id next

-- a participant that says a Status or asks for one
abbrev pub part_talks : Part → Bool
part_talks p = p.owes || p.asks

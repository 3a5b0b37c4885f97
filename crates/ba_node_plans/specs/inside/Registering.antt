-- Inside: a Register at a scope, by a protocol that is known.
use Rattle.std.specs.Prelude.{if◌then◌else◌}
use Rattle.ba_core.specs.declared.codes.Code.{Code}
use Rattle.ba_core.specs.declared.codes.Code.TheVariants as code
use Rattle.ba_core.specs.declared.protocols.Protocol.{Protocol}
use Rattle.ba_message.specs.Dialing.{is_dialable}
use Rattle.ba_message.specs.declared.endpoints.Epr.{Epr}
use Rattle.ba_scope.specs.Scope.{ScopeState}
use Rattle.ba_scope.specs.declared.answers.EnrolFault.{EnrolFault}
use Rattle.ba_scope.specs.declared.answers.EnrolFault.TheVariants.{NotYetEnrolled}
use Rattle.ba_node_steps.specs.Node.{NodeState}
use Rattle.ba_node_steps.specs.Steps.{NodeStep, fault_step, register_at}

abbrev pub register_dialed : NodeState → ScopeState → Protocol → Epr → NodeStep
register_dialed n s protocol participant =
    if is_dialable participant.address then register_at n s protocol participant else fault_step n code.InvalidParameters

-- the fault by which a refusal is answered
abbrev pub refusal_code : EnrolFault → Code
refusal_code NotYetEnrolled = code.EndpointUnavailable
refusal_code why = code.CannotRegisterParticipant

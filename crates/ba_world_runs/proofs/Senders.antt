-- The participant that sent a Register; for the laws that endpoints lead where they should and that each link moves by its table.
use Rattle.std.proofs.Common.{◌≡◌, ℕ, Option, Some, sym, ◌∙◌}
use Rattle.ba_core.specs.declared.identifiers.Id.{Id}
use Rattle.ba_core.specs.declared.notices.Notice.{Notice}
use Rattle.ba_core.specs.declared.protocols.Protocol.{Protocol}
use Rattle.ba_message.specs.declared.endpoints.Epr.{Epr}
use Rattle.ba_message.specs.declared.messages.Letter.{Letter}
use Rattle.ba_message.specs.declared.messages.Message.{Message}
use Rattle.ba_message.specs.declared.messages.Message.TheVariants as message
use Rattle.ba_scope_ends.specs.declared.parts.Part.{Part}
use Rattle.ba_node_steps.specs.Addresses.{message_number, register_code}
use Rattle.ba_node_steps.specs.Node.{NodeState}
use Rattle.ba_node_steps.specs.declared.inputs.Input.TheVariants as input
use Rattle.ba_world_runs.specs.Safety.{MailFits, of_end, of_part, of_register}
use Rattle.ba_world_runs.specs.World.{Net, PartAt, answer, letter, participant_at, registration_at}
use Rattle.ba_world_runs.specs.WorldSteps.{BringsInput}

-- this participant sent the letter, a Register to the scope with this identifier
pub record IsSenderOf (w : Net) (k : ℕ) (l : Letter) (scope : Id) (protocol : Option Protocol) (participant : Epr) : Type 0 where
  pub node : ℕ
  pub part : Part
  pub has : PartAt w node part
  pub number : l.number ≡ message_number register_code part.id
  pub names : part.registration ≡ registration_at w k scope
  pub endpoint : participant ≡ participant_at w node part.id
  pub protocol_is : protocol ≡ Some part.protocol

not_notice : (n : Notice) (protocol : Option Protocol) (participant : Epr) → message.Notice n ≡ message.Register protocol participant → ⊥
not_notice n protocol participant h = cc

pub sender : (w : Net) (k : ℕ) (l : Letter) (scope : Id) (protocol : Option Protocol) (participant : Epr) → MailFits w (letter l)
    → l.to ≡ registration_at w k scope → l.message ≡ message.Register protocol participant
    → IsSenderOf w k l scope protocol participant
sender w k l scope protocol participant (of_register j p has number to says) at told =
    let same : message.Register (Some p.protocol) (participant_at w j p.id) ≡ message.Register protocol participant = sym says ∙ told in
    let endpoint : participant_at w j p.id ≡ participant = cc in
    let protocols : ◌≡◌ {A = Option Protocol} (Some p.protocol) protocol = cc in
    record {
      node = j;
      part = p;
      has = has;
      number = number;
      names = sym to ∙ at;
      endpoint = sym endpoint;
      protocol_is = sym protocols;
    }
sender w k l scope protocol participant (of_part j p n has number to says) at told =
    absurd (not_notice n protocol participant (sym says ∙ told))
sender w k l scope protocol participant (of_end i s e n has among number to says) at told =
    absurd (not_notice n protocol participant (sym says ∙ told))

-- an answer leads nowhere as a Register
pub no_register : (n : NodeState) (number : Id) (m : Message) (scope : Id) (protocol : Option Protocol) (participant : Epr)
    → BringsInput n (answer number m) (input.Register scope protocol participant) → ⊥
no_register n number (message.Registered c) scope protocol participant h = h
no_register n number (message.Fault c) scope protocol participant h = h
no_register n number m scope protocol participant h = h

-- Believe: this is the route of a letter: its number becomes a MessageID, as a URN of a UUID (RFC 4122, section 3).
use Rattle.std.specs.Prelude.{ℕ, List, Some, None}
use Rattle.std.specs.Int.{to_be_bytes, w128}
use Rattle.ba_message.specs.declared.messages.Letter.{Letter}
use Rattle.ba_wire.specs.declared.routes.Route.{Route}
use Rattle.uuid.specs.Text.{lower, urn_text}

-- `urn:uuid:` and the number in lower case: 8-4-4-4-12 digits of sixteen
abbrev pub number_urn : ℕ → List ℕ
number_urn number = urn_text lower (to_be_bytes w128 number)

abbrev pub route_of : Letter → Route
route_of letter = record {
  to = Some letter.to.address;
  message_id = Some (number_urn letter.number.0);
  relates_to = None;
  parameters = letter.to.parameters;
}

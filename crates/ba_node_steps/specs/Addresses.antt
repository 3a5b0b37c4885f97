-- Believe: the addresses of a node's objects, and the numbers of the messages that they send.
use Rattle.std.specs.Prelude.{ℕ, ◌+◌, ◌*◌, ◌%◌, ◌^◌, ◌<◌, List, [], ◌++◌, codes}
use Rattle.std.specs.Int.{to_be_bytes, w128}
use Rattle.ba_core.specs.declared.identifiers.Id.{Id}
use Rattle.ba_message.specs.declared.endpoints.Epr.{Epr}
use Rattle.uuid.specs.Text.{hyphenated_text, lower}

-- ---- an identifier as text: 8-4-4-4-12 hexadecimal digits in lower case (RFC 9562, section 4)

-- the text of an identifier, which holds its lowest 128 bits
unfoldable pub hyphenated : ℕ → List ℕ
hyphenated n = hyphenated_text lower (to_be_bytes w128 n)

-- its text holds it whole
abbrev pub HasText : Id → Type 0
HasText id = id.0 < 2 ^ 128

-- ---- endpoints (WS-Addressing 1.0, section 2): after the base of the node's addresses a word for what is found
-- there, and the identifier. They have no reference parameters.

abbrev pub at_address : List ℕ → Epr
at_address address = record { address = address; parameters = [] }

-- where a scope takes Registers
abbrev pub registration_of : List ℕ → Id → Epr
registration_of base id = at_address (base ++ (codes "/registration/" ++ hyphenated id.0))

-- where an end takes notices
abbrev pub coordinator_of : List ℕ → Id → Epr
coordinator_of base id = at_address (base ++ (codes "/coordinator/" ++ hyphenated id.0))

-- where a participant takes notices
abbrev pub participant_of : List ℕ → Id → Epr
participant_of base id = at_address (base ++ (codes "/participant/" ++ hyphenated id.0))

-- the Identifier of a scope's context (WS-Coordination 1.2, section 2), which is a URI
abbrev pub context_identifier : Id → List ℕ
context_identifier id = codes "urn:uuid:" ++ hyphenated id.0

-- ---- the number of a message: its code, and below it the identifier of the object that sends it

-- the code of Register; notices have the codes below it
abbrev pub register_code : ℕ
register_code = 17

abbrev pub message_number : ℕ → Id → Id
message_number code sender = record { 0 = code * 2 ^ 96 + sender.0 }

-- the identifier of the object that sent it
abbrev pub sender_of : Id → ℕ
sender_of number = number.0 % 2 ^ 96

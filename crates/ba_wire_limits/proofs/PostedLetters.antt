-- A letter that is posted has its number, and says no time; so its text is read as its route and its message: for the law on
-- letters from a node's own endpoints.
use Rattle.std.proofs.Common.{◌≡◌, Bool, true, false, not, ◌||◌, IsTrue, refl}
use Rattle.ba_message.specs.Letters.{IsOwnEndpoint, IsPostable, IsPostableMessage}
use Rattle.ba_message.specs.declared.endpoints.Epr.{Epr}
use Rattle.ba_message.specs.declared.messages.Letter.{Letter}
use Rattle.ba_message.specs.declared.messages.Message.{Message}
use Rattle.ba_message.specs.declared.messages.Message.TheVariants as message
use Rattle.ba_soap.specs.Envelopes.{soap11}
use Rattle.ba_wire.proofs.WrittenMessages.{letter_text_means}
use Rattle.ba_wire.specs.Elements.{body_of_message}
use Rattle.ba_wire.specs.Envelopes.{TimesFit, is_numbered, letter_text, letter_tree}
use Rattle.ba_wire.specs.Meaning.{Means, asks_for_reply}
use Rattle.ba_wire.specs.Routes.{route_of}
use Rattle.ba_wire_limits.proofs.EncodedLetters.{letter_can_be_sent}
use Rattle.ba_xml_grammar.specs.GrammarTexts.{IsXmlText}

or_so : (b : Bool) → (b || true) ≡ true
or_so true = refl
or_so false = refl

-- a letter has its number
pub letter_numbered : (l : Letter) → IsTrue (is_numbered (route_of l) l.message)
letter_numbered l = or_so (not (asks_for_reply (body_of_message l.message)))

pub postable_times : (m : Message) → IsPostableMessage m → TimesFit m
postable_times (message.Create expires current kind up) p = absurd p
postable_times (message.Created context) p = absurd p
postable_times (message.Register protocol participant) p = tt
postable_times (message.Registered coordinator) p = tt
postable_times (message.Notice n) p = tt
postable_times (message.Fault c) p = tt

pub letter_is_read : (source : Epr) (letter : Letter) → IsOwnEndpoint source → IsPostable letter
    → IsXmlText (letter_text source (route_of letter) letter.message) (letter_tree source (route_of letter) letter.message)
    × Means soap11 (letter_tree source (route_of letter) letter.message) (record { route = route_of letter; message = letter.message })
letter_is_read source letter own is =
    letter_text_means source (route_of letter) letter.message (letter_can_be_sent source letter own is) (letter_numbered letter)
    (postable_times letter.message is.message)

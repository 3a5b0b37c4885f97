-- Inside: the canonical texts of letters and replies without parameters, piece by piece. Each function gives the bytes of its
-- part, and then what follows.
use Rattle.std.specs.Prelude.{◌≡◌, ℕ, Bool, IsTrue, true, false, not, nat_eq, ◌&&◌, List, [], ◌∷◌, ◌++◌, Option, Some, None}
use Rattle.std.specs.List.{list_all}
use Rattle.ba_core.specs.Messages.{notice_name}
use Rattle.ba_core.specs.declared.notices.Notice.{Notice}
use Rattle.ba_core.specs.declared.notices.Notice.TheVariants as notice
use Rattle.ba_core.specs.declared.protocols.Protocol.{Protocol}
use Rattle.ba_core.specs.declared.protocols.Protocol.TheVariants.{Pc, Cc}
use Rattle.ba_message.specs.declared.endpoints.Epr.{Epr}
use Rattle.ba_message.specs.declared.messages.Message.{Message}
use Rattle.ba_message.specs.declared.messages.Message.TheVariants as message
use Rattle.ba_wire.specs.declared.routes.Route.{Route}
use Rattle.ba_wire_short.specs.declared.pieces.TheConstants as piece

-- ---- what is put directly

-- a byte that is written as itself in a text: none of & < > and CR
abbrev pub is_itself : ℕ → Bool
is_itself b = not (nat_eq b 38) && (not (nat_eq b 60) && (not (nat_eq b 62) && not (nat_eq b 13)))

abbrev pub is_unescaped : List ℕ → Bool
is_unescaped = list_all is_itself

abbrev pub has_none : {X : Type 0} → List X → Bool
has_none [] = true
has_none (x ∷ xs) = false

abbrev pub is_direct_endpoint : Epr → Bool
is_direct_endpoint e = has_none e.parameters && is_unescaped e.address

abbrev pub is_direct : Message → Bool
is_direct (message.Notice (notice.Status state)) = false
is_direct (message.Notice n) = true
is_direct (message.Register None participant) = false
is_direct (message.Register (Some protocol) participant) = is_direct_endpoint participant
is_direct (message.Registered coordinator) = is_direct_endpoint coordinator
is_direct m = false

-- ---- its pieces

abbrev pub action_text : Message → List ℕ → List ℕ
action_text (message.Notice n) rest = piece.ACTION_OF_NOTICES.now ++ (notice_name n ++ rest)
action_text (message.Register protocol participant) rest = piece.ACTION_OF_REGISTER.now ++ rest
action_text (message.Registered coordinator) rest = piece.ACTION_OF_REGISTERED.now ++ rest
action_text m rest = rest

abbrev pub notice_text : Notice → List ℕ → List ℕ
notice_text notice.Fail rest = piece.FAIL.now ++ rest
notice_text n rest = piece.NOTICE.now ++ (notice_name n ++ (piece.NOTICE_END.now ++ rest))

abbrev pub before_participant : Option Protocol → List ℕ
before_participant None = []
before_participant (Some Pc) = piece.REGISTER_PC.now
before_participant (Some Cc) = piece.REGISTER_CC.now

abbrev pub body_text : Message → List ℕ → List ℕ
body_text (message.Notice n) rest = notice_text n rest
body_text (message.Register protocol participant) rest =
    before_participant protocol ++ (participant.address ++ (piece.REGISTER_END.now ++ rest))
body_text (message.Registered coordinator) rest =
    piece.REGISTERED.now ++ (coordinator.address ++ (piece.REGISTERED_END.now ++ rest))
body_text m rest = rest

abbrev pub letter_pieces : List ℕ → List ℕ → Message → List ℕ → List ℕ
letter_pieces to number m rest =
    piece.ENVELOPE.now
    ++ (piece.TO.now ++ (to ++ (piece.TO_ACTION.now
    ++ action_text m (piece.ACTION_NUMBER.now ++ (number ++ (piece.NUMBER_BODY.now ++ body_text m (piece.END.now ++ rest)))))))

abbrev pub reply_pieces : List ℕ → Message → List ℕ → List ℕ
reply_pieces related m rest =
    piece.ENVELOPE.now
    ++ (piece.ACTION.now
    ++ action_text m (piece.ACTION_RELATED.now ++ (related ++ (piece.RELATED_BODY.now ++ body_text m (piece.END.now ++ rest)))))

-- the letter of a notice from an endpoint without parameters
abbrev pub notice_pieces : List ℕ → List ℕ → List ℕ → Message → List ℕ → List ℕ
notice_pieces source to number m rest =
    piece.ENVELOPE.now
    ++ (piece.TO.now ++ (to ++ (piece.TO_ACTION.now
    ++ action_text m (piece.ACTION_NUMBER.now ++ (number ++ (piece.NUMBER_SOURCE.now ++ (source ++ (piece.SOURCE_BODY.now
    ++ body_text m (piece.END.now ++ rest)))))))))

-- the route of a letter to an endpoint without parameters
abbrev pub letter_route : List ℕ → List ℕ → Route
letter_route to number = record { to = Some to; message_id = Some number; relates_to = None; parameters = [] }

-- this is the text that is put of a letter, of which nothing is escaped
abbrev pub IsDirectLetter : List ℕ → List ℕ → Message → List ℕ → Type 0
IsDirectLetter to number m text = (text ≡ letter_pieces to number m []) × IsTrue (is_unescaped to) × IsTrue (is_unescaped number)

-- this is the text that is put of a reply, of which nothing is escaped
abbrev pub IsDirectReply : List ℕ → Message → List ℕ → Type 0
IsDirectReply related m text = (text ≡ reply_pieces related m []) × IsTrue (is_unescaped related)

-- this is the text that is put of a notice's letter, of which nothing is escaped
abbrev pub IsDirectNotice : List ℕ → List ℕ → List ℕ → Message → List ℕ → Type 0
IsDirectNotice source to number m text =
    (text ≡ notice_pieces source to number m [])
    × IsTrue (is_unescaped source)
    × IsTrue (is_unescaped to)
    × IsTrue (is_unescaped number)

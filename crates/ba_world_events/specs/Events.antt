-- Believe: the words by which a script tells the events of a world, and how far their numbers go.
use Rattle.std.specs.Prelude.{◌≡◌, ℕ, ◌<◌, ◌≤◌, ◌^◌, List, [], ◌∷◌, ◌++◌, Option, None, Some, codes}
use Rattle.std.specs.Fmt.{decimal}
use Rattle.ba_core.specs.Numbers.{code_part}
use Rattle.ba_core.specs.Texts.{id_text}
use Rattle.ba_core.specs.Words.{act_word, kind_word, protocol_word, verdict_word}
use Rattle.ba_core.specs.declared.identifiers.Id.{Id}
use Rattle.ba_core.specs.declared.notices.Leave.{Leave}
use Rattle.ba_core.specs.declared.notices.Leave.TheVariants as leave
use Rattle.ba_core.specs.declared.protocols.Protocol.{Protocol}
use Rattle.ba_core.specs.declared.protocols.Protocol.TheVariants.{Pc, Cc}
use Rattle.ba_ports.specs.declared.images.Image.{Image}
use Rattle.ba_ports.specs.declared.images.Image.TheVariants as image
use Rattle.ba_world_events.specs.declared.events.Event.{Event}
use Rattle.ba_world_events.specs.declared.events.Event.TheVariants as event

abbrev pub leave_word : Leave → List ℕ
leave_word leave.Exit = codes "exit"
leave_word leave.CannotComplete = codes "cannotcomplete"
leave_word leave.Fail = codes "fail"

abbrev pub image_word : Image → List ℕ
image_word image.Old = codes "old"
image_word image.New = codes "new"
image_word image.Filled = codes "filled"
image_word image.Half = codes "half"

-- the scope above a new one, and the protocol there, which is ParticipantCompletion unless it is named
abbrev pub under_words : Option (Id × Protocol) → List (List ℕ)
under_words None = []
under_words (Some (id, Pc)) = codes "under" ∷ id_text id.0 ∷ []
under_words (Some (id, Cc)) = codes "under" ∷ id_text id.0 ∷ codes "cc" ∷ []

-- the milliseconds until a new scope expires
abbrev pub expires_words : Option ℕ → List (List ℕ)
expires_words None = []
expires_words (Some time) = codes "expires" ∷ decimal time ∷ []

-- the words of an event
abbrev pub world_words : Event → List (List ℕ)
world_words (event.Create node kind under expires) =
    codes "create" ∷ decimal node ∷ kind_word kind ∷ (under_words under ++ expires_words expires)
world_words (event.Join node protocol scope) = codes "join" ∷ decimal node ∷ protocol_word protocol ∷ id_text scope.0 ∷ []
world_words (event.Tick id) = codes "tick" ∷ id_text id.0 ∷ []
world_words (event.Deliver number) = codes "deliver" ∷ decimal number ∷ []
world_words (event.Act id a) = codes "act" ∷ id_text id.0 ∷ act_word a ∷ []
world_words (event.Ask id) = codes "ask" ∷ id_text id.0 ∷ []
world_words (event.Decide id v) = codes "decide" ∷ id_text id.0 ∷ verdict_word v ∷ []
world_words (event.Choose id v) = codes "choose" ∷ id_text id.0 ∷ verdict_word v ∷ []
world_words (event.Complete id) = codes "complete" ∷ id_text id.0 ∷ []
world_words (event.Finish id) = codes "finish" ∷ id_text id.0 ∷ []
world_words (event.Leave id l) = codes "leave" ∷ id_text id.0 ∷ leave_word l ∷ []
world_words (event.Wait time) = codes "wait" ∷ decimal time ∷ []
world_words (event.Crash node) = codes "crash" ∷ decimal node ∷ []
world_words (event.CrashAt node call i) = codes "crashat" ∷ decimal node ∷ decimal call ∷ image_word i ∷ []
world_words (event.Fail node call) = codes "fail" ∷ decimal node ∷ decimal call ∷ []
world_words (event.Open node) = codes "open" ∷ decimal node ∷ []

-- the identifier is an object's, and no message's number
abbrev pub IsObject : Id → Type 0
IsObject id = code_part id.0 ≡ 0

-- a device call is numbered from 1, in 32 bits
abbrev pub IsCall : ℕ → Type 0
IsCall call = (1 ≤ call) × (call < 2 ^ 32)

abbrev pub FitsUnder : Option (Id × Protocol) → Type 0
FitsUnder None = Unit {0}
FitsUnder (Some (id, protocol)) = IsObject id

abbrev pub FitsExpires : Option ℕ → Type 0
FitsExpires None = Unit {0}
FitsExpires (Some time) = time < 2 ^ 32

-- A message's number has 64 bits, every other 32, and names are those of objects.
abbrev pub IsWritten : Event → Type 0
IsWritten (event.Create node kind under expires) = (node < 2 ^ 32) × FitsUnder under × FitsExpires expires
IsWritten (event.Join node protocol scope) = (node < 2 ^ 32) × IsObject scope
IsWritten (event.Tick id) = IsObject id
IsWritten (event.Deliver number) = number < 2 ^ 64
IsWritten (event.Act id a) = IsObject id
IsWritten (event.Ask id) = IsObject id
IsWritten (event.Decide id v) = IsObject id
IsWritten (event.Choose id v) = IsObject id
IsWritten (event.Complete id) = IsObject id
IsWritten (event.Finish id) = IsObject id
IsWritten (event.Leave id l) = IsObject id
IsWritten (event.Wait time) = time < 2 ^ 32
IsWritten (event.Crash node) = node < 2 ^ 32
IsWritten (event.CrashAt node call i) = (node < 2 ^ 32) × IsCall call
IsWritten (event.Fail node call) = (node < 2 ^ 32) × IsCall call
IsWritten (event.Open node) = node < 2 ^ 32

-- an event of a world and the number of its line in the script
abbrev pub NumberedEvent : Type 0
NumberedEvent = ℕ × Event

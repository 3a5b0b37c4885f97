-- Believe: requests and replies, as their bytes come one by one.
use Rattle.std.specs.Prelude.{◌≡◌, ℕ, ◌+◌, ◌<◌, ◌≤◌, ◌⊎◌, List, ◌++◌, length, take, Option, Some, None, Result, Ok, Err, ⊤}
use Rattle.std.specs.Io.KnownBytes.{Consumes, IsAtEnd}
use Rattle.ba_http_head.specs.declared.blocks.TheConstants.{BLOCK}
use Rattle.ba_http_head.specs.declared.faults.HttpFault.{HttpFault}
use Rattle.ba_http_head.specs.declared.faults.HttpFault.TheVariants.{Memory, BadHead, Length as NoLength, TooLarge, BadChunk, Truncated}
use Rattle.ba_http_head.specs.declared.faults.HttpFault.TheVariants.{Read}
use Rattle.ba_http_head.specs.declared.headings.Heading.{Heading}
use Rattle.ba_http_head.specs.declared.lengths.Length.{Length}
use Rattle.ba_http_head.specs.declared.lengths.Length.TheVariants.{Counted, Chunked}
use Rattle.ba_http_head.specs.declared.lengths.TheConstants.{MOST_BODY}
use Rattle.ba_http_head.specs.declared.scans.Shown.TheVariants.{Bad, Large}
use Rattle.ba_http_head.specs.HeadLines.{IsOpen}
use Rattle.ba_http_head.specs.Heads.{StartLine, asks, answers, IsHead}
use Rattle.ba_http_head.specs.Looks.{Shows}
use Rattle.ba_http_chunks.specs.Transfers.{IsUnended, ShowsBody, Sight, whole, broken, large}
use Rattle.ba_http.specs.declared.requests.Request.{Request}
use Rattle.ba_http.specs.declared.replies.Reply.{Reply}

-- Something shows itself of a body at the last of these bytes, by what the head says of where it ends. A body that goes on to
-- the end of the input is never whole before.
abbrev pub EndsBody : Option Length → List ℕ → Sight → Type 0
EndsBody (Some (Counted n)) transfer (whole body) = (length transfer ≡ n) × (body ≡ transfer)
EndsBody (Some (Counted n)) transfer (broken place) = ⊥
EndsBody (Some (Counted n)) transfer large = ⊥
EndsBody (Some Chunked) transfer sight = ShowsBody transfer sight
EndsBody None transfer (whole body) = ⊥
EndsBody None transfer (broken place) = ⊥
EndsBody None transfer large = length transfer ≡ MOST_BODY + 1

-- nothing has shown itself of the body
abbrev pub IsShortTransfer : Option Length → List ℕ → Type 0
IsShortTransfer (Some (Counted n)) transfer = length transfer < n
IsShortTransfer (Some Chunked) transfer = IsUnended transfer
IsShortTransfer None transfer = length transfer ≤ MOST_BODY

-- a message: what its first line says, and its body
pub record HttpMessage : Type 0 where
  pub start : StartLine
  pub body : List ℕ

-- after a whole head this shows itself of the body, at the last of these bytes
abbrev pub ShowsAfterHead : Heading → List ℕ → StartLine → Sight → Type 0
ShowsAfterHead heading bytes start sight =
    (prefix : List ℕ) × (transfer : List ℕ) × (length : Option Length) × (bytes ≡ prefix ++ transfer)
    × IsHead heading prefix start (Ok length) × EndsBody length transfer sight

-- at the last of these bytes, and not before, it shows itself that this is the message, or that there is none and why
abbrev pub Decides : Heading → List ℕ → Result HttpMessage HttpFault → Type 0
Decides heading bytes (Ok message) = ShowsAfterHead heading bytes message.start (whole message.body)
Decides heading bytes (Err Memory) = ⊥
Decides heading bytes (Err (BadHead place)) = Shows heading bytes (Bad place)
Decides heading bytes (Err NoLength) = (start : StartLine) × IsHead heading bytes start (Err NoLength)
Decides heading bytes (Err TooLarge) =
    Shows heading bytes Large
    ⊎ (((start : StartLine) × IsHead heading bytes start (Err TooLarge))
    ⊎ ((start : StartLine) × ShowsAfterHead heading bytes start large))
Decides heading bytes (Err (BadChunk place)) = (start : StartLine) × ShowsAfterHead heading bytes start (broken place)
Decides heading bytes (Err Truncated) = ⊥
Decides heading bytes (Err Read) = ⊥

-- a whole head has come, and nothing has shown itself of the body
abbrev pub IsAfterHead : Heading → List ℕ → Option Length → Type 0
IsAfterHead heading bytes length =
    (prefix : List ℕ) × (transfer : List ℕ) × (start : StartLine) × (bytes ≡ prefix ++ transfer)
    × IsHead heading prefix start (Ok length) × IsShortTransfer length transfer

-- nothing has shown itself yet
abbrev pub IsUnfinished : Heading → List ℕ → Type 0
IsUnfinished heading bytes = IsOpen heading bytes ⊎ ((length : Option Length) × IsAfterHead heading bytes length)

-- the end of the input after these bytes ends no message
abbrev pub IsCutShort : Heading → List ℕ → Type 0
IsCutShort heading bytes = IsOpen heading bytes ⊎ ((length : Length) × IsAfterHead heading bytes (Some length))

-- the end of the input after these bytes ends this message, whose head says no length
abbrev pub EndsAtInput : Heading → List ℕ → HttpMessage → Type 0
EndsAtInput heading bytes message =
    (prefix : List ℕ) × (bytes ≡ prefix ++ message.body) × IsHead heading prefix message.start (Ok None)
    × IsShortTransfer None message.body

-- what the bytes that were taken say, or the end of the input after them
abbrev pub MessageSo : Heading → List ℕ → Option (List ℕ) → Result HttpMessage HttpFault → Type 0
MessageSo heading taken left (Ok message) =
    ((n : ℕ) × (n ≤ length taken) × Decides heading (take n taken) (Ok message)) ⊎ (EndsAtInput heading taken message × IsAtEnd left)
MessageSo heading taken left (Err Memory) = ⊤
MessageSo heading taken left (Err (BadHead place)) = (n : ℕ) × (n ≤ length taken) × Decides heading (take n taken) (Err (BadHead place))
MessageSo heading taken left (Err NoLength) = (n : ℕ) × (n ≤ length taken) × Decides heading (take n taken) (Err NoLength)
MessageSo heading taken left (Err TooLarge) = (n : ℕ) × (n ≤ length taken) × Decides heading (take n taken) (Err TooLarge)
MessageSo heading taken left (Err (BadChunk place)) = (n : ℕ) × (n ≤ length taken) × Decides heading (take n taken) (Err (BadChunk place))
MessageSo heading taken left (Err Truncated) = IsCutShort heading taken × IsAtEnd left
MessageSo heading taken left (Err Read) = IsUnfinished heading taken

-- Bytes were taken with which nothing had shown itself yet, and then a block at most.
abbrev pub Reads : Heading → Option (List ℕ) → Option (List ℕ) → Result HttpMessage HttpFault → Type 0
Reads heading old new result =
    (before : List ℕ) × (last : List ℕ) × Consumes old new (before ++ last) × IsUnfinished heading before × (length last ≤ BLOCK)
    × MessageSo heading (before ++ last) new result

-- the message of a request
abbrev pub request_message : Result Request HttpFault → Result HttpMessage HttpFault
request_message (Ok request) = Ok (record { start = asks request.method request.path; body = request.body })
request_message (Err fault) = Err fault

-- the message of a reply
abbrev pub reply_message : Result Reply HttpFault → Result HttpMessage HttpFault
reply_message (Ok reply) = Ok (record { start = answers reply.code; body = reply.body })
reply_message (Err fault) = Err fault

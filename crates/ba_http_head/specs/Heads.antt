-- Believe: what the head of a request or of a reply says, and what reading one gives.
use Rattle.std.specs.Prelude.{◌≡◌, ℕ, ◌≤◌, ◌⊎◌, List, [], ◌++◌, length, take, drop, map, Option, Some, Result, Ok, Err, ⊤}
use Rattle.std.specs.Io.KnownBytes.{Consumes, IsAtEnd}
use Rattle.httparse.specs.Grammar.{RequestHead, ReadsRequest, ResponseHead, ReadsResponse, status_code}
use Rattle.httparse.specs.Spans.{name_and_value}
use Rattle.ba_http_head.specs.declared.blocks.TheConstants.{BLOCK}
use Rattle.ba_http_head.specs.declared.headings.Heading.{Heading}
use Rattle.ba_http_head.specs.declared.headings.Heading.TheVariants.{Request, Reply, Trailer}
use Rattle.ba_http_head.specs.declared.faults.HttpFault.{HttpFault}
use Rattle.ba_http_head.specs.declared.faults.HttpFault.TheVariants.{Memory, BadHead, Length as NoLength, TooLarge, BadChunk, Truncated}
use Rattle.ba_http_head.specs.declared.faults.HttpFault.TheVariants.{Read}
use Rattle.ba_http_head.specs.declared.heads.Head.{Head}
use Rattle.ba_http_head.specs.declared.heads.ReplyHead.{ReplyHead}
use Rattle.ba_http_head.specs.declared.lengths.Length.{Length}
use Rattle.ba_http_head.specs.declared.scans.Shown.TheVariants.{Whole, Bad, Large}
use Rattle.ba_http_head.specs.HeadLines.{IsOpen}
use Rattle.ba_http_head.specs.Looks.{Shows}
use Rattle.ba_http_head.specs.Lengths.{length_of, needed_length}

-- what a head's first line says
pub data StartLine : Type 0 where
  asks : (method target : List ℕ) → StartLine
  answers : (code : ℕ) → StartLine

-- a whole head says this in its first line, and of where the body ends
abbrev pub SaysHead : Heading → List ℕ → StartLine → Result (Option Length) HttpFault → Type 0
SaysHead Request prefix start length =
    (h : RequestHead) × ReadsRequest prefix h [] × (start ≡ asks h.method h.target)
    × (length ≡ needed_length (length_of (map name_and_value h.fields)))
SaysHead Reply prefix start length =
    (h : ResponseHead) × ReadsResponse prefix h [] × (start ≡ answers (status_code h))
    × (length ≡ length_of (map name_and_value h.fields))
SaysHead Trailer prefix start length = ⊥

-- the head is all of these bytes, shows itself whole at the last, and says this
pub record IsHead (heading : Heading) (prefix : List ℕ) (start : StartLine) (length : Result (Option Length) HttpFault) : Type 0 where
  pub shows : Shows heading prefix Whole
  pub says : SaysHead heading prefix start length

-- a head, and the bytes after it that were taken with it
pub record Opening : Type 0 where
  pub start : StartLine
  pub length : Option Length
  pub rest : List ℕ

-- the opening of a request
abbrev pub request_opening : Result Head HttpFault → Result Opening HttpFault
request_opening (Ok head) = Ok (record { start = asks head.method head.path; length = Some head.length; rest = head.rest })
request_opening (Err fault) = Err fault

-- the opening of a reply
abbrev pub reply_opening : Result ReplyHead HttpFault → Result Opening HttpFault
reply_opening (Ok head) = Ok (record { start = answers head.code; length = head.length; rest = head.rest })
reply_opening (Err fault) = Err fault

-- what the bytes that were taken say, or the end of the input after them
abbrev pub OpeningSo : Heading → List ℕ → Option (List ℕ) → Result Opening HttpFault → Type 0
OpeningSo heading taken left (Ok opening) =
    (n : ℕ) × (n ≤ length taken) × IsHead heading (take n taken) opening.start (Ok opening.length) × (opening.rest ≡ drop n taken)
OpeningSo heading taken left (Err Memory) = ⊤
OpeningSo heading taken left (Err (BadHead place)) = (n : ℕ) × (n ≤ length taken) × Shows heading (take n taken) (Bad place)
OpeningSo heading taken left (Err NoLength) =
    (n : ℕ) × (n ≤ length taken) × (start : StartLine) × IsHead heading (take n taken) start (Err NoLength)
OpeningSo heading taken left (Err TooLarge) =
    (n : ℕ) × (n ≤ length taken)
    × (Shows heading (take n taken) Large ⊎ ((start : StartLine) × IsHead heading (take n taken) start (Err TooLarge)))
OpeningSo heading taken left (Err (BadChunk place)) = ⊥
OpeningSo heading taken left (Err Truncated) = IsOpen heading taken × IsAtEnd left
OpeningSo heading taken left (Err Read) = IsOpen heading taken

-- Bytes were taken with which nothing had shown itself yet, and then a block at most.
abbrev pub Opens : Heading → Option (List ℕ) → Option (List ℕ) → Result Opening HttpFault → Type 0
Opens heading old new result =
    (before : List ℕ) × (last : List ℕ) × Consumes old new (before ++ last) × IsOpen heading before × (length last ≤ BLOCK)
    × OpeningSo heading (before ++ last) new result

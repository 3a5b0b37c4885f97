-- Inside: what reading a body after its head gives, in one form for each way in which it ends.
use Rattle.std.specs.Prelude.{◌≡◌, ℕ, ◌≤◌, ◌⊎◌, List, [], ◌++◌, length, take, Option, Some, None, Result, Ok, Err, ⊤}
use Rattle.std.specs.Io.KnownBytes.{Consumes, IsAtEnd}
use Rattle.ba_http_head.specs.declared.blocks.TheConstants.{BLOCK}
use Rattle.ba_http_head.specs.declared.faults.HttpFault.{HttpFault}
use Rattle.ba_http_head.specs.declared.faults.HttpFault.TheVariants.{Memory, BadHead, Length as NoLength, TooLarge, BadChunk, Truncated}
use Rattle.ba_http_head.specs.declared.faults.HttpFault.TheVariants.{Read}
use Rattle.ba_http_head.specs.declared.lengths.Length.{Length}
use Rattle.ba_http_chunks.specs.Transfers.{whole, broken, large}
use Rattle.ba_http.specs.Messages.{EndsBody, IsShortTransfer}

-- of the body some bytes were at hand, and these were taken: none, or some with which nothing had shown itself yet, and then a block
abbrev pub StopsShort : Option Length → List ℕ → List ℕ → Type 0
StopsShort said hand taken =
    (taken ≡ [])
    ⊎ ((before : List ℕ) × (last : List ℕ) × (taken ≡ before ++ last) × IsShortTransfer said (hand ++ before) × (length last ≤ BLOCK))

-- what the bytes say
abbrev pub BodySo : Option Length → List ℕ → Option (List ℕ) → Result (List ℕ) HttpFault → Type 0
BodySo said bytes left (Ok body) =
    ((n : ℕ) × (n ≤ length bytes) × EndsBody said (take n bytes) (whole body))
    ⊎ ((said ≡ None) × (body ≡ bytes) × IsShortTransfer None bytes × IsAtEnd left)
BodySo said bytes left (Err Memory) = ⊤
BodySo said bytes left (Err (BadHead place)) = ⊥
BodySo said bytes left (Err NoLength) = ⊥
BodySo said bytes left (Err TooLarge) = (n : ℕ) × (n ≤ length bytes) × EndsBody said (take n bytes) large
BodySo said bytes left (Err (BadChunk place)) = (n : ℕ) × (n ≤ length bytes) × EndsBody said (take n bytes) (broken place)
BodySo said bytes left (Err Truncated) = (length : Length) × (said ≡ Some length) × IsShortTransfer said bytes × IsAtEnd left
BodySo said bytes left (Err Read) = IsShortTransfer said bytes

abbrev pub ReadsBody : Option Length → List ℕ → Option (List ℕ) → Option (List ℕ) → Result (List ℕ) HttpFault → Type 0
ReadsBody said hand left_old left_new result =
    (taken : List ℕ) × Consumes left_old left_new taken × StopsShort said hand taken × BodySo said (hand ++ taken) left_new result

-- the body that was taken on, or the fault
abbrev pub body_or : List ℕ → Result (Unit {0}) HttpFault → Result (List ℕ) HttpFault
body_or body (Ok done) = Ok body
body_or body (Err fault) = Err fault

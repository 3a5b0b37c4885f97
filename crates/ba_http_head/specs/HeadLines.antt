-- Believe: what shows itself of a head or of a trailer as its bytes are taken one by one.
use Rattle.std.specs.Prelude.{◌≡◌, ℕ, ◌-◌, ◌<◌, ◌≤◌, ◌⊎◌, Bool, true, false, not, nat_eq, List, [], ◌∷◌, ◌++◌, length, take}
use Rattle.std.specs.List.{count_by, list_any}
use Rattle.ba_ports.specs.Lines.{lines_of}
use Rattle.httparse.specs.Grammar.{LineEnd, Field, ReadsSection, NeverHasSection, RequestHead, ReadsRequest, NeverHasRequest, ResponseHead}
use Rattle.httparse.specs.Grammar.{ReadsResponse, NeverHasResponse}
use Rattle.ba_http_head.specs.declared.headings.Heading.{Heading}
use Rattle.ba_http_head.specs.declared.headings.Heading.TheVariants.{Request, Reply, Trailer}
use Rattle.ba_http_head.specs.declared.scans.TheConstants.{MOST_HEAD, MOST_FIELDS}

-- these bytes are a whole one
abbrev pub IsWhole : Heading → List ℕ → Type 0
IsWhole Request prefix = (h : RequestHead) × ReadsRequest prefix h []
IsWhole Reply prefix = (h : ResponseHead) × ReadsResponse prefix h []
IsWhole Trailer prefix = (fields : List Field) × (last : LineEnd) × ReadsSection prefix fields last []

-- none goes on with these bytes, and no prefix of them is one
abbrev pub NeverWhole : Heading → List ℕ → Type 0
NeverWhole Request prefix = NeverHasRequest prefix
NeverWhole Reply prefix = NeverHasResponse prefix
NeverWhole Trailer prefix = NeverHasSection prefix

-- it has a line feed
abbrev pub has_feed : List ℕ → Bool
has_feed line = list_any (λ byte. nat_eq byte 10) line

-- the last byte is a line feed
abbrev pub EndsInFeed : List ℕ → Type 0
EndsInFeed bytes = (line : List ℕ) × (bytes ≡ line ++ 10 ∷ [])

-- a line begins after these bytes
abbrev pub BeginsLine : List ℕ → Type 0
BeginsLine bytes = (bytes ≡ []) ⊎ EndsInFeed bytes

-- an empty line, which may have a carriage return
abbrev pub is_empty_line : List ℕ → Bool
is_empty_line [] = true
is_empty_line (byte ∷ []) = nat_eq byte 13
is_empty_line (byte ∷ more ∷ bytes) = false

-- how many lines aren't empty
abbrev pub filled_lines : List ℕ → ℕ
filled_lines bytes = count_by (λ line. not (is_empty_line line)) (lines_of bytes)

-- how many lines that aren't empty stand before the fields
abbrev pub start_lines : Heading → ℕ
start_lines Request = 1
start_lines Reply = 1
start_lines Trailer = 0

-- how many lines count as fields, whatever their bytes
abbrev pub field_lines : Heading → List ℕ → ℕ
field_lines heading bytes = filled_lines bytes - start_lines heading

-- they pass a limit
abbrev pub IsPastLimits : Heading → List ℕ → Type 0
IsPastLimits heading prefix = (MOST_HEAD < length prefix) ⊎ (EndsInFeed prefix × (MOST_FIELDS < field_lines heading prefix))

-- they end in a line feed, and none goes on with them
abbrev pub EndsBadLine : Heading → List ℕ → Type 0
EndsBadLine heading prefix = EndsInFeed prefix × NeverWhole heading prefix

-- something shows itself at the last of these bytes, or did before
abbrev pub Settles : Heading → List ℕ → Type 0
Settles heading prefix = IsPastLimits heading prefix ⊎ (EndsBadLine heading prefix ⊎ IsWhole heading prefix)

-- nothing has shown itself yet
abbrev pub IsOpen : Heading → List ℕ → Type 0
IsOpen heading bytes = (n : ℕ) → n ≤ length bytes → ¬ (Settles heading (take n bytes))

-- something shows itself at the last of these bytes, and nothing did before
abbrev pub SettlesFirst : Heading → List ℕ → Type 0
SettlesFirst heading prefix = Settles heading prefix × ((n : ℕ) → n < length prefix → ¬ (Settles heading (take n prefix)))

-- the last line of these bytes begins at this place
abbrev pub LastLineAt : List ℕ → ℕ → Type 0
LastLineAt prefix place =
    (before : List ℕ) × (line : List ℕ) × BeginsLine before × (has_feed line ≡ false) × (prefix ≡ before ++ (line ++ 10 ∷ []))
    × (place ≡ length before)

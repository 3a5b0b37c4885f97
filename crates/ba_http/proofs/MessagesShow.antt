-- Of any bytes something shows itself as a message, or they are one that isn't finished; for the law.
use Rattle.std.proofs.Common.{◌≡◌, ℕ, ◌+◌, ◌≤◌, inl, inr, true, false, if◌then◌else◌, List, [], ◌∷◌, ◌++◌, length, take, drop, map, refl}
use Rattle.std.proofs.Common.{sym, ap, ◌∙◌, arith, length-drop, take-append-drop, Option, None, Some, Result, Ok, Err}
use Rattle.std.specs.Prelude.{nat_le, codes, ⊤}
use Rattle.std.specs.List.{list_all}
use Rattle.std.specs.Str.Parse.{digits_value}
use Rattle.std.proofs.lemmas.Bool.{cases_lt}
use Rattle.std.proofs.lemmas.List.{length-take-le}
use Rattle.std.proofs.Math.Seq.{take-append-add}
use Rattle.httparse.specs.Grammar.{status_code}
use Rattle.httparse.specs.Spans.{name_and_value}
use Rattle.ba_http_head.specs.declared.faults.HttpFault.{HttpFault}
use Rattle.ba_http_head.specs.declared.faults.HttpFault.TheVariants.{Memory, BadHead, Length as NoLength, TooLarge, BadChunk, Truncated}
use Rattle.ba_http_head.specs.declared.faults.HttpFault.TheVariants.{Read}
use Rattle.ba_http_head.specs.declared.headings.Heading.{Heading}
use Rattle.ba_http_head.specs.declared.headings.Heading.TheVariants.{Request, Reply, Trailer}
use Rattle.ba_http_head.specs.declared.lengths.Length.{Length}
use Rattle.ba_http_head.specs.declared.lengths.Length.TheVariants.{Counted, Chunked}
use Rattle.ba_http_head.specs.declared.lengths.TheConstants.{MOST_BODY}
use Rattle.ba_http_head.specs.declared.scans.Shown.TheVariants.{Whole, Bad, Large}
use Rattle.ba_http_head.specs.Heads.{StartLine, asks, answers, SaysHead, IsHead}
use Rattle.ba_http_head.specs.Lengths.{length_by, length_of, needed_length, counted_length, is_length, is_chunked, values_of}
use Rattle.ba_http_head.specs.Looks.{Shows}
use Rattle.ba_http_chunks.specs.Transfers.{Sight, whole, broken, large}
use Rattle.ba_http.specs.Messages.{EndsBody, IsShortTransfer, HttpMessage, ShowsAfterHead, Decides, IsUnfinished}
use Rattle.ba_http.specs.Answers.{SaysNoHead, SaysNoBody, SaysNoMessage}
use Rattle.ba_http.proofs.NotNever.{NotNever, sure, follow}
use Rattle.ba_http.proofs.HeadsShow.{HeadSeen, goes_on, shows, head_seen}
use Rattle.ba_http.proofs.BodiesShow.{BodySeen, body_seen}
use Rattle.ba_http.proofs.BodiesShow.{goes_on as body_goes_on, shows as body_shows}

-- a length, or a refusal for the fields
abbrev BySaid : Result (Option Length) HttpFault → Type 0
BySaid (Ok said) = ⊤
BySaid (Err Memory) = ⊥
BySaid (Err (BadHead place)) = ⊥
BySaid (Err NoLength) = ⊤
BySaid (Err TooLarge) = ⊤
BySaid (Err (BadChunk place)) = ⊥
BySaid (Err Truncated) = ⊥
BySaid (Err Read) = ⊥

counted_said : (n : ℕ) → BySaid (counted_length n)
counted_said n = elim (nat_le n MOST_BODY) as (λ t. BySaid (if t then Ok (Some (Counted n)) else Err TooLarge)) [ true ↦ tt | false ↦ tt ]

said_by : (lengths codings : List (List ℕ)) → BySaid (length_by lengths codings)
said_by [] [] = tt
said_by (first ∷ others) [] =
    elim (list_all (is_length first) (first ∷ others)) as
    (λ t. BySaid (if t then counted_length (digits_value 10 first) else Err NoLength)) [
      | true ↦ counted_said (digits_value 10 first)
      | false ↦ tt
    ]
said_by [] (first ∷ others) =
    elim (list_all is_chunked (first ∷ others)) as (λ t. BySaid (if t then Ok (Some Chunked) else Err NoLength)) [ true ↦ tt | false ↦ tt ]
said_by (length ∷ lengths) (coding ∷ codings) = tt

said_of : (fields : List (List ℕ × List ℕ)) → BySaid (length_of fields)
said_of fields = said_by (values_of (codes "content-length") fields) (values_of (codes "transfer-encoding") fields)

needed_said : (said : Result (Option Length) HttpFault) → BySaid said → BySaid (needed_length said)
needed_said (Ok None) by = tt
needed_said (Ok (Some length)) by = tt
needed_said (Err Memory) by = absurd by
needed_said (Err (BadHead place)) by = absurd by
needed_said (Err NoLength) by = tt
needed_said (Err TooLarge) by = tt
needed_said (Err (BadChunk place)) by = absurd by
needed_said (Err Truncated) by = absurd by
needed_said (Err Read) by = absurd by

-- what a whole head says
record Said (heading : Heading) (prefix : List ℕ) : Type 0 where
  start : StartLine
  said : Result (Option Length) HttpFault
  is : SaysHead heading prefix start said
  by : BySaid said

-- a heading that begins a message
abbrev pub BeginsMessage : Heading → Type 0
BeginsMessage Request = ⊤
BeginsMessage Reply = ⊤
BeginsMessage Trailer = ⊥

head_says : (heading : Heading) (prefix : List ℕ) → BeginsMessage heading → Shows heading prefix Whole → Said heading prefix
head_says Request prefix message is =
    let h = is.1.0 in record {
      start = asks h.method h.target;
      said = needed_length (length_of (map name_and_value h.fields));
      is = (h, is.1.1, refl, refl);
      by = needed_said (length_of (map name_and_value h.fields)) (said_of (map name_and_value h.fields));
    }
head_says Reply prefix message is =
    let h = is.1.0 in record {
      start = answers (status_code h);
      said = length_of (map name_and_value h.fields);
      is = (h, is.1.1, refl, refl);
      by = said_of (map name_and_value h.fields);
    }
head_says Trailer prefix message is = absurd message

-- what is seen of bytes
data MessageSeen (heading : Heading) (bytes : List ℕ) : Type 0 where
  unfinished : IsUnfinished heading bytes → MessageSeen heading bytes
  decided : (n : ℕ) → (result : Result HttpMessage HttpFault) → n ≤ length bytes → Decides heading (take n bytes) result
      → MessageSeen heading bytes

-- after a whole head with a length, or with none
module _ (heading : Heading) (bytes : List ℕ) (n : ℕ) (within : n ≤ length bytes) (start : StartLine) (said : Option Length)
    (is : IsHead heading (take n bytes) start (Ok said)) where
  short : IsShortTransfer said (drop n bytes) → MessageSeen heading bytes
  short yet = unfinished (inr (said, (take n bytes, drop n bytes, start, sym (take-append-drop n bytes), is, yet)))

  at : (m : ℕ) → take (n + m) bytes ≡ take n bytes ++ take m (drop n bytes)
  at m =
      ap (λ k. take (k + m) bytes) (sym (length-take-le n bytes within))
      ∙ ap (take (length (take n bytes) + m)) (sym (take-append-drop n bytes)) ∙ take-append-add (take n bytes) (drop n bytes) m

  inside : (m : ℕ) → m ≤ length (drop n bytes) → n + m ≤ length bytes
  inside m less = omega (arith, less, length-drop n bytes, within)

  after : (m : ℕ) (sight : Sight) → EndsBody said (take m (drop n bytes)) sight → ShowsAfterHead heading (take (n + m) bytes) start sight
  after m sight ends = (take n bytes, take m (drop n bytes), said, at m, is, ends)

  shown : (m : ℕ) (sight : Sight) → m ≤ length (drop n bytes) → EndsBody said (take m (drop n bytes)) sight → MessageSeen heading bytes
  shown m (whole body) less ends =
      decided (n + m) (Ok (record { start = start; body = body })) (inside m less) (after m (whole body) ends)
  shown m (broken place) less ends = decided (n + m) (Err (BadChunk place)) (inside m less) (start, after m (broken place) ends)
  shown m large less ends = decided (n + m) (Err TooLarge) (inside m less) (inr (inr (start, after m large ends)))

body_said : (heading : Heading) (bytes : List ℕ) (n : ℕ) (within : n ≤ length bytes) (start : StartLine) (said : Option Length)
    → IsHead heading (take n bytes) start (Ok said) → NotNever (MessageSeen heading bytes)
body_said heading bytes n within start (Some (Counted count)) is =
    elim (cases_lt (length (drop n bytes)) count) [
      | inl less ↦ sure (short heading bytes n within start (Some (Counted count)) is less)
      | inr most ↦
          sure (shown heading bytes n within start (Some (Counted count)) is count (whole (take count (drop n bytes))) most
          (length-take-le count (drop n bytes) most, refl))
    ]
body_said heading bytes n within start (Some Chunked) is = follow (body_seen (drop n bytes)) (λ t. sure (now t))
  where
    now : BodySeen (drop n bytes) → MessageSeen heading bytes
    now (body_goes_on yet) = short heading bytes n within start (Some Chunked) is yet
    now (body_shows m sight less ends) = shown heading bytes n within start (Some Chunked) is m sight less ends
body_said heading bytes n within start None is =
    elim (cases_lt MOST_BODY (length (drop n bytes))) [
      | inl past ↦
          sure (shown heading bytes n within start None is (MOST_BODY + 1) large (omega (arith, past))
          (length-take-le (MOST_BODY + 1) (drop n bytes) (omega (arith, past))))
      | inr small ↦ sure (short heading bytes n within start None is small)
    ]

fields_said : (heading : Heading) (bytes : List ℕ) (n : ℕ) (within : n ≤ length bytes) (start : StartLine)
    (said : Result (Option Length) HttpFault)
    → IsHead heading (take n bytes) start said → BySaid said → NotNever (MessageSeen heading bytes)
fields_said heading bytes n within start (Ok said) is by = body_said heading bytes n within start said is
fields_said heading bytes n within start (Err Memory) is by = absurd by
fields_said heading bytes n within start (Err (BadHead place)) is by = absurd by
fields_said heading bytes n within start (Err NoLength) is by = sure (decided n (Err NoLength) within (start, is))
fields_said heading bytes n within start (Err TooLarge) is by = sure (decided n (Err TooLarge) within (inr (inl (start, is))))
fields_said heading bytes n within start (Err (BadChunk place)) is by = absurd by
fields_said heading bytes n within start (Err Truncated) is by = absurd by
fields_said heading bytes n within start (Err Read) is by = absurd by

message_seen : (heading : Heading) (bytes : List ℕ) → BeginsMessage heading → NotNever (MessageSeen heading bytes)
message_seen heading bytes message = follow (head_seen heading bytes) after_head
  where
    after_head : HeadSeen heading bytes → NotNever (MessageSeen heading bytes)
    after_head (goes_on yet) = sure (unfinished (inl yet))
    after_head (shows n Whole within is) =
        let says = head_says heading (take n bytes) message is in
        fields_said heading bytes n within says.start says.said (record { shows = is; says = says.is }) says.by
    after_head (shows n (Bad place) within is) = sure (decided n (Err (BadHead place)) within is)
    after_head (shows n Large within is) = sure (decided n (Err TooLarge) within (inl is))

pub some_head : (heading : Heading) (bytes : List ℕ) → ¬ (SaysNoHead heading bytes)
some_head heading bytes none = head_seen heading bytes seen
  where
    seen : HeadSeen heading bytes → ⊥
    seen (goes_on yet) = none.0 yet
    seen (shows n shown within is) = none.1 n shown within is

pub some_body : (bytes : List ℕ) → ¬ (SaysNoBody bytes)
some_body bytes none = body_seen bytes seen
  where
    seen : BodySeen bytes → ⊥
    seen (body_goes_on yet) = none.0 yet
    seen (body_shows n sight within is) = none.1 n sight within is

pub some_message : (heading : Heading) (bytes : List ℕ) → BeginsMessage heading → ¬ (SaysNoMessage heading bytes)
some_message heading bytes message none = message_seen heading bytes message seen
  where
    seen : MessageSeen heading bytes → ⊥
    seen (unfinished yet) = none.0 yet
    seen (decided n result within is) = none.1 n result within is

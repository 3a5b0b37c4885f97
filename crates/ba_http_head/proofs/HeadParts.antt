-- What the parser finds of a head that is whole; for request_head and reply_head.
use Rattle.std.proofs.Common.{◌≡◌, ℕ, ◌≤◌, inl, inr, true, false, if◌then◌else◌, List, [], ◌∷◌, length, ap, subst, arith, Result, Ok, Err}
use Rattle.std.proofs.Common.{Option, Some}
use Rattle.std.specs.Prelude.{nat_le}
use Rattle.std.specs.List.{list_all}
use Rattle.std.specs.Str.Parse.{digits_value}
use Rattle.std.proofs.lemmas.Bool.{cases_lt}
use Rattle.httparse.specs.Grammar.{RequestHead, ReadsRequest, ResponseHead, ReadsResponse}
use Rattle.ba_http_head.specs.declared.headings.Heading.{Heading}
use Rattle.ba_http_head.specs.declared.headings.Heading.TheVariants.{Request, Reply}
use Rattle.ba_http_head.specs.declared.faults.HttpFault.{HttpFault}
use Rattle.ba_http_head.specs.declared.faults.HttpFault.TheVariants.{Memory, BadHead, Length as NoLength, TooLarge, BadChunk, Truncated}
use Rattle.ba_http_head.specs.declared.faults.HttpFault.TheVariants.{Read}
use Rattle.ba_http_head.specs.declared.lengths.Length.{Length}
use Rattle.ba_http_head.specs.declared.lengths.Length.TheVariants.{Counted, Chunked}
use Rattle.ba_http_head.specs.declared.lengths.TheConstants.{MOST_BODY}
use Rattle.ba_http_head.specs.declared.scans.TheConstants.{MOST_FIELDS}
use Rattle.ba_http_head.specs.HeadLines.{IsWhole, IsPastLimits, field_lines, filled_lines}
use Rattle.ba_http_head.specs.Heads.{StartLine, SaysHead}
use Rattle.ba_http_head.specs.Lengths.{length_by, counted_length, is_length, is_chunked}
use Rattle.ba_http_head.specs.inside.HeadParts.{HeadSo}
use Rattle.ba_http_head.proofs.Printed.{request_counts, response_counts}
use Rattle.ba_http_head.proofs.LookLemmas.{whole_ends}

pub few_fields : (prefix : List ℕ) (h : RequestHead) → ReadsRequest prefix h [] → field_lines Request prefix ≤ MOST_FIELDS
    → length h.fields ≤ MOST_FIELDS
few_fields prefix h reads few =
    let count = request_counts h [] (subst (λ v. ReadsRequest v h []) reads.1 reads) in
    omega (arith, count, few, ap filled_lines reads.1)

pub few_fields_of_reply : (prefix : List ℕ) (h : ResponseHead) → ReadsResponse prefix h [] → field_lines Reply prefix ≤ MOST_FIELDS
    → length h.fields ≤ MOST_FIELDS
few_fields_of_reply prefix h reads few =
    let count = response_counts h [] (subst (λ v. ReadsResponse v h []) reads.1 reads) in
    omega (arith, count, few, ap filled_lines reads.1)

-- within the limits there are few fields
pub in_limits : (heading : Heading) (prefix : List ℕ) → IsWhole heading prefix → ¬ (IsPastLimits heading prefix)
    → field_lines heading prefix ≤ MOST_FIELDS
in_limits heading prefix whole within =
    elim (cases_lt MOST_FIELDS (field_lines heading prefix)) [
      | inl many ↦ absurd (within (inr (whole_ends heading prefix whole, many)))
      | inr few ↦ few
    ]

-- a length's fault is one of two
IsFine : Result (Option Length) HttpFault → Type 0
IsFine (Ok f) = Unit {0}
IsFine (Err Memory) = ⊥
IsFine (Err (BadHead place)) = ⊥
IsFine (Err NoLength) = Unit {0}
IsFine (Err TooLarge) = Unit {0}
IsFine (Err (BadChunk place)) = ⊥
IsFine (Err Truncated) = ⊥
IsFine (Err Read) = ⊥

fine : (lengths codings : List (List ℕ)) → IsFine (length_by lengths codings)
unfolding IsFine
fine [] [] = tt
fine (first ∷ others) [] =
    elim (list_all (is_length first) (first ∷ others)) as
    (λ t. IsFine (if t then counted_length (digits_value 10 first) else Err NoLength)) [
      | true ↦
          elim (nat_le (digits_value 10 first) MOST_BODY) as
          (λ t. IsFine (if t then Ok (Some (Counted (digits_value 10 first))) else Err TooLarge)) [
            | true ↦ tt
            | false ↦ tt
          ]
      | false ↦ tt
    ]
fine [] (first ∷ others) =
    elim (list_all is_chunked (first ∷ others)) as (λ t. IsFine (if t then Ok (Some Chunked) else Err NoLength)) [ true ↦ tt | false ↦ tt ]
fine (length ∷ lengths) (coding ∷ codings) = tt

said : (heading : Heading) (prefix rest : List ℕ) (start : StartLine) (fault : HttpFault) → SaysHead heading prefix start (Err fault)
    → IsFine (Err fault) → HeadSo heading prefix rest (Err fault)
unfolding IsFine
said heading prefix rest start Memory says one = absurd one
said heading prefix rest start (BadHead place) says one = absurd one
said heading prefix rest start NoLength says one = (start, says)
said heading prefix rest start TooLarge says one = (start, says)
said heading prefix rest start (BadChunk place) says one = absurd one
said heading prefix rest start Truncated says one = absurd one
said heading prefix rest start Read says one = absurd one

-- a head whose length is refused says just this
pub says_fault : (heading : Heading) (prefix rest : List ℕ) (start : StartLine) (fault : HttpFault) (lengths codings : List (List ℕ))
    → length_by lengths codings ≡ Err fault → SaysHead heading prefix start (Err fault) → HeadSo heading prefix rest (Err fault)
says_fault heading prefix rest start fault lengths codings is says =
    said heading prefix rest start fault says (subst IsFine is (fine lengths codings))

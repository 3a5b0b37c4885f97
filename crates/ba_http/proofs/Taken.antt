-- What was read of a body, given to a taker: as the body of a message; for the clauses `request` and `reply`, and for the law.
use Rattle.std.proofs.Common.{◌≡◌, ℕ, ◌+◌, inl, inr, List, [], ◌++◌, take, refl, sym, subst, arith, Option, None, Some, Result, Ok, Err}
use Rattle.std.proofs.lemmas.List.{length-take-le}
use Rattle.ba_http_head.specs.declared.faults.HttpFault.{HttpFault}
use Rattle.ba_http_head.specs.declared.faults.HttpFault.TheVariants.{Memory, BadHead, Length as NoLength, TooLarge, BadChunk, Truncated}
use Rattle.ba_http_head.specs.declared.faults.HttpFault.TheVariants.{Read}
use Rattle.ba_http_head.specs.declared.lengths.Length.{Length}
use Rattle.ba_http_head.specs.declared.lengths.Length.TheVariants.{Counted, Chunked}
use Rattle.ba_http_head.specs.declared.lengths.TheConstants.{MOST_BODY}
use Rattle.ba_http_body.specs.Counted.{StopsAt, CountedSo}
use Rattle.ba_http_body.specs.Remaining.{RemainingSo}
use Rattle.ba_http_chunks.specs.Chunked.{ChunkedSo}
use Rattle.ba_http.specs.Bodies.{GivesBody}
use Rattle.ba_http.specs.inside.Bodies.{StopsShort, BodySo, ReadsBody, body_or}

stops_remaining : (hand taken : List ℕ) → StopsAt hand (MOST_BODY + 1) taken → StopsShort None hand taken
stops_remaining hand taken how =
    elim how [
      | inl nothing ↦ inl nothing
      | inr more ↦ inr (more.0, more.1, more.2, omega (arith, more.3), more.4)
    ]

module _ (old new : List ℕ → Type 0) where
  -- the body, which the taker was given, or the refusal
  abbrev Told : Option Length → List ℕ → Option (List ℕ) → Result (Unit {0}) HttpFault → Type 0
  Told said bytes left (Ok done) = (body : List ℕ) × ((given : List ℕ) → old given → new (given ++ body)) × BodySo said bytes left (Ok body)
  Told said bytes left (Err fault) = BodySo said bytes left (Err fault)

  counted : (count : ℕ) (bytes : List ℕ) (left : Option (List ℕ)) (result : Result (Unit {0}) HttpFault)
      → CountedSo old new bytes count left result → Told (Some (Counted count)) bytes left result
  counted count bytes left (Ok done) so = (take count bytes, so.1, inl (count, so.0, (length-take-le count bytes so.0, refl)))
  counted count bytes left (Err Memory) so = tt
  counted count bytes left (Err (BadHead place)) so = absurd so
  counted count bytes left (Err NoLength) so = absurd so
  counted count bytes left (Err TooLarge) so = absurd so
  counted count bytes left (Err (BadChunk place)) so = absurd so
  counted count bytes left (Err Truncated) so = (Counted count, refl, so.0, so.1)
  counted count bytes left (Err Read) so = so

  chunked : (bytes : List ℕ) (left : Option (List ℕ)) (result : Result (Unit {0}) HttpFault)
      → ChunkedSo old new bytes left result → Told (Some Chunked) bytes left result
  chunked bytes left (Ok done) so = (so.1, so.4, inl (so.0, so.2, so.3))
  chunked bytes left (Err Memory) so = tt
  chunked bytes left (Err (BadHead place)) so = absurd so
  chunked bytes left (Err NoLength) so = absurd so
  chunked bytes left (Err TooLarge) so = so
  chunked bytes left (Err (BadChunk place)) so = so
  chunked bytes left (Err Truncated) so = (Chunked, refl, so.0, so.1)
  chunked bytes left (Err Read) so = so

  remaining : (bytes : List ℕ) (left : Option (List ℕ)) (result : Result (Unit {0}) HttpFault)
      → RemainingSo old new bytes (MOST_BODY + 1) left result → Told None bytes left result
  remaining bytes left (Ok done) so = (bytes, so.2, inr (refl, refl, omega (arith, so.0), so.1))
  remaining bytes left (Err Memory) so = tt
  remaining bytes left (Err (BadHead place)) so = absurd so
  remaining bytes left (Err NoLength) so = absurd so
  remaining bytes left (Err TooLarge) so = (MOST_BODY + 1, so, length-take-le (MOST_BODY + 1) bytes so)
  remaining bytes left (Err (BadChunk place)) so = absurd so
  remaining bytes left (Err Truncated) so = absurd so
  remaining bytes left (Err Read) so = omega (arith, so)

  pub body_given : (said : Option Length) (hand : List ℕ) (left_old left_new : Option (List ℕ))
      → GivesBody old new said hand left_old left_new (Ok tt)
      → (body : List ℕ) × ((given : List ℕ) → old given → new (given ++ body)) × ReadsBody said hand left_old left_new (Ok body)
  body_given (Some (Counted count)) hand left_old left_new gives =
      let told = counted count (hand ++ gives.0) left_new (Ok tt) gives.3 in
      (told.0, told.1, (gives.0, gives.1, gives.2, told.2))
  body_given (Some Chunked) hand left_old left_new gives =
      let told = chunked (hand ++ gives.0) left_new (Ok tt) gives.3 in
      (told.0, told.1, (gives.0, gives.1, gives.2, told.2))
  body_given None hand left_old left_new gives =
      let told = remaining (hand ++ gives.0) left_new (Ok tt) gives.3 in
      (told.0, told.1, (gives.0, gives.1, stops_remaining hand gives.0 gives.2, told.2))

  pub body_refused : (said : Option Length) (hand : List ℕ) (left_old left_new : Option (List ℕ)) (fault : HttpFault)
      → GivesBody old new said hand left_old left_new (Err fault) → ReadsBody said hand left_old left_new (Err fault)
  body_refused (Some (Counted count)) hand left_old left_new fault gives =
      (gives.0, gives.1, gives.2, counted count (hand ++ gives.0) left_new (Err fault) gives.3)
  body_refused (Some Chunked) hand left_old left_new fault gives =
      (gives.0, gives.1, gives.2, chunked (hand ++ gives.0) left_new (Err fault) gives.3)
  body_refused None hand left_old left_new fault gives =
      (gives.0, gives.1, stops_remaining hand gives.0 gives.2, remaining (hand ++ gives.0) left_new (Err fault) gives.3)

-- a taker that is a list, and had nothing
pub taken_on : (old new : List ℕ) (none : old ≡ []) (said : Option Length) (hand : List ℕ) (left_old left_new : Option (List ℕ))
    (result : Result (Unit {0}) HttpFault)
    → GivesBody (λ list. old ≡ list) (λ list. new ≡ list) said hand left_old left_new result
    → ReadsBody said hand left_old left_new (body_or new result)
taken_on old new none said hand left_old left_new (Ok done) gives =
    let told = body_given (λ list. old ≡ list) (λ list. new ≡ list) said hand left_old left_new gives in
    subst (λ v. ReadsBody said hand left_old left_new (Ok v)) (sym (told.1 [] none)) told.2
taken_on old new none said hand left_old left_new (Err fault) gives =
    body_refused (λ list. old ≡ list) (λ list. new ≡ list) said hand left_old left_new fault gives

-- A piece of a transfer, turn by turn; for the clauses of turn and feed.
use Rattle.std.proofs.Common.{◌≡◌, ℕ, ◌+◌, ◌-◌, ◌^◌, ◌<◌, ◌≤◌, min, get_or, List, [], ◌∷◌, ◌++◌, length, take, drop, refl, sym, ap, ◌∙◌}
use Rattle.std.proofs.Common.{subst, arith, append-nil, append_assoc, length-drop, take-add, take_all, None, Some, Result, Ok, Err}
use Rattle.std.proofs.lemmas.List.{length-take-le}
use Rattle.ba_http_head.specs.declared.faults.HttpFault.{HttpFault}
use Rattle.ba_http_head.specs.declared.faults.HttpFault.TheVariants.{Memory, BadHead, Length, TooLarge, BadChunk, Truncated, Read}
use Rattle.ba_http_chunks.specs.declared.chunks.Chunks.{Chunks}
use Rattle.ba_http_chunks.specs.declared.chunks.Turned.{Turned}
use Rattle.ba_http_chunks.specs.declared.chunks.Turned.TheVariants.{On, Last}
use Rattle.ba_http_chunks.specs.declared.chunks.Spot.TheVariants.{Bytes}
use Rattle.ba_http_chunks.specs.Transfers.{Breaks, Passes}
use Rattle.ba_http_chunks.specs.inside.Progress.{Stands, IsBeforeTrailer, Gives, Turns, TurnsBy, Feeds}
use Rattle.ba_http_chunks.proofs.Composing.{gives_on, gives_none}
use Rattle.ba_http_chunks.proofs.Standing.{bytes_on}

-- a byte of which the taker is given nothing
pub turned : (stands : List ℕ → Type 0) (c : Chunks) (byte : ℕ) (piece : List ℕ) (r : Result Turned HttpFault) → 0 < length piece
    → take 1 piece ≡ byte ∷ [] → Turns c byte r → TurnsBy stands stands c piece r
turned stands c byte piece (Ok (On next n)) some first t =
    let one = t.0 in (
      omega (arith, one),
      omega (arith, one, some),
      λ fed body s. (
        [],
        subst (λ v. Stands next v (body ++ [])) (sym (ap (λ k. fed ++ take k piece) one ∙ ap (λ v. fed ++ v) first))
            (subst (Stands next (fed ++ byte ∷ [])) (sym (append-nil body)) (t.1 fed body s)),
        gives_none stands,
      ),
    )
turned stands c byte piece (Ok (Last count)) some first t =
    (λ fed body s. subst (λ v. IsBeforeTrailer count (fed ++ v) body) (sym first) (t fed body s), gives_none stands)
turned stands c byte piece (Err Memory) some first t = absurd t
turned stands c byte piece (Err (BadHead place)) some first t = absurd t
turned stands c byte piece (Err Length) some first t = absurd t
turned stands c byte piece (Err TooLarge) some first t = λ fed body s. subst (λ v. Passes (fed ++ v)) (sym first) (t fed body s)
turned stands c byte piece (Err (BadChunk place)) some first t =
    λ fed body s. subst (λ v. Breaks (fed ++ v) place) (sym first) (t fed body s)
turned stands c byte piece (Err Truncated) some first t = absurd t
turned stands c byte piece (Err Read) some first t = absurd t

module _ (old mid new : List ℕ → Type 0) (from c : Chunks) (piece : List ℕ) (at : ℕ)
    (so_far : Feeds old mid from c (take at piece) (Ok None)) where
  joined : (n : ℕ) (fed : List ℕ) → (fed ++ take at piece) ++ take n (drop at piece) ≡ fed ++ take (at + n) piece
  joined n fed = append_assoc fed (take at piece) (take n (drop at piece)) ∙ ap (λ v. fed ++ v) (sym (take-add at n piece))

  pub feed_on : (next : Chunks) (n : ℕ) → TurnsBy mid new c (drop at piece) (Ok (On next n))
      → Feeds old new from next (take (at + n) piece) (Ok None)
  feed_on next n turns = λ fed body s.
      let f = so_far fed body s in
      let t = turns.2 (fed ++ take at piece) (body ++ f.0) f.1 in (
        f.0 ++ t.0,
        subst (λ v. Stands next v (body ++ (f.0 ++ t.0))) (joined n fed)
            (subst (Stands next ((fed ++ take at piece) ++ take n (drop at piece))) (append_assoc body f.0 t.0) t.1),
        gives_on old mid new f.0 t.0 f.2 t.2,
      )

  pub feed_last : (next : Chunks) (count : ℕ) → next.count ≡ count → at < length piece → TurnsBy mid new c (drop at piece) (Ok (Last count))
      → Feeds old new from next piece (Ok (Some (at + 1)))
  feed_last next count is less turns = (
    omega (arith, less),
    λ fed body s.
        let f = so_far fed body s in
        let t = turns.0 (fed ++ take at piece) (body ++ f.0) f.1 in (
          f.0 ++ [],
          subst (λ v. IsBeforeTrailer v (fed ++ take (at + 1) piece) (body ++ (f.0 ++ []))) (sym is)
              (subst (λ v. IsBeforeTrailer count v (body ++ (f.0 ++ []))) (joined 1 fed)
              (subst (IsBeforeTrailer count ((fed ++ take at piece) ++ take 1 (drop at piece)))
              (ap (λ v. body ++ v) (sym (append-nil f.0))) t)),
          gives_on old mid new f.0 [] f.2 turns.1,
        ),
  )

  pub feed_fault : (next : Chunks) (fault : HttpFault) → at < length piece → TurnsBy mid new c (drop at piece) (Err fault)
      → Feeds old new from next piece (Err fault)
  feed_fault next Memory less turns = tt
  feed_fault next (BadHead place) less turns = absurd turns
  feed_fault next Length less turns = absurd turns
  feed_fault next TooLarge less turns = (
    at + 1,
    omega (arith, less),
    λ fed body s.
        let f = so_far fed body s in
        subst Passes (joined 1 fed) (turns (fed ++ take at piece) (body ++ f.0) f.1),
  )
  feed_fault next (BadChunk place) less turns = (
    at + 1,
    omega (arith, less),
    λ fed body s.
        let f = so_far fed body s in
        subst (λ v. Breaks v place) (joined 1 fed) (turns (fed ++ take at piece) (body ++ f.0) f.1),
  )
  feed_fault next Truncated less turns = absurd turns
  feed_fault next Read less turns = absurd turns

-- nothing is fed yet
pub feed_none : (stands : List ℕ → Type 0) (c : Chunks) (piece : List ℕ) → Feeds stands stands c c (take 0 piece) (Ok None)
feed_none stands c piece = λ fed body s. (
  [],
  subst (λ v. Stands c v (body ++ [])) (sym (ap (λ v. fed ++ v) (none piece) ∙ append-nil fed))
      (subst (Stands c fed) (sym (append-nil body)) s),
  gives_none stands,
)
  where
    none : (xs : List ℕ) → take 0 xs ≡ []
    none [] = refl
    none (x ∷ xs) = refl

-- the whole piece is fed
pub feed_all : (old new : List ℕ → Type 0) (from c : Chunks) (piece : List ℕ) (at : ℕ) → length piece ≤ at → at ≤ length piece
    → Feeds old new from c (take at piece) (Ok None) → Feeds old new from c piece (Ok None)
feed_all old new from c piece at past within so_far =
    subst (λ v. Feeds old new from c v (Ok None)) (take_all at piece past) so_far

pub first_byte : (piece : List ℕ) → 0 < length piece → take 1 piece ≡ get_or piece 0 0 ∷ []
first_byte [] some = absurd (omega (arith, some))
first_byte (x ∷ []) some = refl
first_byte (x ∷ y ∷ xs) some = refl

-- bytes of a chunk
pub bytes_turned : (old new : List ℕ → Type 0) (c next : Chunks) (left n : ℕ) (piece : List ℕ) → c.spot ≡ Bytes left → 0 < left
    → 0 < length piece → n ≡ min left (length piece)
    → next ≡ record { spot = Bytes (left - n); got = c.got; count = min (c.count + n) (2 ^ 64 - 1) }
    → Gives old new (take n piece) → TurnsBy old new c piece (Ok (On next n))
bytes_turned old new c next left n piece here more some is next_is gives =
    let size : length (take n piece) ≡ n = length-take-le n piece (omega (arith, is)) in (
      omega (arith, is, more, some),
      omega (arith, is),
      λ fed body s. (
        take n piece,
        subst (λ v. Stands v (fed ++ take n piece) (body ++ take n piece))
            (ap (λ k. record { spot = Bytes (left - k); got = c.got; count = min (c.count + k) (2 ^ 64 - 1) }) size ∙ sym next_is)
            (bytes_on c left here fed body s (take n piece) (omega (arith, size, is))),
        gives,
      ),
    )

-- the bytes from a place on
pub rest_is : (piece : List ℕ) (at : ℕ) → take (length piece - at) (drop at piece) ≡ drop at piece
rest_is piece at = take_all (length piece - at) (drop at piece) (omega (arith, length-drop at piece))

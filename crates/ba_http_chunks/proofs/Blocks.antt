-- A body in chunks, block by block; for the clauses `body` of chunks_by and read_chunked.
use Rattle.std.proofs.Common.{◌≡◌, ℕ, ◌+◌, ◌-◌, ◌^◌, ◌<◌, ◌≤◌, List, [], ◌++◌, length, take, drop, refl, sym, ap, ◌∙◌, subst, inl, inr}
use Rattle.std.proofs.Common.{arith, append-nil, append_assoc, length-append, take-append-drop, Option, None, Some, Result, Ok, Err}
use Rattle.std.proofs.lemmas.List.{drop-take, length-take}
use Rattle.std.specs.Io.KnownBytes.{Consumes, IsAtEnd, Keeps}
use Rattle.std.proofs.KnownBytes.{Consumes-nil, Consumes-trans}
use Rattle.ba_http_head.proofs.Steps.{none_of}
use Rattle.ba_http_head.specs.declared.blocks.TheConstants.{BLOCK}
use Rattle.ba_http_head.specs.declared.faults.HttpFault.{HttpFault}
use Rattle.ba_http_head.specs.declared.faults.HttpFault.TheVariants.{Memory, BadHead, Length, TooLarge, BadChunk, Truncated, Read}
use Rattle.ba_http_chunks.specs.declared.chunks.Chunks.{Chunks}
use Rattle.ba_http_chunks.specs.Transfers.{IsUnended}
use Rattle.ba_http_chunks.specs.Chunked.{ChunkedSo, Unchunks}
use Rattle.ba_http_chunks.specs.inside.Progress.{Stands, Gives, Feeds}
use Rattle.ba_http_chunks.specs.inside.Trailers.{ReadsTrailer}
use Rattle.ba_http_chunks.proofs.Composing.{gives_on, gives_none, with_trailer, after_block, fault_shown, ends_there}
use Rattle.ba_http_chunks.proofs.Standing.{unended, bounded_line}

-- what was given after these bytes of the body
given_from : (so new : List ℕ → Type 0) (body more : List ℕ) → Gives so new more → Gives (λ given. so (given ++ body)) new (body ++ more)
given_from so new body more gives given stands = subst new (append_assoc given body more) (gives (given ++ body) stands)

-- the last chunk's line ended in a piece
pub piece_ended : (so mid new : List ℕ → Type 0) (c next : Chunks) (fed body more piece rest : List ℕ) (at : ℕ)
    (left_old left_new : Option (List ℕ))
    (result : Result (Unit {0}) HttpFault) → Stands c fed (body ++ more) → Gives so mid more → Feeds mid new c next piece (Ok (Some at))
    → rest ≡ drop at piece → ReadsTrailer rest next.count left_old left_new result
    → Unchunks (λ given. so (given ++ body)) new (fed ++ piece) left_old left_new result
piece_ended so mid new c next fed body more piece rest at left_old left_new result s gives feeds is reads =
    let f = feeds.1 fed (body ++ more) s in
    let all : (fed ++ take at piece) ++ rest ≡ fed ++ piece =
    ap (λ v. (fed ++ take at piece) ++ v) is ∙ append_assoc fed (take at piece) (drop at piece)
    ∙ ap (λ v. fed ++ v) (take-append-drop at piece) in
    let given : Gives (λ v. so (v ++ body)) new ((body ++ more) ++ f.0) =
    subst (Gives (λ v. so (v ++ body)) new) (sym (append_assoc body more f.0))
    (given_from so new body (more ++ f.0) (gives_on so mid new more f.0 gives f.2)) in
    subst (λ v. Unchunks (λ given. so (given ++ body)) new v left_old left_new result) all
    (with_trailer (λ given. so (given ++ body)) new next.count (fed ++ take at piece) ((body ++ more) ++ f.0) rest f.1
    (bounded_line next.count (fed ++ take at piece) ((body ++ more) ++ f.0) f.1) left_old left_new result given reads)

module _ (so mid : List ℕ → Type 0) (c : Chunks) (fed body taken more : List ℕ) (left_old left_mid : Option (List ℕ))
    (s : Stands c (fed ++ taken) (body ++ more)) (gives : Gives so mid more) where
  yet : IsUnended (fed ++ taken)
  yet = unended c (fed ++ taken) (body ++ more) s

  pub block_ended : (new : List ℕ → Type 0) (next : Chunks) (piece rest : List ℕ) (at : ℕ) (left_new : Option (List ℕ))
      (result : Result (Unit {0}) HttpFault) → Consumes left_old left_mid (taken ++ piece) → length piece ≤ BLOCK
      → Feeds mid new c next piece (Ok (Some at)) → rest ≡ drop at piece → ReadsTrailer rest next.count left_mid left_new result
      → Unchunks (λ given. so (given ++ body)) new fed left_old left_new result
  block_ended new next piece rest at left_new result consumed small feeds is reads =
      after_block (λ given. so (given ++ body)) new fed taken piece left_old left_mid left_new result consumed yet small
      (subst (λ v. Unchunks (λ given. so (given ++ body)) new v left_mid left_new result) (append_assoc fed taken piece)
      (piece_ended so mid new c next (fed ++ taken) body more piece rest at left_mid left_new result s gives feeds is reads))

  pub block_fault : (new : List ℕ → Type 0) (next : Chunks) (piece : List ℕ) (fault : HttpFault)
      → Consumes left_old left_mid (taken ++ piece) → length piece ≤ BLOCK → Feeds mid new c next piece (Err fault)
      → Unchunks (λ given. so (given ++ body)) new fed left_old left_mid (Err fault)
  block_fault new next piece fault consumed small feeds =
      after_block (λ given. so (given ++ body)) new fed taken piece left_old left_mid left_mid (Err fault) consumed yet small
      (subst (λ v. Unchunks (λ given. so (given ++ body)) new v left_mid left_mid (Err fault)) (append_assoc fed taken piece)
      (fault_shown (λ given. so (given ++ body)) mid new c next (fed ++ taken) (body ++ more) piece left_mid fault s feeds))

  -- the end of the input
  pub block_end : (new : List ℕ → Type 0) (piece : List ℕ) → Consumes left_old left_mid (taken ++ piece) → piece ≡ [] → IsAtEnd left_mid
      → Unchunks (λ given. so (given ++ body)) new fed left_old left_mid (Err Truncated)
  block_end new piece consumed none at_end =
      let same : fed ++ taken ≡ fed ++ (taken ++ piece) =
      ap (λ v. fed ++ v) (sym (append-nil taken) ∙ ap (λ v. taken ++ v) (sym none)) in
      after_block (λ given. so (given ++ body)) new fed taken piece left_old left_mid left_mid (Err Truncated) consumed yet
      (omega (arith, ap length none))
      (ends_there (λ given. so (given ++ body)) new (fed ++ (taken ++ piece)) left_mid (subst IsUnended same yet) at_end)

  -- a fault of the connection, which took nothing
  pub block_unread : (new : List ℕ → Type 0) (left_new : Option (List ℕ)) → Consumes left_old left_mid taken → Keeps left_mid left_new
      → Unchunks (λ given. so (given ++ body)) new fed left_old left_new (Err Read)
  block_unread new left_new consumed same = (
    taken ++ [],
    Consumes-trans left_old left_mid left_new taken [] consumed (none_of left_mid left_new same),
    inr (taken, [], refl, yet, omega arith),
    subst (λ v. IsUnended (fed ++ v)) (sym (append-nil taken)) yet,
  )

  -- memory
  pub block_silent : (new : List ℕ → Type 0) (piece : List ℕ) (fault : HttpFault) → Consumes left_old left_mid (taken ++ piece)
      → length piece ≤ BLOCK → Unchunks (λ given. so (given ++ body)) new (fed ++ (taken ++ piece)) left_mid left_mid (Err fault)
      → Unchunks (λ given. so (given ++ body)) new fed left_old left_mid (Err fault)
  block_silent new piece fault consumed small says =
      after_block (λ given. so (given ++ body)) new fed taken piece left_old left_mid left_mid (Err fault) consumed yet small says

  -- one block more
  pub block_on : (new : List ℕ → Type 0) (next : Chunks) (piece : List ℕ) → Feeds mid new c next piece (Ok None)
      → (extra : List ℕ) × Stands next (fed ++ (taken ++ piece)) (body ++ extra) × Gives so new extra
  block_on new next piece feeds =
      let f = feeds (fed ++ taken) (body ++ more) s in (
        more ++ f.0,
        subst (λ v. Stands next v (body ++ (more ++ f.0))) (append_assoc fed taken piece)
            (subst (Stands next ((fed ++ taken) ++ piece)) (append_assoc body more f.0) f.1),
        gives_on so mid new more f.0 gives f.2,
      )

pub silent_memory : (old new : List ℕ → Type 0) (hand : List ℕ) (left : Option (List ℕ)) → Unchunks old new hand left left (Err Memory)
silent_memory old new hand left = ([], Consumes-nil left, inl refl, tt)

-- the bytes of a block after a place
pub rest_of : (block : List ℕ) (at size : ℕ) → at ≤ size → take (size - at) (drop at block) ≡ drop at (take size block)
rest_of block at size less =
    let sum : at + (size - at) ≡ size = omega (arith, less) in
    sym (drop-take at (size - at) block) ∙ ap (λ k. drop at (take k block)) sum

-- the beginning of a block is no longer than the block
pub small_piece : (block : List ℕ) (n : ℕ) (old : List ℕ) → n ≤ length old → length old ≡ BLOCK → length (take n block) ≤ BLOCK
small_piece block n old less is = omega (arith, less, is, length-take n block)

pub within_size : (block : List ℕ) (n at : ℕ) → at ≤ length (take n block) → at ≤ n
within_size block n at less = omega (arith, less, length-take n block)

pub some_piece : (block : List ℕ) (n k : ℕ) → n ≤ k → length block ≡ k → 0 < n → 0 < length (take n block)
some_piece block n k less is some = omega (arith, less, is, some, length-take n block)

-- each block is counted
pub falls : (before after : ℕ) (fed piece : List ℕ) → before ≡ length fed → after ≡ length (fed ++ piece) → length fed ≤ 2 ^ 32
    → 0 < length piece → 2 ^ 33 - after < 2 ^ 33 - before
falls before after fed piece is next small some = omega (arith, is, next, small, some, length-append fed piece)

-- what follows from a weaker start of the taker
given_before : (so mid new : List ℕ → Type 0) (hand : List ℕ) (left_old left_new : Option (List ℕ)) (result : Result (Unit {0}) HttpFault)
    → ((given : List ℕ) → so given → mid given) → Unchunks mid new hand left_old left_new result
    → Unchunks so new hand left_old left_new result
given_before so mid new hand left_old left_new result before u = (u.0, u.1, u.2, told result u.3)
  where
    told : (r : Result (Unit {0}) HttpFault) → ChunkedSo mid new (hand ++ u.0) left_new r → ChunkedSo so new (hand ++ u.0) left_new r
    told (Ok done) t = (t.0, t.1, t.2, t.3, λ given stands. t.4 given (before given stands))
    told (Err Memory) t = t
    told (Err (BadHead place)) t = t
    told (Err Length) t = t
    told (Err TooLarge) t = t
    told (Err (BadChunk place)) t = t
    told (Err Truncated) t = t
    told (Err Read) t = t

-- a piece was fed from the start, and then the others
pub fed_then : (so mid new : List ℕ → Type 0) (c next : Chunks) (hand : List ℕ) (left_old left_new : Option (List ℕ))
    (result : Result (Unit {0}) HttpFault) → Stands c [] [] → Feeds so mid c next hand (Ok None)
    → ((fed body : List ℕ) → Stands next fed body → Unchunks (λ given. mid (given ++ body)) new fed left_old left_new result)
    → Unchunks so new hand left_old left_new result
fed_then so mid new c next hand left_old left_new result s feeds others =
    let f = feeds [] [] s in
    given_before so (λ given. mid (given ++ f.0)) new hand left_old left_new result f.2 (others hand f.0 f.1)

-- the last chunk's line ended in the first piece
pub fed_ended : (so new : List ℕ → Type 0) (c next : Chunks) (hand rest : List ℕ) (at : ℕ) (left_old left_new : Option (List ℕ))
    (result : Result (Unit {0}) HttpFault) → Stands c [] [] → Feeds so new c next hand (Ok (Some at)) → rest ≡ drop at hand
    → ReadsTrailer rest next.count left_old left_new result → Unchunks so new hand left_old left_new result
fed_ended so new c next hand rest at left_old left_new result s feeds is reads =
    given_before so (λ given. so (given ++ [])) new hand left_old left_new result (λ given stands. subst so (sym (append-nil given)) stands)
    (piece_ended so so new c next [] [] [] hand rest at left_old left_new result s (gives_none so) feeds is reads)

pub fed_fault : (so new : List ℕ → Type 0) (c next : Chunks) (hand : List ℕ) (left : Option (List ℕ)) (fault : HttpFault) → Stands c [] []
    → Feeds so new c next hand (Err fault) → Unchunks so new hand left left (Err fault)
fed_fault so new c next hand left fault s feeds = fault_shown so so new c next [] [] hand left fault s feeds

pub not_none : (n : ℕ) → (n ≡ 0 → ⊥) → 0 < n
not_none n some = omega (arith, some)

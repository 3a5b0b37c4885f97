-- A body in chunks, piece by piece, and then its trailer; for the clauses `body`.
use Rattle.std.proofs.Common.{◌≡◌, ℕ, ◌+◌, ◌^◌, ◌≤◌, inl, inr, List, [], ◌++◌, length, take, refl, sym, ap, ◌∙◌, subst, arith, append-nil}
use Rattle.std.proofs.Common.{append_assoc, length-append, Option, Result, Ok, Err}
use Rattle.std.proofs.Math.Seq.{take-append-add}
use Rattle.std.specs.Io.KnownBytes.{Consumes, IsAtEnd}
use Rattle.std.proofs.KnownBytes.{Consumes-trans, Consumes-nil}
use Rattle.ba_http_head.specs.declared.blocks.TheConstants.{BLOCK}
use Rattle.ba_http_head.specs.declared.faults.HttpFault.{HttpFault}
use Rattle.ba_http_head.specs.declared.faults.HttpFault.TheVariants.{Memory, BadHead, Length, TooLarge, BadChunk, Truncated, Read}
use Rattle.ba_http_head.specs.declared.headings.Heading.TheVariants.{Trailer}
use Rattle.ba_http_head.specs.HeadLines.{IsOpen}
use Rattle.ba_http_body.specs.SizeLines.{print_size_line}
use Rattle.ba_http_chunks.specs.declared.chunks.Chunks.{Chunks}
use Rattle.ba_http_chunks.specs.Transfers.{print_chunks, IsUnended, in_trailer, Breaks, Passes}
use Rattle.ba_http_chunks.specs.Chunked.{StopsUnended, ChunkedSo, Unchunks}
use Rattle.ba_http_chunks.specs.inside.Progress.{Stands, IsBeforeTrailer, Gives, Feeds}
use Rattle.ba_http_chunks.specs.inside.Trailers.{StopsOpen, TrailerSo, ReadsTrailer}
use Rattle.ba_http_chunks.proofs.TrailerSteps.{bad_within}

pub take_after : (xs ys : List ℕ) (n : ℕ) → take (length xs + n) (xs ++ ys) ≡ xs ++ take n ys
take_after xs ys n = take-append-add xs ys n

within_after : (xs ys : List ℕ) (n : ℕ) → n ≤ length ys → length xs + n ≤ length (xs ++ ys)
within_after xs ys n less = omega (arith, less, length-append xs ys)

-- what is given twice
pub gives_on : (old mid new : List ℕ → Type 0) (a b : List ℕ) → Gives old mid a → Gives mid new b → Gives old new (a ++ b)
gives_on old mid new a b first second given stands =
    subst new (append_assoc given a b) (second (given ++ a) (first given stands))

pub gives_none : (old : List ℕ → Type 0) → Gives old old []
gives_none old given stands = subst old (sym (append-nil given)) stands

-- the last chunk's line has come, and then the trailer is read
module _ (old new : List ℕ → Type 0) (count : ℕ) (fed body rest : List ℕ) (is : IsBeforeTrailer count fed body)
    (few : length fed ≤ 2 ^ 33) where
  in_it : (trailer : List ℕ) → IsOpen Trailer trailer → IsUnended (fed ++ trailer)
  in_it trailer yet = (
    is.chunks,
    in_trailer is.last trailer,
    is.are,
    (is.is_last, yet),
    ap (λ v. v ++ trailer) is.is_fed ∙ append_assoc (print_chunks is.chunks) (print_size_line is.last) trailer,
  )

  cut : (trailer : List ℕ) → fed ++ trailer ≡ print_chunks is.chunks ++ (print_size_line is.last ++ trailer)
  cut trailer = ap (λ v. v ++ trailer) is.is_fed ∙ append_assoc (print_chunks is.chunks) (print_size_line is.last) trailer

  stops : (taken : List ℕ) → StopsOpen rest taken → StopsUnended (fed ++ rest) taken
  stops taken how =
      elim how [
        | inl none ↦ inl none
        | inr more ↦
            inr (
              more.0,
              more.1,
              more.2,
              subst IsUnended (sym (append_assoc fed rest more.0)) (in_it (rest ++ more.0) more.3),
              more.4,
            )
      ]

  so : (bytes : List ℕ) (left : Option (List ℕ)) (result : Result (Unit {0}) HttpFault) → Gives old new body
      → TrailerSo bytes count left result
      → ChunkedSo old new (fed ++ bytes) left result
  so bytes left (Ok done) gives t = (
    length fed + t.0,
    body,
    within_after fed bytes t.0 t.1,
    (is.chunks, is.last, take t.0 bytes, is.are, is.is_last, t.2, take_after fed bytes t.0 ∙ cut (take t.0 bytes), is.is_body),
    gives,
  )
  so bytes left (Err Memory) gives t = tt
  so bytes left (Err (BadHead place)) gives t = absurd t
  so bytes left (Err Length) gives t = absurd t
  so bytes left (Err TooLarge) gives t = (
    length fed + t.0,
    within_after fed bytes t.0 t.1,
    inr (inr (is.chunks, is.last, take t.0 bytes, is.are, is.is_last, t.2, take_after fed bytes t.0 ∙ cut (take t.0 bytes))),
  )
  so bytes left (Err (BadChunk place)) gives t =
      let small = bad_within (take t.0 bytes) t.2 t.3 in
      let sum : place ≡ length fed + t.2 = omega (arith, t.4, is.is_count, small, few) in (
        length fed + t.0,
        within_after fed bytes t.0 t.1,
        inr (
          is.chunks,
          is.last,
          take t.0 bytes,
          t.2,
          is.are,
          is.is_last,
          t.3,
          take_after fed bytes t.0 ∙ cut (take t.0 bytes),
          sum ∙ ap (λ v. length v + t.2) is.is_fed,
        ),
      )
  so bytes left (Err Truncated) gives t = (in_it bytes t.0, t.1)
  so bytes left (Err Read) gives t = in_it bytes t

  pub with_trailer : (left_old left_new : Option (List ℕ)) (result : Result (Unit {0}) HttpFault) → Gives old new body
      → ReadsTrailer rest count left_old left_new result → Unchunks old new (fed ++ rest) left_old left_new result
  with_trailer left_old left_new result gives reads = (
    reads.0,
    reads.1,
    stops reads.0 reads.2,
    subst (λ v. ChunkedSo old new v left_new result) (sym (append_assoc fed rest reads.0))
        (so (rest ++ reads.0) left_new result gives reads.3),
  )

-- after one block more, all so far is at hand
pub after_block : (old new : List ℕ → Type 0) (fed taken piece : List ℕ) (left_old left_mid left_new : Option (List ℕ))
    (result : Result (Unit {0}) HttpFault) → Consumes left_old left_mid (taken ++ piece) → IsUnended (fed ++ taken) → length piece ≤ BLOCK
    → Unchunks old new (fed ++ (taken ++ piece)) left_mid left_new result → Unchunks old new fed left_old left_new result
after_block old new fed taken piece left_old left_mid left_new result before yet small u = (
  (taken ++ piece) ++ u.0,
  Consumes-trans left_old left_mid left_new (taken ++ piece) u.0 before u.1,
  stop u.2,
  subst (λ v. ChunkedSo old new v left_new result) (append_assoc fed (taken ++ piece) u.0) u.3,
)
  where
    stop : StopsUnended (fed ++ (taken ++ piece)) u.0 → StopsUnended fed ((taken ++ piece) ++ u.0)
    stop how =
        elim how [
          | inl none ↦
              inr (taken, piece, ap (λ v. (taken ++ piece) ++ v) none ∙ append-nil (taken ++ piece), yet, small)
          | inr more ↦
              inr (
                (taken ++ piece) ++ more.0,
                more.1,
                ap (λ v. (taken ++ piece) ++ v) more.2 ∙ sym (append_assoc (taken ++ piece) more.0 more.1),
                subst IsUnended (append_assoc fed (taken ++ piece) more.0) more.3,
                more.4,
              )
        ]

-- a fault that a piece shows
pub fault_shown : (old mid new : List ℕ → Type 0) (c next : Chunks) (fed body piece : List ℕ) (left : Option (List ℕ)) (fault : HttpFault)
    → Stands c fed body → Feeds mid new c next piece (Err fault) → Unchunks old new (fed ++ piece) left left (Err fault)
fault_shown old mid new c next fed body piece left Memory s f = ([], Consumes-nil left, inl refl, tt)
fault_shown old mid new c next fed body piece left (BadHead place) s f = absurd f
fault_shown old mid new c next fed body piece left Length s f = absurd f
fault_shown old mid new c next fed body piece left TooLarge s f = (
  [],
  Consumes-nil left,
  inl refl,
  (
    length fed + f.0,
    omega (arith, within_after fed piece f.0 f.1, length-append (fed ++ piece) []),
    subst Passes
        (sym (ap (take (length fed + f.0)) (append-nil (fed ++ piece)) ∙ take_after fed piece f.0))
        (f.2 fed body s),
  ),
)
fault_shown old mid new c next fed body piece left (BadChunk place) s f = (
  [],
  Consumes-nil left,
  inl refl,
  (
    length fed + f.0,
    omega (arith, within_after fed piece f.0 f.1, length-append (fed ++ piece) []),
    subst (λ v. Breaks v place)
        (sym (ap (take (length fed + f.0)) (append-nil (fed ++ piece)) ∙ take_after fed piece f.0))
        (f.2 fed body s),
  ),
)
fault_shown old mid new c next fed body piece left Truncated s f = absurd f
fault_shown old mid new c next fed body piece left Read s f = absurd f

-- the end of the input, or a fault of the link
pub ends_there : (old new : List ℕ → Type 0) (fed : List ℕ) (left : Option (List ℕ)) → IsUnended fed → IsAtEnd left
    → Unchunks old new fed left left (Err Truncated)
ends_there old new fed left yet at_end =
    ([], Consumes-nil left, inl refl, (subst IsUnended (sym (append-nil fed)) yet, at_end))

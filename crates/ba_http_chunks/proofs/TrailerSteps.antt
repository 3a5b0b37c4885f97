-- A trailer, after one more read; for the clause `trailer`.
use Rattle.std.proofs.Common.{◌≡◌, ℕ, ◌+◌, ◌≤◌, ◌⊎◌, inl, inr, List, [], ◌∷◌, ◌++◌, length, take, refl, sym, ap, ◌∙◌, subst, arith}
use Rattle.std.proofs.Common.{append-nil, append_assoc, length-append, Option, Result, Err}
use Rattle.std.proofs.lemmas.Bool.{cases_lt}
use Rattle.std.proofs.Math.Seq.{take-append_seam}
use Rattle.std.specs.Io.KnownBytes.{Consumes, Keeps}
use Rattle.std.proofs.KnownBytes.{Consumes-trans}
use Rattle.ba_http_head.specs.declared.blocks.TheConstants.{BLOCK}
use Rattle.ba_http_head.specs.declared.faults.HttpFault.{HttpFault}
use Rattle.ba_http_head.specs.declared.faults.HttpFault.TheVariants.{Memory, Read}
use Rattle.ba_http_head.specs.declared.headings.Heading.TheVariants.{Trailer}
use Rattle.ba_http_head.specs.declared.scans.Shown.{Shown}
use Rattle.ba_http_head.specs.declared.scans.Shown.TheVariants.{Whole, Bad, Large}
use Rattle.ba_http_head.specs.declared.scans.TheConstants.{MOST_HEAD}
use Rattle.ba_http_head.specs.HeadLines.{IsOpen}
use Rattle.ba_http_head.specs.Looks.{Shows}
use Rattle.ba_http_head.proofs.Steps.{none_of}
use Rattle.ba_http_chunks.specs.inside.Trailers.{answer_to, TrailerSo, StopsOpen, ReadsTrailer}

-- the place of a bad line is within the limit
pub bad_within : (trailer : List ℕ) (at : ℕ) → Shows Trailer trailer (Bad at) → at ≤ MOST_HEAD
bad_within trailer at shows =
    let line = shows.2 in
    let size : length trailer ≡ length line.0 + (length line.1 + 1) =
    ap length line.4 ∙ (length-append line.0 (line.1 ++ 10 ∷ []) ∙ ap (λ v. length line.0 + v) (length-append line.1 (10 ∷ []))) in
    elim (cases_lt MOST_HEAD (length trailer)) [
      | inl long ↦ absurd (shows.3 (inl long))
      | inr short ↦ omega (arith, short, size, line.5)
    ]

-- one more read, of which nothing had shown itself before
pub trailer_on : (hand all taken : List ℕ) (count : ℕ) (old mid new : Option (List ℕ)) (more : List ℕ)
    (result : Result (Unit {0}) HttpFault)
    → all ≡ hand ++ taken → Consumes old mid taken → Consumes mid new more → IsOpen Trailer all → length more ≤ BLOCK
    → TrailerSo (all ++ more) count new result → ReadsTrailer hand count old new result
trailer_on hand all taken count old mid new more result is before last yet small so = (
  taken ++ more,
  Consumes-trans old mid new taken more before last,
  inr (taken, more, refl, subst (IsOpen Trailer) is yet, small),
  subst (λ v. TrailerSo v count new result) (ap (λ v. v ++ more) is ∙ append_assoc hand taken more) so,
)

-- a read that wasn't appended, or failed
pub trailer_unread : (hand all taken : List ℕ) (count : ℕ) (old mid new : Option (List ℕ)) (more : List ℕ) (fault : HttpFault)
    → all ≡ hand ++ taken → Consumes old mid taken → IsOpen Trailer all → (fault ≡ Memory) ⊎ (fault ≡ Read) → Consumes mid new more
    → length more ≤ BLOCK → (fault ≡ Read → Keeps mid new) → ReadsTrailer hand count old new (Err fault)
trailer_unread hand all taken count old mid new more fault is before yet which last small same =
    elim which [
      | inl memory ↦
          trailer_on hand all taken count old mid new more (Err fault) is before last yet small
          (subst (λ f. TrailerSo (all ++ more) count new (Err f)) (sym memory) tt)
      | inr read ↦
          trailer_on hand all taken count old mid new [] (Err fault) is before (none_of mid new (same read)) yet (omega arith)
          (subst (λ f. TrailerSo (all ++ []) count new (Err f)) (sym read) (subst (IsOpen Trailer) (sym (append-nil all)) yet))
    ]

-- what shows itself of all so far, to which the last read may have added
pub trailer_shown : (shown : Shown) (all : List ℕ) (n count : ℕ) (left : Option (List ℕ)) → n ≤ length all
    → Shows Trailer (take n all) shown → TrailerSo all count left (answer_to shown count)
trailer_shown Whole all n count left within shows = (n, within, shows)
trailer_shown (Bad at) all n count left within shows = (n, within, at, shows, refl)
trailer_shown Large all n count left within shows = (n, within, shows)

pub none_taken : (xs : List ℕ) → take 0 xs ≡ []
none_taken [] = refl
none_taken (x ∷ xs) = refl

-- what was looked at is all that was there before the read
pub looked_whole : (bytes more all : List ℕ) (at : ℕ) → at ≡ length bytes → all ≡ bytes ++ more → take at all ≡ bytes
looked_whole bytes more all at is cut = ap (λ k. take k all) is ∙ ap (take (length bytes)) cut ∙ take-append_seam bytes more

pub stops_after : (hand bytes taken more : List ℕ) → bytes ≡ hand ++ taken → IsOpen Trailer bytes → length more ≤ BLOCK
    → StopsOpen hand (taken ++ more)
stops_after hand bytes taken more is yet small = inr (taken, more, refl, subst (IsOpen Trailer) is yet, small)

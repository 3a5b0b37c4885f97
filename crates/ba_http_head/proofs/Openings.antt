-- A head that was fetched, with what it says; for the clauses `head` of read_head and read_reply_head.
use Rattle.std.proofs.Common.{◌≡◌, ℕ, ◌-◌, ◌≤◌, inl, inr, List, ◌++◌, length, take, drop, ap, ◌∙◌, subst, arith, Result, Ok, Err, Option}
use Rattle.std.proofs.Common.{take_all, length-drop}
use Rattle.ba_http_head.specs.declared.headings.Heading.{Heading}
use Rattle.ba_http_head.specs.declared.faults.HttpFault.{HttpFault}
use Rattle.ba_http_head.specs.declared.faults.HttpFault.TheVariants.{Memory, BadHead, Length as NoLength, TooLarge, BadChunk, Truncated}
use Rattle.ba_http_head.specs.declared.faults.HttpFault.TheVariants.{Read}
use Rattle.ba_http_head.specs.declared.fetches.Fetched.{Fetched}
use Rattle.ba_http_head.specs.declared.scans.Shown.TheVariants.{Whole}
use Rattle.ba_http_head.specs.declared.lengths.Length.{Length}
use Rattle.ba_http_head.specs.Looks.{Shows}
use Rattle.ba_http_head.specs.Heads.{StartLine, SaysHead, IsHead, Opening, OpeningSo, Opens}
use Rattle.ba_http_head.specs.inside.Fetches.{Fetches}
use Rattle.ba_http_head.specs.inside.HeadParts.{HeadSo}

-- a fault of the head stays
pub opens_fault : (heading : Heading) (old new : Option (List ℕ)) (fault : HttpFault) → Fetches heading old new (Err fault)
    → Opens heading old new (Err fault)
opens_fault heading old new Memory f = (f.0, f.1, f.2, f.3, f.4, tt)
opens_fault heading old new (BadHead place) f = (f.0, f.1, f.2, f.3, f.4, f.5)
opens_fault heading old new NoLength f = absurd f.5
opens_fault heading old new TooLarge f = (f.0, f.1, f.2, f.3, f.4, (f.5.0, f.5.1, inl f.5.2))
opens_fault heading old new (BadChunk place) f = absurd f.5
opens_fault heading old new Truncated f = (f.0, f.1, f.2, f.3, f.4, f.5)
opens_fault heading old new Read f = (f.0, f.1, f.2, f.3, f.4, f.5)

module _ (heading : Heading) (fetched : Fetched) (taken : List ℕ) (left : Option (List ℕ)) (same : fetched.bytes ≡ taken)
    (within : fetched.len ≤ length taken) (shows : Shows heading (take fetched.len taken) Whole) where
  head : (start : StartLine) (says : Result (Option Length) HttpFault)
      → SaysHead heading (take fetched.len fetched.bytes) start says → IsHead heading (take fetched.len taken) start says
  head start says h = record { shows = shows; says = subst (λ v. SaysHead heading (take fetched.len v) start says) same h }

  pub opening : (result : Result Opening HttpFault)
      → HeadSo heading (take fetched.len fetched.bytes) (drop fetched.len fetched.bytes) result → OpeningSo heading taken left result
  opening (Ok o) h = (fetched.len, within, head o.start (Ok o.length) h.0, h.1 ∙ ap (drop fetched.len) same)
  opening (Err Memory) h = tt
  opening (Err (BadHead place)) h = absurd h
  opening (Err NoLength) h = (fetched.len, within, h.0, head h.0 (Err NoLength) h.1)
  opening (Err TooLarge) h = (fetched.len, within, inr (h.0, head h.0 (Err TooLarge) h.1))
  opening (Err (BadChunk place)) h = absurd h
  opening (Err Truncated) h = absurd h
  opening (Err Read) h = absurd h

rest_of : (n : ℕ) (xs : List ℕ) → take (length xs - n) (drop n xs) ≡ drop n xs
rest_of n xs = take_all (length xs - n) (drop n xs) (omega (arith, length-drop n xs))

-- the head that was fetched says what its bytes say
pub opens_so : (heading : Heading) (old new : Option (List ℕ)) (fetched : Fetched) (one two : List ℕ) (result : Result Opening HttpFault)
    → Fetches heading old new (Ok fetched) → one ≡ fetched.bytes → two ≡ fetched.bytes
    → HeadSo heading (take fetched.len one) (take (length two - fetched.len) (drop fetched.len two)) result → Opens heading old new result
opens_so heading old new fetched one two result f first second h =
    let rest : take (length two - fetched.len) (drop fetched.len two) ≡ drop fetched.len fetched.bytes =
    rest_of fetched.len two ∙ ap (drop fetched.len) second in
    let so : HeadSo heading (take fetched.len fetched.bytes) (drop fetched.len fetched.bytes) result =
    subst (λ v. HeadSo heading (take fetched.len fetched.bytes) v result) rest
    (subst (λ v. HeadSo heading (take fetched.len v) (take (length two - fetched.len) (drop fetched.len two)) result) first h) in
    (f.0, f.1, f.2, f.3, f.4, opening heading fetched (f.0 ++ f.1) new f.5.0 f.5.1 f.5.2 result so)

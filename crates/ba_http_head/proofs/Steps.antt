-- What was found after one more read; for the clause `found` of fetch_by.
use Rattle.std.proofs.Common.{◌≡◌, ℕ, ◌≤◌, List, [], ◌∷◌, ◌++◌, length, take, Option, None, Some, Result, Ok, Err, refl, sym, ◌∙◌, subst, arith}
use Rattle.std.proofs.Common.{append-nil}
use Rattle.std.specs.Io.KnownBytes.{Consumes, Keeps}
use Rattle.std.proofs.Common.{◌⊎◌, inl, inr}
use Rattle.ba_http_head.specs.declared.faults.HttpFault.TheVariants.{Memory, Read}
use Rattle.std.proofs.KnownBytes.{Consumes-trans}
use Rattle.ba_http_head.specs.declared.headings.Heading.{Heading}
use Rattle.ba_http_head.specs.declared.faults.HttpFault.{HttpFault}
use Rattle.ba_http_head.specs.declared.fetches.Fetched.{Fetched}
use Rattle.ba_http_head.specs.HeadLines.{IsOpen}
use Rattle.ba_http_head.specs.declared.blocks.TheConstants.{BLOCK}
use Rattle.ba_http_head.specs.inside.Fetches.{FetchedSo, Fetches, ended}
use Rattle.ba_http_head.specs.declared.scans.Shown.{Shown}
use Rattle.ba_http_head.specs.declared.scans.Shown.TheVariants.{Whole, Bad, Large}
use Rattle.ba_http_head.specs.Looks.{Shows}

pub fetched : (heading : Heading) (old mid new : Option (List ℕ)) (hand more all : List ℕ) (result : Result Fetched HttpFault)
    → Consumes old mid hand → Consumes mid new more → IsOpen heading hand → length more ≤ BLOCK → all ≡ hand ++ more
    → FetchedSo heading all new result → Fetches heading old new result
fetched heading old mid new hand more all result before last yet small is found =
    (hand, more, Consumes-trans old mid new hand more before last, yet, small, subst (λ v. FetchedSo heading v new result) is found)

pub nothing : (old : Option (List ℕ)) → Consumes old old []
nothing None = tt
nothing (Some xs) = refl

pub kept : (old : Option (List ℕ)) → Keeps old old
kept None = tt
kept (Some xs) = refl

pub kept_on : (a b c : Option (List ℕ)) → Keeps a b → Keeps b c → Keeps a c
kept_on None b c first second = tt
kept_on (Some xs) None c first second = absurd first
kept_on (Some xs) (Some ys) None first second = absurd second
kept_on (Some xs) (Some ys) (Some zs) first second = second ∙ first

pub empty : (xs : List ℕ) → length xs ≡ 0 → xs ≡ []
empty [] none = refl
empty (x ∷ xs) none = absurd (omega (arith, none))

-- what stays is none of it
pub none_of : (old new : Option (List ℕ)) → Keeps old new → Consumes old new []
none_of None new same = tt
none_of (Some xs) None same = absurd same
none_of (Some xs) (Some ys) same = sym same

-- a read that wasn't appended, or failed
pub not_read : (heading : Heading) (old mid new : Option (List ℕ)) (hand more : List ℕ) (fault : HttpFault) → Consumes old mid hand
    → IsOpen heading hand → (fault ≡ Memory) ⊎ (fault ≡ Read) → Consumes mid new more → length more ≤ BLOCK
    → (fault ≡ Read → Keeps mid new) → Fetches heading old new (Err fault)
not_read heading old mid new hand more fault before yet which last small same =
    elim which [
      | inl memory ↦
          fetched heading old mid new hand more (hand ++ more) (Err fault) before last yet small refl
          (subst (λ f. FetchedSo heading (hand ++ more) new (Err f)) (sym memory) tt)
      | inr read ↦
          fetched heading old mid new hand [] hand (Err fault) before (none_of mid new (same read)) yet (omega arith)
          (sym (append-nil hand))
          (subst (λ f. FetchedSo heading hand new (Err f)) (sym read) yet)
    ]

pub found_so : (heading : Heading) (shown : Shown) (all : List ℕ) (n : ℕ) (left : Option (List ℕ)) → n ≤ length all
    → Shows heading (take n all) shown → FetchedSo heading all left (ended shown all n)
found_so heading Whole all n left within shows = (refl, within, shows)
found_so heading (Bad place) all n left within shows = (n, within, shows)
found_so heading Large all n left within shows = (n, within, shows)

-- a result isn't the fault of a read
pub no_read_fault : {T : Type 0} (x : T) → ◌≡◌ {A = Result T HttpFault} (Ok x) (Err Read) → ⊥
no_read_fault x is = cc

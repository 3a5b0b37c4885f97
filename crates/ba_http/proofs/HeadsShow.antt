-- Of any bytes something shows itself as a head or a trailer, or they are open; for the law.
use Rattle.std.proofs.Common.{◌≡◌, ℕ, ◌≤◌, ◌⊎◌, inl, inr, Bool, true, false, nat_eq, List, [], ◌∷◌, ◌++◌, length, take, refl, sym, ap, ◌∙◌}
use Rattle.std.proofs.Common.{subst, arith, append-nil, append_assoc, length-append, take_all}
use Rattle.std.specs.Prelude.{◌||◌}
use Rattle.std.proofs.lemmas.Bool.{eqb-true}
use Rattle.std.proofs.lemmas.List.{take-append-le}
use Rattle.ba_http_head.specs.declared.headings.Heading.{Heading}
use Rattle.ba_http_head.specs.declared.scans.Shown.{Shown}
use Rattle.ba_http_head.specs.declared.scans.Shown.TheVariants.{Whole, Bad, Large}
use Rattle.ba_http_head.specs.HeadLines.{EndsInFeed, BeginsLine, has_feed, IsPastLimits, Settles, SettlesFirst, IsOpen, LastLineAt}
use Rattle.ba_http_head.specs.Looks.{Shows}
use Rattle.ba_http_head.proofs.LookLemmas.{first_now, open_now, begun}
use Rattle.ba_http.proofs.NotNever.{NotNever, sure, follow, holds_or}

-- the last line of some bytes, which isn't ended
record Unended (bytes : List ℕ) : Type 0 where
  before : List ℕ
  line : List ℕ
  begins : BeginsLine before
  unended : has_feed line ≡ false
  split : bytes ≡ before ++ line

longer : (byte : ℕ) (before : List ℕ) → BeginsLine before → (before ≡ [] → ⊥) → BeginsLine (byte ∷ before)
longer byte before begins some =
    elim begins [
      | inl none ↦ absurd (some none)
      | inr ends ↦ inr (byte ∷ ends.0, ap (λ v. byte ∷ v) ends.1)
    ]

last_of : (bytes : List ℕ) → Unended bytes
last_of [] = record { before = []; line = []; begins = inl refl; unended = refl; split = refl }
last_of (byte ∷ bytes) = more (last_of bytes)
  where
    first : (line : List ℕ) → has_feed line ≡ false → bytes ≡ line → (t : Bool) → nat_eq byte 10 ≡ t → Unended (byte ∷ bytes)
    first line none is true feed = record {
      before = byte ∷ [];
      line = line;
      begins = inr ([], ap (λ v. v ∷ []) (eqb-true byte 10 feed));
      unended = none;
      split = ap (λ v. byte ∷ v) is;
    }
    first line none is false other = record {
      before = [];
      line = byte ∷ line;
      begins = inl refl;
      unended = ap (λ t. t || has_feed line) other ∙ none;
      split = ap (λ v. byte ∷ v) is;
    }

    cut : (before line : List ℕ) → BeginsLine before → has_feed line ≡ false → bytes ≡ before ++ line → Unended (byte ∷ bytes)
    cut [] line begins none is = first line none is (nat_eq byte 10) refl
    cut (b ∷ before) line begins none is = record {
      before = byte ∷ b ∷ before;
      line = line;
      begins = longer byte (b ∷ before) begins (λ same. let no : b ∷ before ≡ [] = same in cc);
      unended = none;
      split = ap (λ v. byte ∷ v) is;
    }

    more : Unended bytes → Unended (byte ∷ bytes)
    more u = cut u.before u.line u.begins u.unended u.split

-- the last line of bytes that end in a line feed has a place
last_line : (prefix : List ℕ) → EndsInFeed prefix → (place : ℕ) × LastLineAt prefix place
last_line prefix ends =
    let u = last_of ends.0 in (
      length u.before,
      (
        u.before,
        u.line,
        u.begins,
        u.unended,
        ends.1 ∙ ap (λ v. v ++ 10 ∷ []) u.split ∙ append_assoc u.before u.line (10 ∷ []),
        refl,
      ),
    )

-- what shows itself of bytes within the limits
within_limits : (heading : Heading) (prefix : List ℕ) → SettlesFirst heading prefix → ¬ (IsPastLimits heading prefix)
    → (shown : Shown) × Shows heading prefix shown
within_limits heading prefix first within =
    elim first.0 [
      | inl past ↦ absurd (within past)
      | inr other ↦
          elim other [
            | inl bad ↦ let at = last_line prefix bad.0 in (Bad at.0, (first, bad, at.1, within))
            | inr is ↦ (Whole, (first, is, within))
          ]
    ]

-- one byte more of open bytes
pub head_step : (heading : Heading) (seen : List ℕ) (b : ℕ) → IsOpen heading seen
    → NotNever (IsOpen heading (seen ++ b ∷ []) ⊎ ((shown : Shown) × Shows heading (seen ++ b ∷ []) shown))
head_step heading seen b yet =
    follow (holds_or (Settles heading (seen ++ b ∷ []))) (λ t.
    elim t [
      | inl settles ↦
          follow (holds_or (IsPastLimits heading (seen ++ b ∷ []))) (λ p.
          elim p [
            | inl past ↦ sure (inr (Large, (first_now heading seen b yet settles, past)))
            | inr within ↦ sure (inr (within_limits heading (seen ++ b ∷ []) (first_now heading seen b yet settles) within))
          ])
      | inr not_yet ↦ sure (inl (open_now heading seen b yet not_yet))
    ])

-- what is seen of bytes
pub data HeadSeen (heading : Heading) (bytes : List ℕ) : Type 0 where
  goes_on : IsOpen heading bytes → HeadSeen heading bytes
  shows : (n : ℕ) → (shown : Shown) → n ≤ length bytes → Shows heading (take n bytes) shown → HeadSeen heading bytes

head_more : (heading : Heading) (seen : List ℕ) (b : ℕ) → HeadSeen heading seen → NotNever (HeadSeen heading (seen ++ b ∷ []))
head_more heading seen b (goes_on yet) = follow (head_step heading seen b yet) (λ t. sure (now t))
  where
    now : IsOpen heading (seen ++ b ∷ []) ⊎ ((shown : Shown) × Shows heading (seen ++ b ∷ []) shown) → HeadSeen heading (seen ++ b ∷ [])
    now (inl is) = goes_on is
    now (inr is) =
        shows (length (seen ++ b ∷ [])) is.0 (omega arith)
        (subst (λ v. Shows heading v is.0) (sym (take_all (length (seen ++ b ∷ [])) (seen ++ b ∷ []) (omega arith))) is.1)
head_more heading seen b (shows n shown within is) =
    sure (shows n shown (omega (arith, within, length-append seen (b ∷ [])))
    (subst (λ v. Shows heading v shown) (sym (take-append-le n seen (b ∷ []) within)) is))

head_after : (heading : Heading) (bytes seen : List ℕ) → NotNever (HeadSeen heading seen) → NotNever (HeadSeen heading (seen ++ bytes))
head_after heading [] seen so_far = subst (λ v. NotNever (HeadSeen heading v)) (sym (append-nil seen)) so_far
head_after heading (b ∷ bytes) seen so_far =
    subst (λ v. NotNever (HeadSeen heading v)) (append_assoc seen (b ∷ []) bytes)
    (head_after heading bytes (seen ++ b ∷ []) (follow so_far (head_more heading seen b)))

pub head_seen : (heading : Heading) (bytes : List ℕ) → NotNever (HeadSeen heading bytes)
head_seen heading bytes = head_after heading bytes [] (sure (goes_on (begun heading).open_yet))

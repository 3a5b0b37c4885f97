-- A body of so many bytes, or of all that are left, block by block; for the clauses `body`.
use Rattle.std.proofs.Common.{◌≡◌, ℕ, ◌+◌, ◌-◌, ◌<◌, ◌≤◌, ◌⊎◌, inl, inr, min, List, [], ◌++◌, length, take, refl, sym, ap, ◌∙◌, subst}
use Rattle.std.proofs.Common.{arith, append-nil, append_assoc, length-append, Option, Result, Ok, Err, take_all}
use Rattle.std.proofs.lemmas.List.{take-append-le}
use Rattle.std.proofs.lemmas.Bool.{cases_lt}
use Rattle.std.proofs.Math.Seq.{take-append-add}
use Rattle.std.specs.Io.KnownBytes.{Consumes, Keeps}
use Rattle.std.proofs.KnownBytes.{Consumes-trans}
use Rattle.ba_http_head.specs.declared.blocks.TheConstants.{BLOCK}
use Rattle.ba_http_head.specs.declared.faults.HttpFault.{HttpFault}
use Rattle.ba_http_head.specs.declared.faults.HttpFault.TheVariants.{Memory, BadHead, Length, TooLarge, BadChunk, Truncated, Read}
use Rattle.ba_http_head.proofs.Steps.{none_of}
use Rattle.ba_http_body.specs.Counted.{StopsAt, CountedSo, Counts}
use Rattle.ba_http_body.specs.Remaining.{RemainingSo, EndsWithin}

-- a prefix of two lists that reaches into the second, or not
pub take-append : (n : ℕ) (xs ys : List ℕ) → take n (xs ++ ys) ≡ take n xs ++ take (n - length xs) ys
take-append n xs ys =
    elim (cases_lt n (length xs)) [
      | inl less ↦
          let none : 0 ≡ n - length xs = omega (arith, less) in
          take-append-le n xs ys (omega (arith, less)) ∙ sym (append-nil (take n xs)) ∙ ap (λ k. take n xs ++ take k ys) none
      | inr most ↦
          let sum : n ≡ length xs + (n - length xs) = omega (arith, most) in
          ap (λ k. take k (xs ++ ys)) sum ∙ take-append-add xs ys (n - length xs)
          ∙ ap (λ v. v ++ take (n - length xs) ys) (sym (take_all n xs most))
    ]

-- a block more is given, up to the count
pub given_on : (old mid new : List ℕ → Type 0) (count left : ℕ) (taken more : List ℕ) → left ≡ count - length taken
    → ((given : List ℕ) → old given → mid (given ++ take count taken)) → ((given : List ℕ) → mid given → new (given ++ take left more))
    → (given : List ℕ) → old given → new (given ++ take count (taken ++ more))
given_on old mid new count left taken more is before now given stands =
    let all : (given ++ take count taken) ++ take left more ≡ given ++ take count (taken ++ more) =
    append_assoc given (take count taken) (take left more) ∙ ap (λ k. given ++ (take count taken ++ take k more)) is
    ∙ ap (λ v. given ++ v) (sym (take-append count taken more)) in
    subst new all (now (given ++ take count taken) (before given stands))

-- nothing is given yet
pub given_none : (stands : List ℕ → Type 0) (count : ℕ) (given : List ℕ) → stands given → stands (given ++ take count [])
given_none stands count given h = subst stands (sym (append-nil given) ∙ ap (λ v. given ++ v) (sym (take_all count [] (omega arith)))) h

-- all that was taken was given
pub given_all : (old new : List ℕ → Type 0) (past : ℕ) (taken : List ℕ) → length taken < past
    → ((given : List ℕ) → old given → new (given ++ take past taken)) → (given : List ℕ) → old given → new (given ++ taken)
given_all old new past taken short so given stands =
    subst new (ap (λ v. given ++ v) (take_all past taken (omega (arith, short)))) (so given stands)

pub stops_on : (hand taken more : List ℕ) (count : ℕ) → length (hand ++ taken) < count → length more ≤ BLOCK
    → StopsAt hand count (taken ++ more)
stops_on hand taken more count short small = inr (taken, more, refl, short, small)

-- a read that wasn't given on, or failed: these bytes more were taken, or none
pub not_given : (old new : List ℕ → Type 0) (left_old left_mid left_new : Option (List ℕ)) (taken more : List ℕ) (count : ℕ)
    (fault : HttpFault) → Consumes left_old left_mid taken → length taken < count → (fault ≡ Memory) ⊎ (fault ≡ Read)
    → Consumes left_mid left_new more → length more ≤ BLOCK → (fault ≡ Read → Keeps left_mid left_new)
    → Counts old new [] count left_old left_new (Err fault)
not_given old new left_old left_mid left_new taken more count fault before short which last small same =
    elim which [
      | inl memory ↦ (
        taken ++ more,
        Consumes-trans left_old left_mid left_new taken more before last,
        stops_on [] taken more count short small,
        subst (λ f. CountedSo old new (taken ++ more) count left_new (Err f)) (sym memory) tt,
      )
      | inr read ↦ (
        taken ++ [],
        Consumes-trans left_old left_mid left_new taken [] before (none_of left_mid left_new (same read)),
        stops_on [] taken [] count short (omega arith),
        subst (λ f. CountedSo old new (taken ++ []) count left_new (Err f)) (sym read) (omega (arith, short, length-append taken [])),
      )
    ]

pub not_given_on : (old new : List ℕ → Type 0) (left_old left_mid left_new : Option (List ℕ)) (taken more : List ℕ) (past : ℕ)
    (fault : HttpFault) → Consumes left_old left_mid taken → length taken < past → (fault ≡ Memory) ⊎ (fault ≡ Read)
    → Consumes left_mid left_new more → length more ≤ BLOCK → (fault ≡ Read → Keeps left_mid left_new)
    → EndsWithin old new [] past left_old left_new (Err fault)
not_given_on old new left_old left_mid left_new taken more past fault before short which last small same =
    elim which [
      | inl memory ↦ (
        taken ++ more,
        Consumes-trans left_old left_mid left_new taken more before last,
        stops_on [] taken more past short small,
        subst (λ f. RemainingSo old new (taken ++ more) past left_new (Err f)) (sym memory) tt,
      )
      | inr read ↦ (
        taken ++ [],
        Consumes-trans left_old left_mid left_new taken [] before (none_of left_mid left_new (same read)),
        stops_on [] taken [] past short (omega arith),
        subst (λ f. RemainingSo old new (taken ++ []) past left_new (Err f)) (sym read) (omega (arith, short, length-append taken [])),
      )
    ]

-- there are too many
pub too_many_so : (old new : List ℕ → Type 0) (all : List ℕ) (past : ℕ) (left : Option (List ℕ)) → past ≤ length all
    → RemainingSo old new all past left (Err TooLarge)
too_many_so old new all past left many = many

-- all that was at hand, and then what was read
module _ (hand taken : List ℕ) (past : ℕ) (within : length hand < past) where
  pub stops_after_all : StopsAt [] (past - length hand) taken → StopsAt hand past taken
  stops_after_all stops =
      elim stops [
        | inl none ↦ inl none
        | inr more ↦ inr (more.0, more.1, more.2, omega (arith, more.3, within, length-append hand more.0), more.4)
      ]

  pub after_all : (old mid new : List ℕ → Type 0) (left : Option (List ℕ)) (result : Result (Unit {0}) HttpFault)
      → ((given : List ℕ) → old given → mid (given ++ hand)) → RemainingSo mid new taken (past - length hand) left result
      → RemainingSo old new (hand ++ taken) past left result
  after_all old mid new left (Ok done) before so = (
    omega (arith, so.0, within, length-append hand taken),
    so.1,
    λ given stands. subst new (append_assoc given hand taken) (so.2 (given ++ hand) (before given stands)),
  )
  after_all old mid new left (Err Memory) before so = tt
  after_all old mid new left (Err (BadHead place)) before so = absurd so
  after_all old mid new left (Err Length) before so = absurd so
  after_all old mid new left (Err TooLarge) before so = omega (arith, so, within, length-append hand taken)
  after_all old mid new left (Err (BadChunk place)) before so = absurd so
  after_all old mid new left (Err Truncated) before so = absurd so
  after_all old mid new left (Err Read) before so = omega (arith, so, within, length-append hand taken)

-- what was at hand, and then what was read
module _ (hand taken : List ℕ) (count first : ℕ) (is : first ≡ min count (length hand)) where
  pub stops_after : StopsAt [] (count - first) taken → StopsAt hand count taken
  stops_after stops =
      elim stops [
        | inl none ↦ inl none
        | inr more ↦ inr (more.0, more.1, more.2, omega (arith, more.3, is, length-append hand more.0), more.4)
      ]

  pub after_hand : (old mid new : List ℕ → Type 0) (left : Option (List ℕ)) (result : Result (Unit {0}) HttpFault)
      → ((given : List ℕ) → old given → mid (given ++ take first hand)) → CountedSo mid new taken (count - first) left result
      → CountedSo old new (hand ++ taken) count left result
  after_hand old mid new left (Ok done) before so = (
    omega (arith, so.0, is, length-append hand taken),
    λ given stands.
        let whole : take first hand ++ take (count - first) taken ≡ take count (hand ++ taken) =
        sym (take-append count hand taken ∙ both) in
        subst new (append_assoc given (take first hand) (take (count - first) taken) ∙ ap (λ v. given ++ v) whole)
        (so.1 (given ++ take first hand) (before given stands)),
  )
    where
      both : take count hand ++ take (count - length hand) taken ≡ take first hand ++ take (count - first) taken
      both =
          elim (cases_lt count (length hand)) [
            | inl less ↦
                let all : count ≡ first = omega (arith, less, is) in
                let none : count - length hand ≡ count - first = omega (arith, less, is) in
                ap (λ k. take k hand ++ take (count - length hand) taken) all ∙ ap (λ k. take first hand ++ take k taken) none
            | inr most ↦
                let others : count - length hand ≡ count - first = omega (arith, most, is) in
                ap (λ v. v ++ take (count - length hand) taken)
                (take_all count hand most ∙ sym (take_all first hand (omega (arith, most, is))))
                ∙ ap (λ k. take first hand ++ take k taken) others
          ]
  after_hand old mid new left (Err Memory) before so = tt
  after_hand old mid new left (Err (BadHead place)) before so = absurd so
  after_hand old mid new left (Err Length) before so = absurd so
  after_hand old mid new left (Err TooLarge) before so = absurd so
  after_hand old mid new left (Err (BadChunk place)) before so = absurd so
  after_hand old mid new left (Err Truncated) before so = (omega (arith, so.0, is, length-append hand taken), so.1)
  after_hand old mid new left (Err Read) before so = omega (arith, so, is, length-append hand taken)

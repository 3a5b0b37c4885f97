-- What shows itself of bytes is one thing, and a head says one thing; for the laws.
use Rattle.std.proofs.Common.{◌≡◌, ℕ, ◌+◌, ◌-◌, ◌<◌, ◌≤◌, inl, inr, true, false, nat_eq, List, [], ◌∷◌, ◌++◌, length, take, refl, sym, ap}
use Rattle.std.proofs.Common.{◌∙◌, subst, arith, append-nil, length-append, Option, Result, zero, suc}
use Rattle.std.specs.Prelude.{◌||◌}
use Rattle.std.proofs.lemmas.Bool.{cases_lt}
use Rattle.std.proofs.lemmas.List.{length-take-le, take-take, take-append-le}
use Rattle.std.proofs.Math.Seq.{take-append_seam, take-append-add}
use Rattle.httparse.specs.Grammar.{RequestHead, ResponseHead, status_code}
use Rattle.httparse.specs.Spans.{name_and_value}
use Rattle.std.proofs.Common.{map}
use Rattle.httparse.proofs.GrammarLemmas.{request_unique, response_unique}
use Rattle.ba_http_head.specs.declared.faults.HttpFault.{HttpFault}
use Rattle.ba_http_head.specs.declared.headings.Heading.{Heading}
use Rattle.ba_http_head.specs.declared.headings.Heading.TheVariants.{Request, Reply, Trailer}
use Rattle.ba_http_head.specs.declared.lengths.Length.{Length}
use Rattle.ba_http_head.specs.declared.scans.Shown.{Shown}
use Rattle.ba_http_head.specs.declared.scans.Shown.TheVariants.{Whole, Bad, Large}
use Rattle.ba_http_head.specs.HeadLines.{IsWhole, NeverWhole, has_feed, Settles, SettlesFirst, LastLineAt}
use Rattle.ba_http_head.specs.Heads.{StartLine, asks, answers, SaysHead}
use Rattle.ba_http_head.specs.Lengths.{length_of, needed_length}
use Rattle.ba_http_head.specs.Looks.{Shows}
use Rattle.ba_http_head.proofs.Ends.{not_last}

pub first_of : (heading : Heading) (prefix : List ℕ) (shown : Shown) → Shows heading prefix shown → SettlesFirst heading prefix
first_of heading prefix Whole shows = shows.0
first_of heading prefix (Bad place) shows = shows.0
first_of heading prefix Large shows = shows.0

whole_or_never : (heading : Heading) (prefix : List ℕ) → IsWhole heading prefix → NeverWhole heading prefix → ⊥
whole_or_never Request prefix whole never = never [] whole.0 [] (whole.1.0, append-nil prefix ∙ whole.1.1)
whole_or_never Reply prefix whole never = never [] whole.0 [] (whole.1.0, append-nil prefix ∙ whole.1.1)
whole_or_never Trailer prefix whole never = never [] whole.0 whole.1 [] (whole.2.0, append-nil prefix ∙ whole.2.1)

feed_take : (n : ℕ) (line : List ℕ) → has_feed line ≡ false → has_feed (take n line) ≡ false
feed_take zero line none = refl
feed_take (suc n) [] none = refl
feed_take (suc n) (b ∷ line) none =
    elim (nat_eq b 10) as (λ t. (t || has_feed line) ≡ false → (t || has_feed (take n line)) ≡ false) [
      | true ↦ λ h. h
      | false ↦ λ h. feed_take n line h
    ] none

-- a last line doesn't begin before another
not_before : (prefix : List ℕ) (m n : ℕ) → LastLineAt prefix m → LastLineAt prefix n → m < n → ⊥
not_before prefix m n a b less =
    let k = n - m in
    let size : length prefix ≡ length a.0 + (length a.1 + 1) =
    ap length a.4 ∙ (length-append a.0 (a.1 ++ 10 ∷ []) ∙ ap (λ v. length a.0 + v) (length-append a.1 (10 ∷ []))) in
    let size' : length prefix ≡ length b.0 + (length b.1 + 1) =
    ap length b.4 ∙ (length-append b.0 (b.1 ++ 10 ∷ []) ∙ ap (λ v. length b.0 + v) (length-append b.1 (10 ∷ []))) in
    let within : k ≤ length a.1 = omega (arith, size, size', less, a.5, b.5) in
    let sum : length b.0 ≡ length a.0 + k = omega (arith, less, a.5, b.5) in
    let here : take (length a.0 + k) prefix ≡ a.0 ++ take k a.1 =
    ap (take (length a.0 + k)) a.4
    ∙ (take-append-add a.0 (a.1 ++ 10 ∷ []) k ∙ ap (λ v. a.0 ++ v) (take-append-le k a.1 (10 ∷ []) within)) in
    let there : take (length b.0) prefix ≡ b.0 = ap (take (length b.0)) b.4 ∙ take-append_seam b.0 (b.1 ++ 10 ∷ []) in
    let same : a.0 ++ take k a.1 ≡ b.0 = sym here ∙ ap (λ v. take v prefix) (sym sum) ∙ there in
    elim b.2 [
      | inl none ↦ omega (arith, ap length none, b.5, less)
      | inr ends ↦
          not_last a.0 (take k a.1) ends.0 (same ∙ ends.1) (omega (arith, length-take-le k a.1 within, less)) (feed_take k a.1 a.3)
    ]

one_place : (prefix : List ℕ) (m n : ℕ) → LastLineAt prefix m → LastLineAt prefix n → m ≡ n
one_place prefix m n a b =
    elim (cases_lt m n) [
      | inl less ↦ absurd (not_before prefix m n a b less)
      | inr most ↦ elim (cases_lt n m) [ inl less ↦ absurd (not_before prefix n m b a less) | inr least ↦ omega (arith, most, least) ]
    ]

one_shown : (heading : Heading) (prefix : List ℕ) (a b : Shown) → Shows heading prefix a → Shows heading prefix b → a ≡ b
one_shown heading prefix Whole Whole x y = refl
one_shown heading prefix Whole (Bad n) x y = absurd (whole_or_never heading prefix x.1 y.1.1)
one_shown heading prefix Whole Large x y = absurd (x.2 y.1)
one_shown heading prefix (Bad m) Whole x y = absurd (whole_or_never heading prefix y.1 x.1.1)
one_shown heading prefix (Bad m) (Bad n) x y = ap Bad (one_place prefix m n x.2 y.2)
one_shown heading prefix (Bad m) Large x y = absurd (x.3 y.1)
one_shown heading prefix Large Whole x y = absurd (y.2 x.1)
one_shown heading prefix Large (Bad n) x y = absurd (y.3 x.1)
one_shown heading prefix Large Large x y = refl

not_sooner : (heading : Heading) (bytes : List ℕ) (m n : ℕ) (a b : Shown) → n ≤ length bytes → Shows heading (take m bytes) a
    → Shows heading (take n bytes) b → m < n → ⊥
not_sooner heading bytes m n a b within x y less =
    let size = length-take-le n bytes within in
    (first_of heading (take n bytes) b y).1 m (omega (arith, size, less))
    (subst (Settles heading) (sym (take-take m n bytes (omega (arith, less)))) (first_of heading (take m bytes) a x).0)

pub shows_once : (heading : Heading) (bytes : List ℕ) (m n : ℕ) (a b : Shown) → m ≤ length bytes → n ≤ length bytes
    → Shows heading (take m bytes) a → Shows heading (take n bytes) b → (m ≡ n) × (a ≡ b)
shows_once heading bytes m n a b first second x y =
    let same : m ≡ n = elim (cases_lt m n) [
      | inl less ↦ absurd (not_sooner heading bytes m n a b second x y less)
      | inr most ↦
          elim (cases_lt n m) [
            | inl less ↦ absurd (not_sooner heading bytes n m b a first y x less)
            | inr least ↦ omega (arith, most, least)
          ]
    ] in
    (same, one_shown heading (take n bytes) a b (subst (λ v. Shows heading (take v bytes) a) same x) y)

pub says_one : (heading : Heading) (prefix : List ℕ) (a b : StartLine) (x y : Result (Option Length) HttpFault)
    → SaysHead heading prefix a x → SaysHead heading prefix b y → (a ≡ b) × (x ≡ y)
says_one Request prefix a b x y one other =
    let same = (request_unique prefix one.0 other.0 [] [] one.1 other.1).0 in (
      one.2 ∙ ap (λ (h : RequestHead). asks h.method h.target) same ∙ sym other.2,
      one.3 ∙ ap (λ (h : RequestHead). needed_length (length_of (map name_and_value h.fields))) same ∙ sym other.3,
    )
says_one Reply prefix a b x y one other =
    let same = (response_unique prefix one.0 other.0 [] [] one.1 other.1).0 in (
      one.2 ∙ ap (λ (h : ResponseHead). answers (status_code h)) same ∙ sym other.2,
      one.3 ∙ ap (λ (h : ResponseHead). length_of (map name_and_value h.fields)) same ∙ sym other.3,
    )
says_one Trailer prefix a b x y one other = absurd one

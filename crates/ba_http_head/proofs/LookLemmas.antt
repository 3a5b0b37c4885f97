-- One byte more of a head or a trailer; for the clauses of look.
use Rattle.std.proofs.Common.{◌≡◌, ℕ, ◌+◌, ◌-◌, ◌<◌, ◌≤◌, Bool, true, false, not, cond, if◌then◌else◌, nat_eq, List, [], ◌∷◌, ◌++◌, length}
use Rattle.std.proofs.Common.{take, drop, refl, sym, ap, ◌∙◌, subst, arith, append_assoc, append-nil, length-append, take-append-drop}
use Rattle.std.proofs.Common.{take_all, inl, inr}
use Rattle.std.specs.Prelude.{◌||◌}
use Rattle.std.specs.List.{count_by}
use Rattle.std.proofs.lemmas.List.{take-append-le, drop-append-le, take_more, drop-take, length-take-le}
use Rattle.std.proofs.Math.Seq.{drop-length}
use Rattle.std.specs.Prelude.{slice_range}
use Rattle.std.proofs.Common.{get_or}
use Rattle.ba_http_head.proofs.LineLemmas.{feed_append}
use Rattle.std.proofs.lemmas.Bool.{cases_lt, eqb-true}
use Rattle.std.proofs.Math.Seq.{take-append_seam}
use Rattle.httparse.specs.Grammar.{LineEnd, crlf, lf, print_end, print_blank, print_request, print_response, print_field, print_section}
use Rattle.std.proofs.Common.{flat_map}
use Rattle.ba_http_head.specs.declared.headings.Heading.{Heading}
use Rattle.ba_http_head.specs.declared.headings.Heading.TheVariants.{Request, Reply, Trailer}
use Rattle.ba_http_head.specs.declared.scans.LineStart.{LineStart}
use Rattle.ba_http_head.specs.declared.scans.Shown.TheVariants.{Whole, Bad, Large}
use Rattle.ba_http_head.specs.inside.Asks.{HasWhole}
use Rattle.ba_http_head.specs.declared.scans.TheConstants.{MOST_HEAD, MOST_FIELDS}
use Rattle.ba_http_head.specs.HeadLines.{IsWhole, NeverWhole, EndsInFeed, BeginsLine, has_feed, is_empty_line, filled_lines, field_lines}
use Rattle.ba_http_head.specs.HeadLines.{IsPastLimits, EndsBadLine, Settles, IsOpen, SettlesFirst}
use Rattle.ba_http_head.specs.Looks.{Shows, IsLooked}
use Rattle.ba_http_head.proofs.LineLemmas.{filled_append, line_first}
use Rattle.ba_http_head.proofs.Ends.{ends_after, end_ends, request_split, response_split, not_last}

pub whole_ends : (heading : Heading) (prefix : List ℕ) → IsWhole heading prefix → EndsInFeed prefix
whole_ends Request prefix whole =
    let split = request_split whole.0 in
    subst EndsInFeed (sym (whole.1.1 ∙ append-nil (print_request whole.0) ∙ split.2))
    (ends_after split.0 (print_end whole.0.last) (end_ends whole.0.last))
whole_ends Reply prefix whole =
    let split = response_split whole.0 in
    subst EndsInFeed (sym (whole.1.1 ∙ append-nil (print_response whole.0) ∙ split.2))
    (ends_after split.0 (print_end whole.0.last) (end_ends whole.0.last))
whole_ends Trailer prefix whole =
    subst EndsInFeed (sym (whole.2.1 ∙ append-nil (print_section whole.0 whole.1)))
    (ends_after (flat_map print_field whole.0) (print_end whole.1) (end_ends whole.1))

module _ (heading : Heading) (seen : List ℕ) (b : ℕ) (yet : IsOpen heading seen) where
  now : List ℕ
  now = seen ++ b ∷ []

  before : (n : ℕ) → n < length (seen ++ b ∷ []) → ¬ (Settles heading (take n (seen ++ b ∷ [])))
  before n less =
      let within : n ≤ length seen = omega (arith, less, length-append seen (b ∷ [])) in
      subst (λ v. ¬ (Settles heading v)) (sym (take-append-le n seen (b ∷ []) within)) (yet n within)

  pub first_now : Settles heading (seen ++ b ∷ []) → SettlesFirst heading (seen ++ b ∷ [])
  first_now settles = (settles, before)

  pub open_now : ¬ (Settles heading (seen ++ b ∷ [])) → IsOpen heading (seen ++ b ∷ [])
  open_now not_yet n within =
      elim (cases_lt n (length (seen ++ b ∷ []))) [
        | inl less ↦ before n less
        | inr most ↦ subst (λ v. ¬ (Settles heading v)) (sym (take_all n (seen ++ b ∷ []) most)) not_yet
      ]

  -- what stands whole at the prefix is all
  pub whole_now : HasWhole heading (seen ++ b ∷ []) → IsWhole heading (seen ++ b ∷ [])
  whole_now has =
      let cut = has.2 in
      let n = length has.0 in
      let prefix : take n (seen ++ b ∷ []) ≡ has.0 = ap (take n) cut ∙ take-append_seam has.0 has.1 in
      elim (cases_lt n (length (seen ++ b ∷ []))) [
        | inl less ↦ absurd (before n less (inr (inr (subst (IsWhole heading) (sym prefix) has.3))))
        | inr most ↦ subst (IsWhole heading) (sym prefix ∙ take_all n (seen ++ b ∷ []) most) has.3
      ]

-- nothing shows itself at another byte than a line feed
pub plain : (heading : Heading) (seen : List ℕ) (b : ℕ) → nat_eq b 10 ≡ false → length seen < MOST_HEAD
    → ¬ (Settles heading (seen ++ b ∷ []))
plain heading seen b other short settles =
    let never : EndsInFeed (seen ++ b ∷ []) → ⊥ = λ ends. not_last seen (b ∷ []) ends.0 ends.1 (omega arith) (ap (λ t. t || false) other) in
    elim settles [
      | inl past ↦ elim past [ inl long ↦ omega (arith, long, short, length-append seen (b ∷ [])) | inr many ↦ never many.0 ]
      | inr more ↦ elim more [ inl dead ↦ never dead.0 | inr whole ↦ never (whole_ends heading (seen ++ b ∷ []) whole) ]
    ]

pub differs : (a b : ℕ) → (a ≡ b → ⊥) → nat_eq a b ≡ false
differs a b not_same = other (nat_eq a b) refl
  where
    other : (t : Bool) → nat_eq a b ≡ t → t ≡ false
    other false is = refl
    other true is = absurd (not_same (eqb-true a b is))

-- all but the last byte, and the last
pub split_last : (prefix : List ℕ) → 0 < length prefix
    → take (length prefix - 1) prefix ++ get_or prefix (length prefix - 1) 0 ∷ [] ≡ prefix
split_last prefix some =
    let more : length prefix - 1 + 1 ≡ length prefix = omega (arith, some) in
    sym (take_more prefix (length prefix - 1) 0 (omega (arith, some))) ∙ ap (λ n. take n prefix) more
    ∙ take_all (length prefix) prefix (omega arith)

-- the line that ends with the last byte, without it
pub line_is : (prefix : List ℕ) (place : ℕ) → place ≤ length prefix - 1
    → slice_range prefix place (length prefix - 1) ≡ drop place (take (length prefix - 1) prefix)
line_is prefix place within =
    let last : place + (length prefix - 1 - place) ≡ length prefix - 1 = omega (arith, within) in
    sym (drop-take place (length prefix - 1 - place) prefix) ∙ ap (λ n. drop place (take n prefix)) last

tells : (t : Bool) → (0 + cond (not t) 1 0) ≡ (if t then 0 else 1)
tells true = refl
tells false = refl

one_line : (last : List ℕ) → has_feed last ≡ false → filled_lines (last ++ 10 ∷ []) ≡ (if is_empty_line last then 0 else 1)
one_line last none = ap (count_by (λ l. not (is_empty_line l))) (line_first last [] none) ∙ tells (is_empty_line last)

-- an empty line is a line end
empty_end : (line : List ℕ) → is_empty_line line ≡ true → (end : LineEnd) × (line ++ 10 ∷ [] ≡ print_end end)
empty_end [] is = (lf, refl)
empty_end (b ∷ []) is = (crlf, ap (λ v. v ∷ 10 ∷ []) (eqb-true b 13 is))
empty_end (b ∷ c ∷ line) is = absurd (let no : false ≡ true = is in cc)

is_empty : (t : Bool) (n : ℕ) → n + (if t then 0 else 1) ≡ 0 → t ≡ true
is_empty true n none = refl
is_empty false n none = absurd (omega (arith, none))

blank_more : (ends : List LineEnd) (end : LineEnd) → print_blank (ends ++ end ∷ []) ≡ print_blank ends ++ print_end end
blank_more [] end = append-nil (print_end end)
blank_more (e ∷ ends) end = ap (λ v. print_end e ++ v) (blank_more ends end)
    ∙ sym (append_assoc (print_end e) (print_blank ends) (print_end end))

module _ (heading : Heading) (seen : List ℕ) (line : LineStart) (so_far : IsLooked heading seen line) where
  -- another byte than a line feed
  pub plain_more : (b : ℕ) → nat_eq b 10 ≡ false → length seen < MOST_HEAD → IsLooked heading (seen ++ b ∷ []) line
  plain_more b other short = record {
    open_yet = open_now heading seen b so_far.open_yet (plain heading seen b other short);
    within = omega (arith, so_far.within, length-append seen (b ∷ []));
    begins = subst BeginsLine (sym (take-append-le line.place seen (b ∷ []) so_far.within)) so_far.begins;
    unended = ap has_feed (drop-append-le line.place seen (b ∷ []) so_far.within)
        ∙ feed_append (drop line.place seen) (b ∷ []) so_far.unended (ap (λ t. t || false) other);
    filled = so_far.filled ∙ ap filled_lines (sym (take-append-le line.place seen (b ∷ []) so_far.within));
    empties = λ none. ((so_far.empties none).0, take-append-le line.place seen (b ∷ []) so_far.within ∙ (so_far.empties none).1);
  }

  all_is : seen ++ 10 ∷ [] ≡ take line.place seen ++ (drop line.place seen ++ 10 ∷ [])
  all_is = ap (λ v. v ++ 10 ∷ []) (sym (take-append-drop line.place seen))
      ∙ append_assoc (take line.place seen) (drop line.place seen) (10 ∷ [])

  -- a line feed ends a line more
  pub count_now : filled_lines (seen ++ 10 ∷ []) ≡ line.filled + (if is_empty_line (drop line.place seen) then 0 else 1)
  count_now =
      let last = drop line.place seen in
      let here : filled_lines (last ++ 10 ∷ []) ≡ (if is_empty_line last then 0 else 1) = one_line last so_far.unended in
      elim so_far.begins [
        | inl none ↦
            let count : line.filled ≡ 0 = so_far.filled ∙ ap filled_lines none in
            omega (arith, ap filled_lines all_is, ap (λ v. filled_lines (v ++ (last ++ 10 ∷ []))) none, here, count)
        | inr ends ↦ omega (arith, ap filled_lines all_is, filled_append (take line.place seen) (last ++ 10 ∷ []) ends, here, so_far.filled)
      ]

  -- where no line is filled yet, all are empty lines
  pub empties_now : line.filled + (if is_empty_line (drop line.place seen) then 0 else 1) ≡ 0 → (ends : List LineEnd)
      × (seen ++ 10 ∷ [] ≡ print_blank ends)
  empties_now none =
      let before = so_far.empties (omega (arith, none)) in
      let last = empty_end (drop line.place seen) (is_empty (is_empty_line (drop line.place seen)) line.filled none) in (
        before.0 ++ last.0 ∷ [],
        all_is ∙ ap (λ v. v ++ (drop line.place seen ++ 10 ∷ [])) before.1 ∙ ap (λ v. print_blank before.0 ++ v) last.1
            ∙ sym (blank_more before.0 last.0),
      )

  in_limits : length seen < MOST_HEAD → field_lines heading (seen ++ 10 ∷ []) ≤ MOST_FIELDS → ¬ (IsPastLimits heading (seen ++ 10 ∷ []))
  in_limits short small past =
      elim past [ inl long ↦ omega (arith, long, short, length-append seen (10 ∷ [])) | inr many ↦ omega (arith, many.1, small) ]

  pub shows_long : (b : ℕ) → MOST_HEAD < length (seen ++ b ∷ []) → Shows heading (seen ++ b ∷ []) Large
  shows_long b long = (first_now heading seen b so_far.open_yet (inl (inl long)), inl long)

  pub shows_many : MOST_FIELDS < field_lines heading (seen ++ 10 ∷ []) → Shows heading (seen ++ 10 ∷ []) Large
  shows_many many = (first_now heading seen 10 so_far.open_yet (inl (inr ((seen, refl), many))), inr ((seen, refl), many))

  pub shows_whole : length seen < MOST_HEAD → field_lines heading (seen ++ 10 ∷ []) ≤ MOST_FIELDS → HasWhole heading (seen ++ 10 ∷ [])
      → Shows heading (seen ++ 10 ∷ []) Whole
  shows_whole short small has =
      let whole = whole_now heading seen 10 so_far.open_yet has in
      (first_now heading seen 10 so_far.open_yet (inr (inr whole)), whole, in_limits short small)

  pub shows_bad : length seen < MOST_HEAD → field_lines heading (seen ++ 10 ∷ []) ≤ MOST_FIELDS → NeverWhole heading (seen ++ 10 ∷ [])
      → Shows heading (seen ++ 10 ∷ []) (Bad line.place)
  shows_bad short small never =
      let dead : EndsBadLine heading (seen ++ 10 ∷ []) = ((seen, refl), never) in (
        first_now heading seen 10 so_far.open_yet (inr (inl dead)),
        dead,
        (
          take line.place seen,
          drop line.place seen,
          so_far.begins,
          so_far.unended,
          all_is,
          sym
              (length-take-le line.place seen so_far.within),
        ),
        in_limits short small,
      )

  pub line_more : length seen < MOST_HEAD → field_lines heading (seen ++ 10 ∷ []) ≤ MOST_FIELDS → ¬ (HasWhole heading (seen ++ 10 ∷ []))
      × ¬ (NeverWhole heading (seen ++ 10 ∷ []))
      → (n k : ℕ) → n ≡ length (seen ++ 10 ∷ []) → k ≡ line.filled + (if is_empty_line (drop line.place seen) then 0 else 1)
      → IsLooked heading (seen ++ 10 ∷ []) (record { place = n; filled = k })
  line_more short small more n k end count =
      let all = seen ++ 10 ∷ [] in
      let prefix : take n all ≡ all = take_all n all (omega (arith, end)) in
      let after : drop n all ≡ [] = ap (λ m. drop m all) end ∙ drop-length all in record {
        open_yet = open_now heading seen 10 so_far.open_yet (λ settles. elim settles [
          | inl past ↦ in_limits short small past
          | inr other ↦ elim other [ inl dead ↦ more.1 dead.1 | inr whole ↦ more.0 (all, [], sym (append-nil all), whole) ]
        ]);
        within = omega (arith, end);
        begins = inr (subst EndsInFeed (sym prefix) (seen, refl));
        unended = ap has_feed after;
        filled = count ∙ sym count_now ∙ ap filled_lines (sym prefix);
        empties = λ none. let e = empties_now (omega (arith, none, count)) in (e.0, prefix ∙ e.1);
      }

empty_open : (heading : Heading) → ¬ (Settles heading [])
empty_open heading settles =
    let never : EndsInFeed [] → ⊥ = λ ends. omega (arith, ap length ends.1, length-append ends.0 (10 ∷ [])) in
    elim settles [
      | inl past ↦ elim past [ inl long ↦ omega (arith, long) | inr many ↦ never many.0 ]
      | inr other ↦ elim other [ inl dead ↦ never dead.0 | inr whole ↦ never (whole_ends heading [] whole) ]
    ]

pub begun : (heading : Heading) → IsLooked heading [] (record { place = 0; filled = 0 })
begun heading = record {
  open_yet = λ n within. subst (λ v. ¬ (Settles heading v)) (sym (take_all n [] (omega arith))) (empty_open heading);
  within = omega arith;
  begins = inl refl;
  unended = refl;
  filled = refl;
  empties = λ none. ([], refl);
}

pub open_short : (heading : Heading) (bytes : List ℕ) → IsOpen heading bytes → length bytes ≤ MOST_HEAD
open_short heading bytes yet =
    elim (cases_lt MOST_HEAD (length bytes)) [
      | inl long ↦ absurd (yet (length bytes) (omega arith)
          (subst (Settles heading) (sym (take_all (length bytes) bytes (omega arith))) (inl (inl long))))
      | inr short ↦ short
    ]

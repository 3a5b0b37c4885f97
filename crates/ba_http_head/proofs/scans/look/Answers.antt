use Rattle.std.proofs.Common.{◌≡◌, ℕ, ◌+◌, ◌-◌, ◌<◌, ◌≤◌, ◌^◌, min, if◌then◌else◌, List, [], ◌∷◌, ◌++◌, length, take, drop, get_or}
use Rattle.std.proofs.Common.{length-append, sym, ap, ◌∙◌, subst, arith}
use Rattle.ba_http_head.specs.declared.scans.Shown.TheVariants.{Whole, Bad, Large}
use Rattle.ba_http_head.specs.declared.scans.LineStart.{LineStart}
use Rattle.ba_http_head.specs.declared.headings.Heading.{Heading}
use Rattle.std.specs.Prelude.{slice_range}
use Rattle.ba_http_head.specs.inside.Asks.{HasWhole}
use Rattle.ba_http_head.specs.declared.scans.TheConstants.{MOST_FIELDS, MOST_HEAD}
use Rattle.ba_http_head.specs.HeadLines.{NeverWhole, field_lines, filled_lines, is_empty_line}
use Rattle.ba_http_head.specs.Looks.{Shows, IsLooked}
use Rattle.httparse.specs.Grammar.{LineEnd, print_blank}
use Rattle.ba_http_head.proofs.LookLemmas.{empties_now, differs, split_last, line_is, plain_more, count_now, shows_long, shows_many}
use Rattle.ba_http_head.proofs.LookLemmas.{shows_whole, shows_bad, line_more}
use Rattle.ba_http_head.proofs.scans.look.Goals as goal

module _ (heading : Heading) (prefix : List ℕ) (line : LineStart) (some : 0 < length prefix)
    (so_far : IsLooked heading (take (length prefix - 1) prefix) line) where
  seen : List ℕ
  seen = take (length prefix - 1) prefix

  long : MOST_HEAD < length prefix → Shows heading prefix Large
  long h = subst (λ v. Shows heading v Large) (split_last prefix some)
      (shows_long heading (take (length prefix - 1) prefix) line so_far (get_or prefix (length prefix - 1) 0)
      (subst (λ v. MOST_HEAD < length v) (sym (split_last prefix some)) h))

  short : length prefix ≤ MOST_HEAD → length (take (length prefix - 1) prefix) < MOST_HEAD
  short h = omega (
    arith,
    h,
    some,
    ap length (split_last prefix some),
    length-append (take (length prefix - 1) prefix)
        (get_or prefix (length prefix - 1) 0 ∷ []),
  )

  plain : length prefix ≤ MOST_HEAD → (get_or prefix (length prefix - 1) 0 ≡ 10 → ⊥) → IsLooked heading prefix line
  plain small other = subst (λ v. IsLooked heading v line) (split_last prefix some)
      (plain_more heading (take (length prefix - 1) prefix) line so_far (get_or prefix (length prefix - 1) 0) (differs _ 10 other)
      (short small))

  module _ (feed : get_or prefix (length prefix - 1) 0 ≡ 10) where
    now : take (length prefix - 1) prefix ++ 10 ∷ [] ≡ prefix
    now = ap (λ b. take (length prefix - 1) prefix ++ b ∷ []) (sym feed) ∙ split_last prefix some

    count : (n : ℕ) → n ≡ (if is_empty_line (slice_range prefix line.place (length prefix - 1)) then 0 else 1)
        → filled_lines prefix ≡ line.filled + n
    count n is =
        let within : line.place ≤ length prefix - 1 =
        omega (arith, so_far.within, some, ap length now, length-append (take (length prefix - 1) prefix) (10 ∷ [])) in
        ap filled_lines (sym now) ∙ count_now heading (take (length prefix - 1) prefix) line so_far
        ∙ ap (λ l. line.filled + (if is_empty_line l then 0 else 1)) (sym (line_is prefix line.place within))
        ∙ ap (λ m. line.filled + m) (sym is)

    many : MOST_FIELDS < field_lines heading prefix → Shows heading prefix Large
    many h = subst (λ v. Shows heading v Large) now
        (shows_many heading (take (length prefix - 1) prefix) line so_far (subst (λ v. MOST_FIELDS < field_lines heading v) (sym now) h))

    empties : (k n : ℕ) → n ≡ (if is_empty_line (slice_range prefix line.place (length prefix - 1)) then 0 else 1)
        → k ≡ line.filled + n → k ≡ 0 → (ends : List LineEnd) × (prefix ≡ print_blank ends)
    empties k n is kept none =
        let here : line.filled + (if is_empty_line (drop line.place (take (length prefix - 1) prefix)) then 0 else 1) ≡ 0 =
        sym (count_now heading (take (length prefix - 1) prefix) line so_far) ∙ ap filled_lines now ∙ count n is ∙ sym kept ∙ none in
        let e = empties_now heading (take (length prefix - 1) prefix) line so_far here in
        (e.0, sym now ∙ e.1)

    module _ (small : length prefix ≤ MOST_HEAD) (few : field_lines heading prefix ≤ MOST_FIELDS) where
      few_now : field_lines heading (take (length prefix - 1) prefix ++ 10 ∷ []) ≤ MOST_FIELDS
      few_now = subst (λ v. field_lines heading v ≤ MOST_FIELDS) (sym now) few

      whole : HasWhole heading prefix → Shows heading prefix Whole
      whole h = subst (λ v. Shows heading v Whole) now
          (shows_whole heading (take (length prefix - 1) prefix) line so_far (short small) few_now (subst (HasWhole heading) (sym now) h))

      bad : NeverWhole heading prefix → Shows heading prefix (Bad line.place)
      bad h = subst (λ v. Shows heading v (Bad line.place)) now
          (shows_bad heading (take (length prefix - 1) prefix) line so_far (short small) few_now (subst (NeverWhole heading) (sym now) h))

      more : ¬ (HasWhole heading prefix) × ¬ (NeverWhole heading prefix) → (k n : ℕ)
          → n ≡ (if is_empty_line (slice_range prefix line.place (length prefix - 1)) then 0 else 1)
          → k ≡ line.filled + n → IsLooked heading prefix (record { place = length prefix; filled = k })
      more h k n is kept =
          let count_is : filled_lines prefix ≡ k = count n is ∙ sym kept in
          let here : k ≡ line.filled + (if is_empty_line (drop line.place (take (length prefix - 1) prefix)) then 0 else 1) =
          sym count_is ∙ ap filled_lines (sym now) ∙ count_now heading (take (length prefix - 1) prefix) line so_far in
          subst (λ v. IsLooked heading v (record { place = length prefix; filled = k })) now
          (line_more heading (take (length prefix - 1) prefix) line so_far (short small) few_now
          (subst (λ v. ¬ (HasWhole heading v) × ¬ (NeverWhole heading v)) (sym now) h) (length prefix) k (sym (ap length now)) here)

pub returns-then-prefix-gt-MOST_HEAD-clause-shown : goal.returns-then-prefix-gt-MOST_HEAD-clause-shown
returns-then-prefix-gt-MOST_HEAD-clause-shown c =
    long c.args.heading c.args.prefix.now c.args.line.now c.requires.some c.requires.so_far c.if-prefix-gt-MOST_HEAD.true

pub returns-then-prefix-last-ne10-clause-more : goal.returns-then-prefix-last-ne10-clause-more
returns-then-prefix-last-ne10-clause-more c =
    λ _. plain c.args.heading c.args.prefix.now c.args.line.now c.requires.some c.requires.so_far
    c.if-prefix-gt-MOST_HEAD.false c.if-prefix-last-ne10.true

pub returns-then-saturating_sub-gt-MOST_FIELDS-clause-shown : goal.returns-then-saturating_sub-gt-MOST_FIELDS-clause-shown
returns-then-saturating_sub-gt-MOST_FIELDS-clause-shown c =
    let a = c.args in
    let count_is = count a.heading a.prefix.now a.line.now c.requires.some c.requires.so_far c.if-prefix-last-ne10.false
    c.filled_count.result c.filled_count.ensures.count in
    many a.heading a.prefix.now a.line.now c.requires.some c.requires.so_far c.if-prefix-last-ne10.false
    (omega (
      arith,
      count_is,
      c.if-saturating_sub-gt-MOST_FIELDS.true,
      c.saturating_sub.ensures,
      c.saturating_add-filled.ensures,
      c.start_lines.ensures.count,
      c.start_lines.ensures.few,
      c.filled_count.ensures.few,
    ))

-- the count of lines that aren't empty doesn't stop at the greatest number
kept_on : (filled more sum start less most : ℕ) → sum ≡ min (filled + more) (2 ^ 64 - 1) → less ≡ sum - start → less ≤ most → start ≤ 1
    → more ≤ 1 → most < 2 ^ 32 → sum ≡ filled + more
kept_on filled more sum start less most is is_less few one one_more small = omega arith

pub ask_after-requires-clause-count : goal.ask_after-requires-clause-count
ask_after-requires-clause-count c =
    let a = c.args in
    kept_on a.line.now.filled c.filled_count.result c.saturating_add-filled.result c.start_lines.result c.saturating_sub.result MOST_FIELDS
    c.saturating_add-filled.ensures c.saturating_sub.ensures c.if-saturating_sub-gt-MOST_FIELDS.false c.start_lines.ensures.few
    c.filled_count.ensures.few (omega arith)
    ∙ sym (count a.heading a.prefix.now a.line.now c.requires.some c.requires.so_far c.if-prefix-last-ne10.false
    c.filled_count.result c.filled_count.ensures.count)

pub ask_after-requires-clause-few : goal.ask_after-requires-clause-few
ask_after-requires-clause-few c =
    let a = c.args in
    let count_is = count a.heading a.prefix.now a.line.now c.requires.some c.requires.so_far c.if-prefix-last-ne10.false
    c.filled_count.result c.filled_count.ensures.count in
    omega (
      arith,
      count_is,
      c.if-saturating_sub-gt-MOST_FIELDS.false,
      c.saturating_sub.ensures,
      c.saturating_add-filled.ensures,
      c.start_lines.ensures.count,
      c.start_lines.ensures.few,
      c.filled_count.ensures.few,
    )

pub ask_after-requires-clause-empties : goal.ask_after-requires-clause-empties
ask_after-requires-clause-empties c =
    let a = c.args in
    let kept = kept_on a.line.now.filled c.filled_count.result c.saturating_add-filled.result c.start_lines.result c.saturating_sub.result
    MOST_FIELDS c.saturating_add-filled.ensures c.saturating_sub.ensures c.if-saturating_sub-gt-MOST_FIELDS.false
    c.start_lines.ensures.few c.filled_count.ensures.few (omega arith) in
    empties a.heading a.prefix.now a.line.now c.requires.some c.requires.so_far c.if-prefix-last-ne10.false
    c.saturating_add-filled.result c.filled_count.result c.filled_count.ensures.count kept

pub returns-in-Whole-clause-shown : goal.returns-in-Whole-clause-shown
returns-in-Whole-clause-shown c =
    let a = c.args in
    let count_is = count a.heading a.prefix.now a.line.now c.requires.some c.requires.so_far c.if-prefix-last-ne10.false
    c.filled_count.result c.filled_count.ensures.count in
    let few : field_lines a.heading a.prefix.now ≤ MOST_FIELDS =
    omega (
      arith,
      count_is,
      c.if-saturating_sub-gt-MOST_FIELDS.false,
      c.saturating_sub.ensures,
      c.saturating_add-filled.ensures,
      c.start_lines.ensures.count,
      c.start_lines.ensures.few,
      c.filled_count.ensures.few,
    ) in
    whole a.heading a.prefix.now a.line.now c.requires.some c.requires.so_far c.if-prefix-last-ne10.false
    c.if-prefix-gt-MOST_HEAD.false few c.in-Whole.ensures

pub returns-in-Never-clause-shown : goal.returns-in-Never-clause-shown
returns-in-Never-clause-shown c =
    let a = c.args in
    let count_is = count a.heading a.prefix.now a.line.now c.requires.some c.requires.so_far c.if-prefix-last-ne10.false
    c.filled_count.result c.filled_count.ensures.count in
    let few : field_lines a.heading a.prefix.now ≤ MOST_FIELDS =
    omega (
      arith,
      count_is,
      c.if-saturating_sub-gt-MOST_FIELDS.false,
      c.saturating_sub.ensures,
      c.saturating_add-filled.ensures,
      c.start_lines.ensures.count,
      c.start_lines.ensures.few,
      c.filled_count.ensures.few,
    ) in
    bad a.heading a.prefix.now a.line.now c.requires.some c.requires.so_far c.if-prefix-last-ne10.false
    c.if-prefix-gt-MOST_HEAD.false few c.in-Never.ensures

pub returns-in-More-clause-more : goal.returns-in-More-clause-more
returns-in-More-clause-more c = λ _.
    let a = c.args in
    let count_is = count a.heading a.prefix.now a.line.now c.requires.some c.requires.so_far c.if-prefix-last-ne10.false
    c.filled_count.result c.filled_count.ensures.count in
    let few : field_lines a.heading a.prefix.now ≤ MOST_FIELDS =
    omega (
      arith,
      count_is,
      c.if-saturating_sub-gt-MOST_FIELDS.false,
      c.saturating_sub.ensures,
      c.saturating_add-filled.ensures,
      c.start_lines.ensures.count,
      c.start_lines.ensures.few,
      c.filled_count.ensures.few,
    ) in
    let kept = kept_on a.line.now.filled c.filled_count.result c.saturating_add-filled.result c.start_lines.result c.saturating_sub.result
    MOST_FIELDS c.saturating_add-filled.ensures c.saturating_sub.ensures c.if-saturating_sub-gt-MOST_FIELDS.false
    c.start_lines.ensures.few c.filled_count.ensures.few (omega arith) in
    more a.heading a.prefix.now a.line.now c.requires.some c.requires.so_far c.if-prefix-last-ne10.false c.if-prefix-gt-MOST_HEAD.false few
    c.in-More.ensures c.saturating_add-filled.result c.filled_count.result c.filled_count.ensures.count kept

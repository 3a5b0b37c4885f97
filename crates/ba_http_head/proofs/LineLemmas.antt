-- The lines of bytes that end in a line feed, and how many of them aren't empty; for the clauses of scan.
use Rattle.std.proofs.Common.{◌≡◌, ℕ, ◌+◌, ◌<◌, true, false, nat_eq, not, cond, if◌then◌else◌, List, [], ◌∷◌, ◌++◌, length, refl, sym, ap}
use Rattle.std.proofs.Common.{◌∙◌, arith, append_assoc}
use Rattle.std.specs.Prelude.{◌||◌}
use Rattle.std.specs.List.{count_by}
use Rattle.std.proofs.lemmas.List.Sums.{sum_by-append}
use Rattle.httparse.specs.Grammar.{LineEnd, crlf, lf, print_end}
use Rattle.ba_ports.specs.Lines.{onto_first, lines_of}
use Rattle.ba_http_head.specs.HeadLines.{EndsInFeed, has_feed, is_empty_line, filled_lines}

pub onto_append : (byte : ℕ) (xs ys : List (List ℕ)) → 0 < length xs → onto_first byte (xs ++ ys) ≡ onto_first byte xs ++ ys
onto_append byte [] ys some = absurd (omega arith)
onto_append byte (x ∷ xs) ys some = refl

pub onto_some : (byte : ℕ) (lines : List (List ℕ)) → 0 < length (onto_first byte lines)
onto_some byte [] = omega arith
onto_some byte (line ∷ lines) = omega arith

pub ended_some : (xs : List ℕ) → 0 < length (lines_of (xs ++ 10 ∷ []))
ended_some [] = omega arith
ended_some (x ∷ xs) =
    elim (nat_eq x 10) as (λ t. 0 < length (if t then [] ∷ lines_of (xs ++ 10 ∷ []) else onto_first x (lines_of (xs ++ 10 ∷ [])))) [
      | true ↦ omega arith
      | false ↦ onto_some x (lines_of (xs ++ 10 ∷ []))
    ]

pub lines_ended : (xs ys : List ℕ) → lines_of ((xs ++ 10 ∷ []) ++ ys) ≡ lines_of (xs ++ 10 ∷ []) ++ lines_of ys
lines_ended [] ys = refl
lines_ended (x ∷ xs) ys =
    let all = lines_of ((xs ++ 10 ∷ []) ++ ys) in
    let prefix = lines_of (xs ++ 10 ∷ []) in
    let more : all ≡ prefix ++ lines_of ys = lines_ended xs ys in
    elim (nat_eq x 10) as
    (λ t. (if t then [] ∷ all else onto_first x all) ≡ (if t then [] ∷ prefix else onto_first x prefix) ++ lines_of ys) [
      | true ↦ ap (λ ls. [] ∷ ls) more
      | false ↦ ap (onto_first x) more ∙ onto_append x prefix (lines_of ys) (ended_some xs)
    ]

pub lines_append : (a b : List ℕ) → EndsInFeed a → lines_of (a ++ b) ≡ lines_of a ++ lines_of b
lines_append a b ends =
    ap (λ v. lines_of (v ++ b)) ends.1 ∙ lines_ended ends.0 b ∙ ap (λ v. lines_of v ++ lines_of b) (sym ends.1)

-- a line in prefix of others
pub line_first : (line rest : List ℕ) → has_feed line ≡ false → lines_of (line ++ 10 ∷ rest) ≡ line ∷ lines_of rest
line_first [] rest none = refl
line_first (x ∷ xs) rest none =
    elim (nat_eq x 10) as
    (λ t. (t || has_feed xs) ≡ false
    → (if t then [] ∷ lines_of (xs ++ 10 ∷ rest) else onto_first x (lines_of (xs ++ 10 ∷ rest))) ≡ (x ∷ xs) ∷ lines_of rest) [
      | true ↦ λ h. absurd (let no : true ≡ false = h in cc)
      | false ↦ λ h. ap (onto_first x) (line_first xs rest h)
    ] none

pub filled_append : (a b : List ℕ) → EndsInFeed a → filled_lines (a ++ b) ≡ filled_lines a + filled_lines b
filled_append a b ends = ap (count_by (λ line. not (is_empty_line line))) (lines_append a b ends)
    ∙ sum_by-append (λ line. cond (not (is_empty_line line)) 1 0) (lines_of a) (lines_of b)

pub feed_append : (a b : List ℕ) → has_feed a ≡ false → has_feed b ≡ false → has_feed (a ++ b) ≡ false
feed_append [] b none nor = nor
feed_append (x ∷ xs) b none nor =
    elim (nat_eq x 10) as (λ t. (t || has_feed xs) ≡ false → (t || has_feed (xs ++ b)) ≡ false) [
      | true ↦ λ h. h
      | false ↦ λ h. feed_append xs b h nor
    ] none

-- an empty line counts for nothing
pub empty_counts : (end : LineEnd) (rest : List ℕ) → filled_lines (print_end end ++ rest) ≡ filled_lines rest
empty_counts crlf rest = refl
empty_counts lf rest = refl

is_filled : (b : ℕ) (bs : List ℕ) → nat_eq b 13 ≡ false → is_empty_line (b ∷ bs) ≡ false
is_filled b [] other = other
is_filled b (x ∷ xs) other = refl

one_more : (line : List ℕ) (lines : List (List ℕ)) → is_empty_line line ≡ false
    → count_by (λ l. not (is_empty_line l)) (line ∷ lines) ≡ 1 + count_by (λ l. not (is_empty_line l)) lines
one_more line lines filled =
    sum_by-append (λ l. cond (not (is_empty_line l)) 1 0) (line ∷ []) lines
    ∙ ap (λ t. (0 + cond (not t) 1 0) + count_by (λ l. not (is_empty_line l)) lines) filled

-- a line that begins with another byte than a carriage return counts
pub filled_counts : (b : ℕ) (bs rest : List ℕ) (end : LineEnd) → nat_eq b 13 ≡ false → has_feed (b ∷ bs) ≡ false
    → filled_lines ((b ∷ bs) ++ (print_end end ++ rest)) ≡ 1 + filled_lines rest
filled_counts b bs rest lf other none =
    ap (count_by (λ l. not (is_empty_line l))) (line_first (b ∷ bs) rest none)
    ∙ one_more (b ∷ bs) (lines_of rest) (is_filled b bs other)
filled_counts b bs rest crlf other none =
    ap (λ v. filled_lines (b ∷ v)) (sym (append_assoc bs (13 ∷ []) (10 ∷ rest)))
    ∙ (ap (count_by (λ l. not (is_empty_line l))) (line_first (b ∷ (bs ++ 13 ∷ [])) rest (feed_append (b ∷ bs) (13 ∷ []) none refl))
    ∙ one_more (b ∷ (bs ++ 13 ∷ [])) (lines_of rest) (is_filled b (bs ++ 13 ∷ []) other))

-- Where the parser gives up for its room, more lines than that many count.
use Rattle.std.proofs.Common.{◌≡◌, ℕ, ◌<◌, ◌≤◌, true, false, nat_eq, List, [], ◌∷◌, ◌++◌, length, take, drop, refl, sym, ap, ◌∙◌, subst}
use Rattle.std.proofs.Common.{arith, append_assoc, append-nil, flat_map, length-append, take-append-drop, inl, inr}
use Rattle.std.specs.Prelude.{◌||◌}
use Rattle.std.proofs.lemmas.List.{take-append-le}
use Rattle.std.proofs.Math.Seq.{take-append_seam}
use Rattle.httparse.specs.Grammar.{is_uri_byte, LineEnd, crlf, lf, print_end, print_blank, print_version, Field, print_field, print_section}
use Rattle.httparse.specs.Grammar.{RequestHead, print_request, ReadsRequest, HasNoRequest, MayBecomeRequest, EndsInTarget, ResponseHead}
use Rattle.httparse.specs.Grammar.{print_response, ReadsResponse, print_reason}
use Rattle.httparse.specs.Spans.{RequestExceeds, ResponseExceeds, SectionExceeds}
use Rattle.ba_http_head.specs.declared.headings.Heading.TheVariants.{Request, Reply, Trailer}
use Rattle.ba_http_head.specs.inside.Asks.{HasWhole}
use Rattle.ba_http_head.specs.HeadLines.{EndsInFeed, has_feed, filled_lines, field_lines, NeverWhole}
use Rattle.ba_http_head.proofs.LineLemmas.{filled_append}
use Rattle.ba_http_head.proofs.Printed.{request_counts, response_counts, section_counts, pass_feed}

pub ends_after : (a b : List ℕ) → EndsInFeed b → EndsInFeed (a ++ b)
ends_after a b ends = (a ++ ends.0, ap (λ v. a ++ v) ends.1 ∙ sym (append_assoc a ends.0 (10 ∷ [])))

pub end_ends : (end : LineEnd) → EndsInFeed (print_end end)
end_ends crlf = (13 ∷ [], refl)
end_ends lf = ([], refl)

field_ends : (f : Field) → EndsInFeed (print_field f)
field_ends f = ends_after (f.name ++ 58 ∷ f.raw) (print_end f.end) (end_ends f.end)

fields_end : (x : List ℕ) (fields : List Field) → EndsInFeed x → EndsInFeed (x ++ flat_map print_field fields)
fields_end x [] ends = subst EndsInFeed (sym (append-nil x)) ends
fields_end x (f ∷ fields) ends =
    subst EndsInFeed (append_assoc x (print_field f) (flat_map print_field fields))
    (fields_end (x ++ print_field f) fields (ends_after x (print_field f) (field_ends f)))

section_ends : (fields : List Field) → 0 < length fields → EndsInFeed (flat_map print_field fields)
section_ends [] some = absurd (omega arith)
section_ends (f ∷ fields) some = fields_end (print_field f) fields (field_ends f)

end_fills : (end : LineEnd) → filled_lines (print_end end) ≡ 0
end_fills crlf = refl
end_fills lf = refl

-- what stands before the last, empty line is a prefix of what the parser saw
pub fewer : (x whole prefix rest buf : List ℕ) (last : LineEnd) → EndsInFeed x → whole ≡ x ++ print_end last → prefix ++ 10 ∷ [] ≡ whole
    → buf ≡ prefix ++ rest
    → filled_lines whole ≤ filled_lines buf
fewer x whole prefix rest buf last ends split is cut =
    let n = length x in
    let tail : 1 ≤ length (print_end last) = some last in
    let short : n ≤ length prefix =
    omega (arith, ap length is, ap length split, length-append x (print_end last), length-append prefix (10 ∷ []), tail) in
    let same : take n prefix ≡ x = sym (take-append-le n prefix (10 ∷ []) short) ∙ ap (take n) (is ∙ split)
    ∙ take-append_seam x (print_end last) in
    let buf_is : buf ≡ x ++ (drop n prefix ++ rest) =
    cut ∙ ap (λ v. v ++ rest) (sym (take-append-drop n prefix)) ∙ append_assoc (take n prefix) (drop n prefix) rest
    ∙ ap (λ v. v ++ (drop n prefix ++ rest)) same in
    omega (
      arith,
      ap filled_lines split,
      filled_append x (print_end last) ends,
      end_fills last,
      ap filled_lines buf_is,
      filled_append x
          (drop n prefix ++ rest) ends,
    )
  where
    some : (end : LineEnd) → 1 ≤ length (print_end end)
    some crlf = omega arith
    some lf = omega arith

pub request_split : (h : RequestHead) → (x : List ℕ) × EndsInFeed x × (print_request h ≡ x ++ print_end h.last)
unfolding print_request
request_split h =
    let u : List ℕ = print_blank h.blank ++ h.method ++ 32 ∷ h.target ++ 32 ∷ print_version h.minor in (
      (u ++ print_end h.line_end) ++ flat_map print_field h.fields,
      fields_end (u ++ print_end h.line_end) h.fields (ends_after u (print_end h.line_end) (end_ends h.line_end)),
      sym (append_assoc (u ++ print_end h.line_end) (flat_map print_field h.fields) (print_end h.last)),
    )

-- a request that has more fields than the room has as many lines that count
pub request_many : (room : ℕ) (buf : List ℕ) → RequestExceeds room buf → room < field_lines Request buf
request_many room buf over =
    let prefix = over.0 in
    let h = over.3 in
    let reads = over.4 in
    let split = request_split h in
    let whole : print_request h ++ [] ≡ prefix ++ 10 ∷ [] = sym reads.1 in
    let count = request_counts h [] (subst (λ v. ReadsRequest v h []) reads.1 reads) in
    let few = fewer split.0 (print_request h) prefix over.1 buf h.last split.1 split.2 (reads.1 ∙ append-nil (print_request h)) over.2 in
    omega (arith, count, ap filled_lines (append-nil (print_request h)), few, over.5)

pub section_many : (room : ℕ) (buf : List ℕ) → SectionExceeds room buf → room < field_lines Trailer buf
section_many room buf over =
    let prefix = over.0 in
    let fields = over.3 in
    let reads = over.4 in
    let whole = print_section fields lf in
    let count = section_counts fields lf [] reads.0 in
    let few = fewer (flat_map print_field fields) whole prefix over.1 buf lf (section_ends fields (omega (arith, over.5))) refl
    (reads.1 ∙ append-nil whole) over.2 in
    omega (arith, count, ap filled_lines (append-nil whole), few, over.5)

feed_last : (line : List ℕ) → has_feed (line ++ 10 ∷ []) ≡ true
feed_last [] = refl
feed_last (x ∷ line) =
    elim (nat_eq x 10) as (λ t. (t || has_feed (line ++ 10 ∷ [])) ≡ true) [ true ↦ refl | false ↦ feed_last line ]

pub not_last : (p t line : List ℕ) → p ++ t ≡ line ++ 10 ∷ [] → 0 < length t → has_feed t ≡ false → ⊥
not_last [] t line is some none = let yes : has_feed t ≡ true = ap has_feed is ∙ feed_last line in cc
not_last (x ∷ p) t [] is some none = omega (arith, ap length is, length-append p t)
not_last (x ∷ p) t (y ∷ line) is some none = not_last p t line (ap (drop 1) is) some none

-- a target has no line feed
pub not_in_target : (buf : List ℕ) → EndsInFeed buf → EndsInTarget buf → ⊥
not_in_target buf ends target =
    not_last (print_blank target.0 ++ target.1) (32 ∷ target.2) ends.0 (sym target.5 ∙ ends.1) (omega arith)
    (pass_feed is_uri_byte target.2 refl target.4)

pub request_more : (buf : List ℕ) → EndsInFeed buf → HasNoRequest buf → MayBecomeRequest buf → ¬ (HasWhole Request buf)
    × ¬ (NeverWhole Request buf)
request_more buf ends none may = (
  λ whole. none whole.3.0 whole.1 (whole.3.1.0, whole.2 ∙ ap (λ v. v ++ whole.1) (whole.3.1.1 ∙ append-nil (print_request whole.3.0))),
  λ never. elim may [
    | inl some ↦ never some.0 some.1 [] some.2
    | inr target ↦ not_in_target buf ends target
  ],
)

pub response_split : (h : ResponseHead) → (x : List ℕ) × EndsInFeed x × (print_response h ≡ x ++ print_end h.last)
unfolding print_response
response_split h =
    let u : List ℕ = print_blank h.blank ++ print_version h.minor ++ 32 ∷ h.digits ++ print_reason h.reason in (
      (u ++ print_end h.line_end) ++ flat_map print_field h.fields,
      fields_end (u ++ print_end h.line_end) h.fields (ends_after u (print_end h.line_end) (end_ends h.line_end)),
      sym (append_assoc (u ++ print_end h.line_end) (flat_map print_field h.fields) (print_end h.last)),
    )

pub response_many : (room : ℕ) (buf : List ℕ) → ResponseExceeds room buf → room < field_lines Reply buf
response_many room buf over =
    let prefix = over.0 in
    let h = over.3 in
    let reads = over.4 in
    let split = response_split h in
    let count = response_counts h [] (subst (λ v. ReadsResponse v h []) reads.1 reads) in
    let few = fewer split.0 (print_response h) prefix over.1 buf h.last split.1 split.2 (reads.1 ∙ append-nil (print_response h)) over.2 in
    omega (arith, count, ap filled_lines (append-nil (print_response h)), few, over.5)

-- A printed head or trailer has as many lines that count as it has fields.
use Rattle.std.proofs.Common.{◌≡◌, ℕ, ◌+◌, ◌<◌, ◌≤◌, Bool, true, false, nat_eq, List, [], ◌∷◌, ◌++◌, length, drop, refl, sym, ap, ◌∙◌}
use Rattle.std.proofs.Common.{subst, arith, append_assoc, flat_map}
use Rattle.std.specs.Prelude.{All, ◌||◌}
use Rattle.std.proofs.lemmas.Bool.{eqb-true}
use Rattle.std.proofs.lemmas.List.Elements.{All-head, All-tail}
use Rattle.std.specs.Char.{is_ascii_digit}
use Rattle.std.specs.Prelude.{Option, None, Some}
use Rattle.httparse.specs.Grammar.{reason_phrase, is_token_byte, is_uri_byte, is_value_byte, AllPass, LineEnd, print_end, print_blank}
use Rattle.httparse.specs.Grammar.{print_version, Field, print_field, IsField, print_section, RequestHead, print_request, ReadsRequest}
use Rattle.httparse.specs.Grammar.{ResponseHead, print_response, print_reason, ReadsResponse}
use Rattle.httparse.proofs.GrammarLemmas.{print_request-append, print_response-append}
use Rattle.ba_http_head.specs.HeadLines.{has_feed, filled_lines}
use Rattle.ba_http_head.proofs.LineLemmas.{filled_counts, empty_counts, feed_append}

-- bytes that pass a test which a line feed doesn't pass
pub pass_feed : (test : ℕ → Bool) (xs : List ℕ) → test 10 ≡ false → AllPass test xs → has_feed xs ≡ false
pass_feed test [] stops all = refl
pass_feed test (x ∷ xs) stops all =
    let here : nat_eq x 10 ≡ false = no_byte (nat_eq x 10) refl in
    ap (λ t. t || has_feed xs) here ∙ pass_feed test xs stops (All-tail (λ b. test b ≡ true) x xs all)
  where
    no_byte : (t : Bool) → nat_eq x 10 ≡ t → t ≡ false
    no_byte false is = refl
    no_byte true is = let yes : test 10 ≡ true = subst (λ b. test b ≡ true) (eqb-true x 10 is) (All-head (λ b. test b ≡ true) x xs all) in
        absurd (cc)

token_byte : (c : ℕ) (b : ℕ) → is_token_byte c ≡ false → is_token_byte b ≡ true → nat_eq b c ≡ false
token_byte c b not_token token = other (nat_eq b c) refl
  where
    other : (t : Bool) → nat_eq b c ≡ t → t ≡ false
    other false is = refl
    other true is = let yes : is_token_byte c ≡ true = subst (λ v. is_token_byte v ≡ true) (eqb-true b c is) token in absurd (cc)

no_return : is_token_byte 13 ≡ false
unfolding is_token_byte
no_return = refl

no_feed : is_token_byte 10 ≡ false
unfolding is_token_byte
no_feed = refl

-- a line that begins with a token counts
token_counts : (name more rest : List ℕ) (end : LineEnd) → 0 < length name → AllPass is_token_byte name → has_feed more ≡ false
    → filled_lines ((name ++ more) ++ (print_end end ++ rest)) ≡ 1 + filled_lines rest
token_counts [] more rest end some all none = absurd (omega arith)
token_counts (b ∷ name) more rest end some all none =
    filled_counts b (name ++ more) rest end (token_byte 13 b no_return (All-head (λ v. is_token_byte v ≡ true) b name all))
    (feed_append (b ∷ name) more (pass_feed is_token_byte (b ∷ name) no_feed all) none)

pub field_counts : (f : Field) (rest : List ℕ) → IsField f → filled_lines (print_field f ++ rest) ≡ 1 + filled_lines rest
field_counts f rest is =
    let none : has_feed (58 ∷ f.raw) ≡ false = pass_feed is_value_byte f.raw refl is.raw in
    ap filled_lines (append_assoc (f.name ++ 58 ∷ f.raw) (print_end f.end) rest)
    ∙ token_counts f.name (58 ∷ f.raw) rest f.end is.name.0 is.name.1 none

pub fields_count : (fields : List Field) (rest : List ℕ) → All IsField fields
    → filled_lines (flat_map print_field fields ++ rest) ≡ length fields + filled_lines rest
fields_count [] rest all = omega arith
fields_count (f ∷ fields) rest all =
    let more = fields_count fields rest (All-tail IsField f fields all) in
    let here = field_counts f (flat_map print_field fields ++ rest) (All-head IsField f fields all) in
    omega (arith, ap filled_lines (append_assoc (print_field f) (flat_map print_field fields) rest), here, more)

pub section_counts : (fields : List Field) (last : LineEnd) (rest : List ℕ) → All IsField fields
    → filled_lines (print_section fields last ++ rest) ≡ length fields + filled_lines rest
section_counts fields last rest all =
    ap filled_lines (append_assoc (flat_map print_field fields) (print_end last) rest)
    ∙ fields_count fields (print_end last ++ rest) all
    ∙ ap (λ n. length fields + n) (empty_counts last rest)

pub blank_counts : (ends : List LineEnd) (rest : List ℕ) → filled_lines (print_blank ends ++ rest) ≡ filled_lines rest
blank_counts [] rest = refl
blank_counts (e ∷ ends) rest =
    ap filled_lines (append_assoc (print_end e) (print_blank ends) rest)
    ∙ empty_counts e (print_blank ends ++ rest)
    ∙ blank_counts ends rest

-- the request line, with the empty lines before it
pub request_lines : RequestHead → List ℕ
request_lines h = print_blank h.blank ++ (h.method ++ 32 ∷ (h.target ++ 32 ∷ (print_version h.minor ++ print_end h.line_end)))

version_feed : (minor : ℕ) → minor ≤ 1 → has_feed (print_version minor) ≡ false
version_feed minor small = other (nat_eq (48 + minor) 10) refl
  where
    other : (t : Bool) → nat_eq (48 + minor) 10 ≡ t → has_feed (print_version minor) ≡ false
    other false is = ap (λ t. t || false) is
    other true is = let same : 48 + minor ≡ 10 = eqb-true (48 + minor) 10 is in absurd (omega arith)

pub request_counts : (h : RequestHead) (rest : List ℕ) → ReadsRequest (print_request h ++ rest) h rest
    → filled_lines (print_request h ++ rest) ≡ 1 + length h.fields + filled_lines rest
request_counts h rest reads =
    let is = reads.0 in
    let after = print_end h.line_end ++ (print_section h.fields h.last ++ rest) in
    let more : List ℕ = 32 ∷ (h.target ++ 32 ∷ print_version h.minor) in
    let none : has_feed more ≡ false =
    feed_append h.target (32 ∷ print_version h.minor) (pass_feed is_uri_byte h.target refl is.target.1)
    (version_feed h.minor is.minor) in
    let line : h.method ++ 32 ∷ (h.target ++ 32 ∷ (print_version h.minor ++ after)) ≡ (h.method ++ more) ++ after =
    ap (λ v. h.method ++ 32 ∷ v) (sym (append_assoc h.target (32 ∷ print_version h.minor) after))
    ∙ sym (append_assoc h.method more after) in
    let start = blank_counts h.blank ((h.method ++ more) ++ after) in
    let first = token_counts h.method more (print_section h.fields h.last ++ rest) h.line_end is.method.0 is.method.1 none in
    let others = section_counts h.fields h.last rest is.fields in
    let all : filled_lines (print_request h ++ rest) ≡ filled_lines (print_blank h.blank ++ ((h.method ++ more) ++ after)) =
    ap filled_lines (print_request-append h rest ∙ ap (λ v. print_blank h.blank ++ v) line) in
    omega (arith, all, start, first, others)

reason_feed : (reason : Option (List ℕ)) → AllPass is_value_byte (reason_phrase reason) → has_feed (print_reason reason) ≡ false
reason_feed None all = refl
reason_feed (Some phrase) all = pass_feed is_value_byte phrase refl all

pub response_counts : (h : ResponseHead) (rest : List ℕ) → ReadsResponse (print_response h ++ rest) h rest
    → filled_lines (print_response h ++ rest) ≡ 1 + length h.fields + filled_lines rest
response_counts h rest reads =
    let is = reads.0 in
    let after = print_end h.line_end ++ (print_section h.fields h.last ++ rest) in
    let tail : List ℕ = h.digits ++ print_reason h.reason in
    let none : has_feed (print_version h.minor ++ 32 ∷ tail) ≡ false =
    feed_append (print_version h.minor) (32 ∷ tail) (version_feed h.minor is.minor)
    (feed_append h.digits (print_reason h.reason) (pass_feed is_ascii_digit h.digits refl is.digits.1) (reason_feed h.reason is.reason)) in
    let line : print_version h.minor ++ 32 ∷ (h.digits ++ (print_reason h.reason ++ after)) ≡
    (print_version h.minor ++ 32 ∷ tail) ++ after =
    ap (λ v. print_version h.minor ++ 32 ∷ v) (sym (append_assoc h.digits (print_reason h.reason) after))
    ∙ sym (append_assoc (print_version h.minor) (32 ∷ tail) after) in
    let start = blank_counts h.blank ((print_version h.minor ++ 32 ∷ tail) ++ after) in
    let first = filled_counts 72 (drop 1 (print_version h.minor ++ 32 ∷ tail))
    (print_section h.fields h.last ++ rest) h.line_end refl none in
    let others = section_counts h.fields h.last rest is.fields in
    let all : filled_lines (print_response h ++ rest) ≡ filled_lines
    (print_blank h.blank ++ ((print_version h.minor ++ 32 ∷ tail) ++ after)) =
    ap filled_lines (print_response-append h rest ∙ ap (λ v. print_blank h.blank ++ v) line) in
    omega (arith, all, start, first, others)

-- Where the bytes of a transfer lead, up to its trailer; for the laws.
use Rattle.std.proofs.Common.{◌≡◌, ℕ, zero, suc, ◌+◌, ◌<◌, ◌≤◌, true, false, cond, nat_eq, nat_lt, nat_le, List, [], ◌∷◌, ◌++◌, length}
use Rattle.std.proofs.Common.{refl, sym, ap, ◌∙◌, subst, arith, append-nil, append_assoc, length-append, All}
use Rattle.std.specs.Str.Parse.{digits_value}
use Rattle.std.proofs.lemmas.Bool.{lt-leb, le-leb, lt-ltb, le-ltb, ne_eqb}
use Rattle.std.proofs.lemmas.List.Elements.{All-head, All-tail}
use Rattle.httparse.specs.Grammar.{print_extension}
use Rattle.ba_http_head.specs.declared.lengths.TheConstants.{MOST_BODY}
use Rattle.ba_http_body.specs.declared.size_lines.Step.{Step}
use Rattle.ba_http_body.specs.declared.size_lines.Step.TheVariants.{More, End, Bad}
use Rattle.ba_http_body.specs.declared.size_lines.Place.{Place}
use Rattle.ba_http_body.specs.declared.size_lines.Place.TheVariants.{First}
use Rattle.ba_http_body.specs.SizeLines.{SizeLine, print_size_line, MayBecomeSizeLine}
use Rattle.ba_http_body.specs.inside.Places.{HasRead, Steps}
use Rattle.ba_http_body.proofs.Walks.{walk, walks}
use Rattle.ba_http_chunks.specs.declared.chunks.TheConstants.{MOST_SIZE_LINE}
use Rattle.ba_http_chunks.specs.Transfers.{size_of, IsShortLine, Chunk, IsChunk, print_chunk, print_chunks, carried_bytes, BeginsSizeLine}
use Rattle.ba_http_chunks.specs.inside.Progress.{leading_digits}
use Rattle.ba_http_chunks.proofs.Leading.{digits_are}
use Rattle.ba_http_chunks.proofs.LinesGoOn.{begins, may_become}
use Rattle.ba_http_chunks.proofs.PlaceSteps.{place_step, place_sound, walks_after, walk_step, walk_none}

pub data At : Type 0 where
  in_size : (p : Place) → (seen : List ℕ) → At
  in_data : (left : ℕ) → At
  before_feed : At

pub data Led : Type 0 where
  on : Led
  to_limit : (rest : List ℕ) → Led
  to_wrong : (rest : List ℕ) → Led
  to_trailer : (body : List ℕ) → (rest : List ℕ) → Led

abbrev pub by_step : Step → (Place → Led) → Led → Led → Led
by_step (More p) go done wrong = go p
by_step End go done wrong = done
by_step Bad go done wrong = wrong

pub pass : List ℕ → At → List ℕ → Led
pass body at [] = on
pass body (in_size p seen) (b ∷ bs) =
    cond (nat_le MOST_SIZE_LINE (length seen)) (to_limit bs)
    (by_step (place_step p b) (λ q. pass body (in_size q (seen ++ b ∷ [])) bs)
    (cond (nat_eq (digits_value 16 (leading_digits (seen ++ b ∷ []))) 0) (to_trailer body bs)
    (cond (nat_lt MOST_BODY (length body + digits_value 16 (leading_digits (seen ++ b ∷ [])))) (to_limit bs)
    (pass body (in_data (digits_value 16 (leading_digits (seen ++ b ∷ [])))) bs)))
    (to_wrong bs))
pass body (in_data zero) (b ∷ bs) = cond (nat_eq b 13) (pass body before_feed bs) (to_wrong bs)
pass body (in_data (suc n)) (b ∷ bs) = pass (body ++ b ∷ []) (in_data n) bs
pass body before_feed (b ∷ bs) = cond (nat_eq b 10) (pass body (in_size First []) bs) (to_wrong bs)

-- after a size line of this size
abbrev pub sized_pass : List ℕ → ℕ → List ℕ → Led
sized_pass body size bs =
    cond (nat_eq size 0) (to_trailer body bs) (cond (nat_lt MOST_BODY (length body + size)) (to_limit bs) (pass body (in_data size) bs))

-- one byte of a size line that isn't too long
one_byte : (body : List ℕ) (p : Place) (seen : List ℕ) (b : ℕ) (bs : List ℕ) (s : Step) → length seen < MOST_SIZE_LINE → place_step p b ≡ s
    → pass body (in_size p seen) (b ∷ bs)
    ≡ by_step s (λ q. pass body (in_size q (seen ++ b ∷ [])) bs)
    (sized_pass body (digits_value 16 (leading_digits (seen ++ b ∷ []))) bs) (to_wrong bs)
unfolding pass
one_byte body p seen b bs s short is =
    ap (λ t. cond t (to_limit bs)
    (by_step (place_step p b) (λ q. pass body (in_size q (seen ++ b ∷ [])) bs)
    (sized_pass body (digits_value 16 (leading_digits (seen ++ b ∷ []))) bs) (to_wrong bs))) (lt-leb MOST_SIZE_LINE (length seen) short)
    ∙ ap (λ v. by_step v (λ q. pass body (in_size q (seen ++ b ∷ [])) bs)
    (sized_pass body (digits_value 16 (leading_digits (seen ++ b ∷ []))) bs) (to_wrong bs)) is

-- the size line goes on
module _ (p : Place) (b : ℕ) (seen rest : List ℕ) (h : HasRead p seen) (w : walk p (b ∷ rest) ≡ true) where
  next : 0 < length rest → (q : Place) × (place_step p b ≡ More q) × HasRead q (seen ++ b ∷ []) × (walk q rest ≡ true)
  next some = chosen (place_step p b) refl (sym (walk_step p b rest) ∙ w) (place_sound p b seen h)
    where
      chosen : (s : Step) → place_step p b ≡ s → walks_after s rest ≡ true → Steps s (seen ++ b ∷ [])
          → (q : Place) × (place_step p b ≡ More q) × HasRead q (seen ++ b ∷ []) × (walk q rest ≡ true)
      chosen (More q) is goes says = (q, is, says, goes)
      chosen End is goes says = absurd (ended rest some goes)
        where
          ended : (bs : List ℕ) → 0 < length bs → walks_after End bs ≡ true → ⊥
          ended [] some goes = omega (arith, some)
          ended (c ∷ bs) some goes = absurd (let no : false ≡ true = goes in cc)
      chosen Bad is goes says = absurd (let no : false ≡ true = goes in cc)

run_line : (body : List ℕ) (p : Place) (seen suffix : List ℕ) (byte : ℕ) (more rest : List ℕ) → HasRead p seen
    → walk p (suffix ++ byte ∷ more) ≡ true → length (seen ++ suffix) ≤ MOST_SIZE_LINE
    → (q : Place) × HasRead q (seen ++ suffix) × (walk q (byte ∷ more) ≡ true)
    × (pass body (in_size p seen) (suffix ++ rest) ≡ pass body (in_size q (seen ++ suffix)) rest)
run_line body p seen [] byte more rest h w short =
    (p, subst (HasRead p) (sym (append-nil seen)) h, w, ap (λ v. pass body (in_size p v) rest) (sym (append-nil seen)))
run_line body p seen (b ∷ suffix) byte more rest h w short =
    let step = next p b seen (suffix ++ byte ∷ more) h w (omega (arith, length-append suffix (byte ∷ more))) in
    let joined : (seen ++ b ∷ []) ++ suffix ≡ seen ++ b ∷ suffix = append_assoc seen (b ∷ []) suffix in
    let less : length seen < MOST_SIZE_LINE = omega (arith, short, length-append seen (b ∷ suffix)) in
    let go = run_line body step.0 (seen ++ b ∷ []) suffix byte more rest step.2 step.3 (omega (arith, short, ap length joined)) in (
      go.0,
      subst (HasRead go.0) joined go.1,
      go.2,
      one_byte body p seen b (suffix ++ rest) (More step.0) less step.1 ∙ go.3 ∙ ap (λ v. pass body (in_size go.0 v) rest) joined,
    )

-- a line that goes on, from its first byte
pub line_begun : (body line rest : List ℕ) → BeginsSizeLine line → length line ≤ MOST_SIZE_LINE
    → (q : Place) × HasRead q line × (pass body (in_size First []) (line ++ rest) ≡ pass body (in_size q line) rest)
line_begun body line rest is short =
    let run = run_line body First [] line is.0 is.1 rest refl (ap (walk First) is.4 ∙ walks is.2 is.3) short in
    (run.0, run.1, run.3)

-- all but the line feed of a size line
abbrev unended_line : SizeLine → List ℕ
unended_line l = l.digits ++ (l.pad ++ (print_extension l.extension ++ 13 ∷ []))

line_split : (l : SizeLine) (rest : List ℕ) → print_size_line l ++ rest ≡ unended_line l ++ 10 ∷ rest
line_split l rest =
    append_assoc l.digits (l.pad ++ (print_extension l.extension ++ 13 ∷ 10 ∷ [])) rest
    ∙ ap (λ v. l.digits ++ v)
    (append_assoc l.pad (print_extension l.extension ++ 13 ∷ 10 ∷ []) rest
    ∙ ap (λ v. l.pad ++ v) (append_assoc (print_extension l.extension) (13 ∷ 10 ∷ []) rest))
    ∙ sym (append_assoc l.digits (l.pad ++ (print_extension l.extension ++ 13 ∷ [])) (10 ∷ rest)
    ∙ ap (λ v. l.digits ++ v)
    (append_assoc l.pad (print_extension l.extension ++ 13 ∷ []) (10 ∷ rest)
    ∙ ap (λ v. l.pad ++ v) (append_assoc (print_extension l.extension) (13 ∷ []) (10 ∷ rest))))

-- a whole line
pub line_passed : (body : List ℕ) (l : SizeLine) (rest : List ℕ) → IsShortLine l
    → pass body (in_size First []) (print_size_line l ++ rest) ≡ sized_pass body (size_of l) rest
line_passed body l rest is =
    let print : print_size_line l ≡ unended_line l ++ 10 ∷ [] = sym (append-nil (print_size_line l)) ∙ line_split l [] in
    let size : length (unended_line l) < MOST_SIZE_LINE =
    omega (arith, is.short, ap length print, length-append (unended_line l) (10 ∷ [])) in
    let run = run_line body First [] (unended_line l) 10 [] (10 ∷ rest) refl (ap (walk First) (sym print) ∙ walks l is.line)
    (omega (arith, size)) in
    let done : place_step run.0 10 ≡ End = chosen run.0 (place_step run.0 10) refl (sym (walk_step run.0 10 []) ∙ run.2) in
    ap (pass body (in_size First [])) (line_split l rest) ∙ run.3
    ∙ one_byte body run.0 (unended_line l) 10 rest End size done
    ∙ ap (λ v. sized_pass body (digits_value 16 v) rest) (ap leading_digits (sym print) ∙ digits_are l is.line)
  where
    chosen : (q : Place) (s : Step) → place_step q 10 ≡ s → walks_after s [] ≡ true → place_step q 10 ≡ End
    chosen q (More p) is goes = absurd (walk_none p goes)
    chosen q End is goes = is
    chosen q Bad is goes = absurd (let no : false ≡ true = goes in cc)

-- a line that is too long
pub line_too_long : (body line : List ℕ) (b : ℕ) (rest : List ℕ) → BeginsSizeLine line → length line ≡ MOST_SIZE_LINE
    → pass body (in_size First []) ((line ++ b ∷ []) ++ rest) ≡ to_limit rest
unfolding pass
line_too_long body line b rest is size =
    let run = line_begun body line (b ∷ rest) is (omega (arith, size)) in
    ap (pass body (in_size First [])) (append_assoc line (b ∷ []) rest) ∙ run.2
    ∙ ap (λ t. cond t (to_limit rest)
    (by_step (place_step run.0 b) (λ q. pass body (in_size q (line ++ b ∷ [])) rest)
    (sized_pass body (digits_value 16 (leading_digits (line ++ b ∷ []))) rest) (to_wrong rest)))
    (le-leb MOST_SIZE_LINE (length line) (omega (arith, size)))

-- a byte with which no line goes on
pub line_wrong : (body line : List ℕ) (b : ℕ) (rest : List ℕ) → BeginsSizeLine line → length line < MOST_SIZE_LINE
    → ¬ (MayBecomeSizeLine (line ++ b ∷ [])) → pass body (in_size First []) ((line ++ b ∷ []) ++ rest) ≡ to_wrong rest
line_wrong body line b rest is short never =
    let run = line_begun body line (b ∷ rest) is (omega (arith, short)) in
    ap (pass body (in_size First [])) (append_assoc line (b ∷ []) rest) ∙ run.2
    ∙ one_byte body run.0 line b rest Bad short (chosen run.0 (place_step run.0 b) refl (place_sound run.0 b line run.1))
  where
    chosen : (q : Place) (s : Step) → place_step q b ≡ s → Steps s (line ++ b ∷ []) → place_step q b ≡ Bad
    chosen q (More p) is says = absurd (never (may_become (line ++ b ∷ []) (begins p (line ++ b ∷ []) says)))
    chosen q End is says = absurd (never ([], says.0, says.1, append-nil (line ++ b ∷ []) ∙ says.2))
    chosen q Bad is says = is

-- bytes of a chunk
pub data_passed : (body some : List ℕ) (left : ℕ) (rest : List ℕ)
    → pass body (in_data (length some + left)) (some ++ rest) ≡ pass (body ++ some) (in_data left) rest
unfolding pass
data_passed body [] left rest =
    let sum : 0 + left ≡ left = omega arith in
    ap (λ k. pass body (in_data k) rest) sum ∙ ap (λ v. pass v (in_data left) rest) (sym (append-nil body))
data_passed body (x ∷ some) left rest =
    let sum : suc (length some) + left ≡ suc (length some + left) = omega arith in
    ap (λ k. pass body (in_data k) (x ∷ (some ++ rest))) sum ∙ data_passed (body ++ x ∷ []) some left rest
    ∙ ap (λ v. pass v (in_data left) rest) (append_assoc body (x ∷ []) some)

-- after a line that leaves the body within its limit
pub data_begun : (body : List ℕ) (size : ℕ) (rest : List ℕ) → 0 < size → length body + size ≤ MOST_BODY
    → sized_pass body size rest ≡ pass body (in_data size) rest
data_begun body size rest some small =
    ap (λ t. cond t (to_trailer body rest) (cond (nat_lt MOST_BODY (length body + size)) (to_limit rest) (pass body (in_data size) rest)))
    (ne_eqb size 0 (λ none. omega (arith, none, some)))
    ∙ ap (λ t. cond t (to_limit rest) (pass body (in_data size) rest)) (le-ltb MOST_BODY (length body + size) small)

-- a size line of too many bytes
pub data_too_long : (body : List ℕ) (size : ℕ) (rest : List ℕ) → length body ≤ MOST_BODY → MOST_BODY < length body + size
    → sized_pass body size rest ≡ to_limit rest
data_too_long body size rest within past =
    ap (λ t. cond t (to_trailer body rest) (cond (nat_lt MOST_BODY (length body + size)) (to_limit rest) (pass body (in_data size) rest)))
    (ne_eqb size 0 (λ none. omega (arith, none, within, past)))
    ∙ ap (λ t. cond t (to_limit rest) (pass body (in_data size) rest)) (lt-ltb MOST_BODY (length body + size) past)

-- the last chunk's line
pub none_left : (body : List ℕ) (size : ℕ) (rest : List ℕ) → size ≡ 0 → sized_pass body size rest ≡ to_trailer body rest
none_left body size rest none = ap (λ n. sized_pass body n rest) none

-- a whole chunk
chunk_passed : (body : List ℕ) (c : Chunk) (rest : List ℕ) → IsChunk c → length body + length c.bytes ≤ MOST_BODY
    → pass body (in_size First []) (print_chunk c ++ rest) ≡ pass (body ++ c.bytes) (in_size First []) rest
unfolding pass
chunk_passed body c rest is small =
    let split : print_chunk c ++ rest ≡ print_size_line c.line ++ (c.bytes ++ 13 ∷ 10 ∷ rest) =
    append_assoc (print_size_line c.line) (c.bytes ++ 13 ∷ 10 ∷ []) rest
    ∙ ap (λ v. print_size_line c.line ++ v) (append_assoc c.bytes (13 ∷ 10 ∷ []) rest) in
    let size : size_of c.line ≡ length c.bytes + 0 = omega (arith, is.size) in
    ap (pass body (in_size First [])) split ∙ line_passed body c.line (c.bytes ++ 13 ∷ 10 ∷ rest) is.line
    ∙ data_begun body (size_of c.line) (c.bytes ++ 13 ∷ 10 ∷ rest) (omega (arith, is.size, is.some)) (omega (arith, is.size, small))
    ∙ ap (λ n. pass body (in_data n) (c.bytes ++ 13 ∷ 10 ∷ rest)) size
    ∙ data_passed body c.bytes 0 (13 ∷ 10 ∷ rest)

pub chunks_passed : (body : List ℕ) (chunks : List Chunk) (rest : List ℕ) → All IsChunk chunks
    → length body + length (carried_bytes chunks) ≤ MOST_BODY
    → pass body (in_size First []) (print_chunks chunks ++ rest) ≡ pass (body ++ carried_bytes chunks) (in_size First []) rest
chunks_passed body [] rest all small = ap (λ v. pass v (in_size First []) rest) (sym (append-nil body))
chunks_passed body (c ∷ chunks) rest all small =
    ap (pass body (in_size First [])) (append_assoc (print_chunk c) (print_chunks chunks) rest)
    ∙ chunk_passed body c (print_chunks chunks ++ rest) (All-head IsChunk c chunks all)
    (omega (arith, small, length-append c.bytes (carried_bytes chunks)))
    ∙ chunks_passed (body ++ c.bytes) chunks rest (All-tail IsChunk c chunks all)
    (omega (arith, small, length-append c.bytes (carried_bytes chunks), length-append body c.bytes))
    ∙ ap (λ v. pass v (in_size First []) rest) (append_assoc body c.bytes (carried_bytes chunks))

pub wrong_return : (body : List ℕ) (b : ℕ) (rest : List ℕ) → nat_eq b 13 ≡ false → pass body (in_data 0) (b ∷ rest) ≡ to_wrong rest
unfolding pass
wrong_return body b rest is = ap (λ t. cond t (pass body before_feed rest) (to_wrong rest)) is

pub return_passed : (body rest : List ℕ) → pass body (in_data 0) (13 ∷ rest) ≡ pass body before_feed rest
unfolding pass
return_passed body rest = refl

pub wrong_feed : (body : List ℕ) (b : ℕ) (rest : List ℕ) → nat_eq b 10 ≡ false → pass body before_feed (b ∷ rest) ≡ to_wrong rest
unfolding pass
wrong_feed body b rest is = ap (λ t. cond t (pass body (in_size First []) rest) (to_wrong rest)) is

pub none_more : (body : List ℕ) (at : At) → pass body at [] ≡ on
unfolding pass
none_more body at = refl

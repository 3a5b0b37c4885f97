-- Of any bytes something shows itself as a body in chunks, or they are one that isn't ended; for the law.
use Rattle.std.proofs.Common.{◌≡◌, ℕ, ◌+◌, ◌<◌, ◌≤◌, ◌⊎◌, inl, inr, Bool, true, false, nat_eq, List, [], ◌∷◌, ◌++◌, length, take, refl, sym}
use Rattle.std.proofs.Common.{ap, ◌∙◌, subst, arith, append-nil, append_assoc, length-append, take_all}
use Rattle.std.proofs.lemmas.Bool.{cases_lt, eqb-true, eq-eqb}
use Rattle.std.proofs.lemmas.List.{take-append-le}
use Rattle.std.proofs.lemmas.List.Elements.{All-push, All-nil}
use Rattle.ba_http_head.specs.declared.headings.Heading.TheVariants.{Trailer}
use Rattle.ba_http_head.specs.declared.lengths.TheConstants.{MOST_BODY}
use Rattle.ba_http_head.specs.declared.scans.Shown.{Shown}
use Rattle.ba_http_head.specs.declared.scans.Shown.TheVariants.{Whole, Bad, Large}
use Rattle.ba_http_head.specs.HeadLines.{IsOpen}
use Rattle.ba_http_head.specs.Looks.{Shows}
use Rattle.ba_http_head.proofs.LookLemmas.{begun}
use Rattle.ba_http_body.specs.declared.size_lines.Place.TheVariants.{First}
use Rattle.ba_http_body.specs.SizeLines.{SizeLine, IsSizeLine, print_size_line, MayBecomeSizeLine}
use Rattle.ba_http_chunks.specs.declared.chunks.TheConstants.{MOST_SIZE_LINE}
use Rattle.ba_http_chunks.specs.Transfers.{size_of, IsShortLine, Chunk, IsChunk, print_chunk, print_chunks, carried_bytes, AreChunks}
use Rattle.ba_http_chunks.specs.Transfers.{IsLastLine}
use Rattle.ba_http_chunks.specs.Transfers.{Position, in_line, in_bytes, in_end, in_trailer, bytes_at, GoesOn, IsUnended, Sight, whole}
use Rattle.ba_http_chunks.specs.Transfers.{broken, large, ShowsBody}
use Rattle.ba_http_chunks.proofs.LinesGoOn.{begins}
use Rattle.ba_http.proofs.NotNever.{NotNever, sure, follow, holds_or}
use Rattle.ba_http.proofs.HeadsShow.{head_step}

-- what these bytes are
abbrev Now : List ℕ → Type 0
Now bytes = IsUnended bytes ⊎ ((sight : Sight) × ShowsBody bytes sight)

differ : (a b : ℕ) → nat_eq a b ≡ false → a ≡ b → ⊥
differ a b is same = let no : true ≡ false = sym (eq-eqb a b same) ∙ is in cc

chunks_more : (chunks : List Chunk) (c : Chunk) → print_chunks (chunks ++ c ∷ []) ≡ print_chunks chunks ++ print_chunk c
chunks_more [] c = append-nil (print_chunk c)
chunks_more (d ∷ chunks) c = ap (λ v. print_chunk d ++ v) (chunks_more chunks c)
    ∙ sym (append_assoc (print_chunk d) (print_chunks chunks) (print_chunk c))

bytes_more : (chunks : List Chunk) (c : Chunk) → carried_bytes (chunks ++ c ∷ []) ≡ carried_bytes chunks ++ c.bytes
bytes_more [] c = append-nil c.bytes
bytes_more (d ∷ chunks) c = ap (λ v. d.bytes ++ v) (bytes_more chunks c) ∙ sym (append_assoc d.bytes (carried_bytes chunks) c.bytes)

abbrev chunk_of : SizeLine → List ℕ → Chunk
chunk_of line bytes = record { line = line; bytes = bytes }

module _ (chunks : List Chunk) (are : AreChunks chunks) (b : ℕ) where
  -- a size line has ended
  ended : (l : SizeLine) (line : List ℕ) → IsShortLine l → line ≡ print_size_line l → Now (print_chunks chunks ++ line)
  ended l line short is =
      let cut : print_chunks chunks ++ line ≡ print_chunks chunks ++ (print_size_line l ++ []) =
      ap (λ v. print_chunks chunks ++ v) (is ∙ sym (append-nil (print_size_line l))) in
      elim (cases_lt 0 (size_of l)) [
        | inl some ↦
            elim (cases_lt MOST_BODY (length (carried_bytes chunks) + size_of l)) [
              | inl past ↦ inr (large, inr (inl (chunks, l, are, short, past, ap (λ v. print_chunks chunks ++ v) is)))
              | inr small ↦ inl (chunks, in_bytes l [], are, (record { line = short; some = some; small = small }, omega arith), cut)
            ]
        | inr none ↦
            inl (chunks, in_trailer l [], are, (record { line = short; none = omega (arith, none) }, (begun Trailer).open_yet), cut)
      ]

  -- a size line that goes on, or ends
  line_goes : (line more : List ℕ) (l : SizeLine) → length line < MOST_SIZE_LINE → IsSizeLine l
      → (line ++ b ∷ []) ++ more ≡ print_size_line l → Now (print_chunks chunks ++ (line ++ b ∷ []))
  line_goes line [] l short is whole_line =
      let all : line ++ b ∷ [] ≡ print_size_line l = sym (append-nil (line ++ b ∷ [])) ∙ whole_line in
      ended l (line ++ b ∷ [])
      (record { line = is; short = omega (arith, ap length all, length-append line (b ∷ []), short) }) all
  line_goes line (c ∷ more) l short is whole_line =
      inl (chunks, in_line (line ++ b ∷ []), are, ((c, more, l, is, whole_line), omega (arith, length-append line (b ∷ []), short)), refl)

  of_line : (line : List ℕ) → GoesOn chunks (in_line line) → NotNever (Now (print_chunks chunks ++ (line ++ b ∷ [])))
  of_line line yet =
      elim (cases_lt (length line) MOST_SIZE_LINE) [
        | inl short ↦
            follow (holds_or (MayBecomeSizeLine (line ++ b ∷ []))) (λ t.
            elim t [
              | inl may ↦ sure (line_goes line may.0 may.1 short may.2 may.3)
              | inr never ↦
                  sure (inr (
                    broken (length (print_chunks chunks ++ line)),
                    inl (chunks, in_line line, b, are, yet, (never, short), refl, refl),
                  ))
            ])
        | inr long ↦ sure (inr (large, inl (chunks, line, b, are, yet, omega (arith, long, yet.1), refl)))
      ]

  of_bytes : (line : SizeLine) (some : List ℕ) → GoesOn chunks (in_bytes line some)
      → Now (print_chunks chunks ++ ((print_size_line line ++ some) ++ b ∷ []))
  of_bytes line some yet =
      elim (cases_lt (length some) (size_of line)) [
        | inl less ↦
            inl (
              chunks,
              in_bytes line (some ++ b ∷ []),
              are,
              (yet.0, omega (arith, less, length-append some (b ∷ []))),
              ap (λ v. print_chunks chunks ++ v) (append_assoc (print_size_line line) some (b ∷ [])),
            )
        | inr full ↦ return (nat_eq b 13) refl (omega (arith, full, yet.1))
      ]
    where
      return : (t : Bool) → nat_eq b 13 ≡ t → length some ≡ size_of line
          → Now (print_chunks chunks ++ ((print_size_line line ++ some) ++ b ∷ []))
      return true is all =
          inl (
            chunks,
            in_end line some,
            are,
            (yet.0, all),
            ap (λ v. print_chunks chunks ++ v) (append_assoc (print_size_line line) some (b ∷ [])
                ∙ ap (λ v. print_size_line line ++ (some ++ v ∷ [])) (eqb-true b 13 is)),
          )
      return false is all =
          inr (
            broken (length (print_chunks chunks ++ (print_size_line line ++ some))),
            inl (chunks, in_bytes line some, b, are, yet, (all, differ b 13 is), refl, refl),
          )

  of_end : (line : SizeLine) (all : List ℕ) → GoesOn chunks (in_end line all)
      → Now (print_chunks chunks ++ ((print_size_line line ++ (all ++ 13 ∷ [])) ++ b ∷ []))
  of_end line all yet = feed (nat_eq b 10) refl
    where
      sum : length (carried_bytes (chunks ++ chunk_of line all ∷ [])) ≡ length (carried_bytes chunks) + size_of line
      sum = ap length (bytes_more chunks (chunk_of line all))
          ∙ (length-append (carried_bytes chunks) all ∙ ap (λ n. length (carried_bytes chunks) + n) yet.1)

      feed : (t : Bool) → nat_eq b 10 ≡ t → Now (print_chunks chunks ++ ((print_size_line line ++ (all ++ 13 ∷ [])) ++ b ∷ []))
      feed true is =
          inl (
            chunks ++ chunk_of line all ∷ [],
            in_line [],
            record {
              each = All-push IsChunk chunks (chunk_of line all) are.each
                  (record { line = yet.0.line; size = sym yet.1; some = omega (arith, yet.1, yet.0.some) });
              small = omega (arith, sum, yet.0.small);
            },
            (begins First [] refl, omega arith),
            ap (λ v. print_chunks chunks ++ v)
                (append_assoc (print_size_line line) (all ++ 13 ∷ []) (b ∷ [])
                ∙ ap (λ v. print_size_line line ++ v) (append_assoc all (13 ∷ []) (b ∷ [])
                ∙ ap (λ v. all ++ 13 ∷ v ∷ []) (eqb-true b 10 is)))
                ∙ sym (chunks_more chunks (chunk_of line all)) ∙ sym (append-nil (print_chunks (chunks ++ chunk_of line all ∷ []))),
          )
      feed false is =
          inr (
            broken (length (print_chunks chunks ++ (print_size_line line ++ (all ++ 13 ∷ [])))),
            inl (chunks, in_end line all, b, are, yet, differ b 10 is, refl, refl),
          )

  trailer_shows : (last : SizeLine) (bytes trailer : List ℕ) (shown : Shown) → IsLastLine last → Shows Trailer trailer shown
      → bytes ≡ print_chunks chunks ++ (print_size_line last ++ trailer) → (sight : Sight) × ShowsBody bytes sight
  trailer_shows last bytes trailer Whole is shows cut =
      (whole (carried_bytes chunks), (chunks, last, trailer, are, is, shows, cut, refl))
  trailer_shows last bytes trailer (Bad at) is shows cut =
      (broken (length (print_chunks chunks ++ print_size_line last) + at), inr (chunks, last, trailer, at, are, is, shows, cut, refl))
  trailer_shows last bytes trailer Large is shows cut = (large, inr (inr (chunks, last, trailer, are, is, shows, cut)))

  of_trailer : (last : SizeLine) (trailer : List ℕ) → GoesOn chunks (in_trailer last trailer)
      → NotNever (Now (print_chunks chunks ++ ((print_size_line last ++ trailer) ++ b ∷ [])))
  of_trailer last trailer yet = follow (head_step Trailer trailer b yet.1) (λ t. sure (now t))
    where
      cut : print_chunks chunks ++ ((print_size_line last ++ trailer) ++ b ∷ [])
          ≡ print_chunks chunks ++ (print_size_line last ++ (trailer ++ b ∷ []))
      cut = ap (λ v. print_chunks chunks ++ v) (append_assoc (print_size_line last) trailer (b ∷ []))

      now : IsOpen Trailer (trailer ++ b ∷ []) ⊎ ((shown : Shown) × Shows Trailer (trailer ++ b ∷ []) shown)
          → Now (print_chunks chunks ++ ((print_size_line last ++ trailer) ++ b ∷ []))
      now (inl is) = inl (chunks, in_trailer last (trailer ++ b ∷ []), are, (yet.0, is), cut)
      now (inr is) =
          inr (trailer_shows last (print_chunks chunks ++ ((print_size_line last ++ trailer) ++ b ∷ [])) (trailer ++ b ∷ []) is.0 yet.0
          is.1 cut)

  byte_at : (at : Position) → GoesOn chunks at → NotNever (Now (print_chunks chunks ++ (bytes_at at ++ b ∷ [])))
  byte_at (in_line line) yet = of_line line yet
  byte_at (in_bytes line some) yet = sure (of_bytes line some yet)
  byte_at (in_end line all) yet = sure (of_end line all yet)
  byte_at (in_trailer last trailer) yet = of_trailer last trailer yet

body_step : (bytes : List ℕ) (b : ℕ) → IsUnended bytes → NotNever (Now (bytes ++ b ∷ []))
body_step bytes b yet =
    subst (λ v. NotNever (Now v)) (sym (ap (λ v. v ++ b ∷ []) yet.4 ∙ append_assoc (print_chunks yet.0) (bytes_at yet.1) (b ∷ [])))
    (byte_at yet.0 yet.2 b yet.1 yet.3)

-- what is seen of bytes
pub data BodySeen (bytes : List ℕ) : Type 0 where
  goes_on : IsUnended bytes → BodySeen bytes
  shows : (n : ℕ) → (sight : Sight) → n ≤ length bytes → ShowsBody (take n bytes) sight → BodySeen bytes

body_more : (seen : List ℕ) (b : ℕ) → BodySeen seen → NotNever (BodySeen (seen ++ b ∷ []))
body_more seen b (goes_on yet) = follow (body_step seen b yet) (λ t. sure (now t))
  where
    now : Now (seen ++ b ∷ []) → BodySeen (seen ++ b ∷ [])
    now (inl is) = goes_on is
    now (inr is) =
        shows (length (seen ++ b ∷ [])) is.0 (omega arith)
        (subst (λ v. ShowsBody v is.0) (sym (take_all (length (seen ++ b ∷ [])) (seen ++ b ∷ []) (omega arith))) is.1)
body_more seen b (shows n sight within is) =
    sure (shows n sight (omega (arith, within, length-append seen (b ∷ [])))
    (subst (λ v. ShowsBody v sight) (sym (take-append-le n seen (b ∷ []) within)) is))

body_after : (bytes seen : List ℕ) → NotNever (BodySeen seen) → NotNever (BodySeen (seen ++ bytes))
body_after [] seen so_far = subst (λ v. NotNever (BodySeen v)) (sym (append-nil seen)) so_far
body_after (b ∷ bytes) seen so_far =
    subst (λ v. NotNever (BodySeen v)) (append_assoc seen (b ∷ []) bytes)
    (body_after bytes (seen ++ b ∷ []) (follow so_far (body_more seen b)))

pub body_seen : (bytes : List ℕ) → NotNever (BodySeen bytes)
body_seen bytes =
    body_after bytes [] (sure (goes_on (
      [],
      in_line [],
      record { each = All-nil IsChunk; small = omega arith },
      (begins First [] refl, omega arith),
      refl,
    )))

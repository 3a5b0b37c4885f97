-- One byte more of a transfer, or some of a chunk; for the clauses of the functions that take them.
use Rattle.std.proofs.Common.{◌≡◌, ℕ, ◌+◌, ◌-◌, ◌*◌, ◌^◌, ◌<◌, ◌≤◌, inl, inr, min, List, [], ◌∷◌, ◌++◌, length, refl, sym, ap, ◌∙◌, subst}
use Rattle.std.proofs.Common.{arith, append-nil, append_assoc, length-append, Result, Ok, Err, All}
use Rattle.std.proofs.lemmas.List.Elements.{All-head, All-tail, All-push, All-nil}
use Rattle.ba_http_head.specs.declared.faults.HttpFault.{HttpFault}
use Rattle.ba_http_head.specs.declared.faults.HttpFault.TheVariants.{Memory, BadHead, Length, TooLarge, BadChunk, Truncated, Read}
use Rattle.ba_http_head.specs.declared.lengths.TheConstants.{MOST_BODY}
use Rattle.ba_http_body.specs.declared.size_lines.Place.{Place}
use Rattle.ba_http_body.specs.declared.size_lines.Place.TheVariants.{First}
use Rattle.ba_http_body.specs.SizeLines.{SizeLine, IsSizeLine, print_size_line, MayBecomeSizeLine}
use Rattle.ba_http_body.specs.inside.Places.{HasRead}
use Rattle.ba_http_chunks.specs.declared.chunks.TheConstants.{MOST_SIZE_LINE}
use Rattle.ba_http_chunks.specs.declared.chunks.Chunks.{Chunks}
use Rattle.ba_http_chunks.specs.declared.chunks.SizeSoFar.{SizeSoFar}
use Rattle.ba_http_chunks.specs.declared.chunks.Spot.{Spot}
use Rattle.ba_http_chunks.specs.declared.chunks.Spot.TheVariants.{Line, Bytes, Feed}
use Rattle.ba_http_chunks.specs.declared.chunks.Turned.{Turned}
use Rattle.ba_http_chunks.specs.declared.chunks.Turned.TheVariants.{On, Last}
use Rattle.ba_http_chunks.specs.Transfers.{size_of, IsShortLine, Chunk, IsChunk, print_chunk, print_chunks, carried_bytes, Position}
use Rattle.ba_http_chunks.specs.Transfers.{in_line}
use Rattle.ba_http_chunks.specs.Transfers.{in_bytes, in_end, in_trailer, bytes_at, GoesOn, IsUnended, Breaks, Passes}
use Rattle.ba_http_chunks.specs.inside.Progress.{SaysSoFar, body_at, got_at, IsAt, Stands, IsBeforeTrailer, Turns, Sized}
use Rattle.ba_http_chunks.proofs.Leading.{says_size}
use Rattle.ba_http_chunks.proofs.LinesGoOn.{begins}

-- where each spot is
at_line : (l : SizeSoFar) (chunks : List Chunk) (at : Position) → IsAt (Line l) chunks at
    → (line : List ℕ) × (at ≡ in_line line) × IsAt (Line l) chunks (in_line line)
at_line l chunks (in_line line) is = (line, refl, is)
at_line l chunks (in_bytes line some) is = absurd is
at_line l chunks (in_end line all) is = absurd is
at_line l chunks (in_trailer last trailer) is = absurd is

at_bytes : (left : ℕ) (chunks : List Chunk) (at : Position) → IsAt (Bytes left) chunks at
    → (line : SizeLine) × (some : List ℕ) × (at ≡ in_bytes line some) × IsAt (Bytes left) chunks (in_bytes line some)
at_bytes left chunks (in_line line) is = absurd is
at_bytes left chunks (in_bytes line some) is = (line, some, refl, is)
at_bytes left chunks (in_end line all) is = absurd is
at_bytes left chunks (in_trailer last trailer) is = absurd is

at_feed : (chunks : List Chunk) (at : Position) → IsAt Feed chunks at
    → (line : SizeLine) × (all : List ℕ) × (at ≡ in_end line all) × IsAt Feed chunks (in_end line all)
at_feed chunks (in_line line) is = absurd is
at_feed chunks (in_bytes line some) is = absurd is
at_feed chunks (in_end line all) is = (line, all, refl, is)
at_feed chunks (in_trailer last trailer) is = absurd is

-- nothing has shown itself there
goes_on : (spot : Spot) (chunks : List Chunk) (at : Position) → IsAt spot chunks at → GoesOn chunks at
goes_on (Line l) chunks (in_line line) is = (begins l.place line is.0, is.2)
goes_on (Line l) chunks (in_bytes line some) is = absurd is
goes_on (Line l) chunks (in_end line all) is = absurd is
goes_on (Line l) chunks (in_trailer last trailer) is = absurd is
goes_on (Bytes left) chunks (in_line line) is = absurd is
goes_on (Bytes left) chunks (in_bytes line some) is = (is.0, omega (arith, is.1))
goes_on (Bytes left) chunks (in_end line all) is = absurd is
goes_on (Bytes left) chunks (in_trailer last trailer) is = absurd is
goes_on Feed chunks (in_line line) is = absurd is
goes_on Feed chunks (in_bytes line some) is = absurd is
goes_on Feed chunks (in_end line all) is = is
goes_on Feed chunks (in_trailer last trailer) is = absurd is

pub unended : (c : Chunks) (fed body : List ℕ) → Stands c fed body → IsUnended fed
unended c fed body s = (s.chunks, s.at, s.are, goes_on c.spot s.chunks s.at s.is_at, s.is_fed)

-- a transfer isn't long
one_long : (c : Chunk) → IsChunk c → length (print_chunk c) ≤ 1027 * length c.bytes
one_long c is = omega (
  arith,
  length-append (print_size_line c.line) (c.bytes ++ 13 ∷ 10 ∷ []),
  length-append c.bytes (13 ∷ 10 ∷ []),
  is.line.short,
  is.some,
)

chunks_long : (chunks : List Chunk) → All IsChunk chunks → length (print_chunks chunks) ≤ 1027 * length (carried_bytes chunks)
chunks_long [] all = omega arith
chunks_long (c ∷ chunks) all = omega (
  arith,
  chunks_long chunks (All-tail IsChunk c chunks all),
  one_long c (All-head IsChunk c chunks all),
  length-append (print_chunk c) (print_chunks chunks),
  length-append c.bytes (carried_bytes chunks),
)

long_at : (chunks : List Chunk) (at : Position) (spot : Spot) → IsAt spot chunks at → length (bytes_at at) ≤ 2 ^ 20
long_at chunks (in_line line) (Line l) is = omega (arith, is.2)
long_at chunks (in_line line) (Bytes left) is = absurd is
long_at chunks (in_line line) Feed is = absurd is
long_at chunks (in_bytes line some) (Line l) is = absurd is
long_at chunks (in_bytes line some) (Bytes left) is =
    omega (arith, length-append (print_size_line line) some, is.1, is.0.small, is.0.line.short)
long_at chunks (in_bytes line some) Feed is = absurd is
long_at chunks (in_end line all) (Line l) is = absurd is
long_at chunks (in_end line all) (Bytes left) is = absurd is
long_at chunks (in_end line all) Feed is =
    omega (arith, length-append (print_size_line line) (all ++ 13 ∷ []), length-append all (13 ∷ []), is.1, is.0.small, is.0.line.short)
long_at chunks (in_trailer last trailer) (Line l) is = absurd is
long_at chunks (in_trailer last trailer) (Bytes left) is = absurd is
long_at chunks (in_trailer last trailer) Feed is = absurd is

pub bounded : (c : Chunks) (fed body : List ℕ) → Stands c fed body → length fed ≤ 2 ^ 32
bounded c fed body s = omega (
  arith,
  ap length s.is_fed,
  length-append (print_chunks s.chunks) (bytes_at s.at),
  chunks_long s.chunks s.are.each,
  long_at s.chunks s.at c.spot s.is_at,
  s.are.small,
)

-- one byte more is counted
counted : (count : ℕ) (fed more : List ℕ) → count ≡ length fed → length fed ≤ 2 ^ 32 → length more ≤ 2 ^ 32
    → min (count + length more) (2 ^ 64 - 1) ≡ length (fed ++ more)
counted count fed more is small few = omega (arith, is, small, few, length-append fed more)

pub started : Stands (record { spot = Line (record { place = First; length = 0; size = 0 }); got = 0; count = 0 }) [] []
started = record {
  chunks = [];
  at = in_line [];
  are = record { each = All-nil IsChunk; small = omega arith };
  is_at = (refl, refl, omega arith, refl);
  got = refl;
  is_fed = refl;
  is_body = refl;
  count = refl;
}

module _ (c : Chunks) (l : SizeSoFar) (here : c.spot ≡ Line l) (fed body : List ℕ) (s : Stands c fed body) (b : ℕ) where
  there : (line : List ℕ) × (s.at ≡ in_line line) × IsAt (Line l) s.chunks (in_line line)
  there = at_line l s.chunks s.at (subst (λ v. IsAt v s.chunks s.at) here s.is_at)

  is_fed : fed ≡ print_chunks s.chunks ++ there.0
  is_fed = s.is_fed ∙ ap (λ v. print_chunks s.chunks ++ bytes_at v) there.1

  is_body : body ≡ carried_bytes s.chunks ++ []
  is_body = s.is_body ∙ ap (λ v. carried_bytes s.chunks ++ body_at v) there.1

  got : c.got ≡ length (carried_bytes s.chunks)
  got = s.got ∙ ap (got_at s.chunks) there.1

  fed_on : fed ++ b ∷ [] ≡ print_chunks s.chunks ++ (there.0 ++ b ∷ [])
  fed_on = ap (λ v. v ++ b ∷ []) is_fed ∙ append_assoc (print_chunks s.chunks) there.0 (b ∷ [])

  goes : GoesOn s.chunks (in_line there.0)
  goes = goes_on (Line l) s.chunks (in_line there.0) there.2

  -- a limit shows itself
  pub long_line : MOST_SIZE_LINE ≤ l.length → Passes (fed ++ b ∷ [])
  long_line past =
      inl (s.chunks, there.0, b, s.are, goes, omega (arith, past, there.2.1, there.2.2), fed_on)

  -- no size line goes on with the byte
  pub wrong_in_line : l.length < MOST_SIZE_LINE → ((some : List ℕ) → HasRead l.place some → ¬ (MayBecomeSizeLine (some ++ b ∷ [])))
      → Breaks (fed ++ b ∷ []) c.count
  wrong_in_line short never =
      inl (
        s.chunks,
        in_line there.0,
        b,
        s.are,
        goes,
        (never there.0 there.2.0, omega (arith, short, there.2.1)),
        fed_on,
        s.count ∙ ap length is_fed,
      )

  -- the line goes on
  pub line_on : l.length < MOST_SIZE_LINE → (place : Place) (size : ℕ)
      → ((some : List ℕ) → HasRead l.place some → HasRead place (some ++ b ∷ []))
      → ((some : List ℕ) → HasRead l.place some → SaysSoFar some l.size → SaysSoFar (some ++ b ∷ []) size)
      → Stands (record {
        spot = Line (record { place = place; length = l.length + 1; size = size });
        got = c.got;
        count = min (c.count + 1) (2 ^ 64 - 1);
      })
      (fed ++ b ∷ []) body
  line_on short place size reads says = record {
    chunks = s.chunks;
    at = in_line (there.0 ++ b ∷ []);
    are = s.are;
    is_at = (
      reads there.0 there.2.0,
      omega (arith, there.2.1, length-append there.0 (b ∷ [])),
      omega (arith, short, there.2.1, length-append there.0 (b ∷ [])),
      says there.0 there.2.0 there.2.3,
    );
    got = got;
    is_fed = fed_on;
    is_body = is_body;
    count = counted c.count fed (b ∷ []) s.count (bounded c fed body s) (omega arith);
  }

  -- the line ends, and says this size
  module _ (short : l.length < MOST_SIZE_LINE) (size : ℕ)
      (ends : (some : List ℕ) → HasRead l.place some → (m : SizeLine) × IsSizeLine m × (some ++ b ∷ [] ≡ print_size_line m))
      (says : (some : List ℕ) → HasRead l.place some → SaysSoFar some l.size → SaysSoFar (some ++ b ∷ []) size) where
    end : (m : SizeLine) × IsSizeLine m × (there.0 ++ b ∷ [] ≡ print_size_line m)
    end = ends there.0 there.2.0

    size_is : size ≡ min (size_of end.0) (2 ^ 64 - 1)
    size_is = says_size end.0 size end.1 (subst (λ v. SaysSoFar v size) end.2 (says there.0 there.2.0 there.2.3))

    short_line : IsShortLine end.0
    short_line = record {
      line = end.1;
      short = omega (arith, ap length end.2, length-append there.0 (b ∷ []), short, there.2.1);
    }

    fed_line : fed ++ b ∷ [] ≡ print_chunks s.chunks ++ print_size_line end.0
    fed_line = fed_on ∙ ap (λ v. print_chunks s.chunks ++ v) end.2

    pub large_chunk : MOST_BODY < min (c.got + size) (2 ^ 64 - 1) → Passes (fed ++ b ∷ [])
    large_chunk past =
        inr (inl (s.chunks, end.0, s.are, short_line, omega (arith, past, got, size_is), fed_line))

    pub last_line : size ≡ 0 → IsBeforeTrailer (min (c.count + 1) (2 ^ 64 - 1)) (fed ++ b ∷ []) body
    last_line none = record {
      chunks = s.chunks;
      last = end.0;
      are = s.are;
      is_last = record { line = short_line; none = omega (arith, none, size_is) };
      is_fed = fed_line;
      is_body = is_body ∙ append-nil (carried_bytes s.chunks);
      is_count = counted c.count fed (b ∷ []) s.count (bounded c fed body s) (omega arith);
    }

    pub chunk_begun : 0 < size → min (c.got + size) (2 ^ 64 - 1) ≤ MOST_BODY
        → Stands (record { spot = Bytes size; got = min (c.got + size) (2 ^ 64 - 1); count = min (c.count + 1) (2 ^ 64 - 1) })
        (fed ++ b ∷ []) body
    chunk_begun some small =
        let sum : min (c.got + size) (2 ^ 64 - 1) ≡ length (carried_bytes s.chunks) + size_of end.0 = omega (arith, small, got, size_is) in
        record {
          chunks = s.chunks;
          at = in_bytes end.0 [];
          are = s.are;
          is_at = (
            record {
              line = short_line;
              some = omega (arith, some, size_is);
              small = omega (arith, small, sum);
            },
            omega (arith, small, sum, got, size_is),
          );
          got = sum;
          is_fed = fed_line ∙ ap (λ v. print_chunks s.chunks ++ v) (sym (append-nil (print_size_line end.0)));
          is_body = is_body;
          count = counted c.count fed (b ∷ []) s.count (bounded c fed body s) (omega arith);
        }

-- a line that ends, by the size that it says
pub line_ended : (c : Chunks) (l : SizeSoFar) (b size : ℕ) (r : Result Turned HttpFault) → c.spot ≡ Line l → l.length < MOST_SIZE_LINE
    → ((some : List ℕ) → HasRead l.place some → (m : SizeLine) × IsSizeLine m × (some ++ b ∷ [] ≡ print_size_line m))
    → ((some : List ℕ) → HasRead l.place some → SaysSoFar some l.size → SaysSoFar (some ++ b ∷ []) size)
    → Sized c size r → Turns c b r
line_ended c l b size (Ok (On next n)) here short ends says z =
    let to : next ≡ record { spot = Bytes size; got = min (c.got + size) (2 ^ 64 - 1); count = min (c.count + 1) (2 ^ 64 - 1) } =
    cc (z.2) in
    let one : n ≡ 1 = cc (z.2) in (
      one,
      λ fed body s. subst (λ v. Stands v (fed ++ b ∷ []) body) (sym to)
          (chunk_begun c l here fed body s b short size ends says z.0 z.1),
    )
line_ended c l b size (Ok (Last count)) here short ends says z =
    λ fed body s. subst (λ v. IsBeforeTrailer v (fed ++ b ∷ []) body) (sym z.1) (last_line c l here fed body s b short size ends says z.0)
line_ended c l b size (Err Memory) here short ends says z = absurd z
line_ended c l b size (Err (BadHead place)) here short ends says z = absurd z
line_ended c l b size (Err Length) here short ends says z = absurd z
line_ended c l b size (Err TooLarge) here short ends says z = λ fed body s. large_chunk c l here fed body s b short size ends says z
line_ended c l b size (Err (BadChunk place)) here short ends says z = absurd z
line_ended c l b size (Err Truncated) here short ends says z = absurd z
line_ended c l b size (Err Read) here short ends says z = absurd z

-- after a chunk's size line
module _ (c : Chunks) (left : ℕ) (here : c.spot ≡ Bytes left) (fed body : List ℕ) (s : Stands c fed body) where
  inside : (line : SizeLine) × (some : List ℕ) × (s.at ≡ in_bytes line some) × IsAt (Bytes left) s.chunks (in_bytes line some)
  inside = at_bytes left s.chunks s.at (subst (λ v. IsAt v s.chunks s.at) here s.is_at)

  fed_so : fed ≡ print_chunks s.chunks ++ (print_size_line inside.0 ++ inside.1)
  fed_so = s.is_fed ∙ ap (λ v. print_chunks s.chunks ++ bytes_at v) inside.2

  body_so : body ≡ carried_bytes s.chunks ++ inside.1
  body_so = s.is_body ∙ ap (λ v. carried_bytes s.chunks ++ body_at v) inside.2

  got_so : c.got ≡ length (carried_bytes s.chunks) + size_of inside.0
  got_so = s.got ∙ ap (got_at s.chunks) inside.2

  -- more of its bytes
  pub bytes_on : (more : List ℕ) → length more ≤ left
      → Stands (record { spot = Bytes (left - length more); got = c.got; count = min (c.count + length more) (2 ^ 64 - 1) })
      (fed ++ more) (body ++ more)
  bytes_on more few =
      record {
        chunks = s.chunks;
        at = in_bytes inside.0 (inside.1 ++ more);
        are = s.are;
        is_at = (inside.3.0, omega (arith, inside.3.1, few, length-append inside.1 more));
        got = got_so;
        is_fed = ap (λ v. v ++ more) fed_so ∙ append_assoc (print_chunks s.chunks) (print_size_line inside.0 ++ inside.1) more
            ∙ ap (λ v. print_chunks s.chunks ++ v) (append_assoc (print_size_line inside.0) inside.1 more);
        is_body = ap (λ v. v ++ more) body_so ∙ append_assoc (carried_bytes s.chunks) inside.1 more;
        count = counted c.count fed more s.count (bounded c fed body s)
            (omega (arith, few, inside.3.1, inside.3.0.small));
      }

  module _ (none : left ≡ 0) (b : ℕ) where
    all_there : length inside.1 ≡ size_of inside.0
    all_there = omega (arith, inside.3.1, none)

    pub return_taken : b ≡ 13
        → Stands (record { spot = Feed; got = c.got; count = min (c.count + 1) (2 ^ 64 - 1) }) (fed ++ b ∷ []) body
    return_taken is = record {
      chunks = s.chunks;
      at = in_end inside.0 inside.1;
      are = s.are;
      is_at = (inside.3.0, all_there);
      got = got_so;
      is_fed = ap (λ v. fed ++ v ∷ []) is ∙ ap (λ v. v ++ 13 ∷ []) fed_so
          ∙ append_assoc (print_chunks s.chunks) (print_size_line inside.0 ++ inside.1) (13 ∷ [])
          ∙ ap (λ v. print_chunks s.chunks ++ v) (append_assoc (print_size_line inside.0) inside.1 (13 ∷ []));
      is_body = body_so;
      count = counted c.count fed (b ∷ []) s.count (bounded c fed body s) (omega arith);
    }

    pub no_return : (b ≡ 13 → ⊥) → Breaks (fed ++ b ∷ []) c.count
    no_return other =
        inl (
          s.chunks,
          in_bytes inside.0 inside.1,
          b,
          s.are,
          (inside.3.0, omega (arith, all_there)),
          (all_there, other),
          ap (λ v. v ++ b ∷ []) fed_so ∙ append_assoc (print_chunks s.chunks) (print_size_line inside.0 ++ inside.1) (b ∷ []),
          s.count ∙ ap length fed_so,
        )

chunks_more : (chunks : List Chunk) (c : Chunk) → print_chunks (chunks ++ c ∷ []) ≡ print_chunks chunks ++ print_chunk c
chunks_more [] c = append-nil (print_chunk c)
chunks_more (d ∷ chunks) c = ap (λ v. print_chunk d ++ v) (chunks_more chunks c)
    ∙ sym (append_assoc (print_chunk d) (print_chunks chunks) (print_chunk c))

bytes_more : (chunks : List Chunk) (c : Chunk) → carried_bytes (chunks ++ c ∷ []) ≡ carried_bytes chunks ++ c.bytes
bytes_more [] c = append-nil c.bytes
bytes_more (d ∷ chunks) c = ap (λ v. d.bytes ++ v) (bytes_more chunks c) ∙ sym (append_assoc d.bytes (carried_bytes chunks) c.bytes)

abbrev chunk_of : SizeLine → List ℕ → Chunk
chunk_of line bytes = record { line = line; bytes = bytes }

-- after the CR that follows a chunk
module _ (c : Chunks) (here : c.spot ≡ Feed) (fed body : List ℕ) (s : Stands c fed body) (b : ℕ) where
  ending : (line : SizeLine) × (all : List ℕ) × (s.at ≡ in_end line all) × IsAt Feed s.chunks (in_end line all)
  ending = at_feed s.chunks s.at (subst (λ v. IsAt v s.chunks s.at) here s.is_at)

  fed_end : fed ≡ print_chunks s.chunks ++ (print_size_line ending.0 ++ (ending.1 ++ 13 ∷ []))
  fed_end = s.is_fed ∙ ap (λ v. print_chunks s.chunks ++ bytes_at v) ending.2

  body_end : body ≡ carried_bytes s.chunks ++ ending.1
  body_end = s.is_body ∙ ap (λ v. carried_bytes s.chunks ++ body_at v) ending.2

  got_end : c.got ≡ length (carried_bytes s.chunks) + size_of ending.0
  got_end = s.got ∙ ap (got_at s.chunks) ending.2

  sum : length (carried_bytes (s.chunks ++ chunk_of ending.0 ending.1 ∷ [])) ≡ length (carried_bytes s.chunks) + size_of ending.0
  sum = ap length (bytes_more s.chunks (chunk_of ending.0 ending.1))
      ∙ (length-append (carried_bytes s.chunks) ending.1 ∙ ap (λ n. length (carried_bytes s.chunks) + n) ending.3.1)

  pub feed_taken : b ≡ 10
      → Stands (record {
        spot = Line (record { place = First; length = 0; size = 0 });
        got = c.got;
        count = min (c.count + 1) (2 ^ 64 - 1);
      })
      (fed ++ b ∷ []) body
  feed_taken is = record {
    chunks = s.chunks ++ chunk_of ending.0 ending.1 ∷ [];
    at = in_line [];
    are = record {
      each = All-push IsChunk s.chunks (chunk_of ending.0 ending.1) s.are.each
          (record { line = ending.3.0.line; size = sym ending.3.1; some = omega (arith, ending.3.1, ending.3.0.some) });
      small = omega (arith, sum, ending.3.0.small);
    };
    is_at = (refl, refl, omega arith, refl);
    got = got_end ∙ sym sum;
    is_fed = ap (λ v. fed ++ v ∷ []) is ∙ ap (λ v. v ++ 10 ∷ []) fed_end
        ∙ append_assoc (print_chunks s.chunks) (print_size_line ending.0 ++ (ending.1 ++ 13 ∷ [])) (10 ∷ [])
        ∙ ap (λ v. print_chunks s.chunks ++ v)
        (append_assoc (print_size_line ending.0) (ending.1 ++ 13 ∷ []) (10 ∷ [])
        ∙ ap (λ v. print_size_line ending.0 ++ v) (append_assoc ending.1 (13 ∷ []) (10 ∷ [])))
        ∙ sym (chunks_more s.chunks (chunk_of ending.0 ending.1))
        ∙ sym (append-nil (print_chunks (s.chunks ++ chunk_of ending.0 ending.1 ∷ [])));
    is_body = body_end ∙ sym (bytes_more s.chunks (chunk_of ending.0 ending.1))
        ∙ sym (append-nil (carried_bytes (s.chunks ++ chunk_of ending.0 ending.1 ∷ [])));
    count = counted c.count fed (b ∷ []) s.count (bounded c fed body s) (omega arith);
  }

  pub no_feed : (b ≡ 10 → ⊥) → Breaks (fed ++ b ∷ []) c.count
  no_feed other =
      inl (
        s.chunks,
        in_end ending.0 ending.1,
        b,
        s.are,
        ending.3,
        other,
        ap (λ v. v ++ b ∷ []) fed_end
            ∙ append_assoc (print_chunks s.chunks) (print_size_line ending.0 ++ (ending.1 ++ 13 ∷ [])) (b ∷ []),
        s.count ∙ ap length fed_end,
      )

pub bounded_line : (count : ℕ) (fed body : List ℕ) → IsBeforeTrailer count fed body → length fed ≤ 2 ^ 33
bounded_line count fed body is = omega (
  arith,
  ap length is.is_fed,
  length-append (print_chunks is.chunks) (print_size_line is.last),
  chunks_long is.chunks is.are.each,
  is.is_last.line.short,
  is.are.small,
)

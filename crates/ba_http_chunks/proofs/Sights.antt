-- What shows itself of a body in chunks is one thing, at one byte; for the laws.
use Rattle.std.proofs.Common.{◌≡◌, ℕ, ◌+◌, ◌-◌, ◌≤◌, inl, inr, List, [], ◌∷◌, ◌++◌, length, take, drop, refl, sym, ap, ◌∙◌, subst, arith}
use Rattle.std.proofs.Common.{append-nil, append_assoc, length-append, length-drop, take-append-drop}
use Rattle.std.proofs.lemmas.Bool.{ne_eqb}
use Rattle.std.proofs.Math.Seq.{take-append_seam}
use Rattle.ba_http_head.specs.declared.headings.Heading.TheVariants.{Trailer}
use Rattle.ba_http_head.specs.declared.scans.Shown.{Shown}
use Rattle.ba_http_head.specs.declared.scans.Shown.TheVariants.{Whole, Bad, Large}
use Rattle.ba_http_head.specs.HeadLines.{IsOpen, Settles}
use Rattle.ba_http_head.specs.Looks.{Shows}
use Rattle.ba_http_head.proofs.Once.{first_of, shows_once}
use Rattle.ba_http_body.specs.declared.size_lines.Place.TheVariants.{First}
use Rattle.ba_http_body.specs.SizeLines.{SizeLine, print_size_line}
use Rattle.ba_http_chunks.specs.Transfers.{size_of, Chunk, print_chunks, carried_bytes, AreChunks, IsLastLine, BeginsChunk, Position}
use Rattle.ba_http_chunks.specs.Transfers.{in_line}
use Rattle.ba_http_chunks.specs.Transfers.{in_bytes, in_end, in_trailer, bytes_at, GoesOn, IsUnended, IsWrongByte, Sight, whole, broken}
use Rattle.ba_http_chunks.specs.Transfers.{large, ShowsBody}
use Rattle.ba_http_chunks.proofs.Passes.{in_size, in_data, before_feed, Led, on, to_limit, to_wrong, to_trailer, pass, line_begun}
use Rattle.ba_http_chunks.proofs.Passes.{line_passed, line_too_long, line_wrong, data_passed, data_begun, data_too_long, none_left}
use Rattle.ba_http_chunks.proofs.Passes.{chunks_passed, wrong_return, return_passed, wrong_feed, none_more}

-- what is seen where the trailer shows this
abbrev sight_of : List ℕ → ℕ → Shown → Sight
sight_of body before Whole = whole body
sight_of body before (Bad at) = broken (before + at)
sight_of body before Large = large

-- where a transfer leads that shows something, with these bytes after it
data Shape (t : List ℕ) (sight : Sight) (extra : List ℕ) : Type 0 where
  limit : pass [] (in_size First []) (t ++ extra) ≡ to_limit extra → sight ≡ large → Shape t sight extra
  wrong : pass [] (in_size First []) (t ++ extra) ≡ to_wrong extra → sight ≡ broken (length t - 1) → Shape t sight extra
  trailing : (body trailer : List ℕ) → (shown : Shown) → pass [] (in_size First []) (t ++ extra) ≡ to_trailer body (trailer ++ extra)
      → Shows Trailer trailer shown → length trailer ≤ length t → sight ≡ sight_of body (length t - length trailer) shown
      → Shape t sight extra

-- after whole chunks
after_chunks : (chunks : List Chunk) (t rest extra : List ℕ) → AreChunks chunks → t ≡ print_chunks chunks ++ rest
    → pass [] (in_size First []) (t ++ extra) ≡ pass (carried_bytes chunks) (in_size First []) (rest ++ extra)
after_chunks chunks t rest extra are is =
    ap (λ v. pass [] (in_size First []) (v ++ extra)) is
    ∙ ap (pass [] (in_size First [])) (append_assoc (print_chunks chunks) rest extra)
    ∙ chunks_passed [] chunks (rest ++ extra) are.each (omega (arith, are.small))

-- in a chunk
in_chunk : (chunks : List Chunk) (line : SizeLine) (some rest : List ℕ) (left : ℕ) → BeginsChunk chunks line
    → length some + left ≡ size_of line
    → pass (carried_bytes chunks) (in_size First []) ((print_size_line line ++ some) ++ rest)
    ≡ pass (carried_bytes chunks ++ some) (in_data left) rest
in_chunk chunks line some rest left begun sum =
    ap (pass (carried_bytes chunks) (in_size First [])) (append_assoc (print_size_line line) some rest)
    ∙ line_passed (carried_bytes chunks) line (some ++ rest) begun.line
    ∙ data_begun (carried_bytes chunks) (size_of line) (some ++ rest) begun.some begun.small
    ∙ ap (λ n. pass (carried_bytes chunks) (in_data n) (some ++ rest)) (sym sum)
    ∙ data_passed (carried_bytes chunks) some left rest

-- in the trailer
to_the_trailer : (chunks : List Chunk) (last : SizeLine) (t trailer extra : List ℕ) → AreChunks chunks → IsLastLine last
    → t ≡ print_chunks chunks ++ (print_size_line last ++ trailer)
    → pass [] (in_size First []) (t ++ extra) ≡ to_trailer (carried_bytes chunks) (trailer ++ extra)
to_the_trailer chunks last t trailer extra are is cut =
    after_chunks chunks t (print_size_line last ++ trailer) extra are cut
    ∙ ap (pass (carried_bytes chunks) (in_size First [])) (append_assoc (print_size_line last) trailer extra)
    ∙ line_passed (carried_bytes chunks) last (trailer ++ extra) is.line
    ∙ none_left (carried_bytes chunks) (size_of last) (trailer ++ extra) is.none

wrong_led : (chunks : List Chunk) (at : Position) (byte : ℕ) (extra : List ℕ) → AreChunks chunks → GoesOn chunks at → IsWrongByte at byte
    → pass (carried_bytes chunks) (in_size First []) ((bytes_at at ++ byte ∷ []) ++ extra) ≡ to_wrong extra
wrong_led chunks (in_line line) byte extra are yet bad = line_wrong (carried_bytes chunks) line byte extra yet.0 bad.1 bad.0
wrong_led chunks (in_bytes line some) byte extra are yet bad =
    ap (pass (carried_bytes chunks) (in_size First [])) (append_assoc (print_size_line line ++ some) (byte ∷ []) extra)
    ∙ in_chunk chunks line some (byte ∷ extra) 0 yet.0 (omega (arith, bad.0))
    ∙ wrong_return (carried_bytes chunks ++ some) byte extra (ne_eqb byte 13 bad.1)
wrong_led chunks (in_end line all) byte extra are yet bad =
    ap (pass (carried_bytes chunks) (in_size First []))
    (append_assoc (print_size_line line ++ (all ++ 13 ∷ [])) (byte ∷ []) extra
    ∙ ap (λ v. v ++ byte ∷ extra) (sym (append_assoc (print_size_line line) all (13 ∷ [])))
    ∙ append_assoc (print_size_line line ++ all) (13 ∷ []) (byte ∷ extra))
    ∙ in_chunk chunks line all (13 ∷ byte ∷ extra) 0 yet.0 (omega (arith, yet.1))
    ∙ return_passed (carried_bytes chunks ++ all) (byte ∷ extra)
    ∙ wrong_feed (carried_bytes chunks ++ all) byte extra (ne_eqb byte 10 bad)
wrong_led chunks (in_trailer last trailer) byte extra are yet bad = absurd bad

both_sizes : (before trailer t : List ℕ) → t ≡ before ++ trailer → length t ≡ length before + length trailer
both_sizes before trailer t is = ap length is ∙ length-append before trailer

shaped : (t : List ℕ) (sight : Sight) (extra : List ℕ) → ShowsBody t sight → Shape t sight extra
shaped t (whole body) extra s =
    let split : t ≡ (print_chunks s.0 ++ print_size_line s.1) ++ s.2 =
    s.6 ∙ sym (append_assoc (print_chunks s.0) (print_size_line s.1) s.2) in
    trailing (carried_bytes s.0) s.2 Whole (to_the_trailer s.0 s.1 t s.2 extra s.3 s.4 s.6) s.5
    (omega (arith, both_sizes (print_chunks s.0 ++ print_size_line s.1) s.2 t split)) (ap whole s.7)
shaped t (broken place) extra s =
    elim s [
      | inl b ↦
          let at : place ≡ length t - 1 =
          omega (
            arith,
            b.7,
            ap length (b.6 ∙ sym (append_assoc (print_chunks b.0) (bytes_at b.1) (b.2 ∷ []))),
            length-append (print_chunks b.0 ++ bytes_at b.1) (b.2 ∷ []),
          ) in
          wrong (after_chunks b.0 t (bytes_at b.1 ++ b.2 ∷ []) extra b.3 b.6 ∙ wrong_led b.0 b.1 b.2 extra b.3 b.4 b.5) (ap broken at)
      | inr r ↦
          let split : t ≡ (print_chunks r.0 ++ print_size_line r.1) ++ r.2 =
          r.7 ∙ sym (append_assoc (print_chunks r.0) (print_size_line r.1) r.2) in
          let size = both_sizes (print_chunks r.0 ++ print_size_line r.1) r.2 t split in
          let at : place ≡ length t - length r.2 + r.3 = omega (arith, r.8, size) in
          trailing (carried_bytes r.0) r.2 (Bad r.3) (to_the_trailer r.0 r.1 t r.2 extra r.4 r.5 r.7) r.6
          (omega (arith, size)) (ap broken at)
    ]
shaped t large extra s =
    elim s [
      | inl l ↦
          limit (after_chunks l.0 t (l.1 ++ l.2 ∷ []) extra l.3 l.6 ∙ line_too_long (carried_bytes l.0) l.1 l.2 extra l.4.0 l.5) refl
      | inr more ↦
          elim more [
            | inl b ↦
                limit (after_chunks b.0 t (print_size_line b.1) extra b.2 b.5 ∙ line_passed (carried_bytes b.0) b.1 extra b.3
                ∙ data_too_long (carried_bytes b.0) (size_of b.1) extra b.2.small b.4) refl
            | inr r ↦
                let split : t ≡ (print_chunks r.0 ++ print_size_line r.1) ++ r.2 =
                r.6 ∙ sym (append_assoc (print_chunks r.0) (print_size_line r.1) r.2) in
                trailing (carried_bytes r.0) r.2 Large (to_the_trailer r.0 r.1 t r.2 extra r.3 r.4 r.6) r.5
                (omega (arith, both_sizes (print_chunks r.0 ++ print_size_line r.1) r.2 t split)) refl
          ]
    ]

-- the same bytes are left after both
same_place : (bytes : List ℕ) (m n : ℕ) → m ≤ length bytes → n ≤ length bytes → length (drop m bytes) ≡ length (drop n bytes) → m ≡ n
same_place bytes m n first second same = omega (arith, first, second, same, length-drop m bytes, length-drop n bytes)

limit_rest : (a b : List ℕ) → to_limit a ≡ to_limit b → a ≡ b
limit_rest a b same = cc

wrong_rest : (a b : List ℕ) → to_wrong a ≡ to_wrong b → a ≡ b
wrong_rest a b same = cc

trailer_rest : (x y a b : List ℕ) → to_trailer x a ≡ to_trailer y b → (x ≡ y) × (a ≡ b)
trailer_rest x y a b same = (cc, cc)

-- two trailers at the beginning of the same bytes
one_trailer : (a b x y : List ℕ) (s t : Shown) → a ++ x ≡ b ++ y → Shows Trailer a s → Shows Trailer b t → (length a ≡ length b) × (s ≡ t)
one_trailer a b x y s t same one other =
    let first : take (length a) (a ++ x) ≡ a = take-append_seam a x in
    let second : take (length b) (a ++ x) ≡ b = ap (take (length b)) same ∙ take-append_seam b y in
    shows_once Trailer (a ++ x) (length a) (length b) s t (omega (arith, length-append a x))
    (omega (arith, ap length same, length-append b y)) (subst (λ v. Shows Trailer v s) (sym first) one)
    (subst (λ v. Shows Trailer v t) (sym second) other)

module _ (bytes : List ℕ) (m n : ℕ) (first : m ≤ length bytes) (second : n ≤ length bytes) where
  led : (k : ℕ) (to : Led) → pass [] (in_size First []) (take k bytes ++ drop k bytes) ≡ to → pass [] (in_size First []) bytes ≡ to
  led k to is = ap (pass [] (in_size First [])) (sym (take-append-drop k bytes)) ∙ is

  once : (a b : Sight) → Shape (take m bytes) a (drop m bytes) → Shape (take n bytes) b (drop n bytes) → (m ≡ n) × (a ≡ b)
  once a b (limit x p) (limit y q) =
      let same = limit_rest (drop m bytes) (drop n bytes) (sym (led m (to_limit (drop m bytes)) x) ∙ led n (to_limit (drop n bytes)) y) in
      (same_place bytes m n first second (ap length same), p ∙ sym q)
  once a b (limit x p) (wrong y q) =
      absurd (let no : to_limit (drop m bytes) ≡ to_wrong (drop n bytes) =
      sym (led m (to_limit (drop m bytes)) x) ∙ led n (to_wrong (drop n bytes)) y in cc)
  once a b (limit x p) (trailing body trailer shown y s small q) =
      absurd (let no : to_limit (drop m bytes) ≡ to_trailer body (trailer ++ drop n bytes) =
      sym (led m (to_limit (drop m bytes)) x) ∙ led n (to_trailer body (trailer ++ drop n bytes)) y in cc)
  once a b (wrong x p) (limit y q) =
      absurd (let no : to_wrong (drop m bytes) ≡ to_limit (drop n bytes) =
      sym (led m (to_wrong (drop m bytes)) x) ∙ led n (to_limit (drop n bytes)) y in cc)
  once a b (wrong x p) (wrong y q) =
      let same = wrong_rest (drop m bytes) (drop n bytes) (sym (led m (to_wrong (drop m bytes)) x) ∙ led n (to_wrong (drop n bytes)) y) in
      let at = same_place bytes m n first second (ap length same) in
      (at, p ∙ ap (λ k. broken (length (take k bytes) - 1)) at ∙ sym q)
  once a b (wrong x p) (trailing body trailer shown y s small q) =
      absurd (let no : to_wrong (drop m bytes) ≡ to_trailer body (trailer ++ drop n bytes) =
      sym (led m (to_wrong (drop m bytes)) x) ∙ led n (to_trailer body (trailer ++ drop n bytes)) y in cc)
  once a b (trailing body trailer shown x s small p) (limit y q) =
      absurd (let no : to_trailer body (trailer ++ drop m bytes) ≡ to_limit (drop n bytes) =
      sym (led m (to_trailer body (trailer ++ drop m bytes)) x) ∙ led n (to_limit (drop n bytes)) y in cc)
  once a b (trailing body trailer shown x s small p) (wrong y q) =
      absurd (let no : to_trailer body (trailer ++ drop m bytes) ≡ to_wrong (drop n bytes) =
      sym (led m (to_trailer body (trailer ++ drop m bytes)) x) ∙ led n (to_wrong (drop n bytes)) y in cc)
  once a b (trailing body trailer shown x s small p) (trailing carried ending seen y t less q) =
      let same = trailer_rest body carried (trailer ++ drop m bytes) (ending ++ drop n bytes)
      (sym (led m (to_trailer body (trailer ++ drop m bytes)) x) ∙ led n (to_trailer carried (ending ++ drop n bytes)) y) in
      let one = one_trailer trailer ending (drop m bytes) (drop n bytes) shown seen same.1 s t in
      let rest : length (drop m bytes) ≡ length (drop n bytes) =
      omega (arith, ap length same.1, one.0, length-append trailer (drop m bytes), length-append ending (drop n bytes)) in
      let at = same_place bytes m n first second rest in (
        at,
        p ∙ ap (λ v. sight_of v (length (take m bytes) - length trailer) shown) same.0
            ∙ ap (λ k. sight_of carried (length (take k bytes) - length trailer) shown) at
            ∙ ap (λ k. sight_of carried (length (take n bytes) - k) shown) one.0
            ∙ ap (sight_of carried (length (take n bytes) - length ending)) one.1
            ∙ sym q,
      )

pub sights_once : (bytes : List ℕ) (m n : ℕ) (a b : Sight) → m ≤ length bytes → n ≤ length bytes
    → ShowsBody (take m bytes) a → ShowsBody (take n bytes) b → (m ≡ n) × (a ≡ b)
sights_once bytes m n a b first second x y =
    once bytes m n first second a b (shaped (take m bytes) a (drop m bytes) x) (shaped (take n bytes) b (drop n bytes) y)

-- where a transfer leads that goes on
data Going (bytes : List ℕ) : Type 0 where
  goes : pass [] (in_size First []) bytes ≡ on → Going bytes
  trails : (body trailer : List ℕ) → pass [] (in_size First []) bytes ≡ to_trailer body trailer → IsOpen Trailer trailer → Going bytes

bare : (chunks : List Chunk) (bytes rest : List ℕ) → AreChunks chunks → bytes ≡ print_chunks chunks ++ rest
    → pass [] (in_size First []) bytes ≡ pass (carried_bytes chunks) (in_size First []) rest
bare chunks bytes rest are is =
    ap (pass [] (in_size First [])) (sym (append-nil bytes)) ∙ after_chunks chunks bytes rest [] are is
    ∙ ap (pass (carried_bytes chunks) (in_size First [])) (append-nil rest)

-- of a chunk some bytes are left, or none
in_chunk_bare : (chunks : List Chunk) (line : SizeLine) (some rest : List ℕ) (left : ℕ) → BeginsChunk chunks line
    → length some + left ≡ size_of line
    → pass (carried_bytes chunks) (in_size First []) (print_size_line line ++ (some ++ rest))
    ≡ pass (carried_bytes chunks ++ some) (in_data left) rest
in_chunk_bare chunks line some rest left begun sum =
    ap (pass (carried_bytes chunks) (in_size First [])) (sym (append_assoc (print_size_line line) some rest))
    ∙ in_chunk chunks line some rest left begun sum

going : (bytes : List ℕ) (chunks : List Chunk) (at : Position) → AreChunks chunks → GoesOn chunks at
    → bytes ≡ print_chunks chunks ++ bytes_at at → Going bytes
going bytes chunks (in_line line) are yet is =
    let run = line_begun (carried_bytes chunks) line [] yet.0 yet.1 in
    goes (bare chunks bytes line are is ∙ ap (pass (carried_bytes chunks) (in_size First [])) (sym (append-nil line)) ∙ run.2
    ∙ none_more (carried_bytes chunks) (in_size run.0 line))
going bytes chunks (in_bytes line some) are yet is =
    let sum : length some + (size_of line - length some) ≡ size_of line = omega (arith, yet.1) in
    goes (bare chunks bytes (print_size_line line ++ some) are is
    ∙ ap (λ v. pass (carried_bytes chunks) (in_size First []) (print_size_line line ++ v)) (sym (append-nil some))
    ∙ in_chunk_bare chunks line some [] (size_of line - length some) yet.0 sum
    ∙ none_more (carried_bytes chunks ++ some) (in_data (size_of line - length some)))
going bytes chunks (in_end line all) are yet is =
    goes (bare chunks bytes (print_size_line line ++ (all ++ 13 ∷ [])) are is
    ∙ in_chunk_bare chunks line all (13 ∷ []) 0 yet.0 (omega (arith, yet.1))
    ∙ return_passed (carried_bytes chunks ++ all) [] ∙ none_more (carried_bytes chunks ++ all) before_feed)
going bytes chunks (in_trailer last trailer) are yet is =
    trails (carried_bytes chunks) trailer
    (ap (pass [] (in_size First [])) (sym (append-nil bytes)) ∙ to_the_trailer chunks last bytes trailer [] are yet.0 is
    ∙ ap (to_trailer (carried_bytes chunks)) (append-nil trailer)) yet.1

settled_so : (bytes : List ℕ) (n : ℕ) (a : Sight) → n ≤ length bytes → Shape (take n bytes) a (drop n bytes) → Going bytes → ⊥
settled_so bytes n a within (limit x p) (goes yet) =
    let no : to_limit (drop n bytes) ≡ on = sym (led bytes n n within within n (to_limit (drop n bytes)) x) ∙ yet in cc
settled_so bytes n a within (limit x p) (trails body trailer yet is) =
    let no : to_limit (drop n bytes) ≡ to_trailer body trailer = sym (led bytes n n within within n (to_limit (drop n bytes)) x) ∙ yet in cc
settled_so bytes n a within (wrong x p) (goes yet) =
    let no : to_wrong (drop n bytes) ≡ on = sym (led bytes n n within within n (to_wrong (drop n bytes)) x) ∙ yet in cc
settled_so bytes n a within (wrong x p) (trails body trailer yet is) =
    let no : to_wrong (drop n bytes) ≡ to_trailer body trailer = sym (led bytes n n within within n (to_wrong (drop n bytes)) x) ∙ yet in cc
settled_so bytes n a within (trailing body trailer shown x s small p) (goes yet) =
    let no : to_trailer body (trailer ++ drop n bytes) ≡ on =
    sym (led bytes n n within within n (to_trailer body (trailer ++ drop n bytes)) x) ∙ yet in cc
settled_so bytes n a within (trailing body trailer shown x s small p) (trails carried ending yet is) =
    let same = trailer_rest body carried (trailer ++ drop n bytes) ending
    (sym (led bytes n n within within n (to_trailer body (trailer ++ drop n bytes)) x) ∙ yet) in
    let here : take (length trailer) ending ≡ trailer = ap (take (length trailer)) (sym same.1) ∙ take-append_seam trailer (drop n bytes) in
    is (length trailer) (omega (arith, ap length same.1, length-append trailer (drop n bytes)))
    (subst (Settles Trailer) (sym here) (first_of Trailer trailer shown s).0)

pub sight_settles : (bytes : List ℕ) (n : ℕ) (a : Sight) → n ≤ length bytes → ShowsBody (take n bytes) a → ¬ (IsUnended bytes)
sight_settles bytes n a within x yet =
    settled_so bytes n a within (shaped (take n bytes) a (drop n bytes) x) (going bytes yet.0 yet.1 yet.2 yet.3 yet.4)

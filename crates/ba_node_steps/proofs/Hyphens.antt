-- An identifier's text tells it, and addresses tell objects apart, whatever the bases of their nodes; for the laws
-- addresses_tell_objects_apart and texts_tell_identifiers.
use Rattle.std.proofs.Common.{◌≡◌, ◌≢◌, ℕ, zero, suc, ◌+◌, ◌/◌, ◌%◌, ◌^◌, ◌<◌, arith, All, Option, Some, unwrap_or}
use Rattle.std.proofs.Common.{List, [], ◌∷◌, ◌++◌, length, drop, get_or, codes, refl, sym, ap, ◌∙◌, inl}
use Rattle.std.proofs.lemmas.List.{length-append, append_cancel_right}
use Rattle.std.proofs.Math.Seq.{drop-append_seam}
use Rattle.std.specs.Int.{byte_at, bytes_high_first, from_be_bytes, to_be_bytes, w128}
use Rattle.ba_core.specs.declared.identifiers.Id.{Id}
use Rattle.ba_message.specs.declared.endpoints.Epr.{Epr}
use Rattle.ba_node_steps.specs.Addresses.{hyphenated, participant_of, coordinator_of, registration_of}
use Rattle.uuid.proofs.OrderLemmas.{from_be_bytes-to_be_bytes_16}
use Rattle.uuid.proofs.RoundTrips.{parses_hyphenated}
use Rattle.uuid.proofs.TextLemmas.{all_fit, by_index_length}
use Rattle.uuid.specs.Text.{lower, parsed}

-- ends of equal length are equal where the whole is
pub same_end : (xs ys us vs : List ℕ) → xs ++ ys ≡ us ++ vs → length ys ≡ length vs → ys ≡ vs
same_end xs ys us vs h same =
    let total : length xs + length ys ≡ length us + length vs = sym (length-append xs ys) ∙ ap length h ∙ length-append us vs in
    let begins : length xs ≡ length us = omega arith in
    sym (drop-append_seam xs ys) ∙ (λ i. drop (begins i) (h i)) ∙ drop-append_seam us vs

pub hyphenated_length : (n : ℕ) → length (hyphenated n) ≡ 36
unfolding hyphenated
hyphenated_length n = by_index_length 36 _

-- ---- the text is read back

byte_fits : (i n : ℕ) → byte_at i n < 256
byte_fits zero n = omega arith
byte_fits (suc i) n = omega arith

bytes_fit : (count n k : ℕ) → k < length (bytes_high_first count n) → get_or (bytes_high_first count n) k 0 < 256
bytes_fit zero n k within = absurd (omega arith)
bytes_fit (suc count) n zero within = byte_fits count n
bytes_fit (suc count) n (suc k) within = bytes_fit count n k (omega arith)

pub text_parses : (n : ℕ) → parsed (hyphenated n) ≡ Some (to_be_bytes w128 n)
unfolding hyphenated
text_parses n = sym (parses_hyphenated lower (to_be_bytes w128 n) (inl refl) refl (all_fit (to_be_bytes w128 n) (bytes_fit 16 n)))

-- identifiers with one text are one
pub hyphenated_same : (a b : ℕ) → a < 2 ^ 128 → b < 2 ^ 128 → hyphenated a ≡ hyphenated b → a ≡ b
hyphenated_same a b a_small b_small h =
    let bytes : Some (to_be_bytes w128 a) ≡ Some (to_be_bytes w128 b) = sym (text_parses a) ∙ ap parsed h ∙ text_parses b in
    sym (from_be_bytes-to_be_bytes_16 a a_small)
    ∙ ap (λ (o : Option (List ℕ)). from_be_bytes w128 (unwrap_or o [])) bytes
    ∙ from_be_bytes-to_be_bytes_16 b b_small

-- ---- addresses, after whatever base

tails_in : (word other : List ℕ) (base rest : List ℕ) (a b : ℕ) → length word ≡ length other
    → base ++ (word ++ hyphenated a) ≡ rest ++ (other ++ hyphenated b) → (word ≡ other) × (hyphenated a ≡ hyphenated b)
tails_in word other base rest a b lengths h =
    let same_length : length (word ++ hyphenated a) ≡ length (other ++ hyphenated b) =
    length-append word (hyphenated a) ∙ (λ i. lengths i + (hyphenated_length a ∙ sym (hyphenated_length b)) i)
    ∙ sym (length-append other (hyphenated b)) in
    let tail : word ++ hyphenated a ≡ other ++ hyphenated b = same_end base (word ++ hyphenated a) rest
    (other ++ hyphenated b) h same_length in
    let digits : hyphenated a ≡ hyphenated b = same_end word (hyphenated a) other (hyphenated b) tail
    (hyphenated_length a ∙ sym (hyphenated_length b)) in
    (append_cancel_right word other (hyphenated a) (tail ∙ ap (λ t. other ++ t) (sym digits)), digits)

ends_in : (word : List ℕ) (base rest : List ℕ) (a b : ℕ) → a < 2 ^ 128 → b < 2 ^ 128
    → base ++ (word ++ hyphenated a) ≡ rest ++ (word ++ hyphenated b) → a ≡ b
ends_in word base rest a b a_small b_small h = hyphenated_same a b a_small b_small (tails_in word word base rest a b refl h).1

pub participants_apart : (a b : Id) (base other : List ℕ) → a.0 < 2 ^ 128 → b.0 < 2 ^ 128
    → participant_of base a ≡ participant_of other b → a.0 ≡ b.0
participants_apart a b base other a_small b_small h = ends_in (codes "/participant/") base other a.0 b.0 a_small b_small
    (ap (λ (e : Epr). e.address) h)

pub coordinators_apart : (a b : Id) (base other : List ℕ) → a.0 < 2 ^ 128 → b.0 < 2 ^ 128
    → coordinator_of base a ≡ coordinator_of other b → a.0 ≡ b.0
coordinators_apart a b base other a_small b_small h = ends_in (codes "/coordinator/") base other a.0 b.0 a_small b_small
    (ap (λ (e : Epr). e.address) h)

pub registrations_apart : (a b : Id) (base other : List ℕ) → a.0 < 2 ^ 128 → b.0 < 2 ^ 128
    → registration_of base a ≡ registration_of other b → a.0 ≡ b.0
registrations_apart a b base other a_small b_small h = ends_in (codes "/registration/") base other a.0 b.0 a_small b_small
    (ap (λ (e : Epr). e.address) h)

pub sides_apart : (a b : Id) (base other : List ℕ) → coordinator_of base a ≢ participant_of other b
sides_apart a b base other h =
    let words = (tails_in (codes "/coordinator/") (codes "/participant/") base other a.0 b.0 refl (ap (λ (e : Epr). e.address) h)).0 in
    let first : get_or (codes "/coordinator/") 1 0 ≡ get_or (codes "/participant/") 1 0 = ap (λ xs. get_or xs 1 0) words in
    absurd (omega arith)

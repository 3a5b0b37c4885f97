-- The front of a frame, by its first bytes.
use Rattle.std.proofs.Common.{◌≡◌, inl, inr, ℕ, ◌+◌, ◌<◌, ◌≤◌, min, Bool, true, false, nat_lt, nat_eq, if◌then◌else◌, List, [], ◌∷◌, ◌++◌}
use Rattle.std.proofs.Common.{length, take, drop, get_or, None, Some, refl, sym, ap, ◌∙◌, arith, length-take, length-append, append_assoc}
use Rattle.std.specs.Int.{w32, from_le_bytes}
use Rattle.std.proofs.lemmas.Bool.{cases_lt, ltb-true}
use Rattle.std.proofs.lemmas.Bool.Decides.{nat_tests}
use Rattle.std.proofs.lemmas.List.{take_at, drop_at, take_all, take-take, take-append-le, take-append-drop}
use Rattle.ba_record.specs.Reading.{IsBytes}
use Rattle.ba_record.proofs.Exact.{bytes_after, front_bytes}
use Rattle.ba_journal.specs.inside.Blocks.{deciding, frame_front, Begins, Counts}
use Rattle.ba_journal.specs.Frames.{payload_of, frame_of}
use Rattle.ba_journal.proofs.Leading.{some_is, framed, framed_by}

-- a payload that lies in the bytes
less_is : (size : ℕ) (bytes : List ℕ) → size < length bytes → nat_lt size (length bytes) ≡ true
less_is size bytes less = grind (arith, nat_tests)

payload_there : (size : ℕ) (bytes : List ℕ) → size < length bytes → payload_of size bytes ≡ Some (take size bytes, drop size bytes)
payload_there size bytes less =
    framed_by (nat_lt size (length bytes)) size bytes ∙ ap (λ (b : Bool). framed b size bytes) (less_is size bytes less)

-- all bytes are the first ones and others behind them
pub goes_on_behind : (bytes all : List ℕ) (long : ℕ) → Begins bytes long all → all ≡ bytes ++ drop (length bytes) all
goes_on_behind bytes all long begins = sym (take-append-drop (length bytes) all)
    ∙ ap (λ (b : List ℕ). b ++ drop (length bytes) all) (sym begins.front)

-- the bytes that decide of a payload in front
shown_is : (size n : ℕ) (rest more : List ℕ) → n ≡ min size deciding → n ≤ length rest → size < length (rest ++ more)
    → take n rest ≡ take deciding (take size (rest ++ more))
shown_is size n rest more is within less =
    let short : size ≤ deciding → take n rest ≡ take deciding (take size (rest ++ more)) = λ few.
    let same : n ≡ size = omega (arith, is, few) in
    let all : length (take size (rest ++ more)) ≤ deciding = omega (arith, length-take size (rest ++ more), few) in
    sym (take-append-le n rest more within) ∙ ap (λ (k : ℕ). take k (rest ++ more)) same
    ∙ sym (take_all deciding (take size (rest ++ more)) all) in
    let long : deciding < size → take n rest ≡ take deciding (take size (rest ++ more)) = λ many.
    let same : n ≡ deciding = omega (arith, is, many) in
    sym (take-append-le n rest more within) ∙ ap (λ (k : ℕ). take k (rest ++ more)) same
    ∙ sym (take-take deciding size (rest ++ more) (omega (arith, many))) in
    elim (cases_lt deciding size) [ inl many ↦ long many | inr few ↦ short few ]

pub counts : (bytes behind digits rest all : List ℕ) (gate left size n : ℕ) → bytes ≡ gate ∷ behind → gate ≡ 1 → behind ≡ digits ++ rest
    → length digits ≡ 4 → size ≡ from_le_bytes w32 digits
    → size + 5 < left → min frame_front left ≤ length bytes → n ≡ min size deciding → Begins bytes left all → Counts all (take n rest)
counts bytes behind digits rest all gate left size n parts open_gate split four told inside enough shown begins =
    let more = drop (length bytes) all in
    let spelled : bytes ≡ 1 ∷ (digits ++ rest) = parts ∙ ap (λ (g : ℕ). g ∷ behind) open_gate ∙ ap (λ (b : List ℕ). 1 ∷ b) split in
    let whole : all ≡ 1 ∷ (digits ++ (rest ++ more)) = goes_on_behind bytes all left begins ∙ ap (λ (b : List ℕ). b ++ more) spelled
    ∙ ap (λ (b : List ℕ). 1 ∷ b) (append_assoc digits rest more) in
    let long : length all ≡ 5 + length (rest ++ more) = omega (arith, ap length whole, length-append digits (rest ++ more), four) in
    let less : size < length (rest ++ more) = omega (arith, long, inside, begins.length_is) in
    let here : length bytes ≡ 5 + length rest = omega (arith, ap length spelled, length-append digits rest, four) in
    let within : n ≤ length rest = omega (arith, here, enough, shown, inside) in (
      take size (rest ++ more),
      drop size (rest ++ more),
      ap frame_of whole ∙ ap (λ (d : List ℕ). payload_of (from_le_bytes w32 d) (drop 4 (digits ++ (rest ++ more))))
          (take_at digits (rest ++ more) 4 four)
          ∙ ap (λ (b : List ℕ). payload_of (from_le_bytes w32 digits) b) (drop_at digits (rest ++ more) 4 four)
          ∙ ap (λ (k : ℕ). payload_of k (rest ++ more)) (sym told) ∙ payload_there size (rest ++ more) less,
      shown_is size n rest more shown within less,
    )

pub shown_are : (bytes behind digits rest : List ℕ) (gate n : ℕ) → ((i : ℕ) → get_or bytes i 0 < 256) → bytes ≡ gate ∷ behind
    → behind ≡ digits ++ rest → IsBytes (take n rest)
shown_are bytes behind digits rest gate n are parts split =
    front_bytes n rest (bytes_after digits rest behind (bytes_after (gate ∷ []) behind bytes are parts) split)

-- where the next gate stands
by_size : (bytes payload next : List ℕ) (fits : Bool) → nat_lt (from_le_bytes w32 (take 4 bytes)) (length (drop 4 bytes)) ≡ fits
    → framed fits (from_le_bytes w32 (take 4 bytes)) (drop 4 bytes) ≡ Some (payload, next) → next ≡ drop (length payload) (drop 4 bytes)
by_size bytes payload next true fits h =
    let size = from_le_bytes w32 (take 4 bytes) in
    let rest = drop 4 bytes in
    let both = some_is h in
    let first : take size rest ≡ payload = ap (λ (p : List ℕ × List ℕ). p.0) both in
    let second : drop size rest ≡ next = ap (λ (p : List ℕ × List ℕ). p.1) both in
    let less : size < length rest = ltb-true size (length rest) fits in
    let long : size ≡ length payload = omega (arith, length-take size rest, ap length first, less) in
    sym second ∙ ap (λ (k : ℕ). drop k rest) long
by_size bytes payload next false fits h = absurd cc

by_gate : (gate : ℕ) (bytes payload next : List ℕ) (open_gate : Bool) → nat_eq gate 1 ≡ open_gate
    → (if open_gate then payload_of (from_le_bytes w32 (take 4 bytes)) (drop 4 bytes) else None) ≡ Some (payload, next)
    → next ≡ drop (length payload) (drop 4 bytes)
by_gate gate bytes payload next true is h =
    let size = from_le_bytes w32 (take 4 bytes) in
    let fits = nat_lt size (length (drop 4 bytes)) in
    by_size bytes payload next fits refl (sym (framed_by fits size (drop 4 bytes)) ∙ h)
by_gate gate bytes payload next false is h = absurd cc

pub next_stands : (bytes payload next : List ℕ) → frame_of bytes ≡ Some (payload, next) → next ≡ drop (length payload) (drop 5 bytes)
next_stands [] payload next h = absurd cc
next_stands (gate ∷ bytes) payload next h = by_gate gate bytes payload next (nat_eq gate 1) refl h

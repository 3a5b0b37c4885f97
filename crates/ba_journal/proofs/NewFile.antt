-- What the changes that make a journal leave of its file, also where they are torn.
use Rattle.std.proofs.Common.{◌≤◌, ◌<◌, ◌≡◌, inl, inr, ⊎_elim, ℕ, Bool, true, not, ◌&&◌, ◌||◌, nat_eq, nat_lt, slice_index, List, [], ◌∷◌}
use Rattle.std.proofs.Common.{◌++◌, length, take, drop, refl, sym, ◌∙◌, ap, subst, arith, length-append}
use Rattle.std.proofs.lemmas.List.{append-nil, length-take, take_all}
use Rattle.std.proofs.lemmas.Bool.{cases_eq, cases_lt, lt-ltb, le-ltb, eqb-true, ne_eqb, and_parts}
use Rattle.ba_ports.specs.Disk.{Torn, CutShort}
use Rattle.ba_journal.specs.Journals.{AtRest}
use Rattle.ba_journal.specs.Frames.{header, is_fresh, StandsFor}

pub one_byte : (range : List ℕ) → length range ≡ 1 → (byte : ℕ) × (range ≡ byte ∷ [])
one_byte [] is = absurd (omega arith)
one_byte (byte ∷ []) is = (byte, refl)
one_byte (byte ∷ b ∷ range) is = absurd (omega arith)

-- a file of up to 16 bytes
short_is_fresh : (file : List ℕ) → length file < 17 → is_fresh file ≡ true
short_is_fresh file short = ap (λ (b : Bool). b || (nat_eq (length file) 17 && not (nat_eq (slice_index file 0) 1)))
    (lt-ltb (length file) 17 short)

fresh_is_short : (file : List ℕ) → is_fresh file ≡ true → 17 ≤ length file → length file ≡ 17
fresh_is_short file fresh long =
    let second : (nat_eq (length file) 17 && not (nat_eq (slice_index file 0) 1)) ≡ true =
    sym (ap (λ (b : Bool). b || (nat_eq (length file) 17 && not (nat_eq (slice_index file 0) 1))) (le-ltb (length file) 17 long)) ∙ fresh in
    eqb-true (length file) 17 (and_parts (nat_eq (length file) 17) (not (nat_eq (slice_index file 0) 1)) second).0

-- a cut of a fresh file
pub cut_is_fresh : (file c : List ℕ) → is_fresh file ≡ true → CutShort 0 file c → is_fresh c ≡ true
cut_is_fresh file c fresh cut = ⊎_elim
    (λ short. short_is_fresh c short)
    (λ long.
    let size : length c ≡ length (take cut.end file) = ap length cut.front in
    let whole : length file ≡ 17 = fresh_is_short file fresh (omega (arith, size, long, length-take cut.end file)) in
    let same : c ≡ file = cut.front ∙ take_all cut.end file (omega (arith, size, long, whole, length-take cut.end file)) in
    subst (λ (f : List ℕ). is_fresh f ≡ true) (sym same) fresh)
    (cases_lt (length c) 17)

-- the first byte, written into an empty file
pub first_is_fresh : (c : List ℕ) → Torn 0 1 [] c → is_fresh c ≡ true
first_is_fresh c torn = short_is_fresh c (omega (arith, torn.no_longer))

zero_is_fresh : (range : List ℕ) → length range ≤ 16 → is_fresh (0 ∷ range) ≡ true
zero_is_fresh range short = ⊎_elim
    (λ less. short_is_fresh (0 ∷ range) (omega (arith, less)))
    (λ more.
    let size : length (0 ∷ range) ≡ 17 = omega (arith, short, more) in
    ap (λ (n : ℕ). nat_lt n 17 || (nat_eq n 17 && not (nat_eq 0 1))) size)
    (cases_lt (length range) 16)

-- the others, written behind a first byte that is 0
pub others_are_fresh : (c : List ℕ) → Torn 1 16 (0 ∷ []) c → is_fresh c ≡ true
others_are_fresh c torn =
    let whole : c ≡ 0 ∷ torn.range = torn.bytes ∙ append-nil (0 ∷ torn.range) in
    subst (λ (f : List ℕ). is_fresh f ≡ true) (sym whole) (zero_is_fresh torn.range (omega (arith, torn.no_longer, ap length whole)))

abbrev pub behind_first : List ℕ
behind_first = drop 1 header ++ 0 ∷ []

pub made_at_rest : AtRest (1 ∷ behind_first) []
made_at_rest = record { made = refl; headed = refl; payloads = []; frames = refl; stops = refl; read = refl }

by_first : (first : ℕ) → StandsFor (first ∷ behind_first) []
by_first first = ⊎_elim
    (λ is. inr (0 ∷ [], subst (λ (n : ℕ). AtRest (n ∷ behind_first) []) (sym is) made_at_rest))
    (λ other. inl (ap not (ne_eqb first 1 other), refl))
    (cases_eq first 1)

-- and the first byte, when all others stand
pub first_set : (c : List ℕ) → Torn 0 1 (0 ∷ behind_first) c → StandsFor c []
first_set c torn =
    let first = one_byte torn.range (omega (
      arith,
      torn.no_shorter,
      torn.no_longer,
      ap length torn.bytes,
      length-append torn.range behind_first,
    )) in
    let whole : c ≡ first.0 ∷ behind_first = torn.bytes ∙ ap (λ (l : List ℕ). l ++ behind_first) first.1 in
    subst (λ (f : List ℕ). StandsFor f []) (sym whole) (by_first first.0)

-- A journal's file from its last gate on, and what the changes that repair it leave, also where they are torn.
use Rattle.std.proofs.Common.{◌≤◌, ◌<◌, ◌≡◌, inr, ⊎_elim, ℕ, zero, suc, ◌+◌, ◌-◌, Bool, true, false, nat_eq, nat_lt, if◌then◌else◌, List}
use Rattle.std.proofs.Common.{[], ◌∷◌, ◌++◌, length, take, drop, None, refl, sym, ◌∙◌, ap, subst, arith, length-append}
use Rattle.std.specs.Int.{w32, from_le_bytes}
use Rattle.std.proofs.Math.Seq.{take-append-add}
use Rattle.std.proofs.lemmas.List.{append-nil, take_at, drop_at, take-append-drop, length-take, length-drop}
use Rattle.std.proofs.lemmas.Bool.{cases_lt, lt-ltb, le-ltb}
use Rattle.ba_ports.specs.Disk.{Torn, CutShort, written_at}
use Rattle.ba_record.specs.declared.records.Record.{Record}
use Rattle.ba_journal.specs.Journals.{AtRest}
use Rattle.ba_journal.specs.Frames.{header, payload_of, frame_of, Leads, Holds, StandsFor}
use Rattle.ba_journal.specs.Readings.{IsTail, Finds}
use Rattle.ba_journal.specs.declared.readings.Tail.{Tail}
use Rattle.ba_journal.specs.declared.readings.Tail.TheVariants as tail
use Rattle.ba_journal.proofs.Leading.{framed, framed_by, frame_length, long_enough}
use Rattle.ba_journal.proofs.NewFile.{one_byte}
use Rattle.ba_journal.proofs.OneMore.{fronts_of, made_with}

-- a frame that doesn't count doesn't count either where the file ends earlier
take-take : (m k : ℕ) (xs : List ℕ) → m ≤ k → take m (take k xs) ≡ take m xs
take-take zero k xs less = refl
take-take (suc m) zero xs less = absurd (omega (arith, less))
take-take (suc m) (suc k) [] less = refl
take-take (suc m) (suc k) (x ∷ xs) less = ap (λ (l : List ℕ). x ∷ l) (take-take m k xs (omega (arith, less)))

too_short : (size : ℕ) (bytes : List ℕ) → length bytes ≤ size → payload_of size bytes ≡ None
too_short size bytes short = framed_by (nat_lt size (length bytes)) size bytes
    ∙ ap (λ (b : Bool). framed b size bytes) (le-ltb size (length bytes) short)

is_too_short : (size : ℕ) (bytes : List ℕ) → payload_of size bytes ≡ None → length bytes ≤ size
is_too_short size bytes none = ⊎_elim
    (λ less.
    let some : framed true size bytes ≡ None = sym (ap (λ (b : Bool). framed b size bytes) (lt-ltb size (length bytes) less))
    ∙ sym (framed_by (nat_lt size (length bytes)) size bytes) ∙ none in
    absurd cc)
    (λ short. short)
    (cases_lt size (length bytes))

payload_cut : (k : ℕ) (bytes : List ℕ) → payload_of (from_le_bytes w32 (take 4 bytes)) (drop 4 bytes) ≡ None
    → payload_of (from_le_bytes w32 (take 4 (take k bytes))) (drop 4 (take k bytes)) ≡ None
payload_cut k bytes none = ⊎_elim
    (λ less. too_short (from_le_bytes w32 (take 4 (take k bytes))) (drop 4 (take k bytes))
    (omega (arith, less, length-drop 4 (take k bytes), length-take k bytes)))
    (λ more.
    let short = is_too_short (from_le_bytes w32 (take 4 bytes)) (drop 4 bytes) none in
    subst (λ (digits : List ℕ). payload_of (from_le_bytes w32 digits) (drop 4 (take k bytes)) ≡ None) (sym (take-take 4 k bytes more))
    (too_short (from_le_bytes w32 (take 4 bytes)) (drop 4 (take k bytes))
    (omega (arith, short, length-drop 4 bytes, length-drop 4 (take k bytes), length-take k bytes))))
    (cases_lt k 4)

by_gate : (open_gate : Bool) (k : ℕ) (bytes : List ℕ)
    → (if open_gate then payload_of (from_le_bytes w32 (take 4 bytes)) (drop 4 bytes) else None) ≡ None
    → (if open_gate then payload_of (from_le_bytes w32 (take 4 (take k bytes))) (drop 4 (take k bytes)) else None) ≡ None
by_gate true k bytes none = payload_cut k bytes none
by_gate false k bytes none = refl

frame_cut : (gate : ℕ) (behind : List ℕ) (k : ℕ) → frame_of (gate ∷ behind) ≡ None → frame_of (gate ∷ take k behind) ≡ None
frame_cut gate behind k none = by_gate (nat_eq gate 1) k behind none

-- a gate alone
pub gate_alone : (gate : ℕ) → frame_of (gate ∷ []) ≡ None
gate_alone gate = by_test (nat_eq gate 1)
  where
    by_test : (b : Bool) → (if b then payload_of (from_le_bytes w32 (take 4 [])) (drop 4 []) else None) ≡ None
    by_test true = refl
    by_test false = refl

-- the bytes before the last gate, with others from there on
pub record Stem (file : List ℕ) (records : List Record) (rest : List ℕ) : Type 0 where
  pub own : List ℕ
  pub is : file ≡ own ++ rest
  pub other : (o : List ℕ) → 0 < length o → frame_of o ≡ None → Holds (own ++ o) records o

pub stem_of : (file : List ℕ) (records : List Record) (rest : List ℕ) → Holds file records rest → Stem file records rest
stem_of file records rest holds =
    let fronts = fronts_of (drop 16 file) holds.payloads rest holds.frames in
    record {
      own = header ++ fronts.own;
      is = sym (take-append-drop 16 file) ∙ ap (λ (h : List ℕ). h ++ drop 16 file) holds.headed
          ∙ ap (λ (b : List ℕ). header ++ b) fronts.is;
      other = λ o some none. record {
        made = made_with fronts.own o some;
        headed = refl;
        payloads = holds.payloads;
        frames = fronts.other o some;
        stops = none;
        read = holds.read;
      };
    }

-- there is a last gate
some_rest : (bytes : List ℕ) (payloads : List (List ℕ)) (rest : List ℕ) → 0 < length bytes → Leads bytes payloads rest → 0 < length rest
some_rest bytes [] rest some leads = omega (arith, ap length leads, some)
some_rest bytes (payload ∷ payloads) rest some leads =
    some_rest leads.0 payloads rest (frame_length bytes payload leads.0 leads.1).1 leads.2

pub has_gate : (file : List ℕ) (records : List Record) (rest : List ℕ) → Holds file records rest → 0 < length rest
has_gate file records rest holds =
    some_rest (drop 16 file) holds.payloads rest (omega (arith, long_enough file holds.made, length-drop 16 file)) holds.frames

module _ (file : List ℕ) (records : List Record) (byte : ℕ) (behind : List ℕ) (gate : ℕ)
    (holds : Holds file records (byte ∷ behind)) (place : gate ≡ length file - length (byte ∷ behind)) where
  abbrev pub stem : Stem file records (byte ∷ behind)
  stem = stem_of file records (byte ∷ behind) holds

  abbrev pub own : List ℕ
  own = stem.own

  size : length own ≡ gate
  size = omega (arith, place, ap length stem.is, length-append own (byte ∷ behind))

  -- the file up to its last gate, and this byte there
  pub stands_with : (other : ℕ) → StandsFor (own ++ other ∷ []) records
  stands_with other = inr (other ∷ [], stem.other (other ∷ []) (omega arith) (gate_alone other))

  pub at_rest_with : AtRest (own ++ 0 ∷ []) records
  at_rest_with = stem.other (0 ∷ []) (omega arith) refl

  pub length-with : (other : ℕ) → length (own ++ other ∷ []) ≡ gate + 1
  length-with other = omega (arith, size, length-append own (other ∷ []))

  front : (end k : ℕ) → end ≡ gate + suc k → take end file ≡ own ++ byte ∷ take k behind
  front end k is =
      let there : end ≡ length own + suc k = omega (arith, is, size) in
      ap (λ (f : List ℕ). take end f) stem.is
      ∙ ap (λ (n : ℕ). take n (own ++ byte ∷ behind)) there
      ∙ take-append-add own (byte ∷ behind) (suc k)

  -- the cut behind the last gate
  pub cut_stands : (c : List ℕ) → CutShort (gate + 1) file c → StandsFor c records
  cut_stands c cut =
      let k = cut.end - (gate + 1) in
      let whole : c ≡ own ++ byte ∷ take k behind = cut.front ∙ front cut.end k (omega (arith, cut.no_shorter)) in
      subst (λ (f : List ℕ). StandsFor f records) (sym whole)
      (inr (byte ∷ take k behind, stem.other (byte ∷ take k behind) (omega arith) (frame_cut byte behind k holds.stops)))

  pub cut_done : take (gate + 1) file ≡ own ++ byte ∷ []
  cut_done = front (gate + 1) 0 (omega arith)

  -- the gate, written when it is the last byte
  ahead : take gate (own ++ byte ∷ []) ≡ own
  ahead = take_at own (byte ∷ []) gate size

  none_behind : drop (gate + 1) (own ++ byte ∷ []) ≡ []
  none_behind =
      ap (λ (f : List ℕ). drop (gate + 1) f) (sym (append-nil (own ++ byte ∷ [])))
      ∙ drop_at (own ++ byte ∷ []) [] (gate + 1) (length-with byte)

  pub gate_stands : (c : List ℕ) → Torn gate 1 (own ++ byte ∷ []) c → StandsFor c records
  gate_stands c torn =
      let cut : c ≡ own ++ torn.range = torn.bytes
      ∙ ap (λ (l : List ℕ). l ++ torn.range ++ drop (gate + 1) (own ++ byte ∷ [])) ahead
      ∙ ap (λ (l : List ℕ). own ++ torn.range ++ l) none_behind ∙ append-nil (own ++ torn.range) in
      let other = one_byte torn.range (omega (
        arith,
        torn.no_shorter,
        torn.no_longer,
        ap length cut,
        length-append own torn.range,
        size,
        length-with byte,
      )) in
      let whole : c ≡ own ++ other.0 ∷ [] = cut ∙ ap (λ (l : List ℕ). own ++ l) other.1 in
      subst (λ (f : List ℕ). StandsFor f records) (sym whole) (stands_with other.0)

  pub gate_written : written_at gate (0 ∷ []) (own ++ byte ∷ []) ≡ own ++ 0 ∷ []
  gate_written =
      ap (λ (l : List ℕ). l ++ (0 ∷ []) ++ drop (gate + 1) (own ++ byte ∷ [])) ahead
      ∙ ap (λ (l : List ℕ). own ++ (0 ∷ []) ++ l) none_behind ∙ append-nil (own ++ 0 ∷ [])

-- what the last gate is
pub record Gated (file : List ℕ) (records : List Record) (gate : ℕ) (end : Tail) : Type 0 where
  pub byte : ℕ
  pub behind : List ℕ
  pub holds : Holds file records (byte ∷ behind)
  pub place : gate ≡ length file - length (byte ∷ behind)
  pub kind : IsTail end (byte ∷ behind)

gated_by : (file : List ℕ) (records : List Record) (gate : ℕ) (end : Tail) (rest : List ℕ)
    → Holds file records rest → gate ≡ length file - length rest → IsTail end rest → Gated file records gate end
gated_by file records gate end [] holds place kind = absurd (omega (arith, has_gate file records [] holds))
gated_by file records gate end (byte ∷ behind) holds place kind =
    record { byte = byte; behind = behind; holds = holds; place = place; kind = kind }

pub gated : (file : List ℕ) (records : List Record) (gate : ℕ) (end : Tail) → Finds file records gate end → Gated file records gate end
gated file records gate end found = gated_by file records gate end found.0 found.1 found.2 found.3

same_head : (x y : ℕ) (xs ys : List ℕ) → x ∷ xs ≡ y ∷ ys → x ≡ y
same_head x y xs ys is = cc

pub closed_is_zero : (byte : ℕ) (behind : List ℕ) → IsTail tail.Closed (byte ∷ behind) → byte ≡ 0
closed_is_zero byte behind is = same_head byte 0 behind is.0 is.1

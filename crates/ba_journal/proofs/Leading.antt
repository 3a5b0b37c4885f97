-- Frames, one after another.
use Rattle.std.proofs.Common.{◌≡◌, ℕ, suc, ◌+◌, ◌<◌, ◌≤◌, Bool, true, false, not, ◌&&◌, ◌||◌, slice_index, nat_eq, nat_lt, if◌then◌else◌}
use Rattle.std.proofs.Common.{List, [], ◌∷◌, ◌++◌, length, take, drop, map, Option, None, Some, Result, Ok, Err, refl, sym, ap, ◌∙◌, subst}
use Rattle.std.proofs.Common.{arith}
use Rattle.std.specs.Int.{w32, from_le_bytes}
use Rattle.std.proofs.lemmas.List.{length-take, length-drop}
use Rattle.std.proofs.lemmas.Bool.{ltb-true, ltb-false}
use Rattle.ba_record.specs.Reading.{Reading, read, bad, short, onward, read_record, whole, told, is_kind, reading}
use Rattle.ba_record.specs.declared.records.Record.{Record}
use Rattle.ba_record.specs.declared.records.RecordFault.{RecordFault}
use Rattle.ba_record.specs.declared.records.RecordFault.TheVariants as fault
use Rattle.ba_journal.specs.Frames.{is_fresh, payload_of, frame_of, Leads, AreRecords, fault_place}

abbrev pub framed : Bool → ℕ → List ℕ → Option (List ℕ × List ℕ)
framed true size bytes = Some (take size bytes, drop size bytes)
framed false size bytes = None

pub framed_by : (fits : Bool) (size : ℕ) (bytes : List ℕ)
    → let none : Option (List ℕ × List ℕ) = None in (if fits then Some (take size bytes, drop size bytes) else none)
    ≡ framed fits size bytes
framed_by true size bytes = refl
framed_by false size bytes = refl

-- how long a frame is
pub some_is : {A : Type 0} {x y : A} → Some x ≡ Some y → x ≡ y
some_is h = cc

payload_length : (size : ℕ) (bytes payload next : List ℕ) → (fits : Bool) → nat_lt size (length bytes) ≡ fits
    → framed fits size bytes ≡ Some (payload, next) → (length payload + length next ≡ length bytes) × (0 < length next)
payload_length size bytes payload next true fits h =
    let both = some_is h in
    let first : take size bytes ≡ payload = ap (λ (p : List ℕ × List ℕ). p.0) both in
    let second : drop size bytes ≡ next = ap (λ (p : List ℕ × List ℕ). p.1) both in
    let less : size < length bytes = ltb-true size (length bytes) fits in (
      omega (arith, length-take size bytes, length-drop size bytes, ap length first, ap length second, less),
      omega (arith, length-drop size bytes, ap length second, less),
    )
payload_length size bytes payload next false fits h = absurd cc

by_gate : (gate : ℕ) (bytes payload next : List ℕ) (open_gate : Bool) → nat_eq gate 1 ≡ open_gate
    → (if open_gate then payload_of (from_le_bytes w32 (take 4 bytes)) (drop 4 bytes) else None) ≡ Some (payload, next)
    → (5 + length payload + length next ≤ suc (length bytes)) × (0 < length next)
by_gate gate bytes payload next true is h =
    let size = from_le_bytes w32 (take 4 bytes) in
    let long = payload_length size (drop 4 bytes) payload next (nat_lt size (length (drop 4 bytes))) refl
    (sym (framed_by (nat_lt size (length (drop 4 bytes))) size (drop 4 bytes)) ∙ h) in
    (omega (arith, long.0, long.1, length-drop 4 bytes), long.1)
by_gate gate bytes payload next false is h = absurd cc

pub frame_length : (bytes payload next : List ℕ) → frame_of bytes ≡ Some (payload, next)
    → (5 + length payload + length next ≤ length bytes) × (0 < length next)
frame_length [] payload next h = absurd cc
frame_length (gate ∷ bytes) payload next h = by_gate gate bytes payload next (nat_eq gate 1) refl h

-- frames, and one more
pub leads_more : (bytes : List ℕ) (payloads : List (List ℕ)) (rest payload next : List ℕ) → Leads bytes payloads rest
    → frame_of rest ≡ Some (payload, next)
    → Leads bytes (payloads ++ payload ∷ []) next
leads_more bytes [] rest payload next leads frame = (next, subst (λ b. frame_of b ≡ Some (payload, next)) leads frame, refl)
leads_more bytes (p ∷ payloads) rest payload next leads frame =
    (leads.0, leads.1, leads_more leads.0 payloads rest payload next leads.2 frame)

map-push : {A B : Type 0} (f : A → B) (xs : List A) (x : A) → map f (xs ++ x ∷ []) ≡ map f xs ++ f x ∷ []
map-push f [] x = refl
map-push f (y ∷ xs) x = ap (λ t. f y ∷ t) (map-push f xs x)

pub records_more : (payloads : List (List ℕ)) (records : List Record) (payload : List ℕ) (r : Record) → AreRecords payloads records
    → reading payload ≡ Ok r
    → AreRecords (payloads ++ payload ∷ []) (records ++ r ∷ [])
records_more payloads records payload r are is =
    map-push reading payloads payload ∙ ap (λ t. t ++ reading payload ∷ []) are ∙ ap (λ t. map Ok records ++ t ∷ []) is
    ∙ sym (map-push Ok records r)

err_is : {why other : RecordFault} → let r : Result Record RecordFault = Err why in r ≡ Err other → why ≡ other
err_is h = cc

-- a fault lies in the payload, or at its end
told_within : (n : ℕ) (r : Reading Record) (why : RecordFault) → told n r ≡ Err why → fault_place why ≤ n
told_within n (read r rest) why h = absurd cc
told_within n (bad from) why h = subst (λ w. fault_place w ≤ n) (err_is h) (omega arith)
told_within n short why h = subst (λ w. fault_place w ≤ n) (err_is h) (omega arith)

by_kind : (known : Bool) (n : ℕ) (r : Reading Record) (why : RecordFault) → (if known then told n r else Err fault.BadKind) ≡ Err why
    → fault_place why ≤ n
by_kind true n r why h = told_within n r why h
by_kind false n r why h = subst (λ w. fault_place w ≤ n) (err_is h) (omega arith)

pub fault_within : (payload : List ℕ) (why : RecordFault) → reading payload ≡ Err why → fault_place why ≤ length payload
fault_within [] why h = subst (λ w. fault_place w ≤ 0) (err_is h) (omega arith)
fault_within (kind ∷ bytes) why h = by_kind (is_kind kind) (length (kind ∷ bytes)) (onward (read_record kind bytes) whole) why h

-- what was scanned so far: the bytes from here on, and the records of the frames before
pub record Scanned (file rest : List ℕ) (records : List Record) : Type 0 where
  pub payloads : List (List ℕ)
  pub frames : Leads (drop 16 file) payloads rest
  pub read : AreRecords payloads records
  pub some : 0 < length rest
  pub within : length rest + 16 ≤ length file

pub begun : (file : List ℕ) → 16 < length file → Scanned file (drop 16 file) []
begun file long = record {
  payloads = [];
  frames = refl;
  read = refl;
  some = omega (arith, length-drop 16 file);
  within = omega (arith, length-drop 16 file);
}

pub gone_on : (file rest payload next : List ℕ) (records : List Record) (r : Record) → Scanned file rest records
    → frame_of rest ≡ Some (payload, next) → reading payload ≡ Ok r
    → Scanned file next (records ++ r ∷ [])
gone_on file rest payload next records r so_far frame is =
    let long = frame_length rest payload next frame in
    record {
      payloads = so_far.payloads ++ payload ∷ [];
      frames = leads_more (drop 16 file) so_far.payloads rest payload next so_far.frames frame;
      read = records_more so_far.payloads records payload r so_far.read is;
      some = long.1;
      within = omega (arith, long.0, so_far.within);
    }

-- a file that isn't fresh has bytes behind the header
two_tests : (short ends : Bool) → (short || ends) ≡ false → short ≡ false
two_tests true ends h = absurd cc
two_tests false ends h = refl

pub long_enough : (file : List ℕ) → is_fresh file ≡ false → 16 < length file
long_enough file h =
    let short : nat_lt (length file) 17 ≡ false =
    two_tests (nat_lt (length file) 17) (nat_eq (length file) 17 && not (nat_eq (slice_index file 0) 1)) h in
    omega (arith, ltb-false (length file) 17 short)

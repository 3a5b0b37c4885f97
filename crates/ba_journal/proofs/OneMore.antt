-- One more frame at the end of a journal's file.
use Rattle.std.proofs.Common.{◌≡◌, ◌≢◌, ℕ, ◌+◌, ◌-◌, ◌<◌, inr, Bool, true, false, ◌&&◌, ◌||◌, nat_eq, nat_lt, if◌then◌else◌, List, [], ◌∷◌}
use Rattle.std.proofs.Common.{◌++◌, length, take, drop, None, Some, refl, sym, ap, ◌∙◌, subst, arith, append_assoc, length-append}
use Rattle.std.specs.Int.{w32, from_le_bytes, to_le_bytes}
use Rattle.std.proofs.lemmas.List.{take_at, drop_at, take-append-drop, length-take, length-drop}
use Rattle.std.proofs.lemmas.Nat.{from_le_bytes-to_le_bytes_4}
use Rattle.std.proofs.lemmas.Bool.{ltb-true, eqb-true}
use Rattle.std.proofs.lemmas.Bool.Decides.{nat_tests}
use Rattle.ba_record.specs.Coding.{coding, InRange}
use Rattle.ba_record.specs.declared.records.Record.{Record}
use Rattle.ba_record.proofs.ExactRecords.{reads_back}
use Rattle.ba_journal.specs.Journals.{AtRest, before_last, behind_gate}
use Rattle.ba_journal.specs.Frames.{header, is_fresh, payload_of, frame_of, Leads, AreRecords, Holds, StandsFor}
use Rattle.ba_journal.proofs.Sizes.{is_short}
use Rattle.ba_journal.proofs.Leading.{some_is, framed, framed_by, leads_more, records_more}

-- a frame as it is made
less_is : (size : ℕ) (bytes : List ℕ) → size < length bytes → nat_lt size (length bytes) ≡ true
less_is size bytes less = grind (arith, nat_tests)

payload_is : (size : ℕ) (payload next : List ℕ) → size ≡ length payload → 0 < length next
    → payload_of size (payload ++ next) ≡ Some (payload, next)
payload_is size payload next is some =
    let less : size < length (payload ++ next) = omega (arith, length-append payload next, is, some) in
    framed_by (nat_lt size (length (payload ++ next))) size (payload ++ next)
    ∙ ap (λ (b : Bool). framed b size (payload ++ next)) (less_is size (payload ++ next) less)
    ∙ ap (λ (p : List ℕ). Some (p, drop size (payload ++ next))) (take_at payload next size (sym is))
    ∙ ap (λ (n : List ℕ). Some (payload, n)) (drop_at payload next size (sym is))

frame_made : (digits payload next : List ℕ) → length digits ≡ 4 → from_le_bytes w32 digits ≡ length payload → 0 < length next
    → frame_of (1 ∷ (digits ++ (payload ++ next))) ≡ Some (payload, next)
frame_made digits payload next four is some =
    ap (λ (d : List ℕ). payload_of (from_le_bytes w32 d) (drop 4 (digits ++ (payload ++ next)))) (take_at digits (payload ++ next) 4 four)
    ∙ ap (λ (b : List ℕ). payload_of (from_le_bytes w32 digits) b) (drop_at digits (payload ++ next) 4 four)
    ∙ payload_is (from_le_bytes w32 digits) payload next is some

-- a frame that counts: its own bytes, before others
record Front (bytes payload next : List ℕ) : Type 0 where
  own : List ℕ
  is : bytes ≡ own ++ next
  other : (o : List ℕ) → 0 < length o → frame_of (own ++ o) ≡ Some (payload, o)

by_size : (bytes payload next : List ℕ) (fits : Bool) → nat_lt (from_le_bytes w32 (take 4 bytes)) (length (drop 4 bytes)) ≡ fits
    → framed fits (from_le_bytes w32 (take 4 bytes)) (drop 4 bytes) ≡ Some (payload, next) → Front (1 ∷ bytes) payload next
by_size bytes payload next true fits h =
    let digits = take 4 bytes in
    let size = from_le_bytes w32 digits in
    let rest = drop 4 bytes in
    let both = some_is h in
    let first : take size rest ≡ payload = ap (λ (p : List ℕ × List ℕ). p.0) both in
    let second : drop size rest ≡ next = ap (λ (p : List ℕ × List ℕ). p.1) both in
    let less : size < length rest = ltb-true size (length rest) fits in
    let four : length digits ≡ 4 = omega (arith, length-take 4 bytes, length-drop 4 bytes, less) in
    let long : size ≡ length payload = omega (arith, length-take size rest, ap length first, less) in
    let parts : rest ≡ payload ++ next = sym (take-append-drop size rest) ∙ ap (λ (p : List ℕ). p ++ drop size rest) first
    ∙ ap (λ (n : List ℕ). payload ++ n) second in
    record {
      own = 1 ∷ (digits ++ payload);
      is = ap (λ (b : List ℕ). 1 ∷ b) (sym (take-append-drop 4 bytes) ∙ ap (λ (r : List ℕ). digits ++ r) parts
          ∙ sym (append_assoc digits payload next));
      other = λ o some. ap (λ (b : List ℕ). frame_of (1 ∷ b)) (append_assoc digits payload o) ∙ frame_made digits payload o four long some;
    }
by_size bytes payload next false fits h = absurd cc

by_gate : (gate : ℕ) (bytes payload next : List ℕ) (open_gate : Bool) → nat_eq gate 1 ≡ open_gate
    → (if open_gate then payload_of (from_le_bytes w32 (take 4 bytes)) (drop 4 bytes) else None) ≡ Some (payload, next)
    → Front (gate ∷ bytes) payload next
by_gate gate bytes payload next true is h =
    let size = from_le_bytes w32 (take 4 bytes) in
    let fits = nat_lt size (length (drop 4 bytes)) in
    subst (λ (g : ℕ). Front (g ∷ bytes) payload next) (sym (eqb-true gate 1 is))
    (by_size bytes payload next fits refl (sym (framed_by fits size (drop 4 bytes)) ∙ h))
by_gate gate bytes payload next false is h = absurd cc

front_of : (bytes payload next : List ℕ) → frame_of bytes ≡ Some (payload, next) → Front bytes payload next
front_of [] payload next h = absurd cc
front_of (gate ∷ bytes) payload next h = by_gate gate bytes payload next (nat_eq gate 1) refl h

-- frames one after another: their own bytes, before others
pub record Fronts (bytes : List ℕ) (payloads : List (List ℕ)) (rest : List ℕ) : Type 0 where
  pub own : List ℕ
  pub is : bytes ≡ own ++ rest
  pub other : (o : List ℕ) → 0 < length o → Leads (own ++ o) payloads o

pub fronts_of : (bytes : List ℕ) (payloads : List (List ℕ)) (rest : List ℕ) → Leads bytes payloads rest → Fronts bytes payloads rest
fronts_of bytes [] rest leads = record { own = []; is = sym leads; other = λ o some. refl }
fronts_of bytes (payload ∷ payloads) rest leads =
    let first = front_of bytes payload leads.0 leads.1 in
    let others = fronts_of leads.0 payloads rest leads.2 in
    record {
      own = first.own ++ others.own;
      is = first.is ∙ ap (λ (n : List ℕ). first.own ++ n) others.is ∙ sym (append_assoc first.own others.own rest);
      other = λ o some. subst (λ (b : List ℕ). Leads b (payload ∷ payloads) o) (sym (append_assoc first.own others.own o))
          (others.own ++ o, first.other (others.own ++ o) (omega (arith, length-append others.own o, some)), others.other o some);
    }

-- a journal's file up to its last gate
no_second : (b : Bool) → (b && false) ≡ false
no_second true = refl
no_second false = refl

not_short : (file : List ℕ) → 16 < length file → nat_lt (length file) 17 ≡ false
not_short file long = grind (arith, nat_tests)

pub made_with : (own o : List ℕ) → 0 < length o → is_fresh (header ++ (own ++ o)) ≡ false
made_with own o some =
    let long : 16 < length (header ++ (own ++ o)) = omega (arith, length-append header (own ++ o), length-append own o, some) in
    ap (λ (b : Bool). b || (nat_eq (length (header ++ (own ++ o))) 17 && false)) (not_short (header ++ (own ++ o)) long)
    ∙ no_second (nat_eq (length (header ++ (own ++ o))) 17)

closed_gate : (gate : ℕ) (behind : List ℕ) → gate ≢ 1 → frame_of (gate ∷ behind) ≡ None
closed_gate gate behind shut = by_test (nat_eq gate 1) refl
  where
    by_test : (b : Bool) → nat_eq gate 1 ≡ b → frame_of (gate ∷ behind) ≡ None
    by_test true is = absurd (shut (eqb-true gate 1 is))
    by_test false is = ap (λ (b : Bool). if b then payload_of (from_le_bytes w32 (take 4 behind)) (drop 4 behind) else None) is

pub record Seat (file : List ℕ) (records : List Record) : Type 0 where
  pub own : List ℕ
  pub is : file ≡ header ++ (own ++ 0 ∷ [])
  pub payloads : List (List ℕ)
  pub other : (o : List ℕ) → 0 < length o → Leads (own ++ o) payloads o
  pub read : AreRecords payloads records

pub seat_of : (file : List ℕ) (records : List Record) → AtRest file records → Seat file records
seat_of file records rest =
    let fronts = fronts_of (drop 16 file) rest.payloads (0 ∷ []) rest.frames in
    record {
      own = fronts.own;
      is = sym (take-append-drop 16 file) ∙ ap (λ (h : List ℕ). h ++ drop 16 file) rest.headed ∙ ap (λ (b : List ℕ). header ++ b) fronts.is;
      payloads = rest.payloads;
      other = fronts.other;
      read = rest.read;
    }

module _ (file : List ℕ) (records : List Record) (seat : Seat file records) where
  pub ahead : List ℕ
  ahead = header ++ seat.own

  pub ahead_is : before_last file ≡ header ++ seat.own
  ahead_is =
      let long : length file ≡ length (header ++ seat.own) + 1 = omega (arith, ap length seat.is, length-append seat.own (0 ∷ [])) in
      ap before_last seat.is ∙ take_at (header ++ seat.own) (0 ∷ []) (length (header ++ (seat.own ++ 0 ∷ [])) - 1)
      (omega (arith, length-append seat.own (0 ∷ [])))

  pub holds_with : (o : List ℕ) → 0 < length o → frame_of o ≡ None → Holds (before_last file ++ o) records o
  holds_with o some none = subst (λ (front : List ℕ). Holds (front ++ o) records o) (sym ahead_is) record {
    made = made_with seat.own o some;
    headed = refl;
    payloads = seat.payloads;
    frames = seat.other o some;
    stops = none;
    read = seat.read;
  }

  pub another : (gate : ℕ) (behind : List ℕ) → gate ≢ 1 → StandsFor (before_last file ++ gate ∷ behind) records
  another gate behind shut = inr (gate ∷ behind, holds_with (gate ∷ behind) (omega arith) (closed_gate gate behind shut))

  pub closed_again : file ≡ before_last file ++ 0 ∷ []
  closed_again = seat.is ∙ ap (λ (front : List ℕ). front ++ 0 ∷ []) (sym ahead_is)

  pub behind_it : (behind : List ℕ) → StandsFor (file ++ behind) records
  behind_it behind =
      let parts : file ++ behind ≡ before_last file ++ 0 ∷ behind =
      ap (λ (f : List ℕ). f ++ behind) closed_again ∙ append_assoc (before_last file) (0 ∷ []) behind in
      subst (λ (f : List ℕ). StandsFor f records) (sym parts) (another 0 behind (omega arith))

  pub one_more : (last : Record) → InRange last → AtRest (before_last file ++ 1 ∷ behind_gate (coding last)) (records ++ last ∷ [])
  one_more last in_range =
      let payload = coding last in
      let o = 1 ∷ behind_gate payload in
      let frame : frame_of o ≡ Some (payload, 0 ∷ []) =
      frame_made (to_le_bytes w32 (length payload)) payload (0 ∷ []) refl
      (from_le_bytes-to_le_bytes_4 (length payload) (is_short last in_range)) (omega arith) in
      subst (λ (front : List ℕ). AtRest (front ++ o) (records ++ last ∷ [])) (sym ahead_is) record {
        made = made_with seat.own o (omega arith);
        headed = refl;
        payloads = seat.payloads ++ payload ∷ [];
        frames = leads_more (seat.own ++ o) seat.payloads o payload (0 ∷ []) (seat.other o (omega arith)) frame;
        stops = refl;
        read = records_more seat.payloads records payload last seat.read (reads_back last in_range);
      }

-- What the writes of one more frame make of a journal's file, also where they are torn.
use Rattle.std.proofs.Common.{max, ◌≤◌, ◌≡◌, inl, inr, ℕ, ◌+◌, List, [], ◌∷◌, ◌++◌, length, take, drop, refl, sym, ◌∙◌, ap, subst, arith}
use Rattle.std.proofs.Common.{append_assoc, length-append}
use Rattle.std.proofs.lemmas.List.{append-nil, length-take, length-drop, take_at, drop_at, take_all, drop_all}
use Rattle.std.proofs.lemmas.Bool.{cases_eq}
use Rattle.ba_ports.specs.Disk.{Torn, written_at, Done, NoMore, Only}
use Rattle.ba_record.specs.declared.records.Record.{Record}
use Rattle.ba_journal.specs.Journals.{AtRest, before_last, StandsWithOrWithout}
use Rattle.ba_journal.specs.inside.Appending.{IsFrameOf}
use Rattle.ba_journal.specs.Frames.{StandsFor}
use Rattle.ba_journal.proofs.OneMore.{Seat, seat_of, closed_again, behind_it, another, one_more}

one : (range : List ℕ) → length range ≡ 1 → (gate : ℕ) × (range ≡ gate ∷ [])
one [] is = absurd (omega arith)
one (gate ∷ []) is = (gate, refl)
one (gate ∷ b ∷ range) is = absurd (omega arith)

pub length-written : (place : ℕ) (bytes file : List ℕ) → place ≤ length file
    → length (written_at place bytes file) ≡ max (length file) (place + length bytes)
length-written place bytes file within = omega (
  arith,
  within,
  length-append (take place file ++ bytes) (drop (place + length bytes) file),
  length-append (take place file) bytes,
  length-take place file,
  length-drop (place + length bytes) file,
)

module _ (file : List ℕ) (records : List Record) (gate : ℕ) (rest : AtRest file records) (place : gate + 1 ≡ length file) where
  seat : Seat file records
  seat = seat_of file records rest

  ends : file ≡ before_last file ++ 0 ∷ []
  ends = closed_again file records seat

  size : length (before_last file) ≡ gate
  size = omega (arith, place, ap length ends, length-append (before_last file) (0 ∷ []))

  torn_behind : (count : ℕ) (c : List ℕ) → Torn (gate + 1) count file c → StandsFor c records
  torn_behind count c torn =
      let front : take (gate + 1) file ≡ file = take_all (gate + 1) file (omega (arith, place)) in
      let none : drop (gate + 1 + count) file ≡ [] = drop_all (gate + 1 + count) file (omega (arith, place)) in
      let whole : c ≡ file ++ torn.range = torn.bytes ∙ ap (λ (l : List ℕ). l ++ torn.range ++ drop (gate + 1 + count) file) front
      ∙ ap (λ (l : List ℕ). file ++ torn.range ++ l) none ∙ append-nil (file ++ torn.range) in
      subst (λ (f : List ℕ). StandsFor f records) (sym whole) (behind_it file records seat torn.range)

  pub written_behind : (behind : List ℕ) → written_at (gate + 1) behind file ≡ file ++ behind
  written_behind behind =
      let front : take (gate + 1) file ≡ file = take_all (gate + 1) file (omega (arith, place)) in
      let none : drop (gate + 1 + length behind) file ≡ [] = drop_all (gate + 1 + length behind) file (omega (arith, place)) in
      ap (λ (l : List ℕ). l ++ behind ++ drop (gate + 1 + length behind) file) front
      ∙ ap (λ (l : List ℕ). file ++ behind ++ l) none ∙ append-nil (file ++ behind)

  staged_parts : (behind : List ℕ) → file ++ behind ≡ before_last file ++ 0 ∷ behind
  staged_parts behind = ap (λ (l : List ℕ). l ++ behind) ends ∙ append_assoc (before_last file) (0 ∷ []) behind

  ahead : (behind : List ℕ) → take gate (file ++ behind) ≡ before_last file
  ahead behind = ap (λ (l : List ℕ). take gate l) (staged_parts behind) ∙ take_at (before_last file) (0 ∷ behind) gate size

  back : (behind : List ℕ) → drop (gate + 1) (file ++ behind) ≡ behind
  back behind = drop_at file behind (gate + 1) (sym place)

  pub length-staged : (behind : List ℕ) → length (file ++ behind) ≡ gate + 1 + length behind
  length-staged behind = omega (arith, place, length-append file behind)

  pub written_gate : (behind : List ℕ) → written_at gate (1 ∷ []) (file ++ behind) ≡ before_last file ++ 1 ∷ behind
  written_gate behind =
      ap (λ (l : List ℕ). l ++ (1 ∷ []) ++ drop (gate + 1) (file ++ behind)) (ahead behind)
      ∙ ap (λ (l : List ℕ). before_last file ++ (1 ∷ []) ++ l) (back behind)
      ∙ append_assoc (before_last file) (1 ∷ []) behind

  pub length-after : (behind : List ℕ) → length (before_last file ++ 1 ∷ behind) ≡ gate + 1 + length behind
  length-after behind = omega (arith, size, length-append (before_last file) (1 ∷ behind))

  pub stage_crash : (count : ℕ) (old new : List ℕ → Type 0) → Only file old → NoMore (Done (Torn (gate + 1) count) old) new → (c : List ℕ)
      → new c → StandsFor c records
  stage_crash count old new only done c left =
      let from = done c left in
      torn_behind count c (subst (λ f. Torn (gate + 1) count f c) (only from.0 from.1) from.2)

  module _ (last : Record) (behind : List ℕ) (frame : IsFrameOf behind last) where
    pub after : AtRest (before_last file ++ 1 ∷ behind) (records ++ last ∷ [])
    after = subst (λ (b : List ℕ). AtRest (before_last file ++ 1 ∷ b) (records ++ last ∷ [])) (sym frame.bytes)
        (one_more file records seat last frame.in_range)

    by_gate : (g : ℕ) → StandsWithOrWithout records last (before_last file ++ g ∷ behind)
    by_gate g = elim (cases_eq g 1) [
      | inl is ↦ inr (inr (0 ∷ [], subst (λ (n : ℕ). AtRest (before_last file ++ n ∷ behind) (records ++ last ∷ [])) (sym is) after))
      | inr shut ↦ inl (another file records seat g behind shut)
    ]

    torn_gate : (c : List ℕ) → Torn gate 1 (file ++ behind) c → StandsWithOrWithout records last c
    torn_gate c torn =
        let cut : c ≡ before_last file ++ torn.range ++ behind =
        torn.bytes ∙ ap (λ (l : List ℕ). l ++ torn.range ++ drop (gate + 1) (file ++ behind)) (ahead behind)
        ∙ ap (λ (l : List ℕ). before_last file ++ torn.range ++ l) (back behind) in
        let gate_is = one torn.range (omega (
          arith,
          torn.no_shorter,
          torn.no_longer,
          ap length cut,
          length-append (before_last file ++ torn.range) behind,
          length-append (before_last file) torn.range,
          size,
          length-staged behind,
        )) in
        let whole : c ≡ before_last file ++ gate_is.0 ∷ behind =
        cut ∙ append_assoc (before_last file) torn.range behind ∙ ap (λ (l : List ℕ). before_last file ++ (l ++ behind)) gate_is.1 in
        subst (StandsWithOrWithout records last) (sym whole) (by_gate gate_is.0)

    pub gate_crash : (old new : List ℕ → Type 0) → Only (file ++ behind) old → NoMore (Done (Torn gate 1) old) new → (c : List ℕ) → new c
        → StandsWithOrWithout records last c
    gate_crash old new only done c left =
        let from = done c left in
        torn_gate c (subst (λ f. Torn gate 1 f c) (only from.0 from.1) from.2)

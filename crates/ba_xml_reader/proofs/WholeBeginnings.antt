-- A beginning of a start tag that is taken at once is the one that the machine takes byte by byte.
use Rattle.std.proofs.Common.{◌≡◌, ℕ, ◌+◌, ◌-◌, ◌<◌, ◌≤◌, Bool, true, false, cond, not, ◌==◌, nat_lt, take, drop, List, [], ◌∷◌, ◌++◌}
use Rattle.std.proofs.Common.{length, refl, sym, ap, ap₂, ◌∙◌, arith, true≢false}
use Rattle.std.specs.List.{list_all}
use Rattle.std.proofs.lemmas.List.{length-take-le, length-drop, take_more}
use Rattle.std.proofs.Math.Seq.{take-add}
use Rattle.ba_xml_words.specs.Classes.{class_of, mark_of}
use Rattle.ba_xml_words.specs.inside.Names.{one_letter}
use Rattle.ba_xml_words.specs.inside.Octets.{lead}
use Rattle.ba_xml_reader.specs.inside.Machine.{run, turned}
use Rattle.ba_xml_reader.specs.inside.Beginnings.{IsBeginning, has_level_at, plain_tag, with_beginning}
use Rattle.ba_xml_reader.specs.inside.Escapes.{is_in_text}
use Rattle.ba_xml_reader.specs.inside.Pairs.{plain_name}
use Rattle.ba_xml_reader.specs.inside.Readings.{Going}
use Rattle.ba_xml_reader.specs.inside.Spans.{is_letter}
use Rattle.ba_xml_reader.specs.inside.Turns as turn
use Rattle.ba_xml_words.specs.declared.classes.Class.TheVariants as class
use Rattle.ba_xml_words.specs.declared.faults.Reason.TheVariants as reason
use Rattle.ba_xml_words.specs.declared.octets.Octet.{Octet}
use Rattle.ba_xml_words.specs.declared.octets.Octet.TheVariants.{Between}
use Rattle.ba_xml_names.specs.declared.levels.Level.{Level}
use Rattle.ba_xml_reader.specs.declared.machine.Scan.{Scan}
use Rattle.ba_xml_reader.specs.declared.states.Mode.TheVariants as mode
use Rattle.ba_xml_reader.specs.declared.states.Seen.{Seen}
use Rattle.ba_xml_reader.specs.declared.states.State.{State}
use Rattle.ba_xml_reader.specs.declared.states.State.TheVariants as state
use Rattle.ba_xml_reader.proofs.CompleteNames.{letter_kind}
use Rattle.ba_xml_reader.proofs.CompleteSteps.{by_kind}
use Rattle.ba_xml_reader.proofs.PutOn.{is_single, calm_scan, both, no, letter_fits, turn_on, once, name_runs}
use Rattle.ba_xml_reader.proofs.Runs.{run_more, run_append}
use Rattle.ba_xml_reader.proofs.WholePairs.{run_one}

-- ---- the bytes of a beginning

abbrev beginning_text : List ℕ → List ℕ
beginning_text name = ((60 ∷ []) ++ name) ++ 32 ∷ []

beginning_bytes : (bs : List ℕ) (name : ℕ) → IsBeginning bs name → take (name + 2) bs ≡ beginning_text (take name (drop 1 bs))
beginning_bytes bs name is =
    ap (λ n. take n bs) two
    ∙ take_more bs (name + 1) 0 is.within
    ∙ ap₂ (λ xs x. xs ++ x ∷ []) (ap (λ n. take n bs) one ∙ take-add 1 name bs ∙ ap (λ xs. xs ++ take name (drop 1 bs)) opened) is.ends
  where
    two : name + 2 ≡ name + 1 + 1
    two = omega arith

    one : name + 1 ≡ 1 + name
    one = omega arith

    early : 0 < length bs
    early = omega (arith, is.within)

    opened : take 1 bs ≡ 60 ∷ []
    opened = take_more bs 0 0 early ∙ ap (λ x. x ∷ []) is.opens

-- ---- one byte

less_kind : class_of 60 ≡ class.Less
unfolding class_of mark_of
less_kind = refl

space_kind : class_of 32 ≡ class.Space
unfolding class_of mark_of
space_kind = refl

less_single : is_single (lead 60) ≡ true
unfolding lead
less_single = refl

space_single : is_single (lead 32) ≡ true
unfolding lead
space_single = refl

module _ (parent : Level) (outer : List Level) (here : Level) where
  abbrev in_text : Seen → Scan
  in_text seen = calm_scan (state.At (parent ∷ outer) here (mode.Inside seen))

  abbrev opened : Scan
  opened = calm_scan (state.At (parent ∷ outer) here mode.Open)

  abbrev in_name : List ℕ → Scan
  in_name name = calm_scan (state.At (parent ∷ outer) here (mode.TagName (plain_name name)))

  abbrev in_tag : List ℕ → Scan
  in_tag name = calm_scan (state.At (parent ∷ outer) here (mode.InTag (plain_tag name) true))

  pub open_turn : (seen : Seen) → turned (in_text seen) 60 ≡ turn.On opened
  open_turn seen = turn_on (parent ∷ outer) (parent ∷ outer) here here (mode.Inside seen) mode.Open 60 less_single refl
      (by_kind (parent ∷ outer) here (mode.Inside seen) 60 class.Less less_kind)

  first_turn : (b : ℕ) → nat_lt (length (parent ∷ outer)) 32 ≡ true → is_letter b ≡ true → turned opened b ≡ turn.On (in_name (b ∷ []))
  first_turn b room e =
      turn_on (parent ∷ outer) (parent ∷ outer) here here mode.Open (mode.TagName (one_letter b)) b is.0 (no (b == 13) is.1)
      (by_kind (parent ∷ outer) here mode.Open b class.Letter (letter_kind b (both (nat_lt b 128) _ e).1)
      ∙ ap (λ t. cond t (state.At (parent ∷ outer) here (mode.TagName (one_letter b))) (state.Refused reason.Depth)) room)
    where
      is : (is_single (lead b) ≡ true) × (not (b == 13) ≡ true)
      is = both (is_single (lead b)) (not (b == 13)) (letter_fits b e)

  name_part : (name : List ℕ) (taken : ℕ) → nat_lt (length (parent ∷ outer)) 32 ≡ true → list_all is_letter name ≡ true → 0 < length name
      → taken + length name ≤ 262144 → run (Going opened taken) name ≡ Going (in_name name) (taken + length name)
  name_part [] taken room all some h = absurd (none some)
    where
      none : 0 < length {A = ℕ} [] → ⊥
      none s = omega (arith, s)
  name_part (b ∷ bs) taken room all some h =
      run_more (Going opened taken) b bs
      ∙ ap (λ r. run r bs) (once opened (in_name (b ∷ [])) taken b (first_turn b room letters.0) below)
      ∙ name_runs (parent ∷ outer) here (λ n. mode.TagName n) (one_letter b) bs (taken + 1) (λ n b. refl) letters.1 within
      ∙ ap (λ n. Going (in_name (b ∷ bs)) n) same
    where
      letters : (is_letter b ≡ true) × (list_all is_letter bs ≡ true)
      letters = both (is_letter b) (list_all is_letter bs) all

      below : taken < 262144
      below = omega (arith, h)

      within : taken + 1 + length bs ≤ 262144
      within = omega (arith, h)

      same : taken + 1 + length bs ≡ taken + length (b ∷ bs)
      same = omega arith

  space_turn : (name : List ℕ) → 0 < length name → turned (in_name name) 32 ≡ turn.On (in_tag name)
  space_turn [] some = absurd (none some)
    where
      none : 0 < length {A = ℕ} [] → ⊥
      none s = omega (arith, s)
  space_turn (b ∷ bs) some =
      turn_on (parent ∷ outer) (parent ∷ outer) here here (mode.TagName (plain_name (b ∷ bs))) (mode.InTag (plain_tag (b ∷ bs)) true)
      32 space_single refl
      (by_kind (parent ∷ outer) here (mode.TagName (plain_name (b ∷ bs))) 32 class.Space space_kind)

  -- ---- the whole beginning

  text_runs : (seen : Seen) (name : List ℕ) (taken : ℕ) → nat_lt (length (parent ∷ outer)) 32 ≡ true
      → list_all is_letter name ≡ true → 0 < length name → taken + (length name + 2) ≤ 262144
      → run (Going (in_text seen) taken) (beginning_text name) ≡ Going (in_tag name) (taken + 1 + length name + 1)
  text_runs seen name taken room letters some h =
      run_append (Going (in_text seen) taken) ((60 ∷ []) ++ name) (32 ∷ [])
      ∙ ap (λ r. run r (32 ∷ [])) named
      ∙ run_one (in_name name) (in_tag name) (taken + 1 + length name) 32 (space_turn name some) third
    where
      first : taken < 262144
      first = omega (arith, h)

      second : taken + 1 + length name ≤ 262144
      second = omega (arith, h)

      third : taken + 1 + length name < 262144
      third = omega (arith, h)

      named : run (Going (in_text seen) taken) ((60 ∷ []) ++ name) ≡ Going (in_name name) (taken + 1 + length name)
      named =
          run_append (Going (in_text seen) taken) (60 ∷ []) name
          ∙ ap (λ r. run r name) (run_one (in_text seen) opened taken 60 (open_turn seen) first)
          ∙ name_part name (taken + 1) room letters some second

  bytes_run : (seen : Seen) (bs : List ℕ) (name taken : ℕ) → nat_lt (length (parent ∷ outer)) 32 ≡ true → IsBeginning bs name
      → taken + (name + 2) ≤ 262144
      → run (Going (in_text seen) taken) (take (name + 2) bs) ≡ Going (in_tag (take name (drop 1 bs))) (taken + (name + 2))
  bytes_run seen bs name taken room is h =
      ap (λ xs. run (Going (in_text seen) taken) xs) (beginning_bytes bs name is)
      ∙ text_runs seen (take name (drop 1 bs)) taken room is.letters some within
      ∙ ap (λ n. Going (in_tag (take name (drop 1 bs))) n) same
    where
      named : length (take name (drop 1 bs)) ≡ name
      named = length-take-le name (drop 1 bs) (omega (arith, is.within, length-drop 1 bs))

      some : 0 < length (take name (drop 1 bs))
      some = omega (arith, named, is.some)

      within : taken + (length (take name (drop 1 bs)) + 2) ≤ 262144
      within = omega (arith, named, h)

      same : taken + 1 + length (take name (drop 1 bs)) + 1 ≡ taken + (name + 2)
      same = omega (arith, named)

by_parts : (s : State) (octet : Octet) (returned : Bool) (bs : List ℕ) (name taken : ℕ)
    → is_in_text (record { state = s; octet = octet; returned = returned }) ≡ true → has_level_at s ≡ true → IsBeginning bs name
    → taken + (name + 2) ≤ 262144
    → run (Going (record { state = s; octet = octet; returned = returned }) taken) (take (name + 2) bs)
    ≡ Going (with_beginning (record { state = s; octet = octet; returned = returned }) (take name (drop 1 bs))) (taken + (name + 2))
by_parts s octet true bs name taken text level is h = absurd (true≢false (sym text))
by_parts (state.Refused r) Between false bs name taken text level is h = absurd (true≢false (sym text))
by_parts (state.At (parent ∷ outer) here (mode.Inside seen)) Between false bs name taken text level is h =
    bytes_run parent outer here seen bs name taken level is h
by_parts (state.At [] here m) Between false bs name taken text level is h = absurd (true≢false (sym text))
by_parts (state.At (parent ∷ outer) here m) Between false bs name taken text level is h = absurd (true≢false (sym text))
by_parts s octet false bs name taken text level is h = absurd (true≢false (sym text))

-- a beginning that is put at once is what the machine puts byte by byte
pub beginning_put : (scan next : Scan) (bs name : List ℕ) (count taken : ℕ) → is_in_text scan ≡ true → has_level_at scan.state ≡ true
    → IsBeginning bs count → count + 2 ≤ 262144 - taken → name ≡ take count (drop 1 bs) → next ≡ with_beginning scan name
    → run (Going scan taken) (take (count + 2) bs) ≡ Going next (taken + (count + 2))
beginning_put scan next bs name count taken text level is most n e =
    by_parts scan.state scan.octet scan.returned bs count taken text level is (omega (arith, most))
    ∙ ap (λ x. Going (with_beginning scan x) (taken + (count + 2))) (sym n)
    ∙ ap (λ s. Going s (taken + (count + 2))) (sym e)

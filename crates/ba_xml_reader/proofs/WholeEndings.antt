-- An end tag that is taken at once is the one that the machine takes byte by byte.
use Rattle.std.proofs.Common.{◌≡◌, ℕ, ◌+◌, ◌-◌, ◌<◌, ◌≤◌, Bool, true, false, take, drop, List, [], ◌∷◌, ◌++◌, length, refl, sym, ap, ap₂}
use Rattle.std.proofs.Common.{◌∙◌, arith, true≢false}
use Rattle.std.specs.List.{list_all}
use Rattle.std.proofs.lemmas.List.{drop_all, length-take-le, length-drop, take_more}
use Rattle.std.proofs.Math.Seq.{take-add}
use Rattle.ba_xml_words.specs.inside.Remaining.{is_front}
use Rattle.ba_xml_names.specs.inside.Levels.{with_child, tree_of}
use Rattle.ba_xml_reader.specs.inside.Machine.{run, turned}
use Rattle.ba_xml_reader.specs.inside.Endings.{IsEnding, spelled_at, with_ending}
use Rattle.ba_xml_reader.specs.inside.Escapes.{is_in_text}
use Rattle.ba_xml_reader.specs.inside.Readings.{Going}
use Rattle.ba_xml_reader.specs.inside.Spans.{is_plain, before_name}
use Rattle.ba_xml_reader.specs.inside.Turns as turn
use Rattle.ba_xml_words.specs.declared.classes.Class.TheVariants as class
use Rattle.ba_xml_words.specs.declared.octets.Octet.{Octet}
use Rattle.ba_xml_words.specs.declared.octets.Octet.TheVariants.{Between}
use Rattle.ba_xml_names.specs.declared.levels.Level.{Level}
use Rattle.ba_xml_reader.specs.declared.machine.Scan.{Scan}
use Rattle.ba_xml_reader.specs.declared.states.Mode.{Mode}
use Rattle.ba_xml_reader.specs.declared.states.Mode.TheVariants as mode
use Rattle.ba_xml_reader.specs.declared.states.Seen.{Seen}
use Rattle.ba_xml_reader.specs.declared.states.Seen.TheVariants.{Zero}
use Rattle.ba_xml_reader.specs.declared.states.State.{State}
use Rattle.ba_xml_reader.specs.declared.states.State.TheVariants as state
use Rattle.ba_xml_reader.proofs.CompleteSteps.{by_kind}
use Rattle.ba_xml_reader.proofs.PutOn.{calm_scan, turn_on, front_runs}
use Rattle.ba_xml_reader.proofs.Runs.{run_append}
use Rattle.ba_xml_reader.proofs.WholeBeginnings.{open_turn}
use Rattle.ba_xml_reader.proofs.WholeEmpties.{slash_kind, greater_kind, slash_single, greater_single}
use Rattle.ba_xml_reader.proofs.WholePairs.{run_one}

-- ---- the bytes of an end tag

abbrev ending_text : List ℕ → List ℕ
ending_text name = (((60 ∷ []) ++ 47 ∷ []) ++ name) ++ 62 ∷ []

ending_bytes : (bs name : List ℕ) (count : ℕ) → IsEnding bs name count → take (count + 3) bs ≡ ending_text (take count (drop 2 bs))
ending_bytes bs name count is =
    ap (λ n. take n bs) three
    ∙ take_more bs (count + 2) 0 is.within
    ∙ ap₂ (λ xs x. xs ++ x ∷ []) (ap (λ n. take n bs) two ∙ take-add 2 count bs ∙ ap (λ xs. xs ++ take count (drop 2 bs)) opened) is.ends
  where
    three : count + 3 ≡ count + 2 + 1
    three = omega arith

    two : count + 2 ≡ 2 + count
    two = omega arith

    early : 0 < length bs
    early = omega (arith, is.within)

    second : 1 < length bs
    second = omega (arith, is.within)

    opened : take 2 bs ≡ (60 ∷ []) ++ 47 ∷ []
    opened = take_more bs 1 0 second ∙ ap₂ (λ xs x. xs ++ x ∷ []) (take_more bs 0 0 early ∙ ap (λ x. x ∷ []) is.opens) is.slash

-- ---- its parts

to_come : (name : List ℕ) → 0 < length name → before_name name ≡ mode.EndName name
to_come [] some = absurd (none some)
  where
    none : 0 < length {A = ℕ} [] → ⊥
    none s = omega (arith, s)
to_come (b ∷ bs) some = refl

module _ (parent : Level) (outer : List Level) (here : Level) where
  abbrev in_text : Seen → Scan
  in_text seen = calm_scan (state.At (parent ∷ outer) here (mode.Inside seen))

  abbrev standing : Mode → Scan
  standing m = calm_scan (state.At (parent ∷ outer) here m)

  abbrev ended : Scan
  ended = calm_scan (state.At outer (with_child parent (tree_of here)) (mode.Inside Zero))

  slash_turn : turned (standing mode.Open) 47 ≡ turn.On (standing (mode.EndName here.spelled))
  slash_turn = turn_on (parent ∷ outer) (parent ∷ outer) here here mode.Open (mode.EndName here.spelled) 47 slash_single refl
      (by_kind (parent ∷ outer) here mode.Open 47 class.Slash slash_kind)

  close_turn : turned (standing mode.EndSpace) 62 ≡ turn.On ended
  close_turn = turn_on (parent ∷ outer) outer here (with_child parent (tree_of here)) mode.EndSpace (mode.Inside Zero) 62
      greater_single refl
      (by_kind (parent ∷ outer) here mode.EndSpace 62 class.Greater greater_kind)

  text_runs : (seen : Seen) (name : List ℕ) (taken : ℕ) → 0 < length here.spelled → length name ≡ length here.spelled
      → list_all is_plain name ≡ true → is_front name here.spelled ≡ true → taken + (length name + 3) ≤ 262144
      → run (Going (in_text seen) taken) (ending_text name) ≡ Going ended (taken + 1 + 1 + length name + 1)
  text_runs seen name taken some long plain same h =
      run_append (Going (in_text seen) taken) (((60 ∷ []) ++ 47 ∷ []) ++ name) (62 ∷ [])
      ∙ ap (λ r. run r (62 ∷ [])) named
      ∙ run_one (standing mode.EndSpace) ended (taken + 1 + 1 + length name) 62 close_turn fourth
    where
      first : taken < 262144
      first = omega (arith, h)

      second : taken + 1 < 262144
      second = omega (arith, h)

      third : taken + 1 + 1 + length name ≤ 262144
      third = omega (arith, h)

      fourth : taken + 1 + 1 + length name < 262144
      fourth = omega (arith, h)

      whole : drop (length name) here.spelled ≡ []
      whole = drop_all (length name) here.spelled (omega (arith, long))

      slashed : run (Going (in_text seen) taken) ((60 ∷ []) ++ 47 ∷ []) ≡ Going (standing (before_name here.spelled)) (taken + 1 + 1)
      slashed =
          run_append (Going (in_text seen) taken) (60 ∷ []) (47 ∷ [])
          ∙ ap (λ r. run r (47 ∷ [])) (run_one (in_text seen) (standing mode.Open) taken 60 (open_turn parent outer here seen) first)
          ∙ run_one (standing mode.Open) (standing (mode.EndName here.spelled)) (taken + 1) 47 slash_turn second
          ∙ ap (λ m. Going (standing m) (taken + 1 + 1)) (sym (to_come here.spelled some))

      named : run (Going (in_text seen) taken) (((60 ∷ []) ++ 47 ∷ []) ++ name)
          ≡ Going (standing mode.EndSpace) (taken + 1 + 1 + length name)
      named =
          run_append (Going (in_text seen) taken) ((60 ∷ []) ++ 47 ∷ []) name
          ∙ ap (λ r. run r name) slashed
          ∙ front_runs (parent ∷ outer) here here.spelled name (taken + 1 + 1) plain same third
          ∙ ap (λ rest. Going (standing (before_name rest)) (taken + 1 + 1 + length name)) whole

  bytes_run : (seen : Seen) (bs : List ℕ) (count taken : ℕ) → IsEnding bs here.spelled count → taken + (count + 3) ≤ 262144
      → run (Going (in_text seen) taken) (take (count + 3) bs) ≡ Going ended (taken + (count + 3))
  bytes_run seen bs count taken is h =
      ap (λ xs. run (Going (in_text seen) taken) xs) (ending_bytes bs here.spelled count is)
      ∙ text_runs seen (take count (drop 2 bs)) taken some (long ∙ is.long) is.plain is.same within
      ∙ ap (λ n. Going ended n) same
    where
      long : length (take count (drop 2 bs)) ≡ count
      long = length-take-le count (drop 2 bs) (omega (arith, is.within, length-drop 2 bs))

      some : 0 < length here.spelled
      some = omega (arith, is.some, is.long)

      within : taken + (length (take count (drop 2 bs)) + 3) ≤ 262144
      within = omega (arith, long, h)

      same : taken + 1 + 1 + length (take count (drop 2 bs)) + 1 ≡ taken + (count + 3)
      same = omega (arith, long)

by_parts : (s : State) (octet : Octet) (returned : Bool) (bs : List ℕ) (count taken : ℕ)
    → is_in_text (record { state = s; octet = octet; returned = returned }) ≡ true → IsEnding bs (spelled_at s) count
    → taken + (count + 3) ≤ 262144
    → run (Going (record { state = s; octet = octet; returned = returned }) taken) (take (count + 3) bs)
    ≡ Going (with_ending (record { state = s; octet = octet; returned = returned })) (taken + (count + 3))
by_parts s octet true bs count taken text is h = absurd (true≢false (sym text))
by_parts (state.Refused r) Between false bs count taken text is h = absurd (true≢false (sym text))
by_parts (state.At (parent ∷ outer) here (mode.Inside seen)) Between false bs count taken text is h =
    bytes_run parent outer here seen bs count taken is h
by_parts (state.At [] here m) Between false bs count taken text is h = absurd (true≢false (sym text))
by_parts (state.At (parent ∷ outer) here m) Between false bs count taken text is h = absurd (true≢false (sym text))
by_parts s octet false bs count taken text is h = absurd (true≢false (sym text))

-- an end tag that is put at once is what the machine puts byte by byte
pub ending_put : (scan next : Scan) (bs : List ℕ) (count taken : ℕ) → is_in_text scan ≡ true → IsEnding bs (spelled_at scan.state) count
    → count + 3 ≤ 262144 - taken → next ≡ with_ending scan → run (Going scan taken) (take (count + 3) bs) ≡ Going next (taken + (count + 3))
ending_put scan next bs count taken text is most e =
    by_parts scan.state scan.octet scan.returned bs count taken text is (omega (arith, most))
    ∙ ap (λ s. Going s (taken + (count + 3))) (sym e)

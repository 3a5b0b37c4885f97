-- The end of an empty element's tag that is taken at once is the one that the machine takes byte by byte.
use Rattle.std.proofs.Common.{◌≡◌, ℕ, ◌+◌, ◌-◌, ◌<◌, ◌≤◌, Bool, true, false, cond, take, codes, List, [], ◌∷◌, Option, Some, None, refl}
use Rattle.std.proofs.Common.{sym, ap, ◌∙◌, arith, true≢false}
use Rattle.std.proofs.lemmas.Bool.{lt-ltb}
use Rattle.ba_xml_words.specs.Classes.{class_of, mark_of}
use Rattle.ba_xml_words.specs.inside.Octets.{lead}
use Rattle.ba_xml_names.specs.Namespaces.{opening, scope}
use Rattle.ba_xml_names.specs.inside.Levels.{settled, with_child, empty_tree}
use Rattle.ba_xml_reader.specs.inside.Machine.{run, reading_after, counted, reading_at, state_after, turned}
use Rattle.ba_xml_reader.specs.inside.Empties.{emptied, is_in_tag, two_on, with_empty}
use Rattle.ba_xml_reader.specs.inside.Readings.{Refused, Going}
use Rattle.ba_xml_reader.specs.inside.Tags.{slashed_at}
use Rattle.ba_xml_reader.specs.inside.Turns as turn
use Rattle.ba_xml_words.specs.declared.classes.Class.TheVariants as class
use Rattle.ba_xml_words.specs.declared.faults.Reason.TheVariants as reason
use Rattle.ba_xml_words.specs.declared.octets.Octet.{Octet}
use Rattle.ba_xml_words.specs.declared.octets.Octet.TheVariants.{Between}
use Rattle.ba_xml_names.specs.declared.levels.Level.{Level}
use Rattle.ba_xml_names.specs.declared.levels.Opening.{Opening}
use Rattle.ba_xml_names.specs.declared.tags.Tag.{Tag}
use Rattle.ba_xml_reader.specs.declared.machine.Refusal.{Refusal}
use Rattle.ba_xml_reader.specs.declared.machine.Scan.{Scan}
use Rattle.ba_xml_reader.specs.declared.states.Mode.TheVariants as mode
use Rattle.ba_xml_reader.specs.declared.states.Seen.TheVariants.{Zero}
use Rattle.ba_xml_reader.specs.declared.states.State.{State}
use Rattle.ba_xml_reader.specs.declared.states.State.TheVariants as state
use Rattle.ba_xml_reader.proofs.CompleteSteps.{by_kind}
use Rattle.ba_xml_reader.proofs.PutOn.{is_single, calm_scan, turn_on, turn_refused, once}
use Rattle.ba_xml_reader.proofs.Runs.{run_more, run_refused}
use Rattle.ba_xml_reader.proofs.WholePairs.{run_one}

pub slash_kind : class_of 47 ≡ class.Slash
unfolding class_of mark_of
slash_kind = refl

pub greater_kind : class_of 62 ≡ class.Greater
unfolding class_of mark_of
greater_kind = refl

pub slash_single : is_single (lead 47) ≡ true
unfolding lead
slash_single = refl

pub greater_single : is_single (lead 62) ≡ true
unfolding lead
greater_single = refl

-- a byte with which no text goes on
refused_once : (scan : Scan) (taken b : ℕ) → turned scan b ≡ turn.Refused reason.Namespace → taken < 262144
    → reading_after (Going scan taken) b ≡ Refused reason.Namespace taken
unfolding reading_after
refused_once scan taken b e h =
    ap (λ t. counted taken t) e ∙ ap (λ t. Refused (cond t reason.Namespace reason.Namespace) taken) (lt-ltb taken 262144 h)

module _ (outer : List Level) (here : Level) (tag : Tag) (spaced : Bool) where
  abbrev in_tag : Scan
  in_tag = calm_scan (state.At outer here (mode.InTag tag spaced))

  abbrev slashed : Opening → Scan
  slashed o = calm_scan (state.At outer here (mode.Slashed o))

  abbrev emptied_scan : Opening → Scan
  emptied_scan o = calm_scan (state.At outer (with_child (settled here) (empty_tree o)) (mode.Inside Zero))

  slash_state : (found : Option Opening) → opening (scope (here ∷ outer)) tag ≡ found
      → state_after (state.At outer here (mode.InTag tag spaced)) 47 ≡ slashed_at outer here found
  slash_state found e =
      by_kind outer here (mode.InTag tag spaced) 47 class.Slash slash_kind ∙ ap (λ x. slashed_at outer here x) e

  greater_turn : (o : Opening) → turned (slashed o) 62 ≡ turn.On (emptied_scan o)
  greater_turn o =
      turn_on outer outer here (with_child (settled here) (empty_tree o)) (mode.Slashed o) (mode.Inside Zero) 62 greater_single refl
      (by_kind outer here (mode.Slashed o) 62 class.Greater greater_kind)

  by_opening : (found : Option Opening) (taken : ℕ) → opening (scope (here ∷ outer)) tag ≡ found → taken + 2 ≤ 262144
      → run (Going in_tag taken) (47 ∷ 62 ∷ []) ≡ two_on (emptied outer here found) Between false taken
  by_opening None taken e h =
      run_more (Going in_tag taken) 47 (62 ∷ [])
      ∙ ap (λ r. run r (62 ∷ [])) (refused_once in_tag taken 47 slash below)
      ∙ run_refused reason.Namespace taken (62 ∷ [])
    where
      below : taken < 262144
      below = omega (arith, h)

      slash : turned in_tag 47 ≡ turn.Refused reason.Namespace
      slash = turn_refused outer here (mode.InTag tag spaced) 47 reason.Namespace slash_single refl (slash_state None e)
  by_opening (Some o) taken e h =
      run_more (Going in_tag taken) 47 (62 ∷ [])
      ∙ ap (λ r. run r (62 ∷ [])) (once in_tag (slashed o) taken 47 slash below)
      ∙ run_one (slashed o) (emptied_scan o) (taken + 1) 62 (greater_turn o) second
      ∙ ap (λ n. Going (emptied_scan o) n) same
    where
      below : taken < 262144
      below = omega (arith, h)

      second : taken + 1 < 262144
      second = omega (arith, h)

      same : taken + 1 + 1 ≡ taken + 2
      same = omega arith

      slash : turned in_tag 47 ≡ turn.On (slashed o)
      slash = turn_on outer outer here here (mode.InTag tag spaced) (mode.Slashed o) 47 slash_single refl (slash_state (Some o) e)

by_parts : (s : State) (octet : Octet) (returned : Bool) (taken : ℕ)
    → is_in_tag (record { state = s; octet = octet; returned = returned }) ≡ true → taken + 2 ≤ 262144
    → run (Going (record { state = s; octet = octet; returned = returned }) taken) (codes "/>")
    ≡ with_empty (record { state = s; octet = octet; returned = returned }) taken
by_parts s octet true taken is h = absurd (true≢false (sym is))
by_parts (state.Refused r) Between false taken is h = absurd (true≢false (sym is))
by_parts (state.At outer here (mode.InTag tag spaced)) Between false taken is h =
    by_opening outer here tag spaced (opening (scope (here ∷ outer)) tag) taken refl h
by_parts (state.At outer here m) Between false taken is h = absurd (true≢false (sym is))
by_parts s octet false taken is h = absurd (true≢false (sym is))

-- the end of an empty element's tag that is put at once is what the machine puts byte by byte
pub empty_put : (scan next : Scan) (bs : List ℕ) (refusal : Option Refusal) (count taken : ℕ) → is_in_tag scan ≡ true → count ≡ 2
    → take 2 bs ≡ codes "/>" → 2 ≤ 262144 - taken → reading_at next (taken + 2) refusal ≡ with_empty scan taken
    → run (Going scan taken) (take count bs) ≡ reading_at next (taken + count) refusal
empty_put scan next bs refusal count taken is two begun most e =
    ap (λ n. run (Going scan taken) (take n bs)) two
    ∙ ap (λ xs. run (Going scan taken) xs) begun
    ∙ by_parts scan.state scan.octet scan.returned taken is (omega (arith, most))
    ∙ sym e
    ∙ ap (λ n. reading_at next (taken + n) refusal) (sym two)

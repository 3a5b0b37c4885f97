-- Where the machine takes bytes, each of them, some bytes continue them to a text.
use Rattle.std.proofs.Common.{◌≡◌, ℕ, ◌+◌, ◌<◌, ◌≤◌, Bool, true, false, cond, not, ◌&&◌, ◌==◌, nat_lt, ◌⊎◌, inl, inr, List, [], ◌∷◌, ◌++◌}
use Rattle.std.proofs.Common.{refl, sym, ap, subst, ◌∙◌, arith, le-ltb}
use Rattle.std.proofs.lemmas.Bool.{ltb-true, ltb-false, eqb-true, ne_eqb, and_parts, and_right, cond-false, not-true}
use Rattle.ba_tree.specs.Characters.{is_legal}
use Rattle.ba_xml_places.proofs.Closings.{closes}
use Rattle.ba_xml_places.proofs.Ends.{finish, finishes, finish_plain}
use Rattle.ba_xml_places.proofs.Leads.{Headed, IsBegun, Leads, Goes}
use Rattle.ba_xml_places.proofs.Live.{ArePlain, PlainAround, Live}
use Rattle.ba_xml_places.proofs.LiveSteps.{live_after}
use Rattle.ba_xml_places.proofs.Octets.{IsFreeMode, IsFree, FitsMode, Fits, after_BB, after_BF, high_fits, low_fits, free_after, low_was}
use Rattle.ba_xml_places.proofs.Octets.{low_between}
use Rattle.ba_xml_places.proofs.StepBack.{goes_back}
use Rattle.ba_xml_places.specs.inside.Taken.{IsTaken}
use Rattle.ba_xml_reader.proofs.CompleteCharacters.{octets, octets_append, lead_one}
use Rattle.ba_xml_reader.proofs.CompleteLayers.{run_none, run_one, line_step, scanned}
use Rattle.ba_xml_reader.proofs.CompleteSteps.{steps, none, one}
use Rattle.ba_xml_reader.proofs.Dead.{run_refused}
use Rattle.ba_xml_reader.proofs.SoundBack.{back}
use Rattle.ba_xml_reader.proofs.SoundBytes.{Fine, document_full}
use Rattle.ba_xml_reader.proofs.SoundCharacters.{IsLow, AreLow, broken, same_octet, characters_back}
use Rattle.ba_xml_reader.proofs.SoundDocuments.{top}
use Rattle.ba_xml_reader.proofs.SoundText.{low_character}
use Rattle.ba_xml_words.specs.inside.Octets.{octet_after}
use Rattle.ba_xml_grammar.specs.Grammar.{Document, written_document, written_mark, written_heading, written_misc, written, IsDocument}
use Rattle.ba_xml_grammar.specs.Grammar.{no_head}
use Rattle.ba_xml_grammar.specs.GrammarTexts.{lines, IsWellFormed, CanContinue}
use Rattle.ba_xml_grammar.specs.GrammarWords.{Each}
use Rattle.ba_xml_reader.specs.inside.Machine.{document, start, run, state_after, line_end, unless_returned, turned_by, turned_from}
use Rattle.ba_xml_reader.specs.inside.Machine.{counted, reason_at}
use Rattle.ba_xml_words.specs.declared.faults.Reason.{Reason}
use Rattle.ba_xml_words.specs.declared.faults.Reason.TheVariants as reason
use Rattle.ba_xml_reader.specs.declared.machine.Scan.{Scan}
use Rattle.ba_xml_reader.specs.inside.Readings.{Reading}
use Rattle.ba_xml_reader.specs.inside.Readings as reading
use Rattle.ba_xml_words.specs.declared.octets.Octet.{Octet}
use Rattle.ba_xml_words.specs.declared.octets.Octet.TheVariants.{Between, One, Two, Three, AfterE0, AfterED, AfterEF, AfterEFBF, AfterF0}
use Rattle.ba_xml_words.specs.declared.octets.Octet.TheVariants.{AfterF4}
use Rattle.ba_xml_words.specs.declared.octets.Decoding.{Decoding}
use Rattle.ba_xml_words.specs.declared.octets.Decoding.TheVariants as decoding
use Rattle.ba_xml_names.specs.declared.levels.Level.{Level}
use Rattle.ba_xml_reader.specs.declared.states.Mode.{Mode}
use Rattle.ba_xml_reader.specs.declared.states.Mode.TheVariants as mode
use Rattle.ba_xml_reader.specs.declared.states.Seen.TheVariants.{Zero}
use Rattle.ba_xml_reader.specs.declared.states.State.{State}
use Rattle.ba_xml_reader.specs.declared.states.State.TheVariants as state

-- ---- all bytes backward

step_back : (s : State) (last b : ℕ) (bs : List ℕ) → Live last s → Goes (state_after s b) bs → Goes s (b ∷ bs)
unfolding state_after
step_back (state.Refused r) last b bs l g = g
step_back (state.At outer here m) last b bs l g = goes_back outer here m last b bs l.1 g

pub steps_back : (bs : List ℕ) (s : State) (last : ℕ) (cs : List ℕ) → Live last s → Goes (steps s bs) cs → Goes s (bs ++ cs)
steps_back [] s last cs l g = subst (λ t. Goes t cs) (none s) g
steps_back (b ∷ bs) s last cs l g = step_back s last b (bs ++ cs) l
    (steps_back bs (state_after s b) b cs (live_after s last b l) (subst (λ t. Goes t cs) (one s (state_after s b) b bs refl) g))

-- ---- what holds behind raw bytes

abbrev pub IsReached : Octet → State → Type 0
IsReached o s = (last : ℕ) × Live last s × Fits o s

not_low : (b : ℕ) → nat_lt b 128 ≡ false → 128 ≤ b
not_low b e = ltb-false b 128 e

low_end : (b : ℕ) → b < 128 → line_end b < 128
low_end b h = by (b == 13)
  where
    ten : 10 < 128
    ten = omega arith

    by : (q : Bool) → cond q 10 b < 128
    by true = ten
    by false = h

high_end : (b : ℕ) → 128 ≤ b → line_end b ≡ b
high_end b h = cond-false (b == 13) 10 b (ne_eqb b 13 (λ e. omega (arith, e, h)))

stepped : (s : State) (last : ℕ) (o p : Octet) (b : ℕ) → Live last s → Fits o s → octet_after o b ≡ decoding.At p
    → IsReached p (state_after s (line_end b))
stepped s last o p b l f e = by (nat_lt b 128) refl
  where
    next : Live (line_end b) (state_after s (line_end b))
    next = live_after s last (line_end b) l

    by : (q : Bool) → nat_lt b 128 ≡ q → IsReached p (state_after s (line_end b))
    by true q = (
      line_end b,
      next,
      low_fits (state_after s (line_end b)) (line_end b) p next (low_end b (ltb-true b 128 q)) (low_between o p b (ltb-true b 128 q) e),
    )
    by false q = (
      line_end b,
      next,
      subst (λ c. Fits p (state_after s c)) (sym (high_end b (not_low b q))) (high_fits s last o p b (not_low b q) l f e),
    )

skipped : (s : State) (last : ℕ) (o p : Octet) (b : ℕ) → b ≡ 10 → Live last s → Fits o s → octet_after o b ≡ decoding.At p → IsReached p s
skipped s last o p b n l f e = (last, l, subst (λ x. Fits x s) (low_was o p b low e ∙ sym (low_between o p b low e)) f)
  where
    low : b < 128
    low = omega (arith, n)

pub returned_step : (s : State) (last : ℕ) (o p : Octet) (returned : Bool) (b : ℕ) → Live last s → Fits o s
    → octet_after o b ≡ decoding.At p
    → IsReached p (unless_returned s returned b)
returned_step s last o p returned b l f e = by (returned && b == 10) refl
  where
    by : (q : Bool) → (returned && b == 10) ≡ q → IsReached p (cond q s (state_after s (line_end b)))
    by true q = skipped s last o p b (eqb-true b 10 (and_parts returned (b == 10) q).1) l f e
    by false q = stepped s last o p b l f e

pub reached : (bs : List ℕ) (s : State) (last : ℕ) (o : Octet) (returned : Bool) (at : Octet) → Live last s → Fits o s
    → octets (decoding.At o) bs ≡ decoding.At at → IsReached at (steps s (lines returned bs))
reached [] s last o returned at l f e =
    subst (λ t. IsReached at t) (sym (none s)) (last, l, subst (λ x. Fits x s) (same_octet o at e) f)
reached (b ∷ bs) s last o returned at l f e =
    subst (λ t. IsReached at t) (sym (line_step s returned b bs)) (by (λ t x p. reached bs t x p (b == 13) at) (octet_after o b) refl e)
  where
    by : ((t : State) (x : ℕ) (p : Octet) → Live x t → Fits p t → octets (decoding.At p) bs ≡ decoding.At at
        → IsReached at (steps t (lines (b == 13) bs)))
        → (d : Decoding) → octet_after o b ≡ d → octets d bs ≡ decoding.At at
        → IsReached at (steps (unless_returned s returned b) (lines (b == 13) bs))
    by ih (decoding.Broken r) g h = absurd (broken r bs at h)
    by ih (decoding.At p) g h =
        let r = returned_step s last o p returned b l f g in
        ih (unless_returned s returned b) r.0 p r.1 r.2 h

-- ---- what closes a state

-- no byte below 20
abbrev pub is_printed : ℕ → Bool
is_printed b = not (nat_lt b 32)

-- these bytes may follow, whatever line end came before
abbrev pub Closing : Octet → State → Type 0
Closing o s = (cs : List ℕ) × Each is_printed cs × (octets (decoding.At o) cs ≡ decoding.At Between) × Goes s cs

pub plain_printed : (cs : List ℕ) → ArePlain cs → Each is_printed cs
plain_printed [] p = tt
plain_printed (c ∷ cs) p = ((and_parts (nat_lt c 128) (is_printed c) p.0).1, plain_printed cs p.1)

pub plain_octets : (cs : List ℕ) → ArePlain cs → octets (decoding.At Between) cs ≡ decoding.At Between
plain_octets [] p = refl
plain_octets (c ∷ cs) p =
    ap (λ d. octets d cs) (lead_one c (ltb-true c 128 (and_parts (nat_lt c 128) (is_printed c) p.0).0)) ∙ plain_octets cs p.1

-- the rest of a character
pub tail : Octet → List ℕ
tail Between = []
tail One = 0x80 ∷ []
tail Two = 0x80 ∷ 0x80 ∷ []
tail Three = 0x80 ∷ 0x80 ∷ 0x80 ∷ []
tail AfterE0 = 0xA0 ∷ 0x80 ∷ []
tail AfterED = 0x80 ∷ 0x80 ∷ []
tail AfterEF = 0x80 ∷ 0x80 ∷ []
tail AfterEFBF = 0x80 ∷ []
tail AfterF0 = 0x90 ∷ 0x80 ∷ 0x80 ∷ []
tail AfterF4 = 0x80 ∷ 0x80 ∷ 0x80 ∷ []

abbrev is_high : ℕ → Bool
is_high b = not (nat_lt b 128)

tail_high : (o : Octet) → Each is_high (tail o)
unfolding tail
tail_high Between = tt
tail_high One = (refl, tt)
tail_high Two = (refl, (refl, tt))
tail_high Three = (refl, (refl, (refl, tt)))
tail_high AfterE0 = (refl, (refl, tt))
tail_high AfterED = (refl, (refl, tt))
tail_high AfterEF = (refl, (refl, tt))
tail_high AfterEFBF = (refl, tt)
tail_high AfterF0 = (refl, (refl, (refl, tt)))
tail_high AfterF4 = (refl, (refl, (refl, tt)))

pub tail_octets : (o : Octet) → octets (decoding.At o) (tail o) ≡ decoding.At Between
unfolding tail octet_after
tail_octets Between = refl
tail_octets One = refl
tail_octets Two = refl
tail_octets Three = refl
tail_octets AfterE0 = refl
tail_octets AfterED = refl
tail_octets AfterEF = refl
tail_octets AfterEFBF = refl
tail_octets AfterF0 = refl
tail_octets AfterF4 = refl

is_printed_high : (b : ℕ) → 128 ≤ b → is_printed b ≡ true
is_printed_high b h = ap not (le-ltb b 32 (omega (arith, h)))

high_at : (b : ℕ) → is_high b ≡ true → 128 ≤ b
high_at b e = ltb-false b 128 (not-true (nat_lt b 128) e)

printed_joined : (xs ys : List ℕ) → Each is_high xs → Each is_printed ys → Each is_printed (xs ++ ys)
printed_joined [] ys p q = q
printed_joined (x ∷ xs) ys p q = (is_printed_high x (high_at x p.0), printed_joined xs ys p.1 q)

free_steps : (bs : List ℕ) (s : State) (last : ℕ) → Each is_high bs → Live last s → IsFree s → (x : ℕ) × Live x (steps s bs)
    × IsFree (steps s bs)
free_steps [] s last h l f = (last, subst (λ t. Live last t) (sym (none s)) l, subst (λ t. IsFree t) (sym (none s)) f)
free_steps (b ∷ bs) s last h l f =
    let r = free_steps bs (state_after s b) b h.1 (live_after s last b l) (free_after s last b (high_at b h.0) l f) in (
      r.0,
      subst (λ t. Live r.0 t) (sym (one s (state_after s b) b bs refl)) r.1,
      subst (λ t. IsFree t) (sym (one s (state_after s b) b bs refl)) r.2,
    )

free_mode : (outer : List Level) (here : Level) (m : Mode) (last : ℕ) → Live last (state.At outer here m) → IsFreeMode outer m
    → (cs : List ℕ) × ArePlain cs × Leads outer here m cs
free_mode outer here (mode.Inside seen) last l f = closes outer here (mode.Inside seen) last l.0 tt l.1
free_mode outer here (mode.Comment seen) last l f = closes outer here (mode.Comment seen) last l.0 tt l.1
free_mode outer here (mode.Section body seen) last l f = closes outer here (mode.Section body seen) last l.0 tt l.1
free_mode outer here (mode.Value t a quote) last l f = closes outer here (mode.Value t a quote) last l.0 tt l.1
free_mode outer here _ last l f = absurd f

free_state : (s : State) (last : ℕ) → Live last s → IsFree s → (cs : List ℕ) × ArePlain cs × Goes s cs
free_state (state.Refused r) last l f = absurd f
free_state (state.At outer here m) last l f = free_mode outer here m last l f

-- a state that takes bytes of 80 or more
free_closing : (s : State) (last : ℕ) (o : Octet) → Live last s → IsFree s → Closing o s
free_closing s last o l f =
    let r = free_steps (tail o) s last (tail_high o) l f in
    let c = free_state (steps s (tail o)) r.0 r.1 r.2 in (
      tail o ++ c.0,
      printed_joined (tail o) c.0 (tail_high o) (plain_printed c.0 c.1),
      octets_append (tail o) c.0 o Between (tail_octets o) ∙ plain_octets c.0 c.1,
      steps_back (tail o) s last c.0 l c.2,
    )

between_closing : (outer : List Level) (here : Level) (m : Mode) (o : Octet) → o ≡ Between
    → (c : (cs : List ℕ) × ArePlain cs × Leads outer here m cs)
    → Closing o (state.At outer here m)
between_closing outer here m o e c =
    (c.0, plain_printed c.0 c.1, ap (λ x. octets (decoding.At x) c.0) e ∙ plain_octets c.0 c.1, c.2)

finish_headed : (outer : List Level) (here : Level) → Headed outer here (finish outer here.content here.spelled)
finish_headed outer here = (no_head, finish outer here.content here.spelled, tt, refl, finishes outer here.content here.spelled Zero)

mark_one_closing : (outer : List Level) (here : Level) (o : Octet) → PlainAround outer here → o ≡ AfterEF
    → Closing o (state.At outer here mode.MarkOne)
mark_one_closing outer here o p e =
    let f = finish outer here.content here.spelled in
    let q : ArePlain f = finish_plain outer here.content here.spelled p.0 p.1 in (
      0xBB ∷ 0xBF ∷ f,
      (refl, (refl, plain_printed f q)),
      ap (λ x. octets (decoding.At x) (0xBB ∷ 0xBF ∷ f)) e ∙ ap (λ d. octets d (0xBF ∷ f)) after_BB ∙ ap (λ d. octets d f) after_BF
          ∙ plain_octets f q,
      (f, refl, finish_headed outer here),
    )

mark_two_closing : (outer : List Level) (here : Level) (o : Octet) → PlainAround outer here → o ≡ One
    → Closing o (state.At outer here mode.MarkTwo)
mark_two_closing outer here o p e =
    let f = finish outer here.content here.spelled in
    let q : ArePlain f = finish_plain outer here.content here.spelled p.0 p.1 in (
      0xBF ∷ f,
      (refl, plain_printed f q),
      ap (λ x. octets (decoding.At x) (0xBF ∷ f)) e ∙ ap (λ d. octets d f) after_BF ∙ plain_octets f q,
      (f, refl, finish_headed outer here),
    )

either_closing : (outer : List Level) (here : Level) (m : Mode) (last : ℕ) (o : Octet) → Live last (state.At outer here m)
    → (c : (cs : List ℕ) × ArePlain cs × Leads outer here m cs) → (o ≡ Between) ⊎ IsFreeMode outer m → Closing o (state.At outer here m)
either_closing outer here m last o l c (inl e) = between_closing outer here m o e c
either_closing outer here m last o l c (inr f) = free_closing (state.At outer here m) last o l f

closing : (outer : List Level) (here : Level) (m : Mode) (last : ℕ) (o : Octet) → Live last (state.At outer here m) → FitsMode o outer m
    → Closing o (state.At outer here m)
closing outer here mode.MarkOne last o l f = mark_one_closing outer here o l.0 f
closing outer here mode.MarkTwo last o l f = mark_two_closing outer here o l.0 f
closing outer here m last o l f = either_closing outer here m last o l (closes outer here m last l.0 tt l.1) f

abbrev pub IsGoing : State → Type 0
IsGoing (state.Refused r) = ⊥
IsGoing (state.At outer here m) = Unit {0}

pub closed_state : (s : State) (last : ℕ) (o : Octet) → IsGoing s → Live last s → Fits o s → Closing o s
closed_state (state.Refused r) last o g l f = absurd g
closed_state (state.At outer here m) last o g l f = closing outer here m last o l f

-- ---- a run that goes on stands in a state that goes on

refused_going : (r : Reason) (m n : ℕ) (scan : Scan) → reading.Refused r m ≡ reading.Going scan n → ⊥
refused_going r m n scan e = cc

going_by : (b : ℕ) (bs : List ℕ) (s : State) (o : Octet) (taken : ℕ) (scan : Scan) (n : ℕ)
    → ((next : Scan) (k : ℕ) → IsGoing next.state → run (reading.Going next k) bs ≡ reading.Going scan n → IsGoing scan.state)
    → run (counted taken (turned_by s o b)) bs ≡ reading.Going scan n → IsGoing scan.state
going_by b bs (state.Refused x) o taken scan n ih e =
    absurd (refused_going (reason_at taken x) taken n scan (sym (run_refused (reason_at taken x) taken bs) ∙ e))
going_by b bs (state.At outer here m) o taken scan n ih e = by (nat_lt taken 262144) e
  where
    by : (q : Bool) → run (cond q (reading.Going (scanned (state.At outer here m) o (b == 13)) (taken + 1))
        (reading.Refused reason.Size taken)) bs ≡ reading.Going scan n
        → IsGoing scan.state
    by true g = ih (scanned (state.At outer here m) o (b == 13)) (taken + 1) tt g
    by false g = absurd (refused_going reason.Size taken n scan (sym (run_refused reason.Size taken bs) ∙ g))

scan_in : Reading → Scan
scan_in (reading.Refused r n) = start
scan_in (reading.Going scan n) = scan

same_scan : (x y : Scan) (m n : ℕ) → reading.Going x m ≡ reading.Going y n → x ≡ y
unfolding scan_in
same_scan x y m n e = ap scan_in e

pub going : (bs : List ℕ) (scan : Scan) (taken : ℕ) (last : Scan) (n : ℕ) → IsGoing scan.state
    → run (reading.Going scan taken) bs ≡ reading.Going last n
    → IsGoing last.state
going [] scan taken last n g e = subst (λ x. IsGoing x.state)
    (same_scan scan last taken n (sym (run_none (reading.Going scan taken)) ∙ e)) g
going (b ∷ bs) scan taken last n g e =
    by (λ next k h i. going bs next k last n h i) (octet_after scan.octet b) (sym (run_one scan taken b bs) ∙ e)
  where
    by : ((next : Scan) (k : ℕ) → IsGoing next.state → run (reading.Going next k) bs ≡ reading.Going last n → IsGoing last.state)
        → (d : Decoding) → run (counted taken (turned_from scan b d)) bs ≡ reading.Going last n → IsGoing last.state
    by ih (decoding.Broken x) f = absurd (refused_going (reason_at taken x) taken n last
        (sym (run_refused (reason_at taken x) taken bs) ∙ f))
    by ih (decoding.At o) f = going_by b bs (unless_returned scan.state scan.returned b) o taken last n ih f

-- ---- line ends, and characters

lines_same : (cs : List ℕ) (returned : Bool) → Each is_printed cs → lines returned cs ≡ cs
lines_same [] returned p = refl
lines_same (c ∷ cs) returned p =
    cond-false (returned && c == 10) _ _ (and_right returned (c == 10) (other 10 ten)) ∙ cond-false (c == 13) _ _ (other 13 thirteen)
    ∙ ap (λ x. c ∷ x) (lines_same cs false p.1)
  where
    ten : 10 < 32
    ten = omega arith

    thirteen : 13 < 32
    thirteen = omega arith

    least : 32 ≤ c
    least = ltb-false c 32 (not-true (nat_lt c 32) p.0)

    other : (n : ℕ) → n < 32 → (c == n) ≡ false
    other n l = ne_eqb c n (λ e. omega (arith, least, e, l))

pub lines_joined : (bs cs : List ℕ) (returned : Bool) → Each is_printed cs → lines returned (bs ++ cs) ≡ lines returned bs ++ cs
lines_joined [] cs returned p = lines_same cs returned p
lines_joined (b ∷ bs) cs returned p = by (λ r. lines_joined bs cs r p) (returned && b == 10) (b == 13)
  where
    by : ((r : Bool) → lines r (bs ++ cs) ≡ lines r bs ++ cs) → (x y : Bool)
        → cond x (lines false (bs ++ cs)) (cond y (10 ∷ lines true (bs ++ cs)) (b ∷ lines false (bs ++ cs)))
        ≡ cond x (lines false bs) (cond y (10 ∷ lines true bs) (b ∷ lines false bs)) ++ cs
    by ih true y = ih false
    by ih false true = ap (λ l. 10 ∷ l) (ih true)
    by ih false false = ap (λ l. b ∷ l) (ih false)

lines_low : (bytes : List ℕ) (returned : Bool) → Fine (lines returned bytes) → AreLow bytes
lines_low [] returned f = tt
lines_low (b ∷ bs) returned f = by (λ r g. lines_low bs r g) (returned && b == 10) (b == 13) refl refl f
  where
    at : (n : ℕ) → is_legal n ≡ true → (b == n) ≡ true → IsLow b
    at n l e = λ h. subst (λ x. is_legal x ≡ true) (sym (eqb-true b n e)) l

    by : ((r : Bool) → Fine (lines r bs) → AreLow bs) → (x y : Bool) → (returned && b == 10) ≡ x → (b == 13) ≡ y
        → Fine (cond x (lines false bs) (cond y (10 ∷ lines true bs) (b ∷ lines false bs))) → AreLow (b ∷ bs)
    by ih true y p q f = (at 10 refl (and_parts returned (b == 10) p).1, ih false f)
    by ih false true p q f = (at 13 refl q, ih true f.2)
    by ih false false p q f = (low_character b f.0, ih false f.2)

-- ---- the document

abbrev IsDocumentText : List ℕ → Type 0
IsDocumentText bs = (d : Document) × IsDocument d × (bs ≡ written_document d)

document_of : (bs : List ℕ) → IsBegun [] document bs → IsDocumentText bs
document_of bs g =
    let h = g.3 in
    let o = h.4 in
    let r = o.4 in (
      record { mark = g.0; heading = h.0; before = o.0; root = r.0; behind = r.5.0 },
      (h.2, o.2, r.2, r.3, r.5.1),
      g.2 ∙ ap (written_mark g.0) (h.3 ∙ ap (written_heading h.0) (o.3 ∙ ap (written_misc o.0) (r.4 ∙ ap (λ x. written r.0 x) r.5.2))),
    )

pub continued : (bytes : List ℕ) (s : State) (o : Octet) → octets (decoding.At Between) bytes ≡ decoding.At o
    → steps (top mode.Begin) (lines false bytes) ≡ s → (c : Closing o s) → IsWellFormed (bytes ++ c.0)
continued bytes s o e f c =
    let joined : lines false (bytes ++ c.0) ≡ lines false bytes ++ c.0 = lines_joined bytes c.0 false c.1 in
    let d : IsDocumentText (lines false bytes ++ c.0) = document_of (lines false bytes ++ c.0)
    (steps_back (lines false bytes) (top mode.Begin) 0 c.0 ((tt, tt), tt) (subst (λ t. Goes t c.0) (sym f) c.3)) in
    let passed : octets (decoding.At Between) (bytes ++ c.0) ≡ decoding.At Between = octets_append bytes c.0 Between o e ∙ c.2 in
    let low : AreLow (bytes ++ c.0) =
    lines_low (bytes ++ c.0) false (subst (λ x. Fine x) (sym (joined ∙ d.2)) (document_full d.0 d.1).1) in
    (d.0, (characters_back (bytes ++ c.0) low passed, d.1, joined ∙ d.2))

-- where the machine takes bytes, each of them, some bytes continue them to a text
pub viable : (bytes : List ℕ) → IsTaken bytes → CanContinue bytes
viable bytes t =
    let r = back bytes (top mode.Begin) Between false 0 t.0 t.1 (omega arith) t.2 in
    let s : State = steps (top mode.Begin) (lines false bytes) in
    let x : IsReached t.0.octet s = reached bytes (top mode.Begin) 0 Between false t.0.octet ((tt, tt), tt) (inl refl) r.0 in
    let g : IsGoing s = subst IsGoing (sym r.1) (going bytes start 0 t.0 t.1 tt t.2) in
    let c : Closing t.0.octet s = closed_state s x.0 t.0.octet g x.1 x.2 in
    (c.0, continued bytes s t.0.octet r.0 refl c)

-- Bytes that are put on all at once are those that the machine puts on one by one.
use Rattle.std.proofs.Common.{◌≡◌, ℕ, zero, suc, take, drop, get_or, ◌-◌, ◌+◌, ◌<◌, ◌≤◌, Bool, true, false, cond, not, ◌&&◌, ◌||◌, ◌==◌}
use Rattle.std.proofs.Common.{nat_lt}
use Rattle.std.proofs.Common.{List, [], ◌∷◌, ◌++◌, length, refl, sym, ap, ◌∙◌, subst, arith, append_assoc, append-nil, true≢false}
use Rattle.std.specs.List.{list_all}
use Rattle.std.proofs.lemmas.List.{length-take-le}
use Rattle.std.proofs.lemmas.Bool.{ltb-true, lt-ltb, eqb-true, eqb-false}
use Rattle.ba_xml_words.specs.Classes.{class_of, mark_of}
use Rattle.ba_xml_names.specs.inside.Levels.{put}
use Rattle.ba_xml_reader.specs.inside.Machine.{run, reading_after, counted, turned, turned_by, turned_from, state_after, act_by}
use Rattle.ba_xml_words.specs.inside.Names.{with_letters}
use Rattle.ba_xml_words.specs.inside.Octets.{octet_after, lead}
use Rattle.ba_xml_reader.specs.inside.Spans.{is_plain, is_letter, is_put, is_none, is_run, is_run_in, before_name, puts_inside, with_span}
use Rattle.ba_xml_reader.specs.inside.Spans.{with_span_at, with_span_in}
use Rattle.ba_xml_words.specs.inside.Remaining.{is_front}
use Rattle.ba_xml_names.specs.inside.Tags.{with_attribute}
use Rattle.ba_xml_reader.specs.inside.Tags.{value_by, value_more, end_name_by}
use Rattle.ba_xml_words.specs.declared.classes.Class.{Class}
use Rattle.ba_xml_words.specs.declared.classes.Class.TheVariants as class
use Rattle.ba_xml_words.specs.declared.faults.Reason.{Reason}
use Rattle.ba_xml_words.specs.declared.faults.Reason.TheVariants as reason
use Rattle.ba_xml_names.specs.declared.levels.Level.{Level}
use Rattle.ba_xml_reader.specs.declared.machine.Scan.{Scan}
use Rattle.ba_xml_reader.specs.inside.Turns as turn
use Rattle.ba_xml_reader.specs.inside.Readings.{Refused, Going}
use Rattle.ba_xml_words.specs.declared.names.RawName.{RawName}
use Rattle.ba_xml_words.specs.declared.names.RawAttribute.{RawAttribute}
use Rattle.ba_xml_words.specs.declared.octets.Octet.{Octet}
use Rattle.ba_xml_words.specs.declared.octets.Octet.TheVariants.{Between}
use Rattle.ba_xml_words.specs.declared.octets.Decoding.{Decoding}
use Rattle.ba_xml_words.specs.declared.octets.Decoding.TheVariants as decoding
use Rattle.ba_xml_words.specs.declared.remaining.Meeting.TheVariants as meeting
use Rattle.ba_xml_reader.specs.declared.spans.Puts.TheVariants as puts'
use Rattle.ba_xml_reader.specs.declared.states.Mode.{Mode}
use Rattle.ba_xml_reader.specs.declared.states.Mode.TheVariants as mode
use Rattle.ba_xml_reader.specs.declared.states.Seen.{Seen}
use Rattle.ba_xml_reader.specs.declared.states.Seen.TheVariants.{Zero, One, Two}
use Rattle.ba_xml_reader.specs.declared.states.State.{State}
use Rattle.ba_xml_reader.specs.declared.states.State.TheVariants as state
use Rattle.ba_xml_names.specs.declared.tags.Tag.{Tag}
use Rattle.ba_xml_reader.proofs.CompleteNames.{letter_kind}
use Rattle.ba_xml_reader.proofs.CompleteSteps.{by_kind}
use Rattle.ba_xml_reader.proofs.Runs.{run_none, run_more}

-- ---- a table over the bytes of ASCII

abbrev all_under : (ℕ → Bool) → ℕ → Bool
all_under p zero = true
all_under p (suc n) = p n && all_under p n

pub both : (x y : Bool) → (x && y) ≡ true → (x ≡ true) × (y ≡ true)
both true y e = (refl, e)
both false y e = absurd (true≢false (sym e))

under : (p : ℕ → Bool) (n b : ℕ) → all_under p n ≡ true → b < n → p b ≡ true
under p zero b a h = absurd (none h)
  where
    none : b < 0 → ⊥
    none h = omega (arith, h)
under p (suc n) b a h = by (λ k. under p n b (both (p n) (all_under p n) a).1 k) (b == n) refl
  where
    below : (b ≡ n → ⊥) → b < n
    below ne = omega (arith, h, ne)

    by : (b < n → p b ≡ true) → (t : Bool) → (b == n) ≡ t → p b ≡ true
    by ih true e = subst (λ x. p x ≡ true) (sym (eqb-true b n e)) (both (p n) (all_under p n) a).0
    by ih false e = ih (below (eqb-false b n e))

-- a byte of this kind is put on as it stands
abbrev pub calm : Class → ℕ → Bool
calm class.Less b = false
calm class.Greater b = false
calm class.Ampersand b = false
calm class.CloseBracket b = false
calm class.Control b = false
calm class.High b = false
calm class.Apostrophe b = false
calm class.DoubleQuote b = false
calm class.Space b = b == 32
calm k b = true

abbrev pub is_single : Decoding → Bool
is_single (decoding.At Between) = true
is_single d = false

abbrev fits : ℕ → Bool
fits b = is_single (lead b) && (not (b == 13) && ((not (b == 34) && not (b == 39)) && calm (class_of b) b))

abbrev either_plain : ℕ → Bool
either_plain b = not (is_plain b) || fits b

abbrev either_letter : ℕ → Bool
either_letter b = not (is_letter b) || (is_single (lead b) && not (b == 13))

plain_table : all_under either_plain 128 ≡ true
unfolding class_of mark_of lead
plain_table = refl

letter_table : all_under either_letter 128 ≡ true
unfolding lead
letter_table = refl

given : (x y : Bool) → (not x || y) ≡ true → x ≡ true → y ≡ true
given true y e h = e
given false y e h = absurd (true≢false (sym h))

plain_fits : (b : ℕ) → is_plain b ≡ true → fits b ≡ true
plain_fits b h = given (is_plain b) (fits b) (under either_plain 128 b plain_table (ltb-true b 128 (both _ _ (both _ _ h).0).1)) h

pub letter_fits : (b : ℕ) → is_letter b ≡ true → (is_single (lead b) && not (b == 13)) ≡ true
letter_fits b h = given (is_letter b) (is_single (lead b) && not (b == 13))
    (under either_letter 128 b letter_table (ltb-true b 128 (both _ _ h).0)) h

pub no : (x : Bool) → not x ≡ true → x ≡ false
no true e = absurd (true≢false (sym e))
no false e = refl

single : (d : Decoding) → is_single d ≡ true → d ≡ decoding.At Between
single (decoding.At Between) e = refl
single d e = cc

-- ---- one byte

-- a reading between two characters
abbrev pub calm_scan : State → Scan
calm_scan s = record { state = s; octet = Between; returned = false }

pub turn_on : (outer out : List Level) (here in' : Level) (m n : Mode) (b : ℕ) → is_single (lead b) ≡ true → (b == 13) ≡ false
    → state_after (state.At outer here m) b ≡ state.At out in' n
    → turned (calm_scan (state.At outer here m)) b ≡ turn.On (calm_scan (state.At out in' n))
unfolding octet_after
turn_on outer out here in' m n b one other e =
    ap (λ d. turned_from (calm_scan (state.At outer here m)) b d) (single (lead b) one)
    ∙ ap (λ t. turned_by (state_after (state.At outer here m) (cond t 10 b)) Between b) other
    ∙ ap (λ s. turned_by s Between b) e
    ∙ ap (λ t. turn.On (record { state = state.At out in' n; octet = Between; returned = t })) other

pub turn_refused : (outer : List Level) (here : Level) (m : Mode) (b : ℕ) (r : Reason) → is_single (lead b) ≡ true → (b == 13) ≡ false
    → state_after (state.At outer here m) b ≡ state.Refused r → turned (calm_scan (state.At outer here m)) b ≡ turn.Refused r
unfolding octet_after
turn_refused outer here m b r one other e =
    ap (λ d. turned_from (calm_scan (state.At outer here m)) b d) (single (lead b) one)
    ∙ ap (λ t. turned_by (state_after (state.At outer here m) (cond t 10 b)) Between b) other
    ∙ ap (λ s. turned_by s Between b) e

text_step : (parent : Level) (outer : List Level) (here : Level) (b : ℕ) (k : Class) → class_of b ≡ k → calm k b ≡ true
    → state_after (state.At (parent ∷ outer) here (mode.Inside Zero)) b ≡ state.At (parent ∷ outer) (put here b) (mode.Inside Zero)
text_step parent outer here b class.Less e c = absurd (true≢false (sym c))
text_step parent outer here b class.Greater e c = absurd (true≢false (sym c))
text_step parent outer here b class.Ampersand e c = absurd (true≢false (sym c))
text_step parent outer here b class.CloseBracket e c = absurd (true≢false (sym c))
text_step parent outer here b class.Control e c = absurd (true≢false (sym c))
text_step parent outer here b k e c = by_kind (parent ∷ outer) here (mode.Inside Zero) b k e

value_kind : (outer : List Level) (here : Level) (tag : Tag) (a : RawAttribute) (quote b : ℕ) (k : Class) → calm k b ≡ true
    → value_by outer here tag a quote b k ≡ value_more outer here tag a quote b
value_kind outer here tag a quote b class.Less c = absurd (true≢false (sym c))
value_kind outer here tag a quote b class.Ampersand c = absurd (true≢false (sym c))
value_kind outer here tag a quote b class.Control c = absurd (true≢false (sym c))
value_kind outer here tag a quote b class.Space c = ap (λ x. value_more outer here tag a quote x) (sym (eqb-true b 32 c))
value_kind outer here tag a quote b k c = refl

value_step : (outer : List Level) (here : Level) (tag : Tag) (a : RawAttribute) (quote b : ℕ) → (b == quote) ≡ false
    → calm (class_of b) b ≡ true
    → state_after (state.At outer here (mode.Value tag a quote)) b ≡ value_more outer here tag a quote b
value_step outer here tag a quote b other c =
    by_kind outer here (mode.Value tag a quote) b (class_of b) refl
    ∙ ap (λ t. cond t (state.At outer here (mode.InTag (with_attribute tag a) false))
    (value_by outer here tag a quote b (class_of b))) other
    ∙ value_kind outer here tag a quote b (class_of b) c

-- what a plain byte is not
pub record IsCalm (b : ℕ) : Type 0 where
  pub one : is_single (lead b) ≡ true
  pub no_return : (b == 13) ≡ false
  pub no_double : (b == 34) ≡ false
  pub no_apostrophe : (b == 39) ≡ false
  pub kind : calm (class_of b) b ≡ true

pub plain_calm : (b : ℕ) → is_plain b ≡ true → IsCalm b
plain_calm b h =
    let all = both (is_single (lead b)) _ (plain_fits b h) in
    let more = both (not (b == 13)) _ all.1 in
    let quotes = both (not (b == 34) && not (b == 39)) (calm (class_of b) b) more.1 in
    let apart = both (not (b == 34)) (not (b == 39)) quotes.0 in
    record {
      one = all.0;
      no_return = no (b == 13) more.0;
      no_double = no (b == 34) apart.0;
      no_apostrophe = no (b == 39) apart.1;
      kind = quotes.1;
    }

-- ---- a run of them

pub once : (scan next : Scan) (taken b : ℕ) → turned scan b ≡ turn.On next → taken < 262144
    → reading_after (Going scan taken) b ≡ Going next (taken + 1)
unfolding reading_after
once scan next taken b e h =
    ap (λ t. counted taken t) e ∙ ap (λ t. cond t (Going next (taken + 1)) (Refused reason.Size taken)) (lt-ltb taken 262144 h)

grow : (f : List ℕ → Scan) (p : ℕ → Bool) → ((t : List ℕ) (b : ℕ) → p b ≡ true → turned (f t) b ≡ turn.On (f (t ++ b ∷ [])))
    → (t bs : List ℕ) (taken : ℕ) → list_all p bs ≡ true → taken + length bs ≤ 262144
    → run (Going (f t) taken) bs ≡ Going (f (t ++ bs)) (taken + length bs)
grow f p step t [] taken a h = run_none (Going (f t) taken) ∙ ap (λ x. Going (f x) taken) (sym (append-nil t))
    ∙ ap (λ n. Going (f (t ++ [])) n) same
  where
    same : taken ≡ taken + length {A = ℕ} []
    same = omega arith
grow f p step t (b ∷ bs) taken a h =
    run_more (Going (f t) taken) b bs
    ∙ ap (λ r. run r bs) (once (f t) (f (t ++ b ∷ [])) taken b (step t b (both (p b) (list_all p bs) a).0) below)
    ∙ grow f p step (t ++ b ∷ []) bs (taken + 1) (both (p b) (list_all p bs) a).1 within
    ∙ ap (λ x. Going (f x) (taken + 1 + length bs)) (append_assoc t (b ∷ []) bs)
    ∙ ap (λ n. Going (f (t ++ b ∷ bs)) n) same
  where
    below : taken < 262144
    below = omega (arith, h)

    within : taken + 1 + length bs ≤ 262144
    within = omega (arith, h)

    same : taken + 1 + length bs ≡ taken + length (b ∷ bs)
    same = omega arith

abbrev Runs : List Level → Level → Mode → List ℕ → ℕ → Type 0
Runs outer here m bs taken =
    run (Going (calm_scan (state.At outer here m)) taken) bs ≡ Going (calm_scan (with_span_in outer here m bs)) (taken + length bs)

text_runs : (parent : Level) (outer : List Level) (here : Level) (bs : List ℕ) (taken : ℕ) → list_all is_plain bs ≡ true
    → taken + length bs ≤ 262144 → Runs (parent ∷ outer) here (mode.Inside Zero) bs taken
text_runs parent outer here bs taken a h =
    grow (λ t. calm_scan (state.At (parent ∷ outer) (record here { text = t }) (mode.Inside Zero))) is_plain step here.text bs taken a h
  where
    step : (t : List ℕ) (b : ℕ) → is_plain b ≡ true
        → turned (calm_scan (state.At (parent ∷ outer) (record here { text = t }) (mode.Inside Zero))) b
        ≡ turn.On (calm_scan (state.At (parent ∷ outer) (record here { text = t ++ b ∷ [] }) (mode.Inside Zero)))
    step t b e =
        let is = plain_calm b e in
        turn_on (parent ∷ outer) (parent ∷ outer) (record here { text = t }) (record here { text = t ++ b ∷ [] }) (mode.Inside Zero)
        (mode.Inside Zero) b is.one is.no_return
        (text_step parent outer (record here { text = t }) b (class_of b) refl is.kind)

pub value_runs : (outer : List Level) (here : Level) (tag : Tag) (a : RawAttribute) (quote : ℕ) (bs : List ℕ) (taken : ℕ)
    → ((b : ℕ) → IsCalm b → (b == quote) ≡ false) → list_all is_plain bs ≡ true
    → taken + length bs ≤ 262144 → Runs outer here (mode.Value tag a quote) bs taken
value_runs outer here tag a quote bs taken apart all h =
    grow (λ t. calm_scan (state.At outer here (mode.Value tag (record { name = a.name; value = t }) quote))) is_plain step
    a.value bs taken all h
  where
    step : (t : List ℕ) (b : ℕ) → is_plain b ≡ true
        → turned (calm_scan (state.At outer here (mode.Value tag (record { name = a.name; value = t }) quote))) b
        ≡ turn.On (calm_scan (state.At outer here (mode.Value tag (record { name = a.name; value = t ++ b ∷ [] }) quote)))
    step t b e =
        let is = plain_calm b e in
        turn_on outer outer here here (mode.Value tag (record { name = a.name; value = t }) quote)
        (mode.Value tag (record { name = a.name; value = t ++ b ∷ [] }) quote) b is.one is.no_return
        (value_step outer here tag (record { name = a.name; value = t }) quote b (apart b is) is.kind)

pub name_runs : (outer : List Level) (here : Level) (m : RawName → Mode) (name : RawName) (bs : List ℕ) (taken : ℕ)
    → ((n : RawName) (b : ℕ) → act_by outer here (m n) b class.Letter ≡ state.At outer here (m (with_letters n (b ∷ []))))
    → list_all is_letter bs ≡ true → taken + length bs ≤ 262144
    → run (Going (calm_scan (state.At outer here (m name))) taken) bs ≡ Going (calm_scan (state.At outer here (m (with_letters name bs))))
    (taken + length bs)
name_runs outer here m name bs taken lettered all h =
    grow (λ t. calm_scan (state.At outer here (m (record { prefix = name.prefix; local = t })))) is_letter step name.local bs taken all h
  where
    step : (t : List ℕ) (b : ℕ) → is_letter b ≡ true
        → turned (calm_scan (state.At outer here (m (record { prefix = name.prefix; local = t })))) b
        ≡ turn.On (calm_scan (state.At outer here (m (record { prefix = name.prefix; local = t ++ b ∷ [] }))))
    step t b e =
        let is = both (is_single (lead b)) (not (b == 13)) (letter_fits b e) in
        turn_on outer outer here here (m (record { prefix = name.prefix; local = t }))
        (m (record { prefix = name.prefix; local = t ++ b ∷ [] })) b is.0 (no (b == 13) is.1)
        (by_kind outer here (m (record { prefix = name.prefix; local = t })) b class.Letter (letter_kind b (both (nat_lt b 128) _ e).1)
        ∙ lettered (record { prefix = name.prefix; local = t }) b)

nothing : (bs : List ℕ) → list_all (is_put puts'.Nothing) bs ≡ true → 0 < length bs → ⊥
nothing [] a s = none s
  where
    none : 0 < 0 → ⊥
    none s = omega (arith, s)
nothing (b ∷ bs) a s = true≢false (sym a)

inside_runs : (outer : List Level) (here : Level) (seen : Seen) (bs : List ℕ) (taken : ℕ)
    → list_all (is_put (puts_inside outer seen)) bs ≡ true
    → 0 < length bs → taken + length bs ≤ 262144 → Runs outer here (mode.Inside seen) bs taken
inside_runs [] here seen bs taken a s h = absurd (nothing bs a s)
inside_runs (parent ∷ outer) here Zero bs taken a s h = text_runs parent outer here bs taken a h
inside_runs (parent ∷ outer) here One bs taken a s h = absurd (nothing bs a s)
inside_runs (parent ∷ outer) here Two bs taken a s h = absurd (nothing bs a s)

quoted_runs : (outer : List Level) (here : Level) (tag : Tag) (a : RawAttribute) (quote : ℕ) (bs : List ℕ) (taken : ℕ)
    (double single : Bool)
    → (quote == 34) ≡ double → (quote == 39) ≡ single → list_all (is_put (cond (double || single) puts'.Characters puts'.Nothing)) bs ≡ true
    → 0 < length bs → taken + length bs ≤ 262144 → Runs outer here (mode.Value tag a quote) bs taken
quoted_runs outer here tag a quote bs taken true single d q all s h =
    value_runs outer here tag a quote bs taken (λ b is. subst (λ x. (b == x) ≡ false) (sym (eqb-true quote 34 d)) is.no_double) all h
quoted_runs outer here tag a quote bs taken false true d q all s h =
    value_runs outer here tag a quote bs taken (λ b is. subst (λ x. (b == x) ≡ false) (sym (eqb-true quote 39 q)) is.no_apostrophe) all h
quoted_runs outer here tag a quote bs taken false false d q all s h = absurd (nothing bs all s)

-- the bytes of an end tag's name
end_name_step : (outer : List Level) (here : Level) (x : ℕ) (xs : List ℕ) (b : ℕ) → (x == b) ≡ true
    → state_after (state.At outer here (mode.EndName (x ∷ xs))) b ≡ state.At outer here (before_name xs)
end_name_step outer here x [] b e =
    by_kind outer here (mode.EndName (x ∷ [])) b (class_of b) refl ∙ ap (λ t. end_name_by outer here (cond t meeting.Whole meeting.Wrong)) e
end_name_step outer here x (y ∷ ys) b e =
    by_kind outer here (mode.EndName (x ∷ y ∷ ys)) b (class_of b) refl
    ∙ ap (λ t. end_name_by outer here (cond t (meeting.On (y ∷ ys)) meeting.Wrong)) e

pub front_runs : (outer : List Level) (here : Level) (rest bs : List ℕ) (taken : ℕ) → list_all is_plain bs ≡ true → is_front bs rest ≡ true
    → taken + length bs ≤ 262144
    → run (Going (calm_scan (state.At outer here (before_name rest))) taken) bs
    ≡ Going (calm_scan (state.At outer here (before_name (drop (length bs) rest)))) (taken + length bs)
front_runs outer here rest [] taken a f h =
    run_none (Going (calm_scan (state.At outer here (before_name rest))) taken)
    ∙ ap (λ n. Going (calm_scan (state.At outer here (before_name rest))) n) same
  where
    same : taken ≡ taken + length {A = ℕ} []
    same = omega arith
front_runs outer here [] (b ∷ bs) taken a f h = absurd (true≢false (sym f))
front_runs outer here (x ∷ xs) (b ∷ bs) taken a f h =
    run_more (Going (calm_scan (state.At outer here (mode.EndName (x ∷ xs)))) taken) b bs
    ∙ ap (λ r. run r bs) (once (calm_scan (state.At outer here (mode.EndName (x ∷ xs))))
    (calm_scan (state.At outer here (before_name xs))) taken b
    (turn_on outer outer here here (mode.EndName (x ∷ xs)) (before_name xs) b is.one is.no_return
    (end_name_step outer here x xs b (both (x == b) (is_front bs xs) f).0)) below)
    ∙ front_runs outer here xs bs (taken + 1) (both (is_plain b) (list_all is_plain bs) a).1 (both (x == b) (is_front bs xs) f).1 within
    ∙ ap (λ n. Going (calm_scan (state.At outer here (before_name (drop (length bs) xs)))) n) same
  where
    is : IsCalm b
    is = plain_calm b (both (is_plain b) (list_all is_plain bs) a).0

    below : taken < 262144
    below = omega (arith, h)

    within : taken + 1 + length bs ≤ 262144
    within = omega (arith, h)

    same : taken + 1 + length bs ≡ taken + length (b ∷ bs)
    same = omega arith

name_runs_on : (outer : List Level) (here : Level) (rest bs : List ℕ) (taken : ℕ) → (list_all is_plain bs && is_front bs rest) ≡ true
    → 0 < length bs → taken + length bs ≤ 262144 → Runs outer here (mode.EndName rest) bs taken
name_runs_on outer here [] [] taken a s h = absurd (no_less s)
  where
    no_less : 0 < length {A = ℕ} [] → ⊥
    no_less s = omega (arith, s)
name_runs_on outer here [] (b ∷ bs) taken a s h = absurd (true≢false (sym (both (list_all is_plain (b ∷ bs)) false a).1))
name_runs_on outer here (x ∷ xs) bs taken a s h =
    front_runs outer here (x ∷ xs) bs taken (both (list_all is_plain bs) (is_front bs (x ∷ xs)) a).0
    (both (list_all is_plain bs) (is_front bs (x ∷ xs)) a).1 h

at_runs : (outer : List Level) (here : Level) (m : Mode) (bs : List ℕ) (taken : ℕ) → is_run_in outer m bs ≡ true
    → 0 < length bs → taken + length bs ≤ 262144 → Runs outer here m bs taken
at_runs outer here (mode.Inside seen) bs taken a s h = inside_runs outer here seen bs taken a s h
at_runs outer here (mode.Value tag x quote) bs taken a s h =
    quoted_runs outer here tag x quote bs taken (quote == 34) (quote == 39) refl refl a s h
at_runs outer here (mode.TagName name) bs taken a s h = name_runs outer here (λ n. mode.TagName n) name bs taken (λ n b. refl) a h
at_runs outer here (mode.AttributeName tag name) bs taken a s h =
    name_runs outer here (λ n. mode.AttributeName tag n) name bs taken (λ n b. refl) a h
at_runs outer here (mode.EndName rest) bs taken a s h = name_runs_on outer here rest bs taken a s h
at_runs outer here m bs taken a s h = absurd (nothing bs a s)

none_long : (bs : List ℕ) → is_none bs ≡ true → 0 < length bs → ⊥
none_long [] a s = no_less s
  where
    no_less : 0 < length {A = ℕ} [] → ⊥
    no_less s = omega (arith, s)
none_long (b ∷ bs) a s = true≢false (sym a)

by_parts : (s : State) (octet : Octet) (returned : Bool) (bs : List ℕ) (taken : ℕ)
    → is_run (record { state = s; octet = octet; returned = returned }) bs ≡ true → 0 < length bs → taken + length bs ≤ 262144
    → run (Going (record { state = s; octet = octet; returned = returned }) taken) bs
    ≡ Going (record { state = with_span_at s bs; octet = octet; returned = returned }) (taken + length bs)
by_parts s octet true bs taken a some h = absurd (none_long bs a some)
by_parts (state.Refused r) Between false bs taken a some h = absurd (none_long bs a some)
by_parts (state.At outer here m) Between false bs taken a some h = at_runs outer here m bs taken a some h
by_parts s octet false bs taken a some h = absurd (none_long bs a some)

-- what is put on at once is what the machine puts on byte by byte
pub put_on : (scan : Scan) (bs : List ℕ) (taken : ℕ) → is_run scan bs ≡ true → 0 < length bs → taken + length bs ≤ 262144
    → run (Going scan taken) bs ≡ Going (with_span scan bs) (taken + length bs)
put_on scan bs taken a some h = by_parts scan.state scan.octet scan.returned bs taken a some h

-- the first byte alone
pub first_byte : (scan : Scan) (taken : ℕ) (bs : List ℕ) → 0 < length bs
    → run (Going scan taken) (take 1 bs) ≡ counted taken (turned scan (get_or bs 0 0))
unfolding reading_after
first_byte scan taken [] h = absurd (none h)
  where
    none : 0 < length {A = ℕ} [] → ⊥
    none h = omega (arith, h)
first_byte scan taken (b ∷ bs) h = run_more (Going scan taken) b [] ∙ run_none (counted taken (turned scan b))

-- so many of the first bytes
pub first_put_on : (scan next : Scan) (bs : List ℕ) (taken count : ℕ) → is_run scan (take count bs) ≡ true
    → count ≤ length bs → (count ≡ 0 → ⊥) → count ≤ 262144 - taken → next ≡ with_span scan (take count bs)
    → run (Going scan taken) (take count bs) ≡ Going next (taken + count)
first_put_on scan next bs taken count a within some most e =
    put_on scan (take count bs) taken a more room
    ∙ ap (λ n. Going (with_span scan (take count bs)) (taken + n)) long
    ∙ ap (λ s. Going s (taken + count)) (sym e)
  where
    long : length (take count bs) ≡ count
    long = length-take-le count bs within

    more : 0 < length (take count bs)
    more = omega (arith, long, some)

    room : taken + length (take count bs) ≤ 262144
    room = omega (arith, long, most, some)

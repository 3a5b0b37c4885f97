-- An attribute that is taken at once is the one that the machine takes byte by byte.
use Rattle.std.proofs.Common.{◌≡◌, ℕ, ◌+◌, ◌-◌, ◌<◌, ◌≤◌, Bool, true, false, cond, not, ◌&&◌, ◌||◌, ◌==◌, nat_lt, take, drop, List, [], ◌∷◌}
use Rattle.std.proofs.Common.{◌++◌, length, refl, sym, ap, ap₂, ◌∙◌, subst, arith, eq-eqb, true≢false}
use Rattle.std.specs.List.{list_all}
use Rattle.std.proofs.lemmas.Bool.{eqb-true}
use Rattle.std.proofs.lemmas.List.{length-take-le, length-drop, take_more}
use Rattle.std.proofs.Math.Seq.{take-add}
use Rattle.ba_xml_words.specs.Classes.{class_of, mark_of}
use Rattle.ba_xml_words.specs.inside.Names.{one_letter, is_written}
use Rattle.ba_xml_words.specs.inside.Octets.{lead}
use Rattle.ba_xml_names.specs.inside.Tags.{with_attribute}
use Rattle.ba_xml_reader.specs.inside.Machine.{run, state_after, turned}
use Rattle.ba_xml_reader.specs.inside.Pairs.{IsPair, plain_name, plain_attribute, waiting, has_room, with_pair}
use Rattle.ba_xml_reader.specs.inside.Readings.{Going}
use Rattle.ba_xml_reader.specs.inside.Spans.{is_plain, is_letter}
use Rattle.ba_xml_reader.specs.inside.Tags.{no_value, value_by}
use Rattle.ba_xml_reader.specs.inside.Turns as turn
use Rattle.ba_xml_words.specs.declared.classes.Class.TheVariants as class
use Rattle.ba_xml_words.specs.declared.faults.Reason.TheVariants as reason
use Rattle.ba_xml_words.specs.declared.octets.Octet.{Octet}
use Rattle.ba_xml_words.specs.declared.octets.Octet.TheVariants.{Between}
use Rattle.ba_xml_words.specs.declared.names.RawName.{RawName}
use Rattle.ba_xml_names.specs.declared.levels.Level.{Level}
use Rattle.ba_xml_names.specs.declared.tags.Tag.{Tag}
use Rattle.ba_xml_reader.specs.declared.machine.Scan.{Scan}
use Rattle.ba_xml_reader.specs.declared.pairs.Pair.{Pair}
use Rattle.ba_xml_reader.specs.declared.states.Mode.TheVariants as mode
use Rattle.ba_xml_reader.specs.declared.states.State.{State}
use Rattle.ba_xml_reader.specs.declared.states.State.TheVariants as state
use Rattle.ba_xml_reader.proofs.CompleteNames.{letter_kind}
use Rattle.ba_xml_reader.proofs.CompleteSteps.{by_kind}
use Rattle.ba_xml_reader.proofs.PutOn.{is_single, calm_scan, both, no, letter_fits, turn_on, IsCalm, once, name_runs, value_runs}
use Rattle.ba_xml_reader.proofs.Runs.{run_none, run_more, run_append}

-- ---- the bytes of an attribute

abbrev pair_text : List ℕ → ℕ → List ℕ → List ℕ
pair_text name quote value = (((name ++ 61 ∷ []) ++ quote ∷ []) ++ value) ++ quote ∷ []

pair_bytes : (bs : List ℕ) (pair : Pair) → IsPair bs pair
    → take (pair.name + 2 + pair.value + 1) bs ≡ pair_text (take pair.name bs) pair.quote (take pair.value (drop (pair.name + 2) bs))
pair_bytes bs pair is =
    take_more bs (pair.name + 2 + pair.value) 0 is.within
    ∙ ap₂ (λ xs x. xs ++ x ∷ []) (take-add (pair.name + 2) pair.value bs ∙ ap (λ xs. xs ++ take pair.value (drop (pair.name + 2) bs))
    opened) is.closes
  where
    second : pair.name + 1 < length bs
    second = omega (arith, is.within)

    early : pair.name < length bs
    early = omega (arith, is.within)

    two : pair.name + 2 ≡ pair.name + 1 + 1
    two = omega arith

    opened : take (pair.name + 2) bs ≡ (take pair.name bs ++ 61 ∷ []) ++ pair.quote ∷ []
    opened = ap (λ n. take n bs) two ∙ take_more bs (pair.name + 1) 0 second
        ∙ ap₂ (λ xs x. xs ++ x ∷ []) (take_more bs pair.name 0 early ∙ ap (λ x. take pair.name bs ++ x ∷ []) is.equals) is.opens

-- ---- one byte

pub run_one : (scan next : Scan) (taken b : ℕ) → turned scan b ≡ turn.On next → taken < 262144
    → run (Going scan taken) (b ∷ []) ≡ Going next (taken + 1)
run_one scan next taken b e h = run_more (Going scan taken) b [] ∙ ap (λ r. run r []) (once scan next taken b e h)
    ∙ run_none (Going next (taken + 1))

equals_kind : class_of 61 ≡ class.EqualsSign
unfolding class_of mark_of
equals_kind = refl

double_kind : class_of 34 ≡ class.DoubleQuote
unfolding class_of mark_of
double_kind = refl

single_kind : class_of 39 ≡ class.Apostrophe
unfolding class_of mark_of
single_kind = refl

equals_single : is_single (lead 61) ≡ true
unfolding lead
equals_single = refl

double_single : is_single (lead 34) ≡ true
unfolding lead
double_single = refl

single_single : is_single (lead 39) ≡ true
unfolding lead
single_single = refl

-- what a quote is
record IsMark (q : ℕ) : Type 0 where
  one : is_single (lead q) ≡ true
  no_return : (q == 13) ≡ false
  opens : (outer : List Level) (here : Level) (tag : Tag) (name : RawName)
      → state_after (state.At outer here (mode.Quote tag name)) q ≡ state.At outer here (mode.Value tag (no_value name) q)
  apart : (b : ℕ) → IsCalm b → (b == q) ≡ false

double : IsMark 34
double = record {
  one = double_single;
  no_return = refl;
  opens = λ outer here tag name. by_kind outer here (mode.Quote tag name) 34 class.DoubleQuote double_kind;
  apart = λ b is. is.no_double;
}

single : IsMark 39
single = record {
  one = single_single;
  no_return = refl;
  opens = λ outer here tag name. by_kind outer here (mode.Quote tag name) 39 class.Apostrophe single_kind;
  apart = λ b is. is.no_apostrophe;
}

mark : (q : ℕ) (x y : Bool) → (q == 34) ≡ x → (q == 39) ≡ y → (x || y) ≡ true → IsMark q
mark q true y d s e = subst IsMark (sym (eqb-true q 34 d)) double
mark q false true d s e = subst IsMark (sym (eqb-true q 39 s)) single
mark q false false d s e = absurd (true≢false (sym e))

-- ---- the parts of an attribute

abbrev in_tag : List Level → Level → Tag → Bool → Scan
in_tag outer here tag spaced = calm_scan (state.At outer here (mode.InTag tag spaced))

abbrev in_name : List Level → Level → Tag → List ℕ → Scan
in_name outer here tag name = calm_scan (state.At outer here (mode.AttributeName tag (plain_name name)))

abbrev in_value : List Level → Level → Tag → List ℕ → List ℕ → ℕ → Scan
in_value outer here tag name value q = calm_scan (state.At outer here (mode.Value tag (plain_attribute name value) q))

first_turn : (outer : List Level) (here : Level) (tag : Tag) (b : ℕ) → nat_lt (length tag.attributes) 32 ≡ true → is_letter b ≡ true
    → turned (in_tag outer here tag true) b ≡ turn.On (in_name outer here tag (b ∷ []))
first_turn outer here tag b room e =
    turn_on outer outer here here (mode.InTag tag true) (mode.AttributeName tag (one_letter b)) b is.0 (no (b == 13) is.1)
    (by_kind outer here (mode.InTag tag true) b class.Letter (letter_kind b (both (nat_lt b 128) _ e).1)
    ∙ ap (λ t. cond t (state.At outer here (mode.AttributeName tag (one_letter b))) (state.Refused reason.Attributes)) room)
  where
    is : (is_single (lead b) ≡ true) × (not (b == 13) ≡ true)
    is = both (is_single (lead b)) (not (b == 13)) (letter_fits b e)

name_part : (outer : List Level) (here : Level) (tag : Tag) (name : List ℕ) (taken : ℕ) → nat_lt (length tag.attributes) 32 ≡ true
    → list_all is_letter name ≡ true → 0 < length name → taken + length name ≤ 262144
    → run (Going (in_tag outer here tag true) taken) name ≡ Going (in_name outer here tag name) (taken + length name)
name_part outer here tag [] taken room all some h = absurd (none some)
  where
    none : 0 < length {A = ℕ} [] → ⊥
    none s = omega (arith, s)
name_part outer here tag (b ∷ bs) taken room all some h =
    run_more (Going (in_tag outer here tag true) taken) b bs
    ∙ ap (λ r. run r bs) (once (in_tag outer here tag true) (in_name outer here tag (b ∷ [])) taken b
    (first_turn outer here tag b room letters.0) below)
    ∙ name_runs outer here (λ n. mode.AttributeName tag n) (one_letter b) bs (taken + 1) (λ n b. refl) letters.1 within
    ∙ ap (λ n. Going (in_name outer here tag (b ∷ bs)) n) same
  where
    letters : (is_letter b ≡ true) × (list_all is_letter bs ≡ true)
    letters = both (is_letter b) (list_all is_letter bs) all

    below : taken < 262144
    below = omega (arith, h)

    within : taken + 1 + length bs ≤ 262144
    within = omega (arith, h)

    same : taken + 1 + length bs ≡ taken + length (b ∷ bs)
    same = omega arith

equals_turn : (outer : List Level) (here : Level) (tag : Tag) (name : List ℕ) → is_written (plain_name name) tag.attributes ≡ false
    → 0 < length name
    → turned (in_name outer here tag name) 61 ≡ turn.On (calm_scan (state.At outer here (mode.Quote tag (plain_name name))))
equals_turn outer here tag [] new some = absurd (none some)
  where
    none : 0 < length {A = ℕ} [] → ⊥
    none s = omega (arith, s)
equals_turn outer here tag (b ∷ bs) new some =
    turn_on outer outer here here (mode.AttributeName tag (plain_name (b ∷ bs))) (mode.Quote tag (plain_name (b ∷ bs))) 61
    equals_single refl
    (by_kind outer here (mode.AttributeName tag (plain_name (b ∷ bs))) 61 class.EqualsSign equals_kind
    ∙ ap (λ t. cond t (state.Refused reason.Syntax) (state.At outer here (mode.Quote tag (plain_name (b ∷ bs))))) new)

close_turn : (outer : List Level) (here : Level) (tag : Tag) (name value : List ℕ) (q : ℕ) → IsMark q
    → turned (in_value outer here tag name value q) q ≡ turn.On (in_tag outer here (with_attribute tag (plain_attribute name value)) false)
close_turn outer here tag name value q is =
    turn_on outer outer here here (mode.Value tag (plain_attribute name value) q)
    (mode.InTag (with_attribute tag (plain_attribute name value)) false) q is.one is.no_return
    (by_kind outer here (mode.Value tag (plain_attribute name value) q) q (class_of q) refl
    ∙ ap (λ t. cond t (state.At outer here (mode.InTag (with_attribute tag (plain_attribute name value)) false))
    (value_by outer here tag (plain_attribute name value) q q (class_of q))) (eq-eqb q q refl))

-- ---- the whole attribute

text_runs : (outer : List Level) (here : Level) (tag : Tag) (name value : List ℕ) (q taken : ℕ) → nat_lt (length tag.attributes) 32 ≡ true
    → is_written (plain_name name) tag.attributes ≡ false → 0 < length name → list_all is_letter name ≡ true
    → list_all is_plain value ≡ true → IsMark q
    → taken + (length name + 2 + length value + 1) ≤ 262144
    → run (Going (in_tag outer here tag true) taken) (pair_text name q value)
    ≡ Going (in_tag outer here (with_attribute tag (plain_attribute name value)) false) (taken + (length name + 2 + length value + 1))
text_runs outer here tag name value q taken room new some letters plain is h =
    run_append (Going (in_tag outer here tag true) taken) (((name ++ 61 ∷ []) ++ q ∷ []) ++ value) (q ∷ [])
    ∙ ap (λ r. run r (q ∷ [])) valued
    ∙ run_one (in_value outer here tag name value q) (in_tag outer here (with_attribute tag (plain_attribute name value)) false)
    (taken + length name + 1 + 1 + length value) q (close_turn outer here tag name value q is) fourth
    ∙ ap (λ n. Going (in_tag outer here (with_attribute tag (plain_attribute name value)) false) n) same
  where
    early : taken + length name ≤ 262144
    early = omega (arith, h)

    second : taken + length name < 262144
    second = omega (arith, h)

    third : taken + length name + 1 < 262144
    third = omega (arith, h)

    long : taken + length name + 1 + 1 + length value ≤ 262144
    long = omega (arith, h)

    fourth : taken + length name + 1 + 1 + length value < 262144
    fourth = omega (arith, h)

    same : taken + length name + 1 + 1 + length value + 1 ≡ taken + (length name + 2 + length value + 1)
    same = omega arith

    named : run (Going (in_tag outer here tag true) taken) (name ++ 61 ∷ [])
        ≡ Going (calm_scan (state.At outer here (mode.Quote tag (plain_name name)))) (taken + length name + 1)
    named =
        run_append (Going (in_tag outer here tag true) taken) name (61 ∷ [])
        ∙ ap (λ r. run r (61 ∷ [])) (name_part outer here tag name taken room letters some early)
        ∙ run_one (in_name outer here tag name) (calm_scan (state.At outer here (mode.Quote tag (plain_name name))))
        (taken + length name) 61
        (equals_turn outer here tag name new some) second

    opened : run (Going (in_tag outer here tag true) taken) ((name ++ 61 ∷ []) ++ q ∷ [])
        ≡ Going (in_value outer here tag name [] q) (taken + length name + 1 + 1)
    opened =
        run_append (Going (in_tag outer here tag true) taken) (name ++ 61 ∷ []) (q ∷ [])
        ∙ ap (λ r. run r (q ∷ [])) named
        ∙ run_one (calm_scan (state.At outer here (mode.Quote tag (plain_name name)))) (in_value outer here tag name [] q)
        (taken + length name + 1) q
        (turn_on outer outer here here (mode.Quote tag (plain_name name)) (mode.Value tag (plain_attribute name []) q) q is.one is.no_return
        (is.opens outer here tag (plain_name name))) third

    valued : run (Going (in_tag outer here tag true) taken) (((name ++ 61 ∷ []) ++ q ∷ []) ++ value)
        ≡ Going (in_value outer here tag name value q) (taken + length name + 1 + 1 + length value)
    valued =
        run_append (Going (in_tag outer here tag true) taken) ((name ++ 61 ∷ []) ++ q ∷ []) value
        ∙ ap (λ r. run r value) opened
        ∙ value_runs outer here tag (plain_attribute name []) q value (taken + length name + 1 + 1) is.apart plain long

bytes_run : (outer : List Level) (here : Level) (tag : Tag) (bs : List ℕ) (pair : Pair) (taken : ℕ)
    → (nat_lt (length tag.attributes) 32 && not (is_written (plain_name (take pair.name bs)) tag.attributes)) ≡ true
    → IsPair bs pair → taken + (pair.name + 2 + pair.value + 1) ≤ 262144
    → run (Going (in_tag outer here tag true) taken) (take (pair.name + 2 + pair.value + 1) bs)
    ≡ Going (in_tag outer here (with_attribute tag (plain_attribute (take pair.name bs) (take pair.value (drop (pair.name + 2) bs)))) false)
    (taken + (pair.name + 2 + pair.value + 1))
bytes_run outer here tag bs pair taken room is h =
    ap (λ xs. run (Going (in_tag outer here tag true) taken) xs) (pair_bytes bs pair is)
    ∙ text_runs outer here tag (take pair.name bs) (take pair.value (drop (pair.name + 2) bs)) pair.quote taken free.0
    (no (is_written (plain_name (take pair.name bs)) tag.attributes) free.1)
    some is.letters is.plain (mark pair.quote (pair.quote == 34) (pair.quote == 39) refl refl is.quote) within
    ∙ ap (λ n. Going (in_tag outer here (with_attribute tag
    (plain_attribute (take pair.name bs) (take pair.value (drop (pair.name + 2) bs)))) false) n) same
  where
    free : (nat_lt (length tag.attributes) 32 ≡ true) × (not (is_written (plain_name (take pair.name bs)) tag.attributes) ≡ true)
    free = both (nat_lt (length tag.attributes) 32) (not (is_written (plain_name (take pair.name bs)) tag.attributes)) room

    named : length (take pair.name bs) ≡ pair.name
    named = length-take-le pair.name bs (omega (arith, is.within))

    valued : length (take pair.value (drop (pair.name + 2) bs)) ≡ pair.value
    valued = length-take-le pair.value (drop (pair.name + 2) bs) (omega (arith, is.within, length-drop (pair.name + 2) bs))

    some : 0 < length (take pair.name bs)
    some = omega (arith, named, is.some)

    same : taken + (length (take pair.name bs) + 2 + length (take pair.value (drop (pair.name + 2) bs)) + 1)
        ≡ taken + (pair.name + 2 + pair.value + 1)
    same = omega (arith, named, valued)

    within : taken + (length (take pair.name bs) + 2 + length (take pair.value (drop (pair.name + 2) bs)) + 1) ≤ 262144
    within = omega (arith, named, valued, h)

by_parts : (s : State) (octet : Octet) (returned : Bool) (bs : List ℕ) (pair : Pair) (taken : ℕ)
    → has_room (waiting (record { state = s; octet = octet; returned = returned })) (take pair.name bs) ≡ true
    → IsPair bs pair → taken + (pair.name + 2 + pair.value + 1) ≤ 262144
    → run (Going (record { state = s; octet = octet; returned = returned }) taken) (take (pair.name + 2 + pair.value + 1) bs)
    ≡ Going (with_pair (record { state = s; octet = octet; returned = returned }) (take pair.name bs)
    (take pair.value (drop (pair.name + 2) bs)))
    (taken + (pair.name + 2 + pair.value + 1))
by_parts s octet true bs pair taken room is h = absurd (true≢false (sym room))
by_parts (state.Refused r) Between false bs pair taken room is h = absurd (true≢false (sym room))
by_parts (state.At outer here (mode.InTag tag true)) Between false bs pair taken room is h =
    bytes_run outer here tag bs pair taken room is h
by_parts (state.At outer here (mode.InTag tag false)) Between false bs pair taken room is h = absurd (true≢false (sym room))
by_parts (state.At outer here m) Between false bs pair taken room is h = absurd (true≢false (sym room))
by_parts s octet false bs pair taken room is h = absurd (true≢false (sym room))

-- an attribute that is put at once is what the machine puts byte by byte
pub pair_put : (scan next : Scan) (bs name value : List ℕ) (pair : Pair) (taken : ℕ) → has_room (waiting scan) (take pair.name bs) ≡ true
    → IsPair bs pair → pair.name + 2 + pair.value + 1 ≤ 262144 - taken → name ≡ take pair.name bs
    → value ≡ take pair.value (drop (pair.name + 2) bs)
    → next ≡ with_pair scan name value
    → run (Going scan taken) (take (pair.name + 2 + pair.value + 1) bs) ≡ Going next (taken + (pair.name + 2 + pair.value + 1))
pair_put scan next bs name value pair taken room is most n v e =
    by_parts scan.state scan.octet scan.returned bs pair taken room is (omega (arith, most))
    ∙ ap₂ (λ x y. Going (with_pair scan x y) (taken + (pair.name + 2 + pair.value + 1))) (sym n) (sym v)
    ∙ ap (λ s. Going s (taken + (pair.name + 2 + pair.value + 1))) (sym e)

-- The texts and values of what is written are of legal characters, since no character goes across a byte of ASCII.
use Rattle.std.proofs.Common.{◌≡◌, ℕ, ◌+◌, ◌/◌, ◌%◌, ◌<◌, ◌≤◌, ◌⊎◌, inl, inr, Bool, true, false, cond, ◌&&◌, nat_lt, List, [], ◌∷◌}
use Rattle.std.proofs.Common.{◌++◌, codes, refl, sym, ap, ◌∙◌, subst, arith, append-nil, true≢false}
use Rattle.std.proofs.lemmas.Bool.{ltb-true, ltb-false, lt-ltb, ne_eqb}
use Rattle.std.proofs.lemmas.Bool.Decides.{nat_tests}
use Rattle.std.proofs.lemmas.Str.{chars-encodes, is_utf8-from_IsUtf8}
use Rattle.std.specs.Char.{encode_utf8, is_digit}
use Rattle.std.specs.List.{list_all}
use Rattle.std.specs.Str.{all_scalars, is_utf8, chars}
use Rattle.ba_tree.specs.Characters.{is_legal, is_legal_text}
use Rattle.ba_xml_reader.proofs.CompleteCharacters.{octets, octets_append, lead_one, encoded_one, encoded_two, encoded_three}
use Rattle.ba_xml_reader.proofs.CompleteCharacters.{encoded_four, characters_octets}
use Rattle.ba_xml_reader.proofs.SoundCharacters.{IsLow, AreLow, broken, characters_back}
use Rattle.ba_xml_reader.proofs.SoundText.{low_character}
use Rattle.ba_xml_words.specs.Classes.{is_space, is_first_letter}
use Rattle.ba_xml_grammar.specs.Grammar.{Value, value_end, value_character, value_reference, written_value, value_of, IsValue}
use Rattle.ba_xml_grammar.specs.GrammarTexts.{IsOfCharacters}
use Rattle.ba_xml_grammar.specs.GrammarWords.{Each, IsPlainName, IsPrefix, IsName, is_name_letter, is_character, written_prefix}
use Rattle.ba_xml_grammar.specs.GrammarWords.{written_name, Reference, less, greater, ampersand, apostrophe, quotation, decimal}
use Rattle.ba_xml_grammar.specs.GrammarWords.{hexadecimal, reference_text, written_reference, character_of, IsReference}
use Rattle.ba_xml_words.specs.inside.Octets.{octet_after}
use Rattle.ba_xml_words.specs.declared.faults.Reason.TheVariants.{NotUtf8}
use Rattle.ba_xml_words.specs.declared.names.RawName.{RawName}
use Rattle.ba_xml_words.specs.declared.octets.Octet.{Octet}
use Rattle.ba_xml_words.specs.declared.octets.Octet.TheVariants.{Between, One, Two, Three, AfterE0, AfterED, AfterEF, AfterEFBF, AfterF0}
use Rattle.ba_xml_words.specs.declared.octets.Octet.TheVariants.{AfterF4}
use Rattle.ba_xml_words.specs.declared.octets.Decoding.{Decoding}
use Rattle.ba_xml_words.specs.declared.octets.Decoding.TheVariants.{At, Broken}

both : (a b : Bool) → (a && b) ≡ true → (a ≡ true) × (b ≡ true)
both true b h = (refl, h)
both false b h = absurd (true≢false (sym h))

joined : (a b : Bool) → a ≡ true → b ≡ true → (a && b) ≡ true
joined true b h k = k
joined false b h k = h

-- ---- bytes that are passed

-- from here the bytes are whole characters
abbrev pub Passes : Octet → List ℕ → Type 0
Passes o bs = octets (At o) bs ≡ At Between

-- and they are legal
abbrev pub IsText : Octet → List ℕ → Type 0
IsText o bs = AreLow bs × Passes o bs

low_at : (o : Octet) (b : ℕ) → b < 0x80 → (o ≡ Between) ⊎ (octet_after o b ≡ Broken NotUtf8)
unfolding octet_after
low_at Between b h = inl refl
low_at One b h = inr (rw (lt-ltb b 0x80 h) refl)
low_at Two b h = inr (rw (lt-ltb b 0x80 h) refl)
low_at Three b h = inr (rw (lt-ltb b 0x80 h) refl)
low_at AfterE0 b h = inr (rw (lt-ltb b 0xA0 (omega (arith, h))) refl)
low_at AfterED b h = inr (rw (lt-ltb b 0x80 h) refl)
low_at AfterEF b h = inr (rw (ne_eqb b 0xBF (λ e. omega (arith, e, h)), lt-ltb b 0x80 h) refl)
low_at AfterEFBF b h = inr (rw (ne_eqb b 0xBE (λ e. omega (arith, e, h)), ne_eqb b 0xBF (λ e. omega (arith, e, h)), lt-ltb b 0x80 h) refl)
low_at AfterF0 b h = inr (rw (lt-ltb b 0x90 (omega (arith, h))) refl)
low_at AfterF4 b h = inr (rw (lt-ltb b 0x80 h) refl)

pub low_step : (o : Octet) (b : ℕ) (bs : List ℕ) → b < 0x80 → Passes o (b ∷ bs) → (o ≡ Between) × Passes Between bs
low_step o b bs h e = by (low_at o b h)
  where
    by : (o ≡ Between) ⊎ (octet_after o b ≡ Broken NotUtf8) → (o ≡ Between) × Passes Between bs
    by (inl q) = (q, sym (ap (λ d. octets d bs) (ap (λ x. octet_after x b) q ∙ lead_one b h)) ∙ e)
    by (inr q) = absurd (broken NotUtf8 bs Between (sym (ap (λ d. octets d bs) q) ∙ e))

pub byte_step : (o : Octet) (b : ℕ) (bs : List ℕ) → Passes o (b ∷ bs) → (p : Octet) × (octet_after o b ≡ At p) × Passes p bs
byte_step o b bs e = by (octet_after o b) refl e
  where
    by : (d : Decoding) → octet_after o b ≡ d → octets d bs ≡ At Between → (p : Octet) × (octet_after o b ≡ At p) × Passes p bs
    by (Broken r) q e = absurd (broken r bs Between e)
    by (At p) q e = (p, q, e)

pub low_on : (o : Octet) (b : ℕ) (bs : List ℕ) → o ≡ Between → b < 0x80 → Passes Between bs → Passes o (b ∷ bs)
low_on o b bs q h e = ap (λ d. octets d bs) (ap (λ x. octet_after x b) q ∙ lead_one b h) ∙ e

pub byte_on : (o p : Octet) (b : ℕ) (bs : List ℕ) → octet_after o b ≡ At p → Passes p bs → Passes o (b ∷ bs)
byte_on o p b bs q e = ap (λ d. octets d bs) q ∙ e

abbrev pub Below : List ℕ → Type 0
Below [] = Unit {0}
Below (b ∷ bs) = (b < 0x80) × Below bs

pub low_run : (ws rest : List ℕ) → Below ws → Passes Between (ws ++ rest) → Passes Between rest
low_run [] rest h e = e
low_run (w ∷ ws) rest h e = low_run ws rest h.1 (low_step Between w (ws ++ rest) h.0 e).1

-- up to a byte of ASCII
pub upto : (body : List ℕ) (b : ℕ) (rest : List ℕ) (o : Octet) → b < 0x80 → Passes o (body ++ b ∷ rest)
    → Passes o body × Passes Between rest
upto [] b rest o h e = let s : (o ≡ Between) × Passes Between rest = low_step o b rest h e in (ap (λ x. At x) s.0, s.1)
upto (c ∷ body) b rest o h e =
    let s = byte_step o c (body ++ b ∷ rest) e in
    let r : Passes s.0 body × Passes Between rest = upto body b rest s.0 h s.2 in
    (byte_on o s.0 c body s.1 r.0, r.1)

below_by : (test : ℕ → Bool) → ((b : ℕ) → test b ≡ true → b < 0x80) → (bs : List ℕ) → Each test bs → Below bs
below_by test f [] e = tt
below_by test f (b ∷ bs) e = (f b e.0, below_by test f bs e.1)

pub below_word : (bs : List ℕ) → list_all (λ b. nat_lt b 0x80) bs ≡ true → Below bs
below_word [] h = tt
below_word (b ∷ bs) h =
    let hs : (nat_lt b 0x80 ≡ true) × (list_all (λ b. nat_lt b 0x80) bs ≡ true)
    = both (nat_lt b 0x80) (list_all (λ b. nat_lt b 0x80) bs) h in
    (ltb-true b 0x80 hs.0, below_word bs hs.1)

pub space_below : (b : ℕ) → is_space b ≡ true → b < 0x80
space_below b h = grind (arith, nat_tests)

letter_below : (b : ℕ) → is_name_letter b ≡ true → b < 0x80
letter_below b h = grind (arith, nat_tests)

first_below : (b : ℕ) → is_first_letter b ≡ true → b < 0x80
first_below b h = grind (arith, nat_tests)

decimal_below : (b : ℕ) → is_digit b 10 ≡ true → b < 0x80
decimal_below b h = grind (arith, nat_tests)

hexadecimal_below : (b : ℕ) → is_digit b 16 ≡ true → b < 0x80
hexadecimal_below b h = grind (arith, nat_tests)

pub white_below : (bs : List ℕ) → Each is_space bs → Below bs
white_below bs e = below_by is_space space_below bs e

plain_below : (bs : List ℕ) → IsPlainName bs → Below bs
plain_below [] p = absurd p
plain_below (b ∷ bs) p = (first_below b p.0, below_by is_name_letter letter_below bs p.1)

prefix_run : (prefix rest : List ℕ) → IsPrefix prefix → Passes Between (written_prefix prefix rest) → Passes Between rest
prefix_run [] rest p e = e
prefix_run (b ∷ bs) rest p e =
    let h : Below (b ∷ bs) = plain_below (b ∷ bs) p in
    (low_step Between 58 rest (omega arith) (low_run bs (58 ∷ rest) h.1 (low_step Between b (bs ++ 58 ∷ rest) h.0 e).1)).1

pub name_run : (name : RawName) (rest : List ℕ) → IsName name → Passes Between (written_name name rest) → Passes Between rest
name_run name rest n e =
    low_run name.local rest (plain_below name.local n.1) (prefix_run name.prefix (name.local ++ rest) n.0 e)

-- ---- references

reference_below : (r : Reference) → IsReference r → Below (reference_text r)
reference_below less i = below_word (codes "lt") refl
reference_below greater i = below_word (codes "gt") refl
reference_below ampersand i = below_word (codes "amp") refl
reference_below apostrophe i = below_word (codes "apos") refl
reference_below quotation i = below_word (codes "quot") refl
reference_below (decimal digits) i = (omega arith, below_by (λ d. is_digit d 10) decimal_below digits i.1)
reference_below (hexadecimal digits) i = (omega arith, (omega arith, below_by (λ d. is_digit d 16) hexadecimal_below digits i.1))

reference_legal : (r : Reference) → IsReference r → is_legal (character_of r) ≡ true
reference_legal less i = refl
reference_legal greater i = refl
reference_legal ampersand i = refl
reference_legal apostrophe i = refl
reference_legal quotation i = refl
reference_legal (decimal digits) i = i.2
reference_legal (hexadecimal digits) i = i.2

pub reference_run : (r : Reference) (rest : List ℕ) (o : Octet) → IsReference r → Passes o (written_reference r rest)
    → (o ≡ Between) × Passes Between rest
reference_run r rest o i e =
    let s : (o ≡ Between) × Passes Between (reference_text r ++ 59 ∷ rest)
    = low_step o 38 (reference_text r ++ 59 ∷ rest) (omega arith) e in
    (s.0, (low_step Between 59 rest (omega arith) (low_run (reference_text r) (59 ∷ rest) (reference_below r i) s.1)).1)

pub low_append : (bs cs : List ℕ) → AreLow bs → AreLow cs → AreLow (bs ++ cs)
low_append [] cs f g = g
low_append (b ∷ bs) cs f g = (f.0, low_append bs cs f.1 g)

high_low : (b : ℕ) → 0x80 ≤ b → IsLow b
high_low b h l = absurd (clash h l)
  where
    clash : 0x80 ≤ b → b < 0x80 → ⊥
    clash h l = omega (arith, h, l)

character_low : (c : ℕ) → is_legal c ≡ true → AreLow (encode_utf8 c)
character_low c h = by (nat_lt c 0x80) (nat_lt c 0x800) (nat_lt c 0x10000) refl refl refl
  where
    by : (x y z : Bool) → nat_lt c 0x80 ≡ x → nat_lt c 0x800 ≡ y → nat_lt c 0x10000 ≡ z → AreLow (encode_utf8 c)
    by true y z p q r = subst AreLow (sym (encoded_one c (ltb-true c 0x80 p))) (λ l. h, tt)
    by false true z p q r =
        subst AreLow (sym (encoded_two c (ltb-false c 0x80 p) (ltb-true c 0x800 q)))
        (high_low (192 + c / 64) (omega arith), (high_low (128 + c % 64) (omega arith), tt))
    by false false true p q r =
        subst AreLow (sym (encoded_three c (ltb-false c 0x800 q) (ltb-true c 0x10000 r))) (
          high_low (224 + c / 4096) (omega arith),
          (high_low (128 + (c / 64) % 64) (omega arith), (high_low (128 + c % 64) (omega arith), tt)),
        )
    by false false false p q r =
        subst AreLow (sym (encoded_four c (ltb-false c 0x10000 r))) (
          high_low (240 + c / 262144) (omega arith),
          (
            high_low (128 + (c / 4096) % 64) (omega arith),
            (high_low (128 + (c / 64) % 64) (omega arith), (high_low (128 + c % 64) (omega arith), tt)),
          ),
        )

character_passes : (c : ℕ) → is_legal c ≡ true → Passes Between (encode_utf8 c)
character_passes c h =
    ap (octets (At Between)) (sym (append-nil (encode_utf8 c))) ∙ characters_octets (c ∷ []) (joined (is_legal c) true h refl)

pub character_text : (r : Reference) (bs : List ℕ) (o : Octet) → IsReference r → o ≡ Between → IsText Between bs
    → IsText o (encode_utf8 (character_of r) ++ bs)
character_text r bs o i q t =
    let c : ℕ = character_of r in (
      low_append (encode_utf8 c) bs (character_low c (reference_legal r i)) t.0,
      ap (λ x. octets (At x) (encode_utf8 c ++ bs)) q
          ∙ octets_append (encode_utf8 c) bs Between Between (character_passes c (reference_legal r i)) ∙ t.1,
    )

pub byte_text : (o p : Octet) (b : ℕ) (bs : List ℕ) → is_character b ≡ true → octet_after o b ≡ At p → IsText p bs → IsText o (b ∷ bs)
byte_text o p b bs c q t = ((low_character b c, t.0), byte_on o p b bs q t.1)

each_low : (bs : List ℕ) → Each is_character bs → AreLow bs
each_low [] e = tt
each_low (b ∷ bs) e = (low_character b e.0, each_low bs e.1)

pub body_text : (body bs : List ℕ) (o : Octet) → Each is_character body → o ≡ Between → Passes Between body → IsText Between bs
    → IsText o (body ++ bs)
body_text body bs o c q p t =
    (low_append body bs (each_low body c) t.0, ap (λ x. octets (At x) (body ++ bs)) q ∙ octets_append body bs Between Between p ∙ t.1)

-- ---- values

pub value_text : (quote : ℕ) (v : Value) (rest : List ℕ) (o : Octet) → quote < 0x80 → IsValue quote v
    → Passes o (written_value v (quote ∷ rest))
    → IsText o (value_of v) × Passes Between rest
value_text quote value_end rest o h i e =
    let s : (o ≡ Between) × Passes Between rest = low_step o quote rest h e in ((tt, ap (λ x. At x) s.0), s.1)
value_text quote (value_reference r more) rest o h i e =
    let s : (o ≡ Between) × Passes Between (written_value more (quote ∷ rest))
    = reference_run r (written_value more (quote ∷ rest)) o i.0 e in
    let t : IsText Between (value_of more) × Passes Between rest = value_text quote more rest Between h i.1 s.1 in
    (character_text r (value_of more) o i.0 s.0 t.0, t.1)
value_text quote (value_character b more) rest o h i e = by (is_space b) refl (λ p q. value_text quote more rest p h i.4 q)
  where
    by : (x : Bool) → is_space b ≡ x
        → ((p : Octet) → Passes p (written_value more (quote ∷ rest)) → IsText p (value_of more) × Passes Between rest)
        → IsText o (cond (is_space b) 32 b ∷ value_of more) × Passes Between rest
    by true x ih =
        let s : (o ≡ Between) × Passes Between (written_value more (quote ∷ rest))
        = low_step o b (written_value more (quote ∷ rest)) (space_below b x) e in
        let t : IsText Between (value_of more) × Passes Between rest = ih Between s.1 in (
          subst (λ c. IsText o (c ∷ value_of more)) (sym (ap (λ y. cond y 32 b) x))
              ((λ l. refl, t.0.0), low_on o 32 (value_of more) s.0 (omega arith) t.0.1),
          t.1,
        )
    by false x ih =
        let s = byte_step o b (written_value more (quote ∷ rest)) e in
        let t : IsText s.0 (value_of more) × Passes Between rest = ih s.0 s.2 in
        (subst (λ c. IsText o (c ∷ value_of more)) (sym (ap (λ y. cond y 32 b) x)) (byte_text o s.0 b (value_of more) i.0 s.1 t.0), t.1)

-- ---- legal texts

legal_scalar : (c : ℕ) → is_legal c ≡ true → all_scalars (c ∷ []) ≡ true
legal_scalar c h = grind (arith, nat_tests)

scalars_join : (c : ℕ) (cs : List ℕ) → all_scalars (c ∷ []) ≡ true → all_scalars cs ≡ true → all_scalars (c ∷ cs) ≡ true
scalars_join c cs h k = grind (arith, nat_tests)

legal_scalars : (cs : List ℕ) → list_all is_legal cs ≡ true → all_scalars cs ≡ true
legal_scalars [] h = refl
legal_scalars (c ∷ cs) h =
    let hs : (is_legal c ≡ true) × (list_all is_legal cs ≡ true) = both (is_legal c) (list_all is_legal cs) h in
    scalars_join c cs (legal_scalar c hs.0) (legal_scalars cs hs.1)

pub of_characters_legal : (bytes : List ℕ) → IsOfCharacters bytes → is_legal_text bytes ≡ true
of_characters_legal bytes c =
    let s : all_scalars c.0 ≡ true = legal_scalars c.0 c.1 in
    joined (is_utf8 bytes) (list_all is_legal (chars bytes)) (is_utf8-from_IsUtf8 bytes (c.0, (s, sym c.2)))
    (ap (list_all is_legal) (ap chars c.2 ∙ chars-encodes c.0 s) ∙ c.1)

pub legal : (bytes : List ℕ) → IsText Between bytes → is_legal_text bytes ≡ true
legal bytes t = of_characters_legal bytes (characters_back bytes t.0 t.1)

low_word : (bs : List ℕ) → list_all is_legal bs ≡ true → AreLow bs
low_word [] h = tt
low_word (b ∷ bs) h =
    let hs : (is_legal b ≡ true) × (list_all is_legal bs ≡ true) = both (is_legal b) (list_all is_legal bs) h in
    (λ l. hs.0, low_word bs hs.1)

below_passes : (bs : List ℕ) → Below bs → Passes Between bs
below_passes [] h = refl
below_passes (b ∷ bs) h = low_on Between b bs refl h.0 (below_passes bs h.1)

-- a word of ASCII that is written out
pub word_legal : (bs : List ℕ) → list_all is_legal bs ≡ true → list_all (λ b. nat_lt b 0x80) bs ≡ true → is_legal_text bs ≡ true
word_legal bs l h = legal bs (low_word bs l, below_passes bs (below_word bs h))

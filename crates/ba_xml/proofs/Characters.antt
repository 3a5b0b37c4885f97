-- The one text is UTF-8 of legal characters, and has no carriage return.
use Rattle.std.proofs.Common.{◌≡◌, ℕ, ◌+◌, ◌≤◌, ◌<◌, Bool, true, false, cond, not, ◌&&◌, ◌==◌, nat_lt, nat_le, Option, Some, None, List, []}
use Rattle.std.proofs.Common.{◌∷◌, ◌++◌, encode_utf8_all, if◌then◌else◌, nat_eq, codes, refl, sym, ap, ◌∙◌, subst, arith}
use Rattle.std.proofs.lemmas.Bool.{ltb-true, ltb-false}
use Rattle.std.proofs.lemmas.Bool.Decides.{nat_tests}
use Rattle.std.specs.Char.{encode_utf8}
use Rattle.std.specs.List.{list_all}
use Rattle.ba_tree.specs.Characters.{is_legal}
use Rattle.ba_tree.specs.declared.trees.Name.{Name}
use Rattle.ba_tree.specs.declared.trees.Attribute.{Attribute}
use Rattle.ba_tree.specs.declared.trees.Content.{Content, Text, Child', Row_of-Content, end_of-Content, more_of-Content}
use Rattle.ba_xml_reader.proofs.CompleteCharacters.{encoded_one}
use Rattle.ba_xml_words.specs.Classes.{is_first_letter}
use Rattle.ba_xml_grammar.specs.GrammarTexts.{IsOfCharacters, lines}
use Rattle.ba_xml_grammar.specs.GrammarWords.{Each, IsPlainName, is_name_letter}
use Rattle.ba_xml_names.specs.declared.levels.Declaration as reader
use Rattle.ba_xml_writer.proofs.Resolved.{spelled_by}
use Rattle.ba_xml_writer.specs.Namespaces.{Declaration}
use Rattle.ba_xml_writer.specs.OneText.{Escape, text_escapes, value_escapes, spelled, escaped, qualified, valued, declaration_texts}
use Rattle.ba_xml_writer.specs.OneText.{attributes}
use Rattle.ba_xml_writer.specs.OneText.{element, is_end, item, row_items}
use Rattle.ba_xml_writer.specs.Resolving.{prefix_of, before_colon}
use Rattle.ba_xml.proofs.Fine.{IsLegal, AreFine, IsFineTag, IsFine, IsFineRow}
use Rattle.ba_xml.proofs.LegalTexts.{IsHigh, high_bytes}
use Rattle.ba_xml.proofs.Prefixes.{IsGood, AreDeclarable}
use Rattle.ba_xml.proofs.Spelling.{text_spelled, value_spelled}
use Rattle.ba_xml.proofs.Conditions.{both, joined, not_true}

-- a legal character other than a carriage return
abbrev pub is_kept : ℕ → Bool
is_kept c = is_legal c && not (c == 13)

-- the bytes are those of such characters
abbrev pub IsClean : List ℕ → Type 0
IsClean bytes = (characters : List ℕ) × (list_all is_kept characters ≡ true) × (bytes ≡ encode_utf8_all characters)

pub clean_end : IsClean []
clean_end = ([], refl, refl)

clean_character : (c : ℕ) (rest : List ℕ) → is_kept c ≡ true → IsClean rest → IsClean (encode_utf8 c ++ rest)
clean_character c rest k r = (c ∷ r.0, joined (is_kept c) (list_all is_kept r.0) k r.1, ap (λ l. encode_utf8 c ++ l) r.2)

clean_byte : (b : ℕ) (rest : List ℕ) → is_kept b ≡ true → b < 128 → IsClean rest → IsClean (b ∷ rest)
clean_byte b rest k l r = subst (λ bs. IsClean (bs ++ rest)) (encoded_one b l) (clean_character b rest k r)

-- printed ASCII
abbrev is_printed : ℕ → Bool
is_printed b = nat_le 32 b && nat_lt b 127

printed_kept : (b : ℕ) → is_printed b ≡ true → is_kept b ≡ true
printed_kept b h = grind (arith, nat_tests)

printed_low : (b : ℕ) → is_printed b ≡ true → b < 128
printed_low b h = grind (arith, nat_tests)

clean_front : (word rest : List ℕ) → list_all is_printed word ≡ true → IsClean rest → IsClean (word ++ rest)
clean_front [] rest h r = r
clean_front (b ∷ bs) rest h r =
    let hs : (is_printed b ≡ true) × (list_all is_printed bs ≡ true) = both (is_printed b) (list_all is_printed bs) h in
    clean_byte b (bs ++ rest) (printed_kept b hs.0) (printed_low b hs.0) (clean_front bs rest hs.1 r)

-- ---- what is escaped

abbrev is_low : Escape → Bool
is_low e = nat_lt e.byte 128

differs : (b n : ℕ) → 128 ≤ b → nat_lt n 128 ≡ true → nat_eq b n ≡ false
differs b n h l = grind (arith, nat_tests)

high_spelled : (es : List Escape) → list_all is_low es ≡ true → (b : ℕ) (rest : List ℕ) → 128 ≤ b → spelled es b rest ≡ b ∷ rest
high_spelled [] low b rest h = refl
high_spelled (e ∷ es) low b rest h =
    let lows : (is_low e ≡ true) × (list_all is_low es ≡ true) = both (is_low e) (list_all is_low es) low in
    ap (λ x. if x then e.spelling ++ rest else spelled es b rest) (differs b e.byte h lows.0) ∙ high_spelled es lows.1 b rest h

high_escaped : (es : List Escape) → list_all is_low es ≡ true → (bs more rest : List ℕ) → IsHigh bs
    → escaped es (bs ++ more) rest ≡ bs ++ escaped es more rest
high_escaped es low [] more rest h = refl
high_escaped es low (b ∷ bs) more rest h =
    high_spelled es low b (escaped es (bs ++ more) rest) h.0 ∙ ap (λ l. b ∷ l) (high_escaped es low bs more rest h.1)

kept_high : (c : ℕ) → is_legal c ≡ true → 128 ≤ c → is_kept c ≡ true
kept_high c l h = joined (is_legal c) (not (c == 13)) l (other c h)
  where
    other : (c : ℕ) → 128 ≤ c → not (c == 13) ≡ true
    other c h = grind (arith, nat_tests)

module _ (es : List Escape) (low : list_all is_low es ≡ true)
    (step : (c : ℕ) (rest : List ℕ) → is_legal c ≡ true → c < 128 → IsClean rest → IsClean (spelled es c rest)) where
  character_escaped : (c : ℕ) (more rest : List ℕ) → is_legal c ≡ true → IsClean (escaped es more rest)
      → IsClean (escaped es (encode_utf8 c ++ more) rest)
  character_escaped c more rest l r = by (nat_lt c 128) refl
    where
      by : (x : Bool) → nat_lt c 128 ≡ x → IsClean (escaped es (encode_utf8 c ++ more) rest)
      by true e = subst (λ bs. IsClean (escaped es (bs ++ more) rest)) (sym (encoded_one c (ltb-true c 128 e)))
          (step c (escaped es more rest) l (ltb-true c 128 e) r)
      by false e = subst IsClean (sym (high_escaped es low (encode_utf8 c) more rest (high_bytes c (ltb-false c 128 e))))
          (clean_character c (escaped es more rest) (kept_high c l (ltb-false c 128 e)) r)

  characters_escaped : (cs rest : List ℕ) → list_all is_legal cs ≡ true → IsClean rest → IsClean (escaped es (encode_utf8_all cs) rest)
  characters_escaped [] rest h r = r
  characters_escaped (c ∷ cs) rest h r =
      let hs : (is_legal c ≡ true) × (list_all is_legal cs ≡ true) = both (is_legal c) (list_all is_legal cs) h in
      character_escaped c (encode_utf8_all cs) rest hs.0 (characters_escaped cs rest hs.1 r)

  clean_escaped : (bytes rest : List ℕ) → IsLegal bytes → IsClean rest → IsClean (escaped es bytes rest)
  clean_escaped bytes rest h r = subst (λ bs. IsClean (escaped es bs rest)) (sym h.2) (characters_escaped h.0 rest h.1 r)

plain_kept : (c : ℕ) (rest : List ℕ) → is_legal c ≡ true → c < 128 → IsClean rest → nat_eq c 13 ≡ false → IsClean (c ∷ rest)
plain_kept c rest l h r e = clean_byte c rest (joined (is_legal c) (not (c == 13)) l (ap not e)) h r

text_step : (c : ℕ) (rest : List ℕ) → is_legal c ≡ true → c < 128 → IsClean rest → IsClean (spelled text_escapes c rest)
text_step c rest l h r = by (nat_eq c 38) (nat_eq c 60) (nat_eq c 62) (nat_eq c 13) refl
  where
    by : (x y z w : Bool) → nat_eq c 13 ≡ w → IsClean (text_spelled x y z w c rest)
    by true y z w e = clean_front (codes "&amp;") rest refl r
    by false true z w e = clean_front (codes "&lt;") rest refl r
    by false false true w e = clean_front (codes "&gt;") rest refl r
    by false false false true e = clean_front (codes "&#13;") rest refl r
    by false false false false e = plain_kept c rest l h r e

value_step : (c : ℕ) (rest : List ℕ) → is_legal c ≡ true → c < 128 → IsClean rest → IsClean (spelled value_escapes c rest)
value_step c rest l h r = by (nat_eq c 38) (nat_eq c 60) (nat_eq c 62) (nat_eq c 13) (nat_eq c 34) (nat_eq c 9) (nat_eq c 10) refl
  where
    by : (x y z w q t f : Bool) → nat_eq c 13 ≡ w → IsClean (value_spelled x y z w q t f c rest)
    by true y z w q t f e = clean_front (codes "&amp;") rest refl r
    by false true z w q t f e = clean_front (codes "&lt;") rest refl r
    by false false true w q t f e = clean_front (codes "&gt;") rest refl r
    by false false false true q t f e = clean_front (codes "&#13;") rest refl r
    by false false false false true t f e = clean_front (codes "&quot;") rest refl r
    by false false false false false true f e = clean_front (codes "&#9;") rest refl r
    by false false false false false false true e = clean_front (codes "&#10;") rest refl r
    by false false false false false false false e = plain_kept c rest l h r e

clean_text : (t rest : List ℕ) → IsLegal t → IsClean rest → IsClean (escaped text_escapes t rest)
clean_text = clean_escaped text_escapes refl text_step

clean_value : (value rest : List ℕ) → IsLegal value → IsClean rest → IsClean (valued value rest)
clean_value value rest h r =
    clean_front (codes "=\"") (escaped value_escapes value (codes "\"" ++ rest)) refl
    (clean_escaped value_escapes refl value_step value (codes "\"" ++ rest) h (clean_front (codes "\"") rest refl r))

-- ---- names

letter_printed : (b : ℕ) → is_name_letter b ≡ true → is_printed b ≡ true
letter_printed b h = grind (arith, nat_tests)

first_printed : (b : ℕ) → is_first_letter b ≡ true → is_printed b ≡ true
first_printed b h = grind (arith, nat_tests)

letters_printed : (bs : List ℕ) → Each is_name_letter bs → list_all is_printed bs ≡ true
letters_printed [] e = refl
letters_printed (b ∷ bs) e = joined (is_printed b) (list_all is_printed bs) (letter_printed b e.0) (letters_printed bs e.1)

plain_printed : (name : List ℕ) → IsPlainName name → list_all is_printed name ≡ true
plain_printed [] n = absurd n
plain_printed (b ∷ bs) n = joined (is_printed b) (list_all is_printed bs) (first_printed b n.0) (letters_printed bs n.1)

clean_prefix : (prefix : Option (List ℕ)) (rest : List ℕ) → IsGood prefix → IsClean rest → IsClean (before_colon prefix rest)
clean_prefix None rest g r = r
clean_prefix (Some p) rest g r = clean_front p (codes ":" ++ rest) (plain_printed p g.0) (clean_front (codes ":") rest refl r)

clean_declarations : (own : List Declaration) (rest : List ℕ) → AreDeclarable own → IsClean rest → IsClean (declaration_texts own rest)
clean_declarations [] rest d r = r
clean_declarations (d ∷ own) rest f r =
    clean_front (codes " xmlns:") (d.prefix ++ valued d.space (declaration_texts own rest)) refl
    (clean_front d.prefix (valued d.space (declaration_texts own rest)) (plain_printed d.prefix f.0.0)
    (clean_value d.space (declaration_texts own rest) f.0.2 (clean_declarations own rest f.1 r)))

-- ---- elements

module _ (ds : List Declaration) (read : List reader.Declaration) (good : (space : List ℕ) → IsGood (prefix_of ds space)) where
  clean_name : (name : Name) (rest : List ℕ) → IsPlainName name.local → IsClean rest → IsClean (qualified ds name rest)
  clean_name name rest n r = subst IsClean (sym (spelled_by ds name.space (name.local ++ rest)))
      (clean_prefix (prefix_of ds name.space) (name.local ++ rest) (good name.space)
      (clean_front name.local rest (plain_printed name.local n) r))

  clean_attributes : (atts : List Attribute) (rest : List ℕ) → AreFine ds read atts → IsClean rest → IsClean (attributes ds atts rest)
  clean_attributes [] rest f r = r
  clean_attributes (a ∷ more) rest f r =
      clean_front (codes " ") (qualified ds a.name (valued a.value (attributes ds more rest))) refl
      (clean_name a.name (valued a.value (attributes ds more rest)) f.0.0.0
      (clean_value a.value (attributes ds more rest) f.0.2 (clean_attributes more rest f.1 r)))

  clean_start : (own : List Declaration) (name : Name) (atts : List Attribute) (rest : List ℕ) → AreDeclarable own
      → IsFineTag ds read name atts → IsClean rest
      → IsClean (codes "<" ++ qualified ds name (declaration_texts own (attributes ds atts rest)))
  clean_start own name atts rest d f r =
      clean_front (codes "<") (qualified ds name (declaration_texts own (attributes ds atts rest))) refl
      (clean_name name (declaration_texts own (attributes ds atts rest)) f.0.0
      (clean_declarations own (attributes ds atts rest) d (clean_attributes atts rest f.1 r)))

  pub clean_element : (own : List Declaration) (name : Name) (atts : List Attribute) (none : Bool) (inside : List ℕ
      → List ℕ) (rest : List ℕ)
      → AreDeclarable own → IsFineTag ds read name atts
      → ((more : List ℕ) → IsClean more → IsClean (inside more)) → IsClean rest → IsClean (element ds own name atts none inside rest)
  clean_element own name atts true inside rest d f i r =
      clean_start own name atts (codes "/>" ++ rest) d f (clean_front (codes "/>") rest refl r)
  clean_element own name atts false inside rest d f i r =
      let last : List ℕ = codes "</" ++ qualified ds name (codes ">" ++ rest) in
      clean_start own name atts (codes ">" ++ inside last) d f
      (clean_front (codes ">") (inside last) refl
      (i last (clean_front (codes "</") (qualified ds name (codes ">" ++ rest)) refl
      (clean_name name (codes ">" ++ rest) f.0.0 (clean_front (codes ">") rest refl r)))))

  mutual
    clean_item : (level : ℕ) (c : Content) (rest : List ℕ) → IsFine ds read level c → IsClean rest → IsClean (item ds c rest)
    clean_item level (Text t) rest f r = clean_text t rest f.1 r
    clean_item level (Child' name atts shape row) rest f r =
        clean_element [] name atts (is_end row) (λ more. row_items ds row more) rest tt f.0
        (λ more m. clean_row (level + 1) row more f.3 m) r

    pub clean_row : {m : _} (level : ℕ) (row : Row_of-Content m) (rest : List ℕ) → IsFineRow ds read level row → IsClean rest
        → IsClean (row_items ds row rest)
    clean_row level end_of-Content rest f r = r
    clean_row level (more_of-Content c row) rest f r = clean_item level c (row_items ds row rest) f.0 (clean_row level row rest f.2 r)

-- ---- what follows for the bytes

kept_legal : (cs : List ℕ) → list_all is_kept cs ≡ true → list_all is_legal cs ≡ true
kept_legal [] h = refl
kept_legal (c ∷ cs) h =
    let hs : (is_kept c ≡ true) × (list_all is_kept cs ≡ true) = both (is_kept c) (list_all is_kept cs) h in
    joined (is_legal c) (list_all is_legal cs) (both (is_legal c) (not (c == 13)) hs.0).0 (kept_legal cs hs.1)

pub clean_characters : (bytes : List ℕ) → IsClean bytes → IsOfCharacters bytes
clean_characters bytes h = (h.0, kept_legal h.0 h.1, h.2)

line_step : (b : ℕ) (bs : List ℕ) → (b == 13) ≡ false → lines false bs ≡ bs → lines false (b ∷ bs) ≡ b ∷ bs
line_step b bs e f = ap (λ x. cond x (10 ∷ lines true bs) (b ∷ lines false bs)) e ∙ ap (λ l. b ∷ l) f

high_lines : (bs rest : List ℕ) → IsHigh bs → lines false rest ≡ rest → lines false (bs ++ rest) ≡ bs ++ rest
high_lines [] rest h e = e
high_lines (b ∷ bs) rest h e = line_step b (bs ++ rest) (differs b 13 h.0 refl) (high_lines bs rest h.1 e)

kept_lines : (cs : List ℕ) → list_all is_kept cs ≡ true → lines false (encode_utf8_all cs) ≡ encode_utf8_all cs
kept_lines [] h = refl
kept_lines (c ∷ cs) h = by (nat_lt c 128) refl (kept_lines cs (both (is_kept c) (list_all is_kept cs) h).1)
  where
    hs : (is_kept c ≡ true) × (list_all is_kept cs ≡ true)
    hs = both (is_kept c) (list_all is_kept cs) h

    no_return : (c == 13) ≡ false
    no_return = not_true (c == 13) (both (is_legal c) (not (c == 13)) hs.0).1

    by : (x : Bool) → nat_lt c 128 ≡ x → lines false (encode_utf8_all cs) ≡ encode_utf8_all cs
        → lines false (encode_utf8 c ++ encode_utf8_all cs) ≡ encode_utf8 c ++ encode_utf8_all cs
    by true e f = subst (λ bs. lines false (bs ++ encode_utf8_all cs) ≡ bs ++ encode_utf8_all cs) (sym (encoded_one c (ltb-true c 128 e)))
        (line_step c (encode_utf8_all cs) no_return f)
    by false e f = high_lines (encode_utf8 c) (encode_utf8_all cs) (high_bytes c (ltb-false c 128 e)) f

-- the line ends are as they are written
pub clean_lines : (bytes : List ℕ) → IsClean bytes → lines false bytes ≡ bytes
clean_lines bytes h = subst (λ bs. lines false bs ≡ bs) (sym h.2) (kept_lines h.0 h.1)

-- Each byte of a document of the grammar is one of a character, and the last one is below 80.
use Rattle.std.proofs.Common.{◌≡◌, ℕ, ◌<◌, ◌==◌, nat_lt, Bool, true, false, not, ◌||◌, ◌⊎◌, inl, inr, List, [], ◌∷◌, ◌++◌, map, codes, refl}
use Rattle.std.proofs.Common.{sym, ap, subst, arith}
use Rattle.std.proofs.lemmas.Bool.{ltb-true, eqb-true, false≢true, and_parts, or_cases, agree_below, agree_below_at}
use Rattle.std.specs.Char.{is_digit, to_ascii_lowercase}
use Rattle.std.specs.List.{list_all}
use Rattle.ba_xml_words.specs.Classes.{is_space, is_first_letter}
use Rattle.ba_xml_grammar.specs.Grammar.{Value, value_end, value_character, value_reference, Pair, Start, Pieces, nothing, character}
use Rattle.ba_xml_grammar.specs.Grammar.{reference, section, comment, empty, element, Misc, misc_end, misc_space, misc_comment, Saying}
use Rattle.ba_xml_grammar.specs.Grammar.{Encoding, no_encoding, encoding, Standalone, no_standalone, standalone, Head, no_head, head}
use Rattle.ba_xml_grammar.specs.Grammar.{Document}
use Rattle.ba_xml_grammar.specs.Grammar.{written_value, written_pair, written_pairs, written_tag, written_start, written_end}
use Rattle.ba_xml_grammar.specs.Grammar.{written_comment, written_section, written, written_misc, written_saying, written_encoding}
use Rattle.ba_xml_grammar.specs.Grammar.{yes_or_no, attribute, written_standalone, written_heading, written_mark, written_document}
use Rattle.ba_xml_grammar.specs.Grammar.{IsValue, IsPair, ArePairs, IsStart, IsComment, IsSection, Allowed, IsMisc, IsRoot, IsSaying}
use Rattle.ba_xml_grammar.specs.Grammar.{IsEncoding, IsStandalone, IsHeading, IsDocument}
use Rattle.ba_xml_grammar.specs.GrammarWords.{Each, Begun, IsWhite, is_character, is_name_letter, IsPlainName, IsPrefix, IsName}
use Rattle.ba_xml_grammar.specs.GrammarWords.{written_prefix, written_name}
use Rattle.ba_xml_grammar.specs.GrammarWords.{Reference, less, greater, ampersand, apostrophe, quotation, decimal, hexadecimal}
use Rattle.ba_xml_grammar.specs.GrammarWords.{reference_text, written_reference, IsReference, IsQuote}
use Rattle.ba_xml_words.specs.declared.names.RawName.{RawName}
use Rattle.ba_xml_words.specs.declared.names.RawAttribute.{RawAttribute}

-- bytes of characters, of which the last is below 80
abbrev pub Fine : List ℕ → Type 0
Fine [] = Unit {0}
Fine (b ∷ bs) = (is_character b ≡ true) × (bs ≡ [] → b < 0x80) × Fine bs

-- and at least one
abbrev pub Full : List ℕ → Type 0
Full bytes = Begun bytes × Fine bytes

not_none : (bs : List ℕ) → Begun bs → bs ≡ [] → ⊥
not_none [] g e = g
not_none (b ∷ bs) g e = cc

-- a byte below 80, also at the end
low : (b : ℕ) (bs : List ℕ) → is_character b ≡ true → b < 0x80 → Fine bs → Full (b ∷ bs)
low b bs c l f = (tt, (c, λ e. l, f))

-- a byte of a character, before others
before : (b : ℕ) (bs : List ℕ) → is_character b ≡ true → Full bs → Full (b ∷ bs)
before b bs c f = (tt, (c, λ e. absurd (not_none bs f.0 e), f.1))

each : (bs rest : List ℕ) → Each is_character bs → Full rest → Full (bs ++ rest)
each [] rest e f = f
each (b ∷ bs) rest e f = before b (bs ++ rest) e.0 (each bs rest e.1 f)

-- ---- tests that only bytes of characters pass

passes : (test : ℕ → Bool) → agree_below (λ b. not (test b) || is_character b) (λ b. true) 32 ≡ true → (b : ℕ) → test b ≡ true
    → is_character b ≡ true
passes test table b e = by (nat_lt b 32) refl
  where
    from : (x : Bool) → x ≡ true → (not x || is_character b) ≡ true → is_character b ≡ true
    from true p q = q
    from false p q = absurd (false≢true p)

    by : (x : Bool) → nat_lt b 32 ≡ x → is_character b ≡ true
    by true p = from (test b) e (agree_below_at (λ b. not (test b) || is_character b) (λ b. true) 32 b table (ltb-true b 32 p))
    by false p = rw p refl

space_character : (b : ℕ) → is_space b ≡ true → is_character b ≡ true
space_character b e = passes is_space refl b e

letter_character : (b : ℕ) → is_name_letter b ≡ true → is_character b ≡ true
letter_character b e = passes is_name_letter refl b e

first_character : (b : ℕ) → is_first_letter b ≡ true → is_character b ≡ true
first_character b e = passes is_first_letter refl b e

each_by : (test : ℕ → Bool) → ((b : ℕ) → test b ≡ true → is_character b ≡ true) → (bs : List ℕ) → Each test bs → Each is_character bs
each_by test p [] e = tt
each_by test p (b ∷ bs) e = (p b e.0, each_by test p bs e.1)

white : (bs : List ℕ) → IsWhite bs → Each is_character bs
white bs e = each_by is_space space_character bs e

-- the bytes of a word that is written out
word : (bs : List ℕ) → list_all is_character bs ≡ true → Each is_character bs
word [] e = tt
word (b ∷ bs) e = let p = and_parts (is_character b) (list_all is_character bs) e in (p.0, word bs p.1)

quote_character : (b : ℕ) → IsQuote b → is_character b ≡ true
quote_character b (inl e) = ap is_character e
quote_character b (inr e) = ap is_character e

-- ---- names, references and attributes

plain : (bs : List ℕ) → IsPlainName bs → Each is_character bs
plain [] p = absurd p
plain (b ∷ bs) p = (first_character b p.0, each_by is_name_letter letter_character bs p.1)

prefix_full : (prefix rest : List ℕ) → IsPrefix prefix → Full rest → Full (written_prefix prefix rest)
prefix_full [] rest p f = f
prefix_full (b ∷ bs) rest p f = let e = plain (b ∷ bs) p in before b (bs ++ 58 ∷ rest) e.0 (each bs (58 ∷ rest) e.1 (before 58 rest refl f))

name_full : (name : RawName) (rest : List ℕ) → IsName name → Full rest → Full (written_name name rest)
name_full name rest n f = prefix_full name.prefix (name.local ++ rest) n.0 (each name.local rest (plain name.local n.1) f)

text_each : (r : Reference) → IsReference r → Each is_character (reference_text r)
text_each less i = word (codes "lt") refl
text_each greater i = word (codes "gt") refl
text_each ampersand i = word (codes "amp") refl
text_each apostrophe i = word (codes "apos") refl
text_each quotation i = word (codes "quot") refl
text_each (decimal digits) i = (refl, each_by (λ d. is_digit d 10) (passes (λ d. is_digit d 10) refl) digits i.1)
text_each (hexadecimal digits) i = (refl, (refl, each_by (λ d. is_digit d 16) (passes (λ d. is_digit d 16) refl) digits i.1))

reference_full : (r : Reference) (rest : List ℕ) → IsReference r → Full rest → Full (written_reference r rest)
reference_full r rest i f = before 38 (reference_text r ++ 59 ∷ rest) refl
    (each (reference_text r) (59 ∷ rest) (text_each r i) (before 59 rest refl f))

value_full : (quote : ℕ) (v : Value) (rest : List ℕ) → IsValue quote v → Full rest → Full (written_value v rest)
value_full quote value_end rest i f = f
value_full quote (value_character b more) rest i f = before b (written_value more rest) i.0 (value_full quote more rest i.4 f)
value_full quote (value_reference r more) rest i f = reference_full r (written_value more rest) i.0 (value_full quote more rest i.1 f)

pair_full : (attributes : List RawAttribute) (a : Pair) (rest : List ℕ) → IsPair attributes a → Full rest → Full (written_pair a rest)
pair_full attributes a rest i f = each a.gap _ (white a.gap i.0.1)
    (name_full a.name _ i.1 (each a.left _ (white a.left i.3) (before 61 _ refl (each a.right _ (white a.right i.4)
    (before a.quote _ (quote_character a.quote i.5)
    (value_full a.quote a.value _ i.6 (before a.quote rest (quote_character a.quote i.5) f)))))))

pairs_full : (pairs : List Pair) (attributes : List RawAttribute) (rest : List ℕ) → ArePairs attributes pairs → Full rest
    → Full (written_pairs pairs rest)
pairs_full [] attributes rest i f = f
pairs_full (a ∷ more) attributes rest i f =
    pair_full attributes a (written_pairs more rest) i.0 (pairs_full more (attributes ++ attribute a ∷ []) rest i.1 f)

-- ---- content

start_full : (s : Start) (rest : List ℕ) → IsStart s → Full rest → Full (written_start s rest)
start_full s rest i f = before 60 (written_tag s rest) refl
    (name_full s.name (written_pairs s.pairs (s.space ++ rest)) i.0
    (pairs_full s.pairs [] (s.space ++ rest) i.1 (each s.space rest (white s.space i.2) f)))

end_full : (name : RawName) (space rest : List ℕ) → IsName name → IsWhite space → Fine rest → Full (written_end name space rest)
end_full name space rest n w f = before 60 _ refl
    (before 47 _ refl (name_full name (space ++ 62 ∷ rest) n (each space (62 ∷ rest) (white space w) (low 62 rest refl (omega arith) f))))

comment_full : (body rest : List ℕ) → IsComment body → Fine rest → Full (written_comment body rest)
comment_full body rest i f = each (codes "<!--") _ (word (codes "<!--") refl)
    (each body _ i.0 (before 45 _ refl (before 45 _ refl (low 62 rest refl (omega arith) f))))

section_full : (body rest : List ℕ) → IsSection body → Fine rest → Full (written_section body rest)
section_full body rest i f = each (codes "<![CDATA[") _ (word (codes "<![CDATA[") refl)
    (each body _ i.0 (before 93 _ refl (before 93 _ refl (low 62 rest refl (omega arith) f))))

empty_full : (s : Start) (rest : List ℕ) → IsStart s → Fine rest → Full (written_start s (47 ∷ 62 ∷ rest))
empty_full s rest i f = start_full s (47 ∷ 62 ∷ rest) i (before 47 (62 ∷ rest) refl (low 62 rest refl (omega arith) f))

pieces_full : (p : Pieces) (rest : List ℕ) → Allowed p → Full rest → Full (written p rest)
pieces_full nothing rest a f = f
pieces_full (character b more) rest a f = before b (written more rest) a.0.0 (pieces_full more rest a.1 f)
pieces_full (reference r more) rest a f = reference_full r (written more rest) a.0 (pieces_full more rest a.1 f)
pieces_full (section body more) rest a f = section_full body (written more rest) a.0 (pieces_full more rest a.1 f).1
pieces_full (comment body more) rest a f = comment_full body (written more rest) a.0 (pieces_full more rest a.1 f).1
pieces_full (empty s more) rest a f = empty_full s (written more rest) a.0 (pieces_full more rest a.1 f).1
pieces_full (element s inside space more) rest a f =
    start_full s _ a.0 (before 62 _ refl (pieces_full inside _ a.1
    (end_full s.name space (written more rest) a.0.0 a.2 (pieces_full more rest a.3 f).1)))

root_full : (p : Pieces) (rest : List ℕ) → IsRoot p → Allowed p → Fine rest → Full (written p rest)
root_full (empty s nothing) rest i a f = empty_full s rest a.0 f
root_full (element s inside space nothing) rest i a f =
    start_full s _ a.0 (before 62 _ refl (pieces_full inside _ a.1 (end_full s.name space rest a.0.0 a.2 f)))
root_full _ rest i a f = absurd i

-- ---- documents

-- white space is below 80
space_below : (b : ℕ) → is_space b ≡ true → b < 0x80
space_below b e = by (or_cases (b == 32 || b == 9) (b == 10) e)
  where
    at : (n : ℕ) → n < 0x80 → (b == n) ≡ true → b < 0x80
    at n l p = subst (λ x. x < 0x80) (sym (eqb-true b n p)) l

    by_first : ((b == 32) ≡ true) ⊎ ((b == 9) ≡ true) → b < 0x80
    by_first (inl p) = at 32 (omega arith) p
    by_first (inr p) = at 9 (omega arith) p

    by : ((b == 32 || b == 9) ≡ true) ⊎ ((b == 10) ≡ true) → b < 0x80
    by (inl p) = by_first (or_cases (b == 32) (b == 9) p)
    by (inr p) = at 10 (omega arith) p

misc_full : (m : Misc) (rest : List ℕ) → IsMisc m → Full rest → Full (written_misc m rest)
misc_full misc_end rest i f = f
misc_full (misc_space b more) rest i f = before b (written_misc more rest) (space_character b i.0) (misc_full more rest i.1 f)
misc_full (misc_comment body more) rest i f = comment_full body (written_misc more rest) i.0 (misc_full more rest i.1 f).1

-- nothing may follow
misc_fine : (m : Misc) (rest : List ℕ) → IsMisc m → Fine rest → Fine (written_misc m rest)
misc_fine misc_end rest i f = f
misc_fine (misc_space b more) rest i f = (low b (written_misc more rest) (space_character b i.0) (space_below b i.0)
    (misc_fine more rest i.1 f)).1
misc_fine (misc_comment body more) rest i f = (comment_full body (written_misc more rest) i.0 (misc_fine more rest i.1 f)).1

saying_full : (s : Saying) (name value rest : List ℕ) → IsSaying s → Each is_character name → Each is_character value → Full rest
    → Full (written_saying s name value rest)
saying_full s name value rest i n v f = each s.gap _ (white s.gap i.0.1)
    (each name _ n (each s.left _ (white s.left i.1) (before 61 _ refl (each s.right _ (white s.right i.2)
    (before s.quote _ (quote_character s.quote i.3) (each value _ v (before s.quote rest (quote_character s.quote i.3) f)))))))

each_lower : (bs : List ℕ) → Each is_character (map to_ascii_lowercase bs) → Each (λ b. is_character (to_ascii_lowercase b)) bs
each_lower [] e = tt
each_lower (b ∷ bs) e = (e.0, each_lower bs e.1)

encoding_name : (name : List ℕ) → map to_ascii_lowercase name ≡ codes "utf-8" → Each is_character name
encoding_name name e = each_by (λ b. is_character (to_ascii_lowercase b)) (passes (λ b. is_character (to_ascii_lowercase b)) refl) name
    (each_lower name (subst (λ bs. Each is_character bs) (sym e) (word (codes "utf-8") refl)))

encoding_full : (e : Encoding) (rest : List ℕ) → IsEncoding e → Full rest → Full (written_encoding e rest)
encoding_full no_encoding rest i f = f
encoding_full (encoding s name) rest i f =
    saying_full s (codes "encoding") name rest i.0 (word (codes "encoding") refl) (encoding_name name i.1) f

answer_each : (answer : Bool) → Each is_character (yes_or_no answer)
answer_each true = word (codes "yes") refl
answer_each false = word (codes "no") refl

standalone_full : (s : Standalone) (rest : List ℕ) → IsStandalone s → Full rest → Full (written_standalone s rest)
standalone_full no_standalone rest i f = f
standalone_full (standalone s answer) rest i f =
    saying_full s (codes "standalone") (yes_or_no answer) rest i (word (codes "standalone") refl) (answer_each answer) f

heading_full : (h : Head) (rest : List ℕ) → IsHeading h → Full rest → Full (written_heading h rest)
heading_full no_head rest i f = f
heading_full (head version e s space) rest i f = each (codes "<?xml") _ (word (codes "<?xml") refl)
    (saying_full version (codes "version") (codes "1.0") _ i.0 (word (codes "version") refl) (word (codes "1.0") refl)
    (encoding_full e _ i.1 (standalone_full s _ i.2 (each space _ (white space i.3) (each (codes "?>") rest (word (codes "?>") refl) f)))))

mark_full : (mark : Bool) (rest : List ℕ) → Full rest → Full (written_mark mark rest)
mark_full true rest f = before 0xEF _ refl (before 0xBB _ refl (before 0xBF rest refl f))
mark_full false rest f = f

pub document_full : (d : Document) → IsDocument d → Full (written_document d)
document_full d i = mark_full d.mark _ (heading_full d.heading _ i.0
    (misc_full d.before _ i.1 (root_full d.root _ i.2 i.3 (misc_fine d.behind [] i.4 tt))))

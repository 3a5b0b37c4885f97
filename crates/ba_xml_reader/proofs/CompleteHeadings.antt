-- The machine over the XML declaration.
use Rattle.std.proofs.Common.{◌≡◌, ℕ, Bool, true, false, inl, inr, List, [], ◌∷◌, ◌++◌, map, codes, get_or, true≢false, refl, sym, ap, ◌∙◌}
use Rattle.std.proofs.Common.{subst, eq-eqb}
use Rattle.std.specs.Char.{to_ascii_lowercase}
use Rattle.ba_xml_reader.proofs.CompleteContent.{white}
use Rattle.ba_xml_reader.proofs.CompleteSteps.{steps, one, by_kind, go, space_kind}
use Rattle.ba_xml_words.specs.Classes.{class_of, mark_of}
use Rattle.ba_xml_words.specs.inside.Headings.{heading_after, first_setting, said_by}
use Rattle.ba_xml_reader.specs.inside.Content.{declaring_by}
use Rattle.ba_xml_reader.specs.inside.Machine.{document}
use Rattle.ba_xml_words.specs.inside.Words.{reached_at}
use Rattle.ba_xml_grammar.specs.Grammar.{Saying, Encoding, no_encoding, encoding, Standalone, no_standalone, standalone, head}
use Rattle.ba_xml_grammar.specs.Grammar.{written_saying, written_encoding, written_standalone, yes_or_no, IsSaying, IsEncoding}
use Rattle.ba_xml_grammar.specs.Grammar.{IsStandalone, IsHeading}
use Rattle.ba_xml_grammar.specs.GrammarWords.{IsWhite, IsGap, IsQuote}
use Rattle.ba_xml_words.specs.declared.classes.Class.TheVariants as class
use Rattle.ba_xml_words.specs.declared.headings.Declared.{Declared}
use Rattle.ba_xml_words.specs.declared.headings.Declared.TheVariants as declared'
use Rattle.ba_xml_words.specs.declared.headings.Heading.{Heading}
use Rattle.ba_xml_words.specs.declared.headings.Heading.TheVariants as heading'
use Rattle.ba_xml_words.specs.declared.headings.Item.{Item}
use Rattle.ba_xml_words.specs.declared.headings.Item.TheVariants as item
use Rattle.ba_xml_words.specs.declared.headings.Setting.TheVariants as setting
use Rattle.ba_xml_reader.specs.declared.states.Mode.TheVariants as mode
use Rattle.ba_xml_reader.specs.declared.states.Seen.TheVariants.{Zero}
use Rattle.ba_xml_reader.specs.declared.states.State.{State}
use Rattle.ba_xml_reader.specs.declared.states.State.TheVariants.{At}

abbrev in_heading : Heading → State
in_heading h = At [] document (mode.Declaring h)

-- the declaration by itself, byte by byte
abbrev heads : Declared → List ℕ → Declared
heads d [] = d
heads declared'.Wrong (b ∷ bs) = declared'.Wrong
heads declared'.Whole (b ∷ bs) = declared'.Wrong
heads (declared'.On h) (b ∷ bs) = heads (heading_after h b (class_of b)) bs

wrong : (bs : List ℕ) → heads declared'.Wrong bs ≡ declared'.Wrong
wrong [] = refl
wrong (b ∷ bs) = refl

heading_step : (h next : Heading) (b : ℕ) (bs : List ℕ) → heading_after h b (class_of b) ≡ declared'.On next
    → steps (in_heading h) (b ∷ bs) ≡ steps (in_heading next) bs
heading_step h next b bs e = one (in_heading h) (in_heading next) b bs
    (by_kind [] document (mode.Declaring h) b (class_of b) refl ∙ ap (λ d. declaring_by [] document d) e)

by : (h last : Heading) (b : ℕ) (bs rest : List ℕ) (d : Declared) → heading_after h b (class_of b) ≡ d → heads d bs ≡ declared'.On last
    → ((next : Heading) → heads (declared'.On next) bs ≡ declared'.On last
    → steps (in_heading next) (bs ++ rest) ≡ steps (in_heading last) rest)
    → steps (in_heading h) (b ∷ (bs ++ rest)) ≡ steps (in_heading last) rest
by h last b bs rest declared'.Wrong e m ih = absurd (clash (sym (wrong bs) ∙ m))
  where
    clash : declared'.Wrong ≡ declared'.On last → ⊥
    clash e = cc
by h last b [] rest declared'.Whole e m ih = absurd (clash m)
  where
    clash : declared'.Whole ≡ declared'.On last → ⊥
    clash e = cc
by h last b (x ∷ bs) rest declared'.Whole e m ih = absurd (clash m)
  where
    clash : declared'.Wrong ≡ declared'.On last → ⊥
    clash e = cc
by h last b bs rest (declared'.On next) e m ih = heading_step h next b (bs ++ rest) e ∙ ih next m

on_same : (h last : Heading) → declared'.On h ≡ declared'.On last → h ≡ last
on_same h last e = cc

walk : (bs : List ℕ) (h last : Heading) (rest : List ℕ) → heads (declared'.On h) bs ≡ declared'.On last
    → steps (in_heading h) (bs ++ rest) ≡ steps (in_heading last) rest
walk [] h last rest m = ap (λ x. steps (in_heading x) rest) (on_same h last m)
walk (b ∷ bs) h last rest m = by h last b bs rest (heading_after h b (class_of b)) refl m (λ next n. walk bs next last rest n)

-- ---- words

version_word : heads (declared'.On (heading'.Blank true)) (codes "version") ≡ declared'.On (heading'.Equals item.Version)
unfolding heading_after class_of mark_of
version_word = refl

encoding_word : heads (declared'.On (heading'.Behind item.Version true)) (codes "encoding") ≡ declared'.On (heading'.Equals item.Encoding)
unfolding heading_after class_of mark_of
encoding_word = refl

standalone_word : heads (declared'.On (heading'.Behind item.Version true)) (codes "standalone")
    ≡ declared'.On (heading'.Equals item.Standalone)
unfolding heading_after class_of mark_of
standalone_word = refl

later_standalone_word : heads (declared'.On (heading'.Behind item.Encoding true)) (codes "standalone")
    ≡ declared'.On (heading'.Equals item.Standalone)
unfolding heading_after class_of mark_of
later_standalone_word = refl

target_word : heads (declared'.On (heading'.Target 0)) (codes "xml") ≡ declared'.On (heading'.Blank false)
unfolding heading_after class_of mark_of
target_word = refl

version_value : (quote : ℕ) → heads (declared'.On (heading'.Said item.Version quote setting.OneZero 0)) (codes "1.0")
    ≡ declared'.On (heading'.SaidAll item.Version quote)
unfolding heading_after class_of mark_of
version_value quote = refl

standalone_value : (quote : ℕ) (answer : Bool)
    → heads (declared'.On (heading'.Said item.Standalone quote setting.Yes 0)) (yes_or_no answer)
    ≡ declared'.On (heading'.SaidAll item.Standalone quote)
unfolding heading_after class_of mark_of
standalone_value quote true = refl
standalone_value quote false = refl

abbrev letter_by : ℕ → ℕ → ℕ → Declared
letter_by quote count c = said_by item.Encoding quote setting.Utf8 (reached_at (codes "utf-8") count c)

letter_0 : (quote b : ℕ) → heading_after (heading'.Said item.Encoding quote setting.Utf8 0) b (class_of b)
    ≡ letter_by quote 0 (to_ascii_lowercase b)
unfolding heading_after
letter_0 quote b = refl

letter_1 : (quote b : ℕ) → heading_after (heading'.Said item.Encoding quote setting.Utf8 1) b (class_of b)
    ≡ letter_by quote 1 (to_ascii_lowercase b)
unfolding heading_after
letter_1 quote b = refl

letter_2 : (quote b : ℕ) → heading_after (heading'.Said item.Encoding quote setting.Utf8 2) b (class_of b)
    ≡ letter_by quote 2 (to_ascii_lowercase b)
unfolding heading_after
letter_2 quote b = refl

letter_3 : (quote b : ℕ) → heading_after (heading'.Said item.Encoding quote setting.Utf8 3) b (class_of b)
    ≡ letter_by quote 3 (to_ascii_lowercase b)
unfolding heading_after
letter_3 quote b = refl

letter_4 : (quote b : ℕ) → heading_after (heading'.Said item.Encoding quote setting.Utf8 4) b (class_of b)
    ≡ letter_by quote 4 (to_ascii_lowercase b)
unfolding heading_after
letter_4 quote b = refl

abbrev utf8_word : List ℕ
utf8_word = 117 ∷ 116 ∷ 102 ∷ 45 ∷ 56 ∷ []

abbrev IsUtf8Name : List ℕ → Type 0
IsUtf8Name name = map to_ascii_lowercase name ≡ utf8_word

abbrev Utf8Said : ℕ → List ℕ → Type 0
Utf8Said quote name = heads (declared'.On (heading'.Said item.Encoding quote setting.Utf8 0)) name
    ≡ declared'.On (heading'.SaidAll item.Encoding quote)

spelt : (quote a b c d f : ℕ) → IsUtf8Name (a ∷ b ∷ c ∷ d ∷ f ∷ []) → Utf8Said quote (a ∷ b ∷ c ∷ d ∷ f ∷ [])
spelt quote a b c d f e = ap (λ x. heads x (b ∷ c ∷ d ∷ f ∷ [])) (letter_0 quote a ∙ ap (letter_by quote 0) (ap (λ l. get_or l 0 0) e))
    ∙ ap (λ x. heads x (c ∷ d ∷ f ∷ [])) (letter_1 quote b ∙ ap (letter_by quote 1) (ap (λ l. get_or l 1 0) e))
    ∙ ap (λ x. heads x (d ∷ f ∷ [])) (letter_2 quote c ∙ ap (letter_by quote 2) (ap (λ l. get_or l 2 0) e))
    ∙ ap (λ x. heads x (f ∷ [])) (letter_3 quote d ∙ ap (letter_by quote 3) (ap (λ l. get_or l 3 0) e))
    ∙ ap (λ x. heads x []) (letter_4 quote f ∙ ap (letter_by quote 4) (ap (λ l. get_or l 4 0) e))

-- whether a list has five items
abbrev is_five : List ℕ → Bool
is_five [] = false
is_five (a ∷ []) = false
is_five (a ∷ b ∷ []) = false
is_five (a ∷ b ∷ c ∷ []) = false
is_five (a ∷ b ∷ c ∷ d ∷ []) = false
is_five (a ∷ b ∷ c ∷ d ∷ f ∷ []) = true
is_five (a ∷ b ∷ c ∷ d ∷ f ∷ g ∷ more) = false

utf8_value : (quote : ℕ) (name : List ℕ) → IsUtf8Name name → Utf8Said quote name
utf8_value quote [] e = absurd (true≢false (sym (ap is_five e)))
utf8_value quote (a ∷ []) e = absurd (true≢false (sym (ap is_five e)))
utf8_value quote (a ∷ b ∷ []) e = absurd (true≢false (sym (ap is_five e)))
utf8_value quote (a ∷ b ∷ c ∷ []) e = absurd (true≢false (sym (ap is_five e)))
utf8_value quote (a ∷ b ∷ c ∷ d ∷ []) e = absurd (true≢false (sym (ap is_five e)))
utf8_value quote (a ∷ b ∷ c ∷ d ∷ f ∷ []) e = spelt quote a b c d f e
utf8_value quote (a ∷ b ∷ c ∷ d ∷ f ∷ g ∷ more) e = absurd (true≢false (sym (ap is_five e)))

-- ---- what the declaration says

space_at : (h : Heading) (next : Heading) → ((b : ℕ) → heading_after h b class.Space ≡ declared'.On next)
    → ((b : ℕ) → heading_after next b class.Space ≡ declared'.On next)
    → (ws rest : List ℕ) → IsGap ws → steps (in_heading h) (ws ++ rest) ≡ steps (in_heading next) rest
space_at h next e stays [] rest g = absurd g.0
space_at h next e stays (b ∷ ws) rest g = go [] document (mode.Declaring h) b class.Space (ws ++ rest) (space_kind b g.1.0)
    ∙ ap (λ d. steps (declaring_by [] document d) (ws ++ rest)) (e b)
    ∙ white [] document (mode.Declaring next) (ap (λ d. declaring_by [] document d) (stays 0))
    (λ b. ap (λ d. declaring_by [] document d) (stays b)) ws rest g.1.1

blank_space : (spaced : Bool) (b : ℕ) → heading_after (heading'.Blank spaced) b class.Space ≡ declared'.On (heading'.Blank true)
unfolding heading_after
blank_space spaced b = refl

behind_space : (i : Item) (spaced : Bool) (b : ℕ)
    → heading_after (heading'.Behind i spaced) b class.Space ≡ declared'.On (heading'.Behind i true)
unfolding heading_after
behind_space i spaced b = refl

equals_space : (i : Item) (b : ℕ) → heading_after (heading'.Equals i) b class.Space ≡ declared'.On (heading'.Equals i)
unfolding heading_after
equals_space i b = refl

quote_space : (i : Item) (b : ℕ) → heading_after (heading'.Quote i) b class.Space ≡ declared'.On (heading'.Quote i)
unfolding heading_after
quote_space i b = refl

stay : (h : Heading) → ((b : ℕ) → heading_after h b class.Space ≡ declared'.On h) → (ws rest : List ℕ) → IsWhite ws
    → steps (in_heading h) (ws ++ rest) ≡ steps (in_heading h) rest
stay h stays ws rest w = white [] document (mode.Declaring h) (ap (λ d. declaring_by [] document d) (stays 0))
    (λ b. ap (λ d. declaring_by [] document d) (stays b)) ws rest w

equals_mark : (i : Item) → heading_after (heading'.Equals i) 61 (class_of 61) ≡ declared'.On (heading'.Quote i)
unfolding heading_after class_of mark_of
equals_mark i = refl

double_mark : (i : Item) → heading_after (heading'.Quote i) 34 (class_of 34) ≡ declared'.On (heading'.Said i 34 (first_setting i) 0)
unfolding heading_after class_of mark_of
double_mark i = refl

single_mark : (i : Item) → heading_after (heading'.Quote i) 39 (class_of 39) ≡ declared'.On (heading'.Said i 39 (first_setting i) 0)
unfolding heading_after class_of mark_of
single_mark i = refl

quote_mark : (i : Item) (quote : ℕ) → IsQuote quote
    → heading_after (heading'.Quote i) quote (class_of quote) ≡ declared'.On (heading'.Said i quote (first_setting i) 0)
quote_mark i quote (inl e) = subst (λ q. heading_after (heading'.Quote i) q (class_of q)
    ≡ declared'.On (heading'.Said i q (first_setting i) 0)) (sym e) (double_mark i)
quote_mark i quote (inr e) = subst (λ q. heading_after (heading'.Quote i) q (class_of q)
    ≡ declared'.On (heading'.Said i q (first_setting i) 0)) (sym e) (single_mark i)

end_mark : (i : Item) (quote : ℕ) → heading_after (heading'.SaidAll i quote) quote (class_of quote) ≡ declared'.On (heading'.Behind i false)
unfolding heading_after
end_mark i quote = rw (eq-eqb quote quote refl) refl

-- from an item's name on
value_runs : (i : Item) (s : Saying) (value rest : List ℕ) → IsSaying s
    → heads (declared'.On (heading'.Said i s.quote (first_setting i) 0)) value ≡ declared'.On (heading'.SaidAll i s.quote)
    → steps (in_heading (heading'.Equals i)) (s.left ++ 61 ∷ (s.right ++ s.quote ∷ (value ++ s.quote ∷ rest)))
    ≡ steps (in_heading (heading'.Behind i false)) rest
value_runs i s value rest w v = stay (heading'.Equals i) (equals_space i) s.left (61 ∷ (s.right ++ s.quote ∷ (value ++ s.quote ∷ rest))) w.1
    ∙ heading_step (heading'.Equals i) (heading'.Quote i) 61 (s.right ++ s.quote ∷ (value ++ s.quote ∷ rest)) (equals_mark i)
    ∙ stay (heading'.Quote i) (quote_space i) s.right (s.quote ∷ (value ++ s.quote ∷ rest)) w.2
    ∙ heading_step (heading'.Quote i) (heading'.Said i s.quote (first_setting i) 0) s.quote (value ++ s.quote ∷ rest)
    (quote_mark i s.quote w.3)
    ∙ walk value (heading'.Said i s.quote (first_setting i) 0) (heading'.SaidAll i s.quote) (s.quote ∷ rest) v
    ∙ heading_step (heading'.SaidAll i s.quote) (heading'.Behind i false) s.quote rest (end_mark i s.quote)

version_runs : (s : Saying) (rest : List ℕ) → IsSaying s
    → steps (in_heading (heading'.Blank false)) (written_saying s (codes "version") (codes "1.0") rest)
    ≡ steps (in_heading (heading'.Behind item.Version false)) rest
version_runs s rest w = space_at (heading'.Blank false) (heading'.Blank true) (blank_space false) (blank_space true) s.gap
    (codes "version" ++ (s.left ++ 61 ∷ (s.right ++ s.quote ∷ (codes "1.0" ++ s.quote ∷ rest)))) w.0
    ∙ walk (codes "version") (heading'.Blank true) (heading'.Equals item.Version)
    (s.left ++ 61 ∷ (s.right ++ s.quote ∷ (codes "1.0" ++ s.quote ∷ rest))) version_word
    ∙ value_runs item.Version s (codes "1.0") rest w (version_value s.quote)

later_runs : (before i : Item) (s : Saying) (word value rest : List ℕ) → IsSaying s
    → heads (declared'.On (heading'.Behind before true)) word ≡ declared'.On (heading'.Equals i)
    → heads (declared'.On (heading'.Said i s.quote (first_setting i) 0)) value ≡ declared'.On (heading'.SaidAll i s.quote)
    → steps (in_heading (heading'.Behind before false)) (written_saying s word value rest)
    ≡ steps (in_heading (heading'.Behind i false)) rest
later_runs before i s word value rest w e v =
    space_at (heading'.Behind before false) (heading'.Behind before true) (behind_space before false) (behind_space before true) s.gap
    (word ++ (s.left ++ 61 ∷ (s.right ++ s.quote ∷ (value ++ s.quote ∷ rest)))) w.0
    ∙ walk word (heading'.Behind before true) (heading'.Equals i) (s.left ++ 61 ∷ (s.right ++ s.quote ∷ (value ++ s.quote ∷ rest))) e
    ∙ value_runs i s value rest w v

-- the end of the declaration, behind any item
question_mark : (i : Item) (spaced : Bool) → heading_after (heading'.Behind i spaced) 63 (class_of 63) ≡ declared'.On heading'.Close
unfolding heading_after class_of mark_of
question_mark i spaced = refl

close_mark : heading_after heading'.Close 62 (class_of 62) ≡ declared'.Whole
unfolding heading_after class_of mark_of
close_mark = refl

close_runs : (i : Item) (spaced : Bool) (rest : List ℕ)
    → steps (in_heading (heading'.Behind i spaced)) (63 ∷ 62 ∷ rest) ≡ steps (At [] document (mode.Inside Zero)) rest
close_runs i spaced rest = heading_step (heading'.Behind i spaced) heading'.Close 63 (62 ∷ rest) (question_mark i spaced)
    ∙ one (in_heading heading'.Close) (At [] document (mode.Inside Zero)) 62 rest
    (by_kind [] document (mode.Declaring heading'.Close) 62 (class_of 62) refl ∙ ap (λ d. declaring_by [] document d) close_mark)

end_runs : (i : Item) (ws rest : List ℕ) → IsWhite ws
    → steps (in_heading (heading'.Behind i false)) (ws ++ 63 ∷ 62 ∷ rest) ≡ steps (At [] document (mode.Inside Zero)) rest
end_runs i [] rest w = close_runs i false rest
end_runs i (b ∷ ws) rest w = space_at (heading'.Behind i false) (heading'.Behind i true) (behind_space i false) (behind_space i true)
    (b ∷ ws) (63 ∷ 62 ∷ rest) (tt, w) ∙ close_runs i true rest

standalone_runs : (before : Item) (s : Standalone) (ws rest : List ℕ)
    → heads (declared'.On (heading'.Behind before true)) (codes "standalone") ≡ declared'.On (heading'.Equals item.Standalone)
    → IsStandalone s → IsWhite ws → steps (in_heading (heading'.Behind before false)) (written_standalone s (ws ++ 63 ∷ 62 ∷ rest))
    ≡ steps (At [] document (mode.Inside Zero)) rest
standalone_runs before no_standalone ws rest e i w = end_runs before ws rest w
standalone_runs before (standalone s answer) ws rest e i w =
    later_runs before item.Standalone s (codes "standalone") (yes_or_no answer) (ws ++ 63 ∷ 62 ∷ rest) i e (standalone_value s.quote answer)
    ∙ end_runs item.Standalone ws rest w

encoding_runs : (c : Encoding) (s : Standalone) (ws rest : List ℕ) → IsEncoding c → IsStandalone s → IsWhite ws
    → steps (in_heading (heading'.Behind item.Version false)) (written_encoding c (written_standalone s (ws ++ 63 ∷ 62 ∷ rest)))
    ≡ steps (At [] document (mode.Inside Zero)) rest
encoding_runs no_encoding s ws rest c i w = standalone_runs item.Version s ws rest standalone_word i w
encoding_runs (encoding x name) s ws rest c i w =
    later_runs item.Version item.Encoding x (codes "encoding") name (written_standalone s (ws ++ 63 ∷ 62 ∷ rest)) c.0 encoding_word
    (utf8_value x.quote name c.1)
    ∙ standalone_runs item.Encoding s ws rest later_standalone_word i w

-- the declaration behind "<?"
pub head_runs : (version : Saying) (c : Encoding) (s : Standalone) (ws rest : List ℕ) → IsHeading (head version c s ws)
    → steps (in_heading (heading'.Target 0)) (codes "xml"
    ++ written_saying version (codes "version") (codes "1.0") (written_encoding c (written_standalone s (ws ++ 63 ∷ 62 ∷ rest))))
    ≡ steps (At [] document (mode.Inside Zero)) rest
head_runs version c s ws rest h = walk (codes "xml") (heading'.Target 0) (heading'.Blank false)
    (written_saying version (codes "version") (codes "1.0") (written_encoding c (written_standalone s (ws ++ 63 ∷ 62 ∷ rest)))) target_word
    ∙ version_runs version (written_encoding c (written_standalone s (ws ++ 63 ∷ 62 ∷ rest))) h.0 ∙ encoding_runs c s ws rest h.1 h.2 h.3

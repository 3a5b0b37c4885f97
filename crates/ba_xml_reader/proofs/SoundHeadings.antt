-- The declaration backward: what follows in the machine's states inside it is the rest of a declaration.
use Rattle.std.proofs.Common.{◌≡◌, ℕ, Bool, true, false, List, [], ◌∷◌, ◌++◌, map, drop, codes, refl, ap, ◌∙◌, ◌⊎◌, inl, inr}
use Rattle.std.specs.Char.{to_ascii_lowercase}
use Rattle.ba_xml_reader.proofs.SoundKinds.{IsMark}
use Rattle.ba_xml_words.specs.inside.Headings.{item_text, setting_text, spelling}
use Rattle.ba_xml_grammar.specs.Grammar.{Encoding, no_encoding, encoding, Standalone, no_standalone, standalone, Head, head}
use Rattle.ba_xml_grammar.specs.Grammar.{written_encoding, written_standalone, written_heading, IsEncoding, IsStandalone, IsHeading}
use Rattle.ba_xml_grammar.specs.Grammar.{yes_or_no}
use Rattle.ba_xml_grammar.specs.GrammarWords.{Begun, IsWhite, IsQuote}
use Rattle.ba_xml_words.specs.declared.classes.Class.TheVariants as class
use Rattle.ba_xml_words.specs.declared.headings.Item.{Item}
use Rattle.ba_xml_words.specs.declared.headings.Item.TheVariants as item
use Rattle.ba_xml_words.specs.declared.headings.Setting.{Setting}

-- what an item of the declaration may say
abbrev pub Says : Item → List ℕ → Type 0
Says item.Version value = value ≡ codes "1.0"
Says item.Encoding value = map to_ascii_lowercase value ≡ codes "utf-8"
Says item.Standalone value = (answer : Bool) × (value ≡ yes_or_no answer)

-- the rest of what is said, by this setting, of which so many bytes are read
abbrev pub SaysLeft : Setting → ℕ → List ℕ → Type 0
SaysLeft s count value = map (spelling s) value ≡ drop count (setting_text s)

module _ (After : List ℕ → Type 0) where
  -- white space and "?>"
  abbrev pub Ends : Bool → List ℕ → Type 0
  Ends spaced bs = (space : List ℕ) × (rest : List ℕ) × IsWhite space × (bs ≡ space ++ 63 ∷ 62 ∷ rest) × After rest

  abbrev pub IsSpaced : Bool → List ℕ → Type 0
  IsSpaced spaced gap = IsWhite gap × (spaced ≡ false → Begun gap)

  -- from "=" on, up to the last quote, and then what may follow
  abbrev pub SaidThen : Item → (List ℕ → Type 0) → List ℕ → Type 0
  SaidThen i Next bs = (left : List ℕ) × (right : List ℕ) × (quote : ℕ) × (value : List ℕ) × (rest : List ℕ) × IsWhite left × IsWhite right
      × IsQuote quote × Says i value
      × (bs ≡ left ++ 61 ∷ (right ++ quote ∷ (value ++ quote ∷ rest))) × Next rest

  -- an item from its white space on
  abbrev pub ItemThen : Item → (List ℕ → Type 0) → Bool → List ℕ → Type 0
  ItemThen i Next spaced bs = (gap : List ℕ) × (r : List ℕ) × IsSpaced spaced gap × (bs ≡ gap ++ (item_text i ++ r)) × SaidThen i Next r

  -- what may follow an item
  abbrev pub BehindStandalone : Bool → List ℕ → Type 0
  BehindStandalone spaced bs = Ends spaced bs

  abbrev pub BehindEncoding : Bool → List ℕ → Type 0
  BehindEncoding spaced bs = ItemThen item.Standalone (BehindStandalone false) spaced bs ⊎ Ends spaced bs

  abbrev pub BehindVersion : Bool → List ℕ → Type 0
  BehindVersion spaced bs = ItemThen item.Encoding (BehindEncoding false) spaced bs ⊎ BehindEncoding spaced bs

  abbrev pub BehindItem : Item → Bool → List ℕ → Type 0
  BehindItem item.Version spaced bs = BehindVersion spaced bs
  BehindItem item.Encoding spaced bs = BehindEncoding spaced bs
  BehindItem item.Standalone spaced bs = BehindStandalone spaced bs

  -- white space before what follows an item
  pub item_space : (i : Item) (Next : List ℕ → Type 0) (spaced : Bool) (b : ℕ) (bs : List ℕ) → IsMark class.Space b
      → ItemThen i Next true bs → ItemThen i Next spaced (b ∷ bs)
  item_space i Next spaced b bs m l = (b ∷ l.0, l.1, ((m, l.2.0), (λ e. tt)), ap (λ x. b ∷ x) l.3, l.4)

  ends_space : (spaced : Bool) (b : ℕ) (bs : List ℕ) → IsMark class.Space b → Ends true bs → Ends spaced (b ∷ bs)
  ends_space spaced b bs m l = (b ∷ l.0, l.1, (m, l.2), ap (λ x. b ∷ x) l.3, l.4)

  encoding_space : (spaced : Bool) (b : ℕ) (bs : List ℕ) → IsMark class.Space b → BehindEncoding true bs → BehindEncoding spaced (b ∷ bs)
  encoding_space spaced b bs m (inl l) = inl (item_space item.Standalone (BehindStandalone false) spaced b bs m l)
  encoding_space spaced b bs m (inr l) = inr (ends_space spaced b bs m l)

  version_space : (spaced : Bool) (b : ℕ) (bs : List ℕ) → IsMark class.Space b → BehindVersion true bs → BehindVersion spaced (b ∷ bs)
  version_space spaced b bs m (inl l) = inl (item_space item.Encoding (BehindEncoding false) spaced b bs m l)
  version_space spaced b bs m (inr l) = inr (encoding_space spaced b bs m l)

  pub behind_space : (i : Item) (spaced : Bool) (b : ℕ) (bs : List ℕ) → IsMark class.Space b → BehindItem i true bs
      → BehindItem i spaced (b ∷ bs)
  behind_space item.Version spaced b bs m l = version_space spaced b bs m l
  behind_space item.Encoding spaced b bs m l = encoding_space spaced b bs m l
  behind_space item.Standalone spaced b bs m l = ends_space spaced b bs m l

  pub behind_close : (i : Item) (spaced : Bool) (rest : List ℕ) → After rest → BehindItem i spaced (63 ∷ 62 ∷ rest)
  behind_close item.Version spaced rest a = inr (inr ([], rest, tt, refl, a))
  behind_close item.Encoding spaced rest a = inr ([], rest, tt, refl, a)
  behind_close item.Standalone spaced rest a = ([], rest, tt, refl, a)

  -- ---- a declaration of these

  abbrev pub HeadOf : List ℕ → Type 0
  HeadOf bs = (h : Head) × (rest : List ℕ) × IsHeading h × (bs ≡ written_heading h rest) × After rest

  abbrev StandaloneOf : List ℕ → Type 0
  StandaloneOf bs = (s : Standalone) × (space : List ℕ) × (rest : List ℕ) × IsStandalone s × IsWhite space
      × (bs ≡ written_standalone s (space ++ 63 ∷ 62 ∷ rest)) × After rest

  abbrev EncodingOf : List ℕ → Type 0
  EncodingOf bs = (e : Encoding) × (r : List ℕ) × IsEncoding e × (bs ≡ written_encoding e r) × StandaloneOf r

  standalone_of : (bs : List ℕ) → BehindEncoding false bs → StandaloneOf bs
  standalone_of bs (inl l) = (
    standalone (record { gap = l.0; left = l.4.0; right = l.4.1; quote = l.4.2 }) l.4.8.0,
    l.4.10.0,
    l.4.10.1,
    ((l.2.1 refl, l.2.0), l.4.5, l.4.6, l.4.7),
    l.4.10.2,
    l.3 ∙ ap (λ x. l.0 ++ (codes "standalone" ++ x)) (l.4.9
        ∙ ap (λ x. l.4.0 ++ 61 ∷ (l.4.1 ++ l.4.2 ∷ x))
        (ap (λ v. v ++ l.4.2 ∷ l.4.4) l.4.8.1 ∙ ap (λ x. yes_or_no l.4.8.0 ++ l.4.2 ∷ x) l.4.10.3)),
    l.4.10.4,
  )
  standalone_of bs (inr l) = (no_standalone, l.0, l.1, tt, l.2, l.3, l.4)

  encoding_of : (bs : List ℕ) → BehindVersion false bs → EncodingOf bs
  encoding_of bs (inl l) = (
    encoding (record { gap = l.0; left = l.4.0; right = l.4.1; quote = l.4.2 }) l.4.3,
    l.4.4,
    (((l.2.1 refl, l.2.0), l.4.5, l.4.6, l.4.7), l.4.8),
    l.3 ∙ ap (λ x. l.0 ++ (codes "encoding" ++ x)) l.4.9,
    standalone_of l.4.4 l.4.10,
  )
  encoding_of bs (inr l) = (no_encoding, bs, tt, refl, standalone_of bs l)

  pub head_of : (bs : List ℕ) → ItemThen item.Version (BehindVersion false) false bs → HeadOf (codes "<?xml" ++ bs)
  head_of bs l = of_encoding (encoding_of l.4.4 l.4.10)
    where
      of_encoding : EncodingOf l.4.4 → HeadOf (codes "<?xml" ++ bs)
      of_encoding e = (
        head (record { gap = l.0; left = l.4.0; right = l.4.1; quote = l.4.2 }) e.0 e.4.0 e.4.1,
        e.4.2,
        (((l.2.1 refl, l.2.0), l.4.5, l.4.6, l.4.7), e.2, e.4.3, e.4.4),
        ap (λ x. codes "<?xml" ++ x) (l.3 ∙ ap (λ x. l.0 ++ (codes "version" ++ x)) (l.4.9
            ∙ ap (λ x. l.4.0 ++ 61 ∷ (l.4.1 ++ l.4.2 ∷ x))
            (ap (λ v. v ++ l.4.2 ∷ l.4.4) l.4.8 ∙ ap (λ x. codes "1.0" ++ l.4.2 ∷ x) (e.3 ∙ ap (written_encoding e.0) e.4.5)))),
        e.4.6,
      )

-- The states inside the declaration backward, and with them the declaration of a text that is read.
use Rattle.std.proofs.Common.{◌≡◌, ℕ, ◌+◌, Bool, true, false, cond, ◌==◌, nat_lt, List, [], ◌∷◌, ◌++◌, map, length, drop, codes}
use Rattle.std.proofs.Common.{slice_index, refl, sym, ap, ◌∙◌, subst, ◌⊎◌, inl, inr, arith}
use Rattle.std.proofs.lemmas.Bool.{ltb-false, eqb-true}
use Rattle.ba_tree.specs.declared.trees.Tree.{Tree}
use Rattle.ba_xml_reader.proofs.CompleteSteps.{none}
use Rattle.ba_xml_reader.proofs.SoundDeclared.{LeadsWord, WordGoes, word_back, item_begins, said_space}
use Rattle.ba_xml_reader.proofs.SoundDocuments.{IsReadTo, top, Headed, no_tree, no_refused, next}
use Rattle.ba_xml_reader.proofs.SoundHeadings.{Says, SaysLeft, SaidThen, ItemThen, BehindItem, item_space, behind_space, behind_close}
use Rattle.ba_xml_reader.proofs.SoundHeadings.{head_of}
use Rattle.ba_xml_reader.proofs.SoundKinds.{IsMark, mark_told}
use Rattle.ba_xml_reader.proofs.SoundPieces.{Outside}
use Rattle.ba_xml_reader.proofs.SoundSteps.{leads}
use Rattle.ba_xml_words.proofs.SoundWords.{LeftOf, word_left}
use Rattle.ba_xml_words.specs.Classes.{class_of}
use Rattle.ba_xml_words.specs.inside.Headings.{item_text, setting_text, first_setting, spelling, setting_at_first, setting_by, target_by}
use Rattle.ba_xml_words.specs.inside.Headings.{begun_by, item_begun, blank_after, later_item, next_item, behind_after, word_by}
use Rattle.ba_xml_words.specs.inside.Headings.{equals_after, quote_after, said_by, said_all_after, closed_after, heading_after}
use Rattle.ba_xml_reader.specs.inside.Content.{declaring_by}
use Rattle.ba_xml_reader.specs.inside.Machine.{document, ended_at}
use Rattle.ba_xml_words.specs.inside.Words.{reached_at}
use Rattle.ba_xml_grammar.specs.GrammarWords.{IsWhite, IsQuote}
use Rattle.ba_xml_words.specs.declared.classes.Class.{Class}
use Rattle.ba_xml_words.specs.declared.classes.Class.TheVariants as class
use Rattle.ba_xml_words.specs.declared.faults.Reason.TheVariants.{Syntax}
use Rattle.ba_xml_words.specs.declared.headings.Declared.{Declared}
use Rattle.ba_xml_words.specs.declared.headings.Declared.TheVariants as declared'
use Rattle.ba_xml_words.specs.declared.headings.Heading.{Heading}
use Rattle.ba_xml_words.specs.declared.headings.Heading.TheVariants as heading'
use Rattle.ba_xml_words.specs.declared.headings.Item.{Item}
use Rattle.ba_xml_words.specs.declared.headings.Item.TheVariants as item
use Rattle.ba_xml_words.specs.declared.headings.Setting.{Setting}
use Rattle.ba_xml_words.specs.declared.headings.Setting.TheVariants as setting
use Rattle.ba_xml_reader.specs.declared.states.Mode.TheVariants as mode
use Rattle.ba_xml_reader.specs.declared.states.Seen.TheVariants.{Zero}
use Rattle.ba_xml_words.specs.declared.words.Progress.{Progress}
use Rattle.ba_xml_words.specs.declared.words.Progress.TheVariants as progress

-- ---- what an item says

-- before its first byte "yes" may still turn out to be "no"
abbrev pub MayBe : Setting → ℕ → Setting → Type 0
MayBe s count told = (told ≡ s) ⊎ ((s ≡ setting.Yes) × (count ≡ 0) × (told ≡ setting.No))

may_at_first : (s : Setting) (count b : ℕ) → count ≡ 0 → MayBe s count (setting_at_first s b)
may_at_first setting.Yes count b z = by (b == 110)
  where
    by : (no : Bool) → MayBe setting.Yes count (cond no setting.No setting.Yes)
    by true = inr (refl, z, refl)
    by false = inl refl
may_at_first setting.No count b z = inl refl
may_at_first setting.OneZero count b z = inl refl
may_at_first setting.Utf8 count b z = inl refl

may_by : (s : Setting) (count b : ℕ) → MayBe s count (setting_by s count b)
may_by s count b = by (nat_lt 0 count) refl
  where
    none : (nat_lt 0 count ≡ false) → count ≡ 0
    none e = omega (arith, ltb-false 0 count e)

    by : (q : Bool) → nat_lt 0 count ≡ q → MayBe s count (cond q s (setting_at_first s b))
    by true e = inl refl
    by false e = may_at_first s count b (none e)

one_by_itself : (value : List ℕ) → map (spelling setting.OneZero) value ≡ value
one_by_itself [] = refl
one_by_itself (b ∷ bs) = ap (λ x. b ∷ x) (one_by_itself bs)

yes_by_itself : (value : List ℕ) → map (spelling setting.Yes) value ≡ value
yes_by_itself [] = refl
yes_by_itself (b ∷ bs) = ap (λ x. b ∷ x) (yes_by_itself bs)

no_by_itself : (value : List ℕ) → map (spelling setting.No) value ≡ value
no_by_itself [] = refl
no_by_itself (b ∷ bs) = ap (λ x. b ∷ x) (no_by_itself bs)

-- what is said from its first byte on is what the item may say
says : (i : Item) (told : Setting) (value : List ℕ) → MayBe (first_setting i) 0 told → SaysLeft told 0 value → Says i value
says item.Version told value (inl e) l = sym (one_by_itself value) ∙ subst (λ s. SaysLeft s 0 value) e l
says item.Version told value (inr e) l = absurd (clash e.0)
  where
    clash : setting.OneZero ≡ setting.Yes → ⊥
    clash e = cc
says item.Encoding told value (inl e) l = subst (λ s. SaysLeft s 0 value) e l
says item.Encoding told value (inr e) l = absurd (clash e.0)
  where
    clash : setting.Utf8 ≡ setting.Yes → ⊥
    clash e = cc
says item.Standalone told value (inl e) l = (true, sym (yes_by_itself value) ∙ subst (λ s. SaysLeft s 0 value) e l)
says item.Standalone told value (inr e) l = (false, sym (no_by_itself value) ∙ subst (λ s. SaysLeft s 0 value) e.2 l)

-- a part of a word is one byte longer with the byte
abbrev IsNext : ℕ → Progress → Type 0
IsNext count progress.Nowhere = Unit {0}
IsNext count (progress.Part more) = more ≡ count + 1
IsNext count progress.Whole = Unit {0}

part_next : (word : List ℕ) (count b : ℕ) → IsNext count (reached_at word count b)
part_next word count b = by (nat_lt count (length word)) (slice_index word count == b) (count + 1 == length word)
  where
    by : (within same last : Bool) → IsNext count
        (cond within (cond same (cond last progress.Whole (progress.Part (count + 1))) progress.Nowhere) progress.Nowhere)
    by true true true = tt
    by true true false = refl
    by true false last = tt
    by false same last = tt

still : (s told : Setting) (count more : ℕ) → more ≡ count + 1 → MayBe s more told → told ≡ s
still s told count more e (inl m) = m
still s told count more e (inr m) = absurd (no e m.1)
  where
    no : more ≡ count + 1 → more ≡ 0 → ⊥
    no e z = absurd (omega (arith, e, z))

-- ---- what may follow in each state

module _ (After : List ℕ → Type 0) where
  -- what may follow the quote behind an item
  abbrev pub Behind : Item → List ℕ → Type 0
  Behind i rest = BehindItem After i false rest

  -- the rest of "xml", and the version's item
  abbrev pub LeadsTarget : ℕ → List ℕ → Type 0
  LeadsTarget count bs = (r : List ℕ) × (bs ≡ drop count (codes "xml") ++ r)
      × ItemThen After item.Version (BehindItem After item.Version false) false r

  -- from white space behind "=" on
  abbrev pub LeadsQuote : Item → List ℕ → Type 0
  LeadsQuote i bs = (right : List ℕ) × (quote : ℕ) × (value : List ℕ) × (rest : List ℕ) × IsWhite right × IsQuote quote × Says i value
      × (bs ≡ right ++ quote ∷ (value ++ quote ∷ rest)) × Behind i rest

  -- the rest of what is said, and the quote
  abbrev pub LeadsSaid : Item → ℕ → Setting → ℕ → List ℕ → Type 0
  LeadsSaid i quote s count bs = (told : Setting) × (value : List ℕ) × (rest : List ℕ) × MayBe s count told × SaysLeft told count value
      × (bs ≡ value ++ quote ∷ rest) × Behind i rest

  abbrev pub LeadsHeading : Heading → List ℕ → Type 0
  LeadsHeading (heading'.Target count) bs = LeadsTarget count bs
  LeadsHeading (heading'.Blank spaced) bs = ItemThen After item.Version (BehindItem After item.Version false) spaced bs
  LeadsHeading (heading'.Behind i spaced) bs = BehindItem After i spaced bs
  LeadsHeading (heading'.Word i count) bs = LeadsWord After i count bs
  LeadsHeading (heading'.Equals i) bs = SaidThen After i (BehindItem After i false) bs
  LeadsHeading (heading'.Quote i) bs = LeadsQuote i bs
  LeadsHeading (heading'.Said i quote s count) bs = LeadsSaid i quote s count bs
  LeadsHeading (heading'.SaidAll i quote) bs = (rest : List ℕ) × (bs ≡ quote ∷ rest) × Behind i rest
  LeadsHeading heading'.Close bs = (rest : List ℕ) × (bs ≡ 62 ∷ rest) × After rest

  abbrev pub HeadingGoes : Declared → List ℕ → Type 0
  HeadingGoes declared'.Wrong bs = ⊥
  HeadingGoes (declared'.On h) bs = LeadsHeading h bs
  HeadingGoes declared'.Whole bs = After bs

  -- ---- one byte backward

  target_from : (count b : ℕ) (bs : List ℕ) (p : Progress) → LeftOf (codes "xml") count b p → HeadingGoes (target_by p) bs
      → LeadsTarget count (b ∷ bs)
  target_from count b bs progress.Nowhere l g = absurd g
  target_from count b bs (progress.Part more) l g = (g.0, ap (λ x. b ∷ x) g.1 ∙ ap (λ x. x ++ g.0) (sym l), g.2)
  target_from count b bs progress.Whole l g = (bs, ap (λ x. x ++ bs) (sym l), g)

  word_goes : (i : Item) (bs : List ℕ) (p : Progress) → HeadingGoes (word_by i p) bs → WordGoes After i p bs
  word_goes i bs progress.Nowhere g = g
  word_goes i bs (progress.Part more) g = g
  word_goes i bs progress.Whole g = g

  begun_goes : (i : Item) (bs : List ℕ) (p : Progress) → HeadingGoes (begun_by i p) bs → WordGoes After i p bs
  begun_goes i bs progress.Nowhere g = g
  begun_goes i bs (progress.Part more) g = g
  begun_goes i bs progress.Whole g = absurd g

  item_back : (i : Item) (b : ℕ) (bs : List ℕ) → HeadingGoes (item_begun i b) bs → ItemThen After i (BehindItem After i false) true (b ∷ bs)
  item_back i b bs g = item_begins After i (b ∷ bs) (word_back After i 0 b bs (begun_goes i bs (reached_at (item_text i) 0 b) g))

  version_back : (spaced : Bool) (b : ℕ) (bs : List ℕ) → HeadingGoes (cond spaced (item_begun item.Version b) declared'.Wrong) bs
      → ItemThen After item.Version (BehindItem After item.Version false) spaced (b ∷ bs)
  version_back true b bs g = item_back item.Version b bs g
  version_back false b bs g = absurd g

  blank_back : (spaced : Bool) (b : ℕ) (bs : List ℕ) (k : Class) → IsMark k b → HeadingGoes (blank_after spaced b k) bs
      → ItemThen After item.Version (BehindItem After item.Version false) spaced (b ∷ bs)
  blank_back spaced b bs class.Space m g = item_space After item.Version (BehindItem After item.Version false) spaced b bs m g
  blank_back spaced b bs _ m g = version_back spaced b bs g

  over_version : (encoding : Bool) (b : ℕ) (bs : List ℕ)
      → HeadingGoes (cond encoding (item_begun item.Encoding b) (item_begun item.Standalone b)) bs
      → BehindItem After item.Version true (b ∷ bs)
  over_version true b bs g = inl (item_back item.Encoding b bs g)
  over_version false b bs g = inr (inl (item_back item.Standalone b bs g))

  later_back : (i : Item) (b : ℕ) (bs : List ℕ) → HeadingGoes (later_item i b) bs → BehindItem After i true (b ∷ bs)
  later_back item.Version b bs g = over_version (b == 101) b bs g
  later_back item.Encoding b bs g = inl (item_back item.Standalone b bs g)
  later_back item.Standalone b bs g = absurd g

  next_back : (i : Item) (spaced : Bool) (b : ℕ) (bs : List ℕ) → HeadingGoes (next_item i spaced b) bs → BehindItem After i spaced (b ∷ bs)
  next_back i true b bs g = later_back i b bs g
  next_back i false b bs g = absurd g

  close_back : (i : Item) (spaced : Bool) (b : ℕ) (bs : List ℕ) → b ≡ 63 → LeadsHeading heading'.Close bs
      → BehindItem After i spaced (b ∷ bs)
  close_back i spaced b bs m g = subst (λ x. BehindItem After i spaced x) (sym (ap (λ x. x ∷ bs) m ∙ ap (λ x. 63 ∷ x) g.1))
      (behind_close After i spaced g.0 g.2)

  behind_back : (i : Item) (spaced : Bool) (b : ℕ) (bs : List ℕ) (k : Class) → IsMark k b → HeadingGoes (behind_after i spaced b k) bs
      → BehindItem After i spaced (b ∷ bs)
  behind_back i spaced b bs class.Space m g = behind_space After i spaced b bs m g
  behind_back i spaced b bs class.Question m g = close_back i spaced b bs m g
  behind_back i spaced b bs _ m g = next_back i spaced b bs g

  equals_back : (i : Item) (b : ℕ) (bs : List ℕ) (k : Class) → IsMark k b → HeadingGoes (equals_after i k) bs
      → SaidThen After i (BehindItem After i false) (b ∷ bs)
  equals_back i b bs class.Space m g = said_space After i b bs m g
  equals_back i b bs class.EqualsSign m g = ([], g.0, g.1, g.2, g.3, tt, g.4, g.5, g.6, ap (λ x. x ∷ bs) m ∙ ap (λ x. 61 ∷ x) g.7, g.8)
  equals_back i b bs _ m g = absurd g

  said_begins : (i : Item) (b : ℕ) (bs : List ℕ) → IsQuote b → LeadsSaid i b (first_setting i) 0 bs → LeadsQuote i (b ∷ bs)
  said_begins i b bs q l = ([], b, l.1, l.2, tt, q, says i l.0 l.1 l.3 l.4, ap (λ x. b ∷ x) l.5, l.6)

  quote_back : (i : Item) (b : ℕ) (bs : List ℕ) (k : Class) → IsMark k b → HeadingGoes (quote_after i b k) bs → LeadsQuote i (b ∷ bs)
  quote_back i b bs class.Space m g = (b ∷ g.0, g.1, g.2, g.3, (m, g.4), g.5, g.6, ap (λ x. b ∷ x) g.7, g.8)
  quote_back i b bs class.Apostrophe m g = said_begins i b bs (inr m) g
  quote_back i b bs class.DoubleQuote m g = said_begins i b bs (inl m) g
  quote_back i b bs _ m g = absurd g

  -- the byte is of what is said by this setting
  said_from : (i : Item) (quote : ℕ) (s told : Setting) (count b : ℕ) (bs : List ℕ) (p : Progress) → MayBe s count told
      → LeftOf (setting_text told) count (spelling told b) p → IsNext count p
      → HeadingGoes (said_by i quote told p) bs → LeadsSaid i quote s count (b ∷ bs)
  said_from i quote s told count b bs progress.Nowhere m l n g = absurd g
  said_from i quote s told count b bs (progress.Part more) m l n g = (
    told,
    b ∷ g.1,
    g.2,
    m,
    ap (λ x. spelling told b ∷ x) (subst (λ t. SaysLeft t more g.1) (still told g.0 count more n g.3) g.4)
        ∙ sym l,
    ap (λ x. b ∷ x) g.5,
    g.6,
  )
  said_from i quote s told count b bs progress.Whole m l n g = (told, b ∷ [], g.0, m, sym l, ap (λ x. b ∷ x) g.1, g.2)

  said_back : (i : Item) (quote : ℕ) (s told : Setting) (count b : ℕ) (bs : List ℕ) → MayBe s count told
      → HeadingGoes (said_by i quote told (reached_at (setting_text told) count (spelling told b))) bs
      → LeadsSaid i quote s count (b ∷ bs)
  said_back i quote s told count b bs m g = said_from i quote s told count b bs (reached_at (setting_text told) count (spelling told b)) m
      (word_left (setting_text told) count (spelling told b)) (part_next (setting_text told) count (spelling told b)) g

  said_all_back : (i : Item) (quote b : ℕ) (bs : List ℕ) → HeadingGoes (said_all_after i quote b) bs
      → LeadsHeading (heading'.SaidAll i quote) (b ∷ bs)
  said_all_back i quote b bs g = by (b == quote) refl g
    where
      by : (q : Bool) → (b == quote) ≡ q → HeadingGoes (cond q (declared'.On (heading'.Behind i false)) declared'.Wrong) bs
          → LeadsHeading (heading'.SaidAll i quote) (b ∷ bs)
      by true q g = (bs, ap (λ x. x ∷ bs) (eqb-true b quote q), g)
      by false q g = absurd g

  closed_back : (b : ℕ) (bs : List ℕ) (k : Class) → IsMark k b → HeadingGoes (closed_after k) bs → LeadsHeading heading'.Close (b ∷ bs)
  closed_back b bs class.Greater m g = (bs, ap (λ x. x ∷ bs) m, g)
  closed_back b bs _ m g = absurd g

  pub heading_back : (h : Heading) (b : ℕ) (bs : List ℕ) → HeadingGoes (heading_after h b (class_of b)) bs → LeadsHeading h (b ∷ bs)
  unfolding heading_after
  heading_back (heading'.Target count) b bs g =
      target_from count b bs (reached_at (codes "xml") count b) (word_left (codes "xml") count b) g
  heading_back (heading'.Blank spaced) b bs g = blank_back spaced b bs (class_of b) (mark_told b) g
  heading_back (heading'.Behind i spaced) b bs g = behind_back i spaced b bs (class_of b) (mark_told b) g
  heading_back (heading'.Word i count) b bs g = word_back After i count b bs (word_goes i bs (reached_at (item_text i) count b) g)
  heading_back (heading'.Equals i) b bs g = equals_back i b bs (class_of b) (mark_told b) g
  heading_back (heading'.Quote i) b bs g = quote_back i b bs (class_of b) (mark_told b) g
  heading_back (heading'.Said i quote s count) b bs g = said_back i quote s (setting_by s count b) count b bs (may_by s count b) g
  heading_back (heading'.SaidAll i quote) b bs g = said_all_back i quote b bs g
  heading_back heading'.Close b bs g = closed_back b bs (class_of b) (mark_told b) g

-- ---- all bytes

module _ (t : Tree) where
  -- white space and comments, the root, and such again
  abbrev Rest : List ℕ → Type 0
  Rest bs = Outside document [] bs t

  goes : (bs : List ℕ) (d : Declared) → ((h : Heading) → IsReadTo t (top (mode.Declaring h)) bs → LeadsHeading Rest h bs)
      → IsReadTo t (declaring_by [] document d) bs → HeadingGoes Rest d bs
  goes bs declared'.Wrong ih e = absurd (no_refused Syntax bs t e)
  goes bs (declared'.On h) ih e = ih h e
  goes bs declared'.Whole ih e = leads bs (top (mode.Inside Zero)) t e

  declaring : (bs : List ℕ) (h : Heading) → IsReadTo t (top (mode.Declaring h)) bs → LeadsHeading Rest h bs
  declaring [] h e = absurd (no_tree t (sym (ap ended_at (none (top (mode.Declaring h)))) ∙ e))
  declaring (b ∷ bs) h e = heading_back Rest h b bs
      (goes bs (heading_after h b (class_of b)) (declaring bs) (next t (mode.Declaring h) b bs e))

  -- what is read behind "<?" begins with the rest of a declaration
  pub declaration_read : (bs : List ℕ) → IsReadTo t (top (mode.Declaring (heading'.Target 0))) bs → Headed t (60 ∷ 63 ∷ bs)
  declaration_read bs e = let l = declaring bs (heading'.Target 0) e in subst (λ x. Headed t (60 ∷ 63 ∷ x)) (sym l.1) (head_of Rest l.0 l.2)

-- One byte backward in the declaration's states up to an item's "=".
use Rattle.std.proofs.Common.{◌≡◌, ℕ, true, false, List, [], ◌∷◌, ◌++◌, drop, sym, ap, ◌∙◌, true≢false}
use Rattle.ba_xml_reader.proofs.SoundHeadings.{SaidThen, ItemThen, BehindItem}
use Rattle.ba_xml_reader.proofs.SoundKinds.{IsMark}
use Rattle.ba_xml_words.proofs.SoundWords.{LeftOf, word_left}
use Rattle.ba_xml_words.specs.inside.Headings.{item_text}
use Rattle.ba_xml_words.specs.inside.Words.{reached_at}
use Rattle.ba_xml_words.specs.declared.classes.Class.TheVariants as class
use Rattle.ba_xml_words.specs.declared.headings.Item.{Item}
use Rattle.ba_xml_words.specs.declared.words.Progress.{Progress}
use Rattle.ba_xml_words.specs.declared.words.Progress.TheVariants as progress

module _ (After : List ℕ → Type 0) where
  -- behind so many bytes of an item's name
  abbrev pub LeadsWord : Item → ℕ → List ℕ → Type 0
  LeadsWord i count bs = (r : List ℕ) × (bs ≡ drop count (item_text i) ++ r) × SaidThen After i (BehindItem After i false) r

  -- what the state behind this byte says, where the word stands so
  abbrev pub WordGoes : Item → Progress → List ℕ → Type 0
  WordGoes i progress.Nowhere bs = ⊥
  WordGoes i (progress.Part more) bs = LeadsWord i more bs
  WordGoes i progress.Whole bs = SaidThen After i (BehindItem After i false) bs

  word_from : (i : Item) (count b : ℕ) (bs : List ℕ) (p : Progress) → LeftOf (item_text i) count b p → WordGoes i p bs
      → LeadsWord i count (b ∷ bs)
  word_from i count b bs progress.Nowhere l g = absurd g
  word_from i count b bs (progress.Part more) l g = (g.0, ap (λ x. b ∷ x) g.1 ∙ ap (λ x. x ++ g.0) (sym l), g.2)
  word_from i count b bs progress.Whole l g = (bs, ap (λ x. x ++ bs) (sym l), g)

  pub word_back : (i : Item) (count b : ℕ) (bs : List ℕ) → WordGoes i (reached_at (item_text i) count b) bs → LeadsWord i count (b ∷ bs)
  word_back i count b bs g = word_from i count b bs (reached_at (item_text i) count b) (word_left (item_text i) count b) g

  -- an item begins behind white space
  pub item_begins : (i : Item) (bs : List ℕ) → LeadsWord i 0 bs → ItemThen After i (BehindItem After i false) true bs
  item_begins i bs l = ([], l.0, (tt, (λ e. absurd (true≢false e))), l.1, l.2)

  pub said_space : (i : Item) (b : ℕ) (bs : List ℕ) → IsMark class.Space b → SaidThen After i (BehindItem After i false) bs
      → SaidThen After i (BehindItem After i false) (b ∷ bs)
  said_space i b bs m l = (b ∷ l.0, l.1, l.2, l.3, l.4, (m, l.5), l.6, l.7, l.8, ap (λ x. b ∷ x) l.9, l.10)

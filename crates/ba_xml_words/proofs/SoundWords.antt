-- Fixed words backward: where one byte more is the word's, the rest of the word begins with it.
use Rattle.std.proofs.Common.{◌≡◌, ℕ, ◌+◌, ◌<◌, Bool, true, false, cond, ◌==◌, nat_lt, List, [], ◌∷◌, length, drop, slice_index, refl, ap}
use Rattle.std.proofs.Common.{◌∙◌, arith}
use Rattle.std.proofs.lemmas.Bool.{ltb-true, eqb-true}
use Rattle.std.proofs.lemmas.List.{drop_more, drop_all}
use Rattle.ba_xml_words.specs.inside.Words.{reached_at}
use Rattle.ba_xml_words.specs.declared.words.Progress.{Progress}
use Rattle.ba_xml_words.specs.declared.words.Progress.TheVariants.{Nowhere, Part, Whole}

-- what is to come of a word behind this byte
abbrev pub LeftOf : List ℕ → ℕ → ℕ → Progress → Type 0
LeftOf word count b Nowhere = Unit {0}
LeftOf word count b (Part more) = drop count word ≡ b ∷ drop more word
LeftOf word count b Whole = drop count word ≡ b ∷ []

pub word_left : (word : List ℕ) (count b : ℕ) → LeftOf word count b (reached_at word count b)
word_left word count b = by_length (nat_lt count (length word)) refl
  where
    by_end : (e : Bool) → count < length word → slice_index word count ≡ b → (count + 1 == length word) ≡ e
        → LeftOf word count b (cond e Whole (Part (count + 1)))
    by_end true l s e = drop_more word count 0 l ∙ ap (λ x. x ∷ drop (count + 1) word) s
        ∙ ap (λ ds. b ∷ ds) (drop_all (count + 1) word (omega (arith, eqb-true (count + 1) (length word) e)))
    by_end false l s e = drop_more word count 0 l ∙ ap (λ x. x ∷ drop (count + 1) word) s

    by_byte : (same : Bool) → count < length word → (slice_index word count == b) ≡ same
        → LeftOf word count b (cond same (cond (count + 1 == length word) Whole (Part (count + 1))) Nowhere)
    by_byte true l s = by_end (count + 1 == length word) l (eqb-true (slice_index word count) b s) refl
    by_byte false l s = tt

    by_length : (in_word : Bool) → nat_lt count (length word) ≡ in_word
        → LeftOf word count b (cond in_word (cond (slice_index word count == b) (cond (count + 1 == length word) Whole (Part (count + 1)))
        Nowhere) Nowhere)
    by_length true l = by_byte (slice_index word count == b) (ltb-true count (length word) l) refl
    by_length false l = tt

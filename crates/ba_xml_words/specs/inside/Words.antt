-- Inside: fixed words, byte by byte.
use Rattle.std.specs.Prelude.{ℕ, ◌+◌, List, length, cond, nat_lt, ◌==◌, slice_index}
use Rattle.ba_xml_words.specs.declared.words.Progress.{Progress}
use Rattle.ba_xml_words.specs.declared.words.Progress.TheVariants.{Nowhere, Part, Whole}

-- where a word of which so many bytes are read stands after this byte
abbrev pub reached_at : List ℕ → ℕ → ℕ → Progress
reached_at word count b = cond (nat_lt count (length word))
    (cond (slice_index word count == b) (cond (count + 1 == length word) Whole (Part (count + 1))) Nowhere) Nowhere

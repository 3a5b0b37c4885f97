-- Inside: bytes that have to come, one after another.
use Rattle.std.specs.Prelude.{ℕ, List, [], ◌∷◌, Bool, true, false, cond, ◌==◌, ◌&&◌}
use Rattle.ba_xml_words.specs.declared.remaining.Meeting.{Meeting}
use Rattle.ba_xml_words.specs.declared.remaining.Meeting.TheVariants.{Wrong, On, Whole}

abbrev pub met : List ℕ → ℕ → Meeting
met [] b = Wrong
met (x ∷ []) b = cond (x == b) Whole Wrong
met (x ∷ y ∷ more) b = cond (x == b) (On (y ∷ more)) Wrong

-- whether these bytes are the first of those that have to come
abbrev pub is_front : List ℕ → List ℕ → Bool
is_front [] rest = true
is_front (b ∷ bs) [] = false
is_front (b ∷ bs) (x ∷ xs) = x == b && is_front bs xs

-- The text of an element has no white space at its ends: for the law on what was read.
use Rattle.std.proofs.Common.{◌≡◌, ℕ, suc, ◌-◌, Bool, true, false, not, ◌&&◌, List, [], ◌∷◌, length, slice_index, if◌then◌else◌, refl}
use Rattle.std.proofs.Common.{ap, ◌∙◌, arith}
use Rattle.std.specs.List.{list_all}
use Rattle.ba_soap_shapes.specs.Elements.{own_texts, text_of, trim, trim_end, trim_start}
use Rattle.ba_soap_shapes.specs.Forms.{is_there}
use Rattle.ba_soap.specs.Elements.{is_bare_text}
use Rattle.ba_tree.specs.Characters.{has_bare_ends, is_white}
use Rattle.ba_tree.specs.declared.trees.Tree.{Tree}
use Rattle.ba_message.proofs.PlainTexts.{and_both}

-- ---- the beginning

begins_bare : (bs : List ℕ) → is_white (slice_index (trim_start bs) 0) ≡ false
begins_bare [] = refl
begins_bare (b ∷ bs) = by (is_white b) refl (begins_bare bs)
  where
    by : (x : Bool) → is_white b ≡ x → is_white (slice_index (trim_start bs) 0) ≡ false
        → is_white (slice_index (if x then trim_start bs else b ∷ bs) 0) ≡ false
    by true e more = more
    by false e more = e

beginning_kept : (bs : List ℕ) → is_white (slice_index bs 0) ≡ false → is_white (slice_index (trim_end bs) 0) ≡ false
beginning_kept [] h = refl
beginning_kept (b ∷ bs) h = by (list_all is_white (b ∷ bs))
  where
    by : (x : Bool) → is_white (slice_index (if x then [] else b ∷ trim_end bs) 0) ≡ false
    by true = refl
    by false = h

-- ---- the end

abbrev last_of : List ℕ → ℕ
last_of bs = slice_index bs (length bs - 1)

white_by_none : (bs : List ℕ) → trim_end bs ≡ [] → list_all is_white bs ≡ true
white_by_none [] h = refl
white_by_none (b ∷ bs) h = by (list_all is_white (b ∷ bs)) refl h
  where
    by : (x : Bool) → list_all is_white (b ∷ bs) ≡ x → (if x then [] else b ∷ trim_end bs) ≡ [] → list_all is_white (b ∷ bs) ≡ true
    by true e h = e
    by false e h = absurd (cc)

only_second : (x y : Bool) → (x && y) ≡ false → y ≡ true → x ≡ false
only_second true y h t = cc
only_second false y h t = refl

last_after : (b : ℕ) (bs rest : List ℕ) → trim_end bs ≡ rest → list_all is_white (b ∷ bs) ≡ false
    → is_white (last_of rest) ≡ false → is_white (last_of (b ∷ rest)) ≡ false
last_after b bs [] none e more = only_second (is_white b) (list_all is_white bs) e (white_by_none bs none)
last_after b bs (c ∷ cs) is e more =
    let at : length (b ∷ c ∷ cs) - 1 ≡ suc (length (c ∷ cs) - 1) = omega arith in
    ap (λ n. is_white (slice_index (b ∷ c ∷ cs) n)) at ∙ more

ends_bare : (bs : List ℕ) → is_white (last_of (trim_end bs)) ≡ false
ends_bare [] = refl
ends_bare (b ∷ bs) = by (list_all is_white (b ∷ bs)) refl (ends_bare bs)
  where
    by : (x : Bool) → list_all is_white (b ∷ bs) ≡ x → is_white (last_of (trim_end bs)) ≡ false
        → is_white (last_of (if x then [] else b ∷ trim_end bs)) ≡ false
    by true e more = refl
    by false e more = last_after b bs (trim_end bs) refl e more

-- ---- both

trim_is_bare : (bs : List ℕ) → has_bare_ends (trim bs) ≡ true
trim_is_bare bs =
    λ i. not (beginning_kept (trim_start bs) (begins_bare bs) i) && not (ends_bare (trim_start bs) i)

pub text_is_bare : (t : Tree) → is_there (text_of t) ≡ true → is_bare_text (text_of t) ≡ true
text_is_bare t there = and_both (is_there (text_of t)) (has_bare_ends (text_of t)) there (trim_is_bare (own_texts t.content))

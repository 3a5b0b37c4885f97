-- A legal text is UTF-8, and its characters are legal.
use Rattle.std.proofs.Common.{◌≡◌, Bool, true, false, List, ℕ, refl, ap, ◌&&◌}
use Rattle.std.proofs.lemmas.Str.{IsUtf8-from_is_utf8, is_utf8-from_IsUtf8}
use Rattle.std.specs.List.{list_all}
use Rattle.std.specs.Str.{IsUtf8, is_utf8, chars}
use Rattle.ba_tree.specs.Characters.{is_legal, is_legal_text}

pub legal_of_utf8 : (bytes : List ℕ) → IsUtf8 bytes → is_legal_text bytes ≡ list_all is_legal (chars bytes)
legal_of_utf8 bytes utf8 = ap (λ b. b && list_all is_legal (chars bytes)) (is_utf8-from_IsUtf8 bytes utf8)

pub illegal_of_no_utf8 : (bytes : List ℕ) → (IsUtf8 bytes → ⊥) → is_legal_text bytes ≡ false
illegal_of_no_utf8 bytes none = by (is_utf8 bytes) refl
  where
    by : (b : Bool) → is_utf8 bytes ≡ b → (b && list_all is_legal (chars bytes)) ≡ false
    by true e = absurd (none (IsUtf8-from_is_utf8 bytes e))
    by false e = refl

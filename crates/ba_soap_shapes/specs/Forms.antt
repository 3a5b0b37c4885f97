-- Believe: these are the forms of texts in elements: any text that isn't empty, a number, a qualified name.
use Rattle.std.specs.Prelude.{ℕ, Bool, true, false, ◌+◌, ◌&&◌, ◌==◌, List, [], ◌∷◌, Option, Some, None, if◌then◌else◌, nat_le, take, drop}
use Rattle.std.specs.List.{list_all, position}
use Rattle.std.specs.Str.Parse.{digits_value}
use Rattle.ba_tree.specs.Names.{is_digit, is_plain_name}
use Rattle.ba_soap_shapes.specs.declared.shapes.Misfit.{Misfit}
use Rattle.ba_soap_shapes.specs.declared.forms.Plain.{Plain}
use Rattle.ba_soap_shapes.specs.declared.forms.TheConstants.{MOST_NUMBER}
use Rattle.ba_soap_shapes.specs.declared.forms.Plain.TheVariants as plain
use Rattle.ba_soap_shapes.specs.Elements.{text_of}
use Rattle.ba_soap_shapes.specs.Shapes.{Look, mismatch_at}

abbrev pub is_there : List ℕ → Bool
is_there [] = false
is_there (b ∷ bytes) = true

-- decimal digits of at most the greatest u32
abbrev pub is_number : List ℕ → Bool
is_number bytes = is_there bytes && (list_all is_digit bytes && nat_le (digits_value 10 bytes) MOST_NUMBER)

abbrev pub is_colon : ℕ → Bool
is_colon b = b == 0x3A

abbrev pub by_halves : (List ℕ → List ℕ → Bool) → (List ℕ → Bool) → List ℕ → Option ℕ → Bool
by_halves two one bytes None = one bytes
by_halves two one bytes (Some at) = two (take at bytes) (drop (at + 1) bytes)

-- one plain name, or two joined by a colon
abbrev pub is_qname : List ℕ → Bool
is_qname bytes = by_halves (λ prefix local. is_plain_name prefix && is_plain_name local) is_plain_name bytes (position is_colon bytes)

abbrev pub after_colon : List ℕ → Option ℕ → List ℕ
after_colon bytes None = bytes
after_colon bytes (Some at) = drop (at + 1) bytes

-- the part of a qualified name by which it is known
abbrev pub local_part : List ℕ → List ℕ
local_part bytes = after_colon bytes (position is_colon bytes)

-- the text of an element has this form
abbrev pub has_form : Plain → List ℕ → Bool
has_form plain.Text = is_there
has_form plain.Number = is_number
has_form plain.Qname = is_qname
has_form plain.Skipped = λ bytes. true

abbrev pub mismatch_unless : Bool → ℕ → Option Misfit
mismatch_unless holds n = if holds then None else Some (mismatch_at n)

abbrev pub plain_look : Plain → Look
plain_look form n t = mismatch_unless (has_form form (text_of t)) n

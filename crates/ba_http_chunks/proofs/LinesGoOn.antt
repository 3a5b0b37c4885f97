-- What has been read of a size line begins one that has more; for the clauses of take_of_line and feed.
use Rattle.std.proofs.Common.{◌≡◌, ℕ, true, List, [], ◌∷◌, ◌++◌, refl, ap, ◌∙◌, arith, append_assoc, None, Some}
use Rattle.std.specs.Char.{is_ascii_hexdigit}
use Rattle.std.proofs.lemmas.List.Elements.{All-cons, All-nil}
use Rattle.httparse.specs.Grammar.{AllPass, is_ows, print_extension}
use Rattle.ba_http_body.specs.declared.size_lines.Place.{Place}
use Rattle.ba_http_body.specs.declared.size_lines.Place.TheVariants.{First, Digits, Blank, Extension, Return}
use Rattle.ba_http_body.specs.inside.Places.{HasRead}
use Rattle.ba_http_body.specs.SizeLines.{MayBecomeSizeLine}
use Rattle.ba_http_chunks.specs.Transfers.{BeginsSizeLine}

no_pad : AllPass is_ows []
no_pad = All-nil (λ v. is_ows v ≡ true)

zero_digit : AllPass is_ascii_hexdigit (48 ∷ [])
zero_digit = All-cons (λ v. is_ascii_hexdigit v ≡ true) 48 [] refl (All-nil (λ v. is_ascii_hexdigit v ≡ true))

pub begins : (place : Place) (line : List ℕ) → HasRead place line → BeginsSizeLine line
begins First line h = (
  48,
  13 ∷ 10 ∷ [],
  record { digits = 48 ∷ []; pad = []; extension = None },
  record { digits = (omega arith, zero_digit); pad = no_pad; extension = tt },
  ap (λ v. v ++ 48 ∷ 13 ∷ 10 ∷ []) h,
)
begins Digits line h =
    (13, 10 ∷ [], record { digits = line; pad = []; extension = None }, record { digits = h; pad = no_pad; extension = tt }, refl)
begins Blank line h = (
  13,
  10 ∷ [],
  record { digits = h.0; pad = h.1; extension = None },
  record { digits = (h.3, h.4); pad = h.5; extension = tt },
  ap (λ v. v ++ 13 ∷ 10 ∷ []) h.2 ∙ append_assoc h.0 h.1 (13 ∷ 10 ∷ []),
)
begins Extension line h = (
  13,
  10 ∷ [],
  record { digits = h.0; pad = h.1; extension = Some h.2 },
  record { digits = (h.4, h.5); pad = h.6; extension = h.7 },
  ap (λ v. v ++ 13 ∷ 10 ∷ []) h.3 ∙ append_assoc h.0 (h.1 ++ 59 ∷ h.2) (13 ∷ 10 ∷ [])
      ∙ ap (λ v. h.0 ++ v) (append_assoc h.1 (59 ∷ h.2) (13 ∷ 10 ∷ [])),
)
begins Return line h = (
  10,
  [],
  record { digits = h.0; pad = h.1; extension = h.2 },
  record { digits = (h.4, h.5); pad = h.6; extension = h.7 },
  ap (λ v. v ++ 10 ∷ []) h.3 ∙ append_assoc h.0 (h.1 ++ (print_extension h.2 ++ 13 ∷ [])) (10 ∷ [])
      ∙ ap (λ v. h.0 ++ v) (append_assoc h.1 (print_extension h.2 ++ 13 ∷ []) (10 ∷ [])
      ∙ ap (λ v. h.1 ++ v) (append_assoc (print_extension h.2) (13 ∷ []) (10 ∷ []))),
)

pub may_become : (line : List ℕ) → BeginsSizeLine line → MayBecomeSizeLine line
may_become line h = (h.0 ∷ h.1, h.2, h.3, h.4)

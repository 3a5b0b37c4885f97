-- A size line, byte by byte; for the clauses of take_byte where it goes on.
use Rattle.std.proofs.Common.{◌≡◌, ℕ, Bool, true, List, [], ◌∷◌, ◌++◌, refl, sym, ap, ◌∙◌, subst, arith, append_assoc, length-append, None}
use Rattle.std.proofs.Common.{Some}
use Rattle.std.specs.Char.{is_ascii_hexdigit}
use Rattle.std.proofs.lemmas.List.Elements.{All-cons, All-nil, All-append}
use Rattle.httparse.specs.Grammar.{AllPass, is_ows, is_extension_byte, print_extension}
use Rattle.ba_http_body.specs.declared.size_lines.Place.TheVariants.{First, Digits, Blank, Extension, Return}
use Rattle.ba_http_body.specs.declared.size_lines.Step.TheVariants.{End}
use Rattle.ba_http_body.specs.inside.Places.{HasRead, Steps}

one : (test : ℕ → Bool) (b : ℕ) → test b ≡ true → AllPass test (b ∷ [])
one test b is = All-cons (λ v. test v ≡ true) b [] is (All-nil (λ v. test v ≡ true))

more : (test : ℕ → Bool) (xs : List ℕ) (b : ℕ) → AllPass test xs → test b ≡ true → AllPass test (xs ++ b ∷ [])
more test xs b all is = All-append (λ v. test v ≡ true) xs (b ∷ []) all (one test b is)

-- the same line, after some digits
pub first_digit : (b : ℕ) (bytes : List ℕ) → HasRead First bytes → is_ascii_hexdigit b ≡ true → HasRead Digits (bytes ++ b ∷ [])
first_digit b bytes none is = subst (λ v. HasRead Digits (v ++ b ∷ [])) (sym none) (omega arith, one is_ascii_hexdigit b is)

pub next_digit : (b : ℕ) (bytes : List ℕ) → HasRead Digits bytes → is_ascii_hexdigit b ≡ true → HasRead Digits (bytes ++ b ∷ [])
next_digit b bytes h is = (omega (arith, length-append bytes (b ∷ [])), more is_ascii_hexdigit bytes b h.1 is)

pub first_blank : (b : ℕ) (bytes : List ℕ) → HasRead Digits bytes → is_ows b ≡ true → HasRead Blank (bytes ++ b ∷ [])
first_blank b bytes h is = (bytes, b ∷ [], refl, h.0, h.1, one is_ows b is, omega arith)

pub next_blank : (b : ℕ) (bytes : List ℕ) → HasRead Blank bytes → is_ows b ≡ true → HasRead Blank (bytes ++ b ∷ [])
next_blank b bytes h is = (
  h.0,
  h.1 ++ b ∷ [],
  ap (λ v. v ++ b ∷ []) h.2
      ∙ append_assoc h.0 h.1 (b ∷ []),
  h.3,
  h.4,
  more is_ows h.1 b h.5 is,
  omega (arith, length-append h.1 (b ∷ [])),
)

pub first_text : (bytes : List ℕ) → HasRead Digits bytes → HasRead Extension (bytes ++ 59 ∷ [])
first_text bytes h = (bytes, [], [], refl, h.0, h.1, All-nil (λ v. is_ows v ≡ true), All-nil (λ v. is_extension_byte v ≡ true))

pub blank_text : (bytes : List ℕ) → HasRead Blank bytes → HasRead Extension (bytes ++ 59 ∷ [])
blank_text bytes h = (
  h.0,
  h.1,
  [],
  ap (λ v. v ++ 59 ∷ []) h.2
      ∙ append_assoc h.0 h.1 (59 ∷ []),
  h.3,
  h.4,
  h.5,
  All-nil (λ v. is_extension_byte v ≡ true),
)

pub next_text : (b : ℕ) (bytes : List ℕ) → HasRead Extension bytes → is_extension_byte b ≡ true → HasRead Extension (bytes ++ b ∷ [])
next_text b bytes h is = (
  h.0,
  h.1,
  h.2 ++ b ∷ [],
  ap (λ v. v ++ b ∷ []) h.3 ∙ append_assoc h.0 (h.1 ++ 59 ∷ h.2) (b ∷ [])
      ∙ ap (λ v. h.0 ++ v) (append_assoc h.1 (59 ∷ h.2) (b ∷ [])),
  h.4,
  h.5,
  h.6,
  more is_extension_byte h.2 b h.7 is,
)

pub digits_return : (bytes : List ℕ) → HasRead Digits bytes → HasRead Return (bytes ++ 13 ∷ [])
digits_return bytes h = (bytes, [], None, refl, h.0, h.1, All-nil (λ v. is_ows v ≡ true), tt)

pub blank_return : (bytes : List ℕ) → HasRead Blank bytes → HasRead Return (bytes ++ 13 ∷ [])
blank_return bytes h = (h.0, h.1, None, ap (λ v. v ++ 13 ∷ []) h.2 ∙ append_assoc h.0 h.1 (13 ∷ []), h.3, h.4, h.5, tt)

pub text_return : (bytes : List ℕ) → HasRead Extension bytes → HasRead Return (bytes ++ 13 ∷ [])
text_return bytes h = (
  h.0,
  h.1,
  Some h.2,
  ap (λ v. v ++ 13 ∷ []) h.3 ∙ append_assoc h.0 (h.1 ++ 59 ∷ h.2) (13 ∷ [])
      ∙ ap (λ v. h.0 ++ v) (append_assoc h.1 (59 ∷ h.2) (13 ∷ [])),
  h.4,
  h.5,
  h.6,
  h.7,
)

pub ends : (bytes : List ℕ) → HasRead Return bytes → Steps End (bytes ++ 10 ∷ [])
ends bytes h = (
  record { digits = h.0; pad = h.1; extension = h.2 },
  record { digits = (h.4, h.5); pad = h.6; extension = h.7 },
  ap (λ v. v ++ 10 ∷ []) h.3 ∙ append_assoc h.0 (h.1 ++ (print_extension h.2 ++ 13 ∷ [])) (10 ∷ [])
      ∙ ap (λ v. h.0 ++ v) (append_assoc h.1 (print_extension h.2 ++ 13 ∷ []) (10 ∷ [])
      ∙ ap (λ v. h.1 ++ v) (append_assoc (print_extension h.2) (13 ∷ []) (10 ∷ []))),
)

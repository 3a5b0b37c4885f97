-- The digits at the beginning of a size line, and the number that they write; for the clauses of size_after and take_of_line.
use Rattle.std.proofs.Common.{◌≡◌, ℕ, ◌+◌, ◌-◌, ◌*◌, ◌^◌, ◌<◌, min, Bool, true, false, if◌then◌else◌, List, [], ◌∷◌, ◌++◌, length, refl}
use Rattle.std.proofs.Common.{sym, ap, ◌∙◌, subst, arith, append-nil, append_assoc, Option, None, Some}
use Rattle.std.specs.Char.{is_ascii_hexdigit, digit_value}
use Rattle.std.specs.Str.Parse.{digits_value}
use Rattle.std.proofs.lemmas.Int.Digits.{digits_value_push}
use Rattle.std.proofs.lemmas.List.Elements.{All-head, All-tail, All-nil}
use Rattle.httparse.specs.Grammar.{AllPass, is_ows, print_extension}
use Rattle.ba_http_body.specs.declared.size_lines.Place.TheVariants.{First, Blank, Extension, Return}
use Rattle.ba_http_body.specs.SizeLines.{SizeLine, IsSizeLine, print_size_line}
use Rattle.ba_http_body.specs.inside.Places.{HasRead}
use Rattle.ba_http_body.proofs.Walks.{space_no_digit}
use Rattle.ba_http_chunks.specs.Transfers.{size_of}
use Rattle.ba_http_chunks.specs.inside.Progress.{leading_digits, SaysSoFar, with_digit}

after_digits : (ds rest : List ℕ) → AllPass is_ascii_hexdigit ds → leading_digits (ds ++ rest) ≡ ds ++ leading_digits rest
after_digits [] rest all = refl
after_digits (d ∷ ds) rest all =
    ap (λ t. if t then d ∷ leading_digits (ds ++ rest) else []) (All-head (λ v. is_ascii_hexdigit v ≡ true) d ds all)
    ∙ ap (λ v. d ∷ v) (after_digits ds rest (All-tail (λ v. is_ascii_hexdigit v ≡ true) d ds all))

none_here : (b : ℕ) (rest : List ℕ) → is_ascii_hexdigit b ≡ false → leading_digits (b ∷ rest) ≡ []
none_here b rest is = ap (λ t. if t then b ∷ leading_digits rest else []) is

-- a last byte that is no digit changes nothing
same_digits : (line : List ℕ) (b : ℕ) → is_ascii_hexdigit b ≡ false → leading_digits (line ++ b ∷ []) ≡ leading_digits line
same_digits [] b is = none_here b [] is
same_digits (d ∷ line) b is =
    elim (is_ascii_hexdigit d) as (λ t.
    (if t then d ∷ leading_digits (line ++ b ∷ []) else []) ≡ (if t then d ∷ leading_digits line else [])) [
      | true ↦ ap (λ v. d ∷ v) (same_digits line b is)
      | false ↦ refl
    ]

all_digits : (ds : List ℕ) → AllPass is_ascii_hexdigit ds → leading_digits ds ≡ ds
all_digits ds all = ap leading_digits (sym (append-nil ds)) ∙ after_digits ds [] all ∙ append-nil ds

-- digits, and then a byte that is none
pub digits_then : (ds : List ℕ) (b : ℕ) (rest : List ℕ) → AllPass is_ascii_hexdigit ds → is_ascii_hexdigit b ≡ false
    → leading_digits (ds ++ b ∷ rest) ≡ ds
digits_then ds b rest all is = after_digits ds (b ∷ rest) all ∙ ap (λ v. ds ++ v) (none_here b rest is) ∙ append-nil ds

-- white space, and then a byte that is no digit
pad_then : (pad : List ℕ) (b : ℕ) (rest : List ℕ) → AllPass is_ows pad → is_ascii_hexdigit b ≡ false
    → (x : ℕ) × (more : List ℕ) × (pad ++ b ∷ rest ≡ x ∷ more) × (is_ascii_hexdigit x ≡ false)
pad_then [] b rest all is = (b, rest, refl, is)
pad_then (p ∷ pad) b rest all is = (p, pad ++ b ∷ rest, refl, space_no_digit p (All-head (λ v. is_ows v ≡ true) p pad all))

-- after the digits another byte changes nothing
stays : (ds : List ℕ) (x : ℕ) (more line : List ℕ) (b : ℕ) → AllPass is_ascii_hexdigit ds → is_ascii_hexdigit x ≡ false
    → line ≡ ds ++ x ∷ more → leading_digits (line ++ b ∷ []) ≡ leading_digits line
stays ds x more line b all is cut =
    ap leading_digits (ap (λ v. v ++ b ∷ []) cut ∙ append_assoc ds (x ∷ more) (b ∷ [])) ∙ digits_then ds x (more ++ b ∷ []) all is
    ∙ sym (ap leading_digits cut ∙ digits_then ds x more all is)

kept : (line : List ℕ) (b size : ℕ) → leading_digits (line ++ b ∷ []) ≡ leading_digits line → SaysSoFar line size
    → SaysSoFar (line ++ b ∷ []) size
kept line b size same says = subst (λ v. size ≡ min (digits_value 16 v) (2 ^ 64 - 1)) (sym same) says

pub blank_stays : (line : List ℕ) (b size : ℕ) → HasRead Blank line → SaysSoFar line size → SaysSoFar (line ++ b ∷ []) size
blank_stays line b size h says = kept line b size (cut h.1 h.2 h.5 h.6) says
  where
    cut : (pad : List ℕ) → line ≡ h.0 ++ pad → AllPass is_ows pad → 0 < length pad
        → leading_digits (line ++ b ∷ []) ≡ leading_digits line
    cut [] is all some = absurd (omega (arith, some))
    cut (p ∷ pad) is all some = stays h.0 p pad line b h.4 (space_no_digit p (All-head (λ v. is_ows v ≡ true) p pad all)) is

pub extension_stays : (line : List ℕ) (b size : ℕ) → HasRead Extension line → SaysSoFar line size → SaysSoFar (line ++ b ∷ []) size
extension_stays line b size h says =
    let next = pad_then h.1 59 h.2 h.6 refl in
    kept line b size (stays h.0 next.0 next.1 line b h.5 next.3 (h.3 ∙ ap (λ v. h.0 ++ v) next.2)) says

after_pad : (pad : List ℕ) (extension : Option (List ℕ)) (rest : List ℕ) → AllPass is_ows pad
    → (x : ℕ) × (more : List ℕ) × (pad ++ (print_extension extension ++ 13 ∷ rest) ≡ x ∷ more) × (is_ascii_hexdigit x ≡ false)
after_pad pad None rest all = pad_then pad 13 rest all refl
after_pad pad (Some text) rest all = pad_then pad 59 (text ++ 13 ∷ rest) all refl

pub return_stays : (line : List ℕ) (b size : ℕ) → HasRead Return line → SaysSoFar line size → SaysSoFar (line ++ b ∷ []) size
return_stays line b size h says =
    let next = after_pad h.1 h.2 [] h.6 in
    kept line b size (stays h.0 next.0 next.1 line b h.5 next.3 (h.3 ∙ ap (λ v. h.0 ++ v) next.2)) says

-- one more digit
grown : (v s d r : ℕ) → s ≡ min v (2 ^ 64 - 1) → r ≡ min (min (s * 16) (2 ^ 64 - 1) + d) (2 ^ 64 - 1) → r ≡ min (v * 16 + d) (2 ^ 64 - 1)
grown v s d r is next = omega arith

pub digit_more : (line : List ℕ) (b size : ℕ) → AllPass is_ascii_hexdigit line → SaysSoFar line size
    → SaysSoFar (line ++ b ∷ []) (with_digit size b)
digit_more line b size all says = other (is_ascii_hexdigit b) refl
  where
    other : (t : Bool) → is_ascii_hexdigit b ≡ t → SaysSoFar (line ++ b ∷ []) (with_digit size b)
    other true is =
        let value : with_digit size b ≡ min (min (size * 16) (2 ^ 64 - 1) + digit_value b) (2 ^ 64 - 1) =
        ap (λ t. if t then min (min (size * 16) (2 ^ 64 - 1) + digit_value b) (2 ^ 64 - 1) else size) is in
        let one : leading_digits (b ∷ []) ≡ b ∷ [] = ap (λ t. if t then b ∷ [] else []) is in
        let digits : leading_digits (line ++ b ∷ []) ≡ line ++ b ∷ [] = after_digits line (b ∷ []) all ∙ ap (λ v. line ++ v) one in
        let before : size ≡ min (digits_value 16 line) (2 ^ 64 - 1) =
        says ∙ ap (λ v. min (digits_value 16 v) (2 ^ 64 - 1)) (all_digits line all) in
        grown (digits_value 16 line) size (digit_value b) (with_digit size b) before value
        ∙ ap (λ v. min v (2 ^ 64 - 1)) (sym (digits_value_push 16 line b)) ∙ ap (λ v. min (digits_value 16 v) (2 ^ 64 - 1)) (sym digits)
    other false is =
        subst (SaysSoFar (line ++ b ∷ [])) (sym (ap
        (λ t. if t then min (min (size * 16) (2 ^ 64 - 1) + digit_value b) (2 ^ 64 - 1) else size) is))
        (kept line b size (same_digits line b is) says)

-- the digits of a whole line
pub digits_are : (l : SizeLine) → IsSizeLine l → leading_digits (print_size_line l) ≡ l.digits
digits_are l is =
    let next = after_pad l.pad l.extension (10 ∷ []) is.pad in
    ap (λ v. leading_digits (l.digits ++ v)) next.2 ∙ digits_then l.digits next.0 next.1 is.digits.1 next.3

-- a whole line says its size
pub says_size : (l : SizeLine) (size : ℕ) → IsSizeLine l → SaysSoFar (print_size_line l) size → size ≡ min (size_of l) (2 ^ 64 - 1)
says_size l size is says = says ∙ ap (λ v. min (digits_value 16 v) (2 ^ 64 - 1)) (digits_are l is)

pub first_digit_says : (line : List ℕ) (b size : ℕ) → HasRead First line → SaysSoFar line size
    → SaysSoFar (line ++ b ∷ []) (with_digit size b)
first_digit_says line b size none says = digit_more line b size
    (subst (AllPass is_ascii_hexdigit) (sym none) (All-nil (λ v. is_ascii_hexdigit v ≡ true))) says

-- what the parser's digit makes of a number
pub digit_is : (size b d more r : ℕ) → is_ascii_hexdigit b ≡ true → d ≡ digit_value b → more ≡ min (size * 16) (2 ^ 64 - 1)
    → r ≡ min (more + d) (2 ^ 64 - 1) → r ≡ with_digit size b
digit_is size b d more r is digit times sum =
    sum ∙ ap (λ v. min (v + d) (2 ^ 64 - 1)) times ∙ ap (λ v. min (min (size * 16) (2 ^ 64 - 1) + v) (2 ^ 64 - 1)) digit
    ∙ sym (ap (λ t. if t then min (min (size * 16) (2 ^ 64 - 1) + digit_value b) (2 ^ 64 - 1) else size) is)

pub no_digit_is : (size b : ℕ) → is_ascii_hexdigit b ≡ false → size ≡ with_digit size b
no_digit_is size b is = sym (ap (λ t. if t then min (min (size * 16) (2 ^ 64 - 1) + digit_value b) (2 ^ 64 - 1) else size) is)

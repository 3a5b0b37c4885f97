-- Whether bytes end a size line, walked from a place in it; for the clauses of take_byte where it is Bad.
use Rattle.std.proofs.Common.{◌≡◌, ℕ, ◌<◌, Bool, true, false, cond, nat_eq, List, [], ◌∷◌, ◌++◌, length, refl, sym, ap, ◌∙◌, subst, arith}
use Rattle.std.proofs.Common.{append_assoc, Option, None, Some, ◌⊎◌, inl, inr}
use Rattle.std.specs.Prelude.{◌||◌, not}
use Rattle.std.specs.Char.{is_ascii_hexdigit}
use Rattle.std.proofs.lemmas.Bool.{eqb-true}
use Rattle.std.proofs.lemmas.List.Elements.{All-head, All-tail}
use Rattle.httparse.specs.Grammar.{AllPass, is_ows, is_extension_byte, IsExtension, print_extension}
use Rattle.ba_http_body.specs.declared.size_lines.Place.{Place}
use Rattle.ba_http_body.specs.declared.size_lines.Place.TheVariants.{First, Digits, Blank, Extension, Return}
use Rattle.ba_http_body.specs.SizeLines.{SizeLine, IsSizeLine, print_size_line, MayBecomeSizeLine}
use Rattle.ba_http_body.specs.inside.Places.{HasRead}

unfoldable pub walk : Place → List ℕ → Bool
walk First [] = false
walk First (b ∷ bs) = cond (is_ascii_hexdigit b) (walk Digits bs) false
walk Digits [] = false
walk Digits (b ∷ bs) =
    cond (is_ascii_hexdigit b) (walk Digits bs)
    (cond (is_ows b) (walk Blank bs) (cond (nat_eq b 59) (walk Extension bs) (cond (nat_eq b 13) (walk Return bs) false)))
walk Blank [] = false
walk Blank (b ∷ bs) = cond (is_ows b) (walk Blank bs) (cond (nat_eq b 59) (walk Extension bs) (cond (nat_eq b 13) (walk Return bs) false))
walk Extension [] = false
walk Extension (b ∷ bs) = cond (nat_eq b 13) (walk Return bs) (cond (nat_eq b 10) false (walk Extension bs))
walk Return [] = false
walk Return (b ∷ []) = nat_eq b 10
walk Return (b ∷ c ∷ bs) = false

-- white space is no digit
space_cases : (b : ℕ) → is_ows b ≡ true → (b ≡ 32) ⊎ (b ≡ 9)
space_cases b is = other (nat_eq b 32) refl
  where
    other : (t : Bool) → nat_eq b 32 ≡ t → (b ≡ 32) ⊎ (b ≡ 9)
    other true h = inl (eqb-true b 32 h)
    other false h = inr (eqb-true b 9 (sym (ap (λ t. t || nat_eq b 9) h) ∙ is))

pub space_no_digit : (b : ℕ) → is_ows b ≡ true → is_ascii_hexdigit b ≡ false
space_no_digit b is = elim (space_cases b is) [
  | inl h ↦ subst (λ v. is_ascii_hexdigit v ≡ false) (sym h) refl
  | inr h ↦ subst (λ v. is_ascii_hexdigit v ≡ false) (sym h) refl
]

pub digits_on : (ds rest : List ℕ) → AllPass is_ascii_hexdigit ds → walk Digits (ds ++ rest) ≡ walk Digits rest
unfolding walk
digits_on [] rest all = refl
digits_on (d ∷ ds) rest all =
    ap (λ t. cond t (walk Digits (ds ++ rest))
    (cond (is_ows d) (walk Blank (ds ++ rest))
    (cond (nat_eq d 59) (walk Extension (ds ++ rest)) (cond (nat_eq d 13) (walk Return (ds ++ rest)) false))))
    (All-head (λ v. is_ascii_hexdigit v ≡ true) d ds all)
    ∙ digits_on ds rest (All-tail (λ v. is_ascii_hexdigit v ≡ true) d ds all)

pub first_on : (ds rest : List ℕ) → 0 < length ds → AllPass is_ascii_hexdigit ds → walk First (ds ++ rest) ≡ walk Digits rest
unfolding walk
first_on [] rest some all = absurd (omega arith)
first_on (d ∷ ds) rest some all =
    ap (λ t. cond t (walk Digits (ds ++ rest)) false) (All-head (λ v. is_ascii_hexdigit v ≡ true) d ds all)
    ∙ digits_on ds rest (All-tail (λ v. is_ascii_hexdigit v ≡ true) d ds all)

blanks_on : (ps rest : List ℕ) → AllPass is_ows ps → walk Blank (ps ++ rest) ≡ walk Blank rest
unfolding walk
blanks_on [] rest all = refl
blanks_on (p ∷ ps) rest all =
    ap (λ t. cond t (walk Blank (ps ++ rest))
    (cond (nat_eq p 59) (walk Extension (ps ++ rest)) (cond (nat_eq p 13) (walk Return (ps ++ rest)) false)))
    (All-head (λ v. is_ows v ≡ true) p ps all)
    ∙ blanks_on ps rest (All-tail (λ v. is_ows v ≡ true) p ps all)

-- a byte that is no digit is the same to digits as to white space
pub no_digit : (b : ℕ) (rest : List ℕ) → is_ascii_hexdigit b ≡ false → walk Digits (b ∷ rest) ≡ walk Blank (b ∷ rest)
unfolding walk
no_digit b rest is = ap (λ t. cond t (walk Digits rest) (walk Blank (b ∷ rest))) is

-- white space after digits
pub pad_on : (ps : List ℕ) (b : ℕ) (rest : List ℕ) → AllPass is_ows ps → is_ascii_hexdigit b ≡ false
    → walk Digits (ps ++ b ∷ rest) ≡ walk Blank (b ∷ rest)
pad_on [] b rest all is = no_digit b rest is
pad_on (p ∷ ps) b rest all is =
    no_digit p (ps ++ b ∷ rest) (space_no_digit p (All-head (λ v. is_ows v ≡ true) p ps all)) ∙ blanks_on (p ∷ ps) (b ∷ rest) all

text_byte : (b : ℕ) → is_extension_byte b ≡ true → (nat_eq b 13 ≡ false) × (nat_eq b 10 ≡ false)
text_byte b is = other (nat_eq b 13) (nat_eq b 10) is
  where
    other : (s t : Bool) → not (s || t) ≡ true → (s ≡ false) × (t ≡ false)
    other false false h = (refl, refl)
    other false true h = absurd (let no : false ≡ true = h in cc)
    other true t h = absurd (let no : false ≡ true = h in cc)

pub text_on : (ts rest : List ℕ) → AllPass is_extension_byte ts → walk Extension (ts ++ rest) ≡ walk Extension rest
unfolding walk
text_on [] rest all = refl
text_on (t ∷ ts) rest all =
    let h = text_byte t (All-head (λ v. is_extension_byte v ≡ true) t ts all) in
    ap (λ s. cond s (walk Return (ts ++ rest)) (cond (nat_eq t 10) false (walk Extension (ts ++ rest)))) h.0
    ∙ ap (λ s. cond s false (walk Extension (ts ++ rest))) h.1
    ∙ text_on ts rest (All-tail (λ v. is_extension_byte v ≡ true) t ts all)

-- after digits and white space, up to the carriage return
pub tail_on : (ps : List ℕ) (extension : Option (List ℕ)) (rest : List ℕ) → AllPass is_ows ps → IsExtension extension
    → walk Digits (ps ++ (print_extension extension ++ 13 ∷ rest)) ≡ walk Return rest
unfolding walk
tail_on ps None rest all is = pad_on ps 13 rest all refl
tail_on ps (Some text) rest all is = pad_on ps 59 (text ++ 13 ∷ rest) all refl ∙ text_on text (13 ∷ rest) is

-- a size line is one that the walk ends
pub walks : (l : SizeLine) → IsSizeLine l → walk First (print_size_line l) ≡ true
unfolding walk
walks l is = first_on l.digits (l.pad ++ (print_extension l.extension ++ 13 ∷ 10 ∷ [])) is.digits.0 is.digits.1
    ∙ tail_on l.pad l.extension (10 ∷ []) is.pad is.extension

pad_read : (ps rest : List ℕ) → 0 < length ps → AllPass is_ows ps → walk Digits (ps ++ rest) ≡ walk Blank rest
pad_read [] rest some all = absurd (omega arith)
pad_read (p ∷ ps) rest some all =
    no_digit p (ps ++ rest) (space_no_digit p (All-head (λ v. is_ows v ≡ true) p ps all)) ∙ blanks_on (p ∷ ps) rest all

text_start : (rest : List ℕ) → walk Blank (59 ∷ rest) ≡ walk Extension rest
unfolding walk
text_start rest = refl

-- what was read leads to the place
pub leads : (place : Place) (bytes rest : List ℕ) → HasRead place bytes → walk First (bytes ++ rest) ≡ walk place rest
leads First bytes rest h = ap (λ v. walk First (v ++ rest)) h
leads Digits bytes rest h = first_on bytes rest h.0 h.1
leads Blank bytes rest h =
    ap (λ v. walk First (v ++ rest)) h.2 ∙ ap (walk First) (append_assoc h.0 h.1 rest) ∙ first_on h.0 (h.1 ++ rest) h.3 h.4
    ∙ pad_read h.1 rest h.6 h.5
leads Extension bytes rest h =
    ap (λ v. walk First (v ++ rest)) h.3
    ∙ ap (walk First) (append_assoc h.0 (h.1 ++ 59 ∷ h.2) rest ∙ ap (λ v. h.0 ++ v) (append_assoc h.1 (59 ∷ h.2) rest))
    ∙ first_on h.0 (h.1 ++ 59 ∷ (h.2 ++ rest)) h.4 h.5 ∙ (pad_on h.1 59 (h.2 ++ rest) h.6 refl ∙ text_start (h.2 ++ rest))
    ∙ text_on h.2 rest h.7
leads Return bytes rest h =
    ap (λ v. walk First (v ++ rest)) h.3
    ∙ ap (walk First) (append_assoc h.0 (h.1 ++ (print_extension h.2 ++ 13 ∷ [])) rest
    ∙ ap (λ v. h.0 ++ v) (append_assoc h.1 (print_extension h.2 ++ 13 ∷ []) rest
    ∙ ap (λ v. h.1 ++ v) (append_assoc (print_extension h.2) (13 ∷ []) rest)))
    ∙ first_on h.0 (h.1 ++ (print_extension h.2 ++ 13 ∷ rest)) h.4 h.5 ∙ tail_on h.1 h.2 rest h.6 h.7

-- where the walk goes no further, no size line goes on
pub dead : (place : Place) (bytes : List ℕ) (b : ℕ) → HasRead place bytes → ((more : List ℕ) → walk place (b ∷ more) ≡ false)
    → ¬ (MayBecomeSizeLine (bytes ++ b ∷ []))
dead place bytes b h stops may =
    let more = may.0 in
    let yes : walk First ((bytes ++ b ∷ []) ++ more) ≡ true = ap (walk First) may.3 ∙ walks may.1 may.2 in
    let no : walk First ((bytes ++ b ∷ []) ++ more) ≡ false = ap (walk First) (append_assoc bytes (b ∷ []) more)
    ∙ leads place bytes (b ∷ more) h ∙ stops more in
    let both : true ≡ false = sym yes ∙ no in cc

differs : (a b : ℕ) → (a ≡ b → ⊥) → nat_eq a b ≡ false
differs a b not_same = other (nat_eq a b) refl
  where
    other : (t : Bool) → nat_eq a b ≡ t → t ≡ false
    other false is = refl
    other true is = absurd (not_same (eqb-true a b is))

pub dead_first : (bytes : List ℕ) (b : ℕ) → HasRead First bytes → is_ascii_hexdigit b ≡ false → ¬ (MayBecomeSizeLine (bytes ++ b ∷ []))
unfolding walk
dead_first bytes b h is = dead First bytes b h (λ more. ap (λ t. cond t (walk Digits more) false) is)

blank_stops : (b : ℕ) (more : List ℕ) → is_ows b ≡ false → (b ≡ 59 → ⊥) → (b ≡ 13 → ⊥) → walk Blank (b ∷ more) ≡ false
unfolding walk
blank_stops b more a d e =
    ap (λ t. cond t (walk Blank more) (cond (nat_eq b 59) (walk Extension more) (cond (nat_eq b 13) (walk Return more) false))) a
    ∙ ap (λ t. cond t (walk Extension more) (cond (nat_eq b 13) (walk Return more) false)) (differs b 59 d)
    ∙ ap (λ t. cond t (walk Return more) false) (differs b 13 e)

pub dead_blank : (bytes : List ℕ) (b : ℕ) → HasRead Blank bytes → is_ows b ≡ false → (b ≡ 59 → ⊥) → (b ≡ 13 → ⊥)
    → ¬ (MayBecomeSizeLine (bytes ++ b ∷ []))
dead_blank bytes b h a d e = dead Blank bytes b h (λ more. blank_stops b more a d e)

pub dead_digits : (bytes : List ℕ) (b : ℕ) → HasRead Digits bytes → is_ascii_hexdigit b ≡ false → is_ows b ≡ false → (b ≡ 59 → ⊥)
    → (b ≡ 13 → ⊥) → ¬ (MayBecomeSizeLine (bytes ++ b ∷ []))
dead_digits bytes b h is a d e = dead Digits bytes b h (λ more. no_digit b more is ∙ blank_stops b more a d e)

pub text_is : (b : ℕ) → (b ≡ 13 → ⊥) → (b ≡ 10 → ⊥) → is_extension_byte b ≡ true
text_is b r f = ap (λ t. not (t || nat_eq b 10)) (differs b 13 r) ∙ ap not (differs b 10 f)

pub dead_text : (bytes : List ℕ) → HasRead Extension bytes → ¬ (MayBecomeSizeLine (bytes ++ 10 ∷ []))
unfolding walk
dead_text bytes h = dead Extension bytes 10 h (λ more. refl)

return_stops : (b : ℕ) → (b ≡ 10 → ⊥) → (more : List ℕ) → walk Return (b ∷ more) ≡ false
unfolding walk
return_stops b is [] = differs b 10 is
return_stops b is (c ∷ more) = refl

pub dead_return : (bytes : List ℕ) (b : ℕ) → HasRead Return bytes → (b ≡ 10 → ⊥) → ¬ (MayBecomeSizeLine (bytes ++ b ∷ []))
dead_return bytes b h is = dead Return bytes b h (return_stops b is)

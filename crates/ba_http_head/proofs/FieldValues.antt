-- The values of the fields of a name, from the first field on.
use Rattle.std.proofs.Common.{◌≡◌, ℕ, ◌≤◌, Bool, true, false, cond, List, [], ◌∷◌, length, drop, map, get_or, refl, ap, ◌∙◌, sym, arith}
use Rattle.std.proofs.Common.{take, ◌-◌, take_all, length-drop}
use Rattle.std.specs.Prelude.{IsTrue, ◌&&◌}
use Rattle.std.specs.List.{filter, list_all}
use Rattle.std.specs.Str.{str_eq_ignore_ascii_case, str_to_ascii_lowercase}
use Rattle.std.proofs.lemmas.Slice.Eq.{bytes_eq-Decides}
use Rattle.ba_http_head.specs.Lengths.{values_of, first_of}

tail : {X : Type 0} (show : X → List ℕ × List ℕ) (name : List ℕ) (x : X) (xs : List X) (b : Bool)
    → str_eq_ignore_ascii_case (show x).0 name ≡ b
    → values_of name (map show (x ∷ xs)) ≡ cond b ((show x).1 ∷ values_of name (map show xs)) (values_of name (map show xs))
tail show name x xs true is =
    ap (λ t. map (λ (f : List ℕ × List ℕ). f.1)
    (cond t (show x ∷ filter (λ (f : List ℕ × List ℕ). str_eq_ignore_ascii_case f.0 name) (map show xs))
    (filter (λ (f : List ℕ × List ℕ). str_eq_ignore_ascii_case f.0 name) (map show xs)))) is
tail show name x xs false is =
    ap (λ t. map (λ (f : List ℕ × List ℕ). f.1)
    (cond t (show x ∷ filter (λ (f : List ℕ × List ℕ). str_eq_ignore_ascii_case f.0 name) (map show xs))
    (filter (λ (f : List ℕ × List ℕ). str_eq_ignore_ascii_case f.0 name) (map show xs)))) is

-- one field more
pub step : {X : Type 0} (show : X → List ℕ × List ℕ) (name : List ℕ) (xs : List X) (d : X) (b : Bool) → 1 ≤ length xs
    → str_eq_ignore_ascii_case (show (get_or xs 0 d)).0 name ≡ b
    → values_of name (map show xs) ≡ cond b ((show (get_or xs 0 d)).1 ∷ values_of name (map show (drop 1 xs)))
    (values_of name (map show (drop 1 xs)))
step show name [] d b some is = absurd (omega (arith, some))
step show name (x ∷ xs) d b some is = tail show name x xs b is

pub names_is : (a name : List ℕ) (b : Bool) → (IsTrue b → str_to_ascii_lowercase a ≡ str_to_ascii_lowercase name)
    × (str_to_ascii_lowercase a ≡ str_to_ascii_lowercase name → IsTrue b)
    → str_eq_ignore_ascii_case a name ≡ b
names_is a name true test = (bytes_eq-Decides (str_to_ascii_lowercase a) (str_to_ascii_lowercase name)).1 (test.0 refl)
names_is a name false test = other (str_eq_ignore_ascii_case a name) refl
  where
    other : (t : Bool) → str_eq_ignore_ascii_case a name ≡ t → str_eq_ignore_ascii_case a name ≡ false
    other false is = is
    other true is = let no : false ≡ true = test.1 ((bytes_eq-Decides (str_to_ascii_lowercase a) (str_to_ascii_lowercase name)).0 is) in
        absurd (cc)

rest_is : {X : Type 0} (xs : List X) → take (length xs - 1) (drop 1 xs) ≡ drop 1 xs
rest_is xs = take_all (length xs - 1) (drop 1 xs) (omega (arith, length-drop 1 xs))

-- a field that passes the test, or has another name, changes nothing
pub all_on : {X : Type 0} (show : X → List ℕ × List ℕ) (name : List ℕ) (test : List ℕ → Bool) (xs : List X) (d : X) (b : Bool)
    → 1 ≤ length xs
    → str_eq_ignore_ascii_case (show (get_or xs 0 d)).0 name ≡ b → (b ≡ true → test (show (get_or xs 0 d)).1 ≡ true)
    → list_all test (values_of name (map show (take (length xs - 1) (drop 1 xs)))) ≡ list_all test (values_of name (map show xs))
all_on show name test xs d true some is passes =
    ap (λ v. list_all test (values_of name (map show v))) (rest_is xs)
    ∙ ap (λ t. t && list_all test (values_of name (map show (drop 1 xs)))) (sym (passes refl))
    ∙ ap (list_all test) (sym (step show name xs d true some is))
all_on show name test xs d false some is passes =
    ap (λ v. list_all test (values_of name (map show v))) (rest_is xs) ∙ ap (list_all test) (sym (step show name xs d false some is))

pub first_on : {X : Type 0} (show : X → List ℕ × List ℕ) (name : List ℕ) (xs : List X) (d : X) → 1 ≤ length xs
    → str_eq_ignore_ascii_case (show (get_or xs 0 d)).0 name ≡ false
    → first_of (values_of name (map show (take (length xs - 1) (drop 1 xs)))) ≡ first_of (values_of name (map show xs))
first_on show name xs d some is =
    ap (λ v. first_of (values_of name (map show v))) (rest_is xs) ∙ ap first_of (sym (step show name xs d false some is))

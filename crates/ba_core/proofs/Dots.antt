-- What stands before the first dot of an object's identifier, and after it: for the reader of identifiers.
use Rattle.std.proofs.Common.{◌≡◌, ◌≢◌, ℕ, ◌+◌, ◌<◌, ◌^◌, List, [], ◌∷◌, ◌++◌, length, take, drop, slice_index, get_or, sym, ap, ◌∙◌, refl}
use Rattle.std.proofs.Common.{arith, Option, None, Some, IfNone}
use Rattle.std.specs.Fmt.{decimal}
use Rattle.std.specs.List.{AllByRecursion}
use Rattle.std.specs.Str.Parse.{AllDigits}
use Rattle.std.proofs.lemmas.Fmt.{decimal_is_IsNumeral}
use Rattle.std.proofs.lemmas.Str.Parse.{digit_from_value}
use Rattle.std.proofs.lemmas.List.{drop_more, take-append-drop}
use Rattle.std.proofs.lemmas.List.Elements.{recursion_from_All}
use Rattle.ba_core.specs.Texts.{HasNoDot}

-- the parts round the first dot are determined by the text, where the first of them are digits
same_parts : (a b x y : List ℕ) → AllByRecursion (λ c. c ≢ 46) a → AllDigits 10 x → a ++ (46 ∷ b) ≡ x ++ (46 ∷ y) → (a ≡ x) × (b ≡ y)
same_parts [] b [] y clear digits same = (refl, ap (drop 1) same)
same_parts [] b (c ∷ x) y clear digits same =
    let first : 46 ≡ c = ap (λ xs. get_or xs 0 0) same in absurd (omega (arith, digit_from_value c digits.0))
same_parts (c ∷ a) b [] y clear digits same = absurd (clear.0 (ap (λ xs. get_or xs 0 0) same))
same_parts (c ∷ a) b (d ∷ x) y clear digits same =
    let first : c ≡ d = ap (λ xs. get_or xs 0 0) same in
    let rest = same_parts a b x y clear.1 digits.1 (ap (drop 1) same) in
    (ap (λ k. k ∷ a) first ∙ ap (λ xs. d ∷ xs) rest.0, rest.1)

-- a text without a dot is no identifier
pub dotless : (text : List ℕ) → HasNoDot text → (a b : List ℕ) → text ≢ a ++ (46 ∷ b)
dotless text clear a b same = no_dot text (recursion_from_All (λ c. c ≢ 46) text clear) a b same
  where
    no_dot : (xs : List ℕ) → AllByRecursion (λ c. c ≢ 46) xs → (x y : List ℕ) → xs ≢ x ++ (46 ∷ y)
    no_dot [] h [] y e = absurd (omega (arith, ap length e))
    no_dot [] h (k ∷ x) y e = absurd (omega (arith, ap length e))
    no_dot (c ∷ xs) h [] y e = h.0 (ap (λ l. get_or l 0 0) e)
    no_dot (c ∷ xs) h (k ∷ x) y e = no_dot xs h.1 x y (ap (drop 1) e)

-- what stands round the dot at a place
pub round_dot : (text : List ℕ) (n : ℕ) → n < length text → slice_index text n ≡ 46 → text ≡ take n text ++ (46 ∷ drop (n + 1) text)
round_dot text n within dot =
    let rest : drop n text ≡ 46 ∷ drop (n + 1) text = drop_more text n 0 within ∙ ap (λ c. c ∷ drop (n + 1) text) dot in
    sym (take-append-drop n text) ∙ ap (λ xs. take n text ++ xs) rest

-- the parts of an identifier round its first dot are its two numbers
pub numbers_round : (text : List ℕ) (n node counter : ℕ) → n < length text → slice_index text n ≡ 46 → HasNoDot (take n text)
    → node < 2 ^ 64
    → text ≡ decimal node ++ (46 ∷ decimal counter) → (take n text ≡ decimal node) × (drop (n + 1) text ≡ decimal counter)
numbers_round text n node counter within dot first small same =
    same_parts (take n text) (drop (n + 1) text) (decimal node) (decimal counter)
    (recursion_from_All (λ c. c ≢ 46) (take n text) first) (decimal_is_IsNumeral node small).0.1
    (sym (round_dot text n within dot) ∙ same)

-- where no two numbers stand round the first dot, the text is no identifier
pub no_numbers_round : {X : Type 0} (text after : List ℕ) (n : ℕ) → n < length text → slice_index text n ≡ 46 → HasNoDot (take n text)
    → after ≡ drop (n + 1) text
    → (result : Option X)
    → IfNone result ((m c : ℕ) → m < 2 ^ 32 → c < 2 ^ 64 → take n text ≡ decimal m → after ≢ decimal c)
    → IfNone result ((node counter : ℕ) → node < 2 ^ 32 → counter < 2 ^ 64 → text ≢ decimal node ++ (46 ∷ decimal counter))
no_numbers_round text after n within dot first rest (Some x) h = tt
no_numbers_round text after n within dot first rest None h = λ node counter low small same.
    let parts = numbers_round text n node counter within dot first (omega arith) same in
    h node counter low small parts.0 (rest ∙ parts.1)

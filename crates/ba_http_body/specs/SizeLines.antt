-- Believe: the line that says the size of a chunk.
use Rattle.std.specs.Prelude.{◌≡◌, ℕ, ◌<◌, List, [], ◌∷◌, ◌++◌, length, Option}
use Rattle.std.specs.Char.{is_ascii_hexdigit}
use Rattle.httparse.specs.Grammar.{AllPass, is_ows, IsExtension, print_extension}

-- what says a chunk's size: digits, white space, and maybe a semicolon and a text
pub record SizeLine : Type 0 where
  pub digits : List ℕ
  pub pad : List ℕ
  pub extension : Option (List ℕ)

-- each part is of its class; unlike a number of the parser's, it may have any number of digits
pub record IsSizeLine (l : SizeLine) : Type 0 where
  pub digits : (0 < length l.digits) × AllPass is_ascii_hexdigit l.digits
  pub pad : AllPass is_ows l.pad
  pub extension : IsExtension l.extension

-- the bytes of a size line
abbrev pub print_size_line : SizeLine → List ℕ
print_size_line l = l.digits ++ (l.pad ++ (print_extension l.extension ++ 13 ∷ 10 ∷ []))

-- some bytes can follow that make these bytes a size line
abbrev pub MayBecomeSizeLine : List ℕ → Type 0
MayBecomeSizeLine bytes = (more : List ℕ) × (l : SizeLine) × IsSizeLine l × (bytes ++ more ≡ print_size_line l)

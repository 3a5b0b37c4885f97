-- Inside: how far a size line has been read.
use Rattle.std.specs.Prelude.{◌≡◌, ℕ, ◌<◌, List, [], ◌∷◌, ◌++◌, length, Option}
use Rattle.std.specs.Char.{is_ascii_hexdigit}
use Rattle.httparse.specs.Grammar.{AllPass, is_ows, is_extension_byte, IsExtension, print_extension}
use Rattle.ba_http_body.specs.SizeLines.{SizeLine, IsSizeLine, print_size_line, MayBecomeSizeLine}
use Rattle.ba_http_body.specs.declared.size_lines.Step.{Step}
use Rattle.ba_http_body.specs.declared.size_lines.Step.TheVariants.{More, End, Bad}
use Rattle.ba_http_body.specs.declared.size_lines.Place.{Place}
use Rattle.ba_http_body.specs.declared.size_lines.Place.TheVariants.{First, Digits, Blank, Extension, Return}

-- the bytes of a size line so far, by what came last
abbrev pub HasRead : Place → List ℕ → Type 0
HasRead First bytes = bytes ≡ []
HasRead Digits bytes = (0 < length bytes) × AllPass is_ascii_hexdigit bytes
HasRead Blank bytes =
    (digits : List ℕ) × (pad : List ℕ) × (bytes ≡ digits ++ pad) × (0 < length digits) × AllPass is_ascii_hexdigit digits
    × AllPass is_ows pad × (0 < length pad)
HasRead Extension bytes =
    (digits : List ℕ) × (pad : List ℕ) × (text : List ℕ) × (bytes ≡ digits ++ (pad ++ 59 ∷ text)) × (0 < length digits)
    × AllPass is_ascii_hexdigit digits × AllPass is_ows pad
    × AllPass is_extension_byte text
HasRead Return bytes =
    (digits : List ℕ) × (pad : List ℕ) × (extension : Option (List ℕ))
    × (bytes ≡ digits ++ (pad ++ (print_extension extension ++ 13 ∷ []))) × (0 < length digits)
    × AllPass is_ascii_hexdigit digits × AllPass is_ows pad × IsExtension extension

-- what one more byte makes of a size line's bytes
abbrev pub Steps : Step → List ℕ → Type 0
Steps (More place) bytes = HasRead place bytes
Steps End bytes = (l : SizeLine) × IsSizeLine l × (bytes ≡ print_size_line l)
Steps Bad bytes = ¬ (MayBecomeSizeLine bytes)

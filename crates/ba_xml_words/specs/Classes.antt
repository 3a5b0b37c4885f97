-- Believe: the kinds of bytes: which bytes each is.
use Rattle.std.specs.Prelude.{ℕ, Bool, cond, ◌||◌, ◌==◌, nat_lt}
use Rattle.std.specs.Char.{is_ascii_alphabetic, is_ascii_digit}
use Rattle.ba_xml_words.specs.declared.classes.Class.{Class}
use Rattle.ba_xml_words.specs.declared.classes.Class.TheVariants as class

abbrev pub is_space : ℕ → Bool
is_space b = (b == 32 || b == 9) || b == 10

abbrev pub is_first_letter : ℕ → Bool
is_first_letter b = is_ascii_alphabetic b || b == 95

abbrev pub is_digit_or_dot : ℕ → Bool
is_digit_or_dot b = is_ascii_digit b || b == 46

-- "<", ">", "&", "/", "!", "?", "-", "[", "]", "=", "'", "\"", ":"
unfoldable pub mark_of : ℕ → Class
mark_of b = cond (b == 60) class.Less (cond (b == 62) class.Greater (cond (b == 38) class.Ampersand (cond (b == 47) class.Slash
    (cond (b == 33) class.Exclamation (cond (b == 63) class.Question (cond (b == 45) class.Hyphen (cond (b == 91) class.OpenBracket
    (cond (b == 93) class.CloseBracket (cond (b == 61) class.EqualsSign (cond (b == 39) class.Apostrophe (cond (b == 34) class.DoubleQuote
    (cond (b == 58) class.Colon class.Plain))))))))))))

unfoldable pub class_of : ℕ → Class
class_of b = cond (is_space b) class.Space (cond (nat_lt b 32) class.Control (cond (nat_lt b 128)
    (cond (is_first_letter b) class.Letter (cond (is_digit_or_dot b) class.Digit (mark_of b))) class.High))

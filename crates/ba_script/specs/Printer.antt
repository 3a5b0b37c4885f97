-- Believe: the printed lines of a play.
use Rattle.std.specs.Prelude.{ℕ, List, [], ◌∷◌, ◌++◌, codes}
use Rattle.std.specs.Fmt.{decimal}
use Rattle.ba_pair.specs.declared.lines.Line.{Line}
use Rattle.ba_pair.specs.LineText.{play_line_text}

-- a line with its number and a line feed
abbrev pub numbered_line : ℕ → Line → List ℕ
numbered_line number line = decimal number ++ (codes " " ++ (play_line_text line ++ codes "\n"))

-- lines, one after another
abbrev pub shown_lines : List (ℕ × Line) → List ℕ
shown_lines [] = []
shown_lines (l ∷ ls) = numbered_line l.0 l.1 ++ shown_lines ls

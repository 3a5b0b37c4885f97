-- Believe: the text of a line, without its number.
use Rattle.std.specs.Prelude.{ℕ, List, ◌++◌, None, Some, codes}
use Rattle.std.specs.Fmt.{decimal}
use Rattle.ba_core.specs.Texts.{end_text, part_text, code_text, id_text}
use Rattle.ba_pair.specs.declared.lines.Line.{Line}
use Rattle.ba_pair.specs.declared.lines.Line.TheVariants as line

abbrev pub play_line_text : Line → List ℕ
play_line_text (line.Pair c p bag) = codes "C=" ++ (end_text c ++ (codes " P=" ++ (part_text p ++ (codes " bag=" ++ decimal bag))))
play_line_text (line.Refused number None) = codes "refused " ++ decimal number
play_line_text (line.Refused number (Some id)) = codes "refused " ++ (decimal number ++ (codes " " ++ id_text id.0))
play_line_text (line.Fault code) = codes "fault " ++ code_text code

-- Believe: what comes first of a head or of a trailer.
use Rattle.std.specs.Prelude.{◌≡◌, ℕ, ◌≤◌, false, List, length, take, drop}
use Rattle.httparse.specs.Grammar.{LineEnd, print_blank}
use Rattle.ba_http_head.specs.declared.headings.Heading.{Heading}
use Rattle.ba_http_head.specs.declared.scans.LineStart.{LineStart}
use Rattle.ba_http_head.specs.declared.scans.Shown.{Shown}
use Rattle.ba_http_head.specs.declared.scans.Shown.TheVariants.{Whole, Bad, Large}
use Rattle.ba_http_head.specs.HeadLines.{IsWhole, EndsBadLine, IsPastLimits, IsOpen, SettlesFirst, BeginsLine, LastLineAt, has_feed}
use Rattle.ba_http_head.specs.HeadLines.{filled_lines}

-- what shows itself at the last of these bytes, and not before; at one byte a limit comes first
abbrev pub Shows : Heading → List ℕ → Shown → Type 0
Shows heading prefix Whole = SettlesFirst heading prefix × IsWhole heading prefix × ¬ (IsPastLimits heading prefix)
Shows heading prefix (Bad place) =
    SettlesFirst heading prefix × EndsBadLine heading prefix × LastLineAt prefix place × ¬ (IsPastLimits heading prefix)
Shows heading prefix Large = SettlesFirst heading prefix × IsPastLimits heading prefix

-- nothing has shown itself yet, and the last line, which isn't ended, begins there
pub record IsLooked (heading : Heading) (seen : List ℕ) (line : LineStart) : Type 0 where
  pub open_yet : IsOpen heading seen
  pub within : line.place ≤ length seen
  pub begins : BeginsLine (take line.place seen)
  pub unended : has_feed (drop line.place seen) ≡ false
  pub filled : line.filled ≡ filled_lines (take line.place seen)
  -- where no line before it is filled, all are empty lines
  pub empties : line.filled ≡ 0 → (ends : List LineEnd) × (take line.place seen ≡ print_blank ends)

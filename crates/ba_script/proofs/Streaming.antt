-- How far a script was read from a source, where the source tells its bytes.
use Rattle.std.proofs.Common.{◌≡◌, ℕ, ◌+◌, ◌<◌, ◌≤◌, List, [], ◌∷◌, ◌++◌, length, take, drop, Bool, if◌then◌else◌, Option, None, Some}
use Rattle.std.proofs.Common.{IfSome, inl, inr, refl, sym, ap, ◌∙◌, subst, append_assoc, arith, length-append, length-drop}
use Rattle.std.proofs.lemmas.Bool.{lt-ltb}
use Rattle.std.specs.Io.KnownBytes.{IsAtEnd, Keeps, prepend_known}
use Rattle.ba_world_events.specs.Events.{NumberedEvent}
use Rattle.ba_script_forms.specs.Readings.{IsLine, bad_column, bad_unless_remark}
use Rattle.ba_script_forms.specs.declared.readings.Form.{Form}
use Rattle.ba_script_forms.specs.declared.readings.Reading.{Reading}
use Rattle.ba_pair.specs.PairPlay.{Numbered}
use Rattle.ba_ports.specs.Lines.{lines_of, byte_count}
use Rattle.ba_script.specs.Scripts.{form_after, IsScript, IsBadScript, IsLongScript}
use Rattle.ba_script.specs.inside.Events.{pair_event_of, world_event_of, script_of}
use Rattle.ba_script.specs.inside.Lines.{BeginsLonger, IsNextLine}
use Rattle.ba_ports.specs.Inputs.{TakesAtMost}
use Rattle.ba_script.specs.Scripts.{lookahead, most_of_script}
use Rattle.ba_script.proofs.Progress.{Progress, begun, advance, finished, stopped, too_many}

-- of the first bytes, these come yet
abbrev pub ProgressOf : Option (List ℕ) → Option (List ℕ) → Option Form → ℕ → List Numbered → List NumberedEvent → Type 0
ProgressOf None now form read pairs worlds = Unit {0}
ProgressOf (Some text) None form read pairs worlds = ⊥
ProgressOf (Some text) (Some rest) form read pairs worlds = Progress text form read rest pairs worlds

-- from a source that had the bytes of `whole`, these are at hand, and those of `left` are left
pub record StandsAt (whole left : Option (List ℕ)) (hand : List ℕ) (form : Option Form) (read : ℕ)
    (pairs : List Numbered) (worlds : List NumberedEvent) : Type 0 where
  pub few : length hand ≤ lookahead
  pub progress : ProgressOf whole (prepend_known hand left) form read pairs worlds

begun_of : (a : Option (List ℕ)) → ProgressOf a (prepend_known [] a) None 0 [] []
begun_of None = tt
begun_of (Some text) = begun text

pub stands_first : (a : Option (List ℕ)) → StandsAt a a [] None 0 [] []
stands_first a = record { few = omega arith; progress = begun_of a }

moved : (a now later : Option (List ℕ)) (form : Option Form) (read : ℕ) (pairs : List Numbered) (worlds : List NumberedEvent)
    → ProgressOf a now form read pairs worlds
    → Keeps now later
    → ProgressOf a later form read pairs worlds
moved None now later form read pairs worlds p kept = tt
moved (Some text) None later form read pairs worlds p kept = absurd p
moved (Some text) (Some rest) None form read pairs worlds p kept = absurd kept
moved (Some text) (Some rest) (Some same) form read pairs worlds p kept = subst (λ t. Progress text form read t pairs worlds) (sym kept) p

-- more bytes were read
pub stands_on : (a s t : Option (List ℕ)) (b c : List ℕ) (form : Option Form) (read : ℕ) (pairs : List Numbered)
    (worlds : List NumberedEvent)
    → StandsAt a s b form read pairs worlds
    → Keeps (prepend_known b s) (prepend_known c t) → length c ≤ lookahead → StandsAt a t c form read pairs worlds
stands_on a s t b c form read pairs worlds at kept few =
    record { few = few; progress = moved a (prepend_known b s) (prepend_known c t) form read pairs worlds at.progress kept }

long_line_is_bad : (form : Option Form) (line : List ℕ) → 256 < length line → bad_column form line ≡ Some 257
long_line_is_bad form line long = ap (λ (t : Bool). if t then Some 257 else bad_unless_remark form line) (lt-ltb 256 (length line) long)

same_column : (c d : ℕ) → ◌≡◌ {A = Option ℕ} (Some c) (Some d) → c ≡ d
same_column c d same = cc

some_longer : (lines : List (List ℕ)) → BeginsLonger 256 lines
    → (line : List ℕ) × (later : List (List ℕ)) × (lines ≡ line ∷ later) × (256 < length line)
some_longer [] longer = absurd longer
some_longer (line ∷ lines) longer = (line, lines, refl, longer)

module _ (form : Option Form) (read : ℕ) (pairs : List Numbered) (worlds : List NumberedEvent) (b : List ℕ) where
  advanced : (a s : Option (List ℕ)) (n : ℕ) (reading : Reading) → ProgressOf a (prepend_known b s) form read pairs worlds
      → IsNextLine b s n
      → IsLine form reading (take n b)
      → ProgressOf a (prepend_known (drop (n + 1) b) s) (form_after form reading) (read + 1) (pairs ++ pair_event_of reading (read + 1))
      (worlds ++ world_event_of reading (read + 1))
  advanced None s n reading p next is = tt
  advanced (Some text) None n reading p next is = absurd p
  advanced (Some text) (Some left) n reading p next is =
      elim next [
        | inl loses ↦ advance text form read (b ++ left) pairs worlds p (take n b) (drop (n + 1) b ++ left) reading loses is
        | inr long ↦ absurd (omega (arith, is.short, long.1))
      ]

  -- a line more
  pub advance_of : (a s : Option (List ℕ)) (n : ℕ) (reading : Reading) → StandsAt a s b form read pairs worlds → IsNextLine b s n
      → IsLine form reading (take n b)
      → StandsAt a s (drop (n + 1) b) (form_after form reading) (read + 1) (pairs ++ pair_event_of reading (read + 1))
      (worlds ++ world_event_of reading (read + 1))
  advance_of a s n reading at next is = record {
    few = omega (arith, length-drop (n + 1) b, at.few);
    progress = advanced a s n reading at.progress next is;
  }

  -- the end of the bytes
  pub finished_of : (a s : Option (List ℕ)) → StandsAt a s b form read pairs worlds → b ≡ [] → IsAtEnd s → read ≤ 100000
      → IfSome a (λ text. IsScript text (script_of form pairs worlds))
  finished_of None s at none end few = tt
  finished_of (Some text) None at none end few = absurd at.progress
  finished_of (Some text) (Some left) at none end few =
      finished text form read (b ++ left) pairs worlds at.progress (ap (λ t. t ++ left) none ∙ end) few

  -- a bad line; of one that is too long a beginning that is too long was looked at
  pub stopped_of : (a s : Option (List ℕ)) (n column : ℕ) → StandsAt a s b form read pairs worlds → IsNextLine b s n
      → bad_column form (take n b) ≡ Some column → read < 100000
      → IfSome a (λ text. IsBadScript text (read + 1) column)
  stopped_of None s n column at next bad early = tt
  stopped_of (Some text) None n column at next bad early = absurd at.progress
  stopped_of (Some text) (Some left) n column at next bad early =
      elim next [
        | inl loses ↦
            stopped text form read (b ++ left) pairs worlds at.progress (take n b)
            (lines_of (drop (n + 1) b ++ left)) column loses.lines bad early
        | inr long ↦
            let longer = some_longer (lines_of (b ++ left)) long.0 in
            let there : 257 ≡ column = same_column 257 column (sym (long_line_is_bad form (take n b) long.1) ∙ bad) in
            stopped text form read (b ++ left) pairs worlds at.progress longer.0 longer.1 column longer.2
            (long_line_is_bad form longer.0 longer.3 ∙ ap Some there) early
      ]

  -- a line past the limit
  pub too_many_of : (a s : Option (List ℕ)) → StandsAt a s b form read pairs worlds → read ≡ 100000 → 0 < length b → IfSome a IsLongScript
  too_many_of None s at all any = tt
  too_many_of (Some text) None at all any = absurd at.progress
  too_many_of (Some text) (Some left) at all any =
      too_many text form read (b ++ left) pairs worlds at.progress all (omega (arith, length-append b left))

  -- how much was taken from the source, by the lines that were read
  pub taken_of : (a s : Option (List ℕ)) (lines : ℕ) → StandsAt a s b form read pairs worlds → lines ≡ read
      → IfSome a (λ text. TakesAtMost a s (byte_count (take lines (lines_of text)) + lookahead))
  taken_of None s lines at same = tt
  taken_of (Some text) None lines at same = absurd at.progress
  taken_of (Some text) (Some left) lines at same =
      let beginning = at.progress.bytes in
      subst (λ k. TakesAtMost (Some text) (Some left) (byte_count (take k (lines_of text)) + lookahead)) (sym same) (
        beginning.0 ++ b,
        beginning.1 ∙ sym (append_assoc beginning.0 b left),
        omega
            (arith, length-append beginning.0 b, beginning.2, at.few),
      )

  -- how much was taken at most
  pub bounded_of : (a s : Option (List ℕ)) → StandsAt a s b form read pairs worlds → read ≤ 100000 → TakesAtMost a s most_of_script
  bounded_of None s at limit = ([], tt, omega arith)
  bounded_of (Some text) None at limit = absurd at.progress
  bounded_of (Some text) (Some left) at limit =
      let beginning = at.progress.bytes in (
        beginning.0 ++ b,
        beginning.1 ∙ sym (append_assoc beginning.0 b left),
        omega
            (arith, length-append beginning.0 b, beginning.2, at.progress.short, at.few),
      )

  pub bounded_for : (a s : Option (List ℕ)) → StandsAt a s b form read pairs worlds → read ≤ 100000
      → IfSome a (λ _. TakesAtMost a s most_of_script)
  bounded_for None s at limit = tt
  bounded_for (Some text) s at limit = bounded_of (Some text) s at limit

-- How a play goes on with its next event, and how it breaks off there: for `play_pair`, clauses `written` and `broken`.
use Rattle.std.proofs.Common.{◌≡◌, ℕ, List, [], ◌∷◌, ◌++◌, Option, Some, None, refl, sym, ap, ◌∙◌, subst, inl, inr, ◌+◌, ◌<◌, ◌≤◌, length}
use Rattle.std.proofs.Common.{take, drop, get_or, append-nil, append_assoc, add-one, drop-cons, Result, Ok, Err}
use Rattle.std.proofs.KnownBytes.{Appends-trans, Appends-nil}
use Rattle.std.proofs.lemmas.List.{drop_all}
use Rattle.std.specs.Io.KnownBytes.{Appends, Keeps}
use Rattle.ba_pair.specs.PairPlay.{Numbered, Effect, Play, happens, play, play_by}
use Rattle.ba_pair.specs.PairState.{PairState}
use Rattle.ba_pair.specs.declared.lines.Line.{Line}
use Rattle.ba_ports.proofs.Due.{writes_on, part_before, keeps_appends}
use Rattle.ba_ports.specs.Outputs.{WritesPart}
use Rattle.ba_script.specs.Printer.{numbered_line, shown_lines}
use Rattle.ba_cmd_replay.specs.Replay.{WritesFirstLines}
use Rattle.ba_cmd_replay.specs.declared.plays.PlayFault.{PlayFault}
use Rattle.ba_cmd_replay.specs.declared.plays.PlayFault.TheVariants as played
use Rattle.ba_cmd_replay.specs.inside.Plays.{BreaksOff, BreaksOffAt, GoesOutOrStays, effect_text}

-- what was played isn't the fault of a write
pub no_write_fault : {T : Type 0} (x : T) → ◌≡◌ {A = Result T PlayFault} (Ok x) (Err played.Write) → ⊥
no_write_fault x is = cc

-- known bytes that nothing touched
pub keeps_same : (w : Option (List ℕ)) → Keeps w w
keeps_same None = tt
keeps_same (Some xs) = refl

-- a text that isn't written yet is held, and one that was written is let go
pub stays : (w : Option (List ℕ)) (text : List ℕ) → GoesOutOrStays w text w text
stays w text = inl (keeps_same w, refl)

pub goes_out : (before now : Option (List ℕ)) (text : List ℕ) → Appends before now text → GoesOutOrStays before text now []
goes_out before now text written = inr (written, refl)

-- a part was written of a text that ends with the line of an event
pub part_with_line : (effect : Option Effect) (next : PairState) (line : Line) (number : ℕ) (text longer : List ℕ)
    → (before now : Option (List ℕ)) → effect ≡ Some (next, line) → longer ≡ text ++ numbered_line number line
    → WritesPart before now longer
    → WritesPart before now (text ++ effect_text number effect)
part_with_line effect next line number text longer before now happened is part =
    subst (WritesPart before now) (is ∙ ap (λ o. text ++ effect_text number o) (sym happened)) part

-- what is written of a play so far: these of its lines are out, these are held as a text, and the play's rest comes yet
pub record SoFar (whole : Play) (before now : Option (List ℕ)) (text : List ℕ) (rest : Play) : Type 0 where
  pub out : List (ℕ × Line)
  pub held : List (ℕ × Line)
  pub lines : whole.lines ≡ (out ++ held) ++ rest.lines
  pub written : Appends before now (shown_lines out)
  pub holds : text ≡ shown_lines held
  pub stops : whole.stopped_at ≡ rest.stopped_at

-- nothing is written and nothing is held
pub none_so_far : (whole rest : Play) (w : Option (List ℕ)) (text : List ℕ) → text ≡ [] → whole ≡ rest → SoFar whole w w text rest
none_so_far whole rest w text none same = record {
  out = [];
  held = [];
  lines = ap (λ p. p.lines) same;
  written = Appends-nil w;
  holds = none;
  stops = ap (λ p. p.stopped_at) same;
}

shown-append : (xs ys : List (ℕ × Line)) → shown_lines (xs ++ ys) ≡ shown_lines xs ++ shown_lines ys
shown-append [] ys = refl
shown-append (x ∷ xs) ys =
    ap (λ t. numbered_line x.0 x.1 ++ t) (shown-append xs ys) ∙ sym (append_assoc (numbered_line x.0 x.1) (shown_lines xs) (shown_lines ys))

-- a line more
shown-push : (xs : List (ℕ × Line)) (number : ℕ) (line : Line)
    → shown_lines (xs ++ (number, line) ∷ []) ≡ shown_lines xs ++ numbered_line number line
shown-push xs number line = shown-append xs ((number, line) ∷ []) ∙ ap (λ t. shown_lines xs ++ t) (append-nil (numbered_line number line))

-- the first of two lists of lines is the first so many
take-length : (xs ys : List (ℕ × Line)) → take (length xs) (xs ++ ys) ≡ xs
take-length [] ys = refl
take-length (x ∷ xs) ys = ap (λ t. x ∷ t) (take-length xs ys)

-- a written text is out after the lines before it, and one that is kept changes nothing
out_then : (before now new : Option (List ℕ)) (out more : List (ℕ × Line)) (text : List ℕ) → Appends before now (shown_lines out)
    → text ≡ shown_lines more
    → Appends now new text → Appends before new (shown_lines (out ++ more))
out_then before now new out more text written is appended =
    subst (Appends before new) (ap (λ t. shown_lines out ++ t) is ∙ sym (shown-append out more))
    (Appends-trans before now new (shown_lines out) text written appended)

kept_then : (before now new : Option (List ℕ)) (bytes : List ℕ) → Appends before now bytes → Keeps now new → Appends before new bytes
kept_then before now new bytes written kept =
    subst (Appends before new) (append-nil bytes) (Appends-trans before now new bytes [] written (keeps_appends now new kept))

-- an event was played
pub plays_on : (whole : Play) (w next : PairState) (e : Numbered) (rest : PairState → Play) (effect : Option Effect) (line : Line)
    → (text held : List ℕ) (before now new : Option (List ℕ))
    → SoFar whole before now text (play_by w e effect rest)
    → effect ≡ Some (next, line)
    → GoesOutOrStays now (text ++ numbered_line e.0 line) new held
    → SoFar whole before new held (rest next)
plays_on whole w next e rest effect line text held before now new so_far happened goes =
    let lines : whole.lines ≡ (so_far.out ++ so_far.held) ++ (e.0, line) ∷ (rest next).lines = rw happened at so_far.lines in
    let stops : whole.stopped_at ≡ (rest next).stopped_at = rw happened at so_far.stops in
    let more : List (ℕ × Line) = so_far.held ++ (e.0, line) ∷ [] in
    let regrouped : whole.lines ≡ (so_far.out ++ more) ++ (rest next).lines =
    lines ∙ sym (append_assoc (so_far.out ++ so_far.held) ((e.0, line) ∷ []) (rest next).lines)
    ∙ ap (λ t. t ++ (rest next).lines) (append_assoc so_far.out so_far.held ((e.0, line) ∷ [])) in
    let text_is : text ++ numbered_line e.0 line ≡ shown_lines more =
    ap (λ t. t ++ numbered_line e.0 line) so_far.holds ∙ sym (shown-push so_far.held e.0 line) in
    elim goes [
      | inl stays ↦ record {
        out = so_far.out;
        held = more;
        lines = regrouped;
        written = kept_then before now new (shown_lines so_far.out) so_far.written stays.0;
        holds = stays.1 ∙ text_is;
        stops = stops;
      }
      | inr goes_out ↦ record {
        out = so_far.out ++ more;
        held = [];
        lines = regrouped ∙ ap (λ t. t ++ (rest next).lines) (sym (append-nil (so_far.out ++ more)));
        written = out_then before now new so_far.out more (text ++ numbered_line e.0 line) so_far.written text_is goes_out.0;
        holds = goes_out.1;
        stops = stops;
      }
    ]

-- a play of an event and others, by the event's effect
rest_shown : (w : PairState) (e : Numbered) (rest : PairState → Play) (effect : Option Effect)
    → (more : List ℕ) × (shown_lines (play_by w e effect rest).lines ≡ effect_text e.0 effect ++ more)
rest_shown w e rest None = ([], refl)
rest_shown w e rest (Some o) = (shown_lines (rest o.0).lines, refl)

-- the text of a play's lines, by what is out and held of it
all_shown : (whole rest : Play) (out held : List (ℕ × Line)) → whole.lines ≡ (out ++ held) ++ rest.lines
    → shown_lines whole.lines ≡ shown_lines out ++ (shown_lines held ++ shown_lines rest.lines)
all_shown whole rest out held lines =
    ap shown_lines lines ∙ shown-append (out ++ held) rest.lines ∙ ap (λ t. t ++ shown_lines rest.lines) (shown-append out held)
    ∙ append_assoc (shown_lines out) (shown_lines held) (shown_lines rest.lines)

-- a part was written of the text that is held and of what comes after it
part_of_held : (whole rest : Play) (text more : List ℕ) (before now new : Option (List ℕ)) → SoFar whole before now text rest
    → WritesPart now new (text ++ more) → (left : List ℕ) × (shown_lines rest.lines ≡ more ++ left)
    → WritesPart before new (shown_lines whole.lines)
part_of_held whole rest text more before now new so_far part (left, rest_is) =
    let due = shown_lines whole.lines in
    let held_is : (text ++ more) ++ left ≡ shown_lines so_far.held ++ shown_lines rest.lines =
    append_assoc text more left ∙ ap (λ t. t ++ (more ++ left)) so_far.holds ∙ ap (λ t. shown_lines so_far.held ++ t) (sym rest_is) in
    let due_is : due ≡ shown_lines so_far.out ++ ((text ++ more) ++ left) =
    all_shown whole rest so_far.out so_far.held so_far.lines ∙ ap (λ t. shown_lines so_far.out ++ t) (sym held_is) in
    let whole_part : WritesPart now new ((text ++ more) ++ left) = part_before now new (text ++ more) left part in (
      whole_part.0,
      writes_on before now new due ((text ++ more) ++ left) whole_part.0
          (shown_lines so_far.out, so_far.written, due_is) whole_part.1,
    )

-- whole lines alone are out where nothing more is written
lines_out : (whole rest : Play) (text : List ℕ) (before now new : Option (List ℕ)) → SoFar whole before now text rest → Keeps now new
    → WritesFirstLines whole.lines before new
lines_out whole rest text before now new so_far kept =
    let first : take (length so_far.out) whole.lines ≡ so_far.out =
    ap (take (length so_far.out)) (so_far.lines ∙ append_assoc so_far.out so_far.held rest.lines)
    ∙ take-length so_far.out (so_far.held ++ rest.lines) in (
      length so_far.out,
      subst (λ t. Appends before new (shown_lines t)) (sym first)
          (kept_then before now new (shown_lines so_far.out) so_far.written kept),
    )

-- all lines are out once the held ones are, where none comes yet
all_out : (whole rest : Play) (text : List ℕ) (before now new : Option (List ℕ)) → SoFar whole before now text rest → rest.lines ≡ []
    → Appends now new text → Appends before new (shown_lines whole.lines)
all_out whole rest text before now new so_far none written =
    subst (λ t. Appends before new (shown_lines t))
    (sym (so_far.lines ∙ ap (λ t. (so_far.out ++ so_far.held) ++ t) none ∙ append-nil (so_far.out ++ so_far.held)))
    (out_then before now new so_far.out so_far.held text so_far.written so_far.holds written)

-- an event couldn't be played, or its line couldn't be written or held
pub breaks_off : (whole : Play) (w : PairState) (e : Numbered) (rest : PairState → Play) (effect : Option Effect) (text : List ℕ)
    → (before now new : Option (List ℕ)) (fault : PlayFault)
    → SoFar whole before now text (play_by w e effect rest)
    → BreaksOffAt e.0 effect text now new fault
    → BreaksOff whole before new fault
breaks_off whole w e rest effect text before now new (played.NoSuchMessage at) so_far broken =
    let stops : whole.stopped_at ≡ Some e.0 = rw broken.0 at so_far.stops in
    let none : (play_by w e effect rest).lines ≡ [] = ap (λ o. (play_by w e o rest).lines) broken.0 in
    (stops ∙ ap Some (sym broken.1), all_out whole (play_by w e effect rest) text before now new so_far none broken.2)
breaks_off whole w e rest effect text before now new (played.NoSuchName at) so_far broken = absurd broken
breaks_off whole w e rest effect text before now new played.Write so_far broken =
    part_of_held whole (play_by w e effect rest) text (effect_text e.0 effect) before now new so_far broken (rest_shown w e rest effect)
breaks_off whole w e rest effect text before now new played.Memory so_far broken =
    lines_out whole (play_by w e effect rest) text before now new so_far broken

-- the last text was written, or a part of it
pub ends_whole : (whole : Play) (w : PairState) (text : List ℕ) (before now new : Option (List ℕ)) → SoFar whole before now text (play w [])
    → Appends now new text → Appends before new (shown_lines whole.lines)
ends_whole whole w text before now new so_far written = all_out whole (play w []) text before now new so_far refl written

pub breaks_at_end : (whole : Play) (w : PairState) (text : List ℕ) (before now new : Option (List ℕ))
    → SoFar whole before now text (play w [])
    → WritesPart now new text → WritesPart before new (shown_lines whole.lines)
breaks_at_end whole w text before now new so_far part =
    part_of_held whole (play w []) text [] before now new so_far (subst (WritesPart now new) (sym (append-nil text)) part) ([], refl)

-- a play from the event at a place on
pub play_at : (w : PairState) (events : List Numbered) (place : ℕ) (d : Numbered) → place < length events
    → play w (drop place events)
    ≡ play_by w (get_or events place d) (happens w (get_or events place d).1) (λ next. play next (drop (place + 1) events))
play_at w events place d h = rw (add-one, drop-cons events place d) refl

-- after the last event nothing is left
pub play_past : (w : PairState) (events : List Numbered) (place : ℕ) → length events ≤ place → play w (drop place events) ≡ play w []
play_past w events place h = rw (drop_all place events h) refl

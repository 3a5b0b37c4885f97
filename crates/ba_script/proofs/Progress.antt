-- How far a script was read, by its lines.
use Rattle.std.proofs.Common.{◌≡◌, ℕ, ◌+◌, ◌*◌, ◌<◌, ◌≤◌, true, false, nat_eq, Option, None, Some, if◌then◌else◌, List, [], ◌∷◌, ◌++◌}
use Rattle.std.proofs.Common.{length, take, drop, refl, sym, ap, ◌∙◌, subst, inl, inr, append_assoc, append-nil, take-append-drop, take-add}
use Rattle.std.proofs.Common.{drop-drop, take_all, arith, length-append, length-drop}
use Rattle.ba_core.specs.declared.protocols.Protocol.TheVariants.{Pc}
use Rattle.ba_world_events.specs.Events.{NumberedEvent}
use Rattle.ba_script_forms.specs.Readings.{IsLine, bad_column}
use Rattle.ba_script_forms.specs.declared.readings.Form.{Form}
use Rattle.ba_script_forms.specs.declared.readings.Form.TheVariants as form
use Rattle.ba_script_forms.specs.declared.readings.Reading.{Reading}
use Rattle.ba_script_forms.specs.declared.readings.Reading.TheVariants as reading
use Rattle.ba_pair.specs.PairPlay.{Numbered}
use Rattle.ba_ports.specs.Lines.{onto_first, lines_of, byte_count}
use Rattle.ba_script.specs.Scripts.{empty_script, form_after, onto_script, MeansScript, IsFirstBadLine, IsScript, IsBadScript}
use Rattle.ba_script.specs.Scripts.{IsLongScript}
use Rattle.ba_script.specs.declared.scripts.Script.{Script}
use Rattle.ba_script.specs.declared.scripts.Script.TheVariants.{Pair, World}
use Rattle.ba_script.specs.inside.Events.{pair_event_of, world_event_of, with_events, script_of}
use Rattle.ba_script.specs.inside.Lines.{LosesLine}

-- so many lines of the text were read, with these events, and this rest of it comes yet
pub record Progress (text : List ℕ) (form : Option Form) (read : ℕ) (rest : List ℕ) (pairs : List Numbered)
    (worlds : List NumberedEvent) : Type 0 where
  pub bytes : (beginning : List ℕ) × (text ≡ beginning ++ rest) × (length beginning ≤ byte_count (take read (lines_of text)))
  pub short : byte_count (take read (lines_of text)) ≤ 257 * read
  pub left : drop read (lines_of text) ≡ lines_of rest
  pub so_far : (lines : List (List ℕ)) (later : Script) → MeansScript form (read + 1) lines later
      → MeansScript None 1 (take read (lines_of text) ++ lines) (with_events pairs worlds later)
  pub none_bad : (lines : List (List ℕ)) (bad column : ℕ) → IsFirstBadLine form (read + 1) lines bad column
      → IsFirstBadLine None 1 (take read (lines_of text) ++ lines) bad column

-- nothing before a script is the script
with_none : (s : Script) → s ≡ with_events [] [] s
with_none (Pair p later) = refl
with_none (World n later) = refl

pub begun : (text : List ℕ) → Progress text None 0 text [] []
begun text = record {
  bytes = ([], refl, omega arith);
  short = omega arith;
  left = refl;
  so_far = λ lines later means. subst (MeansScript None 1 lines) (with_none later) means;
  none_bad = λ lines bad column stops. stops;
}

bytes_of_more : (lines : List (List ℕ)) (line : List ℕ) → byte_count (lines ++ line ∷ []) ≡ byte_count lines + (length line + 1)
bytes_of_more [] line = omega arith
bytes_of_more (l ∷ lines) line = omega (arith, bytes_of_more lines line)

take_next : (all : List (List ℕ)) (n : ℕ) (line : List ℕ) (later : List (List ℕ)) → drop n all ≡ line ∷ later
    → take (n + 1) all ≡ take n all ++ line ∷ []
take_next all n line later is = take-add n 1 all ∙ ap (λ t. take n all ++ take 1 t) is

drop_next : (all : List (List ℕ)) (n : ℕ) (line : List ℕ) (later : List (List ℕ)) → drop n all ≡ line ∷ later → drop (n + 1) all ≡ later
drop_next all n line later is = sym (drop-drop 1 n all) ∙ ap (drop 1) is

-- the event of a line more
with_more : (said : Reading) (number : ℕ) (pairs : List Numbered) (worlds : List NumberedEvent) (later : Script)
    → with_events pairs worlds (onto_script said number later)
    ≡ with_events (pairs ++ pair_event_of said number) (worlds ++ world_event_of said number) later
with_more reading.Nothing number pairs worlds (Pair p later) = ap (λ t. Pair p (t ++ later)) (sym (append-nil pairs))
with_more reading.Nothing number pairs worlds (World n later) = ap (λ t. World n (t ++ later)) (sym (append-nil worlds))
with_more (reading.Opening f) number pairs worlds (Pair p later) = ap (λ t. Pair p (t ++ later)) (sym (append-nil pairs))
with_more (reading.Opening f) number pairs worlds (World n later) = ap (λ t. World n (t ++ later)) (sym (append-nil worlds))
with_more (reading.Pair e) number pairs worlds (Pair p later) = ap (Pair p) (sym (append_assoc pairs ((number, e) ∷ []) later))
with_more (reading.Pair e) number pairs worlds (World n later) = ap (λ t. World n (t ++ later)) (sym (append-nil worlds))
with_more (reading.World e) number pairs worlds (Pair p later) = ap (λ t. Pair p (t ++ later)) (sym (append-nil pairs))
with_more (reading.World e) number pairs worlds (World n later) = ap (World n) (sym (append_assoc worlds ((number, e) ∷ []) later))

-- the events of a script that ends here
with_all : (chosen : Option Form) (pairs : List Numbered) (worlds : List NumberedEvent)
    → with_events pairs worlds (empty_script chosen) ≡ script_of chosen pairs worlds
with_all None pairs worlds = ap (Pair Pc) (append-nil pairs)
with_all (Some (form.Pair p)) pairs worlds = ap (Pair p) (append-nil pairs)
with_all (Some (form.World n)) pairs worlds = ap (World n) (append-nil worlds)

onto_some : (byte : ℕ) (lines : List (List ℕ)) → 0 < length (onto_first byte lines)
onto_some byte [] = omega arith
onto_some byte (line ∷ lines) = omega arith

some_line : (text : List ℕ) → 0 < length text → 0 < length (lines_of text)
some_line [] any = absurd (omega arith)
some_line (byte ∷ bytes) any =
    elim (nat_eq byte 10) as (λ t. 0 < length (if t then [] ∷ lines_of bytes else onto_first byte (lines_of bytes))) [
      | true ↦ omega arith
      | false ↦ onto_some byte (lines_of bytes)
    ]

module _ (text : List ℕ) (chosen : Option Form) (read : ℕ) (rest : List ℕ) (pairs : List Numbered) (worlds : List NumberedEvent)
    (p : Progress text chosen read rest pairs worlds) where
  -- a line more
  pub advance : (line later : List ℕ) (said : Reading) → LosesLine rest line later → IsLine chosen said line
      → Progress text (form_after chosen said) (read + 1) later (pairs ++ pair_event_of said (read + 1))
      (worlds ++ world_event_of said (read + 1))
  advance line later said loses is =
      let all = lines_of text in
      let next : drop read all ≡ line ∷ lines_of later = p.left ∙ loses.lines in
      let more : take (read + 1) all ≡ take read all ++ line ∷ [] = take_next all read line (lines_of later) next in
      let count : byte_count (take (read + 1) all) ≡ byte_count (take read all) + (length line + 1) =
      ap byte_count more ∙ bytes_of_more (take read all) line in
      let regroup = λ (lines : List (List ℕ)). sym (append_assoc (take read all) (line ∷ []) lines) ∙ ap (λ t. t ++ lines) (sym more) in
      record {
        bytes = (
          p.bytes.0 ++ loses.bytes.0,
          p.bytes.1 ∙ ap (λ t. p.bytes.0 ++ t) loses.bytes.1 ∙ sym (append_assoc p.bytes.0 loses.bytes.0 later),
          omega (arith, length-append p.bytes.0 loses.bytes.0, count, p.bytes.2, loses.bytes.2),
        );
        short = omega (arith, count, p.short, is.short);
        left = drop_next all read line (lines_of later) next;
        so_far = λ lines others means.
            let whole : MeansScript None 1 (take read all ++ line ∷ lines) (with_events pairs worlds (onto_script said (read + 1) others)) =
            p.so_far (line ∷ lines) (onto_script said (read + 1) others) (said, others, is, refl, means) in
            subst
            (λ t. MeansScript None 1 t
            (with_events (pairs ++ pair_event_of said (read + 1)) (worlds ++ world_event_of said (read + 1)) others))
            (regroup lines)
            (subst (MeansScript None 1 (take read all ++ line ∷ lines)) (with_more said (read + 1) pairs worlds others) whole);
        none_bad =
            λ lines bad column stops.
            subst (λ t. IsFirstBadLine None 1 t bad column) (regroup lines) (p.none_bad (line ∷ lines) bad column (inr (said, is, stops)));
      }

  -- the lines so far mean the events so far
  means_all : MeansScript None 1 (take read (lines_of text) ++ []) (script_of chosen pairs worlds)
  means_all =
      subst (MeansScript None 1 (take read (lines_of text) ++ [])) (with_all chosen pairs worlds) (p.so_far [] (empty_script chosen) refl)

  -- the end of the text
  pub finished : rest ≡ [] → read ≤ 100000 → IsScript text (script_of chosen pairs worlds)
  finished none few =
      let all = lines_of text in
      let nothing : drop read all ≡ [] = p.left ∙ ap lines_of none in
      let fits : length all ≤ read = omega (arith, length-drop read all, ap length nothing) in
      let lines_are : take read all ++ [] ≡ all = append-nil (take read all) ∙ take_all read all fits in
      record {
        few = omega arith;
        means = subst (λ t. MeansScript None 1 t (script_of chosen pairs worlds)) lines_are means_all;
      }

  -- a bad line
  pub stopped : (line : List ℕ) (later : List (List ℕ)) (column : ℕ) → lines_of rest ≡ line ∷ later → bad_column chosen line ≡ Some column
      → read < 100000
      → IsBadScript text (read + 1) column
  stopped line later column is bad early =
      let all = lines_of text in
      let lines_are : take read all ++ (line ∷ later) ≡ all =
      ap (λ t. take read all ++ t) (sym (p.left ∙ is)) ∙ take-append-drop read all in
      record {
        early = omega arith;
        stops =
            subst (λ t. IsFirstBadLine None 1 t (read + 1) column) lines_are
            (p.none_bad (line ∷ later) (read + 1) column (inl (bad, refl)));
      }

  -- a line past the limit
  pub too_many : read ≡ 100000 → 0 < length rest → IsLongScript text
  too_many all_read any =
      let all = lines_of text in
      let over : 100000 < length all = omega (arith, length-drop read all, ap length p.left, some_line rest any) in
      record {
        long = over;
        means = (
          script_of chosen pairs worlds,
          subst (λ n. MeansScript None 1 (take n all) (script_of chosen pairs worlds)) all_read
              (subst (λ t. MeansScript None 1 t (script_of chosen pairs worlds)) (append-nil (take read all)) means_all),
        );
      }

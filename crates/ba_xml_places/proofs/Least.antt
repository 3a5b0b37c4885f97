-- No cause comes before the place of the answer, nor at it with a lower number.
use Rattle.std.proofs.Common.{◌≡◌, ℕ, ◌+◌, ◌<◌, ◌≤◌, Bool, true, false, cond, ◌&&◌, ◌==◌, nat_lt, ◌⊎◌, inl, inr, List, [], ◌∷◌, ◌++◌}
use Rattle.std.proofs.Common.{length, take, drop, get_or, refl, sym, ap, subst, ◌∙◌, append_assoc, append-nil, arith, true≢false, Err}
use Rattle.std.proofs.lemmas.Bool.{eqb-true}
use Rattle.std.proofs.lemmas.List.{take_more, take-append-drop, length-take-le}
use Rattle.std.specs.Prelude.{Contains}
use Rattle.ba_xml_places.proofs.Alive.{IsOfTags, kept_of, no_octets, refused_by}
use Rattle.ba_xml_places.proofs.Exact.{IsWhy, IsStop, why, reached_before, stop}
use Rattle.ba_xml_places.proofs.Standings.{IsCauseAt, IsBehind}
use Rattle.ba_xml_places.proofs.Stops.{stops, over, stops_by_then, stop_short, first_refused}
use Rattle.ba_xml_places.proofs.Stops as found
use Rattle.ba_xml_places.proofs.Utf8.{IsOfOctets, of_octets}
use Rattle.ba_xml_places.proofs.Viable.{IsGoing, going}
use Rattle.ba_xml_reader.proofs.Complete.{legal_octets}
use Rattle.ba_xml_reader.proofs.CompleteCharacters.{octets, octets_append}
use Rattle.ba_xml_reader.proofs.CompleteLayers.{run_none, run_one, scanned}
use Rattle.ba_xml_reader.proofs.CompleteSteps.{steps}
use Rattle.ba_xml_reader.proofs.Runs.{run_append, run_refused}
use Rattle.ba_xml_reader.proofs.SoundBack.{back}
use Rattle.ba_xml_reader.proofs.SoundDocuments.{top}
use Rattle.ba_xml_grammar.specs.Grammar.{Document, written_document, IsDocument}
use Rattle.ba_xml_grammar.specs.GrammarTexts.{lines, IsOfCharacters, IsWrittenAs}
use Rattle.ba_xml_grammar.specs.Places.{Standing, document_standings, EndsLine, number_of}
use Rattle.ba_xml_reader.specs.inside.Machine.{start, run, state_after, line_end, unless_returned, turned, turned_by, turned_from, counted}
use Rattle.ba_xml_reader.specs.inside.Machine.{reason_at, reason_past, xml_answer}
use Rattle.ba_xml_words.specs.inside.Octets.{octet_after}
use Rattle.ba_xml_words.specs.declared.faults.Reason.{Reason}
use Rattle.ba_xml_words.specs.declared.faults.Reason.TheVariants as reason
use Rattle.ba_xml_words.specs.declared.faults.XmlFault.TheVariants as fault
use Rattle.ba_xml_words.specs.declared.octets.Decoding.{Decoding}
use Rattle.ba_xml_words.specs.declared.octets.Decoding.TheVariants as decoding
use Rattle.ba_xml_words.specs.declared.octets.Octet.{Octet}
use Rattle.ba_xml_words.specs.declared.octets.Octet.TheVariants.{Between}
use Rattle.ba_xml_reader.specs.declared.machine.Scan.{Scan}
use Rattle.ba_xml_reader.specs.declared.states.Mode.TheVariants as mode
use Rattle.ba_xml_reader.specs.declared.states.State.{State}
use Rattle.ba_xml_reader.specs.declared.states.State.TheVariants as state
use Rattle.ba_xml_reader.specs.inside.Readings.{Reading, Refused, Going}

-- ---- line ends behind bytes that are read

refused_going : (r : Reason) (m n : ℕ) (scan : Scan) → Refused r m ≡ Going scan n → ⊥
refused_going r m n scan e = cc

scan_in : Reading → Scan
scan_in (Refused r n) = start
scan_in (Going scan n) = scan

same_scan : (x y : Scan) (m n : ℕ) → Going x m ≡ Going y n → x ≡ y
unfolding scan_in
same_scan x y m n e = ap scan_in e

feed : (x y : Bool) → (x && y) ≡ true → y ≡ true
feed true y e = e
feed false y e = absurd (true≢false (sym e))

-- the line ends of the others behind one byte
line_more : (returned : Bool) (b : ℕ) (bs more ys : List ℕ) → lines (b == 13) (bs ++ more) ≡ lines (b == 13) bs ++ ys
    → lines returned (b ∷ (bs ++ more)) ≡ lines returned (b ∷ bs) ++ ys
line_more returned b bs more ys e = by (returned && b == 10) (b == 13) refl refl e
  where
    no_return : (returned && b == 10) ≡ true → (b == 13) ≡ false
    no_return e = ap (λ x. x == 13) (eqb-true b 10 (feed returned (b == 10) e))

    by : (x y : Bool) → (returned && b == 10) ≡ x → (b == 13) ≡ y → lines y (bs ++ more) ≡ lines y bs ++ ys
        → cond x (lines false (bs ++ more)) (cond y (10 ∷ lines true (bs ++ more)) (b ∷ lines false (bs ++ more)))
        ≡ cond x (lines false bs) (cond y (10 ∷ lines true bs) (b ∷ lines false bs)) ++ ys
    by true true e f h = absurd (true≢false (sym f ∙ no_return e))
    by true false e f h = h
    by false true e f h = ap (λ x. 10 ∷ x) h
    by false false e f h = ap (λ x. b ∷ x) h

abbrev LinesOn : List ℕ → Type 0
LinesOn bs = (scan : Scan) (taken : ℕ) (last : Scan) (n : ℕ) (more : List ℕ) → run (Going scan taken) bs ≡ Going last n
    → lines scan.returned (bs ++ more) ≡ lines scan.returned bs ++ lines last.returned more

on_state : (b : ℕ) (bs : List ℕ) → LinesOn bs → (s : State) (o : Octet) (taken : ℕ) (last : Scan) (n : ℕ) (more : List ℕ)
    → run (counted taken (turned_by s o b)) bs ≡ Going last n
    → lines (b == 13) (bs ++ more) ≡ lines (b == 13) bs ++ lines last.returned more
on_state b bs ih (state.Refused x) o taken last n more e =
    absurd (refused_going (reason_at taken x) taken n last (sym (run_refused (reason_at taken x) taken bs) ∙ e))
on_state b bs ih (state.At outer here m) o taken last n more e = by (nat_lt taken 262144) e
  where
    by : (q : Bool)
        → run (cond q (Going (scanned (state.At outer here m) o (b == 13)) (taken + 1)) (Refused reason.Size taken)) bs ≡ Going last n
        → lines (b == 13) (bs ++ more) ≡ lines (b == 13) bs ++ lines last.returned more
    by true f = ih (scanned (state.At outer here m) o (b == 13)) (taken + 1) last n more f
    by false f = absurd (refused_going reason.Size taken n last (sym (run_refused reason.Size taken bs) ∙ f))

lines_on : (bs : List ℕ) → LinesOn bs
lines_on [] = λ scan taken last n more e.
    ap (λ s. lines s.returned more) (same_scan scan last taken n (sym (run_none (Going scan taken)) ∙ e))
lines_on (b ∷ bs) = λ scan taken last n more e.
    line_more scan.returned b bs more (lines last.returned more)
    (by (lines_on bs) scan taken last n more (octet_after scan.octet b) (sym (run_one scan taken b bs) ∙ e))
  where
    by : LinesOn bs → (scan : Scan) (taken : ℕ) (last : Scan) (n : ℕ) (more : List ℕ) (d : Decoding)
        → run (counted taken (turned_from scan b d)) bs ≡ Going last n
        → lines (b == 13) (bs ++ more) ≡ lines (b == 13) bs ++ lines last.returned more
    by ih scan taken last n more (decoding.Broken x) f =
        absurd (refused_going (reason_at taken x) taken n last (sym (run_refused (reason_at taken x) taken bs) ∙ f))
    by ih scan taken last n more (decoding.At o) f = on_state b bs ih (unless_returned scan.state scan.returned b) o taken last n more f

same_behind : (xs ys zs : List ℕ) → xs ++ ys ≡ xs ++ zs → ys ≡ zs
same_behind [] ys zs e = e
same_behind (x ∷ xs) ys zs e = same_behind xs ys zs (tails (xs ++ ys) (xs ++ zs) e)
  where
    tails : (ps qs : List ℕ) → x ∷ ps ≡ x ∷ qs → ps ≡ qs
    tails ps qs e = cc

same_head : (x y : ℕ) (xs ys : List ℕ) → x ∷ xs ≡ y ∷ ys → x ≡ y
same_head x y xs ys e = cc

-- a byte that isn't passed over is the first of the line ends' bytes
first_line : (returned : Bool) (b : ℕ) (more : List ℕ) → (returned && b == 10) ≡ false
    → lines returned (b ∷ more) ≡ line_end b ∷ lines (b == 13) more
first_line returned b more e =
    ap (λ x. cond x (lines false more) (cond (b == 13) (10 ∷ lines true more) (b ∷ lines false more))) e ∙ by (b == 13)
  where
    by : (q : Bool) → cond q (10 ∷ lines true more) (b ∷ lines false more) ≡ cond q 10 b ∷ lines q more
    by true = refl
    by false = refl

-- one that is adds nothing
no_line : (returned : Bool) (b : ℕ) → (returned && b == 10) ≡ true → lines returned (b ∷ []) ≡ []
no_line returned b e = ap (λ x. cond x [] (cond (b == 13) (10 ∷ []) (b ∷ []))) e

-- ---- the reason that is told

-- it is told with no higher number
pub told_number : (n : ℕ) (q : Reason) → number_of (reason_at n q) ≤ number_of q
told_number n q = by (nat_lt n 262144)
  where
    past : (q : Reason) → number_of (reason_past q) ≤ number_of q
    past reason.NotUtf8 = omega arith
    past reason.Syntax = omega arith
    past reason.Truncated = omega arith
    past reason.Namespace = omega arith
    past reason.Depth = omega arith
    past reason.Size = omega arith
    past reason.Attributes = omega arith

    by : (x : Bool) → number_of (cond x q (reason_past q)) ≤ number_of q
    by true = omega arith
    by false = past q

-- ---- causes in start tags

-- this place and reason come before those, or are no later and no higher
abbrev pub NoLater : Reason → ℕ → Reason → ℕ → Type 0
NoLater r n q m = (n < m) ⊎ ((n ≡ m) × (number_of r ≤ number_of q))

broken_stays : (r : Reason) (bs : List ℕ) → octets (decoding.Broken r) bs ≡ decoding.Broken r
broken_stays r [] = refl
broken_stays r (b ∷ bs) = refl

module _ (bytes : List ℕ) where
  -- the bytes are refused there at the latest
  abbrev pub IsRefusedBy : Reason → ℕ → Type 0
  IsRefusedBy q m = (r : Reason) × (n : ℕ) × (run (Going start 0) bytes ≡ Refused r n) × NoLater r n q m

  pub run_on : (k : ℕ) (r : Reason) (n : ℕ) → run (Going start 0) (take k bytes) ≡ Refused r n → run (Going start 0) bytes ≡ Refused r n
  run_on k r n e = ap (λ x. run (Going start 0) x) (sym (take-append-drop k bytes))
      ∙ run_append (Going start 0) (take k bytes) (drop k bytes)
      ∙ ap (λ x. run x (drop k bytes)) e ∙ run_refused r n (drop k bytes)

  module _ (m : ℕ) (inside : m < length bytes) where
    abbrev byte : ℕ
    byte = get_or bytes m 0

    no_more : m ≤ length bytes
    no_more = omega (arith, inside)

    one_more : take (m + 1) bytes ≡ take m bytes ++ byte ∷ []
    one_more = take_more bytes m 0 inside

    -- a refusal before the place
    pub refused_before : (q : Reason) (r : Reason) (n : ℕ) → run (Going start 0) (take m bytes) ≡ Refused r n → IsRefusedBy q m
    refused_before q r n e =
        (r, n, run_on m r n e, inl (less (length (take m bytes)) (stop (take m bytes) r n e).0 (length-take-le m bytes no_more)))
      where
        less : (x : ℕ) → n < x → x ≡ m → n < m
        less x l e = omega (arith, l, e)

    module _ (last : Scan) (n : ℕ) (runs : run (Going start 0) (take m bytes) ≡ Going last n) where
      counted_all : n ≡ m
      counted_all = by (length (take m bytes)) (back (take m bytes) (top mode.Begin) Between false 0 last n (omega arith) runs).2
          (length-take-le m bytes no_more)
        where
          by : (x : ℕ) → 0 + x ≡ n → x ≡ m → n ≡ m
          by x e f = omega (arith, e, f)

      leads : steps (top mode.Begin) (lines false (take m bytes)) ≡ last.state
      leads = (back (take m bytes) (top mode.Begin) Between false 0 last n (omega arith) runs).1

      is_going : IsGoing last.state
      is_going = going (take m bytes) start 0 last n tt runs

      -- what the byte does, where the state refuses it
      refuses : (q : Reason) (p : Octet) → octet_after last.octet byte ≡ decoding.At p
          → unless_returned last.state last.returned byte ≡ state.Refused q → IsRefusedBy q m
      refuses q p o u = (
        reason_at n q,
        n,
        run_on (m + 1) (reason_at n q) n (ap (λ x. run (Going start 0) x) one_more
            ∙ run_append (Going start 0) (take m bytes) (byte ∷ [])
            ∙ ap (λ x. run x (byte ∷ [])) runs ∙ run_one last n byte [] ∙ run_none (counted n (turned last byte))
            ∙ ap (λ d. counted n (turned_from last byte d)) o ∙ ap (λ s. counted n (turned_by s p byte)) u),
        inr (counted_all, told_number n q),
      )

      -- the byte ends no character in a wrong way
      passes : (more : List ℕ) → IsOfCharacters (take (m + 1) bytes ++ more) → (p : Octet) × (octet_after last.octet byte ≡ decoding.At p)
      passes more c = by (octet_after last.octet byte) refl
        where
          whole : octets (octet_after last.octet byte) more ≡ decoding.At Between
          whole = sym (octets_append (take m bytes) (byte ∷ more) Between last.octet (reached_before (take m bytes) last n runs).0)
              ∙ ap (λ x. octets (decoding.At Between) x)
              (sym (ap (λ x. x ++ more) one_more ∙ append_assoc (take m bytes) (byte ∷ []) more))
              ∙ legal_octets (take (m + 1) bytes ++ more) c

          clash : (x : Reason) → decoding.Broken x ≡ decoding.At Between → ⊥
          clash x e = cc

          by : (d : Decoding) → octet_after last.octet byte ≡ d → (p : Octet) × (octet_after last.octet byte ≡ decoding.At p)
          by (decoding.Broken x) e =
              absurd (clash x (sym (broken_stays x more) ∙ ap (λ d. octets d more) (sym e) ∙ whole))
          by (decoding.At p) e = (p, e)

      -- the rest of a document that begins so
      rest_lines : (d : Document) (more : List ℕ) → lines false (take (m + 1) bytes ++ more) ≡ written_document d
          → lines false (take m bytes) ++ lines last.returned (byte ∷ more) ≡ written_document d
      rest_lines d more w = sym (lines_on (take m bytes) start 0 last n (byte ∷ more) runs)
          ∙ ap (λ x. lines false x) (sym (ap (λ x. x ++ more) one_more ∙ append_assoc (take m bytes) (byte ∷ []) more)) ∙ w

      ends_line : (last.returned && byte == 10) ≡ true → EndsLine bytes m
      ends_line e = ap (λ x. lines false x) one_more ∙ lines_on (take m bytes) start 0 last n (byte ∷ []) runs
          ∙ ap (λ x. lines false (take m bytes) ++ x) (no_line last.returned byte e) ∙ append-nil (lines false (take m bytes))

      state_refuses : (q : Reason) (more l : List ℕ) → found.stop last.state l ≡ stops q l → l ≡ lines last.returned (byte ∷ more)
          → (EndsLine bytes m → ⊥) → unless_returned last.state last.returned byte ≡ state.Refused q
      state_refuses q more l s e own = by (last.returned && byte == 10) refl
        where
          at_once : (c : (b : ℕ) × (rest : List ℕ) × (l ≡ b ∷ rest) × (state_after last.state b ≡ state.Refused q))
              → (last.returned && byte == 10) ≡ false → state_after last.state (line_end byte) ≡ state.Refused q
          at_once c f = subst (λ x. state_after last.state x ≡ state.Refused q)
              (same_head c.0 (line_end byte) c.1 (lines (byte == 13) more)
              (sym c.2 ∙ e ∙ first_line last.returned byte more f)) c.3

          by : (x : Bool) → (last.returned && byte == 10) ≡ x → unless_returned last.state last.returned byte ≡ state.Refused q
          by true f = absurd (own (ends_line f))
          by false f = ap (λ x. cond x last.state (state_after last.state (line_end byte))) f ∙ at_once (first_refused l last.state q s) f

      at_stop : (q : Reason) (d : Document) (t : Standing) (l more : List ℕ) → IsDocument d
          → lines false (take (m + 1) bytes ++ more) ≡ written_document d → Contains (document_standings d) t → IsCauseAt q t l
          → lines false (take m bytes) ++ l ≡ written_document d → found.stop last.state l ≡ stops q l
      at_stop q d t l more i w c k at = by (stops_by_then d i q t l c k)
        where
          never : (x y : ℕ) → x < y → y ≤ x → ⊥
          never x y a b = omega (arith, a, b)

          from_here : (r : Reason) (left : List ℕ) → found.stop (top mode.Begin) (written_document d) ≡ stops r left
              → found.stop last.state l ≡ stops r left
          from_here r left e = sym (over (lines false (take m bytes)) (top mode.Begin) last.state l leads is_going)
              ∙ ap (λ x. found.stop (top mode.Begin) x) at ∙ e

          by_order : (r : Reason) (left : List ℕ) → found.stop last.state l ≡ stops r left → IsBehind q l r left
              → found.stop last.state l ≡ stops q l
          by_order r left e (inl h) = absurd (never (length l) (length left) h (stop_short l last.state r left e))
          by_order r left e (inr h) = e ∙ ap (λ x. stops x left) (sym h.1) ∙ ap (λ x. stops q x) (sym h.0)

          by : ((r : Reason) × (left : List ℕ) × (found.stop (top mode.Begin) (written_document d) ≡ stops r left) × IsBehind q l r left)
              → found.stop last.state l ≡ stops q l
          by f = by_order f.0 f.1 (from_here f.0 f.1 f.2) f.3

      -- where all before the place is taken, it is refused at it
      refused_here : (q : Reason) (d : Document) (t : Standing) (l more : List ℕ) → IsWrittenAs (take (m + 1) bytes ++ more) d
          → Contains (document_standings d) t → IsCauseAt q t l → lines false (take m bytes) ++ l ≡ written_document d
          → (EndsLine bytes m → ⊥) → IsRefusedBy q m
      refused_here q d t l more w c k at own =
          let p = passes more w.0 in
          refuses q p.0 p.1 (state_refuses q more l (at_stop q d t l more w.1 w.2 c k at)
          (same_behind (lines false (take m bytes)) l (lines last.returned (byte ∷ more)) (at ∙ sym (rest_lines d more w.2))) own)

    -- a start tag that is a cause at the place
    pub tag_refused : (q : Reason) (d : Document) (t : Standing) (l more : List ℕ) → IsWrittenAs (take (m + 1) bytes ++ more) d
        → Contains (document_standings d) t → IsCauseAt q t l → lines false (take m bytes) ++ l ≡ written_document d
        → (EndsLine bytes m → ⊥) → IsRefusedBy q m
    tag_refused q d t l more w c k at own = by (run (Going start 0) (take m bytes)) refl
      where
        by : (x : Reading) → run (Going start 0) (take m bytes) ≡ x → IsRefusedBy q m
        by (Refused r n) e = refused_before q r n e
        by (Going last n) e = refused_here last n e q d t l more w c k at own

-- ---- a tag's own bytes

-- what is refused for a tag is a byte of it
pub owned : (bytes : List ℕ) (r : Reason) (n : ℕ) → IsOfTags r → xml_answer bytes ≡ Err (fault.At r n) → EndsLine bytes n → ⊥
owned bytes r n w e ends = of_stop (stop bytes r n (refused_by (run (Going start 0) bytes) r n w e))
  where
    nothing_more : (x : ℕ) (xs ys : List ℕ) → xs ++ x ∷ ys ≡ xs → ⊥
    nothing_more x xs ys e = clash (same_behind xs (x ∷ ys) [] (e ∙ sym (append-nil xs)))
      where
        clash : x ∷ ys ≡ [] → ⊥
        clash e = cc

    of_going : (s : State) → IsGoing s → s ≡ state.Refused r → ⊥
    of_going s g e = subst IsGoing e g

    of_byte : (last : Scan) (b : ℕ) → run (Going start 0) (take n bytes) ≡ Going last n → take (n + 1) bytes ≡ take n bytes ++ b ∷ []
        → unless_returned last.state last.returned b ≡ state.Refused r → (q : Bool) → (last.returned && b == 10) ≡ q → ⊥
    of_byte last b run_to one u true f =
        of_going last.state (going (take n bytes) start 0 last n tt run_to)
        (sym (ap (λ x. cond x last.state (state_after last.state (line_end b))) f) ∙ u)
    of_byte last b run_to one u false f = nothing_more (line_end b) (lines false (take n bytes)) (lines (b == 13) [])
        (ap (λ x. lines false (take n bytes) ++ x) (sym (first_line last.returned b [] f))
        ∙ sym (lines_on (take n bytes) start 0 last n (b ∷ []) run_to) ∙ ap (λ x. lines false x) (sym one) ∙ ends)

    of_why : (last : Scan) (b : ℕ) → run (Going start 0) (take n bytes) ≡ Going last n → take (n + 1) bytes ≡ take n bytes ++ b ∷ []
        → IsWhy last b r → ⊥
    of_why last b run_to one (inl f) = no_octets r w (subst (λ d. IsOfOctets d) f (of_octets last.octet b))
    of_why last b run_to one (inr f) = of_byte last b run_to one f.2 (last.returned && b == 10) refl

    of_stop : IsStop bytes r n → ⊥
    of_stop i = of_why i.1 i.3 i.2 i.4 (why i.1 i.3 n r (kept_of r w) i.5)

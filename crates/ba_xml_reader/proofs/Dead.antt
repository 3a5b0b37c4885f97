-- Where the machine refuses bytes by what is written, no bytes continue them.
use Rattle.std.proofs.Common.{◌≡◌, ℕ, zero, suc, ◌+◌, ◌≤◌, Bool, true, false, cond, ◌==◌, nat_lt, ◌⊎◌, inl, inr, Option, Some, None, Result}
use Rattle.std.proofs.Common.{Ok, Err, List, [], ◌∷◌, ◌++◌, take, refl, sym, ap, ◌∙◌, subst, arith}
use Rattle.ba_tree.specs.declared.trees.Tree.{Tree}
use Rattle.ba_xml_reader.proofs.CompleteCharacters.{octets}
use Rattle.ba_xml_reader.proofs.Complete.{complete, legal_octets}
use Rattle.ba_xml_reader.proofs.CompleteDocuments.{outside}
use Rattle.ba_xml_reader.proofs.CompleteFronts.{IsLimit, Limited, document_or}
use Rattle.ba_xml_reader.proofs.CompleteLayers.{stays, run_none, run_one, line_step, scanned}
use Rattle.ba_xml_reader.proofs.CompleteSteps.{steps}
use Rattle.ba_xml_reader.specs.inside.Machine.{document, run, start, unless_returned, turned, turned_by, turned_from, counted, reason_at}
use Rattle.ba_xml_reader.specs.inside.Machine.{reason_past, reading_after, answer_by, answer_of, finished, xml_answer}
use Rattle.ba_xml_words.specs.inside.Octets.{octet_after}
use Rattle.ba_tree.specs.declared.trees.Content.{Content}
use Rattle.ba_xml_names.specs.Namespaces.{first_scope}
use Rattle.ba_xml_grammar.specs.Grammar.{written_document, meaning}
use Rattle.ba_xml_grammar.specs.GrammarTexts.{lines, IsWellFormed, IsXmlText, CanContinue}
use Rattle.ba_xml_words.specs.declared.faults.Reason.{Reason}
use Rattle.ba_xml_words.specs.declared.faults.Reason.TheVariants as reason
use Rattle.ba_xml_words.specs.declared.faults.XmlFault.{XmlFault}
use Rattle.ba_xml_words.specs.declared.faults.XmlFault.TheVariants as fault
use Rattle.ba_xml_reader.specs.declared.machine.Scan.{Scan}
use Rattle.ba_xml_reader.specs.inside.Turns.{Turn}
use Rattle.ba_xml_reader.specs.inside.Turns as turn
use Rattle.ba_xml_reader.specs.inside.Readings.{Reading}
use Rattle.ba_xml_reader.specs.inside.Readings as reading
use Rattle.ba_xml_words.specs.declared.octets.Octet.{Octet}
use Rattle.ba_xml_words.specs.declared.octets.Octet.TheVariants.{Between}
use Rattle.ba_xml_words.specs.declared.octets.Decoding.{Decoding}
use Rattle.ba_xml_words.specs.declared.octets.Decoding.TheVariants as decoding
use Rattle.ba_xml_reader.specs.declared.states.Mode.TheVariants as mode
use Rattle.ba_xml_reader.specs.declared.states.State.{State}
use Rattle.ba_xml_reader.specs.declared.states.State.TheVariants as state

-- ---- what follows at once: a text has one tree, and what is refused is no text

ok_same : (tree other : Tree) → (let r : Result Tree XmlFault = Ok tree in r) ≡ Ok other → tree ≡ other
ok_same tree other e = cc

pub one_tree : (bytes : List ℕ) (tree other : Tree) → IsXmlText bytes tree → IsXmlText bytes other → tree ≡ other
one_tree bytes tree other x y = ok_same tree other (sym (complete bytes tree x) ∙ complete bytes other y)

pub refused_none : (bytes : List ℕ) (tree : Tree) (f : XmlFault) → xml_answer bytes ≡ Err f → IsXmlText bytes tree → ⊥
refused_none bytes tree f e x = clash (sym (complete bytes tree x) ∙ e)
  where
    clash : (let r : Result Tree XmlFault = Ok tree in r) ≡ Err f → ⊥
    clash e = cc

-- ---- readings

pub run_refused : (r : Reason) (n : ℕ) (bs : List ℕ) → run (reading.Refused r n) bs ≡ reading.Refused r n
unfolding run reading_after
run_refused r n [] = refl
run_refused r n (b ∷ bs) = run_refused r n bs

abbrev reason_in : Reading → Reason
reason_in (reading.Refused r n) = r
reason_in (reading.Going scan n) = reason.Size

abbrev place_in : Reading → ℕ
place_in (reading.Refused r n) = n
place_in (reading.Going scan n) = n

-- a refusal is refused here, or the reading goes on
abbrev Counted : ℕ → Turn → Type 0
Counted taken t = ((r : Reason) × (counted taken t ≡ reading.Refused r taken))
    ⊎ ((scan : Scan) × (counted taken t ≡ reading.Going scan (taken + 1)))

counted_either : (taken : ℕ) (t : Turn) → Counted taken t
counted_either taken (turn.Refused r) = inl (reason_at taken r, refl)
counted_either taken (turn.On scan) = by (nat_lt taken 262144) refl
  where
    by : (q : Bool) → nat_lt taken 262144 ≡ q → Counted taken (turn.On scan)
    by true e = inr (scan, ap (λ q. cond q (reading.Going scan (taken + 1)) (reading.Refused reason.Size taken)) e)
    by false e = inl (reason.Size, ap (λ q. cond q (reading.Going scan (taken + 1)) (reading.Refused reason.Size taken)) e)

going_refused : (scan : Scan) (taken n : ℕ) (r : Reason) → reading.Going scan taken ≡ reading.Refused r n → ⊥
going_refused scan taken n r e = cc

-- ---- a front that can be continued is refused by prefixes and size alone

abbrev Fair : State → List ℕ → Type 0
Fair s bs = (r : Reason) → steps s bs ≡ state.Refused r → IsLimit r

limit_past : (r : Reason) → IsLimit r → IsLimit (reason_past r)
limit_past reason.Attributes l = tt
limit_past reason.NotUtf8 l = l
limit_past reason.Syntax l = l
limit_past reason.Truncated l = l
limit_past reason.Namespace l = l
limit_past reason.Depth l = l
limit_past reason.Size l = l

limit_at : (taken : ℕ) (r : Reason) → IsLimit r → IsLimit (reason_at taken r)
limit_at taken r l = by (nat_lt taken 262144)
  where
    by : (q : Bool) → IsLimit (cond q r (reason_past r))
    by true = l
    by false = limit_past r l

abbrev Spared : List ℕ → List ℕ → Type 0
Spared more front = (s : State) (o : Octet) (returned : Bool) (taken : ℕ) (last : Octet)
    → octets (decoding.At o) (front ++ more) ≡ decoding.At last → Fair s (lines returned (front ++ more))
    → (r : Reason) (n : ℕ) → run (reading.Going (scanned s o returned) taken) front ≡ reading.Refused r n → IsLimit r

spared_end : (more : List ℕ) → Spared more []
spared_end more s o returned taken last e f r n g =
    absurd (going_refused (scanned s o returned) taken n r (sym (run_none (reading.Going (scanned s o returned) taken)) ∙ g))

same_reason : (r : Reason) (taken : ℕ) (bs : List ℕ) (q : Reason) (n : ℕ) → run (reading.Refused r taken) bs ≡ reading.Refused q n → r ≡ q
same_reason r taken bs q n e = ap reason_in (sym (run_refused r taken bs) ∙ e)

by_state : (more : List ℕ) (b : ℕ) (bs : List ℕ) → Spared more bs → (s : State) (o : Octet) (taken : ℕ) (last : Octet)
    → octets (decoding.At o) (bs ++ more) ≡ decoding.At last
    → Fair s (lines (b == 13) (bs ++ more)) → (r : Reason) (n : ℕ)
    → run (counted taken (turned_by s o b)) bs ≡ reading.Refused r n → IsLimit r
by_state more b bs ih (state.Refused x) o taken last e f r n g =
    subst IsLimit (same_reason (reason_at taken x) taken bs r n g) (limit_at taken x (f x (stays x (lines (b == 13) (bs ++ more)))))
by_state more b bs ih (state.At outer here m) o taken last e f r n g = by (nat_lt taken 262144) refl
  where
    by : (q : Bool) → nat_lt taken 262144 ≡ q → IsLimit r
    by true q = ih (state.At outer here m) o (b == 13) (taken + 1) last e f r n
        (ap (λ t. run (cond t (reading.Going (scanned (state.At outer here m) o (b == 13)) (taken + 1)) (reading.Refused reason.Size taken))
        bs) (sym q) ∙ g)
    by false q = subst IsLimit (same_reason reason.Size taken bs r n
        (ap (λ t. run (cond t (reading.Going (scanned (state.At outer here m) o (b == 13)) (taken + 1)) (reading.Refused reason.Size taken))
        bs) (sym q) ∙ g)) tt

by_octet : (more : List ℕ) (b : ℕ) (bs : List ℕ) → Spared more bs
    → (s : State) (o : Octet) (returned : Bool) (taken : ℕ) (last : Octet) (d : Decoding) → octet_after o b ≡ d
    → octets d (bs ++ more) ≡ decoding.At last
    → Fair s (lines returned (b ∷ (bs ++ more))) → (r : Reason) (n : ℕ)
    → run (counted taken (turned_from (scanned s o returned) b d)) bs ≡ reading.Refused r n → IsLimit r
by_octet more b bs ih s o returned taken last (decoding.Broken x) d e f r n g = absurd (clash (sym (broken (bs ++ more)) ∙ e))
  where
    broken : (bs : List ℕ) → octets (decoding.Broken x) bs ≡ decoding.Broken x
    broken [] = refl
    broken (b ∷ bs) = refl

    clash : decoding.Broken x ≡ decoding.At last → ⊥
    clash e = cc
by_octet more b bs ih s o returned taken last (decoding.At p) d e f r n g =
    by_state more b bs ih (unless_returned s returned b) p taken last e (λ x h. f x (line_step s returned b (bs ++ more) ∙ h)) r n g

spared : (more front : List ℕ) → Spared more front
spared more [] = spared_end more
spared more (b ∷ bs) = λ s o returned taken last e f r n g. by_octet more b bs (spared more bs) s o returned taken last (octet_after o b)
    refl e f r n (sym (run_one (scanned s o returned) taken b bs) ∙ g)

at_refused : (content : List Content) (r : Reason) → outside content ≡ state.Refused r → ⊥
at_refused content r e = cc

state_reason : (x r : Reason) → state.Refused x ≡ state.Refused r → x ≡ r
state_reason x r e = cc

fair_by : (bs : List ℕ) (content : List Content)
    → (steps (state.At [] document mode.Begin) bs ≡ outside content) ⊎ Limited (state.At [] document mode.Begin) bs
    → Fair (state.At [] document mode.Begin) bs
fair_by bs content (inl g) r e = absurd (at_refused content r (sym g ∙ e))
fair_by bs content (inr l) r e = subst IsLimit (state_reason l.0 r (sym l.1 ∙ e)) l.2

fair : (bytes : List ℕ) → IsWellFormed bytes → Fair (state.At [] document mode.Begin) (lines false bytes)
fair bytes w = subst (Fair (state.At [] document mode.Begin)) (sym w.1.2)
    (fair_by (written_document w.0) (meaning first_scope w.0.root) (document_or w.0 w.1.1))

pub front_spared : (front : List ℕ) → CanContinue front → (r : Reason) (n : ℕ)
    → run (reading.Going start 0) front ≡ reading.Refused r n → IsLimit r
front_spared front c r n g = spared c.0 front (state.At [] document mode.Begin) Between false 0 Between
    (legal_octets (front ++ c.0) c.1.1.0) (fair (front ++ c.0) c.1) r n g

-- ---- the front up to and with the byte at the place

least : (bs : List ℕ) (scan : Scan) (taken : ℕ) (r : Reason) (n : ℕ) → run (reading.Going scan taken) bs ≡ reading.Refused r n → taken ≤ n
least [] scan taken r n e = absurd (going_refused scan taken n r (sym (run_none (reading.Going scan taken)) ∙ e))
least (b ∷ bs) scan taken r n e = by (counted_either taken (turned scan b)) (sym (run_one scan taken b bs) ∙ e)
    (λ scan. least bs scan (taken + 1) r n)
  where
    by : Counted taken (turned scan b) → run (counted taken (turned scan b)) bs ≡ reading.Refused r n
        → ((scan : Scan) → run (reading.Going scan (taken + 1)) bs ≡ reading.Refused r n → taken + 1 ≤ n) → taken ≤ n
    by (inl c) g ih = of_same (ap place_in (sym (run_refused c.0 taken bs) ∙ ap (λ x. run x bs) (sym c.1) ∙ g))
      where
        of_same : taken ≡ n → taken ≤ n
        of_same s = omega (arith, s)
    by (inr c) g ih = of_more (ih c.0 (ap (λ x. run x bs) (sym c.1) ∙ g))
      where
        of_more : taken + 1 ≤ n → taken ≤ n
        of_more l = omega (arith, l)

abbrev Cuts : List ℕ → Type 0
Cuts bs = (scan : Scan) (taken : ℕ) (r : Reason) (n : ℕ) → run (reading.Going scan taken) bs ≡ reading.Refused r n → (k : ℕ)
    → n + 1 ≡ taken + k → run (reading.Going scan taken) (take k bs) ≡ reading.Refused r n

cut_one : (b : ℕ) (bs : List ℕ) → Cuts bs → Cuts (b ∷ bs)
cut_one b bs ih scan taken r n e zero s = absurd (none (least (b ∷ bs) scan taken r n e))
  where
    none : taken ≤ n → ⊥
    none l = omega (arith, l, s)
cut_one b bs ih scan taken r n e (suc k) s =
    run_one scan taken b (take k bs) ∙ by (counted_either taken (turned scan b)) (sym (run_one scan taken b bs) ∙ e)
  where
    by : Counted taken (turned scan b) → run (counted taken (turned scan b)) bs ≡ reading.Refused r n
        → run (counted taken (turned scan b)) (take k bs) ≡ reading.Refused r n
    by (inl c) g = ap (λ x. run x (take k bs)) c.1 ∙ run_refused c.0 taken (take k bs) ∙ sym (run_refused c.0 taken bs)
        ∙ ap (λ x. run x bs) (sym c.1) ∙ g
    by (inr c) g = ap (λ x. run x (take k bs)) c.1 ∙ ih c.0 (taken + 1) r n (ap (λ x. run x bs) (sym c.1) ∙ g) k counts
      where
        counts : n + 1 ≡ (taken + 1) + k
        counts = omega (arith, s)

cut : (bs : List ℕ) → Cuts bs
cut [] = λ scan taken r n e k s. absurd (going_refused scan taken n r (sym (run_none (reading.Going scan taken)) ∙ e))
cut (b ∷ bs) = cut_one b bs (cut bs)

-- ---- answers

-- reasons that are told of what is written
abbrev pub IsOfWriting : Reason → Type 0
IsOfWriting reason.NotUtf8 = Unit {0}
IsOfWriting reason.Syntax = Unit {0}
IsOfWriting reason.Truncated = ⊥
IsOfWriting reason.Namespace = ⊥
IsOfWriting reason.Depth = ⊥
IsOfWriting reason.Size = ⊥
IsOfWriting reason.Attributes = ⊥

not_both : (r : Reason) → IsOfWriting r → IsLimit r → ⊥
not_both reason.NotUtf8 w l = l
not_both reason.Syntax w l = l
not_both reason.Truncated w l = w
not_both reason.Namespace w l = w
not_both reason.Depth w l = w
not_both reason.Size w l = w
not_both reason.Attributes w l = w

abbrev Told : Reading → Reason → ℕ → Type 0
Told x r n = answer_of x ≡ Err (fault.At r n)

same_fault : (x r : Reason) (m n : ℕ) → (let a : Result Tree XmlFault = Err (fault.At x m) in a) ≡ Err (fault.At r n)
    → reading.Refused x m ≡ reading.Refused r n
same_fault x r m n e = cc

fault_reason : (x r : Reason) (m n : ℕ) → (let a : Result Tree XmlFault = Err (fault.At x m) in a) ≡ Err (fault.At r n) → x ≡ r
fault_reason x r m n e = cc

ok_fault : (tree : Tree) (r : Reason) (n : ℕ) → (let a : Result Tree XmlFault = Ok tree in a) ≡ Err (fault.At r n) → ⊥
ok_fault tree r n e = cc

by_tree : (taken : ℕ) (found : Option Tree) (r : Reason) (n : ℕ) → IsOfWriting r → answer_by taken found ≡ Err (fault.At r n) → ⊥
by_tree taken None r n w e = subst IsOfWriting (sym (fault_reason reason.Truncated r taken n e)) w
by_tree taken (Some tree) r n w e = ok_fault tree r n e

refused_by : (x : Reading) (r : Reason) (n : ℕ) → IsOfWriting r → Told x r n → x ≡ reading.Refused r n
refused_by (reading.Refused y m) r n w e = same_fault y r m n e
refused_by (reading.Going scan taken) r n w e = absurd (by_tree taken (finished scan) r n w e)

-- where the answer is that the bytes aren't UTF-8 or break the productions, no bytes continue the front up to and with
-- the byte at the place
pub dead : (bytes : List ℕ) (r : Reason) (n : ℕ) → IsOfWriting r → xml_answer bytes ≡ Err (fault.At r n)
    → CanContinue (take (n + 1) bytes) → ⊥
dead bytes r n w e c = not_both r w (front_spared (take (n + 1) bytes) c r n
    (cut bytes start 0 r n (refused_by (run (reading.Going start 0) bytes) r n w e) (n + 1) (omega arith)))
